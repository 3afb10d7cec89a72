-- Notes: one more, of which owner and on which table.
use Rattle.std.proofs.Common.{◌≡◌, ◌≢◌, ◌∙◌, ℕ, suc, ◌+◌, ◌≤◌, ◌==◌, Bool, true, false, cond, List, [], ◌∷◌, ◌++◌, length, refl, ap, arith}
use Rattle.std.specs.List.{AllByRecursion}
use Rattle.lock_table.proofs.HoldLemmas.{is_number, other_number}
use Rattle.node_model.specs.PutBack.{Noted}
use Rattle.node_parts.specs.declared.notes.Note.{Note}
use Rattle.node_parts.specs.Kept.{noted_as, notes_of, notes_on}

notes_more : (owner : ℕ) (notes : List Note) (note : Note) (b : Bool) → (note.owner.0 == owner) ≡ b
    → notes_of owner (notes ++ note ∷ []) ≡ notes_of owner notes ++ cond b (noted_as note ∷ []) []
notes_more owner [] note b e = ap (λ (x : Bool). cond x (noted_as note ∷ []) []) e
notes_more owner (first ∷ notes) note b e = at (first.owner.0 == owner) (notes_more owner notes note b e)
  where
    at : (x : Bool) → notes_of owner (notes ++ note ∷ []) ≡ notes_of owner notes ++ cond b (noted_as note ∷ []) []
        → cond x (noted_as first ∷ notes_of owner (notes ++ note ∷ [])) (notes_of owner (notes ++ note ∷ [])) ≡ cond x (noted_as first ∷ notes_of owner notes) (notes_of owner notes) ++ cond b (noted_as note ∷ []) []
    at true more = ap (λ (ns : List Noted). noted_as first ∷ ns) more
    at false more = more

pub notes_own : (owner : ℕ) (notes : List Note) (note : Note) → note.owner.0 ≡ owner → notes_of owner (notes ++ note ∷ []) ≡ notes_of owner notes ++ noted_as note ∷ []
notes_own owner notes note own = notes_more owner notes note true (is_number note.owner.0 owner own)

append_none : (xs : List Noted) → xs ++ [] ≡ xs
append_none [] = refl
append_none (x ∷ xs) = ap (λ (ys : List Noted). x ∷ ys) (append_none xs)

pub notes_other : (owner : ℕ) (notes : List Note) (note : Note) → note.owner.0 ≢ owner → notes_of owner (notes ++ note ∷ []) ≡ notes_of owner notes
notes_other owner notes note apart = notes_more owner notes note false (other_number note.owner.0 owner apart) ∙ append_none (notes_of owner notes)

on_more : (table : ℕ) (notes : List Note) (note : Note) (b : Bool) → (note.table == table) ≡ b → notes_on table (notes ++ note ∷ []) ≡ notes_on table notes + cond b 1 0
on_more table [] note true e = ap (λ (x : Bool). cond x 1 0) e
on_more table [] note false e = ap (λ (x : Bool). cond x 1 0) e
on_more table (first ∷ notes) note b e = at (first.table == table) (on_more table notes note b e)
  where
    at : (x : Bool) → notes_on table (notes ++ note ∷ []) ≡ notes_on table notes + cond b 1 0
        → cond x (notes_on table (notes ++ note ∷ []) + 1) (notes_on table (notes ++ note ∷ [])) ≡ cond x (notes_on table notes + 1) (notes_on table notes) + cond b 1 0
    at true more = omega (arith, more)
    at false more = more

pub on_other : (table : ℕ) (notes : List Note) (note : Note) → note.table ≢ table → notes_on table (notes ++ note ∷ []) ≡ notes_on table notes
on_other table notes note apart =
    let e = on_more table notes note false (other_number note.table table apart) in omega (arith, e)

pub on_most : (table : ℕ) (notes : List Note) → notes_on table notes ≤ length notes
on_most table [] = omega arith
on_most table (first ∷ notes) = at (first.table == table) (on_most table notes)
  where
    at : (x : Bool) → notes_on table notes ≤ length notes → cond x (notes_on table notes + 1) (notes_on table notes) ≤ suc (length notes)
    at true more = omega (arith, more)
    at false more = omega (arith, more)

pub each_last : (P : Note → Type 0) (notes : List Note) (note : Note) → AllByRecursion P notes → P note → AllByRecursion P (notes ++ note ∷ [])
each_last P [] note each one = (one, tt)
each_last P (first ∷ notes) note each one = (each.0, each_last P notes note each.1 one)
