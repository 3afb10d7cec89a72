-- A note that is taken away.
use Rattle.std.proofs.Common.{◌≡◌, ◌≢◌, ◌∙◌, ℕ, zero, suc, ◌+◌, ◌≤◌, ◌==◌, Bool, true, false, cond, List, [], ◌∷◌, ◌++◌, Option, None, Some, length, drop, refl, ap, sym, subst, arith}
use Rattle.std.specs.Prelude.{option_map}
use Rattle.std.specs.List.{slice_get, remove, AllByRecursion}
use Rattle.lock_table.specs.declared.wants.Owner.{Owner}
use Rattle.lock_table.proofs.HoldLemmas.{is_number, other_number}
use Rattle.node_model.specs.PutBack.{Noted}
use Rattle.node_parts.specs.declared.notes.Note.{Note}
use Rattle.node_parts.specs.Kept.{noted_as, notes_of, notes_on}

some_is : (a b : Note) → Some a ≡ Some b → a ≡ b
some_is a b e = cc

pub record NoteAt (notes : List Note) (place : ℕ) (owner : Owner) : Type 0 where
  pub note : Note
  pub is : slice_get notes place ≡ Some note
  pub own : note.owner ≡ owner

pub note_at : (notes : List Note) (place : ℕ) (owner : Owner) → option_map (λ (note : Note). note.owner) (slice_get notes place) ≡ Some owner → NoteAt notes place owner
note_at notes place owner found = at (slice_get notes place) refl found
  where
    at : (o : Option Note) → slice_get notes place ≡ o → option_map (λ (note : Note). note.owner) o ≡ Some owner → NoteAt notes place owner
    at None e f = absurd (let q : None ≡ Some owner = f in cc)
    at (Some note) e f = record { note = note; is = e; own = let q : Some note.owner ≡ Some owner = f in cc }

pub drop_here : (notes : List Note) (place : ℕ) (note : Note) → slice_get notes place ≡ Some note → drop place notes ≡ note ∷ drop (suc place) notes
drop_here [] place note is = absurd (let q : None ≡ Some note = is in cc)
drop_here (x ∷ notes) zero note is = ap (λ (n : Note). n ∷ notes) (some_is x note is)
drop_here (x ∷ notes) (suc place) note is = drop_here notes place note is

pub removed_own : (owner : ℕ) (notes : List Note) (place : ℕ) (note : Note) → slice_get notes place ≡ Some note → note.owner.0 ≡ owner → notes_of owner (drop (suc place) notes) ≡ []
    → notes_of owner notes ≡ notes_of owner (remove notes place) ++ noted_as note ∷ []
removed_own owner [] place note is own rest = absurd (let q : None ≡ Some note = is in cc)
removed_own owner (x ∷ notes) zero note is own rest =
    let same = some_is x note is in
    ap (λ (b : Bool). cond b (noted_as x ∷ notes_of owner notes) (notes_of owner notes)) (is_number x.owner.0 owner (ap (λ (n : Note). n.owner.0) same ∙ own))
    ∙ (λ i. noted_as (same i) ∷ rest i)
    ∙ ap (λ (ns : List Noted). ns ++ noted_as note ∷ []) (sym rest)
removed_own owner (x ∷ notes) (suc place) note is own rest = at (x.owner.0 == owner) (removed_own owner notes place note is own rest)
  where
    at : (b : Bool) → notes_of owner notes ≡ notes_of owner (remove notes place) ++ noted_as note ∷ []
        → cond b (noted_as x ∷ notes_of owner notes) (notes_of owner notes) ≡ cond b (noted_as x ∷ notes_of owner (remove notes place)) (notes_of owner (remove notes place)) ++ noted_as note ∷ []
    at true more = ap (λ (ns : List Noted). noted_as x ∷ ns) more
    at false more = more

pub removed_other : (owner : ℕ) (notes : List Note) (place : ℕ) (note : Note) → slice_get notes place ≡ Some note → note.owner.0 ≢ owner → notes_of owner (remove notes place) ≡ notes_of owner notes
removed_other owner [] place note is apart = absurd (let q : None ≡ Some note = is in cc)
removed_other owner (x ∷ notes) zero note is apart =
    sym (ap (λ (b : Bool). cond b (noted_as x ∷ notes_of owner notes) (notes_of owner notes)) (other_number x.owner.0 owner (λ e. apart (sym (ap (λ (n : Note). n.owner.0) (some_is x note is)) ∙ e))))
removed_other owner (x ∷ notes) (suc place) note is apart =
    ap (λ (ns : List Noted). cond (x.owner.0 == owner) (noted_as x ∷ ns) ns) (removed_other owner notes place note is apart)

pub removed_on : (table : ℕ) (notes : List Note) (place : ℕ) (note : Note) → slice_get notes place ≡ Some note → note.table ≡ table → notes_on table notes ≡ notes_on table (remove notes place) + 1
removed_on table [] place note is own = absurd (let q : None ≡ Some note = is in cc)
removed_on table (x ∷ notes) zero note is own =
    ap (λ (b : Bool). cond b (notes_on table notes + 1) (notes_on table notes)) (is_number x.table table (ap (λ (n : Note). n.table) (some_is x note is) ∙ own))
removed_on table (x ∷ notes) (suc place) note is own = at (x.table == table) (removed_on table notes place note is own)
  where
    at : (b : Bool) → notes_on table notes ≡ notes_on table (remove notes place) + 1
        → cond b (notes_on table notes + 1) (notes_on table notes) ≡ cond b (notes_on table (remove notes place) + 1) (notes_on table (remove notes place)) + 1
    at true more = omega (arith, more)
    at false more = more

pub removed_off : (table : ℕ) (notes : List Note) (place : ℕ) (note : Note) → slice_get notes place ≡ Some note → note.table ≢ table → notes_on table (remove notes place) ≡ notes_on table notes
removed_off table [] place note is apart = absurd (let q : None ≡ Some note = is in cc)
removed_off table (x ∷ notes) zero note is apart =
    sym (ap (λ (b : Bool). cond b (notes_on table notes + 1) (notes_on table notes)) (other_number x.table table (λ e. apart (sym (ap (λ (n : Note). n.table) (some_is x note is)) ∙ e))))
removed_off table (x ∷ notes) (suc place) note is apart =
    ap (λ (n : ℕ). cond (x.table == table) (n + 1) n) (removed_off table notes place note is apart)

pub removed_each : (P : Note → Type 0) (notes : List Note) (place : ℕ) → AllByRecursion P notes → AllByRecursion P (remove notes place)
removed_each P [] zero each = tt
removed_each P [] (suc place) each = tt
removed_each P (x ∷ notes) zero each = each.1
removed_each P (x ∷ notes) (suc place) each = (each.0, removed_each P notes place each.1)

pub each_at : (P : Note → Type 0) (notes : List Note) (place : ℕ) (note : Note) → AllByRecursion P notes → slice_get notes place ≡ Some note → P note
each_at P [] place note each is = absurd (let q : None ≡ Some note = is in cc)
each_at P (x ∷ notes) zero note each is = subst P (some_is x note is) each.0
each_at P (x ∷ notes) (suc place) note each is = each_at P notes place note each.1 is

pub removed_rest : (notes : List Note) (place : ℕ) (note : Note) → slice_get notes place ≡ Some note → drop place (remove notes place) ≡ drop (suc place) notes
removed_rest [] place note is = absurd (let q : None ≡ Some note = is in cc)
removed_rest (x ∷ notes) zero note is = refl
removed_rest (x ∷ notes) (suc place) note is = removed_rest notes place note is

pub removed_within : (notes : List Note) (place : ℕ) (note : Note) → slice_get notes place ≡ Some note → place ≤ length (remove notes place)
removed_within [] place note is = absurd (let q : None ≡ Some note = is in cc)
removed_within (x ∷ notes) zero note is = omega arith
removed_within (x ∷ notes) (suc place) note is = let m = removed_within notes place note is in omega (arith, m)
