-- Closing frame by frame.
use Rattle.std.proofs.Common.{◌≡◌, ℕ, ◌≤◌, ◌<◌, Bool, true, false, List, [], ◌∷◌, length, refl, sym, ap, ◌∙◌, arith, nat_lt}
use Rattle.std.specs.Prelude.{if◌then◌else◌}
use Rattle.std.proofs.lemmas.Bool.Decides.{nat_tests}
use Rattle.row_types.specs.declared.table_schema.Schema.{Schema}
use Rattle.statement_grammar.specs.declared.frames.Frame.{Frame}
use Rattle.statement_grammar.specs.declared.frames.Frame.TheVariants.{Before, Behind, Low, High, Opened}
use Rattle.statement_grammar.specs.Machine.{Held as Operand_held, strength, frame_wants, same_sort, close}
use Rattle.statement_operands.specs.Operands.{operands}
use Rattle.statement_operands.specs.declared.operands.Operand.{Operand}
use Rattle.statement_stacks.specs.Tops.{top_of}
use Rattle.statement_stacks.specs.Plugs.{plug}
use Rattle.statement_stacks.specs.Closes.{held_of, closed_at, IsAlike, filled_once, IsFillable, IsNext, next_at}
use Rattle.statement_stacks.specs.declared.closes.Held.{Held}
use Rattle.statement_stacks.specs.declared.closes.Next.TheVariants as next

lt_no : (a b : ℕ) → nat_lt a b ≡ false → b ≤ a
lt_no a b h = grind (arith, nat_tests)

not_lt : (a b : ℕ) → b ≤ a → nat_lt a b ≡ false
not_lt a b h = grind (arith, nat_tests)

is_lt : (a b : ℕ) → a < b → nat_lt a b ≡ true
is_lt a b h = grind (arith, nat_tests)

binding : (schema : Schema) (k : ℕ) (f : Frame Operand) (fs : List (Frame Operand)) (c : Bool) (x : Operand)
    → IsNext schema k (f ∷ fs) c x (if nat_lt (strength f) k then next.Stop else if same_sort c (frame_wants f) then next.Fill else next.Misfit)
binding schema k f fs c x = elim (nat_lt (strength f) k) as (λ b. nat_lt (strength f) k ≡ b → IsNext schema k (f ∷ fs) c x (if b then next.Stop else if same_sort c (frame_wants f) then next.Fill else next.Misfit)) [
  | true ↦ λ e. rw e refl
  | false ↦ λ e. elim (same_sort c (frame_wants f)) as (λ s. same_sort c (frame_wants f) ≡ s → IsNext schema k (f ∷ fs) c x (if s then next.Fill else next.Misfit)) [
    | true ↦ λ d. (lt_no (strength f) k e, d)
    | false ↦ λ d. rw (e, d) refl
  ] refl
] refl

stops : (schema : Schema) (k : ℕ) (f : Frame Operand) (fs : List (Frame Operand)) (c : Bool) (x : Operand) → strength f ≡ 0 → 1 ≤ k → IsNext schema k (f ∷ fs) c x next.Stop
stops schema k f fs c x e l = let t : nat_lt (strength f) k ≡ true = is_lt (strength f) k (omega arith) in rw t refl

next_for : (schema : Schema) (k : ℕ) (fs : List (Frame Operand)) (c : Bool) (x : Operand) → 1 ≤ k → IsNext schema k fs c x (next_at (top_of fs) k c)
next_for schema k [] c x l = refl
next_for schema k (Before t ∷ fs) c x l = binding schema k (Before t) fs c x
next_for schema k (Behind y t ∷ fs) c x l = binding schema k (Behind y t) fs c x
next_for schema k (Low y t ∷ fs) c x l = stops schema k (Low y t) fs c x refl l
next_for schema k (High v b y a ∷ fs) c x l = binding schema k (High v b y a) fs c x
next_for schema k (Opened t b ∷ fs) c x l = stops schema k (Opened t b) fs c x refl l

pub next_is : (schema : Schema) (k : ℕ) (h : Held) → 1 ≤ k → IsNext schema k h.stack h.condition h.x (next_at (top_of h.stack) k h.condition)
next_is schema k h l = next_for schema k h.stack h.condition h.x l

fill_closes : (schema : Schema) (k j : ℕ) (fs : List (Frame Operand)) (c : Bool) (x : Operand) → j ≤ k → IsFillable k fs c
    → close (operands schema) j fs c x ≡ close (operands schema) j (filled_once schema fs c x).stack (filled_once schema fs c x).condition (filled_once schema fs c x).x
fill_closes schema k j [] c x l h = absurd h
fill_closes schema k j (f ∷ fs) c x l h =
    let o : k ≤ strength f = h.0 in
    let e : nat_lt (strength f) j ≡ false = not_lt (strength f) j (omega arith) in rw (e, h.1) refl

fill_plugs : (schema : Schema) (k : ℕ) (fs : List (Frame Operand)) (c : Bool) (x : Operand) → 1 ≤ k → IsFillable k fs c → plug fs x.facts ≡ plug (filled_once schema fs c x).stack (filled_once schema fs c x).x.facts
fill_plugs schema k [] c x l h = absurd h
fill_plugs schema k (Before t ∷ fs) c x l h = refl
fill_plugs schema k (Behind y t ∷ fs) c x l h = refl
fill_plugs schema k (Low y t ∷ fs) c x l h = let o : k ≤ 0 = h.0 in absurd (omega arith)
fill_plugs schema k (High v b y a ∷ fs) c x l h = refl
fill_plugs schema k (Opened t b ∷ fs) c x l h = let o : k ≤ 0 = h.0 in absurd (omega arith)

closed_too : (schema : Schema) (k : ℕ) (new : Held) (h : Operand_held Operand) → held_of new ≡ h → close (operands schema) k h.stack h.condition h.x ≡ closed_at schema k new
closed_too schema k new h e = ap (λ (o : Operand_held Operand). close (operands schema) k o.stack o.condition o.x) (sym e)

pub fill_keeps_result : (schema : Schema) (k : ℕ) (first old new : Held) → IsFillable k old.stack old.condition → held_of new ≡ filled_once schema old.stack old.condition old.x
    → closed_at schema k first ≡ closed_at schema k old → closed_at schema k first ≡ closed_at schema k new
fill_keeps_result schema k first old new f e h =
    h ∙ fill_closes schema k k old.stack old.condition old.x (omega arith) f ∙ closed_too schema k new (filled_once schema old.stack old.condition old.x) e

pub fill_keeps_tree : (schema : Schema) (k : ℕ) (first old new : Held) → 1 ≤ k → IsFillable k old.stack old.condition → held_of new ≡ filled_once schema old.stack old.condition old.x
    → IsAlike schema first old → IsAlike schema first new
fill_keeps_tree schema k first old new l f e h = record {
  facts = h.facts ∙ fill_plugs schema k old.stack old.condition old.x l f ∙ ap (λ (o : Operand_held Operand). plug o.stack o.x.facts) (sym e);
  whole = h.whole ∙ fill_closes schema k 1 old.stack old.condition old.x l f ∙ closed_too schema 1 new (filled_once schema old.stack old.condition old.x) e;
}

fewer : (schema : Schema) (k : ℕ) (fs : List (Frame Operand)) (c : Bool) (x : Operand) (h : Operand_held Operand) → IsFillable k fs c → h ≡ filled_once schema fs c x → length h.stack < length fs
fewer schema k [] c x h f e = absurd f
fewer schema k (g ∷ fs) c x h f e = let o : length h.stack ≡ length fs = ap (λ (y : Operand_held Operand). length y.stack) e in omega arith

pub fill_shortens : (schema : Schema) (k : ℕ) (old new : Held) → IsFillable k old.stack old.condition → held_of new ≡ filled_once schema old.stack old.condition old.x → length new.stack < length old.stack
fill_shortens schema k old new f e = fewer schema k old.stack old.condition old.x (held_of new) f e
