-- Where a text may end.
use Rattle.std.proofs.Common.{◌≡◌, Bool, true, false, List, [], ◌∷◌, Option, Some, None, refl, ap, ◌∙◌}
use Rattle.std.specs.Prelude.{◌&&◌, if◌then◌else◌}
use Rattle.row_types.specs.declared.table_schema.Schema.{Schema}
use Rattle.statement_tokens.specs.declared.words.Token.{Token}
use Rattle.statement_grammar.specs.declared.frames.Frame.{Frame}
use Rattle.statement_grammar.specs.declared.frames.Frame.TheVariants.{Before, Behind, Low, High, Opened}
use Rattle.statement_grammar.specs.Machine as m
use Rattle.statement_grammar.specs.Machine.{same_sort}
use Rattle.statement_operands.specs.Operands.{operands}
use Rattle.statement_operands.specs.declared.operands.Operand.{Operand}
use Rattle.statement_stacks.specs.Tops.{top_of}
use Rattle.statement_stacks.specs.Closes.{held_of, IsClosed}
use Rattle.statement_stacks.specs.declared.closes.Held.{Held}
use Rattle.statement_stacks.specs.declared.closes.Closed.{Closed}
use Rattle.statement_states.specs.States.{closed_state}
use Rattle.statement_states.specs.Finishes.{none_open, is_bare, is_all, IsOpen, IsFinished}
use Rattle.statement_states.specs.declared.finishes.Finished.{Finished}
use Rattle.statement_states.specs.declared.finishes.Finished.TheVariants as f

same_is : (a b : Bool) → same_sort a b ≡ true → b ≡ a
same_is true true e = refl
same_is true false e = cc
same_is false true e = cc
same_is false false e = refl

abbrev held : List (Frame Operand) → Bool → Operand → Option (m.Held Operand)
held fs c x = Some (record { stack = fs; condition = c; x = x })

all_bare : (fs : List (Frame Operand)) (c base : Bool) (x : Operand) → is_all (top_of fs) c base ≡ true → held fs c x ≡ held [] base x
all_bare [] c base x e = ap (λ (b : Bool). held [] b x) (same_is base c e)
all_bare (Before t ∷ fs) c base x e = cc
all_bare (Behind l t ∷ fs) c base x e = cc
all_bare (Low v b ∷ fs) c base x e = cc
all_bare (High v b l a ∷ fs) c base x e = cc
all_bare (Opened o b ∷ fs) c base x e = cc

not_bare : (fs : List (Frame Operand)) (c base : Bool) → (none_open fs && same_sort base c) ≡ is_all (top_of fs) c base
not_bare [] c base = refl
not_bare (Before t ∷ fs) c base = refl
not_bare (Behind l t ∷ fs) c base = refl
not_bare (Low v b ∷ fs) c base = refl
not_bare (High v b l a ∷ fs) c base = refl
not_bare (Opened o b ∷ fs) c base = refl

parts : (a b : Bool) → (a && b) ≡ true → (a ≡ true) × (b ≡ true)
parts true b e = (refl, e)
parts false b e = cc

pub whole_finishes : (schema : Schema) (base : Bool) (h : Held) (k : Closed) → IsClosed schema 1 h k → (k.done && is_all (top_of k.held.stack) k.held.condition base) ≡ true
    → closed_state schema (m.Read (held_of h)) ≡ Some (record { stack = []; condition = base; x = k.held.x })
whole_finishes schema base h k c e =
    let p = parts k.done (is_all (top_of k.held.stack) k.held.condition base) e in
    c.result ∙ ap (λ (d : Bool). if d then Some (held_of k.held) else None) p.0 ∙ all_bare k.held.stack k.held.condition base k.held.x p.1

pub open_finishes : (schema : Schema) (base : Bool) (h : Held) (k : Closed) → IsClosed schema 1 h k → (k.done && is_all (top_of k.held.stack) k.held.condition base) ≡ false
    → IsOpen schema base (m.Read (held_of h)) (m.Read (held_of k.held))
open_finishes schema base h k c e = record {
  open_still = ap (is_bare base) c.result ∙ by_done k.done e;
  alike = record { facts = c.alike.facts; whole = c.alike.whole };
}
  where
    by_done : (d : Bool) → (d && is_all (top_of k.held.stack) k.held.condition base) ≡ false → is_bare base (if d then Some (held_of k.held) else None) ≡ false
    by_done true e = not_bare k.held.stack k.held.condition base ∙ e
    by_done false e = refl

pub lone_finishes : (schema : Schema) (base : Bool) (fs : List (Frame Operand)) (o a : Token) (finished : Finished)
    → IsFinished schema base (m.Read (m.lone_held (operands schema) fs o a)) finished → IsFinished schema base (m.Lone fs o a) finished
lone_finishes schema base fs o a (f.Whole x) e = e
lone_finishes schema base fs o a (f.Open state) e = record { open_still = e.open_still; alike = record { facts = e.alike.facts; whole = e.alike.whole } }
