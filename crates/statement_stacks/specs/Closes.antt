-- Closing what binds at least as tightly as a level.
use Rattle.std.specs.Prelude.{◌≡◌, ◌≤◌, ℕ, nat_lt, Bool, true, List, [], ◌∷◌, Option, None, Some, if◌then◌else◌}
use Rattle.row_types.specs.declared.table_schema.Schema.{Schema}
use Rattle.statement_grammar.specs.declared.frames.Frame.{Frame}
use Rattle.statement_grammar.specs.Machine.{Held as Operand_held, strength, frame_wants, frame_gives, filled, same_sort, close}
use Rattle.statement_operands.specs.Operands.{operands}
use Rattle.statement_operands.specs.declared.operands.Operand.{Operand}
use Rattle.statement_stacks.specs.Plugs.{plug}
use Rattle.statement_stacks.specs.declared.tops.Top.{Top}
use Rattle.statement_stacks.specs.declared.tops.Top.TheVariants as top
use Rattle.statement_stacks.specs.declared.closes.Held.{Held}
use Rattle.statement_stacks.specs.declared.closes.Closed.{Closed}
use Rattle.statement_stacks.specs.declared.closes.Next.{Next}
use Rattle.statement_stacks.specs.declared.closes.Next.TheVariants as next

abbrev pub held_of : Held → Operand_held Operand
held_of h = record { stack = h.stack; condition = h.condition; x = h.x }

abbrev pub closed_at : Schema → ℕ → Held → Option (Operand_held Operand)
closed_at schema k h = close (operands schema) k h.stack h.condition h.x

-- both are the same tree so far, and the same tree where all is closed
pub record IsAlike (schema : Schema) (a b : Held) : Type 0 where
  pub facts : plug a.stack a.x.facts ≡ plug b.stack b.x.facts
  pub whole : closed_at schema 1 a ≡ closed_at schema 1 b

pub record IsClosed (schema : Schema) (k : ℕ) (before : Held) (behind : Closed) : Type 0 where
  pub result : closed_at schema k before ≡ (if behind.done then Some (held_of behind.held) else None)
  pub alike : IsAlike schema before behind.held

-- the innermost frame with its operand
abbrev pub filled_once : Schema → List (Frame Operand) → Bool → Operand → Operand_held Operand
filled_once schema [] c x = record { stack = []; condition = c; x = x }
filled_once schema (f ∷ fs) c x = record { stack = fs; condition = frame_gives f; x = filled (operands schema) f x }

-- the innermost frame binds at least so tightly, and takes an operand of this sort
abbrev pub IsFillable : ℕ → List (Frame Operand) → Bool → Type 0
IsFillable k [] c = ⊥
IsFillable k (f ∷ fs) c = (k ≤ strength f) × (same_sort c (frame_wants f) ≡ true)

abbrev pub IsNext : Schema → ℕ → List (Frame Operand) → Bool → Operand → Next → Type 0
IsNext schema k fs c x next.Stop = close (operands schema) k fs c x ≡ Some (record { stack = fs; condition = c; x = x })
IsNext schema k fs c x next.Misfit = close (operands schema) k fs c x ≡ None
IsNext schema k fs c x next.Fill = IsFillable k fs c

abbrev pub next_at : Top → ℕ → Bool → Next
next_at (top.Binds strength wants) k c = if nat_lt strength k then next.Stop else if same_sort c wants then next.Fill else next.Misfit
next_at top.Bare k c = next.Stop
next_at top.Low k c = next.Stop
next_at (top.Opened takes) k c = next.Stop
