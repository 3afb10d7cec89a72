-- A visit, and the start of the next statement where it was done with the one before.
use Rattle.std.specs.Prelude.{ℕ, ◌≡◌, Option, None, Some}
use Rattle.ptc_statement.specs.declared.statements.Statement.{Statement}
use Rattle.ptc_statement.specs.Fits.{FitsSchemas}
use Rattle.lock_table.specs.declared.wants.Owner.{Owner}
use Rattle.node_model.specs.declared.txns.Walk.{Walk}
use Rattle.node_model.specs.Node.{NodeView, start_of}
use Rattle.node_model.specs.Calls.{Start, after_call}
use Rattle.node_visits.specs.declared.visits.Visit.{Visit}
use Rattle.node_visits.specs.declared.visits.Visit.TheVariants.{Stepped, Done, Duplicate, Waits, Deadlock}
use Rattle.node_parts.specs.Views.{IsIdle}

-- where a visit was done with its statement, the start of the next
abbrev pub next_started : Visit → Owner → Statement → NodeView → NodeView
next_started Stepped owner next node = node
next_started Done owner next node = after_call (Start owner next) node
next_started (Duplicate key) owner next node = node
next_started (Waits by) owner next node = node
next_started (Deadlock victim cycle) owner next node = node

abbrev pub next_walk : Visit → Walk → Option Walk
next_walk Stepped walk = None
next_walk Done walk = Some walk
next_walk (Duplicate key) walk = None
next_walk (Waits by) walk = None
next_walk (Deadlock victim cycle) walk = None

-- a walk that an owner can begin
pub record CanBegin (walk : Walk) (owner : ℕ) (node : NodeView) : Type 0 where
  pub idle : IsIdle owner node
  pub fits : FitsSchemas node.schemas walk.statement
  pub cursor : walk.cursor ≡ start_of node.schemas walk.statement

abbrev pub IsReady : Option Walk → ℕ → NodeView → Type 0
IsReady None owner node = Unit {0}
IsReady (Some walk) owner node = CanBegin walk owner node

abbrev pub with_next : Option Walk → Owner → NodeView → NodeView
with_next None owner node = node
with_next (Some walk) owner node = after_call (Start owner walk.statement) node
