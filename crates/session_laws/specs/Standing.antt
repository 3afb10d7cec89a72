-- Where a session stands in its script and on its node.
use Rattle.std.specs.Prelude.{ℕ, ◌≡◌, ◌<◌, true, false, List, None, Some, length}
use Rattle.std.specs.List.{AllByRecursion}
use Rattle.ptc_statement.specs.declared.scripts.ScriptLine.{ScriptLine}
use Rattle.statement_log.specs.declared.origins.Origin.{Origin}
use Rattle.lock_table.specs.declared.wants.Owner.{Owner}
use Rattle.node_model.specs.declared.txns.Walk.{Walk}
use Rattle.node_model.specs.Txns.{txn_of}
use Rattle.node_model.specs.Node.{NodeView}
use Rattle.node_parts.specs.Views.{walk_of}
use Rattle.session.specs.declared.stages.Stage.TheVariants.{Between, Within}
use Rattle.session.specs.Sessions.{SessionView, new_session, RunFits}
use Rattle.session_laws.specs.OwnCalls.{Event, Course, after_events, is_own, EventFits, is_whole, LinesRise}

-- between transactions it has none on its node; within one, and while a statement is in progress, its script has a
-- next line
pub record Stands (session : SessionView) (node : NodeView) : Type 0 where
  pub between : session.stage ≡ Between → txn_of session.owner.0 node.txns ≡ None
  pub within : session.stage ≡ Within → session.next < length session.script
  pub walking : (walk : Walk) → walk_of session.owner.0 node.txns ≡ Some walk → session.next < length session.script

abbrev pub CourseStands : Course → Type 0
CourseStands course = Stands course.session course.node

-- whatever others do between its turns
abbrev pub SessionsStand : Type 0
SessionsStand =
    (retries : ℕ) (owner : Owner) (origin : Origin) (script : List ScriptLine) (node : NodeView) (events : List Event)
    → is_own origin origin ≡ true → is_whole false script ≡ true → LinesRise script → AllByRecursion (λ (line : ScriptLine). RunFits node.schemas line.step) script
    → txn_of owner.0 node.txns ≡ None → AllByRecursion (EventFits owner origin) events
    → CourseStands (after_events retries events (record { session = new_session owner origin script; node = node }))
