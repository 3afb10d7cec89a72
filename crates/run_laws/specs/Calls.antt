-- What sessions wrote that have come to the end of their scripts.
use Rattle.std.specs.Prelude.{ℕ, ◌≡◌, ◌+◌, List, [], None, Some}
use Rattle.std.specs.List.{slice_get, AllByRecursion}
use Rattle.statement_log.specs.declared.entries.Entry.{Entry}
use Rattle.statement_log.specs.declared.origins.Origin.{Origin}
use Rattle.statement_log.specs.declared.origins.Origin.TheVariants.{Session, Local}
use Rattle.node_model.specs.Node.{NodeView}
use Rattle.session.specs.Sessions.{SessionView}
use Rattle.session_laws.specs.OwnCalls.{calls_from, own_entries}
use Rattle.world_model.specs.Worlds.{WorldView, ReplicaView}
use Rattle.world_model.specs.Ends.{unfinished_of}
use Rattle.run_laws.specs.Finished.{OfEachEnd}

-- the calls of its whole script, without those of the transactions that it abandoned and of the lines that were refused
abbrev pub all_calls : SessionView → List Entry
all_calls session = calls_from session.origin session.abandoned session.refused (record { number = 1; begun = None }) session.script

-- the entries of each session on this node, which are named by its number
abbrev pub WroteAllCalls : (ℕ → Origin) → NodeView → List SessionView → Type 0
WroteAllCalls origin node sessions =
    (place : ℕ) (session : SessionView) → slice_get sessions place ≡ Some session → own_entries (origin (place + 1)) node.history ≡ all_calls session

pub record AllWroteAllCalls (world : WorldView) : Type 0 where
  pub sessions : WroteAllCalls Session world.source world.sessions
  pub locals : AllByRecursion (λ (replica : ReplicaView). WroteAllCalls Local replica.node replica.locals) world.replicas

abbrev pub FinishedSessionsWroteAll : Type 0
FinishedSessionsWroteAll = OfEachEnd (λ (world : WorldView). unfinished_of world ≡ [] → AllWroteAllCalls world)
