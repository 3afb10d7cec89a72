-- Each session wrote its own calls.
use Rattle.std.specs.Prelude.{ℕ, ◌≡◌, ◌+◌, List, Some}
use Rattle.std.specs.List.{slice_get, AllByRecursion}
use Rattle.statement_log.specs.declared.origins.Origin.{Origin}
use Rattle.statement_log.specs.declared.origins.Origin.TheVariants.{Session, Local}
use Rattle.node_model.specs.Node.{NodeView}
use Rattle.session.specs.Sessions.{SessionView}
use Rattle.session_laws.specs.OwnCalls.{calls_of, own_entries}
use Rattle.world_model.specs.Worlds.{WorldView, ReplicaView}
use Rattle.world_laws.specs.InOrder.{OfEachOrderedWorld}

-- the entries of each session on this node, which are named by its number, are the calls of what it has behind it
abbrev pub WroteOwnCalls : (ℕ → Origin) → NodeView → List SessionView → Type 0
WroteOwnCalls origin node sessions =
    (place : ℕ) (session : SessionView) → slice_get sessions place ≡ Some session → own_entries (origin (place + 1)) node.history ≡ calls_of session

abbrev pub SessionsWriteOwnCalls : Type 0
SessionsWriteOwnCalls = OfEachOrderedWorld (λ (world : WorldView). WroteOwnCalls Session world.source world.sessions)

abbrev pub LocalsWriteOwnCalls : Type 0
LocalsWriteOwnCalls =
    OfEachOrderedWorld (λ (world : WorldView). AllByRecursion (λ (replica : ReplicaView). WroteOwnCalls Local replica.node replica.locals) world.replicas)
