-- What a turn gives, and how many moves there are.
use Rattle.std.specs.Prelude.{ℕ, ◌≡◌, ◌+◌, ◌-◌, ◌*◌, ◌<◌, ◌≤◌, Bool, true, false, cond, Option, List, [], ◌∷◌, length, None, is_some, unwrap_or}
use Rattle.std.specs.List.{AllByRecursion}
use Rattle.ptc_statement.specs.declared.scripts.Script.{Script}
use Rattle.history.specs.Replay.{applied_of}
use Rattle.cluster_core.specs.Node.{NodeView}
use Rattle.cluster_core.specs.Sessions.{SessionView}
use Rattle.cluster_core.specs.World.{WorldView, move, step, played}
use Rattle.workload_file.specs.declared.workload.Workload.{Workload}
use Rattle.workload_file.specs.declared.actors.Actor.{Actor}
use Rattle.workload_file.specs.declared.actors.Actor.TheVariants.{Session, Tool, Worker}
use Rattle.workload_file.specs.declared.schedule.Item.{Item}
use Rattle.workload_file.specs.declared.schedule.Item.TheVariants.{Turn}
use Rattle.cluster_core.specs.declared.actors.ToolPhase.{ToolPhase}
use Rattle.cluster_core.specs.declared.actors.ToolPhase.TheVariants.{Clear, Check, Master, Finished}

-- sessions and replicas are numbered from 1
abbrev pub IsNumbered : Actor → Type 0
IsNumbered (Session session) = 1 ≤ session
IsNumbered Tool = Unit {0}
IsNumbered (Worker replica worker) = 1 ≤ replica

abbrev pub ItemIsNumbered : Item → Type 0
ItemIsNumbered (Turn actor) = IsNumbered actor

-- a turn that may give a next state: whether it moved, and the state after it
pub record Takes {A : Type 0} (next : Option A) (moved : Bool) (old new : A) : Type 0 where
  pub did : moved ≡ is_some next
  pub state : new ≡ unwrap_or next old

-- how many entries the tool has still to log
abbrev pub entries_left : ℕ → ToolPhase → ℕ
entries_left tables (Clear table) = 3 * (tables - table - 1) + 3
entries_left tables (Check table) = 3 * (tables - table - 1) + 2
entries_left tables (Master table) = 3 * (tables - table - 1) + 1
entries_left tables Finished = 0

-- how many entries of a log of this length the replicas have still to apply
abbrev pub lags : ℕ → List NodeView → ℕ
lags end [] = 0
lags end (node ∷ nodes) = end - applied_of node.history + lags end nodes

-- how many lines the sessions have still to do
abbrev pub lines_left : List SessionView → ℕ
lines_left [] = 0
lines_left (view ∷ views) = length view.script - view.next + lines_left views

-- no more turns than these can move
abbrev pub turns_left : WorldView → ℕ
turns_left w =
    (length w.replicas + 1) * (entries_left (length w.source.schemas) w.phase + lines_left w.sessions)
    + lags (length w.source.history) w.replicas

-- an item was played: whether it moved, and the world after it
pub record Plays (item : Item) (moved : Bool) (old new : WorldView) : Type 0 where
  pub did : moved ≡ is_some (move item old)
  pub state : new ≡ step item old

-- these turns were taken behind the schedule; where none moved, none could, and else fewer turns are
-- left
pub record TookTurns (old now : WorldView) (items : List Item) (moved : Bool) : Type 0 where
  pub reached : now ≡ played items old
  pub behind : now.unplayed ≡ []
  pub still : moved ≡ false → (now ≡ old) × AllByRecursion (λ item. move item old ≡ None) items
  pub nearer : moved ≡ true → turns_left now < turns_left old

-- how many of these items move something, played one after the other
abbrev pub moves_of : List Item → WorldView → ℕ
moves_of [] w = 0
moves_of (item ∷ items) w = cond (is_some (move item w)) 1 0 + moves_of items (step item w)

abbrev pub lines_of : List Script → ℕ
lines_of [] = 0
lines_of (script ∷ scripts) = length script.lines + lines_of scripts

-- each line of a script moves once, and the tool three times for each table; each replica applies
-- what they logged
abbrev pub most_moves : Workload → ℕ
most_moves w = (w.replicas + 1) * (3 * length w.schemas.tables + lines_of w.sessions)
