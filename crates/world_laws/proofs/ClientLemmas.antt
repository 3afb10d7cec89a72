-- The statements that a session starts are clients'.
use Rattle.std.proofs.Common.{List, subst}
use Rattle.ptc_statement.specs.declared.scripts.ScriptLine.{ScriptLine}
use Rattle.ptc_statement.specs.declared.statements.Statement.{Statement}
use Rattle.ptc_statement.specs.Fits.{IsClients}
use Rattle.turn_laws.specs.TurnCalls.{RunsIn}
use Rattle.workload_laws.specs.Sound.{RunsClients}
use Rattle.world_laws.specs.Clients.{LinesOfClients}
use Rattle.world_laws.proofs.ListLemmas.{each_at}

pub runs_clients : (script : List ScriptLine) (statement : Statement) → LinesOfClients script → RunsIn script statement → IsClients statement
runs_clients script statement clients run =
    subst RunsClients run.runs (each_at (λ (line : ScriptLine). RunsClients line.step) script run.place run.line clients run.found)
