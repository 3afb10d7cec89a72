-- What the report of a run says, for whatever workload, schedule and options.
use Rattle.std.specs.List.{AllByRecursion}
use Rattle.workload.specs.declared.workloads.Workload.{Workload}
use Rattle.world_model.specs.declared.options.RunOptions.{RunOptions}
use Rattle.world_model.specs.CanRun.{CanRun}
use Rattle.world_model.specs.Worlds.{WorldView, begun}
use Rattle.world_model.specs.Rounds.{EndsIn}
use Rattle.world_laws.specs.Clients.{AreClients}
use Rattle.world_laws.specs.Replicas.{FollowsSource}
use Rattle.headline_laws.specs.Lines.{VerdictLinesHold}
use Rattle.headline_laws.specs.Begins.{BeganFrom, LogHolds}
use Rattle.headline_laws.specs.Equals.{EqualLinesHold, SameTablesEqual}

-- what holds of the world of a run
pub record RunHolds (options : RunOptions) (workload : Workload) (world : WorldView) : Type 0 where
  -- it began from the workload
  pub began : BeganFrom options workload world
  -- each entry of the log is a session's or the checksum tool's, as its writer writes them, and each published checksum
  -- is the source's own
  pub log : LogHolds world
  -- each replica applied the log's entries in order, each once and with its statements, and nothing else happened there
  -- but transactions of its local sessions
  pub follows : AllByRecursion (FollowsSource world) world.replicas
  -- each verdict that is not PENDING compares the rows of its chunk on the source and the replica, at one position
  pub verdicts : VerdictLinesHold world
  -- each table of each replica has its line, which is EQUAL exactly where its rows are the source's
  pub equals : EqualLinesHold world
  -- and it is EQUAL where its verdicts cover all keys and are SAME for good
  pub same : SameTablesEqual world

abbrev pub RunsHold : Type 0
RunsHold =
    (options : RunOptions) (workload : Workload) (last : WorldView) → CanRun options workload → AreClients workload → EndsIn (begun options workload) last
    → RunHolds options workload last
