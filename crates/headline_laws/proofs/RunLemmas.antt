-- What holds of each world holds of the one that a run ends in.
use Rattle.std.proofs.Common.{◌∙◌, ℕ, zero, suc, List, ◌++◌, refl, ap, sym, subst}
use Rattle.workload.specs.declared.schedule.Item.{Item}
use Rattle.workload.specs.declared.workloads.Workload.{Workload}
use Rattle.world_model.specs.declared.options.RunOptions.{RunOptions}
use Rattle.world_model.specs.CanRun.{CanRun}
use Rattle.world_model.specs.Worlds.{WorldView, begun}
use Rattle.world_model.specs.Turns.{unplayed, played}
use Rattle.world_model.specs.Rounds.{order, round, rounds, behind_schedule, EndsIn, Reaches}
use Rattle.world_model.proofs.ReplayLemmas.{played-append}
use Rattle.world_laws.specs.Clients.{AreClients}
use Rattle.world_laws.proofs.RunLemmas as world_laws
use Rattle.headline_laws.specs.Headline.{RunHolds, RunsHold}
use Rattle.headline_laws.proofs.BeginLemmas.{each_began, each_written}
use Rattle.headline_laws.proofs.LineLemmas.{each_compares}
use Rattle.headline_laws.proofs.EqualLemmas.{each_table_line_holds}
use Rattle.headline_laws.proofs.SameLemmas.{same_tables}

-- the rest of the schedule and rounds are items, too
rounds_reach : (count : ℕ) (first world : WorldView) → Reaches first world → Reaches first (rounds count world)
rounds_reach zero first world reaches = reaches
rounds_reach (suc count) first world reaches =
    rounds_reach count first (round world)
    (record {
      items = reaches.items ++ order world;
      reached = ap (played (order world)) reaches.reached ∙ sym (played-append reaches.items (order world) first);
    })

pub end_reached : (first last : WorldView) → EndsIn first last → Reaches first last
end_reached first last ends =
    subst (Reaches first) (sym ends.reached) (rounds_reach ends.count first (behind_schedule first) (record { items = unplayed first; reached = refl }))

pub each_world_holds : (options : RunOptions) (workload : Workload) (items : List Item) → CanRun options workload → AreClients workload → RunHolds options workload (played items (begun options workload))
each_world_holds options workload items can clients = record {
  began = each_began options workload items can clients;
  log = each_written options workload items can clients;
  follows = world_laws.each_follows options workload items can clients;
  verdicts = each_compares options workload items can clients;
  equals = each_table_line_holds options workload items can clients;
  same = same_tables options workload items can clients;
}

pub runs_hold : RunsHold
runs_hold options workload last can clients ends =
    let reaches : Reaches (begun options workload) last = end_reached (begun options workload) last ends in
    subst (RunHolds options workload) (sym reaches.reached) (each_world_holds options workload reaches.items can clients)
