use Rattle.std.proofs.Common.{length}
use Rattle.world_model.specs.Turns.{unplayed}
use Rattle.world.specs.WorldParts.{world_view, PartsKept}
use Rattle.world.proofs.RoundLemmas.{Playing}
use Rattle.world.proofs.rounds.play_schedule.Given as goal

abbrev pub invariant-loop-item : goal.invariant-loop-item
invariant-loop-item l = record {
  kept : PartsKept l.parts;
  playing : Playing (world_view l.fn.parts) (world_view l.parts);
}

abbrev pub decreases-loop-item : goal.decreases-loop-item
decreases-loop-item l = length (unplayed (world_view l.parts))
