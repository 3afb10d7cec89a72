use Rattle.std.proofs.Common.{length}
use Rattle.world.specs.WorldParts.{world_view, PartsKept}
use Rattle.world.proofs.RoundLemmas.{Rounding}
use Rattle.world.proofs.rounds.play_round.Given as goal

abbrev pub invariant-loop-item : goal.invariant-loop-item
invariant-loop-item l = record {
  kept : PartsKept l.parts;
  rounding : Rounding l.moved l.rest (world_view l.fn.parts) (world_view l.parts);
}

abbrev pub decreases-loop-item : goal.decreases-loop-item
decreases-loop-item l = length l.rest
