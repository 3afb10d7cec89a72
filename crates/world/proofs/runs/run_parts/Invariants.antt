use Rattle.std.proofs.Common.{◌-◌}
use Rattle.world_model.specs.Rounds.{moves_in}
use Rattle.world.specs.WorldParts.{world_view, PartsKept}
use Rattle.world.proofs.RunLemmas.{Running}
use Rattle.world.proofs.runs.run_parts.Given as goal

abbrev pub invariant-rounds : goal.invariant-rounds
invariant-rounds l = record {
  kept : PartsKept l.parts;
  running : Running l.turns-inside.items.items (world_view l.fn.parts) (world_view l.parts);
}

abbrev pub decreases-rounds : goal.decreases-rounds
decreases-rounds l = l.parts.options.most_moves - moves_in l.parts.journal.items
