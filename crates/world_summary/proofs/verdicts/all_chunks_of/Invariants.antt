use Rattle.std.proofs.Common.{◌≡◌, drop}
use Rattle.world_model.specs.Verdicts.{all_chunks}
use Rattle.world_summary.proofs.verdicts.all_chunks_of.Given as goal

abbrev pub invariant-loop-entry : goal.invariant-loop-entry
invariant-loop-entry l = all_chunks l.chunks (drop l.entry-index l.entry-items) ≡ all_chunks l.initial.chunks l.entry-items
