use Rattle.std.proofs.Common.{◌≡◌, drop}
use Rattle.cluster_core.specs.Summary.{all_chunks}
use Rattle.cluster_core.proofs.summary_lines.all_chunks_of.Given as goal

abbrev pub invariant-loop-entry : goal.invariant-loop-entry
invariant-loop-entry l = all_chunks l.chunks (drop l.entry-index l.entry-items) ≡ all_chunks l.initial.chunks l.entry-items
