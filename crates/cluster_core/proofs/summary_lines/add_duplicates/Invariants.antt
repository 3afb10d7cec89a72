use Rattle.std.proofs.Common.{◌≡◌, ◌++◌, drop}
use Rattle.cluster_core.specs.Summary.{duplicates_by}
use Rattle.cluster_core.proofs.summary_lines.add_duplicates.Given as goal

abbrev pub invariant-loop-refusal : goal.invariant-loop-refusal
invariant-loop-refusal l =
    l.lines ++ duplicates_by l.session (drop l.refusal-index l.refused) ≡ l.initial.lines ++ duplicates_by l.session l.refused
