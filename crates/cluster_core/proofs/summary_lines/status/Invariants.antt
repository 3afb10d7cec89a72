use Rattle.std.proofs.Common.{◌≡◌, drop}
use Rattle.std.specs.List.{list_any}
use Rattle.cluster_core.specs.Summary.{differs}
use Rattle.cluster_core.proofs.summary_lines.status.Given as goal

abbrev pub invariant-loop-line : goal.invariant-loop-line
invariant-loop-line l = list_any differs (drop l.line-index l.lines) ≡ list_any differs l.lines
