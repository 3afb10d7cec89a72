use Rattle.std.proofs.Common.{◌≡◌, ◌≤◌, ◌+◌, length}
use Rattle.row_types.specs.declared.edges.Edge.TheVariants.{Low, High}
use Rattle.world_model.specs.Verdicts.{covers_from}
use Rattle.world_summary.proofs.covers.covers.Given as goal

abbrev pub invariant-loop-entry : goal.invariant-loop-entry
invariant-loop-entry l = record {
  left : covers_from l.table l.chunk l.reached l.rest ≡ covers_from l.table 1 Low l.checks;
  few : l.chunk + length l.rest ≤ 1 + length l.checks;
  last : l.high ≡ High;
}

abbrev pub decreases-loop-entry : goal.decreases-loop-entry
decreases-loop-entry l = length l.rest
