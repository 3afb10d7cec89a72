use Rattle.std.proofs.Common.{◌≡◌, take}
use Rattle.world_model.specs.Summary.{replayed_of}
use Rattle.world_summary.proofs.tables.final_tables.Given as goal

abbrev pub invariant-loop-number : goal.invariant-loop-number
invariant-loop-number l = l.tables ≡ take l.number (replayed_of l.node).tables
