use Rattle.std.proofs.Common.{◌≡◌, take, map}
use Rattle.test_builders.specs.Builders.{pair_of}
use Rattle.test_builders.proofs.row_builders.rows.Given as goal

abbrev pub invariant-loop-id : goal.invariant-loop-id
invariant-loop-id l = l.rows ≡ map pair_of (take l.id-index l.pairs)
