use Rattle.std.proofs.Common.{length}
use Rattle.line_items.proofs.ReadLemmas.{IsCounting}
use Rattle.line_items.proofs.part_places.part_place.Given as goal

abbrev pub invariant-loop-part : goal.invariant-loop-part
invariant-loop-part l = IsCounting l.fn.section l.line l.number l.place l.rest l.cutting l.left

abbrev pub decreases-loop-part : goal.decreases-loop-part
decreases-loop-part l = length l.rest
