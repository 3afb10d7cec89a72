use Rattle.std.proofs.Common.{◌≡◌, take}
use Rattle.row_types.proofs.item_lists.Plain.all_same.Given as goal

abbrev pub invariant-loop-i : goal.invariant-loop-i
invariant-loop-i g l = take l.i l.ours ≡ take l.i l.theirs
