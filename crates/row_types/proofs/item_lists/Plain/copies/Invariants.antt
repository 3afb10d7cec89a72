use Rattle.std.proofs.Common.{◌≡◌, take}
use Rattle.row_types.proofs.item_lists.Plain.copies.Given as goal

abbrev pub invariant-loop-item : goal.invariant-loop-item
invariant-loop-item g l = l.copies.items ≡ take l.item-index l.items
