use Rattle.std.proofs.Common.{◌≡◌, ◌≤◌, ◌+◌, ◌++◌, length, vec_len, vec_capacity}
use Rattle.std.specs.List.{flat_map, AllByRecursion}
use Rattle.file_scripts.specs.Counting.{turns_of}
use Rattle.file_scripts.specs.Schedules.{FitsWord, items_in}
use Rattle.file_scripts.proofs.schedules.put_words.Given as goal

abbrev pub invariant-loop-word : goal.invariant-loop-word
invariant-loop-word l =
    (l.items.items ++ flat_map items_in l.rest ≡ l.initial.items.items ++ flat_map items_in l.words)
    × (vec_len l.items + turns_of l.rest ≤ vec_capacity l.items)
    × AllByRecursion FitsWord l.rest

abbrev pub decreases-loop-word : goal.decreases-loop-word
decreases-loop-word l = length l.rest
