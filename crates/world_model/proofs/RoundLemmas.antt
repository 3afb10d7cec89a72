-- Rounds behind the schedule: those in which nobody can move change nothing, so that a run has one end.
use Rattle.std.proofs.Common.{◌≡◌, ◌∙◌, ℕ, zero, suc, ◌+◌, ◌-◌, ◌≤◌, ◌<◌, ◌||◌, Bool, true, false, List, [], ◌∷◌, ◌++◌, length, refl, ap, sym, subst, arith, length-append}
use Rattle.std.specs.Prelude.{nat_lt}
use Rattle.std.specs.List.{AllByRecursion}
use Rattle.std.proofs.lemmas.List.{length-drop}
use Rattle.std.proofs.lemmas.Bool.Decides.{nat_tests}
use Rattle.workload.specs.declared.schedule.Item.{Item}
use Rattle.trace_text.specs.declared.notes.Note.{Note}
use Rattle.trace_text.specs.declared.lines.JournalLine.{JournalLine}
use Rattle.turn_notes.specs.Notes.{has_moved}
use Rattle.world_model.specs.Worlds.{WorldView}
use Rattle.world_model.specs.Turns.{move, unplayed, is_scheduled, is_written, line_of, written_if, stepped, played}
use Rattle.world_model.specs.Rounds.{order, round, rounds, IsBehindSchedule, IsStillAt, IsStill, behind_schedule}
use Rattle.world_model.specs.Laws.{StillRoundsChangeNothing, EachRunHasOneEnd}
use Rattle.world_model.proofs.StillLemmas.{still_item}
use Rattle.world_model.proofs.ReplayLemmas.{move_keeps}

less_not : (a b : ℕ) → b ≤ a → nat_lt a b ≡ false
less_not a b over = grind (arith, nat_tests)

not_scheduled : (world : WorldView) → IsBehindSchedule world → is_scheduled world ≡ false
not_scheduled world behind = less_not (length world.journal) (length world.schedule) behind

-- a still turn behind the schedule is not written
pub step_still : (item : Item) (world : WorldView) → IsBehindSchedule world → IsStillAt world item → stepped item world ≡ world
step_still item world behind still =
    ap (λ (b : Bool). written_if (b || has_moved (move item world).note) (line_of item (move item world).note) (move item world).world) (not_scheduled world behind)
    ∙ ap (λ (b : Bool). written_if b (line_of item (move item world).note) (move item world).world) still
    ∙ still_item item world still

items_still : (items : List Item) (world : WorldView) → IsBehindSchedule world → AllByRecursion (IsStillAt world) items → played items world ≡ world
items_still [] world behind still = refl
items_still (item ∷ items) world behind still = ap (played items) (step_still item world behind still.0) ∙ items_still items world behind still.1

pub still_rounds : StillRoundsChangeNothing
still_rounds world behind still = items_still (order world) world behind still

-- The journal grows.

written_more : (b : Bool) (line : JournalLine) (world : WorldView) → length world.journal ≤ length (written_if b line world).journal
written_more false line world = omega arith
written_more true line world =
    let more : length (world.journal ++ line ∷ []) ≡ length world.journal + 1 = length-append world.journal (line ∷ []) in
    omega (arith, more)

written_schedule : (b : Bool) (line : JournalLine) (world : WorldView) → (written_if b line world).schedule ≡ world.schedule
written_schedule false line world = refl
written_schedule true line world = refl

pub step_schedule : (item : Item) (world : WorldView) → (stepped item world).schedule ≡ world.schedule
step_schedule item world =
    written_schedule (is_written world (move item world).note) (line_of item (move item world).note) (move item world).world ∙ (move_keeps item world).schedule

pub step_journal : (item : Item) (world : WorldView) → length world.journal ≤ length (stepped item world).journal
step_journal item world =
    let more : length (move item world).world.journal ≤ length (stepped item world).journal =
    written_more (is_written world (move item world).note) (line_of item (move item world).note) (move item world).world in
    let same : length (move item world).world.journal ≡ length world.journal = ap length (move_keeps item world).journal in
    omega (arith, more, same)

pub step_behind : (item : Item) (world : WorldView) → IsBehindSchedule world → IsBehindSchedule (stepped item world)
step_behind item world behind =
    let same : length (stepped item world).schedule ≡ length world.schedule = ap length (step_schedule item world) in
    let more : length world.journal ≤ length (stepped item world).journal = step_journal item world in
    omega (arith, same, more, behind)

pub played_behind : (items : List Item) (world : WorldView) → IsBehindSchedule world → IsBehindSchedule (played items world)
played_behind [] world behind = behind
played_behind (item ∷ items) world behind = played_behind items (stepped item world) (step_behind item world behind)

pub rounds_behind : (count : ℕ) (world : WorldView) → IsBehindSchedule world → IsBehindSchedule (rounds count world)
rounds_behind zero world behind = behind
rounds_behind (suc count) world behind = rounds_behind count (round world) (played_behind (order world) world behind)

-- What is left of the schedule is played to its end.

written_true : (world : WorldView) (note : Note) → is_scheduled world ≡ true → is_written world note ≡ true
written_true world note is = ap (λ (b : Bool). b || has_moved note) is

less_is : (a b : ℕ) → a < b → nat_lt a b ≡ true
less_is a b over = grind (arith, nat_tests)

-- each item of the schedule has a line
pub step_counts : (item : Item) (world : WorldView) → length world.journal < length world.schedule → length (stepped item world).journal ≡ length world.journal + 1
step_counts item world left =
    ap (λ (b : Bool). length (written_if b (line_of item (move item world).note) (move item world).world).journal)
    (written_true world (move item world).note (less_is (length world.journal) (length world.schedule) left))
    ∙ length-append (move item world).world.journal (line_of item (move item world).note ∷ [])
    ∙ ap (λ (lines : List JournalLine). length lines + 1) (move_keeps item world).journal

played_counts : (items : List Item) (world : WorldView) → length world.journal + length items ≡ length world.schedule → IsBehindSchedule (played items world)
played_counts [] world all = omega (arith, all)
played_counts (item ∷ items) world all =
    let one : length (stepped item world).journal ≡ length world.journal + 1 = step_counts item world (omega (arith, all)) in
    let same : length (stepped item world).schedule ≡ length world.schedule = ap length (step_schedule item world) in
    played_counts items (stepped item world) (omega (arith, one, same, all))

is_less : (a b : ℕ) → nat_lt a b ≡ true → a < b
is_less a b is = grind (arith, nat_tests)

is_not_less : (a b : ℕ) → nat_lt a b ≡ false → b ≤ a
is_not_less a b is = grind (arith, nat_tests)

none_of_length : {A : Type 0} (xs : List A) → length xs ≡ 0 → xs ≡ []
none_of_length [] is = refl
none_of_length (x ∷ xs) is = absurd (omega (arith, is))

pub schedule_behind : (world : WorldView) → IsBehindSchedule (behind_schedule world)
schedule_behind world = at (nat_lt (length world.journal) (length world.schedule)) refl
  where
    left : length (unplayed world) ≡ length world.schedule - length world.journal
    left = length-drop (length world.journal) world.schedule

    at : (b : Bool) → nat_lt (length world.journal) (length world.schedule) ≡ b → IsBehindSchedule (behind_schedule world)
    at true is =
        let less : length world.journal < length world.schedule = is_less (length world.journal) (length world.schedule) is in
        played_counts (unplayed world) world (omega (arith, left, less))
    at false is =
        let over : length world.schedule ≤ length world.journal = is_not_less (length world.journal) (length world.schedule) is in
        let none : unplayed world ≡ [] = none_of_length (unplayed world) (omega (arith, left, over)) in
        subst (λ (items : List Item). IsBehindSchedule (played items world)) (sym none) over

-- The end.

pub rounds_still : (count : ℕ) (world : WorldView) → IsBehindSchedule world → IsStill world → rounds count world ≡ world
rounds_still zero world behind still = refl
rounds_still (suc count) world behind still = ap (rounds count) (still_rounds world behind still) ∙ rounds_still count world behind still

meet : (one other : ℕ) (world : WorldView) → IsBehindSchedule world → IsStill (rounds one world) → IsStill (rounds other world) → rounds one world ≡ rounds other world
meet zero other world behind still too = sym (rounds_still other world behind still)
meet (suc one) zero world behind still too = rounds_still (suc one) world behind too
meet (suc one) (suc other) world behind still too = meet one other (round world) (played_behind (order world) world behind) still too

pub each_run_has_one_end : EachRunHasOneEnd
each_run_has_one_end first last other ends too =
    ends.reached
    ∙ meet ends.count too.count (behind_schedule first) (schedule_behind first) (subst IsStill ends.reached ends.still) (subst IsStill too.reached too.still)
    ∙ sym too.reached
