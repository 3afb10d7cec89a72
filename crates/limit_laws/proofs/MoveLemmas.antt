-- The moves of a journal become no fewer, and behind the end of a run no more.
use Rattle.std.proofs.Common.{◌≡◌, ℕ, zero, suc, ◌≤◌, ◌<◌, Bool, true, false, List, [], ◌∷◌, ◌++◌, ap, sym, subst, arith}
use Rattle.workload.specs.declared.schedule.Item.{Item}
use Rattle.trace_text.specs.declared.lines.JournalLine.{JournalLine}
use Rattle.world_model.specs.Worlds.{WorldView}
use Rattle.world_model.specs.Turns.{move, is_written, line_of, written_if, stepped, played}
use Rattle.world_model.specs.Rounds.{order, round, rounds, moves_in, IsBehindSchedule, IsStill, behind_schedule, EndsIn, Exceeds}
use Rattle.world_model.proofs.ReplayLemmas.{move_keeps}
use Rattle.world_model.proofs.RoundLemmas.{played_behind, schedule_behind, rounds_still}
use Rattle.limit_laws.specs.Limits.{MovesOnlyGrow, IsWithinLimit, RunsEndWithinOrExceed}

one_more : (lines : List JournalLine) (line : JournalLine) → moves_in lines ≤ moves_in (lines ++ line ∷ [])
one_more [] line = omega arith
one_more (first ∷ lines) line =
    let more : moves_in lines ≤ moves_in (lines ++ line ∷ []) = one_more lines line in
    omega (arith, more)

written_grows : (b : Bool) (line : JournalLine) (world : WorldView) → moves_in world.journal ≤ moves_in (written_if b line world).journal
written_grows false line world = omega arith
written_grows true line world = one_more world.journal line

step_grows : (item : Item) (world : WorldView) → moves_in world.journal ≤ moves_in (stepped item world).journal
step_grows item world =
    subst (λ (lines : List JournalLine). moves_in lines ≤ moves_in (stepped item world).journal) (move_keeps item world).journal
    (written_grows (is_written world (move item world).note) (line_of item (move item world).note) (move item world).world)

pub moves_only_grow : MovesOnlyGrow
moves_only_grow [] world = omega arith
moves_only_grow (item ∷ items) world =
    let one : moves_in world.journal ≤ moves_in (stepped item world).journal = step_grows item world in
    let more : moves_in (stepped item world).journal ≤ moves_in (played items (stepped item world)).journal = moves_only_grow items (stepped item world) in
    omega (arith, one, more)

rounds_grow : (count : ℕ) (world : WorldView) → moves_in world.journal ≤ moves_in (rounds count world).journal
rounds_grow zero world = omega arith
rounds_grow (suc count) world =
    let one : moves_in world.journal ≤ moves_in (round world).journal = moves_only_grow (order world) world in
    let more : moves_in (round world).journal ≤ moves_in (rounds count (round world)).journal = rounds_grow count (round world) in
    omega (arith, one, more)

-- no round makes more moves than the end has
none_beyond : (count last : ℕ) (world : WorldView) → IsBehindSchedule world → IsStill (rounds last world) → moves_in (rounds count world).journal ≤ moves_in (rounds last world).journal
none_beyond count zero world behind still =
    subst (λ (w : WorldView). moves_in w.journal ≤ moves_in world.journal) (sym (rounds_still count world behind still)) (omega arith)
none_beyond zero (suc last) world behind still = rounds_grow (suc last) world
none_beyond (suc count) (suc last) world behind still = none_beyond count last (round world) (played_behind (order world) world behind) still

at_end : (first last : WorldView) (ends : EndsIn first last) (over : Exceeds first) → first.options.most_moves < moves_in last.journal
at_end first last ends over =
    let start : WorldView = behind_schedule first in
    let most : moves_in (rounds over.count start).journal ≤ moves_in (rounds ends.count start).journal =
    none_beyond over.count ends.count start (schedule_behind first) (subst IsStill ends.reached ends.still) in
    let same : moves_in last.journal ≡ moves_in (rounds ends.count start).journal = ap (λ (w : WorldView). moves_in w.journal) ends.reached in
    let moves : first.options.most_moves < moves_in (rounds over.count start).journal = over.moves in
    omega (arith, most, same, moves)

over_by_end : (first last : WorldView) → EndsIn first last → first.options.most_moves < moves_in last.journal → Exceeds first
over_by_end first last ends more = record {
  count = ends.count;
  moves = subst (λ (w : WorldView). first.options.most_moves < moves_in w.journal) ends.reached more;
}

never : (first last : WorldView) → EndsIn first last → IsWithinLimit first last → Exceeds first → ⊥
never first last ends within over =
    let more : first.options.most_moves < moves_in last.journal = at_end first last ends over in
    absurd (omega (arith, within, more))

pub end_or_exceed : RunsEndWithinOrExceed
end_or_exceed first last ends = record {
  exact = (at_end first last ends, over_by_end first last ends);
  never_both = never first last ends;
}
