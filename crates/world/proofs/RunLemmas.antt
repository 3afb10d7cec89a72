-- A run to its end.
use Rattle.std.proofs.Common.{◌≡◌, ◌≤◌, ◌<◌, ◌∙◌, ℕ, zero, suc, ◌-◌, Bool, true, false, List, [], ◌∷◌, refl, ap, sym, subst, arith}
use Rattle.workload.specs.declared.schedule.Item.{Item}
use Rattle.world_model.specs.declared.options.RunOptions.{RunOptions}
use Rattle.world_model.specs.Worlds.{WorldView}
use Rattle.world_model.specs.Turns.{unplayed, stepped, played}
use Rattle.world_model.specs.Rounds.{order, round, rounds, behind_schedule, moves_in, IsBehindSchedule, IsStill, Reaches}
use Rattle.world_model.proofs.OrderLemmas.{rounds_have_one_order}
use Rattle.world_model.proofs.RoundLemmas.{schedule_behind, played_behind}
use Rattle.world.specs.declared.runs.RunFault.{RunFault}
use Rattle.world.specs.declared.runs.RunFault.TheVariants.{StepLimit, Memory}
use Rattle.world.specs.Plays.{IsCut, RoundTaken}
use Rattle.world.specs.Runs.{RunsTo, Explains}
use Rattle.world.proofs.StepLemmas.{step_options}
use Rattle.world.proofs.RoundLemmas.{reaches_more, played_moves}

played_options : (items : List Item) (world : WorldView) → (played items world).options ≡ world.options
played_options [] world = refl
played_options (item ∷ items) world = played_options items (stepped item world) ∙ step_options item world

pub reached_options : (first now : WorldView) → Reaches first now → now.options ≡ first.options
reached_options first now r = ap (λ (w : WorldView). w.options) r.reached ∙ played_options r.items first

rounds_more : (count : ℕ) (world : WorldView) → rounds (suc count) world ≡ round (rounds count world)
rounds_more zero world = refl
rounds_more (suc count) world = rounds_more count (round world)

pub record Running (turns : List Item) (first now : WorldView) : Type 0 where
  pub count : ℕ
  pub reached : now ≡ rounds count (behind_schedule first)
  pub turns_are : turns ≡ order now
  pub behind : IsBehindSchedule now
  pub reaches : Reaches first now
  pub few : moves_in now.journal ≤ now.options.most_moves

pub running_none : (turns : List Item) (first now : WorldView) → now ≡ behind_schedule first → turns ≡ order now → Reaches first now → moves_in now.journal ≤ now.options.most_moves
    → Running turns first now
running_none turns first now is are reaches few = record {
  count = 0;
  reached = is;
  turns_are = are;
  behind = subst IsBehindSchedule (sym is) (schedule_behind first);
  reaches = reaches;
  few = few;
}

pub running_more : (moved : Bool) (turns : List Item) (first now new : WorldView) → Running turns first now → RoundTaken moved now new → Reaches now new → moves_in new.journal ≤ new.options.most_moves
    → Running turns first new
running_more moved turns first now new r taken reaches few = record {
  count = suc r.count;
  reached = taken.played ∙ ap round r.reached ∙ sym (rounds_more r.count (behind_schedule first));
  turns_are = r.turns_are ∙ sym (rounds_have_one_order (order now) now) ∙ ap order (sym taken.played);
  behind = subst IsBehindSchedule (sym taken.played) (played_behind (order now) now r.behind);
  reaches = reaches_more first now new r.reaches reaches;
  few = few;
}

-- fewer moves are left
pub running_nearer : (most : ℕ) (now new : WorldView) → most ≡ new.options.most_moves → moves_in now.journal < moves_in new.journal → moves_in new.journal ≤ new.options.most_moves
    → most - moves_in new.journal < most - moves_in now.journal
running_nearer most now new is more few = omega (arith, is, more, few)

pub running_end : (turns : List Item) (first now new : WorldView) → Running turns first now → RoundTaken false now new → RunsTo first new
running_end turns first now new r taken = record {
  ends = record { count = r.count; reached = taken.moved_some.0 ∙ r.reached; still = subst IsStill (sym taken.moved_some.0) taken.moved_some.1 };
  behind = subst IsBehindSchedule (sym taken.moved_some.0) r.behind;
  few = few;
}
  where
    most : now.options.most_moves ≡ first.options.most_moves
    most = ap (λ (o : RunOptions). o.most_moves) (reached_options first now r.reaches)

    same : moves_in new.journal ≡ moves_in now.journal
    same = ap (λ (w : WorldView). moves_in w.journal) taken.moved_some.0

    few : moves_in new.journal ≤ first.options.most_moves
    few = omega (arith, same, most, r.few)

-- The step limit.

pub limit_at_once : (first : WorldView) (moves : ℕ) → moves ≡ first.options.most_moves → first.options.most_moves < moves_in first.journal → Explains first (StepLimit moves)
limit_at_once first moves is over =
    let more : moves_in first.journal ≤ moves_in (behind_schedule first).journal = played_moves (unplayed first) first in
    let less : first.options.most_moves < moves_in (behind_schedule first).journal = omega (arith, over, more) in
    (is, record { count = 0; moves = less })

pub schedule_cut : (first : WorldView) (fault : RunFault) → IsCut first (behind_schedule first) fault → Explains first fault
schedule_cut first (StepLimit moves) cut = (cut.0, record { count = 0; moves = cut.1 })
schedule_cut first Memory cut = tt

pub round_cut : (turns : List Item) (first now : WorldView) (fault : RunFault) → Running turns first now → IsCut now (round now) fault → Explains first fault
round_cut turns first now (StepLimit moves) r cut = (cut.0 ∙ most, record { count = suc r.count; moves = less })
  where
    most : now.options.most_moves ≡ first.options.most_moves
    most = ap (λ (o : RunOptions). o.most_moves) (reached_options first now r.reaches)

    there : moves_in (rounds (suc r.count) (behind_schedule first)).journal ≡ moves_in (round now).journal
    there = ap (λ (w : WorldView). moves_in w.journal) (rounds_more r.count (behind_schedule first) ∙ ap round (sym r.reached))

    less : first.options.most_moves < moves_in (rounds (suc r.count) (behind_schedule first)).journal
    less = omega (arith, most, there, cut.1)
round_cut turns first now Memory r cut = tt

-- Whether a round moved somebody.

pub still_round : (moved : Bool) (now new : WorldView) → RoundTaken moved now new → moved ≡ false → RoundTaken false now new
still_round true now new taken is = absurd (cc)
still_round false now new taken is = taken

pub moving_round : (moved : Bool) (now new : WorldView) → RoundTaken moved now new → moved ≡ true → moves_in now.journal < moves_in new.journal
moving_round true now new taken is = taken.moved_some
moving_round false now new taken is = absurd (cc)
