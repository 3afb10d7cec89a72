-- What playing an item makes of a world, and what holds of it then.
use Rattle.std.proofs.Common.{◌≡◌, ◌∙◌, ℕ, ◌||◌, Bool, true, false, List, length, refl, ap, sym, subst}
use Rattle.std.specs.Prelude.{nat_lt}
use Rattle.workload.specs.declared.schedule.Item.{Item}
use Rattle.trace_text.specs.declared.notes.Note.{Note}
use Rattle.trace_text.specs.declared.lines.JournalLine.{JournalLine}
use Rattle.turn_notes.specs.Notes.{has_moved}
use Rattle.world_model.specs.Worlds.{WorldView}
use Rattle.world_model.specs.Turns.{Turned, move, is_written, line_of, written_if, stepped}
use Rattle.world_model.specs.Rounds.{items_in, moves_in}
use Rattle.world_model.specs.Good.{IsGood}
use Rattle.world_model.proofs.ReplayLemmas.{move_keeps, step_is_replay}
use Rattle.world_model.proofs.GoodLemmas.{each_world_fits}
use Rattle.world.specs.RunOf.{IsRun}
use Rattle.world.specs.WorldParts.{IsCounted}

pub run_is_good : (world : WorldView) → IsRun world → IsGood world
run_is_good world run = subst IsGood (sym run.replays) (each_world_fits world.options run.workload (items_in world.journal) run.can_run)

turned_note : (one other : Turned) → one ≡ other → one.note ≡ other.note
turned_note one other same = ap (λ (t : Turned). t.note) same

written_options : (b : Bool) (line : JournalLine) (world : WorldView) → (written_if b line world).options ≡ world.options
written_options true line world = refl
written_options false line world = refl

pub step_options : (item : Item) (world : WorldView) → (stepped item world).options ≡ world.options
step_options item world =
    written_options (is_written world (move item world).note) (line_of item (move item world).note) (move item world).world ∙ (move_keeps item world).options

same_written : (old mid : WorldView) (note : Note) → mid.journal ≡ old.journal → mid.schedule ≡ old.schedule → is_written mid note ≡ is_written old note
same_written old mid note journal schedule =
    ap (λ (lines : List JournalLine). nat_lt (length lines) (length mid.schedule) || has_moved note) journal
    ∙ ap (λ (items : List Item). nat_lt (length old.journal) (length items) || has_moved note) schedule

step_as : (item : Item) (old : WorldView) (note : Note) (mid new : WorldView) (turned : Turned) → turned ≡ move item old → note ≡ turned.note → mid ≡ turned.world
    → new ≡ written_if (is_written mid note) (line_of item note) mid → new ≡ stepped item old
step_as item old note mid new turned same is here written =
    let journal : mid.journal ≡ old.journal = ap (λ (w : WorldView). w.journal) here ∙ ap (λ (t : Turned). t.world.journal) same ∙ (move_keeps item old).journal in
    let schedule : mid.schedule ≡ old.schedule = ap (λ (w : WorldView). w.schedule) here ∙ ap (λ (t : Turned). t.world.schedule) same ∙ (move_keeps item old).schedule in
    written
    ∙ ap (λ (b : Bool). written_if b (line_of item note) mid) (same_written old mid note journal schedule)
    ∙ ap (λ (n : Note). written_if (is_written old n) (line_of item n) mid) (is ∙ ap (λ (t : Turned). t.note) same)
    ∙ ap (λ (w : WorldView). written_if (is_written old (move item old).note) (line_of item (move item old).note) w) (here ∙ ap (λ (t : Turned). t.world) same)

-- a move that is written is a step
pub step_is : (item : Item) (old : WorldView) (note : Note) (mid new : WorldView) → record { note = note; world = mid } ≡ move item old
    → new ≡ written_if (is_written mid note) (line_of item note) mid → new ≡ stepped item old
step_is item old note mid new same written = step_as item old note mid new (record { note = note; world = mid }) same refl refl written

pub note_is : (item : Item) (old : WorldView) (note : Note) (mid : WorldView) → record { note = note; world = mid } ≡ move item old → note ≡ (move item old).note
note_is item old note mid same = turned_note (record { note = note; world = mid }) (move item old) same

stepped_run : (item : Item) (world : WorldView) → IsRun world → IsRun (stepped item world)
stepped_run item world run = record {
  workload = run.workload;
  can_run = rw (step_options item world) run.can_run;
  replays = rw (step_options item world) (step_is_replay world.options run.workload item world run.replays);
}

-- what always holds of a world holds behind a step
pub step_counted : (item : Item) (old new : WorldView) (before now : ℕ) → IsCounted old before → new ≡ stepped item old → now ≡ moves_in new.journal → IsCounted new now
step_counted item old new before now kept is counted = record { run = subst IsRun (sym is) (stepped_run item old kept.run); counted = counted }

pub same_counted : (old new : WorldView) (before now : ℕ) → IsCounted old before → new ≡ old → now ≡ before → IsCounted new now
same_counted old new before now kept is same = record { run = subst IsRun (sym is) kept.run; counted = same ∙ kept.counted ∙ ap (λ (w : WorldView). moves_in w.journal) (sym is) }

-- what is played where capacity was reserved before
pub played_counted : (item : Item) (old reserved mid new : WorldView) (note : Note) (before now : ℕ) → IsCounted old before → reserved ≡ old
    → record { note = note; world = mid } ≡ move item reserved → new ≡ written_if (is_written mid note) (line_of item note) mid → now ≡ moves_in new.journal → IsCounted new now
played_counted item old reserved mid new note before now kept is same written counted =
    step_counted item old new before now kept (step_is item old note mid new (same ∙ ap (move item) is) written) counted
