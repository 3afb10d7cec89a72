-- A world is what the items of its journal make of the first one.
use Rattle.std.proofs.Common.{◌≡◌, ◌∙◌, ℕ, ◌-◌, ◌==◌, ◌||◌, Bool, true, false, cond, List, [], ◌∷◌, ◌++◌, Option, None, Some, refl, ap, sym, subst}
use Rattle.std.specs.List.{slice_get}
use Rattle.session.specs.Sessions.{SessionView}
use Rattle.workload.specs.declared.actors.Actor.{Actor}
use Rattle.workload.specs.declared.actors.Actor.TheVariants as a
use Rattle.workload.specs.declared.schedule.Item.{Item}
use Rattle.workload.specs.declared.schedule.Item.TheVariants as i
use Rattle.workload.specs.declared.workloads.Workload.{Workload}
use Rattle.trace_text.specs.declared.lines.JournalLine.{JournalLine}
use Rattle.turn_notes.specs.Notes.{has_moved}
use Rattle.world_model.specs.declared.options.RunOptions.{RunOptions}
use Rattle.world_model.specs.Worlds.{WorldView, ReplicaView, begun}
use Rattle.world_model.specs.Turns.{Turned, off, session_at, ReplicaTurned, replica_at, on_replica, local_turn, worker_turn, turn, move, is_scheduled, is_written, line_of, written_if, stepped, played}
use Rattle.world_model.specs.Rounds.{items_in, IsReplayOf}
use Rattle.world_model.specs.Laws.{WorldsAreReplays}
use Rattle.world_model.proofs.StillLemmas.{still_item}

pub played-append : (items more : List Item) (world : WorldView) → played (items ++ more) world ≡ played more (played items world)
played-append [] more world = refl
played-append (item ∷ items) more world = played-append items more (stepped item world)

-- A turn writes nothing itself, and keeps the options and the schedule.

pub record KeepsRest (world now : WorldView) : Type 0 where
  pub journal : now.journal ≡ world.journal
  pub schedule : now.schedule ≡ world.schedule
  pub options : now.options ≡ world.options

kept : (world : WorldView) → KeepsRest world world
kept world = record { journal = refl; schedule = refl; options = refl }

off_or : (world : WorldView) (b : Bool) (turned : Turned) → KeepsRest world turned.world → KeepsRest world (cond b (off world) turned).world
off_or world true turned keeps = kept world
off_or world false turned keeps = keeps

session_at_keeps : (place : ℕ) (one : Option SessionView) (world : WorldView) → KeepsRest world (session_at place one world).world
session_at_keeps place None world = kept world
session_at_keeps place (Some one) world = record { journal = refl; schedule = refl; options = refl }

replica_at_keeps : (place : ℕ) (one : Option ReplicaView) (turn_there : ReplicaView → ReplicaTurned) (world : WorldView) → KeepsRest world (replica_at place one turn_there world).world
replica_at_keeps place None turn_there world = kept world
replica_at_keeps place (Some one) turn_there world = record { journal = refl; schedule = refl; options = refl }

on_replica_keeps : (number : ℕ) (turn_there : ReplicaView → ReplicaTurned) (world : WorldView) → KeepsRest world (on_replica number turn_there world).world
on_replica_keeps number turn_there world =
    off_or world (number == 0) (replica_at (number - 1) (slice_get world.replicas (number - 1)) turn_there world)
    (replica_at_keeps (number - 1) (slice_get world.replicas (number - 1)) turn_there world)

turn_keeps : (actor : Actor) (world : WorldView) → KeepsRest world (turn actor world).world
turn_keeps (a.Session number) world =
    off_or world (number == 0) (session_at (number - 1) (slice_get world.sessions (number - 1)) world)
    (session_at_keeps (number - 1) (slice_get world.sessions (number - 1)) world)
turn_keeps a.Tool world = record { journal = refl; schedule = refl; options = refl }
turn_keeps (a.Sync number) world = kept world
turn_keeps (a.Worker number worker) world = on_replica_keeps number (worker_turn number worker world.source.history) world
turn_keeps (a.Local number local) world = on_replica_keeps number (local_turn number world.options.retries local) world

pub move_keeps : (item : Item) (world : WorldView) → KeepsRest world (move item world).world
move_keeps (i.Turn actor) world = turn_keeps actor world
move_keeps i.StopTool world = kept world
move_keeps i.ResumeTool world = kept world
move_keeps (i.StopReplica number) world = kept world
move_keeps (i.StartReplica number) world = kept world

-- Replays.

items-append : (lines : List JournalLine) (line : JournalLine) → items_in (lines ++ line ∷ []) ≡ items_in lines ++ line.item ∷ []
items-append [] line = refl
items-append (first ∷ lines) line = ap (λ items. first.item ∷ items) (items-append lines line)

not_or : (a b : Bool) → (a || b) ≡ false → b ≡ false
not_or true b is = absurd (let no : true ≡ false = is in cc)
not_or false b is = is

step_replays : (first world : WorldView) (item : Item) → world ≡ played (items_in world.journal) first → stepped item world ≡ played (items_in (stepped item world).journal) first
step_replays first world item replay = at (is_written world (move item world).note) refl
  where
    now : WorldView
    now = (move item world).world

    line : JournalLine
    line = line_of item (move item world).note

    at : (b : Bool) → is_written world (move item world).note ≡ b → written_if b line now ≡ played (items_in (written_if b line now).journal) first
    at true writes =
        ap (λ (b : Bool). written_if b line now) (sym writes)
        ∙ ap (stepped item) replay
        ∙ sym (played-append (items_in world.journal) (item ∷ []) first)
        ∙ ap (λ (lines : List JournalLine). played (items_in lines ++ item ∷ []) first) (sym (move_keeps item world).journal)
        ∙ ap (λ (items : List Item). played items first) (sym (items-append now.journal line))
    at false writes =
        let same : now ≡ world = still_item item world (not_or (is_scheduled world) (has_moved (move item world).note) writes) in
        subst (λ (w : WorldView). w ≡ played (items_in w.journal) first) (sym same) replay

pub played_replays : (items : List Item) (first world : WorldView) → world ≡ played (items_in world.journal) first → played items world ≡ played (items_in (played items world).journal) first
played_replays [] first world replay = replay
played_replays (item ∷ items) first world replay = played_replays items first (stepped item world) (step_replays first world item replay)

pub step_is_replay : (options : RunOptions) (workload : Workload) (item : Item) (world : WorldView) → IsReplayOf options workload world → IsReplayOf options workload (stepped item world)
step_is_replay options workload item world replay = step_replays (begun options workload) world item replay

pub worlds_are_replays : WorldsAreReplays
worlds_are_replays options workload items = played_replays items (begun options workload) (begun options workload) refl
