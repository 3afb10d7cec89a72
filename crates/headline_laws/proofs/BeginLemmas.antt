-- Each world began from its workload, and its log is written as its writers write.
use Rattle.std.proofs.Common.{◌≡◌, ◌∙◌, ℕ, Bool, true, false, List, [], ◌∷◌, length, refl, ap, sym, subst}
use Rattle.std.proofs.lemmas.List.{length-map}
use Rattle.ptc_statement.specs.declared.scripts.ScriptLine.{ScriptLine}
use Rattle.workload.specs.declared.schedule.Item.{Item}
use Rattle.workload.specs.declared.workloads.Workload.{Workload}
use Rattle.trace_text.specs.declared.lines.JournalLine.{JournalLine}
use Rattle.world_model.specs.Worlds.{WorldView, ReplicaView, begun}
use Rattle.world_model.specs.Turns.{move, is_written, line_of, written_if, stepped, played}
use Rattle.world_model.proofs.ReplayLemmas.{move_keeps}
use Rattle.world_laws.proofs.RunLemmas as world_laws
use Rattle.headline_laws.specs.Begins.{script_of, lines_of, EachWroteHere, EachWorldBegan, LogsAreWritten}
use Rattle.headline_laws.proofs.ListLemmas.{each_is}
use Rattle.headline_laws.proofs.FitLemmas.{NodeKept}
use Rattle.headline_laws.proofs.KeptLemmas.{Kept, each_kept}

-- Items keep the options and the schedule.

record KeepsBoth (world now : WorldView) : Type 0 where
  options : now.options ≡ world.options
  schedule : now.schedule ≡ world.schedule

written_keeps : (b : Bool) (line : JournalLine) (world : WorldView) → KeepsBoth world (written_if b line world)
written_keeps true line world = record { options = refl; schedule = refl }
written_keeps false line world = record { options = refl; schedule = refl }

step_keeps : (item : Item) (world : WorldView) → KeepsBoth world (stepped item world)
step_keeps item world =
    let moved = move_keeps item world in
    let now = written_keeps (is_written world (move item world).note) (line_of item (move item world).note) (move item world).world in
    record { options = now.options ∙ moved.options; schedule = now.schedule ∙ moved.schedule }

played_keeps : (items : List Item) (world : WorldView) → KeepsBoth world (played items world)
played_keeps [] world = record { options = refl; schedule = refl }
played_keeps (item ∷ items) world =
    let first = step_keeps item world in
    let rest = played_keeps items (stepped item world) in
    record { options = rest.options ∙ first.options; schedule = rest.schedule ∙ first.schedule }

pub each_began : EachWorldBegan
each_began options workload items can clients =
    let world : WorldView = played items (begun options workload) in
    let kept : Kept workload world = each_kept options workload items can in
    let both : KeepsBoth (begun options workload) world = played_keeps items (begun options workload) in
    record {
      under = both.options;
      schedule = both.schedule;
      schemas = kept.schemas;
      source_start = kept.start;
      replica_starts = kept.starts;
      replica_schemas = each_is (λ (replica : ReplicaView). NodeKept workload.schemas.tables replica.node) (λ (replica : ReplicaView). replica.node.schemas ≡ workload.schemas.tables) world.replicas
          (λ replica known. known.same) kept.nodes;
      scripts = kept.scripts;
      local_scripts = kept.locals;
    }

-- as many sessions as the workload has scripts
as_many : (workload : Workload) (world : WorldView) → Kept workload world → length workload.sessions ≡ length world.sessions
as_many workload world kept =
    sym (length-map workload.sessions lines_of)
    ∙ ap (λ (scripts : List (List ScriptLine)). length scripts) (sym kept.scripts)
    ∙ length-map world.sessions script_of

pub each_written : LogsAreWritten
each_written options workload items can clients =
    let world : WorldView = played items (begun options workload) in
    let kept : Kept workload world = each_kept options workload items can in
    let told = world_laws.sources_told options workload items can clients in
    record {
      writers = subst (λ (count : ℕ). EachWroteHere count world.source.history) (as_many workload world kept) kept.wrote;
      written = told.written;
      masters = told.masters;
    }
