-- Where no verdict is PENDING.
use Rattle.std.specs.Prelude.{ℕ, ◌≡◌, ◌≢◌, ◌-◌, Some, None}
use Rattle.std.specs.List.{AllByRecursion, slice_get}
use Rattle.checksum_table.specs.declared.check_rows.CheckRow.{CheckRow}
use Rattle.checksum_table.specs.declared.check_rows.Verdict.TheVariants.{Pending}
use Rattle.checksum_table.specs.Checks.{check_at}
use Rattle.report_text.specs.declared.summaries.VerdictLine.{VerdictLine}
use Rattle.checksum_tool.specs.declared.phases.ToolPhase.TheVariants.{Finished}
use Rattle.world_model.specs.Worlds.{WorldView, ReplicaView}
use Rattle.world_model.specs.Summary.{replayed_of, verdicts_of}
use Rattle.world_laws.specs.Clients.{OfEachWorld}
use Rattle.headline_laws.specs.Equals.{HasAppliedAll}

-- each check row of the source has the source's checksum
abbrev pub AllArePublished : WorldView → Type 0
AllArePublished world = (table chunk : ℕ) (row : CheckRow) → check_at table chunk (replayed_of world.source).checks ≡ Some row → row.master ≢ None

-- where the line's replica has applied the whole log, the line is not PENDING
abbrev pub IsNotPending : WorldView → VerdictLine → Type 0
IsNotPending world line = (replica : ReplicaView) → slice_get world.replicas (line.replica - 1) ≡ Some replica → HasAppliedAll world replica → line.verdict ≢ Pending

pub record NoneIsPending (world : WorldView) : Type 0 where
  pub published : AllArePublished world
  pub verdicts : AllByRecursion (IsNotPending world) (verdicts_of world)

abbrev pub FinishedRunsLeaveNonePending : Type 0
FinishedRunsLeaveNonePending = OfEachWorld (λ (world : WorldView). world.tool.phase ≡ Finished → NoneIsPending world)
