-- Each VERDICT line that is not PENDING compares the rows of its chunk at one position.
use Rattle.std.proofs.Common.{◌≡◌, ◌≢◌, ℕ, suc, ◌+◌, ◌-◌, ◌≤◌, List, [], ◌∷◌, Option, None, Some, option_map, IfSome, length, refl, ap, sym, subst, arith}
use Rattle.std.specs.List.{AllByRecursion, slice_get}
use Rattle.row_types.specs.declared.digests.Digest.{Digest}
use Rattle.row_types.specs.declared.table_schema.Schema.{Schema}
use Rattle.row_types.specs.KeyRows.{Rows}
use Rattle.checksum_table.specs.declared.check_rows.CheckRow.{CheckRow}
use Rattle.checksum_table.specs.declared.check_rows.CheckEntry.{CheckEntry}
use Rattle.checksum_table.specs.declared.check_rows.Verdict.TheVariants.{Pending}
use Rattle.checksum_table.specs.Checks.{check_at, verdict_against, verdict_of_row}
use Rattle.history.specs.Replay.{chunk_rows, replica_at}
use Rattle.history.specs.Headline.{Compares, IsVerdict}
use Rattle.world_model.specs.Worlds.{WorldView, ReplicaView, begun}
use Rattle.world_model.specs.Turns.{played}
use Rattle.world_model.specs.Verdicts.{verdict_line, all_chunks, replica_verdicts}
use Rattle.world_model.specs.Summary.{replayed_of, verdicts_from}
use Rattle.world_model.specs.Good.{ReplicaFits, IsGood}
use Rattle.world_model.proofs.GoodLemmas.{each_world_fits}
use Rattle.world_laws.specs.Replicas.{log_of, VerdictsCompare}
use Rattle.world_laws.proofs.RunLemmas as world_laws
use Rattle.headline_laws.specs.Lines.{HoldsUnlessPending, LineHolds, VerdictLinesHold, EachPrintedVerdictCompares, source_rows_at, replica_rows_at}
use Rattle.headline_laws.proofs.ListLemmas.{each_joined, each_mapped}

-- a row that is not pending has the source's checksum, whose count a line prints
counted : (master : Option Digest) (own : Digest) (count : ℕ) → verdict_against master own ≢ Pending → IfSome master (λ m. m.count ≡ count)
    → option_map (λ (m : Digest). m.count) master ≡ Some count
counted None own count known is = absurd (known refl)
counted (Some m) own count known is = ap Some is

-- a check row of a replica, as a line
row_line : (world : WorldView) (number : ℕ) (replica : ReplicaView) (entry : CheckEntry) (row : CheckRow)
    → 1 ≤ number
    → slice_get world.replicas (number - 1) ≡ Some replica
    → replica.node.schemas ≡ world.source.schemas
    → verdict_of_row row ≢ Pending
    → IsVerdict world.source.schemas (log_of world.source) (log_of replica.node) entry.table entry.chunk row
    → LineHolds world (verdict_line number entry (Some row))
row_line world number replica entry row from_one found same known is =
    let source_rows : Rows = source_rows_at world (verdict_line number entry (Some row)) in
    let compares : Compares row source_rows (replica_rows_at replica (verdict_line number entry (Some row))) =
    subst (λ (s : List Schema). Compares row source_rows (chunk_rows s (replica_at s (log_of replica.node) row.position).tables entry.table row.span)) (sym same) is.compares in
    record {
      replica_from_one = from_one;
      replica = replica;
      found = found;
      kind = row.kind;
      from_one = is.from_one;
      in_log = is.in_log;
      applied = is.applied;
      checked = is.checked;
      compares = record {
        master_count = counted row.master row.this (length source_rows) known compares.master_count;
        own_count = ap Some compares.own_count;
        differ = compares.differ;
        rows_differ = compares.rows_differ;
        rows_same = compares.rows_same;
      };
    }

line_holds : (world : WorldView) (number : ℕ) (replica : ReplicaView) (entry : CheckEntry) (own : Option CheckRow)
    → check_at entry.table entry.chunk (replayed_of replica.node).checks ≡ own
    → 1 ≤ number
    → slice_get world.replicas (number - 1) ≡ Some replica
    → replica.node.schemas ≡ world.source.schemas
    → VerdictsCompare world replica
    → HoldsUnlessPending world (verdict_line number entry own)
line_holds world number replica entry None stands from_one found same compare known = absurd (known refl)
line_holds world number replica entry (Some row) stands from_one found same compare known =
    row_line world number replica entry row from_one found same known
    (subst (λ (s : List Schema). IsVerdict s (log_of world.source) (log_of replica.node) entry.table entry.chunk row) same (compare entry.table entry.chunk row stands known))

-- what is known of a replica where its verdicts are told
pub record Told (world : WorldView) (replica : ReplicaView) : Type 0 where
  pub same : replica.node.schemas ≡ world.source.schemas
  pub compare : VerdictsCompare world replica

on_replica : (world : WorldView) (number : ℕ) (replica : ReplicaView)
    → 1 ≤ number
    → slice_get world.replicas (number - 1) ≡ Some replica
    → Told world replica
    → AllByRecursion (HoldsUnlessPending world) (replica_verdicts number (replayed_of world.source).checks (replayed_of replica.node).checks)
on_replica world number replica from_one found told =
    let own : List CheckEntry = (replayed_of replica.node).checks in
    each_mapped (HoldsUnlessPending world) (λ (entry : CheckEntry). verdict_line number entry (check_at entry.table entry.chunk own))
    (all_chunks own (replayed_of world.source).checks)
    (λ entry. line_holds world number replica entry (check_at entry.table entry.chunk own) refl from_one found told.same told.compare)

-- the replicas from one of this number on
on_replicas : (world : WorldView) (number : ℕ) (replicas : List ReplicaView)
    → 1 ≤ number
    → ((k : ℕ) (replica : ReplicaView) → slice_get replicas k ≡ Some replica → slice_get world.replicas (number + k - 1) ≡ Some replica)
    → AllByRecursion (Told world) replicas
    → AllByRecursion (HoldsUnlessPending world) (verdicts_from number (replayed_of world.source).checks replicas)
on_replicas world number [] from_one there told = tt
on_replicas world number (replica ∷ replicas) from_one there told =
    let here : number + 0 - 1 ≡ number - 1 = omega arith in
    each_joined (HoldsUnlessPending world) (replica_verdicts number (replayed_of world.source).checks (replayed_of replica.node).checks)
    (verdicts_from (number + 1) (replayed_of world.source).checks replicas)
    (on_replica world number replica from_one (subst (λ (place : ℕ). slice_get world.replicas place ≡ Some replica) here (there 0 replica refl)) told.0)
    (on_replicas world (number + 1) replicas (omega (arith, from_one)) (λ k other found.
    let next : number + suc k - 1 ≡ number + 1 + k - 1 = omega arith in
    subst (λ (place : ℕ). slice_get world.replicas place ≡ Some other) next (there (suc k) other found)) told.1)

each_told : (world : WorldView) (replicas : List ReplicaView) → AllByRecursion (ReplicaFits world.source.schemas) replicas → AllByRecursion (VerdictsCompare world) replicas
    → AllByRecursion (Told world) replicas
each_told world [] fit compare = tt
each_told world (replica ∷ replicas) fit compare = (record { same = fit.0.same; compare = compare.0 }, each_told world replicas fit.1 compare.1)

lines_hold : (world : WorldView) → IsGood world → AllByRecursion (VerdictsCompare world) world.replicas → VerdictLinesHold world
lines_hold world good compare =
    on_replicas world 1 world.replicas (omega arith) (λ k replica found.
    let place : k ≡ 1 + k - 1 = omega arith in
    subst (λ (n : ℕ). slice_get world.replicas n ≡ Some replica) place found)
    (each_told world world.replicas good.replicas_fit compare)

pub each_compares : EachPrintedVerdictCompares
each_compares options workload items can clients =
    lines_hold (played items (begun options workload)) (each_world_fits options workload items can) (world_laws.each_compares options workload items can clients)
