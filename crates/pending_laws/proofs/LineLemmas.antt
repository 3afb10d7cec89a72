-- Where the tool is finished, the line of each chunk on a replica that has applied the whole log has both checksums.
use Rattle.std.proofs.Common.{◌≡◌, ◌≢◌, ◌∙◌, ℕ, suc, ◌+◌, ◌-◌, ◌≤◌, not, Bool, true, false, cond, List, [], ◌∷◌, ◌++◌, Option, None, Some, refl, ap, sym, subst, arith}
use Rattle.std.specs.Prelude.{is_some}
use Rattle.std.specs.List.{AllByRecursion, slice_get}
use Rattle.std.specs.Ordering.{match_ordering}
use Rattle.std.specs.declared.cmp.Ordering.{Ordering}
use Rattle.std.specs.declared.cmp.Ordering.TheVariants.{Less, Equal, Greater}
use Rattle.std.proofs.lemmas.Bool.Decides.{nat_tests}
use Rattle.row_types.specs.declared.digests.Digest.{Digest}
use Rattle.row_types.specs.declared.table_schema.Schema.{Schema}
use Rattle.checksum_table.specs.declared.check_rows.CheckRow.{CheckRow}
use Rattle.checksum_table.specs.declared.check_rows.CheckEntry.{CheckEntry}
use Rattle.checksum_table.specs.declared.check_rows.Verdict.TheVariants.{Same, Differ, Pending}
use Rattle.checksum_table.specs.Checks.{is_for, place_cmp, check_at, with_absent, digest_eq, verdict_against}
use Rattle.history.specs.Replay.{fold}
use Rattle.checksum_tool.specs.declared.phases.ToolPhase.{ToolPhase}
use Rattle.checksum_tool.specs.declared.phases.ToolPhase.TheVariants.{Finished}
use Rattle.checksum_tool_laws.specs.Deeds.{Deed, tables_deeds, now_deeds}
use Rattle.checksum_tool_laws.specs.Told.{Told}
use Rattle.world_model.specs.Worlds.{WorldView, ReplicaView, begun}
use Rattle.world_model.specs.Turns.{played}
use Rattle.world_model.specs.Good.{IsGood, ReplicaFits}
use Rattle.world_model.specs.Verdicts.{verdict_line, all_chunks, verdicts_on, replica_verdicts}
use Rattle.world_model.specs.Summary.{replayed_of, verdicts_from}
use Rattle.world_model.proofs.GoodLemmas.{each_world_fits}
use Rattle.world_laws.specs.Replicas.{FollowsSource}
use Rattle.world_laws.proofs.RunLemmas.{sources_told, each_follows}
use Rattle.headline_laws.specs.Equals.{HasAppliedAll}
use Rattle.headline_laws.proofs.ListLemmas.{each_joined, each_is}
use Rattle.headline_laws.proofs.MirrorLemmas.{Told as RowTold, told, told_in, SameMasters, same_masters}
use Rattle.pending_laws.specs.Pending.{IsNotPending, NoneIsPending, FinishedRunsLeaveNonePending}
use Rattle.pending_laws.proofs.OpenLemmas.{is_open, after_all, fold_open, all_close}

-- On the source.

abbrev AllAreClosed : List CheckEntry → Type 0
AllAreClosed checks = (table chunk : ℕ) → is_open (check_at table chunk checks) ≡ false

source_closed : (world : WorldView) → Told world.tool world.source → world.tool.phase ≡ Finished → AllAreClosed (replayed_of world.source).checks
source_closed world told finished table chunk =
    fold_open world.source.schemas world.source.start table chunk world.source.history told.written
    ∙ ap (λ (deeds : List (List Deed)). after_all table chunk deeds false)
    (told.entries ∙ ap (λ (phase : ToolPhase). tables_deeds told.spans world.tool.table ++ now_deeds phase world.tool (told.spans world.tool.table)) finished)
    ∙ all_close table chunk told.spans world.tool.table

closed_master : (found : Option CheckRow) (row : CheckRow) → is_open found ≡ false → found ≡ Some row → row.master ≢ None
closed_master found row closed is none =
    let opened : is_open (Some row) ≡ true = ap (λ (m : Option Digest). not (is_some m)) none in
    absurd (let no : true ≡ false = sym opened ∙ ap is_open (sym is) ∙ closed in cc)

-- On a replica, whose check rows are of the same chunks with the same published checksums.

same_open : (one other : Option CheckRow) → told_in one ≡ told_in other → is_open one ≡ is_open other
same_open None None same = refl
same_open None (Some row) same = absurd (let no : None ≡ Some (told row) = same in cc)
same_open (Some row) None same = absurd (let no : Some (told row) ≡ None = same in cc)
same_open (Some row) (Some own) same =
    let both : Some (told row) ≡ Some (told own) = same in
    let alike : told row ≡ told own = cc in
    ap (λ (t : RowTold). not (is_some t.master)) alike

same_there : (one other : Option CheckRow) → told_in one ≡ told_in other → is_some one ≡ is_some other
same_there None None same = refl
same_there None (Some row) same = absurd (let no : None ≡ Some (told row) = same in cc)
same_there (Some row) None same = absurd (let no : Some (told row) ≡ None = same in cc)
same_there (Some row) (Some own) same = refl

-- The chunks of the lines each have a check row there.

abbrev HasRow : List CheckEntry → CheckEntry → Type 0
HasRow checks entry = is_some (check_at entry.table entry.chunk checks) ≡ true

first_has : (entry : CheckEntry) (entries : List CheckEntry) → HasRow (entry ∷ entries) entry
first_has entry entries = ap (λ (b : Bool). is_some (cond b (Some entry.row) (check_at entry.table entry.chunk entries))) own
  where
    own : is_for entry.table entry.chunk entry ≡ true
    own = grind (arith, nat_tests)

later_has : (first : CheckEntry) (entries : List CheckEntry) (entry : CheckEntry) → HasRow entries entry → HasRow (first ∷ entries) entry
later_has first entries entry has = at (is_for entry.table entry.chunk first)
  where
    at : (b : Bool) → is_some (cond b (Some first.row) (check_at entry.table entry.chunk entries)) ≡ true
    at true = refl
    at false = has

each_has : (entries : List CheckEntry) → AllByRecursion (HasRow entries) entries
each_has [] = tt
each_has (entry ∷ entries) = (first_has entry entries, each_is (HasRow entries) (HasRow (entry ∷ entries)) entries (λ one has. later_has entry entries one has) (each_has entries))

absent_at : (P : CheckEntry → Type 0) (order : Ordering) (new entry : CheckEntry) (entries more : List CheckEntry) → P new → P entry → AllByRecursion P entries → AllByRecursion P more
    → AllByRecursion P (match_ordering order (new ∷ entry ∷ entries) (entry ∷ entries) (entry ∷ more))
absent_at P Less new entry entries more new_is is are more_are = (new_is, (is, are))
absent_at P Equal new entry entries more new_is is are more_are = (is, are)
absent_at P Greater new entry entries more new_is is are more_are = (is, more_are)

with_absent_are : (P : CheckEntry → Type 0) (new : CheckEntry) (entries : List CheckEntry) → P new → AllByRecursion P entries → AllByRecursion P (with_absent new entries)
with_absent_are P new [] new_is are = (new_is, tt)
with_absent_are P new (entry ∷ entries) new_is are =
    absent_at P (place_cmp new.table new.chunk entry) new entry entries (with_absent new entries) new_is are.0 are.1 (with_absent_are P new entries new_is are.1)

chunks_are : (P : CheckEntry → Type 0) (own source : List CheckEntry) → AllByRecursion P own → AllByRecursion P source → AllByRecursion P (all_chunks own source)
chunks_are P own [] own_are are = own_are
chunks_are P own (entry ∷ source) own_are are = chunks_are P (with_absent entry own) source (with_absent_are P entry own are.0 own_are) are.1

-- Lines.

not_pending : (same : Bool) → cond same Same Differ ≢ Pending
not_pending true is = absurd (let no : Same ≡ Pending = is in cc)
not_pending false is = absurd (let no : Differ ≡ Pending = is in cc)

against : (master : Option Digest) (own : Digest) → not (is_some master) ≡ false → verdict_against master own ≢ Pending
against None own closed = absurd (let no : true ≡ false = closed in cc)
against (Some master) own closed = not_pending (digest_eq master own)

line_closed : (number : ℕ) (entry : CheckEntry) (found : Option CheckRow) → is_some found ≡ true → is_open found ≡ false → (verdict_line number entry found).verdict ≢ Pending
line_closed number entry None there closed = absurd (let no : false ≡ true = there in cc)
line_closed number entry (Some row) there closed = against row.master row.this closed

-- where the check rows of the source and of a replica mirror each other, the chunk has a row there
abbrev Stands : List CheckEntry → List CheckEntry → CheckEntry → Type 0
Stands source own entry = SameMasters source own → HasRow own entry

mirrored : (source own : List CheckEntry) (entry : CheckEntry) → HasRow source entry → Stands source own entry
mirrored source own entry has same =
    sym (same_there (check_at entry.table entry.chunk source) (check_at entry.table entry.chunk own) (same entry.table entry.chunk)) ∙ has

each_stands : (source own : List CheckEntry) → AllByRecursion (Stands source own) (all_chunks own source)
each_stands source own =
    chunks_are (Stands source own) own source (each_is (HasRow own) (Stands source own) own (λ entry has same. has) (each_has own))
    (each_is (HasRow source) (Stands source own) source (mirrored source own) (each_has source))

-- the replica of this number, where it has applied the whole log
abbrev Mirrors : WorldView → ℕ → List CheckEntry → List CheckEntry → Type 0
Mirrors world number source own = (replica : ReplicaView) → slice_get world.replicas (number - 1) ≡ Some replica → HasAppliedAll world replica → SameMasters source own

both_told : (number : ℕ) (source own : List CheckEntry) (entry : CheckEntry) (found : Option CheckRow) → check_at entry.table entry.chunk own ≡ found → AllAreClosed source
    → Stands source own entry → SameMasters source own → (verdict_line number entry found).verdict ≢ Pending
both_told number source own entry found is closed stands same =
    line_closed number entry found (ap is_some (sym is) ∙ stands same)
    (ap is_open (sym is)
    ∙ sym (same_open (check_at entry.table entry.chunk source) (check_at entry.table entry.chunk own) (same entry.table entry.chunk))
    ∙ closed entry.table entry.chunk)

line_not : (world : WorldView) (number : ℕ) (source own : List CheckEntry) (entry : CheckEntry) (found : Option CheckRow) → check_at entry.table entry.chunk own ≡ found → AllAreClosed source
    → Mirrors world number source own → Stands source own entry → IsNotPending world (verdict_line number entry found)
line_not world number source own entry None is closed mirrors stands replica here all = both_told number source own entry None is closed stands (mirrors replica here all)
line_not world number source own entry (Some row) is closed mirrors stands replica here all = both_told number source own entry (Some row) is closed stands (mirrors replica here all)

lines_not : (world : WorldView) (number : ℕ) (source own entries : List CheckEntry) → AllAreClosed source → Mirrors world number source own → AllByRecursion (Stands source own) entries
    → AllByRecursion (IsNotPending world) (verdicts_on number own entries)
lines_not world number source own [] closed mirrors stand = tt
lines_not world number source own (entry ∷ entries) closed mirrors stand = (
  line_not world number source own entry (check_at entry.table entry.chunk own) refl closed mirrors stand.0,
  lines_not world number source own entries closed mirrors stand.1,
)

-- Replicas, the first of this number.

-- what is known of a replica whose verdicts are told
record FollowsHere (world : WorldView) (replica : ReplicaView) : Type 0 where
  same : replica.node.schemas ≡ world.source.schemas
  follows : FollowsSource world replica

mirrors_there : (world : WorldView) (number : ℕ) (replica : ReplicaView) → slice_get world.replicas (number - 1) ≡ Some replica → FollowsHere world replica
    → Mirrors world number (replayed_of world.source).checks (replayed_of replica.node).checks
mirrors_there world number replica here known other found all =
    subst (λ (s : List Schema). SameMasters (replayed_of world.source).checks (fold s replica.node.start replica.node.history).checks) (sym known.same)
    (same_masters world.source.schemas world.source.start replica.node.start world.source.history replica.node.history known.follows (subst (HasAppliedAll world) is all))
  where
    is : other ≡ replica
    is = let both : Some other ≡ Some replica = sym found ∙ here in cc

on_replicas : (world : WorldView) (number : ℕ) (replicas : List ReplicaView) → AllAreClosed (replayed_of world.source).checks → 1 ≤ number
    → ((k : ℕ) (replica : ReplicaView) → slice_get replicas k ≡ Some replica → slice_get world.replicas (number + k - 1) ≡ Some replica)
    → AllByRecursion (FollowsHere world) replicas
    → AllByRecursion (IsNotPending world) (verdicts_from number (replayed_of world.source).checks replicas)
on_replicas world number [] closed from_one there known = tt
on_replicas world number (replica ∷ replicas) closed from_one there known =
    let source : List CheckEntry = (replayed_of world.source).checks in
    let own : List CheckEntry = (replayed_of replica.node).checks in
    let here : number + 0 - 1 ≡ number - 1 = omega arith in
    each_joined (IsNotPending world) (replica_verdicts number source own) (verdicts_from (number + 1) source replicas)
    (lines_not world number source own (all_chunks own source) closed
    (mirrors_there world number replica (subst (λ (place : ℕ). slice_get world.replicas place ≡ Some replica) here (there 0 replica refl)) known.0)
    (each_stands source own))
    (on_replicas world (number + 1) replicas closed (omega (arith, from_one)) (λ k other found.
    let next : number + suc k - 1 ≡ number + 1 + k - 1 = omega arith in
    subst (λ (place : ℕ). slice_get world.replicas place ≡ Some other) next (there (suc k) other found)) known.1)

each_known : (world : WorldView) (replicas : List ReplicaView) → AllByRecursion (ReplicaFits world.source.schemas) replicas → AllByRecursion (FollowsSource world) replicas
    → AllByRecursion (FollowsHere world) replicas
each_known world [] fit follow = tt
each_known world (replica ∷ replicas) fit follow = (record { same = fit.0.same; follows = follow.0 }, each_known world replicas fit.1 follow.1)

none_pending : (world : WorldView) → Told world.tool world.source → IsGood world → AllByRecursion (FollowsSource world) world.replicas → world.tool.phase ≡ Finished → NoneIsPending world
none_pending world told good follow finished =
    let closed : AllAreClosed (replayed_of world.source).checks = source_closed world told finished in
    record {
      published = λ table chunk row is. closed_master (check_at table chunk (replayed_of world.source).checks) row (closed table chunk) is;
      verdicts = on_replicas world 1 world.replicas closed (omega arith) (λ k replica found.
          let place : k ≡ 1 + k - 1 = omega arith in
          subst (λ (n : ℕ). slice_get world.replicas n ≡ Some replica) place found) (each_known world world.replicas good.replicas_fit follow);
    }

pub finished_none : FinishedRunsLeaveNonePending
finished_none options workload items can clients finished =
    none_pending (played items (begun options workload)) (sources_told options workload items can clients) (each_world_fits options workload items can)
    (each_follows options workload items can clients) finished
