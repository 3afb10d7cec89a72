-- A table whose verdicts on a replica cover all keys and are SAME for good is EQUAL.
use Rattle.std.proofs.Common.{◌≡◌, ◌≢◌, ◌∙◌, ℕ, zero, suc, ◌-◌, ◌<◌, ◌≤◌, true, List, [], ◌∷◌, Some, length, refl, ap, sym, subst, arith}
use Rattle.std.specs.Prelude.{slice_index_or}
use Rattle.std.specs.List.{AllByRecursion, slice_get}
use Rattle.row_types.specs.declared.table_schema.Schema.{Schema}
use Rattle.row_types.specs.declared.values.Value.{Value}
use Rattle.row_types.specs.KeyRows.{TableRows}
use Rattle.row_types.specs.Order.{has}
use Rattle.checksum_table.specs.declared.check_rows.Verdict.{Verdict}
use Rattle.checksum_table.specs.declared.check_rows.Verdict.TheVariants.{Same, Pending}
use Rattle.history.specs.Replay.{chunk_rows, fold, source_at, replica_at, applied_of}
use Rattle.history.specs.Headline.{DigestsDistinguish, AreEqualAtEnd}
use Rattle.report_text.specs.declared.summaries.VerdictLine.{VerdictLine}
use Rattle.report_text.specs.declared.summaries.EqualLine.{EqualLine}
use Rattle.node_model.proofs.CommitLemmas.{table_row}
use Rattle.checksum_tool_laws.specs.Told.{Told}
use Rattle.world_model.specs.Good.{IsGood}
use Rattle.world_model.proofs.GoodLemmas.{each_world_fits}
use Rattle.world_model.specs.Worlds.{WorldView, ReplicaView, begun}
use Rattle.world_model.specs.Turns.{played}
use Rattle.world_model.specs.Summary.{verdicts_of, equals_of}
use Rattle.world_laws.specs.Replicas.{log_of, FollowsSource}
use Rattle.world_laws.proofs.RunLemmas as world_laws
use Rattle.headline_laws.specs.Lines.{LineHolds, HoldsUnlessPending, VerdictLinesHold, source_rows_at, replica_rows_at}
use Rattle.headline_laws.specs.Equals.{EqualLineHolds, HasLineOver, LinesCover, IsSameForGood, AreAllSame, HasAppliedAll, SameIsEqual, SameTablesAreEqual}
use Rattle.headline_laws.proofs.ListLemmas.{each_is, each_at}
use Rattle.headline_laws.proofs.ReplayLemmas.{fold_are, Replays, NodesReplay, nodes_replay}
use Rattle.headline_laws.proofs.StayLemmas.{HasFollowed, row_stays, chunk_row, rows_are}
use Rattle.headline_laws.proofs.LineLemmas.{each_compares}
use Rattle.headline_laws.proofs.EqualLemmas.{equal_lines_hold}
use Rattle.headline_laws.proofs.CoverLemmas.{finished_covered}

-- an element that a list contains
each_contained : {A : Type 0} (P : A → Type 0) (xs : List A) (k : ℕ) (x d : A) → AllByRecursion P xs → k < length xs → slice_index_or xs k d ≡ x → P x
each_contained P [] k x d each lt is = absurd (omega (arith, lt))
each_contained P (y ∷ ys) zero x d each lt is = subst P is each.0
each_contained P (y ∷ ys) (suc k) x d each lt is = each_contained P ys k x d each.1 (omega (arith, lt)) is

same_known : (verdict : Verdict) → verdict ≡ Same → verdict ≢ Pending
same_known verdict same = λ pending. let no : Same ≡ Pending = sym same ∙ pending in cc

same_replica : (replicas : List ReplicaView) (place : ℕ) (one other : ReplicaView) → slice_get replicas place ≡ Some one → slice_get replicas place ≡ Some other → one ≡ other
same_replica replicas place one other first second =
    let same : Some one ≡ Some other = sym first ∙ second in
    cc

-- a chunk that is SAME has the same row at each of its keys
row_at_line : (world : WorldView) (replica : ReplicaView) (line : VerdictLine) (key : List Value)
    → replica.node.schemas ≡ world.source.schemas
    → (holds : LineHolds world line)
    → holds.replica ≡ replica
    → IsSameForGood world replica line
    → has line.span key ≡ true
    → table_row world.source.schemas (source_at world.source.schemas (log_of world.source) line.position).tables line.table key
    ≡ table_row world.source.schemas (replica_at world.source.schemas (log_of replica.node) line.position).tables line.table key
row_at_line world replica line key same holds is good over =
    let schemas : List Schema = world.source.schemas in
    let source : TableRows = (source_at schemas (log_of world.source) line.position).tables in
    let own : TableRows = (replica_at schemas (log_of replica.node) line.position).tables in
    let rows : source_rows_at world line ≡ replica_rows_at replica line =
    subst (λ (r : ReplicaView). DigestsDistinguish holds.kind (source_rows_at world line) (replica_rows_at r line) → source_rows_at world line ≡ replica_rows_at r line) is
    (holds.compares.rows_same good.same) (good.distinguished holds.kind holds.checked) in
    let alike : chunk_rows schemas source line.table line.span ≡ chunk_rows schemas own line.table line.span =
    rows ∙ ap (λ (s : List Schema). chunk_rows s (replica_at s (log_of replica.node) line.position).tables line.table line.span) same in
    chunk_row schemas source own line.table line.span key over alike

-- what is known of a source and a replica that has applied its whole log
record Pair (world : WorldView) (replica : ReplicaView) : Type 0 where
  same : replica.node.schemas ≡ world.source.schemas
  followed : HasFollowed world.source.schemas (log_of world.source) (log_of replica.node)

row_at_end : (world : WorldView) (number table : ℕ) (replica : ReplicaView) (key : List Value)
    → slice_get world.replicas (number - 1) ≡ Some replica
    → Pair world replica
    → VerdictLinesHold world
    → AreAllSame world replica number table
    → HasLineOver (verdicts_of world) number table key
    → table_row world.source.schemas (fold world.source.schemas world.source.start world.source.history).tables table key
    ≡ table_row world.source.schemas (fold world.source.schemas replica.node.start replica.node.history).tables table key
row_at_end world number table replica key found pair lines all_same one =
    let schemas : List Schema = world.source.schemas in
    let line : VerdictLine = one.line in
    let good : IsSameForGood world replica line = all_same line one.among one.of_replica one.of_table in
    let unless : HoldsUnlessPending world line = each_contained (HoldsUnlessPending world) (verdicts_of world) one.among.0 line line lines one.among.1 one.among.2 in
    let holds : LineHolds world line = unless (same_known line.verdict good.same) in
    let there : slice_get world.replicas (number - 1) ≡ Some holds.replica = subst (λ (n : ℕ). slice_get world.replicas (n - 1) ≡ Some holds.replica) one.of_replica holds.found in
    let is : holds.replica ≡ replica = same_replica world.replicas (number - 1) holds.replica replica there found in
    subst (λ (t : ℕ).
    table_row schemas (fold schemas world.source.start world.source.history).tables t key ≡ table_row schemas (fold schemas replica.node.start replica.node.history).tables t key) one.of_table
    (row_stays schemas (log_of world.source) (log_of replica.node) line.table key line.position pair.followed holds.from_one
    (subst (λ (r : ReplicaView). line.position ≤ applied_of r.node.history) is holds.applied) good.alone
    (row_at_line world replica line key pair.same holds is good one.over))

record Found (schemas : List Schema) (table : ℕ) : Type 0 where
  schema : Schema
  found : slice_get schemas table ≡ Some schema

found_at : (schemas : List Schema) (table : ℕ) → table < length schemas → Found schemas table
found_at [] table within = absurd (omega (arith, within))
found_at (schema ∷ schemas) zero within = record { schema = schema; found = refl }
found_at (schema ∷ schemas) (suc table) within =
    let more : Found schemas table = found_at schemas table (omega (arith, within)) in
    record { schema = more.schema; found = more.found }

equal_at_end : (world : WorldView) (number table : ℕ) (replica : ReplicaView)
    → slice_get world.replicas (number - 1) ≡ Some replica
    → table < length world.source.schemas
    → NodesReplay world
    → Pair world replica
    → VerdictLinesHold world
    → AreAllSame world replica number table
    → LinesCover world number table
    → AreEqualAtEnd world.source.schemas (log_of world.source) (log_of replica.node) table
equal_at_end world number table replica found within nodes pair lines all_same cover =
    let schemas : List Schema = world.source.schemas in
    let there : Found schemas table = found_at schemas table within in
    let known : Replays schemas replica.node = each_at (λ (one : ReplicaView). Replays schemas one.node) world.replicas (number - 1) replica nodes.replicas found in
    rows_are schemas (fold schemas world.source.start world.source.history).tables (fold schemas replica.node.start replica.node.history).tables table there.schema nodes.schemas there.found
    (fold_are schemas world.source.start world.source.history nodes.source.start nodes.source.fit)
    (fold_are schemas replica.node.start replica.node.history known.start known.fit)
    (λ key. row_at_end world number table replica key found pair lines all_same (cover key))

pair_of : (world : WorldView) (place : ℕ) (replica : ReplicaView) → NodesReplay world → AllByRecursion (FollowsSource world) world.replicas → slice_get world.replicas place ≡ Some replica
    → HasAppliedAll world replica → Pair world replica
pair_of world place replica nodes follow found all =
    let known : Replays world.source.schemas replica.node = each_at (λ (one : ReplicaView). Replays world.source.schemas one.node) world.replicas place replica nodes.replicas found in
    record {
      same = known.same;
      followed = record {
        source_start = nodes.source.start;
        replica_start = known.start;
        source_fits = nodes.source.fit;
        replica_fits = known.fit;
        follows = each_at (FollowsSource world) world.replicas place replica follow found;
        all = all;
      };
    }

line_equal : (world : WorldView) (line : EqualLine) → NodesReplay world → AllByRecursion (FollowsSource world) world.replicas → VerdictLinesHold world → EqualLineHolds world line → SameIsEqual world line
line_equal world line nodes follow lines holds replica found all cover all_same =
    let is : holds.replica ≡ replica = same_replica world.replicas (line.replica - 1) holds.replica replica holds.found found in
    holds.exact.1
    (subst (λ (r : ReplicaView). AreEqualAtEnd world.source.schemas (log_of world.source) (log_of r.node) line.table) (sym is)
    (equal_at_end world line.replica line.table replica found holds.in_tables nodes (pair_of world (line.replica - 1) replica nodes follow found all) lines all_same cover))

pub same_tables : SameTablesAreEqual
same_tables options workload items can clients =
    let world : WorldView = played items (begun options workload) in
    let nodes : NodesReplay world = nodes_replay options workload items can in
    let follow : AllByRecursion (FollowsSource world) world.replicas = world_laws.each_follows options workload items can clients in
    let told : Told world.tool world.source = world_laws.sources_told options workload items can clients in
    let good : IsGood world = each_world_fits options workload items can in
    record {
      finished = λ is. told.all is ∙ good.tool_fits;
      covered = finished_covered world told (λ place replica found.
          let known : Replays world.source.schemas replica.node = each_at (λ (one : ReplicaView). Replays world.source.schemas one.node) world.replicas place replica nodes.replicas found in
          record { same = known.same; follows = each_at (FollowsSource world) world.replicas place replica follow found });
      same_is_equal = each_is (EqualLineHolds world) (SameIsEqual world) (equals_of world)
          (λ line holds. line_equal world line nodes follow (each_compares options workload items can clients) holds) (equal_lines_hold world nodes).each_line;
    }
