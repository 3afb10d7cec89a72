-- A table whose verdicts on a replica are all SAME, by digests that distinguish, is EQUAL at the log's end.
use Rattle.std.proofs.Common.{◌≡◌, ℕ, zero, suc, ◌+◌, ◌-◌, ◌<◌, ◌≤◌, Bool, true, false, cond, List, [], ◌∷◌, length, Option, None, Some, refl, ap, ◌∙◌, sym, subst, arith}
use Rattle.std.specs.Prelude.{filter, take, slice_index_or}
use Rattle.std.specs.List.{AllByRecursion, slice_get}
use Rattle.std.specs.Option.{option_map_or}
use Rattle.std.proofs.lemmas.Option.{slice_get_within}
use Rattle.row_types.specs.declared.table_schema.Schema.{Schema}
use Rattle.row_types.specs.KeyRows.{Row, Rows, TableRows}
use Rattle.row_types.specs.Order.{has}
use Rattle.ptc_statement.specs.declared.statements.Statement.{Statement}
use Rattle.statement_log.specs.declared.origins.Origin.{Origin}
use Rattle.statement_log.specs.declared.origins.Origin.TheVariants.{Session, Checksum, Sync, Local, Applied}
use Rattle.statement_log.specs.declared.entries.Entry.{Entry}
use Rattle.checksum_table.specs.declared.check_rows.Verdict.TheVariants.{Same}
use Rattle.row_digest.specs.Digest.{rows_in}
use Rattle.history.specs.Replay.{table_rows, chunk_rows, applies, applied_of, fold, source_at, replica_at}
use Rattle.history.specs.Headline.{DigestsDistinguish, behind_applied, LeavesTable, NobodyElseWrites}
use Rattle.history.proofs.EqualLemmas.{stay_equal}
use Rattle.cluster_core.specs.Node.{NodeView, replayed_of}
use Rattle.cluster_core.specs.World.{WorldView, whole_table}
use Rattle.cluster_core.specs.Summary.{verdicts_of, equals_of, rows_equal}
use Rattle.report_text.specs.declared.summaries.VerdictLine.{VerdictLine}
use Rattle.cluster_core.proofs.EachLemmas.{each_more, each_at, slice_get_none}
use Rattle.cluster_core.proofs.OrderLemmas.{rows_equal_exact}
use Rattle.cluster_laws.proofs.EqualLineLemmas.{count_replayed, each_table_line, each_replica_line, replica_has_equal_line}
use Rattle.cluster_laws.specs.Headline.{log_of, source_rows_at, replica_rows_at, LineHolds, IsOfWholeTable, HasLine, IsApplying, AppliedAll, IsDistinguished, IsAllSame, HasEqualLine, SameIsEqual}

-- a replica at the end of a run, at its place
pub record Ended (schemas : List Schema) (log : List Entry) (node : NodeView) : Type 0 where
  pub schemas_are : node.schemas ≡ schemas
  pub applied : AppliedAll log node

-- an element that a list contains
each_contained : {A : Type 0} (P : A → Type 0) (xs : List A) (k : ℕ) (x d : A) → AllByRecursion P xs → k < length xs → slice_index_or xs k d ≡ x → P x
each_contained P [] k x d each lt is = absurd (omega (arith, lt))
each_contained P (y ∷ ys) zero x d each lt is = subst P is each.0
each_contained P (y ∷ ys) (suc k) x d each lt is = each_contained P ys k x d each.1 (omega (arith, lt)) is

-- each key is in the span of a whole table
all_rows : (key_len : ℕ) (rows : Rows) → filter (λ (row : Row). has whole_table (take key_len row)) rows ≡ rows
all_rows key_len [] = refl
all_rows key_len (row ∷ rows) = ap (λ (rest : Rows). row ∷ rest) (all_rows key_len rows)

whole_rows_at : (schemas : List Schema) (tables : TableRows) (table : ℕ) (found : Option Schema) → slice_get schemas table ≡ found → table < length schemas
    → option_map_or (λ (schema : Schema). rows_in schema whole_table (table_rows tables table)) found [] ≡ table_rows tables table
whole_rows_at schemas tables table None is lt =
    let most : length schemas ≤ table = slice_get_none schemas table is in
    absurd (omega (arith, most, lt))
whole_rows_at schemas tables table (Some schema) is lt = all_rows schema.key_len (table_rows tables table)

whole_rows : (schemas : List Schema) (tables : TableRows) (table : ℕ) → table < length schemas → chunk_rows schemas tables table whole_table ≡ table_rows tables table
whole_rows schemas tables table lt = whole_rows_at schemas tables table (slice_get schemas table) refl lt

-- where a replica only applies entries, nobody else writes a table of it
applying_leaves : (table : ℕ) (origin : Origin) (statements : List Statement) → IsApplying origin → LeavesTable table origin statements
applying_leaves table (Session session) statements is = absurd is
applying_leaves table Checksum statements is = absurd is
applying_leaves table (Sync replica repaired span) statements is = absurd is
applying_leaves table (Local session) statements is = absurd is
applying_leaves table (Applied number) statements is = tt

each_behind : (P : Entry → Type 0) (position : ℕ) (items : List Entry) → AllByRecursion P items → AllByRecursion P (behind_applied position items)
each_behind P position [] each = tt
each_behind P position (item ∷ items) each =
    elim (applies position item.origin) as (λ (b : Bool). AllByRecursion P (cond b items (behind_applied position items)))
    [ true ↦ each.1 | false ↦ each_behind P position items each.1 ]

nobody_else : (table position : ℕ) (history : List Entry) → AllByRecursion (λ (item : Entry). IsApplying item.origin) history → NobodyElseWrites table position history
nobody_else table position history alone =
    each_behind (λ (item : Entry). LeavesTable table item.origin item.statements) position history
    (each_more (λ (item : Entry). IsApplying item.origin) (λ (item : Entry). LeavesTable table item.origin item.statements) history
    (λ item is. applying_leaves table item.origin item.statements is) alone)

-- the rows of a table, as a line of the whole table has them
line_rows : (w : WorldView) (node : NodeView) (line : VerdictLine) (table : ℕ)
    → node.schemas ≡ w.source.schemas
    → table < length w.source.schemas
    → line.table ≡ table
    → line.span ≡ whole_table
    → source_rows_at w line ≡ replica_rows_at node line
    → table_rows (source_at w.source.schemas (log_of w.source) line.position).tables table
    ≡ table_rows (replica_at w.source.schemas (log_of node) line.position).tables table
line_rows w node line table schemas lt of_table whole same =
    let source : TableRows = (source_at w.source.schemas (log_of w.source) line.position).tables in
    let own : TableRows = (replica_at w.source.schemas (log_of node) line.position).tables in
    let source_rows : source_rows_at w line ≡ table_rows source table =
    ap (λ (n : ℕ). chunk_rows w.source.schemas source n line.span) of_table
    ∙ ap (chunk_rows w.source.schemas source table) whole
    ∙ whole_rows w.source.schemas source table lt in
    let own_rows : replica_rows_at node line ≡ table_rows own table =
    ap (λ (s : List Schema). chunk_rows s (replica_at s (log_of node) line.position).tables line.table line.span) schemas
    ∙ ap (λ (n : ℕ). chunk_rows w.source.schemas own n line.span) of_table
    ∙ ap (chunk_rows w.source.schemas own table) whole
    ∙ whole_rows w.source.schemas own table lt in
    sym source_rows ∙ same ∙ own_rows

-- a line that is SAME, of a replica that applied the whole log
equal_by_line : (w : WorldView) (node : NodeView) (line : VerdictLine) (table : ℕ)
    → Ended w.source.schemas w.source.history node
    → length w.source.start ≡ length node.start
    → table < length w.source.schemas
    → line.table ≡ table
    → line.span ≡ whole_table
    → (holds : LineHolds w line)
    → holds.node ≡ node
    → line.verdict ≡ Same
    → IsDistinguished w node line
    → rows_equal (table_rows (replayed_of w.source).tables table) (table_rows (replayed_of node).tables table) ≡ true
equal_by_line w node line table ended starts lt of_table whole holds is_node same distinguished =
    let schemas : List Schema = w.source.schemas in
    let in_log : line.position ≤ length w.source.history = holds.in_log in
    let all : applied_of node.history ≡ length w.source.history = ended.applied.all in
    let rows : source_rows_at w line ≡ replica_rows_at node line =
    subst (λ (n : NodeView). DigestsDistinguish holds.kind (source_rows_at w line) (replica_rows_at n line) → source_rows_at w line ≡ replica_rows_at n line) is_node
    (holds.compares.rows_same same)
    (distinguished holds.kind holds.checked) in
    let ends : table_rows (fold schemas w.source.start w.source.history).tables table ≡ table_rows (fold schemas node.start node.history).tables table =
    stay_equal schemas (log_of w.source) (log_of node) table line.position starts ended.applied.follows all
    (record {
      from_one = holds.from_one;
      applied = omega (arith, in_log, all);
      rows = line_rows w node line table ended.schemas_are lt of_table whole rows;
    })
    (nobody_else table line.position node.history ended.applied.alone) in
    (rows_equal_exact (table_rows (replayed_of w.source).tables table) (table_rows (replayed_of node).tables table)).1
    (ends ∙ ap (λ (s : List Schema). table_rows (fold s node.start node.history).tables table) (sym ended.schemas_are))

same_node : (nodes : List NodeView) (place : ℕ) (one other : NodeView) → slice_get nodes place ≡ Some one → slice_get nodes place ≡ Some other → one ≡ other
same_node nodes place one other first second =
    let same : Some one ≡ Some other = sym first ∙ second in
    cc

-- what is known of the lines of a finished run
pub record LinesHold (w : WorldView) : Type 0 where
  pub each_table : (replica table : ℕ) → 1 ≤ replica → replica ≤ length w.replicas → table < length w.source.schemas → HasLine (verdicts_of w) replica table
  pub hold : AllByRecursion (LineHolds w) (verdicts_of w)
  pub whole : AllByRecursion IsOfWholeTable (verdicts_of w)
  pub ended : AllByRecursion (Ended w.source.schemas w.source.history) w.replicas
  -- each node starts with a table for each schema
  pub start : length w.source.start ≡ length w.source.schemas
  pub starts : AllByRecursion (λ (node : NodeView). length node.start ≡ length w.source.schemas) w.replicas

table_is_equal : (w : WorldView) → LinesHold w → (replica table : ℕ) (node : NodeView)
    → 1 ≤ replica
    → slice_get w.replicas (replica - 1) ≡ Some node
    → table < length w.source.schemas
    → IsAllSame w replica node table
    → rows_equal (table_rows (replayed_of w.source).tables table) (table_rows (replayed_of node).tables table) ≡ true
table_is_equal w lines replica table node from_one found lt all_same =
    let within : replica - 1 < length w.replicas = slice_get_within w.replicas (replica - 1) node found in
    let has : HasLine (verdicts_of w) replica table = lines.each_table replica table from_one (omega (arith, within, from_one)) lt in
    let line : VerdictLine = has.line in
    let holds : LineHolds w line = each_contained (LineHolds w) (verdicts_of w) has.among.0 line line lines.hold has.among.1 has.among.2 in
    let of_whole : IsOfWholeTable line = each_contained IsOfWholeTable (verdicts_of w) has.among.0 line line lines.whole has.among.1 has.among.2 in
    let says = all_same line has.among has.of_replica has.of_table in
    let there : slice_get w.replicas (replica - 1) ≡ Some holds.node = subst (λ n. slice_get w.replicas (n - 1) ≡ Some holds.node) has.of_replica holds.found in
    let own_start : length node.start ≡ length w.source.schemas = each_at (λ (n : NodeView). length n.start ≡ length w.source.schemas) w.replicas (replica - 1) node lines.starts found in
    equal_by_line w node line table (each_at (Ended w.source.schemas w.source.history) w.replicas (replica - 1) node lines.ended found)
    (lines.start ∙ sym own_start) lt has.of_table of_whole.whole holds
    (same_node w.replicas (replica - 1) holds.node node there found) says.0 says.1

-- how many tables a node has at the log's end
source_count : (w : WorldView) → LinesHold w → length (replayed_of w.source).tables ≡ length w.source.schemas
source_count w lines = count_replayed w.source.schemas 1 w.source.history (record { tables = w.source.start; checks = [] }) ∙ lines.start

pub same_is_equal : (w : WorldView) → LinesHold w → AllByRecursion (SameIsEqual w) (equals_of w)
same_is_equal w lines =
    let source : TableRows = (replayed_of w.source).tables in
    each_replica_line (SameIsEqual w) 1 source w.replicas (λ k node found.
    each_table_line (SameIsEqual w) (1 + k) 0 source (replayed_of node).tables (λ table lt other at all_same.
    let within : table < length w.source.schemas = subst (λ (n : ℕ). table < n) (source_count w lines) lt in
    let place : 1 + k - 1 ≡ k = omega arith in
    let number : 0 + table ≡ table = omega arith in
    let same : other ≡ node = same_node w.replicas k other node (subst (λ (n : ℕ). slice_get w.replicas n ≡ Some other) place at) found in
    subst (λ (n : NodeView). rows_equal (table_rows source table) (table_rows (replayed_of n).tables table) ≡ true) same
    (table_is_equal w lines (1 + k) table other (omega arith) at within (subst (λ (n : ℕ). IsAllSame w (1 + k) other n) number all_same))))

pub each_equal_line : (w : WorldView) → LinesHold w
    → (replica table : ℕ) → 1 ≤ replica → replica ≤ length w.replicas → table < length w.source.schemas → HasEqualLine (equals_of w) replica table
each_equal_line w lines replica table from_one most within =
    let count : length (replayed_of w.source).tables ≡ length w.source.schemas = source_count w lines in
    replica_has_equal_line 1 (replica - 1) replica table (replayed_of w.source).tables w.replicas (omega (arith, from_one)) (omega (arith, from_one, most))
    (subst (λ (n : ℕ). table < n) (sym count) within)
    (each_more (λ (node : NodeView). length node.start ≡ length w.source.schemas) (λ (node : NodeView). length (replayed_of w.source).tables ≡ length (replayed_of node).tables) w.replicas
    (λ node own. count ∙ sym own ∙ sym (count_replayed node.schemas 1 node.history (record { tables = node.start; checks = [] })))
    lines.starts)
