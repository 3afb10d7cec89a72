-- Each table of each replica has its line, which is EQUAL exactly where the rows are the source's.
use Rattle.std.proofs.Common.{◌≡◌, ◌∙◌, ℕ, zero, suc, ◌+◌, ◌-◌, ◌<◌, ◌≤◌, ◌↔◌, true, List, [], ◌∷◌, ◌++◌, Some, length, map, refl, ap, sym, subst, arith}
use Rattle.std.specs.List.{AllByRecursion, slice_get}
use Rattle.std.specs.Ordering.{is_eq}
use Rattle.std.specs.Cmp.Lexicographic.{slice_cmp}
use Rattle.std.specs.FinMap.{slice_cmp-IsAntisymmetric}
use Rattle.std.specs.declared.cmp.Ordering.{Ordering}
use Rattle.std.specs.declared.cmp.Ordering.TheVariants.{Less, Equal, Greater}
use Rattle.std.proofs.lemmas.List.Elements.{Contains-append_left, Contains-append_right, Contains-push}
use Rattle.row_types.specs.declared.table_schema.Schema.{Schema}
use Rattle.row_types.specs.KeyRows.{Rows, TableRows}
use Rattle.row_types.specs.Order.{key_cmp}
use Rattle.row_types.proofs.OrderLemmas.{keys_exact, key_ties}
use Rattle.history.specs.Replay.{table_rows, fold}
use Rattle.report_text.specs.declared.summaries.EqualLine.{EqualLine}
use Rattle.world_model.specs.Worlds.{WorldView, ReplicaView, begun}
use Rattle.world_model.specs.Turns.{played}
use Rattle.world_model.specs.Verdicts.{rows_equal, equals_on}
use Rattle.world_model.specs.Summary.{replayed_of, final_rows, equals_from}
use Rattle.headline_laws.specs.Equals.{EqualLineHolds, HasEqualLine, EqualLinesHold, EachTableHasItsLine}
use Rattle.headline_laws.proofs.ListLemmas.{each_joined, each_is, each_at}
use Rattle.headline_laws.proofs.ReplayLemmas.{fold_are, as_many_tables, Replays, NodesReplay, nodes_replay}

rows_tie : (rows : Rows) → slice_cmp key_cmp rows rows ≡ Equal
rows_tie [] = refl
rows_tie (row ∷ rows) = rw (key_ties row) (rows_tie rows)

is_tie : (o : Ordering) → is_eq o ≡ true → o ≡ Equal
is_tie Less e = cc
is_tie Equal e = refl
is_tie Greater e = cc

-- rows are told as equal exactly where they are
pub rows_equal_exact : (rows others : Rows) → (rows_equal rows others ≡ true) ↔ (rows ≡ others)
rows_equal_exact rows others = (
  λ e. slice_cmp-IsAntisymmetric keys_exact rows others (is_tie (slice_cmp key_cmp rows others) e),
  λ e. ap is_eq (subst (λ (xs : Rows). slice_cmp key_cmp rows xs ≡ Equal) e (rows_tie rows)),
)

-- what holds of the line of each table holds of all lines of a replica, its first table of this number
each_table_line : (P : EqualLine → Type 0) (replica first : ℕ) (source own : TableRows)
    → ((k : ℕ) → k < length source → P (record { replica = replica; table = first + k; equal = rows_equal (table_rows source k) (table_rows own k) }))
    → AllByRecursion P (equals_on replica first source own)
each_table_line P replica first [] own each = tt
each_table_line P replica first (rows ∷ source) [] each = tt
each_table_line P replica first (rows ∷ source) (other ∷ own) each =
    let here : first + 0 ≡ first = omega arith in (
      subst (λ (n : ℕ). P (record { replica = replica; table = n; equal = rows_equal rows other })) here (each 0 (omega arith)),
      each_table_line P replica (first + 1) source own (λ k lt.
          let next : first + suc k ≡ first + 1 + k = omega arith in
          subst (λ (n : ℕ). P (record { replica = replica; table = n; equal = rows_equal (table_rows source k) (table_rows own k) })) next (each (suc k) (omega (arith, lt)))),
    )

-- and what holds of those of each replica holds of all, the first of this number
each_replica_line : (P : EqualLine → Type 0) (number : ℕ) (source : TableRows) (replicas : List ReplicaView)
    → ((k : ℕ) (replica : ReplicaView) → slice_get replicas k ≡ Some replica → AllByRecursion P (equals_on (number + k) 0 source (final_rows replica)))
    → AllByRecursion P (equals_from number source (map final_rows replicas))
each_replica_line P number source [] each = tt
each_replica_line P number source (replica ∷ replicas) each =
    let here : number + 0 ≡ number = omega arith in
    each_joined P (equals_on number 0 source (final_rows replica)) (equals_from (number + 1) source (map final_rows replicas))
    (subst (λ (n : ℕ). AllByRecursion P (equals_on n 0 source (final_rows replica))) here (each 0 replica refl))
    (each_replica_line P (number + 1) source replicas (λ k other found.
    let next : number + suc k ≡ number + 1 + k = omega arith in
    subst (λ (n : ℕ). AllByRecursion P (equals_on n 0 source (final_rows other))) next (each (suc k) other found)))

line_before : (lines more : List EqualLine) (replica table : ℕ) → HasEqualLine lines replica table → HasEqualLine (lines ++ more) replica table
line_before lines more replica table has = record {
  line = has.line;
  among = Contains-append_left lines more has.line has.among;
  of_replica = has.of_replica;
  of_table = has.of_table;
}

line_later : (front lines : List EqualLine) (replica table : ℕ) → HasEqualLine lines replica table → HasEqualLine (front ++ lines) replica table
line_later front lines replica table has = record {
  line = has.line;
  among = Contains-append_right front lines has.line has.among;
  of_replica = has.of_replica;
  of_table = has.of_table;
}

-- the table that stands k after the first, whose number is given
table_has_line : (replica first k table : ℕ) (source own : TableRows)
    → table ≡ first + k
    → k < length source
    → length source ≡ length own
    → HasEqualLine (equals_on replica first source own) replica table
table_has_line replica first k table [] own at within alike = absurd (omega (arith, within))
table_has_line replica first k table (rows ∷ source) [] at within alike = absurd (omega (arith, alike))
table_has_line replica first zero table (rows ∷ source) (other ∷ own) at within alike =
    let line : EqualLine = record { replica = replica; table = first; equal = rows_equal rows other } in
    record {
      line = line;
      among = Contains-append_left (line ∷ []) (equals_on replica (first + 1) source own) line (Contains-push [] line);
      of_replica = refl;
      of_table = omega (arith, at);
    }
table_has_line replica first (suc k) table (rows ∷ source) (other ∷ own) at within alike =
    line_later (record { replica = replica; table = first; equal = rows_equal rows other } ∷ []) (equals_on replica (first + 1) source own) replica table
    (table_has_line replica (first + 1) k table source own (omega (arith, at)) (omega (arith, within)) (omega (arith, alike)))

-- the replica that stands k after the first, whose number is given
replica_has_line : (number k replica table : ℕ) (source : TableRows) (replicas : List ReplicaView)
    → replica ≡ number + k
    → k < length replicas
    → table < length source
    → AllByRecursion (λ (one : ReplicaView). length source ≡ length (final_rows one)) replicas
    → HasEqualLine (equals_from number source (map final_rows replicas)) replica table
replica_has_line number k replica table source [] at within lt alike = absurd (omega (arith, within))
replica_has_line number zero replica table source (one ∷ replicas) at within lt alike =
    let first : number ≡ replica = omega (arith, at) in
    line_before (equals_on number 0 source (final_rows one)) (equals_from (number + 1) source (map final_rows replicas)) replica table
    (subst (λ (n : ℕ). HasEqualLine (equals_on number 0 source (final_rows one)) n table) first
    (table_has_line number 0 table table source (final_rows one) (omega arith) lt alike.0))
replica_has_line number (suc k) replica table source (one ∷ replicas) at within lt alike =
    line_later (equals_on number 0 source (final_rows one)) (equals_from (number + 1) source (map final_rows replicas)) replica table
    (replica_has_line (number + 1) k replica table source replicas (omega (arith, at)) (omega (arith, within)) lt alike.1)

line_holds : (world : WorldView) (number table : ℕ) (replica : ReplicaView) → 1 ≤ number → slice_get world.replicas (number - 1) ≡ Some replica → replica.node.schemas ≡ world.source.schemas
    → table < length world.source.schemas
    → EqualLineHolds world (record { replica = number; table = table; equal = rows_equal (table_rows (replayed_of world.source).tables table) (table_rows (final_rows replica) table) })
line_holds world number table replica from_one found same lt = record {
  replica_from_one = from_one;
  replica = replica;
  found = found;
  in_tables = lt;
  exact = subst (λ (s : List Schema).
      (rows_equal (table_rows (replayed_of world.source).tables table) (table_rows (final_rows replica) table) ≡ true)
      ↔ (table_rows (replayed_of world.source).tables table ≡ table_rows (fold s replica.node.start replica.node.history).tables table)) same
      (rows_equal_exact (table_rows (replayed_of world.source).tables table) (table_rows (final_rows replica) table));
}

source_count : (world : WorldView) → NodesReplay world → length (replayed_of world.source).tables ≡ length world.source.schemas
source_count world nodes = as_many_tables world.source.schemas (replayed_of world.source).tables (fold_are world.source.schemas world.source.start world.source.history nodes.source.start nodes.source.fit)

replica_count : (schemas : List Schema) (replica : ReplicaView) → Replays schemas replica.node → length (final_rows replica) ≡ length schemas
replica_count schemas replica known =
    ap (λ (s : List Schema). length (fold s replica.node.start replica.node.history).tables) known.same
    ∙ as_many_tables schemas (fold schemas replica.node.start replica.node.history).tables (fold_are schemas replica.node.start replica.node.history known.start known.fit)

pub equal_lines_hold : (world : WorldView) → NodesReplay world → EqualLinesHold world
equal_lines_hold world nodes =
    let source : TableRows = (replayed_of world.source).tables in
    let count : length source ≡ length world.source.schemas = source_count world nodes in
    record {
      each_table = λ replica table from_one most within.
          replica_has_line 1 (replica - 1) replica table source world.replicas (omega (arith, from_one)) (omega (arith, from_one, most))
          (subst (λ (n : ℕ). table < n) (sym count) within)
          (each_is (λ (one : ReplicaView). Replays world.source.schemas one.node) (λ (one : ReplicaView). length source ≡ length (final_rows one)) world.replicas
          (λ one known. count ∙ sym (replica_count world.source.schemas one known)) nodes.replicas);
      each_line = each_replica_line (EqualLineHolds world) 1 source world.replicas (λ k replica found.
          let place : k ≡ 1 + k - 1 = omega arith in
          let known : Replays world.source.schemas replica.node = each_at (λ (one : ReplicaView). Replays world.source.schemas one.node) world.replicas k replica nodes.replicas found in
          each_table_line (EqualLineHolds world) (1 + k) 0 source (final_rows replica) (λ table lt.
          let number : table ≡ 0 + table = omega arith in
          subst (λ (n : ℕ). EqualLineHolds world (record { replica = 1 + k; table = n; equal = rows_equal (table_rows source table) (table_rows (final_rows replica) table) })) number
          (line_holds world (1 + k) table replica (omega arith) (subst (λ (n : ℕ). slice_get world.replicas n ≡ Some replica) place found) known.same (subst (λ (n : ℕ). table < n) count lt))));
    }

pub each_table_line_holds : EachTableHasItsLine
each_table_line_holds options workload items can clients = equal_lines_hold (played items (begun options workload)) (nodes_replay options workload items can)
