-- The lines that say of each table on each replica whether it is equal at the log's end.
use Rattle.std.proofs.Common.{◌≡◌, ℕ, zero, suc, ◌+◌, ◌<◌, List, [], ◌∷◌, ◌++◌, length, Option, None, Some, refl, ◌∙◌, subst, arith}
use Rattle.std.specs.Prelude.{slice_set}
use Rattle.std.specs.List.{AllByRecursion, slice_get}
use Rattle.std.specs.Option.{option_map_or}
use Rattle.std.proofs.Math.ListN.{length-set}
use Rattle.std.proofs.lemmas.List.Elements.{Contains-append_left, Contains-append_right, Contains-push}
use Rattle.row_types.specs.declared.table_schema.Schema.{Schema}
use Rattle.row_types.specs.KeyRows.{TableRows}
use Rattle.ptc_statement.specs.declared.statements.Statement.{Statement}
use Rattle.ptc_statement.specs.Effect.{table_of, rows_after}
use Rattle.statement_log.specs.declared.entries.Entry.{Entry}
use Rattle.history.specs.Replay.{Replayed, table_rows, tables_after, after_statement, after_statements, after_entry, position_of, replay_from}
use Rattle.report_text.specs.declared.summaries.EqualLine.{EqualLine}
use Rattle.history.proofs.EqualLemmas.{count_after}
use Rattle.cluster_core.specs.Node.{NodeView, replayed_of}
use Rattle.cluster_core.specs.Summary.{rows_equal, equals_on, equals_from}
use Rattle.cluster_core.proofs.EachLemmas.{each_append}
use Rattle.cluster_laws.specs.Headline.{HasEqualLine}

count_after_all : (schemas : List Schema) (position : ℕ) (statements : List Statement) (here : Replayed) → length (after_statements schemas position statements here).tables ≡ length here.tables
count_after_all schemas position [] here = refl
count_after_all schemas position (statement ∷ statements) here =
    count_after_all schemas position statements (after_statement schemas position statement here) ∙ count_after schemas statement here.tables

pub count_replayed : (schemas : List Schema) (number : ℕ) (entries : List Entry) (here : Replayed) → length (replay_from schemas number entries here).tables ≡ length here.tables
count_replayed schemas number [] here = refl
count_replayed schemas number (entry ∷ entries) here =
    count_replayed schemas (number + 1) entries (after_entry schemas number entry here)
    ∙ count_after_all schemas (position_of number entry.origin) entry.statements here

-- what holds of the line of each table holds of all lines of a replica, its first table of this number
pub each_table_line : (P : EqualLine → Type 0) (replica first : ℕ) (source own : TableRows)
    → ((k : ℕ) → k < length source → P (record { replica = replica; table = first + k; equal = rows_equal (table_rows source k) (table_rows own k) }))
    → AllByRecursion P (equals_on replica first source own)
each_table_line P replica first [] own each = tt
each_table_line P replica first (rows ∷ source) [] each = tt
each_table_line P replica first (rows ∷ source) (other ∷ own) each =
    let here : first + 0 ≡ first = omega arith in (
      subst (λ (n : ℕ). P (record { replica = replica; table = n; equal = rows_equal rows other })) here (each 0 (omega arith)),
      each_table_line P replica (first + 1) source own (λ k lt.
          let next : first + suc k ≡ first + 1 + k = omega arith in
          subst (λ (n : ℕ). P (record { replica = replica; table = n; equal = rows_equal (table_rows source k) (table_rows own k) })) next (each (suc k) (omega (arith, lt)))),
    )

-- and what holds of those of each replica holds of all, the first of this number
pub each_replica_line : (P : EqualLine → Type 0) (number : ℕ) (source : TableRows) (nodes : List NodeView)
    → ((k : ℕ) (node : NodeView) → slice_get nodes k ≡ Some node → AllByRecursion P (equals_on (number + k) 0 source (replayed_of node).tables))
    → AllByRecursion P (equals_from number source nodes)
each_replica_line P number source [] each = tt
each_replica_line P number source (node ∷ nodes) each =
    let here : number + 0 ≡ number = omega arith in
    each_append P (equals_on number 0 source (replayed_of node).tables) (equals_from (number + 1) source nodes)
    (subst (λ (n : ℕ). AllByRecursion P (equals_on n 0 source (replayed_of node).tables)) here (each 0 node refl))
    (each_replica_line P (number + 1) source nodes (λ k other found.
    let next : number + suc k ≡ number + 1 + k = omega arith in
    subst (λ (n : ℕ). AllByRecursion P (equals_on n 0 source (replayed_of other).tables)) next (each (suc k) other found)))

line_before : (lines more : List EqualLine) (replica table : ℕ) → HasEqualLine lines replica table → HasEqualLine (lines ++ more) replica table
line_before lines more replica table has = record {
  line = has.line;
  among = Contains-append_left lines more has.line has.among;
  of_replica = has.of_replica;
  of_table = has.of_table;
}

line_later : (front lines : List EqualLine) (replica table : ℕ) → HasEqualLine lines replica table → HasEqualLine (front ++ lines) replica table
line_later front lines replica table has = record {
  line = has.line;
  among = Contains-append_right front lines has.line has.among;
  of_replica = has.of_replica;
  of_table = has.of_table;
}

-- the table that stands k after the first, whose number is given
table_has_equal_line : (replica first k table : ℕ) (source own : TableRows)
    → table ≡ first + k
    → k < length source
    → length source ≡ length own
    → HasEqualLine (equals_on replica first source own) replica table
table_has_equal_line replica first k table [] own at within alike = absurd (omega arith)
table_has_equal_line replica first k table (rows ∷ source) [] at within alike = absurd (omega (arith, alike))
table_has_equal_line replica first zero table (rows ∷ source) (other ∷ own) at within alike =
    let line : EqualLine = record { replica = replica; table = first; equal = rows_equal rows other } in
    record {
      line = line;
      among = Contains-append_left (line ∷ []) (equals_on replica (first + 1) source own) line (Contains-push [] line);
      of_replica = refl;
      of_table = omega (arith, at);
    }
table_has_equal_line replica first (suc k) table (rows ∷ source) (other ∷ own) at within alike =
    line_later (record { replica = replica; table = first; equal = rows_equal rows other } ∷ []) (equals_on replica (first + 1) source own) replica table
    (table_has_equal_line replica (first + 1) k table source own (omega (arith, at)) (omega (arith, within)) (omega (arith, alike)))

-- the replica that stands k after the first, whose number is given
pub replica_has_equal_line : (number k replica table : ℕ) (source : TableRows) (nodes : List NodeView)
    → replica ≡ number + k
    → k < length nodes
    → table < length source
    → AllByRecursion (λ (node : NodeView). length source ≡ length (replayed_of node).tables) nodes
    → HasEqualLine (equals_from number source nodes) replica table
replica_has_equal_line number k replica table source [] at within lt alike = absurd (omega arith)
replica_has_equal_line number zero replica table source (node ∷ nodes) at within lt alike =
    let first : number ≡ replica = omega (arith, at) in
    line_before (equals_on number 0 source (replayed_of node).tables) (equals_from (number + 1) source nodes) replica table
    (subst (λ (n : ℕ). HasEqualLine (equals_on number 0 source (replayed_of node).tables) n table) first
    (table_has_equal_line number 0 table table source (replayed_of node).tables (omega arith) lt alike.0))
replica_has_equal_line number (suc k) replica table source (node ∷ nodes) at within lt alike =
    line_later (equals_on number 0 source (replayed_of node).tables) (equals_from (number + 1) source nodes) replica table
    (replica_has_equal_line (number + 1) k replica table source nodes (omega (arith, at)) (omega (arith, within)) lt alike.1)
