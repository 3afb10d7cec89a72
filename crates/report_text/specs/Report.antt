-- The text of a report: a word for each kind of line, and the lines in the order in which they are written.
use Rattle.std.specs.Prelude.{ℕ, ◌+◌, ◌==◌, cond, List, [], ◌∷◌, ◌++◌, Option, None, Some, codes}
use Rattle.std.specs.List.{flat_map}
use Rattle.std.specs.Fmt.{decimal}
use Rattle.row_types.specs.declared.table_schema.Schema.{Schema}
use Rattle.row_types.specs.declared.edges.Span.{Span}
use Rattle.row_types.specs.KeyRows.{Row, Rows, TableRows}
use Rattle.ptc_statement.specs.declared.statements.Statement.{Statement}
use Rattle.statement_log.specs.declared.origins.Origin.{Origin}
use Rattle.statement_log.specs.declared.origins.Origin.TheVariants.{Session, Checksum, Sync, Local, Applied}
use Rattle.statement_log.specs.declared.entries.Entry.{Entry}
use Rattle.checksum_table.specs.declared.check_rows.Verdict.{Verdict}
use Rattle.checksum_table.specs.declared.check_rows.Verdict.TheVariants.{Same, Differ, Pending}
use Rattle.workload_file.specs.declared.actors.Actor.{Actor}
use Rattle.workload_file.specs.declared.actors.Actor.TheVariants.{Session as SessionActor, Tool, Worker}
use Rattle.statement_text.specs.Texts.{name_of, table_line, tuple_text, span_text}
use Rattle.statement_text.specs.StatementTexts.{statement_text}
use Rattle.report_text.specs.declared.summaries.Summary.{Summary}
use Rattle.report_text.specs.declared.summaries.VerdictLine.{VerdictLine}
use Rattle.report_text.specs.declared.summaries.EqualLine.{EqualLine}
use Rattle.report_text.specs.declared.summaries.DuplicateLine.{DuplicateLine}

-- The first line, and a line for each table.
unfoldable pub head_text : List Schema → List ℕ
head_text schemas = codes "PTC REPORT 1\n" ++ flat_map table_line schemas

-- Rows of nodes, at the start and at the end.

unfoldable pub replica_text : ℕ → List ℕ
replica_text replica = codes "r" ++ decimal replica

-- the node of this number: 0 is the source
unfoldable pub node_text : ℕ → List ℕ
node_text node = cond (node == 0) (codes "source") (replica_text node)

-- START or FINAL, the node, the table
unfoldable pub row_place_text : List Schema → List ℕ → ℕ → ℕ → List ℕ
row_place_text schemas word node table = word ++ codes " " ++ node_text node ++ codes " " ++ name_of schemas table ++ codes " "

unfoldable pub row_line : List Schema → List ℕ → ℕ → ℕ → Row → List ℕ
row_line schemas word node table row = row_place_text schemas word node table ++ tuple_text row ++ codes "\n"

abbrev pub rows_lines : List Schema → List ℕ → ℕ → ℕ → Rows → List ℕ
rows_lines schemas word node table [] = []
rows_lines schemas word node table (row ∷ rows) = row_line schemas word node table row ++ rows_lines schemas word node table rows

-- the rows of a node's tables, the first table of this number
abbrev pub tables_lines : List Schema → List ℕ → ℕ → ℕ → TableRows → List ℕ
tables_lines schemas word node table [] = []
tables_lines schemas word node table (rows ∷ tables) = rows_lines schemas word node table rows ++ tables_lines schemas word node (table + 1) tables

-- the rows of nodes, the first node of this number
abbrev pub nodes_lines : List Schema → List ℕ → ℕ → List TableRows → List ℕ
nodes_lines schemas word node [] = []
nodes_lines schemas word node (tables ∷ nodes) = tables_lines schemas word node 0 tables ++ nodes_lines schemas word (node + 1) nodes

-- The log.

-- the repair tool of a replica, with the table and the span that it repaired
unfoldable pub repair_text : List Schema → ℕ → ℕ → Span → List ℕ
repair_text schemas replica table span = codes "y" ++ decimal replica ++ codes " " ++ name_of schemas table ++ codes " " ++ span_text span

unfoldable pub origin_text : List Schema → Origin → List ℕ
origin_text schemas (Session session) = codes "s" ++ decimal session
origin_text schemas Checksum = codes "c"
origin_text schemas (Sync replica table span) = repair_text schemas replica table span
origin_text schemas (Local session) = codes "l" ++ decimal session
origin_text schemas (Applied entry) = codes "applied " ++ decimal entry

unfoldable pub statement_line : List Schema → Statement → List ℕ
statement_line schemas statement = codes "  " ++ statement_text schemas statement ++ codes "\n"

abbrev pub statement_lines : List Schema → List Statement → List ℕ
statement_lines schemas [] = []
statement_lines schemas (statement ∷ statements) = statement_line schemas statement ++ statement_lines schemas statements

unfoldable pub entry_line : List Schema → ℕ → Origin → List ℕ
entry_line schemas number origin = codes "LOG " ++ decimal number ++ codes " " ++ origin_text schemas origin ++ codes "\n"

-- the entries of a log, the first of this number, each with its statements
abbrev pub log_lines : List Schema → ℕ → List Entry → List ℕ
log_lines schemas number [] = []
log_lines schemas number (entry ∷ entries) =
    entry_line schemas number entry.origin ++ statement_lines schemas entry.statements ++ log_lines schemas (number + 1) entries

-- Histories of replicas.

-- a local session stands after its replica
unfoldable pub item_origin_text : List Schema → ℕ → Origin → List ℕ
item_origin_text schemas replica (Session session) = origin_text schemas (Session session)
item_origin_text schemas replica Checksum = origin_text schemas Checksum
item_origin_text schemas replica (Sync repaired table span) = origin_text schemas (Sync repaired table span)
item_origin_text schemas replica (Local session) = codes "local " ++ replica_text replica ++ codes "." ++ origin_text schemas (Local session)
item_origin_text schemas replica (Applied entry) = origin_text schemas (Applied entry)

unfoldable pub item_line : List Schema → ℕ → Origin → List ℕ
item_line schemas replica origin = codes "HISTORY " ++ replica_text replica ++ codes " " ++ item_origin_text schemas replica origin ++ codes "\n"

-- the statements under an item: those of an entry that was applied stand in the log
abbrev pub statements_under : Origin → List Statement → List Statement
statements_under (Session session) statements = statements
statements_under Checksum statements = statements
statements_under (Sync replica table span) statements = statements
statements_under (Local session) statements = statements
statements_under (Applied entry) statements = []

-- an item of a replica's history
unfoldable pub item_lines : List Schema → ℕ → Entry → List ℕ
item_lines schemas replica item = item_line schemas replica item.origin ++ statement_lines schemas (statements_under item.origin item.statements)

abbrev pub history_lines : List Schema → ℕ → List Entry → List ℕ
history_lines schemas replica [] = []
history_lines schemas replica (item ∷ items) = item_lines schemas replica item ++ history_lines schemas replica items

-- the histories of replicas, the first replica of this number
abbrev pub histories_lines : List Schema → ℕ → List (List Entry) → List ℕ
histories_lines schemas replica [] = []
histories_lines schemas replica (history ∷ histories) = history_lines schemas replica history ++ histories_lines schemas (replica + 1) histories

-- Verdicts.

unfoldable pub verdict_text : Verdict → List ℕ
verdict_text Same = codes "SAME"
verdict_text Differ = codes "DIFFER"
verdict_text Pending = codes "PENDING"

unfoldable pub count_text : Option ℕ → List ℕ
count_text None = codes "-"
count_text (Some count) = decimal count

-- the replica, the table and the number of the chunk
unfoldable pub verdict_place_text : List Schema → VerdictLine → List ℕ
verdict_place_text schemas line = codes "VERDICT " ++ replica_text line.replica ++ codes " " ++ name_of schemas line.table ++ codes " " ++ decimal line.chunk

-- its edges, and the log position of its CHECKSUM
unfoldable pub verdict_span_text : VerdictLine → List ℕ
verdict_span_text line = codes " " ++ span_text line.span ++ codes " AT " ++ decimal line.position

unfoldable pub verdict_counts_text : VerdictLine → List ℕ
verdict_counts_text line = codes " COUNT " ++ count_text line.master ++ codes " " ++ count_text line.own

unfoldable pub verdict_line : List Schema → VerdictLine → List ℕ
verdict_line schemas line =
    verdict_place_text schemas line ++ verdict_span_text line ++ verdict_counts_text line
    ++ codes " " ++ verdict_text line.verdict ++ codes "\n"

abbrev pub verdict_lines : List Schema → List VerdictLine → List ℕ
verdict_lines schemas [] = []
verdict_lines schemas (line ∷ lines) = verdict_line schemas line ++ verdict_lines schemas lines

-- Equal tables, duplicates and the status.

unfoldable pub equal_line : List Schema → EqualLine → List ℕ
equal_line schemas line =
    cond line.equal (codes "EQUAL ") (codes "UNEQUAL ") ++ replica_text line.replica ++ codes " " ++ name_of schemas line.table ++ codes "\n"

abbrev pub equal_lines : List Schema → List EqualLine → List ℕ
equal_lines schemas [] = []
equal_lines schemas (line ∷ lines) = equal_line schemas line ++ equal_lines schemas lines

-- the first worker of a replica has the replica's name
unfoldable pub actor_text : Actor → List ℕ
actor_text (SessionActor session) = codes "s" ++ decimal session
actor_text Tool = codes "c"
actor_text (Worker replica worker) = replica_text replica ++ cond (worker == 1) [] (codes "." ++ decimal worker)

unfoldable pub duplicate_line : DuplicateLine → List ℕ
duplicate_line line = codes "DUPLICATE " ++ actor_text line.actor ++ codes " line " ++ decimal line.line ++ codes "\n"

unfoldable pub status_line : ℕ → List ℕ
status_line status = codes "STATUS " ++ decimal status ++ codes "\n"

unfoldable pub end_text : Summary → List ℕ
end_text summary = equal_lines summary.schemas.tables summary.equal ++ flat_map duplicate_line summary.duplicates ++ status_line summary.status

-- The whole report.

unfoldable pub start_word : List ℕ
start_word = codes "START"

unfoldable pub final_word : List ℕ
final_word = codes "FINAL"

unfoldable pub report_of : Summary → List ℕ
report_of summary =
    head_text summary.schemas.tables
    ++ nodes_lines summary.schemas.tables start_word 0 summary.start
    ++ log_lines summary.schemas.tables 1 summary.log
    ++ histories_lines summary.schemas.tables 1 summary.histories
    ++ verdict_lines summary.schemas.tables summary.verdicts
    ++ nodes_lines summary.schemas.tables final_word 0 summary.finals
    ++ end_text summary
