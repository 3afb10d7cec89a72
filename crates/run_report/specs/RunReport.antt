-- The text of a report on a run by moves: the groups of lines in the order in which they are written.
use Rattle.std.specs.Prelude.{ℕ, Bool, cond, List, [], ◌++◌}
use Rattle.std.specs.List.{flat_map}
use Rattle.row_types.specs.declared.table_schema.Schema.{Schema}
use Rattle.report_text.specs.Report.{head_text, start_word, final_word, nodes_lines, log_lines, histories_lines, verdict_lines, equal_lines, status_line}
use Rattle.trace_text.specs.declared.lines.JournalLine.{JournalLine}
use Rattle.trace_text.specs.Trace.{journal_lines, duplicate_line, abandoned_line, unfinished_line}
use Rattle.run_report.specs.declared.summaries.RunSummary.{RunSummary}

-- the turns, where a trace is asked for
abbrev pub trace_lines : List Schema → Bool → List JournalLine → List ℕ
trace_lines schemas trace journal = cond trace (journal_lines schemas 1 journal) []

-- what was logged and applied, and the verdicts on it
unfoldable pub run_text : RunSummary → List ℕ
run_text summary =
    log_lines summary.schemas.tables 1 summary.log
    ++ histories_lines summary.schemas.tables 1 summary.histories
    ++ verdict_lines summary.schemas.tables summary.verdicts

-- which tables are equal, what the actors leave, and the status
unfoldable pub end_text : RunSummary → List ℕ
end_text summary =
    equal_lines summary.schemas.tables summary.equal
    ++ flat_map duplicate_line summary.duplicates
    ++ flat_map abandoned_line summary.abandoned
    ++ flat_map unfinished_line summary.unfinished
    ++ status_line summary.status

unfoldable pub report_of : Bool → RunSummary → List ℕ
report_of trace summary =
    head_text summary.schemas.tables
    ++ nodes_lines summary.schemas.tables start_word 0 summary.start
    ++ trace_lines summary.schemas.tables trace summary.journal
    ++ run_text summary
    ++ nodes_lines summary.schemas.tables final_word 0 summary.finals
    ++ end_text summary
