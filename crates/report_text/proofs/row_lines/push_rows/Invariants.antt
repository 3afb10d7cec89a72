use Rattle.std.proofs.Common.{◌≡◌, ◌++◌, drop}
use Rattle.report_text.specs.Report.{rows_lines}
use Rattle.report_text.proofs.row_lines.push_rows.Given as goal

-- what is written, and then the text of what is left, is the whole
abbrev pub invariant-loop-row : goal.invariant-loop-row
invariant-loop-row l =
    record l.writer { text = l.writer.text ++ rows_lines l.writer.schemas l.word l.node l.table (drop l.row-index l.rows) }
    ≡ record l.initial.writer { text = l.initial.writer.text ++ rows_lines l.initial.writer.schemas l.word l.node l.table l.rows }
