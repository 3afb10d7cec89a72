use Rattle.std.proofs.Common.{◌≡◌, ◌++◌, drop}
use Rattle.report_text.specs.Report.{tables_lines}
use Rattle.report_text.proofs.row_lines.push_tables.Given as goal

-- what is written, and then the text of what is left, is the whole
abbrev pub invariant-loop-table : goal.invariant-loop-table
invariant-loop-table l =
    record l.writer { text = l.writer.text ++ tables_lines l.writer.schemas l.word l.node l.table (drop l.table l.tables) }
    ≡ record l.initial.writer { text = l.initial.writer.text ++ tables_lines l.initial.writer.schemas l.word l.node 0 l.tables }
