use Rattle.std.proofs.Common.{◌≡◌, ◌++◌, drop}
use Rattle.report_text.specs.Report.{statement_lines}
use Rattle.report_text.proofs.log_lines.push_statements.Given as goal

-- what is written, and then the text of what is left, is the whole
abbrev pub invariant-loop-statement : goal.invariant-loop-statement
invariant-loop-statement l =
    record l.writer { text = l.writer.text ++ statement_lines l.writer.schemas (drop l.statement-index l.statements) }
    ≡ record l.initial.writer { text = l.initial.writer.text ++ statement_lines l.initial.writer.schemas l.statements }
