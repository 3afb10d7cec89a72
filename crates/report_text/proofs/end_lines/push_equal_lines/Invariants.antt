use Rattle.std.proofs.Common.{◌≡◌, ◌++◌, drop}
use Rattle.report_text.specs.Report.{equal_lines}
use Rattle.report_text.proofs.end_lines.push_equal_lines.Given as goal

-- what is written, and then the text of what is left, is the whole
abbrev pub invariant-loop-line : goal.invariant-loop-line
invariant-loop-line l =
    record l.writer { text = l.writer.text ++ equal_lines l.writer.schemas (drop l.line-index l.lines) }
    ≡ record l.initial.writer { text = l.initial.writer.text ++ equal_lines l.initial.writer.schemas l.lines }
