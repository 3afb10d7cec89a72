use Rattle.std.proofs.Common.{◌≡◌, ◌+◌, ◌++◌, drop}
use Rattle.report_text.specs.Report.{log_lines}
use Rattle.report_text.proofs.log_lines.push_log.Given as goal

-- what is written, and then the text of what is left, is the whole
abbrev pub invariant-loop-index : goal.invariant-loop-index
invariant-loop-index l =
    record l.writer { text = l.writer.text ++ log_lines l.writer.schemas (l.index + 1) (drop l.index l.entries) }
    ≡ record l.initial.writer { text = l.initial.writer.text ++ log_lines l.initial.writer.schemas 1 l.entries }
