use Rattle.std.proofs.Common.{◌≡◌, ◌++◌, drop}
use Rattle.report_text.specs.Report.{history_lines}
use Rattle.report_text.proofs.log_lines.push_history.Given as goal

-- what is written, and then the text of what is left, is the whole
abbrev pub invariant-loop-item : goal.invariant-loop-item
invariant-loop-item l =
    record l.writer { text = l.writer.text ++ history_lines l.writer.schemas l.replica (drop l.item-index l.history) }
    ≡ record l.initial.writer { text = l.initial.writer.text ++ history_lines l.initial.writer.schemas l.replica l.history }
