use Rattle.std.proofs.Common.{◌≡◌, ◌++◌, drop}
use Rattle.std.specs.List.{flat_map}
use Rattle.trace_text.specs.Trace.{duplicate_line}
use Rattle.trace_text.proofs.texts.push_duplicates.Given as goal

-- what is written, and then the text of what is left, is the whole
abbrev pub invariant-loop-line : goal.invariant-loop-line
invariant-loop-line l =
    record l.writer { text = l.writer.text ++ flat_map duplicate_line (drop l.line-index l.lines) }
    ≡ record l.initial.writer { text = l.initial.writer.text ++ flat_map duplicate_line l.lines }
