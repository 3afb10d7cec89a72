use Rattle.std.proofs.Common.{◌≡◌, ◌+◌, ◌++◌, drop}
use Rattle.trace_text.specs.Trace.{journal_lines}
use Rattle.trace_text.proofs.texts.push_journal.Given as goal

-- what is written, and then the text of what is left, is the whole
abbrev pub invariant-loop-index : goal.invariant-loop-index
invariant-loop-index l =
    record l.writer { text = l.writer.text ++ journal_lines l.writer.schemas (l.index + 1) (drop l.index l.journal) }
    ≡ record l.initial.writer { text = l.initial.writer.text ++ journal_lines l.initial.writer.schemas 1 l.journal }
