use Rattle.std.proofs.Common.{◌≡◌, ◌++◌, drop}
use Rattle.statement_text.specs.Texts.{quoted}
use Rattle.statement_text.proofs.writers.Writer.push_quoted.Given as goal

-- what is written, and then the text of what is left, is the whole
abbrev pub invariant-loop-byte : goal.invariant-loop-byte
invariant-loop-byte l =
    record l.self { text = l.self.text ++ quoted (drop l.byte-index l.text) }
    ≡ record l.initial.self { text = l.initial.self.text ++ quoted l.text }
