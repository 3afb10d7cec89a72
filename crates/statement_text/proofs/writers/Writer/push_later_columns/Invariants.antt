use Rattle.std.proofs.Common.{◌≡◌, ◌+◌, ◌++◌, drop}
use Rattle.statement_text.specs.Texts.{columns_on}
use Rattle.statement_text.proofs.writers.Writer.push_later_columns.Given as goal

-- what is written, and then the text of what is left, is the whole
abbrev pub invariant-loop-index : goal.invariant-loop-index
invariant-loop-index l =
    record l.self { text = l.self.text ++ columns_on l.key_len (l.index + 1) (drop l.index l.columns) }
    ≡ record l.initial.self { text = l.initial.self.text ++ columns_on l.key_len 1 l.columns }
