use Rattle.std.proofs.Common.{◌≡◌, ◌++◌, drop}
use Rattle.statement_text.specs.Texts.{values_on}
use Rattle.statement_text.proofs.writers.Writer.push_later_values.Given as goal

-- what is written, and then the text of what is left, is the whole
abbrev pub invariant-loop-value : goal.invariant-loop-value
invariant-loop-value l =
    record l.self { text = l.self.text ++ values_on (drop l.value-index l.values) }
    ≡ record l.initial.self { text = l.initial.self.text ++ values_on l.values }
