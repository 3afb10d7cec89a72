use Rattle.std.proofs.Common.{◌≡◌, ◌++◌, drop}
use Rattle.statement_text.specs.ConditionTexts.{names_on}
use Rattle.statement_text.proofs.writers.Writer.push_later_names.Given as goal

-- what is written, and then the text of what is left, is the whole
abbrev pub invariant-loop-column : goal.invariant-loop-column
invariant-loop-column l =
    record l.self { text = l.self.text ++ names_on (drop l.column-index l.columns) }
    ≡ record l.initial.self { text = l.initial.self.text ++ names_on l.columns }
