use Rattle.std.proofs.Common.{◌≡◌, ◌++◌, drop}
use Rattle.statement_text.specs.StatementTexts.{assignments_on}
use Rattle.statement_text.proofs.writers.Writer.push_later_assignments.Given as goal

-- what is written, and then the text of what is left, is the whole
abbrev pub invariant-loop-assignment : goal.invariant-loop-assignment
invariant-loop-assignment l =
    record l.self { text = l.self.text ++ assignments_on l.self.schemas l.table (drop l.assignment-index l.assignments) }
    ≡ record l.initial.self { text = l.initial.self.text ++ assignments_on l.initial.self.schemas l.table l.assignments }
