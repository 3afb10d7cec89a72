-- The first fault of a tree, from the facts of what is read of it.
use Rattle.std.specs.Prelude.{ℕ, Bool, true, false, Option, Some, None}
use Rattle.std.specs.Option.{option_or, option_map}
use Rattle.row_types.specs.declared.table_schema.Schema.{Schema}
use Rattle.statement_grammar.specs.Kinds.{sort_of_number, when_true}
use Rattle.statement_grammar.specs.Sentence.{Spot, ExprDue}
use Rattle.statement_grammar.specs.Faults.{column_or_0, kind_fault}
use Rattle.statement_grammar.specs.FirstFault.{earlier}
use Rattle.statement_grammar.specs.declared.text_faults.TextFault.{TextFault}
use Rattle.statement_grammar.specs.declared.text_faults.TextFault.TheVariants.{UnknownColumn, TooDeep}
use Rattle.statement_reader.specs.Facts.{as_sort, sorts_differ}
use Rattle.statement_reader.specs.declared.facts.Facts.{Facts}

-- of two faults the one that comes first
abbrev pub merged : Option TextFault → Option TextFault → Option TextFault
merged None other = other
merged (Some f) other = Some (earlier f other)

abbrev pub is_expression : Spot → Bool
is_expression ExprDue = true
is_expression _ = false

-- the breach of an assignment to the column of this number
abbrev pub breach_at : Schema → Option ℕ → Facts → Option ℕ
breach_at schema column facts = option_or facts.text (when_true (sorts_differ (as_sort (sort_of_number schema column)) facts.sort) facts.place)

abbrev pub kinds_by : Bool → Schema → Option ℕ → Facts → Option TextFault
kinds_by true schema column facts = option_map (kind_fault (column_or_0 column)) (breach_at schema column facts)
kinds_by false schema column facts = option_map (kind_fault 0) facts.breach

abbrev pub first_by : Bool → Schema → Option ℕ → Facts → Option ℕ → Option TextFault
first_by assigned schema column facts deep = merged (merged (option_map UnknownColumn facts.unknown) (option_map TooDeep deep)) (kinds_by assigned schema column facts)
