-- The breach of a literal for a column.
use Rattle.std.specs.Prelude.{ℕ, Bool, true, false, Option, Some, None}
use Rattle.row_types.specs.declared.row_faults.RowFault.TheVariants.{Kind}
use Rattle.row_types.specs.declared.table_schema.Column.{Column}
use Rattle.statement_grammar.specs.Kinds.{sort_of_kind}
use Rattle.statement_grammar.specs.declared.text_faults.TextFault.{TextFault}
use Rattle.statement_grammar.specs.declared.text_faults.TextFault.TheVariants.{Literal}
use Rattle.statement_reader.specs.Facts.{as_sort, sorts_differ}
use Rattle.statement_reader.specs.declared.facts.Sort.{Sort}

abbrev pub breach_if : Bool → ℕ → ℕ → Option TextFault
breach_if true number place = Some (Literal place (Kind number))
breach_if false number place = None

abbrev pub kind_breach : Column → ℕ → Sort → ℕ → Option TextFault
kind_breach column number sort place = breach_if (sorts_differ (as_sort (sort_of_kind column.kind)) sort) number place
