-- The breach of a literal for a column.
use Rattle.std.proofs.Common.{◌≡◌, ℕ, List, [], ◌∷◌, ◌++◌, Option, Some, None, refl, sym, ap, ◌∙◌}
use Rattle.row_types.specs.declared.table_schema.Column.{Column}
use Rattle.row_types.specs.declared.table_schema.ColumnKind.{ColumnKind}
use Rattle.row_types.specs.declared.table_schema.ColumnKind.TheVariants.{Int as IntColumn, BigInt, Text as TextColumn}
use Rattle.statement_tokens.specs.declared.words.Word.{Word}
use Rattle.statement_tokens.specs.declared.words.Word.TheVariants as w
use Rattle.statement_grammar.specs.Kinds.{sort_of_kind}
use Rattle.statement_grammar.specs.Faults.{value_fault}
use Rattle.statement_grammar.specs.FirstFault.{first_of}
use Rattle.statement_reader.specs.Facts.{as_sort, sorts_differ}
use Rattle.statement_reader.specs.declared.facts.Sort.TheVariants as sort
use Rattle.statement_drafts.specs.LiteralFaults.{breach_if, kind_breach}

number_by : (columns : List Column) (n i : ℕ) (column : Column) (kind : ColumnKind) (place : ℕ) → column.kind ≡ kind → kind_breach column n sort.Number place ≡ first_of (value_fault columns n (Some column) (w.Number i) place)
number_by columns n i column IntColumn place e = rw e refl
number_by columns n i column BigInt place e = rw e refl
number_by columns n i column (TextColumn max) place e = rw e refl

pub number_is : (columns : List Column) (n i : ℕ) (column : Column) (place : ℕ) → kind_breach column n sort.Number place ≡ first_of (value_fault columns n (Some column) (w.Number i) place)
number_is columns n i column place = number_by columns n i column column.kind place refl

text_by : (columns : List Column) (n : ℕ) (text : List ℕ) (column : Column) (kind : ColumnKind) (place : ℕ) → column.kind ≡ kind → kind_breach column n sort.Text place ≡ first_of (value_fault columns n (Some column) (w.Text text) place)
text_by columns n text column IntColumn place e = rw e refl
text_by columns n text column BigInt place e = rw e refl
text_by columns n text column (TextColumn max) place e = rw e refl

pub text_is : (columns : List Column) (n : ℕ) (text : List ℕ) (column : Column) (place : ℕ) → kind_breach column n sort.Text place ≡ first_of (value_fault columns n (Some column) (w.Text text) place)
text_is columns n text column place = text_by columns n text column column.kind place refl
