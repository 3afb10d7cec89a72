-- Tables whose columns can be counted, and the fault of a table that is not there.
use Rattle.std.specs.Prelude.{◌≡◌, ◌<◌, ◌^◌, ℕ, List, length, Option, Some, None, ⊤}
use Rattle.std.specs.List.{slice_get}
use Rattle.row_types.specs.declared.table_schema.Schema.{Schema}
use Rattle.statement_tokens.specs.declared.words.Word.{Word}
use Rattle.statement_grammar.specs.Sentence.{Spot, StatementDue, ForDue, ModeDue, ChunkNumber, EdgeDue, KindDue, CountNumber, CrcText}
use Rattle.statement_grammar.specs.Draft.{Draft, form_of, mode_of_word, with_edge_word, kind_of_word, number_in, text_in}
use Rattle.statement_grammar.specs.declared.text_faults.TextFault.{TextFault}
use Rattle.statement_grammar.specs.declared.text_faults.TextFault.TheVariants.{UnknownTable}

-- the columns of each table can be counted in 32 bits
pub record AreShort (schemas : List Schema) : Type 0 where
  pub short : (n : ℕ) (schema : Schema) → slice_get schemas n ≡ Some schema → length schema.columns < 2 ^ 32

abbrev pub unknown_if : Option ℕ → ℕ → Option TextFault
unknown_if None place = Some (UnknownTable place)
unknown_if (Some n) place = None

-- the numbers of a chunk and of a count fit
abbrev pub Fits : Spot → Word → Type 0
Fits (ChunkNumber tool) word = number_in word < 2 ^ 32
Fits CountNumber word = number_in word < 2 ^ 64
Fits spot word = ⊤

-- what a token adds that is no table, literal or column
abbrev pub with_other : Spot → Draft → Word → Draft
with_other StatementDue draft word = record draft { form = form_of word }
with_other ForDue draft word = record draft { mode = mode_of_word word }
with_other ModeDue draft word = record draft { mode = mode_of_word word }
with_other (ChunkNumber tool) draft word = record draft { chunk = number_in word }
with_other (EdgeDue end) draft word = with_edge_word end draft word
with_other KindDue draft word = record draft { kind = kind_of_word word }
with_other CountNumber draft word = record draft { count = number_in word }
with_other CrcText draft word = record draft { crc = text_in word }
with_other spot draft word = draft
