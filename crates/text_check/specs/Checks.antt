-- What is answered to lines of tables and, behind them, of statements.
use Rattle.std.specs.Prelude.{◌≡◌, ◌≤◌, ◌⊎◌, ℕ, List, [], ◌∷◌, ◌++◌, map, length, codes}
use Rattle.std.specs.Fmt.{decimal}
use Rattle.row_types.specs.declared.table_schema.Schema.{Schema}
use Rattle.ptc_statement.specs.declared.statements.Statement.{Statement}
use Rattle.statement_grammar.specs.declared.text_faults.TextFault.{TextFault}
use Rattle.statement_grammar.specs.FirstFault.{IsText, IsFirstFault}
use Rattle.statement_text.specs.StatementTexts.{statement_text}
use Rattle.refusal_text.specs.Refusals.{place_of, statement_word}
use Rattle.file_text.specs.declared.places.Section.TheVariants.{TableLines}
use Rattle.file_text.specs.File.{lines_of, content}
use Rattle.file_text.specs.Said.{ColumnText, TableOf}
use Rattle.file_text.specs.Context.{schema_of}
use Rattle.file_text.specs.Rules.{Says, parts_in}
use Rattle.line_items.specs.Readings.{IsUnder}

-- the lines of a text, without a line feed at its end and the one CR before it
abbrev pub texts_of : List ℕ → List (List ℕ)
texts_of text = map content (lines_of text)

-- the line is a TABLE line of the workload file, which passes no limit, and this the table's schema
pub record IsTableLine (line : List ℕ) (schema : Schema) : Type 0 where
  pub short : length line ≤ 65535
  pub name : List ℕ
  pub columns : List ColumnText
  pub says : Says [] line (TableOf name columns)
  pub under : IsUnder TableLines [] (parts_in TableLines line)
  pub is : schema ≡ schema_of name columns

abbrev pub IsNoTable : List ℕ → Type 0
IsNoTable line = (schema : Schema) → IsTableLine line schema → ⊥

-- `!`, the place and the words of a fault
unfoldable pub fault_text : TextFault → List ℕ
fault_text fault = codes "!" ++ decimal (place_of fault) ++ codes " " ++ statement_word fault

-- a statement's canonical text, or the first fault of what is none
pub data IsAnswer (schemas : List Schema) (line answer : List ℕ) : Type 0 where
  IsWritten : (statement : Statement) → IsText schemas line statement → answer ≡ statement_text schemas statement → IsAnswer schemas line answer
  IsRefused : (fault : TextFault) → IsFirstFault schemas line fault → answer ≡ fault_text fault → IsAnswer schemas line answer

-- the answer to the line, and a line feed, are put at the end of the text
pub record AddsAnswer (schemas : List Schema) (line old new : List ℕ) : Type 0 where
  pub answer : List ℕ
  pub is : IsAnswer schemas line answer
  pub added : new ≡ old ++ answer ++ 10 ∷ []

-- the answers to these lines, each with a line feed
abbrev pub AreAnswers : List Schema → List (List ℕ) → List ℕ → Type 0
AreAnswers schemas [] out = out ≡ []
AreAnswers schemas (line ∷ lines) out =
    (answer : List ℕ) × (more : List ℕ) × (out ≡ answer ++ 10 ∷ more) × IsAnswer schemas line answer × AreAnswers schemas lines more

-- Lines of tables come first; from the first line on that is none, each is answered over these tables.
abbrev pub IsChecked : List Schema → List (List ℕ) → List ℕ → Type 0
IsChecked schemas [] out = out ≡ []
IsChecked schemas (line ∷ lines) out =
    ((schema : Schema) × IsTableLine line schema × IsChecked (schemas ++ schema ∷ []) lines out)
    ⊎ (IsNoTable line × AreAnswers schemas (line ∷ lines) out)
