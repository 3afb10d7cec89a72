-- What is read fits.
use Rattle.std.specs.Prelude.{◌↔◌, ℕ, List}
use Rattle.row_types.specs.declared.table_schema.Schema.{Schema}
use Rattle.ptc_statement.specs.declared.statements.Statement.{Statement}
use Rattle.statement_grammar.specs.FirstFault.{IsText}
use Rattle.statement_text.specs.StatementTexts.{statement_text}
use Rattle.statement_round_trip.specs.RoundTrip.{AreNamed, IsSayable}

-- the statement that a text is fits, and its text can say it
abbrev pub ReadIsSayable : Type 0
ReadIsSayable = (schemas : List Schema) (text : List ℕ) (statement : Statement) → IsText schemas text statement → IsSayable schemas statement

-- it is read again from what is written of it
abbrev pub ReadAgain : Type 0
ReadAgain =
    (schemas : List Schema) (text : List ℕ) (statement : Statement) → AreNamed schemas → IsText schemas text statement
    → IsText schemas (statement_text schemas statement) statement

-- a statement has a text exactly where a text can say it
abbrev pub SayableHasText : Type 0
SayableHasText = (schemas : List Schema) (statement : Statement) → AreNamed schemas → IsSayable schemas statement ↔ ((text : List ℕ) × IsText schemas text statement)
