-- A text is read in one way.
use Rattle.std.specs.Prelude.{◌≡◌, ℕ, List}
use Rattle.row_types.specs.declared.table_schema.Schema.{Schema}
use Rattle.ptc_statement.specs.declared.statements.Statement.{Statement}
use Rattle.statement_tokens.specs.declared.words.Token.{Token}
use Rattle.statement_tokens.specs.declared.text_ends.TextEnd.{TextEnd}
use Rattle.statement_tokens.specs.Tokens.{AreTokensOf}
use Rattle.statement_grammar.specs.declared.text_faults.TextFault.{TextFault}
use Rattle.statement_grammar.specs.FirstFault.{IsText, IsFirstFault}

abbrev pub OneListOfTokens : Type 0
OneListOfTokens =
    (text : List ℕ) (ts us : List Token) (end stop : TextEnd)
    → AreTokensOf text ts end → AreTokensOf text us stop → (ts ≡ us) × (end ≡ stop)

abbrev pub OneStatementOfText : Type 0
OneStatementOfText =
    (schemas : List Schema) (text : List ℕ) (statement other : Statement)
    → IsText schemas text statement → IsText schemas text other → statement ≡ other

abbrev pub OneFaultOfText : Type 0
OneFaultOfText =
    (schemas : List Schema) (text : List ℕ) (fault other : TextFault)
    → IsFirstFault schemas text fault → IsFirstFault schemas text other → fault ≡ other

abbrev pub NeverBothOfText : Type 0
NeverBothOfText =
    (schemas : List Schema) (text : List ℕ) (statement : Statement) (fault : TextFault)
    → IsText schemas text statement → IsFirstFault schemas text fault → ⊥
