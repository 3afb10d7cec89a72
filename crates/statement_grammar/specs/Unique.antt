-- A text has one reading: one statement, or one first fault.
use Rattle.std.specs.Prelude.{◌≡◌, ◌⊎◌, List}
use Rattle.row_types.specs.declared.table_schema.Schema.{Schema}
use Rattle.ptc_statement.specs.declared.statements.Statement.{Statement}
use Rattle.statement_tokens.specs.declared.words.Token.{Token}
use Rattle.statement_tokens.specs.declared.text_ends.TextEnd.{TextEnd}
use Rattle.statement_grammar.specs.declared.text_faults.TextFault.{TextFault}
use Rattle.statement_grammar.specs.Sentence.{Keys}
use Rattle.statement_grammar.specs.FirstFault.{BreaksOff, IsWrong, IsStatement}

abbrev pub OneStatement : Type 0
OneStatement =
    (key : Keys) (schemas : List Schema) (ts : List Token) (end : TextEnd) (statement other : Statement)
    → IsStatement key schemas ts end statement → IsStatement key schemas ts end other → statement ≡ other

-- in no form of a statement, or in one and wrong
abbrev pub HasFirstFault : Keys → List Schema → List Token → TextEnd → TextFault → Type 0
HasFirstFault key schemas ts end fault = BreaksOff key schemas ts end fault ⊎ IsWrong key schemas ts end fault

abbrev pub OneFirstFault : Type 0
OneFirstFault =
    (key : Keys) (schemas : List Schema) (ts : List Token) (end : TextEnd) (fault other : TextFault)
    → HasFirstFault key schemas ts end fault → HasFirstFault key schemas ts end other → fault ≡ other

abbrev pub NeverBoth : Type 0
NeverBoth =
    (key : Keys) (schemas : List Schema) (ts : List Token) (end : TextEnd) (statement : Statement) (fault : TextFault)
    → IsStatement key schemas ts end statement → HasFirstFault key schemas ts end fault → ⊥
