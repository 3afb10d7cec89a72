-- The literals of a row comparison, token by token.
use Rattle.std.specs.Prelude.{◌≡◌, ℕ, List, [], ◌∷◌, ◌++◌, length, Option, None, Some}
use Rattle.row_types.specs.declared.values.Value.{Value}
use Rattle.row_types.specs.declared.table_schema.Schema.{Schema}
use Rattle.statement_tokens.specs.declared.words.Math.TheVariants.{Minus}
use Rattle.statement_tokens.specs.declared.words.Token.{Token}
use Rattle.statement_tokens.specs.declared.words.Word.TheVariants as w
use Rattle.statement_grammar.specs.Kinds.{values_in, row_breaches_from, sort_of_number, when_true}
use Rattle.statement_grammar.specs.Terms.{key_values}
use Rattle.statement_reader.specs.Facts.{as_sort, least, least_of, sorts_differ}
use Rattle.statement_reader.specs.declared.facts.Sort.{Sort}
use Rattle.statement_operands.specs.declared.row_tests.RowValues.{RowValues}

-- the tokens that are left, with the `-` whose number is due
abbrev pub with_minus : Option ℕ → List Token → List Token
with_minus None ts = ts
with_minus (Some place) ts = record { word = w.Math Minus; place = place } ∷ ts

-- all values, and the least place of one that does not fit its column, where these tokens are left
abbrev pub all_values : RowValues → List Token → List Value
all_values read ts = read.key ++ key_values (with_minus read.minus ts)

abbrev pub least_breach : Schema → RowValues → List Token → Option ℕ
least_breach schema read ts = least read.breach (least_of (row_breaches_from schema (length read.key) (values_in (with_minus read.minus ts))))

-- a token more is read
pub record IsTaken (schema : Schema) (before : RowValues) (t : Token) (behind : RowValues) : Type 0 where
  pub values : (ts : List Token) → all_values behind ts ≡ all_values before (t ∷ ts)
  pub breach : (ts : List Token) → least_breach schema behind ts ≡ least_breach schema before (t ∷ ts)

-- a value of this sort does not fit its column
abbrev pub misfit : Schema → ℕ → Sort → ℕ → Option ℕ
misfit schema n sort place = when_true (sorts_differ (as_sort (sort_of_number schema (Some n))) sort) place

pub record IsPushed (schema : Schema) (before : RowValues) (value : Value) (sort : Sort) (place : ℕ) (behind : RowValues) : Type 0 where
  pub key : behind.key ≡ before.key ++ value ∷ []
  pub minus : behind.minus ≡ None
  pub breach : behind.breach ≡ least before.breach (misfit schema (length before.key) sort place)
