-- A single token.
use Rattle.std.proofs.Common.{◌≡◌, ℕ, zero, suc, ◌<◌, ◌≤◌, ◌^◌, List, [], ◌∷◌, Option, Some, None, refl, sym, ap, ◌∙◌, arith, length, take}
use Rattle.std.specs.Option.{option_map}
use Rattle.row_types.specs.declared.table_schema.Column.{Column}
use Rattle.row_types.specs.declared.table_schema.Schema.{Schema}
use Rattle.statement_grammar.specs.Sentence.{Literals, OfRow, OfEdge}
use Rattle.statement_grammar.specs.Draft.{columns_of, table_from}
use Rattle.statement_grammar.specs.Faults.{table_fault}
use Rattle.statement_grammar.specs.FirstFault.{first_of}
use Rattle.statement_drafts.specs.Drafts.{schema_at}
use Rattle.statement_draft_tokens.specs.Tokens.{AreShort, unknown_if}

fault_by : (o : Option (ℕ × Schema)) (place : ℕ) → unknown_if (option_map (λ (found : ℕ × Schema). found.0) o) place ≡ first_of (table_fault o place)
fault_by None place = refl
fault_by (Some found) place = refl

pub fault_is : (schemas : List Schema) (name : List ℕ) (n : Option ℕ) (place : ℕ) → n ≡ option_map (λ (found : ℕ × Schema). found.0) (table_from 0 schemas name) → unknown_if n place ≡ first_of (table_fault (table_from 0 schemas name) place)
fault_is schemas name n place e = ap (λ (o : Option ℕ). unknown_if o place) e ∙ fault_by (table_from 0 schemas name) place

shorter : (n : ℕ) (columns : List Column) → length (take n columns) ≤ length columns
shorter zero columns = omega arith
shorter (suc n) [] = omega arith
shorter (suc n) (column ∷ columns) = let i = shorter n columns in omega arith

pub columns_short : (of : Literals) (schema : Schema) → length schema.columns < 2 ^ 32 → length (columns_of of schema) < 2 ^ 32
columns_short OfRow schema h = h
columns_short (OfEdge end) schema h = let i = shorter schema.key_len schema.columns in omega arith

short_at : (schemas : List Schema) (table : Option ℕ) (schema : Schema) → AreShort schemas → schema_at schemas table ≡ Some schema → length schema.columns < 2 ^ 32
short_at schemas None schema a e = cc
short_at schemas (Some n) schema a e = a.short n schema e

pub schema_short : (schemas : List Schema) (table : Option ℕ) (schema : Schema) → AreShort schemas → Some schema ≡ schema_at schemas table → length schema.columns < 2 ^ 32
schema_short schemas table schema a e = short_at schemas table schema a (sym e)
