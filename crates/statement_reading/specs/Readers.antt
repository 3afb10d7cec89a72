-- What the reader holds, in the words of the grammar.
use Rattle.std.specs.Prelude.{◌≡◌, ◌⊎◌, ◌<◌, ◌^◌, ℕ, List, [], ◌∷◌, ◌++◌, length, Option, Some, None, Result, Ok, Err}
use Rattle.row_types.specs.declared.table_schema.Schema.{Schema}
use Rattle.ptc_statement.specs.declared.assignments.Assignment.{Assignment}
use Rattle.ptc_statement.specs.declared.conditions.Cond.{Cond}
use Rattle.statement_tokens.specs.declared.words.Token.{Token}
use Rattle.statement_grammar.specs.declared.text_faults.TextFault.{TextFault}
use Rattle.statement_grammar.specs.declared.text_faults.TextFault.TheVariants.{At, Memory}
use Rattle.statement_grammar.specs.Sentence.{Spot, ExprDue, one}
use Rattle.statement_grammar.specs.Terms.{column_or_0}
use Rattle.statement_grammar.specs.FirstFault.{earlier, keys_of}
use Rattle.statement_reader.specs.Spots.{spot_of}
use Rattle.statement_operands.specs.Trees.{expr_of, cond_of}
use Rattle.statement_operands.specs.declared.operands.Tree.{Tree}
use Rattle.statement_drafts.specs.Drafts.{draft_of}
use Rattle.statement_reading_laws.specs.Reading.{Reading, with_one}
use Rattle.statement_reading.specs.declared.readers.Reader.{Reader}

abbrev pub reading_of : List Schema → Reader → Reading
reading_of schemas r = record { spot = spot_of r.spot; draft = draft_of schemas r.draft; sets = r.sets; where_true = r.cond; first = r.first }

-- the table's schema, or the one for a table that is not there
abbrev pub used : Schema → Option Schema → Schema
used nothing None = nothing
used nothing (Some schema) = schema

pub record IsNothing (nothing : Schema) : Type 0 where
  pub keys : keys_of nothing ≡ None
  pub short : length nothing.columns < 2 ^ 32

pub record IsTaken (schemas : List Schema) (r : Reading) (t : Token) (behind : Reading) : Type 0 where
  pub next : Spot
  pub fits : one r.spot t.word ≡ Some next
  pub is : behind ≡ with_one schemas r next t

abbrev pub IsOneStep : List Schema → Reading → Token → Result Reader TextFault → Type 0
IsOneStep schemas r t (Ok behind) = IsTaken schemas r t (reading_of schemas behind)
IsOneStep schemas r t (Err f) = (f ≡ Memory) ⊎ ((one r.spot t.word ≡ None) × (f ≡ earlier (At t.place) r.first))
