-- Where a tree of a statement ends.
use Rattle.std.specs.Prelude.{◌≡◌, ◌⊎◌, ℕ, Bool, List, [], ◌∷◌, ◌++◌, length, Option, Some, None, Result, Ok, Err}
use Rattle.row_types.specs.declared.table_schema.Schema.{Schema}
use Rattle.ptc_statement.specs.declared.assignments.Assignment.{Assignment}
use Rattle.ptc_statement.specs.declared.conditions.Cond.{Cond}
use Rattle.statement_tokens.specs.declared.words.Token.{Token}
use Rattle.statement_grammar.specs.declared.text_faults.TextFault.{TextFault}
use Rattle.statement_grammar.specs.declared.text_faults.TextFault.TheVariants.{At, Memory}
use Rattle.statement_grammar.specs.Grammar.{Shape, IsAt, tokens_of}
use Rattle.statement_grammar.specs.Sentence.{Spot, ExprDue}
use Rattle.statement_grammar.specs.Terms.{column_or_0}
use Rattle.statement_grammar.specs.Faults.{tree_faults}
use Rattle.statement_grammar.specs.FirstFault.{earlier, first_of}
use Rattle.statement_faults.specs.TreeFaults.{merged, is_expression, first_by}
use Rattle.statement_reader.specs.declared.facts.Facts.{Facts}
use Rattle.statement_operands.specs.Trees.{expr_of, cond_of}
use Rattle.statement_operands.specs.declared.operands.Tree.{Tree}
use Rattle.statement_trees.specs.Trees.{tree_setting}
use Rattle.statement_trees.specs.declared.trees.TreeEnd.{TreeEnd}
use Rattle.statement_trees.specs.declared.trees.TreeEnd.TheVariants as end
use Rattle.statement_reading_laws.specs.Reading.{Reading, HasTree}
use Rattle.statement_reading.specs.Readers.{reading_of}
use Rattle.statement_reading.specs.declared.readers.Reader.{Reader}

abbrev pub sets_by : Spot → Option ℕ → List Assignment → Tree → List Assignment
sets_by ExprDue column sets tree = sets ++ record { column = column_or_0 column; expr = expr_of tree } ∷ []
sets_by spot column sets tree = sets

abbrev pub cond_by : Spot → Option Cond → Tree → Option Cond
cond_by ExprDue held tree = held
cond_by spot held tree = Some (cond_of tree)

abbrev pub sets_with : Option Schema → Spot → Option ℕ → List Assignment → Tree → List Assignment
sets_with None spot column sets tree = sets
sets_with (Some schema) spot column sets tree = sets_by spot column sets tree

abbrev pub where_with : Option Schema → Spot → Option Cond → Tree → Option Cond
where_with None spot held tree = held
where_with (Some schema) spot held tree = cond_by spot held tree

-- the first fault of a tree, where the table is there
abbrev pub fault_by : Option Schema → Spot → Option ℕ → Facts → Option ℕ → Option TextFault
fault_by None spot column facts deep = None
fault_by (Some schema) spot column facts deep = first_by (is_expression spot) schema column facts deep

-- with a tree that is read whole, and its fault
abbrev pub with_term : Reading → Spot → Tree → Option TextFault → Reading
with_term r next tree fault = record {
  spot = next;
  draft = r.draft;
  sets = sets_with r.draft.schema r.spot r.draft.column r.sets tree;
  where_true = where_with r.draft.schema r.spot r.where_true tree;
  first = merged r.first fault;
}

abbrev pub IsClosed : List Schema → Reading → Spot → TreeEnd → ℕ → Result Reader TextFault → Type 0
IsClosed schemas r next (end.Whole x deep) place (Ok behind) = reading_of schemas behind ≡ with_term r next x.tree (fault_by r.draft.schema r.spot r.draft.column x.facts deep)
IsClosed schemas r next (end.Whole x deep) place (Err f) = f ≡ Memory
IsClosed schemas r next (end.Open facts deep) place (Ok behind) = ⊥
IsClosed schemas r next (end.Open facts deep) place (Err f) = f ≡ earlier (At place) (merged r.first (fault_by r.draft.schema r.spot r.draft.column facts deep))

-- these tokens were a tree
pub record EndsWhole (schema : Schema) (base : Bool) (ts : List Token) (r : Reading) (next : Spot) (behind : Reading) : Type 0 where
  pub tree : Shape
  pub is : IsAt (tree_setting schema base) 1 base tree
  pub spelled : tokens_of tree ≡ ts
  pub has : HasTree r next tree behind

-- they were none, and this is the first fault where nothing more fits at a place
pub record EndsOpen (schema : Schema) (base : Bool) (ts : List Token) (r : Reading) (place : ℕ) (f : TextFault) : Type 0 where
  pub fault : Option TextFault
  pub is : f ≡ earlier (At place) (merged r.first fault)
  pub none : (s : Shape) → IsAt (tree_setting schema base) 1 base s → tokens_of s ≡ ts → ⊥
  pub are : (s : Shape) (more : List Token) → IsAt (tree_setting schema base) 1 base s → tokens_of s ≡ ts ++ more → fault ≡ first_of (tree_faults r.draft.schema r.spot r.draft s (length ts))

abbrev pub IsTreeEnd : List Schema → Schema → Bool → List Token → Reading → Spot → ℕ → Result Reader TextFault → Type 0
IsTreeEnd schemas schema base ts r next place (Ok behind) = EndsWhole schema base ts r next (reading_of schemas behind)
IsTreeEnd schemas schema base ts r next place (Err f) = (f ≡ Memory) ⊎ EndsOpen schema base ts r place f
