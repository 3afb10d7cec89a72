-- Where a tree of a statement ends.
use Rattle.std.proofs.Common.{◌≡◌, ℕ, ◌≤◌, min, Bool, true, false, List, [], ◌∷◌, ◌++◌, Option, Some, None, refl, sym, ap, subst, ◌∙◌, arith, length, inl, inr}
use Rattle.std.specs.Prelude.{◌⊎◌, Result, Ok, Err}
use Rattle.std.specs.Option.{option_map}
use Rattle.row_types.specs.declared.table_schema.Schema.{Schema}
use Rattle.ptc_statement.specs.declared.assignments.Assignment.{Assignment}
use Rattle.ptc_statement.specs.declared.conditions.Cond.{Cond}
use Rattle.ptc_statement.specs.declared.expressions.Expr.{Expr}
use Rattle.statement_grammar.specs.declared.text_faults.TextFault.{TextFault}
use Rattle.statement_grammar.specs.declared.text_faults.TextFault.TheVariants.{Memory, TooDeep, UnknownColumn}
use Rattle.statement_grammar.specs.Grammar.{Shape, tokens_of}
use Rattle.statement_grammar.specs.Machine.{made}
use Rattle.statement_grammar.specs.Cut.{cut, whole, height}
use Rattle.statement_grammar.specs.Kinds.{places}
use Rattle.statement_grammar.specs.Sentence as g
use Rattle.statement_grammar.specs.Sentence.{Spot}
use Rattle.statement_grammar.specs.Terms.{Term, OfExpr, OfCond, terms, expr_in, cond_in, expression_of, condition_of, column_or_0}
use Rattle.statement_grammar.specs.Draft.{Draft, with_tree, with_tree_of}
use Rattle.statement_grammar.specs.Faults.{deep_in, tree_faults}
use Rattle.statement_grammar.specs.FirstFault.{first_of}
use Rattle.statement_tokens.specs.declared.words.Token.{Token}
use Rattle.statement_reader.specs.Facts.{facts_of}
use Rattle.statement_reader.specs.declared.facts.Facts.{Facts}
use Rattle.statement_faults.specs.TreeFaults.{merged, is_expression, first_by, kinds_by}
use Rattle.statement_faults.proofs.TreeFaultLemmas.{tree_first}
use Rattle.statement_operands.specs.Trees.{term_of, tree_of, expr_of, cond_of}
use Rattle.statement_operands.specs.Operands.{operands}
use Rattle.statement_operands.specs.declared.operands.Operand.{Operand}
use Rattle.statement_operands.specs.declared.operands.Tree.{Tree}
use Rattle.statement_machine_laws.proofs.MeaningLemmas.{operand_facts, has_trees}
use Rattle.statement_drafts.specs.Drafts.{schema_at}
use Rattle.statement_trees.specs.Trees.{IsWholeTree, IsOpenTree, IsEnd}
use Rattle.statement_trees.specs.declared.trees.TreeEnd.{TreeEnd}
use Rattle.statement_trees.specs.declared.trees.TreeEnd.TheVariants as end
use Rattle.statement_reading_laws.specs.Reading.{Reading, HasTree, all_known}
use Rattle.statement_reading.specs.Readers.{reading_of, used}
use Rattle.statement_reading.specs.TreeEnds.{sets_by, cond_by, sets_with, where_with, fault_by, with_term, IsClosed, EndsWhole, EndsOpen, IsTreeEnd}
use Rattle.statement_reading.specs.declared.readers.Reader.{Reader}

fault_tied : (o : Option Schema) (nothing : Schema) (spot : Spot) (column deep : Option ℕ) (facts : Facts) (draft : Draft) (s : Shape) (n : ℕ) → draft.column ≡ column → facts ≡ facts_of (used nothing o) (cut true n s) → places deep ≡ deep_in s n
    → fault_by o spot column facts deep ≡ first_of (tree_faults o spot draft s n)
fault_tied None nothing spot column deep facts draft s n c f d = refl
fault_tied (Some schema) nothing spot column deep facts draft s n c f d = tree_first schema spot column deep facts draft s n c f d

second_none : (a b : Option TextFault) → merged a b ≡ None → b ≡ None
second_none None b e = e
second_none (Some f) b e = cc

first_none : (a b : Option TextFault) → merged a b ≡ None → a ≡ None
first_none None b e = refl
first_none (Some f) b e = cc

not_deep : (deep : Option ℕ) → option_map TooDeep deep ≡ None → deep ≡ None
not_deep None e = refl
not_deep (Some n) e = cc

no_deep : (b : Bool) (schema : Schema) (column : Option ℕ) (facts : Facts) (deep : Option ℕ) → first_by b schema column facts deep ≡ None → deep ≡ None
no_deep b schema column facts deep e =
    not_deep deep (second_none (option_map UnknownColumn facts.unknown) (option_map TooDeep deep) (first_none (merged (option_map UnknownColumn facts.unknown) (option_map TooDeep deep)) (kinds_by b schema column facts) e))

back : (x : Term) → term_of (tree_of x) ≡ x
back (OfExpr x) = refl
back (OfCond x) = refl

sets_are : (schema : Schema) (spot : Spot) (d : Draft) (tree : Tree) (s : Shape) → expr_of tree ≡ expression_of schema s → sets_by spot d.column d.sets tree ≡ (with_tree_of schema spot d s).sets
sets_are schema g.ExprDue d tree s e = ap (λ (x : Expr). d.sets ++ record { column = column_or_0 d.column; expr = x } ∷ []) e
sets_are schema _ d tree s e = refl

cond_is : (schema : Schema) (spot : Spot) (d : Draft) (tree : Tree) (s : Shape) → cond_of tree ≡ condition_of schema s → cond_by spot d.where_true tree ≡ (with_tree_of schema spot d s).where_true
cond_is schema g.ExprDue d tree s e = refl
cond_is schema _ d tree s e = ap (λ (x : Cond). Some x) e

-- a tree without a fault has its meaning
meant : (schema : Schema) (x : Operand) (s : Shape) → x ≡ made (operands schema) s → x.facts.height ≤ 64 → x.tree ≡ tree_of (made (terms schema) s)
meant schema x s e low =
    let high : x.facts.height ≡ min 65 (height (whole s)) = ap (λ (y : Operand). y.facts.height) e ∙ ap (λ (f : Facts). f.height) (operand_facts schema s) in
    let few : height (whole s) ≤ 64 = omega arith in
    ap (λ (y : Operand). y.tree) e ∙ has_trees schema s few

sets_tied : (o : Option Schema) (nothing : Schema) (r : Reading) (base : Bool) (ts : List Token) (x : Operand) (deep : Option ℕ) (w : IsWholeTree (used nothing o) base ts x deep) → fault_by o r.spot r.draft.column x.facts deep ≡ None
    → (sets_with o r.spot r.draft.column r.sets x.tree ≡ (with_tree o r.spot (all_known r) w.tree).sets) × (where_with o r.spot r.where_true x.tree ≡ (with_tree o r.spot (all_known r) w.tree).where_true)
sets_tied None nothing r base ts x deep w n = (refl, refl)
sets_tied (Some schema) nothing r base ts x deep w n =
    let tree = meant schema x w.tree w.made_so (w.low (no_deep (is_expression r.spot) schema r.draft.column x.facts deep n)) in
    (sets_are schema r.spot (all_known r) x.tree w.tree (ap expr_of tree ∙ ap expr_in (back (made (terms schema) w.tree))), cond_is schema r.spot (all_known r) x.tree w.tree (ap cond_of tree ∙ ap cond_in (back (made (terms schema) w.tree))))

has_tree : (o : Option Schema) (nothing : Schema) (r behind : Reading) (next : Spot) (base : Bool) (ts : List Token) (x : Operand) (deep : Option ℕ) (w : IsWholeTree (used nothing o) base ts x deep) → r.draft.schema ≡ o
    → behind ≡ with_term r next x.tree (fault_by r.draft.schema r.spot r.draft.column x.facts deep) → HasTree r next w.tree behind
has_tree o nothing r behind next base ts x deep w e is =
    let long : length ts ≡ length (tokens_of w.tree) = ap length (sym w.spelled) in
    let by : fault_by r.draft.schema r.spot r.draft.column x.facts deep ≡ fault_by o r.spot r.draft.column x.facts deep = ap (λ (p : Option Schema). fault_by p r.spot r.draft.column x.facts deep) e in
    let tied : fault_by o r.spot r.draft.column x.facts deep ≡ first_of (tree_faults o r.spot r.draft w.tree (length ts)) = fault_tied o nothing r.spot r.draft.column deep x.facts r.draft w.tree (length ts) refl w.facts w.depth in
    let none : behind.first ≡ None → fault_by o r.spot r.draft.column x.facts deep ≡ None = λ n. sym by ∙ second_none r.first _ (sym (ap (λ (y : Reading). y.first) is) ∙ n) in record {
      spot = ap (λ (y : Reading). y.spot) is;
      draft = ap (λ (y : Reading). y.draft) is;
      first = ap (λ (y : Reading). y.first) is ∙ ap (merged r.first) (by ∙ tied ∙ ap (λ (n : ℕ). first_of (tree_faults o r.spot r.draft w.tree n)) long ∙ ap (λ (p : Option Schema). first_of (tree_faults p r.spot r.draft w.tree (length (tokens_of w.tree)))) (sym e));
      sets = λ n. ap (λ (y : Reading). y.sets) is ∙ ap (λ (p : Option Schema). sets_with p r.spot r.draft.column r.sets x.tree) e ∙ (sets_tied o nothing r base ts x deep w (none n)).0 ∙ ap (λ (p : Option Schema). (with_tree p r.spot (all_known r) w.tree).sets) (sym e);
      where_true = λ n. ap (λ (y : Reading). y.where_true) is ∙ ap (λ (p : Option Schema). where_with p r.spot r.where_true x.tree) e ∙ (sets_tied o nothing r base ts x deep w (none n)).1 ∙ ap (λ (p : Option Schema). (with_tree p r.spot (all_known r) w.tree).where_true) (sym e);
    }

pub tree_ends : (schemas : List Schema) (nothing : Schema) (base : Bool) (ts : List Token) (r : Reading) (next : Spot) (e : TreeEnd) (place : ℕ) (result : Result Reader TextFault) → IsClosed schemas r next e place result → IsEnd (used nothing r.draft.schema) base ts e
    → IsTreeEnd schemas (used nothing r.draft.schema) base ts r next place result
tree_ends schemas nothing base ts r next (end.Whole x deep) place (Ok behind) is w = record {
  tree = w.tree;
  is = w.is;
  spelled = w.spelled;
  has = has_tree r.draft.schema nothing r (reading_of schemas behind) next base ts x deep w refl is;
}
tree_ends schemas nothing base ts r next (end.Whole x deep) place (Err f) is w = inl is
tree_ends schemas nothing base ts r next (end.Open facts deep) place (Ok behind) is w = absurd is
tree_ends schemas nothing base ts r next (end.Open facts deep) place (Err f) is w = inr (record {
  fault = fault_by r.draft.schema r.spot r.draft.column facts deep;
  is = is;
  none = w.none;
  are = λ s more h p. fault_tied r.draft.schema nothing r.spot r.draft.column deep facts r.draft s (length ts) refl (w.are s more h p) (w.depth s more h p);
})
