-- Operands: what is kept of a part of a tree, and how it comes from the parts below it.
use Rattle.std.specs.Prelude.{ℕ, nat_lt, Bool, false, List, None, drop, if◌then◌else◌}
use Rattle.row_types.specs.declared.table_schema.Schema.{Schema}
use Rattle.ptc_statement.specs.declared.expressions.Op.TheVariants.{Le, Ge}
use Rattle.ptc_statement.specs.declared.expressions.Expr.{Expr, roll-Expr}
use Rattle.ptc_statement.specs.declared.expressions.Expr.TheOpen as e
use Rattle.ptc_statement.specs.declared.conditions.Cond.{roll-Cond}
use Rattle.ptc_statement.specs.declared.conditions.Cond.TheOpen as c
use Rattle.statement_tokens.specs.declared.words.Token.{Token}
use Rattle.statement_tokens.specs.declared.words.Word.{Word}
use Rattle.statement_grammar.specs.Grammar.{gives}
use Rattle.statement_grammar.specs.Machine.{Maker}
use Rattle.statement_grammar.specs.Cut.{RowTest}
use Rattle.statement_grammar.specs.Kinds.{sort_of_word, unknown}
use Rattle.statement_grammar.specs.Terms.{null_expr, leaf_expr, negative, sign_term, two_term, is_negated, first_op, key_values}
use Rattle.statement_reader.specs.Facts.{as_sort, least_of, facts_of, leaf_facts, sign_facts, two_facts, range_facts, nullness_facts, paren_facts}
use Rattle.statement_reader.specs.declared.facts.Facts.{Facts}
use Rattle.statement_reader.specs.declared.facts.Sort.TheVariants.{Number}
use Rattle.statement_operands.specs.Trees.{expr_of, term_of, tree_of}
use Rattle.statement_operands.specs.declared.operands.Operand.{Operand}
use Rattle.statement_operands.specs.declared.operands.Tree.{Tree}
use Rattle.statement_operands.specs.declared.operands.Tree.TheVariants as tree

abbrev pub no_cond : Tree
no_cond = tree.Cond (roll-Cond (c.IsNull null_expr false))

-- the leaf for a tree that is too high, of the sort that the word gives
abbrev pub leaf_for : Word → Tree
leaf_for word = if gives word then no_cond else tree.Expr null_expr

-- a tree, or the leaf for it
abbrev pub held_as : Facts → Tree → Tree → Operand
held_as facts leaf x = record { tree = if nat_lt 64 facts.height then leaf else x; facts = facts }

abbrev pub leaf_operand : Schema → Word → ℕ → Operand
leaf_operand schema word place = record {
  tree = tree.Expr (leaf_expr schema word);
  facts = leaf_facts place (as_sort (sort_of_word schema word)) (least_of (unknown schema word place));
}

-- a number behind a `-` at a place
abbrev pub signed_operand : ℕ → Word → Operand
signed_operand place word = record { tree = tree.Expr (roll-Expr (e.Lit (negative word))); facts = leaf_facts place Number None }

abbrev pub sign_operand : Word → ℕ → Operand → Operand
sign_operand word place x = held_as (sign_facts word place x.facts) (leaf_for word) (tree_of (sign_term word (term_of x.tree)))

abbrev pub two_operand : Operand → Word → Operand → Operand
two_operand l word r = held_as (two_facts word l.facts r.facts) (leaf_for word) (tree_of (two_term word (term_of l.tree) (term_of r.tree)))

abbrev pub range_term : Expr → Expr → Expr → Tree
range_term x l h = tree.Cond (roll-Cond (c.And (roll-Cond (c.Compare Ge x l)) (roll-Cond (c.Compare Le x h))))

abbrev pub range_operand : Operand → Operand → Operand → Operand
range_operand x l h =
    held_as (range_facts x.facts l.facts h.facts) no_cond (range_term (expr_of x.tree) (expr_of l.tree) (expr_of h.tree))

abbrev pub nullness_operand : Operand → Bool → Operand
nullness_operand x negated = held_as (nullness_facts x.facts) no_cond (tree.Cond (roll-Cond (c.IsNull (expr_of x.tree) negated)))

abbrev pub paren_operand : ℕ → Operand → Operand
paren_operand place x = record { tree = x.tree; facts = paren_facts place x.facts }

-- a row comparison of these tokens
abbrev pub row_operand : Schema → List Token → Operand
row_operand schema ts = record {
  tree = tree.Cond (roll-Cond (c.KeyCompare (first_op (drop 5 ts)) (key_values (drop 7 ts))));
  facts = facts_of schema (RowTest ts);
}

abbrev pub operands : Schema → Maker Operand
operands schema = record {
  leaf = λ t. leaf_operand schema t.word t.place;
  sign = λ t x. sign_operand t.word t.place x;
  two = λ l t r. two_operand l t.word r;
  range = λ x b l a h. range_operand x l h;
  nullness = λ x i ws. nullness_operand x (is_negated ws);
  paren = λ o x p. paren_operand o.place x;
  signed = λ t d. signed_operand t.place d.word;
  row = λ ts. row_operand schema ts;
}
