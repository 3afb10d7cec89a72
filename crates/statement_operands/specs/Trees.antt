-- Expressions and conditions, as the code has them in one type.
use Rattle.ptc_statement.specs.declared.expressions.Expr.{Expr}
use Rattle.ptc_statement.specs.declared.conditions.Cond.{Cond}
use Rattle.statement_grammar.specs.Terms.{Term, OfExpr, OfCond, expr_in, cond_in}
use Rattle.statement_operands.specs.declared.operands.Tree.{Tree}
use Rattle.statement_operands.specs.declared.operands.Tree.TheVariants as tree

abbrev pub term_of : Tree → Term
term_of (tree.Expr x) = OfExpr x
term_of (tree.Cond x) = OfCond x

abbrev pub tree_of : Term → Tree
tree_of (OfExpr x) = tree.Expr x
tree_of (OfCond x) = tree.Cond x

abbrev pub expr_of : Tree → Expr
expr_of x = expr_in (term_of x)

abbrev pub cond_of : Tree → Cond
cond_of x = cond_in (term_of x)
