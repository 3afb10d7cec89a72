-- What the trees mean: expressions and conditions of statements.
use Rattle.std.specs.Prelude.{ℕ, pos, neg_ℤ, Bool, true, false, List, [], ◌∷◌, ◌++◌, Option, None, Some, drop, if◌then◌else◌}
use Rattle.std.specs.Int.{w64, saturate_signed}
use Rattle.row_types.specs.declared.values.Value.{Value}
use Rattle.row_types.specs.declared.values.Value.TheVariants.{Null, Int, Text}
use Rattle.row_types.specs.declared.table_schema.Schema.{Schema}
use Rattle.ptc_statement.specs.declared.expressions.Op.{Op}
use Rattle.ptc_statement.specs.declared.expressions.Op.TheVariants.{Eq, Le, Ge}
use Rattle.ptc_statement.specs.declared.expressions.Expr.{Expr, roll-Expr}
use Rattle.ptc_statement.specs.declared.expressions.Expr.TheOpen as e
use Rattle.ptc_statement.specs.declared.conditions.Cond.{Cond, roll-Cond}
use Rattle.ptc_statement.specs.declared.conditions.Cond.TheOpen as c
use Rattle.statement_tokens.specs.declared.words.Math.{Math}
use Rattle.statement_tokens.specs.declared.words.Math.TheVariants.{Plus, Minus, Times}
use Rattle.statement_tokens.specs.declared.words.Token.{Token}
use Rattle.statement_tokens.specs.declared.words.Word.{Word}
use Rattle.statement_tokens.specs.declared.words.Word.TheVariants as w
use Rattle.statement_grammar.specs.Grammar.{Shape, is_value, is_minus}
use Rattle.statement_grammar.specs.Machine.{Maker, made}
use Rattle.statement_grammar.specs.Kinds.{column_named}

-- an expression, or a condition
pub data Term : Type 0 where
  OfExpr : Expr → Term
  OfCond : Cond → Term

abbrev pub null_expr : Expr
null_expr = roll-Expr (e.Lit Null)

-- where the grammar holds the sorts agree, so neither is taken for the other
abbrev pub expr_in : Term → Expr
expr_in (OfExpr x) = x
expr_in (OfCond x) = null_expr

abbrev pub cond_in : Term → Cond
cond_in (OfExpr x) = roll-Cond (c.IsNull x false)
cond_in (OfCond x) = x

abbrev pub column_or_0 : Option ℕ → ℕ
column_or_0 None = 0
column_or_0 (Some n) = n

-- a number literal is clipped to 64 bits
abbrev pub value_in : Word → Value
value_in (w.Number n) = Int (saturate_signed w64 (pos n))
value_in (w.Text t) = Text t
value_in _ = Null

abbrev pub leaf_expr : Schema → Word → Expr
leaf_expr schema (w.Name name) = roll-Expr (e.Cell (column_or_0 (column_named schema name)))
leaf_expr schema word = roll-Expr (e.Lit (value_in word))

abbrev pub negative : Word → Value
negative (w.Number n) = Int (saturate_signed w64 (neg_ℤ (pos n)))
negative _ = Null

abbrev pub sign_term : Word → Term → Term
sign_term w.Not x = OfCond (roll-Cond (c.Not (cond_in x)))
sign_term word x = OfExpr (roll-Expr (e.Neg (expr_in x)))

abbrev pub math_expr : Math → Expr → Expr → Expr
math_expr Plus x y = roll-Expr (e.Add x y)
math_expr Minus x y = roll-Expr (e.Sub x y)
math_expr Times x y = roll-Expr (e.Mul x y)

abbrev pub two_term : Word → Term → Term → Term
two_term (w.Math o) x y = OfExpr (math_expr o (expr_in x) (expr_in y))
two_term (w.Compare o) x y = OfCond (roll-Cond (c.Compare o (expr_in x) (expr_in y)))
two_term w.And x y = OfCond (roll-Cond (c.And (cond_in x) (cond_in y)))
two_term w.Or x y = OfCond (roll-Cond (c.Or (cond_in x) (cond_in y)))
two_term word x y = x

abbrev pub compared : Op → Term → Term → Cond
compared o x y = roll-Cond (c.Compare o (expr_in x) (expr_in y))

abbrev pub is_negated : List Token → Bool
is_negated (t ∷ u ∷ ts) = true
is_negated _ = false

abbrev pub value_of_leaf : Token → List Value
value_of_leaf t = if is_value t.word then value_in t.word ∷ [] else []

abbrev pub key_values : List Token → List Value
key_values [] = []
key_values (t ∷ []) = value_of_leaf t
key_values (t ∷ d ∷ ts) = if is_minus t.word then negative d.word ∷ key_values ts else value_of_leaf t ++ key_values (d ∷ ts)

abbrev pub op_of : Word → Op
op_of (w.Compare o) = o
op_of _ = Eq

abbrev pub first_op : List Token → Op
first_op [] = Eq
first_op (t ∷ ts) = op_of t.word

-- BETWEEN is an AND of two comparisons
abbrev pub terms : Schema → Maker Term
terms schema = record {
  leaf = λ t. OfExpr (leaf_expr schema t.word);
  sign = λ t x. sign_term t.word x;
  two = λ x t y. two_term t.word x y;
  range = λ x b l a h. OfCond (roll-Cond (c.And (compared Ge x l) (compared Le x h)));
  nullness = λ x i ws. OfCond (roll-Cond (c.IsNull (expr_in x) (is_negated ws)));
  paren = λ o x p. x;
  signed = λ t d. OfExpr (roll-Expr (e.Lit (negative d.word)));
  row = λ ts. OfCond (roll-Cond (c.KeyCompare (first_op (drop 5 ts)) (key_values (drop 7 ts))));
}

abbrev pub condition_of : Schema → Shape → Cond
condition_of schema s = cond_in (made (terms schema) s)

abbrev pub expression_of : Schema → Shape → Expr
expression_of schema s = expr_in (made (terms schema) s)
