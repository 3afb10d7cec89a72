-- What is written of an expression or a condition is it.
use Rattle.std.proofs.Common.{◌≡◌, ℕ, pos, negsuc, ◌≤◌, Bool, true, false, Option, None, Some, refl, sym, ◌∙◌, ap, subst, arith, min}
use Rattle.std.specs.Prelude.{◌&&◌, not, leb}
use Rattle.std.proofs.lemmas.Bool.Decides.{nat_tests}
use Rattle.row_types.specs.declared.values.Value.{Value}
use Rattle.row_types.specs.declared.values.Value.TheVariants.{Null, Int, Text}
use Rattle.row_types.specs.declared.table_schema.Schema.{Schema}
use Rattle.ptc_statement.specs.declared.expressions.Expr.{Expr, Expr-F, roll-Expr}
use Rattle.ptc_statement.specs.declared.expressions.Expr.TheOpen as e
use Rattle.ptc_statement.specs.declared.expressions.Expr.TheFolds.{ind-Expr, map-Expr, fold-roll-Expr}
use Rattle.statement_tokens.specs.declared.words.Math.{Math}
use Rattle.statement_tokens.specs.declared.words.Math.TheVariants.{Plus, Minus, Times}
use Rattle.statement_tokens.specs.declared.words.Word.TheVariants as w
use Rattle.statement_grammar.specs.Grammar.{Setting, Shape, Leaf, Binary, IsAt, Unjoined, level}
use Rattle.statement_grammar.specs.Machine.{made}
use Rattle.statement_grammar.specs.Kinds.{column_named}
use Rattle.statement_grammar.specs.Terms.{Term, OfExpr, terms, expr_in, math_expr, column_or_0}
use Rattle.statement_text_laws.specs.Canonical.{placeless, enclosed, value_tree, name_at, WrittenExpr, is_from_zero, operand, expr_written_at, expr_written, literal_reads, is_column, cell_reads, expr_reads_at, expr_reads, ExprsAreReadBack}
use Rattle.statement_grammar.proofs.BasicLemmas.{both, equal}

-- a written expression may stand where an operand of arithmetic may, in parentheses anywhere
pub record IsRead (schema : Schema) (x : WrittenExpr) (expr : Expr) : Type 0 where
  pub stands : (g : Setting) (n : ℕ) → n ≤ 5 → IsAt g n false x.tree
  pub leaf : x.is_leaf ≡ true → (g : Setting) (n : ℕ) → IsAt g n false x.tree
  pub plain : (x.is_leaf && not x.from_zero) ≡ true → Unjoined (w.Math Minus) x.tree
  pub means : made (terms schema) x.tree ≡ OfExpr expr

pub least : (n : ℕ) → leb n 9223372036854775807 ≡ true → min n 9223372036854775807 ≡ n
least n h = grind (arith, nat_tests)

value_read : (schema : Schema) (value : Value) → literal_reads value ≡ true → IsRead schema (record { is_leaf = true; from_zero = is_from_zero value; tree = value_tree value }) (roll-Expr (e.Lit value))
value_read schema Null r = record { stands = λ g n h. (refl, refl); leaf = λ l g n. (refl, refl); plain = λ p. refl; means = refl }
value_read schema (Int (pos i)) r = record {
  stands = λ g n h. (refl, refl);
  leaf = λ l g n. (refl, refl);
  plain = λ p. absurd (wrong p);
  means = ap (λ (n : ℕ). OfExpr (roll-Expr (e.Lit (Int (pos n))))) (least i r);
}
  where
    wrong : false ≡ true → ⊥
    wrong e = cc
value_read schema (Int (negsuc i)) r = record {
  stands = λ g n h. (refl, refl, refl);
  leaf = λ l g n. (refl, refl, refl);
  plain = λ p. tt;
  means = ap (λ (n : ℕ). OfExpr (roll-Expr (e.Lit (Int (negsuc n))))) (least i r);
}
value_read schema (Text text) r = record { stands = λ g n h. (refl, refl); leaf = λ l g n. (refl, refl); plain = λ p. refl; means = refl }

cell_read : (schema : Schema) (column : ℕ) → cell_reads schema column ≡ true → IsRead schema (record { is_leaf = true; from_zero = false; tree = Leaf (placeless (w.Name (name_at schema column))) }) (roll-Expr (e.Cell column))
cell_read schema column r = record {
  stands = λ g n h. (refl, refl);
  leaf = λ l g n. (refl, refl);
  plain = λ p. refl;
  means = ap (λ (n : ℕ). OfExpr (roll-Expr (e.Cell n))) (found (column_named schema (name_at schema column)) r);
}
  where
    found : (o : Option ℕ) → is_column column o ≡ true → column_or_0 o ≡ column
    found None h = cc
    found (Some n) h = equal n column h

operand_at : (schema : Schema) (x : WrittenExpr) (expr : Expr) → IsRead schema x expr → (g : Setting) (n : ℕ) → IsAt g n false (operand x)
operand_at schema x expr i g n = by_leaf x.is_leaf refl
  where
    by_leaf : (b : Bool) → x.is_leaf ≡ b → IsAt g n false (enclosed b x.tree)
    by_leaf true l = i.leaf l g n
    by_leaf false l = (refl, refl, i.stands g 1 (omega arith))

pub enclosed_means : (schema : Schema) (x : Shape) (term : Term) (b : Bool) → made (terms schema) x ≡ term → made (terms schema) (enclosed b x) ≡ term
enclosed_means schema x term true h = h
enclosed_means schema x term false h = h

negated_read : (schema : Schema) (x : WrittenExpr) (expr : Expr) → IsRead schema x expr → IsRead schema (expr_written_at schema (e.Neg x)) (roll-Expr (e.Neg expr))
negated_read schema x expr i = record {
  stands = λ g n h. (omega arith, omega arith, refl, at g bare refl, unjoined bare refl);
  leaf = λ l. absurd (wrong l);
  plain = λ l. absurd (wrong l);
  means = ap (λ (t : Term). OfExpr (roll-Expr (e.Neg (expr_in t)))) (enclosed_means schema x.tree (OfExpr expr) bare i.means);
}
  where
    bare : Bool
    bare = x.is_leaf && not x.from_zero

    wrong : false ≡ true → ⊥
    wrong e = cc

    at : (g : Setting) (b : Bool) → x.is_leaf && not x.from_zero ≡ b → IsAt g 7 false (enclosed b x.tree)
    at g true l = i.leaf ((both x.is_leaf (not x.from_zero) l).0) g 7
    at g false l = (refl, refl, i.stands g 1 (omega arith))

    unjoined : (b : Bool) → x.is_leaf && not x.from_zero ≡ b → Unjoined (w.Math Minus) (enclosed b x.tree)
    unjoined true l = i.plain l
    unjoined false l = tt

joined_read : (schema : Schema) (x y : WrittenExpr) (left right : Expr) (sign : Math) → 5 ≤ level (w.Math sign) → IsRead schema x left → IsRead schema y right
    → IsRead schema (record { is_leaf = false; from_zero = false; tree = Binary (operand x) (placeless (w.Math sign)) (operand y) }) (math_expr sign left right)
joined_read schema x y left right sign h i j = record {
  stands = λ g n l. (omega arith, omega arith, refl, operand_at schema x left i g _, operand_at schema y right j g _);
  leaf = λ l. absurd (wrong l);
  plain = λ l. absurd (wrong l);
  means = ap (λ (t : Term). OfExpr (math_expr sign (expr_in t) (expr_in (made (terms schema) (operand y))))) (enclosed_means schema x.tree (OfExpr left) x.is_leaf i.means)
      ∙ ap (λ (t : Term). OfExpr (math_expr sign left (expr_in t))) (enclosed_means schema y.tree (OfExpr right) y.is_leaf j.means);
}
  where
    wrong : false ≡ true → ⊥
    wrong e = cc

abbrev pub IsReadBack : Schema → Expr → Type 0
IsReadBack schema expr = expr_reads schema expr ≡ true → IsRead schema (expr_written schema expr) expr

layer : (schema : Schema) (y : Expr-F ((x : Expr) × IsReadBack schema x)) → expr_reads_at schema (map-Expr Expr Bool (expr_reads schema) (map-Expr ((x : Expr) × IsReadBack schema x) Expr (λ p. p.0) y)) ≡ true
    → IsRead schema (expr_written_at schema (map-Expr Expr WrittenExpr (expr_written schema) (map-Expr ((x : Expr) × IsReadBack schema x) Expr (λ p. p.0) y))) (roll-Expr (map-Expr ((x : Expr) × IsReadBack schema x) Expr (λ p. p.0) y))
layer schema (e.Lit value) r = value_read schema value r
layer schema (e.Cell column) r = cell_read schema column r
layer schema (e.Neg x) r = negated_read schema (expr_written schema x.0) x.0 (x.1 r)
layer schema (e.Add x y) r = let p = both (expr_reads schema x.0) (expr_reads schema y.0) r in joined_read schema (expr_written schema x.0) (expr_written schema y.0) x.0 y.0 Plus (omega arith) (x.1 p.0) (y.1 p.1)
layer schema (e.Sub x y) r = let p = both (expr_reads schema x.0) (expr_reads schema y.0) r in joined_read schema (expr_written schema x.0) (expr_written schema y.0) x.0 y.0 Minus (omega arith) (x.1 p.0) (y.1 p.1)
layer schema (e.Mul x y) r = let p = both (expr_reads schema x.0) (expr_reads schema y.0) r in joined_read schema (expr_written schema x.0) (expr_written schema y.0) x.0 y.0 Times (omega arith) (x.1 p.0) (y.1 p.1)

pub expr_is_read : (schema : Schema) (expr : Expr) → IsReadBack schema expr
expr_is_read schema = ind-Expr (IsReadBack schema) (λ x y is reads.
    subst (λ z. IsRead schema z (roll-Expr x)) (sym (fold-roll-Expr WrittenExpr (expr_written_at schema) x))
    (subst (λ z. expr_reads_at schema (map-Expr Expr Bool (expr_reads schema) z) ≡ true → IsRead schema (expr_written_at schema (map-Expr Expr WrittenExpr (expr_written schema) z)) (roll-Expr z)) is (layer schema y)
    (sym (fold-roll-Expr Bool (expr_reads_at schema) x) ∙ reads)))

pub exprs_are_read_back : ExprsAreReadBack
exprs_are_read_back schema expr r =
    let i = expr_is_read schema expr r in record { stands = λ g. i.stands g 1 (omega arith); means = ap expr_in i.means }
