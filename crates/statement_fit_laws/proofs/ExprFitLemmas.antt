-- The expression that a tree without a fault is, fits.
use Rattle.std.proofs.Common.{true≢false, ◌≡◌, ℕ, pos, negsuc, suc, zero, ◌≤◌, ◌+◌, max, min, Bool, true, false, List, [], ◌∷◌, Option, None, Some, refl, sym, ◌∙◌, ap, subst, arith}
use Rattle.std.proofs.lemmas.Bool.{false≢true}
use Rattle.std.specs.Prelude.{◌&&◌, leb, is_some, if◌then◌else◌}
use Rattle.std.specs.List.{slice_get}
use Rattle.std.specs.Option.{option_or, option_map_or}
use Rattle.std.proofs.lemmas.Bool.Decides.{nat_tests}
use Rattle.row_types.specs.declared.values.Value.{Value}
use Rattle.row_types.specs.declared.values.Value.TheVariants.{Null, Int, Text}
use Rattle.row_types.specs.declared.table_schema.ColumnKind.{ColumnKind}
use Rattle.row_types.specs.declared.table_schema.ColumnKind.TheVariants.{Int as IntColumn, BigInt, Text as TextColumn}
use Rattle.row_types.specs.declared.table_schema.Column.{Column}
use Rattle.row_types.specs.declared.table_schema.Schema.{Schema}
use Rattle.ptc_statement.specs.declared.expressions.Expr.{Expr, roll-Expr}
use Rattle.ptc_statement.specs.declared.expressions.Expr.TheOpen as e
use Rattle.ptc_statement.specs.declared.expressions.Expr.TheFolds.{fold-roll-Expr}
use Rattle.ptc_statement.specs.Fits as fit
use Rattle.ptc_statement.specs.Fits.{is_of_numbers, is_of_texts, column_is, is_number_at, is_text_at, expr_height_at, expr_height}
use Rattle.statement_tokens.specs.declared.words.Math.{Math}
use Rattle.statement_tokens.specs.declared.words.Math.TheVariants.{Plus, Minus, Times}
use Rattle.statement_tokens.specs.declared.words.Word.{Word}
use Rattle.statement_tokens.specs.declared.words.Word.TheVariants as w
use Rattle.statement_grammar.specs.Grammar.{Setting, Shape, Leaf, Prefix, Binary, Range, Nullness, Paren, Signed, RowTest, IsAt, tokens_of, same_bytes, level, left_level, prefix_level, wants, gives, is_operand, is_minus, is_number}
use Rattle.statement_grammar.specs.Machine.{made}
use Rattle.statement_grammar.specs.Cut.{whole, height}
use Rattle.statement_grammar.specs.Kinds.{sort_of, sort_of_kind, sort_of_column, sort_of_number, is_text, own_text, text_operand, when_true, begins_at, unknown, unknown_in, no_column, column_from, column_named}
use Rattle.statement_grammar.specs.Terms.{Term, OfExpr, terms, expr_in, math_expr, two_term, column_or_0}
use Rattle.statement_grammar.proofs.BasicLemmas.{both_true}
use Rattle.statement_text_laws.specs.SpelledWords.{literal_spells, expr_spells_at, expr_spells}
use Rattle.statement_round_trip.proofs.PlacedLemmas.{at, empty, neither}
use Rattle.statement_round_trip.proofs.KindLemmas.{is_a_number}
use Rattle.statement_fit_laws.proofs.PrintLemmas.{AllPrint, front_prints, back_prints}

pub record ExprKnown (schema : Schema) (s : Shape) : Type 0 where
  pub expr : Expr
  pub is : made (terms schema) s ≡ OfExpr expr
  pub high : expr_height expr ≡ height (whole s)
  pub numbers : text_operand schema (whole s) ≡ None → is_text (sort_of schema (whole s)) ≡ false → fit.is_number schema expr ≡ true
  pub texts : text_operand schema (whole s) ≡ None → is_a_number (sort_of schema (whole s)) ≡ false → fit.is_text schema expr ≡ true
  pub spells : AllPrint (tokens_of s) → expr_spells schema expr ≡ true

-- ---- leaves

pub record ColumnAt (columns : List Column) (from k : ℕ) : Type 0 where
  pub number : ℕ
  pub column : Column
  pub there : slice_get columns number ≡ Some column
  pub is : k ≡ from + number

pub column_at : (from k : ℕ) (columns : List Column) (name : List ℕ) → column_from from columns name ≡ Some k → ColumnAt columns from k
column_at from k [] name e = cc
column_at from k (column ∷ columns) name e = by_name (same_bytes column.name name) e (column_at (suc from) k columns name)
  where
    by_name : (b : Bool) → (if b then Some from else column_from (suc from) columns name) ≡ Some k → (column_from (suc from) columns name ≡ Some k → ColumnAt columns (suc from) k) → ColumnAt (column ∷ columns) from k
    by_name true e later = record { number = 0; column = column; there = refl; is = let f : from ≡ k = cc in omega arith }
    by_name false e later = let i = later e in record { number = suc i.number; column = i.column; there = i.there; is = let f = i.is in omega arith }

pub column_is_there : (schema : Schema) (name : List ℕ) (k : ℕ) → column_named schema name ≡ Some k → (column : Column) × (slice_get schema.columns k ≡ Some column)
column_is_there schema name k e =
    let i = column_at 0 k schema.columns name e in
    let f : i.number ≡ k = (let h = i.is in omega arith) in (i.column, ap (slice_get schema.columns) (sym f) ∙ i.there)

number_cell : (schema : Schema) (k : ℕ) (column : Column) → slice_get schema.columns k ≡ Some column → is_text (sort_of_column (slice_get schema.columns k)) ≡ false → column_is is_of_numbers schema k ≡ true
number_cell schema k column f s = ap (λ (o : Option Column). option_map_or (λ (found : Column). is_of_numbers found.kind) o false) f ∙ by_kind column.kind (ap (λ (o : Option Column). is_text (sort_of_column o)) (sym f) ∙ s)
  where
    by_kind : (kind : ColumnKind) → is_text (sort_of_kind kind) ≡ false → is_of_numbers kind ≡ true
    by_kind IntColumn e = refl
    by_kind BigInt e = refl
    by_kind (TextColumn max) e = cc

text_cell : (schema : Schema) (k : ℕ) (column : Column) → slice_get schema.columns k ≡ Some column → is_a_number (sort_of_column (slice_get schema.columns k)) ≡ false → column_is is_of_texts schema k ≡ true
text_cell schema k column f s = ap (λ (o : Option Column). option_map_or (λ (found : Column). is_of_texts found.kind) o false) f ∙ by_kind column.kind (ap (λ (o : Option Column). is_a_number (sort_of_column o)) (sym f) ∙ s)
  where
    by_kind : (kind : ColumnKind) → is_a_number (sort_of_kind kind) ≡ false → is_of_texts kind ≡ true
    by_kind IntColumn e = cc
    by_kind BigInt e = cc
    by_kind (TextColumn max) e = refl

pub within : (n : ℕ) → leb (min n 9223372036854775807) 9223372036854775807 ≡ true
within n = grind (arith, nat_tests)

-- a literal
lit_known : (schema : Schema) (s : Shape) (value : Value) → made (terms schema) s ≡ OfExpr (roll-Expr (e.Lit value)) → 1 ≡ height (whole s)
    → (is_text (sort_of schema (whole s)) ≡ false → fit.value_is_number value ≡ true) → (is_a_number (sort_of schema (whole s)) ≡ false → fit.value_is_text value ≡ true) → (AllPrint (tokens_of s) → literal_spells value ≡ true)
    → ExprKnown schema s
lit_known schema s value is h n t p = record {
  expr = roll-Expr (e.Lit value);
  is = is;
  high = fold-roll-Expr ℕ expr_height_at (e.Lit value) ∙ h;
  numbers = λ o f. fold-roll-Expr Bool (is_number_at schema) (e.Lit value) ∙ n f;
  texts = λ o f. fold-roll-Expr Bool (is_text_at schema) (e.Lit value) ∙ t f;
  spells = λ q. fold-roll-Expr Bool (expr_spells_at schema) (e.Lit value) ∙ p q;
}

leaf_known : (schema : Schema) (place : ℕ) (word : Word) → is_operand word ≡ true → unknown schema word place ≡ [] → ExprKnown schema (Leaf (at word place))
leaf_known schema place (w.Name name) o u = by_column (column_named schema name) refl u
  where
    by_column : (c : Option ℕ) → column_named schema name ≡ c → no_column c place ≡ [] → ExprKnown schema (Leaf (at (w.Name name) place))
    by_column None f u = cc
    by_column (Some k) f u =
        let there = column_is_there schema name k f in record {
          expr = roll-Expr (e.Cell k);
          is = ap (λ (c : Option ℕ). OfExpr (roll-Expr (e.Cell (column_or_0 c)))) f;
          high = fold-roll-Expr ℕ expr_height_at (e.Cell k);
          numbers = λ o s. fold-roll-Expr Bool (is_number_at schema) (e.Cell k) ∙ number_cell schema k there.0 there.1 (ap (λ (c : Option ℕ). is_text (sort_of_number schema c)) (sym f) ∙ s);
          texts = λ o s. fold-roll-Expr Bool (is_text_at schema) (e.Cell k) ∙ text_cell schema k there.0 there.1 (ap (λ (c : Option ℕ). is_a_number (sort_of_number schema c)) (sym f) ∙ s);
          spells = λ p. fold-roll-Expr Bool (expr_spells_at schema) (e.Cell k) ∙ ap is_some there.1;
        }
leaf_known schema place (w.Number n) o u = lit_known schema (Leaf (at (w.Number n) place)) (Int (pos (min n 9223372036854775807))) refl refl (λ s. refl) (λ s. absurd (true≢false s)) (λ p. within n)
leaf_known schema place (w.Text text) o u = lit_known schema (Leaf (at (w.Text text) place)) (Text text) refl refl (λ s. absurd (true≢false s)) (λ s. refl) (λ p. p.0)
leaf_known schema place w.Null o u = lit_known schema (Leaf (at w.Null place)) Null refl refl (λ s. refl) (λ s. refl) (λ p. refl)
leaf_known schema place _ o u = cc

signed_known : (schema : Schema) (m n : ℕ) (first second : Word) → is_minus first ≡ true → is_number second ≡ true → ExprKnown schema (Signed (at first m) (at second n))
signed_known schema m n first (w.Number zero) i j = lit_known schema (Signed (at first m) (at (w.Number zero) n)) (Int (pos 0)) refl refl (λ s. refl) (λ s. absurd (true≢false s)) (λ p. refl)
signed_known schema m n first (w.Number (suc k)) i j = lit_known schema (Signed (at first m) (at (w.Number (suc k)) n)) (Int (negsuc (min k 9223372036854775807))) refl refl (λ s. refl) (λ s. absurd (true≢false s)) (λ p. within k)
signed_known schema m n first _ i j = cc

-- ---- signs

pub no_text : (b : Bool) (n : ℕ) → when_true b n ≡ None → b ≡ false
no_text false n e = refl
no_text true n e = cc

negated_known : (schema : Schema) (place : ℕ) (s : Shape) → ExprKnown schema s → ExprKnown schema (Prefix (at (w.Math Minus) place) s)
negated_known schema place s i = record {
  expr = roll-Expr (e.Neg i.expr);
  is = ap (λ (t : Term). OfExpr (roll-Expr (e.Neg (expr_in t)))) i.is;
  high = fold-roll-Expr ℕ expr_height_at (e.Neg i.expr) ∙ ap (λ (n : ℕ). n + 1) i.high;
  numbers = λ o f. let q = neither (text_operand schema (whole s)) (own_text schema (whole s)) o in
      fold-roll-Expr Bool (is_number_at schema) (e.Neg i.expr) ∙ i.numbers q.0 (no_text (is_text (sort_of schema (whole s))) (begins_at (whole s)) q.1);
  texts = λ o f. absurd (true≢false f);
  spells = λ p. fold-roll-Expr Bool (expr_spells_at schema) (e.Neg i.expr) ∙ i.spells p.1;
}

joined_known : (schema : Schema) (place : ℕ) (sign : Math) (l r : Shape) → ExprKnown schema l → ExprKnown schema r → ExprKnown schema (Binary l (at (w.Math sign) place) r)
joined_known schema place sign l r i j = by_sign sign
  where
    both_are : text_operand schema (whole (Binary l (at (w.Math sign) place) r)) ≡ None → (fit.is_number schema i.expr && fit.is_number schema j.expr) ≡ true
    both_are o =
        let a = neither (text_operand schema (whole l)) (option_or (own_text schema (whole l)) (option_or (text_operand schema (whole r)) (own_text schema (whole r)))) o in
        let b = neither (own_text schema (whole l)) (option_or (text_operand schema (whole r)) (own_text schema (whole r))) a.1 in
        let d = neither (text_operand schema (whole r)) (own_text schema (whole r)) b.1 in
        both_true (fit.is_number schema i.expr) (fit.is_number schema j.expr) (i.numbers a.0 (no_text (is_text (sort_of schema (whole l))) (begins_at (whole l)) b.0)) (j.numbers d.0 (no_text (is_text (sort_of schema (whole r))) (begins_at (whole r)) d.1))

    both_spell : AllPrint (tokens_of (Binary l (at (w.Math sign) place) r)) → (expr_spells schema i.expr && expr_spells schema j.expr) ≡ true
    both_spell p =
        let q = back_prints (tokens_of l) (at (w.Math sign) place ∷ tokens_of r) p in
        both_true (expr_spells schema i.expr) (expr_spells schema j.expr) (i.spells (front_prints (tokens_of l) (at (w.Math sign) place ∷ tokens_of r) p)) (j.spells q.1)

    highs : max (expr_height i.expr) (expr_height j.expr) + 1 ≡ max (height (whole l)) (height (whole r)) + 1
    highs = ap (λ (a : ℕ). max a (expr_height j.expr) + 1) i.high ∙ ap (λ (b : ℕ). max (height (whole l)) b + 1) j.high

    means : (o : Math) → two_term (w.Math o) (made (terms schema) l) (made (terms schema) r) ≡ OfExpr (math_expr o i.expr j.expr)
    means o = ap (λ (x : Term). OfExpr (math_expr o (expr_in x) (expr_in (made (terms schema) r)))) i.is ∙ ap (λ (y : Term). OfExpr (math_expr o i.expr (expr_in y))) j.is

    by_sign : (o : Math) → ExprKnown schema (Binary l (at (w.Math o) place) r)
    by_sign Plus = record {
      expr = roll-Expr (e.Add i.expr j.expr);
      is = means Plus;
      high = fold-roll-Expr ℕ expr_height_at (e.Add i.expr j.expr) ∙ highs;
      numbers = λ o f. fold-roll-Expr Bool (is_number_at schema) (e.Add i.expr j.expr) ∙ both_are o;
      texts = λ o f. absurd (true≢false f);
      spells = λ p. fold-roll-Expr Bool (expr_spells_at schema) (e.Add i.expr j.expr) ∙ both_true (expr_spells schema i.expr) (expr_spells schema j.expr) (i.spells (front_prints (tokens_of l) (at (w.Math Plus) place ∷ tokens_of r) p)) (j.spells (back_prints (tokens_of l) (at (w.Math Plus) place ∷ tokens_of r) p).1);
    }
    by_sign Minus = record {
      expr = roll-Expr (e.Sub i.expr j.expr);
      is = means Minus;
      high = fold-roll-Expr ℕ expr_height_at (e.Sub i.expr j.expr) ∙ highs;
      numbers = λ o f. fold-roll-Expr Bool (is_number_at schema) (e.Sub i.expr j.expr) ∙ both_are o;
      texts = λ o f. absurd (true≢false f);
      spells = λ p. fold-roll-Expr Bool (expr_spells_at schema) (e.Sub i.expr j.expr) ∙ both_true (expr_spells schema i.expr) (expr_spells schema j.expr) (i.spells (front_prints (tokens_of l) (at (w.Math Minus) place ∷ tokens_of r) p)) (j.spells (back_prints (tokens_of l) (at (w.Math Minus) place ∷ tokens_of r) p).1);
    }
    by_sign Times = record {
      expr = roll-Expr (e.Mul i.expr j.expr);
      is = means Times;
      high = fold-roll-Expr ℕ expr_height_at (e.Mul i.expr j.expr) ∙ highs;
      numbers = λ o f. fold-roll-Expr Bool (is_number_at schema) (e.Mul i.expr j.expr) ∙ both_are o;
      texts = λ o f. absurd (true≢false f);
      spells = λ p. fold-roll-Expr Bool (expr_spells_at schema) (e.Mul i.expr j.expr) ∙ both_true (expr_spells schema i.expr) (expr_spells schema j.expr) (i.spells (front_prints (tokens_of l) (at (w.Math Times) place ∷ tokens_of r) p)) (j.spells (back_prints (tokens_of l) (at (w.Math Times) place ∷ tokens_of r) p).1);
    }

-- ---- trees

prefix_known : (schema : Schema) (place : ℕ) (word : Word) (s : Shape) → 1 ≤ prefix_level word → false ≡ gives word → (wants word ≡ false → ExprKnown schema s) → ExprKnown schema (Prefix (at word place) s)
prefix_known schema place (w.Math Minus) s l c i = negated_known schema place s (i refl)
prefix_known schema place w.Not s l c i = absurd (false≢true c)
prefix_known schema place _ s l c i = absurd (omega arith)

binary_known : (schema : Schema) (place : ℕ) (word : Word) (l r : Shape) → 1 ≤ level word → false ≡ gives word → (wants word ≡ false → ExprKnown schema l) → (wants word ≡ false → ExprKnown schema r) → ExprKnown schema (Binary l (at word place) r)
binary_known schema place (w.Math sign) l r h c i j = joined_known schema place sign l r (i refl) (j refl)
binary_known schema place w.And l r h c i j = absurd (false≢true c)
binary_known schema place w.Or l r h c i j = absurd (false≢true c)
binary_known schema place (w.Compare op) l r h c i j = absurd (false≢true c)
binary_known schema place _ l r h c i j = absurd (omega arith)

pub expr_known : (schema : Schema) (g : Setting) (n : ℕ) (s : Shape) → IsAt g n false s → unknown_in schema (whole s) ≡ [] → ExprKnown schema s
expr_known schema g n (Leaf t) a u = leaf_known schema t.place t.word a.1 u
expr_known schema g n (Prefix t s) a u = prefix_known schema t.place t.word s a.1 a.2 (λ e. expr_known schema g (prefix_level t.word) s (subst (λ (b : Bool). IsAt g (prefix_level t.word) b s) e a.3) u)
expr_known schema g n (Binary l t r) a u =
    let q = empty (unknown_in schema (whole l)) (unknown_in schema (whole r)) u in
    binary_known schema t.place t.word l r a.1 a.2 (λ e. expr_known schema g (left_level t.word) l (subst (λ (b : Bool). IsAt g (left_level t.word) b l) e a.3) q.0) (λ e. expr_known schema g (suc (level t.word)) r (subst (λ (b : Bool). IsAt g (suc (level t.word)) b r) e a.4) q.1)
expr_known schema g n (Range x b l a h) i u = absurd (false≢true i.1)
expr_known schema g n (Nullness x i more) a u = absurd (false≢true a.1)
expr_known schema g n (Paren o s p) a u = let i = expr_known schema g 1 s a.2 u in record { expr = i.expr; is = i.is; high = i.high; numbers = i.numbers; texts = i.texts; spells = λ q. i.spells (front_prints (tokens_of s) (p ∷ []) q.1) }
expr_known schema g n (Signed t d) a u = signed_known schema t.place d.place t.word d.word a.1 a.2
expr_known schema g n (RowTest ts) a u = absurd (false≢true a.1)
