-- What is written of an expression or a condition that fits has no fault.
use Rattle.std.proofs.Common.{◌≡◌, ℕ, pos, negsuc, ◌+◌, max, Bool, true, false, [], Option, None, Some, refl, sym, ◌∙◌, ap, subst}
use Rattle.std.proofs.lemmas.Bool.{false≢true}
use Rattle.std.specs.Prelude.{◌&&◌, not, is_some}
use Rattle.std.specs.List.{slice_get}
use Rattle.std.specs.Option.{option_or, option_map_or}
use Rattle.row_types.specs.declared.values.Value.{Value}
use Rattle.row_types.specs.declared.values.Value.TheVariants.{Null, Int, Text}
use Rattle.row_types.specs.declared.table_schema.ColumnKind.{ColumnKind}
use Rattle.row_types.specs.declared.table_schema.ColumnKind.TheVariants.{Int as IntColumn, BigInt, Text as TextColumn}
use Rattle.row_types.specs.declared.table_schema.Column.{Column}
use Rattle.row_types.specs.declared.table_schema.Schema.{Schema}
use Rattle.ptc_statement.specs.declared.expressions.Expr.{Expr, Expr-F, roll-Expr}
use Rattle.ptc_statement.specs.declared.expressions.Expr.TheOpen as e
use Rattle.ptc_statement.specs.declared.expressions.Expr.TheFolds.{ind-Expr, map-Expr, fold-roll-Expr}
use Rattle.ptc_statement.specs.Fits as fit
use Rattle.ptc_statement.specs.Fits.{is_of_numbers, is_of_texts, column_is, is_number_at, is_text_at, expr_height_at, expr_height, literal_is_of_kind, literals_fit, is_sound_at, is_sound, cond_height_at, cond_height}
use Rattle.statement_tokens.specs.declared.words.Math.{Math}
use Rattle.statement_tokens.specs.declared.words.Math.TheVariants.{Plus, Minus, Times}
use Rattle.statement_tokens.specs.declared.words.Word.TheVariants as w
use Rattle.statement_grammar.specs.Grammar.{Shape, Leaf, Binary}
use Rattle.statement_grammar.specs.Cut.{Part, whole, height}
use Rattle.statement_grammar.specs.Kinds.{Sort, OfNumber, OfText, OfAny, sort_of, sort_of_kind, sort_of_column, sort_of_number, differ, is_text, own_text, text_operand, when_true, begins_at, breaches, unknown_in, no_column, column_named}
use Rattle.statement_text_laws.specs.Canonical.{placeless, cell_reads, enclosed, value_tree, name_at, WrittenExpr, is_from_zero, operand, expr_written_at, expr_written, literal_reads, expr_reads_at, expr_reads}
use Rattle.statement_text_laws.specs.SpelledWords.{literal_spells, expr_spells_at, expr_spells}
use Rattle.statement_round_trip.specs.RoundTrip.{HasOwnNames}
use Rattle.statement_round_trip.proofs.NameLemmas.{own_column, cell_is_read}
use Rattle.statement_round_trip.proofs.PlacedLemmas.{none_of, empties}
use Rattle.statement_grammar.proofs.BasicLemmas.{both, both_true}

-- ---- sorts

abbrev pub is_a_number : Sort → Bool
is_a_number OfNumber = true
is_a_number _ = false

-- no operand of arithmetic is a text, and the whole is not of a sort
pub record IsCalm (schema : Schema) (test : Sort → Bool) (x : Part) : Type 0 where
  pub operand : text_operand schema x ≡ None
  pub sort : test (sort_of schema x) ≡ false

pub numbers_agree : (a b : Sort) → is_text a ≡ false → is_text b ≡ false → differ a b ≡ false
numbers_agree OfNumber OfNumber h i = refl
numbers_agree OfNumber OfAny h i = refl
numbers_agree OfAny OfNumber h i = refl
numbers_agree OfAny OfAny h i = refl
numbers_agree OfText b h i = cc
numbers_agree OfNumber OfText h i = cc
numbers_agree OfAny OfText h i = cc

pub texts_agree : (a b : Sort) → is_a_number a ≡ false → is_a_number b ≡ false → differ a b ≡ false
texts_agree OfText OfText h i = refl
texts_agree OfText OfAny h i = refl
texts_agree OfAny OfText h i = refl
texts_agree OfAny OfAny h i = refl
texts_agree OfNumber b h i = cc
texts_agree OfText OfNumber h i = cc
texts_agree OfAny OfNumber h i = cc

pub never : (b : Bool) (n : ℕ) → b ≡ false → when_true b n ≡ None
never b n e = rw e refl

no_text : (schema : Schema) (x : Part) → IsCalm schema is_text x → own_text schema x ≡ None
no_text schema x i = never (is_text (sort_of schema x)) (begins_at x) i.sort

-- ---- expressions

pub record ExprRight (schema : Schema) (x : WrittenExpr) (high : ℕ) (number text reads : Bool) : Type 0 where
  pub height_is : height (whole x.tree) ≡ high
  pub known : unknown_in schema (whole x.tree) ≡ []
  pub numbers : number ≡ true → IsCalm schema is_text (whole x.tree)
  pub texts : text ≡ true → IsCalm schema is_a_number (whole x.tree)
  pub read : reads ≡ true

enclosed_calm : (schema : Schema) (test : Sort → Bool) (b : Bool) (tree : Shape) → IsCalm schema test (whole tree) → IsCalm schema test (whole (enclosed b tree))
enclosed_calm schema test true tree i = i
enclosed_calm schema test false tree i = record { operand = i.operand; sort = i.sort }

pub enclosed_height : (b : Bool) (tree : Shape) → height (whole (enclosed b tree)) ≡ height (whole tree)
enclosed_height true tree = refl
enclosed_height false tree = refl

pub enclosed_known : (schema : Schema) (b : Bool) (tree : Shape) → unknown_in schema (whole (enclosed b tree)) ≡ unknown_in schema (whole tree)
enclosed_known schema true tree = refl
enclosed_known schema false tree = refl

pub enclosed_kinds : (schema : Schema) (b : Bool) (tree : Shape) → breaches schema (whole (enclosed b tree)) ≡ breaches schema (whole tree)
enclosed_kinds schema true tree = refl
enclosed_kinds schema false tree = refl

value_right : (schema : Schema) (value : Value) → literal_spells value ≡ true
    → ExprRight schema (record { is_leaf = true; from_zero = is_from_zero value; tree = value_tree value }) 1 (fit.value_is_number value) (fit.value_is_text value) (literal_reads value)
value_right schema Null h = record { height_is = refl; known = refl; numbers = λ e. record { operand = refl; sort = refl }; texts = λ e. record { operand = refl; sort = refl }; read = refl }
value_right schema (Int (pos n)) h = record { height_is = refl; known = refl; numbers = λ e. record { operand = refl; sort = refl }; texts = λ e. absurd (false≢true e); read = h }
value_right schema (Int (negsuc n)) h = record { height_is = refl; known = refl; numbers = λ e. record { operand = refl; sort = refl }; texts = λ e. absurd (false≢true e); read = h }
value_right schema (Text text) h = record { height_is = refl; known = refl; numbers = λ e. absurd (false≢true e); texts = λ e. record { operand = refl; sort = refl }; read = refl }

number_column : (o : Option Column) → option_map_or (λ (found : Column). is_of_numbers found.kind) o false ≡ true → is_text (sort_of_column o) ≡ false
number_column None e = cc
number_column (Some column) e = by_kind column.kind e
  where
    by_kind : (kind : ColumnKind) → is_of_numbers kind ≡ true → is_text (sort_of_kind kind) ≡ false
    by_kind IntColumn e = refl
    by_kind BigInt e = refl
    by_kind (TextColumn max) e = cc

text_column : (o : Option Column) → option_map_or (λ (found : Column). is_of_texts found.kind) o false ≡ true → is_a_number (sort_of_column o) ≡ false
text_column None e = cc
text_column (Some column) e = by_kind column.kind e
  where
    by_kind : (kind : ColumnKind) → is_of_texts kind ≡ true → is_a_number (sort_of_kind kind) ≡ false
    by_kind IntColumn e = cc
    by_kind BigInt e = cc
    by_kind (TextColumn max) e = refl

cell_right : (schema : Schema) (column : ℕ) → HasOwnNames schema → is_some (slice_get schema.columns column) ≡ true
    → ExprRight schema (record { is_leaf = true; from_zero = false; tree = Leaf (placeless (w.Name (name_at schema column))) }) 1 (column_is is_of_numbers schema column) (column_is is_of_texts schema column) (cell_reads schema column)
cell_right schema column names h = record {
  height_is = refl;
  known = ap (λ (o : Option ℕ). no_column o 0) found;
  numbers = λ e. record { operand = refl; sort = ap (λ (o : Option ℕ). is_text (sort_of_number schema o)) found ∙ number_column (slice_get schema.columns column) e };
  texts = λ e. record { operand = refl; sort = ap (λ (o : Option ℕ). is_a_number (sort_of_number schema o)) found ∙ text_column (slice_get schema.columns column) e };
  read = cell_is_read schema column names h;
}
  where
    found : column_named schema (name_at schema column) ≡ Some column
    found = own_column schema column names h

negated_right : (schema : Schema) (x : WrittenExpr) (high : ℕ) (number text reads : Bool) → ExprRight schema x high number text reads → ExprRight schema (expr_written_at schema (e.Neg x)) (high + 1) number false reads
negated_right schema x high number text reads i = record {
  height_is = ap (λ (n : ℕ). n + 1) (enclosed_height bare x.tree ∙ i.height_is);
  known = enclosed_known schema bare x.tree ∙ i.known;
  numbers = λ e. let calm = enclosed_calm schema is_text bare x.tree (i.numbers e) in
      record { operand = none_of (text_operand schema (whole (enclosed bare x.tree))) (own_text schema (whole (enclosed bare x.tree))) calm.operand (no_text schema (whole (enclosed bare x.tree)) calm); sort = refl };
  texts = λ e. absurd (false≢true e);
  read = i.read;
}
  where
    bare : Bool
    bare = x.is_leaf && not x.from_zero

joined_right : (schema : Schema) (x y : WrittenExpr) (sign : Math) (h k : ℕ) (n m t u r s : Bool) → ExprRight schema x h n t r → ExprRight schema y k m u s
    → ExprRight schema (record { is_leaf = false; from_zero = false; tree = Binary (operand x) (placeless (w.Math sign)) (operand y) }) (max h k + 1) (n && m) false (r && s)
joined_right schema x y sign h k n m t u r s i j = record {
  height_is = ap (λ (a : ℕ). max a (height (whole (operand y))) + 1) (enclosed_height x.is_leaf x.tree ∙ i.height_is) ∙ ap (λ (b : ℕ). max h b + 1) (enclosed_height y.is_leaf y.tree ∙ j.height_is);
  known = empties (unknown_in schema (whole (operand x))) (unknown_in schema (whole (operand y))) (enclosed_known schema x.is_leaf x.tree ∙ i.known) (enclosed_known schema y.is_leaf y.tree ∙ j.known);
  numbers = λ e. let q = both n m e in
      let a = enclosed_calm schema is_text x.is_leaf x.tree (i.numbers q.0) in
      let b = enclosed_calm schema is_text y.is_leaf y.tree (j.numbers q.1) in record {
        operand = none_of (text_operand schema (whole (operand x))) (option_or (own_text schema (whole (operand x))) (option_or (text_operand schema (whole (operand y))) (own_text schema (whole (operand y))))) a.operand
            (none_of (own_text schema (whole (operand x))) (option_or (text_operand schema (whole (operand y))) (own_text schema (whole (operand y)))) (no_text schema (whole (operand x)) a)
            (none_of (text_operand schema (whole (operand y))) (own_text schema (whole (operand y))) b.operand (no_text schema (whole (operand y)) b)));
        sort = refl;
      };
  texts = λ e. absurd (false≢true e);
  read = both_true r s i.read j.read;
}

abbrev pub RightAt : Schema → Expr-F Expr → Type 0
RightAt schema z =
    ExprRight schema (expr_written_at schema (map-Expr Expr WrittenExpr (expr_written schema) z)) (expr_height_at (map-Expr Expr ℕ expr_height z)) (is_number_at schema (map-Expr Expr Bool (fit.is_number schema) z))
    (is_text_at schema (map-Expr Expr Bool (fit.is_text schema) z)) (expr_reads_at schema (map-Expr Expr Bool (expr_reads schema) z))

abbrev pub IsRight : Schema → Expr → Type 0
IsRight schema expr = expr_spells schema expr ≡ true → ExprRight schema (expr_written schema expr) (expr_height expr) (fit.is_number schema expr) (fit.is_text schema expr) (expr_reads schema expr)

layer : (schema : Schema) → HasOwnNames schema → (y : Expr-F ((x : Expr) × IsRight schema x)) → expr_spells_at schema (map-Expr Expr Bool (expr_spells schema) (map-Expr ((x : Expr) × IsRight schema x) Expr (λ p. p.0) y)) ≡ true
    → RightAt schema (map-Expr ((x : Expr) × IsRight schema x) Expr (λ p. p.0) y)
layer schema names (e.Lit value) r = value_right schema value r
layer schema names (e.Cell column) r = cell_right schema column names r
layer schema names (e.Neg x) r = negated_right schema (expr_written schema x.0) (expr_height x.0) (fit.is_number schema x.0) (fit.is_text schema x.0) (expr_reads schema x.0) (x.1 r)
layer schema names (e.Add x y) r = let p = both (expr_spells schema x.0) (expr_spells schema y.0) r in joined_right schema (expr_written schema x.0) (expr_written schema y.0) Plus (expr_height x.0) (expr_height y.0) (fit.is_number schema x.0) (fit.is_number schema y.0) (fit.is_text schema x.0) (fit.is_text schema y.0) (expr_reads schema x.0) (expr_reads schema y.0) (x.1 p.0) (y.1 p.1)
layer schema names (e.Sub x y) r = let p = both (expr_spells schema x.0) (expr_spells schema y.0) r in joined_right schema (expr_written schema x.0) (expr_written schema y.0) Minus (expr_height x.0) (expr_height y.0) (fit.is_number schema x.0) (fit.is_number schema y.0) (fit.is_text schema x.0) (fit.is_text schema y.0) (expr_reads schema x.0) (expr_reads schema y.0) (x.1 p.0) (y.1 p.1)
layer schema names (e.Mul x y) r = let p = both (expr_spells schema x.0) (expr_spells schema y.0) r in joined_right schema (expr_written schema x.0) (expr_written schema y.0) Times (expr_height x.0) (expr_height y.0) (fit.is_number schema x.0) (fit.is_number schema y.0) (fit.is_text schema x.0) (fit.is_text schema y.0) (expr_reads schema x.0) (expr_reads schema y.0) (x.1 p.0) (y.1 p.1)

rolled : (schema : Schema) (x : Expr-F Expr) → RightAt schema x → ExprRight schema (expr_written schema (roll-Expr x)) (expr_height (roll-Expr x)) (fit.is_number schema (roll-Expr x)) (fit.is_text schema (roll-Expr x)) (expr_reads schema (roll-Expr x))
rolled schema x i =
    subst (λ (a : WrittenExpr). ExprRight schema a (expr_height (roll-Expr x)) (fit.is_number schema (roll-Expr x)) (fit.is_text schema (roll-Expr x)) (expr_reads schema (roll-Expr x))) (sym (fold-roll-Expr WrittenExpr (expr_written_at schema) x))
    (subst (λ (h : ℕ). ExprRight schema (expr_written_at schema (map-Expr Expr WrittenExpr (expr_written schema) x)) h (fit.is_number schema (roll-Expr x)) (fit.is_text schema (roll-Expr x)) (expr_reads schema (roll-Expr x))) (sym (fold-roll-Expr ℕ expr_height_at x))
    (subst (λ (b : Bool). ExprRight schema (expr_written_at schema (map-Expr Expr WrittenExpr (expr_written schema) x)) (expr_height_at (map-Expr Expr ℕ expr_height x)) b (fit.is_text schema (roll-Expr x)) (expr_reads schema (roll-Expr x))) (sym (fold-roll-Expr Bool (is_number_at schema) x))
    (subst (λ (b : Bool). ExprRight schema (expr_written_at schema (map-Expr Expr WrittenExpr (expr_written schema) x)) (expr_height_at (map-Expr Expr ℕ expr_height x)) (is_number_at schema (map-Expr Expr Bool (fit.is_number schema) x)) b (expr_reads schema (roll-Expr x))) (sym (fold-roll-Expr Bool (is_text_at schema) x))
    (subst (λ (b : Bool). ExprRight schema (expr_written_at schema (map-Expr Expr WrittenExpr (expr_written schema) x)) (expr_height_at (map-Expr Expr ℕ expr_height x)) (is_number_at schema (map-Expr Expr Bool (fit.is_number schema) x)) (is_text_at schema (map-Expr Expr Bool (fit.is_text schema) x)) b) (sym (fold-roll-Expr Bool (expr_reads_at schema) x)) i))))

pub expr_is_right : (schema : Schema) → HasOwnNames schema → (expr : Expr) → IsRight schema expr
expr_is_right schema names = ind-Expr (IsRight schema) (λ x y is spells.
    rolled schema x (subst (λ (z : Expr-F Expr). expr_spells_at schema (map-Expr Expr Bool (expr_spells schema) z) ≡ true → RightAt schema z) is (layer schema names y) (sym (fold-roll-Expr Bool (expr_spells_at schema) x) ∙ spells)))
