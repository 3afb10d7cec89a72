-- What is written of a condition that fits has no fault.
use Rattle.std.proofs.Common.{◌≡◌, ℕ, pos, negsuc, ◌+◌, max, Bool, true, false, List, [], ◌∷◌, ◌++◌, Option, None, Some, refl, sym, ◌∙◌, ap, subst}
use Rattle.std.specs.Prelude.{◌==◌, ◌&&◌, ◌||◌, not, take}
use Rattle.std.specs.List.{slice_get}
use Rattle.std.specs.Option.{option_or}
use Rattle.row_types.specs.declared.values.Value.{Value}
use Rattle.row_types.specs.declared.values.Value.TheVariants.{Null, Int, Text}
use Rattle.row_types.specs.declared.table_schema.ColumnKind.{ColumnKind}
use Rattle.row_types.specs.declared.table_schema.ColumnKind.TheVariants.{Int as IntColumn, BigInt, Text as TextColumn}
use Rattle.row_types.specs.declared.table_schema.Column.{Column}
use Rattle.row_types.specs.declared.table_schema.Schema.{Schema}
use Rattle.ptc_statement.specs.declared.expressions.Op.{Op}
use Rattle.ptc_statement.specs.declared.expressions.Expr.{Expr}
use Rattle.ptc_statement.specs.declared.conditions.Cond.{Cond, Cond-F, roll-Cond}
use Rattle.ptc_statement.specs.declared.conditions.Cond.TheOpen as c
use Rattle.ptc_statement.specs.declared.conditions.Cond.TheFolds.{ind-Cond, map-Cond, fold-roll-Cond}
use Rattle.ptc_statement.specs.Fits as fit
use Rattle.ptc_statement.specs.Fits.{expr_height, literal_is_of_kind, literals_fit, is_sound_at, is_sound, cond_height_at, cond_height}
use Rattle.statement_tokens.specs.declared.words.Token.{Token}
use Rattle.statement_tokens.specs.declared.words.Word.TheVariants as w
use Rattle.statement_grammar.specs.Grammar.{RowTest, tokens_of}
use Rattle.statement_grammar.specs.Cut.{Part, whole, height}
use Rattle.statement_grammar.specs.Sentence.{Keys}
use Rattle.statement_grammar.specs.FirstFault.{keys_of}
use Rattle.statement_grammar.specs.Kinds.{sort_of, sort_of_kind, sort_of_column, sort_of_number, differ, text_operand, when_true, begins_at, breach, breaches, places, unknown_in, values_in, row_breaches_from}
use Rattle.statement_text_laws.specs.Canonical.{placeless, value_tree, expr_tree, expr_written, expr_reads, WrittenCond, row_tokens, left_of_and, left_of_or, on_the_right, cond_written_at, cond_written, key_literal_reads, key_reads, cond_reads_at, cond_reads}
use Rattle.statement_text_laws.specs.SpelledWords.{literal_spells, expr_spells, key_spells, cond_spells_at, cond_spells}
use Rattle.statement_round_trip.specs.RoundTrip.{HasOwnNames}
use Rattle.statement_round_trip.proofs.PlacedLemmas.{none_of, empties, no_places}
use Rattle.statement_round_trip.proofs.KindLemmas.{numbers_agree, texts_agree, never, ExprRight, expr_is_right, enclosed_height, enclosed_known, enclosed_kinds}
use Rattle.statement_grammar.proofs.BasicLemmas.{both, both_true, equal}

pub record CondRight (schema : Schema) (x : WrittenCond) (high : ℕ) (sound reads : Bool) : Type 0 where
  pub height_is : height (whole x.tree) ≡ high
  pub known : unknown_in schema (whole x.tree) ≡ []
  pub kinds : sound ≡ true → breaches schema (whole x.tree) ≡ []
  pub read : sound ≡ true → reads ≡ true

either : {A : Type 0} (a b : Bool) → (a || b) ≡ true → (a ≡ true → A) → (b ≡ true → A) → A
either true b e f g = f refl
either false b e f g = g e

-- ---- comparisons and IS NULL

abbrev ExprOf : Schema → Expr → Type 0
ExprOf schema expr = ExprRight schema (expr_written schema expr) (expr_height expr) (fit.is_number schema expr) (fit.is_text schema expr) (expr_reads schema expr)

compared_right : (schema : Schema) (op : Op) (l r : Expr) → ExprOf schema l → ExprOf schema r
    → CondRight schema (cond_written_at schema (c.Compare op l r)) (max (expr_height l) (expr_height r) + 1) ((fit.is_number schema l && fit.is_number schema r) || (fit.is_text schema l && fit.is_text schema r)) (expr_reads schema l && expr_reads schema r)
compared_right schema op l r i j = record {
  height_is = ap (λ (a : ℕ). max a (height right) + 1) i.height_is ∙ ap (λ (b : ℕ). max (expr_height l) b + 1) j.height_is;
  known = empties (unknown_in schema left) (unknown_in schema right) i.known j.known;
  kinds = λ e. no_places (breach schema left right)
      (either (fit.is_number schema l && fit.is_number schema r) (fit.is_text schema l && fit.is_text schema r) e
      (λ n. let q = both (fit.is_number schema l) (fit.is_number schema r) n in
      let a = i.numbers q.0 in
      let b = j.numbers q.1 in unbroken a.operand b.operand (numbers_agree (sort_of schema left) (sort_of schema right) a.sort b.sort))
      (λ t. let q = both (fit.is_text schema l) (fit.is_text schema r) t in
      let a = i.texts q.0 in
      let b = j.texts q.1 in unbroken a.operand b.operand (texts_agree (sort_of schema left) (sort_of schema right) a.sort b.sort)));
  read = λ e. both_true (expr_reads schema l) (expr_reads schema r) i.read j.read;
}
  where
    left : Part
    left = whole (expr_tree schema l)

    right : Part
    right = whole (expr_tree schema r)

    unbroken : text_operand schema left ≡ None → text_operand schema right ≡ None → differ (sort_of schema left) (sort_of schema right) ≡ false → breach schema left right ≡ None
    unbroken a b d =
        none_of (text_operand schema left) (option_or (text_operand schema right) (when_true (differ (sort_of schema left) (sort_of schema right)) (begins_at right))) a
        (none_of (text_operand schema right) (when_true (differ (sort_of schema left) (sort_of schema right)) (begins_at right)) b (never (differ (sort_of schema left) (sort_of schema right)) (begins_at right) d))

null_right : (schema : Schema) (expr : Expr) (negated : Bool) → ExprOf schema expr
    → CondRight schema (cond_written_at schema (c.IsNull expr negated)) (expr_height expr + 1) (fit.is_number schema expr || fit.is_text schema expr) (expr_reads schema expr)
null_right schema expr negated i = record {
  height_is = ap (λ (n : ℕ). n + 1) i.height_is;
  known = i.known;
  kinds = λ e. no_places (text_operand schema (whole (expr_tree schema expr))) (either (fit.is_number schema expr) (fit.is_text schema expr) e (λ n. (i.numbers n).operand) (λ t. (i.texts t).operand));
  read = λ e. i.read;
}

-- ---- row comparisons

not_null : (kind : ColumnKind) (value : Value) → literal_is_of_kind kind value ≡ true → literal_spells value ≡ true → key_literal_reads value ≡ true
not_null kind Null e h = cc
not_null kind (Int n) e h = h
not_null kind (Text text) e h = refl

no_null : (kind : ColumnKind) → literal_is_of_kind kind Null ≡ true → ⊥
no_null kind e = cc

first_part : (kind : ColumnKind) (value : Value) (t : Token) (ts : List Token) → literal_is_of_kind kind value ≡ true → values_in (tokens_of (value_tree value) ++ (t ∷ ts)) ≡ whole (value_tree value) ∷ values_in (t ∷ ts)
first_part kind Null t ts e = absurd (no_null kind e)
first_part kind (Int (pos n)) t ts e = refl
first_part kind (Int (negsuc n)) t ts e = refl
first_part kind (Text text) t ts e = refl

second_part : (kind : ColumnKind) (value : Value) → literal_is_of_kind kind value ≡ true → values_in (placeless w.Comma ∷ (tokens_of (value_tree value) ++ placeless w.Close ∷ [])) ≡ whole (value_tree value) ∷ []
second_part kind Null e = absurd (no_null kind e)
second_part kind (Int (pos n)) e = refl
second_part kind (Int (negsuc n)) e = refl
second_part kind (Text text) e = refl

of_kind : (schema : Schema) (column : Column) (value : Value) → literal_is_of_kind column.kind value ≡ true → differ (sort_of_column (Some column)) (sort_of schema (whole (value_tree value))) ≡ false
of_kind schema column value e = by_kind column.kind value e
  where
    by_kind : (kind : ColumnKind) (value : Value) → literal_is_of_kind kind value ≡ true → differ (sort_of_kind kind) (sort_of schema (whole (value_tree value))) ≡ false
    by_kind kind Null e = absurd (no_null kind e)
    by_kind IntColumn (Int (pos n)) e = refl
    by_kind IntColumn (Int (negsuc n)) e = refl
    by_kind IntColumn (Text text) e = cc
    by_kind BigInt (Int (pos n)) e = refl
    by_kind BigInt (Int (negsuc n)) e = refl
    by_kind BigInt (Text text) e = cc
    by_kind (TextColumn max) (Int (pos n)) e = cc
    by_kind (TextColumn max) (Int (negsuc n)) e = cc
    by_kind (TextColumn max) (Text text) e = refl

-- the literals are of the kinds of the first two columns
record KeyKinds (schema : Schema) (x y : Value) : Type 0 where
  first : Column
  second : Column
  at_first : slice_get schema.columns 0 ≡ Some first
  at_second : slice_get schema.columns 1 ≡ Some second
  first_fits : literal_is_of_kind first.kind x ≡ true
  second_fits : literal_is_of_kind second.kind y ≡ true

key_kinds : (schema : Schema) (x y : Value) → ((schema.key_len == 2) && literals_fit (take schema.key_len schema.columns) (x ∷ y ∷ [])) ≡ true → KeyKinds schema x y
key_kinds schema x y e =
    let q = both (schema.key_len == 2) (literals_fit (take schema.key_len schema.columns) (x ∷ y ∷ [])) e in
    by_columns schema.columns refl (subst (λ (n : ℕ). literals_fit (take n schema.columns) (x ∷ y ∷ []) ≡ true) (equal schema.key_len 2 q.0) q.1)
  where
    by_columns : (columns : List Column) → schema.columns ≡ columns → literals_fit (take 2 columns) (x ∷ y ∷ []) ≡ true → KeyKinds schema x y
    by_columns [] f h = absurd (false_true h)
      where
        false_true : false ≡ true → ⊥
        false_true e = cc
    by_columns (a ∷ []) f h = absurd (false_true ((both (literal_is_of_kind a.kind x) false h).1))
      where
        false_true : false ≡ true → ⊥
        false_true e = cc
    by_columns (a ∷ b ∷ columns) f h =
        let q = both (literal_is_of_kind a.kind x) (literal_is_of_kind b.kind y && true) h in
        let r = both (literal_is_of_kind b.kind y) true q.1 in
        record { first = a; second = b; at_first = ap (λ (l : List Column). slice_get l 0) f; at_second = ap (λ (l : List Column). slice_get l 1) f; first_fits = q.0; second_fits = r.0 }

row_right : (schema : Schema) (keys : Keys) (op : Op) (key : List Value) → ((schema.key_len == 2) && literals_fit (take schema.key_len schema.columns) key) ≡ true → breaches schema (whole (RowTest (row_tokens keys op key))) ≡ []
row_right schema None op key e = refl
row_right schema (Some names) op [] e = refl
row_right schema (Some names) op (x ∷ []) e = refl
row_right schema (Some names) op (x ∷ y ∷ z ∷ zs) e = refl
row_right schema (Some names) op (x ∷ y ∷ []) e =
    ap (row_breaches_from schema 0) (first_part k.first.kind x (placeless w.Comma) (tokens_of (value_tree y) ++ placeless w.Close ∷ []) k.first_fits ∙ ap (λ (l : List Part). whole (value_tree x) ∷ l) (second_part k.second.kind y k.second_fits))
    ∙ empties (places (when_true (differ (sort_of_number schema (Some 0)) (sort_of schema (whole (value_tree x)))) (begins_at (whole (value_tree x)))))
    (places (when_true (differ (sort_of_number schema (Some 1)) (sort_of schema (whole (value_tree y)))) (begins_at (whole (value_tree y)))) ++ [])
    (fits x k.first 0 k.at_first k.first_fits)
    (empties (places (when_true (differ (sort_of_number schema (Some 1)) (sort_of schema (whole (value_tree y)))) (begins_at (whole (value_tree y))))) [] (fits y k.second 1 k.at_second k.second_fits) refl)
  where
    k : KeyKinds schema x y
    k = key_kinds schema x y e

    fits : (v : Value) (column : Column) (n : ℕ) → slice_get schema.columns n ≡ Some column → literal_is_of_kind column.kind v ≡ true → places (when_true (differ (sort_of_number schema (Some n)) (sort_of schema (whole (value_tree v)))) (begins_at (whole (value_tree v)))) ≡ []
    fits v column n f h =
        no_places (when_true (differ (sort_of_number schema (Some n)) (sort_of schema (whole (value_tree v)))) (begins_at (whole (value_tree v))))
        (never (differ (sort_of_number schema (Some n)) (sort_of schema (whole (value_tree v)))) (begins_at (whole (value_tree v)))
        (ap (λ (o : Option Column). differ (sort_of_column o) (sort_of schema (whole (value_tree v)))) f ∙ of_kind schema column v h))

key_is_read : (schema : Schema) (keys : Keys) (key : List Value) → ((schema.key_len == 2) && literals_fit (take schema.key_len schema.columns) key) ≡ true → key_spells keys key ≡ true → key_reads keys key ≡ true
key_is_read schema None key e h = cc
key_is_read schema (Some names) [] e h = cc
key_is_read schema (Some names) (x ∷ []) e h = cc
key_is_read schema (Some names) (x ∷ y ∷ z ∷ zs) e h = cc
key_is_read schema (Some names) (x ∷ y ∷ []) e h =
    let k = key_kinds schema x y e in
    let q = both (literal_spells x) (literal_spells y) h in both_true (key_literal_reads x) (key_literal_reads y) (not_null k.first.kind x k.first_fits q.0) (not_null k.second.kind y k.second_fits q.1)

key_right : (schema : Schema) (op : Op) (key : List Value) → key_spells (keys_of schema) key ≡ true
    → CondRight schema (cond_written_at schema (c.KeyCompare op key)) 1 ((schema.key_len == 2) && literals_fit (take schema.key_len schema.columns) key) (key_reads (keys_of schema) key)
key_right schema op key h = record { height_is = refl; known = refl; kinds = row_right schema (keys_of schema) op key; read = λ e. key_is_read schema (keys_of schema) key e h }

-- ---- NOT, AND, OR

not_right : (schema : Schema) (x : WrittenCond) (high : ℕ) (sound reads : Bool) → CondRight schema x high sound reads → CondRight schema (cond_written_at schema (c.Not x)) (high + 1) sound reads
not_right schema x high sound reads i = record { height_is = ap (λ (n : ℕ). n + 1) i.height_is; known = i.known; kinds = i.kinds; read = i.read }

and_right : (schema : Schema) (x y : WrittenCond) (h k : ℕ) (s t r q : Bool) → CondRight schema x h s r → CondRight schema y k t q → CondRight schema (cond_written_at schema (c.And x y)) (max h k + 1) (s && t) (r && q)
and_right schema x y h k s t r q i j = record {
  height_is = ap (λ (a : ℕ). max a (height (whole (on_the_right y))) + 1) (enclosed_height (not x.is_or) x.tree ∙ i.height_is) ∙ ap (λ (b : ℕ). max h b + 1) (enclosed_height (not (y.is_and || y.is_or)) y.tree ∙ j.height_is);
  known = empties (unknown_in schema (whole (left_of_and x))) (unknown_in schema (whole (on_the_right y))) (enclosed_known schema (not x.is_or) x.tree ∙ i.known) (enclosed_known schema (not (y.is_and || y.is_or)) y.tree ∙ j.known);
  kinds = λ e. let p = both s t e in empties (breaches schema (whole (left_of_and x))) (breaches schema (whole (on_the_right y))) (enclosed_kinds schema (not x.is_or) x.tree ∙ i.kinds p.0) (enclosed_kinds schema (not (y.is_and || y.is_or)) y.tree ∙ j.kinds p.1);
  read = λ e. let p = both s t e in both_true r q (i.read p.0) (j.read p.1);
}

or_right : (schema : Schema) (x y : WrittenCond) (h k : ℕ) (s t r q : Bool) → CondRight schema x h s r → CondRight schema y k t q → CondRight schema (cond_written_at schema (c.Or x y)) (max h k + 1) (s && t) (r && q)
or_right schema x y h k s t r q i j = record {
  height_is = ap (λ (a : ℕ). max a (height (whole (on_the_right y))) + 1) (enclosed_height (not x.is_and) x.tree ∙ i.height_is) ∙ ap (λ (b : ℕ). max h b + 1) (enclosed_height (not (y.is_and || y.is_or)) y.tree ∙ j.height_is);
  known = empties (unknown_in schema (whole (left_of_or x))) (unknown_in schema (whole (on_the_right y))) (enclosed_known schema (not x.is_and) x.tree ∙ i.known) (enclosed_known schema (not (y.is_and || y.is_or)) y.tree ∙ j.known);
  kinds = λ e. let p = both s t e in empties (breaches schema (whole (left_of_or x))) (breaches schema (whole (on_the_right y))) (enclosed_kinds schema (not x.is_and) x.tree ∙ i.kinds p.0) (enclosed_kinds schema (not (y.is_and || y.is_or)) y.tree ∙ j.kinds p.1);
  read = λ e. let p = both s t e in both_true r q (i.read p.0) (j.read p.1);
}

abbrev RightAt : Schema → Cond-F Cond → Type 0
RightAt schema z =
    CondRight schema (cond_written_at schema (map-Cond Cond WrittenCond (cond_written schema) z)) (cond_height_at (map-Cond Cond ℕ cond_height z)) (is_sound_at schema (map-Cond Cond Bool (is_sound schema) z)) (cond_reads_at schema (map-Cond Cond Bool (cond_reads schema) z))

abbrev pub IsRight : Schema → Cond → Type 0
IsRight schema condition = cond_spells schema condition ≡ true → CondRight schema (cond_written schema condition) (cond_height condition) (is_sound schema condition) (cond_reads schema condition)

layer : (schema : Schema) → HasOwnNames schema → (y : Cond-F ((x : Cond) × IsRight schema x)) → cond_spells_at schema (map-Cond Cond Bool (cond_spells schema) (map-Cond ((x : Cond) × IsRight schema x) Cond (λ p. p.0) y)) ≡ true
    → RightAt schema (map-Cond ((x : Cond) × IsRight schema x) Cond (λ p. p.0) y)
layer schema names (c.Compare op left right) r = let p = both (expr_spells schema left) (expr_spells schema right) r in compared_right schema op left right (expr_is_right schema names left p.0) (expr_is_right schema names right p.1)
layer schema names (c.KeyCompare op key) r = key_right schema op key r
layer schema names (c.IsNull expr negated) r = null_right schema expr negated (expr_is_right schema names expr r)
layer schema names (c.Not x) r = not_right schema (cond_written schema x.0) (cond_height x.0) (is_sound schema x.0) (cond_reads schema x.0) (x.1 r)
layer schema names (c.And x y) r = let p = both (cond_spells schema x.0) (cond_spells schema y.0) r in and_right schema (cond_written schema x.0) (cond_written schema y.0) (cond_height x.0) (cond_height y.0) (is_sound schema x.0) (is_sound schema y.0) (cond_reads schema x.0) (cond_reads schema y.0) (x.1 p.0) (y.1 p.1)
layer schema names (c.Or x y) r = let p = both (cond_spells schema x.0) (cond_spells schema y.0) r in or_right schema (cond_written schema x.0) (cond_written schema y.0) (cond_height x.0) (cond_height y.0) (is_sound schema x.0) (is_sound schema y.0) (cond_reads schema x.0) (cond_reads schema y.0) (x.1 p.0) (y.1 p.1)

rolled : (schema : Schema) (x : Cond-F Cond) → RightAt schema x → CondRight schema (cond_written schema (roll-Cond x)) (cond_height (roll-Cond x)) (is_sound schema (roll-Cond x)) (cond_reads schema (roll-Cond x))
rolled schema x i =
    subst (λ (a : WrittenCond). CondRight schema a (cond_height (roll-Cond x)) (is_sound schema (roll-Cond x)) (cond_reads schema (roll-Cond x))) (sym (fold-roll-Cond WrittenCond (cond_written_at schema) x))
    (subst (λ (h : ℕ). CondRight schema (cond_written_at schema (map-Cond Cond WrittenCond (cond_written schema) x)) h (is_sound schema (roll-Cond x)) (cond_reads schema (roll-Cond x))) (sym (fold-roll-Cond ℕ cond_height_at x))
    (subst (λ (b : Bool). CondRight schema (cond_written_at schema (map-Cond Cond WrittenCond (cond_written schema) x)) (cond_height_at (map-Cond Cond ℕ cond_height x)) b (cond_reads schema (roll-Cond x))) (sym (fold-roll-Cond Bool (is_sound_at schema) x))
    (subst (λ (b : Bool). CondRight schema (cond_written_at schema (map-Cond Cond WrittenCond (cond_written schema) x)) (cond_height_at (map-Cond Cond ℕ cond_height x)) (is_sound_at schema (map-Cond Cond Bool (is_sound schema) x)) b) (sym (fold-roll-Cond Bool (cond_reads_at schema) x)) i)))

pub cond_is_right : (schema : Schema) → HasOwnNames schema → (condition : Cond) → IsRight schema condition
cond_is_right schema names = ind-Cond (IsRight schema) (λ x y is spells.
    rolled schema x (subst (λ (z : Cond-F Cond). cond_spells_at schema (map-Cond Cond Bool (cond_spells schema) z) ≡ true → RightAt schema z) is (layer schema names y) (sym (fold-roll-Cond Bool (cond_spells_at schema) x) ∙ spells)))
