-- What is written of a condition is it.
use Rattle.std.proofs.Common.{true≢false, ◌≡◌, ℕ, pos, negsuc, ◌≤◌, Bool, true, false, List, [], ◌∷◌, ◌++◌, None, Some, refl, sym, ◌∙◌, ap, subst, arith}
use Rattle.std.specs.Prelude.{◌==◌, ◌&&◌, ◌||◌, not}
use Rattle.std.proofs.lemmas.Bool.Decides.{nat_tests}
use Rattle.row_types.specs.declared.values.Value.{Value}
use Rattle.row_types.specs.declared.values.Value.TheVariants.{Null, Int, Text}
use Rattle.row_types.specs.declared.table_schema.Schema.{Schema}
use Rattle.ptc_statement.specs.declared.expressions.Op.{Op}
use Rattle.ptc_statement.specs.declared.expressions.Expr.{Expr}
use Rattle.ptc_statement.specs.declared.conditions.Cond.{Cond, Cond-F, roll-Cond}
use Rattle.ptc_statement.specs.declared.conditions.Cond.TheOpen as c
use Rattle.ptc_statement.specs.declared.conditions.Cond.TheFolds.{ind-Cond, map-Cond, fold-roll-Cond}
use Rattle.statement_tokens.specs.declared.words.Token.{Token}
use Rattle.statement_tokens.specs.declared.words.Word.TheVariants as w
use Rattle.statement_grammar.specs.Grammar.{Setting, Shape, Binary, Nullness, RowTest, IsAt, AreNullWords, FillSlots, Slot, ValueSlot, DigitsSlot, CommaSlot, CloseSlot, row_slots, same_bytes, filled_by, tokens_of}
use Rattle.statement_grammar.specs.Machine.{made}
use Rattle.statement_grammar.specs.Sentence.{Keys, setting}
use Rattle.statement_grammar.specs.FirstFault.{keys_of}
use Rattle.statement_grammar.specs.Terms.{Term, OfCond, terms, expr_in, cond_in, is_negated, key_values}
use Rattle.statement_text_laws.specs.Canonical.{placeless, enclosed, value_tree, expr_written, expr_tree, expr_reads, WrittenCond, term, null_words, row_tokens, left_of_and, left_of_or, on_the_right, cond_written_at, cond_written, key_literal_reads, key_reads, cond_reads_at, cond_reads, CondsAreReadBack}
use Rattle.statement_text_laws.proofs.CanonicalLemmas.{IsRead, least, expr_is_read, enclosed_means}
use Rattle.statement_grammar.proofs.BasicLemmas.{both}

-- a written condition may stand where what binds as loosely as it may
record CondIsRead (schema : Schema) (x : WrittenCond) (condition : Cond) : Type 0 where
  anywhere : (base : Bool) (n : ℕ) → n ≤ 1 → IsAt (setting base (keys_of schema)) n true x.tree
  under_and : x.is_or ≡ false → (base : Bool) (n : ℕ) → n ≤ 2 → IsAt (setting base (keys_of schema)) n true x.tree
  under_not : x.is_and ≡ false → x.is_or ≡ false → (base : Bool) (n : ℕ) → n ≤ 3 → IsAt (setting base (keys_of schema)) n true x.tree
  means : made (terms schema) x.tree ≡ OfCond condition

-- a comparison, a row comparison, IS NULL, and NOT
term_read : (schema : Schema) (tree : Shape) (condition : Cond) → ((base : Bool) (n : ℕ) → n ≤ 3 → IsAt (setting base (keys_of schema)) n true tree) → made (terms schema) tree ≡ OfCond condition → CondIsRead schema (term tree) condition
term_read schema tree condition stands means = record {
  anywhere = λ base n h. stands base n (omega arith);
  under_and = λ o base n h. stands base n (omega arith);
  under_not = λ a o base n h. stands base n h;
  means = means;
}

compared_read : (schema : Schema) (op : Op) (left right : Expr) → IsRead schema (expr_written schema left) left → IsRead schema (expr_written schema right) right
    → CondIsRead schema (cond_written_at schema (c.Compare op left right)) (roll-Cond (c.Compare op left right))
compared_read schema op left right i j =
    term_read schema (Binary (expr_tree schema left) (placeless (w.Compare op)) (expr_tree schema right)) (roll-Cond (c.Compare op left right))
    (λ base n h. (omega arith, omega arith, refl, i.stands (setting base (keys_of schema)) 5 (omega arith), j.stands (setting base (keys_of schema)) 5 (omega arith)))
    (ap (λ (t : Term). OfCond (roll-Cond (c.Compare op (expr_in t) (expr_in (made (terms schema) (expr_tree schema right)))))) i.means
    ∙ ap (λ (t : Term). OfCond (roll-Cond (c.Compare op left (expr_in t)))) j.means)

are_null_words : (negated : Bool) → AreNullWords (null_words negated)
are_null_words true = (refl, refl)
are_null_words false = refl

negated_so : (negated : Bool) → is_negated (null_words negated) ≡ negated
negated_so true = refl
negated_so false = refl

null_read : (schema : Schema) (expr : Expr) (negated : Bool) → IsRead schema (expr_written schema expr) expr → CondIsRead schema (cond_written_at schema (c.IsNull expr negated)) (roll-Cond (c.IsNull expr negated))
null_read schema expr negated i =
    term_read schema (Nullness (expr_tree schema expr) (placeless w.Is) (null_words negated)) (roll-Cond (c.IsNull expr negated))
    (λ base n h. (omega arith, refl, refl, are_null_words negated, i.stands (setting base (keys_of schema)) 5 (omega arith)))
    (ap (λ (t : Term). OfCond (roll-Cond (c.IsNull (expr_in t) (is_negated (null_words negated))))) i.means
    ∙ ap (λ (b : Bool). OfCond (roll-Cond (c.IsNull expr b))) (negated_so negated))

-- ---- row comparisons

pub same_name : (name : List ℕ) → same_bytes name name ≡ true
same_name [] = refl
same_name (x ∷ xs) = two (x == x) (same_bytes xs xs) (equal x) (same_name xs)
  where
    two : (a b : Bool) → a ≡ true → b ≡ true → (a && b) ≡ true
    two a b e f = rw (e, f) refl

    equal : (n : ℕ) → (n == n) ≡ true
    equal n = grind (arith, nat_tests)

literal_fills : (g : Setting) (value : Value) (slots : List Slot) (ts : List Token) → key_literal_reads value ≡ true → FillSlots g slots ts → FillSlots g (ValueSlot ∷ slots) (tokens_of (value_tree value) ++ ts)
literal_fills g Null slots ts r f = absurd (wrong r)
  where
    wrong : false ≡ true → ⊥
    wrong e = cc
literal_fills g (Int (pos n)) slots ts r f = ([], refl, f)
literal_fills g (Int (negsuc n)) slots ts r f = (DigitsSlot ∷ [], refl, ([], refl, f))
literal_fills g (Text text) slots ts r f = ([], refl, f)

literal_means : (value : Value) (t : Token) (ts : List Token) → key_literal_reads value ≡ true → key_values (tokens_of (value_tree value) ++ (t ∷ ts)) ≡ value ∷ key_values (t ∷ ts)
literal_means Null t ts r = absurd (wrong r)
  where
    wrong : false ≡ true → ⊥
    wrong e = cc
literal_means (Int (pos n)) t ts r = ap (λ (m : ℕ). Int (pos m) ∷ key_values (t ∷ ts)) (least n r)
literal_means (Int (negsuc n)) t ts r = ap (λ (m : ℕ). Int (negsuc m) ∷ key_values (t ∷ ts)) (least n r)
literal_means (Text text) t ts r = refl

second_means : (value : Value) → key_literal_reads value ≡ true → key_values (placeless w.Comma ∷ (tokens_of (value_tree value) ++ placeless w.Close ∷ [])) ≡ value ∷ []
second_means Null r = absurd (wrong r)
  where
    wrong : false ≡ true → ⊥
    wrong e = cc
second_means (Int (pos n)) r = ap (λ (m : ℕ). Int (pos m) ∷ []) (least n r)
second_means (Int (negsuc n)) r = ap (λ (m : ℕ). Int (negsuc m) ∷ []) (least n r)
second_means (Text text) r = refl

key_read : (schema : Schema) (op : Op) (key : List Value) → key_reads (keys_of schema) key ≡ true → CondIsRead schema (cond_written_at schema (c.KeyCompare op key)) (roll-Cond (c.KeyCompare op key))
key_read schema op key r =
    term_read schema (RowTest (row_tokens (keys_of schema) op key)) (roll-Cond (c.KeyCompare op key))
    (λ base n h. (omega arith, refl, fills base (keys_of schema) key r))
    (ap (λ (t : Term). t) (meant (keys_of schema) key r))
  where
    wrong : false ≡ true → ⊥
    wrong e = cc

    fills : (base : Bool) (keys : Keys) (key : List Value) → key_reads keys key ≡ true → FillSlots (setting base keys) row_slots (row_tokens keys op key)
    fills base None key r = absurd (wrong r)
    fills base (Some names) [] r = absurd (wrong r)
    fills base (Some names) (x ∷ []) r = absurd (wrong r)
    fills base (Some names) (x ∷ y ∷ z ∷ zs) r = absurd (wrong r)
    fills base (Some names) (x ∷ y ∷ []) r =
        let p = both (key_literal_reads x) (key_literal_reads y) r in
        let last : FillSlots (setting base (Some names)) (CloseSlot ∷ []) (placeless w.Close ∷ []) = ([], refl, tt) in
        let second : FillSlots (setting base (Some names)) (CommaSlot ∷ ValueSlot ∷ CloseSlot ∷ []) (placeless w.Comma ∷ (tokens_of (value_tree y) ++ placeless w.Close ∷ [])) = ([], refl, literal_fills (setting base (Some names)) y (CloseSlot ∷ []) (placeless w.Close ∷ []) p.1 last) in
        let first = literal_fills (setting base (Some names)) x (CommaSlot ∷ ValueSlot ∷ CloseSlot ∷ []) (placeless w.Comma ∷ (tokens_of (value_tree y) ++ placeless w.Close ∷ [])) p.0 second in
        ([], refl, ([], named names.0, ([], refl, ([], named names.1, ([], refl, ([], refl, ([], refl, first)))))))
      where
        named : (name : List ℕ) → filled_by (same_bytes name name) ≡ Some []
        named name = rw (same_name name) refl

    meant : (keys : Keys) (key : List Value) → key_reads keys key ≡ true → made (terms schema) (RowTest (row_tokens keys op key)) ≡ OfCond (roll-Cond (c.KeyCompare op key))
    meant None key r = absurd (wrong r)
    meant (Some names) [] r = absurd (wrong r)
    meant (Some names) (x ∷ []) r = absurd (wrong r)
    meant (Some names) (x ∷ y ∷ z ∷ zs) r = absurd (wrong r)
    meant (Some names) (x ∷ y ∷ []) r =
        let p = both (key_literal_reads x) (key_literal_reads y) r in
        ap (λ (vs : List Value). OfCond (roll-Cond (c.KeyCompare op vs)))
        (literal_means x (placeless w.Comma) (tokens_of (value_tree y) ++ placeless w.Close ∷ []) p.0 ∙ ap (λ (vs : List Value). x ∷ vs) (second_means y p.1))

-- ---- NOT, AND, OR

not_read : (schema : Schema) (x : WrittenCond) (condition : Cond) → CondIsRead schema x condition → CondIsRead schema (cond_written_at schema (c.Not x)) (roll-Cond (c.Not condition))
not_read schema x condition i =
    term_read schema ((cond_written_at schema (c.Not x)).tree) (roll-Cond (c.Not condition))
    (λ base n h. (omega arith, omega arith, refl, (refl, refl, i.anywhere base 1 (omega arith)), tt))
    (ap (λ (t : Term). OfCond (roll-Cond (c.Not (cond_in t)))) i.means)

left_and : (schema : Schema) (x : WrittenCond) (condition : Cond) → CondIsRead schema x condition → (base : Bool) → IsAt (setting base (keys_of schema)) 2 true (left_of_and x)
left_and schema x condition i base = by_or x.is_or refl
  where
    by_or : (b : Bool) → x.is_or ≡ b → IsAt (setting base (keys_of schema)) 2 true (enclosed (not b) x.tree)
    by_or false e = i.under_and e base 2 (omega arith)
    by_or true e = (refl, refl, i.anywhere base 1 (omega arith))

left_or : (schema : Schema) (x : WrittenCond) (condition : Cond) → CondIsRead schema x condition → (base : Bool) → IsAt (setting base (keys_of schema)) 1 true (left_of_or x)
left_or schema x condition i base = by_and x.is_and
  where
    by_and : (b : Bool) → IsAt (setting base (keys_of schema)) 1 true (enclosed (not b) x.tree)
    by_and false = i.anywhere base 1 (omega arith)
    by_and true = (refl, refl, i.anywhere base 1 (omega arith))

right : (schema : Schema) (x : WrittenCond) (condition : Cond) → CondIsRead schema x condition → (base : Bool) (n : ℕ) → n ≤ 3 → IsAt (setting base (keys_of schema)) n true (on_the_right x)
right schema x condition i base n h = by_both x.is_and x.is_or refl refl
  where
    by_both : (a o : Bool) → x.is_and ≡ a → x.is_or ≡ o → IsAt (setting base (keys_of schema)) n true (enclosed (not (a || o)) x.tree)
    by_both false false e f = i.under_not e f base n h
    by_both true o e f = (refl, refl, i.anywhere base 1 (omega arith))
    by_both false true e f = (refl, refl, i.anywhere base 1 (omega arith))

and_read : (schema : Schema) (x y : WrittenCond) (one two : Cond) → CondIsRead schema x one → CondIsRead schema y two → CondIsRead schema (cond_written_at schema (c.And x y)) (roll-Cond (c.And one two))
and_read schema x y one two i j = record {
  anywhere = λ base n h. (omega arith, omega arith, refl, left_and schema x one i base, right schema y two j base 3 (omega arith));
  under_and = λ o base n h. (h, omega arith, refl, left_and schema x one i base, right schema y two j base 3 (omega arith));
  under_not = λ a o base n h. absurd (true≢false a);
  means = ap (λ (t : Term). OfCond (roll-Cond (c.And (cond_in t) (cond_in (made (terms schema) (on_the_right y)))))) (enclosed_means schema x.tree (OfCond one) (not x.is_or) i.means)
      ∙ ap (λ (t : Term). OfCond (roll-Cond (c.And one (cond_in t)))) (enclosed_means schema y.tree (OfCond two) (not (y.is_and || y.is_or)) j.means);
}

or_read : (schema : Schema) (x y : WrittenCond) (one two : Cond) → CondIsRead schema x one → CondIsRead schema y two → CondIsRead schema (cond_written_at schema (c.Or x y)) (roll-Cond (c.Or one two))
or_read schema x y one two i j = record {
  anywhere = λ base n h. (h, omega arith, refl, left_or schema x one i base, right schema y two j base 2 (omega arith));
  under_and = λ o base n h. absurd (true≢false o);
  under_not = λ a o base n h. absurd (true≢false o);
  means = ap (λ (t : Term). OfCond (roll-Cond (c.Or (cond_in t) (cond_in (made (terms schema) (on_the_right y)))))) (enclosed_means schema x.tree (OfCond one) (not x.is_and) i.means)
      ∙ ap (λ (t : Term). OfCond (roll-Cond (c.Or one (cond_in t)))) (enclosed_means schema y.tree (OfCond two) (not (y.is_and || y.is_or)) j.means);
}

abbrev IsReadBack : Schema → Cond → Type 0
IsReadBack schema condition = cond_reads schema condition ≡ true → CondIsRead schema (cond_written schema condition) condition

layer : (schema : Schema) (y : Cond-F ((x : Cond) × IsReadBack schema x)) → cond_reads_at schema (map-Cond Cond Bool (cond_reads schema) (map-Cond ((x : Cond) × IsReadBack schema x) Cond (λ p. p.0) y)) ≡ true
    → CondIsRead schema (cond_written_at schema (map-Cond Cond WrittenCond (cond_written schema) (map-Cond ((x : Cond) × IsReadBack schema x) Cond (λ p. p.0) y))) (roll-Cond (map-Cond ((x : Cond) × IsReadBack schema x) Cond (λ p. p.0) y))
layer schema (c.Compare op left right) r = let p = both (expr_reads schema left) (expr_reads schema right) r in compared_read schema op left right (expr_is_read schema left p.0) (expr_is_read schema right p.1)
layer schema (c.KeyCompare op key) r = key_read schema op key r
layer schema (c.IsNull expr negated) r = null_read schema expr negated (expr_is_read schema expr r)
layer schema (c.Not x) r = not_read schema (cond_written schema x.0) x.0 (x.1 r)
layer schema (c.And x y) r = let p = both (cond_reads schema x.0) (cond_reads schema y.0) r in and_read schema (cond_written schema x.0) (cond_written schema y.0) x.0 y.0 (x.1 p.0) (y.1 p.1)
layer schema (c.Or x y) r = let p = both (cond_reads schema x.0) (cond_reads schema y.0) r in or_read schema (cond_written schema x.0) (cond_written schema y.0) x.0 y.0 (x.1 p.0) (y.1 p.1)

cond_is_read : (schema : Schema) (condition : Cond) → IsReadBack schema condition
cond_is_read schema = ind-Cond (IsReadBack schema) (λ x y is reads.
    subst (λ z. CondIsRead schema z (roll-Cond x)) (sym (fold-roll-Cond WrittenCond (cond_written_at schema) x))
    (subst (λ z. cond_reads_at schema (map-Cond Cond Bool (cond_reads schema) z) ≡ true → CondIsRead schema (cond_written_at schema (map-Cond Cond WrittenCond (cond_written schema) z)) (roll-Cond z)) is (layer schema y)
    (sym (fold-roll-Cond Bool (cond_reads_at schema) x) ∙ reads)))

pub conds_are_read_back : CondsAreReadBack
conds_are_read_back schema condition r =
    let i = cond_is_read schema condition r in record { stands = i.anywhere true 1 (omega arith); means = ap cond_in i.means }
