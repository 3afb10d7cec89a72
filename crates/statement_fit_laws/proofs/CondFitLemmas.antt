-- The condition that a tree without a fault is, fits.
use Rattle.std.proofs.Common.{◌≡◌, ◌⊎◌, ℕ, suc, ◌≤◌, ◌+◌, max, Bool, true, false, List, [], ◌∷◌, ◌++◌, None, refl, sym, ◌∙◌, ap, subst, inl, inr, arith}
use Rattle.std.proofs.lemmas.Bool.{false≢true}
use Rattle.std.specs.Prelude.{◌&&◌, ◌||◌}
use Rattle.std.specs.Option.{option_or}
use Rattle.row_types.specs.declared.table_schema.Schema.{Schema}
use Rattle.ptc_statement.specs.declared.expressions.Op.{Op}
use Rattle.ptc_statement.specs.declared.expressions.Op.TheVariants.{Le, Ge}
use Rattle.ptc_statement.specs.declared.conditions.Cond.{Cond, roll-Cond}
use Rattle.ptc_statement.specs.declared.conditions.Cond.TheOpen as c
use Rattle.ptc_statement.specs.declared.conditions.Cond.TheFolds.{fold-roll-Cond}
use Rattle.ptc_statement.specs.Fits as fit
use Rattle.ptc_statement.specs.Fits.{expr_height, is_sound_at, is_sound, cond_height_at, cond_height}
use Rattle.statement_tokens.specs.declared.words.Math.TheVariants.{Minus}
use Rattle.statement_tokens.specs.declared.words.Token.{Token}
use Rattle.statement_tokens.specs.declared.words.Word.{Word}
use Rattle.statement_tokens.specs.declared.words.Word.TheVariants as w
use Rattle.statement_grammar.specs.Grammar.{Shape, Leaf, Prefix, Binary, Range, Nullness, Paren, Signed, RowTest, IsAt, tokens_of, level, left_level, prefix_level, wants, gives}
use Rattle.statement_grammar.specs.Machine.{made}
use Rattle.statement_grammar.specs.Cut.{whole, height}
use Rattle.statement_grammar.specs.Kinds.{Sort, OfNumber, OfText, OfAny, sort_of, differ, is_text, text_operand, when_true, begins_at, breach, breaches, places, unknown_in}
use Rattle.statement_grammar.specs.Sentence.{setting}
use Rattle.statement_grammar.specs.FirstFault.{keys_of}
use Rattle.statement_grammar.specs.Terms.{Term, OfCond, terms, expr_in, cond_in, is_negated}
use Rattle.statement_grammar.proofs.BasicLemmas.{both_true}
use Rattle.statement_text_laws.specs.SpelledWords.{expr_spells, cond_spells_at, cond_spells}
use Rattle.statement_round_trip.proofs.PlacedLemmas.{at, empty, neither, no_place}
use Rattle.statement_round_trip.proofs.KindLemmas.{is_a_number}
use Rattle.statement_fit_laws.proofs.PrintLemmas.{AllPrint, front_prints, back_prints}
use Rattle.statement_fit_laws.proofs.ExprFitLemmas.{ExprKnown, expr_known, no_text}
use Rattle.statement_fit_laws.proofs.RowFitLemmas.{row_known}

pub record CondKnown (schema : Schema) (s : Shape) : Type 0 where
  pub condition : Cond
  pub is : made (terms schema) s ≡ OfCond condition
  pub high : cond_height condition ≡ height (whole s)
  pub sound : breaches schema (whole s) ≡ [] → is_sound schema condition ≡ true
  pub spells : AllPrint (tokens_of s) → cond_spells schema condition ≡ true

or_left : (a b : Bool) → a ≡ true → (a || b) ≡ true
or_left a b e = rw e refl

or_right : (a b : Bool) → b ≡ true → (a || b) ≡ true
or_right true b e = refl
or_right false b e = e

-- ---- two sides of one kind

agree : (a b : Sort) → differ a b ≡ false → ((is_text a ≡ false) × (is_text b ≡ false)) ⊎ ((is_a_number a ≡ false) × (is_a_number b ≡ false))
agree OfNumber OfNumber d = inl (refl, refl)
agree OfNumber OfAny d = inl (refl, refl)
agree OfAny OfNumber d = inl (refl, refl)
agree OfAny OfAny d = inl (refl, refl)
agree OfText OfText d = inr (refl, refl)
agree OfText OfAny d = inr (refl, refl)
agree OfAny OfText d = inr (refl, refl)
agree OfNumber OfText d = cc
agree OfText OfNumber d = cc

one_kind : (schema : Schema) (l r : Shape) (i : ExprKnown schema l) (j : ExprKnown schema r) → breach schema (whole l) (whole r) ≡ None
    → ((fit.is_number schema i.expr && fit.is_number schema j.expr) || (fit.is_text schema i.expr && fit.is_text schema j.expr)) ≡ true
one_kind schema l r i j e = by_kind (agree (sort_of schema (whole l)) (sort_of schema (whole r)) (no_text (differ (sort_of schema (whole l)) (sort_of schema (whole r))) (begins_at (whole r)) b.1))
  where
    a : (text_operand schema (whole l) ≡ None) × (option_or (text_operand schema (whole r)) (when_true (differ (sort_of schema (whole l)) (sort_of schema (whole r))) (begins_at (whole r))) ≡ None)
    a = neither (text_operand schema (whole l)) (option_or (text_operand schema (whole r)) (when_true (differ (sort_of schema (whole l)) (sort_of schema (whole r))) (begins_at (whole r)))) e

    b : (text_operand schema (whole r) ≡ None) × (when_true (differ (sort_of schema (whole l)) (sort_of schema (whole r))) (begins_at (whole r)) ≡ None)
    b = neither (text_operand schema (whole r)) (when_true (differ (sort_of schema (whole l)) (sort_of schema (whole r))) (begins_at (whole r))) a.1

    by_kind : ((is_text (sort_of schema (whole l)) ≡ false) × (is_text (sort_of schema (whole r)) ≡ false)) ⊎ ((is_a_number (sort_of schema (whole l)) ≡ false) × (is_a_number (sort_of schema (whole r)) ≡ false))
        → ((fit.is_number schema i.expr && fit.is_number schema j.expr) || (fit.is_text schema i.expr && fit.is_text schema j.expr)) ≡ true
    by_kind (inl n) = or_left (fit.is_number schema i.expr && fit.is_number schema j.expr) (fit.is_text schema i.expr && fit.is_text schema j.expr) (both_true (fit.is_number schema i.expr) (fit.is_number schema j.expr) (i.numbers a.0 n.0) (j.numbers b.0 n.1))
    by_kind (inr t) = or_right (fit.is_number schema i.expr && fit.is_number schema j.expr) (fit.is_text schema i.expr && fit.is_text schema j.expr) (both_true (fit.is_text schema i.expr) (fit.is_text schema j.expr) (i.texts a.0 t.0) (j.texts b.0 t.1))

-- a comparison as a condition
compared_high : (schema : Schema) (op : Op) (l r : Shape) (i : ExprKnown schema l) (j : ExprKnown schema r) → cond_height (roll-Cond (c.Compare op i.expr j.expr)) ≡ max (height (whole l)) (height (whole r)) + 1
compared_high schema op l r i j = fold-roll-Cond ℕ cond_height_at (c.Compare op i.expr j.expr) ∙ ap (λ (a : ℕ). max a (expr_height j.expr) + 1) i.high ∙ ap (λ (b : ℕ). max (height (whole l)) b + 1) j.high

compared_sound : (schema : Schema) (op : Op) (l r : Shape) (i : ExprKnown schema l) (j : ExprKnown schema r) → places (breach schema (whole l) (whole r)) ≡ [] → is_sound schema (roll-Cond (c.Compare op i.expr j.expr)) ≡ true
compared_sound schema op l r i j e = fold-roll-Cond Bool (is_sound_at schema) (c.Compare op i.expr j.expr) ∙ one_kind schema l r i j (no_place (breach schema (whole l) (whole r)) e)

compared_spells : (schema : Schema) (op : Op) (l r : Shape) (i : ExprKnown schema l) (j : ExprKnown schema r) → AllPrint (tokens_of l) → AllPrint (tokens_of r) → cond_spells schema (roll-Cond (c.Compare op i.expr j.expr)) ≡ true
compared_spells schema op l r i j p q = fold-roll-Cond Bool (cond_spells_at schema) (c.Compare op i.expr j.expr) ∙ both_true (expr_spells schema i.expr) (expr_spells schema j.expr) (i.spells p) (j.spells q)

compared_known : (schema : Schema) (place : ℕ) (op : Op) (l r : Shape) → ExprKnown schema l → ExprKnown schema r → CondKnown schema (Binary l (at (w.Compare op) place) r)
compared_known schema place op l r i j = record {
  condition = roll-Cond (c.Compare op i.expr j.expr);
  is = ap (λ (x : Term). OfCond (roll-Cond (c.Compare op (expr_in x) (expr_in (made (terms schema) r))))) i.is ∙ ap (λ (y : Term). OfCond (roll-Cond (c.Compare op i.expr (expr_in y)))) j.is;
  high = compared_high schema op l r i j;
  sound = compared_sound schema op l r i j;
  spells = λ p. compared_spells schema op l r i j (front_prints (tokens_of l) (at (w.Compare op) place ∷ tokens_of r) p) (back_prints (tokens_of l) (at (w.Compare op) place ∷ tokens_of r) p).1;
}

range_known : (schema : Schema) (b a : Token) (x l h : Shape) → ExprKnown schema x → ExprKnown schema l → ExprKnown schema h → CondKnown schema (Range x b l a h)
range_known schema b a x l h i j k = record {
  condition = roll-Cond (c.And low high);
  is = ap (λ (t : Term). OfCond (roll-Cond (c.And (roll-Cond (c.Compare Ge (expr_in t) (expr_in (made (terms schema) l)))) (roll-Cond (c.Compare Le (expr_in t) (expr_in (made (terms schema) h))))))) i.is
      ∙ ap (λ (t : Term). OfCond (roll-Cond (c.And (roll-Cond (c.Compare Ge i.expr (expr_in t))) (roll-Cond (c.Compare Le i.expr (expr_in (made (terms schema) h))))))) j.is
      ∙ ap (λ (t : Term). OfCond (roll-Cond (c.And low (roll-Cond (c.Compare Le i.expr (expr_in t)))))) k.is;
  high = fold-roll-Cond ℕ cond_height_at (c.And low high) ∙ ap (λ (n : ℕ). max n (cond_height high) + 1) (compared_high schema Ge x l i j) ∙ ap (λ (n : ℕ). max (max (height (whole x)) (height (whole l)) + 1) n + 1) (compared_high schema Le x h i k)
      ∙ level_of (height (whole x)) (height (whole l)) (height (whole h));
  sound = λ e. let q = empty (places (breach schema (whole x) (whole l))) (places (breach schema (whole x) (whole h))) e in
      fold-roll-Cond Bool (is_sound_at schema) (c.And low high) ∙ both_true (is_sound schema low) (is_sound schema high) (compared_sound schema Ge x l i j q.0) (compared_sound schema Le x h i k q.1);
  spells = λ p. let q = (back_prints (tokens_of x) (b ∷ (tokens_of l ++ (a ∷ tokens_of h))) p).1 in
      let first = front_prints (tokens_of x) (b ∷ (tokens_of l ++ (a ∷ tokens_of h))) p in
      fold-roll-Cond Bool (cond_spells_at schema) (c.And low high)
      ∙ both_true (cond_spells schema low) (cond_spells schema high) (compared_spells schema Ge x l i j first (front_prints (tokens_of l) (a ∷ tokens_of h) q)) (compared_spells schema Le x h i k first (back_prints (tokens_of l) (a ∷ tokens_of h) q).1);
}
  where
    low : Cond
    low = roll-Cond (c.Compare Ge i.expr j.expr)

    high : Cond
    high = roll-Cond (c.Compare Le i.expr k.expr)

    level_of : (p q r : ℕ) → max (max p q + 1) (max p r + 1) + 1 ≡ max p (max q r) + 2
    level_of p q r = omega arith

null_known : (schema : Schema) (t : Token) (more : List Token) (x : Shape) → ExprKnown schema x → CondKnown schema (Nullness x t more)
null_known schema t more x i = record {
  condition = roll-Cond (c.IsNull i.expr (is_negated more));
  is = ap (λ (y : Term). OfCond (roll-Cond (c.IsNull (expr_in y) (is_negated more)))) i.is;
  high = fold-roll-Cond ℕ cond_height_at (c.IsNull i.expr (is_negated more)) ∙ ap (λ (n : ℕ). n + 1) i.high;
  sound = λ e. fold-roll-Cond Bool (is_sound_at schema) (c.IsNull i.expr (is_negated more)) ∙ by_sort (sort_of schema (whole x)) refl (no_place (text_operand schema (whole x)) e);
  spells = λ p. fold-roll-Cond Bool (cond_spells_at schema) (c.IsNull i.expr (is_negated more)) ∙ i.spells (front_prints (tokens_of x) (t ∷ more) p);
}
  where
    number : (s : Sort) → sort_of schema (whole x) ≡ s → is_text s ≡ false → text_operand schema (whole x) ≡ None → (fit.is_number schema i.expr || fit.is_text schema i.expr) ≡ true
    number s f n o = or_left (fit.is_number schema i.expr) (fit.is_text schema i.expr) (i.numbers o (ap is_text f ∙ n))

    by_sort : (s : Sort) → sort_of schema (whole x) ≡ s → text_operand schema (whole x) ≡ None → (fit.is_number schema i.expr || fit.is_text schema i.expr) ≡ true
    by_sort OfNumber f o = number OfNumber f refl o
    by_sort OfAny f o = number OfAny f refl o
    by_sort OfText f o = or_right (fit.is_number schema i.expr) (fit.is_text schema i.expr) (i.texts o (ap is_a_number f))

-- ---- NOT, AND, OR

not_known : (schema : Schema) (place : ℕ) (s : Shape) → CondKnown schema s → CondKnown schema (Prefix (at w.Not place) s)
not_known schema place s i = record {
  condition = roll-Cond (c.Not i.condition);
  is = ap (λ (t : Term). OfCond (roll-Cond (c.Not (cond_in t)))) i.is;
  high = fold-roll-Cond ℕ cond_height_at (c.Not i.condition) ∙ ap (λ (n : ℕ). n + 1) i.high;
  sound = λ e. fold-roll-Cond Bool (is_sound_at schema) (c.Not i.condition) ∙ i.sound e;
  spells = λ p. fold-roll-Cond Bool (cond_spells_at schema) (c.Not i.condition) ∙ i.spells p.1;
}

and_known : (schema : Schema) (place : ℕ) (l r : Shape) → CondKnown schema l → CondKnown schema r → CondKnown schema (Binary l (at w.And place) r)
and_known schema place l r i j = record {
  condition = roll-Cond (c.And i.condition j.condition);
  is = ap (λ (x : Term). OfCond (roll-Cond (c.And (cond_in x) (cond_in (made (terms schema) r))))) i.is ∙ ap (λ (y : Term). OfCond (roll-Cond (c.And i.condition (cond_in y)))) j.is;
  high = fold-roll-Cond ℕ cond_height_at (c.And i.condition j.condition) ∙ ap (λ (a : ℕ). max a (cond_height j.condition) + 1) i.high ∙ ap (λ (b : ℕ). max (height (whole l)) b + 1) j.high;
  sound = λ e. let q = empty (breaches schema (whole l)) (breaches schema (whole r)) e in
      fold-roll-Cond Bool (is_sound_at schema) (c.And i.condition j.condition) ∙ both_true (is_sound schema i.condition) (is_sound schema j.condition) (i.sound q.0) (j.sound q.1);
  spells = λ p. fold-roll-Cond Bool (cond_spells_at schema) (c.And i.condition j.condition)
      ∙ both_true (cond_spells schema i.condition) (cond_spells schema j.condition) (i.spells (front_prints (tokens_of l) (at w.And place ∷ tokens_of r) p)) (j.spells (back_prints (tokens_of l) (at w.And place ∷ tokens_of r) p).1);
}

or_known : (schema : Schema) (place : ℕ) (l r : Shape) → CondKnown schema l → CondKnown schema r → CondKnown schema (Binary l (at w.Or place) r)
or_known schema place l r i j = record {
  condition = roll-Cond (c.Or i.condition j.condition);
  is = ap (λ (x : Term). OfCond (roll-Cond (c.Or (cond_in x) (cond_in (made (terms schema) r))))) i.is ∙ ap (λ (y : Term). OfCond (roll-Cond (c.Or i.condition (cond_in y)))) j.is;
  high = fold-roll-Cond ℕ cond_height_at (c.Or i.condition j.condition) ∙ ap (λ (a : ℕ). max a (cond_height j.condition) + 1) i.high ∙ ap (λ (b : ℕ). max (height (whole l)) b + 1) j.high;
  sound = λ e. let q = empty (breaches schema (whole l)) (breaches schema (whole r)) e in
      fold-roll-Cond Bool (is_sound_at schema) (c.Or i.condition j.condition) ∙ both_true (is_sound schema i.condition) (is_sound schema j.condition) (i.sound q.0) (j.sound q.1);
  spells = λ p. fold-roll-Cond Bool (cond_spells_at schema) (c.Or i.condition j.condition)
      ∙ both_true (cond_spells schema i.condition) (cond_spells schema j.condition) (i.spells (front_prints (tokens_of l) (at w.Or place ∷ tokens_of r) p)) (j.spells (back_prints (tokens_of l) (at w.Or place ∷ tokens_of r) p).1);
}

-- ---- trees

prefix_known : (schema : Schema) (place : ℕ) (word : Word) (s : Shape) → 1 ≤ prefix_level word → true ≡ gives word → (wants word ≡ true → CondKnown schema s) → CondKnown schema (Prefix (at word place) s)
prefix_known schema place w.Not s l e i = not_known schema place s (i refl)
prefix_known schema place (w.Math Minus) s l e i = absurd (false≢true (sym e))
prefix_known schema place _ s l e i = absurd (omega arith)

binary_known : (schema : Schema) (place : ℕ) (word : Word) (l r : Shape) → 1 ≤ level word → true ≡ gives word → ((c : Bool) → wants word ≡ c → true ≡ c → CondKnown schema l × CondKnown schema r) → ((c : Bool) → wants word ≡ c → false ≡ c → ExprKnown schema l × ExprKnown schema r)
    → CondKnown schema (Binary l (at word place) r)
binary_known schema place (w.Compare op) l r h e i j = let q = j false refl refl in compared_known schema place op l r q.0 q.1
binary_known schema place w.And l r h e i j = let q = i true refl refl in and_known schema place l r q.0 q.1
binary_known schema place w.Or l r h e i j = let q = i true refl refl in or_known schema place l r q.0 q.1
binary_known schema place (w.Math o) l r h e i j = absurd (false≢true (sym e))
binary_known schema place _ l r h e i j = absurd (omega arith)

pub cond_known : (schema : Schema) (base : Bool) (n : ℕ) (s : Shape) → IsAt (setting base (keys_of schema)) n true s → unknown_in schema (whole s) ≡ [] → CondKnown schema s
cond_known schema base n (Leaf t) a u = absurd (false≢true (sym a.0))
cond_known schema base n (Prefix t s) a u = prefix_known schema t.place t.word s a.1 a.2 (λ e. cond_known schema base (prefix_level t.word) s (subst (λ (b : Bool). IsAt (setting base (keys_of schema)) (prefix_level t.word) b s) e a.3) u)
cond_known schema base n (Binary l t r) a u =
    let q = empty (unknown_in schema (whole l)) (unknown_in schema (whole r)) u in
    binary_known schema t.place t.word l r a.1 a.2
    (λ c e f. (
      cond_known schema base (left_level t.word) l (subst (λ (b : Bool). IsAt (setting base (keys_of schema)) (left_level t.word) b l) (e ∙ sym f) a.3) q.0,
      cond_known schema base (suc (level t.word)) r (subst (λ (b : Bool). IsAt (setting base (keys_of schema)) (suc (level t.word)) b r) (e ∙ sym f) a.4) q.1,
    ))
    (λ c e f. (
      expr_known schema (setting base (keys_of schema)) (left_level t.word) l (subst (λ (b : Bool). IsAt (setting base (keys_of schema)) (left_level t.word) b l) (e ∙ sym f) a.3) q.0,
      expr_known schema (setting base (keys_of schema)) (suc (level t.word)) r (subst (λ (b : Bool). IsAt (setting base (keys_of schema)) (suc (level t.word)) b r) (e ∙ sym f) a.4) q.1,
    ))
cond_known schema base n (Range x b l d h) a u =
    let q = empty (unknown_in schema (whole x)) (unknown_in schema (whole l) ++ unknown_in schema (whole h)) u in
    let v = empty (unknown_in schema (whole l)) (unknown_in schema (whole h)) q.1 in
    range_known schema b d x l h (expr_known schema (setting base (keys_of schema)) 5 x a.4 q.0) (expr_known schema (setting base (keys_of schema)) 5 l a.5 v.0) (expr_known schema (setting base (keys_of schema)) 5 h a.6 v.1)
cond_known schema base n (Nullness x t more) a u = null_known schema t more x (expr_known schema (setting base (keys_of schema)) 5 x a.4 u)
cond_known schema base n (Paren o s p) a u = let i = cond_known schema base 1 s a.2 u in record { condition = i.condition; is = i.is; high = i.high; sound = i.sound; spells = λ q. i.spells (front_prints (tokens_of s) (p ∷ []) q.1) }
cond_known schema base n (Signed t d) a u = absurd (false≢true (sym a.0))
cond_known schema base n (RowTest ts) a u =
    let i = row_known schema base ts a.2 in record {
      condition = roll-Cond (c.KeyCompare i.op i.key);
      is = i.is;
      high = fold-roll-Cond ℕ cond_height_at (c.KeyCompare i.op i.key);
      sound = λ e. fold-roll-Cond Bool (is_sound_at schema) (c.KeyCompare i.op i.key) ∙ i.sound e;
      spells = λ p. fold-roll-Cond Bool (cond_spells_at schema) (c.KeyCompare i.op i.key) ∙ i.spells p;
    }
