-- A tree of the same words at other places is the same: it may stand where the first one may, means the same, and has no
-- fault where that one has none.
use Rattle.std.proofs.Common.{◌≡◌, ℕ, zero, suc, ◌+◌, max, Bool, true, false, List, [], ◌∷◌, ◌++◌, Option, None, Some, refl, sym, ◌∙◌, ap}
use Rattle.std.specs.Prelude.{drop, if◌then◌else◌}
use Rattle.std.specs.Option.{option_or}
use Rattle.row_types.specs.declared.table_schema.Schema.{Schema}
use Rattle.row_types.specs.declared.values.Value.{Value}
use Rattle.ptc_statement.specs.declared.expressions.Op.{Op}
use Rattle.ptc_statement.specs.declared.expressions.Op.TheVariants.{Le, Ge}
use Rattle.ptc_statement.specs.declared.conditions.Cond.{roll-Cond}
use Rattle.ptc_statement.specs.declared.conditions.Cond.TheOpen as c
use Rattle.statement_tokens.specs.declared.words.Token.{Token}
use Rattle.statement_tokens.specs.declared.words.Word.{Word}
use Rattle.statement_tokens.specs.declared.words.Word.TheVariants as w
use Rattle.statement_grammar.specs.Grammar.{Setting, Shape, Leaf, Prefix, Binary, Range, Nullness, Paren, Signed, RowTest, IsAt, Unjoined, AreNullWords, FillSlots, Slot, row_slots, tokens_of, is_value, is_minus}
use Rattle.statement_grammar.specs.Machine.{made}
use Rattle.statement_grammar.specs.Terms.{Term, OfCond, terms, expr_in, compared, sign_term, two_term, is_negated, key_values, value_of_leaf, first_op, negative}
use Rattle.statement_grammar.specs.Cut as p
use Rattle.statement_grammar.specs.Cut.{Part, whole, height}
use Rattle.statement_grammar.specs.Kinds.{Sort, sort_of, sort_of_number, differ, is_text, own_text, text_operand, when_true, begins_at, breach, breaches, joined_breaches, sign_breaches, places, unknown, unknown_in, no_column, column_named, values_in, value_leaf, row_breaches_from}
use Rattle.statement_text_laws.specs.SpelledWords.{words_of}
use Rattle.statement_text_laws.proofs.ExprTextLemmas.{words_on}

-- ---- lists of tokens

abbrev pub at : Word → ℕ → Token
at word place = record { word = word; place = place }

abbrev pub place_in : List Token → ℕ → ℕ
place_in [] n = 0
place_in (t ∷ ts) zero = t.place
place_in (t ∷ ts) (suc n) = place_in ts n

-- the words of these tokens, at these places
abbrev pub with_places : List Token → (ℕ → ℕ) → List Token
with_places [] f = []
with_places (t ∷ ts) f = at t.word (f 0) ∷ with_places ts (λ n. f (suc n))

pub replaced : (ts us : List Token) → words_of us ≡ words_of ts → us ≡ with_places ts (place_in us)
replaced [] [] e = refl
replaced [] (u ∷ us) e = cc
replaced (t ∷ ts) [] e = cc
replaced (t ∷ ts) (u ∷ us) e =
    let h : u.word ≡ t.word = cc in
    let i : words_of us ≡ words_of ts = cc in
    ap (λ (l : List Token). u ∷ l) (replaced ts us i) ∙ ap (λ (v : Word). at v u.place ∷ with_places ts (place_in us)) h

-- tokens of words, and of more words behind them
pub record Split (words more : List Word) (ts : List Token) : Type 0 where
  pub front : List Token
  pub back : List Token
  pub are : ts ≡ front ++ back
  pub first : words_of front ≡ words
  pub rest : words_of back ≡ more

pub split : (words more : List Word) (ts : List Token) → words_of ts ≡ words ++ more → Split words more ts
split [] more ts e = record { front = []; back = ts; are = refl; first = refl; rest = e }
split (word ∷ words) more [] e = cc
split (word ∷ words) more (t ∷ ts) e =
    let h : t.word ≡ word = cc in
    let g : words_of ts ≡ words ++ more = cc in
    let i = split words more ts g in record {
      front = t ∷ i.front;
      back = i.back;
      are = ap (λ (l : List Token). t ∷ l) i.are;
      first = ap (λ (l : List Word). t.word ∷ l) i.first ∙ ap (λ (v : Word). v ∷ words) h;
      rest = i.rest;
    }

-- a token of a word, and tokens of more words behind it
pub record First (word : Word) (words : List Word) (ts : List Token) : Type 0 where
  pub place : ℕ
  pub later : List Token
  pub are : ts ≡ at word place ∷ later
  pub rest : words_of later ≡ words

pub first_of : (word : Word) (words : List Word) (ts : List Token) → words_of ts ≡ word ∷ words → First word words ts
first_of word words [] e = cc
first_of word words (t ∷ ts) e =
    let h : t.word ≡ word = cc in
    let g : words_of ts ≡ words = cc in record { place = t.place; later = ts; are = ap (λ (v : Word). at v t.place ∷ ts) h; rest = g }

pub no_words : (ts : List Token) → words_of ts ≡ [] → ts ≡ []
no_words [] e = refl
no_words (t ∷ ts) e = cc

-- ---- what is the same

pub record Same (s r : Shape) : Type 0 where
  pub stands : (g : Setting) (n : ℕ) (c : Bool) → IsAt g n c s → IsAt g n c r
  pub unjoined : (u : Word) → Unjoined u s → Unjoined u r
  pub means : (schema : Schema) → made (terms schema) r ≡ made (terms schema) s
  pub high : height (whole r) ≡ height (whole s)
  pub sort : (schema : Schema) → sort_of schema (whole r) ≡ sort_of schema (whole s)
  pub operand : (schema : Schema) → text_operand schema (whole s) ≡ None → text_operand schema (whole r) ≡ None
  pub kinds : (schema : Schema) → breaches schema (whole s) ≡ [] → breaches schema (whole r) ≡ []
  pub known : (schema : Schema) → unknown_in schema (whole s) ≡ [] → unknown_in schema (whole r) ≡ []

pub neither : (a b : Option ℕ) → option_or a b ≡ None → (a ≡ None) × (b ≡ None)
neither None b e = (refl, e)
neither (Some n) b e = cc

pub none_of : (a b : Option ℕ) → a ≡ None → b ≡ None → option_or a b ≡ None
none_of a b e f = rw (e, f) refl

pub empty : {A : Type 0} (a b : List A) → a ++ b ≡ [] → (a ≡ []) × (b ≡ [])
empty [] b e = (refl, e)
empty (x ∷ a) b e = cc

pub empties : {A : Type 0} (a b : List A) → a ≡ [] → b ≡ [] → a ++ b ≡ []
empties a b e f = rw (e, f) refl

pub no_place : (a : Option ℕ) → places a ≡ [] → a ≡ None
no_place None e = refl
no_place (Some n) e = cc

pub no_places : (a : Option ℕ) → a ≡ None → places a ≡ []
no_places a e = rw e refl

when_not : (a b : Bool) (n m : ℕ) → b ≡ a → when_true a n ≡ None → when_true b m ≡ None
when_not false b n m e f = rw e refl
when_not true b n m e f = cc

own_same : (schema : Schema) (s r : Shape) → Same s r → own_text schema (whole s) ≡ None → own_text schema (whole r) ≡ None
own_same schema s r i = when_not (is_text (sort_of schema (whole s))) (is_text (sort_of schema (whole r))) (begins_at (whole s)) (begins_at (whole r)) (ap is_text (i.sort schema))

breach_same : (schema : Schema) (l r m q : Shape) → Same l m → Same r q → breach schema (whole l) (whole r) ≡ None → breach schema (whole m) (whole q) ≡ None
breach_same schema l r m q i j e =
    let a = neither (text_operand schema (whole l)) (option_or (text_operand schema (whole r)) (when_true (differ (sort_of schema (whole l)) (sort_of schema (whole r))) (begins_at (whole r)))) e in
    let b = neither (text_operand schema (whole r)) (when_true (differ (sort_of schema (whole l)) (sort_of schema (whole r))) (begins_at (whole r))) a.1 in
    none_of (text_operand schema (whole m)) _ (i.operand schema a.0)
    (none_of (text_operand schema (whole q)) _ (j.operand schema b.0)
    (when_not (differ (sort_of schema (whole l)) (sort_of schema (whole r))) (differ (sort_of schema (whole m)) (sort_of schema (whole q))) (begins_at (whole r)) (begins_at (whole q))
    (ap (λ (x : Sort). differ x (sort_of schema (whole q))) (i.sort schema) ∙ ap (differ (sort_of schema (whole l))) (j.sort schema)) b.1))

leaf_same : (word : Word) (n m : ℕ) → Same (Leaf (at word n)) (Leaf (at word m))
leaf_same word n m = record {
  stands = λ g k b h. h;
  unjoined = λ u h. h;
  means = λ schema. refl;
  high = refl;
  sort = λ schema. refl;
  operand = λ schema e. refl;
  kinds = λ schema e. refl;
  known = λ schema e. by_word schema word e;
}
  where
    by_column : (o : Option ℕ) → no_column o n ≡ [] → no_column o m ≡ []
    by_column None e = cc
    by_column (Some k) e = refl

    by_word : (schema : Schema) (word : Word) → unknown schema word n ≡ [] → unknown schema word m ≡ []
    by_word schema (w.Name name) e = by_column (column_named schema name) e
    by_word schema (w.Number a) e = refl
    by_word schema (w.Text a) e = refl
    by_word schema w.Null e = refl
    by_word schema (w.Math a) e = refl
    by_word schema (w.Compare a) e = refl
    by_word schema (w.Keyword a) e = refl
    by_word schema w.And e = refl
    by_word schema w.Or e = refl
    by_word schema w.Not e = refl
    by_word schema w.Is e = refl
    by_word schema w.Between e = refl
    by_word schema w.Open e = refl
    by_word schema w.Close e = refl
    by_word schema w.Comma e = refl
    by_word schema w.Semicolon e = refl

signed_operand : (schema : Schema) (s r : Shape) → Same s r → option_or (text_operand schema (whole s)) (own_text schema (whole s)) ≡ None → option_or (text_operand schema (whole r)) (own_text schema (whole r)) ≡ None
signed_operand schema s r i e =
    let a = neither (text_operand schema (whole s)) (own_text schema (whole s)) e in
    none_of (text_operand schema (whole r)) (own_text schema (whole r)) (i.operand schema a.0) (own_same schema s r i a.1)

prefix_same : (word : Word) (n m : ℕ) (s r : Shape) → Same s r → Same (Prefix (at word n) s) (Prefix (at word m) r)
prefix_same word n m s r i = record {
  stands = λ g k b h. (h.0, h.1, h.2, i.stands g _ _ h.3, i.unjoined word h.4);
  unjoined = λ u h. tt;
  means = λ schema. ap (sign_term word) (i.means schema);
  high = ap (λ (k : ℕ). k + 1) i.high;
  sort = λ schema. refl;
  operand = λ schema e. signed_operand schema s r i e;
  kinds = λ schema e. by_word schema word e;
  known = λ schema e. i.known schema e;
}
  where
    math : (schema : Schema) → places (option_or (text_operand schema (whole s)) (own_text schema (whole s))) ≡ [] → places (option_or (text_operand schema (whole r)) (own_text schema (whole r))) ≡ []
    math schema e = no_places (option_or (text_operand schema (whole r)) (own_text schema (whole r))) (signed_operand schema s r i (no_place (option_or (text_operand schema (whole s)) (own_text schema (whole s))) e))

    by_word : (schema : Schema) (word : Word) → sign_breaches schema word (whole s) (breaches schema (whole s)) ≡ [] → sign_breaches schema word (whole r) (breaches schema (whole r)) ≡ []
    by_word schema w.Not e = i.kinds schema e
    by_word schema (w.Name a) e = math schema e
    by_word schema (w.Number a) e = math schema e
    by_word schema (w.Text a) e = math schema e
    by_word schema w.Null e = math schema e
    by_word schema (w.Math a) e = math schema e
    by_word schema (w.Compare a) e = math schema e
    by_word schema (w.Keyword a) e = math schema e
    by_word schema w.And e = math schema e
    by_word schema w.Or e = math schema e
    by_word schema w.Is e = math schema e
    by_word schema w.Between e = math schema e
    by_word schema w.Open e = math schema e
    by_word schema w.Close e = math schema e
    by_word schema w.Comma e = math schema e
    by_word schema w.Semicolon e = math schema e

abbrev both_operands : Schema → Shape → Shape → Option ℕ
both_operands schema l r = option_or (text_operand schema (whole l)) (option_or (own_text schema (whole l)) (option_or (text_operand schema (whole r)) (own_text schema (whole r))))

joined_operand : (schema : Schema) (l r m q : Shape) → Same l m → Same r q → both_operands schema l r ≡ None → both_operands schema m q ≡ None
joined_operand schema l r m q i j e =
    let a = neither (text_operand schema (whole l)) (option_or (own_text schema (whole l)) (option_or (text_operand schema (whole r)) (own_text schema (whole r)))) e in
    let b = neither (own_text schema (whole l)) (option_or (text_operand schema (whole r)) (own_text schema (whole r))) a.1 in
    none_of (text_operand schema (whole m)) (option_or (own_text schema (whole m)) (option_or (text_operand schema (whole q)) (own_text schema (whole q)))) (i.operand schema a.0)
    (none_of (own_text schema (whole m)) (option_or (text_operand schema (whole q)) (own_text schema (whole q))) (own_same schema l m i b.0) (signed_operand schema r q j b.1))

binary_same : (word : Word) (n k : ℕ) (l r m q : Shape) → Same l m → Same r q → Same (Binary l (at word n) r) (Binary m (at word k) q)
binary_same word n k l r m q i j = record {
  stands = λ g a b h. (h.0, h.1, h.2, i.stands g _ _ h.3, j.stands g _ _ h.4);
  unjoined = λ u h. tt;
  means = λ schema. ap (λ (x : Term). two_term word x (made (terms schema) q)) (i.means schema) ∙ ap (λ (y : Term). two_term word (made (terms schema) l) y) (j.means schema);
  high = ap (λ (a : ℕ). max a (height (whole q)) + 1) i.high ∙ ap (λ (b : ℕ). max (height (whole l)) b + 1) j.high;
  sort = λ schema. refl;
  operand = λ schema e. joined_operand schema l r m q i j e;
  kinds = λ schema e. by_word schema word e;
  known = λ schema e. let a = empty (unknown_in schema (whole l)) (unknown_in schema (whole r)) e in empties (unknown_in schema (whole m)) (unknown_in schema (whole q)) (i.known schema a.0) (j.known schema a.1);
}
  where
    math : (schema : Schema) → places (both_operands schema l r) ≡ [] → places (both_operands schema m q) ≡ []
    math schema e = no_places (both_operands schema m q) (joined_operand schema l r m q i j (no_place (both_operands schema l r) e))

    conds : (schema : Schema) → breaches schema (whole l) ++ breaches schema (whole r) ≡ [] → breaches schema (whole m) ++ breaches schema (whole q) ≡ []
    conds schema e = let a = empty (breaches schema (whole l)) (breaches schema (whole r)) e in empties (breaches schema (whole m)) (breaches schema (whole q)) (i.kinds schema a.0) (j.kinds schema a.1)

    by_word : (schema : Schema) (word : Word) → joined_breaches schema word (whole l) (whole r) (breaches schema (whole l)) (breaches schema (whole r)) ≡ []
        → joined_breaches schema word (whole m) (whole q) (breaches schema (whole m)) (breaches schema (whole q)) ≡ []
    by_word schema w.And e = conds schema e
    by_word schema w.Or e = conds schema e
    by_word schema (w.Compare a) e = no_places (breach schema (whole m) (whole q)) (breach_same schema l r m q i j (no_place (breach schema (whole l) (whole r)) e))
    by_word schema (w.Name a) e = math schema e
    by_word schema (w.Number a) e = math schema e
    by_word schema (w.Text a) e = math schema e
    by_word schema w.Null e = math schema e
    by_word schema (w.Math a) e = math schema e
    by_word schema (w.Keyword a) e = math schema e
    by_word schema w.Not e = math schema e
    by_word schema w.Is e = math schema e
    by_word schema w.Between e = math schema e
    by_word schema w.Open e = math schema e
    by_word schema w.Close e = math schema e
    by_word schema w.Comma e = math schema e
    by_word schema w.Semicolon e = math schema e

abbrev between_of : Term → Term → Term → Term
between_of x l h = OfCond (roll-Cond (c.And (compared Ge x l) (compared Le x h)))

range_same : (b a : Word) (n k o z : ℕ) (x l h y m q : Shape) → Same x y → Same l m → Same h q → Same (Range x (at b n) l (at a k) h) (Range y (at b o) m (at a z) q)
range_same b a n k o z x l h y m q i j f = record {
  stands = λ g d c u. (u.0, u.1, u.2, u.3, i.stands g _ _ u.4, j.stands g _ _ u.5, f.stands g _ _ u.6);
  unjoined = λ u v. tt;
  means = λ schema. ap (λ (t : Term). between_of t (made (terms schema) m) (made (terms schema) q)) (i.means schema)
      ∙ ap (λ (t : Term). between_of (made (terms schema) x) t (made (terms schema) q)) (j.means schema)
      ∙ ap (λ (t : Term). between_of (made (terms schema) x) (made (terms schema) l) t) (f.means schema);
  high = ap (λ (d : ℕ). max d (max (height (whole m)) (height (whole q))) + 2) i.high ∙ ap (λ (d : ℕ). max (height (whole x)) (max d (height (whole q))) + 2) j.high
      ∙ ap (λ (d : ℕ). max (height (whole x)) (max (height (whole l)) d) + 2) f.high;
  sort = λ schema. refl;
  operand = λ schema e. refl;
  kinds = λ schema e. let d = empty (places (breach schema (whole x) (whole l))) (places (breach schema (whole x) (whole h))) e in
      empties (places (breach schema (whole y) (whole m))) (places (breach schema (whole y) (whole q)))
      (no_places (breach schema (whole y) (whole m)) (breach_same schema x l y m i j (no_place (breach schema (whole x) (whole l)) d.0)))
      (no_places (breach schema (whole y) (whole q)) (breach_same schema x h y q i f (no_place (breach schema (whole x) (whole h)) d.1)));
  known = λ schema e. let d = empty (unknown_in schema (whole x)) (unknown_in schema (whole l) ++ unknown_in schema (whole h)) e in
      let v = empty (unknown_in schema (whole l)) (unknown_in schema (whole h)) d.1 in
      empties (unknown_in schema (whole y)) (unknown_in schema (whole m) ++ unknown_in schema (whole q)) (i.known schema d.0) (empties (unknown_in schema (whole m)) (unknown_in schema (whole q)) (j.known schema v.0) (f.known schema v.1));
}

null_words_at : (ts : List Token) (f : ℕ → ℕ) → AreNullWords ts → AreNullWords (with_places ts f)
null_words_at [] f h = h
null_words_at (t ∷ []) f h = h
null_words_at (t ∷ u ∷ []) f h = h
null_words_at (t ∷ u ∷ v ∷ ts) f h = h

negated_at : (ts : List Token) (f : ℕ → ℕ) → is_negated (with_places ts f) ≡ is_negated ts
negated_at [] f = refl
negated_at (t ∷ []) f = refl
negated_at (t ∷ u ∷ ts) f = refl

nullness_same : (word : Word) (n m : ℕ) (x y : Shape) (ts : List Token) (f : ℕ → ℕ) → Same x y → Same (Nullness x (at word n) ts) (Nullness y (at word m) (with_places ts f))
nullness_same word n m x y ts f i = record {
  stands = λ g k b h. (h.0, h.1, h.2, null_words_at ts f h.3, i.stands g _ _ h.4);
  unjoined = λ u h. tt;
  means = λ schema. ap (λ (t : Term). OfCond (roll-Cond (c.IsNull (expr_in t) (is_negated (with_places ts f))))) (i.means schema)
      ∙ ap (λ (b : Bool). OfCond (roll-Cond (c.IsNull (expr_in (made (terms schema) x)) b))) (negated_at ts f);
  high = ap (λ (k : ℕ). k + 1) i.high;
  sort = λ schema. refl;
  operand = λ schema e. refl;
  kinds = λ schema e. no_places (text_operand schema (whole y)) (i.operand schema (no_place (text_operand schema (whole x)) e));
  known = λ schema e. i.known schema e;
}

paren_same : (first last : Word) (n m k o : ℕ) (s r : Shape) → Same s r → Same (Paren (at first n) s (at last m)) (Paren (at first k) r (at last o))
paren_same first last n m k o s r i = record {
  stands = λ g a b h. (h.0, h.1, i.stands g _ _ h.2);
  unjoined = λ u h. tt;
  means = λ schema. i.means schema;
  high = i.high;
  sort = λ schema. i.sort schema;
  operand = λ schema e. i.operand schema e;
  kinds = λ schema e. i.kinds schema e;
  known = λ schema e. i.known schema e;
}

signed_same : (first last : Word) (n m k o : ℕ) → Same (Signed (at first n) (at last m)) (Signed (at first k) (at last o))
signed_same first last n m k o = record {
  stands = λ g a b h. h;
  unjoined = λ u h. tt;
  means = λ schema. refl;
  high = refl;
  sort = λ schema. refl;
  operand = λ schema e. refl;
  kinds = λ schema e. refl;
  known = λ schema e. refl;
}

-- ---- row comparisons

fills_at : (g : Setting) (slots : List Slot) (ts : List Token) (f : ℕ → ℕ) → FillSlots g slots ts → FillSlots g slots (with_places ts f)
fills_at g [] [] f h = h
fills_at g [] (t ∷ ts) f h = h
fills_at g (slot ∷ slots) [] f h = h
fills_at g (slot ∷ slots) (t ∷ ts) f h = (h.0, h.1, fills_at g (h.0 ++ slots) ts (λ n. f (suc n)) h.2)

pub record Dropped (n : ℕ) (ts : List Token) (f : ℕ → ℕ) : Type 0 where
  pub places_behind : ℕ → ℕ
  pub are : drop n (with_places ts f) ≡ with_places (drop n ts) places_behind

dropped : (n : ℕ) (ts : List Token) (f : ℕ → ℕ) → Dropped n ts f
dropped zero ts f = record { places_behind = f; are = refl }
dropped (suc n) [] f = record { places_behind = f; are = refl }
dropped (suc n) (t ∷ ts) f = let i = dropped n ts (λ k. f (suc k)) in record { places_behind = i.places_behind; are = i.are }

first_op_at : (ts : List Token) (f : ℕ → ℕ) → first_op (with_places ts f) ≡ first_op ts
first_op_at [] f = refl
first_op_at (t ∷ ts) f = refl

key_values_at : (ts : List Token) (f : ℕ → ℕ) → key_values (with_places ts f) ≡ key_values ts
key_values_at [] f = refl
key_values_at (t ∷ []) f = refl
key_values_at (t ∷ d ∷ ts) f =
    ap (λ (vs : List Value). if is_minus t.word then negative d.word ∷ vs else value_of_leaf (at t.word (f 0)) ++ key_values (with_places (d ∷ ts) (λ n. f (suc n)))) (key_values_at ts (λ n. f (suc (suc n))))
    ∙ ap (λ (vs : List Value). if is_minus t.word then negative d.word ∷ key_values ts else value_of_leaf t ++ vs) (key_values_at (d ∷ ts) (λ n. f (suc n)))

-- the parts at the first places have the sorts of those at the others
leaf_breach : (schema : Schema) (n : ℕ) (x y : Part) → sort_of schema y ≡ sort_of schema x → places (when_true (differ (sort_of_number schema (Some n)) (sort_of schema x)) (begins_at x)) ≡ []
    → places (when_true (differ (sort_of_number schema (Some n)) (sort_of schema y)) (begins_at y)) ≡ []
leaf_breach schema n x y s e =
    no_places (when_true (differ (sort_of_number schema (Some n)) (sort_of schema y)) (begins_at y))
    (when_not (differ (sort_of_number schema (Some n)) (sort_of schema x)) (differ (sort_of_number schema (Some n)) (sort_of schema y)) (begins_at x) (begins_at y) (ap (differ (sort_of_number schema (Some n))) s)
    (no_place (when_true (differ (sort_of_number schema (Some n)) (sort_of schema x)) (begins_at x)) e))

row_kinds : (schema : Schema) (n : ℕ) (ts : List Token) (f : ℕ → ℕ) → row_breaches_from schema n (values_in ts) ≡ [] → row_breaches_from schema n (values_in (with_places ts f)) ≡ []
row_kinds schema n [] f e = refl
row_kinds schema n (t ∷ []) f e = last (is_value t.word) e
  where
    last : (b : Bool) → row_breaches_from schema n (if b then p.Leaf t ∷ [] else []) ≡ [] → row_breaches_from schema n (if b then p.Leaf (at t.word (f 0)) ∷ [] else []) ≡ []
    last true e =
        let a = empty (places (when_true (differ (sort_of_number schema (Some n)) (sort_of schema (p.Leaf t))) (begins_at (p.Leaf t)))) [] e in
        empties (places (when_true (differ (sort_of_number schema (Some n)) (sort_of schema (p.Leaf (at t.word (f 0))))) (begins_at (p.Leaf (at t.word (f 0)))))) [] (leaf_breach schema n (p.Leaf t) (p.Leaf (at t.word (f 0))) refl a.0) refl
    last false e = refl
row_kinds schema n (t ∷ d ∷ ts) f e = by_minus (is_minus t.word) (row_kinds schema (suc n) ts (λ k. f (suc (suc k)))) (λ k. row_kinds schema k (d ∷ ts) (λ k. f (suc k))) e
  where
    more : List Token
    more = with_places (d ∷ ts) (λ k. f (suc k))

    by_value : (b : Bool) → ((k : ℕ) → row_breaches_from schema k (values_in (d ∷ ts)) ≡ [] → row_breaches_from schema k (values_in more) ≡ [])
        → row_breaches_from schema n ((if b then p.Leaf t ∷ [] else []) ++ values_in (d ∷ ts)) ≡ [] → row_breaches_from schema n ((if b then p.Leaf (at t.word (f 0)) ∷ [] else []) ++ values_in more) ≡ []
    by_value true later e =
        let a = empty (places (when_true (differ (sort_of_number schema (Some n)) (sort_of schema (p.Leaf t))) (begins_at (p.Leaf t)))) (row_breaches_from schema (suc n) (values_in (d ∷ ts))) e in
        empties (places (when_true (differ (sort_of_number schema (Some n)) (sort_of schema (p.Leaf (at t.word (f 0))))) (begins_at (p.Leaf (at t.word (f 0)))))) (row_breaches_from schema (suc n) (values_in more))
        (leaf_breach schema n (p.Leaf t) (p.Leaf (at t.word (f 0))) refl a.0) (later (suc n) a.1)
    by_value false later e = later n e

    by_minus : (b : Bool) → (row_breaches_from schema (suc n) (values_in ts) ≡ [] → row_breaches_from schema (suc n) (values_in (with_places ts (λ k. f (suc (suc k))))) ≡ [])
        → ((k : ℕ) → row_breaches_from schema k (values_in (d ∷ ts)) ≡ [] → row_breaches_from schema k (values_in more) ≡ [])
        → row_breaches_from schema n (if b then p.Signed t d ∷ values_in ts else value_leaf t ++ values_in (d ∷ ts)) ≡ []
        → row_breaches_from schema n (if b then p.Signed (at t.word (f 0)) (at d.word (f 1)) ∷ values_in (with_places ts (λ k. f (suc (suc k)))) else value_leaf (at t.word (f 0)) ++ values_in more) ≡ []
    by_minus true behind later e =
        let a = empty (places (when_true (differ (sort_of_number schema (Some n)) (sort_of schema (p.Signed t d))) (begins_at (p.Signed t d)))) (row_breaches_from schema (suc n) (values_in ts)) e in
        empties (places (when_true (differ (sort_of_number schema (Some n)) (sort_of schema (p.Signed (at t.word (f 0)) (at d.word (f 1))))) (begins_at (p.Signed (at t.word (f 0)) (at d.word (f 1))))))
        (row_breaches_from schema (suc n) (values_in (with_places ts (λ k. f (suc (suc k)))))) (leaf_breach schema n (p.Signed t d) (p.Signed (at t.word (f 0)) (at d.word (f 1))) refl a.0) (behind a.1)
    by_minus false behind later e = by_value (is_value t.word) later e

row_same : (ts : List Token) (f : ℕ → ℕ) → Same (RowTest ts) (RowTest (with_places ts f))
row_same ts f = record {
  stands = λ g n b h. (h.0, h.1, fills_at g row_slots ts f h.2);
  unjoined = λ u h. tt;
  means = λ schema. ap (λ (o : Op). OfCond (roll-Cond (c.KeyCompare o (key_values (drop 7 (with_places ts f)))))) (ap first_op sign.are ∙ first_op_at (drop 5 ts) sign.places_behind)
      ∙ ap (λ (vs : List Value). OfCond (roll-Cond (c.KeyCompare (first_op (drop 5 ts)) vs))) (ap key_values values.are ∙ key_values_at (drop 7 ts) values.places_behind);
  high = refl;
  sort = λ schema. refl;
  operand = λ schema e. refl;
  kinds = λ schema e. ap (λ (l : List Token). row_breaches_from schema 0 (values_in l)) values.are ∙ row_kinds schema 0 (drop 7 ts) values.places_behind e;
  known = λ schema e. refl;
}
  where
    sign : Dropped 5 ts f
    sign = dropped 5 ts f

    values : Dropped 7 ts f
    values = dropped 7 ts f

-- ---- trees

-- these tokens as the tree that has their words
pub record Placed (s : Shape) (ts : List Token) : Type 0 where
  pub tree : Shape
  pub same : Same s tree
  pub spelled : tokens_of tree ≡ ts

pub placed : (s : Shape) (ts : List Token) → words_of ts ≡ words_of (tokens_of s) → Placed s ts
placed (Leaf t) ts e =
    let i = first_of t.word [] ts e in record {
      tree = Leaf (at t.word i.place);
      same = leaf_same t.word t.place i.place;
      spelled = ap (λ (l : List Token). at t.word i.place ∷ l) (sym (no_words i.later i.rest)) ∙ sym i.are;
    }
placed (Prefix t s) ts e =
    let i = first_of t.word (words_of (tokens_of s)) ts e in
    let j = placed s i.later i.rest in record {
      tree = Prefix (at t.word i.place) j.tree;
      same = prefix_same t.word t.place i.place s j.tree j.same;
      spelled = ap (λ (l : List Token). at t.word i.place ∷ l) j.spelled ∙ sym i.are;
    }
placed (Binary l t r) ts e =
    let i = split (words_of (tokens_of l)) (t.word ∷ words_of (tokens_of r)) ts (e ∙ words_on (tokens_of l) (t ∷ tokens_of r)) in
    let j = first_of t.word (words_of (tokens_of r)) i.back i.rest in
    let x = placed l i.front i.first in
    let y = placed r j.later j.rest in record {
      tree = Binary x.tree (at t.word j.place) y.tree;
      same = binary_same t.word t.place j.place l r x.tree y.tree x.same y.same;
      spelled = ap (λ (a : List Token). a ++ (at t.word j.place ∷ tokens_of y.tree)) x.spelled ∙ ap (λ (b : List Token). i.front ++ (at t.word j.place ∷ b)) y.spelled ∙ ap (λ (b : List Token). i.front ++ b) (sym j.are) ∙ sym i.are;
    }
placed (Range x b l a h) ts e =
    let i = split (words_of (tokens_of x)) (b.word ∷ words_of (tokens_of l ++ (a ∷ tokens_of h))) ts (e ∙ words_on (tokens_of x) (b ∷ (tokens_of l ++ (a ∷ tokens_of h)))) in
    let j = first_of b.word (words_of (tokens_of l ++ (a ∷ tokens_of h))) i.back i.rest in
    let m = split (words_of (tokens_of l)) (a.word ∷ words_of (tokens_of h)) j.later (j.rest ∙ words_on (tokens_of l) (a ∷ tokens_of h)) in
    let n = first_of a.word (words_of (tokens_of h)) m.back m.rest in
    let p = placed x i.front i.first in
    let q = placed l m.front m.first in
    let r = placed h n.later n.rest in record {
      tree = Range p.tree (at b.word j.place) q.tree (at a.word n.place) r.tree;
      same = range_same b.word a.word b.place a.place j.place n.place x l h p.tree q.tree r.tree p.same q.same r.same;
      spelled = ap (λ (z : List Token). z ++ (at b.word j.place ∷ (tokens_of q.tree ++ (at a.word n.place ∷ tokens_of r.tree)))) p.spelled
          ∙ ap (λ (z : List Token). i.front ++ (at b.word j.place ∷ (z ++ (at a.word n.place ∷ tokens_of r.tree)))) q.spelled
          ∙ ap (λ (z : List Token). i.front ++ (at b.word j.place ∷ (m.front ++ (at a.word n.place ∷ z)))) r.spelled
          ∙ ap (λ (z : List Token). i.front ++ (at b.word j.place ∷ (m.front ++ z))) (sym n.are)
          ∙ ap (λ (z : List Token). i.front ++ (at b.word j.place ∷ z)) (sym m.are) ∙ ap (λ (z : List Token). i.front ++ z) (sym j.are) ∙ sym i.are;
    }
placed (Nullness x i more) ts e =
    let j = split (words_of (tokens_of x)) (i.word ∷ words_of more) ts (e ∙ words_on (tokens_of x) (i ∷ more)) in
    let m = first_of i.word (words_of more) j.back j.rest in
    let y = placed x j.front j.first in record {
      tree = Nullness y.tree (at i.word m.place) (with_places more (place_in m.later));
      same = nullness_same i.word i.place m.place x y.tree more (place_in m.later) y.same;
      spelled = ap (λ (z : List Token). z ++ (at i.word m.place ∷ with_places more (place_in m.later))) y.spelled ∙ ap (λ (z : List Token). j.front ++ (at i.word m.place ∷ z)) (sym (replaced more m.later m.rest))
          ∙ ap (λ (z : List Token). j.front ++ z) (sym m.are) ∙ sym j.are;
    }
placed (Paren o s c) ts e =
    let i = first_of o.word (words_of (tokens_of s ++ c ∷ [])) ts e in
    let j = split (words_of (tokens_of s)) (c.word ∷ []) i.later (i.rest ∙ words_on (tokens_of s) (c ∷ [])) in
    let m = first_of c.word [] j.back j.rest in
    let x = placed s j.front j.first in record {
      tree = Paren (at o.word i.place) x.tree (at c.word m.place);
      same = paren_same o.word c.word o.place c.place i.place m.place s x.tree x.same;
      spelled = ap (λ (z : List Token). at o.word i.place ∷ (z ++ at c.word m.place ∷ [])) x.spelled ∙ ap (λ (z : List Token). at o.word i.place ∷ (j.front ++ at c.word m.place ∷ z)) (sym (no_words m.later m.rest))
          ∙ ap (λ (z : List Token). at o.word i.place ∷ (j.front ++ z)) (sym m.are) ∙ ap (λ (z : List Token). at o.word i.place ∷ z) (sym j.are) ∙ sym i.are;
    }
placed (Signed t d) ts e =
    let i = first_of t.word (d.word ∷ []) ts e in
    let j = first_of d.word [] i.later i.rest in record {
      tree = Signed (at t.word i.place) (at d.word j.place);
      same = signed_same t.word d.word t.place d.place i.place j.place;
      spelled = ap (λ (z : List Token). at t.word i.place ∷ at d.word j.place ∷ z) (sym (no_words j.later j.rest)) ∙ ap (λ (z : List Token). at t.word i.place ∷ z) (sym j.are) ∙ sym i.are;
    }
placed (RowTest us) ts e = record { tree = RowTest (with_places us (place_in ts)); same = row_same us (place_in ts); spelled = sym (replaced us ts e) }
