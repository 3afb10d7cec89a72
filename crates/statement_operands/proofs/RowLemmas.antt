-- The literals of a row comparison, token by token.
use Rattle.std.proofs.Common.{◌≡◌, ℕ, suc, min, Bool, false, List, [], ◌∷◌, ◌++◌, length, Option, None, Some, refl, sym, ap, ◌∙◌, arith, append_assoc, append-nil}
use Rattle.row_types.specs.declared.values.Value.{Value}
use Rattle.row_types.specs.declared.table_schema.Schema.{Schema}
use Rattle.statement_tokens.specs.declared.words.Math.TheVariants.{Minus}
use Rattle.statement_tokens.specs.declared.words.Token.{Token}
use Rattle.statement_tokens.specs.declared.words.Word.TheVariants as w
use Rattle.statement_grammar.specs.Grammar.{is_minus}
use Rattle.statement_grammar.specs.Cut.{Part, Leaf, Signed}
use Rattle.statement_grammar.specs.Kinds as kinds
use Rattle.statement_grammar.specs.Kinds.{value_leaf, values_in, row_breaches_from, sort_of, sort_of_number, when_true, begins_at, places}
use Rattle.statement_grammar.specs.Terms.{value_of_leaf, key_values, value_in, negative}
use Rattle.statement_reader.specs.Facts.{as_sort, least, least_of, sorts_differ}
use Rattle.statement_reader.specs.declared.facts.Sort.TheVariants as sort
use Rattle.statement_operands.specs.RowTests.{with_minus, IsTaken, IsPushed, misfit}
use Rattle.statement_operands.specs.declared.row_tests.RowValues.{RowValues}

-- a token that is no `-` stands by itself
values_plain : (t : Token) (ts : List Token) → is_minus t.word ≡ false → key_values (t ∷ ts) ≡ value_of_leaf t ++ key_values ts
values_plain t [] e = sym (append-nil (value_of_leaf t))
values_plain t (d ∷ ts) e = rw e refl

parts_plain : (t : Token) (ts : List Token) → is_minus t.word ≡ false → values_in (t ∷ ts) ≡ value_leaf t ++ values_in ts
parts_plain t [] e = sym (append-nil (value_leaf t))
parts_plain t (d ∷ ts) e = rw e refl

min_assoc : (a b c : ℕ) → min (min a b) c ≡ min a (min b c)
min_assoc a b c = omega arith

least_assoc : (a b c : Option ℕ) → least (least a b) c ≡ least a (least b c)
least_assoc None b c = refl
least_assoc (Some a) None c = refl
least_assoc (Some a) (Some b) None = refl
least_assoc (Some a) (Some b) (Some c) = ap (λ (n : ℕ). Some n) (min_assoc a b c)

least_places : (o : Option ℕ) (ns : List ℕ) → least_of (places o ++ ns) ≡ least o (least_of ns)
least_places None ns = refl
least_places (Some n) ns = refl

differ_is : (a b : kinds.Sort) → sorts_differ (as_sort a) (as_sort b) ≡ kinds.differ a b
differ_is kinds.OfNumber kinds.OfNumber = refl
differ_is kinds.OfNumber kinds.OfText = refl
differ_is kinds.OfNumber kinds.OfAny = refl
differ_is kinds.OfText kinds.OfNumber = refl
differ_is kinds.OfText kinds.OfText = refl
differ_is kinds.OfText kinds.OfAny = refl
differ_is kinds.OfAny kinds.OfNumber = refl
differ_is kinds.OfAny kinds.OfText = refl
differ_is kinds.OfAny kinds.OfAny = refl

one_more : (keys : List Value) (value : Value) → length (keys ++ value ∷ []) ≡ suc (length keys)
one_more [] value = refl
one_more (k ∷ keys) value = ap suc (one_more keys value)

abbrev left : Schema → ℕ → List Part → Option ℕ
left schema n xs = least_of (row_breaches_from schema n xs)

-- one literal more, whose place and kind are known
one_breach : (schema : Schema) (n : ℕ) (held : Option ℕ) (x : Part) (xs : List Part)
    → least (least held (misfit schema n (as_sort (sort_of schema x)) (begins_at x))) (left schema (suc n) xs) ≡ least held (left schema n (x ∷ xs))
one_breach schema n held x xs =
    ap (λ (b : Bool). least (least held (when_true b (begins_at x))) (left schema (suc n) xs)) (differ_is (sort_of_number schema (Some n)) (sort_of schema x))
    ∙ least_assoc held (when_true (kinds.differ (sort_of_number schema (Some n)) (sort_of schema x)) (begins_at x)) (left schema (suc n) xs)
    ∙ ap (least held) (sym (least_places (when_true (kinds.differ (sort_of_number schema (Some n)) (sort_of schema x)) (begins_at x)) (row_breaches_from schema (suc n) xs)))

-- what was pushed is what these tokens say
pushed : (schema : Schema) (before behind : RowValues) (t : Token) (value : Value) (x : Part) → IsPushed schema before value (as_sort (sort_of schema x)) (begins_at x) behind
    → ((ts : List Token) → key_values (with_minus before.minus (t ∷ ts)) ≡ value ∷ key_values ts) → ((ts : List Token) → values_in (with_minus before.minus (t ∷ ts)) ≡ x ∷ values_in ts)
    → IsTaken schema before t behind
pushed schema before behind t value x p v q = record {
  values = λ ts. ap (λ (k : List Value). k ++ key_values (with_minus behind.minus ts)) p.key
      ∙ ap (λ (m : Option ℕ). (before.key ++ value ∷ []) ++ key_values (with_minus m ts)) p.minus
      ∙ append_assoc before.key (value ∷ []) (key_values ts)
      ∙ ap (λ (vs : List Value). before.key ++ vs) (sym (v ts));
  breach = λ ts. ap (λ (o : Option ℕ). least o (left schema (length behind.key) (values_in (with_minus behind.minus ts)))) p.breach
      ∙ ap (λ (n : ℕ). least (least before.breach (misfit schema (length before.key) (as_sort (sort_of schema x)) (begins_at x))) (left schema n (values_in (with_minus behind.minus ts)))) (ap length p.key ∙ one_more before.key value)
      ∙ ap (λ (m : Option ℕ). least (least before.breach (misfit schema (length before.key) (as_sort (sort_of schema x)) (begins_at x))) (left schema (suc (length before.key)) (values_in (with_minus m ts)))) p.minus
      ∙ one_breach schema (length before.key) before.breach x (values_in ts)
      ∙ ap (λ (xs : List Part). least before.breach (left schema (length before.key) xs)) (sym (q ts));
}

pub taken_digits : (schema : Schema) (before behind : RowValues) (t : Token) (place : ℕ) → before.minus ≡ Some place → IsPushed schema before (negative t.word) sort.Number place behind → IsTaken schema before t behind
taken_digits schema before behind t place m p =
    pushed schema before behind t (negative t.word) (Signed (record { word = w.Math Minus; place = place }) t) p
    (λ ts. ap (λ (o : Option ℕ). key_values (with_minus o (t ∷ ts))) m) (λ ts. ap (λ (o : Option ℕ). values_in (with_minus o (t ∷ ts))) m)

-- a number or a text
leaf_taken : (schema : Schema) (before behind : RowValues) (t : Token) (value : Value) → before.minus ≡ None → is_minus t.word ≡ false → value_of_leaf t ≡ value ∷ [] → value_leaf t ≡ Leaf t ∷ []
    → IsPushed schema before value (as_sort (sort_of schema (Leaf t))) t.place behind → IsTaken schema before t behind
leaf_taken schema before behind t value m plain v q p =
    pushed schema before behind t value (Leaf t) p
    (λ ts. ap (λ (o : Option ℕ). key_values (with_minus o (t ∷ ts))) m ∙ values_plain t ts plain ∙ ap (λ (vs : List Value). vs ++ key_values ts) v)
    (λ ts. ap (λ (o : Option ℕ). values_in (with_minus o (t ∷ ts))) m ∙ parts_plain t ts plain ∙ ap (λ (xs : List Part). xs ++ values_in ts) q)

pub taken_number : (schema : Schema) (before behind : RowValues) (t : Token) (n : ℕ) → before.minus ≡ None → t.word ≡ w.Number n → IsPushed schema before (value_in (w.Number n)) sort.Number t.place behind → IsTaken schema before t behind
taken_number schema before behind t n m e p =
    leaf_taken schema before behind t (value_in (w.Number n)) m (rw e refl) (rw e refl) (rw e refl) (rw e p)

pub taken_text : (schema : Schema) (before behind : RowValues) (t : Token) (text : List ℕ) → before.minus ≡ None → t.word ≡ w.Text text → IsPushed schema before (value_in (w.Text text)) sort.Text t.place behind → IsTaken schema before t behind
taken_text schema before behind t text m e p =
    leaf_taken schema before behind t (value_in (w.Text text)) m (rw e refl) (rw e refl) (rw e refl) (rw e p)
