-- A row comparison without a fault has a literal for each column of the key.
use Rattle.std.proofs.Common.{◌≡◌, ℕ, pos, negsuc, zero, suc, min, Bool, true, false, List, [], ◌∷◌, ◌++◌, Option, None, Some, refl, sym, ◌∙◌, ap, subst}
use Rattle.std.specs.Prelude.{◌==◌, ◌&&◌, take, if◌then◌else◌}
use Rattle.std.specs.List.{slice_get}
use Rattle.row_types.specs.declared.values.Value.{Value}
use Rattle.row_types.specs.declared.values.Value.TheVariants.{Int, Text}
use Rattle.row_types.specs.declared.table_schema.ColumnKind.{ColumnKind}
use Rattle.row_types.specs.declared.table_schema.ColumnKind.TheVariants.{Int as IntColumn, BigInt, Text as TextColumn}
use Rattle.row_types.specs.declared.table_schema.Column.{Column}
use Rattle.row_types.specs.declared.table_schema.Schema.{Schema}
use Rattle.ptc_statement.specs.declared.expressions.Op.{Op}
use Rattle.ptc_statement.specs.declared.conditions.Cond.{roll-Cond}
use Rattle.ptc_statement.specs.declared.conditions.Cond.TheOpen as c
use Rattle.ptc_statement.specs.Fits.{literal_is_of_kind, literals_fit}
use Rattle.statement_tokens.specs.declared.words.Math.TheVariants.{Minus}
use Rattle.statement_tokens.specs.declared.words.Token.{Token}
use Rattle.statement_tokens.specs.declared.words.Word.{Word}
use Rattle.statement_tokens.specs.declared.words.Word.TheVariants as w
use Rattle.statement_grammar.specs.Grammar.{Setting, RowTest, FillSlots, Slot, OpenSlot, FirstSlot, CommaSlot, SecondSlot, CloseSlot, CompareSlot, ValueSlot, DigitsSlot, row_slots, filled_by, value_after, slot_after, first_is, second_is, is_open, is_close, is_comma, is_compare, is_number}
use Rattle.statement_grammar.specs.Machine.{made}
use Rattle.statement_grammar.specs.Cut as p
use Rattle.statement_grammar.specs.Cut.{Part, whole}
use Rattle.statement_grammar.specs.Kinds.{OfNumber, OfText, sort_of, sort_of_kind, sort_of_column, sort_of_number, differ, when_true, begins_at, places, breaches, values_in, row_breaches_from}
use Rattle.statement_grammar.specs.Sentence.{Keys, setting}
use Rattle.statement_grammar.specs.FirstFault.{two_names, keys_of}
use Rattle.statement_grammar.specs.Terms.{OfCond, terms, key_values, op_of}
use Rattle.statement_grammar.proofs.Complete.{filled_is}
use Rattle.statement_grammar.proofs.BasicLemmas.{both_true, equal}
use Rattle.statement_text_laws.specs.SpelledWords.{literal_spells, key_spells}
use Rattle.statement_round_trip.proofs.PlacedLemmas.{at, empty, no_place}
use Rattle.statement_fit_laws.proofs.PrintLemmas.{AllPrint, front_prints, back_prints}
use Rattle.statement_fit_laws.proofs.ExprFitLemmas.{within, no_text}

-- ---- slots

-- one token fills a slot
record Filled (g : Setting) (slots : List Slot) (test : Word → Bool) (ts : List Token) : Type 0 where
  token : Token
  rest : List Token
  are : ts ≡ token ∷ rest
  passes : test token.word ≡ true
  fills : FillSlots g slots rest

fill_one : (g : Setting) (slot : Slot) (slots : List Slot) (test : Word → Bool) (ts : List Token) → ((word : Word) → slot_after g slot word ≡ filled_by (test word)) → FillSlots g (slot ∷ slots) ts → Filled g slots test ts
fill_one g slot slots test [] is h = absurd h
fill_one g slot slots test (t ∷ ts) is h =
    let q = filled_is (test t.word) h.0 (sym (is t.word) ∙ h.1) in
    record { token = t; rest = ts; are = refl; passes = q.0; fills = subst (λ (more : List Slot). FillSlots g (more ++ slots) ts) q.1 h.2 }

-- ---- literals

-- one literal stands first
record Literal (schema : Schema) (g : Setting) (slots : List Slot) (ts : List Token) : Type 0 where
  front : List Token
  back : List Token
  value : Value
  part : Part
  are : ts ≡ front ++ back
  fills : FillSlots g slots back
  keyed : (t : Token) (more : List Token) → key_values (front ++ (t ∷ more)) ≡ value ∷ key_values (t ∷ more)
  parted : (t : Token) (more : List Token) → values_in (front ++ (t ∷ more)) ≡ part ∷ values_in (t ∷ more)
  kind : (kind : ColumnKind) → differ (sort_of_kind kind) (sort_of schema part) ≡ false → literal_is_of_kind kind value ≡ true
  spells : AllPrint front → literal_spells value ≡ true

number_kind : (kind : ColumnKind) (n : ℕ) → differ (sort_of_kind kind) OfNumber ≡ false → literal_is_of_kind kind (Int (pos n)) ≡ true
number_kind IntColumn n e = refl
number_kind BigInt n e = refl
number_kind (TextColumn max) n e = cc

negative_kind : (kind : ColumnKind) (n : ℕ) → differ (sort_of_kind kind) OfNumber ≡ false → literal_is_of_kind kind (Int (negsuc n)) ≡ true
negative_kind IntColumn n e = refl
negative_kind BigInt n e = refl
negative_kind (TextColumn max) n e = cc

text_kind : (kind : ColumnKind) (text : List ℕ) → differ (sort_of_kind kind) OfText ≡ false → literal_is_of_kind kind (Text text) ≡ true
text_kind IntColumn text e = cc
text_kind BigInt text e = cc
text_kind (TextColumn max) text e = refl

signed : (schema : Schema) (g : Setting) (slots : List Slot) (m n : ℕ) (word : Word) (ts : List Token) → is_number word ≡ true → FillSlots g slots ts → Literal schema g slots (at (w.Math Minus) m ∷ at word n ∷ ts)
signed schema g slots m n (w.Number zero) ts e f = record {
  front = at (w.Math Minus) m ∷ at (w.Number zero) n ∷ [];
  back = ts;
  value = Int (pos 0);
  part = p.Signed (at (w.Math Minus) m) (at (w.Number zero) n);
  are = refl;
  fills = f;
  keyed = λ t more. refl;
  parted = λ t more. refl;
  kind = λ kind d. number_kind kind 0 d;
  spells = λ q. refl;
}
signed schema g slots m n (w.Number (suc k)) ts e f = record {
  front = at (w.Math Minus) m ∷ at (w.Number (suc k)) n ∷ [];
  back = ts;
  value = Int (negsuc (min k 9223372036854775807));
  part = p.Signed (at (w.Math Minus) m) (at (w.Number (suc k)) n);
  are = refl;
  fills = f;
  keyed = λ t more. refl;
  parted = λ t more. refl;
  kind = λ kind d. negative_kind kind (min k 9223372036854775807) d;
  spells = λ q. within k;
}
signed schema g slots m n _ ts e f = cc

with_digits : (schema : Schema) (g : Setting) (slots : List Slot) (m : ℕ) (ts : List Token) → FillSlots g (DigitsSlot ∷ slots) ts → Literal schema g slots (at (w.Math Minus) m ∷ ts)
with_digits schema g slots m ts f =
    let i = fill_one g DigitsSlot slots is_number ts (λ word. refl) f in
    subst (λ (l : List Token). Literal schema g slots (at (w.Math Minus) m ∷ l)) (sym i.are) (signed schema g slots m i.token.place i.token.word i.rest i.passes i.fills)

literal : (schema : Schema) (g : Setting) (slots : List Slot) (ts : List Token) → FillSlots g (ValueSlot ∷ slots) ts → Literal schema g slots ts
literal schema g slots [] h = absurd h
literal schema g slots (t ∷ ts) h = by_word t.word h.0 h.1 h.2
  where
    by_word : (word : Word) (more : List Slot) → value_after word ≡ Some more → FillSlots g (more ++ slots) ts → Literal schema g slots (at word t.place ∷ ts)
    by_word (w.Math Minus) more e f = let q : DigitsSlot ∷ [] ≡ more = cc in with_digits schema g slots t.place ts (subst (λ (l : List Slot). FillSlots g (l ++ slots) ts) (sym q) f)
    by_word (w.Number n) more e f = let q : [] ≡ more = cc in record {
      front = at (w.Number n) t.place ∷ [];
      back = ts;
      value = Int (pos (min n 9223372036854775807));
      part = p.Leaf (at (w.Number n) t.place);
      are = refl;
      fills = subst (λ (l : List Slot). FillSlots g (l ++ slots) ts) (sym q) f;
      keyed = λ t more. refl;
      parted = λ t more. refl;
      kind = λ kind d. number_kind kind (min n 9223372036854775807) d;
      spells = λ p. within n;
    }
    by_word (w.Text text) more e f = let q : [] ≡ more = cc in record {
      front = at (w.Text text) t.place ∷ [];
      back = ts;
      value = Text text;
      part = p.Leaf (at (w.Text text) t.place);
      are = refl;
      fills = subst (λ (l : List Slot). FillSlots g (l ++ slots) ts) (sym q) f;
      keyed = λ t more. refl;
      parted = λ t more. refl;
      kind = λ kind d. text_kind kind text d;
      spells = λ p. p.0;
    }
    by_word _ more e f = cc

-- ---- the key

comma_is : (word : Word) → is_comma word ≡ true → word ≡ w.Comma
comma_is w.Comma e = refl
comma_is _ e = cc

close_is : (word : Word) → is_close word ≡ true → word ≡ w.Close
close_is w.Close e = refl
close_is _ e = cc

behind_comma : (n : ℕ) (ts : List Token) → key_values (at w.Comma n ∷ ts) ≡ key_values ts
behind_comma n [] = refl
behind_comma n (t ∷ ts) = refl

parts_behind_comma : (n : ℕ) (ts : List Token) → values_in (at w.Comma n ∷ ts) ≡ values_in ts
parts_behind_comma n [] = refl
parts_behind_comma n (t ∷ ts) = refl

record TwoColumns (schema : Schema) (keys : Keys) : Type 0 where
  names : List ℕ × List ℕ
  are : keys ≡ Some names
  first : Column
  second : Column
  more : List Column
  columns : schema.columns ≡ first ∷ second ∷ more
  length_is : (schema.key_len == 2) ≡ true

some_names : (base : Bool) (keys : Keys) (word : Word) → first_is (setting base keys) word ≡ true → (names : List ℕ × List ℕ) × (keys ≡ Some names)
some_names base None (w.Name name) e = cc
some_names base (Some names) (w.Name name) e = (names, refl)
some_names base keys _ e = cc

two_columns : (schema : Schema) (names : List ℕ × List ℕ) → keys_of schema ≡ Some names → TwoColumns schema (keys_of schema)
two_columns schema names e = by_length (schema.key_len == 2) refl schema.columns refl e
  where
    by_length : (b : Bool) → (schema.key_len == 2) ≡ b → (columns : List Column) → schema.columns ≡ columns → (if b then two_names columns else None) ≡ Some names → TwoColumns schema (keys_of schema)
    by_length false l columns f e = cc
    by_length true l [] f e = cc
    by_length true l (a ∷ []) f e = cc
    by_length true l (a ∷ b ∷ columns) f g = record { names = names; are = e; first = a; second = b; more = columns; columns = f; length_is = l }

-- what a row comparison says
pub record RowKnown (schema : Schema) (ts : List Token) : Type 0 where
  pub op : Op
  pub key : List Value
  pub is : made (terms schema) (RowTest ts) ≡ OfCond (roll-Cond (c.KeyCompare op key))
  pub sound : breaches schema (whole (RowTest ts)) ≡ [] → ((schema.key_len == 2) && literals_fit (take schema.key_len schema.columns) key) ≡ true
  pub spells : AllPrint ts → key_spells (keys_of schema) key ≡ true

known : (schema : Schema) (a b d e f o q m l : Token) (front second : List Token) (x y : Value) (part other : Part) → TwoColumns schema (keys_of schema)
    → ((t : Token) (more : List Token) → key_values (front ++ (t ∷ more)) ≡ x ∷ key_values (t ∷ more)) → ((t : Token) (more : List Token) → key_values (second ++ (t ∷ more)) ≡ y ∷ key_values (t ∷ more))
    → ((t : Token) (more : List Token) → values_in (front ++ (t ∷ more)) ≡ part ∷ values_in (t ∷ more)) → ((t : Token) (more : List Token) → values_in (second ++ (t ∷ more)) ≡ other ∷ values_in (t ∷ more))
    → ((kind : ColumnKind) → differ (sort_of_kind kind) (sort_of schema part) ≡ false → literal_is_of_kind kind x ≡ true) → ((kind : ColumnKind) → differ (sort_of_kind kind) (sort_of schema other) ≡ false → literal_is_of_kind kind y ≡ true)
    → (AllPrint front → literal_spells x ≡ true) → (AllPrint second → literal_spells y ≡ true) → m.word ≡ w.Comma → l.word ≡ w.Close
    → RowKnown schema (a ∷ b ∷ d ∷ e ∷ f ∷ o ∷ q ∷ (front ++ (m ∷ (second ++ l ∷ []))))
known schema a b d e f o q m l front second x y part other keys kx ky px py fx fy sx sy comma close = record {
  op = op_of o.word;
  key = x ∷ y ∷ [];
  is = ap (λ (vs : List Value). OfCond (roll-Cond (c.KeyCompare (op_of o.word) vs))) values;
  sound = λ none. right (ap (row_breaches_from schema 0) (sym parts) ∙ none);
  spells = λ p. ap (λ (k : Keys). key_spells k (x ∷ y ∷ [])) keys.are
      ∙ both_true (literal_spells x) (literal_spells y) (sx (front_prints front (m ∷ (second ++ l ∷ [])) (p.1.1.1.1.1.1.1)))
      (sy (front_prints second (l ∷ []) ((back_prints front (m ∷ (second ++ l ∷ [])) (p.1.1.1.1.1.1.1)).1)));
}
  where
    values : key_values (front ++ (m ∷ (second ++ l ∷ []))) ≡ x ∷ y ∷ []
    values =
        kx m (second ++ l ∷ [])
        ∙ ap (λ (vs : List Value). x ∷ vs) (ap (λ (v : Word). key_values (at v m.place ∷ (second ++ l ∷ []))) comma ∙ behind_comma m.place (second ++ l ∷ []) ∙ ky l [] ∙ ap (λ (v : Word). y ∷ key_values (at v l.place ∷ [])) close)

    parts : values_in (front ++ (m ∷ (second ++ l ∷ []))) ≡ part ∷ other ∷ []
    parts =
        px m (second ++ l ∷ [])
        ∙ ap (λ (vs : List Part). part ∷ vs) (ap (λ (v : Word). values_in (at v m.place ∷ (second ++ l ∷ []))) comma ∙ parts_behind_comma m.place (second ++ l ∷ []) ∙ py l [] ∙ ap (λ (v : Word). other ∷ values_in (at v l.place ∷ [])) close)

    column : (n : ℕ) (found : Column) (v : Part) → slice_get schema.columns n ≡ Some found → places (when_true (differ (sort_of_number schema (Some n)) (sort_of schema v)) (begins_at v)) ≡ [] → differ (sort_of_kind found.kind) (sort_of schema v) ≡ false
    column n found v there none =
        ap (λ (k : Option Column). differ (sort_of_column k) (sort_of schema v)) (sym there)
        ∙ no_text (differ (sort_of_number schema (Some n)) (sort_of schema v)) (begins_at v) (no_place (when_true (differ (sort_of_number schema (Some n)) (sort_of schema v)) (begins_at v)) none)

    right : row_breaches_from schema 0 (part ∷ other ∷ []) ≡ [] → ((schema.key_len == 2) && literals_fit (take schema.key_len schema.columns) (x ∷ y ∷ [])) ≡ true
    right none =
        let i = empty (places (when_true (differ (sort_of_number schema (Some 0)) (sort_of schema part)) (begins_at part))) (places (when_true (differ (sort_of_number schema (Some 1)) (sort_of schema other)) (begins_at other)) ++ []) none in
        let j = empty (places (when_true (differ (sort_of_number schema (Some 1)) (sort_of schema other)) (begins_at other))) [] i.1 in
        both_true (schema.key_len == 2) (literals_fit (take schema.key_len schema.columns) (x ∷ y ∷ [])) keys.length_is
        (ap (λ (n : ℕ). literals_fit (take n schema.columns) (x ∷ y ∷ [])) (equal schema.key_len 2 keys.length_is) ∙ ap (λ (cs : List Column). literals_fit (take 2 cs) (x ∷ y ∷ [])) keys.columns
        ∙ both_true (literal_is_of_kind keys.first.kind x) (literal_is_of_kind keys.second.kind y && true) (fx keys.first.kind (column 0 keys.first part (ap (λ (cs : List Column). slice_get cs 0) keys.columns) i.0))
        (both_true (literal_is_of_kind keys.second.kind y) true (fy keys.second.kind (column 1 keys.second other (ap (λ (cs : List Column). slice_get cs 1) keys.columns) j.0)) refl))

no_more : (g : Setting) (ts : List Token) → FillSlots g [] ts → ts ≡ []
no_more g [] h = refl
no_more g (t ∷ ts) h = absurd h

pub row_known : (schema : Schema) (base : Bool) (ts : List Token) → FillSlots (setting base (keys_of schema)) row_slots ts → RowKnown schema ts
row_known schema base ts h =
    subst (RowKnown schema) (sym are) (known schema s1.token s2.token s3.token s4.token s5.token s6.token s7.token s8.token s9.token x.front y.front x.value y.value x.part y.part keys x.keyed y.keyed x.parted y.parted x.kind y.kind x.spells y.spells (comma_is s8.token.word s8.passes) (close_is s9.token.word s9.passes))
  where
    g : Setting
    g = setting base (keys_of schema)

    values : List Slot
    values = ValueSlot ∷ CommaSlot ∷ ValueSlot ∷ CloseSlot ∷ []

    s1 : Filled (setting base (keys_of schema)) (FirstSlot ∷ CommaSlot ∷ SecondSlot ∷ CloseSlot ∷ CompareSlot ∷ OpenSlot ∷ values) is_open ts
    s1 = fill_one (setting base (keys_of schema)) OpenSlot (FirstSlot ∷ CommaSlot ∷ SecondSlot ∷ CloseSlot ∷ CompareSlot ∷ OpenSlot ∷ values) is_open ts (λ word. refl) h

    s2 : Filled (setting base (keys_of schema)) (CommaSlot ∷ SecondSlot ∷ CloseSlot ∷ CompareSlot ∷ OpenSlot ∷ values) (first_is (setting base (keys_of schema))) s1.rest
    s2 = fill_one (setting base (keys_of schema)) FirstSlot (CommaSlot ∷ SecondSlot ∷ CloseSlot ∷ CompareSlot ∷ OpenSlot ∷ values) (first_is (setting base (keys_of schema))) s1.rest (λ word. refl) s1.fills

    s3 : Filled (setting base (keys_of schema)) (SecondSlot ∷ CloseSlot ∷ CompareSlot ∷ OpenSlot ∷ values) is_comma s2.rest
    s3 = fill_one (setting base (keys_of schema)) CommaSlot (SecondSlot ∷ CloseSlot ∷ CompareSlot ∷ OpenSlot ∷ values) is_comma s2.rest (λ word. refl) s2.fills

    s4 : Filled (setting base (keys_of schema)) (CloseSlot ∷ CompareSlot ∷ OpenSlot ∷ values) (second_is (setting base (keys_of schema))) s3.rest
    s4 = fill_one (setting base (keys_of schema)) SecondSlot (CloseSlot ∷ CompareSlot ∷ OpenSlot ∷ values) (second_is (setting base (keys_of schema))) s3.rest (λ word. refl) s3.fills

    s5 : Filled (setting base (keys_of schema)) (CompareSlot ∷ OpenSlot ∷ values) is_close s4.rest
    s5 = fill_one (setting base (keys_of schema)) CloseSlot (CompareSlot ∷ OpenSlot ∷ values) is_close s4.rest (λ word. refl) s4.fills

    s6 : Filled (setting base (keys_of schema)) (OpenSlot ∷ values) is_compare s5.rest
    s6 = fill_one (setting base (keys_of schema)) CompareSlot (OpenSlot ∷ values) is_compare s5.rest (λ word. refl) s5.fills

    s7 : Filled (setting base (keys_of schema)) values is_open s6.rest
    s7 = fill_one (setting base (keys_of schema)) OpenSlot values is_open s6.rest (λ word. refl) s6.fills

    x : Literal schema (setting base (keys_of schema)) (CommaSlot ∷ ValueSlot ∷ CloseSlot ∷ []) s7.rest
    x = literal schema (setting base (keys_of schema)) (CommaSlot ∷ ValueSlot ∷ CloseSlot ∷ []) s7.rest s7.fills

    s8 : Filled (setting base (keys_of schema)) (ValueSlot ∷ CloseSlot ∷ []) is_comma x.back
    s8 = fill_one (setting base (keys_of schema)) CommaSlot (ValueSlot ∷ CloseSlot ∷ []) is_comma x.back (λ word. refl) x.fills

    y : Literal schema (setting base (keys_of schema)) (CloseSlot ∷ []) s8.rest
    y = literal schema (setting base (keys_of schema)) (CloseSlot ∷ []) s8.rest s8.fills

    s9 : Filled (setting base (keys_of schema)) [] is_close y.back
    s9 = fill_one (setting base (keys_of schema)) CloseSlot [] is_close y.back (λ word. refl) y.fills

    are : ts ≡ s1.token ∷ s2.token ∷ s3.token ∷ s4.token ∷ s5.token ∷ s6.token ∷ s7.token ∷ (x.front ++ (s8.token ∷ (y.front ++ s9.token ∷ [])))
    are =
        s1.are ∙ ap (λ (r : List Token). s1.token ∷ r) s2.are ∙ ap (λ (r : List Token). s1.token ∷ s2.token ∷ r) s3.are ∙ ap (λ (r : List Token). s1.token ∷ s2.token ∷ s3.token ∷ r) s4.are
        ∙ ap (λ (r : List Token). s1.token ∷ s2.token ∷ s3.token ∷ s4.token ∷ r) s5.are ∙ ap (λ (r : List Token). s1.token ∷ s2.token ∷ s3.token ∷ s4.token ∷ s5.token ∷ r) s6.are
        ∙ ap (λ (r : List Token). s1.token ∷ s2.token ∷ s3.token ∷ s4.token ∷ s5.token ∷ s6.token ∷ r) s7.are
        ∙ ap (λ (r : List Token). s1.token ∷ s2.token ∷ s3.token ∷ s4.token ∷ s5.token ∷ s6.token ∷ s7.token ∷ r) (x.are ∙ ap (λ (r : List Token). x.front ++ r) (s8.are ∙ ap (λ (r : List Token). s8.token ∷ r) (y.are ∙ ap (λ (r : List Token). y.front ++ r) (s9.are ∙ ap (λ (r : List Token). s9.token ∷ r) (no_more (setting base (keys_of schema)) s9.rest s9.fills)))))

    keys : TwoColumns schema (keys_of schema)
    keys = let n = some_names base (keys_of schema) s2.token.word s2.passes in two_columns schema n.0 n.1
