-- Numbers with which a text begins.
use Rattle.std.proofs.Common.{◌≡◌, ◌≢◌, ◌≤◌, ◌+◌, ◌-◌, ◌^◌, ◌==◌, ℕ, zero, suc, Bool, true, false, List, [], ◌∷◌, ◌++◌, length, take, min, refl, sym, ap, subst, ◌∙◌, arith, append-nil, length-append}
use Rattle.std.proofs.lemmas.Bool.Decides.{nat_tests}
use Rattle.std.specs.Prelude.{◌&&◌, ◌||◌, not}
use Rattle.std.specs.List.{AllByRecursion}
use Rattle.std.specs.Char.{is_ascii_digit}
use Rattle.statement_tokens.specs.Spellings.{IsNumberText, number_from}
use Rattle.statement_tokens.specs.FirstToken.{behind, front_of}
use Rattle.statement_tokens.proofs.CutLemmas.{front_and_behind, behind_shorter}
use Rattle.file_text.specs.Said.{IsDecimal, IsLed, begins_zero}
use Rattle.line_words.specs.Numbers.{Capped, StopsDigits, DecimalCut, NoDecimalCut, is_canonical}

abbrev AllDigits : List ℕ → Type 0
AllDigits = AllByRecursion (λ (byte : ℕ). is_ascii_digit byte ≡ true)

front_digits : (text : List ℕ) → AllDigits (front_of is_ascii_digit text)
front_digits [] = tt
front_digits (byte ∷ bytes) = by_test (front_digits bytes) (is_ascii_digit byte) refl
  where
    by_test : AllDigits (front_of is_ascii_digit bytes) → (is : Bool) → is_ascii_digit byte ≡ is → AllDigits (front_of is_ascii_digit (byte ∷ bytes))
    by_test more true e = let f : front_of is_ascii_digit (byte ∷ bytes) ≡ byte ∷ front_of is_ascii_digit bytes = rw e refl in subst AllDigits (sym f) (e, more)
    by_test more false e = let f : front_of is_ascii_digit (byte ∷ bytes) ≡ [] = rw e refl in subst AllDigits (sym f) tt

behind_stops : (text : List ℕ) → StopsDigits (behind is_ascii_digit text)
behind_stops [] = tt
behind_stops (byte ∷ bytes) = by_test (behind_stops bytes) (is_ascii_digit byte) refl
  where
    by_test : StopsDigits (behind is_ascii_digit bytes) → (is : Bool) → is_ascii_digit byte ≡ is → StopsDigits (behind is_ascii_digit (byte ∷ bytes))
    by_test more true e = let f : behind is_ascii_digit (byte ∷ bytes) ≡ behind is_ascii_digit bytes = rw e refl in subst StopsDigits (sym f) more
    by_test more false e = let f : behind is_ascii_digit (byte ∷ bytes) ≡ byte ∷ bytes = rw e refl in subst StopsDigits (sym f) e

pub record SameCut (front rest text : List ℕ) : Type 0 where
  pub front_is : front ≡ front_of is_ascii_digit text
  pub rest_is : rest ≡ behind is_ascii_digit text

-- digits are cut off a text in one way
pub one_cut : (front rest : List ℕ) → AllDigits front → StopsDigits rest → SameCut front rest (front ++ rest)
one_cut [] [] d s = record { front_is = refl; rest_is = refl }
one_cut [] (byte ∷ rest) d s = record { front_is = rw s refl; rest_is = rw s refl }
one_cut (byte ∷ front) rest d s =
    let r = one_cut front rest d.1 s in
    let is : is_ascii_digit byte ≡ true = d.0 in
    record { front_is = rw is (ap (λ (xs : List ℕ). byte ∷ xs) r.front_is); rest_is = rw is r.rest_is }

pub text_cut : (text front rest : List ℕ) → text ≡ front ++ rest → AllDigits front → StopsDigits rest → SameCut front rest text
text_cut text front rest e d s = subst (SameCut front rest) (sym e) (one_cut front rest d s)

front_size : (text : List ℕ) → length (front_of is_ascii_digit text) ≡ length text - length (behind is_ascii_digit text)
front_size text =
    let e : length (front_of is_ascii_digit text ++ behind is_ascii_digit text) ≡ length text = ap (λ (xs : List ℕ). length xs) (front_and_behind is_ascii_digit text) in
    omega (arith, e, length-append (front_of is_ascii_digit text) (behind is_ascii_digit text))

-- the first digit is the text's first byte
front_zero : (text : List ℕ) → front_of is_ascii_digit text ≢ [] → begins_zero (front_of is_ascii_digit text) ≡ begins_zero text
front_zero [] some = refl
front_zero (byte ∷ bytes) some = by_test (is_ascii_digit byte) refl
  where
    by_test : (is : Bool) → is_ascii_digit byte ≡ is → begins_zero (front_of is_ascii_digit (byte ∷ bytes)) ≡ begins_zero (byte ∷ bytes)
    by_test true e = rw e refl
    by_test false e = absurd (some (rw e refl))

some_size : (xs : List ℕ) → (length xs == 0) ≡ false → xs ≢ []
some_size xs e n = let l : length xs ≡ 0 = ap length n in grind (arith, nat_tests, e, l)

canonical_parts : (size : ℕ) (zero_first : Bool) → (not (size == 0) && (size == 1 || not zero_first)) ≡ true → ((size == 0) ≡ false) × (zero_first ≡ true → size ≡ 1)
canonical_parts size zero_first e = by_none (size == 0) refl
  where
    no : (b : Bool) → b ≡ true → b ≡ false → ⊥
    no b p q = cc

    by_one : (size == 0) ≡ false → (is : Bool) → (size == 1) ≡ is → ((size == 0) ≡ false) × (zero_first ≡ true → size ≡ 1)
    by_one n true o = (n, λ z. grind (arith, nat_tests, o))
    by_one n false o = (n, λ z. absurd (no (not (size == 0) && (size == 1 || not zero_first)) e (rw (n, o, z) refl)))

    by_none : (is : Bool) → (size == 0) ≡ is → ((size == 0) ≡ false) × (zero_first ≡ true → size ≡ 1)
    by_none true n = absurd (no (not (size == 0) && (size == 1 || not zero_first)) e (rw n refl))
    by_none false n = by_one n (size == 1) refl

canonical_is : (size : ℕ) (zero_first : Bool) → (size == 0) ≡ false → (zero_first ≡ true → size ≡ 1) → (not (size == 0) && (size == 1 || not zero_first)) ≡ true
canonical_is size zero_first n one = by_zero zero_first refl
  where
    by_zero : (is : Bool) → zero_first ≡ is → (not (size == 0) && (size == 1 || not zero_first)) ≡ true
    by_zero true z = let o : (size == 1) ≡ true = (let f = one z in grind (arith, nat_tests, f)) in rw (n, o) refl
    by_zero false z = by_one (size == 1) refl
      where
        by_one : (is : Bool) → (size == 1) ≡ is → (not (size == 0) && (size == 1 || not zero_first)) ≡ true
        by_one true o = rw (n, o) refl
        by_one false o = rw (n, o, z) refl

-- ---- the number with which a text begins

pub decimal_cut : (text rest : List ℕ) (found : ℕ) → found ≡ min (number_from 0 (front_of is_ascii_digit text)) (2 ^ 128 - 1) → rest ≡ behind is_ascii_digit text
    → is_canonical text (length text - length rest) ≡ true → DecimalCut found text rest
decimal_cut text rest found capped is canonical =
    let size : length (front_of is_ascii_digit text) ≡ length text - length rest = front_size text ∙ ap (λ (xs : List ℕ). length text - length xs) (sym is) in
    let parts = canonical_parts (length text - length rest) (begins_zero text) canonical in
    let some = some_size (front_of is_ascii_digit text) (ap (λ (n : ℕ). n == 0) size ∙ parts.0) in
    record {
      front = front_of is_ascii_digit text;
      are = sym (front_and_behind is_ascii_digit text) ∙ ap (λ (xs : List ℕ). front_of is_ascii_digit text ++ xs) (sym is);
      stops = subst StopsDigits (sym is) (behind_stops text);
      number = record {
        number = number_from 0 (front_of is_ascii_digit text);
        is = record {
          digits = record { some = some; digits = front_digits text; value = refl };
          canonical = λ z. size ∙ parts.1 (sym (front_zero text some) ∙ z);
        };
        capped = capped;
      };
    }

pub no_decimal_cut : (text rest : List ℕ) → rest ≡ behind is_ascii_digit text → is_canonical text (length text - length rest) ≡ false → NoDecimalCut text
no_decimal_cut text rest is canonical front other n are stops d =
    let c = text_cut text front other are d.digits.digits stops in
    let size : length front ≡ length text - length rest = ap length c.front_is ∙ front_size text ∙ ap (λ (xs : List ℕ). length text - length xs) (sym is) in
    let some_front : front_of is_ascii_digit text ≢ [] = λ e. d.digits.some (c.front_is ∙ e) in
    let zero : begins_zero front ≡ begins_zero text = ap begins_zero c.front_is ∙ front_zero text some_front in
    let k = canonical_is (length text - length rest) (begins_zero text) (ap (λ (m : ℕ). m == 0) (sym size) ∙ not_none front d.digits.some) (λ z. sym size ∙ d.canonical (zero ∙ z)) in
    no (is_canonical text (length text - length rest)) k canonical
  where
    no : (b : Bool) → b ≡ true → b ≡ false → ⊥
    no b p q = cc

    not_none : (xs : List ℕ) → xs ≢ [] → (length xs == 0) ≡ false
    not_none [] some = absurd (some refl)
    not_none (x ∷ xs) some = grind (arith, nat_tests)

-- ---- the number that a text is

pub no_whole_decimal : (text : List ℕ) → NoDecimalCut text → (n : ℕ) → IsDecimal n text → ⊥
no_whole_decimal text none n d = none text [] n (sym (append-nil text)) tt d

pub empty : (xs : List ℕ) → length xs ≡ 0 → xs ≡ []
empty [] e = refl
empty (x ∷ xs) e = absurd (omega (arith, e))

pub whole_decimal : (text rest : List ℕ) (found : ℕ) → DecimalCut found text rest → length rest ≡ 0 → Capped (λ (n : ℕ). IsDecimal n text) found
whole_decimal text rest found c e =
    let is : text ≡ c.front = c.are ∙ ap (λ (xs : List ℕ). c.front ++ xs) (empty rest e) ∙ append-nil c.front in
    record { number = c.number.number; is = subst (IsDecimal c.number.number) (sym is) c.number.is; capped = c.number.capped }

pub more_than_decimal : (text rest : List ℕ) (found : ℕ) → DecimalCut found text rest → (length rest ≡ 0 → ⊥) → (n : ℕ) → IsDecimal n text → ⊥
more_than_decimal text rest found c some n d =
    let a = text_cut text c.front rest c.are c.number.is.digits.digits c.stops in
    let b = text_cut text text [] (sym (append-nil text)) d.digits.digits tt in
    some (ap length (a.rest_is ∙ sym b.rest_is))

pub digits_number : (text rest : List ℕ) (found : ℕ) → found ≡ min (number_from 0 (front_of is_ascii_digit text)) (2 ^ 128 - 1) → rest ≡ behind is_ascii_digit text → length rest ≡ 0
    → (length text ≡ 0 → ⊥) → Capped (λ (n : ℕ). IsNumberText n text) found
digits_number text rest found capped is e some =
    let behind_is : behind is_ascii_digit text ≡ [] = sym is ∙ empty rest e in
    let whole : front_of is_ascii_digit text ≡ text = sym (append-nil (front_of is_ascii_digit text)) ∙ ap (λ (xs : List ℕ). front_of is_ascii_digit text ++ xs) (sym behind_is) ∙ front_and_behind is_ascii_digit text in
    record {
      number = number_from 0 text;
      is = record { some = λ n. some (ap length n); digits = subst AllDigits whole (front_digits text); value = refl };
      capped = capped ∙ ap (λ (xs : List ℕ). min (number_from 0 xs) (2 ^ 128 - 1)) whole;
    }

pub no_digits : (text : List ℕ) → length text ≡ 0 → (n : ℕ) → IsNumberText n text → ⊥
no_digits text e n d = d.some (empty text e)

pub not_all_digits : (text rest : List ℕ) → rest ≡ behind is_ascii_digit text → (length rest ≡ 0 → ⊥) → (n : ℕ) → IsNumberText n text → ⊥
not_all_digits text rest is some n d =
    let b = text_cut text text [] (sym (append-nil text)) d.digits tt in some (ap length (is ∙ sym b.rest_is))

-- ---- a letter and a number

pub tails : (a b : ℕ) (xs ys : List ℕ) → a ∷ xs ≡ b ∷ ys → xs ≡ ys
tails a b xs ys e = cc

pub heads : (a b : ℕ) (xs ys : List ℕ) → a ∷ xs ≡ b ∷ ys → a ≡ b
heads a b xs ys e = cc

pub is_led : (letter byte found : ℕ) (text more : List ℕ) → text ≡ byte ∷ more → byte ≡ letter → Capped (λ (n : ℕ). IsDecimal n more) found → Capped (λ (n : ℕ). IsLed letter n text) found
is_led letter byte found text more e l c = record { number = c.number; is = record { digits = more; is = e ∙ ap (λ (b : ℕ). b ∷ more) l; number = c.is }; capped = c.capped }

pub no_led : (letter byte : ℕ) (text more : List ℕ) → text ≡ byte ∷ more → ((n : ℕ) → IsDecimal n more → ⊥) → (n : ℕ) → IsLed letter n text → ⊥
no_led letter byte text more e none n d = none n (subst (IsDecimal n) (sym (tails byte letter more d.digits (sym e ∙ d.is))) d.number)

pub other_letter : (letter byte : ℕ) (text more : List ℕ) → text ≡ byte ∷ more → (byte ≡ letter → ⊥) → (n : ℕ) → IsLed letter n text → ⊥
other_letter letter byte text more e other n d = other (heads byte letter more d.digits (sym e ∙ d.is))

pub no_letter : (letter : ℕ) (text : List ℕ) → length text ≡ 0 → (n : ℕ) → IsLed letter n text → ⊥
no_letter letter text e n d = let l : length text ≡ suc (length d.digits) = ap length d.is in omega (arith, e, l)
