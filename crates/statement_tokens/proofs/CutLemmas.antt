-- Steps of the loops that read a token.
use Rattle.std.proofs.Common.{◌≡◌, ℕ, ◌+◌, ◌-◌, ◌*◌, ◌≤◌, ◌==◌, Bool, true, false, List, [], ◌∷◌, ◌++◌, Option, None, Some, refl, sym, ◌∙◌, ap, min, length, take, arith, append_assoc, append-nil, length-append}
use Rattle.std.proofs.Math.Seq.{take-append_seam}
use Rattle.std.specs.Char.{is_ascii_digit}
use Rattle.statement_tokens.specs.Spellings.{is_text_byte, number_from}
use Rattle.statement_tokens.specs.FirstToken.{behind, front_of, onto, quoted}

same_cap : (most n m digit : ℕ) → min n most ≡ min m most → min (n * 10 + digit) most ≡ min (m * 10 + digit) most
same_cap most n m digit e = omega arith

capped : (most n m : ℕ) (digits : List ℕ) → min n most ≡ min m most → min (number_from n digits) most ≡ min (number_from m digits) most
capped most n m [] e = e
capped most n m (digit ∷ digits) e = capped most (n * 10 + (digit - 48)) (m * 10 + (digit - 48)) digits (same_cap most n m (digit - 48) e)

saturated : (most n digit : ℕ) → min (min (min (n * 10) most + digit) most) most ≡ min (n * 10 + digit) most
saturated most n digit = omega arith

-- one digit more
none : (digit : ℕ) (bytes : List ℕ) → is_ascii_digit digit ≡ false → front_of is_ascii_digit (digit ∷ bytes) ≡ []
none digit bytes is = rw is refl

-- no digit more
pub digits_end : (total most n digit : ℕ) (bytes : List ℕ) → is_ascii_digit digit ≡ false → n ≤ most
    → min (number_from n (front_of is_ascii_digit (digit ∷ bytes))) most ≡ total → n ≡ total
digits_end total most n digit bytes is within so =
    let e : min n most ≡ total = ap (λ (xs : List ℕ). min (number_from n xs) most) (sym (none digit bytes is)) ∙ so in omega (arith, e)

pub digits_end_there : (total most n : ℕ) → n ≤ most → min n most ≡ total → n ≡ total
digits_end_there total most n within e = omega (arith, e)

pub digit_step : (most n digit : ℕ) (bytes : List ℕ) → is_ascii_digit digit ≡ true
    → min (number_from (min (min (n * 10) most + (digit - 48)) most) (front_of is_ascii_digit bytes)) most ≡ min (number_from n (front_of is_ascii_digit (digit ∷ bytes))) most
digit_step most n digit bytes is = rw is (capped most _ (n * 10 + (digit - 48)) (front_of is_ascii_digit bytes) (saturated most n (digit - 48)))

pub front_and_behind : (test : ℕ → Bool) (bytes : List ℕ) → front_of test bytes ++ behind test bytes ≡ bytes
front_and_behind test [] = refl
front_and_behind test (byte ∷ bytes) = by_test (front_and_behind test bytes) (test byte) refl
  where
    by_test : front_of test bytes ++ behind test bytes ≡ bytes → (passes : Bool) → test byte ≡ passes → front_of test (byte ∷ bytes) ++ behind test (byte ∷ bytes) ≡ byte ∷ bytes
    by_test more true e = rw e (ap (λ (xs : List ℕ). byte ∷ xs) more)
    by_test more false e = rw e refl

abbrev pub put_before : List ℕ → Option (List ℕ × List ℕ) → Option (List ℕ × List ℕ)
put_before content None = None
put_before content (Some parts) = Some (content ++ parts.0, parts.1)

joined : (content : List ℕ) (byte : ℕ) (parts : Option (List ℕ × List ℕ)) → put_before content (onto byte parts) ≡ put_before (content ++ byte ∷ []) parts
joined content byte None = refl
joined content byte (Some parts) = ap (λ (xs : List ℕ). Some (xs, parts.1)) (sym (append_assoc content (byte ∷ []) parts.0))

-- what follows a quote in a text belongs to it with the quote
pub quote_step : (whole : Option (List ℕ × List ℕ)) (content next bytes rest : List ℕ) (byte : ℕ) → byte ≡ 39 → whole ≡ put_before content (quoted (byte ∷ bytes))
    → quoted (39 ∷ bytes) ≡ onto 39 (quoted rest) → next ≡ content ++ 39 ∷ [] → whole ≡ put_before next (quoted rest)
quote_step whole content next bytes rest byte is so e grown =
    so ∙ ap (λ (b : ℕ). put_before content (quoted (b ∷ bytes))) is ∙ ap (λ (o : Option (List ℕ × List ℕ)). put_before content o) e ∙ joined content 39 (quoted rest)
    ∙ ap (λ (xs : List ℕ). put_before xs (quoted rest)) (sym grown)

-- a quote with nothing of the text behind it ends it
pub quote_ends : (whole : Option (List ℕ × List ℕ)) (content bytes : List ℕ) (byte : ℕ) → byte ≡ 39 → whole ≡ put_before content (quoted (byte ∷ bytes))
    → quoted (39 ∷ bytes) ≡ Some ([], bytes) → whole ≡ Some (content, bytes)
quote_ends whole content bytes byte is so e =
    so ∙ ap (λ (b : ℕ). put_before content (quoted (b ∷ bytes))) is ∙ ap (λ (o : Option (List ℕ × List ℕ)). put_before content o) e
    ∙ ap (λ (xs : List ℕ). Some (xs, bytes)) (append-nil content)

pub quoted_byte : (byte : ℕ) (bytes : List ℕ) → (byte == 39) ≡ false → is_text_byte byte ≡ true → quoted (byte ∷ bytes) ≡ onto byte (quoted bytes)
quoted_byte byte [] other is = rw other refl
quoted_byte byte (next ∷ bytes) other is = rw (other, is) refl

pub text_ends_there : (whole : Option (List ℕ × List ℕ)) (content : List ℕ) (byte : ℕ) (bytes : List ℕ) → (byte == 39) ≡ false → is_text_byte byte ≡ false
    → whole ≡ put_before content (quoted (byte ∷ bytes)) → whole ≡ None
text_ends_there whole content byte [] other is so = so ∙ rw other refl
text_ends_there whole content byte (next ∷ bytes) other is so = so ∙ rw (other, is) refl

pub text_step : (whole : Option (List ℕ × List ℕ)) (content next : List ℕ) (byte : ℕ) (bytes : List ℕ) → (byte == 39) ≡ false → is_text_byte byte ≡ true
    → whole ≡ put_before content (quoted (byte ∷ bytes)) → next ≡ content ++ byte ∷ [] → whole ≡ put_before next (quoted bytes)
text_step whole content next byte bytes other is so grown =
    so ∙ ap (λ (o : Option (List ℕ × List ℕ)). put_before content o) (quoted_byte byte bytes other is) ∙ joined content byte (quoted bytes)
    ∙ ap (λ (xs : List ℕ). put_before xs (quoted bytes)) (sym grown)

pub behind_shorter : (test : ℕ → Bool) (bytes : List ℕ) → length (behind test bytes) ≤ length bytes
behind_shorter test bytes =
    let e : length (front_of test bytes ++ behind test bytes) ≡ length bytes = ap (λ (xs : List ℕ). length xs) (front_and_behind test bytes) in
    omega (arith, e, length-append (front_of test bytes) (behind test bytes))

-- the front is what is left without the rest
pub front_taken : (test : ℕ → Bool) (bytes : List ℕ) → take (length bytes - length (behind test bytes)) bytes ≡ front_of test bytes
front_taken test bytes =
    let e : length (front_of test bytes ++ behind test bytes) ≡ length bytes = ap (λ (xs : List ℕ). length xs) (front_and_behind test bytes) in
    let n : length bytes - length (behind test bytes) ≡ length (front_of test bytes) = omega (arith, e, length-append (front_of test bytes) (behind test bytes)) in
    rw n (ap (λ (xs : List ℕ). take (length (front_of test bytes)) xs) (sym (front_and_behind test bytes)) ∙ take-append_seam (front_of test bytes) (behind test bytes))
