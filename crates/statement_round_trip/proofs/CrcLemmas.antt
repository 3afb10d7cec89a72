-- The digits of a checksum are read as its bytes.
use Rattle.std.proofs.Common.{◌≡◌, ℕ, zero, suc, ◌+◌, ◌/◌, ◌%◌, ◌<◌, ◌≤◌, Bool, true, false, List, [], ◌∷◌, ◌++◌, refl, sym, ◌∙◌, ap, subst, arith, append-nil, take-append-drop}
use Rattle.std.specs.Prelude.{◌==◌, ◌&&◌, ◌||◌, length, take, replicate, slice_index, Result, if◌then◌else◌}
use Rattle.std.proofs.lemmas.Bool.Decides.{nat_tests}
use Rattle.hex.specs.Hex.{IsBytes, encode_with, encode_lower, lower_digits}
use Rattle.hex.specs.declared.error.FromHexError.{FromHexError}
use Rattle.hex.proofs.HexLemmas.{length-encode_with, decode_of-encode_lower}
use Rattle.row_types.specs.declared.digests.Digest.{Digest}
use Rattle.row_types.specs.declared.digests.DigestKind.{DigestKind}
use Rattle.row_types.specs.declared.digests.DigestKind.TheVariants.{Md5, Sha1}
use Rattle.row_digest.specs.Digest.{crc_text}
use Rattle.statement_grammar.specs.Sentence.{is_lower_digit, are_lower_digits, is_crc}
use Rattle.statement_grammar.specs.Draft.{kind_of_crc, bytes_or_none, xor_of_crc}
use Rattle.statement_round_trip.specs.RoundTrip.{IsXor}
use Rattle.statement_grammar.proofs.BasicLemmas.{both, both_true}

-- ---- digits

abbrev first_are_lower : ℕ → Bool
first_are_lower zero = true
first_are_lower (suc n) = is_lower_digit (slice_index lower_digits n) && first_are_lower n

below : (n d : ℕ) → first_are_lower n ≡ true → d < n → is_lower_digit (slice_index lower_digits d) ≡ true
below zero d h l = absurd (omega arith)
below (suc n) d h l = by_test (d == n) refl (λ more l. below n d more l)
  where
    q : (is_lower_digit (slice_index lower_digits n) ≡ true) × (first_are_lower n ≡ true)
    q = both (is_lower_digit (slice_index lower_digits n)) (first_are_lower n) h

    equal : (d == n) ≡ true → n ≡ d
    equal e = grind (arith, nat_tests)

    lower : (d == n) ≡ false → d < n
    lower e = grind (arith, nat_tests)

    by_test : (b : Bool) → (d == n) ≡ b → (first_are_lower n ≡ true → d < n → is_lower_digit (slice_index lower_digits d) ≡ true) → is_lower_digit (slice_index lower_digits d) ≡ true
    by_test true e later = subst (λ (k : ℕ). is_lower_digit (slice_index lower_digits k) ≡ true) (equal e) q.0
    by_test false e later = later q.1 (lower e)

digit : (d : ℕ) → d < 16 → is_lower_digit (slice_index lower_digits d) ≡ true
digit d l = below 16 d refl l

pub digits : (xs : List ℕ) → IsBytes xs → are_lower_digits (encode_with lower_digits xs) ≡ true
unfolding encode_with
digits [] h = refl
digits (b ∷ xs) h =
    let fits : b < 256 = h 0 in
    let high : b / 16 < 16 = omega arith in
    let low : b % 16 < 16 = omega arith in
    both_true (is_lower_digit (slice_index lower_digits (b / 16))) (is_lower_digit (slice_index lower_digits (b % 16)) && are_lower_digits (encode_with lower_digits xs)) (digit (b / 16) high)
    (both_true (is_lower_digit (slice_index lower_digits (b % 16))) (are_lower_digits (encode_with lower_digits xs)) (digit (b % 16) low) (digits xs (λ k. h (suc k))))

-- ---- lists of bytes

pub taken_bytes : (n : ℕ) (xs : List ℕ) → IsBytes xs → (i : ℕ) → slice_index (take n xs) i < 256
taken_bytes zero xs h i = omega arith
taken_bytes (suc n) [] h i = omega arith
taken_bytes (suc n) (x ∷ xs) h zero = h 0
taken_bytes (suc n) (x ∷ xs) h (suc i) = taken_bytes n xs (λ k. h (suc k)) i

pub taken_long : (n : ℕ) (xs : List ℕ) → n ≤ length xs → length (take n xs) ≡ n
taken_long zero xs h = refl
taken_long (suc n) [] h = absurd (omega arith)
taken_long (suc n) (x ∷ xs) h = let i = taken_long n xs (omega arith) in omega arith

pub take_front : (xs ys : List ℕ) (n k : ℕ) → n ≡ length xs + k → take n (xs ++ ys) ≡ xs ++ take k ys
take_front [] ys n k e = let f : n ≡ k = omega arith in ap (λ (m : ℕ). take m ys) f
take_front (x ∷ xs) ys zero k e = absurd (omega arith)
take_front (x ∷ xs) ys (suc n) k e = ap (λ (l : List ℕ). x ∷ l) (take_front xs ys n k (omega arith))

-- ---- checksums

back : (bytes xor : List ℕ) (k : ℕ) → IsBytes bytes → 20 ≡ length bytes + k → bytes ++ take k (replicate 20 0) ≡ xor → xor_of_crc (encode_lower bytes) ≡ xor
back bytes xor k h e f =
    ap (λ (r : Result (List ℕ) FromHexError). take 20 (bytes_or_none r ++ replicate 20 0)) (decode_of-encode_lower bytes h) ∙ take_front bytes (replicate 20 0) 20 k e ∙ f

is_number : (a b : ℕ) → a ≡ b → (a == b) ≡ true
is_number a b e = grind (arith, nat_tests)

no_number : (a : ℕ) → a ≡ 40 → (a == 32) ≡ false
no_number a e = grind (arith, nat_tests)

pub crc_right : (kind : DigestKind) (master : Digest) → IsXor kind master.xor → (is_crc (crc_text kind master) ≡ true) × (kind_of_crc (crc_text kind master) ≡ kind) × (xor_of_crc (crc_text kind master) ≡ master.xor)
crc_right Md5 master i = (
  both_true ((length (encode_lower bytes) == 32) || (length (encode_lower bytes) == 40)) (are_lower_digits (encode_lower bytes)) (ap (λ (b : Bool). b || (length (encode_lower bytes) == 40)) is_32) (digits bytes are),
  ap (λ (b : Bool). if b then Md5 else Sha1) is_32,
  back bytes master.xor 4 are (omega (arith, long)) (ap (λ (l : List ℕ). bytes ++ l) (sym i.ends) ∙ take-append-drop 16 master.xor),
)
  where
    bytes : List ℕ
    bytes = take 16 master.xor

    are : IsBytes bytes
    are = taken_bytes 16 master.xor i.bytes

    long : length bytes ≡ 16
    long = taken_long 16 master.xor (let l = i.long in omega arith)

    is_32 : (length (encode_lower bytes) == 32) ≡ true
    is_32 = is_number (length (encode_lower bytes)) 32 (let l = length-encode_with lower_digits bytes in omega (arith, l, long))
crc_right Sha1 master i = (
  both_true ((length (encode_lower bytes) == 32) || (length (encode_lower bytes) == 40)) (are_lower_digits (encode_lower bytes))
      (ap (λ (b : Bool). b || (length (encode_lower bytes) == 40)) (no_number (length (encode_lower bytes)) long) ∙ is_number (length (encode_lower bytes)) 40 long) (digits bytes i.bytes),
  ap (λ (b : Bool). if b then Md5 else Sha1) (no_number (length (encode_lower bytes)) long),
  back bytes master.xor 0 i.bytes (let l = i.long in omega arith) (append-nil master.xor),
)
  where
    bytes : List ℕ
    bytes = master.xor

    long : length (encode_lower bytes) ≡ 40
    long = let l = length-encode_with lower_digits bytes in let m = i.long in omega (arith, l)
