-- Values can be read back from the encoding of a row.
use Rattle.std.proofs.Common.{FitsSigned, ℕ, ℤ, pos, negsuc, ◌≡◌, ◌<◌, ◌≤◌, ◌^◌, List, [], ◌∷◌, ◌++◌, length, drop, get_or, refl, sym, ap, ◌∙◌, arith, append_assoc}
use Rattle.std.proofs.lemmas.Int.{to_z-of_z}
use Rattle.std.specs.Int.{w64, cast_unsigned, cast_signed}
use Rattle.std.specs.List.{AllByRecursion}
use Rattle.byteorder.specs.Endian.{big_from, big_bytes}
use Rattle.byteorder.specs.Numbers.{big_number-reads_back, length-bytes_high_first}
use Rattle.row_types.specs.declared.values.Value.{Value}
use Rattle.row_types.specs.declared.values.Value.TheVariants.{Null, Int, Text}
use Rattle.row_types.specs.Faults.{TextIsShort}
use Rattle.row_digest.specs.Encoding.{encoded_value, encoded, ValueIsInRange}

-- what begins equal lists, where it is as long, and what follows it
fronts : {X : Type 0} → (xs ys r s : List X) → length xs ≡ length ys → xs ++ r ≡ ys ++ s → (xs ≡ ys) × (r ≡ s)
fronts [] [] r s n e = (refl, e)
fronts [] (y ∷ ys) r s n e = absurd (omega arith)
fronts (x ∷ xs) [] r s n e = absurd (omega arith)
fronts (x ∷ xs) (y ∷ ys) r s n e =
    let head : x ≡ y = cc in
    let tail : xs ++ r ≡ ys ++ s = cc in
    let rest = fronts xs ys r s (omega arith) tail in
    (ap (λ z. z ∷ xs) head ∙ ap (λ zs. y ∷ zs) rest.0, rest.1)

unsigned_fits : (z : ℤ) → FitsSigned w64 z → cast_unsigned w64 z < 256 ^ 8
unsigned_fits (pos n) h = omega arith
unsigned_fits (negsuc n) h = omega arith

-- a number of n bytes before other bytes
numbers : (n x y : ℕ) (r s : List ℕ) → x < 256 ^ n → y < 256 ^ n → big_bytes n x ++ r ≡ big_bytes n y ++ s → (x ≡ y) × (r ≡ s)
numbers n x y r s h k e = (
  sym (big_number-reads_back n x r h) ∙ ap (big_from 0 n) e ∙ big_number-reads_back n y s k,
  (fronts (big_bytes n x) (big_bytes n y) r s (length-bytes_high_first n x ∙ sym (length-bytes_high_first n y)) e).1,
)

pub value_apart : (a b : Value) (r s : List ℕ) → TextIsShort a → TextIsShort b → ValueIsInRange a → ValueIsInRange b → encoded_value a ++ r ≡ encoded_value b ++ s → (a ≡ b) × (r ≡ s)
value_apart Null Null r s f g h k e = (refl, ap (drop 1) e)
value_apart Null (Int n) r s f g h k e = let x : ◌≡◌ {A = ℕ} 0 1 = ap (λ (xs : List ℕ). get_or xs 0 0) e in absurd (omega arith)
value_apart Null (Text u) r s f g h k e = let x : ◌≡◌ {A = ℕ} 0 2 = ap (λ (xs : List ℕ). get_or xs 0 0) e in absurd (omega arith)
value_apart (Int m) Null r s f g h k e = let x : ◌≡◌ {A = ℕ} 1 0 = ap (λ (xs : List ℕ). get_or xs 0 0) e in absurd (omega arith)
value_apart (Int m) (Int n) r s f g h k e =
    let both = numbers 8 (cast_unsigned w64 m) (cast_unsigned w64 n) r s (unsigned_fits m h) (unsigned_fits n k) (ap (drop 1) e) in
    (ap Int (sym (to_z-of_z w64 m h) ∙ ap (cast_signed w64) both.0 ∙ to_z-of_z w64 n k), both.1)
value_apart (Int m) (Text u) r s f g h k e = let x : ◌≡◌ {A = ℕ} 1 2 = ap (λ (xs : List ℕ). get_or xs 0 0) e in absurd (omega arith)
value_apart (Text t) Null r s f g h k e = let x : ◌≡◌ {A = ℕ} 2 0 = ap (λ (xs : List ℕ). get_or xs 0 0) e in absurd (omega arith)
value_apart (Text t) (Int n) r s f g h k e = let x : ◌≡◌ {A = ℕ} 2 1 = ap (λ (xs : List ℕ). get_or xs 0 0) e in absurd (omega arith)
value_apart (Text t) (Text u) r s f g h k e =
    let whole : big_bytes 4 (length t) ++ (t ++ r) ≡ big_bytes 4 (length u) ++ (u ++ s) =
    sym (append_assoc (big_bytes 4 (length t)) t r) ∙ ap (drop 1) e ∙ append_assoc (big_bytes 4 (length u)) u s in
    let sized = numbers 4 (length t) (length u) (t ++ r) (u ++ s) f g whole in
    let both = fronts t u r s sized.0 sized.1 in
    (ap Text both.0, both.1)

value_takes_bytes : (a : Value) (r : List ℕ) → 1 ≤ length (encoded_value a ++ r)
value_takes_bytes Null r = omega arith
value_takes_bytes (Int n) r = omega arith
value_takes_bytes (Text t) r = omega arith

pub rows_apart : (a b : List Value) → AllByRecursion TextIsShort a → AllByRecursion TextIsShort b → AllByRecursion ValueIsInRange a → AllByRecursion ValueIsInRange b → encoded a ≡ encoded b → a ≡ b
rows_apart [] [] f g h k e = refl
rows_apart [] (y ∷ ys) f g h k e =
    let none : 0 ≡ length (encoded_value y ++ encoded ys) = ap length e in
    absurd (omega (arith, value_takes_bytes y (encoded ys)))
rows_apart (x ∷ xs) [] f g h k e =
    let none : length (encoded_value x ++ encoded xs) ≡ 0 = ap length e in
    absurd (omega (arith, value_takes_bytes x (encoded xs)))
rows_apart (x ∷ xs) (y ∷ ys) f g h k e =
    let first = value_apart x y (encoded xs) (encoded ys) f.0 g.0 h.0 k.0 e in
    let rest = rows_apart xs ys f.1 g.1 h.1 k.1 first.1 in
    ap (λ (z : Value). z ∷ xs) first.0 ∙ ap (λ (zs : List Value). y ∷ zs) rest
