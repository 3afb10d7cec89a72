-- The text of a number has no stop in it, and tells the number.
use Rattle.std.proofs.Common.{◌≡◌, ℕ, ℤ, pos, negsuc, suc, ◌+◌, ◌%◌, ◌^◌, ◌<◌, List, [], ◌∷◌, ◌++◌, Result, Ok, FitsSigned, sym, subst, ◌∙◌, arith, w64}
use Rattle.std.specs.Fmt.{signed_decimal, decimal}
use Rattle.std.specs.Str.{IsUtf8}
use Rattle.std.specs.Str.Parse.{ParsesSigned}
use Rattle.std.specs.Int.Signed.{mag}
use Rattle.std.proofs.lemmas.Fmt.{decimal_by_steps, parse-signed_decimal, signed_decimal_injective, IsAscii-signed}
use Rattle.std.proofs.lemmas.Str.{IsUtf8-from_ascii}
use Rattle.ptc_run.specs.Lines.{IsFreeOf}
use Rattle.ptc_run.proofs.LineLemmas.{free-append, cut_once}

-- 64 bits
pub mag_fits : (n : ℤ) → FitsSigned w64 n → mag n < 2 ^ 63
mag_fits n h = h.sfits

-- a decimal has only digits, and a stop is below them
decimal_free : (stop : ℕ) → stop < 45 → (n : ℕ) → n < 2 ^ 64 → IsFreeOf stop (decimal n)
decimal_free stop low = decimal_by_steps (λ n ds. IsFreeOf stop ds) (λ n lt. ((λ e. omega arith), tt)) (λ n ds le h. free-append stop ds ((48 + n % 10) ∷ []) h ((λ e. omega arith), tt))

pub number_free : (stop : ℕ) → stop < 45 → (n : ℤ) → FitsSigned w64 n → IsFreeOf stop (signed_decimal n)
number_free stop low (pos n) h = let m = mag_fits (pos n) h in decimal_free stop low n (omega arith)
number_free stop low (negsuc n) h = let m = mag_fits (negsuc n) h in ((λ e. omega arith), decimal_free stop low (suc n) (omega arith))

pub number_utf8 : (n : ℤ) (bytes : List ℕ) → FitsSigned w64 n → bytes ≡ signed_decimal n → IsUtf8 bytes
number_utf8 n bytes h e = subst IsUtf8 (sym e) (IsUtf8-from_ascii (signed_decimal n) (IsAscii-signed n (mag_fits n h)))

pub number_parses : {E : Type 0} (n : ℤ) (bytes : List ℕ) (r : Result ℤ E) → FitsSigned w64 n → bytes ≡ signed_decimal n → ParsesSigned w64 10 bytes r → r ≡ Ok n
number_parses n bytes r h e p = parse-signed_decimal w64 n bytes r h (mag_fits n h) e p

-- a number before a stop is read in one way
pub number_once : (stop : ℕ) → stop < 45 → (m n : ℤ) (x y : List ℕ) → FitsSigned w64 m → FitsSigned w64 n → signed_decimal m ++ stop ∷ x ≡ signed_decimal n ++ stop ∷ y → (m ≡ n) × (x ≡ y)
number_once stop low m n x y f g e =
    let parts = cut_once stop (signed_decimal m) (signed_decimal n) x y (number_free stop low m f) (number_free stop low n g) e in
    (signed_decimal_injective m n (mag_fits m f) (mag_fits n g) parts.0, parts.1)

-- the part before the first stop is the number
pub token_is : (stop : ℕ) → stop < 45 → (n : ℤ) (token rest other : List ℕ) (bytes : List ℕ) → FitsSigned w64 n → IsFreeOf stop token → bytes ≡ token ++ stop ∷ rest → bytes ≡ signed_decimal n ++ stop ∷ other → (token ≡ signed_decimal n) × (rest ≡ other)
token_is stop low n token rest other bytes f h e k = cut_once stop token (signed_decimal n) rest other h (number_free stop low n f) (sym e ∙ k)
