-- The decimal digits of a number spell it.
use Rattle.std.proofs.Common.{◌≡◌, ℕ, ◌+◌, ◌-◌, ◌*◌, ◌%◌, ◌<◌, ◌^◌, true, List, [], ◌∷◌, ◌++◌, refl, arith}
use Rattle.std.specs.List.{AllByRecursion}
use Rattle.std.specs.Char.{is_ascii_digit}
use Rattle.std.specs.Fmt.{decimal}
use Rattle.std.proofs.lemmas.Fmt.{decimal_by_steps}
use Rattle.std.proofs.lemmas.Bool.Decides.{nat_tests}
use Rattle.statement_tokens.specs.Spellings.{IsNumberText, number_from}

number_behind : (m d : ℕ) (ds : List ℕ) → number_from m (ds ++ d ∷ []) ≡ number_from m ds * 10 + (d - 48)
number_behind m d [] = refl
number_behind m d (x ∷ xs) = number_behind (m * 10 + (x - 48)) d xs

digits_behind : (d : ℕ) (ds : List ℕ) → is_ascii_digit d ≡ true → AllByRecursion (λ (byte : ℕ). is_ascii_digit byte ≡ true) ds → AllByRecursion (λ (byte : ℕ). is_ascii_digit byte ≡ true) (ds ++ d ∷ [])
digits_behind d [] h i = (h, tt)
digits_behind d (x ∷ xs) h i = (i.0, digits_behind d xs h i.1)

a_digit : (n : ℕ) → n < 10 → is_ascii_digit (48 + n) ≡ true
a_digit n h = grind (arith, nat_tests)

no_end : (ds : List ℕ) (d : ℕ) → ds ++ d ∷ [] ≡ [] → ⊥
no_end [] d e = cc
no_end (x ∷ xs) d e = cc

pub decimal_spells : (n : ℕ) → n < 2 ^ 64 → IsNumberText n (decimal n)
decimal_spells = decimal_by_steps IsNumberText
    (λ n h. record { some = λ e. no_end [] (48 + n) e; digits = (a_digit n h, tt); value = (let a : 48 + n - 48 ≡ n = omega arith in let b : n ≡ 0 * 10 + (48 + n - 48) = omega arith in b) })
    (λ n ds h i. record {
      some = λ e. no_end ds (48 + n % 10) e;
      digits = digits_behind (48 + n % 10) ds (a_digit (n % 10) (omega arith)) i.digits;
      value = (let a = i.value in let b = number_behind 0 (48 + n % 10) ds in omega arith);
    })
