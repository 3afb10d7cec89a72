-- What several proofs use.
use Rattle.std.proofs.Common.{◌≡◌, ℕ, ◌≤◌, ◌<◌, nat_lt, Bool, true, false, List, [], ◌∷◌, ◌++◌, Option, None, Some, refl, ◌∙◌, ap, arith}
use Rattle.std.specs.Prelude.{◌==◌, ◌&&◌}
use Rattle.std.proofs.lemmas.Bool.Decides.{nat_tests}
use Rattle.statement_tokens.specs.declared.words.Token.{Token}
use Rattle.statement_tokens.specs.declared.words.Word.{Word}
use Rattle.statement_tokens.specs.declared.words.Word.TheVariants as w
use Rattle.statement_grammar.specs.Grammar.{Setting, Shape, wants, gives}
use Rattle.statement_grammar.specs.Machine.{State, same_sort, shapes, moved, run, ◌>>=◌}

pub lt_is : (a b : ℕ) → a < b → nat_lt a b ≡ true
lt_is a b h = grind (arith, nat_tests)

pub lt_not : (a b : ℕ) → b ≤ a → nat_lt a b ≡ false
lt_not a b h = grind (arith, nat_tests)

pub lt_yes : (a b : ℕ) → nat_lt a b ≡ true → a < b
lt_yes a b h = grind (arith, nat_tests)

pub lt_no : (a b : ℕ) → nat_lt a b ≡ false → b ≤ a
lt_no a b h = grind (arith, nat_tests)

pub same_sort_refl : (b : Bool) → same_sort b b ≡ true
same_sort_refl true = refl
same_sort_refl false = refl

pub gives_too : (u : Word) → wants u ≡ true → gives u ≡ true
gives_too w.Or e = refl
gives_too w.And e = refl
gives_too w.Not e = refl
gives_too (w.Compare o) e = refl
gives_too _ e = cc

pub bind_some : {A B : Type 0} (o : Option A) (f : A → Option B) (y : B) → (o >>= f) ≡ Some y → (x : A) × (o ≡ Some x) × (f x ≡ Some y)
bind_some None f y e = cc
bind_some (Some x) f y e = (x, refl, e)

pub both : (a b : Bool) → (a && b) ≡ true → (a ≡ true) × (b ≡ true)
both true b e = (refl, e)
both false b e = cc

pub both_true : (a b : Bool) → a ≡ true → b ≡ true → (a && b) ≡ true
both_true a b e f = rw (e, f) refl

pub run_more : (g : Setting) (s next : State Shape) (ts us : List Token) → run g shapes s ts ≡ Some next → run g shapes s (ts ++ us) ≡ run g shapes next us
run_more g s next [] us e = ap (λ (o : Option (State Shape)). o >>= λ (n : State Shape). run g shapes n us) e
run_more g s next (t ∷ ts) us e =
    let b = bind_some (moved g shapes s t) (λ (n : State Shape). run g shapes n ts) next e in
    ap (λ (o : Option (State Shape)). o >>= λ (n : State Shape). run g shapes n (ts ++ us)) b.1 ∙ run_more g b.0 next ts us b.2

pub equal : (a b : ℕ) → (a == b) ≡ true → a ≡ b
equal a b h = grind (arith, nat_tests)
