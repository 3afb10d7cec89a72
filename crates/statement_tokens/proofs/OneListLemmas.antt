-- A text has one list of tokens.
use Rattle.std.proofs.Common.{◌≡◌, ℕ, ◌+◌, Bool, true, false, List, [], ◌∷◌, ◌++◌, None, Some, refl, sym, ◌∙◌, ap, subst, length, arith, length-append}
use Rattle.std.specs.Prelude.{◌==◌}
use Rattle.std.proofs.lemmas.Bool.Decides.{nat_tests}
use Rattle.statement_tokens.specs.declared.words.Token.{Token}
use Rattle.statement_tokens.specs.declared.words.Word.{Word}
use Rattle.statement_tokens.specs.declared.text_ends.TextEnd.{TextEnd}
use Rattle.statement_tokens.specs.declared.text_ends.TextEnd.TheVariants.{Whole, NoToken as StopsBefore}
use Rattle.statement_tokens.specs.FirstToken.{first_token}
use Rattle.statement_tokens.specs.Tokens.{TokenAt, BeginsBare, AreSpaces, EndsAt, EndsSo, AreTokens, is_behind_sign}
use Rattle.statement_tokens.proofs.ReservedLemmas.{some_is}
use Rattle.statement_tokens.proofs.FirstLemmas.{complete}

pub none_some : {A : Type 0} (x : A) → None ≡ Some x → ⊥
none_some x e = cc

-- ---- spaces before a token

same_number : (byte n : ℕ) → (byte == n) ≡ true → byte ≡ n
same_number byte n e = grind (arith, nat_tests)

space_is : (byte : ℕ) → byte ≡ 32 → (byte == 32) ≡ false → ⊥
space_is byte e f = grind (arith, nat_tests)

token_bare : (behind_sign : Bool) (word : Word) (bytes rest : List ℕ) → first_token behind_sign bytes ≡ Some (word, rest) → BeginsBare bytes
token_bare behind_sign word [] rest e = none_some (word, rest) e
token_bare behind_sign word (byte ∷ bytes) rest e = by_test (byte == 32) refl
  where
    by_test : (b : Bool) → (byte == 32) ≡ b → (byte == 32) ≡ false
    by_test false t = t
    by_test true t = absurd (none_some (word, rest) (subst (λ (n : ℕ). first_token behind_sign (n ∷ bytes) ≡ Some (word, rest)) (same_number byte 32 t) e))

bare_split : (a b xs ys : List ℕ) → AreSpaces a → AreSpaces b → BeginsBare xs → BeginsBare ys → a ++ xs ≡ b ++ ys → (a ≡ b) × (xs ≡ ys)
bare_split [] [] xs ys s t p q e = (refl, e)
bare_split [] (y ∷ b) xs ys s t p q e = absurd (space_is y t.0 (subst BeginsBare e p))
bare_split (x ∷ a) [] xs ys s t p q e = absurd (space_is x s.0 (subst BeginsBare (sym e) q))
bare_split (x ∷ a) (y ∷ b) xs ys s t p q e =
    let h : x ≡ y = cc in
    let i = bare_split a b xs ys s.1 t.1 p q cc in
    (ap (λ (l : List ℕ). x ∷ l) i.0 ∙ ap (λ (n : ℕ). n ∷ b) h, i.1)

no_bare : (a b ys : List ℕ) → AreSpaces a → BeginsBare ys → a ++ [] ≡ b ++ ys → ⊥
no_bare [] [] ys s q e = subst BeginsBare (sym e) q
no_bare [] (y ∷ b) ys s q e = cc
no_bare (x ∷ a) [] ys s q e = space_is x s.0 (subst BeginsBare (sym e) q)
no_bare (x ∷ a) (y ∷ b) ys s q e = no_bare a b ys s.1 q cc

-- ---- the list of tokens

same_ends : (before : List Word) (place : ℕ) (bytes : List ℕ) (end stop : TextEnd) → EndsAt before place bytes end → EndsAt before place bytes stop → end ≡ stop
same_ends before place bytes end stop a b = by_ends end stop a.ends b.ends
  where
    joined : a.blanks ++ a.rest ≡ b.blanks ++ b.rest
    joined = sym a.are ∙ b.are

    by_ends : (end stop : TextEnd) → EndsSo before place a.blanks a.rest end → EndsSo before place b.blanks b.rest stop → end ≡ stop
    by_ends (Whole p) (Whole q) x y = ap Whole (x.1 ∙ sym y.1)
    by_ends (Whole p) (StopsBefore q) x y = absurd (no_bare a.blanks b.blanks b.rest a.spaces y.0 (ap (λ (l : List ℕ). a.blanks ++ l) (sym x.0) ∙ joined))
    by_ends (StopsBefore p) (Whole q) x y = absurd (no_bare b.blanks a.blanks a.rest b.spaces x.0 (ap (λ (l : List ℕ). b.blanks ++ l) (sym y.0) ∙ sym joined))
    by_ends (StopsBefore p) (StopsBefore q) x y =
        let s = bare_split a.blanks b.blanks a.rest b.rest a.spaces b.spaces x.0 y.0 joined in
        ap StopsBefore (x.2 ∙ ap (λ (l : List ℕ). place + length l) s.0 ∙ sym y.2)

-- a text doesn't end where a token stands
no_end : (before : List Word) (place : ℕ) (bytes : List ℕ) (end : TextEnd) (word : Word) (blanks text rest : List ℕ) → EndsAt before place bytes end → bytes ≡ blanks ++ (text ++ rest) → AreSpaces blanks → TokenAt (is_behind_sign before) word text rest → ⊥
no_end before place bytes end word blanks text rest a e s t = by_end end a.ends
  where
    bare : BeginsBare (text ++ rest)
    bare = token_bare (is_behind_sign before) word (text ++ rest) rest (complete (is_behind_sign before) word text rest t)

    joined : a.blanks ++ a.rest ≡ blanks ++ (text ++ rest)
    joined = sym a.are ∙ e

    by_end : (end : TextEnd) → EndsSo before place a.blanks a.rest end → ⊥
    by_end (Whole p) x = no_bare a.blanks blanks (text ++ rest) a.spaces bare (ap (λ (l : List ℕ). a.blanks ++ l) (sym x.0) ∙ joined)
    by_end (StopsBefore p) x = x.1 word text rest ((bare_split a.blanks blanks a.rest (text ++ rest) a.spaces s x.0 bare joined).1) t

pub same_tokens : (before : List Word) (place : ℕ) (bytes : List ℕ) (ts us : List Token) (end stop : TextEnd) → AreTokens before place bytes ts end → AreTokens before place bytes us stop → (ts ≡ us) × (end ≡ stop)
same_tokens before place bytes [] [] end stop a b = (refl, same_ends before place bytes end stop a b)
same_tokens before place bytes [] (u ∷ us) end stop a b = absurd (no_end before place bytes end u.word b.0 b.1 b.2 a b.3 b.4 b.6)
same_tokens before place bytes (t ∷ ts) [] end stop a b = absurd (no_end before place bytes stop t.word a.0 a.1 a.2 b a.3 a.4 a.6)
same_tokens before place bytes (t ∷ ts) (u ∷ us) end stop a b =
    let behind = is_behind_sign before in
    let x = complete (is_behind_sign before) t.word a.1 a.2 a.6 in
    let y = complete (is_behind_sign before) u.word b.1 b.2 b.6 in
    let s = bare_split a.0 b.0 (a.1 ++ a.2) (b.1 ++ b.2) a.4 b.4 (token_bare (is_behind_sign before) t.word (a.1 ++ a.2) a.2 x) (token_bare (is_behind_sign before) u.word (b.1 ++ b.2) b.2 y) (sym a.3 ∙ b.3) in
    let both : (t.word, a.2) ≡ (u.word, b.2) = some_is (t.word, a.2) (u.word, b.2) (sym x ∙ ap (first_token (is_behind_sign before)) s.1 ∙ y) in
    let word : t.word ≡ u.word = ap (λ (p : Word × List ℕ). p.0) both in
    let rest : a.2 ≡ b.2 = ap (λ (p : Word × List ℕ). p.1) both in
    let at : t.place ≡ u.place = a.5 ∙ ap (λ (l : List ℕ). place + length l) s.0 ∙ sym b.5 in
    let long : length a.1 ≡ length b.1 = same_length a.1 a.2 b.1 b.2 s.1 rest in
    let i = same_tokens (t.word ∷ before) (t.place + length a.1) a.2 ts us end stop a.7
    (subst (λ (w : Word). AreTokens (w ∷ before) (t.place + length a.1) a.2 us stop) (sym word)
    (subst (λ (l : List ℕ). AreTokens (u.word ∷ before) (t.place + length a.1) l us stop) (sym rest)
    (subst (λ (n : ℕ). AreTokens (u.word ∷ before) n b.2 us stop) (ap (λ (n : ℕ). n + length b.1) (sym at) ∙ ap (λ (n : ℕ). t.place + n) (sym long)) b.7))) in
    (ap (λ (l : List Token). t ∷ l) i.0 ∙ ap (λ (w : Word). record { word = w; place = t.place } ∷ us) word ∙ ap (λ (n : ℕ). record { word = u.word; place = n } ∷ us) at, i.1)
  where
    same_length : (a b c d : List ℕ) → a ++ b ≡ c ++ d → b ≡ d → length a ≡ length c
    same_length a b c d e f = omega (arith, length-append a b, length-append c d, ap length e, ap length f)
