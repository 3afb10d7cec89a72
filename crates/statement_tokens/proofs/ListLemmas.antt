-- A text's tokens, read one by one.
use Rattle.std.proofs.Common.{◌≡◌, ℕ, ◌+◌, ◌-◌, ◌≤◌, ◌<◌, ◌==◌, Bool, true, false, List, [], ◌∷◌, ◌++◌, Option, None, Some, refl, sym, ◌∙◌, ap, subst, length, arith, append_assoc, append-nil, length-append}
use Rattle.std.specs.Prelude.{◌≢◌, ◌&&◌, not, MatchOption, if◌then◌else◌}
use Rattle.std.proofs.lemmas.Bool.Decides.{nat_tests}
use Rattle.statement_tokens.specs.Tokens.{BeginsBare, TokenAt, IsCut, NoToken, is_behind_sign, is_behind_operand, is_minus, is_operand_end, AreSpaces, AreTokens, AreTokensOf}
use Rattle.statement_tokens.specs.FirstToken.{front_of, behind, is_space}
use Rattle.statement_tokens.specs.declared.words.Token.{Token}
use Rattle.statement_tokens.specs.declared.words.Word.{Word}
use Rattle.statement_tokens.specs.declared.text_ends.TextEnd.{TextEnd}
use Rattle.statement_tokens.specs.declared.text_ends.TextEnd.TheVariants.{Whole, NoToken as StopsBefore}
use Rattle.statement_tokens.proofs.CutLemmas.{front_and_behind}
use Rattle.statement_tokens.proofs.FirstLemmas.{cut_shorter}

-- these tokens are read, and what more is read from here goes behind them
pub record SoFar (text : List ℕ) (tokens : List Token) (rest : List ℕ) (behind_sign behind_operand : Bool) : Type 0 where
  pub before : List Word
  pub sign : is_behind_sign before ≡ behind_sign
  pub operand : is_behind_operand before ≡ behind_operand
  pub within : length rest ≤ length text
  pub goes : (more : List Token) (end : TextEnd) → AreTokens before (length text - length rest + 1) rest more end → AreTokens [] 1 text (tokens ++ more) end

pub begins : (text : List ℕ) → SoFar text [] text false false
begins text = record {
  before = [];
  sign = refl;
  operand = refl;
  within = omega arith;
  goes = λ more end are. let first : length text - length text + 1 ≡ 1 = omega arith in subst (λ (n : ℕ). AreTokens [] n text more end) first are;
}

spaces_of : (bytes : List ℕ) → AreSpaces (front_of is_space bytes)
spaces_of [] = tt
spaces_of (byte ∷ bytes) = by_space (spaces_of bytes) (byte == 32) refl
  where
    by_space : AreSpaces (front_of is_space bytes) → (is : Bool) → (byte == 32) ≡ is → AreSpaces (front_of is_space (byte ∷ bytes))
    by_space more true is = let same : byte ≡ 32 = grind (arith, nat_tests, is) in rw is (same, more)
    by_space more false is = rw is tt

blanks_and : (rest here : List ℕ) → here ≡ behind is_space rest → rest ≡ front_of is_space rest ++ here
blanks_and rest here e = sym (front_and_behind is_space rest) ∙ ap (λ (xs : List ℕ). front_of is_space rest ++ xs) (sym e)

blanks_length : (rest here : List ℕ) → here ≡ behind is_space rest → length rest ≡ length (front_of is_space rest) + length here
blanks_length rest here e = ap (λ (xs : List ℕ). length xs) (blanks_and rest here e) ∙ length-append (front_of is_space rest) here

pub here_within : (text rest here : List ℕ) → length rest ≤ length text → here ≡ behind is_space rest → length here ≤ length text
here_within text rest here within e = omega (arith, blanks_length rest here e)

sign_next : (word : Word) (before : List Word) (sign operand : Bool) → is_behind_operand before ≡ operand → sign ≡ (is_minus word && not operand) → is_behind_sign (word ∷ before) ≡ sign
sign_next word before sign operand e is = ap (λ (b : Bool). is_minus word && not b) e ∙ sym is

-- one token more
pub goes_on : (text rest here more : List ℕ) (tokens next : List Token) (t : Token) (behind_sign behind_operand sign operand : Bool) → SoFar text tokens rest behind_sign behind_operand
    → here ≡ behind is_space rest → t.place ≡ length text - length here + 1 → IsCut behind_sign t.word here more
    → sign ≡ (is_minus t.word && not behind_operand) → operand ≡ is_operand_end t.word → next ≡ tokens ++ t ∷ [] → SoFar text next more sign operand
goes_on text rest here more tokens next t behind_sign behind_operand sign operand so e place cut is_sign is_operand grown =
    let blanks = front_of is_space rest in
    let total : length rest ≡ length (front_of is_space rest) + length here = blanks_length rest here e in
    let cut_length : length here ≡ length cut.text + length more = ap (λ (xs : List ℕ). length xs) cut.are ∙ length-append cut.text more in
    let first : t.place ≡ length text - length rest + 1 + length (front_of is_space rest) = omega (arith, place, total, so.within) in
    let last : length text - length more + 1 ≡ t.place + length cut.text = omega (arith, place, total, cut_length, so.within) in
    let all : rest ≡ front_of is_space rest ++ (cut.text ++ more) = blanks_and rest here e ∙ ap (λ (xs : List ℕ). front_of is_space rest ++ xs) cut.are in
    record {
      before = t.word ∷ so.before;
      sign = sign_next t.word so.before sign behind_operand so.operand is_sign;
      operand = sym is_operand;
      within = omega (arith, total, cut_length, so.within);
      goes = λ later end are.
          subst (λ (ts : List Token). AreTokens [] 1 text (ts ++ later) end) (sym grown)
          (subst (λ (ts : List Token). AreTokens [] 1 text ts end) (sym (append_assoc tokens (t ∷ []) later))
          (so.goes (t ∷ later) end (
            front_of is_space rest,
            cut.text,
            more,
            all,
            spaces_of rest,
            first,
            subst (λ (b : Bool). TokenAt b t.word cut.text more) (sym so.sign) cut.token,
            subst (λ (n : ℕ). AreTokens (t.word ∷ so.before) n more later end) last are,
          )));
    }

-- nothing but spaces is left
pub ends_whole : (text rest here : List ℕ) (tokens : List Token) (behind_sign behind_operand : Bool) (past : ℕ) → SoFar text tokens rest behind_sign behind_operand
    → here ≡ behind is_space rest → here ≡ [] → past ≡ length text - length rest + 1 → AreTokensOf text tokens (Whole past)
ends_whole text rest here tokens behind_sign behind_operand past so e none place =
    subst (λ (ts : List Token). AreTokens [] 1 text ts (Whole past)) (append-nil tokens)
    (so.goes [] (Whole past) (record { blanks = front_of is_space rest; rest = here; are = blanks_and rest here e; spaces = spaces_of rest; ends = (none, place) }))

-- no space stands behind all spaces
bare_behind : (bytes here : List ℕ) → here ≡ behind is_space bytes → here ≢ [] → BeginsBare here
bare_behind [] here e some = absurd (some e)
bare_behind (byte ∷ bytes) here e some = by_test (byte == 32) refl e (λ f. bare_behind bytes here f some)
  where
    by_test : (b : Bool) → (byte == 32) ≡ b → here ≡ (if b then behind is_space bytes else byte ∷ bytes) → (here ≡ behind is_space bytes → BeginsBare here) → BeginsBare here
    by_test true t e later = later e
    by_test false t e later = subst BeginsBare (sym e) t

-- what is left begins with no token
pub ends_before : (text rest here : List ℕ) (tokens : List Token) (behind_sign behind_operand : Bool) (past : ℕ) → SoFar text tokens rest behind_sign behind_operand
    → here ≡ behind is_space rest → here ≢ [] → NoToken behind_sign here → past ≡ length text - length here + 1 → AreTokensOf text tokens (StopsBefore past)
ends_before text rest here tokens behind_sign behind_operand past so e some none place =
    let total : length rest ≡ length (front_of is_space rest) + length here = blanks_length rest here e in
    let first : past ≡ length text - length rest + 1 + length (front_of is_space rest) = omega (arith, place, total, so.within) in
    subst (λ (ts : List Token). AreTokens [] 1 text ts (StopsBefore past)) (append-nil tokens)
    (so.goes [] (StopsBefore past) (record {
      blanks = front_of is_space rest;
      rest = here;
      are = blanks_and rest here e;
      spaces = spaces_of rest;
      ends = (bare_behind rest here e some, subst (λ (b : Bool). NoToken b here) (sym so.sign) none, first);
    }))

pub nothing : (bytes : List ℕ) → true ≡ (length bytes == 0) → bytes ≡ []
nothing [] e = refl
nothing (byte ∷ bytes) e = grind (arith, nat_tests, e)

pub something : (bytes : List ℕ) → false ≡ (length bytes == 0) → bytes ≢ []
something bytes e none = subst IsFalseAt (e ∙ ap (λ (xs : List ℕ). length xs == 0) none) tt
  where
    IsFalseAt : Bool → Type 0
    IsFalseAt true = ⊥
    IsFalseAt false = Unit {0}

pub smaller : (rest here more : List ℕ) (behind_sign : Bool) (word : Word) → here ≡ behind is_space rest → IsCut behind_sign word here more → length more < length rest
smaller rest here more behind_sign word e cut = omega (arith, blanks_length rest here e, cut_shorter behind_sign word here more cut)

pub none_of : {A : Type 0} (P : Type 0) (Q : A → Type 0) (found : Option A) → found ≡ None → MatchOption found P Q → P
none_of {A = A} P Q found e h = subst (λ (o : Option A). MatchOption o P Q) e h

pub some_of : {A : Type 0} (P : Type 0) (Q : A → Type 0) (found : Option A) (x : A) → found ≡ Some x → MatchOption found P Q → Q x
some_of {A = A} P Q found x e h = subst (λ (o : Option A). MatchOption o P Q) e h
