-- One part is cut at a time.
use Rattle.std.proofs.Common.{◌≡◌, ◌⊎◌, ◌≤◌, ◌<◌, ◌+◌, ◌-◌, ◌==◌, ℕ, zero, suc, Bool, true, false, List, [], ◌∷◌, length, take, refl, sym, ap, subst, ◌∙◌, arith, inl, inr}
use Rattle.std.proofs.lemmas.Bool.Decides.{nat_tests}
use Rattle.std.specs.Bool.{⊤}
use Rattle.std.specs.Prelude.{◌&&◌, not}
use Rattle.std.specs.Char.{is_ascii_digit}
use Rattle.statement_tokens.specs.Spellings.{is_letter, is_word_byte}
use Rattle.statement_tokens.specs.FirstToken.{behind, front_of, is_space, quoted}
use Rattle.statement_tokens.proofs.CutLemmas.{behind_shorter, front_taken}
use Rattle.file_text.specs.Parts.{Part, is_sign, no_sign, begins_alone, touches, joined, parts_of, row_parts_from, tokens_within, behind_token, behind_quote, front_to}
use Rattle.line_parts.specs.declared.cuttings.Cutting.{Cutting}
use Rattle.line_parts.specs.declared.cuttings.Cutting.TheVariants.{Words, SignedWords, RowFront, RowTokens}
use Rattle.line_parts.specs.Cuts.{parts_from, is_plain, behind_word, behind_part, cutting_behind, NextPart}
use Rattle.line_parts.proofs.QuoteLemmas.{quote_shorter}

abbrev one : ℕ → List ℕ → Part
one place text = record { place = place; text = text }

-- ---- spaces

space_step : (cutting : Cutting) (place byte : ℕ) (bytes : List ℕ) → (byte == 32) ≡ true → parts_from cutting place (byte ∷ bytes) ≡ parts_from cutting (suc place) bytes
space_step Words place byte bytes e = rw e refl
space_step SignedWords place byte bytes e = rw e refl
space_step RowFront place byte bytes e = rw e refl
space_step RowTokens place byte bytes e = rw e refl

at_place : (cutting : Cutting) (bytes : List ℕ) (place other : ℕ) → place ≡ other → parts_from cutting place bytes ≡ parts_from cutting other bytes
at_place cutting bytes place other e = ap (λ (p : ℕ). parts_from cutting p bytes) e

past_spaces : (cutting : Cutting) (place : ℕ) (bytes : List ℕ) → parts_from cutting place bytes ≡ parts_from cutting (place + (length bytes - length (behind is_space bytes))) (behind is_space bytes)
past_spaces cutting place [] = at_place cutting [] place (place + (zero - zero)) (omega arith)
past_spaces cutting place (byte ∷ bytes) = by_test (past_spaces cutting (suc place) bytes) (byte == 32) refl
  where
    by_test : parts_from cutting (suc place) bytes ≡ parts_from cutting (suc place + (length bytes - length (behind is_space bytes))) (behind is_space bytes) → (is : Bool) → (byte == 32) ≡ is
        → parts_from cutting place (byte ∷ bytes) ≡ parts_from cutting (place + (length (byte ∷ bytes) - length (behind is_space (byte ∷ bytes)))) (behind is_space (byte ∷ bytes))
    by_test more true e =
        let l = behind_shorter is_space bytes in
        let p : suc place + (length bytes - length (behind is_space bytes)) ≡ place + (suc (length bytes) - length (behind is_space bytes)) = omega (arith, l) in
        let behind_is : behind is_space (byte ∷ bytes) ≡ behind is_space bytes = rw e refl in
        space_step cutting place byte bytes e ∙ more ∙ at_place cutting (behind is_space bytes) _ _ p
        ∙ ap (λ (xs : List ℕ). parts_from cutting (place + (suc (length bytes) - length xs)) xs) (sym behind_is)
    by_test more false e =
        let behind_is : behind is_space (byte ∷ bytes) ≡ byte ∷ bytes = rw e refl in
        let p : place ≡ place + (suc (length bytes) - suc (length bytes)) = omega arith in
        at_place cutting (byte ∷ bytes) _ _ p ∙ ap (λ (xs : List ℕ). parts_from cutting (place + (suc (length bytes) - length xs)) xs) (sym behind_is)

-- ---- words

-- how a text is cut into words and signs, but for what stands behind a sign
record CutsWords (alone : ℕ → Bool) (P : ℕ → List ℕ → List Part) : Type 0 where
  ends : (place : ℕ) → P place [] ≡ []
  space : (place byte : ℕ) (bytes : List ℕ) → (byte == 32) ≡ true → P place (byte ∷ bytes) ≡ P (suc place) bytes
  sign : (place byte : ℕ) (bytes : List ℕ) → (byte == 32) ≡ false → alone byte ≡ true → (parts : List Part) × (P place (byte ∷ bytes) ≡ one place (byte ∷ []) ∷ parts)
  joins : (place byte : ℕ) (bytes : List ℕ) → (byte == 32) ≡ false → alone byte ≡ false → P place (byte ∷ bytes) ≡ joined alone place byte (P (suc place) bytes)

joined_first : (alone : ℕ → Bool) (place byte : ℕ) (parts : List Part) → (text : List ℕ) × (rest : List Part) × (joined alone place byte parts ≡ one place (byte ∷ text) ∷ rest)
joined_first alone place byte [] = ([], [], refl)
joined_first alone place byte (part ∷ parts) = by_test (touches alone place byte part) refl
  where
    by_test : (is : Bool) → touches alone place byte part ≡ is → (text : List ℕ) × (rest : List Part) × (joined alone place byte (part ∷ parts) ≡ one place (byte ∷ text) ∷ rest)
    by_test true e = (part.text, parts, rw e refl)
    by_test false e = ([], part ∷ parts, rw e refl)

-- the first part is no longer one with a byte at this place before it
abbrev Apart : (ℕ → Bool) → ℕ → List Part → Type 0
Apart alone place [] = ⊤
Apart alone place (part ∷ parts) = ((part.place == suc place) ≡ false) ⊎ (begins_alone alone part.text ≡ true)

never : (a b c : Bool) → c ≡ true → (a && b && not c) ≡ false
never true true c e = rw e refl
never true false c e = refl
never false b c e = refl

at_first : (a b c : Bool) → a ≡ false → (a && b && c) ≡ false
at_first a b c e = rw e refl

apart_joined : (alone : ℕ → Bool) (place byte : ℕ) (parts : List Part) → Apart alone place parts → joined alone place byte parts ≡ one place (byte ∷ []) ∷ parts
apart_joined alone place byte [] apart = refl
apart_joined alone place byte (part ∷ parts) apart = by_test (touches alone place byte part) refl
  where
    no : Apart alone place (part ∷ parts) → touches alone place byte part ≡ false
    no (inl e) = at_first (part.place == suc place) (not (alone byte)) (not (begins_alone alone part.text)) e
    no (inr e) = never (part.place == suc place) (not (alone byte)) (begins_alone alone part.text) e

    by_test : (is : Bool) → touches alone place byte part ≡ is → joined alone place byte (part ∷ parts) ≡ one place (byte ∷ []) ∷ (part ∷ parts)
    by_test true e = let n = no apart in absurd cc
    by_test false e = rw e refl

-- the first part stands at this place or behind it
abbrev FirstFrom : ℕ → List Part → Type 0
FirstFrom place [] = ⊤
FirstFrom place (part ∷ parts) = place ≤ part.place

earlier : (place : ℕ) (parts : List Part) → FirstFrom (suc place) parts → FirstFrom place parts
earlier place [] f = tt
earlier place (part ∷ parts) f = omega (arith, f)

first_from : (alone : ℕ → Bool) (P : ℕ → List ℕ → List Part) → CutsWords alone P → (place : ℕ) (bytes : List ℕ) → FirstFrom place (P place bytes)
first_from alone P cuts place [] = subst (FirstFrom place) (sym (cuts.ends place)) tt
first_from alone P cuts place (byte ∷ bytes) = by_space (first_from alone P cuts (suc place) bytes) (byte == 32) refl
  where
    here : (text : List ℕ) (parts : List Part) → FirstFrom place (one place text ∷ parts)
    here text parts = omega arith

    by_sign : (byte == 32) ≡ false → (is : Bool) → alone byte ≡ is → FirstFrom place (P place (byte ∷ bytes))
    by_sign s true e = let r = cuts.sign place byte bytes s e in subst (FirstFrom place) (sym r.1) (here (byte ∷ []) r.0)
    by_sign s false e = let r = joined_first alone place byte (P (suc place) bytes) in subst (FirstFrom place) (sym (cuts.joins place byte bytes s e ∙ r.2)) (here (byte ∷ r.0) r.1)

    by_space : FirstFrom (suc place) (P (suc place) bytes) → (is : Bool) → (byte == 32) ≡ is → FirstFrom place (P place (byte ∷ bytes))
    by_space more true e = subst (FirstFrom place) (sym (cuts.space place byte bytes e)) (earlier place (P (suc place) bytes) more)
    by_space more false e = by_sign e (alone byte) refl

far_apart : (alone : ℕ → Bool) (place : ℕ) (parts : List Part) → FirstFrom (suc (suc place)) parts → Apart alone place parts
far_apart alone place [] f = tt
far_apart alone place (part ∷ parts) f = inl (grind (arith, nat_tests, f))

next_apart : (alone : ℕ → Bool) (P : ℕ → List ℕ → List Part) → CutsWords alone P → (place byte : ℕ) (bytes : List ℕ) → is_plain alone byte ≡ false → Apart alone place (P (suc place) (byte ∷ bytes))
next_apart alone P cuts place byte bytes plain = by_space (byte == 32) refl
  where
    both : (a b : Bool) → a ≡ false → b ≡ false → (not a && not b) ≡ true
    both a b e f = rw (e, f) refl

    no : (b : Bool) → b ≡ true → b ≡ false → ⊥
    no b e f = cc

    by_sign : (byte == 32) ≡ false → (is : Bool) → alone byte ≡ is → Apart alone place (P (suc place) (byte ∷ bytes))
    by_sign s true e = let r = cuts.sign (suc place) byte bytes s e in subst (Apart alone place) (sym r.1) (inr e)
    by_sign s false e = absurd (no (is_plain alone byte) (both (byte == 32) (alone byte) s e) plain)

    by_space : (is : Bool) → (byte == 32) ≡ is → Apart alone place (P (suc place) (byte ∷ bytes))
    by_space true e = subst (Apart alone place) (sym (cuts.space (suc place) byte bytes e)) (far_apart alone place (P (suc (suc place)) bytes) (first_from alone P cuts (suc (suc place)) bytes))
    by_space false e = by_sign e (alone byte) refl

touching : (alone : ℕ → Bool) (place byte : ℕ) (text : List ℕ) (parts : List Part) → alone byte ≡ false → begins_alone alone text ≡ false → joined alone place byte (one (suc place) text ∷ parts) ≡ one place (byte ∷ text) ∷ parts
touching alone place byte text parts a b = let t : (suc place == suc place) ≡ true = grind (arith, nat_tests) in rw (t, a, b) refl

plain_parts : (a b : Bool) → (not a && not b) ≡ true → (a ≡ false) × (b ≡ false)
plain_parts false false e = (refl, refl)
plain_parts false true e = absurd cc
plain_parts true b e = absurd cc

word_cut : (alone : ℕ → Bool) (P : ℕ → List ℕ → List Part) → CutsWords alone P → (place byte : ℕ) (bytes : List ℕ) → (byte == 32) ≡ false → alone byte ≡ false
    → P place (byte ∷ bytes) ≡ one place (byte ∷ front_of (is_plain alone) bytes) ∷ P (suc place + length (front_of (is_plain alone) bytes)) (behind (is_plain alone) bytes)
word_cut alone P cuts place byte [] s a = cuts.joins place byte [] s a ∙ ap (joined alone place byte) (cuts.ends (suc place)) ∙ ap (λ (ps : List Part). one place (byte ∷ []) ∷ ps) (sym (cuts.ends _))
word_cut alone P cuts place byte (next ∷ bytes) s a = by_plain (λ t b. word_cut alone P cuts (suc place) next bytes t b) (is_plain alone next) refl
  where
    by_plain : ((next == 32) ≡ false → alone next ≡ false → P (suc place) (next ∷ bytes) ≡ one (suc place) (next ∷ front_of (is_plain alone) bytes) ∷ P (suc (suc place) + length (front_of (is_plain alone) bytes)) (behind (is_plain alone) bytes))
        → (is : Bool) → is_plain alone next ≡ is
        → P place (byte ∷ next ∷ bytes) ≡ one place (byte ∷ front_of (is_plain alone) (next ∷ bytes)) ∷ P (suc place + length (front_of (is_plain alone) (next ∷ bytes))) (behind (is_plain alone) (next ∷ bytes))
    by_plain more true e =
        let p = plain_parts (next == 32) (alone next) e in
        let front_is : front_of (is_plain alone) (next ∷ bytes) ≡ next ∷ front_of (is_plain alone) bytes = rw e refl in
        let behind_is : behind (is_plain alone) (next ∷ bytes) ≡ behind (is_plain alone) bytes = rw e refl in
        let n : suc (suc place) + length (front_of (is_plain alone) bytes) ≡ suc place + suc (length (front_of (is_plain alone) bytes)) = omega arith in
        cuts.joins place byte (next ∷ bytes) s a ∙ ap (joined alone place byte) (more p.0 p.1)
        ∙ touching alone place byte (next ∷ front_of (is_plain alone) bytes) _ a p.1
        ∙ ap (λ (q : ℕ). one place (byte ∷ next ∷ front_of (is_plain alone) bytes) ∷ P q (behind (is_plain alone) bytes)) n
        ∙ ap (λ (xs : List ℕ). one place (byte ∷ xs) ∷ P (suc place + length xs) (behind (is_plain alone) bytes)) (sym front_is)
        ∙ ap (λ (xs : List ℕ). one place (byte ∷ front_of (is_plain alone) (next ∷ bytes)) ∷ P (suc place + length (front_of (is_plain alone) (next ∷ bytes))) xs) (sym behind_is)
    by_plain more false e =
        let front_is : front_of (is_plain alone) (next ∷ bytes) ≡ [] = rw e refl in
        let behind_is : behind (is_plain alone) (next ∷ bytes) ≡ next ∷ bytes = rw e refl in
        let n : suc place ≡ suc place + zero = omega arith in
        cuts.joins place byte (next ∷ bytes) s a ∙ apart_joined alone place byte (P (suc place) (next ∷ bytes)) (next_apart alone P cuts place next bytes e)
        ∙ ap (λ (q : ℕ). one place (byte ∷ []) ∷ P q (next ∷ bytes)) n
        ∙ ap (λ (xs : List ℕ). one place (byte ∷ xs) ∷ P (suc place + length xs) (next ∷ bytes)) (sym front_is)
        ∙ ap (λ (xs : List ℕ). one place (byte ∷ front_of (is_plain alone) (next ∷ bytes)) ∷ P (suc place + length (front_of (is_plain alone) (next ∷ bytes))) xs) (sym behind_is)

sign_joined : (alone : ℕ → Bool) (place byte : ℕ) (parts : List Part) → alone byte ≡ true → joined alone place byte parts ≡ one place (byte ∷ []) ∷ parts
sign_joined alone place byte [] e = refl
sign_joined alone place byte (part ∷ parts) e = by_place (part.place == suc place) refl
  where
    by_place : (is : Bool) → (part.place == suc place) ≡ is → joined alone place byte (part ∷ parts) ≡ one place (byte ∷ []) ∷ (part ∷ parts)
    by_place true p = rw (p, e) refl
    by_place false p = rw p refl

words_cut : (alone : ℕ → Bool) → CutsWords alone (parts_of alone)
words_cut alone = record {
  ends = λ place. refl;
  space = λ place byte bytes e. rw e refl;
  sign = λ place byte bytes s e. (parts_of alone (suc place) bytes, (let j : parts_of alone place (byte ∷ bytes) ≡ joined alone place byte (parts_of alone (suc place) bytes) = rw s refl in j ∙ sign_joined alone place byte (parts_of alone (suc place) bytes) e));
  joins = λ place byte bytes s e. rw s refl;
}

row_sign : (place byte : ℕ) (bytes : List ℕ) → (byte == 32) ≡ false → is_sign byte ≡ true → (is : Bool) → (byte == 40) ≡ is → (parts : List Part) × (row_parts_from place (byte ∷ bytes) ≡ one place (byte ∷ []) ∷ parts)
row_sign place byte bytes s e true o = (tokens_within (length bytes) (suc place) bytes, rw (s, o) refl)
row_sign place byte bytes s e false o =
    (row_parts_from (suc place) bytes, (let j : row_parts_from place (byte ∷ bytes) ≡ joined is_sign place byte (row_parts_from (suc place) bytes) = rw (s, o) refl in j ∙ sign_joined is_sign place byte (row_parts_from (suc place) bytes) e))

no_open : (byte : ℕ) → is_sign byte ≡ false → (byte == 40) ≡ false
no_open byte e = by_test (byte == 40) refl
  where
    by_test : (is : Bool) → (byte == 40) ≡ is → (byte == 40) ≡ false
    by_test false o = o
    by_test true o = let t : is_sign byte ≡ true = rw o refl in absurd cc

row_cut : CutsWords is_sign row_parts_from
row_cut = record {
  ends = λ place. refl;
  space = λ place byte bytes e. rw e refl;
  sign = λ place byte bytes s e. row_sign place byte bytes s e (byte == 40) refl;
  joins = λ place byte bytes s e. let o = no_open byte e in rw (s, o) refl;
}

-- ---- a part at the first byte that is no space

part_at : (cutting : Cutting) (place next other : ℕ) (text front rest : List ℕ) (parts : List Part) → parts ≡ one place text ∷ parts_from cutting next rest → text ≡ front → next ≡ other
    → parts ≡ one place front ∷ parts_from cutting other rest
part_at cutting place next other text front rest parts e f n =
    e ∙ ap (λ (xs : List ℕ). one place xs ∷ parts_from cutting next rest) f ∙ ap (λ (q : ℕ). one place front ∷ parts_from cutting q rest) n

word_front : (test : ℕ → Bool) (byte : ℕ) (bytes : List ℕ) → byte ∷ front_of test bytes ≡ front_to (behind test bytes) (byte ∷ bytes)
word_front test byte bytes =
    let l = behind_shorter test bytes in
    let n : suc (length bytes) - length (behind test bytes) ≡ suc (length bytes - length (behind test bytes)) = omega (arith, l) in
    ap (λ (xs : List ℕ). byte ∷ xs) (sym (front_taken test bytes)) ∙ ap (λ (k : ℕ). take k (byte ∷ bytes)) (sym n)

front_length : (test : ℕ → Bool) (bytes : List ℕ) → length (front_of test bytes) ≡ length bytes - length (behind test bytes)
front_length test bytes = sym (ap length (sym (sym (front_taken test bytes)))) ∙ length_taken (length bytes - length (behind test bytes)) bytes (omega arith)
  where
    length_taken : (k : ℕ) (xs : List ℕ) → k ≤ length xs → length (take k xs) ≡ k
    length_taken zero xs l = refl
    length_taken (suc k) [] l = absurd (omega (arith, l))
    length_taken (suc k) (x ∷ xs) l = ap suc (length_taken k xs (omega (arith, l)))

word_next : (place : ℕ) (test : ℕ → Bool) (bytes : List ℕ) → suc place + length (front_of test bytes) ≡ place + (suc (length bytes) - length (behind test bytes))
word_next place test bytes = let e = front_length test bytes in let l = behind_shorter test bytes in omega (arith, e, l)

sign_front : (byte : ℕ) (bytes : List ℕ) → byte ∷ [] ≡ front_to bytes (byte ∷ bytes)
sign_front byte bytes = let n : suc (length bytes) - length bytes ≡ 1 = omega arith in ap (λ (k : ℕ). take k (byte ∷ bytes)) (sym n)

sign_next : (place : ℕ) (bytes : List ℕ) → suc place ≡ place + (suc (length bytes) - length bytes)
sign_next place bytes = omega arith

pub token_shorter : (byte : ℕ) (bytes : List ℕ) → length (behind_token byte bytes) ≤ length bytes
token_shorter byte bytes = by_letter (is_letter byte) refl
  where
    by_quote : is_letter byte ≡ false → is_ascii_digit byte ≡ false → (is : Bool) → (byte == 39) ≡ is → length (behind_token byte bytes) ≤ length bytes
    by_quote l d true e = rw (l, d, e) (quote_shorter bytes)
    by_quote l d false e = rw (l, d, e) (omega arith)

    by_digit : is_letter byte ≡ false → (is : Bool) → is_ascii_digit byte ≡ is → length (behind_token byte bytes) ≤ length bytes
    by_digit l true e = rw (l, e) (behind_shorter is_ascii_digit bytes)
    by_digit l false e = by_quote l e (byte == 39) refl

    by_letter : (is : Bool) → is_letter byte ≡ is → length (behind_token byte bytes) ≤ length bytes
    by_letter true e = rw e (behind_shorter is_word_byte bytes)
    by_letter false e = by_digit e (is_ascii_digit byte) refl

-- steps enough do no more
steps_enough : (steps other place : ℕ) (bytes : List ℕ) → length bytes ≤ steps → length bytes ≤ other → tokens_within steps place bytes ≡ tokens_within other place bytes
steps_enough zero zero place [] a b = refl
steps_enough zero (suc other) place [] a b = refl
steps_enough (suc steps) zero place [] a b = refl
steps_enough (suc steps) (suc other) place [] a b = refl
steps_enough zero other place (byte ∷ bytes) a b = absurd (omega (arith, a))
steps_enough (suc steps) zero place (byte ∷ bytes) a b = absurd (omega (arith, b))
steps_enough (suc steps) (suc other) place (byte ∷ bytes) a b = by_space (byte == 32) refl (steps_enough steps other (suc place) bytes (omega (arith, a)) (omega (arith, b))) (λ next rest l. steps_enough steps other next rest (omega (arith, a, l)) (omega (arith, b, l)))
  where
    by_space : (is : Bool) → (byte == 32) ≡ is → tokens_within steps (suc place) bytes ≡ tokens_within other (suc place) bytes
        → ((next : ℕ) (rest : List ℕ) → length rest ≤ length bytes → tokens_within steps next rest ≡ tokens_within other next rest)
        → tokens_within (suc steps) place (byte ∷ bytes) ≡ tokens_within (suc other) place (byte ∷ bytes)
    by_space true e more later = rw e more
    by_space false e more later =
        rw e (ap (λ (ps : List Part). one place (front_to (behind_token byte bytes) (byte ∷ bytes)) ∷ ps) (later (place + (suc (length bytes) - length (behind_token byte bytes))) (behind_token byte bytes) (token_shorter byte bytes)))

pub word_shorter : (alone : ℕ → Bool) (byte : ℕ) (bytes : List ℕ) → length (behind_word alone byte bytes) ≤ length bytes
word_shorter alone byte bytes = by_sign (alone byte) refl
  where
    by_sign : (is : Bool) → alone byte ≡ is → length (behind_word alone byte bytes) ≤ length bytes
    by_sign true e = rw e (omega arith)
    by_sign false e = rw e (behind_shorter (is_plain alone) bytes)

pub part_shorter : (cutting : Cutting) (byte : ℕ) (bytes : List ℕ) → length (behind_part cutting byte bytes) ≤ length bytes
part_shorter Words byte bytes = word_shorter no_sign byte bytes
part_shorter SignedWords byte bytes = word_shorter is_sign byte bytes
part_shorter RowFront byte bytes = word_shorter is_sign byte bytes
part_shorter RowTokens byte bytes = token_shorter byte bytes

abbrev HasPart : Cutting → ℕ → ℕ → List ℕ → Type 0
HasPart cutting place byte bytes =
    parts_from cutting place (byte ∷ bytes) ≡ one place (front_to (behind_part cutting byte bytes) (byte ∷ bytes))
    ∷ parts_from (cutting_behind cutting byte) (place + (suc (length bytes) - length (behind_part cutting byte bytes))) (behind_part cutting byte bytes)

signed_part : (place byte : ℕ) (bytes : List ℕ) → (byte == 32) ≡ false → (is : Bool) → is_sign byte ≡ is → HasPart SignedWords place byte bytes
signed_part place byte bytes s true e =
    let j : parts_of is_sign place (byte ∷ bytes) ≡ joined is_sign place byte (parts_of is_sign (suc place) bytes) = rw s refl in
    let behind_is : behind_word is_sign byte bytes ≡ bytes = rw e refl in
    part_at SignedWords place (suc place) _ (byte ∷ []) _ bytes _ (j ∙ sign_joined is_sign place byte (parts_of is_sign (suc place) bytes) e) (sign_front byte bytes) (sign_next place bytes)
    ∙ ap (λ (xs : List ℕ). one place (front_to xs (byte ∷ bytes)) ∷ parts_of is_sign (place + (suc (length bytes) - length xs)) xs) (sym behind_is)
signed_part place byte bytes s false e =
    let behind_is : behind_word is_sign byte bytes ≡ behind (is_plain is_sign) bytes = rw e refl in
    part_at SignedWords place _ _ _ _ (behind (is_plain is_sign) bytes) _ (word_cut is_sign (parts_of is_sign) (words_cut is_sign) place byte bytes s e) (word_front (is_plain is_sign) byte bytes) (word_next place (is_plain is_sign) bytes)
    ∙ ap (λ (xs : List ℕ). one place (front_to xs (byte ∷ bytes)) ∷ parts_of is_sign (place + (suc (length bytes) - length xs)) xs) (sym behind_is)

row_part : (place byte : ℕ) (bytes : List ℕ) → (byte == 32) ≡ false → (is open_is : Bool) → is_sign byte ≡ is → (byte == 40) ≡ open_is → HasPart RowFront place byte bytes
row_part place byte bytes s true true e o =
    let j : row_parts_from place (byte ∷ bytes) ≡ one place (byte ∷ []) ∷ tokens_within (length bytes) (suc place) bytes = rw (s, o) refl in
    let behind_is : behind_word is_sign byte bytes ≡ bytes = rw e refl in
    let cutting_is : cutting_behind RowFront byte ≡ RowTokens = rw o refl in
    part_at RowTokens place (suc place) _ (byte ∷ []) _ bytes _ j (sign_front byte bytes) (sign_next place bytes)
    ∙ ap (λ (xs : List ℕ). one place (front_to xs (byte ∷ bytes)) ∷ parts_from RowTokens (place + (suc (length bytes) - length xs)) xs) (sym behind_is)
    ∙ ap (λ (c : Cutting). one place (front_to (behind_word is_sign byte bytes) (byte ∷ bytes)) ∷ parts_from c (place + (suc (length bytes) - length (behind_word is_sign byte bytes))) (behind_word is_sign byte bytes)) (sym cutting_is)
row_part place byte bytes s true false e o =
    let j : row_parts_from place (byte ∷ bytes) ≡ joined is_sign place byte (row_parts_from (suc place) bytes) = rw (s, o) refl in
    let behind_is : behind_word is_sign byte bytes ≡ bytes = rw e refl in
    let cutting_is : cutting_behind RowFront byte ≡ RowFront = rw o refl in
    part_at RowFront place (suc place) _ (byte ∷ []) _ bytes _ (j ∙ sign_joined is_sign place byte (row_parts_from (suc place) bytes) e) (sign_front byte bytes) (sign_next place bytes)
    ∙ ap (λ (xs : List ℕ). one place (front_to xs (byte ∷ bytes)) ∷ row_parts_from (place + (suc (length bytes) - length xs)) xs) (sym behind_is)
    ∙ ap (λ (c : Cutting). one place (front_to (behind_word is_sign byte bytes) (byte ∷ bytes)) ∷ parts_from c (place + (suc (length bytes) - length (behind_word is_sign byte bytes))) (behind_word is_sign byte bytes)) (sym cutting_is)
row_part place byte bytes s false true e o = let n = no_open byte e in absurd cc
row_part place byte bytes s false false e o =
    let behind_is : behind_word is_sign byte bytes ≡ behind (is_plain is_sign) bytes = rw e refl in
    let cutting_is : cutting_behind RowFront byte ≡ RowFront = rw o refl in
    part_at RowFront place _ _ _ _ (behind (is_plain is_sign) bytes) _ (word_cut is_sign row_parts_from row_cut place byte bytes s e) (word_front (is_plain is_sign) byte bytes) (word_next place (is_plain is_sign) bytes)
    ∙ ap (λ (xs : List ℕ). one place (front_to xs (byte ∷ bytes)) ∷ row_parts_from (place + (suc (length bytes) - length xs)) xs) (sym behind_is)
    ∙ ap (λ (c : Cutting). one place (front_to (behind_word is_sign byte bytes) (byte ∷ bytes)) ∷ parts_from c (place + (suc (length bytes) - length (behind_word is_sign byte bytes))) (behind_word is_sign byte bytes)) (sym cutting_is)

has_part : (cutting : Cutting) (place byte : ℕ) (bytes : List ℕ) → (byte == 32) ≡ false → HasPart cutting place byte bytes
has_part Words place byte bytes s =
    part_at Words place _ _ _ _ (behind (is_plain no_sign) bytes) _ (word_cut no_sign (parts_of no_sign) (words_cut no_sign) place byte bytes s refl) (word_front (is_plain no_sign) byte bytes) (word_next place (is_plain no_sign) bytes)
has_part SignedWords place byte bytes s = signed_part place byte bytes s (is_sign byte) refl
has_part RowFront place byte bytes s = row_part place byte bytes s (is_sign byte) (byte == 40) refl refl
has_part RowTokens place byte bytes s =
    let rest = behind_token byte bytes in
    let l = token_shorter byte bytes in
    let j : tokens_within (suc (length bytes)) place (byte ∷ bytes) ≡ one place (front_to (behind_token byte bytes) (byte ∷ bytes)) ∷ tokens_within (length bytes) (place + (suc (length bytes) - length (behind_token byte bytes))) (behind_token byte bytes) = rw s refl in
    j ∙ ap (λ (ps : List Part). one place (front_to (behind_token byte bytes) (byte ∷ bytes)) ∷ ps) (steps_enough (length bytes) (length (behind_token byte bytes)) (place + (suc (length bytes) - length (behind_token byte bytes))) (behind_token byte bytes) l (omega arith))

-- ---- the first part

nothing : (cutting : Cutting) (place : ℕ) → parts_from cutting place [] ≡ []
nothing Words place = refl
nothing SignedWords place = refl
nothing RowFront place = refl
nothing RowTokens place = refl

none_left : (bytes : List ℕ) → length bytes ≡ 0 → bytes ≡ []
none_left [] e = refl
none_left (byte ∷ bytes) e = absurd (omega (arith, e))

pub no_part : (cutting : Cutting) (place : ℕ) (bytes here : List ℕ) → here ≡ behind is_space bytes → length here ≡ 0 → parts_from cutting place bytes ≡ []
no_part cutting place bytes here is e =
    past_spaces cutting place bytes ∙ ap (λ (xs : List ℕ). parts_from cutting (place + (length bytes - length xs)) xs) (sym is ∙ none_left here e) ∙ nothing cutting _

no_space : (bytes : List ℕ) (byte : ℕ) (more : List ℕ) → behind is_space bytes ≡ byte ∷ more → (byte == 32) ≡ false
no_space [] byte more e = absurd cc
no_space (first ∷ bytes) byte more e = by_test (no_space bytes byte more) (first == 32) refl e
  where
    head_is : (a b : ℕ) (xs ys : List ℕ) → a ∷ xs ≡ b ∷ ys → a ≡ b
    head_is a b xs ys e = cc

    by_test : (behind is_space bytes ≡ byte ∷ more → (byte == 32) ≡ false) → (is : Bool) → (first == 32) ≡ is → behind is_space (first ∷ bytes) ≡ byte ∷ more → (byte == 32) ≡ false
    by_test later true t e = later (let b : behind is_space (first ∷ bytes) ≡ behind is_space bytes = rw t refl in sym b ∙ e)
    by_test later false t e = let b : behind is_space (first ∷ bytes) ≡ first ∷ bytes = rw t refl in subst (λ (x : ℕ). (x == 32) ≡ false) (head_is first byte bytes more (sym b ∙ e)) t

pub one_part : (cutting : Cutting) (place : ℕ) (bytes more : List ℕ) (byte : ℕ) → behind is_space bytes ≡ byte ∷ more
    → NextPart cutting place bytes (place + (length bytes - suc (length more))) (front_to (behind_part cutting byte more) (byte ∷ more))
    (place + (length bytes - suc (length more) + (suc (length more) - length (behind_part cutting byte more)))) (behind_part cutting byte more) (cutting_behind cutting byte)
one_part cutting place bytes more byte e =
    let s = no_space bytes byte more e in
    let l = behind_shorter is_space bytes in
    let m : suc (length more) ≤ length bytes = subst (λ (xs : List ℕ). length xs ≤ length bytes) e l in
    let k = part_shorter cutting byte more in
    let at : ℕ = place + (length bytes - suc (length more)) in
    let n : place + (length bytes - suc (length more)) + (suc (length more) - length (behind_part cutting byte more)) ≡ place + (length bytes - suc (length more) + (suc (length more) - length (behind_part cutting byte more))) = omega arith in
    record {
      parts = past_spaces cutting place bytes ∙ ap (λ (xs : List ℕ). parts_from cutting (place + (length bytes - length xs)) xs) e ∙ has_part cutting (place + (length bytes - suc (length more))) byte more s
          ∙ ap (λ (q : ℕ). one (place + (length bytes - suc (length more))) (front_to (behind_part cutting byte more) (byte ∷ more)) ∷ parts_from (cutting_behind cutting byte) q (behind_part cutting byte more)) n;
      shorter = omega (arith, m, k);
      places = omega (arith, m, k);
    }
