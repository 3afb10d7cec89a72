-- The first token that is found is the token of the text, and there is none where none is found.
use Rattle.std.proofs.Common.{◌≡◌, ℕ, ◌+◌, ◌≤◌, ◌==◌, Bool, true, false, List, [], ◌∷◌, ◌++◌, Option, None, Some, refl, sym, ◌∙◌, ap, subst, length, arith, append_assoc, length-append, ◌<◌, inl, inr}
use Rattle.std.proofs.lemmas.Bool.Decides.{nat_tests}
use Rattle.std.specs.Prelude.{◌≢◌, ⊤, ◌||◌, codes, nat_le, if◌then◌else◌}
use Rattle.std.specs.List.{AllByRecursion}
use Rattle.std.specs.Char.{is_ascii_digit}
use Rattle.std.specs.Option.{option_or}
use Rattle.ptc_statement.specs.declared.expressions.Op.TheVariants as op
use Rattle.statement_tokens.specs.Spellings.{is_letter, is_word_byte, is_text_byte, IsWordForm, IsNameText, IsNumberText, IsQuoted, IsTokenText, spelling, IsSpelled, doubled, number_from, goes_on, StopsAtEnd}
use Rattle.statement_tokens.specs.Tokens.{TokenAt, IsCut, NoToken, InBits, most_number}
use Rattle.statement_tokens.specs.FirstToken.{first_token, front_of, behind, reserved_word, name_within, word_of, with_rest, number_within, onto, quoted, text_of, less_sign, greater_sign, unequal_sign, single_sign, sign_at, word_at, number_at}
use Rattle.statement_tokens.specs.declared.words.Math.TheVariants.{Plus, Minus, Times}
use Rattle.statement_tokens.specs.declared.words.Word.{Word}
use Rattle.statement_tokens.specs.declared.words.Word.TheVariants as w
use Rattle.statement_tokens.proofs.CutLemmas.{front_and_behind, quoted_byte}
use Rattle.statement_tokens.proofs.ReservedLemmas.{some_is, reserved_complete, reserved_sound, reserved_form}

-- ---- the longest front

abbrev Stops : (ℕ → Bool) → List ℕ → Type 0
Stops test [] = ⊤
Stops test (byte ∷ bytes) = test byte ≡ false

front_whole : (test : ℕ → Bool) (text rest : List ℕ) → AllByRecursion (λ (byte : ℕ). test byte ≡ true) text → Stops test rest → front_of test (text ++ rest) ≡ text
front_whole test [] [] all stops = refl
front_whole test [] (byte ∷ bytes) all stops = rw stops refl
front_whole test (byte ∷ bytes) rest all stops = rw all.0 (ap (λ (xs : List ℕ). byte ∷ xs) (front_whole test bytes rest all.1 stops))

behind_whole : (test : ℕ → Bool) (text rest : List ℕ) → AllByRecursion (λ (byte : ℕ). test byte ≡ true) text → Stops test rest → behind test (text ++ rest) ≡ rest
behind_whole test [] [] all stops = refl
behind_whole test [] (byte ∷ bytes) all stops = rw stops refl
behind_whole test (byte ∷ bytes) rest all stops = rw all.0 (behind_whole test bytes rest all.1 stops)

front_passes : (test : ℕ → Bool) (bytes : List ℕ) → AllByRecursion (λ (byte : ℕ). test byte ≡ true) (front_of test bytes)
front_passes test [] = tt
front_passes test (byte ∷ bytes) = by_test (front_passes test bytes) (test byte) refl
  where
    by_test : AllByRecursion (λ (b : ℕ). test b ≡ true) (front_of test bytes) → (passes : Bool) → test byte ≡ passes → AllByRecursion (λ (b : ℕ). test b ≡ true) (front_of test (byte ∷ bytes))
    by_test more true e = rw e (e, more)
    by_test more false e = rw e tt

behind_stops : (test : ℕ → Bool) (bytes : List ℕ) → Stops test (behind test bytes)
behind_stops test [] = tt
behind_stops test (byte ∷ bytes) = by_test (behind_stops test bytes) (test byte) refl
  where
    by_test : Stops test (behind test bytes) → (passes : Bool) → test byte ≡ passes → Stops test (behind test (byte ∷ bytes))
    by_test more true e = rw e more
    by_test more false e = rw e e

-- ---- what is spelled is found

letter_is_word_byte : (byte : ℕ) → is_letter byte ≡ true → is_word_byte byte ≡ true
letter_is_word_byte byte e = grind (arith, nat_tests)

digit_is_no_letter : (byte : ℕ) → is_ascii_digit byte ≡ true → is_letter byte ≡ false
digit_is_no_letter byte e = grind (arith, nat_tests)

word_complete : (behind_sign : Bool) (text rest : List ℕ) → IsWordForm text → Stops is_word_byte rest → first_token behind_sign (text ++ rest) ≡ with_rest rest (word_of text)
word_complete behind_sign [] rest form stops = let e : false ≡ true = form.begins in cc
word_complete behind_sign (byte ∷ bytes) rest form stops =
    let at : first_token behind_sign (byte ∷ (bytes ++ rest)) ≡ word_at (byte ∷ (bytes ++ rest)) = rw form.begins refl in
    at ∙ ap (λ (xs : List ℕ). with_rest xs (word_of (front_of is_word_byte (byte ∷ (bytes ++ rest))))) (behind_whole is_word_byte (byte ∷ bytes) rest form.bytes stops)
    ∙ ap (λ (xs : List ℕ). with_rest rest (word_of xs)) (front_whole is_word_byte (byte ∷ bytes) rest form.bytes stops)

reserved_found : (behind_sign : Bool) (word : Word) (text rest : List ℕ) → IsSpelled (spelling word) text → Stops is_word_byte rest → first_token behind_sign (text ++ rest) ≡ Some (word, rest)
reserved_found behind_sign word text rest is stops =
    word_complete behind_sign text rest (reserved_form word text is) stops
    ∙ ap (λ (o : Option Word). with_rest rest (option_or o (name_within text))) (reserved_complete word text is)

none_reserved : (text : List ℕ) → ((word : Word) → IsSpelled (spelling word) text → ⊥) → reserved_word text ≡ None
none_reserved text other = by_word (reserved_word text) refl
  where
    by_word : (found : Option Word) → reserved_word text ≡ found → found ≡ None
    by_word None e = refl
    by_word (Some word) e = elim (other word (reserved_sound word text e)) [ ]

name_found : (behind_sign : Bool) (name text rest : List ℕ) → IsNameText name text → Stops is_word_byte rest → first_token behind_sign (text ++ rest) ≡ Some (w.Name name, rest)
name_found behind_sign name text rest is stops =
    let within : nat_le (length text) 32 ≡ true = grind (arith, nat_tests, is.short) in
    let named : name_within text ≡ Some (w.Name text) = rw within refl in
    word_complete behind_sign text rest is.form stops
    ∙ ap (λ (o : Option Word). with_rest rest (option_or o (name_within text))) (none_reserved text is.other)
    ∙ ap (λ (o : Option Word). with_rest rest o) named
    ∙ ap (λ (xs : List ℕ). Some (w.Name xs, rest)) is.is

number_found : (behind_sign : Bool) (n : ℕ) (text rest : List ℕ) → IsNumberText n text → Stops is_ascii_digit rest → n ≤ most_number behind_sign → first_token behind_sign (text ++ rest) ≡ Some (w.Number n, rest)
number_found behind_sign n [] rest is stops within = elim (is.some refl) [ ]
number_found behind_sign n (byte ∷ bytes) rest is stops within =
    let fits : nat_le n (most_number behind_sign) ≡ true = grind (arith, nat_tests, within) in
    let at : first_token behind_sign (byte ∷ (bytes ++ rest)) ≡ number_at behind_sign (byte ∷ (bytes ++ rest)) = rw (digit_is_no_letter byte is.digits.0, is.digits.0) refl in
    let numbered : number_within behind_sign n ≡ Some (w.Number n) = rw fits refl in
    at ∙ ap (λ (xs : List ℕ). with_rest xs (number_within behind_sign (number_from 0 (front_of is_ascii_digit (byte ∷ (bytes ++ rest)))))) (behind_whole is_ascii_digit (byte ∷ bytes) rest is.digits stops)
    ∙ ap (λ (xs : List ℕ). with_rest rest (number_within behind_sign (number_from 0 xs))) (front_whole is_ascii_digit (byte ∷ bytes) rest is.digits stops)
    ∙ ap (λ (m : ℕ). with_rest rest (number_within behind_sign m)) (sym is.value)
    ∙ ap (λ (o : Option Word). with_rest rest o) numbered

abbrev StartsNoQuote : List ℕ → Type 0
StartsNoQuote rest = Stops (λ (byte : ℕ). byte == 39) rest

quote_closes : (rest : List ℕ) → StartsNoQuote rest → quoted (39 ∷ rest) ≡ Some ([], rest)
quote_closes [] stops = refl
quote_closes (byte ∷ bytes) stops = rw stops refl

quoted_whole : (content rest : List ℕ) → AllByRecursion (λ (byte : ℕ). is_text_byte byte ≡ true) content → StartsNoQuote rest → quoted (doubled content ++ (39 ∷ rest)) ≡ Some (content, rest)
quoted_whole [] rest all stops = quote_closes rest stops
quoted_whole (byte ∷ bytes) rest all stops = by_quote (quoted_whole bytes rest all.1 stops) (byte == 39) refl
  where
    by_quote : quoted (doubled bytes ++ (39 ∷ rest)) ≡ Some (bytes, rest) → (quote : Bool) → (byte == 39) ≡ quote → quoted (doubled (byte ∷ bytes) ++ (39 ∷ rest)) ≡ Some (byte ∷ bytes, rest)
    by_quote more true e =
        let is : byte ≡ 39 = grind (arith, nat_tests, e) in
        subst (λ (b : ℕ). quoted (doubled (b ∷ bytes) ++ (39 ∷ rest)) ≡ Some (b ∷ bytes, rest)) (sym is) (ap (λ (o : Option (List ℕ × List ℕ)). onto 39 o) more)
    by_quote more false e =
        let same : doubled (byte ∷ bytes) ≡ byte ∷ doubled bytes = rw e refl in
        ap (λ (xs : List ℕ). quoted (xs ++ (39 ∷ rest))) same ∙ quoted_byte byte (doubled bytes ++ (39 ∷ rest)) e all.0 ∙ ap (λ (o : Option (List ℕ × List ℕ)). onto byte o) more

text_found : (behind_sign : Bool) (content text rest : List ℕ) → IsQuoted content text → StartsNoQuote rest → first_token behind_sign (text ++ rest) ≡ Some (w.Text content, rest)
text_found behind_sign content text rest is stops =
    ap (λ (xs : List ℕ). first_token behind_sign (xs ++ rest)) is.is
    ∙ ap (λ (xs : List ℕ). text_of (quoted xs)) (append_assoc (doubled content) (39 ∷ []) rest)
    ∙ ap (λ (o : Option (List ℕ × List ℕ)). text_of o) (quoted_whole content rest is.bytes stops)

stops_word : (word : Word) (rest : List ℕ) → ((byte : ℕ) → goes_on word byte ≡ is_word_byte byte) → StopsAtEnd word rest → Stops is_word_byte rest
stops_word word [] same stops = tt
stops_word word (byte ∷ bytes) same stops = sym (same byte) ∙ stops

stops_number : (n : ℕ) (rest : List ℕ) → StopsAtEnd (w.Number n) rest → Stops is_ascii_digit rest
stops_number n [] stops = tt
stops_number n (byte ∷ bytes) stops = stops

stops_text : (content rest : List ℕ) → StopsAtEnd (w.Text content) rest → StartsNoQuote rest
stops_text content [] stops = tt
stops_text content (byte ∷ bytes) stops = stops

spelled_as : (behind_sign : Bool) (word : Word) (text letters rest : List ℕ) → text ≡ letters → first_token behind_sign (letters ++ rest) ≡ Some (word, rest) → first_token behind_sign (text ++ rest) ≡ Some (word, rest)
spelled_as behind_sign word text letters rest e found = ap (λ (xs : List ℕ). first_token behind_sign (xs ++ rest)) e ∙ found

or_left : (a b : Bool) → (a || b) ≡ false → a ≡ false
or_left true b e = cc
or_left false b e = refl

or_right : (a b : Bool) → (a || b) ≡ false → b ≡ false
or_right true b e = cc
or_right false b e = e

less_alone : (behind_sign : Bool) (rest : List ℕ) → StopsAtEnd (w.Compare op.Lt) rest → first_token behind_sign (60 ∷ rest) ≡ Some (w.Compare op.Lt, rest)
less_alone behind_sign [] stops = refl
less_alone behind_sign (byte ∷ bytes) stops = rw (or_left (byte == 61) (byte == 62) stops, or_right (byte == 61) (byte == 62) stops) refl

greater_alone : (behind_sign : Bool) (rest : List ℕ) → StopsAtEnd (w.Compare op.Gt) rest → first_token behind_sign (62 ∷ rest) ≡ Some (w.Compare op.Gt, rest)
greater_alone behind_sign [] stops = refl
greater_alone behind_sign (byte ∷ bytes) stops = rw stops refl

-- the token of a text is found
pub complete : (behind_sign : Bool) (word : Word) (text rest : List ℕ) → TokenAt behind_sign word text rest → first_token behind_sign (text ++ rest) ≡ Some (word, rest)
complete b (w.Name name) text rest at = name_found b name text rest at.spelled (stops_word (w.Name name) rest (λ byte. refl) at.longest)
complete b (w.Number n) text rest at = number_found b n text rest at.spelled (stops_number n rest at.longest) at.bits
complete b (w.Text content) text rest at = text_found b content text rest at.spelled (stops_text content rest at.longest)
complete b (w.Math Plus) text rest at = spelled_as b (w.Math Plus) text (codes "+") rest at.spelled refl
complete b (w.Math Minus) text rest at = spelled_as b (w.Math Minus) text (codes "-") rest at.spelled refl
complete b (w.Math Times) text rest at = spelled_as b (w.Math Times) text (codes "*") rest at.spelled refl
complete b (w.Compare op.Eq) text rest at = spelled_as b (w.Compare op.Eq) text (codes "=") rest at.spelled refl
complete b (w.Compare op.Ne) text rest at = elim at.spelled [ inl e ↦ spelled_as b (w.Compare op.Ne) text (codes "<>") rest e refl | inr e ↦ spelled_as b (w.Compare op.Ne) text (codes "!=") rest e refl ]
complete b (w.Compare op.Lt) text rest at = spelled_as b (w.Compare op.Lt) text (codes "<") rest at.spelled (less_alone b rest at.longest)
complete b (w.Compare op.Le) text rest at = spelled_as b (w.Compare op.Le) text (codes "<=") rest at.spelled refl
complete b (w.Compare op.Gt) text rest at = spelled_as b (w.Compare op.Gt) text (codes ">") rest at.spelled (greater_alone b rest at.longest)
complete b (w.Compare op.Ge) text rest at = spelled_as b (w.Compare op.Ge) text (codes ">=") rest at.spelled refl
complete b w.Open text rest at = spelled_as b w.Open text (codes "(") rest at.spelled refl
complete b w.Close text rest at = spelled_as b w.Close text (codes ")") rest at.spelled refl
complete b w.Comma text rest at = spelled_as b w.Comma text (codes ",") rest at.spelled refl
complete b w.Semicolon text rest at = spelled_as b w.Semicolon text (codes ";") rest at.spelled refl
complete b w.Null text rest at = reserved_found b w.Null text rest at.spelled (stops_word w.Null rest (λ byte. refl) at.longest)
complete b w.And text rest at = reserved_found b w.And text rest at.spelled (stops_word w.And rest (λ byte. refl) at.longest)
complete b w.Or text rest at = reserved_found b w.Or text rest at.spelled (stops_word w.Or rest (λ byte. refl) at.longest)
complete b w.Not text rest at = reserved_found b w.Not text rest at.spelled (stops_word w.Not rest (λ byte. refl) at.longest)
complete b w.Is text rest at = reserved_found b w.Is text rest at.spelled (stops_word w.Is rest (λ byte. refl) at.longest)
complete b w.Between text rest at = reserved_found b w.Between text rest at.spelled (stops_word w.Between rest (λ byte. refl) at.longest)
complete b (w.Keyword keyword) text rest at = reserved_found b (w.Keyword keyword) text rest at.spelled (stops_word (w.Keyword keyword) rest (λ byte. refl) at.longest)

abbrev IsMissing : Option (Word × List ℕ) → Type 0
IsMissing None = ⊤
IsMissing (Some found) = ⊥

pub no_token : (behind_sign : Bool) (bytes : List ℕ) → None ≡ first_token behind_sign bytes → NoToken behind_sign bytes
no_token behind_sign bytes e word text rest are at =
    let found : None ≡ Some (word, rest) = e ∙ ap (λ (xs : List ℕ). first_token behind_sign xs) are ∙ complete behind_sign word text rest at in subst IsMissing found tt

-- ---- what is found is spelled

abbrev found_as : Word → List ℕ → Option (Word × List ℕ)
found_as word rest = Some (word, rest)

abbrev pair_as : Word → List ℕ → Word × List ℕ
pair_as word rest = (word, rest)

abbrev parts_as : List ℕ → List ℕ → Option (List ℕ × List ℕ)
parts_as content rest = Some (content, rest)

pair_word : (u word : Word) (last rest : List ℕ) → pair_as u last ≡ pair_as word rest → u ≡ word
pair_word u word last rest e = ap (λ (p : Word × List ℕ). p.0) e

pair_rest : (u word : Word) (last rest : List ℕ) → pair_as u last ≡ pair_as word rest → last ≡ rest
pair_rest u word last rest e = ap (λ (p : Word × List ℕ). p.1) e

pair_is : (u word : Word) (last rest : List ℕ) → found_as u last ≡ found_as word rest → pair_as u last ≡ pair_as word rest
pair_is u word last rest e = some_is (pair_as u last) (pair_as word rest) e

first_part : (xs ys : List ℕ) (parts : List ℕ × List ℕ) → Some parts ≡ parts_as xs ys → parts.0 ≡ xs
first_part xs ys parts e = ap (λ (p : List ℕ × List ℕ). p.0) (some_is parts (xs, ys) e)

last_part : (xs ys : List ℕ) (parts : List ℕ × List ℕ) → Some parts ≡ parts_as xs ys → parts.1 ≡ ys
last_part xs ys parts e = ap (λ (p : List ℕ × List ℕ). p.1) (some_is parts (xs, ys) e)

word_is : (rest last : List ℕ) (found : Option Word) (word : Word) → with_rest last found ≡ Some (word, rest) → found ≡ Some word
word_is rest last None word e = cc
word_is rest last (Some u) word e = ap (λ (v : Word). Some v) (pair_word u word last rest (pair_is u word last rest e))

rest_is : (rest last : List ℕ) (found : Option Word) (word : Word) → with_rest last found ≡ Some (word, rest) → last ≡ rest
rest_is rest last None word e = cc
rest_is rest last (Some u) word e = pair_rest u word last rest (pair_is u word last rest e)

ends_word : (word : Word) (rest : List ℕ) → ((byte : ℕ) → goes_on word byte ≡ is_word_byte byte) → Stops is_word_byte rest → StopsAtEnd word rest
ends_word word [] same stops = tt
ends_word word (byte ∷ bytes) same stops = same byte ∙ stops

ends_number : (n : ℕ) (rest : List ℕ) → Stops is_ascii_digit rest → StopsAtEnd (w.Number n) rest
ends_number n [] stops = tt
ends_number n (byte ∷ bytes) stops = stops

ends_text : (content rest : List ℕ) → StartsNoQuote rest → StopsAtEnd (w.Text content) rest
ends_text content [] stops = tt
ends_text content (byte ∷ bytes) stops = stops

reserved_token : (b : Bool) (word : Word) (text rest : List ℕ) → IsSpelled (spelling word) text → Stops is_word_byte rest → TokenAt b word text rest
reserved_token b w.Null text rest is stops = record { spelled = is; longest = ends_word w.Null rest (λ byte. refl) stops; bits = tt }
reserved_token b w.And text rest is stops = record { spelled = is; longest = ends_word w.And rest (λ byte. refl) stops; bits = tt }
reserved_token b w.Or text rest is stops = record { spelled = is; longest = ends_word w.Or rest (λ byte. refl) stops; bits = tt }
reserved_token b w.Not text rest is stops = record { spelled = is; longest = ends_word w.Not rest (λ byte. refl) stops; bits = tt }
reserved_token b w.Is text rest is stops = record { spelled = is; longest = ends_word w.Is rest (λ byte. refl) stops; bits = tt }
reserved_token b w.Between text rest is stops = record { spelled = is; longest = ends_word w.Between rest (λ byte. refl) stops; bits = tt }
reserved_token b (w.Keyword keyword) text rest is stops = record { spelled = is; longest = ends_word (w.Keyword keyword) rest (λ byte. refl) stops; bits = tt }
reserved_token b (w.Name a) text rest is stops = elim is [ ]
reserved_token b (w.Number a) text rest is stops = elim is [ ]
reserved_token b (w.Text a) text rest is stops = elim is [ ]
reserved_token b (w.Math a) text rest is stops = elim is [ ]
reserved_token b (w.Compare a) text rest is stops = elim is [ ]
reserved_token b w.Open text rest is stops = elim is [ ]
reserved_token b w.Close text rest is stops = elim is [ ]
reserved_token b w.Comma text rest is stops = elim is [ ]
reserved_token b w.Semicolon text rest is stops = elim is [ ]

abbrev IsMissingWord : Option Word → Type 0
IsMissingWord None = ⊤
IsMissingWord (Some word) = ⊥

name_token : (b : Bool) (word : Word) (text rest : List ℕ) → IsWordForm text → reserved_word text ≡ None → Stops is_word_byte rest → name_within text ≡ Some word → TokenAt b word text rest
name_token b word text rest form missing stops e = by_length (nat_le (length text) 32) refl e
  where
    by_length : (short : Bool) → nat_le (length text) 32 ≡ short → (if short then Some (w.Name text) else None) ≡ Some word → TokenAt b word text rest
    by_length false is e = cc
    by_length true is e =
        let short : length text ≤ 32 = grind (arith, nat_tests, is) in
        let name : IsNameText text text = record { is = refl; form = form; short = short; other = λ u spelled. subst IsMissingWord (sym missing ∙ reserved_complete u text spelled) tt } in
        subst (λ (u : Word). TokenAt b u text rest) (some_is (w.Name text) word e) (record { spelled = name; longest = ends_word (w.Name text) rest (λ byte. refl) stops; bits = tt })

word_token : (b : Bool) (word : Word) (text rest : List ℕ) → IsWordForm text → Stops is_word_byte rest → word_of text ≡ Some word → TokenAt b word text rest
word_token b word text rest form stops e = by_found (reserved_word text) refl e
  where
    by_found : (found : Option Word) → reserved_word text ≡ found → option_or found (name_within text) ≡ Some word → TokenAt b word text rest
    by_found None is e = name_token b word text rest form is stops e
    by_found (Some u) is e = reserved_token b word text rest (reserved_sound word text (is ∙ e)) stops

word_form : (byte : ℕ) (bytes : List ℕ) → is_letter byte ≡ true → IsWordForm (front_of is_word_byte (byte ∷ bytes))
word_form byte bytes is = record { begins = rw (letter_is_word_byte byte is) is; bytes = front_passes is_word_byte (byte ∷ bytes) }

word_cut : (b : Bool) (byte : ℕ) (bytes rest : List ℕ) (word : Word) → is_letter byte ≡ true → word_at (byte ∷ bytes) ≡ Some (word, rest) → IsCut b word (byte ∷ bytes) rest
word_cut b byte bytes rest word is e =
    let last = rest_is rest (behind is_word_byte (byte ∷ bytes)) (word_of (front_of is_word_byte (byte ∷ bytes))) word e in
    let found = word_is rest (behind is_word_byte (byte ∷ bytes)) (word_of (front_of is_word_byte (byte ∷ bytes))) word e in
    subst (λ (xs : List ℕ). IsCut b word (byte ∷ bytes) xs) last (record {
      text = front_of is_word_byte (byte ∷ bytes);
      are = sym (front_and_behind is_word_byte (byte ∷ bytes));
      token = word_token b word (front_of is_word_byte (byte ∷ bytes)) (behind is_word_byte (byte ∷ bytes)) (word_form byte bytes is) (behind_stops is_word_byte (byte ∷ bytes)) found;
    })

abbrev IsFilled : List ℕ → Type 0
IsFilled [] = ⊥
IsFilled (byte ∷ bytes) = ⊤

filled : (xs : List ℕ) → IsFilled xs → xs ≢ []
filled xs is e = subst IsFilled e is

front_filled : (byte : ℕ) (bytes : List ℕ) → is_ascii_digit byte ≡ true → IsFilled (front_of is_ascii_digit (byte ∷ bytes))
front_filled byte bytes is = rw is tt

number_token : (b : Bool) (n : ℕ) (text rest : List ℕ) (word : Word) → IsNumberText n text → Stops is_ascii_digit rest → number_within b n ≡ Some word → TokenAt b word text rest
number_token b n text rest word is stops e = by_size (nat_le n (most_number b)) refl e
  where
    by_size : (within : Bool) → nat_le n (most_number b) ≡ within → (if within then Some (w.Number n) else None) ≡ Some word → TokenAt b word text rest
    by_size false fits e = cc
    by_size true fits e =
        let bits : n ≤ most_number b = grind (arith, nat_tests, fits) in
        subst (λ (u : Word). TokenAt b u text rest) (some_is (w.Number n) word e) (record { spelled = is; longest = ends_number n rest stops; bits = bits })

number_cut : (b : Bool) (byte : ℕ) (bytes rest : List ℕ) (word : Word) → is_ascii_digit byte ≡ true → number_at b (byte ∷ bytes) ≡ Some (word, rest) → IsCut b word (byte ∷ bytes) rest
number_cut b byte bytes rest word is e =
    let front = front_of is_ascii_digit (byte ∷ bytes) in
    let last = rest_is rest (behind is_ascii_digit (byte ∷ bytes)) (number_within b (number_from 0 (front_of is_ascii_digit (byte ∷ bytes)))) word e in
    let found = word_is rest (behind is_ascii_digit (byte ∷ bytes)) (number_within b (number_from 0 (front_of is_ascii_digit (byte ∷ bytes)))) word e in
    let number : IsNumberText (number_from 0 (front_of is_ascii_digit (byte ∷ bytes))) (front_of is_ascii_digit (byte ∷ bytes)) =
    record { some = filled (front_of is_ascii_digit (byte ∷ bytes)) (front_filled byte bytes is); digits = front_passes is_ascii_digit (byte ∷ bytes); value = refl } in
    subst (λ (xs : List ℕ). IsCut b word (byte ∷ bytes) xs) last (record {
      text = front_of is_ascii_digit (byte ∷ bytes);
      are = sym (front_and_behind is_ascii_digit (byte ∷ bytes));
      token = number_token b (number_from 0 (front_of is_ascii_digit (byte ∷ bytes))) (front_of is_ascii_digit (byte ∷ bytes)) (behind is_ascii_digit (byte ∷ bytes)) word number (behind_stops is_ascii_digit (byte ∷ bytes)) found;
    })

record IsQuotedFrom (bytes content rest : List ℕ) : Type 0 where
  are : bytes ≡ doubled content ++ (39 ∷ rest)
  all : AllByRecursion (λ (byte : ℕ). is_text_byte byte ≡ true) content
  stops : StartsNoQuote rest

onto_is : (byte : ℕ) (bytes next content rest : List ℕ) (parts : Option (List ℕ × List ℕ)) → onto byte parts ≡ Some (content, rest)
    → ((inner : List ℕ) → parts ≡ Some (inner, rest) → IsQuotedFrom next inner rest) → ((inner : List ℕ) → IsQuotedFrom next inner rest → IsQuotedFrom bytes (byte ∷ inner) rest)
    → IsQuotedFrom bytes content rest
onto_is byte bytes next content rest None e inside wraps = cc
onto_is byte bytes next content rest (Some parts) e inside wraps =
    let first : byte ∷ parts.0 ≡ content = first_part content rest (byte ∷ parts.0, parts.1) e in
    let last : parts.1 ≡ rest = last_part content rest (byte ∷ parts.0, parts.1) e in
    subst (λ (xs : List ℕ). IsQuotedFrom bytes xs rest) first (wraps parts.0 (inside parts.0 (ap (λ (xs : List ℕ). parts_as parts.0 xs) last)))

quote_wraps : (bytes inner rest : List ℕ) → IsQuotedFrom bytes inner rest → IsQuotedFrom (39 ∷ 39 ∷ bytes) (39 ∷ inner) rest
quote_wraps bytes inner rest from = record { are = ap (λ (xs : List ℕ). 39 ∷ 39 ∷ xs) from.are; all = (refl, from.all); stops = from.stops }

byte_wraps : (byte : ℕ) (bytes inner rest : List ℕ) → (byte == 39) ≡ false → is_text_byte byte ≡ true → IsQuotedFrom bytes inner rest → IsQuotedFrom (byte ∷ bytes) (byte ∷ inner) rest
byte_wraps byte bytes inner rest other is from =
    let same : doubled (byte ∷ inner) ≡ byte ∷ doubled inner = rw other refl in
    record { are = ap (λ (xs : List ℕ). byte ∷ xs) from.are ∙ ap (λ (xs : List ℕ). xs ++ (39 ∷ rest)) (sym same); all = (is, from.all); stops = from.stops }

some_parts_is : (content rest text bytes : List ℕ) → StartsNoQuote bytes → text ≡ 39 ∷ bytes → parts_as [] bytes ≡ parts_as content rest → IsQuotedFrom text content rest
some_parts_is content rest text bytes stops are e =
    let first : [] ≡ content = first_part content rest ([], bytes) e in
    let last : bytes ≡ rest = last_part content rest ([], bytes) e in
    subst (λ (xs : List ℕ). IsQuotedFrom text xs rest) first (subst (λ (xs : List ℕ). IsQuotedFrom text [] xs) last (record { are = are; all = tt; stops = stops }))

quoted_sound : (bytes content rest : List ℕ) → quoted bytes ≡ parts_as content rest → IsQuotedFrom bytes content rest
quoted_sound [] content rest e = cc
quoted_sound (byte ∷ []) content rest e = by_quote (byte == 39) refl e
  where
    by_quote : (quote : Bool) → (byte == 39) ≡ quote → (if quote then parts_as [] [] else None) ≡ parts_as content rest → IsQuotedFrom (byte ∷ []) content rest
    by_quote false is e = cc
    by_quote true is e =
        let same : byte ≡ 39 = grind (arith, nat_tests, is) in
        some_parts_is content rest (byte ∷ []) [] tt (ap (λ (b : ℕ). b ∷ []) same) e
quoted_sound (byte ∷ next ∷ bytes) content rest e = by_quote (λ inner. quoted_sound bytes inner rest) (λ inner. quoted_sound (next ∷ bytes) inner rest) (byte == 39) refl e
  where
    by_next : ((inner : List ℕ) → quoted bytes ≡ Some (inner, rest) → IsQuotedFrom bytes inner rest) → byte ≡ 39 → (quote : Bool) → (next == 39) ≡ quote
        → (if quote then onto 39 (quoted bytes) else parts_as [] (next ∷ bytes)) ≡ parts_as content rest → IsQuotedFrom (byte ∷ next ∷ bytes) content rest
    by_next more same true is e =
        let same_next : next ≡ 39 = grind (arith, nat_tests, is) in
        let both : byte ∷ next ∷ bytes ≡ 39 ∷ 39 ∷ bytes = ap (λ (b : ℕ). b ∷ next ∷ bytes) same ∙ ap (λ (b : ℕ). 39 ∷ b ∷ bytes) same_next in
        subst (λ (xs : List ℕ). IsQuotedFrom xs content rest) (sym both) (onto_is 39 (39 ∷ 39 ∷ bytes) bytes content rest (quoted bytes) e more (λ inner from. quote_wraps bytes inner rest from))
    by_next more same false is e = some_parts_is content rest (byte ∷ next ∷ bytes) (next ∷ bytes) is (ap (λ (b : ℕ). b ∷ next ∷ bytes) same) e

    by_byte : ((inner : List ℕ) → quoted (next ∷ bytes) ≡ Some (inner, rest) → IsQuotedFrom (next ∷ bytes) inner rest) → (byte == 39) ≡ false → (text : Bool) → is_text_byte byte ≡ text
        → (if text then onto byte (quoted (next ∷ bytes)) else None) ≡ parts_as content rest → IsQuotedFrom (byte ∷ next ∷ bytes) content rest
    by_byte more other false is e = cc
    by_byte more other true is e = onto_is byte (byte ∷ next ∷ bytes) (next ∷ bytes) content rest (quoted (next ∷ bytes)) e more (λ inner from. byte_wraps byte (next ∷ bytes) inner rest other is from)

    by_quote : ((inner : List ℕ) → quoted bytes ≡ Some (inner, rest) → IsQuotedFrom bytes inner rest) → ((inner : List ℕ) → quoted (next ∷ bytes) ≡ Some (inner, rest) → IsQuotedFrom (next ∷ bytes) inner rest)
        → (quote : Bool) → (byte == 39) ≡ quote
        → (if quote then (if next == 39 then onto 39 (quoted bytes) else parts_as [] (next ∷ bytes)) else if is_text_byte byte then onto byte (quoted (next ∷ bytes)) else None) ≡ parts_as content rest
        → IsQuotedFrom (byte ∷ next ∷ bytes) content rest
    by_quote far more true is e = let same : byte ≡ 39 = grind (arith, nat_tests, is) in by_next far same (next == 39) refl e
    by_quote far more false is e = by_byte more is (is_text_byte byte) refl e

text_cut : (b : Bool) (byte : ℕ) (bytes rest : List ℕ) (word : Word) (parts : Option (List ℕ × List ℕ)) → byte ≡ 39 → quoted bytes ≡ parts → text_of parts ≡ found_as word rest → IsCut b word (byte ∷ bytes) rest
text_cut b byte bytes rest word None same is e = cc
text_cut b byte bytes rest word (Some parts) same is e =
    let first : w.Text parts.0 ≡ word = pair_word (w.Text parts.0) word parts.1 rest (pair_is (w.Text parts.0) word parts.1 rest e) in
    let last : parts.1 ≡ rest = pair_rest (w.Text parts.0) word parts.1 rest (pair_is (w.Text parts.0) word parts.1 rest e) in
    let from = quoted_sound bytes parts.0 parts.1 is in
    let quote : IsQuoted parts.0 (39 ∷ (doubled parts.0 ++ 39 ∷ [])) = record { is = refl; bytes = from.all } in
    subst (λ (u : Word). IsCut b u (byte ∷ bytes) rest) first (subst (λ (xs : List ℕ). IsCut b (w.Text parts.0) (byte ∷ bytes) xs) last (record {
      text = 39 ∷ (doubled parts.0 ++ 39 ∷ []);
      are = ap (λ (c : ℕ). c ∷ bytes) same ∙ ap (λ (xs : List ℕ). 39 ∷ xs) (from.are ∙ sym (append_assoc (doubled parts.0) (39 ∷ []) parts.1));
      token = record { spelled = quote; longest = ends_text parts.0 parts.1 from.stops; bits = tt };
    }))

-- ---- signs

sign_cut : (b : Bool) (text bytes last rest : List ℕ) (u word : Word) → pair_as u last ≡ pair_as word rest → bytes ≡ text ++ last → TokenAt b u text last → IsCut b word bytes rest
sign_cut b text bytes last rest u word e are at =
    let first : u ≡ word = pair_word u word last rest e in
    let end : last ≡ rest = pair_rest u word last rest e in
    subst (λ (v : Word). IsCut b v bytes rest) first (subst (λ (xs : List ℕ). IsCut b u bytes xs) end (record { text = text; are = are; token = at }))

nothing_behind : (b : Bool) (u : Word) (text rest : List ℕ) → IsTokenText u text → ((byte : ℕ) → goes_on u byte ≡ false) → InBits b u → TokenAt b u text rest
nothing_behind b u text [] is none bits = record { spelled = is; longest = tt; bits = bits }
nothing_behind b u text (byte ∷ bytes) is none bits = record { spelled = is; longest = none byte; bits = bits }

single_cut : (b : Bool) (byte code : ℕ) (bytes rest : List ℕ) (u word : Word) → (byte == code) ≡ true → IsTokenText u (code ∷ []) → ((c : ℕ) → goes_on u c ≡ false) → InBits b u
    → found_as u bytes ≡ found_as word rest → IsCut b word (byte ∷ bytes) rest
single_cut b byte code bytes rest u word same is none bits e =
    let eq : byte ≡ code = grind (arith, nat_tests, same) in
    sign_cut b (code ∷ []) (byte ∷ bytes) bytes rest u word (pair_is u word bytes rest e) (ap (λ (c : ℕ). c ∷ bytes) eq) (nothing_behind b u (code ∷ []) bytes is none bits)

less_cut : (b : Bool) (bytes rest : List ℕ) (word : Word) → less_sign bytes ≡ pair_as word rest → IsCut b word (60 ∷ bytes) rest
less_cut b [] rest word e = sign_cut b (60 ∷ []) (60 ∷ []) [] rest (w.Compare op.Lt) word e refl (record { spelled = refl; longest = tt; bits = tt })
less_cut b (byte ∷ bytes) rest word e = by_equals (byte == 61) refl e
  where
    by_more : (byte == 61) ≡ false → (more : Bool) → (byte == 62) ≡ more → (if more then pair_as (w.Compare op.Ne) bytes else pair_as (w.Compare op.Lt) (byte ∷ bytes)) ≡ pair_as word rest → IsCut b word (60 ∷ byte ∷ bytes) rest
    by_more differs true is e =
        let same : byte ≡ 62 = grind (arith, nat_tests, is) in
        sign_cut b (60 ∷ 62 ∷ []) (60 ∷ byte ∷ bytes) bytes rest (w.Compare op.Ne) word e (ap (λ (c : ℕ). 60 ∷ c ∷ bytes) same) (nothing_behind b (w.Compare op.Ne) (60 ∷ 62 ∷ []) bytes (inl refl) (λ c. refl) tt)
    by_more differs false is e =
        let longest : ((byte == 61) || (byte == 62)) ≡ false = rw (differs, is) refl in
        sign_cut b (60 ∷ []) (60 ∷ byte ∷ bytes) (byte ∷ bytes) rest (w.Compare op.Lt) word e refl (record { spelled = refl; longest = longest; bits = tt })

    by_equals : (equals : Bool) → (byte == 61) ≡ equals → (if equals then pair_as (w.Compare op.Le) bytes else if byte == 62 then pair_as (w.Compare op.Ne) bytes else pair_as (w.Compare op.Lt) (byte ∷ bytes)) ≡ pair_as word rest → IsCut b word (60 ∷ byte ∷ bytes) rest
    by_equals true is e =
        let same : byte ≡ 61 = grind (arith, nat_tests, is) in
        sign_cut b (60 ∷ 61 ∷ []) (60 ∷ byte ∷ bytes) bytes rest (w.Compare op.Le) word e (ap (λ (c : ℕ). 60 ∷ c ∷ bytes) same) (nothing_behind b (w.Compare op.Le) (60 ∷ 61 ∷ []) bytes refl (λ c. refl) tt)
    by_equals false is e = by_more is (byte == 62) refl e

greater_cut : (b : Bool) (bytes rest : List ℕ) (word : Word) → greater_sign bytes ≡ pair_as word rest → IsCut b word (62 ∷ bytes) rest
greater_cut b [] rest word e = sign_cut b (62 ∷ []) (62 ∷ []) [] rest (w.Compare op.Gt) word e refl (record { spelled = refl; longest = tt; bits = tt })
greater_cut b (byte ∷ bytes) rest word e = by_equals (byte == 61) refl e
  where
    by_equals : (equals : Bool) → (byte == 61) ≡ equals → (if equals then pair_as (w.Compare op.Ge) bytes else pair_as (w.Compare op.Gt) (byte ∷ bytes)) ≡ pair_as word rest → IsCut b word (62 ∷ byte ∷ bytes) rest
    by_equals true is e =
        let same : byte ≡ 61 = grind (arith, nat_tests, is) in
        sign_cut b (62 ∷ 61 ∷ []) (62 ∷ byte ∷ bytes) bytes rest (w.Compare op.Ge) word e (ap (λ (c : ℕ). 62 ∷ c ∷ bytes) same) (nothing_behind b (w.Compare op.Ge) (62 ∷ 61 ∷ []) bytes refl (λ c. refl) tt)
    by_equals false is e = sign_cut b (62 ∷ []) (62 ∷ byte ∷ bytes) (byte ∷ bytes) rest (w.Compare op.Gt) word e refl (record { spelled = refl; longest = is; bits = tt })

unequal_cut : (b : Bool) (bytes rest : List ℕ) (word : Word) → unequal_sign bytes ≡ found_as word rest → IsCut b word (33 ∷ bytes) rest
unequal_cut b [] rest word e = cc
unequal_cut b (byte ∷ bytes) rest word e = by_equals (byte == 61) refl e
  where
    by_equals : (equals : Bool) → (byte == 61) ≡ equals → (if equals then found_as (w.Compare op.Ne) bytes else None) ≡ found_as word rest → IsCut b word (33 ∷ byte ∷ bytes) rest
    by_equals false is e = cc
    by_equals true is e =
        let same : byte ≡ 61 = grind (arith, nat_tests, is) in
        sign_cut b (33 ∷ 61 ∷ []) (33 ∷ byte ∷ bytes) bytes rest (w.Compare op.Ne) word (pair_is (w.Compare op.Ne) word bytes rest e) (ap (λ (c : ℕ). 33 ∷ c ∷ bytes) same) (nothing_behind b (w.Compare op.Ne) (33 ∷ 61 ∷ []) bytes (inr refl) (λ c. refl) tt)

single_61 : (b : Bool) (byte : ℕ) (bytes rest : List ℕ) (word : Word) → with_rest bytes (if byte == 61 then Some (w.Compare op.Eq) else None) ≡ found_as word rest → IsCut b word (byte ∷ bytes) rest
single_61 b byte bytes rest word e = by_code (byte == 61) refl e
  where
    by_code : (is : Bool) → (byte == 61) ≡ is → with_rest bytes (if is then Some (w.Compare op.Eq) else None) ≡ found_as word rest → IsCut b word (byte ∷ bytes) rest
    by_code true is e = single_cut b byte 61 bytes rest (w.Compare op.Eq) word is refl (λ c. refl) tt e
    by_code false is e = cc

single_59 : (b : Bool) (byte : ℕ) (bytes rest : List ℕ) (word : Word) → with_rest bytes (if byte == 59 then Some w.Semicolon else if byte == 61 then Some (w.Compare op.Eq) else None) ≡ found_as word rest → IsCut b word (byte ∷ bytes) rest
single_59 b byte bytes rest word e = by_code (byte == 59) refl e
  where
    by_code : (is : Bool) → (byte == 59) ≡ is → with_rest bytes (if is then Some w.Semicolon else if byte == 61 then Some (w.Compare op.Eq) else None) ≡ found_as word rest → IsCut b word (byte ∷ bytes) rest
    by_code true is e = single_cut b byte 59 bytes rest w.Semicolon word is refl (λ c. refl) tt e
    by_code false is e = single_61 b byte bytes rest word e

single_45 : (b : Bool) (byte : ℕ) (bytes rest : List ℕ) (word : Word) → with_rest bytes (if byte == 45 then Some (w.Math Minus) else if byte == 59 then Some w.Semicolon else if byte == 61 then Some (w.Compare op.Eq) else None) ≡ found_as word rest → IsCut b word (byte ∷ bytes) rest
single_45 b byte bytes rest word e = by_code (byte == 45) refl e
  where
    by_code : (is : Bool) → (byte == 45) ≡ is → with_rest bytes (if is then Some (w.Math Minus) else if byte == 59 then Some w.Semicolon else if byte == 61 then Some (w.Compare op.Eq) else None) ≡ found_as word rest → IsCut b word (byte ∷ bytes) rest
    by_code true is e = single_cut b byte 45 bytes rest (w.Math Minus) word is refl (λ c. refl) tt e
    by_code false is e = single_59 b byte bytes rest word e

single_44 : (b : Bool) (byte : ℕ) (bytes rest : List ℕ) (word : Word) → with_rest bytes (if byte == 44 then Some w.Comma else if byte == 45 then Some (w.Math Minus) else if byte == 59 then Some w.Semicolon else if byte == 61 then Some (w.Compare op.Eq) else None) ≡ found_as word rest → IsCut b word (byte ∷ bytes) rest
single_44 b byte bytes rest word e = by_code (byte == 44) refl e
  where
    by_code : (is : Bool) → (byte == 44) ≡ is → with_rest bytes (if is then Some w.Comma else if byte == 45 then Some (w.Math Minus) else if byte == 59 then Some w.Semicolon else if byte == 61 then Some (w.Compare op.Eq) else None) ≡ found_as word rest → IsCut b word (byte ∷ bytes) rest
    by_code true is e = single_cut b byte 44 bytes rest w.Comma word is refl (λ c. refl) tt e
    by_code false is e = single_45 b byte bytes rest word e

single_43 : (b : Bool) (byte : ℕ) (bytes rest : List ℕ) (word : Word) → with_rest bytes (if byte == 43 then Some (w.Math Plus) else if byte == 44 then Some w.Comma else if byte == 45 then Some (w.Math Minus) else if byte == 59 then Some w.Semicolon else if byte == 61 then Some (w.Compare op.Eq) else None) ≡ found_as word rest → IsCut b word (byte ∷ bytes) rest
single_43 b byte bytes rest word e = by_code (byte == 43) refl e
  where
    by_code : (is : Bool) → (byte == 43) ≡ is → with_rest bytes (if is then Some (w.Math Plus) else if byte == 44 then Some w.Comma else if byte == 45 then Some (w.Math Minus) else if byte == 59 then Some w.Semicolon else if byte == 61 then Some (w.Compare op.Eq) else None) ≡ found_as word rest → IsCut b word (byte ∷ bytes) rest
    by_code true is e = single_cut b byte 43 bytes rest (w.Math Plus) word is refl (λ c. refl) tt e
    by_code false is e = single_44 b byte bytes rest word e

single_42 : (b : Bool) (byte : ℕ) (bytes rest : List ℕ) (word : Word) → with_rest bytes (if byte == 42 then Some (w.Math Times) else if byte == 43 then Some (w.Math Plus) else if byte == 44 then Some w.Comma else if byte == 45 then Some (w.Math Minus) else if byte == 59 then Some w.Semicolon else if byte == 61 then Some (w.Compare op.Eq) else None) ≡ found_as word rest → IsCut b word (byte ∷ bytes) rest
single_42 b byte bytes rest word e = by_code (byte == 42) refl e
  where
    by_code : (is : Bool) → (byte == 42) ≡ is → with_rest bytes (if is then Some (w.Math Times) else if byte == 43 then Some (w.Math Plus) else if byte == 44 then Some w.Comma else if byte == 45 then Some (w.Math Minus) else if byte == 59 then Some w.Semicolon else if byte == 61 then Some (w.Compare op.Eq) else None) ≡ found_as word rest → IsCut b word (byte ∷ bytes) rest
    by_code true is e = single_cut b byte 42 bytes rest (w.Math Times) word is refl (λ c. refl) tt e
    by_code false is e = single_43 b byte bytes rest word e

single_41 : (b : Bool) (byte : ℕ) (bytes rest : List ℕ) (word : Word) → with_rest bytes (if byte == 41 then Some w.Close else if byte == 42 then Some (w.Math Times) else if byte == 43 then Some (w.Math Plus) else if byte == 44 then Some w.Comma else if byte == 45 then Some (w.Math Minus) else if byte == 59 then Some w.Semicolon else if byte == 61 then Some (w.Compare op.Eq) else None) ≡ found_as word rest → IsCut b word (byte ∷ bytes) rest
single_41 b byte bytes rest word e = by_code (byte == 41) refl e
  where
    by_code : (is : Bool) → (byte == 41) ≡ is → with_rest bytes (if is then Some w.Close else if byte == 42 then Some (w.Math Times) else if byte == 43 then Some (w.Math Plus) else if byte == 44 then Some w.Comma else if byte == 45 then Some (w.Math Minus) else if byte == 59 then Some w.Semicolon else if byte == 61 then Some (w.Compare op.Eq) else None) ≡ found_as word rest → IsCut b word (byte ∷ bytes) rest
    by_code true is e = single_cut b byte 41 bytes rest w.Close word is refl (λ c. refl) tt e
    by_code false is e = single_42 b byte bytes rest word e

single_40 : (b : Bool) (byte : ℕ) (bytes rest : List ℕ) (word : Word) → with_rest bytes (if byte == 40 then Some w.Open else if byte == 41 then Some w.Close else if byte == 42 then Some (w.Math Times) else if byte == 43 then Some (w.Math Plus) else if byte == 44 then Some w.Comma else if byte == 45 then Some (w.Math Minus) else if byte == 59 then Some w.Semicolon else if byte == 61 then Some (w.Compare op.Eq) else None) ≡ found_as word rest → IsCut b word (byte ∷ bytes) rest
single_40 b byte bytes rest word e = by_code (byte == 40) refl e
  where
    by_code : (is : Bool) → (byte == 40) ≡ is → with_rest bytes (if is then Some w.Open else if byte == 41 then Some w.Close else if byte == 42 then Some (w.Math Times) else if byte == 43 then Some (w.Math Plus) else if byte == 44 then Some w.Comma else if byte == 45 then Some (w.Math Minus) else if byte == 59 then Some w.Semicolon else if byte == 61 then Some (w.Compare op.Eq) else None) ≡ found_as word rest → IsCut b word (byte ∷ bytes) rest
    by_code true is e = single_cut b byte 40 bytes rest w.Open word is refl (λ c. refl) tt e
    by_code false is e = single_41 b byte bytes rest word e

sign_found : (b : Bool) (byte : ℕ) (bytes rest : List ℕ) (word : Word) → sign_at byte bytes ≡ found_as word rest → IsCut b word (byte ∷ bytes) rest
sign_found b byte bytes rest word e = by_less (byte == 60) refl e
  where
    by_unequal : (is : Bool) → (byte == 33) ≡ is → (if is then unequal_sign bytes else with_rest bytes (single_sign byte)) ≡ found_as word rest → IsCut b word (byte ∷ bytes) rest
    by_unequal true is e = let same : byte ≡ 33 = grind (arith, nat_tests, is) in subst (λ (c : ℕ). IsCut b word (c ∷ bytes) rest) (sym same) (unequal_cut b bytes rest word e)
    by_unequal false is e = single_40 b byte bytes rest word e

    by_greater : (is : Bool) → (byte == 62) ≡ is → (if is then Some (greater_sign bytes) else if byte == 33 then unequal_sign bytes else with_rest bytes (single_sign byte)) ≡ found_as word rest → IsCut b word (byte ∷ bytes) rest
    by_greater true is e = let same : byte ≡ 62 = grind (arith, nat_tests, is) in subst (λ (c : ℕ). IsCut b word (c ∷ bytes) rest) (sym same) (greater_cut b bytes rest word (some_is (greater_sign bytes) (pair_as word rest) e))
    by_greater false is e = by_unequal (byte == 33) refl e

    by_less : (is : Bool) → (byte == 60) ≡ is → (if is then Some (less_sign bytes) else if byte == 62 then Some (greater_sign bytes) else if byte == 33 then unequal_sign bytes else with_rest bytes (single_sign byte)) ≡ found_as word rest → IsCut b word (byte ∷ bytes) rest
    by_less true is e = let same : byte ≡ 60 = grind (arith, nat_tests, is) in subst (λ (c : ℕ). IsCut b word (c ∷ bytes) rest) (sym same) (less_cut b bytes rest word (some_is (less_sign bytes) (pair_as word rest) e))
    by_less false is e = by_greater (byte == 62) refl e

found_cut : (b : Bool) (byte : ℕ) (bytes rest : List ℕ) (word : Word) → first_token b (byte ∷ bytes) ≡ found_as word rest → IsCut b word (byte ∷ bytes) rest
found_cut b byte bytes rest word e = by_letter (is_letter byte) refl e
  where
    by_quote : (is : Bool) → (byte == 39) ≡ is → (if is then text_of (quoted bytes) else sign_at byte bytes) ≡ found_as word rest → IsCut b word (byte ∷ bytes) rest
    by_quote true is e = let same : byte ≡ 39 = grind (arith, nat_tests, is) in text_cut b byte bytes rest word (quoted bytes) same refl e
    by_quote false is e = sign_found b byte bytes rest word e

    by_digit : (is : Bool) → is_ascii_digit byte ≡ is → (if is then number_at b (byte ∷ bytes) else if byte == 39 then text_of (quoted bytes) else sign_at byte bytes) ≡ found_as word rest → IsCut b word (byte ∷ bytes) rest
    by_digit true is e = number_cut b byte bytes rest word is e
    by_digit false is e = by_quote (byte == 39) refl e

    by_letter : (is : Bool) → is_letter byte ≡ is → (if is then word_at (byte ∷ bytes) else if is_ascii_digit byte then number_at b (byte ∷ bytes) else if byte == 39 then text_of (quoted bytes) else sign_at byte bytes) ≡ found_as word rest → IsCut b word (byte ∷ bytes) rest
    by_letter true is e = word_cut b byte bytes rest word is e
    by_letter false is e = by_digit (is_ascii_digit byte) refl e

-- what is found is the token of the text
pub cut_at : (behind_sign : Bool) (bytes rest : List ℕ) (word : Word) → Some (word, rest) ≡ first_token behind_sign bytes → IsCut behind_sign word bytes rest
cut_at behind_sign [] rest word e = cc
cut_at behind_sign (byte ∷ bytes) rest word e = found_cut behind_sign byte bytes rest word (sym e)

abbrev is_filled : List ℕ → Bool
is_filled [] = false
is_filled (byte ∷ bytes) = true

form_fills : (text : List ℕ) → IsWordForm text → is_filled text ≡ true
form_fills [] form = form.begins
form_fills (byte ∷ bytes) form = refl

number_fills : (n : ℕ) (text : List ℕ) → IsNumberText n text → is_filled text ≡ true
number_fills n [] is = elim (is.some refl) [ ]
number_fills n (byte ∷ bytes) is = refl

as_letters : (text letters : List ℕ) → text ≡ letters → is_filled letters ≡ true → is_filled text ≡ true
as_letters text letters e full = ap (λ (xs : List ℕ). is_filled xs) e ∙ full

token_fills : (word : Word) (text : List ℕ) → IsTokenText word text → is_filled text ≡ true
token_fills (w.Name name) text is = form_fills text is.form
token_fills (w.Number n) text is = number_fills n text is
token_fills (w.Text content) text is = as_letters text (39 ∷ (doubled content ++ 39 ∷ [])) is.is refl
token_fills (w.Math Plus) text is = as_letters text (codes "+") is refl
token_fills (w.Math Minus) text is = as_letters text (codes "-") is refl
token_fills (w.Math Times) text is = as_letters text (codes "*") is refl
token_fills (w.Compare op.Eq) text is = as_letters text (codes "=") is refl
token_fills (w.Compare op.Ne) text is = elim is [ inl e ↦ as_letters text (codes "<>") e refl | inr e ↦ as_letters text (codes "!=") e refl ]
token_fills (w.Compare op.Lt) text is = as_letters text (codes "<") is refl
token_fills (w.Compare op.Le) text is = as_letters text (codes "<=") is refl
token_fills (w.Compare op.Gt) text is = as_letters text (codes ">") is refl
token_fills (w.Compare op.Ge) text is = as_letters text (codes ">=") is refl
token_fills w.Open text is = as_letters text (codes "(") is refl
token_fills w.Close text is = as_letters text (codes ")") is refl
token_fills w.Comma text is = as_letters text (codes ",") is refl
token_fills w.Semicolon text is = as_letters text (codes ";") is refl
token_fills w.Null text is = form_fills text (reserved_form w.Null text is)
token_fills w.And text is = form_fills text (reserved_form w.And text is)
token_fills w.Or text is = form_fills text (reserved_form w.Or text is)
token_fills w.Not text is = form_fills text (reserved_form w.Not text is)
token_fills w.Is text is = form_fills text (reserved_form w.Is text is)
token_fills w.Between text is = form_fills text (reserved_form w.Between text is)
token_fills (w.Keyword keyword) text is = form_fills text (reserved_form (w.Keyword keyword) text is)

filled_length : (text : List ℕ) → is_filled text ≡ true → 1 ≤ length text
filled_length [] e = grind (arith, e)
filled_length (byte ∷ bytes) e = omega arith

-- a token has a byte
pub cut_shorter : (behind_sign : Bool) (word : Word) (bytes rest : List ℕ) → IsCut behind_sign word bytes rest → length rest < length bytes
cut_shorter behind_sign word bytes rest cut =
    let total : length bytes ≡ length cut.text + length rest = ap (λ (xs : List ℕ). length xs) cut.are ∙ length-append cut.text rest in
    omega (arith, total, filled_length cut.text (token_fills word cut.text cut.token.spelled))
