-- The keyword that a text spells is the one that is found.
use Rattle.std.proofs.lemmas.Slice.Eq.{bytes_eq-Decides}
use Rattle.std.proofs.Common.{◌≡◌, ℕ, Bool, true, false, List, [], ◌∷◌, Option, None, Some, refl, sym, ◌∙◌, ap, find, subst, arith}
use Rattle.std.proofs.lemmas.Bool.Decides.{nat_tests}
use Rattle.std.specs.Prelude.{◌&&◌}
use Rattle.std.specs.List.{AllByRecursion}
use Rattle.std.specs.Char.{to_ascii_lowercase}
use Rattle.std.specs.Option.{option_map, option_or}
use Rattle.std.specs.Str.{bytes_eq, str_eq_ignore_ascii_case, str_to_ascii_lowercase}
use Rattle.statement_tokens.specs.Spellings.{is_letter, is_word_byte, first_is_letter, IsWordForm, keyword_text, spelling, IsSpelled}
use Rattle.statement_tokens.specs.FirstToken.{all_keywords, keyword_named, operator_named, reserved_word, matches_letters}
use Rattle.statement_tokens.specs.declared.words.Keyword.{Keyword}
use Rattle.statement_tokens.specs.declared.words.Keyword.TheVariants as k
use Rattle.statement_tokens.specs.declared.words.Word.{Word}
use Rattle.statement_tokens.specs.declared.words.Word.TheVariants as w

pub some_is : {A : Type 0} (x y : A) → Some x ≡ Some y → x ≡ y
some_is x y e = cc

pub and_left : (a b : Bool) → (a && b) ≡ true → a ≡ true
and_left true b e = refl
and_left false b e = e

pub and_right : (a b : Bool) → (a && b) ≡ true → b ≡ true
and_right true b e = e
and_right false b e = cc

pub found_passes : {A : Type 0} (test : A → Bool) (xs : List A) (x : A) → find test xs ≡ Some x → test x ≡ true
found_passes test [] x e = cc
found_passes {A = A} test (y ∷ ys) x e = by_test (found_passes test ys x) (test y) refl e
  where
    by_test : (find test ys ≡ Some x → test x ≡ true) → (passes : Bool) → test y ≡ passes → find test (y ∷ ys) ≡ Some x → test x ≡ true
    by_test more true p e = let same = rw p at e in subst (λ (z : A). test z ≡ true) (some_is y x same) p
    by_test more false p e = let later = rw p at e in more later

same_bytes_are : (xs ys : List ℕ) → bytes_eq xs ys ≡ true → xs ≡ ys
same_bytes_are xs ys e = grind (arith, bytes_eq-Decides xs ys, e)

-- what a text spells depends on its small letters alone
lowered : (letters text : List ℕ) → str_eq_ignore_ascii_case letters text ≡ true → str_to_ascii_lowercase letters ≡ str_to_ascii_lowercase text
lowered letters text e = same_bytes_are (str_to_ascii_lowercase letters) (str_to_ascii_lowercase text) e

abbrev low_letters : Option (List ℕ) → List ℕ
low_letters None = []
low_letters (Some letters) = str_to_ascii_lowercase letters

abbrev lower_keyword : List ℕ → Option Keyword
lower_keyword low = find (λ keyword. bytes_eq (str_to_ascii_lowercase (keyword_text keyword)) low) all_keywords

abbrev lower_operator : List ℕ → Option Word
lower_operator low = find (λ word. bytes_eq (low_letters (spelling word)) low) (w.Null ∷ w.And ∷ w.Or ∷ w.Not ∷ w.Is ∷ w.Between ∷ [])

abbrev lower_reserved : List ℕ → Option Word
lower_reserved low = option_or (lower_operator low) (option_map w.Keyword (lower_keyword low))

reserved_lowered : (text : List ℕ) → reserved_word text ≡ lower_reserved (str_to_ascii_lowercase text)
unfolding reserved_word operator_named keyword_named
reserved_lowered text = refl

keyword_is_found : (keyword : Keyword) → lower_keyword (str_to_ascii_lowercase (keyword_text keyword)) ≡ Some keyword
keyword_is_found k.Insert = refl
keyword_is_found k.Into = refl
keyword_is_found k.Values = refl
keyword_is_found k.Replace = refl
keyword_is_found k.Delete = refl
keyword_is_found k.From = refl
keyword_is_found k.Where = refl
keyword_is_found k.Update = refl
keyword_is_found k.Set = refl
keyword_is_found k.Select = refl
keyword_is_found k.For = refl
keyword_is_found k.Share = refl
keyword_is_found k.Lock = refl
keyword_is_found k.In = refl
keyword_is_found k.Mode = refl
keyword_is_found k.Checksum = refl
keyword_is_found k.Chunk = refl
keyword_is_found k.To = refl
keyword_is_found k.Using = refl
keyword_is_found k.SetMaster = refl
keyword_is_found k.Cnt = refl
keyword_is_found k.Crc = refl
keyword_is_found k.ClearChecks = refl
keyword_is_found k.Low = refl
keyword_is_found k.High = refl
keyword_is_found k.Before = refl
keyword_is_found k.After = refl
keyword_is_found k.Md5 = refl
keyword_is_found k.Sha1 = refl
keyword_is_found k.Key = refl
keyword_is_found k.Int = refl
keyword_is_found k.BigInt = refl
keyword_is_found k.VarChar = refl

keyword_is_no_operator : (keyword : Keyword) → lower_operator (str_to_ascii_lowercase (keyword_text keyword)) ≡ None
keyword_is_no_operator k.Insert = refl
keyword_is_no_operator k.Into = refl
keyword_is_no_operator k.Values = refl
keyword_is_no_operator k.Replace = refl
keyword_is_no_operator k.Delete = refl
keyword_is_no_operator k.From = refl
keyword_is_no_operator k.Where = refl
keyword_is_no_operator k.Update = refl
keyword_is_no_operator k.Set = refl
keyword_is_no_operator k.Select = refl
keyword_is_no_operator k.For = refl
keyword_is_no_operator k.Share = refl
keyword_is_no_operator k.Lock = refl
keyword_is_no_operator k.In = refl
keyword_is_no_operator k.Mode = refl
keyword_is_no_operator k.Checksum = refl
keyword_is_no_operator k.Chunk = refl
keyword_is_no_operator k.To = refl
keyword_is_no_operator k.Using = refl
keyword_is_no_operator k.SetMaster = refl
keyword_is_no_operator k.Cnt = refl
keyword_is_no_operator k.Crc = refl
keyword_is_no_operator k.ClearChecks = refl
keyword_is_no_operator k.Low = refl
keyword_is_no_operator k.High = refl
keyword_is_no_operator k.Before = refl
keyword_is_no_operator k.After = refl
keyword_is_no_operator k.Md5 = refl
keyword_is_no_operator k.Sha1 = refl
keyword_is_no_operator k.Key = refl
keyword_is_no_operator k.Int = refl
keyword_is_no_operator k.BigInt = refl
keyword_is_no_operator k.VarChar = refl

keyword_found : (keyword : Keyword) → lower_reserved (str_to_ascii_lowercase (keyword_text keyword)) ≡ Some (w.Keyword keyword)
keyword_found keyword = rw (keyword_is_no_operator keyword, keyword_is_found keyword) refl

word_is_found : (word : Word) (letters : List ℕ) → spelling word ≡ Some letters → lower_reserved (str_to_ascii_lowercase letters) ≡ Some word
word_is_found w.Null letters e = subst (λ (l : List ℕ). lower_reserved (str_to_ascii_lowercase l) ≡ Some w.Null) (some_is _ letters e) refl
word_is_found w.And letters e = subst (λ (l : List ℕ). lower_reserved (str_to_ascii_lowercase l) ≡ Some w.And) (some_is _ letters e) refl
word_is_found w.Or letters e = subst (λ (l : List ℕ). lower_reserved (str_to_ascii_lowercase l) ≡ Some w.Or) (some_is _ letters e) refl
word_is_found w.Not letters e = subst (λ (l : List ℕ). lower_reserved (str_to_ascii_lowercase l) ≡ Some w.Not) (some_is _ letters e) refl
word_is_found w.Is letters e = subst (λ (l : List ℕ). lower_reserved (str_to_ascii_lowercase l) ≡ Some w.Is) (some_is _ letters e) refl
word_is_found w.Between letters e = subst (λ (l : List ℕ). lower_reserved (str_to_ascii_lowercase l) ≡ Some w.Between) (some_is _ letters e) refl
word_is_found (w.Keyword keyword) letters e = subst (λ (l : List ℕ). lower_reserved (str_to_ascii_lowercase l) ≡ Some (w.Keyword keyword)) (some_is (keyword_text keyword) letters e) (keyword_found keyword)
word_is_found (w.Name a) letters e = cc
word_is_found (w.Number a) letters e = cc
word_is_found (w.Text a) letters e = cc
word_is_found (w.Math a) letters e = cc
word_is_found (w.Compare a) letters e = cc
word_is_found w.Open letters e = cc
word_is_found w.Close letters e = cc
word_is_found w.Comma letters e = cc
word_is_found w.Semicolon letters e = cc

-- the word that a text spells is found
pub reserved_complete : (word : Word) (text : List ℕ) → IsSpelled (spelling word) text → reserved_word text ≡ Some word
reserved_complete word text is = by_letters (spelling word) refl is
  where
    by_letters : (letters : Option (List ℕ)) → spelling word ≡ letters → IsSpelled letters text → reserved_word text ≡ Some word
    by_letters None e is = elim is [ ]
    by_letters (Some letters) e is =
        reserved_lowered text ∙ ap (λ (low : List ℕ). lower_reserved low) (sym (lowered letters text is)) ∙ word_is_found word letters e

spells : (letters : Option (List ℕ)) (text : List ℕ) → matches_letters letters text ≡ true → IsSpelled letters text
spells None text e = cc
spells (Some letters) text e = e

abbrev operators : List Word
operators = w.Null ∷ w.And ∷ w.Or ∷ w.Not ∷ w.Is ∷ w.Between ∷ []

reserved_parts : (text : List ℕ) → reserved_word text ≡ option_or (find (λ (word : Word). matches_letters (spelling word) text) operators) (option_map w.Keyword (find (λ (keyword : Keyword). str_eq_ignore_ascii_case (keyword_text keyword) text) all_keywords))
unfolding reserved_word operator_named keyword_named
reserved_parts text = refl

keyword_spells : (text : List ℕ) (word : Word) (found : Option Keyword) → find (λ (keyword : Keyword). str_eq_ignore_ascii_case (keyword_text keyword) text) all_keywords ≡ found
    → option_map w.Keyword found ≡ Some word → IsSpelled (spelling word) text
keyword_spells text word None f e = cc
keyword_spells text word (Some keyword) f e =
    subst (λ (u : Word). IsSpelled (spelling u) text) (some_is (w.Keyword keyword) word e) (found_passes (λ (k : Keyword). str_eq_ignore_ascii_case (keyword_text k) text) all_keywords keyword f)

parts_spell : (text : List ℕ) (word : Word) (found : Option Word) → find (λ (u : Word). matches_letters (spelling u) text) operators ≡ found
    → option_or found (option_map w.Keyword (find (λ (keyword : Keyword). str_eq_ignore_ascii_case (keyword_text keyword) text) all_keywords)) ≡ Some word → IsSpelled (spelling word) text
parts_spell text word None f e = keyword_spells text word (find (λ (keyword : Keyword). str_eq_ignore_ascii_case (keyword_text keyword) text) all_keywords) refl e
parts_spell text word (Some operator) f e =
    subst (λ (u : Word). IsSpelled (spelling u) text) (some_is operator word e) (spells (spelling operator) text (found_passes (λ (u : Word). matches_letters (spelling u) text) operators operator f))

-- the word that is found is spelled by the text
pub reserved_sound : (word : Word) (text : List ℕ) → reserved_word text ≡ Some word → IsSpelled (spelling word) text
reserved_sound word text e = parts_spell text word (find (λ (u : Word). matches_letters (spelling u) text) operators) refl (sym (reserved_parts text) ∙ e)

-- ---- keywords have the form of words

abbrev all_word_bytes : List ℕ → Bool
all_word_bytes [] = true
all_word_bytes (byte ∷ bytes) = is_word_byte byte && all_word_bytes bytes

raised_letter : (byte : ℕ) → is_letter (to_ascii_lowercase byte) ≡ true → is_letter byte ≡ true
raised_letter byte e = grind (arith, nat_tests)

raised_byte : (byte : ℕ) → is_word_byte (to_ascii_lowercase byte) ≡ true → is_word_byte byte ≡ true
raised_byte byte e = grind (arith, nat_tests)

raised_bytes : (text : List ℕ) → all_word_bytes (str_to_ascii_lowercase text) ≡ true → AllByRecursion (λ (byte : ℕ). is_word_byte byte ≡ true) text
raised_bytes [] e = tt
raised_bytes (byte ∷ bytes) e = (raised_byte byte (and_left _ _ e), raised_bytes bytes (and_right _ _ e))

raised_first : (text : List ℕ) → first_is_letter (str_to_ascii_lowercase text) ≡ true → first_is_letter text ≡ true
raised_first [] e = e
raised_first (byte ∷ bytes) e = raised_letter byte e

abbrev is_lower_word : List ℕ → Bool
is_lower_word low = first_is_letter low && all_word_bytes low

keyword_form : (keyword : Keyword) → is_lower_word (str_to_ascii_lowercase (keyword_text keyword)) ≡ true
keyword_form k.Insert = refl
keyword_form k.Into = refl
keyword_form k.Values = refl
keyword_form k.Replace = refl
keyword_form k.Delete = refl
keyword_form k.From = refl
keyword_form k.Where = refl
keyword_form k.Update = refl
keyword_form k.Set = refl
keyword_form k.Select = refl
keyword_form k.For = refl
keyword_form k.Share = refl
keyword_form k.Lock = refl
keyword_form k.In = refl
keyword_form k.Mode = refl
keyword_form k.Checksum = refl
keyword_form k.Chunk = refl
keyword_form k.To = refl
keyword_form k.Using = refl
keyword_form k.SetMaster = refl
keyword_form k.Cnt = refl
keyword_form k.Crc = refl
keyword_form k.ClearChecks = refl
keyword_form k.Low = refl
keyword_form k.High = refl
keyword_form k.Before = refl
keyword_form k.After = refl
keyword_form k.Md5 = refl
keyword_form k.Sha1 = refl
keyword_form k.Key = refl
keyword_form k.Int = refl
keyword_form k.BigInt = refl
keyword_form k.VarChar = refl

letters_form : (word : Word) (letters : List ℕ) → spelling word ≡ Some letters → is_lower_word (str_to_ascii_lowercase letters) ≡ true
letters_form w.Null letters e = subst (λ (l : List ℕ). is_lower_word (str_to_ascii_lowercase l) ≡ true) (some_is _ letters e) refl
letters_form w.And letters e = subst (λ (l : List ℕ). is_lower_word (str_to_ascii_lowercase l) ≡ true) (some_is _ letters e) refl
letters_form w.Or letters e = subst (λ (l : List ℕ). is_lower_word (str_to_ascii_lowercase l) ≡ true) (some_is _ letters e) refl
letters_form w.Not letters e = subst (λ (l : List ℕ). is_lower_word (str_to_ascii_lowercase l) ≡ true) (some_is _ letters e) refl
letters_form w.Is letters e = subst (λ (l : List ℕ). is_lower_word (str_to_ascii_lowercase l) ≡ true) (some_is _ letters e) refl
letters_form w.Between letters e = subst (λ (l : List ℕ). is_lower_word (str_to_ascii_lowercase l) ≡ true) (some_is _ letters e) refl
letters_form (w.Keyword keyword) letters e = subst (λ (l : List ℕ). is_lower_word (str_to_ascii_lowercase l) ≡ true) (some_is (keyword_text keyword) letters e) (keyword_form keyword)
letters_form (w.Name a) letters e = cc
letters_form (w.Number a) letters e = cc
letters_form (w.Text a) letters e = cc
letters_form (w.Math a) letters e = cc
letters_form (w.Compare a) letters e = cc
letters_form w.Open letters e = cc
letters_form w.Close letters e = cc
letters_form w.Comma letters e = cc
letters_form w.Semicolon letters e = cc

pub reserved_form : (word : Word) (text : List ℕ) → IsSpelled (spelling word) text → IsWordForm text
reserved_form word text is = by_letters (spelling word) refl is
  where
    by_letters : (letters : Option (List ℕ)) → spelling word ≡ letters → IsSpelled letters text → IsWordForm text
    by_letters None e is = elim is [ ]
    by_letters (Some letters) e is =
        let form : is_lower_word (str_to_ascii_lowercase text) ≡ true = subst (λ (low : List ℕ). is_lower_word low ≡ true) (lowered letters text is) (letters_form word letters e) in
        record { begins = raised_first text (and_left _ _ form); bytes = raised_bytes text (and_right _ _ form) }
