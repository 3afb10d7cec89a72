-- A name is a text of one token.
use Rattle.std.proofs.Common.{◌≡◌, ℕ, Bool, true, false, List, [], ◌∷◌, ◌++◌, Option, None, Some, length, refl, sym, ap, subst, ◌∙◌, append-nil}
use Rattle.statement_tokens.specs.declared.words.Word.{Word}
use Rattle.statement_tokens.specs.declared.words.Word.TheVariants as w
use Rattle.statement_tokens.specs.Spellings.{IsNameText}
use Rattle.statement_tokens.specs.Tokens.{TokenAt, NoToken, IsCut}
use Rattle.statement_tokens.specs.FirstToken.{first_token}
use Rattle.statement_tokens.proofs.FirstLemmas.{complete}
use Rattle.std.specs.Prelude.{◌==◌, MatchOption}
use Rattle.std.proofs.Common.{arith}
use Rattle.std.proofs.lemmas.Bool.Decides.{nat_tests}
use Rattle.line_words.specs.Names.{named, named_before}

name_token : (name text : List ℕ) → IsNameText name text → TokenAt false (w.Name name) text []
name_token name text h = record { spelled = h; longest = tt; bits = tt }

pub no_token : (text : List ℕ) → NoToken false text → (name : List ℕ) → IsNameText name text → ⊥
no_token text none name h = none (w.Name name) text [] (sym (append-nil text)) (name_token name text h)

some_is : {A : Type 0} (x y : A) → Some x ≡ Some y → x ≡ y
some_is x y e = cc

record SameToken (word other : Word) (rest left : List ℕ) : Type 0 where
  word_is : word ≡ other
  rest_is : rest ≡ left

same_pair : (word other : Word) (rest left : List ℕ) (found : Option (Word × List ℕ)) → found ≡ Some (word, rest) → found ≡ Some (other, left) → SameToken word other rest left
same_pair word other rest left None e f = absurd cc
same_pair word other rest left (Some pair) e f = record { word_is = sym (ap (λ (p : Word × List ℕ). p.0) (some_is pair (word, rest) e)) ∙ ap (λ (p : Word × List ℕ). p.0) (some_is pair (other, left) f); rest_is = sym (ap (λ (p : Word × List ℕ). p.1) (some_is pair (word, rest) e)) ∙ ap (λ (p : Word × List ℕ). p.1) (some_is pair (other, left) f) }

-- the token with which a name begins is the name
same_token : (text rest name : List ℕ) (word : Word) → IsCut false word text rest → IsNameText name text → SameToken word (w.Name name) rest []
same_token text rest name word c h =
    let a : first_token false text ≡ Some (word, rest) = subst (λ (xs : List ℕ). first_token false xs ≡ Some (word, rest)) (sym c.are) (complete false word c.text rest c.token) in
    let b : first_token false text ≡ Some (w.Name name, []) = subst (λ (xs : List ℕ). first_token false xs ≡ Some (w.Name name, [])) (append-nil text) (complete false (w.Name name) text [] (name_token name text h)) in
    same_pair word (w.Name name) rest [] (first_token false text) a b

whole_token : (text : List ℕ) (word : Word) → IsCut false word text [] → TokenAt false word text []
whole_token text word c = let whole : c.text ≡ text = sym (append-nil c.text) ∙ sym c.are in subst (λ (xs : List ℕ). TokenAt false word xs []) whole c.token

some_none : (name : List ℕ) (found : Option (List ℕ)) → found ≡ Some name → found ≡ None → ⊥
some_none name found e f = cc

abbrev Named : List ℕ → Option (List ℕ) → Type 0
Named text found = MatchOption found ((other : List ℕ) → IsNameText other text → ⊥) (λ name. IsNameText name text)

no_name : (text rest : List ℕ) (word : Word) → IsCut false word text rest → named word ≡ None → (other : List ℕ) → IsNameText other text → ⊥
no_name text rest word c e other h = let s = same_token text rest other word c h in some_none other (named word) (ap named s.word_is) e

by_word : (text : List ℕ) (word : Word) (found : Option (List ℕ)) → IsCut false word text [] → named word ≡ found → Named text found
by_word text word None c e = no_name text [] word c e
by_word text (w.Name name) (Some found) c e = subst (λ (n : List ℕ). IsNameText n text) (some_is name found e) (whole_token text (w.Name name) c).spelled
by_word text _ (Some found) c e = absurd cc

pub cut_named : (text rest : List ℕ) (word : Word) → IsCut false word text rest → Named text (named_before word rest)
cut_named text [] word c = by_word text word (named word) c refl
cut_named text (byte ∷ rest) word c = let n : (length (byte ∷ rest) == 0) ≡ false = grind (arith, nat_tests) in
    rw n (λ other h. let s = same_token text (byte ∷ rest) other word c h in no_cons s.rest_is)
  where
    no_cons : byte ∷ rest ≡ [] → ⊥
    no_cons e = cc

pub name_cut : (text rest : List ℕ) (word : Word) (found : Option (List ℕ)) → IsCut false word text rest → found ≡ named_before word rest → Named text found
name_cut text rest word found c e = subst (Named text) (sym e) (cut_named text rest word c)
