-- A text in quotes is one token.
use Rattle.std.proofs.Common.{◌≡◌, ℕ, Bool, true, false, List, [], ◌∷◌, ◌++◌, Option, None, Some, length, refl, sym, ap, subst, ◌∙◌, append-nil}
use Rattle.statement_tokens.specs.declared.words.Word.{Word}
use Rattle.statement_tokens.specs.declared.words.Word.TheVariants as w
use Rattle.statement_tokens.specs.Spellings.{IsQuoted}
use Rattle.statement_tokens.specs.Tokens.{TokenAt, NoToken, IsCut}
use Rattle.statement_tokens.specs.FirstToken.{first_token}
use Rattle.statement_tokens.proofs.FirstLemmas.{complete}
use Rattle.std.specs.Prelude.{◌==◌, MatchOption}
use Rattle.std.proofs.Common.{arith}
use Rattle.std.proofs.lemmas.Bool.Decides.{nat_tests}
use Rattle.line_items.specs.Literals.{texted, texted_before}

text_token : (content text : List ℕ) → IsQuoted content text → TokenAt false (w.Text content) text []
text_token content text h = record { spelled = h; longest = tt; bits = tt }

pub no_token : (text : List ℕ) → NoToken false text → (content : List ℕ) → IsQuoted content text → ⊥
no_token text none content h = none (w.Text content) text [] (sym (append-nil text)) (text_token content text h)

some_is : {A : Type 0} (x y : A) → Some x ≡ Some y → x ≡ y
some_is x y e = cc

record SameToken (word other : Word) (rest left : List ℕ) : Type 0 where
  word_is : word ≡ other
  rest_is : rest ≡ left

same_pair : (word other : Word) (rest left : List ℕ) (found : Option (Word × List ℕ)) → found ≡ Some (word, rest) → found ≡ Some (other, left) → SameToken word other rest left
same_pair word other rest left None e f = absurd cc
same_pair word other rest left (Some pair) e f = record { word_is = sym (ap (λ (p : Word × List ℕ). p.0) (some_is pair (word, rest) e)) ∙ ap (λ (p : Word × List ℕ). p.0) (some_is pair (other, left) f); rest_is = sym (ap (λ (p : Word × List ℕ). p.1) (some_is pair (word, rest) e)) ∙ ap (λ (p : Word × List ℕ). p.1) (some_is pair (other, left) f) }

-- the token with which a text in quotes begins is that text
same_token : (text rest content : List ℕ) (word : Word) → IsCut false word text rest → IsQuoted content text → SameToken word (w.Text content) rest []
same_token text rest content word c h =
    let a : first_token false text ≡ Some (word, rest) = subst (λ (xs : List ℕ). first_token false xs ≡ Some (word, rest)) (sym c.are) (complete false word c.text rest c.token) in
    let b : first_token false text ≡ Some (w.Text content, []) = subst (λ (xs : List ℕ). first_token false xs ≡ Some (w.Text content, [])) (append-nil text) (complete false (w.Text content) text [] (text_token content text h)) in
    same_pair word (w.Text content) rest [] (first_token false text) a b

whole_token : (text : List ℕ) (word : Word) → IsCut false word text [] → TokenAt false word text []
whole_token text word c = let whole : c.text ≡ text = sym (append-nil c.text) ∙ sym c.are in subst (λ (xs : List ℕ). TokenAt false word xs []) whole c.token

some_none : (content : List ℕ) (found : Option (List ℕ)) → found ≡ Some content → found ≡ None → ⊥
some_none content found e f = cc

abbrev Texted : List ℕ → Option (List ℕ) → Type 0
Texted text found = MatchOption found ((other : List ℕ) → IsQuoted other text → ⊥) (λ content. IsQuoted content text)

no_text : (text rest : List ℕ) (word : Word) → IsCut false word text rest → texted word ≡ None → (other : List ℕ) → IsQuoted other text → ⊥
no_text text rest word c e other h = let s = same_token text rest other word c h in some_none other (texted word) (ap texted s.word_is) e

by_word : (text : List ℕ) (word : Word) (found : Option (List ℕ)) → IsCut false word text [] → texted word ≡ found → Texted text found
by_word text word None c e = no_text text [] word c e
by_word text (w.Text content) (Some found) c e = subst (λ (n : List ℕ). IsQuoted n text) (some_is content found e) (whole_token text (w.Text content) c).spelled
by_word text _ (Some found) c e = absurd cc

pub cut_texted : (text rest : List ℕ) (word : Word) → IsCut false word text rest → Texted text (texted_before word rest)
cut_texted text [] word c = by_word text word (texted word) c refl
cut_texted text (byte ∷ rest) word c = let n : (length (byte ∷ rest) == 0) ≡ false = grind (arith, nat_tests) in
    rw n (λ other h. let s = same_token text (byte ∷ rest) other word c h in no_cons s.rest_is)
  where
    no_cons : byte ∷ rest ≡ [] → ⊥
    no_cons e = cc

pub quote_cut : (text rest : List ℕ) (word : Word) (found : Option (List ℕ)) → IsCut false word text rest → found ≡ texted_before word rest → Texted text found
quote_cut text rest word found c e = subst (Texted text) (sym e) (cut_texted text rest word c)
