-- The first words of a line.
use Rattle.std.proofs.Common.{◌≡◌, ◌==◌, ℕ, false, List, [], ◌∷◌, Some, None, length, refl, sym, ap, ◌∙◌, arith}
use Rattle.std.proofs.lemmas.Bool.Decides.{nat_tests}
use Rattle.std.specs.Str.{str_eq_ignore_ascii_case}
use Rattle.file_text.specs.Parts.{Part, words_of, past_end}
use Rattle.file_text.specs.declared.places.Section.{Section}
use Rattle.file_text.specs.Rules.{is_empty, is_skipped, is_one_word, Opens, OpensNone, first_named, named_first, all_sections, next_place}
use Rattle.line_parts.specs.declared.cuttings.Cutting.{Cutting}
use Rattle.line_parts.specs.declared.cuttings.Cutting.TheVariants.{Words}
use Rattle.line_parts.specs.Cuts.{parts_from, NextPart}

pub empty_is : (text : List ℕ) → (length text == 0) ≡ is_empty text
empty_is [] = refl
empty_is (byte ∷ bytes) = let e : (length (byte ∷ bytes) == 0) ≡ false = grind (arith, nat_tests) in e

first_is : (line text : List ℕ) (at next : ℕ) (rest : List ℕ) (cutting : Cutting) → NextPart Words 1 line at text next rest cutting → named_first (words_of line) ≡ first_named text all_sections
first_is line text at next rest cutting p = ap named_first p.parts

pub opens : (line text : List ℕ) (at next : ℕ) (rest : List ℕ) (cutting : Cutting) (section : Section) → is_skipped line ≡ false → NextPart Words 1 line at text next rest cutting → first_named text all_sections ≡ Some section → Opens section line
opens line text at next rest cutting section s p e = record { counts = s; first = first_is line text at next rest cutting p ∙ e }

pub opens_none : (line text : List ℕ) (at next : ℕ) (rest : List ℕ) (cutting : Cutting) → is_skipped line ≡ false → NextPart Words 1 line at text next rest cutting → first_named text all_sections ≡ None → OpensNone line × (at ≡ next_place (past_end line) (words_of line))
opens_none line text at next rest cutting s p e = (record { counts = s; none = first_is line text at next rest cutting p ∙ e }, sym (ap (next_place (past_end line)) p.parts))

pub opens_nothing : (line : List ℕ) → is_skipped line ≡ false → parts_from Words 1 line ≡ [] → OpensNone line × (past_end line ≡ next_place (past_end line) (words_of line))
opens_nothing line s e = (record { counts = s; none = ap named_first e }, sym (ap (next_place (past_end line)) e))

pub no_word : (word line : List ℕ) → parts_from Words 1 line ≡ [] → false ≡ is_one_word word (words_of line)
no_word word line e = sym (ap (is_one_word word) e)

pub one_word : (word line text : List ℕ) (at next : ℕ) (rest : List ℕ) (cutting : Cutting) → NextPart Words 1 line at text next rest cutting → parts_from cutting next rest ≡ [] → str_eq_ignore_ascii_case word text ≡ is_one_word word (words_of line)
one_word word line text at next rest cutting p e = sym (ap (is_one_word word) (p.parts ∙ ap (λ (l : List Part). record { place = at; text = text } ∷ l) e))

pub more_words : (word line text : List ℕ) (at next : ℕ) (rest : List ℕ) (cutting : Cutting) (to : ℕ) (other : List ℕ) (behind : ℕ) (left : List ℕ) (more : Cutting)
    → NextPart Words 1 line at text next rest cutting → NextPart cutting next rest to other behind left more → false ≡ is_one_word word (words_of line)
more_words word line text at next rest cutting to other behind left more p q = sym (ap (is_one_word word) (p.parts ∙ ap (λ (l : List Part). record { place = at; text = text } ∷ l) q.parts))
