-- Lines that pass no limit keep the counts within it.
use Rattle.std.proofs.Common.{◌≡◌, ◌≤◌, ◌<◌, ◌+◌, ℕ, Bool, true, false, List, [], ◌∷◌, ◌++◌, map, refl, sym, ap, subst, ◌∙◌, append-nil, arith}
use Rattle.std.proofs.lemmas.Bool.Decides.{nat_tests}
use Rattle.std.proofs.lemmas.List.{map-append}
use Rattle.std.specs.Prelude.{leb}
use Rattle.file_text.specs.declared.faults.LimitKind.TheVariants.{Sessions, Locals, Schedule as ScheduleLimit}
use Rattle.file_text.specs.declared.places.Section.{Section}
use Rattle.file_text.specs.declared.places.Section.TheVariants.{SessionLines, LocalLines, ScheduleLines}
use Rattle.file_text.specs.declared.places.Keyword.TheVariants.{First}
use Rattle.file_text.specs.Said.{Said, LocalOf, Schedule, ScheduleWord, Item, Word, LocalWord, Turns, Spells, behind_first}
use Rattle.file_text.specs.Context.{sessions_in, locals_in, scheduled_in, turns_in, turns_of as turns_said}
use Rattle.file_text.specs.Rules.{Opens, IsWritten, InRange, Begins, Says, parts_in, turns_among}
use Rattle.file_text.specs.Causes.{IsOver, Passes}

pub sessions_few : (before : List Said) (line : List ℕ) → Opens SessionLines line → (IsOver before line Sessions → ⊥) → sessions_in before < 64
sessions_few before line o never = by_test (leb 64 (sessions_in before)) refl
  where
    by_test : (is : Bool) → leb 64 (sessions_in before) ≡ is → sessions_in before < 64
    by_test true e = let l : 64 ≤ sessions_in before = grind (arith, nat_tests, e) in absurd (never (o, l))
    by_test false e = grind (arith, nat_tests, e)

-- a whole line begins a line of its section
whole_begins : (section : Section) (before : List Said) (line : List ℕ) (said : Said) (items : List Item) → IsWritten section before line said → items ≡ Word (First section) ∷ behind_first said → Begins section before (parts_in section line) items
whole_begins section before line said items w e = record {
  may = record { back = []; line = record { said = said; of = w.of; form = w.form; written = append-nil items ∙ e } };
  spelled = subst (λ (l : List Item). Spells l (parts_in section line)) (sym e) w.spelled;
  in_range = subst (InRange before []) (sym e) w.in_range;
}

local_passes : (before : List Said) (line : List ℕ) (replica session : ℕ) → IsWritten LocalLines before line (LocalOf replica session) → 16 ≤ locals_in replica before → Passes before line Locals
local_passes before line replica session w l = record {
  section = LocalLines;
  of = refl;
  opens = w.opens;
  fitting = parts_in LocalLines line;
  left = [];
  are = sym (append-nil (parts_in LocalLines line));
  front = Word (First LocalLines) ∷ [];
  item = LocalWord replica session;
  begins = whole_begins LocalLines before line (LocalOf replica session) (Word (First LocalLines) ∷ LocalWord replica session ∷ []) w refl;
  passes = l;
}

own_section : (section own : Section) (before : List Said) (line : List ℕ) (said : Said) → IsWritten section before line said → section ≡ own → IsWritten own before line said
own_section section own before line said w s = subst (λ (x : Section). IsWritten x before line said) s w

pub locals_few : (before : List Said) (line : List ℕ) (replica session : ℕ) → Says before line (LocalOf replica session) → (IsOver before line Locals → ⊥) → locals_in replica before < 16
locals_few before line replica session says never = by_test (leb 16 (locals_in replica before)) refl
  where
    by_test : (is : Bool) → leb 16 (locals_in replica before) ≡ is → locals_in replica before < 16
    by_test true e =
        let l : 16 ≤ locals_in replica before = grind (arith, nat_tests, e) in
        let of = says.1.of in
        let s : says.0 ≡ LocalLines = cc in
        absurd (never (local_passes before line replica session (own_section says.0 LocalLines before line (LocalOf replica session) says.1 s) l))
    by_test false e = grind (arith, nat_tests, e)

-- words with a last one
record Last (words : List ScheduleWord) : Type 0 where
  init : List ScheduleWord
  last : ScheduleWord
  are : words ≡ init ++ last ∷ []

last_of : (word : ScheduleWord) (words : List ScheduleWord) → Last (word ∷ words)
last_of word [] = record { init = []; last = word; are = refl }
last_of word (next ∷ words) = let l = last_of next words in record { init = word ∷ l.init; last = l.last; are = ap (λ (s : List ScheduleWord). word ∷ s) l.are }

turns_are : (words : List ScheduleWord) → turns_among (map Turns words) ≡ turns_said words
turns_are [] = refl
turns_are (word ∷ words) = ap (λ (n : ℕ). turns_in word + n) (turns_are words)

turns_pass : (before : List Said) (line : List ℕ) (word : ScheduleWord) (words : List ScheduleWord) → IsWritten ScheduleLines before line (Schedule (word ∷ words))
    → 10000000 < scheduled_in before + turns_said (word ∷ words) → Passes before line ScheduleLimit
turns_pass before line word words w l =
    let end = last_of word words in
    let items : (Word (First ScheduleLines) ∷ map Turns end.init) ++ Turns end.last ∷ [] ≡ Word (First ScheduleLines) ∷ map Turns (word ∷ words) =
    ap (λ (s : List Item). Word (First ScheduleLines) ∷ s) (sym (map-append Turns end.init (end.last ∷ [])) ∙ ap (map Turns) (sym end.are)) in
    let same : turns_among ((Word (First ScheduleLines) ∷ map Turns end.init) ++ Turns end.last ∷ []) ≡ turns_said (word ∷ words) = ap turns_among items ∙ turns_are (word ∷ words) in
    record {
      section = ScheduleLines;
      of = refl;
      opens = w.opens;
      fitting = parts_in ScheduleLines line;
      left = [];
      are = sym (append-nil (parts_in ScheduleLines line));
      front = Word (First ScheduleLines) ∷ map Turns end.init;
      item = Turns end.last;
      begins = whole_begins ScheduleLines before line (Schedule (word ∷ words)) ((Word (First ScheduleLines) ∷ map Turns end.init) ++ Turns end.last ∷ []) w items;
      passes = subst (λ (n : ℕ). 10000000 < scheduled_in before + n) (sym same) l;
    }

pub turns_few : (before : List Said) (line : List ℕ) (words : List ScheduleWord) → Says before line (Schedule words) → (IsOver before line ScheduleLimit → ⊥) → scheduled_in before ≤ 10000000 → scheduled_in before + turns_said words ≤ 10000000
turns_few before line [] says never s = omega (arith, s)
turns_few before line (word ∷ words) says never s = by_test (leb (scheduled_in before + turns_said (word ∷ words)) 10000000) refl
  where
    by_test : (is : Bool) → leb (scheduled_in before + turns_said (word ∷ words)) 10000000 ≡ is → scheduled_in before + turns_said (word ∷ words) ≤ 10000000
    by_test true e = grind (arith, nat_tests, e)
    by_test false e =
        let l : 10000000 < scheduled_in before + turns_said (word ∷ words) = grind (arith, nat_tests, e) in
        let of = says.1.of in
        let o : says.0 ≡ ScheduleLines = cc in
        absurd (never (turns_pass before line word words (own_section says.0 ScheduleLines before line (Schedule (word ∷ words)) says.1 o) l))
