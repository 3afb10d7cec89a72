-- The items of a whole line give what it says.
use Rattle.std.proofs.Common.{◌≡◌, ℕ, Bool, true, false, List, [], ◌∷◌, Some, map, refl, sym, ap, subst, ◌∙◌, arith, append-nil, length, leb-true, leb-false}
use Rattle.std.specs.Prelude.{◌≤◌, leb}
use Rattle.file_text.specs.Parts.{Part}
use Rattle.file_text.specs.declared.places.Section.{Section}
use Rattle.file_text.specs.declared.places.Section.TheVariants.{ReplicaLines, TableLines, RowLines}
use Rattle.file_text.specs.declared.places.Keyword.TheVariants.{First}
use Rattle.file_text.specs.declared.faults.LimitKind.TheVariants.{Replicas as ReplicaLimit}
use Rattle.file_text.specs.Said.{Said, Skipped, Header, Isolation, Replicas, TableOf, RowOf, SessionOf, LocalOf, StepOf, Schedule, End, Item, Word, Count, Turns, RepeatableRead, ReadCommitted, ReadUncommitted, Serializable, ScheduleWord, section_of, behind_first, HasForm, Spells, NodeWord, Name, Sign}
use Rattle.file_text.specs.Rules.{InRange, IsWritten, Says, parts_in}
use Rattle.line_words.specs.Actors.{kept}
use Rattle.line_words.specs.Items.{kept_word}
use Rattle.line_words.specs.declared.items.ItemWord.{ItemWord}
use Rattle.line_items.specs.Items.{kept_item}
use Rattle.line_items.specs.Readings.{IsUnder}
use Rattle.line_values.specs.Values.{the_words}
use Rattle.line_values.specs.Lines.{GivesCount, Gives, WholeLineSays}
use Rattle.line_values.proofs.RangeLemmas.{unless_none}
use Rattle.line_values.proofs.RowLemmas.{row_given}
use Rattle.line_values.proofs.TableLemmas.{table_given}
use Rattle.line_values.proofs.SchemaLemmas.{table_fits}
use Rattle.line_values.proofs.LengthLemmas.{row_values, row_texts}

words_of : (words : List ScheduleWord) → the_words (map kept_item (map Turns words)) ≡ map kept_word words
words_of [] = refl
words_of (word ∷ words) = ap (λ (l : List ItemWord). kept_word word ∷ l) (words_of words)

-- a line of replicas passes its limit at its number
count_given : (before : List Said) (parts : List Part) (count : ℕ) → Spells (Word (First ReplicaLines) ∷ Count count ∷ []) parts → InRange before [] (Word (First ReplicaLines) ∷ Count count ∷ [])
    → IsUnder ReplicaLines before parts → GivesCount count (map kept_item (Word (First ReplicaLines) ∷ Count count ∷ []))
count_given before parts count s r u = record { is = small; some = some; few = few }
  where
    some : 1 ≤ count
    some = leb-true 1 count (unless_none (leb 1 count) _ r.1.0)

    over : leb count 8 ≡ false → ⊥
    over f = u ReplicaLimit (record {
      of = refl;
      fitting = parts;
      left = [];
      are = sym (append-nil parts);
      front = Word (First ReplicaLines) ∷ [];
      item = Count count;
      begins = record {
        may = record { back = []; line = record { said = Replicas count; of = refl; form = tt; written = refl } };
        spelled = s;
        in_range = r;
      };
      passes = leb-false count 8 f;
    })

    by_test : (b : Bool) → leb count 8 ≡ b → count ≤ 8
    by_test true e = leb-true count 8 e
    by_test false e = absurd (over e)

    few : count ≤ 8
    few = by_test (leb count 8) refl

    small : kept count ≡ count
    small = omega (arith, few)

section_some : (x y : Section) → Some x ≡ Some y → x ≡ y
section_some x y e = cc

-- the line of a section gives what it says
abbrev GivesAll : List Said → List ℕ → Said → Section → Type 0
GivesAll before line said section =
    Spells (Word (First section) ∷ behind_first said) (parts_in section line) → InRange before [] (Word (First section) ∷ behind_first said) → IsUnder section before (parts_in section line)
    → Gives said (map kept_item (Word (First section) ∷ behind_first said))

gives : (before : List Said) (line : List ℕ) (said : Said) (section : Section) → length line ≤ 65535 → section_of said ≡ Some section → HasForm said → GivesAll before line said section
gives before line Skipped section l o h = absurd cc
gives before line (Header version) section l o h = λ s r u. tt
gives before line (Isolation RepeatableRead) section l o h = λ s r u. refl
gives before line (Isolation ReadCommitted) section l o h = λ s r u. refl
gives before line (Isolation ReadUncommitted) section l o h = λ s r u. refl
gives before line (Isolation Serializable) section l o h = λ s r u. refl
gives before line (Replicas count) section l o h = subst (GivesAll before line (Replicas count)) (section_some ReplicaLines section o) (λ s r u. count_given before (parts_in ReplicaLines line) count s r u)
gives before line (TableOf name columns) section l o h =
    subst (GivesAll before line (TableOf name columns)) (section_some TableLines section o)
    (λ s r u.
    let f = table_fits before (parts_in TableLines line) name columns h s r u in
    record { is = table_given TableLines before name columns h r; fits = f.0; few = f.1 })
gives before line (RowOf node table literals) section l o h =
    subst (GivesAll before line (RowOf node table literals)) (section_some RowLines section o)
    (λ s r u. record {
      is = row_given RowLines before node table literals h r;
      few = row_values (Word (First RowLines)) (NodeWord node) (Name table) (Sign 40) literals line l s;
      texts = row_texts (Word (First RowLines)) (NodeWord node) (Name table) (Sign 40) literals line l s;
    })
gives before line (SessionOf session) section l o h = λ s r u. tt
gives before line (LocalOf replica session) section l o h = λ s r u. refl
gives before line (StepOf step) section l o h = absurd cc
gives before line (Schedule words) section l o h = λ s r u. words_of words
gives before line End section l o h = λ s r u. tt

says_written : (section : Section) (before : List Said) (line : List ℕ) (said : Said) → section_of said ≡ Some section → IsWritten section before line said → Says before line said
says_written section before line Skipped o w = absurd cc
says_written section before line (Header version) o w = (section, w)
says_written section before line (Isolation level) o w = (section, w)
says_written section before line (Replicas count) o w = (section, w)
says_written section before line (TableOf name columns) o w = (section, w)
says_written section before line (RowOf node table literals) o w = (section, w)
says_written section before line (SessionOf session) o w = (section, w)
says_written section before line (LocalOf replica session) o w = (section, w)
says_written section before line (StepOf step) o w = absurd cc
says_written section before line (Schedule words) o w = (section, w)
says_written section before line End o w = (section, w)

pub whole_says : WholeLineSays
whole_says section before line items short opens w =
    let said = w.line.said in
    let spelled = subst (λ (l : List Item). Spells l (parts_in section line)) w.line.written w.spelled in
    let in_range = subst (InRange before []) w.line.written w.in_range in
    record {
      said = said;
      of = w.line.of;
      says = says_written section before line said w.line.of (record { opens = opens; of = w.line.of; form = w.line.form; spelled = spelled; in_range = in_range });
      form = w.line.form;
      in_range = in_range;
      are = w.kept ∙ ap (map kept_item) w.line.written;
      gives = subst (Gives said) (sym (w.kept ∙ ap (map kept_item) w.line.written)) (gives before line said section short w.line.of w.line.form spelled in_range w.under);
    }
