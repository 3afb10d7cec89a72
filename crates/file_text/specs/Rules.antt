-- When a line fits no form, and what else can be wrong with it.
use Rattle.std.specs.Prelude.{◌≡◌, ◌+◌, ◌==◌, ◌&&◌, ◌||◌, leb, not, ⊤, ℕ, suc, Bool, true, false, List, [], ◌∷◌, ◌++◌, Option, None, Some, length, codes, if◌then◌else◌}
use Rattle.std.specs.Option.{option_or}
use Rattle.std.specs.Str.{str_eq_ignore_ascii_case}
use Rattle.statement_tokens.specs.Tokens.{most_number}
use Rattle.statement_grammar.specs.FirstFault.{IsText}
use Rattle.ptc_statement.specs.declared.scripts.ScriptStep.{ScriptStep}
use Rattle.ptc_statement.specs.declared.scripts.ScriptStep.TheVariants.{Begin, Commit, Rollback, Run}
use Rattle.file_text.specs.Parts.{Part, is_sign, words_of, signed_words_of, row_parts_of, trimmed}
use Rattle.file_text.specs.declared.places.Section.{Section}
use Rattle.file_text.specs.declared.places.Section.TheVariants.{PtcLines, IsolationLines, ReplicaLines, TableLines, RowLines, SessionLines, LocalLines, ScheduleLines, EndLines}
use Rattle.file_text.specs.declared.places.Keyword.TheVariants.{First}
use Rattle.file_text.specs.Said.{Said, Skipped, StepOf, section_of, first_word, behind_first, HasForm, IsLineOf, Item, Word, Sign, Version, Count, Length, SessionWord, LocalWord, Turns, Digits, Spells, IsItem, Once, Times, Turn, OfFurtherWorker}
use Rattle.file_text.specs.Context.{schemas_of, sessions_in, locals_in, scheduled_in, turns_in, in_script}

-- ---- which section a line belongs to

abbrev pub is_empty : List ℕ → Bool
is_empty [] = true
is_empty (byte ∷ bytes) = false

abbrev pub is_comment : List ℕ → Bool
is_comment [] = false
is_comment (byte ∷ bytes) = byte == 35

-- empty, only spaces, or a comment
abbrev pub is_skipped : List ℕ → Bool
is_skipped line = is_comment line || is_empty (trimmed line)

abbrev pub IsSkipped : List ℕ → Type 0
IsSkipped line = is_skipped line ≡ true

-- up to the first sign
abbrev pub before_sign : List ℕ → List ℕ
before_sign [] = []
before_sign (byte ∷ bytes) = if is_sign byte then [] else byte ∷ before_sign bytes

-- TABLE and ROW may touch a sign
abbrev pub names_section : List ℕ → Section → Bool
names_section text TableLines = str_eq_ignore_ascii_case (first_word TableLines) (before_sign text)
names_section text RowLines = str_eq_ignore_ascii_case (first_word RowLines) (before_sign text)
names_section text section = str_eq_ignore_ascii_case (first_word section) text

abbrev pub first_named : List ℕ → List Section → Option Section
first_named text [] = None
first_named text (section ∷ sections) = if names_section text section then Some section else first_named text sections

unfoldable pub all_sections : List Section
all_sections = PtcLines ∷ IsolationLines ∷ ReplicaLines ∷ TableLines ∷ RowLines ∷ SessionLines ∷ LocalLines ∷ ScheduleLines ∷ EndLines ∷ []

-- the section that the first of these words begins
abbrev pub named_first : List Part → Option Section
named_first [] = None
named_first (part ∷ parts) = first_named part.text all_sections

pub record Opens (section : Section) (line : List ℕ) : Type 0 where
  pub counts : is_skipped line ≡ false
  pub first : named_first (words_of line) ≡ Some section

-- a line that opens no section
pub record OpensNone (line : List ℕ) : Type 0 where
  pub counts : is_skipped line ≡ false
  pub none : named_first (words_of line) ≡ None

abbrev pub parts_in : Section → List ℕ → List Part
parts_in TableLines line = signed_words_of line
parts_in RowLines line = row_parts_of line
parts_in _ line = words_of line

-- ---- numbers in range and in order

-- a number within a word: at its first byte, behind its letter, behind its point, behind the letter that follows the
-- point, or behind its star
pub data Digit : Type 0 where
  AtFirst : Digit
  BehindLetter : Digit
  BehindPoint : Digit
  BehindPointLetter : Digit
  BehindStar : Digit

abbrev pub behind_byte : ℕ → List ℕ → ℕ
behind_byte stop [] = 0
behind_byte stop (byte ∷ bytes) = if byte == stop then 1 else suc (behind_byte stop bytes)

-- how far the number's first digit stands from the word's first byte
abbrev pub offset_in : List ℕ → Digit → ℕ
offset_in text AtFirst = 0
offset_in text BehindLetter = 1
offset_in text BehindPoint = behind_byte 46 text
offset_in text BehindPointLetter = suc (behind_byte 46 text)
offset_in text BehindStar = behind_byte 42 text

abbrev pub unless : Bool → Digit → Option Digit
unless true digit = None
unless false digit = Some digit

abbrev pub misplaced_turn : Turn → Option Digit
misplaced_turn (OfFurtherWorker replica worker) = unless (leb 2 worker && leb worker 8) BehindPoint
misplaced_turn _ = None

abbrev pub turns_among : List Item → ℕ
turns_among [] = 0
turns_among (Turns word ∷ items) = turns_in word + turns_among items
turns_among (item ∷ items) = turns_among items

abbrev pub ends_in_minus : List Item → Bool
ends_in_minus [] = false
ends_in_minus (Sign sign ∷ []) = sign == 45
ends_in_minus (item ∷ []) = false
ends_in_minus (item ∷ next ∷ items) = ends_in_minus (next ∷ items)

-- which number of this item is out of its range or its order, if one is. `before` are the lines before, and
-- `front` the items before in the line. What passes a limit is in its range.
abbrev pub misplaced : List Said → List Item → Item → Option Digit
misplaced before front (Version version) = unless (version == 1) AtFirst
misplaced before front (Count count) = unless (leb 1 count) AtFirst
misplaced before front (Length length) = unless (leb 1 length && leb length 255) AtFirst
misplaced before front (SessionWord session) = unless (session == sessions_in before + 1) BehindLetter
misplaced before front (LocalWord replica session) =
    unless (session == locals_in replica before + 1 || leb 16 (locals_in replica before)) BehindPointLetter
misplaced before front (Turns (Once turn)) = misplaced_turn turn
misplaced before front (Turns (Times turn count)) =
    option_or (misplaced_turn turn)
    (unless ((leb 1 count && leb count 1000000) || not (leb (scheduled_in before + turns_among front + count) 10000000)) BehindStar)
misplaced before front (Digits n) = unless (leb n (most_number (ends_in_minus front))) AtFirst
misplaced before front _ = None

-- no number of the second items is misplaced behind the first ones
abbrev pub InRange : List Said → List Item → List Item → Type 0
InRange before front [] = ⊤
InRange before front (item ∷ items) = (misplaced before front item ≡ None) × InRange before (front ++ item ∷ []) items

-- ---- the first part that does not fit

-- these items may begin a line of the section
pub record MayBegin (section : Section) (front : List Item) : Type 0 where
  pub back : List Item
  pub line : IsLineOf section (front ++ back)

-- these parts begin a line of the section
pub record Begins (section : Section) (before : List Said) (parts : List Part) (front : List Item) : Type 0 where
  pub may : MayBegin section front
  pub spelled : Spells front parts
  pub in_range : InRange before [] front

-- how the part behind them fails
pub data Misfit : Type 0 where
  Missing : Misfit  -- there is none, and the line is not whole
  Unfit : Misfit  -- it is no item that may stand there
  Misplaced : Digit → Misfit  -- it is one, but a number in it is out of its range or its order

-- `left` are the parts behind the ones that fit
abbrev pub Misses : Section → List Said → List Item → List Part → Misfit → Type 0
Misses section before front [] Missing = IsLineOf section front → ⊥
Misses section before front (part ∷ left) Unfit = (item : Item) → MayBegin section (front ++ item ∷ []) → IsItem item part.text → ⊥
Misses section before front (part ∷ left) (Misplaced digit) = (item : Item) × MayBegin section (front ++ item ∷ []) × IsItem item part.text × (misplaced before front item ≡ Some digit)
Misses section before front left misfit = ⊥

-- where the next part begins, or one past the line's end
abbrev pub next_place : ℕ → List Part → ℕ
next_place past [] = past
next_place past (part ∷ parts) = part.place

abbrev pub next_text : List Part → List ℕ
next_text [] = []
next_text (part ∷ parts) = part.text

abbrev pub offset_of : Misfit → List ℕ → ℕ
offset_of Missing text = 0
offset_of Unfit text = 0
offset_of (Misplaced digit) text = offset_in text digit

-- the first parts fit, and the next one does not
pub record FitsUpTo (section : Section) (before : List Said) (parts fitting left : List Part) (misfit : Misfit) : Type 0 where
  pub are : parts ≡ fitting ++ left
  pub front : List Item
  pub begins : Begins section before fitting front
  pub misses : Misses section before front left misfit

-- ---- a whole line

-- the line is the one word
abbrev pub is_one_word : List ℕ → List Part → Bool
is_one_word word [] = false
is_one_word word (part ∷ []) = str_eq_ignore_ascii_case word part.text
is_one_word word (part ∷ other ∷ parts) = false

abbrev pub word_step : List Part → Option ScriptStep
word_step parts =
    if is_one_word (codes "BEGIN") parts then Some Begin
    else if is_one_word (codes "COMMIT") parts then Some Commit
    else if is_one_word (codes "ROLLBACK") parts then Some Rollback
    else None

-- the line is one of the three words, or else a statement
abbrev pub IsStep : List Said → List ℕ → ScriptStep → Type 0
IsStep before line (Run statement) = (word_step (words_of line) ≡ None) × IsText (schemas_of before) (trimmed line) statement
IsStep before line step = word_step (words_of line) ≡ Some step

pub record IsWritten (section : Section) (before : List Said) (line : List ℕ) (said : Said) : Type 0 where
  pub opens : Opens section line
  pub of : section_of said ≡ Some section
  pub form : HasForm said
  pub spelled : Spells (Word (First section) ∷ behind_first said) (parts_in section line)
  pub in_range : InRange before [] (Word (First section) ∷ behind_first said)

-- the line says this
abbrev pub Says : List Said → List ℕ → Said → Type 0
Says before line Skipped = IsSkipped line
Says before line (StepOf step) = OpensNone line × (in_script before ≡ true) × IsStep before line step
Says before line said = (section : Section) × IsWritten section before line said
