-- A line that is read from the left: its items, its first misfit, or the limit that it passes before.
use Rattle.std.specs.Prelude.{◌≡◌, ◌+◌, ⊤, ℕ, Bool, true, false, List, [], ◌∷◌, ◌++◌, Option, None, Some, map, if◌then◌else◌}
use Rattle.file_text.specs.Parts.{Part, past_end}
use Rattle.file_text.specs.declared.places.Section.{Section}
use Rattle.file_text.specs.declared.places.Section.TheVariants.{TableLines, RowLines}
use Rattle.file_text.specs.declared.places.Spot.TheVariants.{SectionDue}
use Rattle.file_text.specs.declared.faults.LimitKind.{LimitKind}
use Rattle.file_text.specs.Said.{Said, Item, IsLineOf, Spells}
use Rattle.file_text.specs.Rules.{InRange, Begins, Misfit, FitsUpTo, parts_in, next_place, next_text, offset_of, offset_in}
use Rattle.file_text.specs.Causes.{PassesAt, limits}
use Rattle.file_text.specs.Spots.{may_end}
use Rattle.line_parts.specs.declared.cuttings.Cutting.{Cutting}
use Rattle.line_parts.specs.declared.cuttings.Cutting.TheVariants.{Words, SignedWords, RowFront}
use Rattle.line_items.specs.declared.counts.Counts.{Counts}
use Rattle.line_items.specs.declared.counts.Tally.{Tally}
use Rattle.line_items.specs.declared.found_items.LineItem.{LineItem}
use Rattle.line_items.specs.declared.found_items.FoundItem.{FoundItem}
use Rattle.line_items.specs.declared.ranges.NumberSpot.{NumberSpot}
use Rattle.line_items.specs.declared.steps.Step.{Step}
use Rattle.line_items.specs.declared.steps.Step.TheVariants.{Taken, Over as StepOver, Unfit as StepUnfit}
use Rattle.line_items.specs.declared.steps.Walk.{Walk}
use Rattle.line_items.specs.declared.line_readings.LineReading.{LineReading}
use Rattle.line_items.specs.declared.line_readings.LineReading.TheVariants.{Whole, Over, Misfit as MisfitRead}
use Rattle.line_items.specs.Items.{kept_item, IsItemAt, NoItemAt}
use Rattle.line_items.specs.Counted.{digit_of, misplaced_item, passed_item, tally_behind}

-- ---- what is believed

-- a part that passes a limit of the section, before the first that does not fit
pub record Exceeds (section : Section) (before : List Said) (parts : List Part) (which : LimitKind) : Type 0 where
  pub of : limits which ≡ Some section
  pub fitting : List Part
  pub left : List Part
  pub are : parts ≡ fitting ++ left
  pub front : List Item
  pub item : Item
  pub begins : Begins section before fitting (front ++ item ∷ [])
  pub passes : PassesAt which before item front

abbrev pub IsUnder : Section → List Said → List Part → Type 0
IsUnder section before parts = (which : LimitKind) → Exceeds section before parts which → ⊥

-- these parts are a line of the section, and these its items
pub record IsWholeLine (section : Section) (before : List Said) (parts : List Part) (found : List LineItem) : Type 0 where
  pub items : List Item
  pub line : IsLineOf section items
  pub spelled : Spells items parts
  pub in_range : InRange before [] items
  pub kept : found ≡ map kept_item items
  pub under : IsUnder section before parts

-- the first part that does not fit stands at this place
pub record IsMisfitAt (section : Section) (before : List Said) (line : List ℕ) (place : ℕ) : Type 0 where
  pub fitting : List Part
  pub left : List Part
  pub misfit : Misfit
  pub fits : FitsUpTo section before (parts_in section line) fitting left misfit
  pub is : place ≡ next_place (past_end line) left + offset_of misfit (next_text left)
  pub under : IsUnder section before (parts_in section line)

-- the line, behind these lines, is read so
abbrev pub IsReading : Section → List Said → List ℕ → LineReading → Type 0
IsReading section before line (Whole items) = IsWholeLine section before (parts_in section line) items.items
IsReading section before line (Over which) = Exceeds section before (parts_in section line) which
IsReading section before line (MisfitRead place) = IsMisfitAt section before line place

-- ---- bridges to the code

abbrev pub cutting_of : Section → Cutting
cutting_of TableLines = SignedWords
cutting_of RowLines = RowFront
cutting_of section = Words

abbrev pub step_by : Option NumberSpot → Option LimitKind → List ℕ → Step
step_by (Some number) passed text = StepUnfit (offset_in text (digit_of number))
step_by None (Some which) text = StepOver which
step_by None None text = Taken

-- what this item does, spelled by this text
abbrev pub step_of : Section → Counts → Tally → LineItem → List ℕ → Step
step_of section counts tally item text = step_by (misplaced_item counts tally item) (passed_item section counts tally item) text

-- nothing is read
pub record IsStart (section : Section) (walk : Walk) : Type 0 where
  pub items : walk.items.items ≡ []
  pub spot : walk.spot ≡ SectionDue section
  pub tally : walk.tally ≡ record { turns = 0; names = 0; behind_minus = false }

-- what is read with this item too
pub record IsBehind (old : Walk) (found : FoundItem) (new : Walk) : Type 0 where
  pub items : new.items.items ≡ old.items.items ++ found.item ∷ []
  pub spot : new.spot ≡ found.next
  pub tally : new.tally ≡ tally_behind old.tally found.item

-- what the next part does
pub data Steps (section : Section) (counts : Counts) (text : List ℕ) (old new : Walk) (step : Step) : Type 0 where
  NoItem : NoItemAt old.spot text → step ≡ StepUnfit 0 → Steps section counts text old new step
  AnItem : (found : FoundItem) → IsItemAt old.spot text found → step ≡ step_of section counts old.tally found.item text → (step ≡ Taken → IsBehind old found new) → Steps section counts text old new step

abbrev pub ends : Walk → List ℕ → LineReading
ends walk line = if may_end walk.spot then Whole walk.items else MisfitRead (past_end line)
