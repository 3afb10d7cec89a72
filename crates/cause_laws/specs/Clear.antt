-- Which rules a line breaks, looked at in the order of the causes.
use Rattle.std.specs.Prelude.{◌≡◌, ◌<◌, ℕ, suc, List}
use Rattle.row_types.specs.declared.row_faults.RowFault.{RowFault}
use Rattle.file_text.specs.declared.faults.LineCause.TheVariants.{Twice, Row as RowCause, Script, Actor}
use Rattle.file_text.specs.Parts.{past_end, place_of}
use Rattle.file_text.specs.declared.places.Section.{Section}
use Rattle.file_text.specs.Said.{Said}
use Rattle.file_text.specs.Rules.{parts_in}
use Rattle.file_text.specs.Causes.{Cause, OfLine, OfIsolation, order, Breaks, IsSaidAgain, IsOtherLevel, IsRowThat, RowMisfits, BreaksScript, Undeclared}

-- no rule of a cause before this place in their order is broken
abbrev pub Clear : ℕ → List Said → List ℕ → Type 0
Clear place before line = (cause : Cause) → order cause < place → Breaks before line cause → ⊥

-- what it says breaks none of the rules on what is said
abbrev pub NotAgain : List Said → Said → Type 0
NotAgain before said = IsSaidAgain before said → ⊥

abbrev pub NoOtherLevel : Said → Type 0
NoOtherLevel said = IsOtherLevel said → ⊥

abbrev pub MisfitsRow : List Said → Said → RowFault → Type 0
MisfitsRow before said fault = IsRowThat (λ table literals. RowMisfits before table literals fault) said

abbrev pub RowFits : List Said → Said → Type 0
RowFits before said = (fault : RowFault) → MisfitsRow before said fault → ⊥

abbrev pub KeepsScript : List Said → Said → Type 0
KeepsScript before said = BreaksScript before said → ⊥

abbrev pub NamesDeclared : List Said → Said → Type 0
NamesDeclared before said = (number : ℕ) → Undeclared before said number → ⊥

pub record NoneBroken (before : List Said) (said : Said) : Type 0 where
  pub twice : NotAgain before said
  pub level : NoOtherLevel said
  pub row : RowFits before said
  pub script : KeepsScript before said
  pub actor : NamesDeclared before said

-- the first of these rules that a line of the section breaks
pub data FirstBroken (section : Section) (before : List Said) (line : List ℕ) (said : Said) (cause : Cause) : Type 0 where
  IsTwice : IsSaidAgain before said → cause ≡ OfLine Twice → FirstBroken section before line said cause
  IsLevel : NotAgain before said → IsOtherLevel said → cause ≡ OfIsolation → FirstBroken section before line said cause
  IsRow : NotAgain before said → NoOtherLevel said → (fault : RowFault) → MisfitsRow before said fault → cause ≡ OfLine (RowCause fault) → FirstBroken section before line said cause
  IsScript : NotAgain before said → NoOtherLevel said → RowFits before said → BreaksScript before said → cause ≡ OfLine Script → FirstBroken section before line said cause
  IsActor : NotAgain before said → NoOtherLevel said → RowFits before said → KeepsScript before said → (number : ℕ) → Undeclared before said number
      → cause ≡ OfLine (Actor (place_of (past_end line) (parts_in section line) (suc number))) → FirstBroken section before line said cause
