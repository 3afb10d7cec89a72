-- What a line makes of the state, or why it is refused.
use Rattle.std.specs.Prelude.{◌≡◌, ◌≤◌, ℕ, List, [], ◌∷◌, ◌++◌, length, Option, None, Some}
use Rattle.file_text.specs.declared.places.Section.{Section}
use Rattle.file_text.specs.Said.{Said, RowOf, Node, Literal}
use Rattle.file_text.specs.Rules.{Opens}
use Rattle.file_text.specs.Causes.{IsRefused, IsGood}
use Rattle.line_items.specs.declared.found_items.LineItem.{LineItem}
use Rattle.line_values.specs.declared.row_texts.RowText.{RowText}
use Rattle.line_values.specs.Lines.{row_said}
use Rattle.file_rows.specs.Puts.{place_named, TakesAt}
use Rattle.line_checks.specs.declared.line_faults.LineFault.{LineFault}
use Rattle.line_checks.specs.Faults.{cause_of}
use Rattle.line_checks.specs.Checked.{HasForm}
use Rattle.file_state.specs.declared.states.FileState.{FileState}
use Rattle.file_state.specs.Keeps.{Keeps, LeadsTo}

-- the line is good, and the state is that of the lines with it
pub record GoesOn (before : List Said) (line : List ℕ) (new : FileState) : Type 0 where
  pub said : Said
  pub good : IsGood before line said
  pub keeps : Keeps new (before ++ said ∷ [])

-- it goes on, or is refused for this
abbrev pub Takes : List Said → List ℕ → FileState → Option LineFault → Type 0
Takes before line new None = GoesOn before line new
Takes before line new (Some fault) = IsRefused before line (cause_of fault)

-- a line of the section, in its form
pub record IsLine (section : Section) (before : List Said) (line : List ℕ) (items : List LineItem) : Type 0 where
  pub short : length line ≤ 65535
  pub opens : Opens section line
  pub form : HasForm section before line items

-- it comes next
pub record IsNext (section : Section) (state : FileState) (line : List ℕ) (items : List LineItem) : Type 0 where
  pub before : List Said
  pub keeps : Keeps state before
  pub is : IsLine section before line items

-- there is a table of the row's name, which takes the row
pub record HasPlace (state : FileState) (row : RowText) : Type 0 where
  pub place : ℕ
  pub named : place_named row.table 0 state.rows.tables.items ≡ Some place
  pub takes : TakesAt place row.values state.rows.tables.items

-- the row is put where its line says
abbrev pub IsPutOf : RowText → FileState → FileState → Type 0
IsPutOf row old new = (node : Node) (table : List ℕ) (literals : List Literal) → row ≡ row_said node table literals → LeadsTo (RowOf node table literals) old new
