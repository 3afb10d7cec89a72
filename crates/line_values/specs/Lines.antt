-- What a whole line says, and what its items give.
use Rattle.std.specs.Prelude.{◌≡◌, ◌≤◌, ⊤, ℕ, Bool, true, false, List, [], ◌∷◌, Some, map, length}
use Rattle.std.specs.List.{AllByRecursion}
use Rattle.row_types.specs.Fit.{IsSchema}
use Rattle.row_types.specs.Faults.{TextIsShort}
use Rattle.file_text.specs.declared.places.Section.{Section}
use Rattle.file_text.specs.declared.places.Keyword.TheVariants.{First}
use Rattle.file_text.specs.Said.{Said, Skipped, Header, Isolation, Replicas, TableOf, RowOf, SessionOf, LocalOf, StepOf, Schedule, End, Word, Level, RepeatableRead, ReadCommitted, ReadUncommitted, Serializable, ColumnText, Literal, Node, value_of, section_of, behind_first, HasForm}
use Rattle.file_text.specs.Context.{column_of, schema_of}
use Rattle.file_text.specs.Rules.{Opens, InRange, Says, parts_in}
use Rattle.line_words.specs.Actors.{kept}
use Rattle.line_words.specs.Items.{kept_word, kept_node}
use Rattle.line_items.specs.declared.found_items.LineItem.{LineItem}
use Rattle.line_items.specs.Items.{kept_item}
use Rattle.line_items.specs.Readings.{IsWholeLine}
use Rattle.line_values.specs.declared.row_texts.RowText.{RowText}
use Rattle.line_values.specs.Values.{repeatable_in, the_count, the_replica, the_words}
use Rattle.line_values.specs.Tables.{schema_in}
use Rattle.line_values.specs.Rows.{row_in}

abbrev pub is_repeatable : Level → Bool
is_repeatable RepeatableRead = true
is_repeatable ReadCommitted = false
is_repeatable ReadUncommitted = false
is_repeatable Serializable = false

abbrev pub row_said : Node → List ℕ → List Literal → RowText
row_said node table literals = record { node = kept_node node; table = table; values = map value_of literals; minus = false }

pub record GivesCount (count : ℕ) (items : List LineItem) : Type 0 where
  pub is : the_count items ≡ count
  pub some : 1 ≤ count
  pub few : count ≤ 8

pub record GivesTable (name : List ℕ) (columns : List ColumnText) (items : List LineItem) : Type 0 where
  pub is : schema_in items ≡ schema_of name columns
  pub fits : IsSchema (schema_of name columns)
  pub few : length (map column_of columns) ≤ 16

pub record GivesRow (node : Node) (table : List ℕ) (literals : List Literal) (items : List LineItem) : Type 0 where
  pub is : row_in items ≡ row_said node table literals
  pub few : length (map value_of literals) ≤ 65535
  pub texts : AllByRecursion TextIsShort (map value_of literals)

-- the items give the values that the line says
abbrev pub Gives : Said → List LineItem → Type 0
Gives Skipped items = ⊤
Gives (Header version) items = ⊤
Gives (Isolation level) items = repeatable_in items ≡ is_repeatable level
Gives (Replicas count) items = GivesCount count items
Gives (TableOf name columns) items = GivesTable name columns items
Gives (RowOf node table literals) items = GivesRow node table literals items
Gives (SessionOf session) items = ⊤
Gives (LocalOf replica session) items = the_replica items ≡ kept replica
Gives (StepOf step) items = ⊤
Gives (Schedule words) items = the_words items ≡ map kept_word words
Gives End items = ⊤

-- these are the items of a line of the section, which says this
pub record IsSaid (section : Section) (before : List Said) (line : List ℕ) (items : List LineItem) : Type 0 where
  pub said : Said
  pub of : section_of said ≡ Some section
  pub says : Says before line said
  pub form : HasForm said
  pub in_range : InRange before [] (Word (First section) ∷ behind_first said)
  pub are : items ≡ map kept_item (Word (First section) ∷ behind_first said)
  pub gives : Gives said items

abbrev pub WholeLineSays : Type 0
WholeLineSays =
    (section : Section) (before : List Said) (line : List ℕ) (items : List LineItem)
    → length line ≤ 65535 → Opens section line → IsWholeLine section before (parts_in section line) items → IsSaid section before line items
