-- The tests of a line, in the order of its rules.
use Rattle.std.specs.Prelude.{◌&&◌, ◌||◌, not, ℕ, suc, Bool, true, false, List, [], ◌∷◌, Option, None, Some, bytes_eq, is_some, if◌then◌else◌}
use Rattle.row_types.specs.declared.table_schema.Column.{Column}
use Rattle.row_types.specs.declared.table_schema.Schema.{Schema}
use Rattle.row_types.specs.declared.row_faults.RowFault.{RowFault}
use Rattle.file_text.specs.declared.faults.LineCause.TheVariants.{Twice, Row, Script, Actor}
use Rattle.file_text.specs.declared.places.Section.{Section}
use Rattle.file_text.specs.declared.places.Section.TheVariants.{IsolationLines, LocalLines, ScheduleLines}
use Rattle.file_text.specs.Parts.{past_end, place_of}
use Rattle.file_text.specs.Rules.{parts_in}
use Rattle.line_words.specs.declared.items.ItemWord.{ItemWord}
use Rattle.line_items.specs.declared.counts.Counts.{Counts}
use Rattle.line_checks.specs.declared.line_faults.LineFault.{LineFault}
use Rattle.line_checks.specs.declared.line_faults.LineFault.TheVariants.{Cause, Isolation}
use Rattle.line_checks.specs.declared.marks.Marks.{Marks}
use Rattle.file_scripts.specs.ScriptRules.{ends_script}
use Rattle.file_scripts.specs.Declarations.{is_within, first_undeclared}
use Rattle.file_rows.specs.declared.file_tables.FileTable.{FileTable}
use Rattle.file_rows.specs.Puts.{place_named}
use Rattle.line_decisions.specs.declared.tests.LineTests.{LineTests}

-- the first that tells of a broken rule
abbrev pub first_script : Bool → Option ℕ → Option LineFault
first_script true actor = Some (Cause Script)
first_script false (Some place) = Some (Cause (Actor place))
first_script false None = None

abbrev pub first_row : Option RowFault → Bool → Option ℕ → Option LineFault
first_row (Some fault) script actor = Some (Cause (Row fault))
first_row None script actor = first_script script actor

abbrev pub first_level : Bool → Option RowFault → Bool → Option ℕ → Option LineFault
first_level true row script actor = Some Isolation
first_level false row script actor = first_row row script actor

abbrev pub first_twice : Bool → Bool → Option RowFault → Bool → Option ℕ → Option LineFault
first_twice true level row script actor = Some (Cause Twice)
first_twice false level row script actor = first_level level row script actor

abbrev pub first_broken : LineTests → Option LineFault
first_broken tests = first_twice tests.twice tests.level tests.row tests.script tests.actor

-- a line that may only be said once, or always
abbrev pub plain_tests : Section → Bool → Marks → LineTests
plain_tests section twice marks = record { twice = twice; level = false; row = None; script = marks.in_transaction && ends_script section; actor = None }

abbrev pub level_tests : Bool → Marks → LineTests
level_tests repeatable marks = record { twice = marks.isolation; level = not repeatable; row = None; script = marks.in_transaction && ends_script IsolationLines; actor = None }

abbrev pub actor_tests : Section → Option ℕ → Marks → LineTests
actor_tests section actor marks = record { twice = false; level = false; row = None; script = marks.in_transaction && ends_script section; actor = actor }

-- the place of the part of this number, the line's first word not counted
abbrev pub part_at : Section → List ℕ → ℕ → ℕ
part_at section line number = place_of (past_end line) (parts_in section line) (suc number)

abbrev pub replica_actor : ℕ → List ℕ → ℕ → Option ℕ
replica_actor replicas line replica = if is_within replica replicas then None else Some (part_at LocalLines line 0)

abbrev pub word_place : List ℕ → Option ℕ → Option ℕ
word_place line None = None
word_place line (Some number) = Some (part_at ScheduleLines line number)

abbrev pub schedule_actor : ℕ → Counts → List ℕ → List ItemWord → Option ℕ
schedule_actor replicas counts line words = word_place line (first_undeclared counts replicas 0 words)

-- a column of this name
abbrev pub any_named : List ℕ → List Column → Bool
any_named name [] = false
any_named name (column ∷ columns) = bytes_eq column.name name || any_named name columns

-- two columns of one name
abbrev pub has_twins : List Column → Bool
has_twins [] = false
has_twins (column ∷ columns) = any_named column.name columns || has_twins columns

abbrev pub table_twice : Schema → List FileTable → Bool
table_twice schema tables = is_some (place_named schema.name 0 tables) || has_twins schema.columns
