-- What the lines before a line give: tables, rows, scripts and the items of the schedule.
use Rattle.std.specs.Prelude.{◌+◌, ◌==◌, ◌||◌, ℕ, Bool, true, false, List, [], ◌∷◌, Option, None, Some, map, if◌then◌else◌}
use Rattle.std.specs.List.{flat_map}
use Rattle.row_types.specs.declared.table_schema.Column.{Column}
use Rattle.row_types.specs.declared.table_schema.Schema.{Schema}
use Rattle.ptc_statement.specs.declared.scripts.ScriptStep.{ScriptStep}
use Rattle.ptc_statement.specs.declared.scripts.ScriptStep.TheVariants.{Begin, Commit, Rollback, Run}
use Rattle.file_text.specs.declared.places.Section.{Section}
use Rattle.file_text.specs.declared.places.Section.TheVariants.{PtcLines, IsolationLines, ReplicaLines, TableLines, RowLines, SessionLines, LocalLines, ScheduleLines, EndLines}
use Rattle.file_text.specs.Said.{Said, Replicas, TableOf, SessionOf, LocalOf, StepOf, Schedule, End, ColumnText, Mark, Bare, Key, NotNull, section_of, ScheduleWord, Times}

abbrev pub is_nullable : Mark → Bool
is_nullable Bare = true
is_nullable Key = false
is_nullable NotNull = false

abbrev pub column_of : ColumnText → Column
column_of column = record { name = column.name; kind = column.kind; nullable = is_nullable column.mark }

abbrev pub mark_keys : Mark → ℕ
mark_keys Bare = 0
mark_keys Key = 1
mark_keys NotNull = 0

abbrev pub keys_in : List ColumnText → ℕ
keys_in [] = 0
keys_in (column ∷ columns) = mark_keys column.mark + keys_in columns

abbrev pub schema_of : List ℕ → List ColumnText → Schema
schema_of name columns = record { name = name; columns = map column_of columns; key_len = keys_in columns }

abbrev pub schema_said : Said → List Schema
schema_said (TableOf name columns) = schema_of name columns ∷ []
schema_said _ = []

abbrev pub schemas_of : List Said → List Schema
schemas_of before = flat_map schema_said before

abbrev pub replicas_said : Said → ℕ
replicas_said (Replicas count) = count
replicas_said _ = 0

-- 0 before the REPLICAS line
abbrev pub replicas_of : List Said → ℕ
replicas_of [] = 0
replicas_of (said ∷ before) = replicas_said said + replicas_of before

abbrev pub session_said : Said → ℕ
session_said (SessionOf session) = 1
session_said _ = 0

abbrev pub sessions_in : List Said → ℕ
sessions_in [] = 0
sessions_in (said ∷ before) = session_said said + sessions_in before

abbrev pub local_said : ℕ → Said → ℕ
local_said replica (LocalOf other session) = if other == replica then 1 else 0
local_said replica _ = 0

abbrev pub locals_in : ℕ → List Said → ℕ
locals_in replica [] = 0
locals_in replica (said ∷ before) = local_said replica said + locals_in replica before

-- turns, with their repeats
abbrev pub turns_in : ScheduleWord → ℕ
turns_in (Times turn count) = count
turns_in _ = 1

abbrev pub turns_of : List ScheduleWord → ℕ
turns_of [] = 0
turns_of (word ∷ words) = turns_in word + turns_of words

abbrev pub scheduled_said : Said → ℕ
scheduled_said (Schedule words) = turns_of words
scheduled_said _ = 0

abbrev pub scheduled_in : List Said → ℕ
scheduled_in [] = 0
scheduled_in (said ∷ before) = scheduled_said said + scheduled_in before

abbrev pub is_end : Said → Bool
is_end End = true
is_end _ = false

abbrev pub is_ended : List Said → Bool
is_ended [] = false
is_ended (said ∷ before) = is_end said || is_ended before

abbrev pub rank : Section → ℕ
rank PtcLines = 0
rank IsolationLines = 1
rank ReplicaLines = 2
rank TableLines = 3
rank RowLines = 4
rank SessionLines = 5
rank LocalLines = 6
rank ScheduleLines = 7
rank EndLines = 8

abbrev pub later : Option Section → Option Section → Option Section
later None section = section
later (Some first) None = Some first
later (Some first) (Some second) = Some second

-- the section of the last line that has one
abbrev pub section_at : List Said → Option Section
section_at [] = None
section_at (said ∷ before) = later (section_of said) (section_at before)

abbrev pub same_section : Section → Option Section → Bool
same_section section None = false
same_section section (Some other) = rank section == rank other

-- a line of this section stands there
abbrev pub is_there : Section → List Said → Bool
is_there section [] = false
is_there section (said ∷ before) = same_section section (section_of said) || is_there section before

abbrev pub has_script : Section → Bool
has_script SessionLines = true
has_script LocalLines = true
has_script _ = false

abbrev pub is_script : Option Section → Bool
is_script None = false
is_script (Some section) = has_script section

-- the line stands in a script
abbrev pub in_script : List Said → Bool
in_script before = is_script (section_at before)

abbrev pub step_opens : Bool → ScriptStep → Bool
step_opens within Begin = true
step_opens within Commit = false
step_opens within Rollback = false
step_opens within (Run statement) = within

abbrev pub said_opens : Bool → Said → Bool
said_opens within (StepOf step) = step_opens within step
said_opens within _ = within

abbrev pub opened : Bool → List Said → Bool
opened within [] = within
opened within (said ∷ before) = opened (said_opens within said) before

-- the script so far has a transaction that is not ended
abbrev pub is_open : List Said → Bool
is_open before = opened false before
