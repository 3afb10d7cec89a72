-- The rows of a node, the scripts and the schedule as they are kept while the file is read.
use Rattle.std.specs.Prelude.{◌≡◌, ◌<◌, ◌⊎◌, ℕ, ℤ, List, [], ◌∷◌, ◌++◌, ◌+◌, Option, None, IsSome, IsTrue, map, length}
use Rattle.std.specs.Ordering.{int_cmp}
use Rattle.std.specs.BTreeMap.{BTreeMap, get}
use Rattle.row_types.specs.declared.values.Value.{Value}
use Rattle.row_types.specs.declared.values.Value.TheVariants.{Int}
use Rattle.ptc_run.specs.declared.row_lines.RowLine.{RowLine}
use Rattle.ptc_run.specs.declared.kept_rows.Nodes.{Nodes}
use Rattle.ptc_run.specs.declared.first_form.Parts.{Parts}
use Rattle.ptc_run.specs.declared.script_lines.ScriptText.{ScriptText}
use Rattle.ptc_run.specs.declared.schedule_lines.ScheduleWord.{ScheduleWord}
use Rattle.ptc_statement.specs.declared.scripts.Script.{Script}
use Rattle.workload_file.specs.declared.schedule.Item.{Item}
use Rattle.ptc_run.specs.Lines.{lines_of}
use Rattle.ptc_run.specs.RowLines.{row_line, is_for_source, is_for_replica}
use Rattle.workload_file.specs.declared.workload.Workload.{Workload}
use Rattle.ptc_run.specs.ScriptLines.{sessions_of}
use Rattle.ptc_run.specs.ScheduleLines.{schedule_of}
use Rattle.ptc_run.specs.FirstForm.{first_schema, text_lines, keys_of, table_of, source_rows, replica_rows, IsNotAmong, AllowedRows, Allowed}

abbrev pub entry_values : ℤ × ℤ → List Value
entry_values entry = Int entry.0 ∷ Int entry.1 ∷ []

-- the rows of the map, by rising key
abbrev pub rows_in : BTreeMap ℤ ℤ → List (List Value)
rows_in entries = map entry_values entries.entries

-- the map holds the table of these lines, and knows their keys
pub record Keeps (kept : BTreeMap ℤ ℤ) (rows : List RowLine) : Type 0 where
  pub same : rows_in kept ≡ table_of rows
  pub absent : (key : ℤ) → get int_cmp kept key ≡ None → IsNotAmong key (keys_of rows)
  pub present : (key : ℤ) → IsSome (get int_cmp kept key) → IsNotAmong key (keys_of rows) → ⊥

-- both nodes do
pub record KeepsBoth (nodes : Nodes) (rows : List RowLine) : Type 0 where
  pub source : Keeps nodes.source (source_rows rows)
  pub replica : Keeps nodes.replica (replica_rows rows)

-- a node that the line names has its key
abbrev pub IsKnown : Nodes → RowLine → Type 0
IsKnown nodes row = (IsTrue (is_for_source row.node) × IsSome (get int_cmp nodes.source row.key)) ⊎ (IsTrue (is_for_replica row.node) × IsSome (get int_cmp nodes.replica row.key))

-- no node that the line names has its key
pub record IsNew (nodes : Nodes) (row : RowLine) : Type 0 where
  pub source : IsTrue (is_for_source row.node) → get int_cmp nodes.source row.key ≡ None
  pub replica : IsTrue (is_for_replica row.node) → get int_cmp nodes.replica row.key ≡ None

-- behind these rows no further one is allowed at the front of the lines
pub record EndsRows (rows : List RowLine) (lines : List (List ℕ)) : Type 0 where
  pub ends : (row : RowLine) (more : List (List ℕ)) → AllowedRows (rows ++ row ∷ []) → lines ≡ row_line row ∷ more → ⊥

-- the first line was an allowed row, which is kept now
pub record TakesRow (after : Nodes) (rows : List RowLine) (bytes rest : List ℕ) : Type 0 where
  pub row : RowLine
  pub allowed : AllowedRows (rows ++ row ∷ [])
  pub keeps : KeepsBoth after (rows ++ row ∷ [])
  pub line : lines_of bytes ≡ row_line row ∷ lines_of rest
  pub shorter : length rest < length bytes

-- the rows from the front of the bytes on, as far as these are allowed
pub record RowsRead (bytes : List ℕ) (nodes : Nodes) (rest : List ℕ) (count : ℕ) : Type 0 where
  pub rows : List RowLine
  pub allowed : AllowedRows rows
  pub keeps : KeepsBoth nodes rows
  pub lines : lines_of bytes ≡ map row_line rows ++ lines_of rest
  pub ends : EndsRows rows (lines_of rest)
  pub counted : count ≡ length rows

-- the rows, the scripts and the schedule of a whole file
pub record PartsRead (bytes : List ℕ) (parts : Parts) : Type 0 where
  pub rows : List RowLine
  pub script : Option (List ScriptText)
  pub schedule : List (List ScheduleWord)
  pub allowed : Allowed rows script schedule
  pub keeps : KeepsBoth parts.nodes rows
  pub sessions : parts.sessions ≡ sessions_of (length rows + 5) script
  pub items : parts.schedule ≡ schedule_of schedule
  pub lines : lines_of bytes ≡ text_lines rows script schedule

-- the workload with the rows of the maps, these scripts and this schedule
abbrev pub workload_in : Nodes → List Script → List Item → Workload
workload_in nodes sessions schedule = record {
  schemas = record { tables = first_schema ∷ [] };
  replicas = 1;
  source = rows_in nodes.source ∷ [];
  copies = (rows_in nodes.replica ∷ []) ∷ [];
  sessions = sessions;
  schedule = schedule;
}
