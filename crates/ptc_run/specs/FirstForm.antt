-- The first form of the workload file: a table, its rows on the source and on one replica, maybe a
-- script of one session, and a schedule.
use Rattle.std.specs.Prelude.{◌≡◌, ◌≢◌, ◌+◌, ◌<◌, ◌≤◌, ℕ, ℤ, List, [], ◌∷◌, ◌++◌, Option, true, false, is_some, length, take, map, filter, codes}
use Rattle.std.specs.List.{AllByRecursion, concat}
use Rattle.row_types.specs.declared.values.Value.{Value}
use Rattle.row_types.specs.declared.values.Value.TheVariants.{Int}
use Rattle.row_types.specs.declared.table_schema.ColumnKind.TheVariants.{BigInt}
use Rattle.row_types.specs.declared.table_schema.Schema.{Schema}
use Rattle.row_types.specs.Fit.{with_rows}
use Rattle.workload_file.specs.declared.workload.Workload.{Workload}
use Rattle.ptc_run.specs.declared.row_lines.RowLine.{RowLine}
use Rattle.ptc_run.specs.declared.script_lines.ScriptText.{ScriptText}
use Rattle.ptc_run.specs.declared.schedule_lines.ScheduleWord.{ScheduleWord}
use Rattle.ptc_run.specs.Lines.{lines_of}
use Rattle.ptc_run.specs.RowLines.{row_line, NumbersFit, is_for_source, is_for_replica}
use Rattle.ptc_run.specs.ScriptLines.{session_lines, sessions_of, AllowedScript}
use Rattle.ptc_run.specs.ScheduleLines.{schedule_line, schedule_of, AllowedSchedule}

unfoldable pub head_lines : List (List ℕ)
head_lines = codes "PTC WORKLOAD 1\n" ∷ codes "REPLICAS 1\n" ∷ codes "TABLE t (id BIGINT KEY, v BIGINT)\n" ∷ []

unfoldable pub end_line : List ℕ
end_line = codes "END\n"

-- the lines of a file with these rows, this script if there is one, and this schedule
abbrev pub text_lines : List RowLine → Option (List ScriptText) → List (List ScheduleWord) → List (List ℕ)
text_lines rows script schedule = head_lines ++ (map row_line rows ++ (session_lines script ++ (map schedule_line schedule ++ end_line ∷ [])))

-- the rows that the lines give the source, and the replica
abbrev pub source_rows : List RowLine → List RowLine
source_rows rows = filter (λ (row : RowLine). is_for_source row.node) rows

abbrev pub replica_rows : List RowLine → List RowLine
replica_rows rows = filter (λ (row : RowLine). is_for_replica row.node) rows

abbrev pub keys_of : List RowLine → List ℤ
keys_of rows = map (λ (row : RowLine). row.key) rows

abbrev pub IsNotAmong : ℤ → List ℤ → Type 0
IsNotAmong key keys = AllByRecursion (λ (other : ℤ). other ≢ key) keys

-- no key is there twice
abbrev pub AreDistinct : List ℤ → Type 0
AreDistinct [] = Unit {0}
AreDistinct (key ∷ keys) = IsNotAmong key keys × AreDistinct keys

-- numbers of 64 bits, and no key twice on a node
pub record AllowedRows (rows : List RowLine) : Type 0 where
  pub numbers : AllByRecursion NumbersFit rows
  pub source_once : AreDistinct (keys_of (source_rows rows))
  pub replica_once : AreDistinct (keys_of (replica_rows rows))

-- each part is allowed
pub record Allowed (rows : List RowLine) (script : Option (List ScriptText)) (schedule : List (List ScheduleWord)) : Type 0 where
  pub of_rows : AllowedRows rows
  pub of_script : AllowedScript script
  pub of_schedule : AllowedSchedule (is_some script) schedule

-- the table t (id BIGINT KEY, v BIGINT)
unfoldable pub first_schema : Schema
first_schema = record {
  name = codes "t";
  columns = record { name = codes "id"; kind = BigInt; nullable = false } ∷ record { name = codes "v"; kind = BigInt; nullable = true } ∷ [];
  key_len = 1;
}

abbrev pub values_of : RowLine → List Value
values_of row = Int row.key ∷ Int row.value ∷ []

-- the table with these rows put in, one after the other
abbrev pub table_of : List RowLine → List (List Value)
table_of rows = with_rows first_schema [] (map values_of rows)

-- what a run of a file with these parts begins from: behind the three fixed lines, the rows and the
-- line of the session stands the first statement
abbrev pub workload_of : List RowLine → Option (List ScriptText) → List (List ScheduleWord) → Workload
workload_of rows script schedule = record {
  schemas = record { tables = first_schema ∷ [] };
  replicas = 1;
  source = table_of (source_rows rows) ∷ [];
  copies = (table_of (replica_rows rows) ∷ []) ∷ [];
  sessions = sessions_of (length rows + 5) script;
  schedule = schedule_of schedule;
}

-- the bytes are a file of the first form, and this is its workload
pub record IsWorkloadText (bytes : List ℕ) (w : Workload) : Type 0 where
  pub rows : List RowLine
  pub script : Option (List ScriptText)
  pub schedule : List (List ScheduleWord)
  pub text : bytes ≡ concat (text_lines rows script schedule)
  pub allowed : Allowed rows script schedule
  pub workload : w ≡ workload_of rows script schedule

-- these lines begin a file of the first form, or are one
pub record BeginsForm (lines : List (List ℕ)) : Type 0 where
  pub rows : List RowLine
  pub script : Option (List ScriptText)
  pub schedule : List (List ScheduleWord)
  pub more : List (List ℕ)
  pub allowed : Allowed rows script schedule
  pub text : lines ++ more ≡ text_lines rows script schedule

-- these lines are a file of the first form
pub record IsForm (lines : List (List ℕ)) : Type 0 where
  pub rows : List RowLine
  pub script : Option (List ScriptText)
  pub schedule : List (List ScheduleWord)
  pub allowed : Allowed rows script schedule
  pub text : lines ≡ text_lines rows script schedule

-- The line of this number, from 1, is the first that is not in the form, or is missing there.
pub record IsEarly (bytes : List ℕ) (number : ℕ) : Type 0 where
  pub before : ℕ
  pub is_next : number ≡ before + 1
  pub within : before ≤ length (lines_of bytes)
  pub begins : BeginsForm (take before (lines_of bytes))
  pub stops : before < length (lines_of bytes) → BeginsForm (take (before + 1) (lines_of bytes)) → ⊥
  pub missing : before ≡ length (lines_of bytes) → IsForm (lines_of bytes) → ⊥
