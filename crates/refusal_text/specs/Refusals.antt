-- The line that refuses a workload file.
use Rattle.std.specs.Prelude.{ℕ, Bool, true, false, Option, Some, None, cond, List, [], ◌++◌, codes}
use Rattle.std.specs.Fmt.{decimal}
use Rattle.row_types.specs.declared.row_faults.RowFault.{RowFault}
use Rattle.row_types.specs.declared.row_faults.RowFault.TheVariants.{Arity, NullIn, Kind, OutOfRange, TooLong}
use Rattle.statement_grammar.specs.declared.text_faults.TextFault.{TextFault}
use Rattle.statement_grammar.specs.declared.text_faults.TextFault.TheVariants.{At, UnknownTable, UnknownColumn, KeyAssigned, NullIntoNotNull, Literal, TooDeep, Memory as NoStatementMemory}
use Rattle.file_text.specs.declared.faults.LimitKind.{LimitKind}
use Rattle.file_text.specs.declared.faults.LimitKind.TheVariants.{Bytes, LineBytes, Tables, Columns, Replicas, Sessions, Locals, Schedule}
use Rattle.file_text.specs.declared.faults.LineCause.{LineCause}
use Rattle.file_text.specs.declared.faults.LineCause.TheVariants.{AfterEnd, Order, Form, Twice, Row, Statement, Tool, Script, Actor}
use Rattle.file_text.specs.declared.faults.FileFault.{FileFault}
use Rattle.file_text.specs.declared.faults.FileFault.TheVariants.{Line, Limit, Isolation, Truncated, Memory}

abbrev pub limit_word : LimitKind → List ℕ
limit_word Bytes = codes "bytes"
limit_word LineBytes = codes "line bytes"
limit_word Tables = codes "tables"
limit_word Columns = codes "columns"
limit_word Replicas = codes "replicas"
limit_word Sessions = codes "sessions"
limit_word Locals = codes "locals"
limit_word Schedule = codes "schedule"

abbrev pub row_word : RowFault → List ℕ
row_word (Arity got want) = codes "arity"
row_word (NullIn column) = codes "null"
row_word (Kind column) = codes "kind"
row_word (OutOfRange column value) = codes "range"
row_word (TooLong column len) = codes "length"

-- where a statement is wrong, and how
abbrev pub place_of : TextFault → ℕ
place_of (At place) = place
place_of (UnknownTable place) = place
place_of (UnknownColumn place) = place
place_of (KeyAssigned place) = place
place_of (NullIntoNotNull place) = place
place_of (Literal place fault) = place
place_of (TooDeep place) = place
place_of NoStatementMemory = 0

abbrev pub statement_word : TextFault → List ℕ
statement_word (At place) = codes "syntax"
statement_word (UnknownTable place) = codes "unknown table"
statement_word (UnknownColumn place) = codes "unknown column"
statement_word (KeyAssigned place) = codes "key assigned"
statement_word (NullIntoNotNull place) = codes "null"
statement_word (Literal place fault) = row_word fault
statement_word (TooDeep place) = codes "too deep"
statement_word NoStatementMemory = []

-- why a line is refused
unfoldable pub cause_text : LineCause → List ℕ
cause_text AfterEnd = codes "after end"
cause_text Order = codes "order"
cause_text (Form place) = codes "form at " ++ decimal place
cause_text Twice = codes "twice"
cause_text (Row fault) = codes "row: " ++ row_word fault
cause_text (Statement fault) = codes "statement at " ++ decimal (place_of fault) ++ codes ": " ++ statement_word fault
cause_text Tool = codes "tool statement"
cause_text Script = codes "script"
cause_text (Actor place) = codes "actor at " ++ decimal place

unfoldable pub line_text : ℕ → List ℕ
line_text number = codes "line " ++ decimal number ++ codes ": "

-- what is wrong with a file
unfoldable pub fault_text : FileFault → List ℕ
fault_text (Line number cause) = line_text number ++ cause_text cause
fault_text (Limit which got) = codes "limit " ++ limit_word which ++ codes ": " ++ decimal got
fault_text (Isolation line) = line_text line ++ codes "isolation"
fault_text (Truncated line) = line_text line ++ codes "truncated"
fault_text Memory = []

-- out of memory refuses no file
abbrev pub is_refusal : FileFault → Bool
is_refusal (Line number (Statement NoStatementMemory)) = false
is_refusal (Line number cause) = true
is_refusal (Limit which got) = true
is_refusal (Isolation line) = true
is_refusal (Truncated line) = true
is_refusal Memory = false

unfoldable pub refused : List ℕ → List ℕ
refused program = program ++ codes ": workload refused: "

-- the line with which a program of this name refuses a file
abbrev pub refusal_of : List ℕ → FileFault → Option (List ℕ)
refusal_of program fault = cond (is_refusal fault) (Some (refused program ++ fault_text fault ++ codes "\n")) None
