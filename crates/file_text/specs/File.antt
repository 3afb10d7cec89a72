-- The text of a workload file, and its first fault.
use Rattle.std.specs.Prelude.{◌≡◌, ◌⊎◌, ◌+◌, ◌==◌, ◌&&◌, ◌≤◌, ◌<◌, ⊤, ℕ, zero, suc, Bool, true, false, List, [], ◌∷◌, ◌++◌, map, length, codes, if◌then◌else◌}
use Rattle.std.specs.Prelude.{bytes_eq, replicate}
use Rattle.std.specs.List.{flat_map, onto_first}
use Rattle.row_types.specs.declared.values.Value.{Value}
use Rattle.row_types.specs.declared.table_schema.Schema.{Schema}
use Rattle.row_types.specs.Fit.{with_rows}
use Rattle.ptc_statement.specs.declared.scripts.ScriptLine.{ScriptLine}
use Rattle.ptc_statement.specs.declared.scripts.Script.{Script}
use Rattle.file_text.specs.declared.faults.LimitKind.TheVariants.{Bytes}
use Rattle.file_text.specs.declared.faults.FileFault.{FileFault}
use Rattle.file_text.specs.declared.faults.FileFault.TheVariants.{Line, Limit, Isolation as IsolationFault, Truncated, Memory}
use Rattle.file_text.specs.Parts.{words_of}
use Rattle.file_text.specs.Said.{Said, Skipped, RowOf, SessionOf, LocalOf, StepOf, Schedule, value_of, ScheduleWord, Once, Times}
use Rattle.file_text.specs.Context.{schemas_of, replicas_of, is_ended}
use Rattle.file_text.specs.Rules.{is_one_word}
use Rattle.file_text.specs.Causes.{is_for, most, Cause, OfLimit, OfLine, OfIsolation, IsRefused, IsGood}

-- ---- lines

-- the lines, each with its line feed; a last piece without one is a line too
unfoldable pub lines_of : List ℕ → List (List ℕ)
lines_of [] = []
lines_of (byte ∷ bytes) = if byte == 10 then (byte ∷ []) ∷ lines_of bytes else onto_first byte (lines_of bytes)

-- without a line feed at its end, and without the one CR before it
abbrev pub content : List ℕ → List ℕ
content [] = []
content (byte ∷ []) = if byte == 10 then [] else byte ∷ []
content (byte ∷ next ∷ []) = if next == 10 then (if byte == 13 then [] else byte ∷ []) else byte ∷ next ∷ []
content (byte ∷ next ∷ other ∷ bytes) = byte ∷ content (next ∷ other ∷ bytes)

abbrev pub has_feed : List ℕ → Bool
has_feed [] = false
has_feed (byte ∷ []) = byte == 10
has_feed (byte ∷ next ∷ bytes) = has_feed (next ∷ bytes)

-- a piece without a line feed that is looked at: the END line, or anything behind it
abbrev pub IsWhole : List Said → List ℕ → Type 0
IsWhole before line = (has_feed line ≡ true) ⊎ (is_one_word (codes "END") (words_of line) ≡ true) ⊎ (is_ended before ≡ true)

-- these lines are good behind the ones before, and say this
abbrev pub AreGood : List Said → List (List ℕ) → List Said → Type 0
AreGood before [] [] = ⊤
AreGood before [] (said ∷ more) = ⊥
AreGood before (line ∷ lines) [] = ⊥
AreGood before (line ∷ lines) (said ∷ more) = IsWhole before line × IsGood before (content line) said × AreGood (before ++ said ∷ []) lines more

-- ---- what a file gives

-- the row that a line gives a table of a node, 0 for the source
abbrev pub row_said : ℕ → List ℕ → Said → List (List Value)
row_said node table (RowOf which other literals) = if is_for node which && bytes_eq table other then map value_of literals ∷ [] else []
row_said node table _ = []

abbrev pub table_in : List Said → ℕ → Schema → List (List Value)
table_in said node schema = with_rows schema [] (flat_map (row_said node schema.name) said)

abbrev pub tables_of_node : List Said → ℕ → List (List (List Value))
tables_of_node said node = map (table_in said node) (schemas_of said)

-- the nodes from this number on
abbrev pub nodes_from : ℕ → ℕ → List ℕ
nodes_from first zero = []
nodes_from first (suc count) = first ∷ nodes_from (suc first) count

-- the steps of a script that begins here, with the numbers of their lines
abbrev pub steps_from : ℕ → List Said → List ScriptLine
steps_from number [] = []
steps_from number (StepOf step ∷ said) = record { line = number; step = step } ∷ steps_from (suc number) said
steps_from number (Skipped ∷ said) = steps_from (suc number) said
steps_from number (other ∷ said) = []

abbrev pub sessions_from : ℕ → List Said → List Script
sessions_from number [] = []
sessions_from number (SessionOf session ∷ said) = record { lines = steps_from (suc number) said } ∷ sessions_from (suc number) said
sessions_from number (other ∷ said) = sessions_from (suc number) said

abbrev pub locals_from : ℕ → ℕ → List Said → List Script
locals_from replica number [] = []
locals_from replica number (LocalOf other session ∷ said) =
    if other == replica then record { lines = steps_from (suc number) said } ∷ locals_from replica (suc number) said
    else locals_from replica (suc number) said
locals_from replica number (other ∷ said) = locals_from replica (suc number) said

abbrev pub words_said : Said → List ScheduleWord
words_said (Schedule words) = words
words_said _ = []

-- an actor for several turns is so many turns of it
abbrev pub played : ScheduleWord → List ScheduleWord
played (Times turn count) = replicate count (Once turn)
played word = word ∷ []

-- what the file gives: tables by node, the source first, and scripts; the schedule is turn for turn
pub record Contents : Type 0 where
  pub schemas : List Schema
  pub replicas : ℕ
  pub source : List (List (List Value))
  pub copies : List (List (List (List Value)))
  pub sessions : List Script
  pub locals : List (List Script)
  pub schedule : List ScheduleWord

abbrev pub contents_of : List Said → Contents
contents_of said = record {
  schemas = schemas_of said;
  replicas = replicas_of said;
  source = tables_of_node said 0;
  copies = map (tables_of_node said) (nodes_from 1 (replicas_of said));
  sessions = sessions_from 1 said;
  locals = map (λ (replica : ℕ). locals_from replica 1 said) (nodes_from 1 (replicas_of said));
  schedule = flat_map played (flat_map words_said said);
}

-- The bytes are a workload file with these contents: each line is good behind the ones before it, and
-- one of them is END.
pub record IsFile (bytes : List ℕ) (contents : Contents) : Type 0 where
  pub short : length bytes ≤ most Bytes
  pub said : List Said
  pub lines : AreGood [] (lines_of bytes) said
  pub ended : is_ended said ≡ true
  pub gives : contents ≡ contents_of said

-- ---- the first fault

-- the lines before the one of this number, from 1, are good
pub record GoodBefore (bytes : List ℕ) (number : ℕ) (front rest : List (List ℕ)) (said : List Said) : Type 0 where
  pub short : length bytes ≤ most Bytes
  pub parts : lines_of bytes ≡ front ++ rest
  pub good : AreGood [] front said
  pub number_is : number ≡ suc (length front)

pub record RefusedAt (bytes : List ℕ) (number : ℕ) (cause : Cause) : Type 0 where
  pub front : List (List ℕ)
  pub line : List ℕ
  pub rest : List (List ℕ)
  pub said : List Said
  pub before : GoodBefore bytes number front (line ∷ rest) said
  pub whole : IsWhole said line
  pub refused : IsRefused said (content line) cause

-- the bytes end before END
pub record EndsAt (bytes : List ℕ) (number : ℕ) : Type 0 where
  pub front : List (List ℕ)
  pub rest : List (List ℕ)
  pub said : List Said
  pub before : GoodBefore bytes number front rest said
  pub no_end : is_ended said ≡ false
  pub cut : (line : List ℕ) (more : List (List ℕ)) → rest ≡ line ∷ more → IsWhole said line → ⊥

abbrev pub IsFirstFault : List ℕ → FileFault → Type 0
IsFirstFault bytes (Line number cause) = RefusedAt bytes number (OfLine cause)
IsFirstFault bytes (Limit Bytes got) = (most Bytes < length bytes) × (got ≡ most Bytes + 1)
IsFirstFault bytes (Limit which got) = ((number : ℕ) × RefusedAt bytes number (OfLimit which)) × (got ≡ most which + 1)
IsFirstFault bytes (IsolationFault number) = RefusedAt bytes number OfIsolation
IsFirstFault bytes (Truncated number) = EndsAt bytes number
IsFirstFault bytes Memory = ⊥
