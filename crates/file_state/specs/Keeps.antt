-- What the reader keeps of the lines before.
use Rattle.std.specs.Prelude.{◌≡◌, ◌≤◌, leb, length, suc, ⊤, ℕ, Bool, true, false, List, [], ◌∷◌, ◌++◌, Option, None, Some}
use Rattle.ptc_statement.specs.declared.scripts.ScriptLine.{ScriptLine}
use Rattle.file_text.specs.declared.places.Section.{Section}
use Rattle.file_text.specs.Said.{Said, Header, Isolation, End, StepOf}
use Rattle.file_text.specs.Context.{in_script, schemas_of, replicas_of, scheduled_in, section_at, is_there, rank}
use Rattle.file_text.specs.Causes.{tables_in, IsGood}
use Rattle.line_items.specs.Counted.{IsCounted}
use Rattle.line_checks.specs.MarksOf.{IsMarked}
use Rattle.file_rows.specs.Holds.{HoldsRows}
use Rattle.file_scripts.specs.Scripts.{AreScripts}
use Rattle.file_scripts.specs.Schedules.{IsScheduleOf}
use Rattle.file_state.specs.declared.states.FileState.{FileState}

abbrev pub is_no_later : Option Section → Section → Bool
is_no_later None section = false
is_no_later (Some last) section = leb (rank section) (rank last)

-- the last section is at or behind each that is there
abbrev pub IsRising : List Said → Type 0
IsRising before = (section : Section) → is_there section before ≡ true → is_no_later (section_at before) section ≡ true

-- the state is that of the lines before
pub record Keeps (state : FileState) (before : List Said) : Type 0 where
  pub marked : IsMarked state.marks before
  pub counted : IsCounted state.counts before
  pub schemas : state.schemas.tables ≡ schemas_of before
  pub rows : HoldsRows state.rows.tables.items before
  pub scripts : AreScripts state.scripts before
  pub schedule : IsScheduleOf state.schedule before
  pub rising : IsRising before
  pub few_tables : tables_in before ≤ 16
  pub few_replicas : replicas_of before ≤ 8
  pub few_turns : scheduled_in before ≤ 10000000

-- it is the state of some lines
pub record IsKept (state : FileState) : Type 0 where
  pub before : List Said
  pub keeps : Keeps state before

-- a line that leaves nothing but its section
abbrev pub IsPlain : Said → Type 0
IsPlain (Header version) = ⊤
IsPlain (Isolation level) = ⊤
IsPlain End = ⊤
IsPlain _ = ⊥

-- the good line that says this, behind any lines that the old state is of, leads to the new one
abbrev pub LeadsTo : Said → FileState → FileState → Type 0
LeadsTo said old new = (before : List Said) (line : List ℕ) → Keeps old before → IsGood before line said → Keeps new (before ++ said ∷ [])

-- the good line that is this step of a script, and has its number
abbrev pub LeadsOn : ScriptLine → FileState → FileState → Type 0
LeadsOn step old new =
    (before : List Said) (line : List ℕ) → Keeps old before → in_script before ≡ true → step.line ≡ suc (length before) → IsGood before line (StepOf step.step) → Keeps new (before ++ StepOf step.step ∷ [])
