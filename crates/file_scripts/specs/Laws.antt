-- What one line more changes, and what is told of the lines before.
use Rattle.std.specs.Prelude.{◌+◌, ◌&&◌, not, ◌≡◌, ◌≤◌, ◌<◌, ◌^◌, ⊤, ℕ, suc, Bool, true, false, List, [], ◌∷◌, ◌++◌, Some, None, map, length}
use Rattle.std.specs.List.{flat_map, AllByRecursion}
use Rattle.ptc_statement.specs.declared.scripts.ScriptLine.{ScriptLine}
use Rattle.ptc_statement.specs.declared.scripts.ScriptStep.{ScriptStep}
use Rattle.file_text.specs.declared.faults.LimitKind.TheVariants.{Sessions, Locals, Schedule as ScheduleLimit}
use Rattle.file_text.specs.declared.places.Section.{Section}
use Rattle.file_text.specs.declared.places.Section.TheVariants.{SessionLines}
use Rattle.file_text.specs.Said.{Said, SessionOf, LocalOf, StepOf, Schedule, section_of, Turn, ScheduleWord, Node, Item, Turns}
use Rattle.file_text.specs.Context.{replicas_of, sessions_in, locals_in, scheduled_in, turns_of as turns_said, in_script, is_open}
use Rattle.file_text.specs.Rules.{InRange, Opens, Says}
use Rattle.file_text.specs.Causes.{IsOver, IsReplica, IsDeclared, AllDeclared, NodeIsDeclared, UndeclaredWord, BreaksScript}
use Rattle.file_text.specs.File.{sessions_from, locals_from}
use Rattle.line_words.specs.Actors.{kept, kept_turn}
use Rattle.line_words.specs.Items.{kept_word, kept_node}
use Rattle.line_items.specs.declared.counts.Counts.{Counts}
use Rattle.line_items.specs.Counted.{IsCounted}
use Rattle.workload.specs.declared.schedule.Item.{Item as ScheduleItem}
use Rattle.file_scripts.specs.declared.scripts.Owner.TheVariants as o
use Rattle.file_scripts.specs.declared.scripts.OwnScript.{OwnScript}
use Rattle.file_scripts.specs.Scripts.{begun, with_line, AreScripts, IsApart, sessions_of, locals_of}
use Rattle.file_scripts.specs.ScriptRules.{may_come, ends_script}
use Rattle.file_scripts.specs.Counting.{turns_of, CountsSession, CountsLocal, CountsTurns}
use Rattle.file_scripts.specs.Declarations.{is_within, declares_node, declares, first_undeclared}
use Rattle.file_scripts.specs.Schedules.{FitsWord, items_in, IsScheduleOf}

-- ---- scripts

abbrev pub NoScripts : Type 0
NoScripts = AreScripts [] []

abbrev pub SessionBegins : Type 0
SessionBegins = (scripts : List OwnScript) (before : List Said) (session : ℕ) → AreScripts scripts before → AreScripts (begun o.Session scripts) (before ++ SessionOf session ∷ [])

abbrev pub LocalBegins : Type 0
LocalBegins = (scripts : List OwnScript) (before : List Said) (replica session : ℕ) → AreScripts scripts before → AreScripts (begun (o.Local replica) scripts) (before ++ LocalOf replica session ∷ [])

abbrev pub ScriptsStay : Type 0
ScriptsStay = (scripts : List OwnScript) (before : List Said) (said : Said) → IsApart said → AreScripts scripts before → AreScripts scripts (before ++ said ∷ [])

-- a step of the script that the line stands in
abbrev pub StepComes : Type 0
StepComes = (scripts : List OwnScript) (before : List Said) (line : ScriptLine) → in_script before ≡ true → line.line ≡ suc (length before) → AreScripts scripts before → AreScripts (with_line line scripts) (before ++ StepOf line.step ∷ [])

-- where a line stands in a script, there is one
abbrev pub SomeScript : Type 0
SomeScript = (scripts : List OwnScript) (before : List Said) → in_script before ≡ true → AreScripts scripts before → 0 < length scripts

abbrev pub SessionsAre : Type 0
SessionsAre = (scripts : List OwnScript) (said : List Said) → AreScripts scripts said → sessions_of scripts ≡ sessions_from 1 said

abbrev pub LocalsAre : Type 0
LocalsAre = (scripts : List OwnScript) (said : List Said) (replica : ℕ) → AreScripts scripts said → locals_of replica scripts ≡ locals_from replica 1 said

-- a test tells that it is so, or that it is not
abbrev pub Tells : Bool → Type 0 → Type 0
Tells true Holds = Holds
Tells false Holds = Holds → ⊥

-- a step that may not come breaks the rule on scripts
abbrev pub StepsTold : Type 0
StepsTold = (before : List Said) (within : Bool) (step : ScriptStep) → within ≡ is_open before → Tells (not (may_come within step)) (BreaksScript before (StepOf step))

-- so does a line that ends a script within a transaction, and no other line of a section
abbrev pub LinesTold : Type 0
LinesTold = (before : List Said) (within : Bool) (said : Said) (section : Section) → within ≡ is_open before → section_of said ≡ Some section → Tells (within && ends_script section) (BreaksScript before said)

-- ---- counts

-- it is no SESSION, LOCAL or SCHEDULE line
abbrev pub IsUncounted : Said → Type 0
IsUncounted (SessionOf session) = ⊥
IsUncounted (LocalOf replica session) = ⊥
IsUncounted (Schedule words) = ⊥
IsUncounted _ = ⊤

abbrev pub CountsStay : Type 0
CountsStay = (counts : Counts) (before : List Said) (said : Said) → IsUncounted said → IsCounted counts before → IsCounted counts (before ++ said ∷ [])

abbrev pub SessionCounted : Type 0
SessionCounted = (old new : Counts) (before : List Said) (session : ℕ) → CountsSession old new → sessions_in before < 64 → IsCounted old before → IsCounted new (before ++ SessionOf session ∷ [])

abbrev pub LocalCounted : Type 0
LocalCounted = (old new : Counts) (before : List Said) (replica session : ℕ) → replica < 2 ^ 32 → CountsLocal replica old new → locals_in replica before < 16 → IsCounted old before → IsCounted new (before ++ LocalOf replica session ∷ [])

abbrev pub TurnsCounted : Type 0
TurnsCounted = (old new : Counts) (before : List Said) (words : List ScheduleWord) → turns_said words ≤ 10000000 → CountsTurns (turns_of (map kept_word words)) old new → IsCounted old before → IsCounted new (before ++ Schedule words ∷ [])

-- the turns of a line are those of its words as they are kept
abbrev pub TurnsKept : Type 0
TurnsKept = (words : List ScheduleWord) → turns_said words ≤ 10000000 → turns_of (map kept_word words) ≡ turns_said words

-- ---- counts of lines that pass no limit

abbrev pub SessionsFew : Type 0
SessionsFew = (before : List Said) (line : List ℕ) → Opens SessionLines line → (IsOver before line Sessions → ⊥) → sessions_in before < 64

abbrev pub LocalsFew : Type 0
LocalsFew = (before : List Said) (line : List ℕ) (replica session : ℕ) → Says before line (LocalOf replica session) → (IsOver before line Locals → ⊥) → locals_in replica before < 16

abbrev pub TurnsFew : Type 0
TurnsFew = (before : List Said) (line : List ℕ) (words : List ScheduleWord) → Says before line (Schedule words) → (IsOver before line ScheduleLimit → ⊥) → scheduled_in before ≤ 10000000 → scheduled_in before + turns_said words ≤ 10000000

-- ---- who is declared

-- these are the counts of the lines before, and their number of replicas
pub record Knows (counts : Counts) (replicas : ℕ) (before : List Said) : Type 0 where
  pub counted : IsCounted counts before
  pub number : replicas ≡ replicas_of before
  pub few : replicas ≤ 2 ^ 64

abbrev pub ReplicasTold : Type 0
ReplicasTold = (before : List Said) (replicas replica : ℕ) → replicas ≡ replicas_of before → replicas ≤ 2 ^ 64 → Tells (is_within (kept replica) replicas) (IsReplica before replica)

abbrev pub NodesTold : Type 0
NodesTold = (before : List Said) (replicas : ℕ) (node : Node) → replicas ≡ replicas_of before → replicas ≤ 2 ^ 64 → Tells (declares_node replicas (kept_node node)) (NodeIsDeclared before node)

abbrev pub ActorsTold : Type 0
ActorsTold = (counts : Counts) (before : List Said) (replicas : ℕ) (turn : Turn) → Knows counts replicas before → Tells (declares counts replicas (kept_turn turn)) (IsDeclared before turn)

-- the word that is told is the first of the line that names nobody
abbrev pub FirstTold : Type 0
FirstTold = (counts : Counts) (before : List Said) (replicas : ℕ) (words : List ScheduleWord) (found : ℕ) → Knows counts replicas before → first_undeclared counts replicas 0 (map kept_word words) ≡ Some found → UndeclaredWord before words found

abbrev pub NoneTold : Type 0
NoneTold = (counts : Counts) (before : List Said) (replicas : ℕ) (words : List ScheduleWord) → Knows counts replicas before → first_undeclared counts replicas 0 (map kept_word words) ≡ None → AllByRecursion (AllDeclared before) words

abbrev pub NoneUndeclared : Type 0
NoneUndeclared = (before : List Said) (words : List ScheduleWord) (number : ℕ) → AllByRecursion (AllDeclared before) words → UndeclaredWord before words number → ⊥

-- ---- the schedule

abbrev pub NoItems : Type 0
NoItems = IsScheduleOf [] []

abbrev pub IsNoSchedule : Said → Type 0
IsNoSchedule (Schedule words) = ⊥
IsNoSchedule _ = ⊤

abbrev pub ItemsStay : Type 0
ItemsStay = (items : List ScheduleItem) (before : List Said) (said : Said) → IsNoSchedule said → IsScheduleOf items before → IsScheduleOf items (before ++ said ∷ [])

-- the words of a line are declared, and their numbers in range
pub record AreWords (before : List Said) (words : List ScheduleWord) : Type 0 where
  pub declared : AllByRecursion (AllDeclared before) words
  pub few_replicas : replicas_of before ≤ 8
  pub few_sessions : sessions_in before ≤ 64
  pub few_locals : (replica : ℕ) → locals_in replica before ≤ 16
  pub front : List Item
  pub in_range : InRange before front (map Turns words)
  pub turns : turns_said words ≤ 10000000

abbrev pub WordsFit : Type 0
WordsFit = (before : List Said) (words : List ScheduleWord) → AreWords before words → AllByRecursion FitsWord (map kept_word words)

abbrev pub ItemsMore : Type 0
ItemsMore = (items : List ScheduleItem) (before : List Said) (words : List ScheduleWord) → AreWords before words → IsScheduleOf items before → IsScheduleOf (items ++ flat_map items_in (map kept_word words)) (before ++ Schedule words ∷ [])
