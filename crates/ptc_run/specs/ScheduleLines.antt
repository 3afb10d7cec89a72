-- The spelling of a SCHEDULE line, and the turns that it names.
use Rattle.std.specs.Prelude.{◌≡◌, ℕ, List, [], ◌∷◌, ◌++◌, Bool, IsTrue, codes, map}
use Rattle.std.specs.List.{AllByRecursion, flat_map}
use Rattle.workload_file.specs.declared.actors.Actor.{Actor}
use Rattle.workload_file.specs.declared.actors.Actor.TheVariants.{Session as OfSession, Tool as OfTool, Worker as OfWorker}
use Rattle.workload_file.specs.declared.schedule.Item.{Item}
use Rattle.workload_file.specs.declared.schedule.Item.TheVariants.{Turn}
use Rattle.ptc_run.specs.declared.schedule_lines.ScheduleWord.{ScheduleWord}
use Rattle.ptc_run.specs.declared.schedule_lines.ScheduleWord.TheVariants.{Session, Tool, Worker}

abbrev pub word_text : ScheduleWord → List ℕ
word_text Session = codes " s1"
word_text Tool = codes " c"
word_text Worker = codes " r1"

-- what stands behind SCHEDULE
abbrev pub words_text : List ScheduleWord → List ℕ
words_text words = flat_map word_text words ++ 10 ∷ []

unfoldable pub schedule_line : List ScheduleWord → List ℕ
schedule_line words = codes "SCHEDULE" ++ words_text words

abbrev pub actor_of : ScheduleWord → Actor
actor_of Session = OfSession 1
actor_of Tool = OfTool
actor_of Worker = OfWorker 1 1

abbrev pub item_of : ScheduleWord → Item
item_of word = Turn (actor_of word)

abbrev pub items_of : List ScheduleWord → List Item
items_of words = map item_of words

-- the items of all lines, in order
abbrev pub schedule_of : List (List ScheduleWord) → List Item
schedule_of schedule = flat_map items_of schedule

-- a session is named only where there is one
abbrev pub AllowedWord : Bool → ScheduleWord → Type 0
AllowedWord some_session Session = IsTrue some_session
AllowedWord some_session Tool = Unit {0}
AllowedWord some_session Worker = Unit {0}

abbrev pub AllowedWords : Bool → List ScheduleWord → Type 0
AllowedWords some_session words = AllByRecursion (AllowedWord some_session) words

abbrev pub AllowedSchedule : Bool → List (List ScheduleWord) → Type 0
AllowedSchedule some_session schedule = AllByRecursion (AllowedWords some_session) schedule

-- the line is no SCHEDULE line
abbrev pub IsNoSchedule : Bool → List ℕ → Type 0
IsNoSchedule some_session line = (words : List ScheduleWord) → AllowedWords some_session words → line ≡ schedule_line words → ⊥

-- the first of these lines is no SCHEDULE line
abbrev pub EndsSchedule : Bool → List (List ℕ) → Type 0
EndsSchedule some_session lines = (words : List ScheduleWord) (more : List (List ℕ)) → AllowedWords some_session words → lines ≡ schedule_line words ∷ more → ⊥
