-- What is read of a schedule.
use Rattle.std.specs.Prelude.{◌≡◌, ◌<◌, ◌+◌, ℕ, List, ◌∷◌, ◌++◌, Bool, length, map}
use Rattle.workload_file.specs.declared.schedule.Item.{Item}
use Rattle.ptc_run.specs.declared.schedule_lines.ScheduleWord.{ScheduleWord}
use Rattle.ptc_run.specs.Lines.{lines_of}
use Rattle.ptc_run.specs.ScheduleLines.{schedule_line, word_text, schedule_of, AllowedWord, AllowedWords, AllowedSchedule, EndsSchedule}

-- no word stands at the front of the bytes
abbrev pub BeginsNoWord : Bool → List ℕ → Type 0
BeginsNoWord some_session bytes = (word : ScheduleWord) (more : List ℕ) → AllowedWord some_session word → bytes ≡ word_text word ++ more → ⊥

-- the first word
pub record WordRead (bytes : List ℕ) (some_session : Bool) (word : ScheduleWord) (rest : List ℕ) : Type 0 where
  pub allowed : AllowedWord some_session word
  pub text : bytes ≡ word_text word ++ rest
  pub shorter : length rest < length bytes

-- the first line is a SCHEDULE line of these words
pub record WordsRead (bytes : List ℕ) (some_session : Bool) (words : List ScheduleWord) (rest : List ℕ) : Type 0 where
  pub allowed : AllowedWords some_session words
  pub line : lines_of bytes ≡ schedule_line words ∷ lines_of rest
  pub shorter : length rest < length bytes

-- the SCHEDULE lines behind so many lines, and how many lines there are then
pub record ScheduleRead (bytes : List ℕ) (some_session : Bool) (before : ℕ) (items : List Item) (rest : List ℕ) (count : ℕ) : Type 0 where
  pub schedule : List (List ScheduleWord)
  pub allowed : AllowedSchedule some_session schedule
  pub is_schedule : items ≡ schedule_of schedule
  pub lines : lines_of bytes ≡ map schedule_line schedule ++ lines_of rest
  pub ends : EndsSchedule some_session (lines_of rest)
  pub counted : count ≡ before + length schedule
