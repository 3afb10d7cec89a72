-- What is due for the words and the input: the text to be written, and the status that goes with it.
use Rattle.std.specs.Prelude.{◌≡◌, ◌<◌, ◌≤◌, ◌⊎◌, ℕ, List, Option, Result, Ok, Err, length, IfSome}
use Rattle.ptc_io.specs.Bytes.{Appends, AppendsFront, IsAtEnd}
use Rattle.workload_file.specs.declared.workload.Workload.{Workload}
use Rattle.cluster_core.specs.World.{WorldView, begun, EndsIn}
use Rattle.report_text.specs.Report.{report_of}
use Rattle.cluster_core.specs.Summary.{summary_of, status_of}
use Rattle.cluster_laws.specs.Headline.{RunHolds}
use Rattle.ptc_run.specs.declared.words.WordFault.{WordFault}
use Rattle.ptc_run.specs.FirstForm.{IsWorkloadText, IsEarly}
use Rattle.ptc_run.specs.Words.{words_read, word_refusal, early_refusal, limit_refusal}

-- the input has more bytes than a file may have
pub record PassesLimit (input : List ℕ) (code : ℕ) (text : List ℕ) : Type 0 where
  pub over : 16777216 < length input
  pub refused : code ≡ 1
  pub line : text ≡ limit_refusal 16777217

-- the input is no file: this line is the first that is not in the form
pub record HasEarlyLine (input : List ℕ) (code : ℕ) (text : List ℕ) : Type 0 where
  pub within : length input ≤ 16777216
  pub number : ℕ
  pub early : IsEarly input number
  pub refused : code ≡ 1
  pub line : text ≡ early_refusal number

-- the input is the file of a workload, whose run ends in this world: its report is due
pub record HasRun (input : List ℕ) (code : ℕ) (text : List ℕ) : Type 0 where
  pub within : length input ≤ 16777216
  pub workload : Workload
  pub file : IsWorkloadText input workload
  pub last : WorldView
  pub run : EndsIn (begun workload) last
  -- each verdict in it compares the source's and the replica's rows at one position of its log
  pub holds : RunHolds workload last
  pub status : code ≡ status_of last
  pub report : text ≡ report_of (summary_of last)

abbrev pub FileDue : List ℕ → ℕ → List ℕ → Type 0
FileDue input code text = PassesLimit input code text ⊎ (HasEarlyLine input code text ⊎ HasRun input code text)

abbrev pub DueAfter : Result (Unit {0}) WordFault → List (List ℕ) → Option (List ℕ) → ℕ → List ℕ → Type 0
DueAfter (Err fault) words input code text = (code ≡ 1) × (text ≡ word_refusal words fault)
DueAfter (Ok run) words input code text = IfSome input (λ bytes. FileDue bytes code text)

-- by the words, and where they are taken by the input, as far as it is told
abbrev pub Due : List (List ℕ) → Option (List ℕ) → ℕ → List ℕ → Type 0
Due words input code text = DueAfter (words_read words) words input code text

-- what is due was written whole, and nothing else
pub record WroteDue (words : List (List ℕ)) (input written_before written_after : Option (List ℕ)) (code : ℕ) : Type 0 where
  pub text : List ℕ
  pub due : Due words input code text
  pub appended : Appends written_before written_after text

-- a prefix of what is due was written, and nothing else
pub record WroteFront (words : List (List ℕ)) (input written_before written_after : Option (List ℕ)) : Type 0 where
  pub code : ℕ
  pub text : List ℕ
  pub due : Due words input code text
  pub appended : AppendsFront written_before written_after text

-- the words are taken
abbrev pub AreTaken : List (List ℕ) → Type 0
AreTaken words = words_read words ≡ Ok tt

-- the statuses with which what is due was written: equal tables or not, or a refusal
abbrev pub IsWritten : ℕ → Type 0
IsWritten code = (code ≡ 0) ⊎ ((code ≡ 16) ⊎ (code ≡ 1))

-- a status of a whole report
abbrev pub IsReported : ℕ → Type 0
IsReported code = (code ≡ 0) ⊎ (code ≡ 16)

-- an input was read to its end, or has more bytes than a file may have, as far as it is told
abbrev pub WasReadOut : Option (List ℕ) → Option (List ℕ) → Type 0
WasReadOut before after = IsAtEnd after ⊎ IfSome before (λ input. 16777216 < length input)

-- the run of a workload ends in a world, whose report and status these are
pub record Reports (workload : Workload) (code : ℕ) (text : List ℕ) : Type 0 where
  pub last : WorldView
  pub run : EndsIn (begun workload) last
  pub status : code ≡ status_of last
  pub report : text ≡ report_of (summary_of last)
