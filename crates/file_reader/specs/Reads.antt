-- What is read of a file.
use Rattle.std.specs.Prelude.{◌≡◌, ◌≤◌, ◌⊎◌, ◌+◌, ◌++◌, ◌||◌, suc, codes, ℕ, Bool, true, false, List, [], Option, None, Some, Result, Ok, Err, length}
use Rattle.file_text.specs.declared.faults.FileFault.{FileFault}
use Rattle.file_text.specs.declared.faults.FileFault.TheVariants as f
use Rattle.file_text.specs.declared.faults.LimitKind.TheVariants.{Bytes}
use Rattle.file_text.specs.Parts.{words_of}
use Rattle.file_text.specs.Said.{Said}
use Rattle.file_text.specs.Context.{is_ended}
use Rattle.file_text.specs.Rules.{is_one_word}
use Rattle.file_text.specs.Causes.{most}
use Rattle.file_text.specs.File.{lines_of, content, has_feed, AreGood, IsFile, contents_of}
use Rattle.file_state.specs.declared.states.FileState.{FileState}
use Rattle.file_state.specs.Keeps.{Keeps}
use Rattle.line_checks.specs.declared.line_faults.LineFault.{LineFault}
use Rattle.line_reader.specs.Reads.{Reads}
use Rattle.file_reader.specs.Faults.{fault_at}

-- the bytes are a file, and the state is that of all its lines
pub record IsRead (bytes : List ℕ) (state : FileState) : Type 0 where
  pub said : List Said
  pub file : IsFile bytes (contents_of said)
  pub keeps : Keeps state said

-- ---- bridges to the code

abbrev pub is_whole : FileState → List ℕ → Bool
is_whole state line = has_feed line || (is_one_word (codes "END") (words_of line) || state.marks.ended)

-- the line of this number is refused for this
pub record Refuses (number : ℕ) (line : List ℕ) (old new : FileState) (refusal : FileFault) : Type 0 where
  pub fault : LineFault
  pub whole : is_whole old line ≡ true
  pub reads : Reads number (content line) old new (Some fault)
  pub is : refusal ≡ fault_at number fault

-- the line of this number is good and leads to the new state, or why not
abbrev pub IsTaken : ℕ → List ℕ → FileState → FileState → Result (Unit {0}) FileFault → Type 0
IsTaken number line old new (Ok done) = (is_whole old line ≡ true) × Reads number (content line) old new None
IsTaken number line old new (Err fault) = (fault ≡ f.Memory) ⊎ (((is_whole old line ≡ false) × (fault ≡ f.Truncated number)) ⊎ Refuses number line old new fault)

-- the lines before the rest are good
pub record ReadTo (bytes rest : List ℕ) (number : ℕ) (state : FileState) : Type 0 where
  pub front : List (List ℕ)
  pub said : List Said
  pub short : length bytes ≤ most Bytes
  pub parts : lines_of bytes ≡ front ++ lines_of rest
  pub good : AreGood [] front said
  pub keeps : Keeps state said
  pub number_is : number ≡ suc (length front)
  pub left : number + length rest ≤ suc (length bytes)
