-- What is answered to the bytes of a file.
use Rattle.std.specs.Prelude.{◌≡◌, ℕ, List, Option, Some, None, codes}
use Rattle.file_text.specs.declared.faults.FileFault.{FileFault}
use Rattle.file_text.specs.File.{IsFirstFault}
use Rattle.refusal_text.specs.Refusals.{refusal_of}
use Rattle.workload.specs.declared.workloads.Workload.{Workload}
use Rattle.workload.specs.Gives.{IsWorkload}

-- the line with which the program refuses a file for this
abbrev pub IsRefusal : FileFault → List ℕ → Type 0
IsRefusal fault line = refusal_of (codes "file_check") fault ≡ Some line

-- nothing where the bytes are the file of a workload, and else the line of their first fault
abbrev pub IsChecked : List ℕ → Option (List ℕ) → Type 0
IsChecked bytes None = (workload : Workload) × IsWorkload bytes workload
IsChecked bytes (Some line) = (fault : FileFault) × IsFirstFault bytes fault × IsRefusal fault line
