-- What is answered for the bytes of a file.
use Rattle.std.specs.Prelude.{◌≡◌, ◌⊎◌, ℕ, List, Result, Ok, Err}
use Rattle.file_text.specs.declared.faults.FileFault.{FileFault}
use Rattle.file_text.specs.declared.faults.FileFault.TheVariants.{Memory}
use Rattle.file_text.specs.File.{IsFirstFault}
use Rattle.workload.specs.declared.workloads.Workload.{Workload}
use Rattle.workload.specs.Gives.{IsWorkload}

-- the bytes are the file of this workload, or have this first fault
abbrev pub IsRead : List ℕ → Result Workload FileFault → Type 0
IsRead bytes (Ok workload) = IsWorkload bytes workload
IsRead bytes (Err fault) = (fault ≡ Memory) ⊎ IsFirstFault bytes fault

-- what is answered where the bytes are the file of this workload
abbrev pub IsOnly : Workload → Result Workload FileFault → Type 0
IsOnly workload (Ok other) = other ≡ workload
IsOnly workload (Err fault) = fault ≡ Memory

-- what is answered where this is their first fault
abbrev pub IsExactly : FileFault → Result Workload FileFault → Type 0
IsExactly fault (Ok workload) = ⊥
IsExactly fault (Err other) = (other ≡ Memory) ⊎ (other ≡ fault)
