-- What the answers say.
use Rattle.std.proofs.Common.{◌≡◌, ◌⊎◌, ℕ, List, Some, None, inl, inr, subst}
use Rattle.file_text.specs.declared.faults.FileFault.{FileFault}
use Rattle.file_text.specs.declared.faults.FileFault.TheVariants.{Memory}
use Rattle.file_text.specs.File.{IsFirstFault}
use Rattle.workload.specs.declared.workloads.Workload.{Workload}
use Rattle.workload.specs.Gives.{IsWorkload}
use Rattle.file_check.specs.Checks.{IsRefusal, IsChecked}

pub is_file : (bytes : List ℕ) (workload : Workload) → IsWorkload bytes workload → IsChecked bytes None
is_file bytes workload w = (workload, w)

-- out of memory has no line
no_line : (line : List ℕ) → IsRefusal Memory line → ⊥
no_line line r = cc

pub is_refused : (bytes line : List ℕ) (fault : FileFault) → (fault ≡ Memory) ⊎ IsFirstFault bytes fault → IsRefusal fault line → IsChecked bytes (Some line)
is_refused bytes line fault (inl e) r = absurd (no_line line (subst (λ (f : FileFault). IsRefusal f line) e r))
is_refused bytes line fault (inr f) r = (fault, f, r)
