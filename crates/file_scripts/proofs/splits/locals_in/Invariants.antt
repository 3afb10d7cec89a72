use Rattle.std.proofs.Common.{◌≡◌, ◌<◌, ℕ, map}
use Rattle.file_text.specs.File.{nodes_from}
use Rattle.file_scripts.specs.Scripts.{locals_of}
use Rattle.file_scripts.proofs.splits.locals_in.Given as goal

abbrev pub invariant-loop-number : goal.invariant-loop-number
invariant-loop-number l =
    (l.locals ≡ map (λ (replica : ℕ). locals_of replica l.fn.scripts) (nodes_from 1 l.number))
    × ((replica : ℕ) → l.number < replica → locals_of replica l.left ≡ locals_of replica l.fn.scripts)
