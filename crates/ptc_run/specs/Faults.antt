-- What a fault says of the bytes.
use Rattle.std.specs.Prelude.{◌≡◌, ◌<◌, ◌≤◌, ℕ, List, length}
use Rattle.ptc_run.specs.declared.first_form.LimitKind.TheVariants.{Bytes}
use Rattle.ptc_run.specs.declared.first_form.FileFault.{FileFault}
use Rattle.ptc_run.specs.declared.first_form.FileFault.TheVariants.{Early, Limit, Memory}
use Rattle.ptc_run.specs.FirstForm.{IsEarly}

-- A line is early in a file within the limit, and the limit is passed by more bytes than it allows.
abbrev pub IsFaultOf : List ℕ → FileFault → Type 0
IsFaultOf bytes (Early number) = (length bytes ≤ 16777216) × IsEarly bytes number
IsFaultOf bytes (Limit which got) = (16777216 < length bytes) × (which ≡ Bytes) × (got ≡ 16777217)
IsFaultOf bytes Memory = Unit {0}
