-- Which rule on what a line says it breaks first, if one.
use Rattle.std.specs.Prelude.{List, ℕ, Option, MatchOption}
use Rattle.file_text.specs.declared.places.Section.{Section}
use Rattle.file_text.specs.Said.{Said}
use Rattle.cause_laws.specs.Clear.{NoneBroken, FirstBroken}
use Rattle.line_checks.specs.declared.line_faults.LineFault.{LineFault}
use Rattle.line_checks.specs.Faults.{cause_of}

-- a line of the section that says this breaks none of the rules on what is said, or this one first
abbrev pub Decides : Section → List Said → List ℕ → Said → Option LineFault → Type 0
Decides section before line said fault = MatchOption fault (NoneBroken before said) (λ found. FirstBroken section before line said (cause_of found))
