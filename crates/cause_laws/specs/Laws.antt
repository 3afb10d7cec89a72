-- Lines that are good or refused once their form is known.
use Rattle.std.specs.Prelude.{◌≡◌, ℕ, List, Some}
use Rattle.file_text.specs.declared.places.Section.{Section}
use Rattle.file_text.specs.Said.{Said, section_of}
use Rattle.file_text.specs.Rules.{Opens, Says}
use Rattle.file_text.specs.Causes.{Cause, IsRefused, IsGood}
use Rattle.cause_laws.specs.Clear.{Clear, NoneBroken, FirstBroken}

-- a line of a section that has a form and breaks none of the rules on what is said
abbrev pub GoodLine : Type 0
GoodLine = (section : Section) (before : List Said) (line : List ℕ) (said : Said) → Opens section line → section_of said ≡ Some section → Says before line said → Clear 11 before line → NoneBroken before said → IsGood before line said

abbrev pub RefusedLine : Type 0
RefusedLine = (section : Section) (before : List Said) (line : List ℕ) (said : Said) (cause : Cause) → Opens section line → section_of said ≡ Some section → Says before line said → Clear 11 before line → FirstBroken section before line said cause → IsRefused before line cause
