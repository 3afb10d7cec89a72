-- The tests of a line tell which rule it breaks first.
use Rattle.std.proofs.Common.{◌≡◌, ℕ, Bool, true, false, List, Option, Some, None, refl, sym, ap, subst}
use Rattle.std.specs.Prelude.{MatchOption, ◌&&◌}
use Rattle.row_types.specs.declared.row_faults.RowFault.{RowFault}
use Rattle.file_text.specs.declared.faults.LineCause.TheVariants.{Actor}
use Rattle.file_text.specs.declared.places.Section.{Section}
use Rattle.file_text.specs.Said.{Said, section_of}
use Rattle.file_text.specs.Causes.{OfLine, IsSaidAgain, IsOtherLevel, BreaksScript, Undeclared}
use Rattle.file_laws.proofs.FitLemmas.{true_false}
use Rattle.cause_laws.specs.Clear.{NotAgain, NoOtherLevel, MisfitsRow, RowFits, KeepsScript, NamesDeclared, IsTwice, IsLevel, IsRow, IsScript, IsActor}
use Rattle.line_checks.specs.declared.line_faults.LineFault.{LineFault}
use Rattle.line_checks.specs.declared.marks.Marks.{Marks}
use Rattle.line_checks.specs.MarksOf.{IsMarked}
use Rattle.file_scripts.specs.ScriptRules.{ends_script}
use Rattle.file_scripts.specs.Laws.{Tells}
use Rattle.file_scripts.proofs.RuleLemmas.{lines_told}
use Rattle.line_decisions.specs.declared.tests.LineTests.{LineTests}
use Rattle.line_decisions.specs.Decides.{Decides}
use Rattle.line_decisions.specs.Tests.{first_script, first_row, first_level, first_twice, first_broken, part_at}

-- the word of this part names nobody
pub record NamesNobody (section : Section) (before : List Said) (line : List ℕ) (said : Said) (place : ℕ) : Type 0 where
  pub number : ℕ
  pub who : Undeclared before said number
  pub is : place ≡ part_at section line number

pub record IsTold (section : Section) (before : List Said) (line : List ℕ) (said : Said) (tests : LineTests) : Type 0 where
  pub twice : Tells tests.twice (IsSaidAgain before said)
  pub level : Tells tests.level (IsOtherLevel said)
  pub row : MatchOption tests.row (RowFits before said) (λ fault. MisfitsRow before said fault)
  pub script : Tells tests.script (BreaksScript before said)
  pub actor : MatchOption tests.actor (NamesDeclared before said) (λ place. NamesNobody section before line said place)

at_actor : (section : Section) (before : List Said) (line : List ℕ) (said : Said) (actor : Option ℕ) → MatchOption actor (NamesDeclared before said) (λ place. NamesNobody section before line said place)
    → NotAgain before said → NoOtherLevel said → RowFits before said → KeepsScript before said → Decides section before line said (first_script false actor)
at_actor section before line said None n t l r k = record { twice = t; level = l; row = r; script = k; actor = n }
at_actor section before line said (Some place) n t l r k = IsActor t l r k n.number n.who (ap (λ (p : ℕ). OfLine (Actor p)) n.is)

at_script : (section : Section) (before : List Said) (line : List ℕ) (said : Said) (script : Bool) (actor : Option ℕ) → Tells script (BreaksScript before said) → MatchOption actor (NamesDeclared before said) (λ place. NamesNobody section before line said place)
    → NotAgain before said → NoOtherLevel said → RowFits before said → Decides section before line said (first_script script actor)
at_script section before line said true actor w n t l r = IsScript t l r w refl
at_script section before line said false actor w n t l r = at_actor section before line said actor n t l r w

at_row : (section : Section) (before : List Said) (line : List ℕ) (said : Said) (row : Option RowFault) (script : Bool) (actor : Option ℕ) → MatchOption row (RowFits before said) (λ fault. MisfitsRow before said fault) → Tells script (BreaksScript before said)
    → MatchOption actor (NamesDeclared before said) (λ place. NamesNobody section before line said place) → NotAgain before said → NoOtherLevel said → Decides section before line said (first_row row script actor)
at_row section before line said (Some fault) script actor f w n t l = IsRow t l fault f refl
at_row section before line said None script actor f w n t l = at_script section before line said script actor w n t l f

at_level : (section : Section) (before : List Said) (line : List ℕ) (said : Said) (level : Bool) (row : Option RowFault) (script : Bool) (actor : Option ℕ) → Tells level (IsOtherLevel said) → MatchOption row (RowFits before said) (λ fault. MisfitsRow before said fault)
    → Tells script (BreaksScript before said) → MatchOption actor (NamesDeclared before said) (λ place. NamesNobody section before line said place) → NotAgain before said → Decides section before line said (first_level level row script actor)
at_level section before line said true row script actor v f w n t = IsLevel t v refl
at_level section before line said false row script actor v f w n t = at_row section before line said row script actor f w n t v

at_twice : (section : Section) (before : List Said) (line : List ℕ) (said : Said) (twice level : Bool) (row : Option RowFault) (script : Bool) (actor : Option ℕ) → Tells twice (IsSaidAgain before said) → Tells level (IsOtherLevel said)
    → MatchOption row (RowFits before said) (λ fault. MisfitsRow before said fault) → Tells script (BreaksScript before said) → MatchOption actor (NamesDeclared before said) (λ place. NamesNobody section before line said place)
    → Decides section before line said (first_twice twice level row script actor)
at_twice section before line said true level row script actor t v f w n = IsTwice t refl
at_twice section before line said false level row script actor t v f w n = at_level section before line said level row script actor v f w n t

pub decided : (section : Section) (before : List Said) (line : List ℕ) (said : Said) (tests : LineTests) (result : Option LineFault) → result ≡ first_broken tests → IsTold section before line said tests → Decides section before line said result
decided section before line said tests result e t =
    subst (Decides section before line said) (sym e) (at_twice section before line said tests.twice tests.level tests.row tests.script tests.actor t.twice t.level t.row t.script t.actor)

-- the rule on scripts, by the marks
pub script_told : (section : Section) (before : List Said) (said : Said) (marks : Marks) → IsMarked marks before → section_of said ≡ Some section → Tells (marks.in_transaction && ends_script section) (BreaksScript before said)
script_told section before said marks m o = lines_told before marks.in_transaction said section m.in_transaction o

-- a mark tells what it is a mark of
pub there_told : (b c : Bool) → b ≡ c → Tells b (c ≡ true)
there_told true c e = sym e
there_told false c e = λ f. true_false c f (sym e)
