-- A line of a section, by what it says.
use Rattle.std.proofs.Common.{◌≡◌, ◌<◌, ℕ, List, Some, refl, sym, subst, arith}
use Rattle.file_text.specs.declared.faults.LineCause.TheVariants.{AfterEnd, Order, Form, Twice, Row as RowCause, Statement as StatementCause, Tool, Script, Actor}
use Rattle.file_text.specs.Parts.{words_of}
use Rattle.file_text.specs.declared.places.Section.{Section}
use Rattle.file_text.specs.Said.{Said, StepOf, section_of}
use Rattle.file_text.specs.Rules.{named_first, Opens, Says}
use Rattle.file_text.specs.Causes.{Cause, OfLimit, OfLine, OfIsolation, SaysWrong, IsSaidAgain, IsOtherLevel, IsRowThat, RowMisfits, IsTool, BreaksScript, Undeclared, order, IsRefused, IsGood}
use Rattle.file_laws.proofs.FitLemmas.{none_some}
use Rattle.file_laws.proofs.SaidLemmas.{one_said}
use Rattle.file_laws.proofs.CauseLemmas.{limit_small}
use Rattle.cause_laws.specs.Clear.{Clear, NotAgain, NoOtherLevel, RowFits, KeepsScript, NamesDeclared, IsTwice, IsLevel, IsRow, IsScript, IsActor}
use Rattle.cause_laws.specs.Laws.{GoodLine, RefusedLine}
use Rattle.cause_laws.proofs.ClearLemmas.{clear_twice, clear_isolation, clear_row, clear_statement, clear_tool, clear_script, clear_actor}

-- the line says only this
not_wrong : (before : List Said) (line : List ℕ) (said : Said) (P : Said → Type 0) → Says before line said → (P said → ⊥) → SaysWrong before line P → ⊥
not_wrong before line said P s never w = never (subst P (one_said before line w.said said w.says s) w.wrong)

says_wrong : (before : List Said) (line : List ℕ) (said : Said) (P : Said → Type 0) → Says before line said → P said → SaysWrong before line P
says_wrong before line said P s w = record { said = said; says = s; wrong = w }

pub past_twice : (before : List Said) (line : List ℕ) (said : Said) → Says before line said → Clear 11 before line → NotAgain before said → Clear 12 before line
past_twice before line said s c n = clear_twice before line c (not_wrong before line said (IsSaidAgain before) s n)

pub past_level : (before : List Said) (line : List ℕ) (said : Said) → Says before line said → Clear 12 before line → NoOtherLevel said → Clear 13 before line
past_level before line said s c n = clear_isolation before line c (not_wrong before line said IsOtherLevel s n)

pub past_row : (before : List Said) (line : List ℕ) (said : Said) → Says before line said → Clear 13 before line → RowFits before said → Clear 14 before line
past_row before line said s c n = clear_row before line c (λ fault. not_wrong before line said (IsRowThat (λ table literals. RowMisfits before table literals fault)) s (n fault))

-- a line of a section is no statement
of_step : (section : Section) (said : Said) → section_of said ≡ Some section → IsTool said → ⊥
of_step section (StepOf step) o t = absurd cc
of_step section _ o t = t

pub past_tool : (section : Section) (before : List Said) (line : List ℕ) (said : Said) → Opens section line → section_of said ≡ Some section → Says before line said → Clear 14 before line → Clear 16 before line
past_tool section before line said o of s c =
    clear_tool before line
    (clear_statement before line c (λ fault b. none_some (named_first (words_of line)) section b.opens.none o.first))
    (not_wrong before line said IsTool s (of_step section said of))

pub past_script : (before : List Said) (line : List ℕ) (said : Said) → Says before line said → Clear 16 before line → KeepsScript before said → Clear 17 before line
past_script before line said s c n = clear_script before line c (not_wrong before line said (BreaksScript before) s n)

pub past_actor : (before : List Said) (line : List ℕ) (said : Said) → Says before line said → Clear 17 before line → NamesDeclared before said → Clear 18 before line
past_actor before line said s c n = clear_actor before line c (λ place b. n b.number (subst (λ (x : Said). Undeclared before x b.number) (one_said before line b.said said b.says s) b.who))

small_order : (cause : Cause) → order cause < 18
small_order (OfLimit which) = let g = limit_small which in omega (arith, g)
small_order OfIsolation = omega arith
small_order (OfLine AfterEnd) = omega arith
small_order (OfLine Order) = omega arith
small_order (OfLine (Form place)) = omega arith
small_order (OfLine Twice) = omega arith
small_order (OfLine (RowCause fault)) = omega arith
small_order (OfLine (StatementCause fault)) = omega arith
small_order (OfLine Tool) = omega arith
small_order (OfLine Script) = omega arith
small_order (OfLine (Actor place)) = omega arith

pub all_past : (before : List Said) (line : List ℕ) (said : Said) → Says before line said → Clear 18 before line → IsGood before line said
all_past before line said s c = record { says = s; good = λ cause b. c cause (small_order cause) b }

pub good_line : GoodLine
good_line section before line said o of s c n =
    all_past before line said s
    (past_actor before line said s
    (past_script before line said s
    (past_tool section before line said o of s
    (past_row before line said s
    (past_level before line said s
    (past_twice before line said s c n.twice) n.level) n.row)) n.script) n.actor)

refused_is : (before : List Said) (line : List ℕ) (cause other : Cause) → cause ≡ other → IsRefused before line other → IsRefused before line cause
refused_is before line cause other e r = subst (IsRefused before line) (sym e) r

pub refused_line : RefusedLine
refused_line section before line said cause o of s c (IsTwice w e) = refused_is before line cause _ e (record { breaks = says_wrong before line said (IsSaidAgain before) s w; first = c })
refused_line section before line said cause o of s c (IsLevel t w e) = refused_is before line cause _ e (record { breaks = says_wrong before line said IsOtherLevel s w; first = past_twice before line said s c t })
refused_line section before line said cause o of s c (IsRow t l fault w e) = refused_is before line cause _ e (record {
  breaks = says_wrong before line said (IsRowThat (λ table literals. RowMisfits before table literals fault)) s w;
  first = past_level before line said s (past_twice before line said s c t) l;
})
refused_line section before line said cause o of s c (IsScript t l r w e) = refused_is before line cause _ e (record {
  breaks = says_wrong before line said (BreaksScript before) s w;
  first = past_tool section before line said o of s (past_row before line said s (past_level before line said s (past_twice before line said s c t) l) r);
})
refused_line section before line said cause o of s c (IsActor t l r k number w e) = refused_is before line cause _ e (record {
  breaks = record { said = said; section = section; of = of; says = s; number = number; who = w; is = refl };
  first = past_script before line said s (past_tool section before line said o of s (past_row before line said s (past_level before line said s (past_twice before line said s c t) l) r)) k;
})
