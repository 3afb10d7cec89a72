-- Lines that break the rule on scripts.
use Rattle.std.proofs.Common.{◌≡◌, inl, inr, not, Bool, true, false, List, Some, refl, sym, ap, ◌∙◌}
use Rattle.std.specs.Prelude.{◌&&◌}
use Rattle.ptc_statement.specs.declared.scripts.ScriptStep.{ScriptStep}
use Rattle.ptc_statement.specs.declared.scripts.ScriptStep.TheVariants.{Begin, Commit, Rollback, Run}
use Rattle.file_text.specs.declared.places.Section.{Section}
use Rattle.file_text.specs.declared.places.Section.TheVariants.{PtcLines, IsolationLines, ReplicaLines, TableLines, RowLines, SessionLines, LocalLines, ScheduleLines, EndLines}
use Rattle.file_text.specs.Said.{Said, Skipped, Header, Isolation, Replicas, TableOf, RowOf, SessionOf, LocalOf, StepOf, Schedule, End, section_of}
use Rattle.file_text.specs.Context.{is_open}
use Rattle.file_text.specs.Causes.{ends_open, ends_closed, BreaksScript}
use Rattle.file_scripts.specs.ScriptRules.{may_come, ends_script}
use Rattle.file_scripts.specs.Laws.{Tells}
use Rattle.file_laws.proofs.TestLemmas.{both}
use Rattle.file_scripts.proofs.TestLemmas.{told}

step_breaks : (within : Bool) (before : List Said) (step : ScriptStep) → within ≡ is_open before → not (may_come within step) ≡ true → BreaksScript before (StepOf step)
step_breaks true before Begin e f = inl (sym e, tt)
step_breaks true before Commit e f = absurd cc
step_breaks true before Rollback e f = absurd cc
step_breaks true before (Run statement) e f = absurd cc
step_breaks false before Begin e f = absurd cc
step_breaks false before Commit e f = inr (sym e, tt)
step_breaks false before Rollback e f = inr (sym e, tt)
step_breaks false before (Run statement) e f = absurd cc

step_keeps : (within : Bool) (before : List Said) (step : ScriptStep) → within ≡ is_open before → not (may_come within step) ≡ false → BreaksScript before (StepOf step) → ⊥
step_keeps true before Begin e f h = cc
step_keeps true before Commit e f (inl h) = h.1
step_keeps true before Commit e f (inr h) = let g = h.0 in cc
step_keeps true before Rollback e f (inl h) = h.1
step_keeps true before Rollback e f (inr h) = let g = h.0 in cc
step_keeps true before (Run statement) e f (inl h) = h.1
step_keeps true before (Run statement) e f (inr h) = h.1
step_keeps false before Begin e f (inl h) = let g = h.0 in cc
step_keeps false before Begin e f (inr h) = h.1
step_keeps false before Commit e f h = cc
step_keeps false before Rollback e f h = cc
step_keeps false before (Run statement) e f (inl h) = h.1
step_keeps false before (Run statement) e f (inr h) = h.1

pub steps_told : (before : List Said) (within : Bool) (step : ScriptStep) → within ≡ is_open before → Tells (not (may_come within step)) (BreaksScript before (StepOf step))
steps_told before within step e = told (not (may_come within step)) (BreaksScript before (StepOf step)) (λ f. step_breaks within before step e f) (λ f h. step_keeps within before step e f h)

other_section : (own section : Section) → Some own ≡ Some section → ends_script own ≡ false → ends_script section ≡ true → ⊥
other_section own section of f e = let s : own ≡ section = cc in let t : ends_script own ≡ ends_script section = ap ends_script s in cc

ends_opens : (said : Said) (section : Section) → section_of said ≡ Some section → ends_script section ≡ true → ends_open said
ends_opens Skipped section of e = absurd cc
ends_opens (Header version) section of e = absurd (other_section PtcLines section of refl e)
ends_opens (Isolation level) section of e = absurd (other_section IsolationLines section of refl e)
ends_opens (Replicas count) section of e = absurd (other_section ReplicaLines section of refl e)
ends_opens (TableOf name columns) section of e = absurd (other_section TableLines section of refl e)
ends_opens (RowOf node table literals) section of e = absurd (other_section RowLines section of refl e)
ends_opens (SessionOf session) section of e = tt
ends_opens (LocalOf replica session) section of e = tt
ends_opens (StepOf step) section of e = absurd cc
ends_opens (Schedule words) section of e = tt
ends_opens End section of e = tt

own_section : (own section : Section) → Some own ≡ Some section → ends_script own ≡ true → ends_script section ≡ true
own_section own section of f = let s : section ≡ own = cc in ap ends_script s ∙ f

opens_ends : (said : Said) (section : Section) → section_of said ≡ Some section → ends_open said → ends_script section ≡ true
opens_ends Skipped section of h = absurd h
opens_ends (Header version) section of h = absurd h
opens_ends (Isolation level) section of h = absurd h
opens_ends (Replicas count) section of h = absurd h
opens_ends (TableOf name columns) section of h = absurd h
opens_ends (RowOf node table literals) section of h = absurd h
opens_ends (SessionOf session) section of h = own_section SessionLines section of refl
opens_ends (LocalOf replica session) section of h = own_section LocalLines section of refl
opens_ends (StepOf step) section of h = absurd cc
opens_ends (Schedule words) section of h = own_section ScheduleLines section of refl
opens_ends End section of h = own_section EndLines section of refl

not_closed : (said : Said) (section : Section) → section_of said ≡ Some section → ends_closed said → ⊥
not_closed Skipped section of h = h
not_closed (Header version) section of h = h
not_closed (Isolation level) section of h = h
not_closed (Replicas count) section of h = h
not_closed (TableOf name columns) section of h = h
not_closed (RowOf node table literals) section of h = h
not_closed (SessionOf session) section of h = h
not_closed (LocalOf replica session) section of h = h
not_closed (StepOf step) section of h = cc
not_closed (Schedule words) section of h = h
not_closed End section of h = h

line_breaks : (before : List Said) (within : Bool) (said : Said) (section : Section) → within ≡ is_open before → section_of said ≡ Some section → (within && ends_script section) ≡ true → BreaksScript before said
line_breaks before within said section e of f = let parts = both within (ends_script section) f in inl (sym e ∙ parts.0, ends_opens said section of parts.1)

line_keeps : (before : List Said) (within : Bool) (said : Said) (section : Section) → within ≡ is_open before → section_of said ≡ Some section → (within && ends_script section) ≡ false → BreaksScript before said → ⊥
line_keeps before within said section e of f (inl h) =
    let ends : ends_script section ≡ true = opens_ends said section of h.1 in
    let both : (within && ends_script section) ≡ true = ap (λ (b : Bool). b && ends_script section) (e ∙ h.0) ∙ ends in
    cc
line_keeps before within said section e of f (inr h) = not_closed said section of h.1

pub lines_told : (before : List Said) (within : Bool) (said : Said) (section : Section) → within ≡ is_open before → section_of said ≡ Some section → Tells (within && ends_script section) (BreaksScript before said)
lines_told before within said section e of = told (within && ends_script section) (BreaksScript before said) (λ f. line_breaks before within said section e of f) (λ f h. line_keeps before within said section e of f h)
