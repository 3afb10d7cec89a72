-- Lines that open no section: statements and the words of scripts.
use Rattle.std.proofs.Common.{◌≡◌, ◌⊎◌, ℕ, true, false, List, Some, None, refl, subst, inl, inr}
use Rattle.statement_grammar.specs.declared.text_faults.TextFault.{TextFault}
use Rattle.file_text.specs.declared.faults.LineCause.TheVariants.{Form, Statement as StatementCause, Tool, Script}
use Rattle.file_text.specs.Parts.{words_of, trimmed, past_end}
use Rattle.file_text.specs.declared.places.Section.{Section}
use Rattle.file_text.specs.Said.{Said, StepOf, section_of}
use Rattle.file_text.specs.Context.{schemas_of, in_script}
use Rattle.file_text.specs.Rules.{is_skipped, named_first, Opens, OpensNone, Says, word_step}
use Rattle.file_text.specs.Causes.{OfLine, MisfitAt, FirstMisfits, SaysWrong, IsSaidAgain, IsOtherLevel, IsRowThat, RowMisfits, IsTool, BreaksScript, IsUndeclared, StatementMisfits, IsRefused, IsGood}
use Rattle.ptc_statement.specs.declared.scripts.ScriptStep.{ScriptStep}
use Rattle.ptc_statement.specs.declared.scripts.ScriptStep.TheVariants.{Begin, Commit, Rollback, Run}
use Rattle.ptc_statement.specs.declared.statements.Statement.{Statement}
use Rattle.ptc_statement.specs.Fits.{IsClients}
use Rattle.statement_grammar.specs.FirstFault.{IsFirstFault as IsStatementFault}
use Rattle.statement_text_laws.proofs.OneTextLemmas.{never_both_of_text}
use Rattle.file_text.specs.Parts.{past_end}
use Rattle.file_text.specs.Rules.{next_place, IsStep}
use Rattle.file_laws.proofs.FitLemmas.{none_some, true_false}
use Rattle.file_laws.proofs.SaidLemmas.{one_said, view, View, IsSkip, IsOfStep, IsOfSection}
use Rattle.cause_laws.specs.Clear.{Clear, KeepsScript}
use Rattle.cause_laws.proofs.ClearLemmas.{clear_order, clear_form, clear_twice, clear_isolation, clear_row, clear_statement, clear_tool, clear_actor}
use Rattle.cause_laws.proofs.SaidLemmas.{past_script, all_past}

opened : {A : Type 0} (line : List ℕ) (section : Section) → OpensNone line → Opens section line → A
opened line section o p = absurd (none_some (named_first (words_of line)) section o.none p.first)

none_in_order : (before : List Said) (line : List ℕ) → OpensNone line → Clear 9 before line → Clear 10 before line
none_in_order before line o c = clear_order before line c (λ b. opened line b.section o b.opens)

-- outside a script
pub outside_refused : (before : List Said) (line : List ℕ) → OpensNone line → Clear 9 before line → in_script before ≡ false → IsRefused before line (OfLine (Form (next_place (past_end line) (words_of line))))
outside_refused before line o c e = record { breaks = inr (record { opens = o; outside = e; is = refl }); first = none_in_order before line o c }

-- what the line says wrong, it says as a line of a script
no_wrong : (before : List Said) (line : List ℕ) (P : Said → Type 0) → OpensNone line → ((step : ScriptStep) → P (StepOf step) → ⊥) → SaysWrong before line P → ⊥
no_wrong before line P o never w = cases (view before line w.said w.says)
  where
    cases : View before line w.said → ⊥
    cases (IsSkip e s) = true_false (is_skipped line) s o.counts
    cases (IsOfStep step e s) = never step (subst P e w.wrong)
    cases (IsOfSection s) = opened line s.0 o s.1.opens

pub inside_clear : (before : List Said) (line : List ℕ) → OpensNone line → Clear 9 before line → in_script before ≡ true → Clear 14 before line
inside_clear before line o c e =
    clear_row before line
    (clear_isolation before line
    (clear_twice before line
    (clear_form before line (none_in_order before line o c) no_form)
    (no_wrong before line (IsSaidAgain before) o (λ step w. w)))
    (no_wrong before line IsOtherLevel o (λ step w. w)))
    (λ fault. no_wrong before line (IsRowThat (λ table literals. RowMisfits before table literals fault)) o (λ step w. w))
  where
    no_form : (place : ℕ) → MisfitAt before line place ⊎ FirstMisfits before line place → ⊥
    no_form place (inl m) = opened line m.section o m.opens
    no_form place (inr m) = true_false (in_script before) e m.outside

pub statement_refused : (before : List Said) (line : List ℕ) (fault : TextFault) → OpensNone line → Clear 14 before line → in_script before ≡ true → word_step (words_of line) ≡ None
    → IsStatementFault (schemas_of before) (trimmed line) fault → IsRefused before line (OfLine (StatementCause fault))
statement_refused before line fault o c e n f = record { breaks = record { opens = o; inside = e; other = n; fails = f }; first = c }

-- ---- a line that is a step

step_says : (before : List Said) (line : List ℕ) (step : ScriptStep) → OpensNone line → in_script before ≡ true → IsStep before line step → Says before line (StepOf step)
step_says before line step o e s = (o, e, s)

read_fits : (before : List Said) (line : List ℕ) (step : ScriptStep) (fault : TextFault) → IsStep before line step → StatementMisfits before line fault → ⊥
read_fits before line Begin fault s m = none_some (word_step (words_of line)) Begin m.other s
read_fits before line Commit fault s m = none_some (word_step (words_of line)) Commit m.other s
read_fits before line Rollback fault s m = none_some (word_step (words_of line)) Rollback m.other s
read_fits before line (Run statement) fault s m = never_both_of_text (schemas_of before) (trimmed line) statement fault s.1 m.fails

read_clear : (before : List Said) (line : List ℕ) (step : ScriptStep) → Clear 14 before line → IsStep before line step → Clear 15 before line
read_clear before line step c s = clear_statement before line c (λ fault. read_fits before line step fault s)

-- a client's statement, or a word
abbrev pub IsClientsStep : ScriptStep → Type 0
IsClientsStep Begin = Unit {0}
IsClientsStep Commit = Unit {0}
IsClientsStep Rollback = Unit {0}
IsClientsStep (Run statement) = IsClients statement

pub tool_refused : (before : List Said) (line : List ℕ) (statement : Statement) → OpensNone line → in_script before ≡ true → Clear 14 before line → IsStep before line (Run statement) → (IsClients statement → ⊥) → IsRefused before line (OfLine Tool)
tool_refused before line statement o e c s never = record {
  breaks = record { said = StepOf (Run statement); says = step_says before line (Run statement) o e s; wrong = never };
  first = read_clear before line (Run statement) c s;
}

no_tool : (step : ScriptStep) → IsClientsStep step → IsTool (StepOf step) → ⊥
no_tool Begin k t = t
no_tool Commit k t = t
no_tool Rollback k t = t
no_tool (Run statement) k t = t k

clients_clear : (before : List Said) (line : List ℕ) (step : ScriptStep) → OpensNone line → in_script before ≡ true → Clear 14 before line → IsStep before line step → IsClientsStep step → Clear 16 before line
clients_clear before line step o e c s k =
    clear_tool before line (read_clear before line step c s)
    (λ w. no_tool step k (subst IsTool (one_said before line w.said (StepOf step) w.says (step_says before line step o e s)) w.wrong))

pub script_refused : (before : List Said) (line : List ℕ) (step : ScriptStep) → OpensNone line → in_script before ≡ true → Clear 14 before line → IsStep before line step → IsClientsStep step
    → BreaksScript before (StepOf step) → IsRefused before line (OfLine Script)
script_refused before line step o e c s k w = record {
  breaks = record { said = StepOf step; says = step_says before line step o e s; wrong = w };
  first = clients_clear before line step o e c s k;
}

pub step_good : (before : List Said) (line : List ℕ) (step : ScriptStep) → OpensNone line → in_script before ≡ true → Clear 14 before line → IsStep before line step → IsClientsStep step
    → KeepsScript before (StepOf step) → IsGood before line (StepOf step)
step_good before line step o e c s k keeps =
    all_past before line (StepOf step) says
    (clear_actor before line (past_script before line (StepOf step) says (clients_clear before line step o e c s k) keeps) no_actor)
  where
    says : Says before line (StepOf step)
    says = step_says before line step o e s

    no_section : (section : Section) → section_of (StepOf step) ≡ Some section → ⊥
    no_section section f = cc

    no_actor : (place : ℕ) → IsUndeclared before line place → ⊥
    no_actor place b = no_section b.section (subst (λ (x : Said). section_of x ≡ Some b.section) (one_said before line b.said (StepOf step) b.says says) b.of)
