-- Steps of scripts: statements of the tool, and words that may not come.
use Rattle.std.proofs.Common.{◌≡◌, ℕ, Bool, true, false, List, Option, Some, None, refl, sym, subst}
use Rattle.std.specs.Prelude.{MatchOption, not, if◌then◌else◌}
use Rattle.ptc_statement.specs.declared.statements.Statement.{Statement}
use Rattle.ptc_statement.specs.declared.statements.Statement.TheVariants as s
use Rattle.ptc_statement.specs.declared.scripts.ScriptStep.{ScriptStep}
use Rattle.ptc_statement.specs.declared.scripts.ScriptStep.TheVariants.{Begin, Commit, Rollback, Run}
use Rattle.ptc_statement.specs.Fits.{IsClients}
use Rattle.file_text.specs.declared.faults.LineCause.TheVariants.{Tool, Script}
use Rattle.file_text.specs.Said.{Said, StepOf}
use Rattle.file_text.specs.Context.{in_script}
use Rattle.file_text.specs.Rules.{OpensNone, IsStep}
use Rattle.file_text.specs.Causes.{BreaksScript, IsGood, IsRefused}
use Rattle.cause_laws.specs.Clear.{Clear}
use Rattle.cause_laws.proofs.StepLemmas.{IsClientsStep, tool_refused, script_refused, step_good}
use Rattle.line_checks.specs.declared.line_faults.LineFault.{LineFault}
use Rattle.line_checks.specs.declared.line_faults.LineFault.TheVariants.{Cause}
use Rattle.line_checks.specs.declared.marks.Marks.{Marks}
use Rattle.line_checks.specs.Faults.{cause_of}
use Rattle.line_checks.specs.MarksOf.{IsMarked}
use Rattle.file_scripts.specs.ScriptRules.{may_come}
use Rattle.file_scripts.specs.Laws.{Tells}
use Rattle.file_scripts.proofs.RuleLemmas.{steps_told}
use Rattle.line_decisions.specs.Steps.{is_clients, is_clients_step, step_broken}

clients : (statement : Statement) → is_clients statement ≡ true → IsClients statement
clients (s.Insert table row) e = tt
clients (s.Replace table row) e = tt
clients (s.Delete table where_true) e = tt
clients (s.Update table sets where_true) e = tt
clients (s.LockRead table mode span where_true) e = tt
clients (s.Check table chunk span kind) e = absurd cc
clients (s.SetMaster table chunk kind master) e = absurd cc
clients (s.ClearChecks table) e = absurd cc

no_clients : (statement : Statement) → is_clients statement ≡ false → IsClients statement → ⊥
no_clients (s.Insert table row) e c = absurd cc
no_clients (s.Replace table row) e c = absurd cc
no_clients (s.Delete table where_true) e c = absurd cc
no_clients (s.Update table sets where_true) e c = absurd cc
no_clients (s.LockRead table mode span where_true) e c = absurd cc
no_clients (s.Check table chunk span kind) e c = c
no_clients (s.SetMaster table chunk kind master) e c = c
no_clients (s.ClearChecks table) e c = c

clients_step : (step : ScriptStep) → is_clients_step step ≡ true → IsClientsStep step
clients_step Begin e = tt
clients_step Commit e = tt
clients_step Rollback e = tt
clients_step (Run statement) e = clients statement e

abbrev Decided : List Said → List ℕ → ScriptStep → Option LineFault → Type 0
Decided before line step fault = MatchOption fault (IsGood before line (StepOf step)) (λ found. IsRefused before line (cause_of found))

tools_step : (before : List Said) (line : List ℕ) (step : ScriptStep) → OpensNone line → in_script before ≡ true → Clear 14 before line → IsStep before line step → is_clients_step step ≡ false → IsRefused before line (cause_of (Cause Tool))
tools_step before line Begin o i c s e = absurd cc
tools_step before line Commit o i c s e = absurd cc
tools_step before line Rollback o i c s e = absurd cc
tools_step before line (Run statement) o i c s e = tool_refused before line statement o i c s (no_clients statement e)

pub step_decided : (marks : Marks) (step : ScriptStep) (result : Option LineFault) → result ≡ step_broken marks.in_transaction step
    → (before : List Said) (line : List ℕ) → IsMarked marks before → OpensNone line → in_script before ≡ true → Clear 14 before line → IsStep before line step → MatchOption result (IsGood before line (StepOf step)) (λ found. IsRefused before line (cause_of found))
step_decided marks step result e before line m o i c s = subst (Decided before line step) (sym e) (by_client (is_clients_step step) refl)
  where
    by_script : (b : Bool) → may_come marks.in_transaction step ≡ b → IsClientsStep step → Decided before line step (if b then None else Some (Cause Script))
    by_script true t k = step_good before line step o i c s k (subst (λ (b : Bool). Tells (not b) (BreaksScript before (StepOf step))) t (steps_told before marks.in_transaction step m.in_transaction))
    by_script false t k = script_refused before line step o i c s k (subst (λ (b : Bool). Tells (not b) (BreaksScript before (StepOf step))) t (steps_told before marks.in_transaction step m.in_transaction))

    by_client : (b : Bool) → is_clients_step step ≡ b → Decided before line step (if b then (if may_come marks.in_transaction step then None else Some (Cause Script)) else Some (Cause Tool))
    by_client true t = by_script (may_come marks.in_transaction step) refl (clients_step step t)
    by_client false t = tools_step before line step o i c s t
