use Rattle.std.proofs.Common.{sym, ◌∙◌}
use Rattle.std.specs.Prelude.{codes}
use Rattle.std.proofs.lemmas.List.{append_cancel_left}
use Rattle.ptc_run.specs.ScriptLines.{update_text}
use Rattle.ptc_run.proofs.script_lines.update_of.Goals as goal

pub returns-in_default-clause-only : goal.returns-in_default-clause-only
returns-in_default-clause-only c = λ key value f g e. absurd (c.in_default.ensures _ e)

pub returns-clause-only : goal.returns-clause-only
returns-clause-only c = λ key value f g e. c.update_numbers.ensures.only key value f g (append_cancel_left (codes "UPDATE t SET v = ") c.in-Some.rest.now (update_text key value) (sym c.in-Some.ensures ∙ e))
