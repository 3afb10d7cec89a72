use Rattle.ptc_run.proofs.script_lines.insert_of.Goals as goal

pub returns-in_default-clause-only : goal.returns-in_default-clause-only
returns-in_default-clause-only c = λ key value f g e. absurd (c.in_default.ensures _ e)
