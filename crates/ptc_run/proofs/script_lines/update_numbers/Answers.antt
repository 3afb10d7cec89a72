use Rattle.std.proofs.Common.{◌++◌, to_z-of_z}
use Rattle.std.specs.Prelude.{codes}
use Rattle.ptc_run.specs.ScriptLines.{number_text}
use Rattle.ptc_run.proofs.ScriptLemmas.{update_numbers_found}
use Rattle.ptc_run.proofs.script_lines.update_numbers.Goals as goal

pub returns-in_default-behind-clause-only : goal.returns-in_default-behind-clause-only
returns-in_default-behind-clause-only c = λ key value f g e.
    let behind = c.in-Some.ensures.only value (codes "WHERE id = " ++ number_text key) g e in
    absurd (c.in_default-behind.ensures _ behind.1)

pub returns-clause-found : goal.returns-clause-found
returns-clause-found c =
    let value = c.in-Some.ensures.found in
    let key = c.in-Some-last_number.ensures.found in
    rw (to_z-of_z value.1, to_z-of_z key.1)
    (update_numbers_found c.args.bytes.now c.in-Some.rest.now c.in-Some-behind.rest.now c.in-Some-last_number.key c.in-Some.value value c.in-Some-behind.ensures key)
