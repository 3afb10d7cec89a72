use Rattle.std.proofs.Common.{to_z-of_z}
use Rattle.std.proofs.lemmas.Option.{none-some}
use Rattle.ptc_run.specs.declared.script_lines.ScriptText.TheVariants.{Insert, Update, Delete}
use Rattle.ptc_run.proofs.ScriptLemmas.{insert_found, update_found, delete_found, just_one, no_statement}
use Rattle.ptc_run.proofs.script_lines.script_of.Goals as goal

pub returns-in-None-clause-only : goal.returns-in-None-clause-only
returns-in-None-clause-only c = λ text f e.
    absurd (no_statement c.args.line.now
    (λ key value g h is. none-some (key, value) (c.in_default.ensures.only key value g h is))
    (λ key value g h is. none-some (key, value) (c.in_default-update_of.ensures.only key value g h is))
    (λ key g is. none-some key (c.in-None.ensures.only key g is)) text f e)

pub returns-in-Some-clause-found : goal.returns-in-Some-clause-found
returns-in-Some-clause-found c =
    let found = c.in-Some.ensures.found in
    rw (to_z-of_z found.1, to_z-of_z found.2) (insert_found c.args.line.now c.in-Some.key c.in-Some.value found)

pub returns-in-Some-clause-only : goal.returns-in-Some-clause-only
returns-in-Some-clause-only c =
    let found = c.in-Some.ensures.found in
    rw (to_z-of_z found.1, to_z-of_z found.2)
    (just_one c.args.line.now (Insert c.in-Some.key c.in-Some.value) (insert_found c.args.line.now c.in-Some.key c.in-Some.value found))

pub returns-in-Some-update_of-clause-found : goal.returns-in-Some-update_of-clause-found
returns-in-Some-update_of-clause-found c =
    let found = c.in-Some-update_of.ensures.found in
    rw (to_z-of_z found.1, to_z-of_z found.2) (update_found c.args.line.now c.in-Some-update_of.key c.in-Some-update_of.value found)

pub returns-in-Some-update_of-clause-only : goal.returns-in-Some-update_of-clause-only
returns-in-Some-update_of-clause-only c =
    let found = c.in-Some-update_of.ensures.found in
    rw (to_z-of_z found.1, to_z-of_z found.2)
    (just_one c.args.line.now (Update c.in-Some-update_of.key c.in-Some-update_of.value) (update_found c.args.line.now c.in-Some-update_of.key c.in-Some-update_of.value found))

pub returns-in-Some-delete_of-clause-found : goal.returns-in-Some-delete_of-clause-found
returns-in-Some-delete_of-clause-found c =
    let found = c.in-Some-delete_of.ensures.found in
    rw (to_z-of_z found.1) (delete_found c.args.line.now c.in-Some-delete_of.key found)

pub returns-in-Some-delete_of-clause-only : goal.returns-in-Some-delete_of-clause-only
returns-in-Some-delete_of-clause-only c =
    let found = c.in-Some-delete_of.ensures.found in
    rw (to_z-of_z found.1) (just_one c.args.line.now (Delete c.in-Some-delete_of.key) (delete_found c.args.line.now c.in-Some-delete_of.key found))
