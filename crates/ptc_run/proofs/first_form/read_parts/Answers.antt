use Rattle.std.proofs.Common.{sym, ap, length}
use Rattle.std.proofs.lemmas.Bool.{eqb-true, eqb-false}
use Rattle.std.proofs.lemmas.List.{nil_from_length}
use Rattle.ptc_run.specs.declared.first_form.Parts.{Parts}
use Rattle.ptc_run.proofs.ReadLemmas.{front_read, early_row, early_line, all_read}
use Rattle.ptc_run.proofs.first_form.read_parts.Goals as goal

pub returns-in-None : goal.returns-in-None
returns-in-None c =
    let parts : Parts = record { nodes = c.in_ok-nodes.nodes; sessions = c.in_ok-sessions.sessions; schedule = c.in_ok-schedule.schedule } in
    let front = front_read c.args.bytes.now c.in-Ok.rest.now c.in_ok-nodes.rest.now c.in_ok-sessions.rest.now c.in_ok-schedule.rest.now parts c.in_ok-nodes.rows c.in_ok-sessions.lines c.in_ok-schedule.count c.is_empty-some_session.result
    c.in-Ok.ensures.0 c.in_ok-nodes.ensures.rows c.in_ok-sessions.ensures.read c.is_empty-some_session.ensures c.in_ok-schedule.ensures.read in
    (c.requires, early_row c.args.bytes.now c.in_ok-schedule.rest.now parts c.in_ok-schedule.count front c.in-None.ensures)

pub returns-then-is_empty : goal.returns-then-is_empty
returns-then-is_empty c =
    let parts : Parts = record { nodes = c.in_ok-nodes.nodes; sessions = c.in_ok-sessions.sessions; schedule = c.in_ok-schedule.schedule } in
    let front = front_read c.args.bytes.now c.in-Ok.rest.now c.in_ok-nodes.rest.now c.in_ok-sessions.rest.now c.in_ok-schedule.rest.now parts c.in_ok-nodes.rows c.in_ok-sessions.lines c.in_ok-schedule.count c.is_empty-some_session.result
    c.in-Ok.ensures.0 c.in_ok-nodes.ensures.rows c.in_ok-sessions.ensures.read c.is_empty-some_session.ensures c.in_ok-schedule.ensures.read in
    all_read c.args.bytes.now c.in_ok-schedule.rest.now c.in-Some.rest.now parts c.in_ok-schedule.count front c.in-Some.ensures.0 (nil_from_length c.in-Some.rest.now (eqb-true (length c.in-Some.rest.now) 0 (sym c.if-is_empty.ensures)))

pub returns-else-is_empty : goal.returns-else-is_empty
returns-else-is_empty c =
    let parts : Parts = record { nodes = c.in_ok-nodes.nodes; sessions = c.in_ok-sessions.sessions; schedule = c.in_ok-schedule.schedule } in
    let front = front_read c.args.bytes.now c.in-Ok.rest.now c.in_ok-nodes.rest.now c.in_ok-sessions.rest.now c.in_ok-schedule.rest.now parts c.in_ok-nodes.rows c.in_ok-sessions.lines c.in_ok-schedule.count c.is_empty-some_session.result
    c.in-Ok.ensures.0 c.in_ok-nodes.ensures.rows c.in_ok-sessions.ensures.read c.is_empty-some_session.ensures c.in_ok-schedule.ensures.read in
    (c.requires, early_line c.args.bytes.now c.in_ok-schedule.rest.now c.in-Some.rest.now parts c.in_ok-schedule.count front c.in-Some.ensures.0 (λ e. eqb-false (length c.in-Some.rest.now) 0 (sym c.if-is_empty.ensures) (ap length e)))
