use Rattle.ptc_run.proofs.ReadLemmas.{no_session, one_session}
use Rattle.ptc_run.proofs.script_lines.read_sessions.Goals as goal

pub returns-in-None-clause-read : goal.returns-in-None-clause-read
returns-in-None-clause-read c = no_session c.args.bytes.now c.args.rows c.new-sessions.result c.in-None.ensures c.new-sessions.ensures

pub returns-in_ok-push-in-Some-clause-read : goal.returns-in_ok-push-in-Some-clause-read
returns-in_ok-push-in-Some-clause-read c =
    one_session c.args.bytes.now c.in-Some.rest.now c.in_ok-lines-in-Some.rest.now c.args.rows c.new-sessions.result c.push.new.self c.in_ok-lines-in-Some.lines c.in_ok-lines-in-Some.count
    c.in-Some.ensures.0 c.in_ok-lines-in-Some.ensures.read c.new-sessions.ensures c.in_ok-push-in-Some.ensures.ok
