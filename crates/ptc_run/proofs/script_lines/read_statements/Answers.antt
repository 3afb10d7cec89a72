use Rattle.ptc_run.proofs.ReadLemmas.{no_statements, statement_taken}
use Rattle.ptc_run.proofs.script_lines.read_statements.Goals as goal

pub loop-text-init : goal.loop-text-init
loop-text-init c = no_statements c.args.bytes.now c.args.first c.new-script.result c.new-script.ensures

pub loop-text-preserved : goal.loop-text-preserved
loop-text-preserved c =
    statement_taken c.args.bytes.now c.args.first c.loop-text.script c.push.new.self c.loop-text.rest.now c.in-Some.after.now c.loop-text.count c.in-Some.text c.in_ok-statement.statement
    c.loop-text.invariant c.in-Some.ensures c.in_ok-statement.ensures c.in_ok-push.ensures.ok
