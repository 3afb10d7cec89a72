use Rattle.std.proofs.lemmas.Option.{MatchOption-at_some}
use Rattle.ptc_run.proofs.ReadLemmas.{no_rows, row_taken}
use Rattle.ptc_run.proofs.first_form.read_rows.Goals as goal

pub loop-nodes-init : goal.loop-nodes-init
loop-nodes-init c = no_rows c.args.bytes.now c.new-nodes.result c.new-nodes.ensures

pub loop-nodes-preserved : goal.loop-nodes-preserved
loop-nodes-preserved c =
    let so_far = c.loop-nodes.invariant in
    row_taken c.args.bytes.now c.loop-nodes.nodes c.take_line.new.self c.loop-nodes.rest.now c.in-Some.after.now c.loop-nodes.count so_far
    (MatchOption-at_some _ _ c.in-Some.after c.in-Some.is (c.in_ok-after.ensures so_far.rows so_far.allowed so_far.keeps))
