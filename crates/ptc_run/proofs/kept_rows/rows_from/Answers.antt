use Rattle.std.proofs.Common.{SFits, w64, to_z-of_z, rules}
use Rattle.ptc_run.proofs.KeepLemmas.{row_pushed}
use Rattle.ptc_run.proofs.kept_rows.rows_from.Goals as goal

pub loop-key-preserved : goal.loop-key-preserved
loop-key-preserved c =
    let key : SFits w64 c.in-Some.key.now = search rules in
    let value : SFits w64 c.in-Some.value.now = search rules in
    let row = rw (to_z-of_z key, to_z-of_z value) at c.in_ok-row_from.ensures in
    row_pushed c.loop-key.rows c.push.new.self c.in_ok-row_from.field-0 (c.in-Some.key.now, c.in-Some.value.now) c.loop-key.key-iterator c.next.new.self _ c.in_ok-push.ensures.ok row c.in-Some.ensures.steps c.loop-key.invariant
