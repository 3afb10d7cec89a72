use Rattle.std.proofs.Common.{SFits, w64, to_z-of_z, rules}
use Rattle.ptc_run.proofs.TableLemmas.{keeps_more}
use Rattle.ptc_run.proofs.kept_rows.put_in.Goals as goal

pub returns-in_ok-insert : goal.returns-in_ok-insert
returns-in_ok-insert c = λ rows k.
    let key : SFits w64 c.args.row.key = search rules in
    let value : SFits w64 c.args.row.value = search rules in
    let entries = rw (to_z-of_z key, to_z-of_z value) at c.in_ok-insert.ensures.entries in
    let updates = rw (to_z-of_z key, to_z-of_z value) at c.in_ok-insert.ensures.updates in
    rw c.if-named.true (keeps_more c.args.kept.now c.insert.new.self rows c.args.row k entries updates.0)
