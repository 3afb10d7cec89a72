use Rattle.std.proofs.Common.{◌≡◌, suc, ◌-◌, arith}
use Rattle.lock_table.proofs.HoldLemmas.{is_number, other_number}
use Rattle.node_parts.proofs.PutAllLemmas.{note_keyed, back_put, back_passed}
use Rattle.node_parts.proofs.committed_rows.put_all_back.Goals as goal

pub loop-index-preserved-in-Continue-branch-2 : goal.loop-index-preserved-in-Continue-branch-2
loop-index-preserved-in-Continue-branch-2 c =
    let one : c.loop-index.index ≡ suc (c.loop-index.index - 1) = omega (arith, c.loop-index-test.true) in
    back_put c.args.number c.args.live.now c.args.notes.now.notes c.loop-index.table c.put_copy.new.table c.loop-index.index (c.loop-index.index - 1) c.at-note.result.now c.loop-index.invariant one c.at-note.ensures
    (is_number c.at-note.result.now.table c.args.number c.if-note-number.true)
    (note_keyed c.args.number c.args.live.now c.loop-index.table c.args.notes.now.notes c.loop-index.index (c.loop-index.index - 1) c.at-note.result.now c.loop-index.invariant c.requires c.at-note.ensures c.if-note-number.true)
    c.in_ok-put_copy.ensures.rows c.put_copy.ensures.key_len

pub loop-index-preserved : goal.loop-index-preserved
loop-index-preserved c =
    let one : c.loop-index.index ≡ suc (c.loop-index.index - 1) = omega (arith, c.loop-index-test.true) in
    back_passed c.args.number c.args.live.now c.args.notes.now.notes c.loop-index.table c.loop-index.index (c.loop-index.index - 1) c.at-note.result.now c.loop-index.invariant one c.at-note.ensures
    (other_number c.at-note.result.now.table c.args.number c.if-note-number.false)
