use Rattle.std.proofs.Common.{◌≡◌, suc, ◌-◌, arith}
use Rattle.node_parts.proofs.RollbackLemmas.{can_put_back, passed_by, put_one}
use Rattle.node_parts.proofs.rollbacks.undo_all.Goals as goal

pub put_back_at-requires : goal.put_back_at-requires
put_back_at-requires c =
    can_put_back c.args._schemas.now.tables c.args.owner.0 c.args.tables.now.items c.args.notes.now.notes c.loop-index.tables.items c.loop-index.notes.notes c.loop-index.index (c.loop-index.index - 1)
    c.owner_at.result c.loop-index.invariant c.owner_at.ensures

pub loop-index-preserved-then-owner_at-owner : goal.loop-index-preserved-then-owner_at-owner
loop-index-preserved-then-owner_at-owner c =
    let e : c.loop-index.index ≡ suc (c.loop-index.index - 1) = omega (arith, c.loop-index-test.true) in
    put_one c.args._schemas.now.tables c.args.owner.0 c.args.tables.now.items c.args.notes.now.notes c.loop-index.tables.items c.put_back_at.new.tables.items c.loop-index.notes.notes c.put_back_at.new.notes.notes
    c.loop-index.index (c.loop-index.index - 1) c.owner_at.result c.loop-index.invariant e c.owner_at.ensures c.if-owner_at-owner.true c.put_back_at.ensures

pub loop-index-preserved : goal.loop-index-preserved
loop-index-preserved c =
    let e : c.loop-index.index ≡ suc (c.loop-index.index - 1) = omega (arith, c.loop-index-test.true) in
    passed_by c.args._schemas.now.tables c.args.owner.0 c.args.tables.now.items c.args.notes.now.notes c.loop-index.tables.items c.loop-index.notes.notes c.loop-index.index (c.loop-index.index - 1)
    c.owner_at.result c.loop-index.invariant e c.owner_at.ensures c.if-owner_at-owner.false
