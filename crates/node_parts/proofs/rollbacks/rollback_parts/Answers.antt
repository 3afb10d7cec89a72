use Rattle.std.proofs.Common.{refl}
use Rattle.history.specs.Replay.{fold}
use Rattle.node_reads.proofs.KeptReads.{ended_reads}
use Rattle.node_parts.proofs.RollbackLemmas.{undo_begins, rolled_back}
use Rattle.node_parts.proofs.rollbacks.rollback_parts.Goals as goal

pub undo_all-requires : goal.undo_all-requires
undo_all-requires c = undo_begins c.args.parts.now c.args.owner.0 c.requires.kept

pub returns-clause-kept : goal.returns-clause-kept
returns-clause-kept c =
    rolled_back c.args.parts.now _ c.args.owner c.requires.kept (record { schemas = refl; start = refl; history = refl; checks = refl; applied = refl }) c.end.ensures c.release.ensures.held c.undo_all.ensures

pub returns-clause-reads : goal.returns-clause-reads
returns-clause-reads c =
    ended_reads c.args.parts.now.schemas.tables (fold c.args.parts.now.schemas.tables c.args.parts.now.start c.args.parts.now.history.entries).tables c.args.owner.0
    c.args.parts.now.txns _ c.args.parts.now.reads.items _ c.requires.reads c.end.ensures c.forget.ensures
