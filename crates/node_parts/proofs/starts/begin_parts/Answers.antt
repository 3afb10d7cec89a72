use Rattle.std.proofs.Common.{rules, refl}
use Rattle.history.specs.Replay.{fold}
use Rattle.node_reads.proofs.KeptReads.{begun_reads}
use Rattle.node_parts.proofs.StartLemmas.{begun_parts}
use Rattle.node_parts.proofs.starts.begin_parts.Goals as goal

pub returns-clause-kept : goal.returns-clause-kept
returns-clause-kept c =
    begun_parts c.args.parts.now _ c.args.owner c.args.part c.new.result c.requires.kept
    (record { frame = record { schemas = refl; start = refl; history = refl; checks = refl; applied = refl }; tables = refl; notes = refl; held = refl })
    c.requires.none c.new.ensures c.in_ok-begin.ensures.ok

pub returns-clause-reads : goal.returns-clause-reads
returns-clause-reads c =
    begun_reads c.args.parts.now.schemas.tables (fold c.args.parts.now.schemas.tables c.args.parts.now.start c.args.parts.now.history.entries).tables c.args.owner c.args.part c.new.result
    c.args.parts.now.txns _ c.args.parts.now.reads.items c.reserve.new.self.items _ c.unread.result c.requires.reads c.requires.none c.new.ensures c.in_ok-begin.ensures.ok (search rules) c.put_unread.ensures c.unread.ensures
