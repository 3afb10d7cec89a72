use Rattle.std.proofs.Common.{refl}
use Rattle.history.specs.Replay.{fold}
use Rattle.node_reads.proofs.KeptReads.{started_reads}
use Rattle.node_parts.proofs.StartLemmas.{started_parts}
use Rattle.node_parts.proofs.starts.start_at.Goals as goal

pub returns-clause-kept : goal.returns-clause-kept
returns-clause-kept c =
    started_parts c.args.parts.now _ c.args.owner c.args.statement c.args.cursor c.requires.kept
    (record { frame = record { schemas = refl; start = refl; history = refl; checks = refl; applied = refl }; tables = refl; notes = refl; held = refl })
    c.requires.idle c.requires.fits c.requires.cursor c.start.ensures

pub returns-clause-reads : goal.returns-clause-reads
returns-clause-reads c =
    started_reads c.args.parts.now.schemas.tables (fold c.args.parts.now.schemas.tables c.args.parts.now.start c.args.parts.now.history.entries).tables c.args.owner.0 c.args.statement c.args.cursor c.requires.idle.txn
    c.args.parts.now.txns _ c.args.parts.now.reads.items c.requires.reads c.requires.idle.found c.requires.idle.idle c.requires.cursor c.start.ensures
