use Rattle.history.specs.Replay.{fold}
use Rattle.node_reads.proofs.KeptReads.{same_reads}
use Rattle.node_visits.proofs.GainLemmas.{reading_there}
use Rattle.node_visits.proofs.visits.make_read_room.Goals as goal

pub reserve_of-requires : goal.reserve_of-requires
reserve_of-requires c = reading_there c.args.parts.now c.args.owner.0 c.requires.reads c.requires.under_way

pub returns-clause-reads : goal.returns-clause-reads
returns-clause-reads c =
    same_reads c.args.parts.now.schemas.tables (fold c.args.parts.now.schemas.tables c.args.parts.now.start c.args.parts.now.history.entries).tables c.args.parts.now.txns c.args.parts.now.reads.items _
    c.reserve_of.ensures.same c.requires.reads
