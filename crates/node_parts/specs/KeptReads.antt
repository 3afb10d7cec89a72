-- What is kept of each open transaction's reads.
use Rattle.history.specs.Replay.{fold}
use Rattle.node_reads.specs.ReadBy.{AllRead}
use Rattle.node_parts.specs.declared.parts.Parts.{Parts}

-- each open transaction has its reading, which is what its statements read
abbrev pub ReadsKept : Parts → Type 0
ReadsKept parts = AllRead parts.schemas.tables (fold parts.schemas.tables parts.start parts.history.entries).tables parts.txns parts.reads.items
