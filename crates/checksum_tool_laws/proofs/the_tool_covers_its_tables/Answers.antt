use Rattle.checksum_tool_laws.proofs.RunLemmas.{tool_covers}
use Rattle.checksum_tool_laws.proofs.the_tool_covers_its_tables.Goals as goal

pub returns : goal.returns
returns c = tool_covers
