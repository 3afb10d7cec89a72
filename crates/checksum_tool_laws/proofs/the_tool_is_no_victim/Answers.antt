use Rattle.checksum_tool_laws.proofs.StandLemmas.{no_victim}
use Rattle.checksum_tool_laws.proofs.the_tool_is_no_victim.Goals as goal

pub returns : goal.returns
returns c = no_victim
