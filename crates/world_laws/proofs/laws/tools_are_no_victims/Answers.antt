use Rattle.world_laws.proofs.RunLemmas.{no_victims}
use Rattle.world_laws.proofs.laws.tools_are_no_victims.Goals as goal

pub returns : goal.returns
returns c = no_victims c.the_tool_is_no_victim.ensures
