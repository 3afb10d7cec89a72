use Rattle.statement_operands.specs.Operands.{operands}
use Rattle.statement_machine_laws.proofs.MirrorLemmas.{moved_image}
use Rattle.statement_machine_laws.proofs.MeaningLemmas.{has_facts, has_height, has_trees}
use Rattle.statement_machine_laws.proofs.laws.machines_agree.Goals as goal

pub returns-clause-moves : goal.returns-clause-moves
returns-clause-moves c g schema = moved_image g (operands schema)

pub returns-clause-facts : goal.returns-clause-facts
returns-clause-facts c = has_facts

pub returns-clause-heights : goal.returns-clause-heights
returns-clause-heights c = has_height

pub returns-clause-trees : goal.returns-clause-trees
returns-clause-trees c = has_trees
