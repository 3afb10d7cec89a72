use Rattle.file_scripts.proofs.DeclareLemmas.{actors_told, all_declared, first_found, nodes_told, none_found, replicas_told}
use Rattle.file_scripts.proofs.laws.who_is_declared.Goals as goal

pub returns-clause-replicas : goal.returns-clause-replicas
returns-clause-replicas c = replicas_told

pub returns-clause-nodes : goal.returns-clause-nodes
returns-clause-nodes c = nodes_told

pub returns-clause-actors : goal.returns-clause-actors
returns-clause-actors c = actors_told

pub returns-clause-first : goal.returns-clause-first
returns-clause-first c = first_found

pub returns-clause-none : goal.returns-clause-none
returns-clause-none c = none_found

pub returns-clause-undeclared : goal.returns-clause-undeclared
returns-clause-undeclared c = all_declared
