use Rattle.node_builders.specs.Nodes.{one_table}
use Rattle.applier.specs.Appliers.{LogFits}
use Rattle.applier_tests.proofs.logs.log_of.Given as goal

abbrev pub invariant-loop-samples : goal.invariant-loop-samples
invariant-loop-samples l = LogFits one_table l.log.entries
