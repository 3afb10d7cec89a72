use Rattle.std.specs.List.{AllByRecursion}
use Rattle.ptc_statement.specs.Fits.{FitsSchemas}
use Rattle.node_builders.specs.Nodes.{one_table}
use Rattle.applier_tests.proofs.logs.statements.Given as goal

abbrev pub invariant-loop-sample : goal.invariant-loop-sample
invariant-loop-sample l = AllByRecursion (FitsSchemas one_table) l.statements
