use Rattle.statement_reader.specs.Spots.{spot_of}
use Rattle.statement_faults.proofs.TreeFaultLemmas.{tree_first}
use Rattle.statement_faults.proofs.tree_faults.fault_of_tree.Goals as goal

pub returns-clause-first : goal.returns-clause-first
returns-clause-first c draft s n column facts deep = cc (tree_first c.args.schema.now (spot_of c.args.spot) c.args.column c.args.deep c.args.facts draft s n column facts deep)
