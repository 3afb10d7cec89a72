use Rattle.statement_trees.proofs.TreeLemmas.{begun_so}
use Rattle.statement_trees.proofs.trees.OpenTree.new.Goals as goal

pub returns : goal.returns
returns c schema base = begun_so schema base _ c.new.ensures
