use Rattle.std.proofs.Common.{sym, subst}
use Rattle.statement_trees.specs.Trees.{IsEnd}
use Rattle.statement_trees.proofs.TreeLemmas.{ends}
use Rattle.statement_trees.proofs.trees.OpenTree.finish.Goals as goal

pub returns : goal.returns
returns c ts r =
    subst (IsEnd c.args.schema.now c.args.base ts) (sym c.in_ok-end.ensures) (ends c.args.schema.now c.args.base c.args.self c.in_ok-finished.finished c.in_ok-finished.ensures ts r)
