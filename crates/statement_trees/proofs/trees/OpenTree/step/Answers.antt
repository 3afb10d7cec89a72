use Rattle.std.proofs.Common.{sym, ap, subst, ◌∙◌}
use Rattle.std.specs.Prelude.{Option}
use Rattle.statement_trees.specs.Trees.{IsStep, step_of}
use Rattle.statement_trees.proofs.TreeLemmas.{steps}
use Rattle.std.proofs.Common.{ℕ}
use Rattle.statement_trees.proofs.trees.OpenTree.step.Goals as goal

pub returns : goal.returns
returns c ts r =
    subst (IsStep c.args.schema.now c.args.base ts c.args.token)
    (sym (c.step_with.ensures ∙ ap (λ (next : Option ℕ). step_of c.in_ok-stepped.stepped c.args.self.last c.args.self.deep c.args.token.place next) c.deep_with-next.ensures))
    (steps c.args.schema.now c.args.base c.args.self c.args.token c.is_deep_before.result c.in_ok-stepped.stepped c.is_deep_before.ensures c.in_ok-stepped.ensures ts r)
