use Rattle.statement_stacks.proofs.LevelLemmas.{deep_iff}
use Rattle.statement_stacks.proofs.stacks.Stack.is_deep.Goals as goal

pub returns : goal.returns
returns c =
    deep_iff c.self.inside.levels.items c.as_slice.result.now c.args.self.now c.args.height c.size_of_all-size.result c.exceeds.result
    c.self.view_is c.self.invariant c.as_slice.ensures.value c.size_of_all-size.ensures c.exceeds.ensures
