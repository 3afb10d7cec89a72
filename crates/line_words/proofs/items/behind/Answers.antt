use Rattle.std.proofs.Common.{◌≡◌, rules}
use Rattle.line_words.proofs.ItemLemmas.{front_is}
use Rattle.line_words.proofs.items.behind.Goals as goal

pub returns-else-eq : goal.returns-else-eq
returns-else-eq c = λ more e.
    let other : c.split_at.result.0.now ≡ c.args.beginning.now → ⊥ = search rules in
    other (front_is c.args.text.now c.args.beginning.now more _ c.split_at.ensures.front e)
