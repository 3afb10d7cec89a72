use Rattle.std.proofs.Common.{List}
use Rattle.row_types.specs.declared.values.Value.{Value}
use Rattle.row_types.proofs.OrderLemmas.{keys_total, keys_exact, key_tied}
use Rattle.row_types.proofs.order_laws.keys_are_ordered.Goals as goal

pub returns-clause-total : goal.returns-clause-total
returns-clause-total c = keys_total

pub returns-clause-exact : goal.returns-clause-exact
returns-clause-exact c = λ (a b : List Value). (keys_exact a b, key_tied a b)
