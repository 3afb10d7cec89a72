use Rattle.std.proofs.Common.{rules}
use Rattle.std.proofs.lemmas.Fn.{filter_same}
use Rattle.ptc_statement.specs.Effect.{is_logged}
use Rattle.node_engine.proofs.commits.keep_logged.Goals as goal

pub returns : goal.returns
returns c = filter_same _ is_logged _ (λ x b f' k. search rules) _ _ c.retain.ensures.filtered
