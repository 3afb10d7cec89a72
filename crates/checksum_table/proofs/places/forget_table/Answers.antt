use Rattle.std.proofs.Common.{◌≡◌, rules, sym, subst}
use Rattle.std.proofs.lemmas.Fn.{filter_same}
use Rattle.checksum_table.specs.Checks.{IsByPlace, without_table}
use Rattle.checksum_table.proofs.OrderLemmas.{forget_by_place}
use Rattle.checksum_table.proofs.places.forget_table.Goals as goal

pub returns-clause-value : goal.returns-clause-value
returns-clause-value c = filter_same _ _ _ (λ x b f' k. search rules) _ _ c.retain.ensures.filtered

pub returns-clause-by_place : goal.returns-clause-by_place
returns-clause-by_place c =
    let value : c.retain.new.self.items ≡ without_table c.args.table c.args.entries.now.items = filter_same _ _ _ (λ x b f' k. search rules) _ _ c.retain.ensures.filtered in
    subst IsByPlace (sym value) (forget_by_place c.args.table c.args.entries.now.items c.requires)
