use Rattle.std.proofs.Common.{◌≡◌, ◌∙◌, List, ap, sym, subst, set, get_or}
use Rattle.checksum_table.specs.declared.check_rows.CheckEntry.{CheckEntry}
use Rattle.checksum_table.specs.Checks.{IsByPlace, mastered}
use Rattle.checksum_table.proofs.OrderLemmas.{master_by_place}
use Rattle.checksum_table.proofs.places.put_master.Goals as goal

pub returns-in-Ok-clause-by_place : goal.returns-in-Ok-clause-by_place
returns-in-Ok-clause-by_place c =
    let same : c.as_slice.result.now ≡ c.args.entries.now.items = c.as_slice.ensures.value in
    let changed : List CheckEntry → CheckEntry → List CheckEntry = λ xs x. set xs c.in-Ok.index (record x { row = mastered x.row c.args.master }) in
    subst IsByPlace
    (c.in-Ok.ensures.found.mastered_there c.index_mut.result.now c.args.master
    ∙ ap (λ (xs : List CheckEntry). changed xs (get_or xs c.in-Ok.index c.index_mut.result.now)) same
    ∙ ap (λ (x : CheckEntry). changed c.args.entries.now.items x) (sym c.index_mut.ensures.value))
    (master_by_place c.args.table c.args.chunk c.args.master c.as_slice.result.now (subst IsByPlace (sym same) c.requires))
