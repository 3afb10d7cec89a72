use Rattle.std.proofs.Common.{◌≡◌, ◌∙◌, List, ap, sym, subst, set}
use Rattle.std.specs.List.{insert}
use Rattle.checksum_table.specs.declared.check_rows.CheckEntry.{CheckEntry}
use Rattle.checksum_table.specs.Checks.{IsByPlace}
use Rattle.checksum_table.proofs.OrderLemmas.{put_by_place}
use Rattle.checksum_table.proofs.places.put.Goals as goal

pub returns-in-Ok-clause-by_place : goal.returns-in-Ok-clause-by_place
returns-in-Ok-clause-by_place c =
    let same : c.as_slice.result.now ≡ c.args.entries.now.items = c.as_slice.ensures.value in
    subst (λ (xs : List CheckEntry). IsByPlace (set xs c.in-Ok.index c.args.entry)) same
    (subst IsByPlace (c.in-Ok.ensures.found.check c.args.entry.row)
    (put_by_place c.args.entry.table c.args.entry.chunk c.args.entry.row c.as_slice.result.now (subst IsByPlace (sym same) c.requires)))

pub returns-in_ok-insert-in-Err-clause-by_place : goal.returns-in_ok-insert-in-Err-clause-by_place
returns-in_ok-insert-in-Err-clause-by_place c =
    let same : c.as_slice.result.now ≡ c.args.entries.now.items = c.as_slice.ensures.value in
    subst IsByPlace
    (c.in-Err.ensures.free.check c.args.entry.row ∙ ap (λ (xs : List CheckEntry). insert xs c.in-Err.index c.args.entry) same ∙ sym c.in_ok-insert-in-Err.ensures.items)
    (put_by_place c.args.entry.table c.args.entry.chunk c.args.entry.row c.as_slice.result.now (subst IsByPlace (sym same) c.requires))
