use Rattle.std.proofs.Common.{◌≡◌, ◌∙◌, List, ap, sym, subst}
use Rattle.std.specs.List.{insert}
use Rattle.checksum_table.specs.declared.check_rows.CheckEntry.{CheckEntry}
use Rattle.checksum_table.specs.Checks.{IsByPlace, with_absent}
use Rattle.checksum_table.proofs.OrderLemmas.{absent_by_place}
use Rattle.checksum_table.proofs.places.put_absent.Goals as goal

pub returns-in-Ok-clause-ok : goal.returns-in-Ok-clause-ok
returns-in-Ok-clause-ok c =
    let same : c.as_slice.result.now ≡ c.args.entries.now.items = c.as_slice.ensures.value in
    sym (subst (λ (xs : List CheckEntry). with_absent c.args.entry xs ≡ xs) same (c.in-Ok.ensures.found.absent c.args.entry.row))

pub returns-in_ok-insert-in-Err-clause-by_place : goal.returns-in_ok-insert-in-Err-clause-by_place
returns-in_ok-insert-in-Err-clause-by_place c =
    let same : c.as_slice.result.now ≡ c.args.entries.now.items = c.as_slice.ensures.value in
    subst IsByPlace
    (c.in-Err.ensures.free.absent c.args.entry.row ∙ ap (λ (xs : List CheckEntry). insert xs c.in-Err.index c.args.entry) same ∙ sym c.in_ok-insert-in-Err.ensures.items)
    (absent_by_place c.args.entry c.as_slice.result.now (subst IsByPlace (sym same) c.requires))
