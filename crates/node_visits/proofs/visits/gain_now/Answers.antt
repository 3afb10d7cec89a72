use Rattle.std.proofs.Common.{◌∙◌, ap, sym}
use Rattle.node_reads.specs.Readings.{reading_of}
use Rattle.node_visits.proofs.GainLemmas.{can_be_added, gain_is}
use Rattle.node_visits.proofs.visits.gain_now.Goals as goal

pub gain_of-requires : goal.gain_of-requires
gain_of-requires c =
    can_be_added c.args.parts.now c.table-number.result c.in-Some-get.schema.now c.as_slice-2.result.now c.args.on_key.now _ c.requires.kept (sym c.in-Some-get.ensures) c.as_slice-2.ensures.value c.row_under-row.ensures

pub returns : goal.returns
returns c =
    gain_is c.args.parts.now c.args.owner.0 c.in-Some.txn.now c.in-Some-current.walk c.in-Some-get.schema.now c.in-Some-read_in.reading.now c.as_slice-2.result.now c.table-number.result c.args.on_key.now _ c.in_ok-gain.gain
    c.requires.kept (sym c.in-Some.ensures) c.in-Some-current.is (sym c.in-Some-get.ensures) c.table-number.ensures (ap (reading_of c.args.owner.0) (sym c.as_slice.ensures.value) ∙ sym c.in-Some-read_in.ensures)
    c.as_slice-2.ensures.value c.row_under-row.ensures c.in_ok-gain.ensures
