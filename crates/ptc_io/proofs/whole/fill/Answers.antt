use Rattle.std.proofs.Common.{◌-◌, arith}
use Rattle.ptc_io.proofs.TransferLemmas.{TakesAtMost-after}
use Rattle.ptc_io.proofs.whole.fill.Goals as goal

pub returns-in_err-count-clause-taken : goal.returns-in_err-count-clause-taken
returns-in_err-count-clause-taken g c =
    TakesAtMost-after (g.I.Source.left c.args.input.now) (g.I.Source.left c.loop-bytes.input) (g.I.Source.left c.read_piece.new.input)
    c.loop-bytes.bytes.items c.loop-bytes.bytes.len c.args.most (c.args.most - c.len-in-loop-bytes.result)
    c.loop-bytes.invariant.lost c.loop-bytes.bytes.ok.0 (omega (arith, c.loop-bytes.invariant.size, c.len-in-loop-bytes.ensures)) c.in_err-count.ensures.taken
