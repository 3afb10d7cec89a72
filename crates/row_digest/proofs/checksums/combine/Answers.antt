use Rattle.std.proofs.Common.{◌≡◌, ◌+◌, ℕ, List, take, get_or, set, bit_xor, sym, subst, arith}
use Rattle.row_digest.specs.Digest.{xored}
use Rattle.row_digest.proofs.DigestLemmas.{xored_more}
use Rattle.row_digest.proofs.checksums.combine.Goals as goal

pub loop-i-preserved : goal.loop-i-preserved
loop-i-preserved c =
    subst
    (λ (xs : List ℕ). set xs c.loop-i.i (bit_xor (get_or xs c.loop-i.i 0) (get_or c.args.hash.now c.loop-i.i 0)) ≡ xored c.args.bytes.now (take (c.loop-i.i + 1) c.args.hash.now))
    (sym c.loop-i.invariant)
    (xored_more c.args.bytes.now c.args.hash.now c.loop-i.i (omega arith) (omega arith))
