use Rattle.std.proofs.Common.{◌≡◌, take}
use Rattle.row_digest.specs.Digest.{xored}
use Rattle.row_digest.proofs.checksums.combine.Given as goal

abbrev pub invariant-loop-i : goal.invariant-loop-i
invariant-loop-i l = l.bytes ≡ xored l.fn.bytes (take l.i l.hash)
