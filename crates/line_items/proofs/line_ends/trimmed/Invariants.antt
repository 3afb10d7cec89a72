use Rattle.std.proofs.Common.{◌≡◌, length}
use Rattle.file_text.specs.Parts.{trimmed}
use Rattle.line_items.proofs.line_ends.trimmed.Given as goal

abbrev pub invariant-loop-byte : goal.invariant-loop-byte
invariant-loop-byte l = trimmed l.rest ≡ trimmed l.line

abbrev pub decreases-loop-byte : goal.decreases-loop-byte
decreases-loop-byte l = length l.rest
