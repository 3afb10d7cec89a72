use Rattle.std.proofs.Common.{◌≡◌, ◌+◌, ℕ, List, length}
use Rattle.file_text.specs.Rules.{behind_byte}
use Rattle.line_items.proofs.offsets.behind_byte.Given as goal

pub record Invariant (count stop : ℕ) (rest text : List ℕ) : Type 0 where
  pub so_far : count + behind_byte stop rest ≡ behind_byte stop text
  pub bounded : count + length rest ≡ length text

abbrev pub invariant-loop-byte : goal.invariant-loop-byte
invariant-loop-byte l = Invariant l.count l.stop l.rest l.text

abbrev pub decreases-loop-byte : goal.decreases-loop-byte
decreases-loop-byte l = length l.rest
