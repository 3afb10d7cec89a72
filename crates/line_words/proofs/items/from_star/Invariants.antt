use Rattle.std.proofs.Common.{◌≡◌, length}
use Rattle.statement_tokens.specs.FirstToken.{behind}
use Rattle.line_words.specs.Items.{is_no_star}
use Rattle.line_words.proofs.items.from_star.Given as goal

abbrev pub invariant-loop-byte : goal.invariant-loop-byte
invariant-loop-byte l = behind is_no_star l.rest ≡ behind is_no_star l.text

abbrev pub decreases-loop-byte : goal.decreases-loop-byte
decreases-loop-byte l = length l.rest
