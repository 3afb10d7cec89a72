use Rattle.std.proofs.Common.{◌≡◌, length}
use Rattle.statement_tokens.specs.FirstToken.{behind}
use Rattle.line_words.specs.Sections.{is_no_sign}
use Rattle.line_words.proofs.sections.from_sign.Given as goal

abbrev pub invariant-loop-byte : goal.invariant-loop-byte
invariant-loop-byte l = behind is_no_sign l.rest ≡ behind is_no_sign l.text

abbrev pub decreases-loop-byte : goal.decreases-loop-byte
decreases-loop-byte l = length l.rest
