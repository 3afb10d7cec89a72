use Rattle.std.proofs.Common.{◌≡◌, length}
use Rattle.statement_tokens.specs.FirstToken.{behind}
use Rattle.file_text.specs.Parts.{no_sign}
use Rattle.line_parts.specs.Cuts.{is_plain}
use Rattle.line_parts.proofs.parts.behind_unparted.Given as goal

abbrev pub invariant-loop-byte : goal.invariant-loop-byte
invariant-loop-byte l = behind (is_plain no_sign) l.rest ≡ behind (is_plain no_sign) l.text

abbrev pub decreases-loop-byte : goal.decreases-loop-byte
decreases-loop-byte l = length l.rest
