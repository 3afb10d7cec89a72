use Rattle.std.proofs.Common.{◌≡◌, length}
use Rattle.statement_tokens.specs.FirstToken.{quoted}
use Rattle.file_text.specs.Parts.{behind_quote}
use Rattle.line_parts.proofs.token_ends.behind_quote.Given as goal

abbrev pub invariant-loop-byte : goal.invariant-loop-byte
invariant-loop-byte l = behind_quote (quoted l.rest) ≡ behind_quote (quoted l.text)

abbrev pub decreases-loop-byte : goal.decreases-loop-byte
decreases-loop-byte l = length l.rest
