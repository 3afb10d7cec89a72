use Rattle.std.proofs.Common.{◌≡◌, length}
use Rattle.statement_tokens.specs.FirstToken.{quoted}
use Rattle.statement_tokens.proofs.CutLemmas.{put_before}
use Rattle.statement_tokens.proofs.first_tokens.text_at.Given as goal

abbrev pub invariant-loop-byte : goal.invariant-loop-byte
invariant-loop-byte l = quoted l.text ≡ put_before l.content (quoted l.rest)

abbrev pub decreases-loop-byte : goal.decreases-loop-byte
decreases-loop-byte l = length l.rest
