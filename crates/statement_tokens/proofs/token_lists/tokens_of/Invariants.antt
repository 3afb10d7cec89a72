use Rattle.std.proofs.Common.{length}
use Rattle.statement_tokens.proofs.ListLemmas.{SoFar}
use Rattle.statement_tokens.proofs.token_lists.tokens_of.Given as goal

abbrev pub invariant-tokens : goal.invariant-tokens
invariant-tokens l = SoFar l.text l.tokens l.rest l.behind_sign l.behind_operand

abbrev pub decreases-tokens : goal.decreases-tokens
decreases-tokens l = length l.rest
