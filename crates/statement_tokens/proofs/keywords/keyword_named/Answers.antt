use Rattle.std.proofs.Common.{rules}
use Rattle.statement_tokens.specs.FirstToken.{keyword_named}
use Rattle.statement_tokens.proofs.keywords.keyword_named.Goals as goal

pub loop-keyword-init : goal.loop-keyword-init
unfolding keyword_named
loop-keyword-init c = search rules
