use Rattle.std.proofs.Common.{rules}
use Rattle.statement_tokens.specs.FirstToken.{quoted}
use Rattle.statement_tokens.proofs.CutLemmas.{quote_step, text_step}
use Rattle.statement_tokens.proofs.first_tokens.text_at.Goals as goal

pub loop-byte-preserved-then-byte-eq39 : goal.loop-byte-preserved-then-byte-eq39
loop-byte-preserved-then-byte-eq39 c =
    quote_step (quoted c.args.text.now) c.loop-byte.content c.push.new.self c.in-Some.more.now c.in-Some-behind_quote.behind.now c.in-Some.byte.now (search rules) (search rules) (search rules) (search rules)

pub loop-byte-preserved : goal.loop-byte-preserved
loop-byte-preserved c =
    text_step (quoted c.args.text.now) c.loop-byte.content c.push-then-is_text_byte.new.self c.in-Some.byte.now c.in-Some.more.now (search rules) (search rules) (search rules) (search rules)
