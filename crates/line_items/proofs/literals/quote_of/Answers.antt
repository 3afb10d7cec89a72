use Rattle.std.proofs.Common.{rules}
use Rattle.line_items.proofs.QuoteLemmas.{no_token, quote_cut}
use Rattle.line_items.proofs.literals.quote_of.Goals as goal

pub returns-in-Some : goal.returns-in-Some
returns-in-Some c = quote_cut c.args.text.now c.in-Some.rest.now c.in-Some.word c.text_before.result (search rules) c.text_before.ensures

pub returns-in-None : goal.returns-in-None
returns-in-None c = no_token c.args.text.now (search rules)
