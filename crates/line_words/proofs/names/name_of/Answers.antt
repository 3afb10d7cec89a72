use Rattle.std.proofs.Common.{rules}
use Rattle.line_words.proofs.NameLemmas.{name_cut}
use Rattle.line_words.proofs.names.name_of.Goals as goal

pub returns-in-Some : goal.returns-in-Some
returns-in-Some c = name_cut c.args.text.now c.in-Some.rest.now c.in-Some.word c.name_before.result (search rules) c.name_before.ensures
