use Rattle.std.proofs.Common.{rules}
use Rattle.line_words.proofs.ItemLemmas.{no_times, at_star}
use Rattle.line_words.proofs.items.item_of.Goals as goal

pub returns-in-None-times_of : goal.returns-in-None-times_of
returns-in-None-times_of c =
    no_times c.args.text.now c.from_star-rest.result.now c.split_at.result.0.now c.in-Some.back.now c.in-Some.field-0-0.now c.from_star-rest.ensures (search rules) c.split_at.ensures.front c.in-None-times_of.ensures

pub returns-in-Some-times_of : goal.returns-in-Some-times_of
returns-in-Some-times_of c =
    at_star c.args.text.now c.from_star-rest.result.now c.split_at.result.0.now c.in-Some.back.now c.in-Some.field-0-0.now c.in-Some-times_of.word c.from_star-rest.ensures (search rules) c.split_at.ensures.front
    c.in-Some-times_of.ensures
