use Rattle.line_words.proofs.NumberLemmas.{digits_number}
use Rattle.line_words.proofs.numbers.digits_of.Goals as goal

pub returns-else-text-eq0 : goal.returns-else-text-eq0
returns-else-text-eq0 c =
    digits_number c.args.text.now c.behind_digits-number.result.1.now c.behind_digits-number.result.0 c.behind_digits-number.ensures.number c.behind_digits-number.ensures.rest c.if-rest-eq0.true c.if-text-eq0.false
