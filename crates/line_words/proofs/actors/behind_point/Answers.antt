use Rattle.std.proofs.Common.{rules}
use Rattle.line_words.proofs.ActorLemmas.{is_local, is_further}
use Rattle.line_words.proofs.actors.behind_point.Goals as goal

pub returns-in-Some-decimal_of : goal.returns-in-Some-decimal_of
returns-in-Some-decimal_of c =
    is_local c.args.replica c.in-Some.byte.now c.in-Some-decimal_of.session c.args.back.now c.in-Some.more.now (search rules) c.if-byte-eq108.true c.in-Some-decimal_of.ensures

pub returns-in-Some-decimal_of-2 : goal.returns-in-Some-decimal_of-2
returns-in-Some-decimal_of-2 c = is_further c.args.replica c.in-Some-decimal_of-2.worker c.args.back.now c.in-Some-decimal_of-2.ensures
