use Rattle.std.proofs.Common.{rules}
use Rattle.line_words.proofs.ActorLemmas.{is_behind_point}
use Rattle.line_words.proofs.actors.replica_behind.Goals as goal

pub returns-in-Some-behind_point : goal.returns-in-Some-behind_point
returns-in-Some-behind_point c =
    is_behind_point c.args.more.now c.in-Some.rest.now c.in-Some-split_first.back.now c.in-Some-split_first.byte.now c.in-Some.replica c.in-Some-behind_point.word c.in-Some.ensures (search rules)
    c.if-byte-eq46.true c.in-Some-behind_point.ensures
