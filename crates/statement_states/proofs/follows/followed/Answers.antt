use Rattle.std.proofs.Common.{◌≤◌, arith}
use Rattle.statement_grammar.specs.Sentence.{setting}
use Rattle.statement_grammar.specs.FirstFault.{keys_of}
use Rattle.statement_states.proofs.FollowLemmas.{steps_at}
use Rattle.statement_states.proofs.follows.followed.Goals as goal

pub returns : goal.returns
returns c =
    let some : 1 ≤ c.closing_level-level.result = omega arith in
    steps_at (setting c.args.base (keys_of c.args.schema.now)) c.args.schema.now c.args.token.word c.args.held c.in_ok-closed.closed c.args.token c.in_ok-stepped.stepped
    c.closing_level-level.result c.closing_level-level.ensures some c.in_ok-closed.ensures c.if-not-done.false c.in_ok-stepped.ensures
