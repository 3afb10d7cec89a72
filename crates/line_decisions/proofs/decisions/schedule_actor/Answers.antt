use Rattle.std.proofs.Common.{sym, rules}
use Rattle.line_decisions.proofs.ActorLemmas.{first_within}
use Rattle.line_decisions.proofs.decisions.schedule_actor.Goals as goal

pub overflow_add-number : goal.overflow_add-number
overflow_add-number c =
    let within = first_within c.args.counts.now c.args.replicas 0 c.args.words.now c.in-Some.number (sym c.in-Some.ensures) in
    search (rules, within)
