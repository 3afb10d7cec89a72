use Rattle.lock_table.proofs.HoldLemmas.{gap_free}
use Rattle.node_visits.proofs.visits.take_due.Goals as goal

pub take_spare-requires-in-Some-clause-first_free : goal.take_spare-requires-in-Some-clause-first_free
take_spare-requires-in-Some-clause-first_free c = gap_free c.args.owner.0 c.args.number c.in-Some.span c.args.locks.now.held
