use Rattle.cluster_core.proofs.RunLemmas.{runs_more, reaches_more, on_err_of}
use Rattle.cluster_core.proofs.worlds.World.run.Goals as goal

pub rounds-preserved : goal.rounds-preserved
rounds-preserved c =
    runs_more c.args.self.now c.rounds.self c.round.new.self c.in_ok-round.field-0 c.rounds.invariant c.in_ok-round.ensures.ok

pub returns-in_err-round-clause-err : goal.returns-in_err-round-clause-err
returns-in_err-round-clause-err c =
    on_err_of c.from_residual-in_err-round.result (reaches_more c.args.self.now c.rounds.self c.round.new.self c.rounds.invariant.items c.in_err-round.ensures.err)
