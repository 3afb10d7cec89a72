use Rattle.std.proofs.Common.{arith, ap, length, ◌∷◌, ◌++◌, take}
use Rattle.cluster_core.specs.World.{WorldView, sessions_from, workers_from}
use Rattle.workload_file.specs.declared.actors.Actor.TheVariants.{Tool}
use Rattle.workload_file.specs.declared.schedule.Item.TheVariants.{Turn}
use Rattle.cluster_core.proofs.RunLemmas.{took_tool, took_worker, took_reaches, reaches_none, reaches_more, on_err_of}
use Rattle.cluster_core.proofs.worlds.World.round.Goals as goal

pub loop-place-init : goal.loop-place-init
loop-place-init c = took_tool c.args.self.now c.session_turns.new.self c.step.new.self c.in_ok-moved.moved c.in_ok-step.step c.in_ok-moved.ensures.ok c.in_ok-step.ensures.ok

pub loop-place-preserved : goal.loop-place-preserved
loop-place-preserved c =
    took_worker c.args.self.now c.loop-place.self c.step-in-loop-place.new.self c.loop-place.place c.loop-place.moved c.in_ok-step-2.step
    (omega (arith, ap (λ (w : WorldView). length w.replicas) c.self.view_is)) c.loop-place.invariant c.in_ok-step-2.ensures.ok

pub returns-in_err-step-clause-err : goal.returns-in_err-step-clause-err
returns-in_err-step-clause-err c =
    on_err_of c.from_residual-in_err-step.result
    (reaches_more c.args.self.now c.session_turns.new.self c.step.new.self
    (took_reaches c.args.self.now c.session_turns.new.self (sessions_from 1 c.args.self.now.sessions) c.in_ok-moved.moved c.requires c.in_ok-moved.ensures.ok)
    (reaches_none c.session_turns.new.self c.step.new.self c.in_err-step.ensures.err))

pub returns-in_err-step-2-clause-err : goal.returns-in_err-step-2-clause-err
returns-in_err-step-2-clause-err c =
    on_err_of c.from_residual-in_err-step-2.result
    (reaches_more c.args.self.now c.loop-place.self c.step-in-loop-place.new.self
    (took_reaches c.args.self.now c.loop-place.self (sessions_from 1 c.args.self.now.sessions ++ Turn Tool ∷ workers_from 1 (take c.loop-place.place c.args.self.now.replicas)) c.loop-place.moved c.requires c.loop-place.invariant)
    (reaches_none c.loop-place.self c.step-in-loop-place.new.self c.in_err-step-2.ensures.err))
