use Rattle.std.proofs.Common.{arith, ap, length, take}
use Rattle.cluster_core.specs.World.{WorldView, sessions_from}
use Rattle.cluster_core.proofs.RunLemmas.{took_none, took_session, took_reaches, reaches_none, reaches_more, on_err_of}
use Rattle.cluster_core.proofs.worlds.World.session_turns.Goals as goal

pub loop-place-init : goal.loop-place-init
loop-place-init c = took_none c.args.self.now c.requires

pub returns-in_err-step-clause-err : goal.returns-in_err-step-clause-err
returns-in_err-step-clause-err c =
    on_err_of c.from_residual.result
    (reaches_more c.args.self.now c.loop-place.self c.step.new.self
    (took_reaches c.args.self.now c.loop-place.self (sessions_from 1 (take c.loop-place.place c.args.self.now.sessions)) c.loop-place.moved c.requires c.loop-place.invariant)
    (reaches_none c.loop-place.self c.step.new.self c.in_err-step.ensures.err))

pub loop-place-preserved : goal.loop-place-preserved
loop-place-preserved c =
    took_session c.args.self.now c.loop-place.self c.step.new.self c.loop-place.place c.loop-place.moved c.in_ok-step.step
    (omega (arith, ap (λ (w : WorldView). length w.sessions) c.self.view_is)) c.loop-place.invariant c.in_ok-step.ensures.ok
