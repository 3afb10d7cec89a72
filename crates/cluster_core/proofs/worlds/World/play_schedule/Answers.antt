use Rattle.cluster_core.proofs.RunLemmas.{plays_none, plays_more, plays_fewer, plays_all, plays_end, plays_reaches, on_err_of}
use Rattle.cluster_core.proofs.worlds.World.play_schedule.Goals as goal

pub loop-item-init : goal.loop-item-init
loop-item-init c = plays_none c.args.self.now

pub loop-item-smaller : goal.loop-item-smaller
loop-item-smaller c = plays_fewer c.loop-item.self c.step.new.self c.in-Some.item c.in-Some.ensures.next c.in_ok-step.ensures.ok.state

pub loop-item-preserved : goal.loop-item-preserved
loop-item-preserved c = plays_more c.args.self.now c.loop-item.self c.step.new.self c.in-Some.item c.loop-item.invariant c.in-Some.ensures.next c.in_ok-step.ensures.ok.state

pub returns-in_err-step-clause-err : goal.returns-in_err-step-clause-err
returns-in_err-step-clause-err c = on_err_of c.from_residual.result (plays_reaches c.args.self.now c.loop-item.self c.step.new.self c.loop-item.invariant c.in_err-step.ensures.err)

pub returns-clause-ok : goal.returns-clause-ok
returns-clause-ok c = plays_all c.args.self.now c.loop-item.self c.loop-item.invariant c.in_default.ensures.next

pub returns-clause-all : goal.returns-clause-all
returns-clause-all c = plays_end c.loop-item.self c.in_default.ensures.next
