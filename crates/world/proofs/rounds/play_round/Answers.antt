use Rattle.std.proofs.lemmas.Result.{err_from_is_err_and}
use Rattle.world.specs.WorldParts.{world_view}
use Rattle.world.proofs.RoundLemmas.{rounding_none, rounding_more, rounding_all, rounding_cut, rounding_at, rounding_empty, stops_reaches}
use Rattle.world.proofs.rounds.play_round.Goals as goal

pub loop-item-init : goal.loop-item-init
loop-item-init c = record {
  kept = c.requires.kept;
  rounding = rounding_none c.args.turns.now (world_view c.args.parts.now) c.requires.turns c.requires.behind c.requires.few;
}

pub returns-in_err-step-clause-fault : goal.returns-in_err-step-clause-fault
returns-in_err-step-clause-fault c =
    let p = err_from_is_err_and c.from_residual.result c.from_residual.ensures.1 in
    let here = rounding_at c.loop-item.moved c.loop-item.rest.now c.in-Some.item.now c.in-Some.more.now (world_view c.args.parts.now) (world_view c.loop-item.parts)
    c.in-Some.ensures.cases.0 c.loop-item.invariant.rounding in
    rw (p.1, p.2)
    (rounding_cut c.loop-item.moved c.in-Some.item.now c.in-Some.more.now (world_view c.args.parts.now) (world_view c.loop-item.parts) (world_view c.play_within.new.parts)
    c.in_err-step.field-0.0 here c.in_err-step.ensures.fault)

pub returns-in_err-step-clause-reaches : goal.returns-in_err-step-clause-reaches
returns-in_err-step-clause-reaches c =
    stops_reaches c.in-Some.item.now (world_view c.args.parts.now) (world_view c.loop-item.parts) (world_view c.play_within.new.parts) c.in_err-step.field-0.0
    c.loop-item.invariant.rounding.reaches c.in_err-step.ensures.fault

pub loop-item-preserved : goal.loop-item-preserved
loop-item-preserved c = record {
  kept = c.in_ok-step.ensures.kept;
  rounding = rounding_more c.loop-item.moved c.in_ok-step.step c.in-Some.item.now c.in-Some.more.now (world_view c.args.parts.now) (world_view c.loop-item.parts) (world_view c.play_within.new.parts)
      (rounding_at c.loop-item.moved c.loop-item.rest.now c.in-Some.item.now c.in-Some.more.now (world_view c.args.parts.now) (world_view c.loop-item.parts)
      c.in-Some.ensures.cases.0 c.loop-item.invariant.rounding)
      c.in_ok-step.ensures.moved c.in_ok-step.ensures.ok c.in_ok-step.ensures.few;
}

pub returns-clause-ok : goal.returns-clause-ok
returns-clause-ok c =
    rounding_all c.loop-item.moved (world_view c.args.parts.now) (world_view c.loop-item.parts)
    (rounding_empty c.loop-item.moved c.loop-item.rest.now (world_view c.args.parts.now) (world_view c.loop-item.parts) c.in_default.ensures.cases c.loop-item.invariant.rounding)
