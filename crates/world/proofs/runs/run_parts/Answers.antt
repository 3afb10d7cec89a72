use Rattle.std.proofs.Common.{◌∙◌, refl, ap, arith}
use Rattle.std.proofs.lemmas.Result.{err_from_is_err_and}
use Rattle.world_model.specs.declared.options.RunOptions.{RunOptions}
use Rattle.world.specs.WorldParts.{world_view}
use Rattle.world.proofs.StepLemmas.{run_is_good}
use Rattle.world.proofs.RoundLemmas.{reaches_more}
use Rattle.world.proofs.RunLemmas.{reached_options, running_none, running_more, running_end, limit_at_once, round_cut, still_round, moving_round}
use Rattle.world.proofs.runs.run_parts.Goals as goal

pub returns-then-parts-clause-fault : goal.returns-then-parts-clause-fault
returns-then-parts-clause-fault c =
    limit_at_once (world_view c.args.parts.now) c.args.parts.now.options.most_moves refl (omega (arith, c.requires.counted, c.if-parts.true))

pub order_of-requires : goal.order_of-requires
order_of-requires c = run_is_good (world_view c.play_schedule.new.parts) c.in_ok-play_schedule.ensures.kept.run

pub rounds-init : goal.rounds-init
rounds-init c = record {
  kept = c.in_ok-play_schedule.ensures.kept;
  running = running_none c.turns.inside.items.items (world_view c.args.parts.now) (world_view c.play_schedule.new.parts)
      c.in_ok-play_schedule.ensures.ok (c.turns.view_is ∙ c.in_ok-turns.ensures) c.in_ok-play_schedule.ensures.reaches c.in_ok-play_schedule.ensures.few;
}

pub returns-in_err-play_round-clause-fault : goal.returns-in_err-play_round-clause-fault
returns-in_err-play_round-clause-fault c =
    let p = err_from_is_err_and c.from_residual-in_err-play_round.result c.from_residual-in_err-play_round.ensures.1 in
    rw (p.1, p.2)
    (round_cut c.turns.inside.items.items (world_view c.args.parts.now) (world_view c.rounds.parts) c.in_err-play_round.field-0.0
    c.rounds.invariant.running c.in_err-play_round.ensures.fault)

pub returns-in_err-play_round-clause-reaches : goal.returns-in_err-play_round-clause-reaches
returns-in_err-play_round-clause-reaches c =
    reaches_more (world_view c.args.parts.now) (world_view c.rounds.parts) (world_view c.play_round.new.parts) c.rounds.invariant.running.reaches
    c.in_err-play_round.ensures.reaches

pub returns-then-not-branch-clause-ok : goal.returns-then-not-branch-clause-ok
returns-then-not-branch-clause-ok c =
    running_end c.turns.inside.items.items (world_view c.args.parts.now) (world_view c.rounds.parts) (world_view c.play_round.new.parts) c.rounds.invariant.running
    (still_round c.in_ok-play_round.field-0 (world_view c.rounds.parts) (world_view c.play_round.new.parts) c.in_ok-play_round.ensures.ok c.if-not-branch.true)

pub rounds-smaller : goal.rounds-smaller
rounds-smaller c =
    let same = ap (λ (options : RunOptions). options.most_moves)
    (reached_options (world_view c.rounds.parts) (world_view c.play_round.new.parts) c.in_ok-play_round.ensures.reaches) in
    let more = moving_round c.in_ok-play_round.field-0 (world_view c.rounds.parts) (world_view c.play_round.new.parts) c.in_ok-play_round.ensures.ok c.if-not-branch.false in
    omega (arith, same, more, c.in_ok-play_round.ensures.few)

pub rounds-preserved : goal.rounds-preserved
rounds-preserved c = record {
  kept = c.in_ok-play_round.ensures.kept;
  running = running_more c.in_ok-play_round.field-0 c.turns.inside.items.items (world_view c.args.parts.now) (world_view c.rounds.parts) (world_view c.play_round.new.parts)
      c.rounds.invariant.running c.in_ok-play_round.ensures.ok c.in_ok-play_round.ensures.reaches c.in_ok-play_round.ensures.few;
}
