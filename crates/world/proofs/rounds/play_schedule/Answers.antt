use Rattle.std.proofs.Common.{sym}
use Rattle.std.proofs.lemmas.Result.{err_from_is_err_and}
use Rattle.world.specs.WorldParts.{world_view}
use Rattle.world.proofs.RoundLemmas.{playing_more, playing_all, playing_cut, stops_reaches}
use Rattle.world.proofs.rounds.play_schedule.Goals as goal

pub loop-item-preserved : goal.loop-item-preserved
loop-item-preserved c = record {
  kept = c.in_ok-play_within.ensures.kept;
  playing = playing_more c.in-Some.item (world_view c.args.parts.now) (world_view c.loop-item.parts) (world_view c.play_within.new.parts) c.loop-item.invariant.playing
      (sym c.in-Some.ensures) c.in_ok-play_within.ensures.ok c.in_ok-play_within.ensures.few;
}

pub returns-in_err-play_within-clause-fault : goal.returns-in_err-play_within-clause-fault
returns-in_err-play_within-clause-fault c =
    let p = err_from_is_err_and c.from_residual.result c.from_residual.ensures.1 in
    rw (p.1, p.2)
    (playing_cut c.in-Some.item (world_view c.args.parts.now) (world_view c.loop-item.parts) (world_view c.play_within.new.parts) c.in_err-play_within.field-0.0
    c.loop-item.invariant.playing (sym c.in-Some.ensures) c.in_err-play_within.ensures.fault)

pub returns-in_err-play_within-clause-reaches : goal.returns-in_err-play_within-clause-reaches
returns-in_err-play_within-clause-reaches c =
    stops_reaches c.in-Some.item (world_view c.args.parts.now) (world_view c.loop-item.parts) (world_view c.play_within.new.parts) c.in_err-play_within.field-0.0
    c.loop-item.invariant.playing.reaches c.in_err-play_within.ensures.fault

pub returns-clause-ok : goal.returns-clause-ok
returns-clause-ok c = playing_all (world_view c.args.parts.now) (world_view c.loop-item.parts) c.loop-item.invariant.playing (sym c.in_default.ensures)
