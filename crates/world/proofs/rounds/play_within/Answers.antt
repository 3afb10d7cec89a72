use Rattle.std.proofs.Common.{arith}
use Rattle.world.specs.WorldParts.{world_view}
use Rattle.world.proofs.RoundLemmas.{limit_stops, within_limit}
use Rattle.world.proofs.rounds.play_within.Goals as goal

pub returns-then-parts-clause-fault : goal.returns-then-parts-clause-fault
returns-then-parts-clause-fault c =
    limit_stops c.args.item (world_view c.args.parts.now) (world_view c.play_parts.new.parts) c.play_parts.new.parts.moves
    c.in_ok-moved.ensures.ok c.in_ok-moved.ensures.kept.counted (omega (arith, c.if-parts.true))

pub returns-clause-few : goal.returns-clause-few
returns-clause-few c =
    within_limit c.args.item (world_view c.args.parts.now) (world_view c.play_parts.new.parts) c.play_parts.new.parts.moves
    c.in_ok-moved.ensures.ok c.in_ok-moved.ensures.kept.counted (omega (arith, c.if-parts.false))
