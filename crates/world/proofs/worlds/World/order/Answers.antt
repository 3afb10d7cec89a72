use Rattle.world.specs.WorldParts.{world_view}
use Rattle.world.proofs.StepLemmas.{run_is_good}
use Rattle.world.proofs.worlds.World.order.Goals as goal

pub order_of-requires : goal.order_of-requires
order_of-requires c = run_is_good (world_view c.self.inside.parts) c.self.invariant.run
