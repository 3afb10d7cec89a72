use Rattle.std.proofs.Common.{subst}
use Rattle.world_model.specs.Good.{IsGood}
use Rattle.world.specs.WorldParts.{world_view}
use Rattle.world.proofs.StepLemmas.{run_is_good}
use Rattle.world.proofs.worlds.World.keeps_fits.Goals as goal

pub returns : goal.returns
returns c = subst IsGood c.self.view_is (run_is_good (world_view c.self.inside.parts) c.self.invariant.run)
