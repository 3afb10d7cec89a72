-- One more turn of each actor of a still world.
use Rattle.std.proofs.Common.{◌≡◌, refl}
use Rattle.workload.specs.declared.schedule.Item.{Item}
use Rattle.workload.specs.declared.schedule.Item.TheVariants as i
use Rattle.world_model.specs.Worlds.{WorldView}
use Rattle.world_model.specs.Turns.{move, stepped}
use Rattle.world_model.specs.Ends.{unfinished_at}
use Rattle.world_model.specs.Rounds.{IsBehindSchedule, IsStillAt}
use Rattle.world_model.proofs.RoundLemmas.{step_still}
use Rattle.world_summary.specs.Told.{line_for}

-- the line on an item's actor is that of its move's note
pub line_at : (item : Item) (world : WorldView) → line_for item (move item world).note ≡ unfinished_at world item
line_at (i.Turn actor) world = refl
line_at i.StopTool world = refl
line_at i.ResumeTool world = refl
line_at (i.StopReplica number) world = refl
line_at (i.StartReplica number) world = refl

pub stays : (item : Item) (world : WorldView) → IsBehindSchedule world → IsStillAt world item → stepped item world ≡ world
stays = step_still
