-- What the limit on the moves of a run decides.
use Rattle.std.specs.Prelude.{◌≤◌, ◌<◌, ◌↔◌, List}
use Rattle.workload.specs.declared.schedule.Item.{Item}
use Rattle.world_model.specs.Worlds.{WorldView}
use Rattle.world_model.specs.Turns.{played}
use Rattle.world_model.specs.Rounds.{moves_in, EndsIn, Exceeds}

-- whatever items are played, the moves of which the journal tells become no fewer
abbrev pub MovesOnlyGrow : Type 0
MovesOnlyGrow = (items : List Item) (world : WorldView) → moves_in world.journal ≤ moves_in (played items world).journal

-- the run from one world to the other stays within its limit
abbrev pub IsWithinLimit : WorldView → WorldView → Type 0
IsWithinLimit first last = moves_in last.journal ≤ first.options.most_moves

-- what holds of a run that has an end: it exceeds its limit exactly where its end has more moves, and so it does not
-- where its end is within the limit
pub record WithinOrExceeds (first last : WorldView) : Type 0 where
  pub exact : Exceeds first ↔ (first.options.most_moves < moves_in last.journal)
  pub never_both : IsWithinLimit first last → Exceeds first → ⊥

abbrev pub RunsEndWithinOrExceed : Type 0
RunsEndWithinOrExceed = (first last : WorldView) → EndsIn first last → WithinOrExceeds first last
