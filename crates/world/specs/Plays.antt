-- Items that are played up to the first move too many.
use Rattle.std.specs.Prelude.{◌≡◌, ◌<◌, Bool, true, false}
use Rattle.world_model.specs.Worlds.{WorldView}
use Rattle.world_model.specs.Turns.{stepped}
use Rattle.world_model.specs.Rounds.{round, moves_in, IsStill}
use Rattle.workload.specs.declared.schedule.Item.{Item}
use Rattle.world.specs.declared.runs.RunFault.{RunFault}
use Rattle.world.specs.declared.runs.RunFault.TheVariants.{StepLimit, Memory}

-- an item that is played is one move too many, or memory is short
abbrev pub Stops : Item → WorldView → WorldView → RunFault → Type 0
Stops item old new (StepLimit moves) = (moves ≡ old.options.most_moves) × (new ≡ stepped item old) × (old.options.most_moves < moves_in new.journal)
Stops item old new Memory = new ≡ old

-- what is played from the one world up to the other is stopped: by the step limit, where the other has too many moves
abbrev pub IsCut : WorldView → WorldView → RunFault → Type 0
IsCut old whole (StepLimit moves) = (moves ≡ old.options.most_moves) × (old.options.most_moves < moves_in whole.journal)
IsCut old whole Memory = Unit {0}

abbrev pub RoundMoved : Bool → WorldView → WorldView → Type 0
RoundMoved true old new = moves_in old.journal < moves_in new.journal
RoundMoved false old new = (new ≡ old) × IsStill old

-- a round was played: whether somebody moved, and the world behind it
pub record RoundTaken (moved : Bool) (old new : WorldView) : Type 0 where
  pub played : new ≡ round old
  pub moved_some : RoundMoved moved old new
