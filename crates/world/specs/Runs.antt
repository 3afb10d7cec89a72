-- How a run ends.
use Rattle.std.specs.Prelude.{◌≡◌, ◌≤◌}
use Rattle.world_model.specs.Worlds.{WorldView}
use Rattle.world_model.specs.Rounds.{EndsIn, Exceeds, IsBehindSchedule, moves_in}
use Rattle.world.specs.declared.runs.RunFault.{RunFault}
use Rattle.world.specs.declared.runs.RunFault.TheVariants.{StepLimit, Memory}

-- the run of the first world ends in the last one, with no more moves than its options allow
pub record RunsTo (first last : WorldView) : Type 0 where
  pub ends : EndsIn first last
  pub behind : IsBehindSchedule last
  pub few : moves_in last.journal ≤ first.options.most_moves

-- what a run's fault tells: the step limit, that its options allow fewer moves than it makes
abbrev pub Explains : WorldView → RunFault → Type 0
Explains first (StepLimit moves) = (moves ≡ first.options.most_moves) × Exceeds first
Explains first Memory = Unit {0}
