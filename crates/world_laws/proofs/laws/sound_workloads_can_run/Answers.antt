use Rattle.world_laws.proofs.SoundLemmas.{sound_can_run}
use Rattle.world_laws.proofs.laws.sound_workloads_can_run.Goals as goal

pub returns : goal.returns
returns c = sound_can_run
