use Rattle.workload_laws.proofs.FileLemmas.{files_are_sound as all_files}
use Rattle.workload_laws.proofs.files_are_sound.Goals as goal

pub returns : goal.returns
returns c = all_files
