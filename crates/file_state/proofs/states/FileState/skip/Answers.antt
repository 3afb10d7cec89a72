use Rattle.file_state.proofs.KeepLemmas.{skipped_kept}
use Rattle.file_state.proofs.states.FileState.skip.Goals as goal

pub returns : goal.returns
returns c = skipped_kept c.args.self.now
