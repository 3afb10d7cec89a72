use Rattle.node_reads.proofs.ReadLawLemmas.{reads_stay_always}
use Rattle.node_reads.proofs.read_laws.what_was_read_stays.Goals as goal

pub returns : goal.returns
returns c = reads_stay_always
