use Rattle.file_laws.proofs.CauseLemmas.{one_file, one_fault, never_both}
use Rattle.file_laws.proofs.laws.one_reading.Goals as goal

pub returns-clause-workload : goal.returns-clause-workload
returns-clause-workload c = one_file

pub returns-clause-fault : goal.returns-clause-fault
returns-clause-fault c = one_fault

pub returns-clause-never_both : goal.returns-clause-never_both
returns-clause-never_both c = never_both
