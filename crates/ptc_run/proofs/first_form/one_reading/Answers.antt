use Rattle.ptc_run.proofs.FormLemmas.{text_once, early_once, early_excludes}
use Rattle.ptc_run.proofs.WorkloadLemmas.{text-IsWorkload}
use Rattle.ptc_run.proofs.first_form.one_reading.Goals as goal

pub returns-clause-one_workload : goal.returns-clause-one_workload
returns-clause-one_workload c = text_once

pub returns-clause-one_line : goal.returns-clause-one_line
returns-clause-one_line c = early_once

pub returns-clause-never_both : goal.returns-clause-never_both
returns-clause-never_both c = early_excludes

pub returns-clause-keeps_rules : goal.returns-clause-keeps_rules
returns-clause-keeps_rules c = text-IsWorkload
