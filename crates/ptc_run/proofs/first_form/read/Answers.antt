use Rattle.std.proofs.Common.{ap, inl, inr, Ok, Err}
use Rattle.ptc_run.proofs.FormLemmas.{text_once}
use Rattle.ptc_run.proofs.WorkloadLemmas.{text-IsWorkload}
use Rattle.ptc_run.proofs.ReadLemmas.{only_memory, workload_read}
use Rattle.ptc_run.proofs.first_form.read.Goals as goal

pub returns-in-Err-clause-only : goal.returns-in-Err-clause-only
returns-in-Err-clause-only c = λ w t le. inr (ap Err (only_memory c.args.bytes.now c.in-Err.fault w c.in-Err.ensures t le))

pub returns-in_ok-workload-in-Ok-clause-found : goal.returns-in_ok-workload-in-Ok-clause-found
returns-in_ok-workload-in-Ok-clause-found c = workload_read c.args.bytes.now c.in-Ok.parts c.in_ok-workload-in-Ok.workload c.in-Ok.ensures c.in_ok-workload-in-Ok.ensures

pub returns-in_ok-workload-in-Ok-clause-fits : goal.returns-in_ok-workload-in-Ok-clause-fits
returns-in_ok-workload-in-Ok-clause-fits c =
    text-IsWorkload c.args.bytes.now c.in_ok-workload-in-Ok.workload (workload_read c.args.bytes.now c.in-Ok.parts c.in_ok-workload-in-Ok.workload c.in-Ok.ensures c.in_ok-workload-in-Ok.ensures)

pub returns-in_ok-workload-in-Ok-clause-only : goal.returns-in_ok-workload-in-Ok-clause-only
returns-in_ok-workload-in-Ok-clause-only c = λ w t le.
    inl (ap Ok (text_once c.args.bytes.now c.in_ok-workload-in-Ok.workload w (workload_read c.args.bytes.now c.in-Ok.parts c.in_ok-workload-in-Ok.workload c.in-Ok.ensures c.in_ok-workload-in-Ok.ensures) t))
