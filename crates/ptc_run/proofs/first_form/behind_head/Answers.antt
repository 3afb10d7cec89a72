use Rattle.std.proofs.Common.{arith}
use Rattle.ptc_run.proofs.ReadLemmas.{early_first, early_second, early_third, head_read}
use Rattle.ptc_run.proofs.first_form.behind_head.Goals as goal

pub returns-in_default : goal.returns-in_default
returns-in_default c = early_first c.args.bytes.now c.in_default.ensures

pub returns-in_default-behind_line : goal.returns-in_default-behind_line
returns-in_default-behind_line c = early_second c.args.bytes.now c.in-Some.rest.now c.in-Some.ensures.0 c.in_default-behind_line.ensures

pub returns-in-None : goal.returns-in-None
returns-in-None c = early_third c.args.bytes.now c.in-Some.rest.now c.in-Some-behind_line.rest.now c.in-Some.ensures.0 c.in-Some-behind_line.ensures.0 c.in-None.ensures

pub returns-in-Some-behind_line-2 : goal.returns-in-Some-behind_line-2
returns-in-Some-behind_line-2 c = (
  head_read c.args.bytes.now c.in-Some.rest.now c.in-Some-behind_line.rest.now c.in-Some-behind_line-2.rest.now c.in-Some.ensures.0 c.in-Some-behind_line.ensures.0 c.in-Some-behind_line-2.ensures.0,
  omega (arith, c.in-Some.ensures.1, c.in-Some-behind_line.ensures.1, c.in-Some-behind_line-2.ensures.1),
)
