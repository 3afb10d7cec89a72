use Rattle.std.proofs.Common.{sym, rules}
use Rattle.row_types.specs.Fit.{RowFits}
use Rattle.row_types.proofs.FaultLemmas.{fits_faultless}
use Rattle.line_decisions.proofs.row_decisions.row_fault.Goals as goal

pub returns-in-Ok : goal.returns-in-Ok
returns-in-Ok c = λ short. sym (fits_faultless c.args.schema.now c.args.row.now (fits c))
  where
    fits : (c : goal.In-Ok) → RowFits c.args.schema.now c.args.row.now
    fits c = search rules
