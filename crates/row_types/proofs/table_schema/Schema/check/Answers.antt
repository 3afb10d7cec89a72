use Rattle.std.proofs.Common.{rules, arith, ◌≡◌, length}
use Rattle.row_types.specs.Fit.{RowFits}
use Rattle.row_types.proofs.FaultLemmas.{as_many, faulty}
use Rattle.row_types.proofs.table_schema.Schema.check.Goals as goal

pub returns-then-values-columns-clause-fits : goal.returns-then-values-columns-clause-fits
returns-then-values-columns-clause-fits c = λ (fits : RowFits c.args.self.now c.args.row.now).
    let many : length c.args.row.now ≡ length c.args.self.now.columns = as_many c.args.self.now c.args.row.now fits in
    grind arith

pub returns-in-Some-clause-fits : goal.returns-in-Some-clause-fits
returns-in-Some-clause-fits c = λ (fits : RowFits c.args.self.now c.args.row.now).
    faulty c.args.self.now c.args.row.now c.in-Some.fault (search rules) fits
