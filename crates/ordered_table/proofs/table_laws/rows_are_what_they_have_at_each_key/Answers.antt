use Rattle.row_types.proofs.SameRowLemmas.{same_rows}
use Rattle.ordered_table.proofs.table_laws.rows_are_what_they_have_at_each_key.Goals as goal

pub returns : goal.returns
returns c = same_rows
