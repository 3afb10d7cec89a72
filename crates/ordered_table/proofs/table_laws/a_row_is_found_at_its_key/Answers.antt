use Rattle.row_types.proofs.KeyRowLemmas.{found_at}
use Rattle.ordered_table.proofs.table_laws.a_row_is_found_at_its_key.Goals as goal

pub returns : goal.returns
returns c = found_at
