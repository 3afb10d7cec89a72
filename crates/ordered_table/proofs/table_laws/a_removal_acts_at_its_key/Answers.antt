use Rattle.std.proofs.Common.{not, List}
use Rattle.row_types.specs.declared.values.Value.{Value}
use Rattle.row_types.specs.KeyRows.{is_at}
use Rattle.row_types.proofs.OrderedRowLemmas.{filter_ordered}
use Rattle.row_types.proofs.KeyRowLemmas.{removed_gone, removed_elsewhere}
use Rattle.ordered_table.proofs.table_laws.a_removal_acts_at_its_key.Goals as goal

pub returns-clause-ordered : goal.returns-clause-ordered
returns-clause-ordered c = λ key_len key rows ordered. filter_ordered key_len (λ (row : List Value). not (is_at key_len key row)) rows ordered

pub returns-clause-gone : goal.returns-clause-gone
returns-clause-gone c = removed_gone

pub returns-clause-elsewhere : goal.returns-clause-elsewhere
returns-clause-elsewhere c = removed_elsewhere
