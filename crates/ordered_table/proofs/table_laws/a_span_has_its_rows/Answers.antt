use Rattle.std.proofs.Common.{take, List}
use Rattle.row_types.specs.declared.values.Value.{Value}
use Rattle.row_types.specs.Order.{has}
use Rattle.row_types.proofs.OrderedRowLemmas.{filter_ordered}
use Rattle.row_types.proofs.KeyRowLemmas.{part_at}
use Rattle.ordered_table.proofs.table_laws.a_span_has_its_rows.Goals as goal

pub returns-clause-ordered : goal.returns-clause-ordered
returns-clause-ordered c = λ key_len span rows ordered. filter_ordered key_len (λ (row : List Value). has span (take key_len row)) rows ordered

pub returns-clause-rows : goal.returns-clause-rows
returns-clause-rows c = λ key_len span key rows. part_at key_len (has span) key rows
