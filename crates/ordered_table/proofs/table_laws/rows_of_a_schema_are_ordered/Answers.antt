use Rattle.row_types.proofs.SchemaRowLemmas.{fitting_key, table_ordered, with_is_put}
use Rattle.ordered_table.proofs.table_laws.rows_of_a_schema_are_ordered.Goals as goal

pub returns-clause-ordered : goal.returns-clause-ordered
returns-clause-ordered c = table_ordered

pub returns-clause-key : goal.returns-clause-key
returns-clause-key c = fitting_key

pub returns-clause-put : goal.returns-clause-put
returns-clause-put c = with_is_put
