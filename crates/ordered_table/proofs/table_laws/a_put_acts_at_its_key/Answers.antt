use Rattle.row_types.proofs.OrderedRowLemmas.{put_ordered}
use Rattle.row_types.proofs.KeyRowLemmas.{put_there, put_elsewhere}
use Rattle.ordered_table.proofs.table_laws.a_put_acts_at_its_key.Goals as goal

pub returns-clause-ordered : goal.returns-clause-ordered
returns-clause-ordered c = put_ordered

pub returns-clause-there : goal.returns-clause-there
returns-clause-there c = put_there

pub returns-clause-elsewhere : goal.returns-clause-elsewhere
returns-clause-elsewhere c = put_elsewhere
