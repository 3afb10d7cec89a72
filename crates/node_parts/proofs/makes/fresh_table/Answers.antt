use Rattle.std.proofs.Common.{subst, sym}
use Rattle.row_types.specs.KeyRows.{AreOrdered}
use Rattle.row_types.proofs.SchemaRowLemmas.{table_ordered}
use Rattle.node_parts.proofs.makes.fresh_table.Goals as goal

pub from_rows-requires-clause-ordered : goal.from_rows-requires-clause-ordered
from_rows-requires-clause-ordered c =
    subst (AreOrdered c.args.schema.now.key_len) (sym c.as_slice.ensures) (table_ordered c.args.schema.now c.args.rows.now c.requires.schema c.requires.rows)
