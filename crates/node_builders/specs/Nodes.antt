-- The node of one table that tests begin with.
use Rattle.std.specs.Prelude.{codes, List, [], ◌∷◌}
use Rattle.row_types.specs.declared.table_schema.Schema.{Schema}
use Rattle.test_builders.specs.Builders.{pair_columns}

-- the table `t (id BIGINT KEY, v BIGINT)`
abbrev pub one_table : List Schema
one_table = record { name = codes "t"; columns = pair_columns (codes "id") (codes "v"); key_len = 1 } ∷ []
