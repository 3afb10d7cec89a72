-- The tables of the tests have a key of one column.
use Rattle.std.proofs.Common.{List, ℕ, refl, arith}
use Rattle.row_types.specs.Fit.{IsSchema}
use Rattle.test_builders.specs.Builders.{pair_columns}

pub pair_is_schema : (name id value : List ℕ) → IsSchema (record { name = name; columns = pair_columns id value; key_len = 1 })
pair_is_schema name id value = record { key = omega arith; most = omega arith; within = omega arith; lengths = (tt, (tt, tt)); not_null = (refl, tt) }
