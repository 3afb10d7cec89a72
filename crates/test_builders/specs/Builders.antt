-- What the builders build.
use Rattle.std.specs.Prelude.{ℕ, ℤ, true, false, List, [], ◌∷◌, map}
use Rattle.row_types.specs.declared.values.Value.{Value}
use Rattle.row_types.specs.declared.values.Value.TheVariants.{Null, Int}
use Rattle.row_types.specs.declared.table_schema.ColumnKind.TheVariants.{BigInt}
use Rattle.row_types.specs.declared.table_schema.Column.{Column}
use Rattle.row_types.specs.declared.table_schema.Schema.{Schema}

-- a row of two numbers
abbrev pub pair : ℤ → ℤ → List Value
pair id value = Int id ∷ Int value ∷ []

abbrev pub pair_of : ℤ × ℤ → List Value
pair_of numbers = pair numbers.0 numbers.1

-- a row of a number and NULL
abbrev pub half_pair : ℤ → List Value
half_pair id = Int id ∷ Null ∷ []

-- the table NAME (id BIGINT KEY, v BIGINT), whose second column takes NULL
abbrev pub pair_columns : List ℕ → List ℕ → List Column
pair_columns id value =
    (record { name = id; kind = BigInt; nullable = false })
    ∷ (record { name = value; kind = BigInt; nullable = true }) ∷ []
