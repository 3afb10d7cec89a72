-- The tables of a node, made one by one.
use Rattle.std.proofs.Common.{◌≡◌, ◌∙◌, ◌<◌, ℕ, ◌+◌, suc, List, [], ◌∷◌, ◌++◌, length, take, ap, sym, refl, arith}
use Rattle.std.proofs.lemmas.List.{take_more, take_all}
use Rattle.row_types.specs.declared.table_schema.Schema.{Schema}
use Rattle.row_types.specs.KeyRows.{Rows, TableRows}
use Rattle.row_types.specs.Fit.{AreTables}
use Rattle.history.specs.Replay.{table_rows}

-- as many tables as schemas
pub as_many : (schemas : List Schema) (tables : TableRows) → AreTables schemas tables → length tables ≡ length schemas
as_many [] [] are = refl
as_many [] (rows ∷ tables) are = absurd are
as_many (schema ∷ schemas) [] are = absurd are
as_many (schema ∷ schemas) (rows ∷ tables) are = ap suc (as_many schemas tables are.1)

-- one table more of those that a node's history leaves
pub one_more : (tables done : TableRows) (rows : Rows) (n count : ℕ) → n < count → length tables ≡ count → rows ≡ table_rows tables n → done ≡ take n tables
    → done ++ rows ∷ [] ≡ take (n + 1) tables
one_more tables done rows n count less many is so_far =
    ap (λ (them : TableRows). them ++ rows ∷ []) so_far ∙ ap (λ (one : Rows). take n tables ++ one ∷ []) is ∙ sym (take_more tables n [] (omega (arith, less, many)))

pub all_of : (tables done : TableRows) (count : ℕ) → length tables ≡ count → done ≡ take count tables → done ≡ tables
all_of tables done count many so_far = so_far ∙ take_all count tables (omega (arith, many))
