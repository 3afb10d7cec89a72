-- What live tables keep.
use Rattle.std.specs.Prelude.{List, [], ◌∷◌}
use Rattle.row_types.specs.declared.table_schema.Schema.{Schema}
use Rattle.ordered_table.specs.TableView.{TableView}
use Rattle.table_changes.specs.Plans.{IsSound}
use Rattle.cluster_core.specs.LiveTables.{LiveView, rows_of_each}
use Rattle.cluster_core.specs.declared.live_tables.LiveTables.TheInside.{Inside}

abbrev pub live_view : Inside → LiveView
live_view live = record { schemas = live.schemas.tables; tables = rows_of_each live.tables.items }

-- a table for each schema, by the schema's key
abbrev pub AreSound : List Schema → List TableView → Type 0
AreSound [] [] = Unit {0}
AreSound [] (table ∷ tables) = ⊥
AreSound (schema ∷ schemas) [] = ⊥
AreSound (schema ∷ schemas) (table ∷ tables) = IsSound schema table.key_len table.rows × AreSound schemas tables

abbrev pub EachIsSound : Inside → Type 0
EachIsSound live = AreSound live.schemas.tables live.tables.items

abbrev pub without_spare : TableView → TableView
without_spare table = record table { spare = 0 }
