-- The verdicts on one replica more; as many live tables as schemas.
use Rattle.std.proofs.Common.{◌≡◌, ℕ, ◌+◌, List, [], ◌∷◌, ◌++◌, length, ap, suc, refl}
use Rattle.row_types.specs.declared.table_schema.Schema.{Schema}
use Rattle.ordered_table.specs.TableView.{TableView}
use Rattle.checksum_table.specs.declared.check_rows.CheckEntry.{CheckEntry}
use Rattle.cluster_core.specs.LiveParts.{AreSound}
use Rattle.cluster_core.specs.Node.{NodeView, replayed_of}
use Rattle.cluster_core.specs.Summary.{replica_verdicts, verdicts_from}

pub verdicts_more : (number : ℕ) (source : List CheckEntry) (node : NodeView) (nodes : List NodeView)
    → verdicts_from number source (node ∷ nodes) ≡ replica_verdicts number source (replayed_of node).checks ++ verdicts_from (number + 1) source nodes
verdicts_more number source node nodes = refl

pub as_many_tables : (schemas : List Schema) (tables : List TableView) → AreSound schemas tables → length tables ≡ length schemas
as_many_tables [] [] sound = refl
as_many_tables [] (table ∷ tables) sound = absurd sound
as_many_tables (schema ∷ schemas) [] sound = absurd sound
as_many_tables (schema ∷ schemas) (table ∷ tables) sound = ap suc (as_many_tables schemas tables sound.1)
