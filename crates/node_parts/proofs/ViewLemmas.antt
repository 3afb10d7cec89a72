-- The live table that is looked up.
use Rattle.std.proofs.Common.{◌≡◌, ◌∙◌, ℕ, Option, Some, sym, subst}
use Rattle.std.specs.List.{slice_get}
use Rattle.row_types.specs.declared.table_schema.Schema.{Schema}
use Rattle.ordered_table.specs.TableView.{TableView}
use Rattle.node_parts.specs.declared.parts.Parts.{Parts}
use Rattle.node_parts.specs.Kept.{node_view, PartsKept}
use Rattle.node_parts.specs.Views.{IsLiveTable}

pub live_is : (parts : Parts) (number : ℕ) (schema : Schema) (found : Option TableView) → PartsKept parts → slice_get parts.schemas.tables number ≡ Some schema → found ≡ slice_get parts.tables.items number
    → IsLiveTable (node_view parts) number found
live_is parts number schema found kept is at =
    let l = kept.live number schema is in
    subst (IsLiveTable (node_view parts) number) (sym (at ∙ l.there)) l.rows
