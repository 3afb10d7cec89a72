use Rattle.std.proofs.Common.{◌≡◌, ◌∙◌, sym, ap, subst, map, List}
use Rattle.row_types.specs.declared.values.Value.{Value}
use Rattle.row_types.specs.declared.table_schema.Schema.{Schema}
use Rattle.row_types.specs.declared.table_schema.Schemas.{Schemas}
use Rattle.cluster_core.specs.LiveTables.{rows_of_each}
use Rattle.cluster_core.specs.LiveParts.{AreSound, without_spare}
use Rattle.cluster_core.proofs.LiveLemmas.{copied_rows, copied_sound}
use Rattle.cluster_core.proofs.live_tables.LiveTables.copy.Goals as goal

pub invariant_of-result : goal.invariant_of-result
invariant_of-result c =
    let tables = c.self.inside.tables.items in
    let same : c.in_ok-table_copies.field-0.items ≡ map without_spare tables = c.in_ok-table_copies.ensures ∙ ap (map without_spare) c.as_slice.ensures.value in
    subst (λ (schemas : List Schema). AreSound schemas c.in_ok-table_copies.field-0.items) (sym (ap (λ (s : Schemas). s.tables) c.in_ok-copy.ensures))
    (subst (AreSound c.self.inside.schemas.tables) (sym same) (copied_sound c.self.inside.schemas.tables tables c.self.invariant))

pub returns : goal.returns
returns c =
    let tables = c.self.inside.tables.items in
    let rows : rows_of_each c.in_ok-table_copies.field-0.items ≡ rows_of_each tables =
    ap rows_of_each (c.in_ok-table_copies.ensures ∙ ap (map without_spare) c.as_slice.ensures.value) ∙ copied_rows tables in
    ap (λ (ts : List (List (List Value))). record { schemas = c.in_ok-copy.field-0.tables; tables = ts }) rows
    ∙ ap (λ (s : Schemas). record { schemas = s.tables; tables = rows_of_each tables }) c.in_ok-copy.ensures
    ∙ c.self.view_is
