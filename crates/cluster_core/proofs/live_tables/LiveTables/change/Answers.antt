use Rattle.std.proofs.Common.{◌≡◌, ◌∙◌, sym, ap, subst, arith, List, Some}
use Rattle.std.specs.Prelude.{slice_set}
use Rattle.std.specs.List.{slice_get}
use Rattle.std.proofs.lemmas.Result.{on_ok_weaker, on_err_weaker}
use Rattle.row_types.specs.declared.values.Value.{Value}
use Rattle.ordered_table.specs.TableView.{TableView}
use Rattle.history.specs.Replay.{tables_after}
use Rattle.cluster_core.specs.LiveTables.{LiveView, rows_of_each}
use Rattle.cluster_core.proofs.MoveLemmas.{slice_get-within}
use Rattle.cluster_core.proofs.LiveLemmas.{changed_at, sound_at, sound_set, sound_within, stays_at}
use Rattle.cluster_core.proofs.live_tables.LiveTables.change.Goals as goal

pub index_mut-requires : goal.index_mut-requires
index_mut-requires c =
    let within = sound_within c.self.inside.schemas.tables c.self.inside.tables.items c.table-table.result c.in-Some.schema.now c.self.invariant (sym c.in-Some.ensures) in
    omega (arith, within, c.self.inside.tables.ok)

pub change_table-requires-clause-sound : goal.change_table-requires-clause-sound
change_table-requires-clause-sound c =
    let items = c.self.inside.tables.items in
    let found = sym c.in-Some.ensures in
    let within = sound_within c.self.inside.schemas.tables items c.table-table.result c.in-Some.schema.now c.self.invariant found in
    let there : slice_get items c.table-table.result ≡ Some c.index_mut.result.now =
    slice_get-within items c.table-table.result c.index_mut.result.now within ∙ ap (λ (t : TableView). Some t) (sym c.index_mut.ensures.value) in
    sound_at c.self.inside.schemas.tables items c.table-table.result c.in-Some.schema.now c.index_mut.result.now c.self.invariant found there

pub invariant_of-self : goal.invariant_of-self
invariant_of-self c =
    sound_set c.self.inside.schemas.tables c.self.inside.tables.items c.table-table.result c.in-Some.schema.now c.change_table.new.table c.self.invariant
    (sym c.in-Some.ensures) c.change_table.ensures.sound

pub returns-clause-ok : goal.returns-clause-ok
returns-clause-ok c =
    let schemas = c.self.inside.schemas.tables in
    let items = c.self.inside.tables.items in
    let found = sym c.in-Some.ensures in
    let within = sound_within schemas items c.table-table.result c.in-Some.schema.now c.self.invariant found in
    let there : slice_get items c.table-table.result ≡ Some c.index_mut.result.now =
    slice_get-within items c.table-table.result c.index_mut.result.now within ∙ ap (λ (t : TableView). Some t) (sym c.index_mut.ensures.value) in
    let new : LiveView = record { schemas = schemas; tables = rows_of_each (slice_set items c.table-table.result c.change_table.new.table) } in
    on_ok_weaker c.change_table.result
    (λ changed. subst (λ (v : LiveView). new ≡ record v { tables = tables_after v.schemas c.args.statement.now v.tables }) c.self.view_is
    (ap (λ (ts : List (List (List Value))). record { schemas = schemas; tables = ts })
    (changed_at schemas items c.table-table.result c.in-Some.schema.now c.args.statement.now c.index_mut.result.now c.change_table.new.table c.table-table.ensures found there changed)))
    c.change_table.ensures.ok

pub returns-clause-err : goal.returns-clause-err
returns-clause-err c =
    let schemas = c.self.inside.schemas.tables in
    let items = c.self.inside.tables.items in
    let within = sound_within schemas items c.table-table.result c.in-Some.schema.now c.self.invariant (sym c.in-Some.ensures) in
    let there : slice_get items c.table-table.result ≡ Some c.index_mut.result.now =
    slice_get-within items c.table-table.result c.index_mut.result.now within ∙ ap (λ (t : TableView). Some t) (sym c.index_mut.ensures.value) in
    on_err_weaker c.change_table.result
    (λ same. ap (λ (ts : List (List (List Value))). record { schemas = schemas; tables = ts })
    (stays_at items c.table-table.result c.index_mut.result.now c.change_table.new.table there same) ∙ c.self.view_is)
    c.change_table.ensures.err
