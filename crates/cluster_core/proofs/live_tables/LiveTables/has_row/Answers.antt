use Rattle.std.proofs.Common.{◌≡◌, ◌∙◌, sym, ap, subst, List, Some, None}
use Rattle.std.specs.Prelude.{is_some, option_copied}
use Rattle.std.specs.List.{slice_get}
use Rattle.ordered_table.specs.TableView.{TableView}
use Rattle.cluster_core.specs.LiveTables.{LiveView, row_in}
use Rattle.cluster_core.proofs.LiveLemmas.{no_schema, row_is, some_copied}
use Rattle.cluster_core.proofs.live_tables.LiveTables.has_row.Goals as goal

pub returns-in-None : goal.returns-in-None
returns-in-None c =
    let none : slice_get c.self.inside.tables.items c.args.table ≡ None =
    ap (λ (ts : List TableView). slice_get ts c.args.table) (sym c.as_slice.ensures.value) ∙ sym c.table_at.ensures ∙ ap option_copied c.in-None.is in
    let gone = no_schema c.self.inside.schemas.tables c.self.inside.tables.items c.args.table c.self.invariant none in
    let found = sym c.in-Some.ensures in
    absurd (cc)

pub returns-in-Some-table_at : goal.returns-in-Some-table_at
returns-in-Some-table_at c =
    let there : slice_get c.self.inside.tables.items c.args.table ≡ Some c.in-Some-table_at.live.now =
    ap (λ (ts : List TableView). slice_get ts c.args.table) (sym c.as_slice.ensures.value) ∙ sym c.in-Some-table_at.ensures in
    let here = row_is c.self.inside.schemas.tables c.self.inside.tables.items c.args.table c.in-Some.schema.now c.in-Some-table_at.live.now c.args.row.now c.key_values.result.now
    c.self.invariant (sym c.in-Some.ensures) there c.key_values.ensures in
    subst (λ (v : LiveView). c.is_some.result ≡ is_some (row_in v.schemas v.tables c.args.table c.args.row.now)) c.self.view_is
    (c.is_some.ensures ∙ some_copied c.get_at.result ∙ ap is_some (c.get_at.ensures ∙ here))
