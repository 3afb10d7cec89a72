use Rattle.std.proofs.Common.{◌≡◌, ◌≤◌, ◌+◌, ◌∷◌, [], ◌++◌, ◌∙◌, suc, sym, ap, subst, arith, length, take, List, Some}
use Rattle.std.specs.List.{slice_get}
use Rattle.std.proofs.lemmas.List.{take_all}
use Rattle.row_types.specs.declared.values.Value.{Value}
use Rattle.row_types.specs.declared.table_schema.Schema.{Schema}
use Rattle.row_types.specs.KeyRows.{AreOrdered}
use Rattle.ordered_table.specs.TableView.{TableView}
use Rattle.row_types.proofs.SchemaRowLemmas.{table_ordered}
use Rattle.table_changes.specs.Plans.{IsSound}
use Rattle.cluster_core.specs.LiveTables.{rows_of_each}
use Rattle.cluster_core.specs.LiveParts.{AreSound}
use Rattle.cluster_core.proofs.MoveLemmas.{slice_get-within}
use Rattle.cluster_core.proofs.LiveLemmas.{rows_more, sound_more, start_at, start_many}
use Rattle.cluster_core.proofs.live_tables.tables_of.Goals as goal

pub bounds-start-place : goal.bounds-start-place
bounds-start-place c =
    let ours = ap length c.as_slice-start.ensures in
    let theirs = ap length c.as_slice-schemas.ensures in
    omega (arith, ours, theirs, start_many c.args.schemas.now c.args.start.now c.requires.start)

pub from_rows-requires-clause-ordered : goal.from_rows-requires-clause-ordered
from_rows-requires-clause-ordered c =
    let sound = start_at c.args.schemas.now c.as_slice-schemas.result.now c.args.start.now c.as_slice-start.result.now c.loop-place.place c.index-schemas-place.result c.index-start-place.result
    c.as_slice-schemas.ensures c.as_slice-start.ensures c.requires.schemas c.requires.start c.loop-place-test.true c.index-schemas-place.is c.index-start-place.is in
    subst (λ (s : Schema). AreOrdered s.key_len c.as_slice-rows.result.now) c.index-schemas-place.is
    (subst (AreOrdered c.index-schemas-place.result.key_len) (sym c.as_slice-rows.ensures)
    (table_ordered c.index-schemas-place.result c.index-start-place.result sound.is_schema sound.is_table))

pub loop-place-preserved : goal.loop-place-preserved
loop-place-preserved c =
    let place = c.loop-place.place in
    let schema = c.index-schemas-place.result in
    let table : TableView = c.in_ok-from_rows.field-0 in
    let sound = start_at c.args.schemas.now c.as_slice-schemas.result.now c.args.start.now c.as_slice-start.result.now place schema c.index-start-place.result
    c.as_slice-schemas.ensures c.as_slice-start.ensures c.requires.schemas c.requires.start c.loop-place-test.true c.index-schemas-place.is c.index-start-place.is in
    let ours = ap length c.as_slice-start.ensures in
    let theirs = ap length c.as_slice-schemas.ensures in
    let many = start_many c.args.schemas.now c.args.start.now c.requires.start in
    let found : slice_get c.as_slice-schemas.result.now place ≡ Some schema =
    slice_get-within c.as_slice-schemas.result.now place schema c.loop-place-test.true ∙ ap (λ (s : Schema). Some s) (sym c.index-schemas-place.is) in
    let rows : table.rows ≡ c.index-start-place.result = ap (λ (t : TableView). t.rows) c.in_ok-from_rows.ensures ∙ c.as_slice-rows.ensures in
    let key : table.key_len ≡ schema.key_len = ap (λ (t : TableView). t.key_len) c.in_ok-from_rows.ensures ∙ ap (λ (s : Schema). s.key_len) (sym c.index-schemas-place.is) in
    let found_rows : slice_get c.as_slice-start.result.now place ≡ Some table.rows =
    slice_get-within c.as_slice-start.result.now place c.index-start-place.result (omega (arith, c.loop-place-test.true))
    ∙ ap (λ (r : List (List Value)). Some r) (sym c.index-start-place.is) ∙ ap (λ (r : List (List Value)). Some r) (sym rows) in
    let is_sound : IsSound schema table.key_len table.rows =
    subst (λ n. IsSound schema n table.rows) (sym key) (subst (IsSound schema schema.key_len) (sym rows) sound) in
    let next : suc place ≡ place + 1 = omega arith in
    let items : c.push.new.self.items ≡ c.loop-place.tables.items ++ table ∷ [] = c.in_ok-push.ensures.items in
    record {
      sound = subst (λ (ts : List TableView). AreSound (take (place + 1) c.as_slice-schemas.result.now) ts) (sym items)
          (subst (λ n. AreSound (take n c.as_slice-schemas.result.now) (c.loop-place.tables.items ++ table ∷ [])) next
          (sound_more c.as_slice-schemas.result.now c.loop-place.tables.items place schema table c.loop-place.invariant.sound found is_sound));
      rows = ap rows_of_each items
          ∙ rows_more c.loop-place.tables.items c.as_slice-start.result.now place table c.loop-place.invariant.rows found_rows
          ∙ ap (λ n. take n c.as_slice-start.result.now) next;
    }

pub returns-clause-rows : goal.returns-clause-rows
returns-clause-rows c =
    let ours = ap length c.as_slice-start.ensures in
    let theirs = ap length c.as_slice-schemas.ensures in
    let many = start_many c.args.schemas.now c.args.start.now c.requires.start in
    let all : length c.as_slice-start.result.now ≤ c.loop-place.place = omega arith in
    c.loop-place.invariant.rows ∙ take_all c.loop-place.place c.as_slice-start.result.now all ∙ c.as_slice-start.ensures
