use Rattle.std.proofs.Common.{◌≡◌, ◌∙◌, ◌+◌, ◌<◌, Some, List, [], length, ap, sym, refl, subst, arith}
use Rattle.std.specs.Prelude.{slice_index_or, slice_set}
use Rattle.std.specs.List.{remove}
use Rattle.std.proofs.lemmas.List.Edits.{length-remove}
use Rattle.row_types.specs.declared.values.Value.{Value}
use Rattle.ordered_table.specs.Pages.{flat}
use Rattle.ordered_table.proofs.ChangeLemmas.{IsTakenIn, IsFreeIn, taken_in, free_in, read_ordered}
use Rattle.ordered_table.proofs.PageOfLemmas.{length_set}
use Rattle.ordered_table.proofs.key_places.take_from.Goals as goal

pub place_of-requires : goal.place_of-requires
place_of-requires c =
    read_ordered c.args.key_len c.page_of-page.result c.args.store.now.pages c.pages-3.result.now c.index-pages-page.result c.rows.result.now c.requires.ordered c.pages-3.ensures.value
    (subst (λ (ps : List (List (List Value))). c.page_of-page.result < length ps) c.pages-2.ensures.value c.page_of-page.ensures.within) c.rows.ensures.value c.index-pages-page.is

taken : (c : goal.After-take_at) → IsTakenIn c.args.key_len c.args.key.now c.args.store.now.pages c.page_of-page.result c.in-Taken.index
taken c =
    taken_in c.args.key_len c.args.key.now c.args.key.now c.args.key.now c.page_of-page.result c.in-Taken.index c.args.store.now.pages c.pages-2.result.now c.pages-3.result.now
    c.index-pages-page.result c.rows.result.now refl refl c.pages-2.ensures.value c.pages-3.ensures.value c.rows.ensures.value c.index-pages-page.is c.page_of-page.ensures c.in-Taken.ensures

free : (c : goal.In-Free) → IsFreeIn c.args.key_len c.args.key.now c.args.store.now.pages c.page_of-page.result c.in-Free.field-0
free c =
    free_in c.args.key_len c.args.key.now c.args.key.now c.args.key.now c.page_of-page.result c.in-Free.field-0 c.args.store.now.pages c.pages-2.result.now c.pages-3.result.now
    c.index-pages-page.result c.rows.result.now refl refl c.pages-2.ensures.value c.pages-3.ensures.value c.rows.ensures.value c.index-pages-page.is c.page_of-page.ensures c.in-Free.ensures

pub returns-in-Taken-clause-removed : goal.returns-in-Taken-clause-removed
returns-in-Taken-clause-removed c = ap (λ (row : List Value). Some row) c.take_at.ensures.row ∙ sym ((taken c).row c.take_at.result)

pub returns-in-Taken-clause-rows : goal.returns-in-Taken-clause-rows
returns-in-Taken-clause-rows c = c.take_at.ensures.rows ∙ sym (taken c).removed

pub returns-in-Taken-clause-count : goal.returns-in-Taken-clause-count
returns-in-Taken-clause-count c =
    let page : List (List Value) = slice_index_or c.args.store.now.pages c.page_of-page.result [] in
    let less : length (remove page c.in-Taken.index) + 1 ≡ length page = length-remove page c.in-Taken.index (taken c).within in
    let sum : length (flat (slice_set c.args.store.now.pages c.page_of-page.result (remove page c.in-Taken.index))) + length page ≡ length (flat c.args.store.now.pages) + length (remove page c.in-Taken.index) =
    length_set c.page_of-page.result (remove page c.in-Taken.index) c.args.store.now.pages (taken c).page in
    let new : length (flat c.take_at.new.self.pages) ≡ length (flat (slice_set c.args.store.now.pages c.page_of-page.result (remove page c.in-Taken.index))) = ap length c.take_at.ensures.rows in
    omega arith

pub returns-in-Free-clause-removed : goal.returns-in-Free-clause-removed
returns-in-Free-clause-removed c = sym (free c).row

pub returns-in-Free-clause-rows : goal.returns-in-Free-clause-rows
returns-in-Free-clause-rows c = sym (free c).removed
