use Rattle.std.proofs.Common.{◌≡◌, ◌∙◌, ◌+◌, ◌<◌, Some, List, [], length, take, ap, sym, refl, subst, arith}
use Rattle.std.specs.Prelude.{slice_index_or, slice_set}
use Rattle.std.specs.List.{insert}
use Rattle.std.proofs.lemmas.List.{length-set}
use Rattle.std.proofs.lemmas.List.Edits.{length-insert}
use Rattle.row_types.specs.declared.values.Value.{Value}
use Rattle.ordered_table.specs.Pages.{flat, ArePages}
use Rattle.ordered_table.proofs.ChangeLemmas.{IsTakenIn, IsFreeIn, taken_in, free_in, read_ordered, exchanged_are}
use Rattle.ordered_table.proofs.PageOfLemmas.{length_set}
use Rattle.ordered_table.proofs.key_places.put_into.Goals as goal

pub place_of-requires : goal.place_of-requires
place_of-requires c =
    read_ordered c.args.key_len c.page_of-page.result c.args.store.now.pages c.pages-3.result.now c.index-pages-page.result c.rows.result.now c.requires.ordered c.pages-3.ensures.value
    (subst (λ (ps : List (List (List Value))). c.page_of-page.result < length ps) c.pages-2.ensures.value c.page_of-page.ensures.within) c.rows.ensures.value c.index-pages-page.is

taken : (c : goal.After-exchange) → IsTakenIn c.args.key_len (take c.args.key_len c.args.row) c.args.store.now.pages c.page_of-page.result c.in-Taken.index
taken c =
    taken_in c.args.key_len (take c.args.key_len c.args.row) c.key_values.result.now c.key_values-2.result.now c.page_of-page.result c.in-Taken.index c.args.store.now.pages c.pages-2.result.now c.pages-3.result.now
    c.index-pages-page.result c.rows.result.now c.key_values.ensures c.key_values-2.ensures c.pages-2.ensures.value c.pages-3.ensures.value c.rows.ensures.value c.index-pages-page.is c.page_of-page.ensures c.in-Taken.ensures

free : (c : goal.After-put_at) → IsFreeIn c.args.key_len (take c.args.key_len c.args.row) c.args.store.now.pages c.page_of-page.result c.in-Free.index
free c =
    free_in c.args.key_len (take c.args.key_len c.args.row) c.key_values.result.now c.key_values-2.result.now c.page_of-page.result c.in-Free.index c.args.store.now.pages c.pages-2.result.now c.pages-3.result.now
    c.index-pages-page.result c.rows.result.now c.key_values.ensures c.key_values-2.ensures c.pages-2.ensures.value c.pages-3.ensures.value c.rows.ensures.value c.index-pages-page.is c.page_of-page.ensures c.in-Free.ensures

pub put_at-requires-clause-some : goal.put_at-requires-clause-some
put_at-requires-clause-some c =
    let free_there : IsFreeIn c.args.key_len (take c.args.key_len c.args.row) c.args.store.now.pages c.page_of-page.result c.in-Free.index =
    free_in c.args.key_len (take c.args.key_len c.args.row) c.key_values.result.now c.key_values-2.result.now c.page_of-page.result c.in-Free.index c.args.store.now.pages c.pages-2.result.now c.pages-3.result.now
    c.index-pages-page.result c.rows.result.now c.key_values.ensures c.key_values-2.ensures c.pages-2.ensures.value c.pages-3.ensures.value c.rows.ensures.value c.index-pages-page.is c.page_of-page.ensures c.in-Free.ensures in
    c.requires.room free_there.row

pub returns-in-Taken-clause-replaced : goal.returns-in-Taken-clause-replaced
returns-in-Taken-clause-replaced c = ap (λ (row : List Value). Some row) c.exchange.ensures.replaced ∙ sym ((taken c).row c.exchange.result)

pub returns-in-Taken-clause-rows : goal.returns-in-Taken-clause-rows
returns-in-Taken-clause-rows c = ap (λ (ps : List (List (List Value))). flat ps) c.exchange.ensures.pages ∙ sym ((taken c).put c.args.row refl)

pub returns-in-Taken-clause-sizes : goal.returns-in-Taken-clause-sizes
returns-in-Taken-clause-sizes c =
    subst (λ (ps : List (List (List Value))). ArePages 64 ps) (sym c.exchange.ensures.pages)
    (exchanged_are c.page_of-page.result c.in-Taken.index c.args.row c.args.store.now.pages c.requires.sizes (taken c).page)

pub returns-in-Taken-clause-count : goal.returns-in-Taken-clause-count
returns-in-Taken-clause-count c =
    let page : List (List Value) = slice_index_or c.args.store.now.pages c.page_of-page.result [] in
    let same : length (slice_set page c.in-Taken.index c.args.row) ≡ length page = length-set page c.in-Taken.index c.args.row in
    let sum : length (flat (slice_set c.args.store.now.pages c.page_of-page.result (slice_set page c.in-Taken.index c.args.row))) + length page ≡ length (flat c.args.store.now.pages) + length (slice_set page c.in-Taken.index c.args.row) =
    length_set c.page_of-page.result (slice_set page c.in-Taken.index c.args.row) c.args.store.now.pages (taken c).page in
    let new : length (flat c.exchange.new.self.pages) ≡ length (flat (slice_set c.args.store.now.pages c.page_of-page.result (slice_set page c.in-Taken.index c.args.row))) =
    ap (λ (ps : List (List (List Value))). length (flat ps)) c.exchange.ensures.pages in
    omega arith

pub returns-in-Free-clause-replaced : goal.returns-in-Free-clause-replaced
returns-in-Free-clause-replaced c = sym (free c).row

pub returns-in-Free-clause-rows : goal.returns-in-Free-clause-rows
returns-in-Free-clause-rows c = c.put_at.ensures.rows ∙ sym ((free c).put c.args.row refl)

pub returns-in-Free-clause-count : goal.returns-in-Free-clause-count
returns-in-Free-clause-count c =
    let page : List (List Value) = slice_index_or c.args.store.now.pages c.page_of-page.result [] in
    let more : length (insert page c.in-Free.index c.args.row) ≡ length page + 1 = length-insert page c.in-Free.index c.args.row (free c).within in
    let sum : length (flat (slice_set c.args.store.now.pages c.page_of-page.result (insert page c.in-Free.index c.args.row))) + length page ≡ length (flat c.args.store.now.pages) + length (insert page c.in-Free.index c.args.row) =
    length_set c.page_of-page.result (insert page c.in-Free.index c.args.row) c.args.store.now.pages (free c).page in
    let new : length (flat c.put_at.new.self.pages) ≡ length (flat (slice_set c.args.store.now.pages c.page_of-page.result (insert page c.in-Free.index c.args.row))) = ap length c.put_at.ensures.rows in
    omega arith
