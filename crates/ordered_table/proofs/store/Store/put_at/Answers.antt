use Rattle.std.proofs.Common.{◌≡◌, ◌∙◌, ◌+◌, List, [], length, ap, sym, subst, arith}
use Rattle.std.specs.Prelude.{slice_index_or}
use Rattle.std.specs.List.{insert}
use Rattle.std.proofs.lemmas.List.{get_or_read}
use Rattle.std.proofs.lemmas.List.Edits.{length-insert}
use Rattle.row_types.specs.declared.values.Value.{Value}
use Rattle.ordered_table.specs.Pages.{flat, ArePages, settled_split}
use Rattle.ordered_table.specs.StoreView.{StoreView}
use Rattle.ordered_table.proofs.SizeLemmas.{settled_split_flat, parted_flat, set_are, split_are}
use Rattle.ordered_table.proofs.store.Store.put_at.Goals as goal

pub returns-then-len-lt64-clause-sizes : goal.returns-then-len-lt64-clause-sizes
returns-then-len-lt64-clause-sizes c =
    let page : List (List Value) = slice_index_or c.args.self.now.pages c.args.page [] in
    let read : c.index.result.now ≡ slice_index_or c.args.self.now.pages c.args.page c.index.result.now =
    subst (λ (view : StoreView). c.index.result.now ≡ slice_index_or view.pages c.args.page c.index.result.now) c.self.view_is c.index.ensures in
    let same : length c.index.result.now ≡ length page = ap length (get_or_read c.args.self.now.pages c.args.page c.index.result.now c.requires.page read []) in
    let more : length (insert page c.args.index c.args.row) ≡ length page + 1 = length-insert page c.args.index c.args.row c.requires.within in
    subst (λ (pages : List (List (List Value))). ArePages 64 pages) (sym c.put_in.ensures.pages)
    (set_are c.args.page 64 (insert page c.args.index c.args.row) c.args.self.now.pages c.requires.sizes c.requires.page (omega arith)
    (omega (arith, c.if-len-lt64.true, c.len.ensures.value)))

pub returns-clause-rows : goal.returns-clause-rows
returns-clause-rows c =
    ap (λ (pages : List (List (List Value))). flat pages) c.settle_split.ensures.pages
    ∙ settled_split_flat c.args.page c.put_parted.new.self.pages
    ∙ ap (λ (pages : List (List (List Value))). flat pages) c.put_parted.ensures.parts.pages
    ∙ parted_flat c.args.page c.put_parted.ensures.parts.lower c.put_parted.ensures.parts.upper
    (insert (slice_index_or c.args.self.now.pages c.args.page []) c.args.index c.args.row) c.args.self.now.pages c.requires.page c.put_parted.ensures.parts.same

pub returns-clause-sizes : goal.returns-clause-sizes
returns-clause-sizes c =
    subst (λ (pages : List (List (List Value))). ArePages 64 pages)
    (sym (c.settle_split.ensures.pages ∙ ap (settled_split c.args.page) c.put_parted.ensures.parts.pages))
    (split_are c.args.page c.put_parted.ensures.parts.lower c.put_parted.ensures.parts.upper c.args.self.now.pages c.requires.sizes c.requires.page
    c.put_parted.ensures.parts.lower_most c.put_parted.ensures.parts.upper_most c.put_parted.ensures.parts.sum)
