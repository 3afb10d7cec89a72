use Rattle.std.proofs.Common.{◌≡◌, ◌∙◌, ◌≤◌, ◌+◌, List, [], length, ap, sym, subst, arith}
use Rattle.std.specs.Prelude.{slice_index_or}
use Rattle.std.specs.List.{remove}
use Rattle.std.proofs.lemmas.List.Edits.{length-remove}
use Rattle.row_types.specs.declared.values.Value.{Value}
use Rattle.ordered_table.specs.Pages.{flat, ArePages, settled_loss, without_empty}
use Rattle.ordered_table.proofs.SizeLemmas.{without_empty_flat, settled_loss_flat, loss_are, page_most}
use Rattle.ordered_table.proofs.store.Store.take_at.Goals as goal

pub returns-clause-rows : goal.returns-clause-rows
returns-clause-rows c =
    ap (λ (pages : List (List (List Value))). flat pages) c.settle_loss.ensures.pages
    ∙ without_empty_flat (settled_loss c.args.page c.take_out-row.new.self.pages)
    ∙ settled_loss_flat c.args.page c.take_out-row.new.self.pages
    ∙ ap (λ (pages : List (List (List Value))). flat pages) c.take_out-row.ensures.pages

pub returns-clause-sizes : goal.returns-clause-sizes
returns-clause-sizes c =
    let page : List (List Value) = slice_index_or c.args.self.now.pages c.args.page [] in
    let most : length page ≤ 64 = page_most c.args.page 64 c.args.self.now.pages c.requires.sizes c.requires.page in
    let less : length (remove page c.args.index) + 1 ≡ length page = length-remove page c.args.index c.requires.within in
    subst (λ (pages : List (List (List Value))). ArePages 64 pages)
    (sym (c.settle_loss.ensures.pages ∙ ap (λ (pages : List (List (List Value))). without_empty (settled_loss c.args.page pages)) c.take_out-row.ensures.pages))
    (loss_are c.args.page (remove page c.args.index) c.args.self.now.pages c.requires.sizes c.requires.page (omega arith))
