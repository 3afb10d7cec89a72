use Rattle.std.proofs.Common.{◌≡◌, ◌∙◌, ◌+◌, List, length, ap, sym, subst, arith}
use Rattle.std.specs.Prelude.{slice_index_or, slice_set, vec_len}
use Rattle.row_types.specs.declared.values.Value.{Value}
use Rattle.ordered_table.specs.Pages.{joined}
use Rattle.ordered_table.specs.StoreView.{StoreView}
use Rattle.ordered_table.proofs.SizeLemmas.{joined_last, joined_large, joined_written}
use Rattle.ordered_table.proofs.store.Store.join.Goals as goal

pub returns-then-len-page-clause-pages : goal.returns-then-len-page-clause-pages
returns-then-len-page-clause-pages c =
    let ok : length c.self.inside.pages.items ≡ vec_len c.self.inside.pages = sym (c.self.inside.pages.ok.0) in
    subst (λ (view : StoreView). view.pages ≡ joined c.args.page view.pages) c.self.view_is
    (sym (joined_last c.args.page c.self.inside.pages.items (omega (arith, c.if-len-page.true, c.len.ensures))))

pub returns-then-len-gt64-clause-pages : goal.returns-then-len-gt64-clause-pages
returns-then-len-gt64-clause-pages c =
    let ok : length c.self.inside.pages.items ≡ vec_len c.self.inside.pages = sym (c.self.inside.pages.ok.0) in
    subst (λ (view : StoreView). view.pages ≡ joined c.args.page view.pages) c.self.view_is
    (sym (joined_large c.args.page c.index.result.now c.index-2.result.now c.self.inside.pages.items
    (omega (arith, c.if-len-page.false, c.len.ensures)) c.index.ensures
    (subst (λ n. c.index-2.result.now ≡ slice_index_or c.self.inside.pages.items n c.index-2.result.now) (omega arith) c.index-2.ensures)
    (omega (arith, c.if-len-gt64.true, c.len-2.ensures.value, c.len-3.ensures.value))))

pub returns-clause-pages : goal.returns-clause-pages
returns-clause-pages c =
    let ok : length c.self.inside.pages.items ≡ vec_len c.self.inside.pages = sym (c.self.inside.pages.ok.0) in
    ap (λ (rows : List (List Value)). slice_set c.remove-next.new.self.items c.args.page rows) c.take_all.ensures.rows
    ∙ sym (joined_written c.args.page c.index_mut.result.now c.remove-next.result c.index.result.now c.index-2.result.now c.self.inside.pages.items c.remove-next.new.self.items
    (c.args.page + 1) (omega arith) (omega (arith, c.if-len-page.false, c.len.ensures)) c.index.ensures c.index-2.ensures
    (omega (arith, c.if-len-gt64.false, c.len-2.ensures.value, c.len-3.ensures.value)) c.remove-next.ensures.value c.remove-next.ensures.items c.index_mut.ensures.value)
    ∙ ap (λ (view : StoreView). joined c.args.page view.pages) c.self.view_is
