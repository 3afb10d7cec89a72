use Rattle.std.proofs.Common.{◌≡◌, ◌∙◌, ◌-◌, suc, List, [], length, ap, sym, subst, arith}
use Rattle.std.specs.Prelude.{slice_index_or, vec_len}
use Rattle.std.proofs.lemmas.List.{get_or_read}
use Rattle.row_types.specs.declared.values.Value.{Value}
use Rattle.ordered_table.specs.Pages.{flat, ArePages, IsLastFull}
use Rattle.ordered_table.specs.StoreView.{StoreView}
use Rattle.ordered_table.proofs.PushLemmas.{push_flat, push_are, none_full, read_full}
use Rattle.ordered_table.proofs.store.Store.push.Goals as goal

pub push_page-requires-clause-full : goal.push_page-requires-clause-full
push_page-requires-clause-full c =
    let ok : length c.self.inside.pages.items ≡ vec_len c.self.inside.pages = sym (c.self.inside.pages.ok.0) in
    subst (λ (view : StoreView). IsLastFull view.pages) c.self.view_is
    (none_full c.self.inside.pages.items (omega (arith, c.if-count-eq0.true, c.len-count.ensures)))

pub push_page-requires-then-len-ge64-clause-full : goal.push_page-requires-then-len-ge64-clause-full
push_page-requires-then-len-ge64-clause-full c =
    let ok : length c.self.inside.pages.items ≡ vec_len c.self.inside.pages = sym (c.self.inside.pages.ok.0) in
    let sizes : ArePages 64 c.self.inside.pages.items = subst (λ (view : StoreView). ArePages 64 view.pages) (sym c.self.view_is) c.requires.sizes in
    subst (λ (view : StoreView). IsLastFull view.pages) c.self.view_is
    (read_full (c.len-count.result - 1) c.index.result.now c.self.inside.pages.items sizes (omega (arith, c.if-count-eq0.false, c.len-count.ensures)) c.index.ensures
    (omega (arith, c.if-len-ge64.true, c.len-len.ensures.value)))

last : (c : goal.After-put_in) → suc (c.len-count.result - 1) ≡ length c.args.self.now.pages
last c =
    let ok : length c.self.inside.pages.items ≡ vec_len c.self.inside.pages = sym (c.self.inside.pages.ok.0) in
    let same : length c.self.inside.pages.items ≡ length c.args.self.now.pages = ap (λ (view : StoreView). length view.pages) c.self.view_is in
    omega (arith, c.if-count-eq0.false, c.len-count.ensures)

end : (c : goal.After-put_in) → c.len-len.result ≡ length (slice_index_or c.args.self.now.pages (c.len-count.result - 1) [])
end c =
    let most : suc (c.len-count.result - 1) ≡ length c.args.self.now.pages = last c in
    let read : c.index.result.now ≡ slice_index_or c.args.self.now.pages (c.len-count.result - 1) c.index.result.now =
    subst (λ (view : StoreView). c.index.result.now ≡ slice_index_or view.pages (c.len-count.result - 1) c.index.result.now) c.self.view_is c.index.ensures in
    c.len-len.ensures.value ∙ ap length (get_or_read c.args.self.now.pages (c.len-count.result - 1) c.index.result.now (omega arith) read [])

pub returns-clause-rows : goal.returns-clause-rows
returns-clause-rows c =
    ap (λ (pages : List (List (List Value))). flat pages) c.put_in.ensures.pages
    ∙ push_flat (c.len-count.result - 1) c.len-len.result c.args.row c.args.self.now.pages (last c) (end c)

pub returns-clause-sizes : goal.returns-clause-sizes
returns-clause-sizes c =
    subst (λ (pages : List (List (List Value))). ArePages 64 pages) (sym c.put_in.ensures.pages)
    (push_are (c.len-count.result - 1) c.len-len.result c.args.row c.args.self.now.pages c.requires.sizes (last c) (end c) (omega (arith, c.if-len-ge64.false)))
