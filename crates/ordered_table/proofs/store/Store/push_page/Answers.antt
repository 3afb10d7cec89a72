use Rattle.std.proofs.Common.{◌≡◌, ◌∙◌, ◌++◌, List, [], ◌∷◌, ap, sym, subst, rules}
use Rattle.std.specs.List.{insert}
use Rattle.row_types.specs.declared.values.Value.{Value}
use Rattle.ordered_table.specs.Pages.{flat, ArePages}
use Rattle.ordered_table.specs.StoreView.{StoreView}
use Rattle.ordered_table.proofs.PushLemmas.{page_flat, page_are}
use Rattle.ordered_table.proofs.store.Store.push_page.Goals as goal

added : (c : goal.After-give_page) → c.give_page.new.pages.items ≡ c.args.self.now.pages ++ (c.args.row ∷ []) ∷ []
added c =
    let blank : c.in-Some.page ≡ [] = search rules in
    let page_is : c.put_in.new.self ≡ c.args.row ∷ [] = c.put_in.ensures ∙ ap (λ (rows : List (List Value)). insert rows 0 c.args.row) blank in
    let pages_are : c.self.inside.pages.items ≡ c.args.self.now.pages = ap (λ (view : StoreView). view.pages) c.self.view_is ∙ c.grow.ensures.pages in
    c.give_page.ensures.items
    ∙ ap (λ (rows : List (List Value)). c.self.inside.pages.items ++ rows ∷ []) page_is
    ∙ ap (λ (pages : List (List (List Value))). pages ++ (c.args.row ∷ []) ∷ []) pages_are

pub returns-clause-rows : goal.returns-clause-rows
returns-clause-rows c = ap (λ (pages : List (List (List Value))). flat pages) (added c) ∙ page_flat c.args.row c.args.self.now.pages

pub returns-clause-sizes : goal.returns-clause-sizes
returns-clause-sizes c = subst (λ (pages : List (List (List Value))). ArePages 64 pages) (sym (added c)) (page_are c.args.row c.args.self.now.pages c.requires.sizes c.requires.full)
