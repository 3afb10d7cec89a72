-- What a store of pages keeps, and what always holds of it.
use Rattle.std.specs.Prelude.{◌≡◌, ◌≤◌, ◌+◌, [], vec_len, vec_capacity}
use Rattle.std.specs.List.{All}
use Rattle.ordered_table.specs.declared.store.Store.TheInside.{Inside}
use Rattle.ordered_table.specs.StoreView.{StoreView}

abbrev pub store_view : Inside → StoreView
store_view store = record { pages = store.pages.items; empties = vec_len store.empties }

-- the empty pages are empty, and each of both lists has reserved capacity for all pages
pub record IsStore (store : Inside) : Type 0 where
  pub blank : All (λ page. page ≡ []) store.empties.items
  pub index_room : vec_len store.pages + vec_len store.empties ≤ vec_capacity store.pages
  pub empties_room : vec_len store.pages + vec_len store.empties ≤ vec_capacity store.empties
