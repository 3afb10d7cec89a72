use Rattle.std.proofs.Common.{◌≡◌, ◌++◌}
use Rattle.ordered_table.specs.Pages.{flat}
use Rattle.ordered_table.proofs.store.Store.into_rows.Given as goal

abbrev pub invariant-loop-page : goal.invariant-loop-page
invariant-loop-page l = l.items.items ++ flat l.page-iterator.rest.items ≡ flat l.fn.self.pages
