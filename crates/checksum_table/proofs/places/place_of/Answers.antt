use Rattle.std.proofs.Common.{rules, of_calls}
use Rattle.std.proofs.lemmas.Fn.{always_returns_same}
use Rattle.checksum_table.specs.declared.check_rows.CheckEntry.{CheckEntry}
use Rattle.std.specs.Ordering.{nat_cmp, ordering_then}
use Rattle.checksum_table.proofs.PlaceLemmas.{searched_found, searched_free}
use Rattle.checksum_table.proofs.places.place_of.Goals as goal

pub returns-clause-found : goal.returns-clause-found
returns-clause-found c =
    searched_found c.args.table c.args.chunk c.args.entries.now c.binary_search_by.result c.requires c.binary_search_by.ensures.bound
    (c.binary_search_by.ensures.position (λ (y : CheckEntry). ordering_then (nat_cmp y.table c.args.table) (nat_cmp y.chunk c.args.chunk)) (always_returns_same _ _ _ (λ a r f k. search (rules, of_calls))))

pub returns-clause-free : goal.returns-clause-free
returns-clause-free c =
    searched_free c.args.table c.args.chunk c.args.entries.now c.binary_search_by.result c.requires c.binary_search_by.ensures.bound
    (c.binary_search_by.ensures.position (λ (y : CheckEntry). ordering_then (nat_cmp y.table c.args.table) (nat_cmp y.chunk c.args.chunk)) (always_returns_same _ _ _ (λ a r f k. search (rules, of_calls))))
