use Rattle.std.proofs.Common.{[], not, take, true, rules}
use Rattle.std.specs.Prelude.{slice_index_or}
use Rattle.std.proofs.lemmas.List.Sorted.{IsPartitionPoint-from_clause}
use Rattle.row_types.specs.KeyRows.{Rows}
use Rattle.ordered_table.specs.Places.{is_past}
use Rattle.ordered_table.proofs.SearchLemmas.{pages_parted, cut_at_page}
use Rattle.ordered_table.proofs.page_search.first_page_past.Goals as goal

pub returns : goal.returns
returns c =
    cut_at_page c.args.key_len c.args.key.now c.args.pages.now c.partition_point.result c.partition_point.ensures.bound
    (IsPartitionPoint-from_clause (λ (page : Rows). not (is_past true c.args.key.now (take c.args.key_len (slice_index_or page 0 [])))) c.args.pages.now c.partition_point.result
    c.partition_point.ensures.partitioned (pages_parted c.args.key_len c.args.key.now c.args.pages.now c.requires.ordered c.requires.pages) (λ a r q k. search rules))
