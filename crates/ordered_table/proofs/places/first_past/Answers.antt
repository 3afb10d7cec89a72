use Rattle.std.proofs.Common.{not, take, rules}
use Rattle.std.proofs.lemmas.List.Sorted.{IsPartitionPoint-from_clause}
use Rattle.row_types.specs.KeyRows.{Row}
use Rattle.ordered_table.specs.Places.{is_past}
use Rattle.ordered_table.proofs.CutLemmas.{not_past_parted, cut_at_point}
use Rattle.ordered_table.proofs.places.first_past.Goals as goal

pub returns : goal.returns
returns c =
    cut_at_point c.args.key_len c.args.strictly c.args.key.now c.args.rows.now c.partition_point.result c.partition_point.ensures.bound
    (IsPartitionPoint-from_clause (λ (row : Row). not (is_past c.args.strictly c.args.key.now (take c.args.key_len row))) c.args.rows.now c.partition_point.result
    c.partition_point.ensures.partitioned (not_past_parted c.args.key_len c.args.strictly c.args.key.now c.args.rows.now c.requires) (λ a r q k. search rules))
