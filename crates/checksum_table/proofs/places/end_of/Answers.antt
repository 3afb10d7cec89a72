use Rattle.std.proofs.Common.{leb, leb-true, leb-false, arith, rules}
use Rattle.std.proofs.lemmas.List.Sorted.{IsPartitionPoint-from_clause, IsPartitionedBy-leb}
use Rattle.checksum_table.specs.declared.check_rows.CheckEntry.{CheckEntry}
use Rattle.checksum_table.proofs.LastLemmas.{tables_rise}
use Rattle.checksum_table.proofs.places.end_of.Goals as goal

pub returns : goal.returns
returns c =
    let parted = IsPartitionedBy-leb (λ (e : CheckEntry). e.table) c.args.entries.now c.args.table (tables_rise c.args.entries.now c.requires) in
    let point = IsPartitionPoint-from_clause (λ (e : CheckEntry). leb e.table c.args.table) c.args.entries.now c.partition_point.result c.partition_point.ensures.partitioned parted
    (λ a r q k. search rules) in
    record {
      within = c.partition_point.ensures.bound;
      before = λ k d h. leb-true _ _ (point.0 k d (omega arith) h);
      behind = λ k d h w. leb-false _ _ (point.1 k d h w);
    }
