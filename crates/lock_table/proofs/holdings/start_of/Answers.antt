use Rattle.std.proofs.Common.{ltb, ltb-true, ltb-false, arith, rules}
use Rattle.std.proofs.lemmas.List.Sorted.{IsPartitionPoint-from_clause, IsPartitionedBy-ltb}
use Rattle.lock_table.specs.declared.wants.Holding.{Holding}
use Rattle.lock_table.proofs.PlaceLemmas.{owners_rise}
use Rattle.lock_table.proofs.holdings.start_of.Goals as goal

pub returns : goal.returns
returns c =
    let parted = IsPartitionedBy-ltb (λ (h : Holding). h.owner.0) c.args.held.now c.args.owner.0 (owners_rise c.args.held.now c.requires) in
    let point = IsPartitionPoint-from_clause (λ (h : Holding). ltb h.owner.0 c.args.owner.0) c.args.held.now c.partition_point.result c.partition_point.ensures.partitioned parted
    (λ a r q k. search rules) in
    record {
      within = c.partition_point.ensures.bound;
      before = λ k d h. ltb-true _ _ (point.0 k d (omega arith) h);
      behind = λ k d h w. ltb-false _ _ (point.1 k d h w);
    }
