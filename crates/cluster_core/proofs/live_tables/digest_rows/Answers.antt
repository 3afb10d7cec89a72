use Rattle.std.proofs.Common.{◌∙◌, sym, ap, subst, arith, List}
use Rattle.std.specs.List.{AllByRecursion}
use Rattle.row_types.specs.declared.values.Value.{Value}
use Rattle.row_types.specs.declared.digests.Digest.{Digest}
use Rattle.row_digest.specs.Encoding.{IsEncodable}
use Rattle.row_digest.specs.Digest.{added_rows, no_rows}
use Rattle.cluster_core.proofs.EachLemmas.{each_filtered}
use Rattle.cluster_core.proofs.live_tables.digest_rows.Goals as goal

pub loop-row-init : goal.loop-row-init
loop-row-init c =
    let none = ap (λ (d : Digest). d.count) c.empty_digest-digest.ensures in
    record {
      encodable = subst (AllByRecursion IsEncodable) (sym c.each-ahead.ensures.value)
          (each_filtered IsEncodable _ c.args.table.now.rows c.requires);
      countable = omega (arith, none);
      summed = ap (added_rows c.args.kind c.each-ahead.result) c.empty_digest-digest.ensures
          ∙ ap (λ (rows : List (List Value)). added_rows c.args.kind rows no_rows) c.each-ahead.ensures.value;
    }
