use Rattle.std.proofs.Common.{◌≡◌, ◌<◌, ◌+◌, ◌^◌, length}
use Rattle.std.specs.List.{AllByRecursion}
use Rattle.row_types.specs.KeyRows.{rows_in}
use Rattle.row_digest.specs.Encoding.{IsEncodable}
use Rattle.row_digest.specs.Digest.{added_rows, digest_of}
use Rattle.cluster_core.proofs.live_tables.digest_rows.Given as goal

abbrev pub invariant-loop-row : goal.invariant-loop-row
invariant-loop-row l = record {
  encodable : AllByRecursion IsEncodable l.ahead;
  countable : l.digest.count + length l.ahead < 2 ^ 63;
  summed : added_rows l.kind l.ahead l.digest ≡ digest_of l.kind (rows_in l.table.key_len l.span l.table.rows);
}

abbrev pub decreases-loop-row : goal.decreases-loop-row
decreases-loop-row l = length l.ahead
