use Rattle.std.proofs.Common.{◌≡◌, ◌≤◌, ◌++◌, length, take, vec_len}
use Rattle.std.specs.List.{AllByRecursion}
use Rattle.row_types.specs.Faults.{TextIsShort}
use Rattle.row_digest.specs.Encoding.{encoded}
use Rattle.row_digest.proofs.encoding.push_values.Given as goal

abbrev pub invariant-loop-value : goal.invariant-loop-value
invariant-loop-value l = record {
  short : AllByRecursion TextIsShort l.rest;
  written : l.out.items ++ encoded l.rest ≡ l.fn.out.items ++ encoded l.values;
  front : take (vec_len l.fn.out) l.out.items ≡ l.fn.out.items;
  longer : vec_len l.fn.out ≤ vec_len l.out;
}

abbrev pub decreases-loop-value : goal.decreases-loop-value
decreases-loop-value l = length l.rest
