use Rattle.std.proofs.Common.{◌≡◌, ◌≤◌, ◌+◌, ◌++◌}
use Rattle.std.specs.Prelude.{vec_len, vec_capacity}
use Rattle.ordered_table.proofs.pages.Page.give_from.Given as goal

pub record IsGiven (l : goal.Live-loop-self) : Type 0 where
  pub rows : l.self-inside.rows.items ++ l.other-inside.rows.items ≡ l.initial.self-inside.rows.items
  pub sum : vec_len l.self-inside.rows + vec_len l.other-inside.rows ≡ vec_len l.initial.self-inside.rows
  pub left : l.from ≤ vec_len l.self-inside.rows
  pub kept : vec_capacity l.self-inside.rows ≡ vec_capacity l.initial.self-inside.rows
  pub room : 64 ≤ vec_capacity l.other-inside.rows
  pub same : l.from ≡ l.initial.from

abbrev pub invariant-loop-self : goal.invariant-loop-self
invariant-loop-self l = IsGiven l

abbrev pub decreases-loop-self : goal.decreases-loop-self
decreases-loop-self l = vec_len l.self-inside.rows
