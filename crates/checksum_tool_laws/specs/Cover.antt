-- Cover: the chunks of a table that have the source's checksum hold each key once.
use Rattle.std.specs.Prelude.{ℕ, zero, suc, ◌≡◌, ◌+◌, cond, List, [], ◌∷◌, Option, None, Some, option_map}
use Rattle.std.specs.List.{slice_get}
use Rattle.std.specs.declared.cmp.Ordering.TheVariants.{Less}
use Rattle.row_types.specs.declared.values.Value.{Value}
use Rattle.row_types.specs.declared.edges.Edge.{Edge}
use Rattle.row_types.specs.declared.edges.Edge.TheVariants.{Low, High}
use Rattle.row_types.specs.declared.edges.Span.{Span}
use Rattle.row_types.specs.declared.digests.Digest.{Digest}
use Rattle.row_types.specs.Order.{edge_cmp, has}
use Rattle.checksum_table.specs.declared.check_rows.CheckRow.{CheckRow}
use Rattle.checksum_table.specs.declared.check_rows.CheckEntry.{CheckEntry}
use Rattle.checksum_table.specs.Checks.{check_at}

-- spans from one edge to another: each begins where the one before ends, and none is empty
abbrev pub Reaches : Edge → List Span → Edge → Type 0
Reaches lo [] hi = lo ≡ hi
Reaches lo (span ∷ spans) hi = (span.lo ≡ lo) × (edge_cmp span.lo span.hi ≡ Less) × Reaches span.hi spans hi

-- how many of the spans have a key
abbrev pub holding : List Value → List Span → ℕ
holding key [] = 0
holding key (span ∷ spans) = cond (has span key) (holding key spans + 1) (holding key spans)

-- the span of a check row that has the source's checksum
abbrev pub mastered_in : Option CheckRow → Option Span
mastered_in None = None
mastered_in (Some row) = option_map (λ (master : Digest). row.span) row.master

abbrev pub mastered_at : ℕ → ℕ → List CheckEntry → Option Span
mastered_at table chunk checks = mastered_in (check_at table chunk checks)

-- chunks are numbered from 1
abbrev pub span_at : ℕ → List Span → Option Span
span_at zero spans = None
span_at (suc number) spans = slice_get spans number

pub record Cover (checks : List CheckEntry) (table : ℕ) : Type 0 where
  -- the chunks of the table that have the source's checksum, and no others, have these spans, in order
  pub spans : List Span
  pub rows : (chunk : ℕ) → mastered_at table chunk checks ≡ span_at chunk spans
  -- which go from below all keys to above all keys
  pub whole : Reaches Low spans High
  -- so each key is in one of them
  pub once : (key : List Value) → holding key spans ≡ 1
