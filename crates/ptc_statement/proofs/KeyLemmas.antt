-- Keys among rows: the span of a key has it alone; rows above a row; the row at a key.
use Rattle.std.proofs.Common.{◌≡◌, ◌∙◌, true, cond, Some, None, List, [], ◌∷◌, refl, ap, sym}
use Rattle.std.specs.Prelude.{◌&&◌}
use Rattle.std.specs.Ordering.{is_eq, is_le, ordering_reverse}
use Rattle.std.specs.declared.cmp.Ordering.{Ordering}
use Rattle.std.specs.declared.cmp.Ordering.TheVariants.{Less, Equal, Greater}
use Rattle.row_types.specs.declared.values.Value.{Value}
use Rattle.row_types.specs.declared.table_schema.Schema.{Schema}
use Rattle.row_types.specs.Order.{key_cmp, has}
use Rattle.row_types.specs.Fit.{key_of, IsBelowAll}
use Rattle.row_types.proofs.OrderLemmas.{key_below, keys_total, keys_exact, key_ties}
use Rattle.ptc_statement.specs.Reach.{just_key}
use Rattle.ptc_statement.specs.Effect.{row_at}

pub is_equal : (o : Ordering) → is_eq o ≡ true → o ≡ Equal
is_equal Less e = cc
is_equal Equal e = refl
is_equal Greater e = cc

-- only a key itself is between its two sides
both_ways : (o p : Ordering) → p ≡ ordering_reverse o → is_le p && is_le o ≡ is_eq o
both_ways Less p e = rw e refl
both_ways Equal p e = rw e refl
both_ways Greater p e = rw e refl

pub just_itself : (key other : List Value) → has (just_key key) other ≡ is_eq (key_cmp other key)
just_itself key other = both_ways (key_cmp other key) (key_cmp key other) (keys_total.antisymm key other)

pub itself_alone : (key other : List Value) → has (just_key key) other ≡ true → other ≡ key
itself_alone key other is = keys_exact other key (is_equal (key_cmp other key) (sym (just_itself key other) ∙ is))

-- no row behind another has its key
pub none_behind : (schema : Schema) (key row : List Value) (rows : List (List Value)) → key ≡ key_of schema row → IsBelowAll schema row rows → row_at schema key rows ≡ None
none_behind schema key row [] is below = refl
none_behind schema key row (other ∷ others) is below =
    ap (λ (o : Ordering). cond (is_eq o) (Some other) (row_at schema key others)) (ap (λ (k : List Value). key_cmp k (key_of schema other)) is ∙ below.0)
    ∙ none_behind schema key row others is below.1

-- a key below a row's is below all that follow that row
pub below_all : (schema : Schema) (least row : List Value) (rows : List (List Value)) → key_cmp (key_of schema least) (key_of schema row) ≡ Less → IsBelowAll schema row rows → IsBelowAll schema least rows
below_all schema least row [] below all = tt
below_all schema least row (other ∷ others) below all =
    (key_below (key_of schema least) (key_of schema row) (key_of schema other) below all.0, below_all schema least row others below all.1)

-- rows above a row are above each other one that has its key
pub same_above : (schema : Schema) (old new : List Value) (rows : List (List Value)) → key_of schema new ≡ key_of schema old → IsBelowAll schema old rows → IsBelowAll schema new rows
same_above schema old new [] same below = tt
same_above schema old new (row ∷ rows) same below =
    (ap (λ (key : List Value). key_cmp key (key_of schema row)) same ∙ below.0, same_above schema old new rows same below.1)
