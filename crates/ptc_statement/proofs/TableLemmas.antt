-- A statement that fits leaves a table of a table.
use Rattle.std.proofs.Common.{◌≡◌, ◌∙◌, Bool, true, false, cond, Option, Some, None, List, [], ◌∷◌, refl, ap}
use Rattle.std.specs.Prelude.{is_some}
use Rattle.std.specs.Ordering.{match_ordering}
use Rattle.std.specs.declared.cmp.Ordering.{Ordering}
use Rattle.std.specs.declared.cmp.Ordering.TheVariants.{Less, Equal, Greater}
use Rattle.row_types.specs.declared.values.Value.{Value}
use Rattle.row_types.specs.declared.table_schema.Schema.{Schema}
use Rattle.row_types.specs.Order.{key_cmp}
use Rattle.row_types.specs.Fit.{key_of, RowFits, IsBelowAll, IsTable, with_row}
use Rattle.row_types.proofs.OrderLemmas.{key_turns_back, keys_exact}
use Rattle.ptc_statement.specs.declared.statements.Statement.{Statement}
use Rattle.ptc_statement.specs.declared.statements.Statement.TheVariants.{Insert, Replace, Delete, Update, LockRead, Check, SetMaster, ClearChecks}
use Rattle.ptc_statement.specs.Effect.{effect, changed, with_front, row_at, rows_after}
use Rattle.ptc_statement.specs.Fits.{StatementFits}
use Rattle.ptc_statement.proofs.KeyLemmas.{below_all, same_above}
use Rattle.ptc_statement.proofs.KeepLemmas.{LeftKeeps, effect_keeps}

-- what is left of greater rows is greater
front_above : (schema : Schema) (least old : List Value) (left : Option (List Value)) (rows : List (List Value)) → LeftKeeps schema old left
    → key_cmp (key_of schema least) (key_of schema old) ≡ Less → IsBelowAll schema least rows → IsBelowAll schema least (with_front left rows)
front_above schema least old None rows keeps below all = all
front_above schema least old (Some new) rows keeps below all =
    (ap (key_cmp (key_of schema least)) keeps.key ∙ below, all)

pub changed_above : (schema : Schema) (statement : Statement) (least : List Value) (rows : List (List Value)) → StatementFits schema statement → IsTable schema rows
    → IsBelowAll schema least rows → IsBelowAll schema least (changed schema statement rows)
changed_above schema statement least [] of table below = tt
changed_above schema statement least (row ∷ rows) of table below =
    front_above schema least row (effect schema statement (key_of schema row) (Some row)) (changed schema statement rows)
    (effect_keeps schema statement row table.0 of) below.0
    (changed_above schema statement least rows of table.2 below.1)

front_table : (schema : Schema) (old : List Value) (left : Option (List Value)) (rows : List (List Value)) → LeftKeeps schema old left
    → IsBelowAll schema old rows → IsTable schema rows → IsTable schema (with_front left rows)
front_table schema old None rows keeps below table = table
front_table schema old (Some new) rows keeps below table = (keeps.fits, same_above schema old new rows keeps.key below, table)

changed_table : (schema : Schema) (statement : Statement) (rows : List (List Value)) → StatementFits schema statement → IsTable schema rows → IsTable schema (changed schema statement rows)
changed_table schema statement [] of table = tt
changed_table schema statement (row ∷ rows) of table =
    front_table schema row (effect schema statement (key_of schema row) (Some row)) (changed schema statement rows)
    (effect_keeps schema statement row table.0 of)
    (changed_above schema statement row rows of table.2 table.1)
    (changed_table schema statement rows of table.2)

replace_above_at : (schema : Schema) (least row other : List Value) (others : List (List Value)) (o : Ordering) → key_cmp (key_of schema least) (key_of schema row) ≡ Less
    → IsBelowAll schema least (other ∷ others) → IsBelowAll schema least (with_row schema row others)
    → IsBelowAll schema least (match_ordering o (row ∷ other ∷ others) (row ∷ others) (other ∷ with_row schema row others))
replace_above_at schema least row other others Less below all more = (below, all)
replace_above_at schema least row other others Equal below all more = (below, all.1)
replace_above_at schema least row other others Greater below all more = (all.0, more)

replace_above : (schema : Schema) (least row : List Value) (rows : List (List Value)) → key_cmp (key_of schema least) (key_of schema row) ≡ Less → IsBelowAll schema least rows
    → IsBelowAll schema least (with_row schema row rows)
replace_above schema least row [] below all = (below, tt)
replace_above schema least row (other ∷ others) below all =
    replace_above_at schema least row other others (key_cmp (key_of schema row) (key_of schema other)) below all (replace_above schema least row others below all.1)

replace_table_at : (schema : Schema) (row other : List Value) (others : List (List Value)) (o : Ordering) → key_cmp (key_of schema row) (key_of schema other) ≡ o
    → RowFits schema row → IsTable schema (other ∷ others) → IsTable schema (with_row schema row others)
    → IsTable schema (match_ordering o (row ∷ other ∷ others) (row ∷ others) (other ∷ with_row schema row others))
replace_table_at schema row other others Less e fits table more = (fits, (e, below_all schema row other others e table.1), table)
replace_table_at schema row other others Equal e fits table more =
    (fits, same_above schema other row others (keys_exact (key_of schema row) (key_of schema other) e) table.1, table.2)
replace_table_at schema row other others Greater e fits table more =
    (table.0, replace_above schema other row others (key_turns_back (key_of schema row) (key_of schema other) e) table.1, more)

-- it keeps a table
replace_table : (schema : Schema) (row : List Value) (rows : List (List Value)) → RowFits schema row → IsTable schema rows → IsTable schema (with_row schema row rows)
replace_table schema row [] fits table = (fits, tt, tt)
replace_table schema row (other ∷ others) fits table =
    replace_table_at schema row other others (key_cmp (key_of schema row) (key_of schema other)) refl fits table (replace_table schema row others fits table.2)

new_table : (schema : Schema) (found : Bool) (row : List Value) (rows : List (List Value)) → IsTable schema rows → IsTable schema (with_row schema row rows)
    → IsTable schema (cond found rows (with_row schema row rows))
new_table schema true row rows old new = old
new_table schema false row rows old new = new

-- a statement that fits leaves a table
pub rows_after_table : (schema : Schema) (statement : Statement) (rows : List (List Value)) → StatementFits schema statement → IsTable schema rows → IsTable schema (rows_after schema statement rows)
rows_after_table schema (Insert table row) rows of is =
    new_table schema (is_some (row_at schema (key_of schema row) rows)) row rows is (replace_table schema row rows of is)
rows_after_table schema (Replace table row) rows of is = replace_table schema row rows of is
rows_after_table schema (Delete table where_true) rows of is = changed_table schema (Delete table where_true) rows of is
rows_after_table schema (Update table sets where_true) rows of is = changed_table schema (Update table sets where_true) rows of is
rows_after_table schema (LockRead table mode span where_true) rows of is = is
rows_after_table schema (Check table chunk span kind) rows of is = is
rows_after_table schema (SetMaster table chunk kind master) rows of is = is
rows_after_table schema (ClearChecks table) rows of is = is
