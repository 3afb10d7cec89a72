-- After a statement that fits, a table has at each key what the statement makes of the row there.
use Rattle.std.proofs.Common.{◌≡◌, ◌∙◌, ℕ, Bool, true, false, cond, Option, Some, None, List, [], ◌∷◌, refl, ap, sym}
use Rattle.std.specs.Prelude.{is_some}
use Rattle.std.specs.Ordering.{is_eq}
use Rattle.row_types.specs.declared.values.Value.{Value}
use Rattle.row_types.specs.declared.table_schema.Schema.{Schema}
use Rattle.row_types.specs.Order.{key_cmp, has}
use Rattle.row_types.specs.Fit.{key_of, IsTable, with_row}
use Rattle.row_types.proofs.OrderLemmas.{keys_exact}
use Rattle.row_types.proofs.KeyRowLemmas.{put_at, put_there}
use Rattle.ptc_statement.specs.declared.statements.Statement.{Statement}
use Rattle.ptc_statement.specs.declared.statements.Statement.TheVariants.{Insert, Replace, Delete, Update, LockRead, Check, SetMaster, ClearChecks}
use Rattle.ptc_statement.specs.Reach.{reach_of}
use Rattle.ptc_statement.specs.Effect.{effect, effect_within, changed, with_front, with_new_row, rows_after, row_at}
use Rattle.ptc_statement.specs.Fits.{StatementFits}
use Rattle.ptc_statement.proofs.KeyLemmas.{is_equal, just_itself, none_behind}
use Rattle.ptc_statement.proofs.KeepLemmas.{LeftKeeps, effect_keeps}
use Rattle.ptc_statement.proofs.TableLemmas.{changed_above}

-- outside its reach a statement leaves the old row, or none
pub effect_outside : (schema : Schema) (statement : Statement) (key : List Value) (old : Option (List Value)) → has (reach_of schema statement) key ≡ false → effect schema statement key old ≡ old
effect_outside schema statement key old e = ap (λ (b : Bool). cond b (effect_within schema statement old) old) e

either_way : (b : Bool) (o : Option (List Value)) → cond b o o ≡ o
either_way true o = refl
either_way false o = refl

-- the row at a key behind what is left of a row with another key, or with this one
front_other : (schema : Schema) (key row : List Value) (left : Option (List Value)) (rows : List (List Value)) → LeftKeeps schema row left
    → is_eq (key_cmp key (key_of schema row)) ≡ false → row_at schema key (with_front left rows) ≡ row_at schema key rows
front_other schema key row None rows keeps other = refl
front_other schema key row (Some new) rows keeps other =
    ap (λ (b : Bool). cond b (Some new) (row_at schema key rows)) (ap (λ (k : List Value). is_eq (key_cmp key k)) keeps.key ∙ other)

front_same : (schema : Schema) (key row : List Value) (left : Option (List Value)) (rows : List (List Value)) → LeftKeeps schema row left
    → is_eq (key_cmp key (key_of schema row)) ≡ true → row_at schema key rows ≡ None → row_at schema key (with_front left rows) ≡ left
front_same schema key row None rows keeps same none = none
front_same schema key row (Some new) rows keeps same none =
    ap (λ (b : Bool). cond b (Some new) (row_at schema key rows)) (ap (λ (k : List Value). is_eq (key_cmp key k)) keeps.key ∙ same)

changed_first : (schema : Schema) (statement : Statement) (key row : List Value) (rows : List (List Value)) (b : Bool) → is_eq (key_cmp key (key_of schema row)) ≡ b
    → StatementFits schema statement → IsTable schema (row ∷ rows)
    → row_at schema key (changed schema statement rows) ≡ effect schema statement key (row_at schema key rows)
    → row_at schema key (changed schema statement (row ∷ rows)) ≡ effect schema statement key (cond b (Some row) (row_at schema key rows))
changed_first schema statement key row rows true same of table more =
    let is : key ≡ key_of schema row = keys_exact key (key_of schema row) (is_equal (key_cmp key (key_of schema row)) same) in
    front_same schema key row (effect schema statement (key_of schema row) (Some row)) (changed schema statement rows)
    (effect_keeps schema statement row table.0 of) same
    (none_behind schema key row (changed schema statement rows) is (changed_above schema statement row rows of table.2 table.1))
    ∙ ap (λ (k : List Value). effect schema statement k (Some row)) (sym is)
changed_first schema statement key row rows false other of table more =
    front_other schema key row (effect schema statement (key_of schema row) (Some row)) (changed schema statement rows)
    (effect_keeps schema statement row table.0 of) other
    ∙ more

changed_at : (schema : Schema) (statement : Statement) (key : List Value) (rows : List (List Value)) → effect schema statement key None ≡ None
    → StatementFits schema statement → IsTable schema rows
    → row_at schema key (changed schema statement rows) ≡ effect schema statement key (row_at schema key rows)
changed_at schema statement key [] absent of table = sym absent
changed_at schema statement key (row ∷ rows) absent of table =
    changed_first schema statement key row rows (is_eq (key_cmp key (key_of schema row))) refl of table
    (changed_at schema statement key rows absent of table.2)

-- it leaves the other keys
replace_other : (schema : Schema) (key row : List Value) (rows : List (List Value)) → is_eq (key_cmp key (key_of schema row)) ≡ false
    → row_at schema key (with_row schema row rows) ≡ row_at schema key rows
replace_other schema key row rows apart = put_at schema.key_len key row rows ∙ ap (λ (b : Bool). cond b (Some row) (row_at schema key rows)) apart

-- it gives its row at its own key
replace_same : (schema : Schema) (row : List Value) (rows : List (List Value)) → row_at schema (key_of schema row) (with_row schema row rows) ≡ Some row
replace_same schema row rows = put_there schema.key_len row rows

replace_at : (schema : Schema) (key row : List Value) (rows : List (List Value)) (b : Bool) → is_eq (key_cmp key (key_of schema row)) ≡ b
    → row_at schema key (with_row schema row rows) ≡ cond b (Some row) (row_at schema key rows)
replace_at schema key row rows b same = put_at schema.key_len key row rows ∙ ap (λ (b : Bool). cond b (Some row) (row_at schema key rows)) same

-- an INSERT puts its row at its own key where none is there
insert_here : (schema : Schema) (table : ℕ) (row : List Value) (rows : List (List Value)) (found : Option (List Value)) → row_at schema (key_of schema row) rows ≡ found
    → row_at schema (key_of schema row) (cond (is_some found) rows (with_row schema row rows)) ≡ effect_within schema (Insert table row) found
insert_here schema table row rows None is = replace_same schema row rows
insert_here schema table row rows (Some old) is = is

insert_elsewhere : (schema : Schema) (key row : List Value) (rows : List (List Value)) (found : Bool) → is_eq (key_cmp key (key_of schema row)) ≡ false
    → row_at schema key (cond found rows (with_row schema row rows)) ≡ row_at schema key rows
insert_elsewhere schema key row rows true apart = refl
insert_elsewhere schema key row rows false apart = replace_other schema key row rows apart

insert_at : (schema : Schema) (table : ℕ) (key row : List Value) (rows : List (List Value)) (b : Bool) → is_eq (key_cmp key (key_of schema row)) ≡ b
    → row_at schema key (with_new_row schema row rows) ≡ cond b (effect_within schema (Insert table row) (row_at schema key rows)) (row_at schema key rows)
insert_at schema table key row rows true same =
    let here : key ≡ key_of schema row = keys_exact key (key_of schema row) (is_equal (key_cmp key (key_of schema row)) same) in
    ap (λ (k : List Value). row_at schema k (with_new_row schema row rows)) here
    ∙ insert_here schema table row rows (row_at schema (key_of schema row) rows) refl
    ∙ ap (λ (k : List Value). effect_within schema (Insert table row) (row_at schema k rows)) (sym here)
insert_at schema table key row rows false apart =
    insert_elsewhere schema key row rows (is_some (row_at schema (key_of schema row) rows)) apart

-- at each key the table has what the statement makes of the row there
pub acts_at : (schema : Schema) (statement : Statement) (rows : List (List Value)) (key : List Value) → StatementFits schema statement → IsTable schema rows
    → row_at schema key (rows_after schema statement rows) ≡ effect schema statement key (row_at schema key rows)
acts_at schema (Insert table row) rows key of is =
    insert_at schema table key row rows (is_eq (key_cmp key (key_of schema row))) refl
    ∙ ap (λ (b : Bool). cond b (effect_within schema (Insert table row) (row_at schema key rows)) (row_at schema key rows)) (sym (just_itself (key_of schema row) key))
acts_at schema (Replace table row) rows key of is =
    replace_at schema key row rows (is_eq (key_cmp key (key_of schema row))) refl
    ∙ ap (λ (b : Bool). cond b (Some row) (row_at schema key rows)) (sym (just_itself (key_of schema row) key))
acts_at schema (Delete table where_true) rows key of is =
    changed_at schema (Delete table where_true) key rows (either_way (has (reach_of schema (Delete table where_true)) key) None) of is
acts_at schema (Update table sets where_true) rows key of is =
    changed_at schema (Update table sets where_true) key rows (either_way (has (reach_of schema (Update table sets where_true)) key) None) of is
acts_at schema (LockRead table mode span where_true) rows key of is =
    sym (either_way (has (reach_of schema (LockRead table mode span where_true)) key) (row_at schema key rows))
acts_at schema (Check table chunk span kind) rows key of is = sym (either_way (has span key) (row_at schema key rows))
acts_at schema (SetMaster table chunk kind master) rows key of is =
    sym (either_way (has (reach_of schema (SetMaster table chunk kind master)) key) (row_at schema key rows))
acts_at schema (ClearChecks table) rows key of is = sym (either_way (has (reach_of schema (ClearChecks table)) key) (row_at schema key rows))
