-- The changes that are worked out give the rows after the statement.
use Rattle.std.proofs.Common.{◌≡◌, ◌∙◌, ℕ, ◌≤◌, Bool, true, false, cond, Option, Some, None, List, [], ◌∷◌, take, refl, ap, sym, subst, arith}
use Rattle.std.specs.Prelude.{is_some}
use Rattle.std.specs.List.{AllByRecursion}
use Rattle.row_types.specs.declared.values.Value.{Value}
use Rattle.row_types.specs.declared.table_schema.Schema.{Schema}
use Rattle.row_types.specs.Order.{has}
use Rattle.row_types.specs.Fit.{key_of, RowFits, IsSchema, IsTable}
use Rattle.ptc_statement.specs.declared.statements.Statement.{Statement}
use Rattle.ptc_statement.specs.declared.statements.Statement.TheVariants.{Insert, Replace}
use Rattle.ptc_statement.specs.Reach.{reach_of}
use Rattle.ptc_statement.specs.Effect.{effect, effect_within, rows_after}
use Rattle.ptc_statement.specs.Fits.{StatementFits}
use Rattle.ptc_statement.proofs.ActLemmas.{acts_at}
use Rattle.ptc_statement.proofs.TableLemmas.{rows_after_table}
use Rattle.ptc_statement.proofs.KeyLemmas.{just_itself}
use Rattle.row_types.specs.KeyRows.{AreOrdered, is_at, row_at, rows_in, put_row}
use Rattle.row_types.proofs.KeyRowLemmas.{same_key, put_at}
use Rattle.row_types.proofs.OrderedRowLemmas.{filter_ordered}
use Rattle.row_types.proofs.SchemaRowLemmas.{fitting_key, table_ordered}
use Rattle.row_types.proofs.SameRowLemmas.{same_rows}
use Rattle.table_changes.specs.declared.row_changes.RowChange.{RowChange}
use Rattle.table_changes.specs.declared.row_changes.RowChange.TheVariants.{Put}
use Rattle.table_changes.specs.declared.table_changes.TableChange.{TableChange}
use Rattle.table_changes.specs.RowChanges.{done, room_of, room_for, ChangeHasKey, changes_within}
use Rattle.table_changes.specs.Plans.{ChangeFits, IsSound, IsDue}
use Rattle.table_changes.proofs.DoneLemmas.{done_ordered}
use Rattle.table_changes.proofs.WithinLemmas.{reached_at, rows_met, within_room, within_keys}

-- changes that leave at each key what the statement makes of the row there give the rows after it
pub done_is : (schema : Schema) (statement : Statement) (changes : List RowChange) (rows : List (List Value)) → IsSchema schema → StatementFits schema statement → IsTable schema rows
    → AllByRecursion (ChangeHasKey schema.key_len) changes
    → ((key : List Value) → row_at schema.key_len key (done schema.key_len changes rows) ≡ effect schema statement key (row_at schema.key_len key rows))
    → done schema.key_len changes rows ≡ rows_after schema statement rows
done_is schema statement changes rows is of table keys at =
    same_rows schema.key_len (done schema.key_len changes rows) (rows_after schema statement rows)
    (done_ordered schema.key_len changes rows keys (table_ordered schema rows is table))
    (table_ordered schema (rows_after schema statement rows) is (rows_after_table schema statement rows of table))
    (λ key. at key ∙ sym (acts_at schema statement rows key of table))

-- what is due by the schema's key is due by a key of its length
pub due_by : (key_len : ℕ) (schema : Schema) (statement : Statement) (rows : List (List Value)) (change : TableChange) → key_len ≡ schema.key_len
    → IsDue schema.key_len schema statement rows change → IsDue key_len schema statement rows change
due_by key_len schema statement rows change same due = subst (λ (n : ℕ). IsDue n schema statement rows change) (sym same) due

revised : (schema : Schema) (statement : Statement) (rows : List (List Value)) → IsSchema schema → StatementFits schema statement → IsTable schema rows
    → effect_within schema statement None ≡ None
    → IsDue schema.key_len schema statement rows (record { rows = changes_within schema statement (rows_in schema.key_len (reach_of schema statement) rows); room = 0 })
revised schema statement rows is of table absent =
    let inner : List (List Value) = rows_in schema.key_len (reach_of schema statement) rows in
    let ordered : AreOrdered schema.key_len inner =
    filter_ordered schema.key_len (λ (row : List Value). has (reach_of schema statement) (take schema.key_len row)) rows (table_ordered schema rows is table) in
    let met = rows_met schema statement rows is of table in
    let keys = within_keys schema statement rows inner is met in
    record {
      rows = done_is schema statement (changes_within schema statement inner) rows is of table keys (reached_at schema statement rows is of table absent);
      fits = record { keys = keys; room = sym (within_room schema statement rows inner ordered met) };
      room = omega arith;
    }

-- the changes of the rows in reach
pub revision_due : (key_len : ℕ) (schema : Schema) (statement : Statement) (rows : List (List Value)) (changes : List RowChange) → IsSound schema key_len rows
    → StatementFits schema statement → effect_within schema statement None ≡ None
    → changes ≡ changes_within schema statement (rows_in key_len (reach_of schema statement) rows)
    → IsDue key_len schema statement rows (record { rows = changes; room = 0 })
revision_due key_len schema statement rows changes sound of absent is =
    due_by key_len schema statement rows (record { rows = changes; room = 0 }) sound.same_key
    (subst (λ (cs : List RowChange). IsDue schema.key_len schema statement rows (record { rows = cs; room = 0 }))
    (ap (λ (n : ℕ). changes_within schema statement (rows_in n (reach_of schema statement) rows)) (sym sound.same_key) ∙ sym is)
    (revised schema statement rows sound.is_schema of sound.is_table absent))

-- a row put in where its key is absent
put_here : (schema : Schema) (number : ℕ) (key row : List Value) (rows : List (List Value)) (here : Bool) → is_at schema.key_len key row ≡ here
    → row_at schema.key_len (key_of schema row) rows ≡ None
    → cond here (Some row) (row_at schema.key_len key rows) ≡ cond here (effect_within schema (Insert number row) (row_at schema.key_len key rows)) (row_at schema.key_len key rows)
put_here schema number key row rows true is free =
    let absent : row_at schema.key_len key rows ≡ None =
    ap (λ (k : List Value). row_at schema.key_len k rows) (same_key key (key_of schema row) is) ∙ free in
    sym (ap (effect_within schema (Insert number row)) absent)
put_here schema number key row rows false is free = refl

new_at : (schema : Schema) (number : ℕ) (row : List Value) (rows : List (List Value)) → row_at schema.key_len (key_of schema row) rows ≡ None
    → (key : List Value) → row_at schema.key_len key (put_row schema.key_len row rows) ≡ effect schema (Insert number row) key (row_at schema.key_len key rows)
new_at schema number row rows free key =
    put_at schema.key_len key row rows
    ∙ put_here schema number key row rows (is_at schema.key_len key row) refl free
    ∙ ap (λ (b : Bool). cond b (effect_within schema (Insert number row) (row_at schema.key_len key rows)) (row_at schema.key_len key rows)) (sym (just_itself (key_of schema row) key))

-- where it is present, its row stays
stays_here : (schema : Schema) (number : ℕ) (key row old : List Value) (rows : List (List Value)) (here : Bool) → is_at schema.key_len key row ≡ here
    → row_at schema.key_len (key_of schema row) rows ≡ Some old
    → row_at schema.key_len key rows ≡ cond here (effect_within schema (Insert number row) (row_at schema.key_len key rows)) (row_at schema.key_len key rows)
stays_here schema number key row old rows true is found =
    let there : row_at schema.key_len key rows ≡ Some old =
    ap (λ (k : List Value). row_at schema.key_len k rows) (same_key key (key_of schema row) is) ∙ found in
    there ∙ sym (ap (effect_within schema (Insert number row)) there)
stays_here schema number key row old rows false is found = refl

old_at : (schema : Schema) (number : ℕ) (row old : List Value) (rows : List (List Value)) → row_at schema.key_len (key_of schema row) rows ≡ Some old
    → (key : List Value) → row_at schema.key_len key rows ≡ effect schema (Insert number row) key (row_at schema.key_len key rows)
old_at schema number row old rows found key =
    stays_here schema number key row old rows (is_at schema.key_len key row) refl found
    ∙ ap (λ (b : Bool). cond b (effect_within schema (Insert number row) (row_at schema.key_len key rows)) (row_at schema.key_len key rows)) (sym (just_itself (key_of schema row) key))

abbrev pub room_found : Option (List Value) → ℕ
room_found found = cond (is_some found) 0 1

-- the room of one row that is put
put_room : (schema : Schema) (row : List Value) (rows : List (List Value)) (found : Option (List Value)) → row_at schema.key_len (key_of schema row) rows ≡ found
    → room_found found ≡ room_for schema.key_len (Put row ∷ []) rows
put_room schema row rows found is =
    let same : room_of schema.key_len (Put row) rows ≡ room_found found = ap room_found is in
    omega (arith, same)

put_fits : (schema : Schema) (row : List Value) (rows : List (List Value)) (found : Option (List Value)) → IsSchema schema → RowFits schema row
    → row_at schema.key_len (key_of schema row) rows ≡ found → ChangeFits schema.key_len rows (record { rows = Put row ∷ []; room = room_found found })
put_fits schema row rows found is fits at = record { keys = (fitting_key schema row is fits, tt); room = put_room schema row rows found at }

at_most_one : (found : Option (List Value)) → room_found found ≤ 1
at_most_one None = omega arith
at_most_one (Some row) = omega arith

-- the row at the key that was looked up
looked_up : (key_len : ℕ) (schema : Schema) (key row : List Value) (rows : List (List Value)) (found : Option (List Value)) → key_len ≡ schema.key_len
    → key ≡ key_of schema row → found ≡ row_at key_len key rows → row_at schema.key_len (key_of schema row) rows ≡ found
looked_up key_len schema key row rows found same is at =
    ap (λ (k : List Value). row_at schema.key_len k rows) (sym is) ∙ ap (λ (n : ℕ). row_at n key rows) (sym same) ∙ sym at

pub insertion_new : (key_len : ℕ) (schema : Schema) (key row : List Value) (rows : List (List Value)) → IsSound schema key_len rows → RowFits schema row
    → key ≡ key_of schema row → None ≡ row_at key_len key rows
    → (number : ℕ) → IsDue key_len schema (Insert number row) rows (record { rows = Put row ∷ []; room = 1 })
insertion_new key_len schema key row rows sound fits is at number =
    let free : row_at schema.key_len (key_of schema row) rows ≡ None = looked_up key_len schema key row rows None sound.same_key is at in
    let all = put_fits schema row rows None sound.is_schema fits free in
    due_by key_len schema (Insert number row) rows (record { rows = Put row ∷ []; room = 1 }) sound.same_key (record {
      rows = done_is schema (Insert number row) (Put row ∷ []) rows sound.is_schema fits sound.is_table all.keys (new_at schema number row rows free);
      fits = all;
      room = omega arith;
    })

pub insertion_old : (key_len : ℕ) (schema : Schema) (key row old : List Value) (rows : List (List Value)) → IsSound schema key_len rows → RowFits schema row
    → key ≡ key_of schema row → Some old ≡ row_at key_len key rows
    → (number : ℕ) → IsDue key_len schema (Insert number row) rows (record { rows = []; room = 0 })
insertion_old key_len schema key row old rows sound fits is at number =
    let found : row_at schema.key_len (key_of schema row) rows ≡ Some old = looked_up key_len schema key row rows (Some old) sound.same_key is at in
    due_by key_len schema (Insert number row) rows (record { rows = []; room = 0 }) sound.same_key (record {
      rows = done_is schema (Insert number row) [] rows sound.is_schema fits sound.is_table tt (old_at schema number row old rows found);
      fits = record { keys = tt; room = refl };
      room = omega arith;
    })

pub replacement_due : (key_len : ℕ) (schema : Schema) (key row : List Value) (rows : List (List Value)) (found : Option (List Value)) → IsSound schema key_len rows
    → RowFits schema row → key ≡ key_of schema row → found ≡ row_at key_len key rows
    → (number : ℕ) → IsDue key_len schema (Replace number row) rows (record { rows = Put row ∷ []; room = room_found found })
replacement_due key_len schema key row rows found sound fits is at number =
    let there : row_at schema.key_len (key_of schema row) rows ≡ found = looked_up key_len schema key row rows found sound.same_key is at in
    due_by key_len schema (Replace number row) rows (record { rows = Put row ∷ []; room = room_found found }) sound.same_key (record {
      rows = refl;
      fits = put_fits schema row rows found sound.is_schema fits there;
      room = at_most_one found;
    })

-- a change that is the due one is due
pub due_when : (key_len : ℕ) (schema : Schema) (statement : ℕ → Statement) (rows : List (List Value)) (due : TableChange)
    → ((number : ℕ) → IsDue key_len schema (statement number) rows due)
    → (change : TableChange) → change ≡ due → (number : ℕ) → IsDue key_len schema (statement number) rows change
due_when key_len schema statement rows due is change same number = subst (IsDue key_len schema (statement number) rows) (sym same) (is number)
