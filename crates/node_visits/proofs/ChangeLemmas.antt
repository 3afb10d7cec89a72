-- What a statement makes at a key has the key, and written there it is what the statement does.
use Rattle.std.proofs.Common.{◌≡◌, ◌≢◌, ◌∙◌, ℕ, Bool, true, false, cond, List, [], ◌∷◌, Option, None, Some, take, refl, ap, sym, subst}
use Rattle.std.specs.Ordering.{is_eq}
use Rattle.std.specs.Prelude.{IfSome}
use Rattle.row_types.specs.declared.values.Value.{Value}
use Rattle.row_types.specs.declared.table_schema.Schema.{Schema}
use Rattle.row_types.specs.Order.{key_cmp, has}
use Rattle.row_types.specs.Fit.{key_of, RowFits, IsSchema, IsTable}
use Rattle.row_types.proofs.OrderLemmas.{key_tied}
use Rattle.ptc_statement.specs.declared.statements.Statement.{Statement}
use Rattle.ptc_statement.specs.declared.statements.Statement.TheVariants.{Insert, Replace, Delete, Update, LockRead, Check, SetMaster, ClearChecks}
use Rattle.ptc_statement.specs.Reach.{reach_of}
use Rattle.ptc_statement.specs.Effect.{effect, effect_within}
use Rattle.ptc_statement.specs.Fits.{StatementFits}
use Rattle.ptc_statement.proofs.KeyLemmas.{itself_alone}
use Rattle.ptc_statement.proofs.KeepLemmas.{LeftKeeps, Keeps, effect_keeps}
use Rattle.row_types.specs.KeyRows.{HasKey, row_at, put_row}
use Rattle.row_types.proofs.KeyRowLemmas.{found_at, same_key, put_there, put_elsewhere, removed_gone, removed_elsewhere}
use Rattle.row_types.proofs.SchemaRowLemmas.{fitting_key}
use Rattle.node_parts.specs.Written.{written}

-- the statement acted at the key, and every other key has what it had
abbrev pub ActsAt : Schema → Statement → List Value → List (List Value) → List (List Value) → Type 0
ActsAt schema statement key before after =
    (other : List Value) → row_at schema.key_len other after
    ≡ cond (is_eq (key_cmp other key)) (effect schema statement key (row_at schema.key_len key before)) (row_at schema.key_len other before)

-- a row that fits and has the key
pub record HasItsKey (schema : Schema) (key row : List Value) : Type 0 where
  pub fits : RowFits schema row
  pub keyed : key ≡ key_of schema row

pub row_fits : (schema : Schema) (key row : List Value) (rows : List (List Value)) → IsTable schema rows → row_at schema.key_len key rows ≡ Some row → RowFits schema row
row_fits schema key row [] table found = absurd (let q : None ≡ Some row = found in cc)
row_fits schema key row (first ∷ rows) table found = at (is_eq (key_cmp key (take schema.key_len first))) found (λ f. row_fits schema key row rows table.2 f)
  where
    at : (b : Bool) → cond b (Some first) (row_at schema.key_len key rows) ≡ Some row → (row_at schema.key_len key rows ≡ Some row → RowFits schema row) → RowFits schema row
    at true f more = subst (RowFits schema) (let same : first ≡ row = cc in same) table.0
    at false f more = more f

made_key : (schema : Schema) (key new row : List Value) → has (reach_of schema (Insert 0 new)) key ≡ true → RowFits schema new → Some new ≡ Some row → HasItsKey schema key row
made_key schema key new row over fits e =
    let same : new ≡ row = cc in
    record { fits = subst (RowFits schema) same fits; keyed = itself_alone (key_of schema new) key over ∙ ap (key_of schema) same }

made_at : (schema : Schema) (statement : Statement) (key row : List Value) → StatementFits schema statement → (b : Bool) → has (reach_of schema statement) key ≡ b
    → cond b (effect_within schema statement None) None ≡ Some row → HasItsKey schema key row
made_at schema statement key row fits false over made = absurd (let q : None ≡ Some row = made in cc)
made_at schema (Insert of new) key row fits true over made = made_key schema key new row over fits made
made_at schema (Replace of new) key row fits true over made = made_key schema key new row over fits made
made_at schema (Delete of where_true) key row fits true over made = absurd (let q : None ≡ Some row = made in cc)
made_at schema (Update of sets where_true) key row fits true over made = absurd (let q : None ≡ Some row = made in cc)
made_at schema (LockRead of mode span where_true) key row fits true over made = absurd (let q : None ≡ Some row = made in cc)
made_at schema (Check of chunk span kind) key row fits true over made = absurd (let q : None ≡ Some row = made in cc)
made_at schema (SetMaster of chunk kind master) key row fits true over made = absurd (let q : None ≡ Some row = made in cc)
made_at schema (ClearChecks of) key row fits true over made = absurd (let q : None ≡ Some row = made in cc)

kept_at : (schema : Schema) (old row : List Value) (left : Option (List Value)) → LeftKeeps schema old left → left ≡ Some row → Keeps schema old row
kept_at schema old row left keeps e = subst (LeftKeeps schema old) e keeps

-- what a statement makes of the row at a key of a table fits, and has the key
pub effect_has_key : (schema : Schema) (statement : Statement) (key row : List Value) (rows : List (List Value)) → StatementFits schema statement → IsTable schema rows
    → effect schema statement key (row_at schema.key_len key rows) ≡ Some row → HasItsKey schema key row
effect_has_key schema statement key row rows fits table = at (row_at schema.key_len key rows) refl
  where
    at : (old : Option (List Value)) → row_at schema.key_len key rows ≡ old → effect schema statement key old ≡ Some row → HasItsKey schema key row
    at None e made = made_at schema statement key row fits (has (reach_of schema statement) key) refl made
    at (Some old) e made =
        let own : key_of schema old ≡ key = found_at schema.key_len key old rows e in
        let keeps = kept_at schema old row (effect schema statement (key_of schema old) (Some old)) (effect_keeps schema statement old (row_fits schema key old rows table e) fits)
        (ap (λ (k : List Value). effect schema statement k (Some old)) own ∙ made) in
        record { fits = keeps.fits; keyed = sym own ∙ sym keeps.key }

-- written at the key, it is what the statement does
pub written_acts : (schema : Schema) (statement : Statement) (key : List Value) (rows : List (List Value)) (new : Option (List Value))
    → new ≡ effect schema statement key (row_at schema.key_len key rows) → ((row : List Value) → new ≡ Some row → key ≡ take schema.key_len row)
    → ActsAt schema statement key rows (written schema.key_len key new rows)
written_acts schema statement key rows new is keyed other = by (is_eq (key_cmp other key)) refl
  where
    apart_of : is_eq (key_cmp other key) ≡ false → other ≢ key
    apart_of e same = let q : true ≡ false = sym (ap is_eq (key_tied other key same)) ∙ e in cc

    there : (n : Option (List Value)) → ((row : List Value) → n ≡ Some row → key ≡ take schema.key_len row) → row_at schema.key_len key (written schema.key_len key n rows) ≡ n
    there None k = removed_gone schema.key_len key rows
    there (Some row) k = ap (λ (q : List Value). row_at schema.key_len q (put_row schema.key_len row rows)) (k row refl) ∙ put_there schema.key_len row rows

    elsewhere : other ≢ key → (n : Option (List Value)) → ((row : List Value) → n ≡ Some row → key ≡ take schema.key_len row) → row_at schema.key_len other (written schema.key_len key n rows) ≡ row_at schema.key_len other rows
    elsewhere apart None k = removed_elsewhere schema.key_len key other rows apart
    elsewhere apart (Some row) k = put_elsewhere schema.key_len row other rows (λ same. apart (same ∙ sym (k row refl)))

    by : (b : Bool) → is_eq (key_cmp other key) ≡ b → row_at schema.key_len other (written schema.key_len key new rows) ≡ cond b (effect schema statement key (row_at schema.key_len key rows)) (row_at schema.key_len other rows)
    by true e = ap (λ (q : List Value). row_at schema.key_len q (written schema.key_len key new rows)) (same_key other key e) ∙ there new keyed ∙ is
    by false e = elsewhere (apart_of e) new keyed

-- for the code: a row that is due at a key has its key
pub due_keyed : (schema : Schema) (statement : Statement) (key : List Value) (key_len : ℕ) (rows : List (List Value)) (new : Option (List Value)) → StatementFits schema statement → IsSchema schema → IsTable schema rows
    → key_len ≡ schema.key_len → new ≡ effect schema statement key (row_at key_len key rows) → IfSome new (λ row. HasKey key_len row × (key ≡ take key_len row))
due_keyed schema statement key key_len rows None fits is table same e = tt
due_keyed schema statement key key_len rows (Some row) fits is table same e =
    let has = effect_has_key schema statement key row rows fits table (ap (λ (n : ℕ). effect schema statement key (row_at n key rows)) (sym same) ∙ sym e) in
    (subst (λ (n : ℕ). HasKey n row) (sym same) (fitting_key schema row is has.fits), has.keyed ∙ ap (λ (n : ℕ). take n row) (sym same))

keyed_row : (key_len : ℕ) (key row : List Value) (new : Option (List Value)) → IfSome new (λ row. HasKey key_len row × (key ≡ take key_len row)) → new ≡ Some row → key ≡ take key_len row
keyed_row key_len key row new keyed e = (subst (λ (o : Option (List Value)). IfSome o (λ r. HasKey key_len r × (key ≡ take key_len r))) e keyed).1

pub due_acts : (schema : Schema) (statement : Statement) (key : List Value) (key_len : ℕ) (rows after : List (List Value)) (new : Option (List Value)) → key_len ≡ schema.key_len
    → new ≡ effect schema statement key (row_at key_len key rows) → IfSome new (λ row. HasKey key_len row × (key ≡ take key_len row)) → after ≡ written key_len key new rows
    → ActsAt schema statement key rows after
due_acts schema statement key key_len rows after new same is keyed e =
    subst (ActsAt schema statement key rows) (ap (λ (n : ℕ). written n key new rows) (sym same) ∙ sym e)
    (written_acts schema statement key rows new (is ∙ ap (λ (n : ℕ). effect schema statement key (row_at n key rows)) same)
    (λ row f. keyed_row key_len key row new keyed f ∙ ap (λ (n : ℕ). take n row) same))
