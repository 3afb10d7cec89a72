-- What the changes of rows in a statement's reach leave at each key.
use Rattle.std.proofs.Common.{◌≡◌, ◌≢◌, ◌∙◌, ℕ, Bool, true, false, cond, Option, Some, None, List, [], ◌∷◌, ◌++◌, take, refl, ap, sym, subst, arith}
use Rattle.std.specs.Prelude.{is_some}
use Rattle.std.specs.List.{AllByRecursion}
use Rattle.std.specs.Ordering.{is_eq}
use Rattle.row_types.specs.declared.values.Value.{Value}
use Rattle.row_types.specs.declared.table_schema.Schema.{Schema}
use Rattle.row_types.specs.Order.{key_cmp, has}
use Rattle.row_types.specs.Fit.{key_of, RowFits, IsSchema, IsTable}
use Rattle.row_types.proofs.OrderLemmas.{key_tied}
use Rattle.ptc_statement.specs.declared.statements.Statement.{Statement}
use Rattle.ptc_statement.specs.Reach.{reach_of}
use Rattle.ptc_statement.specs.Effect.{effect, effect_within}
use Rattle.ptc_statement.specs.Fits.{StatementFits}
use Rattle.ptc_statement.proofs.KeepLemmas.{LeftKeeps, effect_keeps}
use Rattle.row_types.specs.KeyRows.{AreOrdered, is_at, row_at, rows_in}
use Rattle.row_types.proofs.KeyRowLemmas.{same_key, put_at, removed_gone, removed_elsewhere, part_at}
use Rattle.row_types.proofs.OrderedRowLemmas.{filter_ordered}
use Rattle.row_types.proofs.SchemaRowLemmas.{fitting_key, table_ordered}
use Rattle.row_types.proofs.SameRowLemmas.{none_behind, all_found}
use Rattle.table_changes.specs.declared.row_changes.RowChange.{RowChange}
use Rattle.table_changes.specs.declared.row_changes.RowChange.TheVariants.{Gone, Put}
use Rattle.table_changes.specs.RowChanges.{row_changed, done, room_of, room_for, ChangeHasKey, is_same, changes_to, changes_within}

-- a row of a table in a statement's reach, of which a row with its key is left, or none
pub record IsMet (schema : Schema) (statement : Statement) (base : List (List Value)) (row : List Value) : Type 0 where
  pub there : row_at schema.key_len (key_of schema row) base ≡ Some row
  pub keeps : LeftKeeps schema row (effect_within schema statement (Some row))

-- the row at a key after one row's change
apart : (a b : List Value) → is_eq (key_cmp a b) ≡ false → a ≢ b
apart a b other same = let tied : is_eq (key_cmp a b) ≡ true = ap is_eq (key_tied a b same) in let no : true ≡ false = sym tied ∙ other in cc

gone_at : (schema : Schema) (key row : List Value) (rows : List (List Value)) (here : Bool) → is_at schema.key_len key row ≡ here
    → row_at schema.key_len key (row_changed schema.key_len (Gone (key_of schema row)) rows) ≡ cond here None (row_at schema.key_len key rows)
gone_at schema key row rows true is =
    ap (λ (k : List Value). row_at schema.key_len k (row_changed schema.key_len (Gone (key_of schema row)) rows)) (same_key key (key_of schema row) is)
    ∙ removed_gone schema.key_len (key_of schema row) rows
gone_at schema key row rows false is =
    removed_elsewhere schema.key_len (key_of schema row) key rows (apart key (key_of schema row) is)

new_at : (schema : Schema) (key row new : List Value) (changes : List RowChange) (base : List (List Value)) (here same : Bool) → is_at schema.key_len key row ≡ here
    → is_same new row ≡ same → key_of schema new ≡ key_of schema row
    → row_at schema.key_len (key_of schema row) (done schema.key_len changes base) ≡ Some row
    → row_at schema.key_len key (done schema.key_len (cond same [] (Put new ∷ []) ++ changes) base)
    ≡ cond here (Some new) (row_at schema.key_len key (done schema.key_len changes base))
new_at schema key row new changes base true true is same keeps there =
    ap (λ (k : List Value). row_at schema.key_len k (done schema.key_len changes base)) (same_key key (key_of schema row) is)
    ∙ there ∙ ap (λ (r : List Value). Some r) (sym (same_key new row same))
new_at schema key row new changes base false true is same keeps there = refl
new_at schema key row new changes base here false is same keeps there =
    put_at schema.key_len key new (done schema.key_len changes base)
    ∙ ap (λ (b : Bool). cond b (Some new) (row_at schema.key_len key (done schema.key_len changes base)))
    (ap (λ (k : List Value). is_eq (key_cmp key k)) keeps ∙ is)

one_at : (schema : Schema) (key row : List Value) (left : Option (List Value)) (changes : List RowChange) (base : List (List Value)) (here : Bool)
    → is_at schema.key_len key row ≡ here → LeftKeeps schema row left
    → row_at schema.key_len (key_of schema row) (done schema.key_len changes base) ≡ Some row
    → row_at schema.key_len key (done schema.key_len (changes_to schema row left ++ changes) base)
    ≡ cond here left (row_at schema.key_len key (done schema.key_len changes base))
one_at schema key row None changes base here is keeps there = gone_at schema key row (done schema.key_len changes base) here is
one_at schema key row (Some new) changes base here is keeps there =
    new_at schema key row new changes base here (is_same new row) is refl keeps.key there

-- what is left of a row that is met, and else the old one
abbrev pub left_of : Schema → Statement → Option (List Value) → Option (List Value) → Option (List Value)
left_of schema statement None old = old
left_of schema statement (Some row) old = effect_within schema statement (Some row)

left_here : (schema : Schema) (statement : Statement) (row : List Value) (rest old : Option (List Value)) (here : Bool)
    → cond here (effect_within schema statement (Some row)) (left_of schema statement rest old) ≡ left_of schema statement (cond here (Some row) rest) old
left_here schema statement row rest old true = refl
left_here schema statement row rest old false = refl

-- no change of those behind a row is one at its key
still_there : (schema : Schema) (statement : Statement) (base : List (List Value)) (row : List Value) (rows : List (List Value)) (after : Option (List Value))
    → row_at schema.key_len (key_of schema row) rows ≡ None → row_at schema.key_len (key_of schema row) base ≡ Some row
    → after ≡ left_of schema statement (row_at schema.key_len (key_of schema row) rows) (row_at schema.key_len (key_of schema row) base)
    → after ≡ Some row
still_there schema statement base row rows after free there is =
    is ∙ ap (λ (o : Option (List Value)). left_of schema statement o (row_at schema.key_len (key_of schema row) base)) free ∙ there

own_key : (key_len : ℕ) (row : List Value) → is_at key_len (take key_len row) row ≡ true
own_key key_len row = ap is_eq (key_tied (take key_len row) (take key_len row) refl)

pub within_at : (schema : Schema) (statement : Statement) (base rows : List (List Value)) → AreOrdered schema.key_len rows → AllByRecursion (IsMet schema statement base) rows
    → (key : List Value) → row_at schema.key_len key (done schema.key_len (changes_within schema statement rows) base)
    ≡ left_of schema statement (row_at schema.key_len key rows) (row_at schema.key_len key base)
within_at schema statement base [] ordered met key = refl
within_at schema statement base (row ∷ rows) ordered met key =
    let more = within_at schema statement base rows ordered.2 met.1 in
    one_at schema key row (effect_within schema statement (Some row)) (changes_within schema statement rows) base (is_at schema.key_len key row) refl met.0.keeps
    (still_there schema statement base row rows
    (row_at schema.key_len (key_of schema row) (done schema.key_len (changes_within schema statement rows) base))
    (none_behind schema.key_len (key_of schema row) row rows (own_key schema.key_len row) ordered.1) met.0.there (more (key_of schema row)))
    ∙ ap (cond (is_at schema.key_len key row) (effect_within schema statement (Some row))) (more key)
    ∙ left_here schema statement row (row_at schema.key_len key rows) (row_at schema.key_len key base) (is_at schema.key_len key row)

behind_there : (schema : Schema) (statement : Statement) (base : List (List Value)) (row : List Value) (rows : List (List Value)) → AreOrdered schema.key_len (row ∷ rows)
    → AllByRecursion (IsMet schema statement base) (row ∷ rows)
    → row_at schema.key_len (key_of schema row) (done schema.key_len (changes_within schema statement rows) base) ≡ Some row
behind_there schema statement base row rows ordered met =
    still_there schema statement base row rows
    (row_at schema.key_len (key_of schema row) (done schema.key_len (changes_within schema statement rows) base))
    (none_behind schema.key_len (key_of schema row) row rows (own_key schema.key_len row) ordered.1) met.0.there
    (within_at schema statement base rows ordered.2 met.1 (key_of schema row))

-- a row that is put at a present key takes no room
new_room : (schema : Schema) (row new : List Value) (changes : List RowChange) (base : List (List Value)) (same : Bool) → key_of schema new ≡ key_of schema row
    → row_at schema.key_len (key_of schema row) (done schema.key_len changes base) ≡ Some row → room_for schema.key_len changes base ≡ 0
    → room_for schema.key_len (cond same [] (Put new ∷ []) ++ changes) base ≡ 0
new_room schema row new changes base true keeps there free = free
new_room schema row new changes base false keeps there free =
    let found : row_at schema.key_len (key_of schema new) (done schema.key_len changes base) ≡ Some row =
    ap (λ (k : List Value). row_at schema.key_len k (done schema.key_len changes base)) keeps ∙ there in
    let first : room_of schema.key_len (Put new) (done schema.key_len changes base) ≡ 0 = ap (λ (o : Option (List Value)). cond (is_some o) 0 1) found in
    omega (arith, first, free)

one_room : (schema : Schema) (row : List Value) (left : Option (List Value)) (changes : List RowChange) (base : List (List Value)) → LeftKeeps schema row left
    → row_at schema.key_len (key_of schema row) (done schema.key_len changes base) ≡ Some row → room_for schema.key_len changes base ≡ 0
    → room_for schema.key_len (changes_to schema row left ++ changes) base ≡ 0
one_room schema row None changes base keeps there free = omega (arith, free)
one_room schema row (Some new) changes base keeps there free = new_room schema row new changes base (is_same new row) keeps.key there free

pub within_room : (schema : Schema) (statement : Statement) (base rows : List (List Value)) → AreOrdered schema.key_len rows → AllByRecursion (IsMet schema statement base) rows
    → room_for schema.key_len (changes_within schema statement rows) base ≡ 0
within_room schema statement base [] ordered met = refl
within_room schema statement base (row ∷ rows) ordered met =
    one_room schema row (effect_within schema statement (Some row)) (changes_within schema statement rows) base met.0.keeps
    (behind_there schema statement base row rows ordered met) (within_room schema statement base rows ordered.2 met.1)

new_keys : (schema : Schema) (row new : List Value) (changes : List RowChange) (same : Bool) → IsSchema schema → RowFits schema new
    → AllByRecursion (ChangeHasKey schema.key_len) changes → AllByRecursion (ChangeHasKey schema.key_len) (cond same [] (Put new ∷ []) ++ changes)
new_keys schema row new changes true is fits keys = keys
new_keys schema row new changes false is fits keys = (fitting_key schema new is fits, keys)

one_keys : (schema : Schema) (row : List Value) (left : Option (List Value)) (changes : List RowChange) → IsSchema schema → LeftKeeps schema row left
    → AllByRecursion (ChangeHasKey schema.key_len) changes → AllByRecursion (ChangeHasKey schema.key_len) (changes_to schema row left ++ changes)
one_keys schema row None changes is keeps keys = (tt, keys)
one_keys schema row (Some new) changes is keeps keys = new_keys schema row new changes (is_same new row) is keeps.fits keys

pub within_keys : (schema : Schema) (statement : Statement) (base rows : List (List Value)) → IsSchema schema → AllByRecursion (IsMet schema statement base) rows
    → AllByRecursion (ChangeHasKey schema.key_len) (changes_within schema statement rows)
within_keys schema statement base [] is met = tt
within_keys schema statement base (row ∷ rows) is met =
    one_keys schema row (effect_within schema statement (Some row)) (changes_within schema statement rows) is met.0.keeps
    (within_keys schema statement base rows is met.1)

is_met : (schema : Schema) (statement : Statement) (base : List (List Value)) (row : List Value) → StatementFits schema statement → RowFits schema row
    → row_at schema.key_len (key_of schema row) base ≡ Some row → has (reach_of schema statement) (key_of schema row) ≡ true → IsMet schema statement base row
is_met schema statement base row of fits there reached = record {
  there = there;
  keeps = subst (LeftKeeps schema row) (ap (λ (b : Bool). cond b (effect_within schema statement (Some row)) (Some row)) reached) (effect_keeps schema statement row fits of);
}

met_first : (schema : Schema) (statement : Statement) (base : List (List Value)) (row : List Value) (rows : List (List Value)) (reached : Bool)
    → (reached ≡ true → IsMet schema statement base row) → AllByRecursion (IsMet schema statement base) rows
    → AllByRecursion (IsMet schema statement base) (cond reached (row ∷ rows) rows)
met_first schema statement base row rows true met all = (met refl, all)
met_first schema statement base row rows false met all = all

met_part : (schema : Schema) (statement : Statement) (base rows : List (List Value)) → StatementFits schema statement → IsTable schema rows
    → AllByRecursion (λ (row : List Value). row_at schema.key_len (key_of schema row) base ≡ Some row) rows
    → AllByRecursion (IsMet schema statement base) (rows_in schema.key_len (reach_of schema statement) rows)
met_part schema statement base [] of is found = tt
met_part schema statement base (row ∷ rows) of is found =
    met_first schema statement base row (rows_in schema.key_len (reach_of schema statement) rows) (has (reach_of schema statement) (key_of schema row))
    (is_met schema statement base row of is.0 found.0) (met_part schema statement base rows of is.2 found.1)

-- the rows of a table that a statement meets
pub rows_met : (schema : Schema) (statement : Statement) (rows : List (List Value)) → IsSchema schema → StatementFits schema statement → IsTable schema rows
    → AllByRecursion (IsMet schema statement rows) (rows_in schema.key_len (reach_of schema statement) rows)
rows_met schema statement rows is of table =
    met_part schema statement rows rows of table (all_found schema.key_len rows (table_ordered schema rows is table))

left_old : (schema : Schema) (statement : Statement) (old : Option (List Value)) → effect_within schema statement None ≡ None
    → left_of schema statement old old ≡ effect_within schema statement old
left_old schema statement None absent = sym absent
left_old schema statement (Some row) absent = refl

left_reached : (schema : Schema) (statement : Statement) (old : Option (List Value)) (reached : Bool) → effect_within schema statement None ≡ None
    → left_of schema statement (cond reached old None) old ≡ cond reached (effect_within schema statement old) old
left_reached schema statement old true absent = left_old schema statement old absent
left_reached schema statement old false absent = refl

-- at each key they leave what the statement makes of the row there
pub reached_at : (schema : Schema) (statement : Statement) (rows : List (List Value)) → IsSchema schema → StatementFits schema statement → IsTable schema rows
    → effect_within schema statement None ≡ None
    → (key : List Value) → row_at schema.key_len key (done schema.key_len (changes_within schema statement (rows_in schema.key_len (reach_of schema statement) rows)) rows)
    ≡ effect schema statement key (row_at schema.key_len key rows)
reached_at schema statement rows is of table absent key =
    within_at schema statement rows (rows_in schema.key_len (reach_of schema statement) rows)
    (filter_ordered schema.key_len (λ (row : List Value). has (reach_of schema statement) (take schema.key_len row)) rows (table_ordered schema rows is table))
    (rows_met schema statement rows is of table) key
    ∙ ap (λ (o : Option (List Value)). left_of schema statement o (row_at schema.key_len key rows)) (part_at schema.key_len (has (reach_of schema statement)) key rows)
    ∙ left_reached schema statement (row_at schema.key_len key rows) (has (reach_of schema statement) key) absent
