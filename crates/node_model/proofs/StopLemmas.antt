-- What a stop is.
use Rattle.std.proofs.Common.{◌≡◌, ◌≢◌, ◌⊎◌, inl, inr, ℕ, List, [], ◌∷◌, ◌++◌, Bool, true, false, cond, Option, None, Some, refl, sym, ap, subst, ◌∙◌}
use Rattle.std.specs.Prelude.{is_some, map, filter, option_and_then}
use Rattle.std.specs.List.{slice_get}
use Rattle.std.specs.Option.{option_map_or}
use Rattle.std.specs.Ordering.{is_eq}
use Rattle.row_types.specs.declared.values.Value.{Value}
use Rattle.row_types.specs.declared.table_schema.Schema.{Schema}
use Rattle.row_types.specs.declared.lock_modes.LockMode.{LockMode}
use Rattle.row_types.specs.declared.lock_modes.LockMode.TheVariants.{Exclusive}
use Rattle.row_types.specs.Order.{key_cmp}
use Rattle.row_types.specs.Fit.{key_of}
use Rattle.ptc_statement.specs.Effect.{row_at}
use Rattle.lock_table.specs.declared.wants.Want.TheVariants.{OnKey}
use Rattle.lock_table.specs.declared.wants.Holding.{Holding}
use Rattle.lock_table.specs.Stops.{IsAmong}
use Rattle.lock_table.specs.Locks.{Holds, foreign_keys, locked_keys, exclusive_owner}
use Rattle.lock_table.proofs.LeastLemmas.{front, back, either}
use Rattle.lock_table.proofs.HoldLemmas.{same_key_is, foreign_among, locked_among, LockedByOther, foreign_is_held, exclusive_found}
use Rattle.node_model.specs.declared.txns.Txn.{Txn}
use Rattle.node_model.specs.Txns.{txn_of}
use Rattle.node_model.specs.Node.{NodeView, live_from, live_row, committed_row, committed_rows, keys_of_rows, is_live, live_keys, stops}

pub in_filtered : (test : List Value → Bool) (key : List Value) (keys : List (List Value)) → test key ≡ true → IsAmong key keys → IsAmong key (filter test keys)
in_filtered test key [] is i = absurd i
in_filtered test key (x ∷ keys) is (inl same) =
    subst (IsAmong key) (sym (ap (λ (b : Bool). cond b (x ∷ filter test keys) (filter test keys)) (ap test same ∙ is))) (inl same)
in_filtered test key (x ∷ keys) is (inr i) = at (test x) (in_filtered test key keys is i)
  where
    at : (b : Bool) → IsAmong key (filter test keys) → IsAmong key (cond b (x ∷ filter test keys) (filter test keys))
    at true j = inr j
    at false j = j

pub filtered_is : (test : List Value → Bool) (key : List Value) (keys : List (List Value)) → IsAmong key (filter test keys) → test key ≡ true
filtered_is test key [] i = absurd i
filtered_is test key (x ∷ keys) i = at (λ j. filtered_is test key keys j) (test x) refl i
  where
    at : (IsAmong key (filter test keys) → test key ≡ true) → (b : Bool) → test x ≡ b → IsAmong key (cond b (x ∷ filter test keys) (filter test keys)) → test key ≡ true
    at more true e (inl same) = ap test (sym same) ∙ e
    at more true e (inr j) = more j
    at more false e j = more j

-- a key at which rows have one is among their keys
row_among : (schema : Schema) (key row : List Value) (rows : List (List Value)) → row_at schema key rows ≡ Some row → IsAmong key (map (key_of schema) rows)
row_among schema key row [] e = cc
row_among schema key row (first ∷ rows) e = at (is_eq (key_cmp key (key_of schema first))) refl (λ f. row_among schema key row rows f) e
  where
    at : (b : Bool) → is_eq (key_cmp key (key_of schema first)) ≡ b → (row_at schema key rows ≡ Some row → IsAmong key (map (key_of schema) rows))
        → cond b (Some first) (row_at schema key rows) ≡ Some row → IsAmong key (key_of schema first ∷ map (key_of schema) rows)
    at true is more f = inl (sym (same_key_is key (key_of schema first) is))
    at false is more f = inr (more f)

committed_among : (node : NodeView) (table : ℕ) (key row : List Value) → committed_row node table key ≡ Some row → IsAmong key (keys_of_rows node.schemas table (committed_rows node table))
committed_among node table key row e = at (slice_get node.schemas table) e
  where
    at : (o : Option Schema) → option_and_then (λ (schema : Schema). row_at schema key (committed_rows node table)) o ≡ Some row
        → IsAmong key (option_map_or (λ (schema : Schema). map (key_of schema) (committed_rows node table)) o [])
    at None f = cc
    at (Some schema) f = row_among schema key row (committed_rows node table) f

-- a key with a live row is a stop
pub live_is_stop : (node : NodeView) (owner table : ℕ) (key : List Value) → is_live node table key ≡ true → IsAmong key (stops node owner table)
live_is_stop node owner table key live =
    back key (foreign_keys owner table node.held) (live_keys node table) (in_filtered (is_live node table) key (keys_of_rows node.schemas table (committed_rows node table) ++ locked_keys table node.held) live candidate)
  where
    by_owner : (o : Option ℕ) → exclusive_owner table key node.held ≡ o → is_some (live_from node.schemas node.txns o table key (committed_row node table key)) ≡ true
        → IsAmong key (keys_of_rows node.schemas table (committed_rows node table) ++ locked_keys table node.held)
    by_owner None e is = by_row (committed_row node table key) refl is
      where
        by_row : (row : Option (List Value)) → committed_row node table key ≡ row → is_some row ≡ true → IsAmong key (keys_of_rows node.schemas table (committed_rows node table) ++ locked_keys table node.held)
        by_row None f some = cc
        by_row (Some row) f some = front key (keys_of_rows node.schemas table (committed_rows node table)) (locked_keys table node.held) (committed_among node table key row f)
    by_owner (Some a) e is =
        back key (keys_of_rows node.schemas table (committed_rows node table)) (locked_keys table node.held) (locked_among a table key Exclusive node.held (exclusive_found a table key node.held e))

    candidate : IsAmong key (keys_of_rows node.schemas table (committed_rows node table) ++ locked_keys table node.held)
    candidate = by_owner (exclusive_owner table key node.held) refl live

-- a key on which another owner has a lock is a stop
pub foreign_is_stop : (node : NodeView) (owner other table : ℕ) (key : List Value) (mode : LockMode) → other ≢ owner → Holds other table (OnKey key mode) node.held → IsAmong key (stops node owner table)
foreign_is_stop node owner other table key mode apart holds =
    front key (foreign_keys owner table node.held) (live_keys node table) (foreign_among owner other table key mode node.held apart holds)

-- and there are no others
pub stop_is : (node : NodeView) (owner table : ℕ) (key : List Value) → IsAmong key (stops node owner table) → LockedByOther owner table key node.held ⊎ (is_live node table key ≡ true)
stop_is node owner table key i = at (either key (foreign_keys owner table node.held) (live_keys node table) i)
  where
    at : IsAmong key (foreign_keys owner table node.held) ⊎ IsAmong key (live_keys node table) → LockedByOther owner table key node.held ⊎ (is_live node table key ≡ true)
    at (inl j) = inl (foreign_is_held owner table key node.held j)
    at (inr j) = inr (filtered_is (is_live node table) key (keys_of_rows node.schemas table (committed_rows node table) ++ locked_keys table node.held) j)
