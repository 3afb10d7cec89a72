-- The next visit and its change, from the live tables and the lock table, are those of the node.
use Rattle.std.proofs.Common.{◌≡◌, ◌∙◌, ◌⊎◌, inl, inr, ℕ, Bool, true, false, cond, List, [], ◌∷◌, ◌++◌, Option, None, Some, take, map, refl, ap, sym}
use Rattle.std.specs.Prelude.{is_some, option_map, option_and_then}
use Rattle.std.specs.List.{slice_get}
use Rattle.std.specs.Option.{option_map_or}
use Rattle.std.specs.Ordering.{is_eq}
use Rattle.row_types.specs.declared.values.Value.{Value}
use Rattle.row_types.specs.declared.lock_modes.LockMode.{LockMode}
use Rattle.row_types.specs.declared.lock_modes.LockMode.TheVariants.{Shared, Exclusive}
use Rattle.row_types.specs.declared.table_schema.Schema.{Schema}
use Rattle.row_types.specs.Order.{key_cmp}
use Rattle.row_types.proofs.OrderLemmas.{key_ties}
use Rattle.ptc_statement.specs.Effect.{table_of, effect}
use Rattle.row_types.specs.KeyRows.{row_at, is_at}
use Rattle.ordered_table.specs.TableView.{TableView}
use Rattle.row_types.proofs.KeyRowLemmas.{same_key}
use Rattle.std.specs.declared.cmp.Ordering.{Ordering}
use Rattle.lock_table.specs.Locks.{foreign_keys, locked_keys}
use Rattle.lock_table.specs.Stops.{IsAmong}
use Rattle.txn_walk.specs.declared.plans.Plan.{Plan}
use Rattle.node_model.specs.declared.txns.Walk.{Walk}
use Rattle.node_model.specs.declared.txns.Txn.{Txn}
use Rattle.txn_walk.specs.Plans.{next_visit}
use Rattle.node_model.specs.Node.{NodeView, live_row, is_live, live_keys, stops, keys_of_rows, committed_rows, plan_of, empty_plan, plan_excluder, is_duplicate}
use Rattle.lock_table.specs.declared.wants.Owner.{Owner}
use Rattle.node_model.specs.Txns.{txn_of}
use Rattle.node_model.proofs.TxnLemmas.{txn_owner}
use Rattle.lock_table.proofs.LeastLemmas.{front, back, either}
use Rattle.node_model.proofs.StopLemmas.{filtered_is, live_is_stop}
use Rattle.node_model.proofs.SameStops.{same_visit, SameKeys}
use Rattle.node_model.specs.Waits.{wait_in, wait_of, next_wait}
use Rattle.txn_walk.specs.StopsAt.{stops_at, is_live_in, plan_at}
use Rattle.node_parts.specs.declared.notes.Change.{Change}
use Rattle.node_parts.specs.declared.parts.Parts.{Parts}
use Rattle.node_parts.specs.Kept.{node_view, PartsKept}
use Rattle.node_visits.specs.Answers.{change_at, change_under, duplicate_key}
use Rattle.node_visits.specs.Dues.{plan_in, change_to, change_in, IsDue}

pub among_row : (key_len : ℕ) (key : List Value) (rows : List (List Value)) → IsAmong key (map (take key_len) rows) → is_some (row_at key_len key rows) ≡ true
among_row key_len key [] i = absurd i
among_row key_len key (row ∷ rows) (inl e) =
    ap (λ (o : Ordering). is_some (cond (is_eq o) (Some row) (row_at key_len key rows))) (ap (key_cmp key) e ∙ key_ties key)
among_row key_len key (row ∷ rows) (inr i) = at (is_at key_len key row) (among_row key_len key rows i)
  where
    at : (b : Bool) → is_some (row_at key_len key rows) ≡ true → is_some (cond b (Some row) (row_at key_len key rows)) ≡ true
    at true more = refl
    at false more = more

pub row_among : (key_len : ℕ) (key : List Value) (rows : List (List Value)) → is_some (row_at key_len key rows) ≡ true → IsAmong key (map (take key_len) rows)
row_among key_len key [] there = absurd (let q : false ≡ true = there in cc)
row_among key_len key (row ∷ rows) there = at (is_at key_len key row) refl there (λ t. row_among key_len key rows t)
  where
    at : (b : Bool) → is_at key_len key row ≡ b → is_some (cond b (Some row) (row_at key_len key rows)) ≡ true → (is_some (row_at key_len key rows) ≡ true → IsAmong key (map (take key_len) rows))
        → IsAmong key (map (take key_len) (row ∷ rows))
    at true e t more = inl (sym (same_key key (take key_len row) e))
    at false e t more = inr (more t)

same_stops : (node : NodeView) (owner number : ℕ) (live : TableView) → ((key : List Value) → row_at live.key_len key live.rows ≡ live_row node number key)
    → SameKeys (stops_at owner number live node.held) (stops node owner number)
same_stops node owner number live rows = (λ key i. to key (either key (foreign_keys owner number node.held) (map (take live.key_len) live.rows) i), λ key i. from key (either key (foreign_keys owner number node.held) (live_keys node number) i))
  where
    to : (key : List Value) → IsAmong key (foreign_keys owner number node.held) ⊎ IsAmong key (map (take live.key_len) live.rows) → IsAmong key (stops node owner number)
    to key (inl i) = front key (foreign_keys owner number node.held) (live_keys node number) i
    to key (inr i) = live_is_stop node owner number key (sym (ap is_some (rows key)) ∙ among_row live.key_len key live.rows i)

    from : (key : List Value) → IsAmong key (foreign_keys owner number node.held) ⊎ IsAmong key (live_keys node number) → IsAmong key (stops_at owner number live node.held)
    from key (inl i) = front key (foreign_keys owner number node.held) (map (take live.key_len) live.rows) i
    from key (inr i) =
        back key (foreign_keys owner number node.held) (map (take live.key_len) live.rows)
        (row_among live.key_len key live.rows
        (ap is_some (rows key) ∙ filtered_is (is_live node number) key (keys_of_rows node.schemas number (committed_rows node number) ++ locked_keys number node.held) i))

pub plan_is : (parts : Parts) (txn : Txn) (walk : Walk) → PartsKept parts
    → plan_in txn.owner.0 walk parts.schemas.tables parts.tables.items parts.locks.held ≡ plan_of (node_view parts) txn walk
plan_is parts txn walk kept = at (slice_get parts.schemas.tables (table_of walk.statement)) refl
  where
    at : (o : Option Schema) → slice_get parts.schemas.tables (table_of walk.statement) ≡ o
        → option_map_or (λ (schema : Schema). option_map_or (λ (live : TableView). plan_at schema walk.statement walk.cursor txn.owner.0 live parts.locks.held) (slice_get parts.tables.items (table_of walk.statement)) (empty_plan walk.cursor)) o (empty_plan walk.cursor)
        ≡ option_map_or (λ (schema : Schema). next_visit schema walk.statement walk.cursor (stops (node_view parts) txn.owner.0 (table_of walk.statement)) (is_live (node_view parts) (table_of walk.statement))) o (empty_plan walk.cursor)
    at None e = refl
    at (Some schema) e =
        let l = kept.live (table_of walk.statement) schema e in
        ap (λ (o : Option TableView). option_map_or (λ (live : TableView). plan_at schema walk.statement walk.cursor txn.owner.0 live parts.locks.held) o (empty_plan walk.cursor)) l.there
        ∙ same_visit schema walk.statement walk.cursor (stops_at txn.owner.0 (table_of walk.statement) l.live parts.locks.held) (stops (node_view parts) txn.owner.0 (table_of walk.statement))
        (is_live_in l.live) (is_live (node_view parts) (table_of walk.statement)) (same_stops (node_view parts) txn.owner.0 (table_of walk.statement) l.live l.rows) (λ key. ap is_some (l.rows key))

pub change_is : (parts : Parts) (walk : Walk) (on_key : Option (List Value × LockMode)) → PartsKept parts
    → change_in walk on_key parts.schemas.tables parts.tables.items ≡ change_under (node_view parts) walk on_key
change_is parts walk None kept = refl
change_is parts walk (Some (key, Shared)) kept = refl
change_is parts walk (Some (key, Exclusive)) kept = at (slice_get parts.schemas.tables (table_of walk.statement)) refl
  where
    at : (o : Option Schema) → slice_get parts.schemas.tables (table_of walk.statement) ≡ o
        → option_and_then (λ (schema : Schema). option_map (change_to walk key schema) (slice_get parts.tables.items (table_of walk.statement))) o
        ≡ change_at (node_view parts) walk key o
    at None e = refl
    at (Some schema) e =
        let l = kept.live (table_of walk.statement) schema e in
        ap (option_map (change_to walk key schema)) l.there
        ∙ ap (λ (old : Option (List Value)). Some (record { table = table_of walk.statement; key = key; new = effect schema walk.statement key old })) (l.rows key)

pub owner_is : (owner : Owner) (txn : Txn) (txns : List Txn) → txn_of owner.0 txns ≡ Some txn → owner ≡ txn.owner
owner_is owner txn txns found = λ i. record { 0 = sym (txn_owner owner.0 txn txns found) i }

pub due_is : (parts : Parts) (owner : Owner) (txn : Txn) (walk : Walk) (slice : List TableView) (number : ℕ) (plan : Plan) (by : Option Owner) (refused : Bool) (duplicate : Option (List Value)) (change : Option Change) → PartsKept parts
    → txn_of owner.0 parts.txns ≡ Some txn → txn.current ≡ Some walk → slice ≡ parts.tables.items → number ≡ table_of walk.statement → plan ≡ plan_in owner.0 walk parts.schemas.tables slice parts.locks.held
    → option_map (λ (o : Owner). o.0) by ≡ plan_excluder owner number plan parts.locks.held → refused ≡ is_duplicate txn.part walk.statement plan → duplicate ≡ duplicate_key refused plan.on_key → change ≡ change_in walk plan.on_key parts.schemas.tables slice
    → IsDue owner.0 (node_view parts) (record { number = number; plan = plan; by = by; refused = refused; duplicate = duplicate; change = change })
due_is parts owner txn walk slice number plan by refused duplicate change kept found current same num is ex ref dup ch =
    let own = owner_is owner txn parts.txns found in
    let p : plan ≡ plan_of (node_view parts) txn walk =
    is ∙ (λ i. plan_in (own i).0 walk parts.schemas.tables (same i) parts.locks.held) ∙ plan_is parts txn walk kept in
    record {
      txn = txn;
      walk = walk;
      found = found;
      current = current;
      number = num;
      plan = p;
      by = ex ∙ (λ i. plan_excluder (own i) (num i) (p i) parts.locks.held);
      refused = ref ∙ ap (is_duplicate txn.part walk.statement) p;
      duplicate = dup ∙ (λ i. duplicate_key ((ref ∙ ap (is_duplicate txn.part walk.statement) p) i) (p i).on_key);
      change = ch ∙ (λ i. change_in walk (p i).on_key parts.schemas.tables (same i)) ∙ change_is parts walk (plan_of (node_view parts) txn walk).on_key kept;
    }

-- whom a statement in progress waits for
pub wait_is : (parts : Parts) (owner : Owner) (txn : Txn) (walk : Walk) (by : Option ℕ) → PartsKept parts → txn_of owner.0 parts.txns ≡ Some txn → txn.current ≡ Some walk
    → by ≡ plan_excluder owner (table_of walk.statement) (plan_in owner.0 walk parts.schemas.tables parts.tables.items parts.locks.held) parts.locks.held → by ≡ next_wait (node_view parts) owner.0
wait_is parts owner txn walk by kept found current is =
    let own = owner_is owner txn parts.txns found in
    is
    ∙ (λ i. plan_excluder (own i) (table_of walk.statement) (((λ j. plan_in (own j).0 walk parts.schemas.tables parts.tables.items parts.locks.held) ∙ plan_is parts txn walk kept) i) parts.locks.held)
    ∙ sym (ap (λ (o : Option Txn). wait_of (node_view parts) o) found ∙ ap (λ (o : Option Walk). wait_in (node_view parts) txn o) current)
