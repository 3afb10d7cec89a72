-- What is due is done: the live tables, the notes and all that is kept after it.
use Rattle.std.proofs.Common.{◌≡◌, ◌≢◌, ◌⊎◌, inl, inr, ◌∙◌, ℕ, ◌≤◌, ◌+◌, Bool, true, false, cond, List, [], ◌∷◌, ◌++◌, Option, None, Some, length, take, refl, ap, sym, subst, arith}
use Rattle.std.specs.Prelude.{slice_set, IfSome, option_map, option_and_then}
use Rattle.std.specs.List.{slice_get, AllByRecursion}
use Rattle.std.specs.Ordering.{is_eq}
use Rattle.row_types.specs.declared.values.Value.{Value}
use Rattle.row_types.specs.declared.lock_modes.LockMode.{LockMode}
use Rattle.row_types.specs.declared.lock_modes.LockMode.TheVariants.{Shared, Exclusive}
use Rattle.row_types.specs.declared.table_schema.Schema.{Schema}
use Rattle.row_types.specs.Order.{key_cmp}
use Rattle.row_types.specs.Fit.{IsTable, RowFits, key_of}
use Rattle.ptc_statement.specs.Effect.{table_of, effect}
use Rattle.ptc_statement.specs.Fits.{StatementFits}
use Rattle.row_types.specs.KeyRows.{HasKey, row_at}
use Rattle.ordered_table.specs.TableView.{TableView}
use Rattle.row_types.proofs.KeyRowLemmas.{found_at}
use Rattle.node_parts.specs.Written.{written}
use Rattle.node_visits.proofs.ChangeLemmas.{row_fits, effect_has_key, due_keyed, due_acts}
use Rattle.lock_table.specs.declared.wants.Owner.{Owner}
use Rattle.lock_table.specs.declared.wants.Want.{Want}
use Rattle.lock_table.specs.declared.wants.Holding.{Holding}
use Rattle.lock_table.specs.Locks.{excluder}
use Rattle.lock_table.proofs.HoldLemmas.{same_or_apart, lock_free}
use Rattle.node_model.specs.declared.txns.Walk.{Walk}
use Rattle.node_model.specs.declared.txns.Txn.{Txn}
use Rattle.node_model.specs.Txns.{txn_of, with_txn, with_step, stepped_if}
use Rattle.node_model.specs.Kept.{IsKept, WalkFits}
use Rattle.node_model.specs.Calls.{Visit, after_call, visit_if, visited_if}
use Rattle.node_model.specs.Node.{NodeView, live_row, plan_of, asked, plan_excluder, moved, taken}
use Rattle.node_model.specs.Waits.{visited_unless}
use Rattle.node_model.specs.PutBack.{Noted, LeadsBack}
use Rattle.node_model.proofs.CallLemmas.{call_kept, own_txn}
use Rattle.node_model.proofs.CommitLemmas.{fits_there}
use Rattle.node_model.proofs.PutBackLemmas.{visit_own, visit_others, noted_by}
use Rattle.node_parts.specs.declared.notes.Note.{Note}
use Rattle.node_parts.specs.declared.notes.Change.{Change}
use Rattle.node_parts.specs.declared.parts.Parts.{Parts}
use Rattle.node_visits.specs.declared.visits.Due.{Due}
use Rattle.node_parts.specs.NotesView.{NotesView}
use Rattle.node_parts.specs.Kept.{node_view, noted_as, notes_of, IsLive, NoteFits, PartsKept}
use Rattle.node_visits.specs.Dues.{IsDue, HasRoomAt, HasRoomFor, CanWriteAt, CanWrite, IsWrittenAt, IsWritten, IsFree}
use Rattle.node_parts.proofs.TableLemmas.{get_set_same, get_set_other, table_written}
use Rattle.node_visits.proofs.PlanIsLemmas.{owner_is}
use Rattle.node_parts.proofs.FrameLemmas.{IsFrame, frame_checks, frame_applied}
use Rattle.node_visits.proofs.NoteLemmas.{notes_own, notes_other, on_other, on_most, each_last}
use Rattle.node_visits.proofs.VisitedLemmas.{Visits, after_it, made, IsMade, some_change, all_shared, unchanged, changed_here, changed_elsewhere}

-- a change of the statement in progress that is to be made to a live table

pub record Making (node : NodeView) (txn : Txn) (walk : Walk) (tables : List TableView) (notes : List Note) : Type 0 where
  pub turn : Visits node txn walk
  pub key : List Value
  pub schema : Schema
  pub found : slice_get node.schemas (table_of walk.statement) ≡ Some schema
  pub on : (plan_of node txn walk).on_key ≡ Some (key, Exclusive)
  pub fits : StatementFits schema walk.statement
  pub live : IsLive node (table_of walk.statement) schema tables notes

new_is : (node : NodeView) (txn : Txn) (walk : Walk) (tables : List TableView) (notes : List Note) (m : Making node txn walk tables notes)
    → effect m.schema walk.statement m.key (live_row node (table_of walk.statement) m.key) ≡ effect m.schema walk.statement m.key (row_at m.live.live.key_len m.key m.live.live.rows)
new_is node txn walk tables notes m = ap (effect m.schema walk.statement m.key) (sym (m.live.rows m.key))

pub keyed : (node : NodeView) (txn : Txn) (walk : Walk) (tables : List TableView) (notes : List Note) (m : Making node txn walk tables notes)
    → IfSome (effect m.schema walk.statement m.key (live_row node (table_of walk.statement) m.key)) (λ row. HasKey m.live.live.key_len row × (m.key ≡ take m.live.live.key_len row))
keyed node txn walk tables notes m =
    due_keyed m.schema walk.statement m.key m.live.live.key_len m.live.live.rows (effect m.schema walk.statement m.key (live_row node (table_of walk.statement) m.key)) m.fits m.live.sound.is_schema
    m.live.sound.is_table m.live.sound.same_key (new_is node txn walk tables notes m)

same_live : (tables : List TableView) (number : ℕ) (a b : TableView) → slice_get tables number ≡ Some a → slice_get tables number ≡ Some b → a ≡ b
same_live tables number a b first second = let q : Some a ≡ Some b = sym first ∙ second in cc

same_schema : (schemas : List Schema) (number : ℕ) (a b : Schema) → slice_get schemas number ≡ Some a → slice_get schemas number ≡ Some b → a ≡ b
same_schema schemas number a b first second = let q : Some a ≡ Some b = sym first ∙ second in cc

abbrev pub note_of : Owner → NodeView → Walk → List Value → TableView → Note
note_of owner node walk key live = record { owner = owner; table = table_of walk.statement; key = key; was = row_at live.key_len key live.rows }

-- the table of the change
made_here : (node : NodeView) (txn : Txn) (walk : Walk) (tables tables_after : List TableView) (notes : List Note) (m : Making node txn walk tables notes) (now : TableView) (note : Note)
    → tables_after ≡ slice_set tables (table_of walk.statement) now → now.rows ≡ written m.live.live.key_len m.key (effect m.schema walk.statement m.key (live_row node (table_of walk.statement) m.key)) m.live.live.rows
    → now.key_len ≡ m.live.live.key_len → m.live.live.spare ≤ now.spare + 1 → length notes + 2 ≤ m.live.live.spare
    → IsLive (after_it node txn walk) (table_of walk.statement) m.schema tables_after (notes ++ note ∷ [])
made_here node txn walk tables tables_after notes m now note is rows key_len spare room =
    let of = table_of walk.statement in
    let live = m.live.live in
    let new = effect m.schema walk.statement m.key (live_row node of m.key) in
    let k : live.key_len ≡ m.schema.key_len = m.live.sound.same_key in
    let acts = due_acts m.schema walk.statement m.key live.key_len live.rows now.rows new k (new_is node txn walk tables notes m) (keyed node txn walk tables notes m) rows in
    let most = on_most of (notes ++ note ∷ []) in
    let count : length (notes ++ note ∷ []) ≡ length notes + 1 = more_length notes note in
    record {
      live = now;
      there = ap (λ (ts : List TableView). slice_get ts of) is ∙ get_set_same tables of live now m.live.there;
      sound = record {
        is_schema = m.live.sound.is_schema;
        is_table = subst (IsTable m.schema) (ap (λ (n : ℕ). written n m.key new live.rows) (sym k) ∙ sym rows)
            (table_written m.schema m.key live.rows new m.live.sound.is_table (λ row e. (effect_has_key m.schema walk.statement m.key row live.rows m.fits m.live.sound.is_table
            (ap (λ (n : ℕ). effect m.schema walk.statement m.key (row_at n m.key live.rows)) (sym k) ∙ sym (new_is node txn walk tables notes m) ∙ e)).fits));
        same_key = key_len ∙ k;
      };
      rows = λ other.
          ap (λ (n : ℕ). row_at n other now.rows) (key_len ∙ k)
          ∙ acts other
          ∙ (λ i. cond (is_eq (key_cmp other m.key)) (effect m.schema walk.statement m.key (row_at (sym k i) m.key live.rows)) (row_at (sym k i) other live.rows))
          ∙ (λ i. cond (is_eq (key_cmp other m.key)) (effect m.schema walk.statement m.key (m.live.rows m.key i)) (m.live.rows other i))
          ∙ sym (changed_here node txn walk m.schema m.key m.turn m.found m.on other);
      room = omega (arith, most, count, spare, room);
    }
  where
    more_length : (notes : List Note) (note : Note) → length (notes ++ note ∷ []) ≡ length notes + 1
    more_length [] note = omega arith
    more_length (first ∷ notes) note = let e = more_length notes note in omega (arith, e)

-- each table after the change
pub made_live : (node : NodeView) (txn : Txn) (walk : Walk) (owner : Owner) (tables tables_after : List TableView) (notes notes_after : List Note) (m : Making node txn walk tables notes)
    → IsWrittenAt owner (made node walk m.schema m.key) tables tables_after notes notes_after → length notes + 2 ≤ m.live.live.spare → (number : ℕ) (schema : Schema) → slice_get node.schemas number ≡ Some schema
    → IsLive node number schema tables notes → IsLive (after_it node txn walk) number schema tables_after notes_after
made_live node txn walk owner tables tables_after notes notes_after m w room number schema found is = at (same_or_apart number of)
  where
    of : ℕ
    of = table_of walk.statement

    one : w.live ≡ m.live.live
    one = same_live tables (table_of walk.statement) w.live m.live.live w.there m.live.there

    note : Note
    note = note_of owner node walk m.key w.live

    here : IsLive (after_it node txn walk) (table_of walk.statement) m.schema tables_after (notes ++ note ∷ [])
    here =
        let s = w.spare in
        let q : w.live.spare ≡ m.live.live.spare = ap (λ (t : TableView). t.spare) one in
        made_here node txn walk tables tables_after notes m w.now note w.is
        (w.rows ∙ ap (λ (t : TableView). written t.key_len m.key (effect m.schema walk.statement m.key (live_row node (table_of walk.statement) m.key)) t.rows) one)
        (w.key_len ∙ ap (λ (t : TableView). t.key_len) one) (omega (arith, s, q)) room

    at : (number ≡ of) ⊎ (number ≢ of) → IsLive (after_it node txn walk) number schema tables_after notes_after
    at (inl same) =
        let sc = same_schema node.schemas of m.schema schema m.found (ap (slice_get node.schemas) (sym same) ∙ found) in
        subst (IsLive (after_it node txn walk) number schema tables_after) (sym w.noted)
        (subst (λ (n : ℕ). IsLive (after_it node txn walk) n schema tables_after (notes ++ note ∷ [])) (sym same)
        (subst (λ (s : Schema). IsLive (after_it node txn walk) of s tables_after (notes ++ note ∷ [])) sc here))
    at (inr apart) =
        let r = is.room in
        let n = on_other number notes note (λ e. apart (sym e)) in
        subst (IsLive (after_it node txn walk) number schema tables_after) (sym w.noted)
        (record {
          live = is.live;
          there = ap (λ (ts : List TableView). slice_get ts number) w.is ∙ get_set_other tables of number w.now apart ∙ is.there;
          sound = is.sound;
          rows = λ key. is.rows key ∙ sym (changed_elsewhere node txn walk m.turn number key apart);
          room = omega (arith, r, n);
        })

pub made_back : (node : NodeView) (txn : Txn) (walk : Walk) (owner : Owner) (tables tables_after : List TableView) (notes notes_after : List Note) (m : Making node txn walk tables notes) → owner ≡ txn.owner
    → IsWrittenAt owner (made node walk m.schema m.key) tables tables_after notes notes_after → (b : ℕ) → ((a : ℕ) → LeadsBack node a (notes_of a notes)) → LeadsBack (after_it node txn walk) b (notes_of b notes_after)
made_back node txn walk owner tables tables_after notes notes_after m own w b back =
    subst (λ (ns : List Note). LeadsBack (after_it node txn walk) b (notes_of b ns)) (sym w.noted) (at (same_or_apart b txn.owner.0))
  where
    note : Note
    note = note_of owner node walk m.key w.live

    one : w.live ≡ m.live.live
    one = same_live tables (table_of walk.statement) w.live m.live.live w.there m.live.there

    noted : noted_by node (table_of walk.statement) (plan_of node txn walk).on_key ≡ noted_as (note_of owner node walk m.key w.live) ∷ []
    noted =
        ap (noted_by node (table_of walk.statement)) m.on
        ∙ ap (λ (o : Option (List Value)). record { table = table_of walk.statement; key = m.key; was = o } ∷ [])
        (sym (m.live.rows m.key) ∙ ap (λ (t : TableView). row_at t.key_len m.key t.rows) (sym one))

    at : (b ≡ txn.owner.0) ⊎ (b ≢ txn.owner.0) → LeadsBack (after_it node txn walk) b (notes_of b (notes ++ note ∷ []))
    at (inl same) =
        subst (λ (a : ℕ). LeadsBack (after_it node txn walk) a (notes_of a (notes ++ note ∷ []))) (sym same)
        (subst (LeadsBack (after_it node txn walk) txn.owner.0)
        (ap (λ (ns : List Noted). notes_of txn.owner.0 notes ++ ns) noted ∙ sym (notes_own txn.owner.0 notes note (ap (λ (o : Owner). o.0) own)))
        (visit_own node txn walk (notes_of txn.owner.0 notes) m.turn.facts m.turn.found m.turn.current m.turn.none (back txn.owner.0)))
    at (inr apart) =
        subst (LeadsBack (after_it node txn walk) b) (sym (notes_other b notes note (λ e. apart (sym e ∙ ap (λ (o : Owner). o.0) own))))
        (visit_others node txn walk b (notes_of b notes) m.turn.facts m.turn.found m.turn.current m.turn.none apart (back b))

pub made_fits : (node : NodeView) (txn : Txn) (walk : Walk) (owner : Owner) (tables tables_after : List TableView) (notes notes_after : List Note) (m : Making node txn walk tables notes)
    → IsWrittenAt owner (made node walk m.schema m.key) tables tables_after notes notes_after → AllByRecursion (NoteFits node.schemas) notes → AllByRecursion (NoteFits node.schemas) notes_after
made_fits node txn walk owner tables tables_after notes notes_after m w each =
    subst (AllByRecursion (NoteFits node.schemas)) (sym w.noted)
    (each_last (NoteFits node.schemas) notes (note_of owner node walk m.key w.live) each (record { schema = m.schema; found = m.found; row = by (row_at w.live.key_len m.key w.live.rows) refl }))
  where
    one : w.live ≡ m.live.live
    one = same_live tables (table_of walk.statement) w.live m.live.live w.there m.live.there

    by : (o : Option (List Value)) → row_at w.live.key_len m.key w.live.rows ≡ o → IfSome o (λ row. RowFits m.schema row × (m.key ≡ key_of m.schema row))
    by None e = tt
    by (Some row) e =
        let here : row_at m.schema.key_len m.key m.live.live.rows ≡ Some row =
        ap (λ (n : ℕ). row_at n m.key m.live.live.rows) (sym m.live.sound.same_key) ∙ ap (λ (t : TableView). row_at t.key_len m.key t.rows) (sym one) ∙ e in
        (row_fits m.schema m.key row m.live.live.rows m.live.sound.is_table here, sym (found_at m.schema.key_len m.key row m.live.live.rows here))

-- for the code: what is due is a turn of its owner

pub turn_of : (parts : Parts) (owner : Owner) (due : Due) → PartsKept parts → (is : IsDue owner.0 (node_view parts) due) → due.by ≡ None → Visits (node_view parts) is.txn is.walk
turn_of parts owner due kept is free = record {
  facts = kept.laws.facts;
  found = own_txn (node_view parts) owner.0 is.txn is.found;
  current = is.current;
  none = sym is.by ∙ ap (option_map (λ (o : Owner). o.0)) free;
}

abbrev pub making : (parts : Parts) (owner : Owner) (due : Due) (change : Change) → PartsKept parts → (is : IsDue owner.0 (node_view parts) due) → due.by ≡ None
    → IsMade (node_view parts) is.walk (plan_of (node_view parts) is.txn is.walk).on_key change → Making (node_view parts) is.txn is.walk parts.tables.items parts.notes.notes
making parts owner due change kept is free made = record {
  turn = turn_of parts owner due kept is free;
  key = made.key;
  schema = made.schema;
  found = made.found;
  on = made.on;
  fits = fits_there parts.schemas.tables is.walk.statement made.schema (subst (WalkFits parts.schemas.tables) is.current (kept.laws.fits owner.0 is.txn is.found).current) made.found;
  live = kept.live (table_of is.walk.statement) made.schema made.found;
}

pub room_here : (node : NodeView) (txn : Txn) (walk : Walk) (tables : List TableView) (notes : NotesView) (change : Change) (m : Making node txn walk tables notes.notes) → change ≡ made node walk m.schema m.key
    → HasRoomAt change.table tables notes → (length notes.notes + 2 ≤ m.live.live.spare) × (1 ≤ notes.spare)
room_here node txn walk tables notes change m is has =
    let here : HasRoomAt (table_of walk.statement) tables notes = subst (λ (c : Change). HasRoomAt c.table tables notes) is has in
    let one = same_live tables (table_of walk.statement) here.live m.live.live here.there m.live.there in
    (subst (λ (t : TableView). length notes.notes + 2 ≤ t.spare) one here.room, here.spare)

pub can_write : (parts : Parts) (owner : Owner) (due : Due) → PartsKept parts → IsDue owner.0 (node_view parts) due → due.by ≡ None → HasRoomFor parts.tables.items parts.notes due.change
    → CanWrite parts.tables.items parts.notes due.change
can_write parts owner due kept is free room = at due.change refl room
  where
    at : (o : Option Change) → due.change ≡ o → HasRoomFor parts.tables.items parts.notes o → CanWrite parts.tables.items parts.notes o
    at None e has = tt
    at (Some change) e has =
        let im = some_change (node_view parts) is.walk (plan_of (node_view parts) is.txn is.walk).on_key change (sym is.change ∙ e) in
        let m = making parts owner due change kept is free im in
        let r = room_here (node_view parts) is.txn is.walk parts.tables.items parts.notes change m im.is has in
        let n = r.0 in
        subst (CanWriteAt parts.tables.items parts.notes) (sym im.is) (record {
          live = m.live.live;
          there = m.live.there;
          new = keyed (node_view parts) is.txn is.walk parts.tables.items parts.notes.notes m;
          room = omega (arith, n);
          spare = r.1;
        })

-- what doing it gives
pub record IsSettled (owner : Owner) (due : Due) (old new : Parts) : Type 0 where
  pub frame : IsFrame old new
  pub txns : new.txns ≡ with_step due.refused due.plan.ends due.plan.after (txn_of owner.0 old.txns) old.txns
  pub held : new.locks.held ≡ taken owner due.number due.plan old.locks.held
  pub written : IsWritten owner due.change old.tables.items new.tables.items old.notes.notes new.notes.notes

settled_after : (old new : Parts) (owner : Owner) (due : Due) (is : IsDue owner.0 (node_view old) due) → IsSettled owner due old new → node_view new ≡ after_it (node_view old) is.txn is.walk
settled_after old new owner due is did =
    let own = owner_is owner is.txn old.txns is.found in
    let txns : new.txns ≡ with_txn (moved is.txn is.walk (plan_of (node_view old) is.txn is.walk)) old.txns =
    did.txns
    ∙ ap (λ (o : Option Txn). with_step due.refused due.plan.ends due.plan.after o old.txns) is.found
    ∙ (λ i. with_txn (stepped_if (is.refused i) (is.plan i).ends (is.plan i).after is.txn (is.current i)) old.txns) in
    let held : new.locks.held ≡ taken is.txn.owner (table_of is.walk.statement) (plan_of (node_view old) is.txn is.walk) old.locks.held =
    did.held ∙ (λ i. taken (own i) (is.number i) (is.plan i) old.locks.held) in
    λ i. record { schemas = did.frame.schemas i; start = did.frame.start i; history = did.frame.history i; txns = txns i; held = held i }

call_is : (old : Parts) (owner : Owner) (due : Due) → (is : IsDue owner.0 (node_view old) due) → due.by ≡ None → after_call (Visit owner) (node_view old) ≡ after_it (node_view old) is.txn is.walk
call_is old owner due is free =
    let node = node_view old in
    let plan = plan_of node is.txn is.walk in
    ap (λ (o : Option Txn). visit_if o node) is.found
    ∙ ap (λ (o : Option Walk). visited_if o is.txn node) is.current
    ∙ ap (λ (o : Option ℕ). visited_unless o is.txn is.walk plan node) (sym is.by ∙ ap (option_map (λ (o : Owner). o.0)) free)

pub settled_view : (old new : Parts) (owner : Owner) (due : Due) → IsDue owner.0 (node_view old) due → due.by ≡ None → IsSettled owner due old new → node_view new ≡ after_call (Visit owner) (node_view old)
settled_view old new owner due is free did = settled_after old new owner due is did ∙ sym (call_is old owner due is free)

none_noted : (node : NodeView) (table : ℕ) (on_key : Option (List Value × LockMode)) → ((key : List Value) (mode : LockMode) → on_key ≡ Some (key, mode) → mode ≡ Shared) → noted_by node table on_key ≡ []
none_noted node table None shared = refl
none_noted node table (Some (key, Shared)) shared = refl
none_noted node table (Some (key, Exclusive)) shared = absurd (let q : Exclusive ≡ Shared = shared key Exclusive refl in cc)

append_none : (xs : List Noted) → xs ++ [] ≡ xs
append_none [] = refl
append_none (x ∷ xs) = ap (λ (ys : List Noted). x ∷ ys) (append_none xs)

record AfterIt (old new : Parts) (txn : Txn) (walk : Walk) : Type 0 where
  live : (number : ℕ) (schema : Schema) → slice_get old.schemas.tables number ≡ Some schema → IsLive (after_it (node_view old) txn walk) number schema new.tables.items new.notes.notes
  back : (b : ℕ) → LeadsBack (after_it (node_view old) txn walk) b (notes_of b new.notes.notes)
  notes : AllByRecursion (NoteFits old.schemas.tables) new.notes.notes

pub settled_kept : (old new : Parts) (owner : Owner) (due : Due) → PartsKept old → IsDue owner.0 (node_view old) due → due.by ≡ None → HasRoomFor old.tables.items old.notes due.change
    → IsSettled owner due old new → PartsKept new
settled_kept old new owner due kept is free room did =
    let parts = by due.change refl room did.written in
    record {
      laws = subst IsKept (sym (settled_view old new owner due is free did)) (call_kept (Visit owner) (node_view old) tt kept.laws);
      live = λ number schema found. subst (λ (n : NodeView). IsLive n number schema new.tables.items new.notes.notes) (sym after)
          (parts.live number schema (ap (λ (ss : List Schema). slice_get ss number) (sym did.frame.schemas) ∙ found));
      back = λ b. subst (λ (n : NodeView). LeadsBack n b (notes_of b new.notes.notes)) (sym after) (parts.back b);
      notes = subst (λ (ss : List Schema). AllByRecursion (NoteFits ss) new.notes.notes) (sym did.frame.schemas) parts.notes;
      checks = frame_checks old new did.frame kept;
      applied = frame_applied old new did.frame kept;
    }
  where
    node : NodeView
    node = node_view old

    after : node_view new ≡ after_it (node_view old) is.txn is.walk
    after = settled_after old new owner due is did

    turn : Visits (node_view old) is.txn is.walk
    turn = turn_of old owner due kept is free

    by : (o : Option Change) → due.change ≡ o → HasRoomFor old.tables.items old.notes o → IsWritten owner o old.tables.items new.tables.items old.notes.notes new.notes.notes → AfterIt old new is.txn is.walk
    by None e has w =
        let shared = all_shared node is.txn is.walk (sym is.change ∙ e) in
        record {
          live = λ number schema found.
              let l = kept.live number schema found in
              subst (λ (ts : List TableView). IsLive (after_it node is.txn is.walk) number schema ts new.notes.notes) (sym w.same_tables)
              (subst (IsLive (after_it node is.txn is.walk) number schema old.tables.items) (sym w.same_notes)
              (record { live = l.live; there = l.there; sound = l.sound; rows = λ key. l.rows key ∙ sym (unchanged node is.txn is.walk turn shared number key); room = l.room }));
          back = λ b. subst (λ (ns : List Note). LeadsBack (after_it node is.txn is.walk) b (notes_of b ns)) (sym w.same_notes) (back_same shared b (same_or_apart b is.txn.owner.0));
          notes = subst (AllByRecursion (NoteFits old.schemas.tables)) (sym w.same_notes) kept.notes;
        }
      where
        back_same : ((key : List Value) (mode : LockMode) → (plan_of node is.txn is.walk).on_key ≡ Some (key, mode) → mode ≡ Shared) → (b : ℕ) → (b ≡ is.txn.owner.0) ⊎ (b ≢ is.txn.owner.0)
            → LeadsBack (after_it node is.txn is.walk) b (notes_of b old.notes.notes)
        back_same shared b (inl same) =
            subst (λ (a : ℕ). LeadsBack (after_it node is.txn is.walk) a (notes_of a old.notes.notes)) (sym same)
            (subst (LeadsBack (after_it node is.txn is.walk) is.txn.owner.0)
            (ap (λ (ns : List Noted). notes_of is.txn.owner.0 old.notes.notes ++ ns) (none_noted node (table_of is.walk.statement) (plan_of node is.txn is.walk).on_key shared)
            ∙ append_none (notes_of is.txn.owner.0 old.notes.notes))
            (visit_own node is.txn is.walk (notes_of is.txn.owner.0 old.notes.notes) turn.facts turn.found turn.current turn.none (kept.back is.txn.owner.0)))
        back_same shared b (inr apart) = visit_others node is.txn is.walk b (notes_of b old.notes.notes) turn.facts turn.found turn.current turn.none apart (kept.back b)
    by (Some change) e has w =
        let im = some_change node is.walk (plan_of node is.txn is.walk).on_key change (sym is.change ∙ e) in
        let m = making old owner due change kept is free im in
        let r = room_here node is.txn is.walk old.tables.items old.notes change m im.is has in
        let w' : IsWrittenAt owner (made node is.walk m.schema m.key) old.tables.items new.tables.items old.notes.notes new.notes.notes =
        subst (λ (ch : Change). IsWrittenAt owner ch old.tables.items new.tables.items old.notes.notes new.notes.notes) im.is w in
        record {
          live = λ number schema found. made_live node is.txn is.walk owner old.tables.items new.tables.items old.notes.notes new.notes.notes m w' r.0 number schema found (kept.live number schema found);
          back = λ b. made_back node is.txn is.walk owner old.tables.items new.tables.items old.notes.notes new.notes.notes m (owner_is owner is.txn old.txns is.found) w' b kept.back;
          notes = made_fits node is.txn is.walk owner old.tables.items new.tables.items old.notes.notes new.notes.notes m w' kept.notes;
        }

-- nobody excludes the lock that a visit takes

free_of : (owner number : ℕ) (held : List Holding) (insert : Bool) (on_key : Option (List Value × LockMode))
    → option_and_then (λ (want : Want). excluder owner number want held) (asked insert on_key) ≡ None → IsFree owner number held on_key
free_of owner number held insert None none = tt
free_of owner number held true (Some lock) none = lock_free owner number lock.0 lock.1 held none
free_of owner number held false (Some lock) none = none

pub due_free : (parts : Parts) (owner : Owner) (due : Due) → IsDue owner.0 (node_view parts) due → due.by ≡ None → IsFree owner.0 due.number parts.locks.held due.plan.on_key
due_free parts owner due is free =
    free_of owner.0 due.number parts.locks.held due.plan.insert due.plan.on_key
    ((λ i. plan_excluder (owner_is owner is.txn parts.txns is.found i) (is.number i) (is.plan i) parts.locks.held)
    ∙ sym is.by ∙ ap (option_map (λ (o : Owner). o.0)) free)
