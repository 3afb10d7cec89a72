-- A rollback puts back what its owner noted, the last first.
use Rattle.std.proofs.Common.{◌≡◌, ◌≢◌, ◌⊎◌, inl, inr, ◌∙◌, ℕ, suc, ◌==◌, ◌&&◌, Bool, true, false, cond, List, [], ◌∷◌, ◌++◌, Option, None, Some, length, take, drop, refl, ap, sym, subst, arith}
use Rattle.std.specs.Prelude.{slice_set, IfSome, option_map}
use Rattle.std.specs.List.{slice_get, remove, AllByRecursion}
use Rattle.std.specs.Ordering.{is_eq}
use Rattle.row_types.specs.declared.values.Value.{Value}
use Rattle.row_types.specs.declared.lock_modes.LockMode.TheVariants.{Exclusive}
use Rattle.row_types.specs.declared.table_schema.Schema.{Schema}
use Rattle.row_types.specs.Order.{key_cmp}
use Rattle.row_types.specs.Fit.{IsTable, RowFits, key_of}
use Rattle.row_types.specs.KeyRows.{HasKey, row_at, without_key}
use Rattle.ordered_table.specs.TableView.{TableView}
use Rattle.row_types.proofs.OrderLemmas.{key_tied}
use Rattle.row_types.proofs.KeyRowLemmas.{put_at, same_key, removed_gone, removed_elsewhere}
use Rattle.row_types.proofs.SchemaRowLemmas.{fitting_key}
use Rattle.node_parts.specs.Written.{written}
use Rattle.lock_table.specs.declared.wants.Owner.{Owner}
use Rattle.lock_table.specs.declared.wants.Want.TheVariants.{OnKey}
use Rattle.lock_table.specs.Locks.{is_same_key, released}
use Rattle.lock_table.proofs.HoldLemmas.{same_or_apart, is_number, other_number, released_holds}
use Rattle.node_model.specs.Txns.{without_txn}
use Rattle.node_model.specs.Kept.{IsKept}
use Rattle.node_model.specs.Calls.{Rollback}
use Rattle.node_model.specs.Node.{NodeView, ended}
use Rattle.node_model.specs.PutBack.{Noted, put_back, LeadsBack}
use Rattle.node_model.proofs.CallLemmas.{call_kept}
use Rattle.node_model.proofs.PutBackLemmas.{put_back_last, rollback_rows, rollback_others}
use Rattle.node_parts.specs.declared.notes.Note.{Note}
use Rattle.node_parts.specs.declared.parts.Parts.{Parts}
use Rattle.node_parts.specs.Kept.{node_view, noted_as, notes_of, IsLive, NoteFits, PartsKept}
use Rattle.node_parts.specs.Undone.{UndoneAt, IsUndoing, CanPutBack, IsPutBack}
use Rattle.node_parts.proofs.TableLemmas.{get_set_same, get_set_other, table_written}
use Rattle.node_parts.proofs.FrameLemmas.{IsFrame, frame_checks, frame_applied}
use Rattle.node_parts.proofs.RemoveLemmas.{note_at, drop_here, removed_own, removed_other, removed_on, removed_off, removed_each, each_at, removed_rest, removed_within}

pub written_at : (key_len : ℕ) (at key : List Value) (was : Option (List Value)) (rows : List (List Value)) → ((row : List Value) → was ≡ Some row → at ≡ take key_len row)
    → row_at key_len key (written key_len at was rows) ≡ cond (is_same_key key at) was (row_at key_len key rows)
written_at key_len at key None rows keyed = gone (is_eq (key_cmp key at)) refl
  where
    gone : (b : Bool) → is_eq (key_cmp key at) ≡ b → row_at key_len key (without_key key_len at rows) ≡ cond b None (row_at key_len key rows)
    gone true e = ap (λ (k : List Value). row_at key_len k (without_key key_len at rows)) (same_key key at e) ∙ removed_gone key_len at rows
    gone false e = removed_elsewhere key_len at key rows (λ same. let q : true ≡ false = sym (ap is_eq (key_tied key at same)) ∙ e in cc)
written_at key_len at key (Some row) rows keyed =
    put_at key_len key row rows ∙ ap (λ (k : List Value). cond (is_eq (key_cmp key k)) (Some row) (row_at key_len key rows)) (sym (keyed row refl))

row_keyed : (schema : Schema) (key row : List Value) (was : Option (List Value)) → IfSome was (λ row. RowFits schema row × (key ≡ key_of schema row)) → was ≡ Some row → RowFits schema row × (key ≡ key_of schema row)
row_keyed schema key row was fits e = subst (λ (o : Option (List Value)). IfSome o (λ r. RowFits schema r × (key ≡ key_of schema r))) e fits

same_live : (tables : List TableView) (number : ℕ) (a b : TableView) → slice_get tables number ≡ Some a → slice_get tables number ≡ Some b → a ≡ b
same_live tables number a b first second = let q : Some a ≡ Some b = sym first ∙ second in cc

same_schema : (schemas : List Schema) (number : ℕ) (a b : Schema) → slice_get schemas number ≡ Some a → slice_get schemas number ≡ Some b → a ≡ b
same_schema schemas number a b first second = let q : Some a ≡ Some b = sym first ∙ second in cc

pub can_put_back : (schemas : List Schema) (owner : ℕ) (start : List TableView) (all : List Note) (tables : List TableView) (notes : List Note) (index place : ℕ) (by : Owner)
    → IsUndoing schemas owner start all tables notes index → option_map (λ (note : Note). note.owner) (slice_get notes place) ≡ Some by → CanPutBack place tables notes
can_put_back schemas owner start all tables notes index place by way found =
    let n = note_at notes place by found in
    let fits = each_at (NoteFits schemas) notes place n.note way.fits n.is in
    let u = way.each n.note.table fits.schema fits.found in
    let count = removed_on n.note.table notes place n.note n.is refl in
    let room = u.room in
    record {
      note = n.note;
      is = n.is;
      live = u.live;
      there = u.there;
      new = keyed fits.schema n.note.key u.live.key_len n.note.was u.sound.same_key (λ row f. fitting_key fits.schema row u.sound.is_schema f) fits.row;
      room = omega (arith, count, room);
    }
  where
    keyed : (schema : Schema) (key : List Value) (key_len : ℕ) (was : Option (List Value)) → key_len ≡ schema.key_len → ((row : List Value) → RowFits schema row → HasKey schema.key_len row)
        → IfSome was (λ row. RowFits schema row × (key ≡ key_of schema row)) → IfSome was (λ row. HasKey key_len row × (key ≡ take key_len row))
    keyed schema key key_len None same has fits = tt
    keyed schema key key_len (Some row) same has fits =
        (subst (λ (n : ℕ). HasKey n row) (sym same) (has row fits.0), fits.1 ∙ ap (λ (n : ℕ). take n row) (sym same))

index_rest : (owner : ℕ) (notes : List Note) (index place : ℕ) → index ≡ suc place → notes_of owner (drop index notes) ≡ [] → notes_of owner (drop (suc place) notes) ≡ []
index_rest owner notes index place e rest = ap (λ (n : ℕ). notes_of owner (drop n notes)) (sym e) ∙ rest

-- a note of another stays
pub passed_by : (schemas : List Schema) (owner : ℕ) (start : List TableView) (all : List Note) (tables : List TableView) (notes : List Note) (index place : ℕ) (by : Owner)
    → IsUndoing schemas owner start all tables notes index → index ≡ suc place → option_map (λ (note : Note). note.owner) (slice_get notes place) ≡ Some by → by.0 ≢ owner
    → IsUndoing schemas owner start all tables notes place
passed_by schemas owner start all tables notes index place by way e found apart =
    let n = note_at notes place by found in
    let within = way.within in
    record {
      within = omega (arith, within, e);
      rest = ap (notes_of owner) (drop_here notes place n.note n.is)
          ∙ ap (λ (b : Bool). cond b (noted_as n.note ∷ notes_of owner (drop (suc place) notes)) (notes_of owner (drop (suc place) notes)))
          (other_number n.note.owner.0 owner (λ same. apart (ap (λ (o : Owner). o.0) (sym n.own) ∙ same)))
          ∙ index_rest owner notes index place e way.rest;
      each = way.each;
      fits = way.fits;
      others = way.others;
    }

-- a note of the owner is put back
pub put_one : (schemas : List Schema) (owner : ℕ) (start : List TableView) (all : List Note) (tables tables_after : List TableView) (notes notes_after : List Note) (index place : ℕ) (by : Owner)
    → IsUndoing schemas owner start all tables notes index → index ≡ suc place → option_map (λ (note : Note). note.owner) (slice_get notes place) ≡ Some by → by.0 ≡ owner
    → IsPutBack place tables tables_after notes notes_after → IsUndoing schemas owner start all tables_after notes_after place
put_one schemas owner start all tables tables_after notes notes_after index place by way e found own p =
    subst (λ (ns : List Note). IsUndoing schemas owner start all tables_after ns place) (sym p.left) (record {
      within = removed_within notes place p.note p.is;
      rest = ap (notes_of owner) (removed_rest notes place p.note p.is) ∙ index_rest owner notes index place e way.rest;
      each = each;
      fits = removed_each (NoteFits schemas) notes place way.fits;
      others = λ other apart. removed_other other notes place p.note p.is (λ same. apart (sym same ∙ mine)) ∙ way.others other apart;
    })
  where
    mine : p.note.owner.0 ≡ owner
    mine =
        let n = note_at notes place by found in
        let q : n.note ≡ p.note = let s : Some n.note ≡ Some p.note = sym n.is ∙ p.is in cc in
        ap (λ (x : Note). x.owner.0) (sym q) ∙ ap (λ (o : Owner). o.0) n.own ∙ own

    noted : notes_of owner notes ≡ notes_of owner (remove notes place) ++ noted_as p.note ∷ []
    noted = removed_own owner notes place p.note p.is mine (index_rest owner notes index place e way.rest)

    before : (number : ℕ) (key : List Value) (now : Option (List Value))
        → put_back (notes_of owner notes) number key now ≡ put_back (notes_of owner (remove notes place)) number key (cond ((p.note.table == number) && is_same_key key p.note.key) p.note.was now)
    before number key now =
        ap (λ (ns : List Noted). put_back ns number key now) noted ∙ put_back_last (notes_of owner (remove notes place)) (noted_as p.note) number key now

    each : (number : ℕ) (schema : Schema) → slice_get schemas number ≡ Some schema → UndoneAt owner number schema start all tables_after (remove notes place)
    each number schema is = at (way.each number schema is) (same_or_apart p.note.table number)
      where
        at : UndoneAt owner number schema start all tables notes → (p.note.table ≡ number) ⊎ (p.note.table ≢ number) → UndoneAt owner number schema start all tables_after (remove notes place)
        at u (inr apart) =
            let room = u.room in
            let off = removed_off number notes place p.note p.is apart in
            record {
              first = u.first;
              was = u.was;
              live = u.live;
              there = ap (λ (ts : List TableView). slice_get ts number) p.set ∙ get_set_other tables p.note.table number p.now (λ e. apart (sym e)) ∙ u.there;
              sound = u.sound;
              rows = λ key.
                  ap (λ (b : Bool). put_back (notes_of owner (remove notes place)) number key (cond (b && is_same_key key p.note.key) p.note.was (row_at u.live.key_len key u.live.rows)))
                  (sym (other_number p.note.table number apart))
                  ∙ sym (before number key (row_at u.live.key_len key u.live.rows)) ∙ u.rows key;
              room = omega (arith, room, off);
            }
        at u (inl same) =
            let one : p.live ≡ u.live = same_live tables number p.live u.live (ap (slice_get tables) (sym same) ∙ p.there) u.there in
            let note_fits = each_at (NoteFits schemas) notes place p.note way.fits p.is in
            let sc : note_fits.schema ≡ schema = same_schema schemas number note_fits.schema schema (ap (slice_get schemas) (sym same) ∙ note_fits.found) is in
            let row = subst (λ (s : Schema). IfSome p.note.was (λ r. RowFits s r × (p.note.key ≡ key_of s r))) sc note_fits.row in
            let k : u.live.key_len ≡ schema.key_len = u.sound.same_key in
            let key_len : p.now.key_len ≡ u.live.key_len = p.key_len ∙ ap (λ (t : TableView). t.key_len) one in
            let rows : p.now.rows ≡ written u.live.key_len p.note.key p.note.was u.live.rows = p.rows ∙ ap (λ (t : TableView). written t.key_len p.note.key p.note.was t.rows) one in
            let spare = p.spare in
            let q : p.live.spare ≡ u.live.spare = ap (λ (t : TableView). t.spare) one in
            let count = removed_on number notes place p.note p.is same in
            let room = u.room in
            record {
              first = u.first;
              was = u.was;
              live = p.now;
              there = ap (λ (ts : List TableView). slice_get ts number) p.set ∙ ap (slice_get (slice_set tables p.note.table p.now)) (sym same) ∙ get_set_same tables p.note.table p.live p.now p.there;
              sound = record {
                is_schema = u.sound.is_schema;
                is_table = subst (IsTable schema) (ap (λ (n : ℕ). written n p.note.key p.note.was u.live.rows) (sym k) ∙ sym rows)
                    (table_written schema p.note.key u.live.rows p.note.was u.sound.is_table (λ r f. (row_keyed schema p.note.key r p.note.was row f).0));
                same_key = key_len ∙ k;
              };
              rows = λ key.
                  ap (put_back (notes_of owner (remove notes place)) number key)
                  ((λ i. row_at (key_len i) key (rows i))
                  ∙ written_at u.live.key_len p.note.key key p.note.was u.live.rows (λ r f. (row_keyed schema p.note.key r p.note.was row f).1 ∙ ap (λ (n : ℕ). take n r) (sym k))
                  ∙ ap (λ (b : Bool). cond (b && is_same_key key p.note.key) p.note.was (row_at u.live.key_len key u.live.rows)) (sym (is_number p.note.table number same)))
                  ∙ sym (before number key (row_at u.live.key_len key u.live.rows)) ∙ u.rows key;
              room = omega (arith, spare, q, count, room);
            }

-- at its start nothing is put back

drop_all : (notes : List Note) → drop (length notes) notes ≡ []
drop_all [] = refl
drop_all (x ∷ notes) = drop_all notes

pub undo_begins : (parts : Parts) (owner : ℕ) → PartsKept parts
    → IsUndoing parts.schemas.tables owner parts.tables.items parts.notes.notes parts.tables.items parts.notes.notes (length parts.notes.notes)
undo_begins parts owner kept = record {
  within = omega arith;
  rest = ap (notes_of owner) (drop_all parts.notes.notes);
  each = λ number schema found.
      let l = kept.live number schema found in
      record { first = l.live; was = l.there; live = l.live; there = l.there; sound = l.sound; rows = λ key. refl; room = l.room };
  fits = kept.notes;
  others = λ other apart. refl;
}

-- at its end the owner is gone
pub rolled_back : (old new : Parts) (owner : Owner) → PartsKept old → IsFrame old new → new.txns ≡ without_txn owner.0 old.txns → new.locks.held ≡ released owner.0 old.locks.held
    → IsUndoing old.schemas.tables owner.0 old.tables.items old.notes.notes new.tables.items new.notes.notes 0 → PartsKept new
rolled_back old new owner kept frame txns held way =
    let node = node_view old in
    let view : node_view new ≡ ended owner.0 node =
    λ i. record { schemas = frame.schemas i; start = frame.start i; history = frame.history i; txns = txns i; held = held i } in
    record {
      laws = subst IsKept (sym view) (call_kept (Rollback owner) node tt kept.laws);
      live = λ number schema found.
          let here = ap (λ (ss : List Schema). slice_get ss number) (sym frame.schemas) ∙ found in
          let u = way.each number schema here in
          let l = kept.live number schema here in
          let one = same_live old.tables.items number u.first l.live u.was l.there in
          subst (λ (n : NodeView). IsLive n number schema new.tables.items new.notes.notes) (sym view) (record {
            live = u.live;
            there = u.there;
            sound = u.sound;
            rows = λ key.
                ap (λ (ns : List Noted). put_back ns number key (row_at u.live.key_len key u.live.rows)) (sym way.rest)
                ∙ u.rows key
                ∙ ap (put_back (notes_of owner.0 old.notes.notes) number key) (ap (λ (t : TableView). row_at t.key_len key t.rows) one ∙ l.rows key)
                ∙ rollback_rows node owner.0 (notes_of owner.0 old.notes.notes) kept.laws.facts (kept.back owner.0) number key;
            room = u.room;
          });
      back = λ b. subst (λ (n : NodeView). LeadsBack n b (notes_of b new.notes.notes)) (sym view) (back b (same_or_apart b owner.0));
      notes = subst (λ (ss : List Schema). AllByRecursion (NoteFits ss) new.notes.notes) (sym frame.schemas) way.fits;
      checks = frame_checks old new frame kept;
      applied = frame_applied old new frame kept;
    }
  where
    back : (b : ℕ) → (b ≡ owner.0) ⊎ (b ≢ owner.0) → LeadsBack (ended owner.0 (node_view old)) b (notes_of b new.notes.notes)
    back b (inr apart) =
        subst (LeadsBack (ended owner.0 (node_view old)) b) (sym (way.others b apart)) (rollback_others (node_view old) owner.0 b (notes_of b old.notes.notes) kept.laws.facts apart (kept.back b))
    back b (inl same) =
        subst (λ (a : ℕ). LeadsBack (ended owner.0 (node_view old)) a (notes_of a new.notes.notes)) (sym same)
        (subst (LeadsBack (ended owner.0 (node_view old)) owner.0) (sym way.rest)
        (record { own = tt; back = λ table key on. absurd ((released_holds owner.0 owner.0 table (OnKey key Exclusive) old.locks.held on).1 refl) }))
