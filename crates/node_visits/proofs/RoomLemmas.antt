-- A node whose tables have more room.
use Rattle.std.proofs.Common.{◌≡◌, ◌≢◌, ◌⊎◌, inl, inr, ◌∙◌, ℕ, ◌<◌, ◌≤◌, ◌+◌, true, false, List, Option, None, Some, length, refl, ap, sym, subst, arith}
use Rattle.std.specs.Prelude.{slice_set, slice_index_or, IsSome}
use Rattle.std.specs.List.{slice_get, AllByRecursion}
use Rattle.std.proofs.lemmas.Option.{slice_get_within, slice_get-get_or}
use Rattle.row_types.specs.declared.table_schema.Schema.{Schema}
use Rattle.table_changes.specs.Plans.{IsSound}
use Rattle.row_types.specs.KeyRows.{row_at}
use Rattle.ordered_table.specs.TableView.{TableView}
use Rattle.lock_table.proofs.HoldLemmas.{same_or_apart}
use Rattle.node_model.specs.Node.{NodeView}
use Rattle.node_model.specs.Kept.{IsKept}
use Rattle.node_model.specs.PutBack.{LeadsBack}
use Rattle.node_parts.specs.declared.notes.Note.{Note}
use Rattle.node_parts.specs.declared.parts.Parts.{Parts}
use Rattle.node_parts.specs.NotesView.{NotesView}
use Rattle.node_parts.specs.Kept.{node_view, IsLive, NoteFits, PartsKept, notes_of}
use Rattle.node_visits.specs.Dues.{IsRoomier, HasRoomAt}
use Rattle.node_parts.proofs.TableLemmas.{get_set_same, get_set_other}
use Rattle.node_parts.proofs.FrameLemmas.{IsFrame, frame_checks, frame_applied, room_view}

roomier_live : (node : NodeView) (number of : ℕ) (schema : Schema) (before after : List TableView) (notes : List Note) → IsRoomier of before after → IsLive node number schema before notes
    → IsLive node number schema after notes
roomier_live node number of schema before after notes more is = at (same_or_apart number of)
  where
    at : (number ≡ of) ⊎ (number ≢ of) → IsLive node number schema after notes
    at (inl same) =
        let there : slice_get before number ≡ Some more.live = ap (slice_get before) same ∙ more.there in
        let one : is.live ≡ more.live = let q : Some is.live ≡ Some more.live = sym is.there ∙ there in cc in
        let room = is.room in
        let more_spare = more.spare in
        let spare : is.live.spare ≡ more.live.spare = ap (λ (t : TableView). t.spare) one in
        record {
          live = more.now;
          there = ap (λ (ts : List TableView). slice_get ts number) more.is ∙ ap (slice_get (slice_set before of more.now)) same ∙ get_set_same before of more.live more.now more.there;
          sound = subst (λ (n : ℕ). IsSound schema n more.now.rows) (ap (λ (t : TableView). t.key_len) one ∙ sym more.key_len)
              (subst (IsSound schema is.live.key_len) (ap (λ (t : TableView). t.rows) one ∙ sym more.rows) is.sound);
          rows = λ key. (λ i. row_at ((more.key_len ∙ ap (λ (t : TableView). t.key_len) (sym one)) i) key ((more.rows ∙ ap (λ (t : TableView). t.rows) (sym one)) i)) ∙ is.rows key;
          room = omega (arith, room, more_spare, spare);
        }
    at (inr apart) = record {
      live = is.live;
      there = ap (λ (ts : List TableView). slice_get ts number) more.is ∙ get_set_other before of number more.now apart ∙ is.there;
      sound = is.sound;
      rows = is.rows;
      room = is.room;
    }

pub roomier_kept : (old new : Parts) (of : ℕ) → PartsKept old → IsFrame old new → new.txns ≡ old.txns → new.locks.held ≡ old.locks.held → new.notes.notes ≡ old.notes.notes
    → IsRoomier of old.tables.items new.tables.items → PartsKept new
roomier_kept old new of kept frame txns held notes more =
    let view = sym (room_view old new frame txns held) in
    record {
      laws = subst IsKept view kept.laws;
      live = λ number schema found.
          subst (λ (node : NodeView). IsLive node number schema new.tables.items new.notes.notes) view
          (subst (IsLive (node_view old) number schema new.tables.items) (sym notes)
          (roomier_live (node_view old) number of schema old.tables.items new.tables.items old.notes.notes more
          (kept.live number schema (ap (λ (ss : List Schema). slice_get ss number) (sym frame.schemas) ∙ found))));
      back = λ owner. subst (λ (node : NodeView). LeadsBack node owner (notes_of owner new.notes.notes)) view
          (subst (λ (ns : List Note). LeadsBack (node_view old) owner (notes_of owner ns)) (sym notes) (kept.back owner));
      notes = subst (λ (ss : List Schema). AllByRecursion (NoteFits ss) new.notes.notes) (sym frame.schemas)
          (subst (AllByRecursion (NoteFits old.schemas.tables)) (sym notes) kept.notes);
      checks = frame_checks old new frame kept;
      applied = frame_applied old new frame kept;
    }

some_there : {A : Type 0} (o : Option A) → IsSome o → (x : A) × (o ≡ Some x)
some_there None is = absurd (let q : false ≡ true = is in cc)
some_there (Some x) is = (x, refl)

pub table_within : (parts : Parts) (number : ℕ) → PartsKept parts → IsSome (slice_get parts.schemas.tables number) → number < length parts.tables.items
table_within parts number kept is =
    let s = some_there (slice_get parts.schemas.tables number) is in
    let l = kept.live number s.0 s.1 in
    slice_get_within parts.tables.items number l.live l.there

-- for the code
pub room_at_is : (tables : List TableView) (number count : ℕ) (live now : TableView) (notes notes_after : NotesView) → number < length tables → count ≡ length notes.notes → count + 2 ≤ now.spare → 1 ≤ notes_after.spare
    → notes_after.notes ≡ notes.notes → HasRoomAt number (slice_set tables number now) notes_after
room_at_is tables number count live now notes notes_after within counted room spare same =
    let n : length notes_after.notes ≡ length notes.notes = ap length same in
    record {
      live = now;
      there = get_set_same tables number (slice_index_or tables number live) now (slice_get-get_or tables number live within);
      room = omega (arith, n, counted, room);
      spare = spare;
    }
