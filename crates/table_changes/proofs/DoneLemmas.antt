-- What changes of rows keep, and how far they are when some of them are done.
use Rattle.std.proofs.Common.{◌≡◌, ◌∙◌, ℕ, ◌+◌, ◌-◌, ◌≤◌, cond, not, Option, Some, None, List, [], ◌∷◌, ◌++◌, refl, ap, sym, subst, arith}
use Rattle.std.specs.Prelude.{is_some, if◌then◌else◌}
use Rattle.std.specs.List.{AllByRecursion}
use Rattle.row_types.specs.declared.values.Value.{Value}
use Rattle.row_types.specs.KeyRows.{AreOrdered, is_at}
use Rattle.ordered_table.specs.TableView.{TableView}
use Rattle.row_types.proofs.OrderedRowLemmas.{put_ordered, filter_ordered}
use Rattle.table_changes.specs.declared.row_changes.RowChange.{RowChange}
use Rattle.table_changes.specs.declared.row_changes.RowChange.TheVariants.{Gone, Put}
use Rattle.table_changes.specs.RowChanges.{row_changed, done, room_of, room_for, ChangeHasKey}

one_ordered : (key_len : ℕ) (change : RowChange) (rows : List (List Value)) → ChangeHasKey key_len change → AreOrdered key_len rows
    → AreOrdered key_len (row_changed key_len change rows)
one_ordered key_len (Gone key) rows has ordered = filter_ordered key_len (λ (row : List Value). not (is_at key_len key row)) rows ordered
one_ordered key_len (Put row) rows has ordered = put_ordered key_len row rows has ordered

-- rows by rising key stay so
pub done_ordered : (key_len : ℕ) (changes : List RowChange) (rows : List (List Value)) → AllByRecursion (ChangeHasKey key_len) changes → AreOrdered key_len rows
    → AreOrdered key_len (done key_len changes rows)
done_ordered key_len [] rows keys ordered = ordered
done_ordered key_len (change ∷ changes) rows keys ordered =
    one_ordered key_len change (done key_len changes rows) keys.0 (done_ordered key_len changes rows keys.1 ordered)

-- the last change is done first
pub done_last : (key_len : ℕ) (changes : List RowChange) (change : RowChange) (rows : List (List Value))
    → done key_len (changes ++ change ∷ []) rows ≡ done key_len changes (row_changed key_len change rows)
done_last key_len [] change rows = refl
done_last key_len (first ∷ changes) change rows = ap (row_changed key_len first) (done_last key_len changes change rows)

pub room_last : (key_len : ℕ) (changes : List RowChange) (change : RowChange) (rows : List (List Value))
    → room_for key_len (changes ++ change ∷ []) rows ≡ room_of key_len change rows + room_for key_len changes (row_changed key_len change rows)
room_last key_len [] change rows = refl
room_last key_len (first ∷ changes) change rows =
    let first_is : room_of key_len first (done key_len (changes ++ change ∷ []) rows) ≡ room_of key_len first (done key_len changes (row_changed key_len change rows)) =
    ap (room_of key_len first) (done_last key_len changes change rows) in
    let more = room_last key_len changes change rows in
    omega (arith, first_is, more)

pub keys_last : (key_len : ℕ) (changes : List RowChange) (change : RowChange) → AllByRecursion (ChangeHasKey key_len) (changes ++ change ∷ [])
    → AllByRecursion (ChangeHasKey key_len) changes × ChangeHasKey key_len change
keys_last key_len [] change keys = (tt, keys.0)
keys_last key_len (first ∷ changes) change keys =
    let rest = keys_last key_len changes change keys.1 in ((keys.0, rest.0), rest.1)

-- with these changes still to be done, the table will be what all make of it
pub record IsUnderWay (all : List RowChange) (before : TableView) (left : List RowChange) (now : TableView) : Type 0 where
  pub keys : AllByRecursion (ChangeHasKey before.key_len) left
  pub rows : done before.key_len left now.rows ≡ done before.key_len all before.rows
  pub key_len : now.key_len ≡ before.key_len
  pub room : before.spare + room_for before.key_len left now.rows ≤ now.spare + room_for before.key_len all before.rows

pub next_keys : (key_len : ℕ) (all left : List RowChange) (change : RowChange) → all ≡ left ++ change ∷ [] → AllByRecursion (ChangeHasKey key_len) all
    → AllByRecursion (ChangeHasKey key_len) left × ChangeHasKey key_len change
next_keys key_len all left change is keys = keys_last key_len left change (subst (AllByRecursion (ChangeHasKey key_len)) is keys)

-- the next change has its key and room
pub next_room : (all : List RowChange) (before : TableView) (old left : List RowChange) (change : RowChange) (now : TableView) → IsUnderWay all before old now
    → old ≡ left ++ change ∷ [] → room_for before.key_len all before.rows ≤ before.spare → room_of now.key_len change now.rows ≤ now.spare
next_room all before old left change now way is enough =
    let last : room_for before.key_len old now.rows ≡ room_of before.key_len change now.rows + room_for before.key_len left (row_changed before.key_len change now.rows) =
    ap (λ (changes : List RowChange). room_for before.key_len changes now.rows) is ∙ room_last before.key_len left change now.rows in
    let same : room_of now.key_len change now.rows ≡ room_of before.key_len change now.rows =
    ap (λ (n : ℕ). room_of n change now.rows) way.key_len in
    omega (arith, last, same, way.room, enough)

-- one change more is done
pub next_way : (all : List RowChange) (before : TableView) (old left : List RowChange) (change : RowChange) (now next : TableView) → IsUnderWay all before old now
    → old ≡ left ++ change ∷ [] → next.rows ≡ row_changed now.key_len change now.rows → next.key_len ≡ now.key_len
    → now.spare ≤ next.spare + room_of now.key_len change now.rows
    → IsUnderWay all before left next
next_way all before old left change now next way is rows key_len spare =
    let changed : row_changed before.key_len change now.rows ≡ next.rows =
    ap (λ (n : ℕ). row_changed n change now.rows) (sym way.key_len) ∙ sym rows in
    let last : room_for before.key_len old now.rows ≡ room_of before.key_len change now.rows + room_for before.key_len left (row_changed before.key_len change now.rows) =
    ap (λ (changes : List RowChange). room_for before.key_len changes now.rows) is ∙ room_last before.key_len left change now.rows in
    let same : room_of now.key_len change now.rows ≡ room_of before.key_len change now.rows =
    ap (λ (n : ℕ). room_of n change now.rows) way.key_len in
    let left_is : room_for before.key_len left (row_changed before.key_len change now.rows) ≡ room_for before.key_len left next.rows =
    ap (room_for before.key_len left) changed in
    record {
      keys = (next_keys before.key_len old left change is way.keys).0;
      rows =
          ap (done before.key_len left) (sym changed)
          ∙ sym (done_last before.key_len left change now.rows)
          ∙ sym (ap (λ (changes : List RowChange). done before.key_len changes now.rows) is)
          ∙ way.rows;
      key_len = key_len ∙ way.key_len;
      room = omega (arith, last, same, left_is, spare, way.room);
    }

-- none is left
pub last_way : (all : List RowChange) (before : TableView) (old : List RowChange) (now : TableView) → IsUnderWay all before old now → old ≡ []
    → now.rows ≡ done before.key_len all before.rows
last_way all before old now way is =
    sym (ap (λ (changes : List RowChange). done before.key_len changes now.rows) is) ∙ way.rows
