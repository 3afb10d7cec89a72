-- Putting back all that is noted leads from the live rows to the committed ones.
use Rattle.std.proofs.Common.{◌≡◌, ◌≢◌, ◌⊎◌, inl, inr, ◌∙◌, ℕ, zero, suc, ◌+◌, ◌==◌, ◌&&◌, Bool, true, false, cond, List, [], ◌∷◌, ◌++◌, Option, None, Some, take, refl, ap, sym, subst, arith}
use Rattle.std.specs.Prelude.{IfSome, option_and_then}
use Rattle.std.specs.List.{slice_get, AllByRecursion}
use Rattle.row_types.specs.declared.values.Value.{Value}
use Rattle.row_types.specs.declared.lock_modes.LockMode.TheVariants.{Exclusive}
use Rattle.row_types.specs.declared.table_schema.Schema.{Schema}
use Rattle.row_types.specs.Fit.{RowFits, AreTables, key_of}
use Rattle.row_types.specs.KeyRows.{HasKey, AreOrdered, row_at}
use Rattle.row_types.proofs.SameRowLemmas.{same_rows}
use Rattle.row_types.proofs.SchemaRowLemmas.{fitting_key, table_ordered}
use Rattle.ordered_table.specs.TableView.{TableView}
use Rattle.history.specs.Replay.{table_rows, fold}
use Rattle.history.proofs.ReplayLemmas.{take_one_more}
use Rattle.lock_table.specs.declared.wants.Want.TheVariants.{OnKey}
use Rattle.lock_table.specs.declared.wants.Holding.{Holding}
use Rattle.lock_table.specs.Locks.{is_same_key, exclusive_owner, Holds}
use Rattle.lock_table.proofs.GapLemmas.{both_true}
use Rattle.lock_table.proofs.HoldLemmas.{same_or_apart, is_number, number_is, same_key_is, exclusive_found, exclusive_none}
use Rattle.node_model.specs.Node.{NodeView, live_row, live_from, committed_row, committed_rows}
use Rattle.node_model.specs.Kept.{FactsOf}
use Rattle.node_model.specs.PutBack.{Noted, put_back, AreOwn}
use Rattle.node_model.proofs.CommitLemmas.{table_at}
use Rattle.node_model.proofs.PutBackLemmas.{put_back_last}
use Rattle.node_parts.specs.declared.notes.Note.{Note}
use Rattle.node_parts.specs.declared.parts.Parts.{Parts}
use Rattle.node_parts.specs.Kept.{node_view, noted_as, notes_of, NoteFits, PartsKept}
use Rattle.node_parts.specs.Written.{written}
use Rattle.node_parts.specs.PutAll.{noted_all, IsKeyed, NoteIsKeyed, IsPuttingBack, ArePutBack}
use Rattle.node_parts.proofs.RemoveLemmas.{each_at}
use Rattle.node_parts.proofs.RollbackLemmas.{written_at}

-- each note's owner has its key exclusively

abbrev AllOwn : List Holding → List Note → Type 0
AllOwn held notes = (a : ℕ) → AreOwn a held (notes_of a notes)

first_own : (held : List Holding) (note : Note) (notes : List Note) → AllOwn held (note ∷ notes) → Holds note.owner.0 note.table (OnKey note.key Exclusive) held
first_own held note notes own =
    (subst (AreOwn note.owner.0 held) (ap (λ (b : Bool). cond b (noted_as note ∷ notes_of note.owner.0 notes) (notes_of note.owner.0 notes)) (is_number note.owner.0 note.owner.0 refl)) (own note.owner.0)).0

rest_own : (held : List Holding) (note : Note) (notes : List Note) → AllOwn held (note ∷ notes) → AllOwn held notes
rest_own held note notes own a = at (note.owner.0 == a) (own a)
  where
    at : (b : Bool) → AreOwn a held (cond b (noted_as note ∷ notes_of a notes) (notes_of a notes)) → AreOwn a held (notes_of a notes)
    at true o = o.1
    at false o = o

-- a note of a key is of the owner that has it
noted_here : (held : List Holding) (note : Note) (table : ℕ) (key : List Value) → Holds note.owner.0 note.table (OnKey note.key Exclusive) held → (note.table == table) && is_same_key key note.key ≡ true
    → Holds note.owner.0 table (OnKey key Exclusive) held
noted_here held note table key on is =
    let both = both_true (note.table == table) (is_same_key key note.key) is in
    subst (λ (t : ℕ). Holds note.owner.0 t (OnKey key Exclusive) held) (number_is note.table table both.0)
    (subst (λ (k : List Value). Holds note.owner.0 note.table (OnKey k Exclusive) held) (sym (same_key_is key note.key both.1)) on)

all_as_own : (node : NodeView) (owner table : ℕ) (key : List Value) (now : Option (List Value)) (notes : List Note) → FactsOf node → AllOwn node.held notes → Holds owner table (OnKey key Exclusive) node.held
    → put_back (noted_all notes) table key now ≡ put_back (notes_of owner notes) table key now
all_as_own node owner table key now [] facts own on = refl
all_as_own node owner table key now (note ∷ notes) facts own on =
    at ((note.table == table) && is_same_key key note.key) refl (all_as_own node owner table key now notes facts (rest_own node.held note notes own) on)
  where
    whose : (note.table == table) && is_same_key key note.key ≡ true → (note.owner.0 ≡ owner) ⊎ (note.owner.0 ≢ owner) → note.owner.0 ≡ owner
    whose is (inl same) = same
    whose is (inr apart) = absurd (facts.alone_on_key note.owner.0 owner table key Exclusive apart (noted_here node.held note table key (first_own node.held note notes own) is) on)

    at : (b : Bool) → (note.table == table) && is_same_key key note.key ≡ b → put_back (noted_all notes) table key now ≡ put_back (notes_of owner notes) table key now
        → cond b note.was (put_back (noted_all notes) table key now) ≡ put_back (cond (note.owner.0 == owner) (noted_as note ∷ notes_of owner notes) (notes_of owner notes)) table key now
    at true e more =
        sym (ap (λ (c : Bool). put_back (cond c (noted_as note ∷ notes_of owner notes) (notes_of owner notes)) table key now) (is_number note.owner.0 owner (whose e (same_or_apart note.owner.0 owner)))
        ∙ ap (λ (c : Bool). cond c note.was (put_back (notes_of owner notes) table key now)) e)
    at false e more = more ∙ sym (skip (note.owner.0 == owner))
      where
        skip : (c : Bool) → put_back (cond c (noted_as note ∷ notes_of owner notes) (notes_of owner notes)) table key now ≡ put_back (notes_of owner notes) table key now
        skip true = ap (λ (d : Bool). cond d note.was (put_back (notes_of owner notes) table key now)) e
        skip false = refl

all_as_none : (node : NodeView) (table : ℕ) (key : List Value) (now : Option (List Value)) (notes : List Note) → AllOwn node.held notes → exclusive_owner table key node.held ≡ None
    → put_back (noted_all notes) table key now ≡ now
all_as_none node table key now [] own none = refl
all_as_none node table key now (note ∷ notes) own none = at ((note.table == table) && is_same_key key note.key) refl (all_as_none node table key now notes (rest_own node.held note notes own) none)
  where
    at : (b : Bool) → (note.table == table) && is_same_key key note.key ≡ b → put_back (noted_all notes) table key now ≡ now → cond b note.was (put_back (noted_all notes) table key now) ≡ now
    at true e more = absurd (exclusive_none note.owner.0 table key node.held none (noted_here node.held note table key (first_own node.held note notes own) e))
    at false e more = more

all_back : (parts : Parts) (table : ℕ) (key : List Value) → PartsKept parts → put_back (noted_all parts.notes.notes) table key (live_row (node_view parts) table key) ≡ committed_row (node_view parts) table key
all_back parts table key kept = at (exclusive_owner table key parts.locks.held) refl
  where
    own : AllOwn parts.locks.held parts.notes.notes
    own a = (kept.back a).own

    at : (o : Option ℕ) → exclusive_owner table key parts.locks.held ≡ o → put_back (noted_all parts.notes.notes) table key (live_row (node_view parts) table key) ≡ committed_row (node_view parts) table key
    at None e =
        all_as_none (node_view parts) table key (live_row (node_view parts) table key) parts.notes.notes (λ a. (kept.back a).own) e
        ∙ ap (λ (o : Option ℕ). live_from parts.schemas.tables parts.txns o table key (committed_row (node_view parts) table key)) e
    at (Some owner) e =
        let on = exclusive_found owner table key parts.locks.held e in
        all_as_own (node_view parts) owner table key (live_row (node_view parts) table key) parts.notes.notes kept.laws.facts (λ a. (kept.back a).own) on ∙ (kept.back owner).back table key on

-- for the code

pub notes_keyed : (parts : Parts) (number : ℕ) (schema : Schema) (live : TableView) → PartsKept parts → slice_get parts.schemas.tables number ≡ Some schema → slice_get parts.tables.items number ≡ Some live
    → AllByRecursion (NoteIsKeyed number live.key_len) parts.notes.notes
notes_keyed parts number schema live kept found there = each parts.notes.notes kept.notes
  where
    one : (kept.live number schema found).live ≡ live
    one = let q : Some (kept.live number schema found).live ≡ Some live = sym (kept.live number schema found).there ∙ there in cc

    length_is : live.key_len ≡ schema.key_len
    length_is = ap (λ (t : TableView). t.key_len) (sym one) ∙ (kept.live number schema found).sound.same_key

    keyed : (note : Note) → NoteFits parts.schemas.tables note → NoteIsKeyed number live.key_len note
    keyed note fits same = by note.was fits.row
      where
        one_schema : fits.schema ≡ schema
        one_schema = let q : Some fits.schema ≡ Some schema = sym fits.found ∙ ap (slice_get parts.schemas.tables) same ∙ found in cc

        by : (was : Option (List Value)) → IfSome was (λ row. RowFits fits.schema row × (note.key ≡ key_of fits.schema row)) → IfSome was (λ row. HasKey live.key_len row × (note.key ≡ take live.key_len row))
        by None f = tt
        by (Some row) f =
            let f' = subst (λ (s : Schema). RowFits s row × (note.key ≡ key_of s row)) one_schema f in
            (subst (λ (n : ℕ). HasKey n row) (sym length_is) (fitting_key schema row (kept.live number schema found).sound.is_schema f'.0), f'.1 ∙ ap (λ (n : ℕ). take n row) (sym length_is))

    each : (notes : List Note) → AllByRecursion (NoteFits parts.schemas.tables) notes → AllByRecursion (NoteIsKeyed number live.key_len) notes
    each [] fit = tt
    each (note ∷ notes) fit = (keyed note fit.0, each notes fit.1)

all_more : (notes : List Note) (last : Note) → noted_all (notes ++ last ∷ []) ≡ noted_all notes ++ noted_as last ∷ []
all_more [] last = refl
all_more (note ∷ notes) last = ap (λ (ns : List Noted). noted_as note ∷ ns) (all_more notes last)

split_last : (number : ℕ) (key : List Value) (now : Option (List Value)) (notes : List Note) (index place : ℕ) (note : Note) → index ≡ suc place → slice_get notes place ≡ Some note
    → put_back (noted_all (take index notes)) number key now ≡ put_back (noted_all (take place notes)) number key (cond ((note.table == number) && is_same_key key note.key) note.was now)
split_last number key now notes index place note one is =
    let e : index ≡ place + 1 = omega (arith, one) in
    ap (λ (ns : List Note). put_back (noted_all ns) number key now) (ap (λ (n : ℕ). take n notes) e ∙ take_one_more notes place note is)
    ∙ ap (λ (ns : List Noted). put_back ns number key now) (all_more (take place notes) note)
    ∙ put_back_last (noted_all (take place notes)) (noted_as note) number key now

pub back_passed : (number : ℕ) (live : TableView) (notes : List Note) (table : TableView) (index place : ℕ) (note : Note) → IsPuttingBack number live notes table index → index ≡ suc place → slice_get notes place ≡ Some note
    → (note.table == number) ≡ false → IsPuttingBack number live notes table place
back_passed number live notes table index place note way one is apart =
    let w = way.within in
    record {
      within = omega (arith, w, one);
      key_len = way.key_len;
      rows = λ key.
          sym (split_last number key (row_at table.key_len key table.rows) notes index place note one is
          ∙ ap (λ (b : Bool). put_back (noted_all (take place notes)) number key (cond (b && is_same_key key note.key) note.was (row_at table.key_len key table.rows))) apart)
          ∙ way.rows key;
    }

pub back_put : (number : ℕ) (live : TableView) (notes : List Note) (table after : TableView) (index place : ℕ) (note : Note) → IsPuttingBack number live notes table index → index ≡ suc place → slice_get notes place ≡ Some note
    → (note.table == number) ≡ true → IsKeyed table.key_len note → after.rows ≡ written table.key_len note.key note.was table.rows → after.key_len ≡ table.key_len → IsPuttingBack number live notes after place
back_put number live notes table after index place note way one is same keyed rows key_len =
    let w = way.within in
    record {
      within = omega (arith, w, one);
      key_len = key_len ∙ way.key_len;
      rows = λ key.
          ap (put_back (noted_all (take place notes)) number key)
          ((λ i. row_at (key_len i) key (rows i)) ∙ written_at table.key_len note.key key note.was table.rows (λ row e. (subst (λ (o : Option (List Value)). IfSome o (λ r. HasKey table.key_len r × (note.key ≡ take table.key_len r))) e keyed).1)
          ∙ ap (λ (b : Bool). cond (b && is_same_key key note.key) note.was (row_at table.key_len key table.rows)) (sym same))
          ∙ sym (split_last number key (row_at table.key_len key table.rows) notes index place note one is)
          ∙ way.rows key;
    }

pub committed_is : (parts : Parts) (number : ℕ) (schema : Schema) (live : TableView) (rows : List (List Value)) → PartsKept parts → slice_get parts.schemas.tables number ≡ Some schema
    → slice_get parts.tables.items number ≡ Some live → ArePutBack number live parts.notes.notes rows → rows ≡ committed_rows (node_view parts) number
committed_is parts number schema live rows kept found there back =
    same_rows schema.key_len rows (committed_rows (node_view parts) number) (subst (λ (n : ℕ). AreOrdered n rows) length_is back.ordered)
    (table_ordered schema (committed_rows (node_view parts) number) (kept.live number schema found).sound.is_schema
    (table_at parts.schemas.tables (fold parts.schemas.tables parts.start parts.history.entries).tables number schema kept.laws.tables found).is_table)
    (λ key.
    ap (λ (n : ℕ). row_at n key rows) (sym length_is)
    ∙ back.at key
    ∙ ap (put_back (noted_all parts.notes.notes) number key) (ap (λ (t : TableView). row_at t.key_len key t.rows) (sym one) ∙ (kept.live number schema found).rows key)
    ∙ all_back parts number key kept
    ∙ here key)
  where
    one : (kept.live number schema found).live ≡ live
    one = let q : Some (kept.live number schema found).live ≡ Some live = sym (kept.live number schema found).there ∙ there in cc

    length_is : live.key_len ≡ schema.key_len
    length_is = ap (λ (t : TableView). t.key_len) (sym one) ∙ (kept.live number schema found).sound.same_key

    here : (key : List Value) → committed_row (node_view parts) number key ≡ row_at schema.key_len key (committed_rows (node_view parts) number)
    here key = ap (λ (o : Option Schema). option_and_then (λ (s : Schema). row_at s.key_len key (committed_rows (node_view parts) number)) o) found

none_there : (schemas : List Schema) (tables : List (List (List Value))) (number : ℕ) → AreTables schemas tables → slice_get schemas number ≡ None → table_rows tables number ≡ []
none_there [] [] number are none = refl
none_there [] (rows ∷ tables) number are none = absurd are
none_there (schema ∷ schemas) [] number are none = absurd are
none_there (schema ∷ schemas) (rows ∷ tables) zero are none = absurd (let q : Some schema ≡ None = none in cc)
none_there (schema ∷ schemas) (rows ∷ tables) (suc number) are none = none_there schemas tables number are.1 none

pub no_table : (parts : Parts) (number : ℕ) → PartsKept parts → slice_get parts.schemas.tables number ≡ None → [] ≡ committed_rows (node_view parts) number
no_table parts number kept none = sym (none_there parts.schemas.tables (fold parts.schemas.tables parts.start parts.history.entries).tables number kept.laws.tables none)

pub note_keyed : (number : ℕ) (live table : TableView) (notes : List Note) (index place : ℕ) (note : Note) → IsPuttingBack number live notes table index → AllByRecursion (NoteIsKeyed number live.key_len) notes
    → slice_get notes place ≡ Some note → note.table ≡ number → IsKeyed table.key_len note
note_keyed number live table notes index place note way each is same =
    subst (λ (n : ℕ). IsKeyed n note) (sym way.key_len) (each_at (NoteIsKeyed number live.key_len) notes place note each is same)

pub table_missing : (parts : Parts) (number : ℕ) (schema : Schema) (found : Option TableView) → PartsKept parts → slice_get parts.schemas.tables number ≡ Some schema → found ≡ slice_get parts.tables.items number → found ≡ None → ⊥
table_missing parts number schema found kept is at none = let q : None ≡ Some (kept.live number schema is).live = sym none ∙ at ∙ (kept.live number schema is).there in cc
