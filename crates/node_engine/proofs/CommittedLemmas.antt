-- A node after a commit: its history has the entry, and the owner is gone.
use Rattle.std.proofs.Common.{◌≡◌, ◌≢◌, ◌⊎◌, inl, inr, ◌∙◌, ℕ, ◌≤◌, ◌+◌, ◌==◌, Bool, true, false, not, cond, List, [], ◌∷◌, ◌++◌, Option, Some, length, filter, refl, ap, sym, subst, arith}
use Rattle.std.specs.List.{slice_get, AllByRecursion}
use Rattle.std.proofs.lemmas.List.{append-nil}
use Rattle.row_types.specs.declared.lock_modes.LockMode.TheVariants.{Exclusive}
use Rattle.row_types.specs.declared.digests.Digest.{Digest}
use Rattle.row_types.specs.declared.table_schema.Schema.{Schema}
use Rattle.row_types.specs.KeyRows.{TableRows}
use Rattle.ptc_statement.specs.declared.statements.Statement.{Statement}
use Rattle.ordered_table.specs.TableView.{TableView}
use Rattle.statement_log.specs.declared.entries.Entry.{Entry}
use Rattle.statement_log.specs.declared.origins.Origin.{Origin}
use Rattle.statement_log.specs.declared.origins.Origin.TheVariants.{Session, Checksum, Sync, Local, Applied}
use Rattle.history.specs.Replay.{Replayed, fold, position_of, applied_of, after_statements}
use Rattle.history.proofs.ReplayLemmas.{fold_more, applied_of-more}
use Rattle.lock_table.specs.declared.wants.Owner.{Owner}
use Rattle.lock_table.specs.declared.wants.Want.TheVariants.{OnKey}
use Rattle.lock_table.specs.Locks.{released}
use Rattle.lock_table.proofs.HoldLemmas.{same_or_apart, number_is, other_number, released_holds}
use Rattle.node_model.specs.declared.txns.Walk.{Walk}
use Rattle.node_model.specs.declared.txns.Txn.{Txn}
use Rattle.node_model.specs.Txns.{txn_of, without_txn, done_of}
use Rattle.node_model.specs.Kept.{IsKept}
use Rattle.node_model.specs.Calls.{Commit, after_call, committed_if, committed_idle}
use Rattle.node_model.specs.Node.{NodeView, is_written, logged, written, committed}
use Rattle.node_model.specs.PutBack.{LeadsBack}
use Rattle.node_model.proofs.LiveLemmas.{committed_live}
use Rattle.node_model.proofs.CallLemmas.{call_kept, own_txn}
use Rattle.node_model.proofs.PutBackLemmas.{commit_others}
use Rattle.node_reads.specs.Reads.{sums_of}
use Rattle.node_reads.specs.CheckChanges.{checks_with}
use Rattle.node_reads.specs.Readings.{reading_of, without_reading}
use Rattle.node_reads.specs.ReadBy.{AllRead}
use Rattle.node_reads.proofs.ChangeLemmas.{replayed}
use Rattle.node_reads.proofs.KeptReads.{own_at, committed_reads}
use Rattle.node_parts.specs.declared.notes.Note.{Note}
use Rattle.node_parts.specs.declared.parts.Parts.{Parts}
use Rattle.node_parts.specs.NotesView.{forgotten}
use Rattle.node_parts.specs.Kept.{node_view, noted_as, notes_of, notes_on, IsLive, NoteFits, PartsKept}
use Rattle.node_parts.specs.KeptReads.{ReadsKept}
use Rattle.node_engine.specs.Commits.{sums_in}
use Rattle.node_parts.specs.Views.{IsIdle}
use Rattle.node_visits.proofs.PlanIsLemmas.{owner_is}

-- notes without those of an owner

forgotten_own : (owner : ℕ) (notes : List Note) → notes_of owner (forgotten owner notes) ≡ []
forgotten_own owner [] = refl
forgotten_own owner (note ∷ notes) = at (note.owner.0 == owner) refl (forgotten_own owner notes)
  where
    at : (b : Bool) → (note.owner.0 == owner) ≡ b → notes_of owner (forgotten owner notes) ≡ [] → notes_of owner (cond (not b) (note ∷ forgotten owner notes) (forgotten owner notes)) ≡ []
    at true e more = more
    at false e more = ap (λ (b : Bool). cond b (noted_as note ∷ notes_of owner (forgotten owner notes)) (notes_of owner (forgotten owner notes))) e ∙ more

forgotten_other : (owner b : ℕ) (notes : List Note) → b ≢ owner → notes_of b (forgotten owner notes) ≡ notes_of b notes
forgotten_other owner b [] apart = refl
forgotten_other owner b (note ∷ notes) apart = at (note.owner.0 == owner) refl (forgotten_other owner b notes apart)
  where
    at : (x : Bool) → (note.owner.0 == owner) ≡ x → notes_of b (forgotten owner notes) ≡ notes_of b notes
        → notes_of b (cond (not x) (note ∷ forgotten owner notes) (forgotten owner notes)) ≡ cond (note.owner.0 == b) (noted_as note ∷ notes_of b notes) (notes_of b notes)
    at true e more =
        more
        ∙ sym (ap (λ (y : Bool). cond y (noted_as note ∷ notes_of b notes) (notes_of b notes))
        (other_number note.owner.0 b (λ same. apart (sym same ∙ number_is note.owner.0 owner e))))
    at false e more = ap (λ ns. cond (note.owner.0 == b) (noted_as note ∷ ns) ns) more

forgotten_on : (owner table : ℕ) (notes : List Note) → notes_on table (forgotten owner notes) ≤ notes_on table notes
forgotten_on owner table [] = omega arith
forgotten_on owner table (note ∷ notes) = at (note.owner.0 == owner) (forgotten_on owner table notes)
  where
    gone : (y : Bool) → notes_on table (forgotten owner notes) ≤ notes_on table notes → notes_on table (forgotten owner notes) ≤ cond y (notes_on table notes + 1) (notes_on table notes)
    gone true more = omega (arith, more)
    gone false more = more

    kept : (y : Bool) → notes_on table (forgotten owner notes) ≤ notes_on table notes
        → cond y (notes_on table (forgotten owner notes) + 1) (notes_on table (forgotten owner notes)) ≤ cond y (notes_on table notes + 1) (notes_on table notes)
    kept true more = omega (arith, more)
    kept false more = more

    at : (x : Bool) → notes_on table (forgotten owner notes) ≤ notes_on table notes
        → notes_on table (cond (not x) (note ∷ forgotten owner notes) (forgotten owner notes)) ≤ cond (note.table == table) (notes_on table notes + 1) (notes_on table notes)
    at true more = gone (note.table == table) more
    at false more = kept (note.table == table) more

each_filtered : {A : Type 0} (P : A → Type 0) (test : A → Bool) (xs : List A) → AllByRecursion P xs → AllByRecursion P (filter test xs)
each_filtered P test [] each = tt
each_filtered P test (x ∷ xs) each = at (test x) (each_filtered P test xs each.1)
  where
    at : (b : Bool) → AllByRecursion P (filter test xs) → AllByRecursion P (cond b (x ∷ filter test xs) (filter test xs))
    at true more = (each.0, more)
    at false more = more

-- what the entry changes of the check rows, and of the last entry applied

unwritten : (origin : Origin) (statements : List Statement) → is_written origin statements ≡ false → statements ≡ []
unwritten (Session session) [] e = refl
unwritten (Session session) (statement ∷ statements) e = absurd (let q : true ≡ false = e in cc)
unwritten Checksum statements e = absurd (let q : true ≡ false = e in cc)
unwritten (Sync replica table span) statements e = absurd (let q : true ≡ false = e in cc)
unwritten (Local session) [] e = refl
unwritten (Local session) (statement ∷ statements) e = absurd (let q : true ≡ false = e in cc)
unwritten (Applied entry) statements e = absurd (let q : true ≡ false = e in cc)

-- the check rows after a commit are those of the replay with its entry
written_checks : (schemas : List Schema) (start : TableRows) (history : List Entry) (origin : Origin) (done : List Statement)
    → (fold schemas start (history ++ written origin (logged done))).checks
    ≡ checks_with (position_of (length history + 1) origin) done (sums_of schemas done (fold schemas start history).tables) (fold schemas start history).checks
written_checks schemas start history origin done = at (is_written origin (logged done)) refl
  where
    here : Replayed
    here = fold schemas start history

    position : ℕ
    position = position_of (length history + 1) origin

    made : checks_with (position_of (length history + 1) origin) done (sums_of schemas done (fold schemas start history).tables) (fold schemas start history).checks
        ≡ (after_statements schemas (position_of (length history + 1) origin) (logged done) (fold schemas start history)).checks
    made = replayed schemas (position_of (length history + 1) origin) done (fold schemas start history).tables (fold schemas start history).checks

    at : (b : Bool) → is_written origin (logged done) ≡ b → (fold schemas start (history ++ cond b (record { origin = origin; statements = logged done } ∷ []) [])).checks
        ≡ checks_with (position_of (length history + 1) origin) done (sums_of schemas done (fold schemas start history).tables) (fold schemas start history).checks
    at true e = ap (λ (r : Replayed). r.checks) (fold_more schemas start history (record { origin = origin; statements = logged done })) ∙ sym made
    at false e =
        ap (λ (entries : List Entry). (fold schemas start entries).checks) (append-nil history)
        ∙ sym (made ∙ ap (λ (ss : List Statement). (after_statements schemas (position_of (length history + 1) origin) ss (fold schemas start history)).checks) (unwritten origin (logged done) e))

applied_written : (history : List Entry) (origin : Origin) (statements : List Statement) → applied_of (history ++ written origin statements) ≡ position_of (applied_of history) origin
applied_written history origin statements = at (is_written origin statements) refl
  where
    stays : (n : ℕ) (by : Origin) (ss : List Statement) → is_written by ss ≡ false → n ≡ position_of n by
    stays n (Session session) ss e = refl
    stays n Checksum ss e = refl
    stays n (Sync replica table span) ss e = refl
    stays n (Local session) ss e = refl
    stays n (Applied entry) ss e = absurd (let q : true ≡ false = e in cc)

    at : (b : Bool) → is_written origin statements ≡ b → applied_of (history ++ cond b (record { origin = origin; statements = statements } ∷ []) []) ≡ position_of (applied_of history) origin
    at true e = applied_of-more history (record { origin = origin; statements = statements })
    at false e = ap applied_of (append-nil history) ∙ stays (applied_of history) origin statements e

-- what a commit does
pub record IsCommitted (owner : Owner) (origin : Origin) (txn : Txn) (old new : Parts) : Type 0 where
  pub schemas : new.schemas.tables ≡ old.schemas.tables
  pub start : new.start ≡ old.start
  pub tables : new.tables.items ≡ old.tables.items
  pub history : new.history.entries ≡ old.history.entries ++ written origin (logged txn.done)
  pub txns : new.txns ≡ without_txn owner.0 old.txns
  pub held : new.locks.held ≡ released owner.0 old.locks.held
  pub notes : new.notes.notes ≡ forgotten owner.0 old.notes.notes
  pub checks : (fold old.schemas.tables old.start (old.history.entries ++ written origin (logged txn.done))).checks ≡ new.checks
  pub applied : new.applied ≡ position_of old.applied origin

committed_call : (node : NodeView) (owner : Owner) (origin : Origin) (idle : IsIdle owner.0 node) → after_call (Commit owner origin) node ≡ committed idle.txn origin node
committed_call node owner origin idle =
    ap (λ (o : Option Txn). committed_if o origin node) idle.found ∙ ap (λ (o : Option Walk). committed_idle o idle.txn origin node) idle.idle

committed_is : (old new : Parts) (owner : Owner) (origin : Origin) (idle : IsIdle owner.0 (node_view old)) → IsCommitted owner origin idle.txn old new → node_view new ≡ committed idle.txn origin (node_view old)
committed_is old new owner origin idle is =
    let own = owner_is owner idle.txn old.txns idle.found in
    let txns : new.txns ≡ without_txn idle.txn.owner.0 old.txns = is.txns ∙ (λ i. without_txn (own i).0 old.txns) in
    let held : new.locks.held ≡ released idle.txn.owner.0 old.locks.held = is.held ∙ (λ i. released (own i).0 old.locks.held) in
    λ i. record { schemas = is.schemas i; start = is.start i; history = is.history i; txns = txns i; held = held i }

pub committed_view : (old new : Parts) (owner : Owner) (origin : Origin) (idle : IsIdle owner.0 (node_view old)) → IsCommitted owner origin idle.txn old new
    → node_view new ≡ after_call (Commit owner origin) (node_view old)
committed_view old new owner origin idle is = committed_is old new owner origin idle is ∙ sym (committed_call (node_view old) owner origin idle)

pub committed_parts : (old new : Parts) (owner : Owner) (origin : Origin) → PartsKept old → (idle : IsIdle owner.0 (node_view old)) → IsCommitted owner origin idle.txn old new → PartsKept new
committed_parts old new owner origin kept idle is = record {
  laws = subst IsKept (sym (committed_view old new owner origin idle is)) (call_kept (Commit owner origin) node tt kept.laws);
  live = λ number schema found.
      let l = kept.live number schema (ap (λ (ss : List Schema). slice_get ss number) (sym is.schemas) ∙ found) in
      let less = forgotten_on owner.0 number old.notes.notes in
      let room = l.room in
      subst (λ (n : NodeView). IsLive n number schema new.tables.items new.notes.notes) (sym view)
      (subst (λ (ts : List TableView). IsLive after number schema ts new.notes.notes) (sym is.tables)
      (subst (IsLive after number schema old.tables.items) (sym is.notes)
      (record {
        live = l.live;
        there = l.there;
        sound = l.sound;
        rows = λ key. l.rows key ∙ sym (committed_live node txn origin kept.laws.facts kept.laws.tables (kept.laws.fits owner.0 idle.txn idle.found).done found_own idle.idle number key);
        room = omega (arith, less, room);
      })));
  back = λ b.
      subst (λ (n : NodeView). LeadsBack n b (notes_of b new.notes.notes)) (sym view)
      (subst (λ (ns : List Note). LeadsBack after b (notes_of b ns)) (sym is.notes) (back b (same_or_apart b owner.0)));
  notes = subst (λ (ss : List Schema). AllByRecursion (NoteFits ss) new.notes.notes) (sym is.schemas)
      (subst (AllByRecursion (NoteFits old.schemas.tables)) (sym is.notes)
      (each_filtered (NoteFits old.schemas.tables) (λ (note : Note). not (note.owner.0 == owner.0)) old.notes.notes kept.notes));
  checks = (λ i. (fold (is.schemas i) (is.start i) (is.history i)).checks) ∙ is.checks;
  applied = ap applied_of is.history ∙ applied_written old.history.entries origin (logged txn.done) ∙ ap (λ (n : ℕ). position_of n origin) kept.applied ∙ sym is.applied;
}
  where
    node : NodeView
    node = node_view old

    txn : Txn
    txn = idle.txn

    after : NodeView
    after = committed idle.txn origin (node_view old)

    view : node_view new ≡ committed idle.txn origin (node_view old)
    view = committed_is old new owner origin idle is

    own : owner.0 ≡ idle.txn.owner.0
    own = ap (λ (o : Owner). o.0) (owner_is owner idle.txn old.txns idle.found)

    found_own : txn_of idle.txn.owner.0 old.txns ≡ Some idle.txn
    found_own = own_txn (node_view old) owner.0 idle.txn idle.found

    back : (b : ℕ) → (b ≡ owner.0) ⊎ (b ≢ owner.0) → LeadsBack (committed idle.txn origin (node_view old)) b (notes_of b (forgotten owner.0 old.notes.notes))
    back b (inr apart) =
        subst (LeadsBack (committed idle.txn origin (node_view old)) b) (sym (forgotten_other owner.0 b old.notes.notes apart))
        (commit_others (node_view old) idle.txn origin b (notes_of b old.notes.notes) kept.laws.facts kept.laws.tables (kept.laws.fits owner.0 idle.txn idle.found).done
        (own_txn (node_view old) owner.0 idle.txn idle.found) idle.idle (λ same. apart (same ∙ sym own)) (kept.back b))
    back b (inl same) =
        subst (λ (a : ℕ). LeadsBack (committed idle.txn origin (node_view old)) a (notes_of a (forgotten owner.0 old.notes.notes))) (sym same)
        (subst (LeadsBack (committed idle.txn origin (node_view old)) owner.0) (sym (forgotten_own owner.0 old.notes.notes))
        (record {
          own = tt;
          back = λ table key on. absurd ((released_holds idle.txn.owner.0 owner.0 table (OnKey key Exclusive) old.locks.held on).1 own);
        }))

-- for the code

pub record Commits (owner : Owner) (origin : Origin) (old new : Parts) (room : List Entry) (number : ℕ) (sums : List Digest) (done statements : List Statement) : Type 0 where
  pub same_entries : room ≡ old.history.entries
  pub numbered : number ≡ position_of (length room + 1) origin
  pub summed : sums ≡ sums_in (reading_of owner.0 old.reads.items)
  pub taken : done ≡ done_of (txn_of owner.0 old.txns)
  pub those : statements ≡ logged done
  pub schemas : new.schemas.tables ≡ old.schemas.tables
  pub start : new.start ≡ old.start
  pub tables : new.tables.items ≡ old.tables.items
  pub history : new.history.entries ≡ room ++ written origin statements
  pub txns : new.txns ≡ without_txn owner.0 old.txns
  pub held : new.locks.held ≡ released owner.0 old.locks.held
  pub notes : new.notes.notes ≡ forgotten owner.0 old.notes.notes
  pub checks : new.checks ≡ checks_with number (done_of (txn_of owner.0 old.txns)) sums old.checks
  pub applied : new.applied ≡ position_of old.applied origin

done_is : (old : Parts) (owner : Owner) (idle : IsIdle owner.0 (node_view old)) → done_of (txn_of owner.0 old.txns) ≡ idle.txn.done
done_is old owner idle = ap done_of idle.found

statements_are : (old new : Parts) (owner : Owner) (origin : Origin) (room : List Entry) (number : ℕ) (sums : List Digest) (done statements : List Statement) (idle : IsIdle owner.0 (node_view old))
    → Commits owner origin old new room number sums done statements → statements ≡ logged idle.txn.done
statements_are old new owner origin room number sums done statements idle c = c.those ∙ ap logged (c.taken ∙ done_is old owner idle)

pub commits : (old new : Parts) (owner : Owner) (origin : Origin) (room : List Entry) (number : ℕ) (sums : List Digest) (done statements : List Statement) (idle : IsIdle owner.0 (node_view old)) → PartsKept old → ReadsKept old
    → Commits owner origin old new room number sums done statements → IsCommitted owner origin idle.txn old new
commits old new owner origin room number sums done statements idle kept reads c =
    let own = own_at old.schemas.tables (fold old.schemas.tables old.start old.history.entries).tables owner.0 idle.txn old.txns old.reads.items reads idle.found in
    let those : sums ≡ sums_of old.schemas.tables idle.txn.done (fold old.schemas.tables old.start old.history.entries).tables = c.summed ∙ ap sums_in own.is ∙ own.read.sums in
    let next : number ≡ position_of (length old.history.entries + 1) origin = c.numbered ∙ ap (λ (es : List Entry). position_of (length es + 1) origin) c.same_entries in
    record {
      schemas = c.schemas;
      start = c.start;
      tables = c.tables;
      history = c.history ∙ (λ i. c.same_entries i ++ written origin (statements_are old new owner origin room number sums done statements idle c i));
      txns = c.txns;
      held = c.held;
      notes = c.notes;
      checks = written_checks old.schemas.tables old.start old.history.entries origin idle.txn.done
          ∙ (λ i. checks_with (sym next i) (sym (done_is old owner idle) i) (sym those i) (kept.checks i))
          ∙ sym c.checks;
      applied = c.applied;
    }

-- each open transaction has its reading after a commit
pub commits_reads : (old new : Parts) (owner : Owner) (origin : Origin) (idle : IsIdle owner.0 (node_view old)) → PartsKept old → ReadsKept old → IsCommitted owner origin idle.txn old new
    → new.reads.items ≡ without_reading owner.0 old.reads.items → ReadsKept new
commits_reads old new owner origin idle kept reads is left =
    subst (λ (n : NodeView). AllRead n.schemas (fold n.schemas n.start n.history).tables new.txns new.reads.items) (sym (committed_is old new owner origin idle is))
    (committed_reads (node_view old) owner origin idle.txn new.txns old.reads.items new.reads.items kept.laws (λ number schema found. (kept.live number schema found).sound.is_schema) idle.found idle.idle reads is.txns left)
