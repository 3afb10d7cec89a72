-- A node after a publication: its history has the entry, and its check row the checksum.
use Rattle.std.proofs.Common.{◌≡◌, ◌∙◌, ℕ, List, [], ◌∷◌, ◌++◌, Option, Some, ap, sym, subst}
use Rattle.std.specs.List.{slice_get, AllByRecursion}
use Rattle.row_types.specs.declared.values.Value.{Value}
use Rattle.row_types.specs.declared.digests.DigestKind.{DigestKind}
use Rattle.row_types.specs.declared.digests.Digest.{Digest}
use Rattle.row_types.specs.declared.table_schema.Schema.{Schema}
use Rattle.row_types.specs.KeyRows.{TableRows}
use Rattle.ptc_statement.specs.declared.statements.Statement.TheVariants.{SetMaster}
use Rattle.ordered_table.specs.TableView.{TableView}
use Rattle.statement_log.specs.declared.entries.Entry.{Entry}
use Rattle.statement_log.specs.declared.origins.Origin.TheVariants.{Checksum}
use Rattle.checksum_table.specs.declared.check_rows.CheckRow.{CheckRow}
use Rattle.checksum_table.specs.Checks.{check_at, with_master}
use Rattle.history.specs.Replay.{Replayed, fold, applied_of}
use Rattle.history.proofs.ReplayLemmas.{fold_more, applied_of-more}
use Rattle.lock_table.specs.Locks.{exclusive_owner}
use Rattle.node_model.specs.Kept.{IsKept}
use Rattle.node_model.specs.Calls.{Publish, after_call, published}
use Rattle.node_model.specs.Node.{NodeView, live_row, live_from}
use Rattle.node_model.specs.PutBack.{LeadsBack, put_back}
use Rattle.node_model.proofs.CallLemmas.{call_kept, published_row}
use Rattle.node_model.specs.Txns.{txn_of}
use Rattle.node_model.proofs.CommitLemmas.{tables_left}
use Rattle.node_reads.specs.Readings.{reading_of}
use Rattle.node_reads.specs.ReadBy.{AllRead}
use Rattle.node_reads.proofs.KeptReads.{stays}
use Rattle.node_parts.specs.declared.notes.Note.{Note}
use Rattle.node_parts.specs.declared.parts.Parts.{Parts}
use Rattle.node_parts.specs.Kept.{node_view, notes_of, IsLive, NoteFits, PartsKept}
use Rattle.node_parts.specs.KeptReads.{ReadsKept}

-- the entry of a publication
abbrev pub publication : ℕ → ℕ → DigestKind → Digest → Entry
publication table chunk kind this = record { origin = Checksum; statements = SetMaster table chunk kind this ∷ [] }

pub record IsPublished (table chunk : ℕ) (row : CheckRow) (old new : Parts) : Type 0 where
  pub found : check_at table chunk old.checks ≡ Some row
  pub schemas : new.schemas.tables ≡ old.schemas.tables
  pub start : new.start ≡ old.start
  pub tables : new.tables.items ≡ old.tables.items
  pub history : new.history.entries ≡ old.history.entries ++ publication table chunk row.kind row.this ∷ []
  pub txns : new.txns ≡ old.txns
  pub held : new.locks.held ≡ old.locks.held
  pub notes : new.notes.notes ≡ old.notes.notes
  pub checks : new.checks ≡ with_master table chunk row.this old.checks
  pub applied : new.applied ≡ old.applied

published_is : (old new : Parts) (table chunk : ℕ) (row : CheckRow) → IsPublished table chunk row old new → node_view new ≡ published table chunk (Some row) (node_view old)
published_is old new table chunk row is =
    λ i. record { schemas = is.schemas i; start = is.start i; history = is.history i; txns = is.txns i; held = is.held i }

pub published_view : (old new : Parts) (table chunk : ℕ) (row : CheckRow) → PartsKept old → IsPublished table chunk row old new → node_view new ≡ after_call (Publish table chunk) (node_view old)
published_view old new table chunk row kept is =
    published_is old new table chunk row is
    ∙ ap (λ (o : Option CheckRow). published table chunk o (node_view old)) (sym is.found)
    ∙ ap (λ cs. published table chunk (check_at table chunk cs) (node_view old)) (sym kept.checks)

published_live : (node : NodeView) (table chunk : ℕ) (row : CheckRow) (of : ℕ) (key : List Value) → live_row (published table chunk (Some row) node) of key ≡ live_row node of key
published_live node table chunk row of key =
    ap (live_from node.schemas node.txns (exclusive_owner of key node.held) of key) (published_row node table chunk row of key)

pub published_parts : (old new : Parts) (table chunk : ℕ) (row : CheckRow) → PartsKept old → IsPublished table chunk row old new → PartsKept new
published_parts old new table chunk row kept is = record {
  laws = subst IsKept (sym (published_view old new table chunk row kept is)) (call_kept (Publish table chunk) node tt kept.laws);
  live = λ number schema found.
      let l = kept.live number schema (ap (λ (ss : List Schema). slice_get ss number) (sym is.schemas) ∙ found) in
      subst (λ (n : NodeView). IsLive n number schema new.tables.items new.notes.notes) (sym view)
      (subst (λ (ts : List TableView). IsLive after number schema ts new.notes.notes) (sym is.tables)
      (subst (IsLive after number schema old.tables.items) (sym is.notes)
      (record { live = l.live; there = l.there; sound = l.sound; rows = λ key. l.rows key ∙ sym (published_live node table chunk row number key); room = l.room })));
  back = λ owner.
      subst (λ (n : NodeView). LeadsBack n owner (notes_of owner new.notes.notes)) (sym view)
      (subst (λ (ns : List Note). LeadsBack after owner (notes_of owner ns)) (sym is.notes)
      (record {
        own = (kept.back owner).own;
        back = λ of key on.
            ap (put_back (notes_of owner old.notes.notes) of key) (published_live node table chunk row of key)
            ∙ (kept.back owner).back of key on
            ∙ sym (published_row node table chunk row of key);
      }));
  notes = subst (λ (ss : List Schema). AllByRecursion (NoteFits ss) new.notes.notes) (sym is.schemas)
      (subst (AllByRecursion (NoteFits old.schemas.tables)) (sym is.notes) kept.notes);
  checks =
      (λ i. (fold (is.schemas i) (is.start i) (is.history i)).checks)
      ∙ ap (λ (r : Replayed). r.checks) (fold_more old.schemas.tables old.start old.history.entries (publication table chunk row.kind row.this))
      ∙ ap (with_master table chunk row.this) kept.checks
      ∙ sym is.checks;
  applied = ap applied_of is.history ∙ applied_of-more old.history.entries (publication table chunk row.kind row.this) ∙ kept.applied ∙ sym is.applied;
}
  where
    node : NodeView
    node = node_view old

    after : NodeView
    after = published table chunk (Some row) (node_view old)

    view : node_view new ≡ published table chunk (Some row) (node_view old)
    view = published_is old new table chunk row is

-- each open transaction has its reading after a publication
pub published_reads : (old new : Parts) (table chunk : ℕ) (row : CheckRow) → ReadsKept old → IsPublished table chunk row old new → new.reads.items ≡ old.reads.items → ReadsKept new
published_reads old new table chunk row reads is same =
    subst (λ (n : NodeView). AllRead n.schemas (fold n.schemas n.start n.history).tables new.txns new.reads.items) (sym (published_is old new table chunk row is))
    (subst (λ (t : TableRows). AllRead old.schemas.tables t new.txns new.reads.items) (sym tables)
    (λ b. stays old.schemas.tables (fold old.schemas.tables old.start old.history.entries).tables (txn_of b old.txns) (txn_of b new.txns) (reading_of b old.reads.items) (reading_of b new.reads.items)
    (ap (txn_of b) is.txns) (ap (reading_of b) same) (reads b)))
  where
    tables : (fold old.schemas.tables old.start (old.history.entries ++ publication table chunk row.kind row.this ∷ [])).tables ≡ (fold old.schemas.tables old.start old.history.entries).tables
    tables =
        ap (λ (r : Replayed). r.tables) (fold_more old.schemas.tables old.start old.history.entries (publication table chunk row.kind row.this))
        ∙ tables_left old.schemas.tables (SetMaster table chunk row.kind row.this) (fold old.schemas.tables old.start old.history.entries).tables tt
