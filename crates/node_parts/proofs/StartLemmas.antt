-- A node whose open transactions alone change, and no live row.
use Rattle.std.proofs.Common.{◌≡◌, ◌∙◌, ℕ, List, [], Option, None, Some, refl, ap, sym, subst}
use Rattle.std.specs.List.{slice_get, AllByRecursion}
use Rattle.row_types.specs.declared.values.Value.{Value}
use Rattle.row_types.specs.declared.table_schema.Schema.{Schema}
use Rattle.row_types.specs.declared.edges.Edge.{Edge}
use Rattle.ptc_statement.specs.declared.statements.Statement.{Statement}
use Rattle.ptc_statement.specs.Fits.{FitsSchemas}
use Rattle.ordered_table.specs.TableView.{TableView}
use Rattle.lock_table.specs.declared.wants.Owner.{Owner}
use Rattle.node_model.specs.declared.parts.Part.{Part}
use Rattle.node_model.specs.declared.txns.Walk.{Walk}
use Rattle.node_model.specs.declared.txns.Txn.{Txn}
use Rattle.node_model.specs.Txns.{txn_of, with_txn, with_current}
use Rattle.node_model.specs.Kept.{IsKept}
use Rattle.node_model.specs.Calls.{Start, after_call, started_if, started_idle}
use Rattle.node_model.specs.Node.{NodeView, live_row, started, start_of}
use Rattle.node_model.specs.PutBack.{put_back, LeadsBack}
use Rattle.history.specs.Replay.{fold}
use Rattle.node_model.proofs.TxnLemmas.{taken_back, txn_same, txn_owner}
use Rattle.node_model.proofs.LiveLemmas.{begun_live}
use Rattle.node_model.proofs.CallLemmas.{begun_kept, call_kept, own_txn, started_live}
use Rattle.node_parts.specs.declared.notes.Note.{Note}
use Rattle.node_parts.specs.declared.parts.Parts.{Parts}
use Rattle.node_parts.specs.Kept.{node_view, notes_of, IsLive, NoteFits, PartsKept}
use Rattle.node_reads.specs.ReadBy.{AllRead}
use Rattle.node_reads.proofs.KeptReads.{withdrawn_reads}
use Rattle.node_parts.specs.KeptReads.{ReadsKept}
use Rattle.node_parts.specs.Views.{IsIdle, IsUnderWay}
use Rattle.node_parts.proofs.FrameLemmas.{IsFrame, frame_checks, frame_applied}

-- the tables, locks and notes stay
pub record IsStill (old new : Parts) : Type 0 where
  pub frame : IsFrame old new
  pub tables : new.tables.items ≡ old.tables.items
  pub notes : new.notes.notes ≡ old.notes.notes
  pub held : new.locks.held ≡ old.locks.held

still_kept : (old new : Parts) (txns : List Txn) → PartsKept old → IsStill old new → new.txns ≡ txns → IsKept (record (node_view old) { txns = txns })
    → ((table : ℕ) (key : List Value) → live_row (record (node_view old) { txns = txns }) table key ≡ live_row (node_view old) table key) → PartsKept new
still_kept old new txns kept still is laws live =
    let view : node_view new ≡ record (node_view old) { txns = txns } =
    λ i. record { schemas = still.frame.schemas i; start = still.frame.start i; history = still.frame.history i; txns = is i; held = still.held i } in
    record {
      laws = subst IsKept (sym view) laws;
      live = λ number schema found.
          let l = kept.live number schema (ap (λ (ss : List Schema). slice_get ss number) (sym still.frame.schemas) ∙ found) in
          subst (λ (n : NodeView). IsLive n number schema new.tables.items new.notes.notes) (sym view)
          (subst (λ (ts : List TableView). IsLive (record (node_view old) { txns = txns }) number schema ts new.notes.notes) (sym still.tables)
          (subst (IsLive (record (node_view old) { txns = txns }) number schema old.tables.items) (sym still.notes)
          (record { live = l.live; there = l.there; sound = l.sound; rows = λ key. l.rows key ∙ sym (live number key); room = l.room })));
      back = λ owner.
          subst (λ (n : NodeView). LeadsBack n owner (notes_of owner new.notes.notes)) (sym view)
          (subst (λ (ns : List Note). LeadsBack (record (node_view old) { txns = txns }) owner (notes_of owner ns)) (sym still.notes)
          (record {
            own = (kept.back owner).own;
            back = λ table key on. ap (put_back (notes_of owner old.notes.notes) table key) (live table key) ∙ (kept.back owner).back table key on;
          }));
      notes = subst (λ (ss : List Schema). AllByRecursion (NoteFits ss) new.notes.notes) (sym still.frame.schemas)
          (subst (AllByRecursion (NoteFits old.schemas.tables)) (sym still.notes) kept.notes);
      checks = frame_checks old new still.frame kept;
      applied = frame_applied old new still.frame kept;
    }

pub begun_parts : (old new : Parts) (owner : Owner) (part : Part) (done : List Statement) → PartsKept old → IsStill old new → txn_of owner.0 old.txns ≡ None → done ≡ []
    → new.txns ≡ with_txn (record { owner = owner; part = part; done = done; current = None }) old.txns → PartsKept new
begun_parts old new owner part done kept still none empty is =
    still_kept old new (with_txn (record { owner = owner; part = part; done = []; current = None }) old.txns) kept still
    (is ∙ ap (λ (d : List Statement). with_txn (record { owner = owner; part = part; done = d; current = None }) old.txns) empty)
    (begun_kept (node_view old) owner part None kept.laws)
    (λ table key. begun_live (node_view old) owner part kept.laws.facts none table key)

pub started_parts : (old new : Parts) (owner : Owner) (statement : Statement) (cursor : Edge) → PartsKept old → IsStill old new → IsIdle owner.0 (node_view old) → FitsSchemas old.schemas.tables statement
    → cursor ≡ start_of old.schemas.tables statement → new.txns ≡ with_current (Some (record { statement = statement; cursor = cursor })) (txn_of owner.0 old.txns) old.txns → PartsKept new
started_parts old new owner statement cursor kept still idle fits at_start is =
    let node = node_view old in
    let call : after_call (Start owner statement) node ≡ started idle.txn statement node =
    ap (λ (o : Option Txn). started_if o statement node) idle.found ∙ ap (λ (o : Option Walk). started_idle o idle.txn statement node) idle.idle in
    still_kept old new (with_txn (record idle.txn { current = Some (record { statement = statement; cursor = start_of old.schemas.tables statement }) }) old.txns) kept still
    (is ∙ (λ i. with_current (Some (record { statement = statement; cursor = at_start i })) (idle.found i) old.txns))
    (subst IsKept call (call_kept (Start owner statement) node fits kept.laws))
    (λ table key. started_live node idle.txn statement (own_txn node owner.0 idle.txn idle.found) idle.idle table key)

-- a statement that was started is taken back

started_call : (node : NodeView) (owner : Owner) (statement : Statement) (idle : IsIdle owner.0 node) → after_call (Start owner statement) node ≡ started idle.txn statement node
started_call node owner statement idle =
    ap (λ (o : Option Txn). started_if o statement node) idle.found ∙ ap (λ (o : Option Walk). started_idle o idle.txn statement node) idle.idle

-- what a refused visit behind a start leaves, with the statement taken back
pub record IsTakenBack (owner : Owner) (statement : Statement) (old mid new : Parts) : Type 0 where
  pub visit : node_view mid ≡ after_call (Start owner statement) (node_view old)
  pub still : IsStill mid new
  pub back : new.txns ≡ with_current None (txn_of owner.0 mid.txns) mid.txns

back_txns : (old mid new : Parts) (owner : Owner) (statement : Statement) (idle : IsIdle owner.0 (node_view old)) → IsTakenBack owner statement old mid new → new.txns ≡ old.txns
back_txns old mid new owner statement idle is =
    let mid_txns : mid.txns ≡ with_txn (record idle.txn { current = Some (record { statement = statement; cursor = start_of old.schemas.tables statement }) }) old.txns =
    ap (λ (n : NodeView). n.txns) (is.visit ∙ started_call (node_view old) owner statement idle) in
    is.back
    ∙ (λ i. with_current None (txn_of owner.0 (mid_txns i)) (mid_txns i))
    ∙ taken_back owner.0 idle.txn (record { statement = statement; cursor = start_of old.schemas.tables statement }) old.txns idle.found idle.idle

pub back_view : (old mid new : Parts) (owner : Owner) (statement : Statement) (idle : IsIdle owner.0 (node_view old)) → IsTakenBack owner statement old mid new → node_view new ≡ node_view old
back_view old mid new owner statement idle is =
    let view = is.visit ∙ started_call (node_view old) owner statement idle in
    (λ i. record { schemas = is.still.frame.schemas i; start = is.still.frame.start i; history = is.still.frame.history i; txns = new.txns; held = is.still.held i })
    ∙ (λ i. record (view i) { txns = back_txns old mid new owner statement idle is i })

pub back_kept : (old mid new : Parts) (owner : Owner) (statement : Statement) (idle : IsIdle owner.0 (node_view old)) → PartsKept old → PartsKept mid → IsTakenBack owner statement old mid new → PartsKept new
back_kept old mid new owner statement idle kept mid_kept is =
    still_kept mid new old.txns mid_kept is.still (back_txns old mid new owner statement idle is) (subst IsKept (sym same) kept.laws)
    (λ table key.
    ap (λ (n : NodeView). live_row n table key) same
    ∙ sym (started_live (node_view old) idle.txn statement (own_txn (node_view old) owner.0 idle.txn idle.found) idle.idle table key)
    ∙ ap (λ (n : NodeView). live_row n table key) (sym view))
  where
    view : node_view mid ≡ started idle.txn statement (node_view old)
    view = is.visit ∙ started_call (node_view old) owner statement idle

    same : record (node_view mid) { txns = old.txns } ≡ node_view old
    same = λ i. record (view i) { txns = old.txns }

pub back_reads : (old mid new : Parts) (owner : Owner) (statement : Statement) (idle : IsIdle owner.0 (node_view old)) → FitsSchemas old.schemas.tables statement → ReadsKept mid → IsTakenBack owner statement old mid new
    → new.reads.items ≡ mid.reads.items → ReadsKept new
back_reads old mid new owner statement idle fits reads is same =
    subst (λ (n : NodeView). AllRead n.schemas (fold n.schemas n.start n.history).tables n.txns new.reads.items) (sym (back_view old mid new owner statement idle is))
    (subst (AllRead old.schemas.tables (fold old.schemas.tables old.start old.history.entries).tables old.txns) (sym same)
    (withdrawn_reads old.schemas.tables (fold old.schemas.tables old.start old.history.entries).tables owner.0 statement (start_of old.schemas.tables statement) fits.schema idle.txn old.txns
    (started idle.txn statement (node_view old)).txns mid.reads.items
    (subst (λ (n : NodeView). AllRead n.schemas (fold n.schemas n.start n.history).tables n.txns mid.reads.items) (is.visit ∙ started_call (node_view old) owner statement idle) reads)
    refl idle.found idle.idle refl fits.found))

pub started_under_way : (old new : Parts) (owner : Owner) (statement : Statement) → IsIdle owner.0 (node_view old) → node_view new ≡ after_call (Start owner statement) (node_view old) → IsUnderWay owner.0 (node_view new)
started_under_way old new owner statement idle is =
    subst (IsUnderWay owner.0) (sym (is ∙ started_call (node_view old) owner statement idle))
    (record {
      txn = record idle.txn { current = Some (record { statement = statement; cursor = start_of old.schemas.tables statement }) };
      walk = record { statement = statement; cursor = start_of old.schemas.tables statement };
      found =
          ap (λ (o : ℕ). txn_of o (started idle.txn statement (node_view old)).txns) (sym (txn_owner owner.0 idle.txn old.txns idle.found))
          ∙ txn_same (record idle.txn { current = Some (record { statement = statement; cursor = start_of old.schemas.tables statement }) }) old.txns;
      current = refl;
    })
