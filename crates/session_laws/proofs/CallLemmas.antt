-- What calls of others leave of an owner's transaction, and of a session's entries.
use Rattle.std.proofs.Common.{◌≡◌, ◌≢◌, ◌∙◌, ◌⊎◌, inl, inr, ℕ, Bool, true, false, cond, List, [], ◌∷◌, ◌++◌, Option, None, Some, refl, ap, sym, append-nil, ◌==◌}
use Rattle.ptc_statement.specs.declared.statements.Statement.{Statement}
use Rattle.ptc_statement.specs.declared.statements.Statement.TheVariants.{SetMaster}
use Rattle.statement_log.specs.declared.entries.Entry.{Entry}
use Rattle.statement_log.specs.declared.origins.Origin.{Origin}
use Rattle.statement_log.specs.declared.origins.Origin.TheVariants.{Session, Checksum, Sync, Local, Applied}
use Rattle.checksum_table.specs.declared.check_rows.CheckRow.{CheckRow}
use Rattle.checksum_table.specs.Checks.{check_at}
use Rattle.history.specs.Replay.{fold}
use Rattle.ptc_statement.specs.Effect.{table_of}
use Rattle.lock_table.specs.declared.wants.Owner.{Owner}
use Rattle.lock_table.proofs.HoldLemmas.{number_is, number_apart}
use Rattle.txn_walk.specs.declared.plans.Plan.{Plan}
use Rattle.node_model.specs.declared.txns.Walk.{Walk}
use Rattle.node_model.specs.declared.txns.Txn.{Txn}
use Rattle.node_model.specs.Txns.{txn_of, with_txn, without_txn}
use Rattle.node_model.specs.Node.{NodeView, ended, moved, written, logged, is_written, plan_of, plan_excluder, is_duplicate}
use Rattle.node_model.specs.Waits.{cycle_of, victim_of, after_wait, visited_unless}
use Rattle.node_model.specs.Calls.{Call, Begin, Start, Visit, Commit, Rollback, Publish, after_call, begun_if, started_if, started_idle, visit_if, visited_if, committed_if, committed_idle, published}
use Rattle.node_model.proofs.TxnLemmas.{txn_other, txn_left, txn_gone, txn_owner}
use Rattle.session_laws.specs.OwnCalls.{is_own, own_entries, IsOthers}

-- entries

pub own_more : (origin : Origin) (xs ys : List Entry) → own_entries origin (xs ++ ys) ≡ own_entries origin xs ++ own_entries origin ys
own_more origin [] ys = refl
own_more origin (x ∷ xs) ys = at (is_own origin x.origin) (own_more origin xs ys)
  where
    at : (b : Bool) → own_entries origin (xs ++ ys) ≡ own_entries origin xs ++ own_entries origin ys
        → cond b (x ∷ own_entries origin (xs ++ ys)) (own_entries origin (xs ++ ys)) ≡ cond b (x ∷ own_entries origin xs) (own_entries origin xs) ++ own_entries origin ys
    at true more = ap (λ (es : List Entry). x ∷ es) more
    at false more = more

written_if : (origin theirs : Origin) (statements : List Statement) (own : Bool) → is_own origin theirs ≡ own → own_entries origin (written theirs statements) ≡ cond own (written theirs statements) []
written_if origin theirs statements own is = at (is_written theirs statements) own is
  where
    one : Entry
    one = record { origin = theirs; statements = statements }

    at : (b own : Bool) → is_own origin theirs ≡ own → own_entries origin (cond b (record { origin = theirs; statements = statements } ∷ []) []) ≡ cond own (cond b (record { origin = theirs; statements = statements } ∷ []) []) []
    at true true e = ap (λ (t : Bool). cond t (record { origin = theirs; statements = statements } ∷ []) []) e
    at true false e = ap (λ (t : Bool). cond t (record { origin = theirs; statements = statements } ∷ []) []) e
    at false true e = refl
    at false false e = refl

-- what a session writes is its own
pub own_written : (origin : Origin) (statements : List Statement) → is_own origin origin ≡ true → own_entries origin (written origin statements) ≡ written origin statements
own_written origin statements own = written_if origin origin statements true own

pub others_written : (origin theirs : Origin) (statements : List Statement) → is_own origin theirs ≡ false → own_entries origin (written theirs statements) ≡ []
others_written origin theirs statements other = written_if origin theirs statements false other

no_tools : (origin : Origin) → is_own origin Checksum ≡ false
no_tools (Session n) = refl
no_tools Checksum = refl
no_tools (Sync replica table span) = refl
no_tools (Local n) = refl
no_tools (Applied n) = refl

-- an owner's transaction and its session's entries are as they were, or the transaction is gone
pub record Leaves (owner : ℕ) (origin : Origin) (old new : NodeView) : Type 0 where
  pub txn : (txn_of owner new.txns ≡ txn_of owner old.txns) ⊎ (txn_of owner new.txns ≡ None)
  pub entries : own_entries origin new.history ≡ own_entries origin old.history

pub ended_leaves : (owner other : ℕ) (origin : Origin) (node : NodeView) → Leaves owner origin node (ended other node)
ended_leaves owner other origin node = at (other == owner) refl
  where
    at : (b : Bool) → (other == owner) ≡ b → Leaves owner origin node (ended other node)
    at true e = record { txn = inr (ap (λ (o : ℕ). txn_of o (without_txn other node.txns)) (sym (number_is other owner e)) ∙ txn_gone other node.txns); entries = refl }
    at false e = record { txn = inl (txn_left owner other node.txns (λ same. number_apart other owner e (sym same))); entries = refl }

still : (owner : ℕ) (origin : Origin) (node : NodeView) → Leaves owner origin node node
still owner origin node = record { txn = inl refl; entries = refl }

-- a transaction of another owner changes
put_other : (owner other : ℕ) (txn : Txn) (txns : List Txn) → txn.owner.0 ≡ other → other ≢ owner → txn_of owner (with_txn txn txns) ≡ txn_of owner txns
put_other owner other txn txns own apart = txn_other owner txn txns (λ same. apart (sym own ∙ sym same))

moved_owner : (txn : Txn) (walk : Walk) (plan : Plan) (refused ends : Bool)
    → (cond refused (record txn { current = None }) (cond ends (record txn { done = txn.done ++ walk.statement ∷ []; current = None }) (record txn { current = Some (record { statement = walk.statement; cursor = plan.after }) }))).owner ≡ txn.owner
moved_owner txn walk plan true ends = refl
moved_owner txn walk plan false true = refl
moved_owner txn walk plan false false = refl

pub own_moved : (txn : Txn) (walk : Walk) (plan : Plan) → (moved txn walk plan).owner ≡ txn.owner
own_moved txn walk plan = moved_owner txn walk plan (is_duplicate txn.part walk.statement plan) plan.ends

pub others_leave : (owner : Owner) (origin : Origin) (call : Call) (node : NodeView) → IsOthers owner origin call → Leaves owner.0 origin node (after_call call node)
others_leave owner origin (Begin other part) node apart = at (txn_of other.0 node.txns)
  where
    at : (o : Option Txn) → Leaves owner.0 origin node (begun_if o other part node)
    at None = record { txn = inl (put_other owner.0 other.0 (record { owner = other; part = part; done = []; current = None }) node.txns refl apart); entries = refl }
    at (Some txn) = still owner.0 origin node
others_leave owner origin (Start other statement) node apart = at (txn_of other.0 node.txns) refl
  where
    idle : (txn : Txn) → txn_of other.0 node.txns ≡ Some txn → (w : Option Walk) → Leaves owner.0 origin node (started_idle w txn statement node)
    idle txn e None = record { txn = inl (put_other owner.0 other.0 _ node.txns (txn_owner other.0 txn node.txns e) apart); entries = refl }
    idle txn e (Some walk) = still owner.0 origin node

    at : (o : Option Txn) → txn_of other.0 node.txns ≡ o → Leaves owner.0 origin node (started_if o statement node)
    at None e = still owner.0 origin node
    at (Some txn) e = idle txn e txn.current
others_leave owner origin (Visit other) node apart = at (txn_of other.0 node.txns) refl
  where
    waits : (home : ℕ) (cycle : Option (List ℕ)) → Leaves owner.0 origin node (after_wait cycle home node)
    waits home None = still owner.0 origin node
    waits home (Some cycle) = ended_leaves owner.0 (victim_of node.txns home cycle) origin node

    unless : (txn : Txn) (walk : Walk) (plan : Plan) → txn_of other.0 node.txns ≡ Some txn → (ex : Option ℕ) → Leaves owner.0 origin node (visited_unless ex txn walk plan node)
    unless txn walk plan e None = record {
      txn = inl (put_other owner.0 other.0 (moved txn walk plan) node.txns (ap (λ (o : Owner). o.0) (own_moved txn walk plan) ∙ txn_owner other.0 txn node.txns e) apart);
      entries = refl;
    }
    unless txn walk plan e (Some by) = waits txn.owner.0 (cycle_of node txn.owner.0)

    walking : (txn : Txn) → txn_of other.0 node.txns ≡ Some txn → (w : Option Walk) → Leaves owner.0 origin node (visited_if w txn node)
    walking txn e None = still owner.0 origin node
    walking txn e (Some walk) = unless txn walk (plan_of node txn walk) e (plan_excluder txn.owner (table_of walk.statement) (plan_of node txn walk) node.held)

    at : (o : Option Txn) → txn_of other.0 node.txns ≡ o → Leaves owner.0 origin node (visit_if o node)
    at None e = still owner.0 origin node
    at (Some txn) e = walking txn e txn.current
others_leave owner origin (Commit other theirs) node apart = at (txn_of other.0 node.txns) refl
  where
    idle : (txn : Txn) → txn_of other.0 node.txns ≡ Some txn → (w : Option Walk) → Leaves owner.0 origin node (committed_idle w txn theirs node)
    idle txn e None = record {
      txn = inl (txn_left owner.0 txn.owner.0 node.txns (λ same. apart.0 (sym (txn_owner other.0 txn node.txns e) ∙ sym same)));
      entries =
          own_more origin node.history (written theirs (logged txn.done))
          ∙ ap (λ (es : List Entry). own_entries origin node.history ++ es) (others_written origin theirs (logged txn.done) apart.1)
          ∙ append-nil (own_entries origin node.history);
    }
    idle txn e (Some walk) = still owner.0 origin node

    at : (o : Option Txn) → txn_of other.0 node.txns ≡ o → Leaves owner.0 origin node (committed_if o theirs node)
    at None e = still owner.0 origin node
    at (Some txn) e = idle txn e txn.current
others_leave owner origin (Rollback other) node apart = ended_leaves owner.0 other.0 origin node
others_leave owner origin (Publish table chunk) node apart = at (check_at table chunk (fold node.schemas node.start node.history).checks)
  where
    at : (o : Option CheckRow) → Leaves owner.0 origin node (published table chunk o node)
    at None = still owner.0 origin node
    at (Some row) = record {
      txn = inl refl;
      entries =
          own_more origin node.history (record { origin = Checksum; statements = SetMaster table chunk row.kind row.this ∷ [] } ∷ [])
          ∙ ap (λ (b : Bool). own_entries origin node.history ++ cond b (record { origin = Checksum; statements = SetMaster table chunk row.kind row.this ∷ [] } ∷ []) []) (no_tools origin)
          ∙ append-nil (own_entries origin node.history);
    }
