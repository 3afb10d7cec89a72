-- What a local session's call leaves of a replica.
use Rattle.std.proofs.Common.{◌≡◌, ◌∙◌, ◌⊎◌, inl, inr, ℕ, List, [], ◌∷◌, ◌++◌, Option, None, Some, refl, ap, sym, subst, append-nil}
use Rattle.std.specs.List.{AllByRecursion}
use Rattle.ptc_statement.specs.declared.statements.Statement.{Statement}
use Rattle.ptc_statement.specs.Effect.{table_of, is_logged}
use Rattle.ptc_statement.specs.Fits.{IsClients}
use Rattle.statement_log.specs.declared.entries.Entry.{Entry}
use Rattle.statement_log.specs.declared.origins.Origin.{Origin}
use Rattle.statement_log.specs.declared.origins.Origin.TheVariants.{Session, Checksum, Sync, Local, Applied}
use Rattle.history.specs.Replay.{Follows, FollowsFrom, IsNextOf, applied_from, applied_of, position_of}
use Rattle.history.proofs.ReplayLemmas.{applied_of-more}
use Rattle.txn_walk.specs.declared.plans.Plan.{Plan}
use Rattle.node_model.specs.declared.txns.Walk.{Walk}
use Rattle.node_model.specs.declared.txns.Txn.{Txn}
use Rattle.node_model.specs.Txns.{txn_of, with_txn, without_txn}
use Rattle.node_model.specs.Node.{NodeView, moved, written, logged, plan_of, plan_excluder}
use Rattle.node_model.specs.Waits.{cycle_of, victim_of, after_wait, visited_unless}
use Rattle.node_model.specs.Calls.{Call, Begin, Start, Visit, Commit, Rollback, Publish, after_call, begun_if, started_if, started_idle, visit_if, visited_if, committed_if, committed_idle}
use Rattle.node_model.proofs.TxnLemmas.{txn_owner}
use Rattle.applier_laws.specs.Follows.{IsLocal, IsOthers}
use Rattle.applier_laws.proofs.TxnLemmas.{some_txn, still_passes, put_passes, ended_each, ended_passes, put_own, WalkOfClients, OfClients, IsOutside, OthersFit, all_filtered, moved_owner, moved_clients}
use Rattle.applier_laws.proofs.TeamLemmas.{Leaves}

-- an item more of a history

follows_next : (log : List Entry) (done : ℕ) (history : List Entry) (item : Entry) → FollowsFrom log done history → IsNextOf log (applied_from done history) item.origin item.statements
    → FollowsFrom log done (history ++ item ∷ [])
follows_next log done [] item before next = (next, tt)
follows_next log done (first ∷ history) item before next = (before.0, follows_next log (position_of done first.origin) history item before.1 next)

record Written (log history after : List Entry) : Type 0 where
  pub follows : Follows log after
  pub applied : applied_of after ≡ applied_of history

locally_written : (log history : List Entry) (session : ℕ) (statements : List Statement) → Follows log history → AllByRecursion IsClients statements
    → Written log history (history ++ written (Local session) statements)
locally_written log history session [] follows all = record {
  follows = subst (Follows log) (sym (append-nil history)) follows;
  applied = ap applied_of (append-nil history);
}
locally_written log history session (statement ∷ statements) follows all = record {
  follows = follows_next log 0 history (record { origin = Local session; statements = statement ∷ statements }) follows all;
  applied = applied_of-more history (record { origin = Local session; statements = statement ∷ statements });
}

is_written_by : (log history : List Entry) (origin : Origin) (statements : List Statement) → IsLocal origin → Follows log history → AllByRecursion IsClients statements
    → Written log history (history ++ written origin statements)
is_written_by log history (Session session) statements is follows all = absurd is
is_written_by log history Checksum statements is follows all = absurd is
is_written_by log history (Sync replica table span) statements is follows all = absurd is
is_written_by log history (Local session) statements is follows all = locally_written log history session statements follows all
is_written_by log history (Applied number) statements is follows all = absurd is

-- what a call leaves, by what it makes of its owner's transaction

still_leaves : (count owner : ℕ) (log history : List Entry) (txns : List Txn) → IsOutside count owner → Follows log history → OthersFit count txns → Leaves count log history txns history txns
still_leaves count owner log history txns outside follows fits = record {
  mover = owner;
  outside = outside;
  passes = still_passes owner txns;
  own = λ txn found. fits owner txn outside found;
  follows = follows;
  applied = refl;
}

put_leaves : (count owner : ℕ) (log history : List Entry) (txns : List Txn) (txn : Txn) → IsOutside count owner → Follows log history → txn.owner.0 ≡ owner → OfClients txn
    → Leaves count log history txns history (with_txn txn txns)
put_leaves count owner log history txns txn outside follows mine of = record {
  mover = owner;
  outside = outside;
  passes = put_passes owner txn txns mine;
  own = λ other found. subst OfClients (some_txn txn other (sym (put_own owner txn txns mine) ∙ found)) of;
  follows = follows;
  applied = refl;
}

ended_leaves : (count owner victim : ℕ) (log history after : List Entry) (txns : List Txn) → IsOutside count owner → OthersFit count txns → Written log history after
    → Leaves count log history txns after (without_txn victim txns)
ended_leaves count owner victim log history after txns outside fits is = record {
  mover = owner;
  outside = outside;
  passes = ended_passes owner victim txns;
  own = own;
  follows = is.follows;
  applied = is.applied;
}
  where
    own : (txn : Txn) → txn_of owner (without_txn victim txns) ≡ Some txn → OfClients txn
    own txn found = at (ended_each victim txns owner)
      where
        at : (txn_of owner (without_txn victim txns) ≡ txn_of owner txns) ⊎ (txn_of owner (without_txn victim txns) ≡ None) → OfClients txn
        at (inl same) = fits owner txn outside (sym same ∙ found)
        at (inr gone) = absurd (let q : None ≡ Some txn = sym gone ∙ found in cc)

abbrev LeavesAs : ℕ → List Entry → NodeView → NodeView → Type 0
LeavesAs count log node left = Leaves count log node.history node.txns left.history left.txns

pub others_leave : (count : ℕ) (log : List Entry) (call : Call) (node : NodeView) → IsOthers count call → Follows log node.history → OthersFit count node.txns → LeavesAs count log node (after_call call node)
others_leave count log (Begin owner part) node outside follows fits = at (txn_of owner.0 node.txns)
  where
    at : (o : Option Txn) → LeavesAs count log node (begun_if o owner part node)
    at None = put_leaves count owner.0 log node.history node.txns (record { owner = owner; part = part; done = []; current = None }) outside follows refl (record { done = tt; current = tt })
    at (Some txn) = still_leaves count owner.0 log node.history node.txns outside follows fits
others_leave count log (Start owner statement) node is follows fits = at (txn_of owner.0 node.txns) refl
  where
    idle : (txn : Txn) → txn_of owner.0 node.txns ≡ Some txn → (w : Option Walk) → LeavesAs count log node (started_idle w txn statement node)
    idle txn e None = put_leaves count owner.0 log node.history node.txns _ is.0 follows (txn_owner owner.0 txn node.txns e) (record { done = (fits owner.0 txn is.0 e).done; current = is.1 })
    idle txn e (Some walk) = still_leaves count owner.0 log node.history node.txns is.0 follows fits

    at : (o : Option Txn) → txn_of owner.0 node.txns ≡ o → LeavesAs count log node (started_if o statement node)
    at None e = still_leaves count owner.0 log node.history node.txns is.0 follows fits
    at (Some txn) e = idle txn e txn.current
others_leave count log (Visit owner) node outside follows fits = at (txn_of owner.0 node.txns) refl
  where
    still : LeavesAs count log node node
    still = still_leaves count owner.0 log node.history node.txns outside follows fits

    waits : (home : ℕ) (cycle : Option (List ℕ)) → LeavesAs count log node (after_wait cycle home node)
    waits home None = still
    waits home (Some cycle) = ended_leaves count owner.0 (victim_of node.txns home cycle) log node.history node.history node.txns outside fits (record { follows = follows; applied = refl })

    unless : (txn : Txn) (walk : Walk) (plan : Plan) → txn_of owner.0 node.txns ≡ Some txn → txn.current ≡ Some walk → (ex : Option ℕ) → LeavesAs count log node (visited_unless ex txn walk plan node)
    unless txn walk plan e c None = put_leaves count owner.0 log node.history node.txns (moved txn walk plan) outside follows (moved_owner txn walk plan ∙ txn_owner owner.0 txn node.txns e)
        (moved_clients txn walk plan (fits owner.0 txn outside e) (subst WalkOfClients c (fits owner.0 txn outside e).current))
    unless txn walk plan e c (Some by) = waits txn.owner.0 (cycle_of node txn.owner.0)

    walking : (txn : Txn) → txn_of owner.0 node.txns ≡ Some txn → (w : Option Walk) → txn.current ≡ w → LeavesAs count log node (visited_if w txn node)
    walking txn e None c = still
    walking txn e (Some walk) c = unless txn walk (plan_of node txn walk) e c (plan_excluder txn.owner (table_of walk.statement) (plan_of node txn walk) node.held)

    at : (o : Option Txn) → txn_of owner.0 node.txns ≡ o → LeavesAs count log node (visit_if o node)
    at None e = still
    at (Some txn) e = walking txn e txn.current refl
others_leave count log (Commit owner origin) node is follows fits = at (txn_of owner.0 node.txns) refl
  where
    still : LeavesAs count log node node
    still = still_leaves count owner.0 log node.history node.txns is.0 follows fits

    idle : (txn : Txn) → txn_of owner.0 node.txns ≡ Some txn → (w : Option Walk) → LeavesAs count log node (committed_idle w txn origin node)
    idle txn e None = ended_leaves count owner.0 txn.owner.0 log node.history (node.history ++ written origin (logged txn.done)) node.txns is.0 fits
        (is_written_by log node.history origin (logged txn.done) is.1 follows (all_filtered IsClients is_logged txn.done (fits owner.0 txn is.0 e).done))
    idle txn e (Some walk) = still

    at : (o : Option Txn) → txn_of owner.0 node.txns ≡ o → LeavesAs count log node (committed_if o origin node)
    at None e = still
    at (Some txn) e = idle txn e txn.current
others_leave count log (Rollback owner) node outside follows fits = ended_leaves count owner.0 owner.0 log node.history node.history node.txns outside fits (record { follows = follows; applied = refl })
others_leave count log (Publish table chunk) node is follows fits = absurd is
