-- What calls of others leave of the tool's transaction, of its entries and of the check rows.
use Rattle.std.proofs.Common.{◌≡◌, ◌≢◌, ◌∙◌, ◌⊎◌, inl, inr, ℕ, ◌+◌, ◌==◌, Bool, true, false, cond, filter, List, [], ◌∷◌, ◌++◌, Option, None, Some, length, refl, ap, sym, subst, append-nil}
use Rattle.std.specs.List.{AllByRecursion}
use Rattle.row_types.specs.declared.table_schema.Schema.{Schema}
use Rattle.row_types.specs.KeyRows.{TableRows}
use Rattle.ptc_statement.specs.declared.statements.Statement.{Statement}
use Rattle.ptc_statement.specs.declared.statements.Statement.TheVariants.{Insert, Replace, Delete, Update, LockRead, Check, SetMaster, ClearChecks}
use Rattle.ptc_statement.specs.Effect.{table_of, is_logged}
use Rattle.ptc_statement.specs.Fits.{IsClients}
use Rattle.statement_log.specs.declared.entries.Entry.{Entry}
use Rattle.statement_log.specs.declared.origins.Origin.{Origin}
use Rattle.statement_log.specs.declared.origins.Origin.TheVariants.{Session, Checksum, Sync, Local, Applied}
use Rattle.history.specs.Replay.{Replayed, fold, position_of}
use Rattle.history.proofs.ReplayLemmas.{fold_more, masters_more, clients_keep_checks}
use Rattle.history.specs.Headline.{IsTrueMaster, MastersAreTrue, IsWrittenBy, EachIsWritten}
use Rattle.lock_table.specs.declared.wants.Owner.{Owner}
use Rattle.lock_table.proofs.HoldLemmas.{same_or_apart, number_is, number_apart}
use Rattle.txn_walk.specs.declared.plans.Plan.{Plan}
use Rattle.node_model.specs.declared.txns.Walk.{Walk}
use Rattle.node_model.specs.declared.txns.Txn.{Txn}
use Rattle.node_model.specs.Txns.{txn_of, with_txn, without_txn}
use Rattle.node_model.specs.Node.{NodeView, ended, moved, written, logged, is_written, plan_of, plan_excluder, is_duplicate}
use Rattle.node_model.specs.Waits.{cycle_of, victim_of, after_wait, visited_unless}
use Rattle.node_model.specs.Calls.{Call, Begin, Start, Visit, Commit, Rollback, Publish, after_call, begun_if, started_if, started_idle, visit_if, visited_if, committed_if, committed_idle}
use Rattle.node_model.proofs.TxnLemmas.{txn_same, txn_other, txn_left, txn_gone, txn_owner}
use Rattle.checksum_tool.specs.Tools.{tool_owner}
use Rattle.checksum_tool_laws.specs.Courses.{IsOthers, IsWriter, is_tools}
use Rattle.checksum_tool_laws.specs.Deeds.{Deed, deeds_in}
use Rattle.checksum_tool_laws.specs.Told.{checks_of}
use Rattle.checksum_tool_laws.proofs.ListLemmas.{deeds_more, no_deeds}

-- the log's entries

pub record Logged (schemas : List Schema) (start : TableRows) (history : List Entry) : Type 0 where
  pub written : EachIsWritten history
  pub masters : MastersAreTrue schemas (record { start = start; entries = history })

written_more : (history : List Entry) (entry : Entry) → EachIsWritten history → IsWrittenBy entry.origin entry.statements → EachIsWritten (history ++ entry ∷ [])
written_more [] entry before one = (one, tt)
written_more (first ∷ history) entry before one = (before.0, written_more history entry before.1 one)

pub logged_more : (schemas : List Schema) (start : TableRows) (history : List Entry) (entry : Entry) → Logged schemas start history → IsWrittenBy entry.origin entry.statements
    → AllByRecursion (λ (statement : Statement). IsTrueMaster statement (fold schemas start history)) entry.statements → Logged schemas start (history ++ entry ∷ [])
logged_more schemas start history entry before by true_masters = record {
  written = written_more history entry before.written by;
  masters = masters_more schemas start history entry before.masters true_masters;
}

no_master : (statement : Statement) (here : Replayed) → IsClients statement → IsTrueMaster statement here
no_master (Insert table row) here is = tt
no_master (Replace table row) here is = tt
no_master (Delete table where_true) here is = tt
no_master (Update table sets where_true) here is = tt
no_master (LockRead table mode span where_true) here is = tt
no_master (Check table chunk span kind) here is = absurd is
no_master (SetMaster table chunk kind master) here is = absurd is
no_master (ClearChecks table) here is = absurd is

no_masters : (statements : List Statement) (here : Replayed) → AllByRecursion IsClients statements → AllByRecursion (λ (statement : Statement). IsTrueMaster statement here) statements
no_masters [] here all = tt
no_masters (statement ∷ statements) here all = (no_master statement here all.0, no_masters statements here all.1)

by_writer : (origin : Origin) (statements : List Statement) → IsWriter origin → AllByRecursion IsClients statements → IsWrittenBy origin statements
by_writer (Session session) statements is all = all
by_writer Checksum statements is all = absurd is
by_writer (Sync replica table span) statements is all = all
by_writer (Local session) statements is all = all
by_writer (Applied entry) statements is all = absurd is

not_tools : (origin : Origin) → IsWriter origin → is_tools origin ≡ false
not_tools (Session session) is = refl
not_tools Checksum is = absurd is
not_tools (Sync replica table span) is = refl
not_tools (Local session) is = refl
not_tools (Applied entry) is = absurd is

-- other owners run clients' statements

abbrev pub WalkOfClients : Option Walk → Type 0
WalkOfClients None = Unit {0}
WalkOfClients (Some walk) = IsClients walk.statement

pub record OfClients (txn : Txn) : Type 0 where
  pub done : AllByRecursion IsClients txn.done
  pub current : WalkOfClients txn.current

abbrev pub OthersFit : List Txn → Type 0
OthersFit txns = (a : ℕ) (txn : Txn) → a ≢ tool_owner.0 → txn_of a txns ≡ Some txn → OfClients txn

pub some_txn : (a b : Txn) → Some a ≡ Some b → a ≡ b
some_txn a b e = cc

pub put_fits : (txn : Txn) (txns : List Txn) → OthersFit txns → (txn.owner.0 ≢ tool_owner.0 → OfClients txn) → OthersFit (with_txn txn txns)
put_fits txn txns fits is a t apart found = at (same_or_apart a txn.owner.0)
  where
    at : (a ≡ txn.owner.0) ⊎ (a ≢ txn.owner.0) → OfClients t
    at (inl same) = subst OfClients (some_txn txn t (sym (txn_same txn txns) ∙ ap (λ (o : ℕ). txn_of o (with_txn txn txns)) (sym same) ∙ found)) (is (λ e. apart (same ∙ e)))
    at (inr other) = fits a t apart (sym (txn_other a txn txns other) ∙ found)

pub left_fits : (owner : ℕ) (txns : List Txn) → OthersFit txns → OthersFit (without_txn owner txns)
left_fits owner txns fits a t apart found = at (same_or_apart a owner)
  where
    at : (a ≡ owner) ⊎ (a ≢ owner) → OfClients t
    at (inl same) = absurd (let q : None ≡ Some t = sym (txn_gone owner txns) ∙ ap (λ (o : ℕ). txn_of o (without_txn owner txns)) (sym same) ∙ found in cc)
    at (inr other) = fits a t apart (sym (txn_left a owner txns other) ∙ found)

all_more : (statements : List Statement) (statement : Statement) → AllByRecursion IsClients statements → IsClients statement → AllByRecursion IsClients (statements ++ statement ∷ [])
all_more [] statement all is = (is, tt)
all_more (first ∷ statements) statement all is = (all.0, all_more statements statement all.1 is)

all_filtered : (test : Statement → Bool) (statements : List Statement) → AllByRecursion IsClients statements → AllByRecursion IsClients (filter test statements)
all_filtered test [] all = tt
all_filtered test (first ∷ statements) all = at (test first) (all_filtered test statements all.1)
  where
    at : (b : Bool) → AllByRecursion IsClients (filter test statements) → AllByRecursion IsClients (cond b (first ∷ filter test statements) (filter test statements))
    at true more = (all.0, more)
    at false more = more

moved_clients : (txn : Txn) (walk : Walk) (plan : Plan) → OfClients txn → IsClients walk.statement → OfClients (moved txn walk plan)
moved_clients txn walk plan of is = at (is_duplicate txn.part walk.statement plan) plan.ends
  where
    at : (refused ends : Bool) → OfClients (cond refused (record txn { current = None })
        (cond ends (record txn { done = txn.done ++ walk.statement ∷ []; current = None })
        (record txn { current = Some (record { statement = walk.statement; cursor = plan.after }) })))
    at true ends = record { done = of.done; current = tt }
    at false true = record { done = all_more txn.done walk.statement of.done is; current = tt }
    at false false = record { done = of.done; current = is }

moved_owner : (txn : Txn) (walk : Walk) (plan : Plan) (refused ends : Bool)
    → (cond refused (record txn { current = None }) (cond ends (record txn { done = txn.done ++ walk.statement ∷ []; current = None }) (record txn { current = Some (record { statement = walk.statement; cursor = plan.after }) }))).owner ≡ txn.owner
moved_owner txn walk plan true ends = refl
moved_owner txn walk plan false true = refl
moved_owner txn walk plan false false = refl

pub own_moved : (txn : Txn) (walk : Walk) (plan : Plan) → (moved txn walk plan).owner ≡ txn.owner
own_moved txn walk plan = moved_owner txn walk plan (is_duplicate txn.part walk.statement plan) plan.ends

-- what is left of the tool: its transaction is as it was, or gone
pub record LeavesTool (old new : NodeView) : Type 0 where
  pub txn : (txn_of tool_owner.0 new.txns ≡ txn_of tool_owner.0 old.txns) ⊎ (txn_of tool_owner.0 new.txns ≡ None)
  pub deeds : deeds_in new.history ≡ deeds_in old.history
  pub checks : checks_of new ≡ checks_of old
  pub others : OthersFit new.txns
  pub log : Logged new.schemas new.start new.history

still : (node : NodeView) → OthersFit node.txns → Logged node.schemas node.start node.history → LeavesTool node node
still node fits log = record { txn = inl refl; deeds = refl; checks = refl; others = fits; log = log }

pub ended_txn : (owner : ℕ) (txns : List Txn) → (txn_of tool_owner.0 (without_txn owner txns) ≡ txn_of tool_owner.0 txns) ⊎ (txn_of tool_owner.0 (without_txn owner txns) ≡ None)
ended_txn owner txns = at (owner == tool_owner.0) refl
  where
    at : (b : Bool) → (owner == tool_owner.0) ≡ b → (txn_of tool_owner.0 (without_txn owner txns) ≡ txn_of tool_owner.0 txns) ⊎ (txn_of tool_owner.0 (without_txn owner txns) ≡ None)
    at true e = inr (ap (λ (o : ℕ). txn_of o (without_txn owner txns)) (sym (number_is owner tool_owner.0 e)) ∙ txn_gone owner txns)
    at false e = inl (txn_left tool_owner.0 owner txns (λ same. number_apart owner tool_owner.0 e (sym same)))

ended_leaves : (owner : ℕ) (node : NodeView) → OthersFit node.txns → Logged node.schemas node.start node.history → LeavesTool node (ended owner node)
ended_leaves owner node fits log = record { txn = ended_txn owner node.txns; deeds = refl; checks = refl; others = left_fits owner node.txns fits; log = log }

-- another owner's transaction goes on
put_leaves : (node : NodeView) (owner : ℕ) (txn : Txn) → txn.owner.0 ≡ owner → owner ≢ tool_owner.0 → OthersFit node.txns → OfClients txn
    → (txn_of tool_owner.0 (with_txn txn node.txns) ≡ txn_of tool_owner.0 node.txns) × OthersFit (with_txn txn node.txns)
put_leaves node owner txn own apart fits of =
    (txn_other tool_owner.0 txn node.txns (λ same. apart (sym own ∙ sym same)), put_fits txn node.txns fits (λ other. of))

-- a commit of another
committed_checks : (schemas : List Schema) (start : TableRows) (history : List Entry) (origin : Origin) (statements : List Statement) → AllByRecursion IsClients statements
    → (fold schemas start (history ++ written origin statements)).checks ≡ (fold schemas start history).checks
committed_checks schemas start history origin statements all = at (is_written origin statements)
  where
    at : (b : Bool) → (fold schemas start (history ++ cond b (record { origin = origin; statements = statements } ∷ []) [])).checks ≡ (fold schemas start history).checks
    at true =
        ap (λ (r : Replayed). r.checks) (fold_more schemas start history (record { origin = origin; statements = statements }))
        ∙ clients_keep_checks schemas (position_of (length history + 1) origin) statements (fold schemas start history) all
    at false = ap (λ (h : List Entry). (fold schemas start h).checks) (append-nil history)

committed_deeds : (history : List Entry) (origin : Origin) (statements : List Statement) → is_tools origin ≡ false → deeds_in (history ++ written origin statements) ≡ deeds_in history
committed_deeds history origin statements other = deeds_more history (written origin statements) ∙ ap (λ (ds : List (List Deed)). deeds_in history ++ ds) (at (is_written origin statements)) ∙ append-nil (deeds_in history)
  where
    at : (b : Bool) → deeds_in (cond b (record { origin = origin; statements = statements } ∷ []) []) ≡ []
    at true = no_deeds (record { origin = origin; statements = statements }) other
    at false = refl

committed_log : (schemas : List Schema) (start : TableRows) (history : List Entry) (origin : Origin) (statements : List Statement) → Logged schemas start history → IsWriter origin
    → AllByRecursion IsClients statements → Logged schemas start (history ++ written origin statements)
committed_log schemas start history origin statements log writer all = at (is_written origin statements)
  where
    at : (b : Bool) → Logged schemas start (history ++ cond b (record { origin = origin; statements = statements } ∷ []) [])
    at true = logged_more schemas start history (record { origin = origin; statements = statements }) log (by_writer origin statements writer all) (no_masters statements (fold schemas start history) all)
    at false = subst (Logged schemas start) (sym (append-nil history)) log

pub others_leave : (call : Call) (node : NodeView) → IsOthers call → OthersFit node.txns → Logged node.schemas node.start node.history → LeavesTool node (after_call call node)
others_leave (Begin other part) node apart fits log = at (txn_of other.0 node.txns)
  where
    at : (o : Option Txn) → LeavesTool node (begun_if o other part node)
    at None =
        let put = put_leaves node other.0 (record { owner = other; part = part; done = []; current = None }) refl apart fits (record { done = tt; current = tt }) in
        record { txn = inl put.0; deeds = refl; checks = refl; others = put.1; log = log }
    at (Some txn) = still node fits log
others_leave (Start other statement) node apart fits log = at (txn_of other.0 node.txns) refl
  where
    idle : (txn : Txn) → txn_of other.0 node.txns ≡ Some txn → (w : Option Walk) → LeavesTool node (started_idle w txn statement node)
    idle txn e None =
        let put = put_leaves node other.0 _ (txn_owner other.0 txn node.txns e) apart.0 fits (record { done = (fits other.0 txn apart.0 e).done; current = apart.1 }) in
        record { txn = inl put.0; deeds = refl; checks = refl; others = put.1; log = log }
    idle txn e (Some walk) = still node fits log

    at : (o : Option Txn) → txn_of other.0 node.txns ≡ o → LeavesTool node (started_if o statement node)
    at None e = still node fits log
    at (Some txn) e = idle txn e txn.current
others_leave (Visit other) node apart fits log = at (txn_of other.0 node.txns) refl
  where
    waits : (home : ℕ) (cycle : Option (List ℕ)) → LeavesTool node (after_wait cycle home node)
    waits home None = still node fits log
    waits home (Some cycle) = ended_leaves (victim_of node.txns home cycle) node fits log

    unless : (txn : Txn) (walk : Walk) (plan : Plan) → txn_of other.0 node.txns ≡ Some txn → txn.current ≡ Some walk → (ex : Option ℕ) → LeavesTool node (visited_unless ex txn walk plan node)
    unless txn walk plan e c None =
        let put = put_leaves node other.0 (moved txn walk plan) (ap (λ (o : Owner). o.0) (own_moved txn walk plan) ∙ txn_owner other.0 txn node.txns e) apart fits
        (moved_clients txn walk plan (fits other.0 txn apart e) (subst WalkOfClients c (fits other.0 txn apart e).current)) in
        record { txn = inl put.0; deeds = refl; checks = refl; others = put.1; log = log }
    unless txn walk plan e c (Some by) = waits txn.owner.0 (cycle_of node txn.owner.0)

    walking : (txn : Txn) → txn_of other.0 node.txns ≡ Some txn → (w : Option Walk) → txn.current ≡ w → LeavesTool node (visited_if w txn node)
    walking txn e None c = still node fits log
    walking txn e (Some walk) c = unless txn walk (plan_of node txn walk) e c (plan_excluder txn.owner (table_of walk.statement) (plan_of node txn walk) node.held)

    at : (o : Option Txn) → txn_of other.0 node.txns ≡ o → LeavesTool node (visit_if o node)
    at None e = still node fits log
    at (Some txn) e = walking txn e txn.current refl
others_leave (Commit other theirs) node apart fits log = at (txn_of other.0 node.txns) refl
  where
    idle : (txn : Txn) → txn_of other.0 node.txns ≡ Some txn → (w : Option Walk) → LeavesTool node (committed_idle w txn theirs node)
    idle txn e None = record {
      txn = ended_txn txn.owner.0 node.txns;
      deeds = committed_deeds node.history theirs (logged txn.done) (not_tools theirs apart.1);
      checks = committed_checks node.schemas node.start node.history theirs (logged txn.done) (all_filtered is_logged txn.done (fits other.0 txn apart.0 e).done);
      others = left_fits txn.owner.0 node.txns fits;
      log = committed_log node.schemas node.start node.history theirs (logged txn.done) log apart.1 (all_filtered is_logged txn.done (fits other.0 txn apart.0 e).done);
    }
    idle txn e (Some walk) = still node fits log

    at : (o : Option Txn) → txn_of other.0 node.txns ≡ o → LeavesTool node (committed_if o theirs node)
    at None e = still node fits log
    at (Some txn) e = idle txn e txn.current
others_leave (Rollback other) node apart fits log = ended_leaves other.0 node fits log
others_leave (Publish table chunk) node apart fits log = absurd apart
