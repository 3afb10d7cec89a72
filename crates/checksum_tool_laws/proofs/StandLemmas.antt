-- Where all transactions are clients' the victim of a deadlock is the owner whose visit closed it, so that the tool's
-- transaction stands while the tool walks.
use Rattle.std.proofs.Common.{◌≡◌, ◌≢◌, ◌∙◌, ◌⊎◌, inl, inr, ℕ, zero, suc, ◌==◌, Bool, true, false, cond, List, [], ◌∷◌, ◌++◌, Option, None, Some, length, refl, ap, sym, subst}
use Rattle.std.specs.Prelude.{is_some, nat_lt, option_map, option_and_then, ◌+◌}
use Rattle.std.specs.List.{AllByRecursion}
use Rattle.row_types.specs.declared.edges.Span.{Span}
use Rattle.row_types.specs.declared.digests.DigestKind.{DigestKind}
use Rattle.row_types.specs.declared.table_schema.Schema.{Schema}
use Rattle.row_types.specs.KeyRows.{TableRows}
use Rattle.ptc_statement.specs.Effect.{table_of}
use Rattle.checksum_table.specs.declared.check_rows.CheckRow.{CheckRow}
use Rattle.checksum_table.specs.Checks.{check_at}
use Rattle.lock_table.specs.declared.wants.Owner.{Owner}
use Rattle.lock_table.proofs.HoldLemmas.{same_or_apart, is_number}
use Rattle.txn_walk.specs.declared.plans.Plan.{Plan}
use Rattle.node_model.specs.declared.parts.Part.TheVariants.{Client}
use Rattle.node_model.specs.declared.txns.Walk.{Walk}
use Rattle.node_model.specs.declared.txns.Txn.{Txn}
use Rattle.node_model.specs.Txns.{txn_of, with_txn, without_txn}
use Rattle.node_model.specs.Node.{NodeView, moved, plan_of, plan_excluder, is_duplicate, is_client, visited, ended}
use Rattle.node_model.specs.Waits.{cycle_of, victim_of, first_client, is_clients, way_back, way_on, next_wait, after_wait, visited_unless}
use Rattle.node_model.specs.Calls.{Call, Begin, Start, Visit, Commit, Rollback, Publish, after_call, begun_if, started_if, started_idle, visit_if, visited_if, committed_if, committed_idle, published, fresh_node}
use Rattle.node_model.proofs.TxnLemmas.{txn_same, txn_other, txn_left, txn_gone, txn_owner}
use Rattle.node_visits.specs.declared.visits.Visit.{Visit as VisitAnswer}
use Rattle.node_visits.specs.Answers.{duplicate_key, answer_wait, answer_by, answer_in, answer_if}
use Rattle.node_parts.specs.Views.{walk_of}
use Rattle.checksum_tool.specs.declared.phases.ToolPhase.{ToolPhase}
use Rattle.checksum_tool.specs.declared.phases.ToolPhase.TheVariants.{Clear, Choose, Walk as WalkPhase, Master, RetriesUsed, Finished}
use Rattle.checksum_tool.specs.declared.phases.ToolTurn.TheVariants.{Victim}
use Rattle.checksum_tool.specs.Tools.{ToolView, tool_owner, new_tool, is_high, is_over, check_of, chosen, walked, at_next_chunk, at_next_table, at_end, behind_table, mastered_tool, begun_again, given_up, rolled_back}
use Rattle.checksum_tool.specs.Moves.{Moved, after_answer, visit_move, commit_move, master_move, idle_move, next_position, next_move}
use Rattle.checksum_tool_laws.specs.Courses.{Event, Own, Other, Course, EventFits, IsOthers, after_event, after_events}
use Rattle.checksum_tool_laws.specs.Standing.{IsApart, EventApart, ToolIsNoVictim}
use Rattle.checksum_tool_laws.specs.Told.{checks_of}
use Rattle.checksum_tool_laws.proofs.CallLemmas.{own_moved, some_txn}
use Rattle.checksum_tool_laws.proofs.HoldLemmas.{Checking, Walking, Staged, Holds}
use Rattle.checksum_tool_laws.proofs.TurnLemmas.{own_txn, checking, choose_moves, committed_is, done_is, calm}
use Rattle.checksum_tool_laws.proofs.RunLemmas.{begun_at, move_at, begun_same, event_holds, at_first}

abbrev AreClients : List Txn → Type 0
AreClients txns = (a : ℕ) (txn : Txn) → txn_of a txns ≡ Some txn → txn.part ≡ Client

put_clients : (txn : Txn) (txns : List Txn) → AreClients txns → txn.part ≡ Client → AreClients (with_txn txn txns)
put_clients txn txns all is a t found = at (same_or_apart a txn.owner.0)
  where
    at : (a ≡ txn.owner.0) ⊎ (a ≢ txn.owner.0) → t.part ≡ Client
    at (inl same) = subst (λ (x : Txn). x.part ≡ Client) (some_txn txn t (sym (txn_same txn txns) ∙ ap (λ (o : ℕ). txn_of o (with_txn txn txns)) (sym same) ∙ found)) is
    at (inr other) = all a t (sym (txn_other a txn txns other) ∙ found)

left_clients : (owner : ℕ) (txns : List Txn) → AreClients txns → AreClients (without_txn owner txns)
left_clients owner txns all a t found = at (same_or_apart a owner)
  where
    at : (a ≡ owner) ⊎ (a ≢ owner) → t.part ≡ Client
    at (inl same) = absurd (let q : None ≡ Some t = sym (txn_gone owner txns) ∙ ap (λ (o : ℕ). txn_of o (without_txn owner txns)) (sym same) ∙ found in cc)
    at (inr other) = all a t (sym (txn_left a owner txns other) ∙ found)

moved_part : (txn : Txn) (walk : Walk) (plan : Plan) → (moved txn walk plan).part ≡ txn.part
moved_part txn walk plan = at (is_duplicate txn.part walk.statement plan) plan.ends
  where
    at : (refused ends : Bool) → (cond refused (record txn { current = None })
        (cond ends (record txn { done = txn.done ++ walk.statement ∷ []; current = None })
        (record txn { current = Some (record { statement = walk.statement; cursor = plan.after }) }))).part ≡ txn.part
    at true ends = refl
    at false true = refl
    at false false = refl

-- the victim is the owner whose visit closed the cycle

some_cycle : (a b : List ℕ) → Some a ≡ Some b → a ≡ b
some_cycle a b e = cc

first_own : (txns : List Txn) (other owner : ℕ) (owners : List ℕ) → is_clients (txn_of owner txns) ≡ true → first_client txns other (owner ∷ owners) ≡ owner
first_own txns other owner owners is = ap (λ (b : Bool). cond b owner (first_client txns other owners)) is

closes_own : (txns : List Txn) (waits : ℕ → Option ℕ) (home steps owner : ℕ) (cycle : List ℕ) → is_clients (txn_of owner txns) ≡ true → way_back waits home steps owner ≡ Some cycle
    → first_client txns owner cycle ≡ owner
closes_own txns waits home zero owner cycle is found = absurd (let q : None ≡ Some cycle = found in cc)
closes_own txns waits home (suc steps) owner cycle is found = at (waits owner) found
  where
    on : (next : ℕ) (b : Bool) (further : Option (List ℕ)) → cond b (Some (owner ∷ [])) (option_map (λ (others : List ℕ). owner ∷ others) further) ≡ Some cycle → first_client txns owner cycle ≡ owner
    on next true further f = ap (first_client txns owner) (sym (some_cycle (owner ∷ []) cycle f)) ∙ first_own txns owner owner [] is
    on next false None f = absurd (let q : None ≡ Some cycle = f in cc)
    on next false (Some others) f = ap (first_client txns owner) (sym (some_cycle (owner ∷ others) cycle f)) ∙ first_own txns owner owner others is

    at : (o : Option ℕ) → way_on home owner o (way_back waits home steps) ≡ Some cycle → first_client txns owner cycle ≡ owner
    at None f = absurd (let q : None ≡ Some cycle = f in cc)
    at (Some next) f = on next (next == home) (way_back waits home steps next) f

victim_is : (node : NodeView) (owner : ℕ) (txn : Txn) (cycle : List ℕ) → AreClients node.txns → txn_of owner node.txns ≡ Some txn → cycle_of node txn.owner.0 ≡ Some cycle → victim_of node.txns txn.owner.0 cycle ≡ txn.owner.0
victim_is node owner txn cycle all found closed =
    closes_own node.txns (next_wait node) txn.owner.0 (length node.txns) txn.owner.0 cycle
    (ap (λ (o : ℕ). is_clients (txn_of o node.txns)) (txn_owner owner txn node.txns found) ∙ ap is_clients found ∙ ap is_client (all owner txn found)) closed

-- the tool's transaction stands while it walks

record Stands (tool : ToolView) (node : NodeView) : Type 0 where
  clients : AreClients node.txns
  there : tool.phase ≡ WalkPhase → is_some (own_txn node) ≡ true

abbrev Keeps : NodeView → NodeView → Type 0
Keeps old new = AreClients new.txns × (own_txn new ≡ own_txn old)

kept_stands : (tool : ToolView) (old new : NodeView) → Stands tool old → Keeps old new → Stands tool new
kept_stands tool old new s k = record { clients = k.0; there = λ e. ap is_some k.1 ∙ s.there e }

put_keeps : (node : NodeView) (owner : ℕ) (txn : Txn) → txn.owner.0 ≡ owner → owner ≢ tool_owner.0 → AreClients node.txns → txn.part ≡ Client
    → AreClients (with_txn txn node.txns) × (txn_of tool_owner.0 (with_txn txn node.txns) ≡ txn_of tool_owner.0 node.txns)
put_keeps node owner txn own apart all is = (put_clients txn node.txns all is, txn_other tool_owner.0 txn node.txns (λ same. apart (sym own ∙ sym same)))

ended_keeps : (node : NodeView) (owner : ℕ) → owner ≢ tool_owner.0 → AreClients node.txns → Keeps node (ended owner node)
ended_keeps node owner apart all = (left_clients owner node.txns all, txn_left tool_owner.0 owner node.txns (λ same. apart (sym same)))

call_keeps : (call : Call) (node : NodeView) → IsOthers call → IsApart call → AreClients node.txns → Keeps node (after_call call node)
call_keeps (Begin other part) node apart client all = at (txn_of other.0 node.txns)
  where
    at : (o : Option Txn) → Keeps node (begun_if o other part node)
    at None = put_keeps node other.0 (record { owner = other; part = part; done = []; current = None }) refl apart all client
    at (Some txn) = (all, refl)
call_keeps (Start other statement) node apart free all = at (txn_of other.0 node.txns) refl
  where
    idle : (txn : Txn) → txn_of other.0 node.txns ≡ Some txn → (w : Option Walk) → Keeps node (started_idle w txn statement node)
    idle txn e None = put_keeps node other.0 _ (txn_owner other.0 txn node.txns e) apart.0 all (all other.0 txn e)
    idle txn e (Some walk) = (all, refl)

    at : (o : Option Txn) → txn_of other.0 node.txns ≡ o → Keeps node (started_if o statement node)
    at None e = (all, refl)
    at (Some txn) e = idle txn e txn.current
call_keeps (Visit other) node apart free all = at (txn_of other.0 node.txns) refl
  where
    waits : (txn : Txn) → txn_of other.0 node.txns ≡ Some txn → (cycle : Option (List ℕ)) → cycle_of node txn.owner.0 ≡ cycle → Keeps node (after_wait cycle txn.owner.0 node)
    waits txn e None closed = (all, refl)
    waits txn e (Some cycle) closed =
        ended_keeps node (victim_of node.txns txn.owner.0 cycle)
        (λ same. apart (sym (txn_owner other.0 txn node.txns e) ∙ sym (victim_is node other.0 txn cycle all e closed) ∙ same)) all

    unless : (txn : Txn) (walk : Walk) (plan : Plan) → txn_of other.0 node.txns ≡ Some txn → (ex : Option ℕ) → Keeps node (visited_unless ex txn walk plan node)
    unless txn walk plan e None =
        put_keeps node other.0 (moved txn walk plan) (ap (λ (o : Owner). o.0) (own_moved txn walk plan) ∙ txn_owner other.0 txn node.txns e) apart all (moved_part txn walk plan ∙ all other.0 txn e)
    unless txn walk plan e (Some by) = waits txn e (cycle_of node txn.owner.0) refl

    walking : (txn : Txn) → txn_of other.0 node.txns ≡ Some txn → (w : Option Walk) → Keeps node (visited_if w txn node)
    walking txn e None = (all, refl)
    walking txn e (Some walk) = unless txn walk (plan_of node txn walk) e (plan_excluder txn.owner (table_of walk.statement) (plan_of node txn walk) node.held)

    at : (o : Option Txn) → txn_of other.0 node.txns ≡ o → Keeps node (visit_if o node)
    at None e = (all, refl)
    at (Some txn) e = walking txn e txn.current
call_keeps (Commit other theirs) node apart free all = at (txn_of other.0 node.txns) refl
  where
    idle : (txn : Txn) → txn_of other.0 node.txns ≡ Some txn → (w : Option Walk) → Keeps node (committed_idle w txn theirs node)
    idle txn e None = ended_keeps node txn.owner.0 (λ same. apart.0 (sym (txn_owner other.0 txn node.txns e) ∙ same)) all
    idle txn e (Some walk) = (all, refl)

    at : (o : Option Txn) → txn_of other.0 node.txns ≡ o → Keeps node (committed_if o theirs node)
    at None e = (all, refl)
    at (Some txn) e = idle txn e txn.current
call_keeps (Rollback other) node others apart all = ended_keeps node other.0 apart all
call_keeps (Publish table chunk) node others free all = absurd others

-- a turn of the tool

abbrev Fine : Moved → Type 0
Fine m = Stands m.tool m.node

abbrev is_walk : ToolPhase → Bool
is_walk Clear = false
is_walk Choose = false
is_walk WalkPhase = true
is_walk Master = false
is_walk (RetriesUsed rollbacks) = false
is_walk Finished = false

phase_of : (phase : ToolPhase) (P : Type 0) → phase ≡ WalkPhase → is_walk phase ≡ false → P
phase_of Clear P e n = absurd (cc)
phase_of Choose P e n = absurd (cc)
phase_of WalkPhase P e n = absurd (let q : true ≡ false = n in cc)
phase_of Master P e n = absurd (cc)
phase_of (RetriesUsed rollbacks) P e n = absurd (cc)
phase_of Finished P e n = absurd (cc)

-- a tool that does not walk
rests : (tool : ToolView) (node : NodeView) → is_walk tool.phase ≡ false → AreClients node.txns → Stands tool node
rests tool node n all = record { clients = all; there = λ e. phase_of tool.phase (is_some (own_txn node) ≡ true) e n }

rolled_rests : (tool : ToolView) → is_walk (rolled_back tool).phase ≡ false
rolled_rests tool = at (nat_lt tool.rollbacks tool.retries)
  where
    at : (b : Bool) → is_walk (cond b (begun_again tool) (given_up tool)).phase ≡ false
    at true = refl
    at false = refl

mastered_rests : (position : ℕ) (tool : ToolView) → is_walk (mastered_tool position tool).phase ≡ false
mastered_rests position tool = at (is_high tool.until)
  where
    behind : (b : Bool) → is_walk (cond b (at_next_table tool) (at_end position tool)).phase ≡ false
    behind true = refl
    behind false = refl

    at : (b : Bool) → is_walk (cond b (behind_table position tool) (at_next_chunk tool)).phase ≡ false
    at true = behind (nat_lt (tool.table + 1) tool.tables)
    at false = refl

choose_stands : (tool : ToolView) (node : NodeView) → own_txn node ≡ None → AreClients node.txns
    → Stands (chosen tool) (after_call (Start tool_owner (check_of tool)) (after_call (Begin tool_owner Client) node))
choose_stands tool node none all = subst (Stands (chosen tool)) (sym (choose_moves tool node none)) (record {
  clients = put_clients (checking tool node) node.txns all refl;
  there = λ e. ap is_some (txn_same (checking tool node) node.txns);
})

commit_stands : (tool : ToolView) (node : NodeView) (txn : Txn) → own_txn node ≡ Some txn → txn.current ≡ None → txn.done ≡ check_of tool ∷ [] → AreClients node.txns → Fine (commit_move tool node)
commit_stands tool node txn found idle done all =
    subst (Stands (walked tool)) (sym (committed_is tool node txn found idle done)) (record { clients = left_clients tool_owner.0 node.txns all; there = λ e. absurd (cc) })

master_stands : (tool : ToolView) (node : NodeView) (row : CheckRow) → AreClients node.txns
    → Stands (mastered_tool (next_position node) tool) (published tool.table tool.chunk (Some row) node)
master_stands tool node row all = rests (mastered_tool (next_position node) tool) (published tool.table tool.chunk (Some row) node) (mastered_rests (next_position node) tool) all

visit_stands : (tool : ToolView) (node : NodeView) (txn : Txn) (walk : Walk) → Stands tool node → own_txn node ≡ Some txn → txn.current ≡ Some walk → Fine (visit_move tool node)
visit_stands tool node txn walk s found current =
    subst (λ (a : VisitAnswer). Stands (after_answer a tool) (after_call (Visit tool_owner) node)) (sym (ap (λ (t : Option Txn). answer_if t node) found ∙ ap (λ (w : Option Walk). answer_in w txn node) current))
    (subst (Stands (after_answer (answer_by excluder txn walk plan node) tool)) (sym (ap (λ (t : Option Txn). visit_if t node) found ∙ ap (λ (w : Option Walk). visited_if w txn node) current))
    (by_excluder excluder))
  where
    plan : Plan
    plan = plan_of node txn walk

    excluder : Option ℕ
    excluder = plan_excluder txn.owner (table_of walk.statement) plan node.held

    own : txn.owner.0 ≡ tool_owner.0
    own = txn_owner tool_owner.0 txn node.txns found

    own_moves : (moved txn walk plan).owner.0 ≡ tool_owner.0
    own_moves = ap (λ (o : Owner). o.0) (own_moved txn walk plan) ∙ own

    steps : Stands tool (visited txn walk plan node)
    steps = record {
      clients = put_clients (moved txn walk plan) node.txns s.clients (moved_part txn walk plan ∙ s.clients tool_owner.0 txn found);
      there = λ e. ap is_some (ap (λ (o : ℕ). txn_of o (with_txn (moved txn walk plan) node.txns)) (sym own_moves) ∙ txn_same (moved txn walk plan) node.txns);
    }

    waits : (by : ℕ) (cycle : Option (List ℕ)) → cycle_of node txn.owner.0 ≡ cycle → Stands (after_answer (answer_wait cycle by txn.owner.0 node) tool) (after_wait cycle txn.owner.0 node)
    waits by None closed = s
    waits by (Some cycle) closed =
        let v = victim_of node.txns txn.owner.0 cycle in
        subst (λ (b : Bool). Stands (cond b (rolled_back tool) tool) (ended v node))
        (sym (is_number v tool_owner.0 (victim_is node tool_owner.0 txn cycle s.clients found closed ∙ own)))
        (rests (rolled_back tool) (ended v node) (rolled_rests tool) (left_clients v node.txns s.clients))

    by_excluder : (ex : Option ℕ) → Stands (after_answer (answer_by ex txn walk plan node) tool) (visited_unless ex txn walk plan node)
    by_excluder (Some by) = waits by (cycle_of node txn.owner.0) refl
    by_excluder None = subst (λ (t : ToolView). Stands t (visited txn walk plan node)) (calm tool (duplicate_key (is_duplicate txn.part walk.statement plan) plan.on_key) plan.ends) steps

stands_at : (tool : ToolView) (node : NodeView) (spans : List Span) (phase : ToolPhase) (txn : Option Txn) → tool.phase ≡ phase → own_txn node ≡ txn
    → Staged phase tool spans (check_at tool.table tool.chunk (checks_of node)) (own_txn node) → Stands tool node → Fine (move_at phase txn tool node)
stands_at tool node spans Clear None e found s st = record { clients = st.clients; there = λ e. absurd (cc) }
stands_at tool node spans Clear (Some txn) e found s st = absurd (let q : Some txn ≡ None = sym found ∙ s.txn in cc)
stands_at tool node spans Choose None e found s st = choose_stands tool node found st.clients
stands_at tool node spans Choose (Some txn) e found s st = absurd (let q : Some txn ≡ None = sym found ∙ s.txn in cc)
stands_at tool node spans Master None e found s st =
    subst (λ (o : Option CheckRow). Fine (master_move o tool node)) (sym s.row.is)
    (subst (Stands (mastered_tool (next_position node) tool)) (sym (ap (λ (o : Option CheckRow). published tool.table tool.chunk o node) s.row.is)) (master_stands tool node s.row.row st.clients))
stands_at tool node spans Master (Some txn) e found s st = absurd (let q : Some txn ≡ None = sym found ∙ s.txn in cc)
stands_at tool node spans (RetriesUsed rollbacks) txn e found s st = st
stands_at tool node spans Finished txn e found s st = st
stands_at tool node spans WalkPhase None e found s st = absurd (let q : false ≡ true = sym (ap is_some found) ∙ st.there e in cc)
stands_at tool node spans WalkPhase (Some txn) e found s st = at txn.current refl
  where
    at : (w : Option Walk) → txn.current ≡ w → Fine (begun_at w true WalkPhase tool node)
    at None idle = commit_stands tool node txn found idle (done_is txn.done (check_of tool) (subst (λ (w : Option Walk). Checking txn.done w (check_of tool)) idle (subst (λ (o : Option Txn). Walking o (check_of tool)) found s.txn))) st.clients
    at (Some walk) current = visit_stands tool node txn walk st found current

turn_stands : (tool : ToolView) (node : NodeView) → Holds tool node → Stands tool node → Fine (next_move tool node)
turn_stands tool node h s =
    subst Fine (ap (λ (m : Moved). cond (is_over tool.phase) (idle_move tool.phase tool node) m) (begun_same (walk_of tool_owner.0 node.txns) tool node))
    (stands_at tool node (h.spans tool.table) tool.phase (own_txn node) refl refl h.staged s)

event_stands : (event : Event) (course : Course) → EventFits event → EventApart event → Holds course.tool course.node → Stands course.tool course.node
    → Stands (after_event event course).tool (after_event event course).node
event_stands Own course fits apart h s = turn_stands course.tool course.node h s
event_stands (Other call) course fits apart h s = kept_stands course.tool course.node (after_call call course.node) s (call_keeps call course.node fits apart s.clients)

events_stand : (events : List Event) (course : Course) → AllByRecursion EventFits events → AllByRecursion EventApart events → Holds course.tool course.node → Stands course.tool course.node
    → Stands (after_events events course).tool (after_events events course).node
events_stand [] course fits apart h s = s
events_stand (event ∷ events) course fits apart h s =
    events_stand events (after_event event course) fits.1 apart.1 (event_holds event course fits.0 h) (event_stands event course fits.0 apart.0 h s)

-- and then no turn is Victim

master_turn : (tool : ToolView) (node : NodeView) (found : Option CheckRow) → (master_move found tool node).turn ≢ Victim
master_turn tool node None e = absurd (cc)
master_turn tool node (Some row) e = absurd (cc)

idle_turn : (tool : ToolView) (node : NodeView) (phase : ToolPhase) → (phase ≡ WalkPhase → ⊥) → (idle_move phase tool node).turn ≢ Victim
idle_turn tool node Clear n e = absurd (cc)
idle_turn tool node Choose n e = absurd (cc)
idle_turn tool node WalkPhase n e = n refl
idle_turn tool node Master n e = master_turn tool node (check_at tool.table tool.chunk (checks_of node)) e
idle_turn tool node (RetriesUsed rollbacks) n e = absurd (cc)
idle_turn tool node Finished n e = absurd (cc)

begun_turn : (tool : ToolView) (node : NodeView) (walk : Option Walk) (begun : Bool) (phase : ToolPhase) → (begun ≡ false → phase ≡ WalkPhase → ⊥) → (begun_at walk begun phase tool node).turn ≢ Victim
begun_turn tool node (Some walk) begun phase n e = absurd (cc)
begun_turn tool node None true phase n e = absurd (cc)
begun_turn tool node None false phase n e = idle_turn tool node phase (n refl) e

move_turn : (tool : ToolView) (node : NodeView) (phase : ToolPhase) (txn : Option Txn) → (phase ≡ WalkPhase → is_some txn ≡ true) → (move_at phase txn tool node).turn ≢ Victim
move_turn tool node Clear txn there = begun_turn tool node (option_and_then (λ (t : Txn). t.current) txn) (is_some txn) Clear (λ n w. absurd (cc))
move_turn tool node Choose txn there = begun_turn tool node (option_and_then (λ (t : Txn). t.current) txn) (is_some txn) Choose (λ n w. absurd (cc))
move_turn tool node WalkPhase txn there =
    begun_turn tool node (option_and_then (λ (t : Txn). t.current) txn) (is_some txn) WalkPhase (λ n w. absurd (let q : true ≡ false = sym (there refl) ∙ n in cc))
move_turn tool node Master txn there = begun_turn tool node (option_and_then (λ (t : Txn). t.current) txn) (is_some txn) Master (λ n w. absurd (cc))
move_turn tool node (RetriesUsed rollbacks) txn there = idle_turn tool node (RetriesUsed rollbacks) (λ w. absurd (cc))
move_turn tool node Finished txn there = idle_turn tool node Finished (λ w. absurd (cc))

not_victim : (tool : ToolView) (node : NodeView) → Stands tool node → (next_move tool node).turn ≢ Victim
not_victim tool node s =
    subst (λ (m : Moved). m.turn ≢ Victim) (ap (λ (m : Moved). cond (is_over tool.phase) (idle_move tool.phase tool node) m) (begun_same (walk_of tool_owner.0 node.txns) tool node))
    (move_turn tool node tool.phase (own_txn node) s.there)

first_stands : (tables : ℕ) (kind : DigestKind) (retries : ℕ) (schemas : List Schema) (start : TableRows) → Stands (new_tool tables kind retries) (fresh_node schemas start)
first_stands tables kind retries schemas start = record { clients = λ a txn found. absurd (let q : None ≡ Some txn = found in cc); there = λ e. absurd (cc) }

pub no_victim : ToolIsNoVictim
no_victim tables kind retries schemas start events some fits apart =
    let first : Course = record { tool = new_tool tables kind retries; node = fresh_node schemas start } in
    let last : Course = after_events events first in
    not_victim last.tool last.node (events_stand events first fits apart (at_first tables kind retries schemas start some) (first_stands tables kind retries schemas start))
