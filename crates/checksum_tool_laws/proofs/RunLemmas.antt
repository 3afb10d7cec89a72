-- What holds after each turn and each call of others, and so always.
use Rattle.std.proofs.Common.{◌≡◌, ◌∙◌, ℕ, ◌≤◌, Bool, true, false, cond, List, [], ◌∷◌, Option, None, Some, refl, ap, sym, subst, arith}
use Rattle.std.specs.Prelude.{is_some, option_and_then}
use Rattle.std.specs.List.{AllByRecursion}
use Rattle.row_types.specs.declared.digests.DigestKind.{DigestKind}
use Rattle.row_types.specs.declared.table_schema.Schema.{Schema}
use Rattle.row_types.specs.KeyRows.{TableRows}
use Rattle.ptc_statement.specs.declared.statements.Statement.{Statement}
use Rattle.checksum_table.specs.Checks.{check_at}
use Rattle.node_model.specs.declared.txns.Walk.{Walk}
use Rattle.node_model.specs.declared.txns.Txn.{Txn}
use Rattle.node_model.specs.Node.{NodeView}
use Rattle.node_model.specs.Calls.{after_call, fresh_node}
use Rattle.node_parts.specs.Views.{walk_of}
use Rattle.checksum_tool.specs.declared.phases.ToolPhase.{ToolPhase}
use Rattle.checksum_tool.specs.declared.phases.ToolPhase.TheVariants.{Clear, Choose, Walk as WalkPhase, Master, RetriesUsed, Finished}
use Rattle.checksum_tool.specs.Tools.{ToolView, tool_owner, new_tool, is_over, check_of}
use Rattle.checksum_tool.specs.Moves.{Moved, visit_move, commit_move, idle_move, rested_move, begun_move, next_move}
use Rattle.checksum_tool_laws.specs.Courses.{Event, Own, Other, Course, EventFits, after_event, after_events}
use Rattle.checksum_tool_laws.specs.Told.{checks_of, ToolCovers}
use Rattle.checksum_tool_laws.proofs.ListLemmas.{span_empty}
use Rattle.checksum_tool_laws.proofs.CallLemmas.{others_leave}
use Rattle.checksum_tool_laws.proofs.HoldLemmas.{Checking, Walking, Staged, Holds, call_holds, told}
use Rattle.checksum_tool_laws.proofs.TurnLemmas.{Good, own_txn, Told, clear_good, choose_good, rolled_holds, visit_good, commit_good, done_is}
use Rattle.checksum_tool_laws.proofs.MasterLemmas.{master_good}

-- the next move by the tool's phase and its transaction

abbrev pub begun_at : Option Walk → Bool → ToolPhase → ToolView → NodeView → Moved
begun_at (Some walk) begun phase tool node = visit_move tool node
begun_at None true phase tool node = commit_move tool node
begun_at None false phase tool node = idle_move phase tool node

abbrev pub move_at : ToolPhase → Option Txn → ToolView → NodeView → Moved
move_at phase txn tool node = cond (is_over phase) (idle_move phase tool node) (begun_at (option_and_then (λ (t : Txn). t.current) txn) (is_some txn) phase tool node)

pub begun_same : (walk : Option Walk) (tool : ToolView) (node : NodeView) → begun_at walk (is_some (own_txn node)) tool.phase tool node ≡ begun_move walk tool node
begun_same (Some walk) tool node = refl
begun_same None tool node = at (is_some (own_txn node))
  where
    at : (b : Bool) → begun_at None b tool.phase tool node ≡ rested_move b tool node
    at true = refl
    at false = refl

not_idle : (txn : Txn) → Some txn ≡ None → ⊥
not_idle txn e = absurd (let q : Some txn ≡ None = e in cc)

checks_walk : (done : List Statement) (walk : Walk) (check : Statement) → Checking done (Some walk) check → (done ≡ []) × (walk.statement ≡ check)
checks_walk [] walk check c = (refl, c)
checks_walk (statement ∷ []) walk check c = absurd c
checks_walk (statement ∷ other ∷ others) walk check c = absurd c

turn_at : (tool : ToolView) (node : NodeView) (h : Holds tool node) (phase : ToolPhase) (txn : Option Txn) → tool.phase ≡ phase → own_txn node ≡ txn → Told h.spans phase tool node
    → Staged phase tool (h.spans tool.table) (check_at tool.table tool.chunk (checks_of node)) (own_txn node) → Good (move_at phase txn tool node)
turn_at tool node h Clear None e found entries s = clear_good h.spans tool node h.core entries h.log s
turn_at tool node h Clear (Some txn) e found entries s = absurd (not_idle txn (sym found ∙ s.txn))
turn_at tool node h Choose None e found entries s = choose_good h.spans tool node h.core entries h.log s
turn_at tool node h Choose (Some txn) e found entries s = absurd (not_idle txn (sym found ∙ s.txn))
turn_at tool node h Master None e found entries s = master_good h.spans tool node (record { core = h.core; entries = entries; log = h.log; at = s })
turn_at tool node h Master (Some txn) e found entries s = absurd (not_idle txn (sym found ∙ s.txn))
turn_at tool node h (RetriesUsed rollbacks) txn e found entries s = h
turn_at tool node h Finished txn e found entries s = h
turn_at tool node h WalkPhase None e found entries s = rolled_holds h.spans tool node h.core entries h.log s.number s.reaches found
turn_at tool node h WalkPhase (Some txn) e found entries s = at txn.current refl walking
  where
    walking : Checking txn.done txn.current (check_of tool)
    walking = subst (λ (o : Option Txn). Walking o (check_of tool)) found s.txn

    at : (w : Option Walk) → txn.current ≡ w → Checking txn.done w (check_of tool) → Good (begun_at w true WalkPhase tool node)
    at None rests c = commit_good h.spans tool node txn h.core entries h.log s found rests (done_is txn.done (check_of tool) c)
    at (Some walk) current c =
        let is = checks_walk txn.done walk (check_of tool) c in
        visit_good h.spans tool node txn walk e h h.core entries s found current is.0 is.1

pub turn_holds : (tool : ToolView) (node : NodeView) → Holds tool node → Good (next_move tool node)
turn_holds tool node h =
    subst Good (ap (λ (m : Moved). cond (is_over tool.phase) (idle_move tool.phase tool node) m) (begun_same (walk_of tool_owner.0 node.txns) tool node))
    (turn_at tool node h tool.phase (own_txn node) refl refl h.entries h.staged)

pub event_holds : (event : Event) (course : Course) → EventFits event → Holds course.tool course.node → Holds (after_event event course).tool (after_event event course).node
event_holds Own course fits h = turn_holds course.tool course.node h
event_holds (Other call) course fits h = call_holds course.tool course.node (after_call call course.node) h (others_leave call course.node fits h.core.others h.log)

pub events_hold : (events : List Event) (course : Course) → AllByRecursion EventFits events → Holds course.tool course.node → Holds (after_events events course).tool (after_events events course).node
events_hold [] course fits h = h
events_hold (event ∷ events) course fits h = events_hold events (after_event event course) fits.1 (event_holds event course fits.0 h)

-- at first

pub at_first : (tables : ℕ) (kind : DigestKind) (retries : ℕ) (schemas : List Schema) (start : TableRows) → 1 ≤ tables → Holds (new_tool tables kind retries) (fresh_node schemas start)
at_first tables kind retries schemas start some = record {
  spans = λ t. [];
  core = record {
    behind = λ t within. absurd (omega arith);
    ahead = λ t within. refl;
    rows = λ t c. sym (span_empty c);
    begins = refl;
    others = λ a txn apart found. absurd (let q : None ≡ Some txn = found in cc);
    within = omega arith;
  };
  entries = refl;
  log = record { written = tt; masters = tt };
  staged = record { none = refl; number = refl; after = refl; txn = refl };
}

pub tool_covers : ToolCovers
tool_covers tables kind retries schemas start events some fits =
    let last : Course = after_events events (record { tool = new_tool tables kind retries; node = fresh_node schemas start }) in
    told last.tool last.node (events_hold events (record { tool = new_tool tables kind retries; node = fresh_node schemas start }) fits (at_first tables kind retries schemas start some))
