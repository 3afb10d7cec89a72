-- CLEARCHECKS in a transaction of its own: all that it leaves of the node is its entry.
use Rattle.std.proofs.Common.{◌≡◌, ◌∙◌, inl, inr, ℕ, ◌==◌, Bool, true, false, not, cond, List, [], ◌∷◌, ◌++◌, Option, None, Some, refl, ap, sym, subst}
use Rattle.std.specs.Prelude.{IsSome}
use Rattle.std.specs.List.{slice_get}
use Rattle.std.specs.Option.{option_map_or}
use Rattle.row_types.specs.declared.table_schema.Schema.{Schema}
use Rattle.ptc_statement.specs.declared.statements.Statement.TheVariants.{ClearChecks}
use Rattle.statement_log.specs.declared.origins.Origin.TheVariants.{Checksum}
use Rattle.txn_walk.specs.declared.plans.Plan.{Plan}
use Rattle.txn_walk.specs.Plans.{next_visit}
use Rattle.lock_table.specs.declared.wants.Want.{Want}
use Rattle.lock_table.specs.declared.wants.Holding.{Holding}
use Rattle.lock_table.specs.Locks.{released, Holds}
use Rattle.lock_table.proofs.HoldLemmas.{is_number, number_is}
use Rattle.node_model.specs.declared.parts.Part.TheVariants.{Client}
use Rattle.node_model.specs.declared.txns.Walk.{Walk}
use Rattle.node_model.specs.declared.txns.Txn.{Txn}
use Rattle.node_model.specs.Txns.{txn_of, with_txn, without_txn}
use Rattle.node_model.specs.Node.{NodeView, begun, ended, start_of, stops, is_live, empty_plan, plan_excluder, with_entries}
use Rattle.node_model.specs.Kept.{IsKept}
use Rattle.node_model.specs.Waits.{visited_unless}
use Rattle.node_model.specs.Calls.{after_call, started_if, visit_if, committed_if, Start as StartCall, Visit as VisitCall, Commit as CommitCall}
use Rattle.node_model.proofs.TxnLemmas.{txn_same, with_twice}
use Rattle.node_parts.specs.Views.{IsIdle}
use Rattle.node_engine.specs.Commits.{answer_written, commit_answer}
use Rattle.checksum_tool.specs.Tools.{tool_owner}
use Rattle.checksum_tool.specs.Clears.{tool_txn, begun_txn, cleared_txn, visited_clear, logged_clear}
use Rattle.checksum_tool.specs.Moves.{clear_entry, next_position}

-- an owner without a transaction holds nothing

without_none : (owner : ℕ) (txns : List Txn) → txn_of owner txns ≡ None → without_txn owner txns ≡ txns
without_none owner [] none = refl
without_none owner (txn ∷ txns) none = at (txn.owner.0 == owner) none (λ e. without_none owner txns e)
  where
    at : (b : Bool) → cond b (Some txn) (txn_of owner txns) ≡ None → (txn_of owner txns ≡ None → without_txn owner txns ≡ txns)
        → cond (not b) (txn ∷ without_txn owner txns) (without_txn owner txns) ≡ txn ∷ txns
    at true e more = absurd (let q : Some txn ≡ None = e in cc)
    at false e more = ap (λ (ts : List Txn). txn ∷ ts) (more e)

without_with : (owner : ℕ) (new : Txn) (txns : List Txn) → new.owner.0 ≡ owner → without_txn owner (with_txn new txns) ≡ without_txn owner txns
without_with owner new [] own = ap (λ (b : Bool). cond (not b) (new ∷ []) []) (is_number new.owner.0 owner own)
without_with owner new (other ∷ others) own = at (other.owner.0 == new.owner.0) refl (without_with owner new others own)
  where
    at : (b : Bool) → (other.owner.0 == new.owner.0) ≡ b → without_txn owner (with_txn new others) ≡ without_txn owner others
        → without_txn owner (cond b (new ∷ others) (other ∷ with_txn new others)) ≡ without_txn owner (other ∷ others)
    at true e more =
        ap (λ (b : Bool). cond (not b) (new ∷ without_txn owner others) (without_txn owner others)) (is_number new.owner.0 owner own)
        ∙ sym (ap (λ (b : Bool). cond (not b) (other ∷ without_txn owner others) (without_txn owner others)) (is_number other.owner.0 owner (number_is other.owner.0 new.owner.0 e ∙ own)))
    at false e more = ap (λ (ts : List Txn). cond (not (other.owner.0 == owner)) (other ∷ ts) ts) more

released_none : (owner : ℕ) (held : List Holding) → ((table : ℕ) (want : Want) → Holds owner table want held → ⊥) → released owner held ≡ held
released_none owner [] none = refl
released_none owner (holding ∷ held) none = at (holding.owner.0 == owner) refl (released_none owner held (λ table want h. none table want (inr h)))
  where
    at : (b : Bool) → (holding.owner.0 == owner) ≡ b → released owner held ≡ held
        → cond (not b) (holding ∷ released owner held) (released owner held) ≡ holding ∷ held
    at true e more = absurd (none holding.table holding.want (inl (number_is holding.owner.0 owner e, refl, refl)))
    at false e more = ap (λ (hs : List Holding). holding ∷ hs) more

holds_nothing : (owner : ℕ) (node : NodeView) → IsKept node → txn_of owner node.txns ≡ None → released owner node.held ≡ node.held
holds_nothing owner node kept none = released_none owner node.held (λ table want h. nobody (subst IsSome none (kept.facts.owned owner table want h)))
  where
    nobody : IsSome {T = Txn} None → ⊥
    nobody there = absurd (let q : false ≡ true = there in cc)

-- a transaction that is begun and ended again leaves the node

left_with : (node : NodeView) (txn : Txn) → txn.owner.0 ≡ tool_owner.0 → IsKept node → txn_of tool_owner.0 node.txns ≡ None
    → without_txn tool_owner.0 (with_txn txn node.txns) ≡ node.txns
left_with node txn own kept none = without_with tool_owner.0 txn node.txns own ∙ without_none tool_owner.0 node.txns none

pub taken_back : (node : NodeView) → IsKept node → txn_of tool_owner.0 node.txns ≡ None → ended tool_owner.0 (begun tool_owner Client node) ≡ node
taken_back node kept none =
    ap (λ (ts : List Txn). record node { txns = ts; held = released tool_owner.0 node.held }) (left_with node begun_txn refl kept none)
    ∙ ap (λ (hs : List Holding). record node { held = hs }) (holds_nothing tool_owner.0 node kept none)

-- CLEARCHECKS in the transaction that was begun

pub begun_there : (node : NodeView) → txn_of tool_owner.0 (begun tool_owner Client node).txns ≡ Some begun_txn
begun_there node = txn_same begun_txn node.txns

pub idle_there : (node : NodeView) → txn_of tool_owner.0 node.txns ≡ Some begun_txn → IsIdle tool_owner.0 node
idle_there node found = record { txn = begun_txn; found = found; idle = refl }

abbrev walk_at : ℕ → NodeView → Walk
walk_at table node = record { statement = ClearChecks table; cursor = start_of node.schemas (ClearChecks table) }

abbrev walking : ℕ → NodeView → Txn
walking table node = tool_txn [] (Some (walk_at table node))

started_is : (table : ℕ) (node : NodeView) → txn_of tool_owner.0 node.txns ≡ Some begun_txn
    → after_call (StartCall tool_owner (ClearChecks table)) node ≡ record node { txns = with_txn (walking table node) node.txns }
started_is table node found = ap (λ (o : Option Txn). started_if o (ClearChecks table) node) found

-- its visit takes nothing and is done
done_at_once : (table : ℕ) (node : NodeView)
    → visit_if (Some (walking table node)) (record node { txns = with_txn (walking table node) node.txns })
    ≡ record node { txns = with_txn (cleared_txn table) (with_txn (walking table node) node.txns) }
done_at_once table node = at (slice_get node.schemas table)
  where
    here : NodeView
    here = record node { txns = with_txn (walking table node) node.txns }

    plan : Option Schema → Plan
    plan o = option_map_or (λ (schema : Schema). next_visit schema (ClearChecks table) (walk_at table node).cursor (stops here tool_owner.0 table) (is_live here table)) o (empty_plan (walk_at table node).cursor)

    at : (o : Option Schema) → visited_unless (plan_excluder tool_owner table (plan o) here.held) (walking table node) (walk_at table node) (plan o) here
        ≡ record here { txns = with_txn (cleared_txn table) here.txns }
    at None = refl
    at (Some schema) = refl

pub visited_is : (table : ℕ) (node : NodeView) → txn_of tool_owner.0 node.txns ≡ Some begun_txn
    → visited_clear table node ≡ record node { txns = with_txn (cleared_txn table) node.txns }
visited_is table node found =
    ap (after_call (VisitCall tool_owner)) (started_is table node found)
    ∙ ap (λ (o : Option Txn). visit_if o (record node { txns = with_txn (walking table node) node.txns })) (txn_same (walking table node) node.txns)
    ∙ done_at_once table node
    ∙ ap (λ (ts : List Txn). record node { txns = ts }) (with_twice (cleared_txn table) (walking table node) node.txns refl)

cleared_there : (table : ℕ) (node : NodeView) → txn_of tool_owner.0 node.txns ≡ Some begun_txn
    → txn_of tool_owner.0 (visited_clear table node).txns ≡ Some (cleared_txn table)
cleared_there table node found =
    ap (λ (n : NodeView). txn_of tool_owner.0 n.txns) (visited_is table node found) ∙ txn_same (cleared_txn table) node.txns

pub cleared_idle : (table : ℕ) (node : NodeView) → txn_of tool_owner.0 node.txns ≡ Some begun_txn → IsIdle tool_owner.0 (visited_clear table node)
cleared_idle table node found = record { txn = cleared_txn table; found = cleared_there table node found; idle = refl }

-- ended, it leaves what the transaction's end leaves
pub cleared_ended : (table : ℕ) (node : NodeView) → txn_of tool_owner.0 node.txns ≡ Some begun_txn
    → ended tool_owner.0 (visited_clear table node) ≡ ended tool_owner.0 node
cleared_ended table node found =
    ap (ended tool_owner.0) (visited_is table node found)
    ∙ ap (λ (ts : List Txn). record node { txns = ts; held = released tool_owner.0 node.held }) (without_with tool_owner.0 (cleared_txn table) node.txns refl)

pub cleared_answer : (table : ℕ) (node : NodeView) → txn_of tool_owner.0 node.txns ≡ Some begun_txn
    → commit_answer tool_owner.0 Checksum (visited_clear table node) ≡ Some (next_position node)
cleared_answer table node found =
    ap (λ (n : NodeView). commit_answer tool_owner.0 Checksum n) (visited_is table node found)
    ∙ ap (λ (o : Option Txn). answer_written Checksum o (record node { txns = with_txn (cleared_txn table) node.txns })) (txn_same (cleared_txn table) node.txns)

committed_is : (table : ℕ) (node : NodeView) → txn_of tool_owner.0 node.txns ≡ Some begun_txn
    → logged_clear table node ≡ ended tool_owner.0 (with_entries (clear_entry table ∷ []) (record node { txns = with_txn (cleared_txn table) node.txns }))
committed_is table node found =
    ap (after_call (CommitCall tool_owner Checksum)) (visited_is table node found)
    ∙ ap (λ (o : Option Txn). committed_if o Checksum (record node { txns = with_txn (cleared_txn table) node.txns })) (txn_same (cleared_txn table) node.txns)

-- logged in a transaction of its own it is one entry more
pub cleared_at_once : (table : ℕ) (node : NodeView) → IsKept node → txn_of tool_owner.0 node.txns ≡ None
    → logged_clear table (begun tool_owner Client node) ≡ with_entries (clear_entry table ∷ []) node
cleared_at_once table node kept none =
    committed_is table (begun tool_owner Client node) (begun_there node)
    ∙ ap (λ (ts : List Txn). record node { history = node.history ++ clear_entry table ∷ []; txns = ts; held = released tool_owner.0 node.held })
    (without_with tool_owner.0 (cleared_txn table) (with_txn begun_txn node.txns) refl ∙ left_with node begun_txn refl kept none)
    ∙ ap (λ (hs : List Holding). record node { history = node.history ++ clear_entry table ∷ []; held = hs }) (holds_nothing tool_owner.0 node kept none)
