-- What holds of the tool and its node between two moves.
use Rattle.std.proofs.Common.{◌≡◌, ◌≢◌, ◌∙◌, ◌⊎◌, inl, inr, ℕ, ◌+◌, ◌<◌, List, [], ◌∷◌, ◌++◌, Option, None, Some, length, refl, sym, subst, arith}
use Rattle.std.specs.declared.cmp.Ordering.TheVariants.{Less}
use Rattle.row_types.specs.declared.edges.Edge.{Edge}
use Rattle.row_types.specs.declared.edges.Edge.TheVariants.{Low, High}
use Rattle.row_types.specs.declared.edges.Span.{Span}
use Rattle.row_types.specs.Order.{edge_cmp}
use Rattle.ptc_statement.specs.declared.statements.Statement.{Statement}
use Rattle.checksum_table.specs.declared.check_rows.CheckRow.{CheckRow}
use Rattle.checksum_table.specs.declared.check_rows.CheckEntry.{CheckEntry}
use Rattle.checksum_table.specs.Checks.{check_at}
use Rattle.lock_table.proofs.HoldLemmas.{same_or_apart}
use Rattle.node_model.specs.declared.txns.Walk.{Walk}
use Rattle.node_model.specs.declared.txns.Txn.{Txn}
use Rattle.node_model.specs.Txns.{txn_of}
use Rattle.node_model.specs.Node.{NodeView}
use Rattle.checksum_tool.specs.declared.phases.ToolPhase.{ToolPhase}
use Rattle.checksum_tool.specs.declared.phases.ToolPhase.TheVariants.{Clear, Choose, Walk as WalkPhase, Master, RetriesUsed, Finished}
use Rattle.checksum_tool.specs.Tools.{ToolView, tool_owner, span_of, check_of}
use Rattle.checksum_tool_laws.specs.Cover.{Reaches, Cover, mastered_at, span_at}
use Rattle.checksum_tool_laws.specs.Deeds.{deeds_in, tables_deeds, now_deeds}
use Rattle.checksum_tool_laws.specs.Told.{checks_of, reached, tables_behind, Told}
use Rattle.checksum_tool_laws.proofs.CoverLemmas.{whole_once}
use Rattle.checksum_tool_laws.proofs.CallLemmas.{Logged, OthersFit, LeavesTool}

-- the tables before the tool's are covered, those behind it are not begun
pub record Core (spans : ℕ → List Span) (table tables : ℕ) (after : Edge) (checks : List CheckEntry) (txns : List Txn) : Type 0 where
  pub behind : (t : ℕ) → t < table → Reaches Low (spans t) High
  pub ahead : (t : ℕ) → table < t → spans t ≡ []
  pub rows : (t c : ℕ) → mastered_at t c checks ≡ span_at c (spans t)
  pub begins : edge_cmp after High ≡ Less
  pub others : OthersFit txns
  pub within : table < tables

-- the CHECKSUM in progress, or done
abbrev pub Checking : List Statement → Option Walk → Statement → Type 0
Checking [] None check = ⊥
Checking [] (Some walk) check = walk.statement ≡ check
Checking (statement ∷ []) None check = statement ≡ check
Checking (statement ∷ []) (Some walk) check = ⊥
Checking (statement ∷ other ∷ others) current check = ⊥

abbrev pub Walking : Option Txn → Statement → Type 0
Walking None check = Unit {0}
Walking (Some txn) check = Checking txn.done txn.current check

pub record HasRow (found : Option CheckRow) (span : Span) : Type 0 where
  pub row : CheckRow
  pub is : found ≡ Some row
  pub over : row.span ≡ span

pub record Walks (tool : ToolView) (spans : List Span) (here : Option Txn) : Type 0 where
  pub number : tool.chunk ≡ length spans + 1
  pub reaches : Reaches Low spans tool.after
  pub until : tool.until ≡ (span_of tool).hi
  pub txn : Walking here (check_of tool)

pub record Masters (tool : ToolView) (spans : List Span) (found : Option CheckRow) (here : Option Txn) : Type 0 where
  pub number : tool.chunk ≡ length spans + 1
  pub reaches : Reaches Low spans tool.after
  pub until : tool.until ≡ (span_of tool).hi
  pub row : HasRow found (span_of tool)
  pub txn : here ≡ None

pub record Clears (tool : ToolView) (spans : List Span) (here : Option Txn) : Type 0 where
  pub none : spans ≡ []
  pub number : tool.chunk ≡ 1
  pub after : tool.after ≡ Low
  pub txn : here ≡ None

pub record Chooses (tool : ToolView) (spans : List Span) (here : Option Txn) : Type 0 where
  pub number : tool.chunk ≡ length spans + 1
  pub reaches : Reaches Low spans tool.after
  pub txn : here ≡ None

pub record Gives (tool : ToolView) (spans : List Span) (here : Option Txn) : Type 0 where
  pub reaches : Reaches Low spans tool.after
  pub txn : here ≡ None

pub record Ends (tool : ToolView) (spans : List Span) (here : Option Txn) : Type 0 where
  pub reaches : Reaches Low spans High
  pub all : tool.table + 1 ≡ tool.tables
  pub txn : here ≡ None

abbrev pub Staged : ToolPhase → ToolView → List Span → Option CheckRow → Option Txn → Type 0
Staged Clear tool spans found txn = Clears tool spans txn
Staged Choose tool spans found txn = Chooses tool spans txn
Staged WalkPhase tool spans found txn = Walks tool spans txn
Staged Master tool spans found txn = Masters tool spans found txn
Staged (RetriesUsed rollbacks) tool spans found txn = Gives tool spans txn
Staged Finished tool spans found txn = Ends tool spans txn

pub record Holds (tool : ToolView) (node : NodeView) : Type 0 where
  pub spans : ℕ → List Span
  pub core : Core spans tool.table tool.tables tool.after (checks_of node) node.txns
  pub entries : deeds_in node.history ≡ tables_deeds spans tool.table ++ now_deeds tool.phase tool (spans tool.table)
  pub staged : Staged tool.phase tool (spans tool.table) (check_at tool.table tool.chunk (checks_of node)) (txn_of tool_owner.0 node.txns)
  pub log : Logged node.schemas node.start node.history

-- other transactions

pub with_txns : (spans : ℕ → List Span) (table tables : ℕ) (after : Edge) (checks : List CheckEntry) (old new : List Txn) → Core spans table tables after checks old → OthersFit new → Core spans table tables after checks new
with_txns spans table tables after checks old new core fits =
    record { behind = core.behind; ahead = core.ahead; rows = core.rows; begins = core.begins; others = fits; within = core.within }

-- a call of another

without : (phase : ToolPhase) (tool : ToolView) (spans : List Span) (found : Option CheckRow) (txn : Option Txn) → Staged phase tool spans found txn → Staged phase tool spans found None
without Clear tool spans found txn s = record { none = s.none; number = s.number; after = s.after; txn = refl }
without Choose tool spans found txn s = record { number = s.number; reaches = s.reaches; txn = refl }
without WalkPhase tool spans found txn s = record { number = s.number; reaches = s.reaches; until = s.until; txn = tt }
without Master tool spans found txn s = record { number = s.number; reaches = s.reaches; until = s.until; row = s.row; txn = refl }
without (RetriesUsed rollbacks) tool spans found txn s = record { reaches = s.reaches; txn = refl }
without Finished tool spans found txn s = record { reaches = s.reaches; all = s.all; txn = refl }

pub call_holds : (tool : ToolView) (node new : NodeView) → Holds tool node → LeavesTool node new → Holds tool new
call_holds tool node new h leaves = record {
  spans = h.spans;
  core = with_txns h.spans tool.table tool.tables tool.after (checks_of new) node.txns new.txns
      (subst (λ (checks : List CheckEntry). Core h.spans tool.table tool.tables tool.after checks node.txns) (sym leaves.checks) h.core) leaves.others;
  entries = leaves.deeds ∙ h.entries;
  log = leaves.log;
  staged = subst (λ (checks : List CheckEntry). Staged tool.phase tool (h.spans tool.table) (check_at tool.table tool.chunk checks) (txn_of tool_owner.0 new.txns)) (sym leaves.checks) (at leaves.txn);
}
  where
    found : Option CheckRow
    found = check_at tool.table tool.chunk (checks_of node)

    at : (txn_of tool_owner.0 new.txns ≡ txn_of tool_owner.0 node.txns) ⊎ (txn_of tool_owner.0 new.txns ≡ None) → Staged tool.phase tool (h.spans tool.table) found (txn_of tool_owner.0 new.txns)
    at (inl same) = subst (Staged tool.phase tool (h.spans tool.table) found) (sym same) h.staged
    at (inr none) = subst (Staged tool.phase tool (h.spans tool.table) found) (sym none) (without tool.phase tool (h.spans tool.table) found (txn_of tool_owner.0 node.txns) h.staged)

-- what this says

covers : (spans : List Span) (table : ℕ) (checks : List CheckEntry) → ((c : ℕ) → mastered_at table c checks ≡ span_at c spans) → Reaches Low spans High → Cover checks table
covers spans table checks rows whole = record { spans = spans; rows = rows; whole = whole; once = λ key. whole_once key spans whole }

empty_reaches : (tool : ToolView) (spans : List Span) → spans ≡ [] → tool.after ≡ Low → Reaches Low spans tool.after
empty_reaches tool spans none low = subst (λ (ss : List Span). Reaches Low ss tool.after) (sym none) (sym low)

now_reaches : (phase : ToolPhase) (tool : ToolView) (spans : List Span) (found : Option CheckRow) (txn : Option Txn) → Staged phase tool spans found txn → Reaches Low spans (reached phase tool)
now_reaches Clear tool spans found txn s = empty_reaches tool spans s.none s.after
now_reaches Choose tool spans found txn s = s.reaches
now_reaches WalkPhase tool spans found txn s = s.reaches
now_reaches Master tool spans found txn s = s.reaches
now_reaches (RetriesUsed rollbacks) tool spans found txn s = s.reaches
now_reaches Finished tool spans found txn s = s.reaches

behind_covers : (tool : ToolView) (node : NodeView) (h : Holds tool node) (phase : ToolPhase) → Staged phase tool (h.spans tool.table) (check_at tool.table tool.chunk (checks_of node)) (txn_of tool_owner.0 node.txns)
    → (table : ℕ) → table < tables_behind phase tool → Cover (checks_of node) table
behind_covers tool node h Clear s table within = covers (h.spans table) table (checks_of node) (h.core.rows table) (h.core.behind table within)
behind_covers tool node h Choose s table within = covers (h.spans table) table (checks_of node) (h.core.rows table) (h.core.behind table within)
behind_covers tool node h WalkPhase s table within = covers (h.spans table) table (checks_of node) (h.core.rows table) (h.core.behind table within)
behind_covers tool node h Master s table within = covers (h.spans table) table (checks_of node) (h.core.rows table) (h.core.behind table within)
behind_covers tool node h (RetriesUsed rollbacks) s table within = covers (h.spans table) table (checks_of node) (h.core.rows table) (h.core.behind table within)
behind_covers tool node h Finished s table within = covers (h.spans table) table (checks_of node) (h.core.rows table) (at (below table tool.table within))
  where
    below : (t n : ℕ) → t < n + 1 → (t ≡ n) ⊎ (t < n)
    below t n less = apart_or (same_or_apart t n)
      where
        apart_or : (t ≡ n) ⊎ (t ≢ n) → (t ≡ n) ⊎ (t < n)
        apart_or (inl same) = inl same
        apart_or (inr apart) = inr (omega arith)

    at : (table ≡ tool.table) ⊎ (table < tool.table) → Reaches Low (h.spans table) High
    at (inl same) = subst (λ (t : ℕ). Reaches Low (h.spans t) High) (sym same) s.reaches
    at (inr less) = h.core.behind table less

all_behind : (phase : ToolPhase) (tool : ToolView) (spans : List Span) (found : Option CheckRow) (txn : Option Txn) → Staged phase tool spans found txn → phase ≡ Finished → tables_behind phase tool ≡ tool.tables
all_behind Clear tool spans found txn s e = absurd (cc)
all_behind Choose tool spans found txn s e = absurd (cc)
all_behind WalkPhase tool spans found txn s e = absurd (cc)
all_behind Master tool spans found txn s e = absurd (cc)
all_behind (RetriesUsed rollbacks) tool spans found txn s e = absurd (cc)
all_behind Finished tool spans found txn s e = s.all

pub told : (tool : ToolView) (node : NodeView) → Holds tool node → Told tool node
told tool node h = record {
  spans = h.spans;
  rows = h.core.rows;
  now = now_reaches tool.phase tool (h.spans tool.table) (check_at tool.table tool.chunk (checks_of node)) (txn_of tool_owner.0 node.txns) h.staged;
  entries = h.entries;
  written = h.log.written;
  masters = h.log.masters;
  cover = behind_covers tool node h tool.phase h.staged;
  all = all_behind tool.phase tool (h.spans tool.table) (check_at tool.table tool.chunk (checks_of node)) (txn_of tool_owner.0 node.txns) h.staged;
}
