-- The checksum tool: where it is, and how it goes on from chunk to chunk and from table to table.
use Rattle.std.specs.Prelude.{ℕ, ◌+◌, nat_lt, Bool, true, false, cond, Option, None, Some}
use Rattle.row_types.specs.declared.edges.Edge.{Edge}
use Rattle.row_types.specs.declared.edges.Edge.TheVariants.{Low, Before, After, High}
use Rattle.row_types.specs.declared.edges.Span.{Span}
use Rattle.row_types.specs.declared.digests.DigestKind.{DigestKind}
use Rattle.ptc_statement.specs.declared.statements.Statement.{Statement}
use Rattle.ptc_statement.specs.declared.statements.Statement.TheVariants.{Check}
use Rattle.lock_table.specs.declared.wants.Owner.{Owner}
use Rattle.checksum_tool.specs.declared.phases.ToolPhase.{ToolPhase}
use Rattle.checksum_tool.specs.declared.phases.ToolPhase.TheVariants.{Clear, Choose, Walk, Master, RetriesUsed, Finished}

pub record ToolView : Type 0 where
  -- how many tables there are, which digest checksums are made of, and how often a chunk is begun again at most
  pub tables : ℕ
  pub kind : DigestKind
  pub retries : ℕ
  pub phase : ToolPhase
  -- the table, from 0, and the chunk of it, from 1
  pub table : ℕ
  pub chunk : ℕ
  -- where the chunk begins and, once it is chosen, where it ends
  pub after : Edge
  pub until : Edge
  -- how often the chunk was rolled back
  pub rollbacks : ℕ
  -- the position of the last entry, once the tool is finished
  pub ended : Option ℕ

-- the tool has this number as an owner
abbrev pub tool_owner : Owner
tool_owner = record { 0 = 100 }

abbrev pub new_tool : ℕ → DigestKind → ℕ → ToolView
new_tool tables kind retries = record {
  tables = tables;
  kind = kind;
  retries = retries;
  phase = Clear;
  table = 0;
  chunk = 1;
  after = Low;
  until = Low;
  rollbacks = 0;
  ended = None;
}

-- The span of the next chunk, which begins at this edge: up to the end of the table, so that a table is one chunk.
abbrev pub next_span : Edge → Span
next_span after = record { lo = after; hi = High }

abbrev pub span_of : ToolView → Span
span_of tool = next_span tool.after

-- the CHECKSUM of the tool's chunk
abbrev pub check_of : ToolView → Statement
check_of tool = Check tool.table tool.chunk (span_of tool) tool.kind

-- whether no row of a table is behind an edge
abbrev pub is_high : Edge → Bool
is_high Low = false
is_high (Before key) = false
is_high (After key) = false
is_high High = true

-- whether the tool makes no further move
abbrev pub is_over : ToolPhase → Bool
is_over Clear = false
is_over Choose = false
is_over Walk = false
is_over Master = false
is_over (RetriesUsed rollbacks) = true
is_over Finished = true

-- From phase to phase.

abbrev pub cleared_tool : ToolView → ToolView
cleared_tool tool = record tool { phase = Choose }

abbrev pub chosen : ToolView → ToolView
chosen tool = record tool { phase = Walk; until = (span_of tool).hi }

abbrev pub walked : ToolView → ToolView
walked tool = record tool { phase = Master }

-- the next chunk begins where the last one ended
abbrev pub at_next_chunk : ToolView → ToolView
at_next_chunk tool = record tool { phase = Choose; chunk = tool.chunk + 1; after = tool.until; until = Low; rollbacks = 0 }

abbrev pub at_next_table : ToolView → ToolView
at_next_table tool = record tool { phase = Clear; table = tool.table + 1; chunk = 1; after = Low; until = Low; rollbacks = 0 }

abbrev pub at_end : ℕ → ToolView → ToolView
at_end position tool = record tool { phase = Finished; ended = Some position }

-- behind a table
abbrev pub behind_table : ℕ → ToolView → ToolView
behind_table position tool = cond (nat_lt (tool.table + 1) tool.tables) (at_next_table tool) (at_end position tool)

-- behind a chunk whose master stands at this position
abbrev pub mastered_tool : ℕ → ToolView → ToolView
mastered_tool position tool = cond (is_high tool.until) (behind_table position tool) (at_next_chunk tool)

-- the same chunk is chosen again
abbrev pub begun_again : ToolView → ToolView
begun_again tool = record tool { phase = Choose; rollbacks = tool.rollbacks + 1 }

abbrev pub given_up : ToolView → ToolView
given_up tool = record tool { phase = RetriesUsed (tool.rollbacks + 1) }

-- a chunk that was rolled back is begun again so many times at most
abbrev pub rolled_back : ToolView → ToolView
rolled_back tool = cond (nat_lt tool.rollbacks tool.retries) (begun_again tool) (given_up tool)
