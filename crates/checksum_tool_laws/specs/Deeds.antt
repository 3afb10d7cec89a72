-- What the entries of the checksum tool do, in short, and what they do in which order.
use Rattle.std.specs.Prelude.{ℕ, zero, suc, ◌+◌, map, filter, List, [], ◌∷◌, ◌++◌}
use Rattle.row_types.specs.declared.edges.Span.{Span}
use Rattle.ptc_statement.specs.declared.statements.Statement.{Statement}
use Rattle.ptc_statement.specs.declared.statements.Statement.TheVariants.{Insert, Replace, Delete, Update, LockRead, Check, SetMaster, ClearChecks}
use Rattle.statement_log.specs.declared.entries.Entry.{Entry}
use Rattle.checksum_tool.specs.declared.phases.ToolPhase.{ToolPhase}
use Rattle.checksum_tool.specs.declared.phases.ToolPhase.TheVariants.{Clear, Choose, Walk, Master, RetriesUsed, Finished}
use Rattle.checksum_tool.specs.Tools.{ToolView, span_of}
use Rattle.checksum_tool_laws.specs.Courses.{is_tools}

pub data Deed : Type 0 where
  Clears : (table : ℕ) → Deed
  Checks : (table chunk : ℕ) → (span : Span) → Deed
  Masters : (table chunk : ℕ) → Deed
  -- what only clients do
  Otherwise : Deed

abbrev pub deed_of : Statement → Deed
deed_of (Insert table row) = Otherwise
deed_of (Replace table row) = Otherwise
deed_of (Delete table where_true) = Otherwise
deed_of (Update table sets where_true) = Otherwise
deed_of (LockRead table mode span where_true) = Otherwise
deed_of (Check table chunk span kind) = Checks table chunk span
deed_of (SetMaster table chunk kind master) = Masters table chunk
deed_of (ClearChecks table) = Clears table

abbrev pub tool_entries : List Entry → List Entry
tool_entries = filter (λ (entry : Entry). is_tools entry.origin)

-- the deeds of the tool's entries, one list for each
abbrev pub deeds_in : List Entry → List (List Deed)
deeds_in history = map (λ (entry : Entry). map deed_of entry.statements) (tool_entries history)

abbrev pub alone : Deed → List (List Deed)
alone deed = (deed ∷ []) ∷ []

-- each chunk, the first with this number, is checked, and then the source's checksum is published
abbrev pub chunk_deeds : ℕ → ℕ → List Span → List (List Deed)
chunk_deeds table number [] = []
chunk_deeds table number (span ∷ spans) = alone (Checks table number span) ++ alone (Masters table number) ++ chunk_deeds table (number + 1) spans

-- a table is cleared before
abbrev pub table_deeds : ℕ → List Span → List (List Deed)
table_deeds table spans = alone (Clears table) ++ chunk_deeds table 1 spans

-- the tables from 0, as many
abbrev pub tables_deeds : (ℕ → List Span) → ℕ → List (List Deed)
tables_deeds spans zero = []
tables_deeds spans (suc tables) = tables_deeds spans tables ++ table_deeds tables (spans tables)

-- what is done of the table that the tool has: of the chunk that it has the CHECKSUM alone may be logged
abbrev pub now_deeds : ToolPhase → ToolView → List Span → List (List Deed)
now_deeds Clear tool spans = []
now_deeds Choose tool spans = table_deeds tool.table spans
now_deeds Walk tool spans = table_deeds tool.table spans
now_deeds Master tool spans = table_deeds tool.table spans ++ alone (Checks tool.table tool.chunk (span_of tool))
now_deeds (RetriesUsed rollbacks) tool spans = table_deeds tool.table spans
now_deeds Finished tool spans = table_deeds tool.table spans
