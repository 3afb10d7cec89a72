-- What is known of a statement without a fault, from spot to spot.
use Rattle.std.proofs.Common.{◌≡◌, ◌⊎◌, ℕ, ◌≤◌, true, List, [], ◌∷◌, Option, None, Some}
use Rattle.std.specs.Prelude.{⊤}
use Rattle.std.specs.List.{slice_get, AllByRecursion}
use Rattle.row_types.specs.declared.edges.Edge.{Edge}
use Rattle.row_types.specs.declared.table_schema.Column.{Column}
use Rattle.row_types.specs.declared.table_schema.Schema.{Schema}
use Rattle.ptc_statement.specs.declared.conditions.Cond.{Cond}
use Rattle.ptc_statement.specs.declared.assignments.Assignment.{Assignment}
use Rattle.ptc_statement.specs.Fits.{AssignmentFits, WhereFits}
use Rattle.statement_grammar.specs.Sentence.{Spot, StatementDue, IntoDue, IntoTable, ValuesDue, OpenDue, LiteralDue, LiteralEnds, DigitsDue, FromDue, DeleteTable, WhereDue, CondDue, CondEnds, UpdateTable, SetDue, ColumnDue, EqualsDue, ExprDue, SetEnds, StarDue, SelectFrom, SelectTable, SelectWhere, SelectCond, LockDue, ForDue, InDue, ShareDue, ModeDue, ChunkTable, ChunkDue, ChunkNumber, EdgeFrom, EdgeDue, EdgeTo, UsingDue, KindDue, CountDue, CountNumber, CrcDue, CrcText, ClearTable, EndDue, NothingDue, Lower, Upper, Literals, OfRow, OfEdge, OnChunk, Checks, SetsMaster, is_chunk, is_count, Keys}
use Rattle.statement_grammar.specs.FirstFault.{keys_of, keys_found}
use Rattle.statement_grammar.specs.Draft.{Form, InsertForm, ReplaceForm, DeleteForm, UpdateForm, ReadForm, CheckForm, MasterForm, ClearForm, Draft, table_from, columns_for, said_as}
use Rattle.statement_text_laws.specs.StatementWords.{where_spells, assignments_spell, edge_spells}
use Rattle.statement_round_trip.specs.RoundTrip.{EdgeFits, IsSayable}
use Rattle.statement_fit_laws.proofs.ValueFitLemmas.{SoFar}

-- ---- what is known of the parts of a draft

-- its table is one of the schemas, whose key the grammar knows
pub record Tabled (schemas : List Schema) (key : Keys) (table : ℕ) (known : Option Schema) : Type 0 where
  pub schema : Schema
  pub is : known ≡ Some schema
  pub there : slice_get schemas table ≡ Some schema
  pub keys : key ≡ keys_of schema

-- the keys of the table of this name
abbrev pub KeysOf : List Schema → Keys → List ℕ → Type 0
KeysOf schemas key name = key ≡ keys_found (table_from 0 schemas name)

abbrev pub IsRow : Form → Type 0
IsRow InsertForm = ⊤
IsRow ReplaceForm = ⊤
IsRow form = ⊥

abbrev pub form_for : OnChunk → Form
form_for Checks = CheckForm
form_for SetsMaster = MasterForm

-- nothing but the form is known
pub record IsFresh (draft : Draft) : Type 0 where
  pub where_true : draft.where_true ≡ None
  pub sets : draft.sets ≡ []

abbrev pub WhereOk : Option Schema → Option Cond → Type 0
WhereOk None condition = ⊥
WhereOk (Some schema) condition = WhereFits schema condition × (where_spells schema condition ≡ true)

abbrev pub SetsOk : Option Schema → List Assignment → Type 0
SetsOk None sets = ⊥
SetsOk (Some schema) sets = AllByRecursion (AssignmentFits schema) sets × (assignments_spell schema sets ≡ true)

abbrev pub SomeSets : List Assignment → Type 0
SomeSets [] = ⊥
SomeSets (assignment ∷ sets) = ⊤

-- a column behind the key is given a value
abbrev pub GivesTo : Option Schema → Option ℕ → Type 0
GivesTo (Some schema) (Some n) = (schema.key_len ≤ n) × ((column : Column) × (slice_get schema.columns n ≡ Some column))
GivesTo known column = ⊥

abbrev pub EdgeOk : Option Schema → Edge → Type 0
EdgeOk None at = ⊥
EdgeOk (Some schema) at = EdgeFits schema at × (edge_spells at ≡ true)

-- what is known where a list of literals stands
abbrev pub ListBase : List Schema → Keys → Literals → Form → ℕ → Option Schema → ℕ → Edge → Type 0
ListBase schemas key OfRow form table known chunk lo = Tabled schemas key table known × IsRow form
ListBase schemas key (OfEdge Lower) form table known chunk lo = Tabled schemas key table known × (form ≡ CheckForm) × (is_chunk chunk ≡ true)
ListBase schemas key (OfEdge Upper) form table known chunk lo = Tabled schemas key table known × (form ≡ CheckForm) × (is_chunk chunk ≡ true) × EdgeOk known lo

abbrev pub ReadsWhere : List Schema → Keys → Draft → Type 0
ReadsWhere schemas key draft = Tabled schemas key draft.table draft.schema × (draft.form ≡ ReadForm) × WhereOk draft.schema draft.where_true

abbrev pub Sets : List Schema → Keys → Draft → Type 0
Sets schemas key draft = Tabled schemas key draft.table draft.schema × (draft.form ≡ UpdateForm) × WhereOk draft.schema draft.where_true × SetsOk draft.schema draft.sets

abbrev pub OnTable : List Schema → Keys → Draft → Form → Type 0
OnTable schemas key draft form = Tabled schemas key draft.table draft.schema × (draft.form ≡ form)

abbrev pub Edges : List Schema → Keys → Draft → Type 0
Edges schemas key draft = Tabled schemas key draft.table draft.schema × (draft.form ≡ CheckForm) × (is_chunk draft.chunk ≡ true) × EdgeOk draft.schema draft.lo × EdgeOk draft.schema draft.hi

-- ---- what is known at a spot; name is the first name that is left

abbrev pub Good : List Schema → Keys → List ℕ → Spot → Draft → Type 0
Good schemas key name StatementDue d = KeysOf schemas key name × IsFresh d
Good schemas key name IntoDue d = KeysOf schemas key name × IsRow d.form
Good schemas key name IntoTable d = KeysOf schemas key name × IsRow d.form
Good schemas key name ValuesDue d = ListBase schemas key OfRow d.form d.table d.schema d.chunk d.lo
Good schemas key name (OpenDue of) d = ListBase schemas key of d.form d.table d.schema d.chunk d.lo
Good schemas key name (LiteralDue of) d = ListBase schemas key of d.form d.table d.schema d.chunk d.lo × SoFar (columns_for of d.schema) d.values
Good schemas key name (LiteralEnds of) d = ListBase schemas key of d.form d.table d.schema d.chunk d.lo × SoFar (columns_for of d.schema) d.values
Good schemas key name (DigitsDue of) d = ListBase schemas key of d.form d.table d.schema d.chunk d.lo × SoFar (columns_for of d.schema) d.values
Good schemas key name FromDue d = KeysOf schemas key name × (d.form ≡ DeleteForm) × IsFresh d
Good schemas key name DeleteTable d = KeysOf schemas key name × (d.form ≡ DeleteForm) × IsFresh d
Good schemas key name WhereDue d = OnTable schemas key d DeleteForm × WhereOk d.schema d.where_true
Good schemas key name CondDue d = (OnTable schemas key d DeleteForm) ⊎ (Sets schemas key d × SomeSets d.sets)
Good schemas key name CondEnds d = IsSayable schemas (said_as d.form d)
Good schemas key name UpdateTable d = KeysOf schemas key name × (d.form ≡ UpdateForm) × IsFresh d
Good schemas key name SetDue d = Sets schemas key d
Good schemas key name ColumnDue d = Sets schemas key d
Good schemas key name EqualsDue d = Sets schemas key d × GivesTo d.schema d.column
Good schemas key name ExprDue d = Sets schemas key d × GivesTo d.schema d.column
Good schemas key name SetEnds d = Sets schemas key d × SomeSets d.sets
Good schemas key name StarDue d = KeysOf schemas key name × (d.form ≡ ReadForm) × IsFresh d
Good schemas key name SelectFrom d = KeysOf schemas key name × (d.form ≡ ReadForm) × IsFresh d
Good schemas key name SelectTable d = KeysOf schemas key name × (d.form ≡ ReadForm) × IsFresh d
Good schemas key name SelectWhere d = ReadsWhere schemas key d
Good schemas key name SelectCond d = ReadsWhere schemas key d
Good schemas key name LockDue d = ReadsWhere schemas key d
Good schemas key name ForDue d = ReadsWhere schemas key d
Good schemas key name InDue d = ReadsWhere schemas key d
Good schemas key name ShareDue d = ReadsWhere schemas key d
Good schemas key name ModeDue d = ReadsWhere schemas key d
Good schemas key name (ChunkTable tool) d = KeysOf schemas key name × (d.form ≡ form_for tool)
Good schemas key name (ChunkDue tool) d = OnTable schemas key d (form_for tool)
Good schemas key name (ChunkNumber tool) d = OnTable schemas key d (form_for tool)
Good schemas key name EdgeFrom d = ListBase schemas key (OfEdge Lower) d.form d.table d.schema d.chunk d.lo
Good schemas key name (EdgeDue end) d = ListBase schemas key (OfEdge end) d.form d.table d.schema d.chunk d.lo
Good schemas key name EdgeTo d = ListBase schemas key (OfEdge Upper) d.form d.table d.schema d.chunk d.lo
Good schemas key name UsingDue d = Edges schemas key d
Good schemas key name KindDue d = Edges schemas key d
Good schemas key name CountDue d = OnTable schemas key d MasterForm × (is_chunk d.chunk ≡ true)
Good schemas key name CountNumber d = OnTable schemas key d MasterForm × (is_chunk d.chunk ≡ true)
Good schemas key name CrcDue d = OnTable schemas key d MasterForm × (is_chunk d.chunk ≡ true) × (is_count d.count ≡ true)
Good schemas key name CrcText d = OnTable schemas key d MasterForm × (is_chunk d.chunk ≡ true) × (is_count d.count ≡ true)
Good schemas key name ClearTable d = KeysOf schemas key name × (d.form ≡ ClearForm)
Good schemas key name EndDue d = IsSayable schemas (said_as d.form d)
Good schemas key name NothingDue d = IsSayable schemas (said_as d.form d)
