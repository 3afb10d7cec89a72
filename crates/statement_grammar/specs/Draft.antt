-- What the pieces of a statement say, from its first on.
use Rattle.std.specs.Prelude.{ℕ, suc, ◌==◌, Bool, true, false, List, [], ◌∷◌, ◌++◌, Option, None, Some, Result, Ok, Err, take, length, replicate, slice_get, if◌then◌else◌}
use Rattle.hex.specs.Hex.{decode_of}
use Rattle.hex.specs.declared.error.FromHexError.{FromHexError}
use Rattle.row_types.specs.declared.values.Value.{Value}
use Rattle.row_types.specs.declared.edges.Edge.{Edge}
use Rattle.row_types.specs.declared.edges.Edge.TheVariants as edge
use Rattle.row_types.specs.declared.digests.DigestKind.{DigestKind}
use Rattle.row_types.specs.declared.digests.DigestKind.TheVariants.{Md5, Sha1}
use Rattle.row_types.specs.declared.lock_modes.LockMode.{LockMode}
use Rattle.row_types.specs.declared.lock_modes.LockMode.TheVariants.{Shared, Exclusive}
use Rattle.row_types.specs.declared.table_schema.Column.{Column}
use Rattle.row_types.specs.declared.table_schema.Schema.{Schema}
use Rattle.ptc_statement.specs.declared.conditions.Cond.{Cond}
use Rattle.ptc_statement.specs.declared.assignments.Assignment.{Assignment}
use Rattle.ptc_statement.specs.declared.statements.Statement.{Statement}
use Rattle.ptc_statement.specs.declared.statements.Statement.TheVariants.{Insert, Replace, Delete, Update, LockRead, Check, SetMaster, ClearChecks}
use Rattle.ptc_statement.specs.Effect.{stored}
use Rattle.statement_tokens.specs.declared.words.Keyword.TheVariants as k
use Rattle.statement_tokens.specs.declared.words.Word.{Word}
use Rattle.statement_tokens.specs.declared.words.Word.TheVariants as w
use Rattle.statement_grammar.specs.Grammar.{Shape, same_bytes}
use Rattle.statement_grammar.specs.Kinds.{column_named}
use Rattle.statement_grammar.specs.Terms.{value_in, negative, column_or_0, condition_of, expression_of}
use Rattle.statement_grammar.specs.Sentence.{Piece, One, Tree, End, Lower, Upper, Literals, OfRow, OfEdge, Spot, StatementDue, IntoTable, DeleteTable, UpdateTable, SelectTable, ChunkTable, ClearTable, OpenDue, LiteralDue, DigitsDue, LiteralEnds, ColumnDue, ExprDue, ForDue, ModeDue, ChunkNumber, EdgeDue, KindDue, CountNumber, CrcText, tree_at, one}

-- by a statement's first word
pub data Form : Type 0 where
  NoForm : Form
  InsertForm : Form
  ReplaceForm : Form
  DeleteForm : Form
  UpdateForm : Form
  ReadForm : Form
  CheckForm : Form
  MasterForm : Form
  ClearForm : Form

-- What is known of a statement so far: its table, once it is named, and what stands behind it. The
-- values are those of the list that is read, as its columns keep them.
pub record Draft : Type 0 where
  pub form : Form
  pub table : ℕ
  pub schema : Option Schema
  pub values : List Value
  pub minus : Option ℕ  -- the place of a `-` whose number is due
  pub column : Option ℕ  -- the column that is assigned
  pub sets : List Assignment
  pub where_true : Option Cond
  pub mode : LockMode
  pub chunk : ℕ
  pub is_after : Bool  -- whether the edge that is read lies after its key
  pub lo : Edge
  pub hi : Edge
  pub kind : DigestKind
  pub count : ℕ
  pub crc : List ℕ

abbrev pub nothing_known : Draft
nothing_known = record {
  form = NoForm;
  table = 0;
  schema = None;
  values = [];
  minus = None;
  column = None;
  sets = [];
  where_true = None;
  mode = Exclusive;
  chunk = 0;
  is_after = false;
  lo = edge.Low;
  hi = edge.High;
  kind = Md5;
  count = 0;
  crc = [];
}

abbrev pub form_of : Word → Form
form_of (w.Keyword k.Insert) = InsertForm
form_of (w.Keyword k.Replace) = ReplaceForm
form_of (w.Keyword k.Delete) = DeleteForm
form_of (w.Keyword k.Update) = UpdateForm
form_of (w.Keyword k.Select) = ReadForm
form_of (w.Keyword k.Checksum) = CheckForm
form_of (w.Keyword k.SetMaster) = MasterForm
form_of (w.Keyword k.ClearChecks) = ClearForm
form_of word = NoForm

-- ---- the table

-- the first table of this name, and its number
abbrev pub table_from : ℕ → List Schema → List ℕ → Option (ℕ × Schema)
table_from n [] name = None
table_from n (schema ∷ schemas) name = if same_bytes schema.name name then Some (n, schema) else table_from (suc n) schemas name

abbrev pub table_in : List Schema → Word → Option (ℕ × Schema)
table_in schemas (w.Name name) = table_from 0 schemas name
table_in schemas word = None

abbrev pub with_table : Draft → Option (ℕ × Schema) → Draft
with_table draft None = draft
with_table draft (Some found) = record draft { table = found.0; schema = Some found.1 }

-- ---- literals

-- the columns that a list of literals is for
abbrev pub columns_of : Literals → Schema → List Column
columns_of OfRow schema = schema.columns
columns_of (OfEdge end) schema = take schema.key_len schema.columns

abbrev pub columns_for : Literals → Option Schema → List Column
columns_for of None = []
columns_for of (Some schema) = columns_of of schema

-- a number is clipped to its column, a text is cut
abbrev pub kept : Option Column → Value → Value
kept None value = value
kept (Some column) value = stored column value

abbrev pub with_value : Literals → Draft → Value → Draft
with_value of draft value = record draft {
  values = draft.values ++ kept (slice_get (columns_for of draft.schema) (length draft.values)) value ∷ [];
  minus = None;
}

abbrev pub with_literal : Literals → Draft → Word → ℕ → Draft
with_literal of draft (w.Math o) place = record draft { minus = Some place }
with_literal of draft word place = with_value of draft (value_in word)

-- ---- edges

abbrev pub with_edge : End → Draft → Edge → Draft
with_edge Lower draft edge = record draft { lo = edge }
with_edge Upper draft edge = record draft { hi = edge }

abbrev pub edge_at : Bool → List Value → Edge
edge_at true key = edge.After key
edge_at false key = edge.Before key

abbrev pub with_edge_word : End → Draft → Word → Draft
with_edge_word end draft (w.Keyword k.Low) = with_edge end draft edge.Low
with_edge_word end draft (w.Keyword k.High) = with_edge end draft edge.High
with_edge_word end draft (w.Keyword k.Before) = record draft { is_after = false }
with_edge_word end draft (w.Keyword k.After) = record draft { is_after = true }
with_edge_word end draft word = draft

-- behind the last literal of an edge's key
abbrev pub with_list : Literals → Draft → Word → Draft
with_list (OfEdge end) draft w.Close = with_edge end draft (edge_at draft.is_after draft.values)
with_list of draft word = draft

-- ---- other tokens

abbrev pub column_assigned : Option Schema → Word → Option ℕ
column_assigned (Some schema) (w.Name name) = column_named schema name
column_assigned schema word = None

abbrev pub mode_of_word : Word → LockMode
mode_of_word (w.Keyword k.Share) = Shared
mode_of_word (w.Keyword k.Mode) = Shared
mode_of_word word = Exclusive

abbrev pub kind_of_word : Word → DigestKind
kind_of_word (w.Keyword k.Sha1) = Sha1
kind_of_word word = Md5

abbrev pub number_in : Word → ℕ
number_in (w.Number n) = n
number_in word = 0

abbrev pub text_in : Word → List ℕ
text_in (w.Text text) = text
text_in word = []

-- with a single token
abbrev pub with_token : List Schema → Spot → Draft → Word → ℕ → Draft
with_token schemas StatementDue draft word place = record draft { form = form_of word }
with_token schemas IntoTable draft word place = with_table draft (table_in schemas word)
with_token schemas DeleteTable draft word place = with_table draft (table_in schemas word)
with_token schemas UpdateTable draft word place = with_table draft (table_in schemas word)
with_token schemas SelectTable draft word place = with_table draft (table_in schemas word)
with_token schemas (ChunkTable tool) draft word place = with_table draft (table_in schemas word)
with_token schemas ClearTable draft word place = with_table draft (table_in schemas word)
with_token schemas (OpenDue of) draft word place = record draft { values = []; minus = None }
with_token schemas (LiteralDue of) draft word place = with_literal of draft word place
with_token schemas (DigitsDue of) draft word place = with_value of draft (negative word)
with_token schemas (LiteralEnds of) draft word place = with_list of draft word
with_token schemas ColumnDue draft word place = record draft { column = column_assigned draft.schema word }
with_token schemas ForDue draft word place = record draft { mode = mode_of_word word }
with_token schemas ModeDue draft word place = record draft { mode = mode_of_word word }
with_token schemas (ChunkNumber tool) draft word place = record draft { chunk = number_in word }
with_token schemas (EdgeDue end) draft word place = with_edge_word end draft word
with_token schemas KindDue draft word place = record draft { kind = kind_of_word word }
with_token schemas CountNumber draft word place = record draft { count = number_in word }
with_token schemas CrcText draft word place = record draft { crc = text_in word }
with_token schemas spot draft word place = draft

-- ---- trees

abbrev pub with_tree_of : Schema → Spot → Draft → Shape → Draft
with_tree_of schema ExprDue draft s = record draft {
  sets = draft.sets ++ record { column = column_or_0 draft.column; expr = expression_of schema s } ∷ [];
}
with_tree_of schema spot draft s = record draft { where_true = Some (condition_of schema s) }

abbrev pub with_tree : Option Schema → Spot → Draft → Shape → Draft
with_tree None spot draft s = draft
with_tree (Some schema) spot draft s = with_tree_of schema spot draft s

-- ---- a statement

abbrev pub spot_or : Spot → Option Spot → Spot
spot_or spot None = spot
spot_or spot (Some next) = next

abbrev pub tree_next : Spot → Option (Bool × Spot) → Spot
tree_next spot None = spot
tree_next spot (Some due) = due.1

-- what these pieces add, from a spot on
abbrev pub drafted : List Schema → Spot → Draft → List Piece → Draft
drafted schemas spot draft [] = draft
drafted schemas spot draft (One t ∷ pieces) = drafted schemas (spot_or spot (one spot t.word)) (with_token schemas spot draft t.word t.place) pieces
drafted schemas spot draft (Tree s ∷ pieces) = drafted schemas (tree_next spot (tree_at spot)) (with_tree draft.schema spot draft s) pieces

-- 32 digits are of MD5, 40 of SHA-1
abbrev pub kind_of_crc : List ℕ → DigestKind
kind_of_crc crc = if length crc == 32 then Md5 else Sha1

abbrev pub bytes_or_none : Result (List ℕ) FromHexError → List ℕ
bytes_or_none (Ok bytes) = bytes
bytes_or_none (Err error) = []

-- the bytes that the digits spell, and 0 up to the twentieth
abbrev pub xor_of_crc : List ℕ → List ℕ
xor_of_crc crc = take 20 (bytes_or_none (decode_of crc) ++ replicate 20 0)

abbrev pub said_as : Form → Draft → Statement
said_as InsertForm draft = Insert draft.table draft.values
said_as ReplaceForm draft = Replace draft.table draft.values
said_as DeleteForm draft = Delete draft.table draft.where_true
said_as UpdateForm draft = Update draft.table draft.sets draft.where_true
said_as ReadForm draft = LockRead draft.table draft.mode (record { lo = edge.Low; hi = edge.High }) draft.where_true
said_as CheckForm draft = Check draft.table draft.chunk (record { lo = draft.lo; hi = draft.hi }) draft.kind
said_as MasterForm draft = SetMaster draft.table draft.chunk (kind_of_crc draft.crc) (record { count = draft.count; xor = xor_of_crc draft.crc })
said_as ClearForm draft = ClearChecks draft.table
said_as NoForm draft = ClearChecks draft.table

-- the statement that these pieces are
abbrev pub statement_of : List Schema → List Piece → Statement
statement_of schemas pieces = let draft = drafted schemas StatementDue nothing_known pieces in said_as draft.form draft
