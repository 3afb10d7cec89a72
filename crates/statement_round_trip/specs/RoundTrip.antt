-- Which statements their texts can say.
use Rattle.std.specs.Prelude.{◌≡◌, ℕ, true, List, Some, length, take, drop, replicate}
use Rattle.std.specs.List.{slice_get, AllByRecursion}
use Rattle.hex.specs.Hex.{IsBytes}
use Rattle.row_types.specs.declared.edges.Edge.{Edge}
use Rattle.row_types.specs.declared.edges.Edge.TheVariants.{Low, Before, After, High}
use Rattle.row_types.specs.declared.digests.DigestKind.{DigestKind}
use Rattle.row_types.specs.declared.digests.DigestKind.TheVariants.{Md5, Sha1}
use Rattle.row_types.specs.declared.table_schema.Column.{Column}
use Rattle.row_types.specs.declared.table_schema.Schema.{Schema}
use Rattle.row_types.specs.KeyRows.{Row, Rows}
use Rattle.row_digest.specs.Digest.{digest_of}
use Rattle.row_types.specs.Fit.{RowFits, ValuesFit, IsSchema, key_of}
use Rattle.ptc_statement.specs.declared.statements.Statement.{Statement}
use Rattle.ptc_statement.specs.declared.statements.Statement.TheVariants.{Insert, Replace, Delete, Update, LockRead, Check, SetMaster, ClearChecks}
use Rattle.ptc_statement.specs.Fits.{FitsSchemas}
use Rattle.statement_tokens.specs.Spellings.{IsNameText}
use Rattle.statement_grammar.specs.FirstFault.{IsText}
use Rattle.statement_text.specs.StatementTexts.{statement_text}
use Rattle.statement_text_laws.specs.SpelledWords.{HasNames}
use Rattle.statement_text_laws.specs.StatementWords.{statement_spells}

-- the table and its columns have names, and no two columns the same
pub record HasOwnNames (schema : Schema) : Type 0 where
  pub name : IsNameText schema.name schema.name
  pub columns : HasNames schema
  pub differ : (m n : ℕ) (a b : Column) → slice_get schema.columns m ≡ Some a → slice_get schema.columns n ≡ Some b → a.name ≡ b.name → m ≡ n

-- schemas of tables with keys and names, no two of them with the same name
pub record AreNamed (schemas : List Schema) : Type 0 where
  pub keys : AllByRecursion IsSchema schemas
  pub names : AllByRecursion HasOwnNames schemas
  pub differ : (m n : ℕ) (a b : Schema) → slice_get schemas m ≡ Some a → slice_get schemas n ≡ Some b → a.name ≡ b.name → m ≡ n

-- its key, if it has one, is a key of the table
abbrev pub EdgeFits : Schema → Edge → Type 0
EdgeFits schema Low = Unit {0}
EdgeFits schema (Before key) = ValuesFit (take schema.key_len schema.columns) key
EdgeFits schema (After key) = ValuesFit (take schema.key_len schema.columns) key
EdgeFits schema High = Unit {0}

-- an MD5 has 16 bytes, and zeros behind them
abbrev pub IsPadded : DigestKind → List ℕ → Type 0
IsPadded Md5 xor = drop 16 xor ≡ replicate 4 0
IsPadded Sha1 xor = Unit {0}

-- the twenty bytes of a checksum
pub record IsXor (kind : DigestKind) (xor : List ℕ) : Type 0 where
  pub long : length xor ≡ 20
  pub bytes : IsBytes xor
  pub ends : IsPadded kind xor

-- what the text of a statement does not show is as reading it gives it: a locking read is of the whole table
abbrev pub IsSaid : Schema → Statement → Type 0
IsSaid schema (Insert table row) = Unit {0}
IsSaid schema (Replace table row) = Unit {0}
IsSaid schema (Delete table where_true) = Unit {0}
IsSaid schema (Update table sets where_true) = Unit {0}
IsSaid schema (LockRead table mode span where_true) = span ≡ record { lo = Low; hi = High }
IsSaid schema (Check table chunk span kind) = EdgeFits schema span.lo × EdgeFits schema span.hi
IsSaid schema (SetMaster table chunk kind master) = IsXor kind master.xor
IsSaid schema (ClearChecks table) = Unit {0}

-- a statement that fits, and that a text can say
pub record IsSayable (schemas : List Schema) (statement : Statement) : Type 0 where
  pub fits : FitsSchemas schemas statement
  pub spells : statement_spells fits.schema statement ≡ true
  pub said : IsSaid fits.schema statement

-- what is written of a statement is a text of that statement
abbrev pub WrittenIsRead : Type 0
WrittenIsRead =
    (schemas : List Schema) (statement : Statement) → AreNamed schemas → IsSayable schemas statement
    → IsText schemas (statement_text schemas statement) statement

-- and of no other
abbrev pub WrittenIsReadOnlySo : Type 0
WrittenIsReadOnlySo =
    (schemas : List Schema) (statement other : Statement) → AreNamed schemas → IsSayable schemas statement
    → IsText schemas (statement_text schemas statement) other → other ≡ statement

-- statements that differ are written differently
abbrev pub TextsDiffer : Type 0
TextsDiffer =
    (schemas : List Schema) (statement other : Statement) → AreNamed schemas → IsSayable schemas statement → IsSayable schemas other
    → statement_text schemas statement ≡ statement_text schemas other → statement ≡ other

-- ---- what the checksum tool makes

-- the checksum of rows can be said
abbrev pub ChecksumsAreSaid : Type 0
ChecksumsAreSaid = (kind : DigestKind) (rows : Rows) → IsXor kind (digest_of kind rows).xor

-- so can an edge at a row of the table
abbrev pub KeysAreSaid : Type 0
KeysAreSaid = (schema : Schema) (row : Row) → RowFits schema row → ValuesFit (take schema.key_len schema.columns) (key_of schema row)
