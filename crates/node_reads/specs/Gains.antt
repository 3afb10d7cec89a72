-- What a visit adds to what its statement has read.
use Rattle.std.specs.Prelude.{ℕ, cond, List, Option, None, Some, IfSome}
use Rattle.row_types.specs.declared.values.Value.{Value}
use Rattle.row_types.specs.declared.lock_modes.LockMode.{LockMode}
use Rattle.row_types.specs.declared.digests.Digest.{Digest}
use Rattle.row_types.specs.declared.digests.DigestKind.{DigestKind}
use Rattle.row_types.specs.declared.table_schema.Schema.{Schema}
use Rattle.ptc_statement.specs.declared.conditions.Cond.{Cond}
use Rattle.ptc_statement.specs.declared.statements.Statement.{Statement}
use Rattle.ptc_statement.specs.declared.statements.Statement.TheVariants.{Insert, Replace, Delete, Update, LockRead, Check, SetMaster, ClearChecks}
use Rattle.ptc_statement.specs.Meaning.{is_taken}
use Rattle.row_digest.specs.Encoding.{IsEncodable}
use Rattle.row_digest.specs.Digest.{added}
use Rattle.node_model.specs.Node.{NodeView, live_row}
use Rattle.node_reads.specs.declared.gains.Gain.{Gain}
use Rattle.node_reads.specs.declared.gains.Gain.TheVariants.{Nothing, Row, Sum}

-- the live row at the key of a visit's lock, if it takes one
abbrev pub row_met : NodeView → ℕ → Option (List Value × LockMode) → Option (List Value)
row_met node table None = None
row_met node table (Some lock) = live_row node table lock.0

-- the row, where the condition takes it
abbrev pub taken_at : Schema → Option Cond → Option (List Value) → Option (List Value)
taken_at schema where_true None = None
taken_at schema where_true (Some row) = cond (is_taken schema where_true row) (Some row) None

-- a checksum with one row more, if there is one
abbrev pub sum_with : DigestKind → Option (List Value) → Digest → Digest
sum_with kind None sum = sum
sum_with kind (Some row) sum = added kind row sum

abbrev pub gain_of : Schema → Statement → Option (List Value) → Digest → Gain
gain_of schema (Insert table row) met sum = Nothing
gain_of schema (Replace table row) met sum = Nothing
gain_of schema (Delete table where_true) met sum = Nothing
gain_of schema (Update table sets where_true) met sum = Nothing
gain_of schema (LockRead table mode span where_true) met sum = Row (taken_at schema where_true met)
gain_of schema (Check table chunk span kind) met sum = Sum (sum_with kind met sum)
gain_of schema (SetMaster table chunk kind master) met sum = Nothing
gain_of schema (ClearChecks table) met sum = Nothing

-- a row that there is can be encoded
abbrev pub CanBeAdded : Option (List Value) → Type 0
CanBeAdded met = IfSome met IsEncodable
