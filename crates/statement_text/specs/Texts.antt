-- How schemas, values and edges are written.
use Rattle.std.specs.Prelude.{ℕ, ◌+◌, ◌==◌, nat_lt, cond, List, [], ◌∷◌, ◌++◌, codes}
use Rattle.std.specs.List.{slice_get}
use Rattle.std.specs.Option.{option_map_or}
use Rattle.std.specs.Fmt.{decimal, signed_decimal}
use Rattle.row_types.specs.declared.values.Value.{Value}
use Rattle.row_types.specs.declared.values.Value.TheVariants.{Null, Int, Text}
use Rattle.row_types.specs.declared.edges.Edge.{Edge}
use Rattle.row_types.specs.declared.edges.Edge.TheVariants.{Low, Before, After, High}
use Rattle.row_types.specs.declared.edges.Span.{Span}
use Rattle.row_types.specs.declared.digests.DigestKind.{DigestKind}
use Rattle.row_types.specs.declared.digests.DigestKind.TheVariants.{Md5, Sha1}
use Rattle.row_types.specs.declared.table_schema.ColumnKind.{ColumnKind}
use Rattle.row_types.specs.declared.table_schema.ColumnKind.TheVariants.{Int as IntColumn, BigInt, Text as TextColumn}
use Rattle.row_types.specs.declared.table_schema.Column.{Column}
use Rattle.row_types.specs.declared.table_schema.Schema.{Schema}

-- the name of the table of this number
unfoldable pub name_of : List Schema → ℕ → List ℕ
name_of schemas table = option_map_or (λ (schema : Schema). schema.name) (slice_get schemas table) []

unfoldable pub kind_text : ColumnKind → List ℕ
kind_text IntColumn = codes "INT"
kind_text BigInt = codes "BIGINT"
kind_text (TextColumn max) = codes "VARCHAR(" ++ decimal max ++ codes ")"

-- KEY for a key column, NOT NULL for another that takes no NULL
unfoldable pub column_text : ℕ → ℕ → Column → List ℕ
column_text key_len number column =
    column.name ++ codes " " ++ kind_text column.kind
    ++ cond (nat_lt number key_len) (codes " KEY") (cond column.nullable [] (codes " NOT NULL"))

-- the columns, the first of this number, each after a comma
abbrev pub columns_on : ℕ → ℕ → List Column → List ℕ
columns_on key_len number [] = []
columns_on key_len number (column ∷ columns) = codes ", " ++ column_text key_len number column ++ columns_on key_len (number + 1) columns

abbrev pub columns_text : ℕ → List Column → List ℕ
columns_text key_len [] = []
columns_text key_len (column ∷ columns) = column_text key_len 0 column ++ columns_on key_len 1 columns

unfoldable pub table_line : Schema → List ℕ
table_line schema = codes "TABLE " ++ schema.name ++ codes " (" ++ columns_text schema.key_len schema.columns ++ codes ")\n"

-- a quote in a text is written twice
abbrev pub quoted : List ℕ → List ℕ
quoted [] = []
quoted (byte ∷ bytes) = cond (byte == 39) (39 ∷ 39 ∷ quoted bytes) (byte ∷ quoted bytes)

unfoldable pub value_text : Value → List ℕ
value_text Null = codes "NULL"
value_text (Int n) = signed_decimal n
value_text (Text text) = codes "'" ++ quoted text ++ codes "'"

abbrev pub values_on : List Value → List ℕ
values_on [] = []
values_on (value ∷ values) = codes ", " ++ value_text value ++ values_on values

abbrev pub values_text : List Value → List ℕ
values_text [] = []
values_text (value ∷ values) = value_text value ++ values_on values

-- a row or a key: its values in parentheses, parted by commas
unfoldable pub tuple_text : List Value → List ℕ
tuple_text values = codes "(" ++ values_text values ++ codes ")"

unfoldable pub edge_text : Edge → List ℕ
edge_text Low = codes "LOW"
edge_text (Before key) = codes "BEFORE " ++ tuple_text key
edge_text (After key) = codes "AFTER " ++ tuple_text key
edge_text High = codes "HIGH"

unfoldable pub span_text : Span → List ℕ
span_text span = codes "FROM " ++ edge_text span.lo ++ codes " TO " ++ edge_text span.hi

unfoldable pub digest_kind_text : DigestKind → List ℕ
digest_kind_text Md5 = codes "MD5"
digest_kind_text Sha1 = codes "SHA1"
