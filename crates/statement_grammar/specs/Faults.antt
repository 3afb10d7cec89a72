-- The faults of a statement's pieces besides a misfit, each with its place.
use Rattle.std.specs.Prelude.{ℕ, suc, nat_lt, Bool, true, false, List, [], ◌∷◌, ◌++◌, Option, None, Some, take, length, map, slice_get, if◌then◌else◌}
use Rattle.std.specs.Option.{option_or}
use Rattle.row_types.specs.declared.table_schema.Column.{Column}
use Rattle.row_types.specs.declared.table_schema.Schema.{Schema}
use Rattle.row_types.specs.declared.row_faults.RowFault.TheVariants.{Arity, Kind}
use Rattle.statement_tokens.specs.declared.words.Token.{Token}
use Rattle.statement_tokens.specs.declared.words.Word.{Word}
use Rattle.statement_tokens.specs.declared.words.Word.TheVariants as w
use Rattle.statement_grammar.specs.declared.text_faults.TextFault.{TextFault}
use Rattle.statement_grammar.specs.declared.text_faults.TextFault.TheVariants.{UnknownTable, UnknownColumn, KeyAssigned, NullIntoNotNull, Literal, TooDeep}
use Rattle.statement_grammar.specs.Grammar.{Shape, tokens_of}
use Rattle.statement_grammar.specs.Cut.{Part, cut, height}
use Rattle.statement_grammar.specs.Kinds.{OfNumber, OfText, sort_of, sort_of_kind, sort_of_number, differ, when_true, begins_at, text_operand, places, breaches, unknown_in}
use Rattle.statement_grammar.specs.Sentence.{Piece, One, Tree, Spot, IntoTable, DeleteTable, UpdateTable, SelectTable, ChunkTable, ClearTable, LiteralDue, DigitsDue, LiteralEnds, ColumnDue, ExprDue, tree_at, one}
use Rattle.statement_grammar.specs.Draft.{Draft, table_in, columns_of, column_assigned, with_token, with_tree, spot_or, tree_next}

abbrev pub kind_fault : ℕ → ℕ → TextFault
kind_fault column place = Literal place (Kind column)

abbrev pub column_or_0 : Option ℕ → ℕ
column_or_0 None = 0
column_or_0 (Some n) = n

-- ---- a tree of which so many tokens are read

abbrev pub is_last : List Token → Bool
is_last [] = true
is_last (t ∷ ts) = false

-- the first of these tokens with which the tree is more than 64 high, where n are read before them
abbrev pub deep_from : Shape → ℕ → List Token → List ℕ
deep_from s n [] = []
deep_from s n (t ∷ ts) = if nat_lt 64 (height (cut (is_last ts) (suc n) s)) then t.place ∷ [] else deep_from s (suc n) ts

abbrev pub deep_in : Shape → ℕ → List ℕ
deep_in s n = deep_from s 0 (take n (tokens_of s))

-- what is wrong with a part, and where it is too deep
abbrev pub common_faults : Schema → Part → List ℕ → List TextFault
common_faults schema x deep = map UnknownColumn (unknown_in schema x) ++ map TooDeep deep

abbrev pub condition_faults : Schema → Part → List ℕ → List TextFault
condition_faults schema x deep = common_faults schema x deep ++ map (kind_fault 0) (breaches schema x)

-- the breach of an assignment to the column of this number
abbrev pub assignment_breach : Schema → Option ℕ → Part → Option ℕ
assignment_breach schema column x = option_or (text_operand schema x) (when_true (differ (sort_of_number schema column) (sort_of schema x)) (begins_at x))

abbrev pub assignment_faults : Schema → Option ℕ → Part → List ℕ → List TextFault
assignment_faults schema column x deep = common_faults schema x deep ++ map (kind_fault (column_or_0 column)) (places (assignment_breach schema column x))

abbrev pub part_faults : Option Schema → Spot → Draft → Part → List ℕ → List TextFault
part_faults None spot draft x deep = []
part_faults (Some schema) ExprDue draft x deep = assignment_faults schema draft.column x deep
part_faults (Some schema) spot draft x deep = condition_faults schema x deep

-- the faults of a tree of which n tokens are read
abbrev pub tree_faults : Option Schema → Spot → Draft → Shape → ℕ → List TextFault
tree_faults schema spot draft s n = part_faults schema spot draft (cut true n s) (deep_in s n)

-- ---- a single token

abbrev pub table_fault : Option (ℕ × Schema) → ℕ → List TextFault
table_fault None place = UnknownTable place ∷ []
table_fault (Some found) place = []

-- a literal for a column, or for none, behind n others
abbrev pub value_fault : List Column → ℕ → Option Column → Word → ℕ → List TextFault
value_fault columns n None word place = Literal place (Arity (suc n) (length columns)) ∷ []
value_fault columns n (Some column) w.Null place = if column.nullable then [] else NullIntoNotNull place ∷ []
value_fault columns n (Some column) (w.Number i) place = map (kind_fault n) (places (when_true (differ (sort_of_kind column.kind) OfNumber) place))
value_fault columns n (Some column) (w.Text t) place = map (kind_fault n) (places (when_true (differ (sort_of_kind column.kind) OfText) place))
value_fault columns n (Some column) word place = []

abbrev pub literal_fault : List Column → ℕ → Word → ℕ → List TextFault
literal_fault columns n (w.Math o) place = []
literal_fault columns n word place = value_fault columns n (slice_get columns n) word place

-- `)` behind too few literals
abbrev pub list_fault : List Column → ℕ → Word → ℕ → List TextFault
list_fault columns n w.Close place = if nat_lt n (length columns) then Literal place (Arity n (length columns)) ∷ [] else []
list_fault columns n word place = []

abbrev pub assigned_fault : Schema → Option ℕ → ℕ → List TextFault
assigned_fault schema None place = UnknownColumn place ∷ []
assigned_fault schema (Some n) place = if nat_lt n schema.key_len then KeyAssigned place ∷ [] else []

-- the place of the `-` before a number, where there is one
abbrev pub place_or : Option ℕ → ℕ → ℕ
place_or None place = place
place_or (Some minus) place = minus

-- the fault of a single token, once the table is known
abbrev pub known_faults : Schema → Spot → Draft → Word → ℕ → List TextFault
known_faults schema (LiteralDue of) draft word place = literal_fault (columns_of of schema) (length draft.values) word place
known_faults schema (DigitsDue of) draft word place = literal_fault (columns_of of schema) (length draft.values) word (place_or draft.minus place)
known_faults schema (LiteralEnds of) draft word place = list_fault (columns_of of schema) (length draft.values) word place
known_faults schema ColumnDue draft word place = assigned_fault schema (column_assigned (Some schema) word) place
known_faults schema spot draft word place = []

abbrev pub behind_table : Option Schema → Spot → Draft → Word → ℕ → List TextFault
behind_table None spot draft word place = []
behind_table (Some schema) spot draft word place = known_faults schema spot draft word place

abbrev pub token_faults : List Schema → Spot → Draft → Word → ℕ → List TextFault
token_faults schemas IntoTable draft word place = table_fault (table_in schemas word) place
token_faults schemas DeleteTable draft word place = table_fault (table_in schemas word) place
token_faults schemas UpdateTable draft word place = table_fault (table_in schemas word) place
token_faults schemas SelectTable draft word place = table_fault (table_in schemas word) place
token_faults schemas (ChunkTable tool) draft word place = table_fault (table_in schemas word) place
token_faults schemas ClearTable draft word place = table_fault (table_in schemas word) place
token_faults schemas spot draft word place = behind_table draft.schema spot draft word place

-- ---- a statement so far

abbrev pub open_faults : Spot → Draft → Option (Shape × ℕ) → List TextFault
open_faults spot draft None = []
open_faults spot draft (Some tree) = tree_faults draft.schema spot draft tree.0 tree.1

-- the faults of these pieces from a spot on, and of a tree behind them of which so many tokens are read
abbrev pub faults_from : List Schema → Spot → Draft → List Piece → Option (Shape × ℕ) → List TextFault
faults_from schemas spot draft [] tree = open_faults spot draft tree
faults_from schemas spot draft (One t ∷ pieces) tree =
    token_faults schemas spot draft t.word t.place
    ++ faults_from schemas (spot_or spot (one spot t.word)) (with_token schemas spot draft t.word t.place) pieces tree
faults_from schemas spot draft (Tree s ∷ pieces) tree =
    tree_faults draft.schema spot draft s (length (tokens_of s))
    ++ faults_from schemas (tree_next spot (tree_at spot)) (with_tree draft.schema spot draft s) pieces tree
