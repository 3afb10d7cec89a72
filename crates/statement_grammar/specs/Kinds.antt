-- Numbers and texts: which parts of a tree break the rules on kinds, and which name no column.
use Rattle.std.specs.Prelude.{ℕ, suc, Bool, true, false, List, [], ◌∷◌, ◌++◌, Option, None, Some, drop, slice_get, if◌then◌else◌}
use Rattle.std.specs.Option.{option_or}
use Rattle.row_types.specs.declared.table_schema.ColumnKind.{ColumnKind}
use Rattle.row_types.specs.declared.table_schema.ColumnKind.TheVariants.{Int as IntColumn, BigInt, Text as TextColumn}
use Rattle.row_types.specs.declared.table_schema.Column.{Column}
use Rattle.row_types.specs.declared.table_schema.Schema.{Schema}
use Rattle.statement_tokens.specs.declared.words.Token.{Token}
use Rattle.statement_tokens.specs.declared.words.Word.{Word}
use Rattle.statement_tokens.specs.declared.words.Word.TheVariants as w
use Rattle.statement_grammar.specs.Grammar.{is_value, is_minus, same_bytes}
use Rattle.statement_grammar.specs.Cut.{Part, Gap, Leaf, Prefix, Binary, Lower, Range, Nullness, Paren, Signed, RowTest}

pub data Sort : Type 0 where
  OfNumber : Sort
  OfText : Sort
  OfAny : Sort  -- NULL, an unknown column, or what is not read yet

abbrev pub sort_of_kind : ColumnKind → Sort
sort_of_kind IntColumn = OfNumber
sort_of_kind BigInt = OfNumber
sort_of_kind (TextColumn max) = OfText

-- the place of a column of this name, counted from 0
abbrev pub column_from : ℕ → List Column → List ℕ → Option ℕ
column_from n [] name = None
column_from n (column ∷ columns) name = if same_bytes column.name name then Some n else column_from (suc n) columns name

abbrev pub column_named : Schema → List ℕ → Option ℕ
column_named schema name = column_from 0 schema.columns name

abbrev pub sort_of_column : Option Column → Sort
sort_of_column None = OfAny
sort_of_column (Some column) = sort_of_kind column.kind

abbrev pub sort_of_number : Schema → Option ℕ → Sort
sort_of_number schema None = OfAny
sort_of_number schema (Some n) = sort_of_column (slice_get schema.columns n)

abbrev pub sort_of_word : Schema → Word → Sort
sort_of_word schema (w.Number n) = OfNumber
sort_of_word schema (w.Text t) = OfText
sort_of_word schema (w.Name n) = sort_of_number schema (column_named schema n)
sort_of_word schema _ = OfAny

-- a sign gives a number, also over NULL
abbrev pub sort_of : Schema → Part → Sort
sort_of schema (Leaf t) = sort_of_word schema t.word
sort_of schema (Prefix t s) = OfNumber
sort_of schema (Binary l t r) = OfNumber
sort_of schema (Signed t d) = OfNumber
sort_of schema (Paren o s) = sort_of schema s
sort_of schema _ = OfAny

abbrev pub differ : Sort → Sort → Bool
differ OfNumber OfText = true
differ OfText OfNumber = true
differ _ _ = false

abbrev pub is_text : Sort → Bool
is_text OfText = true
is_text _ = false

-- the first byte of a part, its parenthesis among it
abbrev pub begins_at : Part → ℕ
begins_at Gap = 0
begins_at (Leaf t) = t.place
begins_at (Prefix t s) = t.place
begins_at (Binary l t r) = begins_at l
begins_at (Lower x b l) = begins_at x
begins_at (Range x b l a h) = begins_at x
begins_at (Nullness x i) = begins_at x
begins_at (Paren o s) = o.place
begins_at (Signed t d) = t.place
begins_at (RowTest []) = 0
begins_at (RowTest (t ∷ ts)) = t.place

abbrev pub when_true : Bool → ℕ → Option ℕ
when_true true n = Some n
when_true false n = None

abbrev pub own_text : Schema → Part → Option ℕ
own_text schema x = when_true (is_text (sort_of schema x)) (begins_at x)

-- the first operand of arithmetic in an expression that is a text
abbrev pub text_operand : Schema → Part → Option ℕ
text_operand schema (Prefix t s) = option_or (text_operand schema s) (own_text schema s)
text_operand schema (Binary l t r) = option_or (text_operand schema l) (option_or (own_text schema l) (option_or (text_operand schema r) (own_text schema r)))
text_operand schema (Paren o s) = text_operand schema s
text_operand schema _ = None

-- the breach of a comparison, if there is one: such an operand, else the right side
abbrev pub breach : Schema → Part → Part → Option ℕ
breach schema l r = option_or (text_operand schema l) (option_or (text_operand schema r) (when_true (differ (sort_of schema l) (sort_of schema r)) (begins_at r)))

abbrev pub places : Option ℕ → List ℕ
places None = []
places (Some n) = n ∷ []

abbrev pub value_leaf : Token → List Part
value_leaf t = if is_value t.word then Leaf t ∷ [] else []

-- the values behind a row comparison's second bracket
abbrev pub values_in : List Token → List Part
values_in [] = []
values_in (t ∷ []) = value_leaf t
values_in (t ∷ d ∷ ts) = if is_minus t.word then Signed t d ∷ values_in ts else value_leaf t ++ values_in (d ∷ ts)

-- literals of a row comparison that do not fit their key columns
abbrev pub row_breaches_from : Schema → ℕ → List Part → List ℕ
row_breaches_from schema n [] = []
row_breaches_from schema n (x ∷ xs) = places (when_true (differ (sort_of_number schema (Some n)) (sort_of schema x)) (begins_at x)) ++ row_breaches_from schema (suc n) xs

abbrev pub row_breaches : Schema → List Token → List ℕ
row_breaches schema ts = row_breaches_from schema 0 (values_in (drop 7 ts))

-- the breaches where this word joins two parts
abbrev pub joined_breaches : Schema → Word → Part → Part → List ℕ → List ℕ → List ℕ
joined_breaches schema w.And l r left right = left ++ right
joined_breaches schema w.Or l r left right = left ++ right
joined_breaches schema (w.Compare o) l r left right = places (breach schema l r)
joined_breaches schema word l r left right = places (option_or (text_operand schema l) (option_or (own_text schema l) (option_or (text_operand schema r) (own_text schema r))))

abbrev pub sign_breaches : Schema → Word → Part → List ℕ → List ℕ
sign_breaches schema w.Not s inner = inner
sign_breaches schema word s inner = places (option_or (text_operand schema s) (own_text schema s))

-- the breaches of a condition, or of an expression where a condition is due
abbrev pub breaches : Schema → Part → List ℕ
breaches schema (Prefix t s) = sign_breaches schema t.word s (breaches schema s)
breaches schema (Binary l t r) = joined_breaches schema t.word l r (breaches schema l) (breaches schema r)
breaches schema (Lower x b l) = places (breach schema x l)
breaches schema (Range x b l a h) = places (breach schema x l) ++ places (breach schema x h)
breaches schema (Nullness x i) = places (text_operand schema x)
breaches schema (Paren o s) = breaches schema s
breaches schema (RowTest ts) = row_breaches schema ts
breaches schema _ = []

-- ---- columns that are not there

abbrev pub no_column : Option ℕ → ℕ → List ℕ
no_column None place = place ∷ []
no_column (Some n) place = []

abbrev pub unknown : Schema → Word → ℕ → List ℕ
unknown schema (w.Name name) place = no_column (column_named schema name) place
unknown schema _ place = []

-- a row comparison has the key's columns
abbrev pub unknown_in : Schema → Part → List ℕ
unknown_in schema (Leaf t) = unknown schema t.word t.place
unknown_in schema (Prefix t s) = unknown_in schema s
unknown_in schema (Binary l t r) = unknown_in schema l ++ unknown_in schema r
unknown_in schema (Lower x b l) = unknown_in schema x ++ unknown_in schema l
unknown_in schema (Range x b l a h) = unknown_in schema x ++ (unknown_in schema l ++ unknown_in schema h)
unknown_in schema (Nullness x i) = unknown_in schema x
unknown_in schema (Paren o s) = unknown_in schema s
unknown_in schema _ = []
