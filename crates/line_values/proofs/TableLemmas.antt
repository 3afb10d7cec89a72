-- The form of a table, read from its items.
use Rattle.std.proofs.Common.{◌≡◌, ℕ, Bool, true, false, List, [], ◌∷◌, ◌++◌, map, refl, sym, ap, subst, ◌∙◌, arith, append_assoc, leb-true}
use Rattle.std.specs.Prelude.{◌+◌, ◌≤◌, ◌&&◌, leb, reverse, ⊤, if◌then◌else◌}
use Rattle.std.specs.List.{AllByRecursion}
use Rattle.std.proofs.lemmas.List.{reverse-append}
use Rattle.row_types.specs.declared.table_schema.Column.{Column}
use Rattle.row_types.specs.declared.table_schema.ColumnKind.{ColumnKind}
use Rattle.row_types.specs.declared.table_schema.ColumnKind.TheVariants.{Int as IntColumn, BigInt, Text as TextColumn}
use Rattle.row_types.specs.declared.table_schema.Schema.{Schema}
use Rattle.file_text.specs.declared.places.Section.{Section}
use Rattle.file_text.specs.declared.places.Keyword.TheVariants.{First}
use Rattle.file_text.specs.Said.{Said, Item, Word, Sign, Name, Mark, Bare, Key, NotNull, ColumnText, kind_items, mark_items, column_items, more_columns, columns_items, is_key, HasNoKey, KeysFirst}
use Rattle.file_text.specs.Context.{column_of, is_nullable, keys_in, mark_keys, schema_of}
use Rattle.file_text.specs.Rules.{InRange}
use Rattle.line_words.specs.Actors.{kept}
use Rattle.line_items.specs.declared.found_items.LineItem.{LineItem}
use Rattle.line_items.specs.Items.{kept_item}
use Rattle.line_values.specs.declared.table_texts.TableDraft.{TableDraft}
use Rattle.line_values.specs.Tables.{fresh, one_more_key, short_length, drafted, drafted_on, with_name, schema_in}
use Rattle.line_values.proofs.RangeLemmas.{unless_none, range_behind}

pub last_item : (draft : TableDraft) (items : List LineItem) (item : LineItem) → drafted_on (items ++ item ∷ []) draft ≡ drafted_on items (drafted item draft)
last_item draft [] item = refl
last_item draft (x ∷ items) item = ap (drafted x) (last_item draft items item)

drafted_append : (xs ys : List LineItem) (draft : TableDraft) → drafted_on (xs ++ ys) draft ≡ drafted_on xs (drafted_on ys draft)
drafted_append [] ys draft = refl
drafted_append (x ∷ xs) ys draft = ap (drafted x) (drafted_append xs ys draft)

map_append : (xs ys : List Item) → map kept_item (xs ++ ys) ≡ map kept_item xs ++ map kept_item ys
map_append [] ys = refl
map_append (x ∷ xs) ys = ap (λ (l : List LineItem). kept_item x ∷ l) (map_append xs ys)

-- ---- columns, from the last to the first

-- what is read once the name of the first of these columns is
abbrev with_keys : List Column → ℕ → TableDraft
with_keys columns keys = record { columns = columns; kind = IntColumn; nullable = true; keys = keys }

abbrev mark_counted : Mark → ℕ → ℕ
mark_counted Bare keys = keys
mark_counted Key keys = one_more_key keys
mark_counted NotNull keys = keys

abbrev keys_counted : List ColumnText → ℕ
keys_counted [] = 0
keys_counted (column ∷ columns) = mark_counted column.mark (keys_counted columns)

abbrev turned_columns : List ColumnText → List Column
turned_columns [] = []
turned_columns (column ∷ columns) = turned_columns columns ++ column_of column ∷ []

abbrev pub HasShortLength : ColumnKind → Type 0
HasShortLength IntColumn = ⊤
HasShortLength BigInt = ⊤
HasShortLength (TextColumn max) = short_length (kept max) ≡ max

abbrev pub ColumnIsShort : ColumnText → Type 0
ColumnIsShort column = HasShortLength column.kind

at_mark : (mark : Mark) (columns : List Column) (keys : ℕ)
    → drafted_on (map kept_item (mark_items mark)) (with_keys columns keys) ≡ record { columns = columns; kind = IntColumn; nullable = is_nullable mark; keys = mark_counted mark keys }
at_mark Bare columns keys = refl
at_mark Key columns keys = refl
at_mark NotNull columns keys = refl

at_kind : (kind : ColumnKind) (columns : List Column) (nullable : Bool) (keys : ℕ) → HasShortLength kind
    → drafted_on (map kept_item (kind_items kind)) (record { columns = columns; kind = IntColumn; nullable = nullable; keys = keys }) ≡ record { columns = columns; kind = kind; nullable = nullable; keys = keys }
at_kind IntColumn columns nullable keys h = refl
at_kind BigInt columns nullable keys h = refl
at_kind (TextColumn max) columns nullable keys h = ap (λ (m : ℕ). record { columns = columns; kind = TextColumn m; nullable = nullable; keys = keys }) h

one_column : (column : ColumnText) (columns : List Column) (keys : ℕ) → ColumnIsShort column
    → drafted_on (map kept_item (column_items column)) (with_keys columns keys) ≡ with_keys (columns ++ column_of column ∷ []) (mark_counted column.mark keys)
one_column column columns keys h =
    ap (with_name column.name)
    (ap (λ (l : List LineItem). drafted_on l (with_keys columns keys)) (map_append (kind_items column.kind) (mark_items column.mark))
    ∙ drafted_append (map kept_item (kind_items column.kind)) (map kept_item (mark_items column.mark)) (with_keys columns keys)
    ∙ ap (drafted_on (map kept_item (kind_items column.kind))) (at_mark column.mark columns keys)
    ∙ at_kind column.kind columns (is_nullable column.mark) (mark_counted column.mark keys) h)

-- a column, and what is behind it
column_before : (column : ColumnText) (more : List Item) (columns : List Column) (keys : ℕ) → ColumnIsShort column
    → drafted_on (map kept_item more) fresh ≡ with_keys columns keys
    → drafted_on (map kept_item (column_items column ++ more)) fresh ≡ with_keys (columns ++ column_of column ∷ []) (mark_counted column.mark keys)
column_before column more columns keys h e =
    ap (λ (l : List LineItem). drafted_on l fresh) (map_append (column_items column) more)
    ∙ drafted_append (map kept_item (column_items column)) (map kept_item more) fresh
    ∙ ap (drafted_on (map kept_item (column_items column))) e
    ∙ one_column column columns keys h

further_columns : (columns : List ColumnText) → AllByRecursion ColumnIsShort columns
    → drafted_on (map kept_item (more_columns columns)) fresh ≡ with_keys (turned_columns columns) (keys_counted columns)
further_columns [] h = refl
further_columns (column ∷ columns) h = column_before column (more_columns columns) (turned_columns columns) (keys_counted columns) h.0 (further_columns columns h.1)

all_columns : (columns : List ColumnText) → AllByRecursion ColumnIsShort columns
    → drafted_on (map kept_item (columns_items columns)) fresh ≡ with_keys (turned_columns columns) (keys_counted columns)
all_columns [] h = refl
all_columns (column ∷ columns) h = column_before column (more_columns columns) (turned_columns columns) (keys_counted columns) h.0 (further_columns columns h.1)

turned_back : (columns : List ColumnText) → reverse (turned_columns columns) ≡ map column_of columns
turned_back [] = refl
turned_back (column ∷ columns) = reverse-append (turned_columns columns) (column_of column ∷ []) ∙ ap (λ (l : List Column). column_of column ∷ l) (turned_back columns)

-- ---- at most two words KEY

pub no_keys : (columns : List ColumnText) → AllByRecursion HasNoKey columns → (keys_counted columns ≡ 0) × (keys_in columns ≡ 0)
no_keys [] h = (refl, refl)
no_keys (column ∷ columns) h = by_mark column.mark h.0 (no_keys columns h.1)
  where
    by_mark : (mark : Mark) → is_key mark ≡ false → (keys_counted columns ≡ 0) × (keys_in columns ≡ 0) → (mark_counted mark (keys_counted columns) ≡ 0) × (mark_keys mark + keys_in columns ≡ 0)
    by_mark Bare e k = (k.0, omega (arith, k.1))
    by_mark Key e k = absurd cc
    by_mark NotNull e k = (k.0, omega (arith, k.1))

one_key : (mark : Mark) → is_key mark ≡ true → (counted plain : ℕ) → counted ≡ plain → plain ≤ 1 → mark_counted mark counted ≡ mark_keys mark + plain
one_key Bare e counted plain same few = absurd cc
one_key Key e counted plain same few = by_test (leb 2 counted) refl
  where
    by_test : (b : Bool) → leb 2 counted ≡ b → one_more_key counted ≡ 1 + plain
    by_test true t = absurd (let g = leb-true 2 counted t in omega (arith, g, same, few))
    by_test false t = subst (λ (b : Bool). (if b then counted else counted + 1) ≡ 1 + plain) (sym t) (omega (arith, same))
one_key NotNull e counted plain same few = absurd cc

second_key : (mark : Mark) (counted plain : ℕ) → counted ≡ 0 → plain ≡ 0 → (mark_counted mark counted ≡ mark_keys mark + plain) × (mark_keys mark + plain ≤ 1)
second_key Bare counted plain c p = (omega (arith, c, p), omega (arith, p))
second_key Key counted plain c p = (subst (λ (n : ℕ). one_more_key n ≡ 1 + plain) (sym c) (omega (arith, p)), omega (arith, p))
second_key NotNull counted plain c p = (omega (arith, c, p), omega (arith, p))

keys_are : (columns : List ColumnText) → KeysFirst columns → keys_counted columns ≡ keys_in columns
keys_are [] h = absurd h
keys_are (first ∷ []) h = one_key first.mark h 0 0 refl (omega arith)
keys_are (first ∷ second ∷ columns) h =
    let k = no_keys columns h.1 in
    let s = second_key second.mark (keys_counted columns) (keys_in columns) k.0 k.1 in
    one_key first.mark h.0 (mark_counted second.mark (keys_counted columns)) (mark_keys second.mark + keys_in columns) s.0 s.1

-- ---- the lengths are in their range

in_length : (max : ℕ) → (leb 1 max && leb max 255) ≡ true → short_length (kept max) ≡ max
in_length max e = by_test (leb 255 (kept max)) refl
  where
    upper : max ≤ 255
    upper = by_and (leb 1 max) e
      where
        by_and : (b : Bool) → (b && leb max 255) ≡ true → max ≤ 255
        by_and true f = leb-true max 255 f
        by_and false f = absurd cc

    small : kept max ≡ max
    small = omega (arith, upper)

    by_test : (b : Bool) → leb 255 (kept max) ≡ b → (if b then 255 else kept max) ≡ max
    by_test true t = let g = leb-true 255 (kept max) t in omega (arith, g, small, upper)
    by_test false t = small

kind_short : (before : List Said) (acc : List Item) (kind : ColumnKind) (more : List Item) → InRange before acc (kind_items kind ++ more) → HasShortLength kind
kind_short before acc IntColumn more r = tt
kind_short before acc BigInt more r = tt
kind_short before acc (TextColumn max) more r = in_length max (unless_none (leb 1 max && leb max 255) _ r.1.1.0)

column_short : (before : List Said) (acc : List Item) (column : ColumnText) (more : List Item) → InRange before acc (column_items column ++ more) → ColumnIsShort column
column_short before acc column more r =
    kind_short before (acc ++ Name column.name ∷ []) column.kind (mark_items column.mark ++ more)
    (subst (InRange before (acc ++ Name column.name ∷ [])) (append_assoc (kind_items column.kind) (mark_items column.mark) more) r.1)

further_short : (before : List Said) (acc : List Item) (columns : List ColumnText) → InRange before acc (more_columns columns) → AllByRecursion ColumnIsShort columns
further_short before acc [] r = tt
further_short before acc (column ∷ columns) r = (
  column_short before (acc ++ Sign 44 ∷ []) column (more_columns columns) r.1,
  further_short before ((acc ++ Sign 44 ∷ []) ++ column_items column) columns (range_behind before (acc ++ Sign 44 ∷ []) (column_items column) (more_columns columns) r.1),
)

pub columns_short : (before : List Said) (acc : List Item) (columns : List ColumnText) → InRange before acc (columns_items columns) → AllByRecursion ColumnIsShort columns
columns_short before acc [] r = tt
columns_short before acc (column ∷ columns) r = (
  column_short before acc column (more_columns columns) r,
  further_short before (acc ++ column_items column) columns (range_behind before acc (column_items column) (more_columns columns) r),
)

abbrev schema_with : List ℕ → List Column → ℕ → Schema
schema_with name columns keys = record { name = name; columns = columns; key_len = keys }

same_schema : (name : List ℕ) (columns other : List Column) (keys more : ℕ) → columns ≡ other → keys ≡ more → schema_with name columns keys ≡ schema_with name other more
same_schema name columns other keys more e f = ap (λ (l : List Column). schema_with name l keys) e ∙ ap (schema_with name other) f

pub table_given : (section : Section) (before : List Said) (name : List ℕ) (columns : List ColumnText) → KeysFirst columns → InRange before [] (Word (First section) ∷ Name name ∷ Sign 40 ∷ columns_items columns)
    → schema_in (map kept_item (Word (First section) ∷ Name name ∷ Sign 40 ∷ columns_items columns)) ≡ schema_of name columns
table_given section before name columns k r =
    let e = all_columns columns (columns_short before _ columns r.1.1.1) in
    same_schema name _ (map column_of columns) _ (keys_in columns) (ap (λ (d : TableDraft). reverse d.columns) e ∙ turned_back columns) (ap (λ (d : TableDraft). d.keys) e ∙ keys_are columns k)
