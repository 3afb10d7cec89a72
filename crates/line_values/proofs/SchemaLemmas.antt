-- The form that a TABLE line gives is a schema of at most 16 columns.
use Rattle.std.proofs.Common.{◌≡◌, ◌≤◌, ◌<◌, ◌+◌, ℕ, Bool, true, false, List, [], ◌∷◌, ◌++◌, map, length, take, refl, sym, ap, subst, ◌∙◌, arith, append_assoc, append-nil, leb, leb-true, leb-false}
use Rattle.std.specs.Prelude.{if◌then◌else◌}
use Rattle.std.specs.List.{AllByRecursion}
use Rattle.std.proofs.lemmas.List.{length-map}
use Rattle.row_types.specs.declared.table_schema.Column.{Column}
use Rattle.row_types.specs.declared.table_schema.ColumnKind.{ColumnKind}
use Rattle.row_types.specs.declared.table_schema.ColumnKind.TheVariants.{Int as IntColumn, BigInt, Text as TextColumn}
use Rattle.row_types.specs.Fit.{KindFits, LengthFits, IsSchema}
use Rattle.file_text.specs.Parts.{Part}
use Rattle.file_text.specs.declared.places.Section.TheVariants.{TableLines}
use Rattle.file_text.specs.declared.places.Keyword.TheVariants.{First}
use Rattle.file_text.specs.declared.faults.LimitKind.TheVariants.{Columns}
use Rattle.file_text.specs.Said.{Said, TableOf, Item, Word, Sign, Name, Mark, Bare, Key, NotNull, ColumnText, kind_items, mark_items, column_items, more_columns, columns_items, is_key, KeysFirst, behind_first, Spells}
use Rattle.file_text.specs.Context.{column_of, is_nullable, keys_in, mark_keys, schema_of}
use Rattle.file_text.specs.Rules.{InRange}
use Rattle.file_text.specs.Causes.{names_among}
use Rattle.line_items.specs.Readings.{IsUnder}
use Rattle.line_words.specs.Actors.{kept}
use Rattle.line_values.specs.Tables.{short_length}
use Rattle.line_values.proofs.TableLemmas.{HasShortLength, ColumnIsShort, no_keys, columns_short}

-- ---- the key columns

key_mark : (mark : Mark) → is_key mark ≡ true → (mark_keys mark ≡ 1) × (is_nullable mark ≡ false)
key_mark Bare e = absurd cc
key_mark Key e = (refl, refl)
key_mark NotNull e = absurd cc

abbrev IsNotNull : Column → Type 0
IsNotNull column = column.nullable ≡ false

-- as many columns from the front as words KEY
first_null : (first : ColumnText) (columns : List Column) (keys : ℕ) → keys ≡ 1 → is_key first.mark ≡ true → AllByRecursion IsNotNull (take keys (column_of first ∷ columns))
first_null first columns keys e k = subst (λ (n : ℕ). AllByRecursion IsNotNull (take n (column_of first ∷ columns))) (sym e) ((key_mark first.mark k).1, tt)

record KeyFacts (columns : List ColumnText) : Type 0 where
  some : 1 ≤ keys_in columns
  most : keys_in columns ≤ 2
  within : keys_in columns ≤ length columns
  not_null : AllByRecursion IsNotNull (take (keys_in columns) (map column_of columns))

one_key_facts : (first : ColumnText) (columns : List ColumnText) → is_key first.mark ≡ true → keys_in columns ≡ 0 → KeyFacts (first ∷ columns)
one_key_facts first columns k z =
    let m = (key_mark first.mark k).0 in
    let e : mark_keys first.mark + keys_in columns ≡ 1 = omega (arith, m, z) in
    record { some = omega (arith, e); most = omega (arith, e); within = omega (arith, e); not_null = first_null first (map column_of columns) (mark_keys first.mark + keys_in columns) e k }

second_facts : (first second : ColumnText) (columns : List ColumnText) (mark : Mark) → second.mark ≡ mark → is_key first.mark ≡ true → keys_in columns ≡ 0 → KeyFacts (first ∷ second ∷ columns)
second_facts first second columns Bare e k z = let m = ap mark_keys e in one_key_facts first (second ∷ columns) k (omega (arith, m, z))
second_facts first second columns NotNull e k z = let m = ap mark_keys e in one_key_facts first (second ∷ columns) k (omega (arith, m, z))
second_facts first second columns Key e k z =
    let f = (key_mark first.mark k).0 in
    let m = ap mark_keys e in
    let two : mark_keys first.mark + (mark_keys second.mark + keys_in columns) ≡ 2 = omega (arith, f, m, z) in
    record {
      some = omega (arith, two);
      most = omega (arith, two);
      within = omega (arith, two);
      not_null = subst (λ (n : ℕ). AllByRecursion IsNotNull (take n (column_of first ∷ column_of second ∷ map column_of columns))) (sym two) ((key_mark first.mark k).1, (ap is_nullable e, tt));
    }

key_facts : (columns : List ColumnText) → KeysFirst columns → KeyFacts columns
key_facts [] k = absurd k
key_facts (first ∷ []) k = one_key_facts first [] k refl
key_facts (first ∷ second ∷ columns) k = second_facts first second columns second.mark refl k.0 (no_keys columns k.1).1

-- ---- the lengths of texts

kind_fits : (kind : ColumnKind) → HasShortLength kind → KindFits kind
kind_fits IntColumn h = tt
kind_fits BigInt h = tt
kind_fits (TextColumn max) h = let l = at_most_255 (kept max) in omega (arith, h, l)
  where
    at_most_255 : (n : ℕ) → short_length n ≤ 255
    at_most_255 n = by_test (leb 255 n) refl
      where
        by_test : (b : Bool) → leb 255 n ≡ b → (if b then 255 else n) ≤ 255
        by_test true e = omega arith
        by_test false e = let g = leb-false 255 n e in omega (arith, g)

lengths_fit : (columns : List ColumnText) → AllByRecursion ColumnIsShort columns → AllByRecursion LengthFits (map column_of columns)
lengths_fit [] h = tt
lengths_fit (column ∷ columns) h = (kind_fits column.kind h.0, lengths_fit columns h.1)

is_schema : (name : List ℕ) (columns : List ColumnText) → KeysFirst columns → AllByRecursion ColumnIsShort columns → IsSchema (schema_of name columns)
is_schema name columns k s =
    let f = key_facts columns k in
    record { key = f.some; most = f.most; within = subst (λ (n : ℕ). keys_in columns ≤ n) (sym (length-map columns column_of)) f.within; lengths = lengths_fit columns s; not_null = f.not_null }

-- ---- the limit on columns

names_append : (xs ys : List Item) → names_among (xs ++ ys) ≡ names_among xs + names_among ys
names_append [] ys = omega arith
names_append (Name name ∷ xs) ys = let h = names_append xs ys in omega (arith, h)
names_append (_ ∷ xs) ys = names_append xs ys

kind_names : (kind : ColumnKind) → names_among (kind_items kind) ≡ 0
kind_names IntColumn = refl
kind_names BigInt = refl
kind_names (TextColumn max) = refl

mark_names : (mark : Mark) → names_among (mark_items mark) ≡ 0
mark_names Bare = refl
mark_names Key = refl
mark_names NotNull = refl

column_names : (column : ColumnText) → names_among (column_items column) ≡ 1
column_names column =
    let a = names_append (kind_items column.kind) (mark_items column.mark) in
    let k = kind_names column.kind in
    let m = mark_names column.mark in
    omega (arith, a, k, m)

more_names : (columns : List ColumnText) → names_among (more_columns columns) ≡ length columns
more_names [] = refl
more_names (column ∷ columns) =
    let a = names_append (column_items column) (more_columns columns) in
    let c = column_names column in
    let h = more_names columns in
    omega (arith, a, c, h)

all_names : (columns : List ColumnText) → names_among (columns_items columns) ≡ length columns
all_names [] = refl
all_names (column ∷ columns) =
    let a = names_append (column_items column) (more_columns columns) in
    let c = column_names column in
    let h = more_names columns in
    omega (arith, a, c, h)

-- the items end with the parenthesis
record Ends (items : List Item) : Type 0 where
  front : List Item
  are : items ≡ front ++ Sign 41 ∷ []

ends_behind : (front items : List Item) → Ends items → Ends (front ++ items)
ends_behind front items e = record { front = front ++ e.front; are = ap (λ (l : List Item). front ++ l) e.are ∙ sym (append_assoc front e.front (Sign 41 ∷ [])) }

more_ends : (columns : List ColumnText) → Ends (more_columns columns)
more_ends [] = record { front = []; are = refl }
more_ends (column ∷ columns) = ends_behind (Sign 44 ∷ column_items column) (more_columns columns) (more_ends columns)

line_ends : (first : Item) (name : List ℕ) (columns : List ColumnText) → KeysFirst columns → Ends (first ∷ Name name ∷ Sign 40 ∷ columns_items columns)
line_ends first name [] k = absurd k
line_ends first name (column ∷ columns) k = ends_behind (first ∷ Name name ∷ Sign 40 ∷ column_items column) (more_columns columns) (more_ends columns)

few_columns : (before : List Said) (parts : List Part) (name : List ℕ) (columns : List ColumnText) → KeysFirst columns
    → Spells (Word (First TableLines) ∷ behind_first (TableOf name columns)) parts → InRange before [] (Word (First TableLines) ∷ behind_first (TableOf name columns))
    → IsUnder TableLines before parts → length columns ≤ 16
few_columns before parts name columns k s r u = by_test (leb (length columns) 16) refl
  where
    items : List Item
    items = Word (First TableLines) ∷ behind_first (TableOf name columns)

    e : Ends (Word (First TableLines) ∷ behind_first (TableOf name columns))
    e = line_ends (Word (First TableLines)) name columns k

    over : 16 < length columns → ⊥
    over l = u Columns (record {
      of = refl;
      fitting = parts;
      left = [];
      are = sym (append-nil parts);
      front = e.front;
      item = Sign 41;
      begins = record {
        may = record { back = []; line = record { said = TableOf name columns; of = refl; form = k; written = append-nil (e.front ++ Sign 41 ∷ []) ∙ sym e.are } };
        spelled = subst (λ (l : List Item). Spells l parts) e.are s;
        in_range = subst (InRange before []) e.are r;
      };
      passes = let n = ap names_among e.are in let a = all_names columns in omega (arith, l, n, a);
    })

    by_test : (b : Bool) → leb (length columns) 16 ≡ b → length columns ≤ 16
    by_test true t = leb-true (length columns) 16 t
    by_test false t = absurd (over (leb-false (length columns) 16 t))

pub table_fits : (before : List Said) (parts : List Part) (name : List ℕ) (columns : List ColumnText) → KeysFirst columns
    → Spells (Word (First TableLines) ∷ behind_first (TableOf name columns)) parts → InRange before [] (Word (First TableLines) ∷ behind_first (TableOf name columns))
    → IsUnder TableLines before parts → IsSchema (schema_of name columns) × (length (map column_of columns) ≤ 16)
table_fits before parts name columns k s r u =
    let f = few_columns before parts name columns k s r u in
    let m = length-map columns column_of in
    (is_schema name columns k (columns_short before _ columns r.1.1.1), omega (arith, f, m))
