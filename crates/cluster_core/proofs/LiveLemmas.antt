-- Live tables: what they keep, and what a statement does to them.
use Rattle.std.proofs.Common.{◌≡◌, ℕ, zero, suc, ◌<◌, ◌≤◌, ◌^◌, List, [], ◌∷◌, ◌++◌, length, take, map, refl, ap, sym, ◌∙◌, subst, arith, Option, Some, None, Bor}
use Rattle.std.specs.Prelude.{is_some, option_copied, option_and_then, slice_index_or, slice_set}
use Rattle.std.proofs.lemmas.List.{set-get_or}
use Rattle.std.specs.Option.{option_map_or}
use Rattle.std.specs.List.{AllByRecursion, slice_get}
use Rattle.row_types.specs.declared.values.Value.{Value}
use Rattle.row_types.specs.declared.values.Value.TheVariants.{Null, Int, Text as OneText}
use Rattle.row_types.specs.declared.table_schema.ColumnKind.{ColumnKind}
use Rattle.row_types.specs.declared.table_schema.ColumnKind.TheVariants.{Int as IntColumn, BigInt, Text as TextColumn}
use Rattle.row_types.specs.declared.table_schema.Column.{Column}
use Rattle.row_types.specs.declared.table_schema.Schema.{Schema}
use Rattle.row_types.specs.declared.edges.Span.{Span}
use Rattle.row_types.specs.Fit.{key_of, IsSchema, IsTable, AreTables, ValuesFit, ValueFits, TextFits, KindFits, LengthFits}
use Rattle.row_types.specs.Faults.{TextIsShort}
use Rattle.row_types.specs.KeyRows.{row_at, rows_in}
use Rattle.ordered_table.specs.TableView.{TableView}
use Rattle.ptc_statement.specs.declared.statements.Statement.{Statement}
use Rattle.ptc_statement.specs.Effect.{table_of, rows_after}
use Rattle.ptc_statement.specs.Effect.{row_at as row_of}
use Rattle.ptc_statement.specs.Fits.{StatementFits}
use Rattle.ptc_statement.proofs.TableLemmas.{rows_after_table}
use Rattle.row_digest.specs.Encoding.{IsEncodable}
use Rattle.table_changes.specs.Plans.{IsSound}
use Rattle.history.specs.Replay.{chunk_rows, table_rows, tables_after}
use Rattle.cluster_core.specs.LiveTables.{row_in, rows_of_each}
use Rattle.cluster_core.specs.LiveParts.{AreSound, without_spare}
use Rattle.cluster_core.proofs.MoveLemmas.{slice_get-within}

text_is_short : (kind : ColumnKind) (text : List ℕ) → KindFits kind → TextFits kind text → length text < 2 ^ 32
text_is_short IntColumn text fits short = absurd short
text_is_short BigInt text fits short = absurd short
text_is_short (TextColumn max) text fits short = omega arith

value_is_short : (column : Column) (value : Value) → LengthFits column → ValueFits column value → TextIsShort value
value_is_short column Null fits value = tt
value_is_short column (Int n) fits value = tt
value_is_short column (OneText text) fits value = text_is_short column.kind text fits value

values_are_short : (columns : List Column) (values : List Value) → AllByRecursion LengthFits columns → ValuesFit columns values
    → AllByRecursion TextIsShort values
values_are_short [] [] lengths fit = tt
values_are_short [] (value ∷ values) lengths fit = absurd fit
values_are_short (column ∷ columns) [] lengths fit = tt
values_are_short (column ∷ columns) (value ∷ values) lengths fit =
    (value_is_short column value lengths.0 fit.0, values_are_short columns values lengths.1 fit.1)

-- the rows of a table that fit can be encoded
pub rows_encodable : (schema : Schema) (rows : List (List Value)) → IsSchema schema → IsTable schema rows → AllByRecursion IsEncodable rows
rows_encodable schema [] is table = tt
rows_encodable schema (row ∷ rows) is table = (values_are_short schema.columns row is.lengths table.0, rows_encodable schema rows is table.2)

-- a table of this number is of the schema of this number
pub sound_at : (schemas : List Schema) (tables : List TableView) (place : ℕ) (schema : Schema) (table : TableView) → AreSound schemas tables
    → slice_get schemas place ≡ Some schema → slice_get tables place ≡ Some table → IsSound schema table.key_len table.rows
sound_at [] tables place schema table are found there = absurd (cc)
sound_at (first ∷ schemas) [] place schema table are found there = absurd are
sound_at (first ∷ schemas) (one ∷ tables) zero schema table are found there =
    let same : first ≡ schema = cc in
    let same_table : one ≡ table = cc in
    subst (λ (t : TableView). IsSound schema t.key_len t.rows) same_table (subst (λ (s : Schema). IsSound s one.key_len one.rows) same are.0)
sound_at (first ∷ schemas) (one ∷ tables) (suc place) schema table are found there = sound_at schemas tables place schema table are.1 found there

-- there are as many tables as schemas
pub sound_within : (schemas : List Schema) (tables : List TableView) (place : ℕ) (schema : Schema) → AreSound schemas tables
    → slice_get schemas place ≡ Some schema → place < length tables
sound_within [] tables place schema are found = absurd (cc)
sound_within (first ∷ schemas) [] place schema are found = absurd are
sound_within (first ∷ schemas) (one ∷ tables) zero schema are found = omega arith
sound_within (first ∷ schemas) (one ∷ tables) (suc place) schema are found = omega (arith, sound_within schemas tables place schema are.1 found)

pub sound_schema : (schemas : List Schema) (tables : List TableView) (place : ℕ) (table : TableView) → AreSound schemas tables
    → slice_get tables place ≡ Some table → (schema : Schema) × (slice_get schemas place ≡ Some schema)
sound_schema [] [] place table are found = absurd (cc)
sound_schema [] (one ∷ tables) place table are found = absurd are
sound_schema (first ∷ schemas) [] place table are found = absurd are
sound_schema (first ∷ schemas) (one ∷ tables) zero table are found = (first, refl)
sound_schema (first ∷ schemas) (one ∷ tables) (suc place) table are found = sound_schema schemas tables place table are.1 found

pub no_schema : (schemas : List Schema) (tables : List TableView) (place : ℕ) → AreSound schemas tables → slice_get tables place ≡ None → slice_get schemas place ≡ None
no_schema [] tables place are none = refl
no_schema (first ∷ schemas) [] place are none = absurd are
no_schema (first ∷ schemas) (one ∷ tables) zero are none = absurd (cc)
no_schema (first ∷ schemas) (one ∷ tables) (suc place) are none = no_schema schemas tables place are.1 none

pub sound_set : (schemas : List Schema) (tables : List TableView) (place : ℕ) (schema : Schema) (table : TableView) → AreSound schemas tables
    → slice_get schemas place ≡ Some schema → IsSound schema table.key_len table.rows → AreSound schemas (slice_set tables place table)
sound_set [] tables place schema table are found sound = absurd (cc)
sound_set (first ∷ schemas) [] place schema table are found sound = absurd are
sound_set (first ∷ schemas) (one ∷ tables) zero schema table are found sound =
    let same : schema ≡ first = cc in
    (subst (λ (s : Schema). IsSound s table.key_len table.rows) same sound, are.1)
sound_set (first ∷ schemas) (one ∷ tables) (suc place) schema table are found sound = (are.0, sound_set schemas tables place schema table are.1 found sound)

-- a table for one schema more
pub sound_more : (schemas : List Schema) (tables : List TableView) (place : ℕ) (schema : Schema) (table : TableView) → AreSound (take place schemas) tables
    → slice_get schemas place ≡ Some schema → IsSound schema table.key_len table.rows → AreSound (take (suc place) schemas) (tables ++ table ∷ [])
sound_more [] tables place schema table are found sound = absurd (cc)
sound_more (first ∷ schemas) [] zero schema table are found sound =
    let same : schema ≡ first = cc in
    (subst (λ (s : Schema). IsSound s table.key_len table.rows) same sound, tt)
sound_more (first ∷ schemas) (one ∷ tables) zero schema table are found sound = absurd are
sound_more (first ∷ schemas) [] (suc place) schema table are found sound = absurd are
sound_more (first ∷ schemas) (one ∷ tables) (suc place) schema table are found sound = (are.0, sound_more schemas tables place schema table are.1 found sound)

pub rows_more : (tables : List TableView) (start : List (List (List Value))) (place : ℕ) (table : TableView) → rows_of_each tables ≡ take place start
    → slice_get start place ≡ Some table.rows → rows_of_each (tables ++ table ∷ []) ≡ take (suc place) start
rows_more tables [] place table same found = absurd (cc)
rows_more [] (rows ∷ start) zero table same found =
    let is : rows ≡ table.rows = cc in
    ap (λ (r : List (List Value)). r ∷ []) (sym is)
rows_more [] (rows ∷ start) (suc place) table same found = absurd (cc)
rows_more (one ∷ tables) (rows ∷ start) zero table same found = absurd (cc)
rows_more (one ∷ tables) (rows ∷ start) (suc place) table same found =
    let first : one.rows ≡ rows = cc in
    let others : rows_of_each tables ≡ take place start = cc in
    ap (λ (r : List (List Value)). r ∷ rows_of_each (tables ++ table ∷ [])) first
    ∙ ap (λ rest. rows ∷ rest) (rows_more tables start place table others found)

-- the tables at the start are as many as the schemas, and each is of its own
pub start_many : (schemas : List Schema) (start : List (List (List Value))) → AreTables schemas start → length start ≡ length schemas
start_many [] [] are = refl
start_many [] (rows ∷ start) are = absurd are
start_many (schema ∷ schemas) [] are = absurd are
start_many (schema ∷ schemas) (rows ∷ start) are = ap suc (start_many schemas start are.1)

pub start_sound : (schemas : List Schema) (start : List (List (List Value))) (place : ℕ) (schema : Schema) (rows : List (List Value)) → AllByRecursion IsSchema schemas
    → AreTables schemas start → slice_get schemas place ≡ Some schema → slice_get start place ≡ Some rows → IsSound schema schema.key_len rows
start_sound [] start place schema rows all are found there = absurd (cc)
start_sound (first ∷ schemas) [] place schema rows all are found there = absurd (cc)
start_sound (first ∷ schemas) (one ∷ start) zero schema rows all are found there =
    let same : first ≡ schema = cc in
    let same_rows : one ≡ rows = cc in
    subst (λ (rs : List (List Value)). IsSound schema schema.key_len rs) same_rows
    (subst (λ (s : Schema). IsSound s s.key_len one) same (record { is_schema = all.0; is_table = are.0; same_key = refl }))
start_sound (first ∷ schemas) (one ∷ start) (suc place) schema rows all are found there = start_sound schemas start place schema rows all.1 are.1 found there

-- the rows of the table of this number
pub rows_at : (tables : List TableView) (place : ℕ) (table : TableView) → slice_get tables place ≡ Some table → table_rows (rows_of_each tables) place ≡ table.rows
rows_at [] place table found = absurd (cc)
rows_at (one ∷ tables) zero table found =
    let same : one ≡ table = cc in
    ap (λ (t : TableView). t.rows) same
rows_at (one ∷ tables) (suc place) table found = rows_at tables place table found

pub rows_set : (tables : List TableView) (place : ℕ) (table : TableView) → rows_of_each (slice_set tables place table) ≡ slice_set (rows_of_each tables) place table.rows
rows_set [] place table = refl
rows_set (one ∷ tables) zero table = refl
rows_set (one ∷ tables) (suc place) table = ap (λ rest. one.rows ∷ rest) (rows_set tables place table)

-- where its schema stands, a statement changes its table's rows
pub tables_change : (schemas : List Schema) (statement : Statement) (tables : List (List (List Value))) (schema : Schema) → slice_get schemas (table_of statement) ≡ Some schema
    → tables_after schemas statement tables ≡ slice_set tables (table_of statement) (rows_after schema statement (table_rows tables (table_of statement)))
tables_change schemas statement tables schema found =
    ap (λ (o : Option Schema). option_map_or (λ (schema : Schema). slice_set tables (table_of statement) (rows_after schema statement (table_rows tables (table_of statement)))) o tables) found

-- where a table is changed, the tables are those after the statement
pub changed_at : (schemas : List Schema) (tables : List TableView) (place : ℕ) (schema : Schema) (statement : Statement) (table new : TableView)
    → place ≡ table_of statement → slice_get schemas place ≡ Some schema → slice_get tables place ≡ Some table
    → new.rows ≡ rows_after schema statement table.rows
    → rows_of_each (slice_set tables place new) ≡ tables_after schemas statement (rows_of_each tables)
changed_at schemas tables place schema statement table new is found there changed =
    let rows : new.rows ≡ rows_after schema statement (table_rows (rows_of_each tables) (table_of statement)) =
    changed ∙ ap (rows_after schema statement) (sym (rows_at tables place table there)) ∙ ap (λ n. rows_after schema statement (table_rows (rows_of_each tables) n)) is in
    rows_set tables place new
    ∙ ap (λ n. slice_set (rows_of_each tables) n new.rows) is
    ∙ ap (slice_set (rows_of_each tables) (table_of statement)) rows
    ∙ sym (tables_change schemas statement (rows_of_each tables) schema (sym (ap (slice_get schemas) is) ∙ found))

-- a sound table is sound after a statement that fits
pub sound_after : (schema : Schema) (statement : Statement) (old new : TableView) → IsSound schema old.key_len old.rows → StatementFits schema statement
    → new.key_len ≡ old.key_len → new.rows ≡ rows_after schema statement old.rows → IsSound schema new.key_len new.rows
sound_after schema statement old new sound fits key changed = record {
  is_schema = sound.is_schema;
  is_table = subst (IsTable schema) (sym changed) (rows_after_table schema statement old.rows fits sound.is_table);
  same_key = key ∙ sound.same_key;
}

-- and where its rows stay, all do
pub stays_at : (tables : List TableView) (place : ℕ) (table new : TableView) → slice_get tables place ≡ Some table → new.rows ≡ table.rows
    → rows_of_each (slice_set tables place new) ≡ rows_of_each tables
stays_at tables place table new there same =
    rows_set tables place new ∙ ap (slice_set (rows_of_each tables) place) (same ∙ sym (rows_at tables place table there))
    ∙ set-get_or (rows_of_each tables) place []

-- the row at the key of another
pub row_is : (schemas : List Schema) (tables : List TableView) (place : ℕ) (schema : Schema) (table : TableView) (row key : List Value) → AreSound schemas tables
    → slice_get schemas place ≡ Some schema → slice_get tables place ≡ Some table → key ≡ key_of schema row
    → row_at table.key_len key table.rows ≡ row_in schemas (rows_of_each tables) place row
row_is schemas tables place schema table row key are found there same =
    let sound = sound_at schemas tables place schema table are found there in
    ap (λ k. row_at table.key_len k table.rows) same
    ∙ ap (λ n. row_at n (key_of schema row) table.rows) sound.same_key
    ∙ ap (row_of schema (key_of schema row)) (sym (rows_at tables place table there))
    ∙ sym (ap (λ (o : Option Schema). option_and_then (λ (s : Schema). row_of s (key_of s row) (table_rows (rows_of_each tables) place)) o) found)

-- the rows of a span
pub chunk_is : (schemas : List Schema) (tables : List TableView) (place : ℕ) (schema : Schema) (table : TableView) (span : Span) → AreSound schemas tables
    → slice_get schemas place ≡ Some schema → slice_get tables place ≡ Some table
    → rows_in table.key_len span table.rows ≡ chunk_rows schemas (rows_of_each tables) place span
chunk_is schemas tables place schema table span are found there =
    let sound = sound_at schemas tables place schema table are found there in
    ap (λ n. rows_in n span table.rows) sound.same_key
    ∙ ap (rows_in schema.key_len span) (sym (rows_at tables place table there))
    ∙ sym (ap (λ (o : Option Schema). option_map_or (λ (s : Schema). rows_in s.key_len span (table_rows (rows_of_each tables) place)) o []) found)

pub no_chunk : (schemas : List Schema) (tables : List (List (List Value))) (place : ℕ) (span : Span) → slice_get schemas place ≡ None → chunk_rows schemas tables place span ≡ []
no_chunk schemas tables place span none =
    ap (λ (o : Option Schema). option_map_or (λ (s : Schema). rows_in s.key_len span (table_rows tables place)) o []) none

pub some_copied : {A : Type 0} (found : Option (Bor A)) → is_some found ≡ is_some (option_copied found)
some_copied None = refl
some_copied (Some x) = refl

-- the tables at the start, as a loop goes over them
pub start_at : (schemas all : List Schema) (start starts : List (List (List Value))) (place : ℕ) (schema : Schema) (rows : List (List Value)) → all ≡ schemas → starts ≡ start
    → AllByRecursion IsSchema schemas → AreTables schemas start → place < length all → schema ≡ slice_index_or all place schema
    → rows ≡ slice_index_or starts place rows → IsSound schema schema.key_len rows
start_at schemas all start starts place schema rows same same_start each are within is rows_are =
    let many = start_many schemas start are in
    let here : length all ≡ length schemas = ap length same in
    let there : length starts ≡ length start = ap length same_start in
    let found : slice_get schemas place ≡ Some schema =
    ap (λ (ss : List Schema). slice_get ss place) (sym same) ∙ slice_get-within all place schema within ∙ ap (λ (s : Schema). Some s) (sym is) in
    let found_rows : slice_get start place ≡ Some rows =
    ap (λ (ts : List (List (List Value))). slice_get ts place) (sym same_start) ∙ slice_get-within starts place rows (omega arith) ∙ ap (λ (r : List (List Value)). Some r) (sym rows_are) in
    start_sound schemas start place schema rows each are found found_rows

-- copies of tables have their rows, and are as sound
pub copied_rows : (tables : List TableView) → rows_of_each (map without_spare tables) ≡ rows_of_each tables
copied_rows [] = refl
copied_rows (table ∷ tables) = ap (λ rest. table.rows ∷ rest) (copied_rows tables)

pub copied_sound : (schemas : List Schema) (tables : List TableView) → AreSound schemas tables → AreSound schemas (map without_spare tables)
copied_sound [] [] are = tt
copied_sound [] (table ∷ tables) are = absurd are
copied_sound (schema ∷ schemas) [] are = absurd are
copied_sound (schema ∷ schemas) (table ∷ tables) are = (are.0, copied_sound schemas tables are.1)
