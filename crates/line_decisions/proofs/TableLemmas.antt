-- TABLE lines: a name that is there, and columns of one name.
use Rattle.std.proofs.Common.{◌≡◌, ℕ, Bool, true, false, List, [], ◌∷◌, ◌++◌, map, Option, Some, None, refl, sym, ap, ◌∙◌, inl, inr}
use Rattle.file_laws.proofs.TestLemmas.{or_right, or_left}
use Rattle.std.specs.Prelude.{◌||◌, is_some, bytes_eq}
use Rattle.file_text.specs.declared.places.Section.TheVariants.{TableLines}
use Rattle.file_text.specs.Said.{Said, TableOf, ColumnText}
use Rattle.file_text.specs.Causes.{IsSaidAgain, SameName}
use Rattle.line_checks.specs.declared.line_faults.LineFault.{LineFault}
use Rattle.line_checks.specs.declared.marks.Marks.{Marks}
use Rattle.line_checks.specs.MarksOf.{IsMarked}
use Rattle.file_scripts.specs.Laws.{Tells}
use Rattle.line_decisions.specs.Decides.{Decides}
use Rattle.line_decisions.specs.Tests.{first_broken, plain_tests, any_named, has_twins, table_twice}
use Rattle.std.proofs.lemmas.Slice.Eq.{bytes_eq-Decides}
use Rattle.row_types.specs.declared.table_schema.Schema.{Schema}
use Rattle.file_text.specs.Context.{column_of, schema_of}
use Rattle.file_rows.specs.declared.file_tables.FileTable.{FileTable}
use Rattle.file_rows.specs.Holds.{HoldsRows}
use Rattle.file_rows.specs.Puts.{place_named}
use Rattle.file_rows.proofs.ThereLemmas.{no_table, name_there}
use Rattle.line_decisions.proofs.ToldLemmas.{decided, script_told}

-- ---- two columns of one name

record Named (name : List ℕ) (columns : List ColumnText) : Type 0 where
  front : List ColumnText
  column : ColumnText
  back : List ColumnText
  are : columns ≡ front ++ column ∷ back
  same : name ≡ column.name

named_there : (name : List ℕ) (columns : List ColumnText) → any_named name (map column_of columns) ≡ true → Named name columns
named_there name [] e = absurd cc
named_there name (column ∷ columns) e = by_test (bytes_eq column.name name) refl e (named_there name columns)
  where
    by_test : (b : Bool) → bytes_eq column.name name ≡ b → (b || any_named name (map column_of columns)) ≡ true → (any_named name (map column_of columns) ≡ true → Named name columns) → Named name (column ∷ columns)
    by_test true t f go = record { front = []; column = column; back = columns; are = refl; same = sym ((bytes_eq-Decides column.name name).0 t) }
    by_test false t f go = let n = go f in record { front = column ∷ n.front; column = n.column; back = n.back; are = ap (λ (l : List ColumnText). column ∷ l) n.are; same = n.same }

there_named : (name : List ℕ) (front : List ColumnText) (column : ColumnText) (back : List ColumnText) → name ≡ column.name → any_named name (map column_of (front ++ column ∷ back)) ≡ true
there_named name [] column back e = or_left (bytes_eq column.name name) (any_named name (map column_of back)) ((bytes_eq-Decides column.name name).1 (sym e))
there_named name (first ∷ front) column back e = or_right (bytes_eq first.name name) (any_named name (map column_of (front ++ column ∷ back))) (there_named name front column back e)

twins_there : (columns : List ColumnText) → has_twins (map column_of columns) ≡ true → SameName columns
twins_there [] e = absurd cc
twins_there (column ∷ columns) e = by_test (any_named column.name (map column_of columns)) refl e (twins_there columns)
  where
    by_test : (b : Bool) → any_named column.name (map column_of columns) ≡ b → (b || has_twins (map column_of columns)) ≡ true → (has_twins (map column_of columns) ≡ true → SameName columns) → SameName (column ∷ columns)
    by_test true t f go =
        let n = named_there column.name columns t in
        record { front = []; first = column; between = n.front; second = n.column; back = n.back; are = ap (λ (l : List ColumnText). column ∷ l) n.are; same = n.same }
    by_test false t f go =
        let s = go f in
        record { front = column ∷ s.front; first = s.first; between = s.between; second = s.second; back = s.back; are = ap (λ (l : List ColumnText). column ∷ l) s.are; same = s.same }

at_twins : (front : List ColumnText) (first : ColumnText) (between : List ColumnText) (second : ColumnText) (back : List ColumnText) → first.name ≡ second.name → has_twins (map column_of (front ++ first ∷ (between ++ second ∷ back))) ≡ true
at_twins [] first between second back e = or_left (any_named first.name (map column_of (between ++ second ∷ back))) (has_twins (map column_of (between ++ second ∷ back))) (there_named first.name between second back e)
at_twins (one ∷ front) first between second back e =
    or_right (any_named one.name (map column_of (front ++ first ∷ (between ++ second ∷ back)))) (has_twins (map column_of (front ++ first ∷ (between ++ second ∷ back)))) (at_twins front first between second back e)

there_twins : (columns : List ColumnText) → SameName columns → has_twins (map column_of columns) ≡ true
there_twins columns s = ap (λ (l : List ColumnText). has_twins (map column_of l)) s.are ∙ at_twins s.front s.first s.between s.second s.back s.same

-- ---- a table of the name

twice_told : (tables : List FileTable) (before : List Said) (name : List ℕ) (columns : List ColumnText) → HoldsRows tables before
    → (place : Option ℕ) → place_named name 0 tables ≡ place → (twins : Bool) → has_twins (map column_of columns) ≡ twins → Tells (is_some place || twins) (IsSaidAgain before (TableOf name columns))
twice_told tables before name columns h (Some place) p twins t = inl (name_there tables before name place h p)
twice_told tables before name columns h None p true t = inr (twins_there columns t)
twice_told tables before name columns h None p false t = λ w. neither w
  where
    neither : IsSaidAgain before (TableOf name columns) → ⊥
    neither (inl s) = no_table tables before name h p s.0 s.1
    neither (inr s) = clash (has_twins (map column_of columns)) t (there_twins columns s)
      where
        clash : (b : Bool) → b ≡ false → b ≡ true → ⊥
        clash b e f = cc

pub table_decided : (marks : Marks) (tables : List FileTable) (schema : Schema) (result : Option LineFault) → result ≡ first_broken (plain_tests TableLines (table_twice schema tables) marks)
    → (before : List Said) (line : List ℕ) (name : List ℕ) (columns : List ColumnText) → IsMarked marks before → HoldsRows tables before → schema ≡ schema_of name columns → Decides TableLines before line (TableOf name columns) result
table_decided marks tables schema result e before line name columns m h s =
    decided TableLines before line (TableOf name columns) (plain_tests TableLines (table_twice (schema_of name columns) tables) marks) result (e ∙ ap (λ (x : Schema). first_broken (plain_tests TableLines (table_twice x tables) marks)) s) (record {
      twice = twice_told tables before name columns h (place_named name 0 tables) refl (has_twins (map column_of columns)) refl;
      level = λ w. w;
      row = λ fault w. w;
      script = script_told TableLines before (TableOf name columns) marks m refl;
      actor = λ number w. w;
    })
