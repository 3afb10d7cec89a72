-- Names are looked up column by column.
use Rattle.std.proofs.Common.{◌≡◌, ℕ, suc, ◌+◌, true, false, List, [], ◌∷◌, Option, Some, refl, sym, ◌∙◌, ap, add-one}
use Rattle.std.specs.Str.{bytes_eq}
use Rattle.row_types.specs.declared.table_schema.Column.{Column}
use Rattle.statement_grammar.specs.Grammar.{same_bytes}
use Rattle.statement_grammar.specs.Kinds.{column_from}

pub same_is : (a b : List ℕ) → same_bytes a b ≡ bytes_eq a b
same_is [] [] = refl
same_is [] (y ∷ ys) = refl
same_is (x ∷ xs) [] = refl
same_is (x ∷ xs) (y ∷ ys) = rw (same_is xs ys) refl

pub found_here : (n : ℕ) (column : Column) (columns : List Column) (name : List ℕ) (found : Option ℕ) → bytes_eq column.name name ≡ true → column_from n (column ∷ columns) name ≡ found → Some n ≡ found
found_here n column columns name found is e = sym (rw (same_is column.name name, is) refl) ∙ e

skipped : (n : ℕ) (column : Column) (columns : List Column) (name : List ℕ) → bytes_eq column.name name ≡ false → column_from n (column ∷ columns) name ≡ column_from (suc n) columns name
skipped n column columns name is = rw (same_is column.name name, is) refl

pub found_later : (n : ℕ) (column : Column) (columns : List Column) (name : List ℕ) (found : Option ℕ) → bytes_eq column.name name ≡ false → column_from n (column ∷ columns) name ≡ found → column_from (n + 1) columns name ≡ found
found_later n column columns name found is e = ap (λ (m : ℕ). column_from m columns name) (add-one n) ∙ sym (skipped n column columns name is) ∙ e
