-- The rows put in one after the other are a table, which a sorted map holds.
use Rattle.std.proofs.Common.{◌≡◌, ◌≢◌, ℤ, Bool, true, false, cond, List, [], ◌∷◌, ◌++◌, map, refl, sym, ap, subst, ◌∙◌, Ordering, Less, Equal, Greater, int_cmp, is_eq, Option, Some, None}
use Rattle.std.specs.Prelude.{IsSome}
use Rattle.std.specs.Ordering.{match_ordering, ordering_then}
use Rattle.std.specs.Map.{lookup}
use Rattle.std.specs.BTreeMap.{BTreeMap, get, insert_entry, is_at}
use Rattle.std.specs.Cmp.{int_cmp_total}
use Rattle.std.proofs.lemmas.Cmp.{tied_itself}
use Rattle.std.proofs.lemmas.Map.Lookups.{exact_signed}
use Rattle.std.proofs.lemmas.List.{map_push}
use Rattle.row_types.specs.declared.values.Value.{Value}
use Rattle.row_types.specs.declared.values.Value.TheVariants.{Int}
use Rattle.row_types.specs.declared.table_schema.Schema.{Schema}
use Rattle.row_types.specs.Fit.{with_row, with_rows}
use Rattle.ptc_run.specs.declared.row_lines.RowLine.{RowLine}
use Rattle.ptc_run.specs.FirstForm.{first_schema, values_of, table_of, keys_of, IsNotAmong}
use Rattle.ptc_run.specs.KeptRows.{entry_values, Keeps}
use Rattle.ptc_run.proofs.ListLemmas.{all_append, all_front, all_back}

-- ---- one row more

pub with_rows_push : (schema : Schema) (rows more : List (List Value)) (row : List Value) → with_rows schema rows (more ++ row ∷ []) ≡ with_row schema row (with_rows schema rows more)
with_rows_push schema rows [] row = refl
with_rows_push schema rows (other ∷ more) row = with_rows_push schema (with_row schema other rows) more row

pub table_of_push : (rows : List RowLine) (row : RowLine) → table_of (rows ++ row ∷ []) ≡ with_row first_schema (values_of row) (table_of rows)
table_of_push rows row = ap (with_rows first_schema []) (map_push values_of rows row) ∙ with_rows_push first_schema [] (map values_of rows) (values_of row)

insert_at : (o : Ordering) (key value : ℤ) (entry : ℤ × ℤ) (entries : List (ℤ × ℤ)) (rest : List (ℤ × ℤ)) (others : List (List Value)) → (o ≡ Equal → key ≡ entry.0) → map entry_values rest ≡ others
    → map entry_values (match_ordering o ((key, value) ∷ entry ∷ entries) ((entry.0, value) ∷ entries) (entry ∷ rest))
    ≡ match_ordering (ordering_then o Equal) ((Int key ∷ Int value ∷ []) ∷ map entry_values (entry ∷ entries)) ((Int key ∷ Int value ∷ []) ∷ map entry_values entries) (entry_values entry ∷ others)
insert_at Less key value entry entries rest others same ih = refl
insert_at Equal key value entry entries rest others same ih = ap (λ (k : ℤ). (Int k ∷ Int value ∷ []) ∷ map entry_values entries) (sym (same refl))
insert_at Greater key value entry entries rest others same ih = ap (λ (rows : List (List Value)). entry_values entry ∷ rows) ih

pub insert_is : (key value : ℤ) (entries : List (ℤ × ℤ)) → map entry_values (insert_entry int_cmp entries key value) ≡ with_row first_schema (Int key ∷ Int value ∷ []) (map entry_values entries)
unfolding first_schema
insert_is key value [] = refl
insert_is key value (entry ∷ entries) = insert_at (int_cmp key entry.0) key value entry entries (insert_entry int_cmp entries key value) _ (exact_signed key entry.0) (insert_is key value entries)

-- ---- what is kept

tied : (key : ℤ) → is_at (int_cmp key) key ≡ true
tied key = ap is_eq (tied_itself int_cmp_total key)

tied_same : (o : Ordering) → is_eq o ≡ true → o ≡ Equal
tied_same Less e = absurd cc
tied_same Equal e = refl
tied_same Greater e = absurd cc

absent_more : (b : Bool) (key q value : ℤ) (found before : Option ℤ) (keys : List ℤ) → is_at (int_cmp key) q ≡ b → found ≡ cond b (Some value) before → (before ≡ None → IsNotAmong q keys) → found ≡ None → IsNotAmong q (keys ++ key ∷ [])
absent_more true key q value found before keys at f h none = absurd (let no : Some value ≡ None = sym f ∙ none in cc)
absent_more false key q value found before keys at f h none =
    all_append (λ (other : ℤ). other ≢ q) keys (key ∷ []) (h (sym f ∙ none))
    ((λ same. let yes : is_at (int_cmp key) q ≡ true = ap (λ (x : ℤ). is_at (int_cmp key) x) (sym same) ∙ tied key in let no : true ≡ false = sym yes ∙ at in absurd cc), tt)

present_more : (b : Bool) (key q value : ℤ) (found before : Option ℤ) (keys : List ℤ) → is_at (int_cmp key) q ≡ b → found ≡ cond b (Some value) before → (IsSome before → IsNotAmong q keys → ⊥) → IsSome found → IsNotAmong q (keys ++ key ∷ []) → ⊥
present_more true key q value found before keys at f h some n =
    let last = all_back (λ (other : ℤ). other ≢ q) keys (key ∷ []) n in
    last.0 (exact_signed key q (tied_same (int_cmp key q) at))
present_more false key q value found before keys at f h some n = h (subst IsSome f some) (all_front (λ (other : ℤ). other ≢ q) keys (key ∷ []) n)

pub keeps_more : (kept after : BTreeMap ℤ ℤ) (rows : List RowLine) (row : RowLine) → Keeps kept rows → after.entries ≡ insert_entry int_cmp kept.entries row.key row.value → ((q : ℤ) → get int_cmp after q ≡ cond (is_at (int_cmp row.key) q) (Some row.value) (get int_cmp kept q)) → Keeps after (rows ++ row ∷ [])
keeps_more kept after rows row k e u =
    let keys : keys_of (rows ++ row ∷ []) ≡ keys_of rows ++ row.key ∷ [] = map_push (λ (r : RowLine). r.key) rows row in
    record {
      same = ap (map entry_values) e ∙ insert_is row.key row.value kept.entries ∙ ap (with_row first_schema (values_of row)) k.same ∙ sym (table_of_push rows row);
      absent = λ q none. subst (IsNotAmong q) (sym keys) (absent_more (is_at (int_cmp row.key) q) row.key q row.value (get int_cmp after q) (get int_cmp kept q) (keys_of rows) refl (u q) (k.absent q) none);
      present = λ q some n. present_more (is_at (int_cmp row.key) q) row.key q row.value (get int_cmp after q) (get int_cmp kept q) (keys_of rows) refl (u q) (k.present q) some (subst (IsNotAmong q) keys n);
    }
