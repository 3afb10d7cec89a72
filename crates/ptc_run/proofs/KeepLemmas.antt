-- What is kept while the rows are read.
use Rattle.std.proofs.Common.{◌≡◌, ℕ, ℤ, Bool, true, false, cond, List, [], ◌∷◌, ◌++◌, map, refl, sym, ap, subst, ◌∙◌, append_assoc, append-nil, inl, inr}
use Rattle.std.specs.Prelude.{IsTrue}
use Rattle.std.proofs.lemmas.List.{map_push}
use Rattle.std.proofs.lemmas.List.Elements.{filter-append}
use Rattle.row_types.specs.declared.values.Value.{Value}
use Rattle.ptc_run.specs.declared.row_lines.RowLine.{RowLine}
use Rattle.ptc_run.specs.declared.kept_rows.Nodes.{Nodes}
use Rattle.ptc_run.specs.RowLines.{NumbersFit, is_for_source, is_for_replica}
use Rattle.ptc_run.specs.FirstForm.{keys_of, source_rows, replica_rows, IsNotAmong, AreDistinct, AllowedRows}
use Rattle.ptc_run.specs.KeptRows.{entry_values, Keeps, KeepsBoth, IsKnown, IsNew}
use Rattle.ptc_run.proofs.ListLemmas.{all_append, all_back, distinct_push, distinct_last}

source_rows_push : (rows : List RowLine) (row : RowLine) → source_rows (rows ++ row ∷ []) ≡ source_rows rows ++ cond (is_for_source row.node) (row ∷ []) []
source_rows_push rows row = filter-append (λ (r : RowLine). is_for_source r.node) rows (row ∷ [])

replica_rows_push : (rows : List RowLine) (row : RowLine) → replica_rows (rows ++ row ∷ []) ≡ replica_rows rows ++ cond (is_for_replica row.node) (row ∷ []) []
replica_rows_push rows row = filter-append (λ (r : RowLine). is_for_replica r.node) rows (row ∷ [])

-- ---- a node's keys with one line more

was_new : (b : Bool) (rows : List RowLine) (row : RowLine) → IsTrue b → AreDistinct (keys_of (rows ++ cond b (row ∷ []) [])) → IsNotAmong row.key (keys_of rows)
was_new true rows row named h = distinct_last (keys_of rows) row.key (subst AreDistinct (map_push (λ (r : RowLine). r.key) rows row) h)
was_new false rows row named h = absurd cc

stays_distinct : (b : Bool) (rows : List RowLine) (row : RowLine) → AreDistinct (keys_of rows) → (IsTrue b → IsNotAmong row.key (keys_of rows)) → AreDistinct (keys_of (rows ++ cond b (row ∷ []) []))
stays_distinct true rows row h new = subst AreDistinct (sym (map_push (λ (r : RowLine). r.key) rows row)) (distinct_push (keys_of rows) row.key h (new refl))
stays_distinct false rows row h new = subst AreDistinct (sym (ap keys_of (append-nil rows))) h

pub known_not_allowed : (nodes : Nodes) (rows : List RowLine) (row : RowLine) → KeepsBoth nodes rows → IsKnown nodes row → AllowedRows (rows ++ row ∷ []) → ⊥
known_not_allowed nodes rows row k (inl h) a =
    k.source.present row.key h.1 (was_new (is_for_source row.node) (source_rows rows) row h.0 (subst AreDistinct (ap keys_of (source_rows_push rows row)) a.source_once))
known_not_allowed nodes rows row k (inr h) a =
    k.replica.present row.key h.1 (was_new (is_for_replica row.node) (replica_rows rows) row h.0 (subst AreDistinct (ap keys_of (replica_rows_push rows row)) a.replica_once))

pub allowed_more : (nodes : Nodes) (rows : List RowLine) (row : RowLine) → AllowedRows rows → KeepsBoth nodes rows → NumbersFit row → IsNew nodes row → AllowedRows (rows ++ row ∷ [])
allowed_more nodes rows row a k fits new = record {
  numbers = all_append NumbersFit rows (row ∷ []) a.numbers (fits, tt);
  source_once = subst AreDistinct (sym (ap keys_of (source_rows_push rows row))) (stays_distinct (is_for_source row.node) (source_rows rows) row a.source_once (λ named. k.source.absent row.key (new.source named)));
  replica_once = subst AreDistinct (sym (ap keys_of (replica_rows_push rows row))) (stays_distinct (is_for_replica row.node) (replica_rows rows) row a.replica_once (λ named. k.replica.absent row.key (new.replica named)));
}

pub last_fits : (rows : List RowLine) (row : RowLine) → AllowedRows (rows ++ row ∷ []) → NumbersFit row
last_fits rows row a = let last = all_back NumbersFit rows (row ∷ []) a.numbers in last.0

pub same_first : (lines rest more : List (List ℕ)) (line other : List ℕ) → lines ≡ line ∷ rest → lines ≡ other ∷ more → line ≡ other
same_first lines rest more line other e f = let g : line ∷ rest ≡ other ∷ more = sym e ∙ f in cc

-- ---- the rows of a map, one after the other

pub row_pushed : (old new : List (List Value)) (row : List Value) (entry : ℤ × ℤ) (left rest : List (ℤ × ℤ)) (all : List (List Value)) → new ≡ old ++ row ∷ [] → row ≡ entry_values entry → left ≡ entry ∷ rest → old ++ map entry_values left ≡ all → new ++ map entry_values rest ≡ all
row_pushed old new row entry left rest all pushed is taken so_far =
    ap (λ (x : List (List Value)). x ++ map entry_values rest) pushed ∙ append_assoc old (row ∷ []) (map entry_values rest)
    ∙ ap (λ (x : List Value). old ++ x ∷ map entry_values rest) is ∙ ap (λ (x : List (ℤ × ℤ)). old ++ map entry_values x) (sym taken) ∙ so_far
