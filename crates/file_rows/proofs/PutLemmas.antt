-- A row that is put into the table of a number.
use Rattle.std.proofs.Common.{◌≡◌, ◌<◌, ℕ, zero, suc, List, [], ◌∷◌, length, refl, sym, subst, arith, slice_index_or, slice_set}
use Rattle.std.specs.Prelude.{Result, Ok, Err, OnOk}
use Rattle.row_types.specs.KeyRows.{Row}
use Rattle.line_words.specs.declared.nodes.NodeWord.{NodeWord}
use Rattle.file_rows.specs.declared.file_tables.FileTable.{FileTable}
use Rattle.file_rows.specs.NodeRows.{TakeRow}
use Rattle.file_rows.specs.Puts.{IsPut, TakesAt, IsPutAt}

pub ok_three : {T E A B C D : Type 0} (r : Result T E) → OnOk r A → OnOk r B → OnOk r C → (A → B → C → D) → OnOk r D
ok_three (Ok x) a b c f = f a b c
ok_three (Err e) a b c f = tt

pub takes_within : (place : ℕ) (row : Row) (tables : List FileTable) → TakesAt place row tables → place < length tables
takes_within place row [] t = absurd t
takes_within zero row (table ∷ tables) t = omega arith
takes_within (suc place) row (table ∷ tables) t = let h = takes_within place row tables t in omega (arith, h)

pub takes_at : (place : ℕ) (row : Row) (tables : List FileTable) (table : FileTable) → TakesAt place row tables → table ≡ slice_index_or tables place table → TakeRow row table.nodes.items
takes_at place row [] table t e = absurd t
takes_at zero row (first ∷ tables) table t e = subst (λ (x : FileTable). TakeRow row x.nodes.items) (sym e) t
takes_at (suc place) row (first ∷ tables) table t e = takes_at place row tables table t e

pub put_at : (place : ℕ) (which : NodeWord) (row : Row) (tables : List FileTable) (table new : FileTable) → TakesAt place row tables → table ≡ slice_index_or tables place table → IsPut which row table new
    → IsPutAt place which row tables (slice_set tables place new)
put_at place which row [] table new t e p = absurd t
put_at zero which row (first ∷ tables) table new t e p = (subst (λ (x : FileTable). IsPut which row x new) e p, refl)
put_at (suc place) which row (first ∷ tables) table new t e p = (refl, put_at place which row tables table new t e p)
