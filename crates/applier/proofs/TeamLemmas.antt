-- Workers that give their entries back, one after the other.
use Rattle.std.proofs.Common.{◌≡◌, ◌∙◌, ℕ, zero, suc, ◌+◌, ◌≤◌, List, [], ◌∷◌, None, refl, sym, ap, arith}
use Rattle.std.specs.Prelude.{length, map, slice_index_or, slice_set}
use Rattle.applier.specs.declared.workers.Worker.{Worker}
use Rattle.applier.specs.Appliers.{without_entry}
use Rattle.applier.specs.TeamParts.{emptied_at, emptied}

one_more : (count : ℕ) (workers : List Worker) → emptied_at count (emptied count workers) ≡ emptied (suc count) workers
one_more zero [] = refl
one_more zero (worker ∷ workers) = refl
one_more (suc count) [] = refl
one_more (suc count) (worker ∷ workers) = ap (λ (ws : List Worker). without_entry worker ∷ ws) (one_more count workers)

add_one : (n : ℕ) → n + 1 ≡ suc n
add_one n = omega arith

pub one_more_emptied : (count : ℕ) (workers old new : List Worker) → old ≡ emptied count workers → new ≡ emptied_at count old → new ≡ emptied (count + 1) workers
one_more_emptied count workers old new was is =
    is ∙ ap (emptied_at count) was ∙ one_more count workers ∙ ap (λ (n : ℕ). emptied n workers) (sym (add_one count))

pub all_emptied : (count : ℕ) (workers now : List Worker) → now ≡ emptied count workers → length workers ≤ count → now ≡ map without_entry workers
all_emptied count workers now is most = is ∙ whole count workers most
  where
    whole : (n : ℕ) (ws : List Worker) → length ws ≤ n → emptied n ws ≡ map without_entry ws
    whole zero [] m = refl
    whole zero (w ∷ ws) m = absurd (omega (arith, m))
    whole (suc n) [] m = refl
    whole (suc n) (w ∷ ws) m = ap (λ (all : List Worker). without_entry w ∷ all) (whole n ws (omega (arith, m)))

pub same_length_at : (place : ℕ) (workers now : List Worker) → now ≡ emptied_at place workers → length now ≡ length workers
same_length_at place workers now is = ap length is ∙ at place workers
  where
    at : (n : ℕ) (ws : List Worker) → length (emptied_at n ws) ≡ length ws
    at n [] = refl
    at zero (w ∷ ws) = refl
    at (suc n) (w ∷ ws) = ap suc (at n ws)

pub set_emptied : (place : ℕ) (workers : List Worker) (worker : Worker) → worker ≡ slice_index_or workers place worker
    → slice_set workers place (record { owner = worker.owner; entry = None; started = 0 }) ≡ emptied_at place workers
set_emptied place [] worker is = refl
set_emptied zero (w ∷ ws) worker is = ap (λ (one : Worker). without_entry one ∷ ws) is
set_emptied (suc place) (w ∷ ws) worker is = ap (λ (all : List Worker). w ∷ all) (set_emptied place ws worker is)
