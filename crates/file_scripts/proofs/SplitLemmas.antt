-- The scripts of each owner, taken from all of them one owner after another.
use Rattle.std.proofs.Common.{◌≡◌, ◌≢◌, ◌<◌, ◌+◌, ℕ, zero, suc, Bool, true, false, List, [], ◌∷◌, ◌++◌, map, refl, sym, ap, ◌∙◌, add-one, arith}
use Rattle.std.proofs.lemmas.Bool.Decides.{nat_tests}
use Rattle.std.proofs.lemmas.List.{map-append}
use Rattle.std.specs.Prelude.{if◌then◌else◌}
use Rattle.ptc_statement.specs.declared.scripts.Script.{Script}
use Rattle.file_text.specs.File.{nodes_from}
use Rattle.file_scripts.specs.declared.scripts.Owner.{Owner}
use Rattle.file_scripts.specs.declared.scripts.Owner.TheVariants as o
use Rattle.file_scripts.specs.declared.scripts.OwnScript.{OwnScript}
use Rattle.file_scripts.specs.Scripts.{is_of, scripts_by, others_by, locals_of}

left_alone : (ours theirs : Owner) → ((owner : Owner) → is_of ours owner ≡ true → is_of theirs owner ≡ false) → (scripts : List OwnScript) → scripts_by theirs (others_by ours scripts) ≡ scripts_by theirs scripts
left_alone ours theirs apart [] = refl
left_alone ours theirs apart (script ∷ scripts) = by_test (is_of ours script.owner) refl (left_alone ours theirs apart scripts)
  where
    by_test : (is : Bool) → is_of ours script.owner ≡ is → scripts_by theirs (others_by ours scripts) ≡ scripts_by theirs scripts
        → scripts_by theirs (if is_of ours script.owner then others_by ours scripts else script ∷ others_by ours scripts) ≡ scripts_by theirs (script ∷ scripts)
    by_test true e more =
        ap (λ (b : Bool). scripts_by theirs (if b then others_by ours scripts else script ∷ others_by ours scripts)) e
        ∙ more
        ∙ sym (ap (λ (b : Bool). if b then record { lines = script.lines } ∷ scripts_by theirs scripts else scripts_by theirs scripts) (apart script.owner e))
    by_test false e more =
        ap (λ (b : Bool). scripts_by theirs (if b then others_by ours scripts else script ∷ others_by ours scripts)) e
        ∙ ap (λ (l : List Script). if is_of theirs script.owner then record { lines = script.lines } ∷ l else l) more

session_apart : (replica : ℕ) (owner : Owner) → is_of o.Session owner ≡ true → is_of (o.Local replica) owner ≡ false
session_apart replica o.Session e = refl
session_apart replica (o.Local other) e = absurd cc

local_apart : (ours theirs : ℕ) → ours ≢ theirs → (owner : Owner) → is_of (o.Local ours) owner ≡ true → is_of (o.Local theirs) owner ≡ false
local_apart ours theirs n o.Session e = absurd cc
local_apart ours theirs n (o.Local other) e = let same : other ≡ ours = grind (arith, nat_tests, e) in grind (arith, nat_tests, same, n)

nodes_more : (first count : ℕ) → nodes_from first (count + 1) ≡ nodes_from first count ++ (first + count) ∷ []
nodes_more first zero = ap (λ (n : ℕ). n ∷ []) (omega arith)
nodes_more first (suc count) =
    ap (nodes_from first) (add-one (suc count))
    ∙ ap (λ (l : List ℕ). first ∷ l) (ap (nodes_from (suc first)) (sym (add-one count)) ∙ nodes_more (suc first) count)
    ∙ ap (λ (n : ℕ). first ∷ (nodes_from (suc first) count ++ n ∷ [])) (omega arith)

same_map : (f g : ℕ → List Script) → ((n : ℕ) → f n ≡ g n) → (xs : List ℕ) → map f xs ≡ map g xs
same_map f g e [] = refl
same_map f g e (x ∷ xs) = ap (λ (y : List Script). y ∷ map f xs) (e x) ∙ ap (λ (l : List (List Script)). g x ∷ l) (same_map f g e xs)

pub locals_next : (all left others : List OwnScript) (number : ℕ) (locals new : List (List Script)) (own : List Script)
    → (locals ≡ map (λ (replica : ℕ). locals_of replica all) (nodes_from 1 number)) × ((replica : ℕ) → number < replica → locals_of replica left ≡ locals_of replica all)
    → own ≡ scripts_by (o.Local (number + 1)) left → others ≡ others_by (o.Local (number + 1)) left → new ≡ locals ++ own ∷ []
    → (new ≡ map (λ (replica : ℕ). locals_of replica all) (nodes_from 1 (number + 1))) × ((replica : ℕ) → number + 1 < replica → locals_of replica others ≡ locals_of replica all)
locals_next all left others number locals new own h e f g =
    let all_by : ℕ → List Script = λ (replica : ℕ). locals_of replica all in
    let here : own ≡ all_by (number + 1) = e ∙ h.1 (number + 1) (omega arith) in
    let place : 1 + number ≡ number + 1 = omega arith in (
      g ∙ ap (λ (l : List (List Script)). l ++ own ∷ []) h.0
          ∙ ap (λ (s : List Script). map all_by (nodes_from 1 number) ++ s ∷ []) (here ∙ ap all_by (sym place))
          ∙ sym (map-append all_by (nodes_from 1 number) ((1 + number) ∷ []))
          ∙ ap (map all_by) (sym (nodes_more 1 number)),
      λ replica more.
          ap (locals_of replica) f
          ∙ left_alone (o.Local (number + 1)) (o.Local replica) (local_apart (number + 1) replica (omega (arith, more))) left
          ∙ h.1 replica (omega (arith, more)),
    )

pub locals_beside : (all others : List OwnScript) (replicas : ℕ) (locals : List (List Script)) → others ≡ others_by o.Session all
    → locals ≡ map (λ (replica : ℕ). locals_of replica others) (nodes_from 1 replicas) → locals ≡ map (λ (replica : ℕ). locals_of replica all) (nodes_from 1 replicas)
locals_beside all others replicas locals e f =
    f ∙ same_map (λ (replica : ℕ). locals_of replica others) (λ (replica : ℕ). locals_of replica all)
    (λ replica. ap (locals_of replica) e ∙ left_alone o.Session (o.Local replica) (session_apart replica) all) (nodes_from 1 replicas)
