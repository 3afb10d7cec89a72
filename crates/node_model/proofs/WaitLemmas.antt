-- The cycle that is found is one, and where there is one it is found.
use Rattle.std.proofs.Common.{◌≡◌, ◌≢◌, ◌∙◌, ◌≤◌, ℕ, zero, suc, ◌==◌, Bool, true, false, cond, List, [], ◌∷◌, length, Option, None, Some, refl, ap, sym, subst, arith}
use Rattle.std.specs.Prelude.{option_map}
use Rattle.lock_table.proofs.HoldLemmas.{is_number, number_is, other_number, number_apart}
use Rattle.node_model.specs.Waits.{way_back, way_on, IsWayBack}

-- a way back that begins with this owner
pub record WayFrom (waits : ℕ → Option ℕ) (home owner : ℕ) (way : List ℕ) : Type 0 where
  pub others : List ℕ
  pub is : way ≡ owner ∷ others
  pub back : IsWayBack waits home (owner ∷ others)

some_way : (a b : List ℕ) → Some a ≡ Some b → a ≡ b
some_way a b e = cc

longer : (waits : ℕ → Option ℕ) (home owner next : ℕ) (way : List ℕ) → waits owner ≡ Some next → next ≢ home → WayFrom waits home next way → WayFrom waits home owner (owner ∷ way)
longer waits home owner next way step apart from = record {
  others = way;
  is = refl;
  back = subst (λ (rest : List ℕ). IsWayBack waits home (owner ∷ rest)) (sym from.is) (step, apart, from.back);
}

pub way_found : (waits : ℕ → Option ℕ) (home steps owner : ℕ) (way : List ℕ) → way_back waits home steps owner ≡ Some way → WayFrom waits home owner way
way_found waits home zero owner way e = absurd (let q : None ≡ Some way = e in cc)
way_found waits home (suc steps) owner way e = at (waits owner) refl (λ next rest f. way_found waits home steps next rest f) e
  where
    rest_of : (o : Option (List ℕ)) (next : ℕ) → way_back waits home steps next ≡ o → waits owner ≡ Some next → next ≢ home
        → ((next : ℕ) (rest : List ℕ) → way_back waits home steps next ≡ Some rest → WayFrom waits home next rest)
        → option_map (λ (others : List ℕ). owner ∷ others) o ≡ Some way → WayFrom waits home owner way
    rest_of None next is step apart more f = absurd (let q : None ≡ Some way = f in cc)
    rest_of (Some rest) next is step apart more f = subst (WayFrom waits home owner) (some_way (owner ∷ rest) way f) (longer waits home owner next rest step apart (more next rest is))

    by : (next : ℕ) → waits owner ≡ Some next → (b : Bool) → (next == home) ≡ b
        → ((next : ℕ) (rest : List ℕ) → way_back waits home steps next ≡ Some rest → WayFrom waits home next rest)
        → cond b (Some (owner ∷ [])) (option_map (λ (others : List ℕ). owner ∷ others) (way_back waits home steps next)) ≡ Some way → WayFrom waits home owner way
    by next step true same more f = record { others = []; is = sym (some_way (owner ∷ []) way f); back = step ∙ ap Some (number_is next home same) }
    by next step false apart more f = rest_of (way_back waits home steps next) next refl step (number_apart next home apart) more f

    at : (o : Option ℕ) → waits owner ≡ o → ((next : ℕ) (rest : List ℕ) → way_back waits home steps next ≡ Some rest → WayFrom waits home next rest)
        → way_on home owner o (way_back waits home steps) ≡ Some way → WayFrom waits home owner way
    at None is more f = absurd (let q : None ≡ Some way = f in cc)
    at (Some next) is more f = by next is (next == home) refl more f

pub way_again : (waits : ℕ → Option ℕ) (home owner : ℕ) (others : List ℕ) (steps : ℕ) → IsWayBack waits home (owner ∷ others) → length (owner ∷ others) ≤ steps
    → way_back waits home steps owner ≡ Some (owner ∷ others)
way_again waits home owner others zero back enough = absurd (omega arith)
way_again waits home owner [] (suc steps) back enough =
    ap (λ (o : Option ℕ). way_on home owner o (way_back waits home steps)) back ∙ ap (λ (b : Bool). cond b (Some (owner ∷ [])) (option_map (λ (rest : List ℕ). owner ∷ rest) (way_back waits home steps home))) (is_number home home refl)
way_again waits home owner (next ∷ others) (suc steps) back enough =
    ap (λ (o : Option ℕ). way_on home owner o (way_back waits home steps)) back.0
    ∙ ap (λ (b : Bool). cond b (Some (owner ∷ [])) (option_map (λ (rest : List ℕ). owner ∷ rest) (way_back waits home steps next))) (other_number next home back.1)
    ∙ ap (option_map (λ (rest : List ℕ). owner ∷ rest)) (way_again waits home next others steps back.2 (omega arith))
