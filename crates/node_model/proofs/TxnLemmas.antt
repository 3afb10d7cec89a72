-- The open transactions, one for each owner.
use Rattle.std.proofs.Common.{◌≡◌, ◌≢◌, ℕ, List, [], ◌∷◌, ◌++◌, ◌==◌, Bool, true, false, not, cond, Option, None, Some, refl, sym, ap, subst, ◌∙◌, suc, ◌<◌, length, arith}
use Rattle.std.specs.Prelude.{is_some, slice_index_or, slice_set}
use Rattle.std.proofs.lemmas.List.{set-get_or}
use Rattle.row_types.specs.declared.edges.Edge.{Edge}
use Rattle.ptc_statement.specs.declared.statements.Statement.{Statement}
use Rattle.node_model.specs.declared.txns.Walk.{Walk}
use Rattle.lock_table.proofs.HoldLemmas.{is_number, number_is, other_number, number_apart}
use Rattle.node_model.specs.declared.txns.Txn.{Txn}
use Rattle.node_model.specs.Txns.{txn_of, with_txn, without_txn, done_of, place_in, with_current, stepped, stepped_if, with_step}

pub txn_same : (txn : Txn) (txns : List Txn) → txn_of txn.owner.0 (with_txn txn txns) ≡ Some txn
txn_same txn [] = ap (λ (b : Bool). cond b (Some txn) None) (is_number txn.owner.0 txn.owner.0 refl)
txn_same txn (other ∷ others) = at (other.owner.0 == txn.owner.0) refl (txn_same txn others)
  where
    at : (b : Bool) → (other.owner.0 == txn.owner.0) ≡ b → txn_of txn.owner.0 (with_txn txn others) ≡ Some txn
        → txn_of txn.owner.0 (cond b (txn ∷ others) (other ∷ with_txn txn others)) ≡ Some txn
    at true is more = ap (λ (b : Bool). cond b (Some txn) (txn_of txn.owner.0 others)) (is_number txn.owner.0 txn.owner.0 refl)
    at false is more = ap (λ (b : Bool). cond b (Some other) (txn_of txn.owner.0 (with_txn txn others))) is ∙ more

pub txn_other : (a : ℕ) (txn : Txn) (txns : List Txn) → a ≢ txn.owner.0 → txn_of a (with_txn txn txns) ≡ txn_of a txns
txn_other a txn [] apart = ap (λ (b : Bool). cond b (Some txn) None) (other_number txn.owner.0 a (λ e. apart (sym e)))
txn_other a txn (other ∷ others) apart = at (other.owner.0 == txn.owner.0) refl (txn_other a txn others apart)
  where
    at : (b : Bool) → (other.owner.0 == txn.owner.0) ≡ b → txn_of a (with_txn txn others) ≡ txn_of a others
        → txn_of a (cond b (txn ∷ others) (other ∷ with_txn txn others)) ≡ cond (other.owner.0 == a) (Some other) (txn_of a others)
    at true is more =
        ap (λ (b : Bool). cond b (Some txn) (txn_of a others)) (other_number txn.owner.0 a (λ e. apart (sym e)))
        ∙ sym (ap (λ (b : Bool). cond b (Some other) (txn_of a others)) (other_number other.owner.0 a (λ e. apart (sym e ∙ number_is other.owner.0 txn.owner.0 is))))
    at false is more = ap (cond (other.owner.0 == a) (Some other)) more

pub txn_left : (a owner : ℕ) (txns : List Txn) → a ≢ owner → txn_of a (without_txn owner txns) ≡ txn_of a txns
txn_left a owner [] apart = refl
txn_left a owner (txn ∷ txns) apart = at (txn.owner.0 == owner) refl (txn_left a owner txns apart)
  where
    at : (b : Bool) → (txn.owner.0 == owner) ≡ b → txn_of a (without_txn owner txns) ≡ txn_of a txns
        → txn_of a (cond (not b) (txn ∷ without_txn owner txns) (without_txn owner txns)) ≡ cond (txn.owner.0 == a) (Some txn) (txn_of a txns)
    at true is more = more ∙ sym (ap (λ (b : Bool). cond b (Some txn) (txn_of a txns)) (other_number txn.owner.0 a (λ e. apart (sym e ∙ number_is txn.owner.0 owner is))))
    at false is more = ap (cond (txn.owner.0 == a) (Some txn)) more

pub txn_gone : (owner : ℕ) (txns : List Txn) → txn_of owner (without_txn owner txns) ≡ None
txn_gone owner [] = refl
txn_gone owner (txn ∷ txns) = at (txn.owner.0 == owner) refl (txn_gone owner txns)
  where
    at : (b : Bool) → (txn.owner.0 == owner) ≡ b → txn_of owner (without_txn owner txns) ≡ None
        → txn_of owner (cond (not b) (txn ∷ without_txn owner txns) (without_txn owner txns)) ≡ None
    at true is more = more
    at false is more = ap (λ (b : Bool). cond b (Some txn) (txn_of owner (without_txn owner txns))) is ∙ more

some_txn : (a b : Txn) → Some a ≡ Some b → a ≡ b
some_txn a b e = cc

-- the transaction that is found is the owner's
pub txn_owner : (owner : ℕ) (txn : Txn) (txns : List Txn) → txn_of owner txns ≡ Some txn → txn.owner.0 ≡ owner
txn_owner owner txn [] found = cc
txn_owner owner txn (other ∷ others) found = at (λ f. txn_owner owner txn others f) (other.owner.0 == owner) refl found
  where
    at : (txn_of owner others ≡ Some txn → txn.owner.0 ≡ owner) → (b : Bool) → (other.owner.0 == owner) ≡ b → cond b (Some other) (txn_of owner others) ≡ Some txn → txn.owner.0 ≡ owner
    at more true is f = ap (λ (t : Txn). t.owner.0) (sym (some_txn other txn f)) ∙ number_is other.owner.0 owner is
    at more false is f = more f

-- one that begins comes behind the others
pub with_absent : (txn : Txn) (txns : List Txn) → txn_of txn.owner.0 txns ≡ None → with_txn txn txns ≡ txns ++ txn ∷ []
with_absent txn [] none = refl
with_absent txn (other ∷ others) none = at (other.owner.0 == txn.owner.0) none (λ e. with_absent txn others e)
  where
    at : (b : Bool) → cond b (Some other) (txn_of txn.owner.0 others) ≡ None → (txn_of txn.owner.0 others ≡ None → with_txn txn others ≡ others ++ txn ∷ [])
        → cond b (txn ∷ others) (other ∷ with_txn txn others) ≡ other ∷ others ++ txn ∷ []
    at true e more = absurd (let q : Some other ≡ None = e in cc)
    at false e more = ap (λ (ts : List Txn). other ∷ ts) (more e)

-- where an owner's transaction stands

abbrev pub IsThere : ℕ → List Txn → Type 0
IsThere owner txns = is_some (txn_of owner txns) ≡ true

pub place_within : (owner : ℕ) (txns : List Txn) → IsThere owner txns → place_in owner txns < length txns
place_within owner [] there = absurd (let q : false ≡ true = there in cc)
place_within owner (txn ∷ txns) there = at (txn.owner.0 == owner) there (λ t. place_within owner txns t)
  where
    at : (b : Bool) → is_some (cond b (Some txn) (txn_of owner txns)) ≡ true → (IsThere owner txns → place_in owner txns < length txns) → cond b 0 (suc (place_in owner txns)) < suc (length txns)
    at true t more = omega arith
    at false t more = let m = more t in omega (arith, m)

pub place_found : (owner : ℕ) (txns : List Txn) (d : Txn) → IsThere owner txns → txn_of owner txns ≡ Some (slice_index_or txns (place_in owner txns) d)
place_found owner [] d there = absurd (let q : false ≡ true = there in cc)
place_found owner (txn ∷ txns) d there = at (txn.owner.0 == owner) there (λ t. place_found owner txns d t)
  where
    at : (b : Bool) → is_some (cond b (Some txn) (txn_of owner txns)) ≡ true → (IsThere owner txns → txn_of owner txns ≡ Some (slice_index_or txns (place_in owner txns) d))
        → cond b (Some txn) (txn_of owner txns) ≡ Some (slice_index_or (txn ∷ txns) (cond b 0 (suc (place_in owner txns))) d)
    at true t more = refl
    at false t more = more t

pub place_set : (owner : ℕ) (txns : List Txn) (new : Txn) → new.owner.0 ≡ owner → IsThere owner txns → slice_set txns (place_in owner txns) new ≡ with_txn new txns
place_set owner [] new own there = absurd (let q : false ≡ true = there in cc)
place_set owner (txn ∷ txns) new own there =
    at (txn.owner.0 == owner) there (λ t. place_set owner txns new own t)
    ∙ ap (λ (o : ℕ). cond (txn.owner.0 == o) (new ∷ txns) (txn ∷ with_txn new txns)) (sym own)
  where
    at : (b : Bool) → is_some (cond b (Some txn) (txn_of owner txns)) ≡ true → (IsThere owner txns → slice_set txns (place_in owner txns) new ≡ with_txn new txns)
        → slice_set (txn ∷ txns) (cond b 0 (suc (place_in owner txns))) new ≡ cond b (new ∷ txns) (txn ∷ with_txn new txns)
    at true t more = refl
    at false t more = ap (λ (ts : List Txn). txn ∷ ts) (more t)

pub started_is : (owner : ℕ) (txns : List Txn) (txn : Txn) (walk : Option Walk) → IsThere owner txns → txn ≡ slice_index_or txns (place_in owner txns) txn
    → slice_set txns (place_in owner txns) (record txn { current = walk }) ≡ with_current walk (txn_of owner txns) txns
started_is owner txns txn walk there is =
    let found : txn_of owner txns ≡ Some txn = place_found owner txns txn there ∙ ap (λ (t : Txn). Some t) (sym is) in
    place_set owner txns (record txn { current = walk }) (txn_owner owner txn txns found) there ∙ ap (λ (o : Option Txn). with_current walk o txns) (sym found)

stepped_owner : (refused ends : Bool) (after : Edge) (txn : Txn) (current : Option Walk) → (stepped_if refused ends after txn current).owner.0 ≡ txn.owner.0
stepped_owner refused ends after txn None = refl
stepped_owner true ends after txn (Some walk) = refl
stepped_owner false true after txn (Some walk) = refl
stepped_owner false false after txn (Some walk) = refl

pub stepped_is : (owner : ℕ) (txns : List Txn) (txn : Txn) (refused ends : Bool) (after : Edge) → IsThere owner txns → txn ≡ slice_index_or txns (place_in owner txns) txn
    → slice_set txns (place_in owner txns) (stepped_if refused ends after txn txn.current) ≡ with_step refused ends after (txn_of owner txns) txns
stepped_is owner txns txn refused ends after there is =
    let found : txn_of owner txns ≡ Some txn = place_found owner txns txn there ∙ ap (λ (t : Txn). Some t) (sym is) in
    place_set owner txns (stepped_if refused ends after txn txn.current) (stepped_owner refused ends after txn txn.current ∙ txn_owner owner txn txns found) there
    ∙ ap (λ (o : Option Txn). with_step refused ends after o txns) (sym found)

pub same_place : (txns : List Txn) (place : ℕ) (txn new : Txn) → txn ≡ slice_index_or txns place txn → new ≡ txn → slice_set txns place new ≡ txns
same_place txns place txn new is same = ap (slice_set txns place) (same ∙ is) ∙ set-get_or txns place txn

-- for the code

place_of : (owner : ℕ) (items slice : List Txn) (place : ℕ) → slice ≡ items → place ≡ place_in owner slice → place ≡ place_in owner items
place_of owner items slice place same is = is ∙ ap (place_in owner) same

pub within_for : (owner : ℕ) (items view slice : List Txn) (place : ℕ) → items ≡ view → slice ≡ items → place ≡ place_in owner slice → IsThere owner view → place < length items
within_for owner items view slice place seen same is there =
    let p = place_of owner items slice place same is in
    let w = place_within owner items (subst (IsThere owner) (sym seen) there) in
    omega (arith, p, w)

pub start_for : (owner : ℕ) (items view slice : List Txn) (place : ℕ) (txn new : Txn) (walk : Option Walk) → items ≡ view → slice ≡ items → place ≡ place_in owner slice → IsThere owner view
    → txn ≡ slice_index_or items place txn → new ≡ record txn { current = walk } → slice_set items place new ≡ with_current walk (txn_of owner view) view
start_for owner items view slice place txn new walk seen same is there at changed =
    let p = place_of owner items slice place same is in
    let t : IsThere owner items = subst (IsThere owner) (sym seen) there in
    let a : txn ≡ slice_index_or items (place_in owner items) txn = at ∙ ap (λ (n : ℕ). slice_index_or items n txn) p in
    (λ i. slice_set items (p i) (changed i)) ∙ started_is owner items txn walk t a ∙ ap (λ (v : List Txn). with_current walk (txn_of owner v) v) seen

pub step_for : (owner : ℕ) (items view slice : List Txn) (place : ℕ) (txn new : Txn) (refused ends : Bool) (after : Edge) → items ≡ view → slice ≡ items → place ≡ place_in owner slice → IsThere owner view
    → txn ≡ slice_index_or items place txn → new ≡ stepped_if refused ends after txn txn.current → slice_set items place new ≡ with_step refused ends after (txn_of owner view) view
step_for owner items view slice place txn new refused ends after seen same is there at changed =
    let p = place_of owner items slice place same is in
    let t : IsThere owner items = subst (IsThere owner) (sym seen) there in
    let a : txn ≡ slice_index_or items (place_in owner items) txn = at ∙ ap (λ (n : ℕ). slice_index_or items n txn) p in
    (λ i. slice_set items (p i) (changed i)) ∙ stepped_is owner items txn refused ends after t a ∙ ap (λ (v : List Txn). with_step refused ends after (txn_of owner v) v) seen

without_with : (owner : ℕ) (new : Txn) (txns : List Txn) → new.owner.0 ≡ owner → without_txn owner (with_txn new txns) ≡ without_txn owner txns
without_with owner new [] own = ap (λ (b : Bool). cond (not b) (new ∷ []) []) (is_number new.owner.0 owner own)
without_with owner new (other ∷ others) own = at (other.owner.0 == new.owner.0) refl (without_with owner new others own)
  where
    at : (b : Bool) → (other.owner.0 == new.owner.0) ≡ b → without_txn owner (with_txn new others) ≡ without_txn owner others
        → without_txn owner (cond b (new ∷ others) (other ∷ with_txn new others)) ≡ without_txn owner (other ∷ others)
    at true e more =
        ap (λ (b : Bool). cond (not b) (new ∷ without_txn owner others) (without_txn owner others)) (is_number new.owner.0 owner own)
        ∙ sym (ap (λ (b : Bool). cond (not b) (other ∷ without_txn owner others) (without_txn owner others)) (is_number other.owner.0 owner (number_is other.owner.0 new.owner.0 e ∙ own)))
    at false e more = ap (λ (ts : List Txn). cond (not (other.owner.0 == owner)) (other ∷ ts) ts) more

pub done_for : (owner : ℕ) (items view slice : List Txn) (place : ℕ) (txn : Txn) (done : List Statement) → items ≡ view → slice ≡ items → place ≡ place_in owner slice → IsThere owner view
    → txn ≡ slice_index_or items place txn → done ≡ txn.done → done ≡ done_of (txn_of owner view)
done_for owner items view slice place txn done seen same is there at those =
    let p = place_of owner items slice place same is in
    let t : IsThere owner items = subst (IsThere owner) (sym seen) there in
    let a : txn ≡ slice_index_or items (place_in owner items) txn = at ∙ ap (λ (n : ℕ). slice_index_or items n txn) p in
    those ∙ ap (λ (u : Txn). u.done) a ∙ sym (ap done_of (place_found owner items txn t)) ∙ ap (λ (v : List Txn). done_of (txn_of owner v)) seen

pub close_for : (owner : ℕ) (items view slice : List Txn) (place : ℕ) (txn new : Txn) (after : List Txn) → items ≡ view → slice ≡ items → place ≡ place_in owner slice → IsThere owner view
    → txn ≡ slice_index_or items place txn → new ≡ record txn { done = [] } → after ≡ without_txn owner (slice_set items place new) → after ≡ without_txn owner view
close_for owner items view slice place txn new after seen same is there at changed left =
    let p = place_of owner items slice place same is in
    let t : IsThere owner items = subst (IsThere owner) (sym seen) there in
    let a : txn ≡ slice_index_or items (place_in owner items) txn = at ∙ ap (λ (n : ℕ). slice_index_or items n txn) p in
    let found : txn_of owner items ≡ Some txn = place_found owner items txn t ∙ ap (λ (u : Txn). Some u) (sym a) in
    let own : txn.owner.0 ≡ owner = txn_owner owner txn items found in
    left
    ∙ ap (without_txn owner) ((λ i. slice_set items (p i) (changed i)) ∙ place_set owner items (record txn { done = [] }) own t)
    ∙ without_with owner (record txn { done = [] }) items own
    ∙ ap (without_txn owner) seen

-- a transaction put in the place of another of its owner

pub with_twice : (new other : Txn) (txns : List Txn) → new.owner.0 ≡ other.owner.0 → with_txn new (with_txn other txns) ≡ with_txn new txns
with_twice new other [] own = ap (λ (b : Bool). cond b (new ∷ []) (other ∷ new ∷ [])) (is_number other.owner.0 new.owner.0 (sym own))
with_twice new other (first ∷ txns) own = at (first.owner.0 == other.owner.0) refl (with_twice new other txns own)
  where
    at : (b : Bool) → (first.owner.0 == other.owner.0) ≡ b → with_txn new (with_txn other txns) ≡ with_txn new txns
        → with_txn new (cond b (other ∷ txns) (first ∷ with_txn other txns)) ≡ cond (first.owner.0 == new.owner.0) (new ∷ txns) (first ∷ with_txn new txns)
    at true e more =
        ap (λ (b : Bool). cond b (new ∷ txns) (other ∷ with_txn new txns)) (is_number other.owner.0 new.owner.0 (sym own))
        ∙ sym (ap (λ (b : Bool). cond b (new ∷ txns) (first ∷ with_txn new txns)) (is_number first.owner.0 new.owner.0 (number_is first.owner.0 other.owner.0 e ∙ sym own)))
    at false e more =
        let apart : (first.owner.0 == new.owner.0) ≡ false = ap (λ (o : ℕ). first.owner.0 == o) own ∙ e in
        ap (λ (b : Bool). cond b (new ∷ with_txn other txns) (first ∷ with_txn new (with_txn other txns))) apart
        ∙ ap (λ (ts : List Txn). first ∷ ts) more
        ∙ sym (ap (λ (b : Bool). cond b (new ∷ txns) (first ∷ with_txn new txns)) apart)

pub with_own : (txn : Txn) (txns : List Txn) → txn_of txn.owner.0 txns ≡ Some txn → with_txn txn txns ≡ txns
with_own txn [] found = absurd (let q : None ≡ Some txn = found in cc)
with_own txn (first ∷ txns) found = at (first.owner.0 == txn.owner.0) found (λ f. with_own txn txns f)
  where
    at : (b : Bool) → cond b (Some first) (txn_of txn.owner.0 txns) ≡ Some txn → (txn_of txn.owner.0 txns ≡ Some txn → with_txn txn txns ≡ txns) → cond b (txn ∷ txns) (first ∷ with_txn txn txns) ≡ first ∷ txns
    at true f more = ap (λ (t : Txn). t ∷ txns) (sym (some_txn first txn f))
    at false f more = ap (λ (ts : List Txn). first ∷ ts) (more f)

-- a statement that was started and is taken back
pub taken_back : (owner : ℕ) (txn : Txn) (walk : Walk) (txns : List Txn) → txn_of owner txns ≡ Some txn → txn.current ≡ None
    → with_current None (txn_of owner (with_txn (record txn { current = Some walk }) txns)) (with_txn (record txn { current = Some walk }) txns) ≡ txns
taken_back owner txn walk txns found idle =
    ap (λ (o : Option Txn). with_current None o (with_txn (record txn { current = Some walk }) txns)) there
    ∙ with_twice (record txn { current = None }) (record txn { current = Some walk }) txns refl
    ∙ ap (λ (w : Option Walk). with_txn (record txn { current = w }) txns) (sym idle)
    ∙ with_own txn txns (ap (λ (o : ℕ). txn_of o txns) (txn_owner owner txn txns found) ∙ found)
  where
    there : txn_of owner (with_txn (record txn { current = Some walk }) txns) ≡ Some (record txn { current = Some walk })
    there = ap (λ (o : ℕ). txn_of o (with_txn (record txn { current = Some walk }) txns)) (sym (txn_owner owner txn txns found)) ∙ txn_same (record txn { current = Some walk }) txns
