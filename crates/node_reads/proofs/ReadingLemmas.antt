-- The readings of owners, as a list.
use Rattle.std.proofs.Common.{◌≡◌, ◌≢◌, ◌⊎◌, inl, inr, ◌∙◌, ℕ, suc, ◌<◌, ◌==◌, ◌++◌, Bool, true, false, not, cond, List, [], ◌∷◌, Option, None, Some, length, refl, ap, sym, subst, arith}
use Rattle.std.specs.Prelude.{is_some, slice_index_or, slice_set}
use Rattle.lock_table.specs.declared.wants.Owner.{Owner}
use Rattle.lock_table.proofs.HoldLemmas.{is_number, number_is, other_number, same_or_apart}
use Rattle.node_reads.specs.declared.readings.Reading.{Reading}
use Rattle.node_reads.specs.declared.gains.Gain.{Gain}
use Rattle.node_reads.specs.Readings.{reading_of, place_of, without_reading, HasRoom, HasRoomOf, IsSameReading, IsSameIn, AreSame, IsGrown, HasGrown}

pub reading_left : (a owner : ℕ) (readings : List Reading) → a ≢ owner → reading_of a (without_reading owner readings) ≡ reading_of a readings
reading_left a owner [] apart = refl
reading_left a owner (reading ∷ readings) apart = at (reading.owner.0 == owner) refl (reading_left a owner readings apart)
  where
    at : (b : Bool) → (reading.owner.0 == owner) ≡ b → reading_of a (without_reading owner readings) ≡ reading_of a readings
        → reading_of a (cond (not b) (reading ∷ without_reading owner readings) (without_reading owner readings)) ≡ cond (reading.owner.0 == a) (Some reading) (reading_of a readings)
    at true is more = more ∙ sym (ap (λ (b : Bool). cond b (Some reading) (reading_of a readings)) (other_number reading.owner.0 a (λ e. apart (sym e ∙ number_is reading.owner.0 owner is))))
    at false is more = ap (cond (reading.owner.0 == a) (Some reading)) more

pub reading_gone : (owner : ℕ) (readings : List Reading) → reading_of owner (without_reading owner readings) ≡ None
reading_gone owner [] = refl
reading_gone owner (reading ∷ readings) = at (reading.owner.0 == owner) refl (reading_gone owner readings)
  where
    at : (b : Bool) → (reading.owner.0 == owner) ≡ b → reading_of owner (without_reading owner readings) ≡ None
        → reading_of owner (cond (not b) (reading ∷ without_reading owner readings) (without_reading owner readings)) ≡ None
    at true is more = more
    at false is more = ap (λ (b : Bool). cond b (Some reading) (reading_of owner (without_reading owner readings))) is ∙ more

-- one that comes behind the others

pub reading_new : (owner : ℕ) (readings : List Reading) (new : Reading) → reading_of owner readings ≡ None → new.owner.0 ≡ owner → reading_of owner (readings ++ new ∷ []) ≡ Some new
reading_new owner [] new none own = ap (λ (b : Bool). cond b (Some new) None) (is_number new.owner.0 owner own)
reading_new owner (reading ∷ readings) new none own = at (reading.owner.0 == owner) none (λ e. reading_new owner readings new e own)
  where
    at : (b : Bool) → cond b (Some reading) (reading_of owner readings) ≡ None → (reading_of owner readings ≡ None → reading_of owner (readings ++ new ∷ []) ≡ Some new)
        → cond b (Some reading) (reading_of owner (readings ++ new ∷ [])) ≡ Some new
    at true e more = absurd (let q : Some reading ≡ None = e in cc)
    at false e more = more e

pub reading_apart : (a : ℕ) (readings : List Reading) (new : Reading) → a ≢ new.owner.0 → reading_of a (readings ++ new ∷ []) ≡ reading_of a readings
reading_apart a [] new apart = ap (λ (b : Bool). cond b (Some new) None) (other_number new.owner.0 a (λ e. apart (sym e)))
reading_apart a (reading ∷ readings) new apart = ap (cond (reading.owner.0 == a) (Some reading)) (reading_apart a readings new apart)

-- where an owner's reading stands

pub place_within : (owner : ℕ) (readings : List Reading) → is_some (reading_of owner readings) ≡ true → place_of owner readings < length readings
place_within owner [] there = absurd (let q : false ≡ true = there in cc)
place_within owner (reading ∷ readings) there = at (reading.owner.0 == owner) there (λ t. place_within owner readings t)
  where
    at : (b : Bool) → is_some (cond b (Some reading) (reading_of owner readings)) ≡ true → (is_some (reading_of owner readings) ≡ true → place_of owner readings < length readings)
        → cond b 0 (suc (place_of owner readings)) < suc (length readings)
    at true t more = omega arith
    at false t more = let m = more t in omega (arith, m)

pub place_found : (owner : ℕ) (readings : List Reading) (d : Reading) → is_some (reading_of owner readings) ≡ true → reading_of owner readings ≡ Some (slice_index_or readings (place_of owner readings) d)
place_found owner [] d there = absurd (let q : false ≡ true = there in cc)
place_found owner (reading ∷ readings) d there = at (reading.owner.0 == owner) there (λ t. place_found owner readings d t)
  where
    at : (b : Bool) → is_some (cond b (Some reading) (reading_of owner readings)) ≡ true
        → (is_some (reading_of owner readings) ≡ true → reading_of owner readings ≡ Some (slice_index_or readings (place_of owner readings) d))
        → cond b (Some reading) (reading_of owner readings) ≡ Some (slice_index_or (reading ∷ readings) (cond b 0 (suc (place_of owner readings))) d)
    at true t more = refl
    at false t more = more t

-- another reading of the owner in its place

pub placed_own : (owner : ℕ) (readings : List Reading) (new : Reading) → new.owner.0 ≡ owner → is_some (reading_of owner readings) ≡ true → reading_of owner (slice_set readings (place_of owner readings) new) ≡ Some new
placed_own owner [] new own there = absurd (let q : false ≡ true = there in cc)
placed_own owner (reading ∷ readings) new own there = at (reading.owner.0 == owner) refl there (λ t. placed_own owner readings new own t)
  where
    at : (b : Bool) → (reading.owner.0 == owner) ≡ b → is_some (cond b (Some reading) (reading_of owner readings)) ≡ true
        → (is_some (reading_of owner readings) ≡ true → reading_of owner (slice_set readings (place_of owner readings) new) ≡ Some new)
        → reading_of owner (slice_set (reading ∷ readings) (cond b 0 (suc (place_of owner readings))) new) ≡ Some new
    at true e t more = ap (λ (b : Bool). cond b (Some new) (reading_of owner readings)) (is_number new.owner.0 owner own)
    at false e t more = ap (λ (b : Bool). cond b (Some reading) (reading_of owner (slice_set readings (place_of owner readings) new))) e ∙ more t

pub placed_other : (a owner : ℕ) (readings : List Reading) (new : Reading) → new.owner.0 ≡ owner → a ≢ owner → reading_of a (slice_set readings (place_of owner readings) new) ≡ reading_of a readings
placed_other a owner [] new own apart = refl
placed_other a owner (reading ∷ readings) new own apart = at (reading.owner.0 == owner) refl (placed_other a owner readings new own apart)
  where
    at : (b : Bool) → (reading.owner.0 == owner) ≡ b → reading_of a (slice_set readings (place_of owner readings) new) ≡ reading_of a readings
        → reading_of a (slice_set (reading ∷ readings) (cond b 0 (suc (place_of owner readings))) new) ≡ cond (reading.owner.0 == a) (Some reading) (reading_of a readings)
    at true e more =
        ap (λ (b : Bool). cond b (Some new) (reading_of a readings)) (other_number new.owner.0 a (λ f. apart (sym f ∙ own)))
        ∙ sym (ap (λ (b : Bool). cond b (Some reading) (reading_of a readings)) (other_number reading.owner.0 a (λ f. apart (sym f ∙ number_is reading.owner.0 owner e))))
    at false e more = ap (cond (reading.owner.0 == a) (Some reading)) more

-- the reading that is found is the owner's
pub found_owner : (owner : ℕ) (readings : List Reading) (reading : Reading) → reading_of owner readings ≡ Some reading → reading.owner.0 ≡ owner
found_owner owner [] reading found = absurd (let q : None ≡ Some reading = found in cc)
found_owner owner (first ∷ readings) reading found = at (first.owner.0 == owner) refl found (λ f. found_owner owner readings reading f)
  where
    at : (b : Bool) → (first.owner.0 == owner) ≡ b → cond b (Some first) (reading_of owner readings) ≡ Some reading → (reading_of owner readings ≡ Some reading → reading.owner.0 ≡ owner) → reading.owner.0 ≡ owner
    at true e f more = let same : first ≡ reading = cc in ap (λ (r : Reading). r.owner.0) (sym same) ∙ number_is first.owner.0 owner e
    at false e f more = more f

-- for the code

same_itself : (reading : Reading) → IsSameReading reading reading
same_itself reading = record { whose = refl; rows = refl; taken = refl; sum = refl; sums = refl }

all_same : (o : Option Reading) → IsSameIn o o
all_same None = tt
all_same (Some reading) = same_itself reading

pub record At (owner : ℕ) (items slice : List Reading) (place : ℕ) (reading : Reading) : Type 0 where
  pub there : is_some (reading_of owner items) ≡ true
  pub same : slice ≡ items
  pub placed : place ≡ place_of owner slice
  pub is : reading ≡ slice_index_or items place reading

at_place : (owner : ℕ) (items slice : List Reading) (place : ℕ) (reading : Reading) → At owner items slice place reading → place ≡ place_of owner items
at_place owner items slice place reading at = at.placed ∙ ap (place_of owner) at.same

pub at_within : (owner : ℕ) (items slice : List Reading) (place : ℕ) → is_some (reading_of owner items) ≡ true → slice ≡ items → place ≡ place_of owner slice → place < length items
at_within owner items slice place there same placed =
    let w = place_within owner items there in
    let e : place ≡ place_of owner items = placed ∙ ap (place_of owner) same in
    omega (arith, w, e)

at_found : (owner : ℕ) (items slice : List Reading) (place : ℕ) (reading : Reading) → At owner items slice place reading → reading_of owner items ≡ Some reading
at_found owner items slice place reading at =
    place_found owner items reading at.there
    ∙ ap (λ (n : ℕ). Some (slice_index_or items n reading)) (sym (at_place owner items slice place reading at))
    ∙ ap (λ (r : Reading). Some r) (sym at.is)

pub set_own : (owner : ℕ) (items slice : List Reading) (place : ℕ) (reading new : Reading) → At owner items slice place reading → new.owner ≡ reading.owner → reading_of owner (slice_set items place new) ≡ Some new
set_own owner items slice place reading new at whose =
    ap (λ (n : ℕ). reading_of owner (slice_set items n new)) (at_place owner items slice place reading at)
    ∙ placed_own owner items new (ap (λ (o : Owner). o.0) whose ∙ found_owner owner items reading (at_found owner items slice place reading at)) at.there

pub set_other : (owner : ℕ) (items slice : List Reading) (place : ℕ) (reading new : Reading) (other : ℕ) → At owner items slice place reading → new.owner ≡ reading.owner → other ≢ owner
    → reading_of other (slice_set items place new) ≡ reading_of other items
set_other owner items slice place reading new other at whose apart =
    ap (λ (n : ℕ). reading_of other (slice_set items n new)) (at_place owner items slice place reading at)
    ∙ placed_other other owner items new (ap (λ (o : Owner). o.0) whose ∙ found_owner owner items reading (at_found owner items slice place reading at)) apart

pub set_same : (owner : ℕ) (items slice : List Reading) (place : ℕ) (reading new : Reading) → At owner items slice place reading → IsSameReading reading new → AreSame items (slice_set items place new)
set_same owner items slice place reading new at same other = by (same_or_apart other owner)
  where
    by : (other ≡ owner) ⊎ (other ≢ owner) → IsSameIn (reading_of other items) (reading_of other (slice_set items place new))
    by (inl own) =
        subst (λ (a : ℕ). IsSameIn (reading_of a items) (reading_of a (slice_set items place new))) (sym own)
        (subst (λ (o : Option Reading). IsSameIn o (reading_of owner (slice_set items place new))) (sym (at_found owner items slice place reading at))
        (subst (IsSameIn (Some reading)) (sym (set_own owner items slice place reading new at same.whose)) same))
    by (inr apart) = subst (IsSameIn (reading_of other items)) (sym (set_other owner items slice place reading new other at same.whose apart)) (all_same (reading_of other items))

pub set_room : (owner : ℕ) (items slice : List Reading) (place : ℕ) (reading new : Reading) → At owner items slice place reading → new.owner ≡ reading.owner → HasRoom new → HasRoomOf owner (slice_set items place new)
set_room owner items slice place reading new at whose room = record { reading = new; found = set_own owner items slice place reading new at whose; room = room }

pub set_grown : (owner : ℕ) (items slice : List Reading) (place : ℕ) (reading new : Reading) (gain : Gain) (ends : Bool) → At owner items slice place reading → IsGrown gain ends reading new
    → HasGrown gain ends owner items (slice_set items place new)
set_grown owner items slice place reading new gain ends at grown = record {
  old = reading;
  new = new;
  was = at_found owner items slice place reading at;
  is = set_own owner items slice place reading new at grown.whose;
  grown = grown;
}

pub room_there : (owner : ℕ) (readings : List Reading) → HasRoomOf owner readings → is_some (reading_of owner readings) ≡ true
room_there owner readings has = ap is_some has.found

pub room_here : (owner : ℕ) (items slice : List Reading) (place : ℕ) (reading : Reading) → At owner items slice place reading → HasRoomOf owner items → HasRoom reading
room_here owner items slice place reading at has =
    let q : Some has.reading ≡ Some reading = sym has.found ∙ at_found owner items slice place reading at in
    let same : has.reading ≡ reading = cc in
    subst HasRoom same has.room
