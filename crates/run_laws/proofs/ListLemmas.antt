-- The actors of a round, one by one, and in the order of their turns.
use Rattle.std.proofs.Common.{◌≡◌, ◌∙◌, ℕ, zero, suc, ◌+◌, ◌-◌, ◌<◌, ◌≤◌, Bool, true, false, List, [], ◌∷◌, ◌++◌, None, Some, length, refl, ap, sym, subst, arith}
use Rattle.std.specs.Prelude.{⊤, nat_lt}
use Rattle.std.specs.List.{AllByRecursion, slice_get}
use Rattle.std.proofs.lemmas.Bool.Decides.{nat_tests}
use Rattle.workload.specs.declared.actors.Actor.{Actor}
use Rattle.workload.specs.declared.actors.Actor.TheVariants as a
use Rattle.workload.specs.declared.schedule.Item.{Item}
use Rattle.workload.specs.declared.schedule.Item.TheVariants as i
use Rattle.world_model.specs.Worlds.{WorldView, ReplicaView}
use Rattle.world_model.specs.Rounds.{turns_of, turns_on, replica_turns, order}
use Rattle.world_laws.proofs.ListLemmas.{each_joined}

-- of an actor whose turn an item is
abbrev pub OnTurn : (Actor → Type 0) → Item → Type 0
OnTurn P (i.Turn actor) = P actor
OnTurn P i.StopTool = ⊤
OnTurn P i.ResumeTool = ⊤
OnTurn P (i.StopReplica number) = ⊤
OnTurn P (i.StartReplica number) = ⊤

-- of the actors of the replica of this number
pub record EachThere (P : Actor → Type 0) (number : ℕ) (replica : ReplicaView) : Type 0 where
  pub locals : (place : ℕ) → place < length replica.locals → P (a.Local number (suc place))
  pub workers : (place : ℕ) → place < length replica.applier.workers → P (a.Worker number (suc place))

-- of the actors of a world
pub record Each (P : Actor → Type 0) (world : WorldView) : Type 0 where
  pub sessions : (place : ℕ) → place < length world.sessions → P (a.Session (suc place))
  pub tool : P a.Tool
  pub replicas : (place : ℕ) (replica : ReplicaView) → slice_get world.replicas place ≡ Some replica → EachThere P (suc place) replica

each_left : {A : Type 0} (P : A → Type 0) (xs ys : List A) → AllByRecursion P (xs ++ ys) → AllByRecursion P xs
each_left P [] ys are = tt
each_left P (x ∷ xs) ys are = (are.0, each_left P xs ys are.1)

each_right : {A : Type 0} (P : A → Type 0) (xs ys : List A) → AllByRecursion P (xs ++ ys) → AllByRecursion P ys
each_right P [] ys are = are
each_right P (x ∷ xs) ys are = each_right P xs ys are.1

-- From one to the next.

turns_from : (P : Actor → Type 0) (actor : ℕ → Actor) (count : ℕ) → ((place : ℕ) → place < count → P (actor (suc place))) → AllByRecursion (OnTurn P) (turns_of actor count)
turns_from P actor zero are = tt
turns_from P actor (suc count) are =
    each_joined (OnTurn P) (turns_of actor count) (i.Turn (actor (suc count)) ∷ []) (turns_from P actor count (λ place within. are place (omega (arith, within)))) (are count (omega arith), tt)

replicas_from : (P : Actor → Type 0) (number : ℕ) (replicas : List ReplicaView) → ((place : ℕ) (replica : ReplicaView) → slice_get replicas place ≡ Some replica → EachThere P (number + place) replica)
    → AllByRecursion (OnTurn P) (replica_turns number replicas)
replicas_from P number [] are = tt
replicas_from P number (replica ∷ replicas) are =
    each_joined (OnTurn P) (turns_on number replica) (replica_turns (number + 1) replicas)
    (each_joined (OnTurn P) (turns_of (a.Local number) (length replica.locals)) (turns_of (a.Worker number) (length replica.applier.workers))
    (turns_from P (a.Local number) (length replica.locals) first.locals) (turns_from P (a.Worker number) (length replica.applier.workers) first.workers))
    (replicas_from P (number + 1) replicas (λ place other found. subst (λ (n : ℕ). EachThere P n other) (further place) (are (suc place) other found)))
  where
    first : EachThere P number replica
    first = subst (λ (n : ℕ). EachThere P n replica) (let same : number + 0 ≡ number = omega arith in same) (are 0 replica refl)

    further : (place : ℕ) → number + suc place ≡ number + 1 + place
    further place = omega arith

pub in_order : (P : Actor → Type 0) (world : WorldView) → Each P world → AllByRecursion (OnTurn P) (order world)
in_order P world each =
    each_joined (OnTurn P) (turns_of a.Session (length world.sessions)) (i.Turn a.Tool ∷ replica_turns 1 world.replicas)
    (turns_from P a.Session (length world.sessions) each.sessions)
    (each.tool, replicas_from P 1 world.replicas (λ place replica found. subst (λ (n : ℕ). EachThere P n replica) (numbered place) (each.replicas place replica found)))
  where
    numbered : (place : ℕ) → suc place ≡ 1 + place
    numbered place = omega arith

-- And back.

data IsLast (place count : ℕ) : Type 0 where
  Last : (is : place ≡ count) → IsLast place count
  Before : (less : place < count) → IsLast place count

is_last : (place count : ℕ) → place ≤ count → IsLast place count
is_last place count within = at (nat_lt place count) refl
  where
    at : (b : Bool) → nat_lt place count ≡ b → IsLast place count
    at true e = Before (grind (arith, nat_tests))
    at false e = Last (grind (arith, nat_tests))

turns_to : (P : Actor → Type 0) (actor : ℕ → Actor) (count place : ℕ) → AllByRecursion (OnTurn P) (turns_of actor count) → place < count → P (actor (suc place))
turns_to P actor zero place are within = absurd (omega (arith, within))
turns_to P actor (suc count) place are within =
    at (is_last place count (omega (arith, within)))
    (λ less. turns_to P actor count place (each_left (OnTurn P) (turns_of actor count) (i.Turn (actor (suc count)) ∷ []) are) less)
  where
    at : IsLast place count → (place < count → P (actor (suc place))) → P (actor (suc place))
    at (Last is) earlier = subst (λ (n : ℕ). P (actor (suc n))) (sym is) (each_right (OnTurn P) (turns_of actor count) (i.Turn (actor (suc count)) ∷ []) are).0
    at (Before less) earlier = earlier less

replicas_to : (P : Actor → Type 0) (number : ℕ) (replicas : List ReplicaView) → AllByRecursion (OnTurn P) (replica_turns number replicas)
    → (place : ℕ) (replica : ReplicaView) → slice_get replicas place ≡ Some replica → EachThere P (number + place) replica
replicas_to P number [] are place replica found = absurd (let q : None ≡ Some replica = found in cc)
replicas_to P number (other ∷ replicas) are zero replica found =
    let same : other ≡ replica = cc in
    subst (EachThere P (number + 0)) same (subst (λ (n : ℕ). EachThere P n other) (let is : number ≡ number + 0 = omega arith in is) here)
  where
    turns : AllByRecursion (OnTurn P) (turns_on number other)
    turns = each_left (OnTurn P) (turns_on number other) (replica_turns (number + 1) replicas) are

    here : EachThere P number other
    here = record {
      locals = λ place within. turns_to P (a.Local number) (length other.locals) place
          (each_left (OnTurn P) (turns_of (a.Local number) (length other.locals)) (turns_of (a.Worker number) (length other.applier.workers)) turns) within;
      workers = λ place within. turns_to P (a.Worker number) (length other.applier.workers) place
          (each_right (OnTurn P) (turns_of (a.Local number) (length other.locals)) (turns_of (a.Worker number) (length other.applier.workers)) turns) within;
    }
replicas_to P number (other ∷ replicas) are (suc place) replica found =
    subst (λ (n : ℕ). EachThere P n replica) (let is : number + 1 + place ≡ number + suc place = omega arith in is)
    (replicas_to P (number + 1) replicas (each_right (OnTurn P) (turns_on number other) (replica_turns (number + 1) replicas) are) place replica found)

pub from_order : (P : Actor → Type 0) (world : WorldView) → AllByRecursion (OnTurn P) (order world) → Each P world
from_order P world are = record {
  sessions = λ place within. turns_to P a.Session (length world.sessions) place (each_left (OnTurn P) (turns_of a.Session (length world.sessions)) (i.Turn a.Tool ∷ replica_turns 1 world.replicas) are) within;
  tool = rest.0;
  replicas = λ place replica found. subst (λ (n : ℕ). EachThere P n replica) (numbered place) (replicas_to P 1 world.replicas rest.1 place replica found);
}
  where
    rest : AllByRecursion (OnTurn P) (i.Turn a.Tool ∷ replica_turns 1 world.replicas)
    rest = each_right (OnTurn P) (turns_of a.Session (length world.sessions)) (i.Turn a.Tool ∷ replica_turns 1 world.replicas) are

    numbered : (place : ℕ) → 1 + place ≡ suc place
    numbered place = omega arith

-- What holds at each place holds of each.
pub each_from : {A : Type 0} (P : A → Type 0) (xs : List A) → ((place : ℕ) (x : A) → slice_get xs place ≡ Some x → P x) → AllByRecursion P xs
each_from P [] are = tt
each_from P (x ∷ xs) are = (are 0 x refl, each_from P xs (λ place y found. are (suc place) y found))

-- The place before a number.

pub before : (place : ℕ) → suc place - 1 ≡ place
before place = omega arith

pub got_before : {A : Type 0} (xs : List A) (place : ℕ) (x : A) → slice_get xs place ≡ Some x → slice_get xs (suc place - 1) ≡ Some x
got_before xs place x found = ap (slice_get xs) (before place) ∙ found
