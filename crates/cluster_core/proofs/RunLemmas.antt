-- Items played one after the other, and the end of a run.
use Rattle.std.proofs.Common.{◌≡◌, ℕ, zero, suc, ◌+◌, ◌<◌, ◌||◌, List, [], ◌∷◌, ◌++◌, length, take, drop, refl, ap, sym, ◌∙◌, subst, arith, append_assoc, append-nil, add-one, Option, Some, None, Bool, true, false, Result, Ok, Err, is_some}
use Rattle.std.specs.Prelude.{unwrap_or}
use Rattle.std.specs.List.{AllByRecursion, slice_get}
use Rattle.std.specs.Result.{OnErr}
use Rattle.std.proofs.Math.Seq.{take-length}
use Rattle.cluster_core.specs.Node.{NodeView}
use Rattle.cluster_core.specs.Sessions.{SessionView}
use Rattle.cluster_core.specs.World.{WorldView, turn, move, behind_item, step, played, sessions_from, workers_from, order, round, rounds, IsStill, EndsIn, Reaches}
use Rattle.cluster_core.specs.Turns.{Takes, Plays, TookTurns, turns_left}
use Rattle.workload_file.specs.declared.actors.Actor.{Actor}
use Rattle.workload_file.specs.declared.actors.Actor.TheVariants.{Session, Tool, Worker}
use Rattle.workload_file.specs.declared.schedule.Item.{Item}
use Rattle.workload_file.specs.declared.schedule.Item.TheVariants.{Turn}
use Rattle.cluster_core.proofs.MoveLemmas.{turn_nearer, turn_unplayed}

-- from a world to itself, by no item
pub reaches_none : (first last : WorldView) → last ≡ first → Reaches first last
reaches_none first last same = record {
  items = [];
  more = [];
  schedule_first = append-nil first.unplayed ∙ ap (λ (w : WorldView). w.unplayed) (sym same);
  reached = same;
}

pub played-append : (items more : List Item) (w : WorldView) → played (items ++ more) w ≡ played more (played items w)
played-append [] more w = refl
played-append (item ∷ items) more w = played-append items more (step item w)

pub reaches_more : (first middle last : WorldView) → Reaches first middle → Reaches middle last → Reaches first last
reaches_more first middle last one two = record {
  items = one.items ++ two.items;
  more = one.more ++ two.more;
  schedule_first =
      sym (append_assoc first.unplayed one.more two.more)
      ∙ ap (λ (xs : List Item). xs ++ two.more) one.schedule_first
      ∙ append_assoc one.items middle.unplayed two.more
      ∙ ap (λ (xs : List Item). one.items ++ xs) two.schedule_first
      ∙ sym (append_assoc one.items two.items last.unplayed);
  reached = two.reached ∙ ap (played two.items) one.reached ∙ sym (played-append one.items two.items first);
}

-- ---- items

pub move_nearer : (item : Item) (w v : WorldView) → move item w ≡ Some v → turns_left v < turns_left w
move_nearer (Turn actor) w v is = turn_nearer actor w v is

move_unplayed : (item : Item) (w v : WorldView) → move item w ≡ Some v → v.unplayed ≡ w.unplayed
move_unplayed (Turn actor) w v is = turn_unplayed actor w v is

unplayed_after : (item : Item) (w : WorldView) (next : Option WorldView) → move item w ≡ next → (unwrap_or next w).unplayed ≡ w.unplayed
unplayed_after item w None is = refl
unplayed_after item w (Some v) is = move_unplayed item w v is

-- a step takes one item off the schedule
pub step_unplayed : (item : Item) (w : WorldView) → (step item w).unplayed ≡ drop 1 w.unplayed
step_unplayed item w = ap (drop 1) (unplayed_after item w (move item w) refl)

-- behind the schedule there is none to take off
behind_same : (w : WorldView) → w.unplayed ≡ [] → behind_item w ≡ w
behind_same w none = ap (λ (items : List Item). record w { unplayed = items }) (ap (drop 1) none ∙ sym none)

step_behind : (item : Item) (w : WorldView) → w.unplayed ≡ [] → (step item w).unplayed ≡ []
step_behind item w none = step_unplayed item w ∙ ap (drop 1) none

pub played_behind : (items : List Item) (w : WorldView) → w.unplayed ≡ [] → (played items w).unplayed ≡ []
played_behind [] w none = none
played_behind (item ∷ items) w none = played_behind items (step item w) (step_behind item w none)

-- ---- turns behind the schedule

-- no turn yet
pub took_none : (w : WorldView) → w.unplayed ≡ [] → TookTurns w w [] false
took_none w none = record { reached = refl; behind = none; still = λ _. (refl, tt); nearer = λ is. absurd (cc) }

all-append : {A : Type 0} (P : A → Type 0) (xs : List A) (x : A) → AllByRecursion P xs → P x → AllByRecursion P (xs ++ x ∷ [])
all-append P [] x all holds = (holds, tt)
all-append P (y ∷ ys) x all holds = (all.0, all-append P ys x all.1 holds)

took_more_reached : (old now new : WorldView) (items : List Item) (item : Item)
    → now ≡ played items old → new ≡ step item now → new ≡ played (items ++ item ∷ []) old
took_more_reached old now new items item reached state =
    state ∙ ap (step item) reached ∙ sym (played-append items (item ∷ []) old)

took_more_still : (old now new : WorldView) (items : List Item) (item : Item)
    → (now ≡ old) × AllByRecursion (λ i. move i old ≡ None) items → move item now ≡ None → new ≡ now
    → (new ≡ old) × AllByRecursion (λ i. move i old ≡ None) (items ++ item ∷ [])
took_more_still old now new items item still is same =
    (same ∙ still.0, all-append (λ i. move i old ≡ None) items item still.1 (ap (move item) (sym still.0) ∙ is))

-- what the turn leaves: the same world where it was still, and else one with fewer turns left
pub stays_at : (item : Item) (now new : WorldView) → now.unplayed ≡ [] → move item now ≡ None → new ≡ step item now → new ≡ now
stays_at item now new none is state = state ∙ ap (λ (o : Option WorldView). behind_item (unwrap_or o now)) is ∙ behind_same now none

nearer_at : (item : Item) (now new next : WorldView) → move item now ≡ Some next → new ≡ step item now → turns_left new < turns_left now
nearer_at item now new next is state =
    let same : new ≡ behind_item next = state ∙ ap (λ (o : Option WorldView). behind_item (unwrap_or o now)) is in
    subst (λ (v : WorldView). turns_left v < turns_left now) (sym same) (move_nearer item now next is)

-- one turn more
took_more_as : (old now new : WorldView) (items : List Item) (item : Item) (moved step_moved : Bool) (next : Option WorldView)
    → TookTurns old now items moved → move item now ≡ next → step_moved ≡ is_some next → new ≡ step item now
    → TookTurns old new (items ++ item ∷ []) (moved || step_moved)
took_more_as old now new items item moved true None so_far is did state = absurd (let no : true ≡ false = did in cc)
took_more_as old now new items item moved false (Some next) so_far is did state = absurd (let no : false ≡ true = did in cc)
took_more_as old now new items item true false None so_far is did state = record {
  reached = took_more_reached old now new items item so_far.reached state;
  behind = ap (λ (v : WorldView). v.unplayed) (stays_at item now new so_far.behind is state) ∙ so_far.behind;
  still = λ no. absurd (cc);
  nearer = λ _. subst (λ (v : WorldView). turns_left v < turns_left old) (sym (stays_at item now new so_far.behind is state)) (so_far.nearer refl);
}
took_more_as old now new items item false false None so_far is did state = record {
  reached = took_more_reached old now new items item so_far.reached state;
  behind = ap (λ (v : WorldView). v.unplayed) (stays_at item now new so_far.behind is state) ∙ so_far.behind;
  still = λ _. took_more_still old now new items item (so_far.still refl) is (stays_at item now new so_far.behind is state);
  nearer = λ no. absurd (cc);
}
took_more_as old now new items item true true (Some next) so_far is did state = record {
  reached = took_more_reached old now new items item so_far.reached state;
  behind = ap (λ (v : WorldView). v.unplayed) state ∙ step_behind item now so_far.behind;
  still = λ no. absurd (cc);
  nearer = λ _. (let less = nearer_at item now new next is state in omega (arith, less, so_far.nearer refl));
}
took_more_as old now new items item false true (Some next) so_far is did state = record {
  reached = took_more_reached old now new items item so_far.reached state;
  behind = ap (λ (v : WorldView). v.unplayed) state ∙ step_behind item now so_far.behind;
  still = λ no. absurd (cc);
  nearer = λ _. subst (λ (v : WorldView). turns_left new < turns_left v) (so_far.still refl).0 (nearer_at item now new next is state);
}

pub took_more : (old now new : WorldView) (items : List Item) (item : Item) (moved step_moved : Bool)
    → TookTurns old now items moved → Plays item step_moved now new
    → TookTurns old new (items ++ item ∷ []) (moved || step_moved)
took_more old now new items item moved step_moved so_far plays = took_more_as old now new items item moved step_moved (move item now) so_far refl plays.did plays.state

pub took_reaches : (old now : WorldView) (items : List Item) (moved : Bool) → old.unplayed ≡ [] → TookTurns old now items moved → Reaches old now
took_reaches old now items moved none so_far = record {
  items = items;
  more = items;
  schedule_first = ap (λ (xs : List Item). xs ++ items) none ∙ sym (append-nil items) ∙ ap (λ (xs : List Item). items ++ xs) (sym so_far.behind);
  reached = so_far.reached;
}

workers_from-suc : (number : ℕ) (nodes : List NodeView) (i : ℕ) → i < length nodes
    → workers_from number (take (suc i) nodes) ≡ workers_from number (take i nodes) ++ Turn (Worker (i + number) 1) ∷ []
workers_from-suc number [] i within = absurd (omega arith)
workers_from-suc number (node ∷ nodes) zero within = ap (λ n. Turn (Worker n 1) ∷ []) (omega arith)
workers_from-suc number (node ∷ nodes) (suc i) within =
    ap (λ (rest : List Item). Turn (Worker number 1) ∷ rest) (workers_from-suc (number + 1) nodes i (omega arith)
    ∙ ap (λ n. workers_from (number + 1) (take i nodes) ++ Turn (Worker n 1) ∷ []) (omega arith))

workers_from-more : (number : ℕ) (nodes : List NodeView) (i : ℕ) → i < length nodes
    → workers_from number (take (i + 1) nodes) ≡ workers_from number (take i nodes) ++ Turn (Worker (i + number) 1) ∷ []
workers_from-more number nodes i within = ap (λ n. workers_from number (take n nodes)) (add-one i) ∙ workers_from-suc number nodes i within

sessions_from-suc : (number : ℕ) (views : List SessionView) (i : ℕ) → i < length views
    → sessions_from number (take (suc i) views) ≡ sessions_from number (take i views) ++ Turn (Session (i + number)) ∷ []
sessions_from-suc number [] i within = absurd (omega arith)
sessions_from-suc number (view ∷ views) zero within = ap (λ n. Turn (Session n) ∷ []) (omega arith)
sessions_from-suc number (view ∷ views) (suc i) within =
    ap (λ (rest : List Item). Turn (Session number) ∷ rest) (sessions_from-suc (number + 1) views i (omega arith)
    ∙ ap (λ n. sessions_from (number + 1) (take i views) ++ Turn (Session n) ∷ []) (omega arith))

sessions_from-more : (number : ℕ) (views : List SessionView) (i : ℕ) → i < length views
    → sessions_from number (take (i + 1) views) ≡ sessions_from number (take i views) ++ Turn (Session (i + number)) ∷ []
sessions_from-more number views i within = ap (λ n. sessions_from number (take n views)) (add-one i) ∙ sessions_from-suc number views i within

-- the first sessions took their turns, and one more does
pub took_session : (old now new : WorldView) (i : ℕ) (moved step_moved : Bool) → i < length old.sessions
    → TookTurns old now (sessions_from 1 (take i old.sessions)) moved
    → Plays (Turn (Session (i + 1))) step_moved now new
    → TookTurns old new (sessions_from 1 (take (i + 1) old.sessions)) (moved || step_moved)
took_session old now new i moved step_moved within so_far plays =
    subst (λ (all : List Item). TookTurns old new all (moved || step_moved)) (sym (sessions_from-more 1 old.sessions i within))
    (took_more old now new (sessions_from 1 (take i old.sessions)) (Turn (Session (i + 1))) moved step_moved so_far plays)

-- then the tool
pub took_tool : (old now new : WorldView) (moved step_moved : Bool)
    → TookTurns old now (sessions_from 1 old.sessions) moved
    → Plays (Turn Tool) step_moved now new
    → TookTurns old new (sessions_from 1 old.sessions ++ Turn Tool ∷ []) (moved || step_moved)
took_tool old now new moved step_moved so_far plays = took_more old now new (sessions_from 1 old.sessions) (Turn Tool) moved step_moved so_far plays

-- then the workers of the first replicas, and one more
pub took_worker : (old now new : WorldView) (i : ℕ) (moved step_moved : Bool) → i < length old.replicas
    → TookTurns old now (sessions_from 1 old.sessions ++ Turn Tool ∷ workers_from 1 (take i old.replicas)) moved
    → Plays (Turn (Worker (i + 1) 1)) step_moved now new
    → TookTurns old new (sessions_from 1 old.sessions ++ Turn Tool ∷ workers_from 1 (take (i + 1) old.replicas)) (moved || step_moved)
took_worker old now new i moved step_moved within so_far plays =
    let sessions : List Item = sessions_from 1 old.sessions in
    let all : (sessions ++ Turn Tool ∷ workers_from 1 (take i old.replicas)) ++ Turn (Worker (i + 1) 1) ∷ [] ≡ sessions ++ Turn Tool ∷ workers_from 1 (take (i + 1) old.replicas) =
    append_assoc sessions (Turn Tool ∷ workers_from 1 (take i old.replicas)) (Turn (Worker (i + 1) 1) ∷ [])
    ∙ ap (λ (rest : List Item). sessions ++ Turn Tool ∷ rest) (sym (workers_from-more 1 old.replicas i within)) in
    subst (λ (items : List Item). TookTurns old new items (moved || step_moved)) all
    (took_more old now new (sessions ++ Turn Tool ∷ workers_from 1 (take i old.replicas)) (Turn (Worker (i + 1) 1)) moved step_moved so_far plays)

-- ---- the schedule, and then rounds

-- the first items of the schedule are played
pub record PlaysSoFar (first now : WorldView) : Type 0 where
  pub items : List Item
  pub reached : now ≡ played items first
  pub left : first.unplayed ≡ items ++ now.unplayed

pub plays_none : (first : WorldView) → PlaysSoFar first first
plays_none first = record { items = []; reached = refl; left = refl }

-- the next item, and what is behind it
front_is : (items : List Item) (item : Item) → slice_get items 0 ≡ Some item → items ≡ item ∷ drop 1 items
front_is [] item is = absurd (cc)
front_is (other ∷ items) item is = let same : other ≡ item = cc in ap (λ (i : Item). i ∷ items) same

no_front : (items : List Item) → slice_get items 0 ≡ None → items ≡ []
no_front [] is = refl
no_front (item ∷ items) is = absurd (cc)

pub plays_more : (first now next : WorldView) (item : Item) → PlaysSoFar first now → Some item ≡ slice_get now.unplayed 0 → next ≡ step item now → PlaysSoFar first next
plays_more first now next item so_far is state =
    let rest : drop 1 now.unplayed ≡ next.unplayed = sym (step_unplayed item now) ∙ ap (λ (w : WorldView). w.unplayed) (sym state) in
    record {
      items = so_far.items ++ item ∷ [];
      reached = state ∙ ap (step item) so_far.reached ∙ sym (played-append so_far.items (item ∷ []) first);
      left = so_far.left
          ∙ ap (λ (xs : List Item). so_far.items ++ xs) (front_is now.unplayed item (sym is) ∙ ap (λ (xs : List Item). item ∷ xs) rest)
          ∙ sym (append_assoc so_far.items (item ∷ []) next.unplayed);
    }

-- each item that is played is one less
pub plays_fewer : (now next : WorldView) (item : Item) → Some item ≡ slice_get now.unplayed 0 → next ≡ step item now → length next.unplayed < length now.unplayed
plays_fewer now next item is state =
    let rest : length next.unplayed ≡ length (drop 1 now.unplayed) = ap (λ (w : WorldView). length w.unplayed) state ∙ ap length (step_unplayed item now) in
    let all : length now.unplayed ≡ length (item ∷ drop 1 now.unplayed) = ap length (front_is now.unplayed item (sym is)) in
    omega (arith, rest, all)

pub plays_all : (first now : WorldView) → PlaysSoFar first now → None ≡ slice_get now.unplayed 0 → now ≡ played first.unplayed first
plays_all first now so_far is =
    let all : first.unplayed ≡ so_far.items = so_far.left ∙ ap (λ (xs : List Item). so_far.items ++ xs) (no_front now.unplayed (sym is)) ∙ append-nil so_far.items in
    so_far.reached ∙ ap (λ (xs : List Item). played xs first) (sym all)

pub plays_end : (now : WorldView) → None ≡ slice_get now.unplayed 0 → now.unplayed ≡ []
plays_end now is = no_front now.unplayed (sym is)

pub plays_reaches : (first now last : WorldView) → PlaysSoFar first now → last ≡ now → Reaches first last
plays_reaches first now last so_far same = record {
  items = so_far.items;
  more = [];
  schedule_first = append-nil first.unplayed ∙ so_far.left ∙ ap (λ (w : WorldView). so_far.items ++ w.unplayed) (sym same);
  reached = same ∙ so_far.reached;
}

-- a number of rounds behind the schedule, each of which moved somebody
pub record RunsSoFar (first now : WorldView) : Type 0 where
  pub count : ℕ
  pub reached : now ≡ rounds count (played first.unplayed first)
  pub behind : now.unplayed ≡ []
  pub items : Reaches first now

rounds_more : (count : ℕ) (w : WorldView) → round (rounds count w) ≡ rounds (suc count) w
rounds_more zero w = refl
rounds_more (suc count) w = rounds_more count (round w)

pub runs_more : (first now next : WorldView) (moved : Bool) → RunsSoFar first now → TookTurns now next (order now) moved → RunsSoFar first next
runs_more first now next moved so_far took = record {
  count = suc so_far.count;
  reached = took.reached ∙ ap round so_far.reached ∙ rounds_more so_far.count (played first.unplayed first);
  behind = took.behind;
  items = reaches_more first now next so_far.items (took_reaches now next (order now) moved so_far.behind took);
}

-- what holds anyway holds after an error
pub on_err_of : {T E P : Type 0} (r : Result T E) → P → OnErr r P
on_err_of (Ok x) holds = tt
on_err_of (Err e) holds = holds
