-- The rest of a schedule and a round, played item by item.
use Rattle.std.proofs.Common.{◌≡◌, ◌≤◌, ◌<◌, ◌∙◌, ℕ, zero, suc, ◌+◌, ◌||◌, Bool, true, false, cond, List, [], ◌∷◌, ◌++◌, None, Some, length, drop, refl, ap, sym, subst, arith, add-one}
use Rattle.std.specs.List.{slice_get, AllByRecursion}
use Rattle.workload.specs.declared.schedule.Item.{Item}
use Rattle.trace_text.specs.declared.lines.JournalLine.{JournalLine}
use Rattle.turn_notes.specs.Notes.{has_moved}
use Rattle.world_model.specs.declared.options.RunOptions.{RunOptions}
use Rattle.world_model.specs.Worlds.{WorldView}
use Rattle.world_model.specs.Turns.{move, is_scheduled, is_written, line_of, written_if, unplayed, stepped, played}
use Rattle.world_model.specs.Rounds.{order, round, behind_schedule, moves_in, IsBehindSchedule, IsStillAt, IsStill, Reaches}
use Rattle.world_model.proofs.ReplayLemmas.{move_keeps, played-append}
use Rattle.world_model.proofs.RoundLemmas.{step_still, step_schedule, step_behind, step_counts}
use Rattle.world.specs.declared.runs.RunFault.{RunFault}
use Rattle.world.specs.declared.runs.RunFault.TheVariants.{StepLimit, Memory}
use Rattle.world.specs.Plays.{Stops, IsCut, RoundMoved, RoundTaken}
use Rattle.world.proofs.JournalLemmas.{moves_more}
use Rattle.world.proofs.StepLemmas.{step_options}

-- Items lead from one world to another.

pub reaches_none : (first last : WorldView) → last ≡ first → Reaches first last
reaches_none first last same = record { items = []; reached = same }

pub reaches_step : (item : Item) (first now new : WorldView) → Reaches first now → new ≡ stepped item now → Reaches first new
reaches_step item first now new so_far is = record {
  items = so_far.items ++ item ∷ [];
  reached = is ∙ ap (stepped item) so_far.reached ∙ sym (played-append so_far.items (item ∷ []) first);
}

pub reaches_more : (first middle last : WorldView) → Reaches first middle → Reaches middle last → Reaches first last
reaches_more first middle last one two = record {
  items = one.items ++ two.items;
  reached = two.reached ∙ ap (played two.items) one.reached ∙ sym (played-append one.items two.items first);
}

-- The moves of the journal only grow.

written_moves : (b : Bool) (line : JournalLine) (world : WorldView) → moves_in world.journal ≤ moves_in (written_if b line world).journal
written_moves true line world =
    let more : moves_in (world.journal ++ line ∷ []) ≡ moves_in world.journal + cond (has_moved line.note) 1 0 = moves_more world.journal line in
    omega (arith, more)
written_moves false line world = omega arith

pub step_moves : (item : Item) (world : WorldView) → moves_in world.journal ≤ moves_in (stepped item world).journal
step_moves item world =
    let more : moves_in (move item world).world.journal ≤ moves_in (stepped item world).journal =
    written_moves (is_written world (move item world).note) (line_of item (move item world).note) (move item world).world in
    let same : moves_in (move item world).world.journal ≡ moves_in world.journal = ap moves_in (move_keeps item world).journal in
    omega (arith, more, same)

pub played_moves : (items : List Item) (world : WorldView) → moves_in world.journal ≤ moves_in (played items world).journal
played_moves [] world = omega arith
played_moves (item ∷ items) world =
    let one : moves_in world.journal ≤ moves_in (stepped item world).journal = step_moves item world in
    let rest : moves_in (stepped item world).journal ≤ moves_in (played items (stepped item world)).journal = played_moves items (stepped item world) in
    omega (arith, one, rest)

or_true : (a b : Bool) → b ≡ true → (a || b) ≡ true
or_true true b is = refl
or_true false b is = is

-- a move is one more
pub step_moved : (item : Item) (world : WorldView) → has_moved (move item world).note ≡ true → moves_in (stepped item world).journal ≡ moves_in world.journal + 1
step_moved item world moved =
    ap (λ (b : Bool). moves_in (written_if b (line_of item (move item world).note) (move item world).world).journal)
    (or_true (is_scheduled world) (has_moved (move item world).note) moved)
    ∙ moves_more (move item world).world.journal (line_of item (move item world).note)
    ∙ ap (λ (b : Bool). moves_in (move item world).world.journal + cond b 1 0) moved
    ∙ ap (λ (lines : List JournalLine). moves_in lines + 1) (move_keeps item world).journal

-- The step limit.

most_same : (item : Item) (old new : WorldView) → new ≡ stepped item old → new.options.most_moves ≡ old.options.most_moves
most_same item old new is = ap (λ (w : WorldView). w.options.most_moves) is ∙ ap (λ (o : RunOptions). o.most_moves) (step_options item old)

pub limit_stops : (item : Item) (old new : WorldView) (moves : ℕ) → new ≡ stepped item old → moves ≡ moves_in new.journal → new.options.most_moves < moves
    → Stops item old new (StepLimit new.options.most_moves)
limit_stops item old new moves is counted over =
    let same : new.options.most_moves ≡ old.options.most_moves = most_same item old new is in
    let less : old.options.most_moves < moves_in new.journal = omega (arith, same, counted, over) in
    (same, is, less)

pub within_limit : (item : Item) (old new : WorldView) (moves : ℕ) → new ≡ stepped item old → moves ≡ moves_in new.journal → moves ≤ new.options.most_moves
    → moves_in new.journal ≤ old.options.most_moves
within_limit item old new moves is counted few =
    let same : new.options.most_moves ≡ old.options.most_moves = most_same item old new is in
    omega (arith, same, counted, few)

-- The rest of the schedule.

pub record Playing (first now : WorldView) : Type 0 where
  pub rest : behind_schedule now ≡ behind_schedule first
  pub reaches : Reaches first now
  pub options : now.options ≡ first.options
  pub few : moves_in now.journal ≤ first.options.most_moves

pub playing_none : (first : WorldView) → moves_in first.journal ≤ first.options.most_moves → Playing first first
playing_none first few = record { rest = refl; reaches = reaches_none first first refl; options = refl; few = few }

head_of : (n : ℕ) (xs : List Item) (x : Item) → slice_get (drop n xs) 0 ≡ Some x → drop n xs ≡ x ∷ drop (suc n) xs
head_of zero [] x found = absurd (cc)
head_of zero (y ∷ xs) x found = let same : y ≡ x = cc in ap (λ z. z ∷ xs) same
head_of (suc n) [] x found = absurd (cc)
head_of (suc n) (y ∷ xs) x found = head_of n xs x found

is_left : (n : ℕ) (xs : List Item) (x : Item) → slice_get (drop n xs) 0 ≡ Some x → n < length xs
is_left zero [] x found = absurd (cc)
is_left zero (y ∷ xs) x found = omega arith
is_left (suc n) [] x found = absurd (cc)
is_left (suc n) (y ∷ xs) x found =
    let less : n < length xs = is_left n xs x found in
    omega (arith, less)

none_left : (xs : List Item) → slice_get xs 0 ≡ None → xs ≡ []
none_left [] found = refl
none_left (x ∷ xs) found = absurd (cc)

next_unplayed : (item : Item) (world : WorldView) → slice_get (unplayed world) 0 ≡ Some item → unplayed world ≡ item ∷ unplayed (stepped item world)
next_unplayed item world found =
    let left : length world.journal < length world.schedule = is_left (length world.journal) world.schedule item found in
    head_of (length world.journal) world.schedule item found
    ∙ ap (λ (n : ℕ). item ∷ drop n world.schedule) (sym (step_counts item world left ∙ add-one (length world.journal)))
    ∙ ap (λ (items : List Item). item ∷ drop (length (stepped item world).journal) items) (sym (step_schedule item world))

next_rest : (item : Item) (world : WorldView) → slice_get (unplayed world) 0 ≡ Some item → behind_schedule world ≡ behind_schedule (stepped item world)
next_rest item world found = ap (λ (items : List Item). played items world) (next_unplayed item world found)

pub playing_more : (item : Item) (first now new : WorldView) → Playing first now → slice_get (unplayed now) 0 ≡ Some item → new ≡ stepped item now
    → moves_in new.journal ≤ now.options.most_moves → Playing first new
playing_more item first now new so_far found is few = record {
  rest = ap behind_schedule is ∙ sym (next_rest item now found) ∙ so_far.rest;
  reaches = reaches_step item first now new so_far.reaches is;
  options = ap (λ (w : WorldView). w.options) is ∙ step_options item now ∙ so_far.options;
  few = rw (sym so_far.options) few;
}

-- fewer items are left
pub playing_fewer : (item : Item) (now new : WorldView) → slice_get (unplayed now) 0 ≡ Some item → new ≡ stepped item now → length (unplayed new) < length (unplayed now)
playing_fewer item now new found is =
    let whole : length (unplayed now) ≡ suc (length (unplayed (stepped item now))) = ap length (next_unplayed item now found) in
    let same : length (unplayed new) ≡ length (unplayed (stepped item now)) = ap (λ (w : WorldView). length (unplayed w)) is in
    omega (arith, whole, same)

pub playing_all : (first now : WorldView) → Playing first now → slice_get (unplayed now) 0 ≡ None → now ≡ behind_schedule first
playing_all first now so_far none =
    sym (ap (λ (items : List Item). played items now) (none_left (unplayed now) none)) ∙ so_far.rest

pub playing_few : (first now : WorldView) → Playing first now → moves_in now.journal ≤ now.options.most_moves
playing_few first now so_far = rw so_far.options so_far.few

pub stops_reaches : (item : Item) (first now new : WorldView) (fault : RunFault) → Reaches first now → Stops item now new fault → Reaches first new
stops_reaches item first now new (StepLimit moves) so_far stops = reaches_step item first now new so_far stops.1
stops_reaches item first now new Memory so_far stops = reaches_more first now new so_far (reaches_none now new stops)

-- what is played up to the whole has too many moves, then the whole has
cut_within : (item : Item) (items : List Item) (first now new whole : WorldView) (fault : RunFault) → now.options ≡ first.options → whole ≡ played items (stepped item now)
    → Stops item now new fault → IsCut first whole fault
cut_within item items first now new whole (StepLimit moves) options is stops =
    let more : moves_in (stepped item now).journal ≤ moves_in (played items (stepped item now)).journal = played_moves items (stepped item now) in
    let here : moves_in new.journal ≡ moves_in (stepped item now).journal = ap (λ (w : WorldView). moves_in w.journal) stops.1 in
    let there : moves_in whole.journal ≡ moves_in (played items (stepped item now)).journal = ap (λ (w : WorldView). moves_in w.journal) is in
    let most : now.options.most_moves ≡ first.options.most_moves = ap (λ (o : RunOptions). o.most_moves) options in
    let over : now.options.most_moves < moves_in new.journal = stops.2 in
    let less : first.options.most_moves < moves_in whole.journal = omega (arith, more, here, there, most, over) in
    (stops.0 ∙ most, less)
cut_within item items first now new whole Memory options is stops = tt

pub playing_cut : (item : Item) (first now new : WorldView) (fault : RunFault) → Playing first now → slice_get (unplayed now) 0 ≡ Some item → Stops item now new fault
    → IsCut first (behind_schedule first) fault
playing_cut item first now new fault so_far found stops =
    cut_within item (unplayed (stepped item now)) first now new (behind_schedule first) fault so_far.options (sym so_far.rest ∙ next_rest item now found) stops

-- A round.

abbrev pub SoFar : Bool → List Item → WorldView → WorldView → Type 0
SoFar true rest old now = moves_in old.journal < moves_in now.journal
SoFar false rest old now = (now ≡ old) × (AllByRecursion (IsStillAt old) rest → IsStill old)

pub record Rounding (moved : Bool) (rest : List Item) (old now : WorldView) : Type 0 where
  pub left : played rest now ≡ round old
  pub reaches : Reaches old now
  pub behind : IsBehindSchedule now
  pub options : now.options ≡ old.options
  pub few : moves_in now.journal ≤ old.options.most_moves
  pub so_far : SoFar moved rest old now

pub rounding_none : (turns : List Item) (old : WorldView) → turns ≡ order old → IsBehindSchedule old → moves_in old.journal ≤ old.options.most_moves → Rounding false turns old old
rounding_none turns old are behind few = record {
  left = ap (λ (items : List Item). played items old) are;
  reaches = reaches_none old old refl;
  behind = behind;
  options = refl;
  few = few;
  so_far = (refl, λ still. subst (λ (items : List Item). AllByRecursion (IsStillAt old) items) are still);
}

more_so_far : (moved step : Bool) (item : Item) (rest : List Item) (old now : WorldView) → IsBehindSchedule now → SoFar moved (item ∷ rest) old now → step ≡ has_moved (move item now).note
    → SoFar (moved || step) rest old (stepped item now)
more_so_far true step item rest old now behind so_far is =
    let grows : moves_in now.journal ≤ moves_in (stepped item now).journal = step_moves item now in
    omega (arith, so_far, grows)
more_so_far false true item rest old now behind so_far is =
    let one : moves_in (stepped item now).journal ≡ moves_in now.journal + 1 = step_moved item now (sym is) in
    let same : moves_in now.journal ≡ moves_in old.journal = ap (λ (w : WorldView). moves_in w.journal) so_far.0 in
    omega (arith, one, same)
more_so_far false false item rest old now behind so_far is =
    let still : IsStillAt old item = subst (λ (w : WorldView). IsStillAt w item) so_far.0 (sym is) in
    (step_still item now behind (sym is) ∙ so_far.0, λ stills. so_far.1 (still, stills))

pub rounding_more : (moved step : Bool) (item : Item) (rest : List Item) (old now new : WorldView) → Rounding moved (item ∷ rest) old now → step ≡ has_moved (move item now).note
    → new ≡ stepped item now → moves_in new.journal ≤ now.options.most_moves → Rounding (moved || step) rest old new
rounding_more moved step item rest old now new r step_is is few = record {
  left = ap (played rest) is ∙ r.left;
  reaches = reaches_step item old now new r.reaches is;
  behind = subst IsBehindSchedule (sym is) (step_behind item now r.behind);
  options = ap (λ (w : WorldView). w.options) is ∙ step_options item now ∙ r.options;
  few = rw (sym r.options) few;
  so_far = subst (SoFar (moved || step) rest old) (sym is) (more_so_far moved step item rest old now r.behind r.so_far step_is);
}

round_moved : (moved : Bool) (old now : WorldView) → SoFar moved [] old now → RoundMoved moved old now
round_moved true old now so_far = so_far
round_moved false old now so_far = (so_far.0, so_far.1 tt)

pub rounding_all : (moved : Bool) (old now : WorldView) → Rounding moved [] old now → RoundTaken moved old now
rounding_all moved old now r = record { played = r.left; moved_some = round_moved moved old now r.so_far }

pub rounding_few : (moved : Bool) (rest : List Item) (old now : WorldView) → Rounding moved rest old now → moves_in now.journal ≤ now.options.most_moves
rounding_few moved rest old now r = rw r.options r.few

pub rounding_cut : (moved : Bool) (item : Item) (rest : List Item) (old now new : WorldView) (fault : RunFault) → Rounding moved (item ∷ rest) old now → Stops item now new fault
    → IsCut old (round old) fault
rounding_cut moved item rest old now new fault r stops = cut_within item rest old now new (round old) fault r.options (sym r.left) stops

-- the turns that are left, taken apart

pub rounding_at : (moved : Bool) (turns : List Item) (item : Item) (rest : List Item) (old now : WorldView) → turns ≡ item ∷ rest → Rounding moved turns old now → Rounding moved (item ∷ rest) old now
rounding_at moved turns item rest old now is r = subst (λ (items : List Item). Rounding moved items old now) is r

empty_is : (turns : List Item) → length turns ≡ 0 → turns ≡ []
empty_is [] none = refl
empty_is (item ∷ rest) none = absurd (omega (arith, none))

pub rounding_empty : (moved : Bool) (turns : List Item) (old now : WorldView) → length turns ≡ 0 → Rounding moved turns old now → Rounding moved [] old now
rounding_empty moved turns old now none r = subst (λ (items : List Item). Rounding moved items old now) (empty_is turns none) r
