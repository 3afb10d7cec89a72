-- The numbers that are kept of an item tell which number in it is misplaced, and which limit it passes.
use Rattle.std.proofs.Common.{◌≡◌, ◌⊎◌, inl, inr, ◌≤◌, ◌<◌, ◌+◌, ◌^◌, ◌-◌, ◌==◌, ℕ, suc, Bool, true, false, List, [], ◌∷◌, ◌++◌, Option, Some, None, get_or, min, refl, sym, ap, subst, ◌∙◌, arith}
use Rattle.std.proofs.lemmas.Bool.Decides.{nat_tests}
use Rattle.std.specs.Prelude.{leb, not, ◌&&◌, ◌||◌, MatchOption}
use Rattle.std.specs.Option.{option_map, option_or}
use Rattle.statement_tokens.specs.Tokens.{most_number}
use Rattle.file_text.specs.declared.places.Section.{Section}
use Rattle.file_text.specs.declared.places.Section.TheVariants.{PtcLines, IsolationLines, ReplicaLines, TableLines, RowLines, SessionLines, LocalLines, ScheduleLines, EndLines}
use Rattle.file_text.specs.declared.faults.LimitKind.{LimitKind}
use Rattle.file_text.specs.declared.faults.LimitKind.TheVariants.{Bytes, LineBytes, Tables, Columns, Replicas as ReplicaLimit, Sessions, Locals, Schedule as ScheduleLimit}
use Rattle.file_text.specs.Said.{Said, Item, Word, Sign, Name, Version, Count, Length, NodeWord, SessionWord, LocalWord, Turns, Digits, Quote, Turn, OfSession, OfTool, OfSync, OfWorker, OfFurtherWorker, OfLocal, ScheduleWord, Once, Times, StopTool, ResumeTool, StopReplica, StartReplica}
use Rattle.file_text.specs.Context.{sessions_in, locals_in, scheduled_in, turns_in}
use Rattle.file_text.specs.Rules.{Digit, AtFirst, BehindStar, unless, misplaced_turn, misplaced, turns_among, ends_in_minus}
use Rattle.file_text.specs.Causes.{names_among, PassesAt, limits}
use Rattle.line_words.specs.Actors.{kept, kept_turn}
use Rattle.line_words.specs.Items.{kept_word}
use Rattle.line_items.specs.declared.counts.Counts.{Counts}
use Rattle.line_items.specs.declared.counts.Tally.{Tally}
use Rattle.line_items.specs.declared.found_items.LineItem.{LineItem}
use Rattle.line_items.specs.declared.ranges.NumberSpot.{NumberSpot}
use Rattle.line_items.specs.declared.ranges.NumberSpot.TheVariants as at
use Rattle.line_items.specs.Items.{kept_item}
use Rattle.line_items.specs.Counted.{IsCounted, IsTally, capped, turns_of_word, turns_of_item, names_of_item, is_minus_item, tally_behind, digit_of, unless_at, misplaced_actor, misplaced_word, local_fits, misplaced_item, when_over, passed_columns, passed_replicas, passed_locals, passed_schedule, passed_item}
use Rattle.line_items.proofs.NumberLemmas.{kept_at_most, kept_at_least, kept_is, capped_choice, capped_same, sum_same, sum_more, more_same, capped_sum, over_yes, over_no, least_yes, least_no}

abbrev most : ℕ
most = 2 ^ 128 - 1

-- ---- numbers

unless_is : (b : Bool) (d : NumberSpot) → option_map digit_of (unless_at b d) ≡ unless b (digit_of d)
unless_is true d = refl
unless_is false d = refl

unless_same : (a b : Bool) (d : NumberSpot) → a ≡ b → option_map digit_of (unless_at a d) ≡ unless b (digit_of d)
unless_same a b d e = ap (λ (x : Bool). option_map digit_of (unless_at x d)) e ∙ unless_is b d

both_same : (a b c d : Bool) → a ≡ c → b ≡ d → (a && b) ≡ (c && d)
both_same a b c d e f = ap (λ (x : Bool). x && b) e ∙ ap (λ (x : Bool). c && x) f

either_same : (a b c d : Bool) → a ≡ c → b ≡ d → (a || b) ≡ (c || d)
either_same a b c d e f = ap (λ (x : Bool). x || b) e ∙ ap (λ (x : Bool). c || x) f

or_same : (o p : Option NumberSpot) (q r : Option Digit) → option_map digit_of o ≡ q → option_map digit_of p ≡ r → option_map digit_of (option_or o p) ≡ option_or q r
or_same None p q r e f = subst (λ (x : Option Digit). option_map digit_of p ≡ option_or x r) e f
or_same (Some d) p q r e f = subst (λ (x : Option Digit). Some (digit_of d) ≡ option_or x r) e refl

actor_same : (turn : Turn) → option_map digit_of (misplaced_actor (kept_turn turn)) ≡ misplaced_turn turn
actor_same (OfSession session) = refl
actor_same OfTool = refl
actor_same (OfSync replica) = refl
actor_same (OfWorker replica) = refl
actor_same (OfFurtherWorker replica worker) = unless_same (leb 2 (kept worker) && leb (kept worker) 8) (leb 2 worker && leb worker 8) at.BehindPoint
    (both_same (leb 2 (kept worker)) (leb (kept worker) 8) (leb 2 worker) (leb worker 8) (kept_at_least worker most 2 (omega arith)) (kept_at_most worker most 8 (omega arith)))
actor_same (OfLocal replica session) = refl

range_same : (count : ℕ) → (leb 1 (kept count) && leb (kept count) 1000000) ≡ (leb 1 count && leb count 1000000)
range_same count = both_same (leb 1 (kept count)) (leb (kept count) 1000000) (leb 1 count) (leb count 1000000) (kept_at_least count most 1 (omega arith)) (kept_at_most count most 1000000 (omega arith))

over_same : (counts : Counts) (tally : Tally) (before : List Said) (front : List Item) (count : ℕ) → IsCounted counts before → IsTally tally front
    → leb (counts.scheduled + tally.turns + kept count) 10000000 ≡ leb (scheduled_in before + turns_among front + count) 10000000
over_same counts tally before front count k l =
    ap (λ (n : ℕ). leb (n + tally.turns + kept count) 10000000) k.scheduled
    ∙ ap (λ (n : ℕ). leb (scheduled_in before + n + kept count) 10000000) l.turns
    ∙ sum_same (scheduled_in before) (turns_among front) count most 10000000 (omega arith)

word_same : (counts : Counts) (tally : Tally) (before : List Said) (front : List Item) → IsCounted counts before → IsTally tally front → (word : ScheduleWord)
    → option_map digit_of (misplaced_word (counts.scheduled + tally.turns) (kept_word word)) ≡ misplaced before front (Turns word)
word_same counts tally before front k l (Once turn) = actor_same turn
word_same counts tally before front k l (Times turn count) =
    or_same (misplaced_actor (kept_turn turn)) (unless_at ((leb 1 (kept count) && leb (kept count) 1000000) || not (leb (counts.scheduled + tally.turns + kept count) 10000000)) at.BehindStar)
    (misplaced_turn turn) (unless ((leb 1 count && leb count 1000000) || not (leb (scheduled_in before + turns_among front + count) 10000000)) BehindStar)
    (actor_same turn)
    (unless_same ((leb 1 (kept count) && leb (kept count) 1000000) || not (leb (counts.scheduled + tally.turns + kept count) 10000000)) ((leb 1 count && leb count 1000000) || not (leb (scheduled_in before + turns_among front + count) 10000000)) at.BehindStar
    (either_same (leb 1 (kept count) && leb (kept count) 1000000) (not (leb (counts.scheduled + tally.turns + kept count) 10000000)) (leb 1 count && leb count 1000000) (not (leb (scheduled_in before + turns_among front + count) 10000000))
    (range_same count) (ap not (over_same counts tally before front count k l))))
word_same counts tally before front k l StopTool = refl
word_same counts tally before front k l ResumeTool = refl
word_same counts tally before front k l (StopReplica replica) = refl
word_same counts tally before front k l (StartReplica replica) = refl

digits_bound : (minus : Bool) → most_number minus < most
digits_bound true = omega arith
digits_bound false = omega arith

local_same : (counts : Counts) (before : List Said) (replica session : ℕ) → IsCounted counts before
    → local_fits (get_or counts.locals.items (kept replica) 0) (kept session) ≡ (session == locals_in replica before + 1 || leb 16 (locals_in replica before))
local_same counts before replica session k =
    let few : locals_in replica before ≤ 16 = k.few_locals replica in
    ap (λ (n : ℕ). local_fits n (kept session)) (k.locals replica)
    ∙ ap (λ (b : Bool). b || leb 16 (locals_in replica before)) (kept_is session most (locals_in replica before + 1) (omega (arith, few)))

pub misplaced_kept : (counts : Counts) (tally : Tally) (before : List Said) (front : List Item) → IsCounted counts before → IsTally tally front → (item : Item)
    → option_map digit_of (misplaced_item counts tally (kept_item item)) ≡ misplaced before front item
misplaced_kept counts tally before front k l (Version n) = unless_same (kept n == 1) (n == 1) at.AtFirst (kept_is n most 1 (omega arith))
misplaced_kept counts tally before front k l (Count n) = unless_same (leb 1 (kept n)) (leb 1 n) at.AtFirst (kept_at_least n most 1 (omega arith))
misplaced_kept counts tally before front k l (Length n) = unless_same (leb 1 (kept n) && leb (kept n) 255) (leb 1 n && leb n 255) at.AtFirst
    (both_same (leb 1 (kept n)) (leb (kept n) 255) (leb 1 n) (leb n 255) (kept_at_least n most 1 (omega arith)) (kept_at_most n most 255 (omega arith)))
misplaced_kept counts tally before front k l (SessionWord n) =
    let few : sessions_in before ≤ 64 = k.few_sessions in
    unless_same (kept n == counts.sessions + 1) (n == sessions_in before + 1) at.BehindLetter
    (ap (λ (s : ℕ). kept n == s + 1) k.sessions ∙ kept_is n most (sessions_in before + 1) (omega (arith, few)))
misplaced_kept counts tally before front k l (LocalWord replica session) =
    unless_same (local_fits (get_or counts.locals.items (kept replica) 0) (kept session)) (session == locals_in replica before + 1 || leb 16 (locals_in replica before)) at.BehindPointLetter (local_same counts before replica session k)
misplaced_kept counts tally before front k l (Turns word) = word_same counts tally before front k l word
misplaced_kept counts tally before front k l (Digits n) = unless_same (leb (kept n) (most_number tally.behind_minus)) (leb n (most_number (ends_in_minus front))) at.AtFirst
    (ap (λ (b : Bool). leb (kept n) (most_number b)) l.minus ∙ kept_at_most n most (most_number (ends_in_minus front)) (digits_bound (ends_in_minus front)))
misplaced_kept counts tally before front k l (Word word) = refl
misplaced_kept counts tally before front k l (Sign sign) = refl
misplaced_kept counts tally before front k l (Name name) = refl
misplaced_kept counts tally before front k l (NodeWord node) = refl
misplaced_kept counts tally before front k l (Quote text) = refl

-- ---- one item more

zero_plus : (n : ℕ) → 0 + n ≡ n
zero_plus n = omega arith

one_plus : (n : ℕ) → suc n ≡ suc 0 + n
one_plus n = omega arith

more_turns : (m n : ℕ) → m + n ≡ m + 0 + n
more_turns m n = omega arith

turns_first : (item : Item) (items : List Item) → turns_among (item ∷ items) ≡ turns_among (item ∷ []) + turns_among items
turns_first (Turns word) items = more_turns (turns_in word) (turns_among items)
turns_first _ items = sym (zero_plus (turns_among items))

turns_push : (front : List Item) (item : Item) → turns_among (front ++ item ∷ []) ≡ turns_among front + turns_among (item ∷ [])
turns_push [] item = sym (zero_plus (turns_among (item ∷ [])))
turns_push (x ∷ front) item =
    let a : turns_among (x ∷ (front ++ item ∷ [])) ≡ turns_among (x ∷ []) + turns_among (front ++ item ∷ []) = turns_first x (front ++ item ∷ []) in
    let b : turns_among (x ∷ front) ≡ turns_among (x ∷ []) + turns_among front = turns_first x front in
    let c = turns_push front item in
    omega (arith, a, b, c)

names_first : (item : Item) (items : List Item) → names_among (item ∷ items) ≡ names_among (item ∷ []) + names_among items
names_first (Name name) items = one_plus (names_among items)
names_first _ items = sym (zero_plus (names_among items))

names_push : (front : List Item) (item : Item) → names_among (front ++ item ∷ []) ≡ names_among front + names_among (item ∷ [])
names_push [] item = sym (zero_plus (names_among (item ∷ [])))
names_push (x ∷ front) item =
    let a : names_among (x ∷ (front ++ item ∷ [])) ≡ names_among (x ∷ []) + names_among (front ++ item ∷ []) = names_first x (front ++ item ∷ []) in
    let b : names_among (x ∷ front) ≡ names_among (x ∷ []) + names_among front = names_first x front in
    let c = names_push front item in
    omega (arith, a, b, c)

minus_push : (front : List Item) (item : Item) → ends_in_minus (front ++ item ∷ []) ≡ ends_in_minus (item ∷ [])
minus_push [] item = refl
minus_push (Sign sign ∷ []) item = refl
minus_push (_ ∷ []) item = refl
minus_push (Sign sign ∷ (y ∷ front)) item = minus_push (y ∷ front) item
minus_push (_ ∷ (y ∷ front)) item = minus_push (y ∷ front) item

minus_is : (item : Item) → is_minus_item (kept_item item) ≡ ends_in_minus (item ∷ [])
minus_is (Sign sign) = refl
minus_is _ = refl

names_are : (item : Item) → names_of_item (kept_item item) ≡ names_among (item ∷ [])
names_are (Name name) = refl
names_are _ = refl

capped_more : (limit turns n : ℕ) → capped limit (capped limit turns + n) ≡ capped limit (turns + n)
capped_more limit turns n = by_choice (capped_choice limit turns)
  where
    by_choice : ((turns ≤ limit) × (capped limit turns ≡ turns)) ⊎ ((limit < turns) × (capped limit turns ≡ suc limit)) → capped limit (capped limit turns + n) ≡ capped limit (turns + n)
    by_choice (inl h) = ap (λ (t : ℕ). capped limit (t + n)) h.1
    by_choice (inr h) = let e = h.1 in let l = h.0 in capped_same limit (capped limit turns + n) (turns + n) (λ m. absurd (omega (arith, e, m))) (λ m. omega (arith, l))

names_kept : (names : ℕ) (item : Item) → capped 17 (capped 17 names + names_of_item (kept_item item)) ≡ capped 17 (names + names_among (item ∷ []))
names_kept names item = capped_more 17 names (names_of_item (kept_item item)) ∙ ap (λ (n : ℕ). capped 17 (names + n)) (names_are item)

turns_kept : (limit turns : ℕ) → limit < most → (item : Item) → capped limit (capped limit turns + turns_of_item (kept_item item)) ≡ capped limit (turns + turns_among (item ∷ []))
turns_kept limit turns s (Turns word) = by_word word
  where
    by_word : (word : ScheduleWord) → capped limit (capped limit turns + turns_of_word (kept_word word)) ≡ capped limit (turns + (turns_in word + 0))
    by_word (Once turn) = capped_more limit turns 1
    by_word (Times turn count) = let z : turns + count ≡ turns + (count + 0) = omega arith in capped_sum limit turns count most s ∙ ap (capped limit) z
    by_word StopTool = capped_more limit turns 1
    by_word ResumeTool = capped_more limit turns 1
    by_word (StopReplica replica) = capped_more limit turns 1
    by_word (StartReplica replica) = capped_more limit turns 1
turns_kept limit turns s _ = capped_more limit turns 0

pub tally_push : (tally : Tally) (front : List Item) (item : Item) → IsTally tally front → IsTally (tally_behind tally (kept_item item)) (front ++ item ∷ [])
tally_push tally front item l = record {
  turns = ap (λ (t : ℕ). capped 10000000 (t + turns_of_item (kept_item item))) l.turns ∙ turns_kept 10000000 (turns_among front) (omega arith) item ∙ ap (capped 10000000) (sym (turns_push front item));
  names = ap (λ (t : ℕ). capped 17 (t + names_of_item (kept_item item))) l.names ∙ names_kept (names_among front) item ∙ ap (capped 17) (sym (names_push front item));
  minus = minus_is item ∙ sym (minus_push front item);
}

-- ---- limits

abbrev pub TellsPass : Section → List Said → Item → List Item → Option LimitKind → Type 0
TellsPass section before item front passed = MatchOption passed ((which : LimitKind) → limits which ≡ Some section → PassesAt which before item front → ⊥) (λ which. (limits which ≡ Some section) × PassesAt which before item front)

abbrev limit_of : Section → LimitKind
limit_of TableLines = Columns
limit_of ReplicaLines = ReplicaLimit
limit_of LocalLines = Locals
limit_of ScheduleLines = ScheduleLimit
limit_of section = Bytes

some_is : (x y : Section) → Some x ≡ Some y → x ≡ y
some_is x y e = cc

which_is : (which : LimitKind) (section : Section) → limits which ≡ Some section → which ≡ limit_of section
which_is Bytes section e = absurd cc
which_is LineBytes section e = absurd cc
which_is Tables section e = absurd cc
which_is Columns section e = subst (λ (s : Section). Columns ≡ limit_of s) (some_is TableLines section e) refl
which_is ReplicaLimit section e = subst (λ (s : Section). ReplicaLimit ≡ limit_of s) (some_is ReplicaLines section e) refl
which_is Sessions section e = absurd cc
which_is Locals section e = subst (λ (s : Section). Locals ≡ limit_of s) (some_is LocalLines section e) refl
which_is ScheduleLimit section e = subst (λ (s : Section). ScheduleLimit ≡ limit_of s) (some_is ScheduleLines section e) refl

tells : (section : Section) (before : List Said) (item : Item) (front : List Item) (which : LimitKind) (over : Bool) → limits which ≡ Some section → limit_of section ≡ which
    → (over ≡ true → PassesAt which before item front) → (over ≡ false → PassesAt which before item front → ⊥) → TellsPass section before item front (when_over over which)
tells section before item front which true of is passing fitting = (of, passing refl)
tells section before item front which false of is passing fitting = λ other e p. fitting refl (subst (λ (w : LimitKind). PassesAt w before item front) (which_is other section e ∙ is) p)

tells_none : (section : Section) (before : List Said) (item : Item) (front : List Item) → (PassesAt (limit_of section) before item front → ⊥) → TellsPass section before item front None
tells_none section before item front fitting = λ which e p. fitting (subst (λ (w : LimitKind). PassesAt w before item front) (which_is which section e) p)

columns_tell : (tally : Tally) (before : List Said) (front : List Item) → IsTally tally front → (item : Item) → TellsPass TableLines before item front (passed_columns tally (kept_item item))
columns_tell tally before front l item =
    tells TableLines before item front Columns (not (leb (tally.names + names_of_item (kept_item item)) 17)) refl refl
    (λ e. over_yes (names_among (front ++ item ∷ [])) 17 (ap not (sym same) ∙ e))
    (λ e p. over_no (names_among (front ++ item ∷ [])) 17 (ap not (sym same) ∙ e) p)
  where
    same : leb (tally.names + names_of_item (kept_item item)) 17 ≡ leb (names_among (front ++ item ∷ [])) 17
    same = ap (λ (n : ℕ). leb (n + names_of_item (kept_item item)) 17) l.names
        ∙ more_same (names_among front) (names_of_item (kept_item item)) 17
        ∙ ap (λ (n : ℕ). leb (names_among front + n) 17) (names_are item)
        ∙ ap (λ (n : ℕ). leb n 17) (sym (names_push front item))

replicas_tell : (before : List Said) (front : List Item) (item : Item) → TellsPass ReplicaLines before item front (passed_replicas (kept_item item))
replicas_tell before front (Count n) =
    tells ReplicaLines before (Count n) front ReplicaLimit (not (leb (kept n) 8)) refl refl
    (λ e. over_yes n 8 (ap not (sym (kept_at_most n most 8 (omega arith))) ∙ e))
    (λ e p. over_no n 8 (ap not (sym (kept_at_most n most 8 (omega arith))) ∙ e) p)
replicas_tell before front (Word word) = tells_none ReplicaLines before (Word word) front (λ p. p)
replicas_tell before front (Sign sign) = tells_none ReplicaLines before (Sign sign) front (λ p. p)
replicas_tell before front (Name name) = tells_none ReplicaLines before (Name name) front (λ p. p)
replicas_tell before front (Version n) = tells_none ReplicaLines before (Version n) front (λ p. p)
replicas_tell before front (Length n) = tells_none ReplicaLines before (Length n) front (λ p. p)
replicas_tell before front (NodeWord node) = tells_none ReplicaLines before (NodeWord node) front (λ p. p)
replicas_tell before front (SessionWord session) = tells_none ReplicaLines before (SessionWord session) front (λ p. p)
replicas_tell before front (LocalWord replica session) = tells_none ReplicaLines before (LocalWord replica session) front (λ p. p)
replicas_tell before front (Turns word) = tells_none ReplicaLines before (Turns word) front (λ p. p)
replicas_tell before front (Digits n) = tells_none ReplicaLines before (Digits n) front (λ p. p)
replicas_tell before front (Quote text) = tells_none ReplicaLines before (Quote text) front (λ p. p)

locals_tell : (counts : Counts) (before : List Said) (front : List Item) → IsCounted counts before → (item : Item) → TellsPass LocalLines before item front (passed_locals counts (kept_item item))
locals_tell counts before front k (LocalWord replica session) =
    tells LocalLines before (LocalWord replica session) front Locals (leb 16 (get_or counts.locals.items (kept replica) 0)) refl refl
    (λ e. least_yes (locals_in replica before) 16 (ap (leb 16) (sym (k.locals replica)) ∙ e))
    (λ e p. least_no (locals_in replica before) 16 (ap (leb 16) (sym (k.locals replica)) ∙ e) p)
locals_tell counts before front k (Word word) = tells_none LocalLines before (Word word) front (λ p. p)
locals_tell counts before front k (Sign sign) = tells_none LocalLines before (Sign sign) front (λ p. p)
locals_tell counts before front k (Name name) = tells_none LocalLines before (Name name) front (λ p. p)
locals_tell counts before front k (Version n) = tells_none LocalLines before (Version n) front (λ p. p)
locals_tell counts before front k (Count n) = tells_none LocalLines before (Count n) front (λ p. p)
locals_tell counts before front k (Length n) = tells_none LocalLines before (Length n) front (λ p. p)
locals_tell counts before front k (NodeWord node) = tells_none LocalLines before (NodeWord node) front (λ p. p)
locals_tell counts before front k (SessionWord session) = tells_none LocalLines before (SessionWord session) front (λ p. p)
locals_tell counts before front k (Turns word) = tells_none LocalLines before (Turns word) front (λ p. p)
locals_tell counts before front k (Digits n) = tells_none LocalLines before (Digits n) front (λ p. p)
locals_tell counts before front k (Quote text) = tells_none LocalLines before (Quote text) front (λ p. p)

word_sum : (first turns : ℕ) (word : ScheduleWord) → leb (first + capped 10000000 turns + turns_of_word (kept_word word)) 10000000 ≡ leb (first + turns + turns_in word) 10000000
word_sum first turns (Once turn) = sum_more first turns 1 10000000
word_sum first turns (Times turn count) = sum_same first turns count most 10000000 (omega arith)
word_sum first turns StopTool = sum_more first turns 1 10000000
word_sum first turns ResumeTool = sum_more first turns 1 10000000
word_sum first turns (StopReplica replica) = sum_more first turns 1 10000000
word_sum first turns (StartReplica replica) = sum_more first turns 1 10000000

schedule_tells : (counts : Counts) (tally : Tally) (before : List Said) (front : List Item) → IsCounted counts before → IsTally tally front → (item : Item) → TellsPass ScheduleLines before item front (passed_schedule counts tally (kept_item item))
schedule_tells counts tally before front k l (Turns word) =
    tells ScheduleLines before (Turns word) front ScheduleLimit (not (leb (counts.scheduled + tally.turns + turns_of_word (kept_word word)) 10000000)) refl refl
    (λ e. over_yes (scheduled_in before + turns_among (front ++ Turns word ∷ [])) 10000000 (ap not (sym same) ∙ e))
    (λ e p. over_no (scheduled_in before + turns_among (front ++ Turns word ∷ [])) 10000000 (ap not (sym same) ∙ e) p)
  where
    all : scheduled_in before + turns_among front + turns_in word ≡ scheduled_in before + turns_among (front ++ Turns word ∷ [])
    all = let a : turns_among (front ++ Turns word ∷ []) ≡ turns_among front + (turns_in word + 0) = turns_push front (Turns word) in omega (arith, a)

    same : leb (counts.scheduled + tally.turns + turns_of_word (kept_word word)) 10000000 ≡ leb (scheduled_in before + turns_among (front ++ Turns word ∷ [])) 10000000
    same = ap (λ (n : ℕ). leb (n + tally.turns + turns_of_word (kept_word word)) 10000000) k.scheduled
        ∙ ap (λ (n : ℕ). leb (scheduled_in before + n + turns_of_word (kept_word word)) 10000000) l.turns
        ∙ word_sum (scheduled_in before) (turns_among front) word
        ∙ ap (λ (n : ℕ). leb n 10000000) all
schedule_tells counts tally before front k l (Word word) = tells_none ScheduleLines before (Word word) front (λ p. p)
schedule_tells counts tally before front k l (Sign sign) = tells_none ScheduleLines before (Sign sign) front (λ p. p)
schedule_tells counts tally before front k l (Name name) = tells_none ScheduleLines before (Name name) front (λ p. p)
schedule_tells counts tally before front k l (Version n) = tells_none ScheduleLines before (Version n) front (λ p. p)
schedule_tells counts tally before front k l (Count n) = tells_none ScheduleLines before (Count n) front (λ p. p)
schedule_tells counts tally before front k l (Length n) = tells_none ScheduleLines before (Length n) front (λ p. p)
schedule_tells counts tally before front k l (NodeWord node) = tells_none ScheduleLines before (NodeWord node) front (λ p. p)
schedule_tells counts tally before front k l (SessionWord session) = tells_none ScheduleLines before (SessionWord session) front (λ p. p)
schedule_tells counts tally before front k l (LocalWord replica session) = tells_none ScheduleLines before (LocalWord replica session) front (λ p. p)
schedule_tells counts tally before front k l (Digits n) = tells_none ScheduleLines before (Digits n) front (λ p. p)
schedule_tells counts tally before front k l (Quote text) = tells_none ScheduleLines before (Quote text) front (λ p. p)

pub passed_kept : (section : Section) (counts : Counts) (tally : Tally) (before : List Said) (front : List Item) → IsCounted counts before → IsTally tally front → (item : Item) → TellsPass section before item front (passed_item section counts tally (kept_item item))
passed_kept TableLines counts tally before front k l item = columns_tell tally before front l item
passed_kept ReplicaLines counts tally before front k l item = replicas_tell before front item
passed_kept LocalLines counts tally before front k l item = locals_tell counts before front k item
passed_kept ScheduleLines counts tally before front k l item = schedule_tells counts tally before front k l item
passed_kept PtcLines counts tally before front k l item = tells_none PtcLines before item front (λ p. p)
passed_kept IsolationLines counts tally before front k l item = tells_none IsolationLines before item front (λ p. p)
passed_kept RowLines counts tally before front k l item = tells_none RowLines before item front (λ p. p)
passed_kept SessionLines counts tally before front k l item = tells_none SessionLines before item front (λ p. p)
passed_kept EndLines counts tally before front k l item = tells_none EndLines before item front (λ p. p)
