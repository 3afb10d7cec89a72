-- The items of one line more.
use Rattle.std.proofs.Common.{◌≡◌, ◌≤◌, ◌<◌, ◌^◌, ℕ, zero, suc, Bool, true, false, List, [], ◌∷◌, ◌++◌, map, replicate, Option, Some, None, refl, sym, ap, ◌∙◌, append-nil, arith}
use Rattle.std.proofs.lemmas.Bool.Decides.{nat_tests}
use Rattle.std.proofs.lemmas.List.{map-append}
use Rattle.std.proofs.lemmas.Grind.{flat_map-append}
use Rattle.std.specs.Prelude.{⊤, ◌&&◌, leb}
use Rattle.std.specs.Option.{option_or}
use Rattle.std.specs.List.{flat_map, AllByRecursion}
use Rattle.file_text.specs.Said.{Said, Skipped, Header, Isolation, Replicas, TableOf, RowOf, SessionOf, LocalOf, StepOf, Schedule, End, Turn, OfSession, OfTool, OfSync, OfWorker, OfFurtherWorker, OfLocal, ScheduleWord, Once, Times, StopTool, ResumeTool, StopReplica, StartReplica, Item, Turns}
use Rattle.file_text.specs.Context.{replicas_of, sessions_in, locals_in, turns_in, turns_of as turns_said}
use Rattle.file_text.specs.Rules.{Digit, BehindPoint, unless, misplaced_turn, misplaced, InRange}
use Rattle.file_text.specs.Causes.{IsDeclared, AllDeclared}
use Rattle.file_text.specs.File.{words_said, played}
use Rattle.line_words.specs.Actors.{kept, kept_turn}
use Rattle.line_words.specs.Items.{kept_word}
use Rattle.workload.specs.declared.actors.Actor.TheVariants as a
use Rattle.workload.specs.declared.schedule.Item.{Item as ScheduleItem}
use Rattle.workload.specs.declared.schedule.Item.TheVariants as i
use Rattle.workload.specs.Played.{actor_of, item_of, items_of}
use Rattle.file_scripts.specs.Schedules.{FitsActor, FitsWord, actor_in, items_in, IsScheduleOf}
use Rattle.file_scripts.specs.Laws.{IsNoSchedule, AreWords}
use Rattle.file_scripts.proofs.NumberLemmas.{kept_small}

-- its numbers are small
abbrev IsSmall : Turn → Type 0
IsSmall (OfSession session) = session ≤ 64
IsSmall OfTool = ⊤
IsSmall (OfSync replica) = replica ≤ 8
IsSmall (OfWorker replica) = replica ≤ 8
IsSmall (OfFurtherWorker replica worker) = (replica ≤ 8) × (worker ≤ 8)
IsSmall (OfLocal replica session) = (replica ≤ 8) × (session ≤ 16)

abbrev IsSmallWord : ScheduleWord → Type 0
IsSmallWord (Once turn) = IsSmall turn
IsSmallWord (Times turn count) = IsSmall turn × (count ≤ 10000000)
IsSmallWord StopTool = ⊤
IsSmallWord ResumeTool = ⊤
IsSmallWord (StopReplica replica) = replica ≤ 8
IsSmallWord (StartReplica replica) = replica ≤ 8

-- what is known of the lines before
record IsFew (before : List Said) : Type 0 where
  replicas : replicas_of before ≤ 8
  sessions : sessions_in before ≤ 64
  locals : (replica : ℕ) → locals_in replica before ≤ 16

worker_small : (worker : ℕ) → unless (leb 2 worker && leb worker 8) BehindPoint ≡ None → worker ≤ 8
worker_small worker e = by_tests (leb 2 worker) (leb worker 8) refl refl
  where
    by_tests : (x y : Bool) → leb 2 worker ≡ x → leb worker 8 ≡ y → worker ≤ 8
    by_tests x true d f = grind (arith, nat_tests, f)
    by_tests true false d f = let g : Some BehindPoint ≡ None = sym (ap (λ (b : Bool). unless (b && leb worker 8) BehindPoint) d ∙ ap (λ (b : Bool). unless b BehindPoint) f) ∙ e in absurd cc
    by_tests false false d f = let g : Some BehindPoint ≡ None = sym (ap (λ (b : Bool). unless (b && leb worker 8) BehindPoint) d) ∙ e in absurd cc

small_turn : (before : List Said) (turn : Turn) → IsFew before → IsDeclared before turn → misplaced_turn turn ≡ None → IsSmall turn
small_turn before (OfSession session) few d e = let h = d.1 in let f = few.sessions in omega (arith, h, f)
small_turn before OfTool few d e = tt
small_turn before (OfSync replica) few d e = let h = d.1 in let f = few.replicas in omega (arith, h, f)
small_turn before (OfWorker replica) few d e = let h = d.1 in let f = few.replicas in omega (arith, h, f)
small_turn before (OfFurtherWorker replica worker) few d e = let h = d.1 in let f = few.replicas in (omega (arith, h, f), worker_small worker e)
small_turn before (OfLocal replica session) few d e =
    let h = d.0.1 in let g = d.2 in let f = few.replicas in let l = few.locals replica in (omega (arith, h, f), omega (arith, g, l))

or_none : (x y : Option Digit) → option_or x y ≡ None → x ≡ None
or_none None y e = refl
or_none (Some digit) y e = absurd cc

small_word : (before : List Said) (front : List Item) (word : ScheduleWord) → IsFew before → AllDeclared before word → misplaced before front (Turns word) ≡ None → turns_in word ≤ 10000000 → IsSmallWord word
small_word before front (Once turn) few d e t = small_turn before turn few d e
small_word before front (Times turn count) few d e t = (small_turn before turn few d (or_none (misplaced_turn turn) _ e), t)
small_word before front StopTool few d e t = tt
small_word before front ResumeTool few d e t = tt
small_word before front (StopReplica replica) few d e t = let h = d.1 in let f = few.replicas in omega (arith, h, f)
small_word before front (StartReplica replica) few d e t = let h = d.1 in let f = few.replicas in omega (arith, h, f)

small_words : (before : List Said) (front : List Item) (words : List ScheduleWord) → IsFew before → AllByRecursion (AllDeclared before) words → InRange before front (map Turns words) → turns_said words ≤ 10000000 → AllByRecursion IsSmallWord words
small_words before front [] few d r t = tt
small_words before front (word ∷ words) few d r t =
    (small_word before front word few d.0 r.0 (omega (arith, t)), small_words before (front ++ Turns word ∷ []) words few d.1 r.1 (omega (arith, t)))

small_of : (before : List Said) (words : List ScheduleWord) → AreWords before words → AllByRecursion IsSmallWord words
small_of before words w =
    small_words before w.front words (record { replicas = w.few_replicas; sessions = w.few_sessions; locals = w.few_locals }) w.declared w.in_range w.turns

-- ---- the numbers of a workload

number_fits : (n bound : ℕ) → n ≤ bound → bound ≤ 10000000 → kept n < 2 ^ 32
number_fits n bound s b = let e = kept_small n (omega (arith, s, b)) in omega (arith, s, b, e)

turn_fits : (turn : Turn) → IsSmall turn → FitsActor (kept_turn turn)
turn_fits (OfSession session) s = number_fits session 64 s (omega arith)
turn_fits OfTool s = tt
turn_fits (OfSync replica) s = number_fits replica 8 s (omega arith)
turn_fits (OfWorker replica) s = number_fits replica 8 s (omega arith)
turn_fits (OfFurtherWorker replica worker) s = (number_fits replica 8 s.0 (omega arith), number_fits worker 8 s.1 (omega arith))
turn_fits (OfLocal replica session) s = (number_fits replica 8 s.0 (omega arith), number_fits session 16 s.1 (omega arith))

word_fits : (word : ScheduleWord) → IsSmallWord word → FitsWord (kept_word word)
word_fits (Once turn) s = turn_fits turn s
word_fits (Times turn count) s = (turn_fits turn s.0, number_fits count 10000000 s.1 (omega arith))
word_fits StopTool s = tt
word_fits ResumeTool s = tt
word_fits (StopReplica replica) s = number_fits replica 8 s (omega arith)
word_fits (StartReplica replica) s = number_fits replica 8 s (omega arith)

all_fit : (words : List ScheduleWord) → AllByRecursion IsSmallWord words → AllByRecursion FitsWord (map kept_word words)
all_fit [] s = tt
all_fit (word ∷ words) s = (word_fits word s.0, all_fit words s.1)

pub words_fit : (before : List Said) (words : List ScheduleWord) → AreWords before words → AllByRecursion FitsWord (map kept_word words)
words_fit before words w = all_fit words (small_of before words w)

-- ---- the items

same_number : (n bound : ℕ) → n ≤ bound → bound ≤ 10000000 → kept n ≡ n
same_number n bound s b = kept_small n (omega (arith, s, b))

actor_same : (turn : Turn) → IsSmall turn → actor_in (kept_turn turn) ≡ actor_of turn
actor_same (OfSession session) s = ap (λ (n : ℕ). a.Session n) (same_number session 64 s (omega arith))
actor_same OfTool s = refl
actor_same (OfSync replica) s = ap (λ (n : ℕ). a.Sync n) (same_number replica 8 s (omega arith))
actor_same (OfWorker replica) s = ap (λ (n : ℕ). a.Worker n 1) (same_number replica 8 s (omega arith))
actor_same (OfFurtherWorker replica worker) s =
    ap (λ (n : ℕ). a.Worker n (kept worker)) (same_number replica 8 s.0 (omega arith)) ∙ ap (λ (n : ℕ). a.Worker replica n) (same_number worker 8 s.1 (omega arith))
actor_same (OfLocal replica session) s =
    ap (λ (n : ℕ). a.Local n (kept session)) (same_number replica 8 s.0 (omega arith)) ∙ ap (λ (n : ℕ). a.Local replica n) (same_number session 16 s.1 (omega arith))

times_item : (n : ℕ) (turn : Turn) → map item_of (replicate n (Once turn)) ≡ replicate n (i.Turn (actor_of turn))
times_item zero turn = refl
times_item (suc n) turn = ap (λ (items : List ScheduleItem). i.Turn (actor_of turn) ∷ items) (times_item n turn)

word_items : (word : ScheduleWord) → IsSmallWord word → items_in (kept_word word) ≡ map item_of (played word)
word_items (Once turn) s = ap (λ (item : ScheduleItem). item ∷ []) (ap (λ (actor : _). i.Turn actor) (actor_same turn s))
word_items (Times turn count) s =
    ap (λ (n : ℕ). replicate n (i.Turn (actor_in (kept_turn turn)))) (same_number count 10000000 s.1 (omega arith))
    ∙ ap (λ (actor : _). replicate count (i.Turn actor)) (actor_same turn s.0)
    ∙ sym (times_item count turn)
word_items StopTool s = refl
word_items ResumeTool s = refl
word_items (StopReplica replica) s = ap (λ (n : ℕ). i.StopReplica n ∷ []) (same_number replica 8 s (omega arith))
word_items (StartReplica replica) s = ap (λ (n : ℕ). i.StartReplica n ∷ []) (same_number replica 8 s (omega arith))

all_items : (words : List ScheduleWord) → AllByRecursion IsSmallWord words → flat_map items_in (map kept_word words) ≡ items_of words
all_items [] s = refl
all_items (word ∷ words) s =
    ap (λ (items : List ScheduleItem). items ++ flat_map items_in (map kept_word words)) (word_items word s.0)
    ∙ ap (λ (items : List ScheduleItem). map item_of (played word) ++ items) (all_items words s.1)
    ∙ sym (map-append item_of (played word) (flat_map played words))

items_append : (front back : List ScheduleWord) → items_of (front ++ back) ≡ items_of front ++ items_of back
items_append front back = ap (map item_of) (flat_map-append played front back) ∙ map-append item_of (flat_map played front) (flat_map played back)

pub items_more : (items : List ScheduleItem) (before : List Said) (words : List ScheduleWord) → AreWords before words → IsScheduleOf items before → IsScheduleOf (items ++ flat_map items_in (map kept_word words)) (before ++ Schedule words ∷ [])
items_more items before words w e =
    ap (λ (l : List ScheduleItem). l ++ flat_map items_in (map kept_word words)) e
    ∙ ap (λ (l : List ScheduleItem). items_of (flat_map words_said before) ++ l) (all_items words (small_of before words w))
    ∙ sym (items_append (flat_map words_said before) words)
    ∙ ap (λ (l : List ScheduleWord). items_of (flat_map words_said before ++ l)) (sym (append-nil words))
    ∙ ap items_of (sym (flat_map-append words_said before (Schedule words ∷ [])))

no_words : (said : Said) → IsNoSchedule said → words_said said ≡ []
no_words Skipped u = refl
no_words (Header version) u = refl
no_words (Isolation level) u = refl
no_words (Replicas count) u = refl
no_words (TableOf name columns) u = refl
no_words (RowOf node table literals) u = refl
no_words (SessionOf session) u = refl
no_words (LocalOf replica session) u = refl
no_words (StepOf step) u = refl
no_words (Schedule words) u = absurd u
no_words End u = refl

pub items_stay : (items : List ScheduleItem) (before : List Said) (said : Said) → IsNoSchedule said → IsScheduleOf items before → IsScheduleOf items (before ++ said ∷ [])
items_stay items before said u e =
    e
    ∙ ap items_of (sym (append-nil (flat_map words_said before)))
    ∙ ap (λ (l : List ScheduleWord). items_of (flat_map words_said before ++ (l ++ []))) (sym (no_words said u))
    ∙ ap items_of (sym (flat_map-append words_said before (said ∷ [])))
