-- The words of a schedule name actors that are there.
use Rattle.std.proofs.Common.{◌≡◌, ◌⊎◌, ℕ, Bool, true, false, List, [], ◌∷◌, ◌++◌, map, length, Option, Some, None, refl, subst, arith, inl, inr, leb, leb-true, append_assoc}
use Rattle.std.specs.Prelude.{⊤, ◌&&◌}
use Rattle.std.specs.Option.{option_or}
use Rattle.std.specs.List.{AllByRecursion}
use Rattle.file_text.specs.declared.places.Section.TheVariants.{ScheduleLines}
use Rattle.file_text.specs.declared.places.Keyword.TheVariants.{First}
use Rattle.file_text.specs.declared.faults.LineCause.TheVariants.{Actor}
use Rattle.file_text.specs.Said.{Said, Skipped, Header, Isolation, Replicas, TableOf, RowOf, SessionOf, LocalOf, StepOf, Schedule, End, Item, Word, Turns, ScheduleWord, Once, Times, StopTool, ResumeTool, StopReplica, StartReplica, Turn, OfSession, OfTool, OfSync, OfWorker, OfFurtherWorker, OfLocal}
use Rattle.file_text.specs.Context.{replicas_of, sessions_in, locals_in}
use Rattle.file_text.specs.Rules.{Digit, BehindPoint, unless, misplaced, misplaced_turn, InRange}
use Rattle.file_text.specs.Causes.{OfLine, IsGood, IsReplica, IsDeclared, AllDeclared, UndeclaredWord}
use Rattle.file_laws.proofs.TestLemmas.{both}
use Rattle.cause_laws.proofs.MoreLemmas.{replicas_more}
use Rattle.workload_laws.specs.Sound.{IsOneOf}
use Rattle.workload_laws.proofs.ListLemmas.{all_append, all_weaker}
use Rattle.workload_laws.proofs.SoundLemmas.{within_told, sessions_more, locals_more}

-- a replica has eight workers at most
abbrev pub WorkerIn : Turn → Type 0
WorkerIn (OfFurtherWorker replica worker) = IsOneOf 8 worker
WorkerIn _ = ⊤

abbrev pub WordWorkers : ScheduleWord → Type 0
WordWorkers (Once turn) = WorkerIn turn
WordWorkers (Times turn count) = WorkerIn turn
WordWorkers _ = ⊤

pub record WordSound (before : List Said) (word : ScheduleWord) : Type 0 where
  pub declared : AllDeclared before word
  pub workers : WordWorkers word

abbrev pub LineDeclares : List Said → Said → Type 0
LineDeclares before (Schedule words) = AllByRecursion (WordSound before) words
LineDeclares before _ = ⊤

-- ---- what a good line's words name

both_told : {P Q : Type 0} → P ⊎ (P → ⊥) → Q ⊎ (Q → ⊥) → (P × Q) ⊎ (P × Q → ⊥)
both_told (inl p) (inl q) = inl (p, q)
both_told (inl p) (inr never) = inr (λ h. never h.1)
both_told (inr never) q = inr (λ h. never h.0)

turn_told : (before : List Said) (turn : Turn) → IsDeclared before turn ⊎ (IsDeclared before turn → ⊥)
turn_told before (OfSession session) = within_told session (sessions_in before)
turn_told before OfTool = inl tt
turn_told before (OfSync replica) = within_told replica (replicas_of before)
turn_told before (OfWorker replica) = within_told replica (replicas_of before)
turn_told before (OfFurtherWorker replica worker) = within_told replica (replicas_of before)
turn_told before (OfLocal replica session) = elim (both_told (within_told replica (replicas_of before)) (within_told session (locals_in replica before))) [
  | inl h ↦ inl (h.0, h.1.0, h.1.1)
  | inr never ↦ inr (λ h. never (h.0, (h.1, h.2)))
]

word_told : (before : List Said) (word : ScheduleWord) → AllDeclared before word ⊎ (AllDeclared before word → ⊥)
word_told before (Once turn) = turn_told before turn
word_told before (Times turn count) = turn_told before turn
word_told before StopTool = inl tt
word_told before ResumeTool = inl tt
word_told before (StopReplica replica) = within_told replica (replicas_of before)
word_told before (StartReplica replica) = within_told replica (replicas_of before)

-- where no word is the first that names nobody
all_declared : (before : List Said) (front words : List ScheduleWord) → AllByRecursion (AllDeclared before) front → ((number : ℕ) → UndeclaredWord before (front ++ words) number → ⊥) → AllByRecursion (AllDeclared before) words
all_declared before front [] f never = tt
all_declared before front (word ∷ words) f never = by_told (word_told before word) (λ d. all_declared before (front ++ word ∷ []) words (all_append (AllDeclared before) front (word ∷ []) f (d, tt)) (λ number u. never number (subst (λ (all : List ScheduleWord). UndeclaredWord before all number) (append_assoc front (word ∷ []) words) u)))
  where
    by_told : AllDeclared before word ⊎ (AllDeclared before word → ⊥) → (AllDeclared before word → AllByRecursion (AllDeclared before) words) → AllByRecursion (AllDeclared before) (word ∷ words)
    by_told (inl d) go = (d, go d)
    by_told (inr none) go = absurd (never (length front) (record { front = front; word = word; back = words; are = refl; number_is = refl; declared = f; undeclared = none }))

worker_in : (turn : Turn) → misplaced_turn turn ≡ None → WorkerIn turn
worker_in (OfFurtherWorker replica worker) e = by_test (leb 2 worker && leb worker 8) refl e
  where
    by_test : (b : Bool) → (leb 2 worker && leb worker 8) ≡ b → unless b BehindPoint ≡ None → IsOneOf 8 worker
    by_test true t none = let p = both (leb 2 worker) (leb worker 8) t in let l = leb-true 2 worker p.0 in (omega (arith, l), leb-true worker 8 p.1)
    by_test false t none = absurd cc
worker_in (OfSession session) e = tt
worker_in OfTool e = tt
worker_in (OfSync replica) e = tt
worker_in (OfWorker replica) e = tt
worker_in (OfLocal replica session) e = tt

first_none : (first rest : Option Digit) → option_or first rest ≡ None → first ≡ None
first_none None rest e = refl
first_none (Some digit) rest e = absurd cc

word_workers : (before : List Said) (front : List Item) (word : ScheduleWord) → misplaced before front (Turns word) ≡ None → WordWorkers word
word_workers before front (Once turn) e = worker_in turn e
word_workers before front (Times turn count) e = worker_in turn (first_none (misplaced_turn turn) _ e)
word_workers before front StopTool e = tt
word_workers before front ResumeTool e = tt
word_workers before front (StopReplica replica) e = tt
word_workers before front (StartReplica replica) e = tt

all_workers : (before : List Said) (front : List Item) (words : List ScheduleWord) → InRange before front (map Turns words) → AllByRecursion WordWorkers words
all_workers before front [] r = tt
all_workers before front (word ∷ words) r = (word_workers before front word r.0, all_workers before (front ++ Turns word ∷ []) words r.1)

words_sound : (before : List Said) (words : List ScheduleWord) → AllByRecursion (AllDeclared before) words → AllByRecursion WordWorkers words → AllByRecursion (WordSound before) words
words_sound before [] d w = tt
words_sound before (word ∷ words) d w = (record { declared = d.0; workers = w.0 }, words_sound before words d.1 w.1)

schedule_sound : (before : List Said) (line : List ℕ) (words : List ScheduleWord) → IsGood before line (Schedule words) → AllByRecursion (WordSound before) words
schedule_sound before line words g =
    words_sound before words
    (all_declared before [] words tt (λ number u. g.good (OfLine (Actor _)) (record { said = Schedule words; section = ScheduleLines; of = refl; says = g.says; number = number; who = u; is = refl })))
    (all_workers before (Word (First g.says.0) ∷ []) words g.says.1.in_range.1)

new_declares : (before : List Said) (line : List ℕ) (said : Said) → IsGood before line said → LineDeclares before said
new_declares before line (Schedule words) g = schedule_sound before line words g
new_declares before line Skipped g = tt
new_declares before line (Header version) g = tt
new_declares before line (Isolation level) g = tt
new_declares before line (Replicas count) g = tt
new_declares before line (TableOf name columns) g = tt
new_declares before line (RowOf which table literals) g = tt
new_declares before line (SessionOf session) g = tt
new_declares before line (LocalOf replica session) g = tt
new_declares before line (StepOf step) g = tt
new_declares before line End g = tt

-- ---- with a line more

replica_on : (before : List Said) (said : Said) (replica : ℕ) → IsReplica before replica → IsReplica (before ++ said ∷ []) replica
replica_on before said replica d = let m = replicas_more before said in let l = d.1 in (d.0, omega (arith, m, l))

turn_on : (before : List Said) (said : Said) (turn : Turn) → IsDeclared before turn → IsDeclared (before ++ said ∷ []) turn
turn_on before said (OfSession session) d = let m = sessions_more before said in let l = d.1 in (d.0, omega (arith, m, l))
turn_on before said OfTool d = tt
turn_on before said (OfSync replica) d = replica_on before said replica d
turn_on before said (OfWorker replica) d = replica_on before said replica d
turn_on before said (OfFurtherWorker replica worker) d = replica_on before said replica d
turn_on before said (OfLocal replica session) d =
    let m = locals_more replica before said in
    let l = d.2 in
    (replica_on before said replica d.0, d.1, omega (arith, m, l))

word_on : (before : List Said) (said : Said) (word : ScheduleWord) → AllDeclared before word → AllDeclared (before ++ said ∷ []) word
word_on before said (Once turn) d = turn_on before said turn d
word_on before said (Times turn count) d = turn_on before said turn d
word_on before said StopTool d = tt
word_on before said ResumeTool d = tt
word_on before said (StopReplica replica) d = replica_on before said replica d
word_on before said (StartReplica replica) d = replica_on before said replica d

line_on : (before : List Said) (said other : Said) → LineDeclares before other → LineDeclares (before ++ said ∷ []) other
line_on before said (Schedule words) d =
    all_weaker (WordSound before) (WordSound (before ++ said ∷ [])) words (λ word s. record { declared = word_on before said word s.declared; workers = s.workers }) d
line_on before said Skipped d = tt
line_on before said (Header version) d = tt
line_on before said (Isolation level) d = tt
line_on before said (Replicas count) d = tt
line_on before said (TableOf name columns) d = tt
line_on before said (RowOf which table literals) d = tt
line_on before said (SessionOf session) d = tt
line_on before said (LocalOf replica session) d = tt
line_on before said (StepOf step) d = tt
line_on before said End d = tt

pub declares_more : (before : List Said) (line : List ℕ) (said : Said) → IsGood before line said → AllByRecursion (LineDeclares before) before → AllByRecursion (LineDeclares (before ++ said ∷ [])) (before ++ said ∷ [])
declares_more before line said g d =
    all_append (LineDeclares (before ++ said ∷ [])) before (said ∷ [])
    (all_weaker (LineDeclares before) (LineDeclares (before ++ said ∷ [])) before (λ other l. line_on before said other l) d)
    (line_on before said said (new_declares before line said g), tt)
