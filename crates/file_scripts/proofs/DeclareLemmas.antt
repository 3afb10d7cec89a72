-- Who is declared behind lines whose counts are kept.
use Rattle.std.proofs.Common.{◌≡◌, ◌≤◌, ◌+◌, ◌^◌, ℕ, suc, Bool, true, false, List, [], ◌∷◌, ◌++◌, Some, None, map, get_or, refl, sym, ap, subst, ◌∙◌, arith}
use Rattle.std.specs.Prelude.{◌&&◌, if◌then◌else◌}
use Rattle.std.specs.List.{AllByRecursion}
use Rattle.file_text.specs.Said.{Said, Turn, OfSession, OfTool, OfSync, OfWorker, OfFurtherWorker, OfLocal, ScheduleWord, Once, Times, StopTool, ResumeTool, StopReplica, StartReplica, Node, All, Source, Replica}
use Rattle.file_text.specs.Context.{replicas_of}
use Rattle.file_text.specs.Causes.{IsReplica, IsDeclared, AllDeclared, NodeIsDeclared, UndeclaredWord}
use Rattle.line_words.specs.Actors.{kept, kept_turn}
use Rattle.line_words.specs.Items.{kept_word, kept_node}
use Rattle.line_items.specs.declared.counts.Counts.{Counts}
use Rattle.file_scripts.specs.Declarations.{is_within, declares_node, declares, declares_word, first_undeclared}
use Rattle.file_scripts.specs.Laws.{Knows, Tells}
use Rattle.file_laws.proofs.TestLemmas.{both}
use Rattle.file_scripts.proofs.TestLemmas.{told}
use Rattle.file_scripts.proofs.NumberLemmas.{kept_within_yes, kept_within_no}

pub replica_there : (before : List Said) (replicas replica : ℕ) → replicas ≡ replicas_of before → replicas ≤ 2 ^ 64 → is_within (kept replica) replicas ≡ true → IsReplica before replica
replica_there before replicas replica e s w =
    let h = kept_within_yes replica replicas s w in
    let low = h.0 in let high = h.1 in (low, omega (arith, high, e))

pub replica_absent : (before : List Said) (replicas replica : ℕ) → replicas ≡ replicas_of before → replicas ≤ 2 ^ 64 → is_within (kept replica) replicas ≡ false → IsReplica before replica → ⊥
replica_absent before replicas replica e s w h =
    let high = h.1 in kept_within_no replica replicas s w h.0 (omega (arith, high, e))

pub node_there : (before : List Said) (replicas : ℕ) (node : Node) → replicas ≡ replicas_of before → replicas ≤ 2 ^ 64 → declares_node replicas (kept_node node) ≡ true → NodeIsDeclared before node
node_there before replicas All e s w = tt
node_there before replicas Source e s w = tt
node_there before replicas (Replica replica) e s w = replica_there before replicas replica e s w

pub node_absent : (before : List Said) (replicas : ℕ) (node : Node) → replicas ≡ replicas_of before → replicas ≤ 2 ^ 64 → declares_node replicas (kept_node node) ≡ false → NodeIsDeclared before node → ⊥
node_absent before replicas All e s w h = absurd cc
node_absent before replicas Source e s w h = absurd cc
node_absent before replicas (Replica replica) e s w h = replica_absent before replicas replica e s w h

pub turn_there : (counts : Counts) (before : List Said) (replicas : ℕ) (turn : Turn) → Knows counts replicas before → declares counts replicas (kept_turn turn) ≡ true → IsDeclared before turn
turn_there counts before replicas (OfSession session) k w =
    let few : counts.sessions ≤ 2 ^ 64 = omega (arith, k.counted.sessions, k.counted.few_sessions) in
    let h = kept_within_yes session counts.sessions few w in
    let low = h.0 in let high = h.1 in (low, omega (arith, high, k.counted.sessions))
turn_there counts before replicas OfTool k w = tt
turn_there counts before replicas (OfSync replica) k w = replica_there before replicas replica k.number k.few w
turn_there counts before replicas (OfWorker replica) k w = replica_there before replicas replica k.number k.few w
turn_there counts before replicas (OfFurtherWorker replica worker) k w = replica_there before replicas replica k.number k.few w
turn_there counts before replicas (OfLocal replica session) k w =
    let parts = both (is_within (kept replica) replicas) (is_within (kept session) (get_or counts.locals.items (kept replica) 0)) w in
    let locals = k.counted.locals replica in
    let most = k.counted.few_locals replica in
    let few : get_or counts.locals.items (kept replica) 0 ≤ 2 ^ 64 = omega (arith, locals, most) in
    let h = kept_within_yes session (get_or counts.locals.items (kept replica) 0) few parts.1 in
    let low = h.0 in let high = h.1 in
    (replica_there before replicas replica k.number k.few parts.0, low, omega (arith, high, locals))

pub turn_absent : (counts : Counts) (before : List Said) (replicas : ℕ) (turn : Turn) → Knows counts replicas before → declares counts replicas (kept_turn turn) ≡ false → IsDeclared before turn → ⊥
turn_absent counts before replicas (OfSession session) k w h =
    let few : counts.sessions ≤ 2 ^ 64 = omega (arith, k.counted.sessions, k.counted.few_sessions) in
    let high = h.1 in kept_within_no session counts.sessions few w h.0 (omega (arith, high, k.counted.sessions))
turn_absent counts before replicas OfTool k w h = absurd cc
turn_absent counts before replicas (OfSync replica) k w h = replica_absent before replicas replica k.number k.few w h
turn_absent counts before replicas (OfWorker replica) k w h = replica_absent before replicas replica k.number k.few w h
turn_absent counts before replicas (OfFurtherWorker replica worker) k w h = replica_absent before replicas replica k.number k.few w h
turn_absent counts before replicas (OfLocal replica session) k w h = by_test (is_within (kept replica) replicas) refl
  where
    by_test : (is : Bool) → is_within (kept replica) replicas ≡ is → ⊥
    by_test false e = replica_absent before replicas replica k.number k.few e h.0
    by_test true e =
        let locals = k.counted.locals replica in
        let most = k.counted.few_locals replica in
        let few : get_or counts.locals.items (kept replica) 0 ≤ 2 ^ 64 = omega (arith, locals, most) in
        let other : is_within (kept session) (get_or counts.locals.items (kept replica) 0) ≡ false = sym (ap (λ (b : Bool). b && is_within (kept session) (get_or counts.locals.items (kept replica) 0)) e) ∙ w in
        let high = h.2 in
        kept_within_no session (get_or counts.locals.items (kept replica) 0) few other h.1 (omega (arith, high, locals))

pub word_there : (counts : Counts) (before : List Said) (replicas : ℕ) (word : ScheduleWord) → Knows counts replicas before → declares_word counts replicas (kept_word word) ≡ true → AllDeclared before word
word_there counts before replicas (Once turn) k w = turn_there counts before replicas turn k w
word_there counts before replicas (Times turn count) k w = turn_there counts before replicas turn k w
word_there counts before replicas StopTool k w = tt
word_there counts before replicas ResumeTool k w = tt
word_there counts before replicas (StopReplica replica) k w = replica_there before replicas replica k.number k.few w
word_there counts before replicas (StartReplica replica) k w = replica_there before replicas replica k.number k.few w

pub word_absent : (counts : Counts) (before : List Said) (replicas : ℕ) (word : ScheduleWord) → Knows counts replicas before → declares_word counts replicas (kept_word word) ≡ false → AllDeclared before word → ⊥
word_absent counts before replicas (Once turn) k w h = turn_absent counts before replicas turn k w h
word_absent counts before replicas (Times turn count) k w h = turn_absent counts before replicas turn k w h
word_absent counts before replicas StopTool k w h = absurd cc
word_absent counts before replicas ResumeTool k w h = absurd cc
word_absent counts before replicas (StopReplica replica) k w h = replica_absent before replicas replica k.number k.few w h
word_absent counts before replicas (StartReplica replica) k w h = replica_absent before replicas replica k.number k.few w h

-- ---- the first word of a line that names nobody

-- it stands so many words behind the first
record FoundFrom (before : List Said) (words : List ScheduleWord) (first found : ℕ) : Type 0 where
  behind : ℕ
  number : found ≡ first + behind
  undeclared : UndeclaredWord before words behind

found_next : (before : List Said) (word : ScheduleWord) (words : List ScheduleWord) (first found : ℕ) → AllDeclared before word → FoundFrom before words (suc first) found → FoundFrom before (word ∷ words) first found
found_next before word words first found d f = record {
  behind = suc f.behind;
  number = omega (arith, f.number);
  undeclared = record {
    front = word ∷ f.undeclared.front;
    word = f.undeclared.word;
    back = f.undeclared.back;
    are = ap (λ (l : List ScheduleWord). word ∷ l) f.undeclared.are;
    number_is = ap suc f.undeclared.number_is;
    declared = (d, f.undeclared.declared);
    undeclared = f.undeclared.undeclared;
  };
}

found_from : (counts : Counts) (before : List Said) (replicas : ℕ) → Knows counts replicas before → (words : List ScheduleWord) (first found : ℕ)
    → first_undeclared counts replicas first (map kept_word words) ≡ Some found → FoundFrom before words first found
found_from counts before replicas k [] first found e = absurd cc
found_from counts before replicas k (word ∷ words) first found e = by_test (declares_word counts replicas (kept_word word)) refl (λ rest. found_from counts before replicas k words (suc first) found rest)
  where
    by_test : (is : Bool) → declares_word counts replicas (kept_word word) ≡ is
        → (first_undeclared counts replicas (suc first) (map kept_word words) ≡ Some found → FoundFrom before words (suc first) found) → FoundFrom before (word ∷ words) first found
    by_test true d more =
        let rest : first_undeclared counts replicas (suc first) (map kept_word words) ≡ Some found =
        sym (ap (λ (b : Bool). if b then first_undeclared counts replicas (suc first) (map kept_word words) else Some first) d) ∙ e in
        found_next before word words first found (word_there counts before replicas word k d) (more rest)
    by_test false d more =
        let here : Some first ≡ Some found = sym (ap (λ (b : Bool). if b then first_undeclared counts replicas (suc first) (map kept_word words) else Some first) d) ∙ e in
        let same : first ≡ found = cc in
        record {
          behind = 0;
          number = omega (arith, same);
          undeclared = record { front = []; word = word; back = words; are = refl; number_is = refl; declared = tt; undeclared = word_absent counts before replicas word k d };
        }

pub first_found : (counts : Counts) (before : List Said) (replicas : ℕ) (words : List ScheduleWord) (found : ℕ) → Knows counts replicas before
    → first_undeclared counts replicas 0 (map kept_word words) ≡ Some found → UndeclaredWord before words found
first_found counts before replicas words found k e =
    let f = found_from counts before replicas k words 0 found e in
    let same : f.behind ≡ found = omega (arith, f.number) in
    subst (UndeclaredWord before words) same f.undeclared

none_from : (counts : Counts) (before : List Said) (replicas : ℕ) → Knows counts replicas before → (words : List ScheduleWord) (first : ℕ)
    → first_undeclared counts replicas first (map kept_word words) ≡ None → AllByRecursion (AllDeclared before) words
none_from counts before replicas k [] first e = tt
none_from counts before replicas k (word ∷ words) first e = by_test (declares_word counts replicas (kept_word word)) refl (λ rest. none_from counts before replicas k words (suc first) rest)
  where
    by_test : (is : Bool) → declares_word counts replicas (kept_word word) ≡ is
        → (first_undeclared counts replicas (suc first) (map kept_word words) ≡ None → AllByRecursion (AllDeclared before) words) → AllByRecursion (AllDeclared before) (word ∷ words)
    by_test true d more =
        let rest : first_undeclared counts replicas (suc first) (map kept_word words) ≡ None =
        sym (ap (λ (b : Bool). if b then first_undeclared counts replicas (suc first) (map kept_word words) else Some first) d) ∙ e in
        (word_there counts before replicas word k d, more rest)
    by_test false d more =
        let here : Some first ≡ None = sym (ap (λ (b : Bool). if b then first_undeclared counts replicas (suc first) (map kept_word words) else Some first) d) ∙ e in
        absurd cc

pub none_found : (counts : Counts) (before : List Said) (replicas : ℕ) (words : List ScheduleWord) → Knows counts replicas before
    → first_undeclared counts replicas 0 (map kept_word words) ≡ None → AllByRecursion (AllDeclared before) words
none_found counts before replicas words k e = none_from counts before replicas k words 0 e

declared_at : (before : List Said) (front : List ScheduleWord) (word : ScheduleWord) (back : List ScheduleWord) → AllByRecursion (AllDeclared before) (front ++ word ∷ back) → AllDeclared before word
declared_at before [] word back d = d.0
declared_at before (first ∷ front) word back d = declared_at before front word back d.1

pub all_declared : (before : List Said) (words : List ScheduleWord) (number : ℕ) → AllByRecursion (AllDeclared before) words → UndeclaredWord before words number → ⊥
all_declared before words number d u = u.undeclared (declared_at before u.front u.word u.back (subst (AllByRecursion (AllDeclared before)) u.are d))

-- ---- tests

pub replicas_told : (before : List Said) (replicas replica : ℕ) → replicas ≡ replicas_of before → replicas ≤ 2 ^ 64 → Tells (is_within (kept replica) replicas) (IsReplica before replica)
replicas_told before replicas replica e s = told (is_within (kept replica) replicas) (IsReplica before replica) (λ w. replica_there before replicas replica e s w) (λ w h. replica_absent before replicas replica e s w h)

pub nodes_told : (before : List Said) (replicas : ℕ) (node : Node) → replicas ≡ replicas_of before → replicas ≤ 2 ^ 64 → Tells (declares_node replicas (kept_node node)) (NodeIsDeclared before node)
nodes_told before replicas node e s = told (declares_node replicas (kept_node node)) (NodeIsDeclared before node) (λ w. node_there before replicas node e s w) (λ w h. node_absent before replicas node e s w h)

pub actors_told : (counts : Counts) (before : List Said) (replicas : ℕ) (turn : Turn) → Knows counts replicas before → Tells (declares counts replicas (kept_turn turn)) (IsDeclared before turn)
actors_told counts before replicas turn k = told (declares counts replicas (kept_turn turn)) (IsDeclared before turn) (λ w. turn_there counts before replicas turn k w) (λ w h. turn_absent counts before replicas turn k w h)
