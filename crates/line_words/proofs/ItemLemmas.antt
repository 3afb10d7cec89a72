-- Words of a schedule and nodes, letter by letter.
use Rattle.std.proofs.Common.{◌≡◌, ◌≢◌, ◌-◌, ◌≤◌, ◌==◌, ℕ, zero, suc, Bool, true, false, List, [], ◌∷◌, ◌++◌, length, take, drop, get_or, refl, sym, ap, subst, ◌∙◌, arith}
use Rattle.std.proofs.lemmas.Bool.Decides.{nat_tests}
use Rattle.std.proofs.Math.Seq.{take-append_seam}
use Rattle.std.specs.Prelude.{codes, not}
use Rattle.statement_tokens.specs.FirstToken.{behind, front_of}
use Rattle.statement_tokens.proofs.CutLemmas.{front_and_behind, front_taken}
use Rattle.file_text.specs.Said.{Turn, ScheduleWord, Once, Times, StopTool, ResumeTool, StopReplica, StartReplica, Node, All, Source, Replica, IsTurn, IsDecimal, IsLed, IsRepeated, IsOperators, IsScheduled, IsNode}
use Rattle.file_text.proofs.WordLemmas.{IsFreeOf, free-append, cut_once, never_cut, decimal_free, turn_free}
use Rattle.line_words.specs.declared.actors.ActorWord.{ActorWord}
use Rattle.line_words.specs.declared.items.ItemWord.{ItemWord}
use Rattle.line_words.specs.declared.items.ItemWord.TheVariants as w
use Rattle.line_words.specs.declared.nodes.NodeWord.{NodeWord}
use Rattle.line_words.specs.declared.nodes.NodeWord.TheVariants as n
use Rattle.line_words.specs.Numbers.{Capped}
use Rattle.line_words.specs.Actors.{kept, kept_turn, IsActorWord, NoActor}
use Rattle.line_words.specs.Items.{is_no_star, IsItemWord, NoItem, NoOperator, NoStop, NoSingle, NoTimes, IsNodeWord, NoNode}
use Rattle.line_words.proofs.NumberLemmas.{empty, tails}

abbrev letter_at : ℕ → List ℕ → ℕ
letter_at place text = get_or text place 0

-- ---- nodes

pub is_all : (text : List ℕ) → text ≡ 42 ∷ [] → IsNodeWord text n.All
is_all text e = record { node = All; is = e; kept = refl }

pub is_source : (text : List ℕ) → text ≡ codes "source" → IsNodeWord text n.Source
is_source text e = record { node = Source; is = e; kept = refl }

pub is_replica : (text : List ℕ) (found : ℕ) → Capped (λ (replica : ℕ). IsLed 114 replica text) found → IsNodeWord text (n.Replica found)
is_replica text found c = record { node = Replica c.number; is = c.is; kept = ap n.Replica c.capped }

pub no_node : (text : List ℕ) → (text ≡ 42 ∷ [] → ⊥) → (text ≡ codes "source" → ⊥) → ((replica : ℕ) → IsLed 114 replica text → ⊥) → NoNode text
no_node text a s r All h = a h
no_node text a s r Source h = s h
no_node text a s r (Replica replica) h = r replica h

-- ---- beginnings

take_front : (beginning more : List ℕ) → take (length beginning) (beginning ++ more) ≡ beginning
take_front beginning more = take-append_seam beginning more

pub front_is : (text beginning more front : List ℕ) → front ≡ take (length beginning) text → text ≡ beginning ++ more → front ≡ beginning
front_is text beginning more front h e = h ∙ ap (take (length beginning)) e ∙ take_front beginning more

-- ---- operator's words

pub is_stop_tool : (rest : List ℕ) → rest ≡ 99 ∷ [] → IsItemWord (codes "stop:" ++ rest) w.StopTool
is_stop_tool rest e = record { word = StopTool; is = ap (λ (xs : List ℕ). codes "stop:" ++ xs) e; kept = refl }

operators : (verb : List ℕ) (replica : ℕ) (rest : List ℕ) → IsLed 114 replica rest → IsOperators verb replica (verb ++ rest)
operators verb replica rest h = record { word = rest; is = refl; of = h }

pub is_stop_replica : (rest : List ℕ) (found : ℕ) → Capped (λ (replica : ℕ). IsLed 114 replica rest) found → IsItemWord (codes "stop:" ++ rest) (w.StopReplica found)
is_stop_replica rest found c = record { word = StopReplica c.number; is = operators (codes "stop:") c.number rest c.is; kept = ap w.StopReplica c.capped }

pub is_start_replica : (rest : List ℕ) (found : ℕ) → Capped (λ (replica : ℕ). IsLed 114 replica rest) found → IsItemWord (codes "start:" ++ rest) (w.StartReplica found)
is_start_replica rest found c = record { word = StartReplica c.number; is = operators (codes "start:") c.number rest c.is; kept = ap w.StartReplica c.capped }

pub no_stop : (rest : List ℕ) → (rest ≡ 99 ∷ [] → ⊥) → ((replica : ℕ) → IsLed 114 replica rest → ⊥) → NoStop rest
no_stop rest t r = record { no_tool = t; no_replica = r }

pub same_text : (text other : List ℕ) (found : ItemWord) → text ≡ other → IsItemWord other found → IsItemWord text found
same_text text other found e h = subst (λ (xs : List ℕ). IsItemWord xs found) (sym e) h

pub no_stop_word : (text rest : List ℕ) → text ≡ codes "stop:" ++ rest → NoStop rest → NoOperator text
no_stop_word text rest e none = record {
  no_stop = λ h. none.no_tool (ap (drop 5) (sym e ∙ h));
  no_resume = λ h. (let f : 115 ≡ 114 = ap (letter_at 0) (sym e ∙ h) in omega (arith, f));
  no_stop_replica = λ replica h. none.no_replica replica (subst (IsLed 114 replica) (let f : h.word ≡ rest = ap (drop 5) (sym h.is ∙ e) in f) h.of);
  no_start_replica = λ replica h. (let f : 111 ≡ 97 = ap (letter_at 2) (sym e ∙ h.is) in omega (arith, f));
}

pub no_start_word : (text rest : List ℕ) → text ≡ codes "start:" ++ rest → ((replica : ℕ) → IsLed 114 replica rest → ⊥) → NoOperator text
no_start_word text rest e none = record {
  no_stop = λ h. (let f : 97 ≡ 111 = ap (letter_at 2) (sym e ∙ h) in omega (arith, f));
  no_resume = λ h. (let f : 115 ≡ 114 = ap (letter_at 0) (sym e ∙ h) in omega (arith, f));
  no_stop_replica = λ replica h. (let f : 97 ≡ 111 = ap (letter_at 2) (sym e ∙ h.is) in omega (arith, f));
  no_start_replica = λ replica h. none replica (subst (IsLed 114 replica) (let f : h.word ≡ rest = ap (drop 6) (sym h.is ∙ e) in f) h.of);
}

pub is_resume : (text : List ℕ) → text ≡ codes "resume:c" → IsItemWord text w.ResumeTool
is_resume text e = record { word = ResumeTool; is = e; kept = refl }

pub no_operator : (text : List ℕ) → ((more : List ℕ) → text ≡ codes "stop:" ++ more → ⊥) → ((more : List ℕ) → text ≡ codes "start:" ++ more → ⊥) → (text ≡ codes "resume:c" → ⊥) → NoOperator text
no_operator text stop start resume = record {
  no_stop = λ h. stop (99 ∷ []) h;
  no_resume = resume;
  no_stop_replica = λ replica h. stop h.word h.is;
  no_start_replica = λ replica h. start h.word h.is;
}

-- ---- words without a star, and words with one

pub is_once : (text : List ℕ) (actor : ActorWord) → IsActorWord text actor → IsItemWord text (w.Once actor)
is_once text actor h = record { word = Once h.turn; is = h.is; kept = ap w.Once h.kept }

pub no_single : (text : List ℕ) → NoActor text → NoOperator text → NoSingle text
no_single text a o = record { no_actor = a; no_operator = o }

pub is_times : (front back : List ℕ) (actor : ActorWord) (count : ℕ) → IsActorWord front actor → Capped (λ (m : ℕ). IsDecimal m back) count → IsItemWord (front ++ 42 ∷ back) (w.Times actor count)
is_times front back actor count h c = record {
  word = Times h.turn c.number;
  is = record { front = front; back = back; is = refl; actor = h.is; number = c.is };
  kept = ap (λ (a : ActorWord). w.Times a count) h.kept ∙ ap (w.Times (kept_turn h.turn)) c.capped;
}

pub no_actor_times : (front back : List ℕ) → NoActor front → NoTimes front back
no_actor_times front back none turn count h d = none turn h

pub no_count_times : (front back : List ℕ) → ((m : ℕ) → IsDecimal m back → ⊥) → NoTimes front back
no_count_times front back none turn count h d = none count d

-- ---- the first star

star_test : (byte : ℕ) → is_no_star byte ≡ true → byte ≢ 42
star_test byte e is = by_test (byte == 42) refl
  where
    no : (b : Bool) → b ≡ true → b ≡ false → ⊥
    no b p q = cc

    by_test : (t : Bool) → (byte == 42) ≡ t → ⊥
    by_test true t = no (is_no_star byte) e (rw t refl)
    by_test false t = grind (arith, nat_tests, t, is)

is_star : (byte : ℕ) → is_no_star byte ≡ false → byte ≡ 42
is_star byte e = by_test (byte == 42) refl
  where
    no : (b : Bool) → b ≡ true → b ≡ false → ⊥
    no b p q = cc

    by_test : (t : Bool) → (byte == 42) ≡ t → byte ≡ 42
    by_test true t = grind (arith, nat_tests, t)
    by_test false t = absurd (no (is_no_star byte) (rw t refl) e)

front_free : (text : List ℕ) → IsFreeOf 42 (front_of is_no_star text)
front_free [] = tt
front_free (byte ∷ bytes) = by_test (front_free bytes) (is_no_star byte) refl
  where
    by_test : IsFreeOf 42 (front_of is_no_star bytes) → (is : Bool) → is_no_star byte ≡ is → IsFreeOf 42 (front_of is_no_star (byte ∷ bytes))
    by_test more true e = let f : front_of is_no_star (byte ∷ bytes) ≡ byte ∷ front_of is_no_star bytes = rw e refl in subst (IsFreeOf 42) (sym f) (star_test byte e, more)
    by_test more false e = let f : front_of is_no_star (byte ∷ bytes) ≡ [] = rw e refl in subst (IsFreeOf 42) (sym f) tt

first_star : (text : List ℕ) (byte : ℕ) (back : List ℕ) → behind is_no_star text ≡ byte ∷ back → byte ≡ 42
first_star [] byte back e = absurd cc
first_star (first ∷ text) byte back e = by_test (first_star text byte back) (is_no_star first) refl e
  where
    head_is : (a b : ℕ) (xs ys : List ℕ) → a ∷ xs ≡ b ∷ ys → a ≡ b
    head_is a b xs ys e = cc

    by_test : (behind is_no_star text ≡ byte ∷ back → byte ≡ 42) → (is : Bool) → is_no_star first ≡ is → behind is_no_star (first ∷ text) ≡ byte ∷ back → byte ≡ 42
    by_test later true t e = later (let b : behind is_no_star (first ∷ text) ≡ behind is_no_star text = rw t refl in sym b ∙ e)
    by_test later false t e = let b : behind is_no_star (first ∷ text) ≡ first ∷ text = rw t refl in sym (head_is first byte text back (sym b ∙ e)) ∙ is_star first t

led_free : (replica : ℕ) (text : List ℕ) → IsLed 114 replica text → IsFreeOf 42 text
led_free replica text h = subst (IsFreeOf 42) (sym h.is) ((λ e. omega (arith, e)), decimal_free 42 replica h.digits (omega arith) h.number)

stop_free : IsFreeOf 42 (codes "stop:")
stop_free = ((λ e. omega (arith, e)), ((λ e. omega (arith, e)), ((λ e. omega (arith, e)), ((λ e. omega (arith, e)), ((λ e. omega (arith, e)), tt)))))

start_free : IsFreeOf 42 (codes "start:")
start_free = ((λ e. omega (arith, e)), ((λ e. omega (arith, e)), ((λ e. omega (arith, e)), ((λ e. omega (arith, e)), ((λ e. omega (arith, e)), ((λ e. omega (arith, e)), tt))))))

stop_tool_free : IsFreeOf 42 (codes "stop:c")
stop_tool_free = ((λ e. omega (arith, e)), ((λ e. omega (arith, e)), ((λ e. omega (arith, e)), ((λ e. omega (arith, e)), ((λ e. omega (arith, e)), ((λ e. omega (arith, e)), tt))))))

resume_free : IsFreeOf 42 (codes "resume:c")
resume_free = ((λ e. omega (arith, e)), ((λ e. omega (arith, e)), ((λ e. omega (arith, e)), ((λ e. omega (arith, e)), ((λ e. omega (arith, e)), ((λ e. omega (arith, e)), ((λ e. omega (arith, e)), ((λ e. omega (arith, e)), tt))))))))

operators_free : (verb : List ℕ) (replica : ℕ) (text : List ℕ) → IsFreeOf 42 verb → IsOperators verb replica text → IsFreeOf 42 text
operators_free verb replica text f h = subst (IsFreeOf 42) (sym h.is) (free-append 42 verb h.word f (led_free replica h.word h.of))

single_item : (text : List ℕ) → IsFreeOf 42 text → NoSingle text → NoItem text
single_item text free none (Once turn) h = none.no_actor turn h
single_item text free none (Times turn count) h = never_cut 42 text h.front h.back free h.is
single_item text free none StopTool h = none.no_operator.no_stop h
single_item text free none ResumeTool h = none.no_operator.no_resume h
single_item text free none (StopReplica replica) h = none.no_operator.no_stop_replica replica h
single_item text free none (StartReplica replica) h = none.no_operator.no_start_replica replica h

times_item : (text front back : List ℕ) → text ≡ front ++ 42 ∷ back → IsFreeOf 42 front → NoTimes front back → NoItem text
times_item text front back is free none (Once turn) h = never_cut 42 text front back (turn_free turn text h) is
times_item text front back is free none (Times turn count) h =
    let c = cut_once 42 h.front front h.back back (turn_free turn h.front h.actor) free (sym h.is ∙ is) in none turn count (subst (IsTurn turn) c.0 h.actor) (subst (IsDecimal count) c.1 h.number)
times_item text front back is free none StopTool h = never_cut 42 text front back (subst (IsFreeOf 42) (sym h) stop_tool_free) is
times_item text front back is free none ResumeTool h = never_cut 42 text front back (subst (IsFreeOf 42) (sym h) resume_free) is
times_item text front back is free none (StopReplica replica) h = never_cut 42 text front back (operators_free (codes "stop:") replica text stop_free h) is
times_item text front back is free none (StartReplica replica) h = never_cut 42 text front back (operators_free (codes "start:") replica text start_free h) is

append_nothing : (xs : List ℕ) → xs ++ [] ≡ xs
append_nothing [] = refl
append_nothing (x ∷ xs) = ap (λ (ys : List ℕ). x ∷ ys) (append_nothing xs)

pub no_star : (text rest : List ℕ) → rest ≡ behind is_no_star text → length rest ≡ 0 → NoSingle text → NoItem text
no_star text rest is e none =
    let behind_is : behind is_no_star text ≡ [] = sym is ∙ empty rest e in
    let whole : front_of is_no_star text ≡ text = sym (append_nothing (front_of is_no_star text)) ∙ ap (λ (xs : List ℕ). front_of is_no_star text ++ xs) (sym behind_is) ∙ front_and_behind is_no_star text in
    single_item text (subst (IsFreeOf 42) whole (front_free text)) none

record StarAt (text front back : List ℕ) : Type 0 where
  are : text ≡ front ++ 42 ∷ back
  free : IsFreeOf 42 front

star_at : (text rest front back : List ℕ) (byte : ℕ) → rest ≡ behind is_no_star text → rest ≡ byte ∷ back → front ≡ take (length text - length rest) text → StarAt text front back
star_at text rest front back byte is e f =
    let front_is : front ≡ front_of is_no_star text = f ∙ ap (λ (xs : List ℕ). take (length text - length xs) text) is ∙ front_taken is_no_star text in
    let star : byte ≡ 42 = first_star text byte back (sym is ∙ e) in
    record {
      are = sym (front_and_behind is_no_star text) ∙ ap (λ (xs : List ℕ). xs ++ behind is_no_star text) (sym front_is) ∙ ap (λ (xs : List ℕ). front ++ xs) (sym is ∙ e ∙ ap (λ (b : ℕ). b ∷ back) star);
      free = subst (IsFreeOf 42) (sym front_is) (front_free text);
    }

pub no_times : (text rest front back : List ℕ) (byte : ℕ) → rest ≡ behind is_no_star text → rest ≡ byte ∷ back → front ≡ take (length text - length rest) text → NoTimes front back → NoItem text
no_times text rest front back byte is e f none = let s = star_at text rest front back byte is e f in times_item text front back s.are s.free none

pub at_star : (text rest front back : List ℕ) (byte : ℕ) (found : ItemWord) → rest ≡ behind is_no_star text → rest ≡ byte ∷ back → front ≡ take (length text - length rest) text → IsItemWord (front ++ 42 ∷ back) found → IsItemWord text found
at_star text rest front back byte found is e f h = same_text text (front ++ 42 ∷ back) found (star_at text rest front back byte is e f).are h
