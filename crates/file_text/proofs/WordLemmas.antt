-- Words that spell one thing.
use Rattle.std.proofs.Common.{◌≡◌, ◌≢◌, ℕ, ◌≤◌, ◌<◌, Bool, true, false, List, [], ◌∷◌, ◌++◌, refl, sym, ap, subst, ◌∙◌, arith, get_or, drop}
use Rattle.std.specs.Prelude.{◌&&◌, leb, codes}
use Rattle.std.specs.List.{AllByRecursion}
use Rattle.std.proofs.lemmas.Bool.Decides.{nat_tests}
use Rattle.std.specs.Char.{is_ascii_digit}
use Rattle.statement_tokens.specs.Spellings.{number_from, IsNumberText}
use Rattle.file_text.specs.Said.{IsDecimal, IsLed, IsFurther, IsLocal, Turn, OfSession, OfTool, OfSync, OfWorker, OfFurtherWorker, OfLocal, IsTurn, IsRepeated, IsOperators, ScheduleWord, Once, Times, StopTool, ResumeTool, StopReplica, StartReplica, IsScheduled, Node, All, Source, Replica, IsNode}

abbrev pub IsFreeOf : ℕ → List ℕ → Type 0
IsFreeOf stop = AllByRecursion (λ byte. byte ≢ stop)

abbrev pub AllDigits : List ℕ → Type 0
AllDigits = AllByRecursion (λ byte. is_ascii_digit byte ≡ true)

pub both : (a b : Bool) → (a && b) ≡ true → (a ≡ true) × (b ≡ true)
both true b e = (refl, e)
both false b e = cc

pub digit_bounds : (b : ℕ) → is_ascii_digit b ≡ true → (48 ≤ b) × (b ≤ 57)
digit_bounds b e = let p = both (leb 48 b) (leb b 57) e in (grind (arith, nat_tests), grind (arith, nat_tests))

pub free-append : (stop : ℕ) (xs ys : List ℕ) → IsFreeOf stop xs → IsFreeOf stop ys → IsFreeOf stop (xs ++ ys)
free-append stop [] ys h k = k
free-append stop (x ∷ xs) ys h k = (h.0, free-append stop xs ys h.1 k)

-- a text is cut at its first stop in one way
pub cut_once : (stop : ℕ) (xs ys xr yr : List ℕ) → IsFreeOf stop xs → IsFreeOf stop ys → xs ++ stop ∷ xr ≡ ys ++ stop ∷ yr → (xs ≡ ys) × (xr ≡ yr)
cut_once stop [] [] xr yr h k e = (refl, cc)
cut_once stop [] (y ∷ ys) xr yr h k e = absurd (k.0 cc)
cut_once stop (x ∷ xs) [] xr yr h k e = absurd (h.0 cc)
cut_once stop (x ∷ xs) (y ∷ ys) xr yr h k e =
    let tails : xs ++ stop ∷ xr ≡ ys ++ stop ∷ yr = cc in
    let more = cut_once stop xs ys xr yr h.1 k.1 tails in
    let rests = more.0 in
    let heads : x ≡ y = cc in
    (cc, more.1)

-- a text without the stop is not cut there
pub never_cut : (stop : ℕ) (xs ys yr : List ℕ) → IsFreeOf stop xs → xs ≡ ys ++ stop ∷ yr → ⊥
never_cut stop [] [] yr h e = absurd cc
never_cut stop [] (y ∷ ys) yr h e = absurd cc
never_cut stop (x ∷ xs) [] yr h e = h.0 cc
never_cut stop (x ∷ xs) (y ∷ ys) yr h e = let tails : xs ≡ ys ++ stop ∷ yr = cc in never_cut stop xs ys yr h.1 tails

digits_free : (stop : ℕ) → stop < 48 → (text : List ℕ) → AllDigits text → IsFreeOf stop text
digits_free stop low [] h = tt
digits_free stop low (b ∷ bs) h = let d = digit_bounds b h.0 in ((λ e. omega arith), digits_free stop low bs h.1)

pub decimal_free : (stop n : ℕ) (text : List ℕ) → stop < 48 → IsDecimal n text → IsFreeOf stop text
decimal_free stop n text low d = digits_free stop low text d.digits.digits

pub digits_once : (m n : ℕ) (text : List ℕ) → IsNumberText m text → IsNumberText n text → m ≡ n
digits_once m n text a b = a.value ∙ sym b.value

pub decimal_once : (m n : ℕ) (x y : List ℕ) → x ≡ y → IsDecimal m x → IsDecimal n y → m ≡ n
decimal_once m n x y e a b = a.digits.value ∙ ap (number_from 0) e ∙ sym b.digits.value

tails : (a b : ℕ) (xs ys : List ℕ) → a ∷ xs ≡ b ∷ ys → xs ≡ ys
tails a b xs ys e = cc

heads : (a b : ℕ) (xs ys : List ℕ) → a ∷ xs ≡ b ∷ ys → a ≡ b
heads a b xs ys e = cc

pub led_once : (letter m n : ℕ) (text : List ℕ) → IsLed letter m text → IsLed letter n text → m ≡ n
led_once letter m n text a b = decimal_once m n a.digits b.digits (tails letter letter a.digits b.digits (sym a.is ∙ b.is)) a.number b.number

pub record BothSame (a b c d : ℕ) : Type 0 where
  pub first : a ≡ b
  pub second : c ≡ d

further_once : (m n v w : ℕ) (text : List ℕ) → IsFurther m v text → IsFurther n w text → BothSame m n v w
further_once m n v w text a b =
    let c = cut_once 46 a.front b.front a.back b.back (decimal_free 46 m a.front (omega arith) a.first) (decimal_free 46 n b.front (omega arith) b.first) (tails 114 114 _ _ (sym a.is ∙ b.is)) in
    record { first = decimal_once m n a.front b.front c.0 a.first b.first; second = decimal_once v w a.back b.back c.1 a.second b.second }

pub local_once : (m n v w : ℕ) (text : List ℕ) → IsLocal m v text → IsLocal n w text → BothSame m n v w
local_once m n v w text a b =
    let c = cut_once 46 a.front b.front (108 ∷ a.back) (108 ∷ b.back) (decimal_free 46 m a.front (omega arith) a.first) (decimal_free 46 n b.front (omega arith) b.first) (tails 114 114 _ _ (sym a.is ∙ b.is)) in
    record { first = decimal_once m n a.front b.front c.0 a.first b.first; second = decimal_once v w a.back b.back (tails 108 108 a.back b.back c.1) a.second b.second }

worker_further : (m n w : ℕ) (text : List ℕ) → IsLed 114 m text → IsFurther n w text → ⊥
worker_further m n w text a b = never_cut 46 a.digits b.front b.back (decimal_free 46 m a.digits (omega arith) a.number) (tails 114 114 _ _ (sym a.is ∙ b.is))

worker_local : (m n w : ℕ) (text : List ℕ) → IsLed 114 m text → IsLocal n w text → ⊥
worker_local m n w text a b = never_cut 46 a.digits b.front (108 ∷ b.back) (decimal_free 46 m a.digits (omega arith) a.number) (tails 114 114 _ _ (sym a.is ∙ b.is))

no_letter : (b : ℕ) (xs : List ℕ) → 57 < b → AllDigits (b ∷ xs) → ⊥
no_letter b xs l h = let d = digit_bounds b h.0 in omega arith

further_local : (m n v w : ℕ) (text : List ℕ) → IsFurther m v text → IsLocal n w text → ⊥
further_local m n v w text a b =
    let c = cut_once 46 a.front b.front a.back (108 ∷ b.back) (decimal_free 46 m a.front (omega arith) a.first) (decimal_free 46 n b.front (omega arith) b.first) (tails 114 114 _ _ (sym a.is ∙ b.is)) in
    no_letter 108 b.back (omega arith) (subst AllDigits c.1 a.second.digits.digits)

abbrev letter_of : Turn → ℕ
letter_of (OfSession n) = 115
letter_of OfTool = 99
letter_of (OfSync n) = 121
letter_of (OfWorker n) = 114
letter_of (OfFurtherWorker n w) = 114
letter_of (OfLocal n w) = 114

-- an actor's word, letter by letter
record Starts (turn : Turn) (text : List ℕ) : Type 0 where
  rest : List ℕ
  is : text ≡ letter_of turn ∷ rest
  free : IsFreeOf 42 rest
  second : (b : ℕ) (more : List ℕ) → rest ≡ b ∷ more → b ≤ 57

first_digit : (text : List ℕ) (b : ℕ) (more : List ℕ) → AllDigits text → text ≡ b ∷ more → b ≤ 57
first_digit text b more h e = let d : AllDigits (b ∷ more) = subst AllDigits e h in (digit_bounds b d.0).1

front_digit : (front back : List ℕ) (stop b : ℕ) (more : List ℕ) → stop ≤ 57 → AllDigits front → front ++ stop ∷ back ≡ b ∷ more → b ≤ 57
front_digit [] back stop b more l h e = subst (λ x. x ≤ 57) (heads stop b back more e) l
front_digit (x ∷ xs) back stop b more l h e = subst (λ y. y ≤ 57) (heads x b (xs ++ stop ∷ back) more e) (digit_bounds x h.0).1

led_starts : (turn : Turn) (n : ℕ) (text : List ℕ) → IsLed (letter_of turn) n text → Starts turn text
led_starts turn n text a = record { rest = a.digits; is = a.is; free = decimal_free 42 n a.digits (omega arith) a.number; second = λ b more e. first_digit a.digits b more a.number.digits.digits e }

starts : (turn : Turn) (text : List ℕ) → IsTurn turn text → Starts turn text
starts (OfSession n) text h = led_starts (OfSession n) n text h
starts OfTool text h = record { rest = []; is = h; free = tt; second = λ b more e. absurd cc }
starts (OfSync n) text h = led_starts (OfSync n) n text h
starts (OfWorker n) text h = led_starts (OfWorker n) n text h
starts (OfFurtherWorker n w) text h = record {
  rest = h.front ++ 46 ∷ h.back;
  is = h.is;
  free = free-append 42 h.front (46 ∷ h.back) (decimal_free 42 n h.front (omega arith) h.first) ((λ e. omega arith), decimal_free 42 w h.back (omega arith) h.second);
  second = λ b more e. front_digit h.front h.back 46 b more (omega arith) h.first.digits.digits e;
}
starts (OfLocal n w) text h = record {
  rest = h.front ++ 46 ∷ (108 ∷ h.back);
  is = h.is;
  free = free-append 42 h.front (46 ∷ (108 ∷ h.back)) (decimal_free 42 n h.front (omega arith) h.first) ((λ e. omega arith), ((λ e. omega arith), decimal_free 42 w h.back (omega arith) h.second));
  second = λ b more e. front_digit h.front (108 ∷ h.back) 46 b more (omega arith) h.first.digits.digits e;
}

letters : (s t : Turn) (text : List ℕ) → IsTurn s text → IsTurn t text → letter_of s ≡ letter_of t
letters s t text h k = let a = starts s text h in let b = starts t text k in heads (letter_of s) (letter_of t) a.rest b.rest (sym a.is ∙ b.is)

letter_free : (turn : Turn) → letter_of turn ≢ 42
letter_free (OfSession n) e = omega arith
letter_free OfTool e = omega arith
letter_free (OfSync n) e = omega arith
letter_free (OfWorker n) e = omega arith
letter_free (OfFurtherWorker n w) e = omega arith
letter_free (OfLocal n w) e = omega arith

pub turn_free : (turn : Turn) (text : List ℕ) → IsTurn turn text → IsFreeOf 42 text
turn_free turn text h = let a = starts turn text h in subst (IsFreeOf 42) (sym a.is) (letter_free turn, a.free)

pub turn_once : (s t : Turn) (text : List ℕ) → IsTurn s text → IsTurn t text → s ≡ t
turn_once (OfSession a0) (OfSession b0) text h k = ap OfSession (led_once 115 a0 b0 text h k)
turn_once (OfSession a0) OfTool text h k = absurd (let e = letters (OfSession a0) OfTool text h k in omega (arith, e))
turn_once (OfSession a0) (OfSync b0) text h k = absurd (let e = letters (OfSession a0) (OfSync b0) text h k in omega (arith, e))
turn_once (OfSession a0) (OfWorker b0) text h k = absurd (let e = letters (OfSession a0) (OfWorker b0) text h k in omega (arith, e))
turn_once (OfSession a0) (OfFurtherWorker b0 b1) text h k = absurd (let e = letters (OfSession a0) (OfFurtherWorker b0 b1) text h k in omega (arith, e))
turn_once (OfSession a0) (OfLocal b0 b1) text h k = absurd (let e = letters (OfSession a0) (OfLocal b0 b1) text h k in omega (arith, e))
turn_once OfTool (OfSession b0) text h k = absurd (let e = letters OfTool (OfSession b0) text h k in omega (arith, e))
turn_once OfTool OfTool text h k = refl
turn_once OfTool (OfSync b0) text h k = absurd (let e = letters OfTool (OfSync b0) text h k in omega (arith, e))
turn_once OfTool (OfWorker b0) text h k = absurd (let e = letters OfTool (OfWorker b0) text h k in omega (arith, e))
turn_once OfTool (OfFurtherWorker b0 b1) text h k = absurd (let e = letters OfTool (OfFurtherWorker b0 b1) text h k in omega (arith, e))
turn_once OfTool (OfLocal b0 b1) text h k = absurd (let e = letters OfTool (OfLocal b0 b1) text h k in omega (arith, e))
turn_once (OfSync a0) (OfSession b0) text h k = absurd (let e = letters (OfSync a0) (OfSession b0) text h k in omega (arith, e))
turn_once (OfSync a0) OfTool text h k = absurd (let e = letters (OfSync a0) OfTool text h k in omega (arith, e))
turn_once (OfSync a0) (OfSync b0) text h k = ap OfSync (led_once 121 a0 b0 text h k)
turn_once (OfSync a0) (OfWorker b0) text h k = absurd (let e = letters (OfSync a0) (OfWorker b0) text h k in omega (arith, e))
turn_once (OfSync a0) (OfFurtherWorker b0 b1) text h k = absurd (let e = letters (OfSync a0) (OfFurtherWorker b0 b1) text h k in omega (arith, e))
turn_once (OfSync a0) (OfLocal b0 b1) text h k = absurd (let e = letters (OfSync a0) (OfLocal b0 b1) text h k in omega (arith, e))
turn_once (OfWorker a0) (OfSession b0) text h k = absurd (let e = letters (OfWorker a0) (OfSession b0) text h k in omega (arith, e))
turn_once (OfWorker a0) OfTool text h k = absurd (let e = letters (OfWorker a0) OfTool text h k in omega (arith, e))
turn_once (OfWorker a0) (OfSync b0) text h k = absurd (let e = letters (OfWorker a0) (OfSync b0) text h k in omega (arith, e))
turn_once (OfWorker a0) (OfWorker b0) text h k = ap OfWorker (led_once 114 a0 b0 text h k)
turn_once (OfWorker a0) (OfFurtherWorker b0 b1) text h k = absurd (worker_further a0 b0 b1 text h k)
turn_once (OfWorker a0) (OfLocal b0 b1) text h k = absurd (worker_local a0 b0 b1 text h k)
turn_once (OfFurtherWorker a0 a1) (OfSession b0) text h k = absurd (let e = letters (OfFurtherWorker a0 a1) (OfSession b0) text h k in omega (arith, e))
turn_once (OfFurtherWorker a0 a1) OfTool text h k = absurd (let e = letters (OfFurtherWorker a0 a1) OfTool text h k in omega (arith, e))
turn_once (OfFurtherWorker a0 a1) (OfSync b0) text h k = absurd (let e = letters (OfFurtherWorker a0 a1) (OfSync b0) text h k in omega (arith, e))
turn_once (OfFurtherWorker a0 a1) (OfWorker b0) text h k = absurd (worker_further b0 a0 a1 text k h)
turn_once (OfFurtherWorker a0 a1) (OfFurtherWorker b0 b1) text h k = let e = further_once a0 b0 a1 b1 text h k in let p = e.first in let q = e.second in cc
turn_once (OfFurtherWorker a0 a1) (OfLocal b0 b1) text h k = absurd (further_local a0 b0 a1 b1 text h k)
turn_once (OfLocal a0 a1) (OfSession b0) text h k = absurd (let e = letters (OfLocal a0 a1) (OfSession b0) text h k in omega (arith, e))
turn_once (OfLocal a0 a1) OfTool text h k = absurd (let e = letters (OfLocal a0 a1) OfTool text h k in omega (arith, e))
turn_once (OfLocal a0 a1) (OfSync b0) text h k = absurd (let e = letters (OfLocal a0 a1) (OfSync b0) text h k in omega (arith, e))
turn_once (OfLocal a0 a1) (OfWorker b0) text h k = absurd (worker_local b0 a0 a1 text k h)
turn_once (OfLocal a0 a1) (OfFurtherWorker b0 b1) text h k = absurd (further_local b0 a0 b1 a1 text k h)
turn_once (OfLocal a0 a1) (OfLocal b0 b1) text h k = let e = local_once a0 b0 a1 b1 text h k in let p = e.first in let q = e.second in cc

-- a schedule's word has a digit or a star behind its first letter, unless it is an operator's
actor_second : (turn : Turn) (text : List ℕ) (a b : ℕ) (more : List ℕ) → IsTurn turn text → text ≡ a ∷ (b ∷ more) → b ≤ 57
actor_second turn text a b more h e = let s = starts turn text h in s.second b more (tails (letter_of turn) a s.rest (b ∷ more) (sym s.is ∙ e))

repeat_second : (turn : Turn) (count : ℕ) (text : List ℕ) (a b : ℕ) (more : List ℕ) → IsRepeated turn count text → text ≡ a ∷ (b ∷ more) → b ≤ 57
repeat_second turn count text a b more h e =
    let s = starts turn h.front h.actor in
    behind s.rest s.second (tails (letter_of turn) a (s.rest ++ 42 ∷ h.back) (b ∷ more) (ap (λ (f : List ℕ). f ++ 42 ∷ h.back) (sym s.is) ∙ sym h.is ∙ e))
  where
    behind : (rest : List ℕ) → ((c : ℕ) (left : List ℕ) → rest ≡ c ∷ left → c ≤ 57) → rest ++ 42 ∷ h.back ≡ b ∷ more → b ≤ 57
    behind [] f e = subst (λ y. y ≤ 57) (heads 42 b h.back more e) (omega arith)
    behind (c ∷ left) f e = subst (λ y. y ≤ 57) (heads c b (left ++ 42 ∷ h.back) more e) (f c left refl)

abbrev letter_at : ℕ → List ℕ → ℕ
letter_at i text = get_or text i 0

once_times : (s t : Turn) (n : ℕ) (text : List ℕ) → IsTurn s text → IsRepeated t n text → ⊥
once_times s t n text h k = never_cut 42 text k.front k.back (turn_free s text h) k.is

times_once : (s t : Turn) (m n : ℕ) (text : List ℕ) → IsRepeated s m text → IsRepeated t n text → (s ≡ t) × (m ≡ n)
times_once s t m n text h k =
    let c = cut_once 42 h.front k.front h.back k.back (turn_free s h.front h.actor) (turn_free t k.front k.actor) (sym h.is ∙ k.is) in
    (turn_once s t k.front (subst (IsTurn s) c.0 h.actor) k.actor, decimal_once m n h.back k.back c.1 h.number k.number)

op_is : (verb : List ℕ) (n : ℕ) (text : List ℕ) (h : IsOperators verb n text) → text ≡ verb ++ 114 ∷ h.of.digits
op_is verb n text h = h.is ∙ ap (λ (w : List ℕ). verb ++ w) h.of.is

pub word_once : (v w : ScheduleWord) (text : List ℕ) → IsScheduled v text → IsScheduled w text → v ≡ w
word_once (Once s0) (Once s1) text h k = ap Once (turn_once s0 s1 text h k)
word_once (Once s0) (Times s1 n1) text h k = absurd (once_times s0 s1 n1 text h k)
word_once (Once s0) StopTool text h k = absurd (let e = actor_second s0 text _ 116 _ h k in omega (arith, e))
word_once (Once s0) ResumeTool text h k = absurd (let e = actor_second s0 text _ 101 _ h k in omega (arith, e))
word_once (Once s0) (StopReplica r1) text h k = absurd (let e = actor_second s0 text _ 116 _ h (op_is (codes "stop:") r1 text k) in omega (arith, e))
word_once (Once s0) (StartReplica r1) text h k = absurd (let e = actor_second s0 text _ 116 _ h (op_is (codes "start:") r1 text k) in omega (arith, e))
word_once (Times s0 n0) (Once s1) text h k = absurd (once_times s1 s0 n0 text k h)
word_once (Times s0 n0) (Times s1 n1) text h k = let e = times_once s0 s1 n0 n1 text h k in let p = e.0 in let q = e.1 in cc
word_once (Times s0 n0) StopTool text h k = absurd (let e = repeat_second s0 n0 text _ 116 _ h k in omega (arith, e))
word_once (Times s0 n0) ResumeTool text h k = absurd (let e = repeat_second s0 n0 text _ 101 _ h k in omega (arith, e))
word_once (Times s0 n0) (StopReplica r1) text h k = absurd (let e = repeat_second s0 n0 text _ 116 _ h (op_is (codes "stop:") r1 text k) in omega (arith, e))
word_once (Times s0 n0) (StartReplica r1) text h k = absurd (let e = repeat_second s0 n0 text _ 116 _ h (op_is (codes "start:") r1 text k) in omega (arith, e))
word_once StopTool (Once s1) text h k = absurd (let e = actor_second s1 text _ 116 _ k h in omega (arith, e))
word_once StopTool (Times s1 n1) text h k = absurd (let e = repeat_second s1 n1 text _ 116 _ k h in omega (arith, e))
word_once StopTool StopTool text h k = refl
word_once StopTool ResumeTool text h k = absurd (let e : 115 ≡ 114 = ap (letter_at 0) (sym h ∙ k) in omega (arith, e))
word_once StopTool (StopReplica r1) text h k = absurd (let e : 99 ≡ 114 = ap (letter_at 5) (sym h ∙ (op_is (codes "stop:") r1 text k)) in omega (arith, e))
word_once StopTool (StartReplica r1) text h k = absurd (let e : 111 ≡ 97 = ap (letter_at 2) (sym h ∙ (op_is (codes "start:") r1 text k)) in omega (arith, e))
word_once ResumeTool (Once s1) text h k = absurd (let e = actor_second s1 text _ 101 _ k h in omega (arith, e))
word_once ResumeTool (Times s1 n1) text h k = absurd (let e = repeat_second s1 n1 text _ 101 _ k h in omega (arith, e))
word_once ResumeTool StopTool text h k = absurd (let e : 114 ≡ 115 = ap (letter_at 0) (sym h ∙ k) in omega (arith, e))
word_once ResumeTool ResumeTool text h k = refl
word_once ResumeTool (StopReplica r1) text h k = absurd (let e : 114 ≡ 115 = ap (letter_at 0) (sym h ∙ (op_is (codes "stop:") r1 text k)) in omega (arith, e))
word_once ResumeTool (StartReplica r1) text h k = absurd (let e : 114 ≡ 115 = ap (letter_at 0) (sym h ∙ (op_is (codes "start:") r1 text k)) in omega (arith, e))
word_once (StopReplica r0) (Once s1) text h k = absurd (let e = actor_second s1 text _ 116 _ k (op_is (codes "stop:") r0 text h) in omega (arith, e))
word_once (StopReplica r0) (Times s1 n1) text h k = absurd (let e = repeat_second s1 n1 text _ 116 _ k (op_is (codes "stop:") r0 text h) in omega (arith, e))
word_once (StopReplica r0) StopTool text h k = absurd (let e : 114 ≡ 99 = ap (letter_at 5) (sym (op_is (codes "stop:") r0 text h) ∙ k) in omega (arith, e))
word_once (StopReplica r0) ResumeTool text h k = absurd (let e : 115 ≡ 114 = ap (letter_at 0) (sym (op_is (codes "stop:") r0 text h) ∙ k) in omega (arith, e))
word_once (StopReplica r0) (StopReplica r1) text h k = let a = sym (op_is (codes "stop:") r0 text h) ∙ op_is (codes "stop:") r1 text k in ap StopReplica (decimal_once r0 r1 h.of.digits k.of.digits (let e : h.of.digits ≡ k.of.digits = ap (drop 6) a in e) h.of.number k.of.number)
word_once (StopReplica r0) (StartReplica r1) text h k = absurd (let e : 111 ≡ 97 = ap (letter_at 2) (sym (op_is (codes "stop:") r0 text h) ∙ (op_is (codes "start:") r1 text k)) in omega (arith, e))
word_once (StartReplica r0) (Once s1) text h k = absurd (let e = actor_second s1 text _ 116 _ k (op_is (codes "start:") r0 text h) in omega (arith, e))
word_once (StartReplica r0) (Times s1 n1) text h k = absurd (let e = repeat_second s1 n1 text _ 116 _ k (op_is (codes "start:") r0 text h) in omega (arith, e))
word_once (StartReplica r0) StopTool text h k = absurd (let e : 97 ≡ 111 = ap (letter_at 2) (sym (op_is (codes "start:") r0 text h) ∙ k) in omega (arith, e))
word_once (StartReplica r0) ResumeTool text h k = absurd (let e : 115 ≡ 114 = ap (letter_at 0) (sym (op_is (codes "start:") r0 text h) ∙ k) in omega (arith, e))
word_once (StartReplica r0) (StopReplica r1) text h k = absurd (let e : 97 ≡ 111 = ap (letter_at 2) (sym (op_is (codes "start:") r0 text h) ∙ (op_is (codes "stop:") r1 text k)) in omega (arith, e))
word_once (StartReplica r0) (StartReplica r1) text h k = let a = sym (op_is (codes "start:") r0 text h) ∙ op_is (codes "start:") r1 text k in ap StartReplica (decimal_once r0 r1 h.of.digits k.of.digits (let e : h.of.digits ≡ k.of.digits = ap (drop 7) a in e) h.of.number k.of.number)

pub node_once : (m n : Node) (text : List ℕ) → IsNode m text → IsNode n text → m ≡ n
node_once All All text h k = refl
node_once All Source text h k = absurd (let e : 42 ≡ 115 = ap (letter_at 0) (sym h ∙ k) in omega (arith, e))
node_once All (Replica n) text h k = absurd (let e : 42 ≡ 114 = ap (letter_at 0) (sym h ∙ k.is) in omega (arith, e))
node_once Source All text h k = absurd (let e : 115 ≡ 42 = ap (letter_at 0) (sym h ∙ k) in omega (arith, e))
node_once Source Source text h k = refl
node_once Source (Replica n) text h k = absurd (let e : 115 ≡ 114 = ap (letter_at 0) (sym h ∙ k.is) in omega (arith, e))
node_once (Replica m) All text h k = absurd (let e : 114 ≡ 42 = ap (letter_at 0) (sym h.is ∙ k) in omega (arith, e))
node_once (Replica m) Source text h k = absurd (let e : 114 ≡ 115 = ap (letter_at 0) (sym h.is ∙ k) in omega (arith, e))
node_once (Replica m) (Replica n) text h k = ap Replica (led_once 114 m n text h k)
