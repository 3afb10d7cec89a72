-- The word of an actor, letter by letter.
use Rattle.std.proofs.Common.{◌≡◌, ◌≢◌, ◌-◌, ◌^◌, ℕ, zero, suc, Bool, true, false, List, [], ◌∷◌, ◌++◌, length, min, refl, sym, ap, subst, ◌∙◌, arith}
use Rattle.std.proofs.lemmas.Bool.Decides.{nat_tests}
use Rattle.std.specs.Char.{is_ascii_digit}
use Rattle.file_text.specs.Said.{Turn, OfSession, OfTool, OfSync, OfWorker, OfFurtherWorker, OfLocal, IsTurn, IsDecimal, IsLed, IsFurther, IsLocal}
use Rattle.line_words.specs.declared.actors.ActorWord.{ActorWord}
use Rattle.line_words.specs.declared.actors.ActorWord.TheVariants.{Session, Tool, Sync, Worker, FurtherWorker, Local}
use Rattle.line_words.specs.Numbers.{Capped, StopsDigits, DecimalCut, NoDecimalCut}
use Rattle.line_words.specs.Actors.{kept, kept_turn, IsActorWord, NoActor, BehindPoint, OfNumber, OfSessionNumber, NothingBehindPoint}
use Rattle.line_words.proofs.NumberLemmas.{text_cut, empty, tails, heads}

abbrev letter_of : Turn → ℕ
letter_of (OfSession session) = 115
letter_of OfTool = 99
letter_of (OfSync replica) = 121
letter_of (OfWorker replica) = 114
letter_of (OfFurtherWorker replica worker) = 114
letter_of (OfLocal replica session) = 114

record Begins (letter : ℕ) (text : List ℕ) : Type 0 where
  rest : List ℕ
  is : text ≡ letter ∷ rest

begins : (turn : Turn) (text : List ℕ) → IsTurn turn text → Begins (letter_of turn) text
begins (OfSession session) text h = record { rest = h.digits; is = h.is }
begins OfTool text h = record { rest = []; is = h }
begins (OfSync replica) text h = record { rest = h.digits; is = h.is }
begins (OfWorker replica) text h = record { rest = h.digits; is = h.is }
begins (OfFurtherWorker replica worker) text h = record { rest = h.front ++ 46 ∷ h.back; is = h.is }
begins (OfLocal replica session) text h = record { rest = h.front ++ 46 ∷ (108 ∷ h.back); is = h.is }

letter_is : (turn : Turn) (byte : ℕ) (more : List ℕ) → IsTurn turn (byte ∷ more) → letter_of turn ≡ byte
letter_is turn byte more h = let b = begins turn (byte ∷ more) h in sym (heads byte (letter_of turn) more b.rest b.is)

pub no_letter : (text : List ℕ) → length text ≡ 0 → NoActor text
no_letter text e turn h = let b = begins turn text h in let l : length text ≡ suc (length b.rest) = ap length b.is in omega (arith, e, l)

pub other_letter : (byte : ℕ) (more : List ℕ) → (byte ≡ 115 → ⊥) → (byte ≡ 99 → ⊥) → (byte ≡ 121 → ⊥) → (byte ≡ 114 → ⊥) → NoActor (byte ∷ more)
other_letter byte more s c y r (OfSession session) h = s (sym (letter_is (OfSession session) byte more h))
other_letter byte more s c y r OfTool h = c (sym (letter_is OfTool byte more h))
other_letter byte more s c y r (OfSync replica) h = y (sym (letter_is (OfSync replica) byte more h))
other_letter byte more s c y r (OfWorker replica) h = r (sym (letter_is (OfWorker replica) byte more h))
other_letter byte more s c y r (OfFurtherWorker replica worker) h = r (sym (letter_is (OfFurtherWorker replica worker) byte more h))
other_letter byte more s c y r (OfLocal replica session) h = r (sym (letter_is (OfLocal replica session) byte more h))

led : (letter n : ℕ) (more : List ℕ) → IsDecimal n more → IsLed letter n (letter ∷ more)
led letter n more d = record { digits = more; is = refl; number = d }

led_back : (letter n : ℕ) (more : List ℕ) → IsLed letter n (letter ∷ more) → IsDecimal n more
led_back letter n more h = subst (IsDecimal n) (sym (tails letter letter more h.digits h.is)) h.number

not_this : (turn : Turn) (letter : ℕ) (more : List ℕ) → IsTurn turn (letter ∷ more) → (letter_of turn ≡ letter → ⊥) → ⊥
not_this turn letter more h other = other (letter_is turn letter more h)

-- ---- sessions, the tool, repairs

pub is_session : (more : List ℕ) (found : ℕ) → Capped (λ (n : ℕ). IsDecimal n more) found → IsActorWord (115 ∷ more) (Session found)
is_session more found c = record { turn = OfSession c.number; is = led 115 c.number more c.is; kept = ap Session c.capped }

pub no_session : (more : List ℕ) → ((n : ℕ) → IsDecimal n more → ⊥) → NoActor (115 ∷ more)
no_session more none (OfSession n) h = none n (led_back 115 n more h)
no_session more none OfTool h = not_this OfTool 115 more h (λ e. omega (arith, e))
no_session more none (OfSync r) h = not_this (OfSync r) 115 more h (λ e. omega (arith, e))
no_session more none (OfWorker r) h = not_this (OfWorker r) 115 more h (λ e. omega (arith, e))
no_session more none (OfFurtherWorker r w) h = not_this (OfFurtherWorker r w) 115 more h (λ e. omega (arith, e))
no_session more none (OfLocal r s) h = not_this (OfLocal r s) 115 more h (λ e. omega (arith, e))

pub is_tool : (more : List ℕ) → length more ≡ 0 → IsActorWord (99 ∷ more) Tool
is_tool more e = record { turn = OfTool; is = ap (λ (xs : List ℕ). 99 ∷ xs) (empty more e); kept = refl }

pub no_tool : (more : List ℕ) → (length more ≡ 0 → ⊥) → NoActor (99 ∷ more)
no_tool more some (OfSession n) h = not_this (OfSession n) 99 more h (λ e. omega (arith, e))
no_tool more some OfTool h = some (ap length (tails 99 99 more [] h))
no_tool more some (OfSync r) h = not_this (OfSync r) 99 more h (λ e. omega (arith, e))
no_tool more some (OfWorker r) h = not_this (OfWorker r) 99 more h (λ e. omega (arith, e))
no_tool more some (OfFurtherWorker r w) h = not_this (OfFurtherWorker r w) 99 more h (λ e. omega (arith, e))
no_tool more some (OfLocal r s) h = not_this (OfLocal r s) 99 more h (λ e. omega (arith, e))

pub is_sync : (more : List ℕ) (found : ℕ) → Capped (λ (n : ℕ). IsDecimal n more) found → IsActorWord (121 ∷ more) (Sync found)
is_sync more found c = record { turn = OfSync c.number; is = led 121 c.number more c.is; kept = ap Sync c.capped }

pub no_sync : (more : List ℕ) → ((n : ℕ) → IsDecimal n more → ⊥) → NoActor (121 ∷ more)
no_sync more none (OfSession n) h = not_this (OfSession n) 121 more h (λ e. omega (arith, e))
no_sync more none OfTool h = not_this OfTool 121 more h (λ e. omega (arith, e))
no_sync more none (OfSync r) h = none r (led_back 121 r more h)
no_sync more none (OfWorker r) h = not_this (OfWorker r) 121 more h (λ e. omega (arith, e))
no_sync more none (OfFurtherWorker r w) h = not_this (OfFurtherWorker r w) 121 more h (λ e. omega (arith, e))
no_sync more none (OfLocal r s) h = not_this (OfLocal r s) 121 more h (λ e. omega (arith, e))

-- ---- replicas

-- the number behind `r`, and what stands behind its digits
record ReplicaCut (more front rest : List ℕ) : Type 0 where
  are : more ≡ front ++ rest
  number : ℕ
  is : IsDecimal number front
  stops : StopsDigits rest

point_stops : (back : List ℕ) → StopsDigits (46 ∷ back)
point_stops back = refl

abbrev further_cut : (r w : ℕ) (more : List ℕ) → (h : IsFurther r w (114 ∷ more)) → ReplicaCut more h.front (46 ∷ h.back)
further_cut r w more h = record { are = tails 114 114 more (h.front ++ 46 ∷ h.back) h.is; number = r; is = h.first; stops = point_stops h.back }

abbrev local_cut : (r s : ℕ) (more : List ℕ) → (h : IsLocal r s (114 ∷ more)) → ReplicaCut more h.front (46 ∷ (108 ∷ h.back))
local_cut r s more h = record { are = tails 114 114 more (h.front ++ 46 ∷ (108 ∷ h.back)) h.is; number = r; is = h.first; stops = point_stops (108 ∷ h.back) }

append_nothing : (xs : List ℕ) → xs ≡ xs ++ []
append_nothing [] = refl
append_nothing (x ∷ xs) = ap (λ (ys : List ℕ). x ∷ ys) (append_nothing xs)

abbrev worker_cut : (r : ℕ) (more : List ℕ) → IsLed 114 r (114 ∷ more) → ReplicaCut more more []
worker_cut r more h = record { are = append_nothing more; number = r; is = led_back 114 r more h; stops = tt }

-- the number behind `r` is cut off in one way
same_rest : (more front rest left : List ℕ) (found : ℕ) → ReplicaCut more front rest → DecimalCut found more left → rest ≡ left
same_rest more front rest left found r c =
    let a = text_cut more front rest r.are r.is.digits.digits r.stops in
    let b = text_cut more c.front left c.are c.number.is.digits.digits c.stops in a.rest_is ∙ sym b.rest_is

pub no_replica : (more : List ℕ) → NoDecimalCut more → NoActor (114 ∷ more)
no_replica more none (OfSession n) h = not_this (OfSession n) 114 more h (λ e. omega (arith, e))
no_replica more none OfTool h = not_this OfTool 114 more h (λ e. omega (arith, e))
no_replica more none (OfSync r) h = not_this (OfSync r) 114 more h (λ e. omega (arith, e))
no_replica more none (OfWorker r) h = let c = worker_cut r more h in none more [] r c.are c.stops c.is
no_replica more none (OfFurtherWorker r w) h = let c = further_cut r w more h in none h.front (46 ∷ h.back) r c.are c.stops c.is
no_replica more none (OfLocal r s) h = let c = local_cut r s more h in none h.front (46 ∷ (108 ∷ h.back)) r c.are c.stops c.is

pub is_worker : (more rest : List ℕ) (found : ℕ) → DecimalCut found more rest → length rest ≡ 0 → IsActorWord (114 ∷ more) (Worker found)
is_worker more rest found c e =
    let whole : more ≡ c.front = c.are ∙ ap (λ (xs : List ℕ). c.front ++ xs) (empty rest e) ∙ sym (append_nothing c.front) in
    record { turn = OfWorker c.number.number; is = led 114 c.number.number more (subst (IsDecimal c.number.number) (sym whole) c.number.is); kept = ap Worker c.number.capped }

no_cons : (byte : ℕ) (back : List ℕ) → [] ≡ byte ∷ back → ⊥
no_cons byte back e = cc

pub other_point : (more rest back : List ℕ) (byte found : ℕ) → DecimalCut found more rest → rest ≡ byte ∷ back → (byte ≡ 46 → ⊥) → NoActor (114 ∷ more)
other_point more rest back byte found c e other (OfSession n) h = not_this (OfSession n) 114 more h (λ e. omega (arith, e))
other_point more rest back byte found c e other OfTool h = not_this OfTool 114 more h (λ e. omega (arith, e))
other_point more rest back byte found c e other (OfSync r) h = not_this (OfSync r) 114 more h (λ e. omega (arith, e))
other_point more rest back byte found c e other (OfWorker r) h = no_cons byte back (same_rest more more [] rest found (worker_cut r more h) c ∙ e)
other_point more rest back byte found c e other (OfFurtherWorker r w) h = other (sym (heads 46 byte h.back back (same_rest more h.front (46 ∷ h.back) rest found (further_cut r w more h) c ∙ e)))
other_point more rest back byte found c e other (OfLocal r s) h = other (sym (heads 46 byte (108 ∷ h.back) back (same_rest more h.front (46 ∷ (108 ∷ h.back)) rest found (local_cut r s more h) c ∙ e)))

pub is_behind_point : (more rest back : List ℕ) (byte found : ℕ) (word : ActorWord) → DecimalCut found more rest → rest ≡ byte ∷ back → byte ≡ 46 → BehindPoint found back word → IsActorWord (114 ∷ more) word
is_behind_point more rest back byte found word c e p (OfNumber n d is) =
    let rest_is : rest ≡ 46 ∷ back = e ∙ ap (λ (b : ℕ). b ∷ back) p in
    record {
      turn = OfFurtherWorker c.number.number d.number;
      is = record { front = c.front; back = back; is = ap (λ (xs : List ℕ). 114 ∷ xs) (c.are ∙ ap (λ (xs : List ℕ). c.front ++ xs) rest_is); first = c.number.is; second = d.is };
      kept = is ∙ ap (λ (r : ℕ). FurtherWorker r n) c.number.capped ∙ ap (FurtherWorker (kept c.number.number)) d.capped;
    }
is_behind_point more rest back byte found word c e p (OfSessionNumber left n back_is d is) =
    let rest_is : rest ≡ 46 ∷ (108 ∷ left) = e ∙ ap (λ (b : ℕ). b ∷ back) p ∙ ap (λ (xs : List ℕ). 46 ∷ xs) back_is in
    record {
      turn = OfLocal c.number.number d.number;
      is = record { front = c.front; back = left; is = ap (λ (xs : List ℕ). 114 ∷ xs) (c.are ∙ ap (λ (xs : List ℕ). c.front ++ xs) rest_is); first = c.number.is; second = d.is };
      kept = is ∙ ap (λ (r : ℕ). Local r n) c.number.capped ∙ ap (Local (kept c.number.number)) d.capped;
    }

pub nothing_behind_point : (more rest back : List ℕ) (byte found : ℕ) → DecimalCut found more rest → rest ≡ byte ∷ back → NothingBehindPoint back → NoActor (114 ∷ more)
nothing_behind_point more rest back byte found c e none (OfSession n) h = not_this (OfSession n) 114 more h (λ e. omega (arith, e))
nothing_behind_point more rest back byte found c e none OfTool h = not_this OfTool 114 more h (λ e. omega (arith, e))
nothing_behind_point more rest back byte found c e none (OfSync r) h = not_this (OfSync r) 114 more h (λ e. omega (arith, e))
nothing_behind_point more rest back byte found c e none (OfWorker r) h = no_cons byte back (same_rest more more [] rest found (worker_cut r more h) c ∙ e)
nothing_behind_point more rest back byte found c e none (OfFurtherWorker r w) h =
    let b = tails 46 byte h.back back (same_rest more h.front (46 ∷ h.back) rest found (further_cut r w more h) c ∙ e) in none.no_number w (subst (IsDecimal w) b h.second)
nothing_behind_point more rest back byte found c e none (OfLocal r s) h =
    let b = tails 46 byte (108 ∷ h.back) back (same_rest more h.front (46 ∷ (108 ∷ h.back)) rest found (local_cut r s more h) c ∙ e) in none.no_session h.back s (sym b) h.second

-- ---- behind the point

pub nothing_left : (back : List ℕ) → length back ≡ 0 → NothingBehindPoint back
nothing_left back e = record {
  no_number = λ n d. d.digits.some (empty back e);
  no_session = λ more n is d. let l : length back ≡ suc (length more) = ap length is in omega (arith, e, l);
}

pub is_local : (replica byte found : ℕ) (back more : List ℕ) → back ≡ byte ∷ more → byte ≡ 108 → Capped (λ (n : ℕ). IsDecimal n more) found → BehindPoint replica back (Local replica found)
is_local replica byte found back more e l c = OfSessionNumber more found (e ∙ ap (λ (b : ℕ). b ∷ more) l) c refl

letter_no_digit : (more : List ℕ) (n : ℕ) → IsDecimal n (108 ∷ more) → ⊥
letter_no_digit more n d = no (is_ascii_digit 108) d.digits.digits.0 refl
  where
    no : (b : Bool) → b ≡ true → b ≡ false → ⊥
    no b p q = cc

pub no_local : (byte : ℕ) (back more : List ℕ) → back ≡ byte ∷ more → byte ≡ 108 → ((n : ℕ) → IsDecimal n more → ⊥) → NothingBehindPoint back
no_local byte back more e l none = record {
  no_number = λ n d. letter_no_digit more n (subst (IsDecimal n) (e ∙ ap (λ (b : ℕ). b ∷ more) l) d);
  no_session = λ left n is d. none n (subst (IsDecimal n) (tails 108 byte left more (sym is ∙ e)) d);
}

pub is_further : (replica found : ℕ) (back : List ℕ) → Capped (λ (n : ℕ). IsDecimal n back) found → BehindPoint replica back (FurtherWorker replica found)
is_further replica found back c = OfNumber found c refl

pub no_further : (byte : ℕ) (back more : List ℕ) → back ≡ byte ∷ more → (byte ≡ 108 → ⊥) → ((n : ℕ) → IsDecimal n back → ⊥) → NothingBehindPoint back
no_further byte back more e other none = record {
  no_number = none;
  no_session = λ left n is d. other (heads byte 108 more left (sym e ∙ is));
}
