-- Workers at their places, the entry that is left to take, and the statements of an entry.
use Rattle.std.proofs.Common.{◌≡◌, ◌≢◌, ◌∙◌, ℕ, zero, suc, ◌+◌, ◌-◌, ◌<◌, ◌≤◌, ◌||◌, if◌then◌else◌, Bool, true, false, cond, filter, List, [], ◌∷◌, ◌++◌, Option, None, Some, length, refl, ap, sym, subst, arith}
use Rattle.std.specs.Prelude.{slice_set}
use Rattle.std.specs.List.{AllByRecursion, slice_get}
use Rattle.ptc_statement.specs.declared.statements.Statement.{Statement}
use Rattle.statement_log.specs.declared.entries.Entry.{Entry}
use Rattle.statement_log.specs.Positions.{entry_at}
use Rattle.lock_table.proofs.HoldLemmas.{is_number, other_number}
use Rattle.applier.specs.declared.workers.Worker.{Worker}
use Rattle.applier.specs.Appliers.{new_worker, new_workers, is_number as has_number, is_taken, first_left, entry_left}

-- one place of a list

pub record IsAt {A : Type 0} (xs : List A) (place : ℕ) : Type 0 where
  pub item : A
  pub found : slice_get xs place ≡ Some item

pub is_at : {A : Type 0} (xs : List A) (place : ℕ) → place < length xs → IsAt xs place
is_at [] place within = absurd (omega (arith, within))
is_at (x ∷ xs) zero within = record { item = x; found = refl }
is_at (x ∷ xs) (suc place) within =
    let more = is_at xs place (omega (arith, within)) in
    record { item = more.item; found = more.found }

pub got_within : {A : Type 0} (xs : List A) (place : ℕ) (x : A) → slice_get xs place ≡ Some x → place < length xs
got_within [] place x found = absurd (let q : None ≡ Some x = found in cc)
got_within (y ∷ xs) zero x found = omega arith
got_within (y ∷ xs) (suc place) x found = let more = got_within xs place x found in omega (arith, more)

pub set_same : {A : Type 0} (xs : List A) (place : ℕ) (old new : A) → slice_get xs place ≡ Some old → slice_get (slice_set xs place new) place ≡ Some new
set_same [] place old new found = absurd (let q : None ≡ Some old = found in cc)
set_same (x ∷ xs) zero old new found = refl
set_same (x ∷ xs) (suc place) old new found = set_same xs place old new found

pub set_other : {A : Type 0} (xs : List A) (place other : ℕ) (new : A) → other ≢ place → slice_get (slice_set xs place new) other ≡ slice_get xs other
set_other [] place other new apart = refl
set_other (x ∷ xs) zero zero new apart = absurd (apart refl)
set_other (x ∷ xs) zero (suc other) new apart = refl
set_other (x ∷ xs) (suc place) zero new apart = refl
set_other (x ∷ xs) (suc place) (suc other) new apart = set_other xs place other new (λ e. apart (ap suc e))

pub set_length : {A : Type 0} (xs : List A) (place : ℕ) (new : A) → length (slice_set xs place new) ≡ length xs
set_length [] place new = refl
set_length (x ∷ xs) zero new = refl
set_length (x ∷ xs) (suc place) new = ap suc (set_length xs place new)

-- the entry that is left to take

pub record IsLeft (number : ℕ) (from end : ℕ) (workers : List Worker) : Type 0 where
  pub least : from ≤ number
  pub most : number < end
  pub free : is_taken number workers ≡ false

some_number : (a b : ℕ) → Some a ≡ Some b → a ≡ b
some_number a b e = cc

first_is_left : (left from number : ℕ) (workers : List Worker) → first_left left from workers ≡ Some number → IsLeft number from (from + left) workers
first_is_left zero from number workers found = absurd (let q : None ≡ Some number = found in cc)
first_is_left (suc left) from number workers found = at (is_taken from workers) refl found (λ f. first_is_left left (from + 1) number workers f)
  where
    at : (b : Bool) → is_taken from workers ≡ b → cond b (first_left left (from + 1) workers) (Some from) ≡ Some number
        → (first_left left (from + 1) workers ≡ Some number → IsLeft number (from + 1) (from + 1 + left) workers) → IsLeft number from (from + suc left) workers
    at true e f more =
        let m = more f in
        record { least = omega (arith, m.least); most = omega (arith, m.most); free = m.free }
    at false e f more =
        let same : from ≡ number = some_number from number f in
        record { least = omega (arith, same); most = omega (arith, same); free = ap (λ (n : ℕ). is_taken n workers) (sym same) ∙ e }

pub left_is : (applied end number : ℕ) (workers : List Worker) → applied ≤ end → entry_left applied end workers ≡ Some number → IsLeft number (applied + 1) (end + 1) workers
left_is applied end number workers within found =
    let first = first_is_left (end - applied) (applied + 1) number workers found in
    record { least = first.least; most = omega (arith, within, first.most); free = first.free }

both_false : (a b : Bool) → (a || b) ≡ false → (a ≡ false) × (b ≡ false)
both_false true b e = absurd (let q : true ≡ false = e in cc)
both_false false b e = (refl, e)

-- no worker has an entry that is not taken
pub not_taken : (number : ℕ) (workers : List Worker) (place : ℕ) (worker : Worker) → is_taken number workers ≡ false → slice_get workers place ≡ Some worker → worker.entry ≢ Some number
not_taken number [] place worker free found has = absurd (let q : None ≡ Some worker = found in cc)
not_taken number (first ∷ workers) zero worker free found has =
    let same : first ≡ worker = cc in
    let taken : has_number number first.entry ≡ true = ap (λ (w : Worker). has_number number w.entry) same ∙ ap (has_number number) has ∙ is_number number number refl in
    absurd (let q : true ≡ false = sym taken ∙ (both_false (has_number number first.entry) (is_taken number workers) free).0 in cc)
not_taken number (first ∷ workers) (suc place) worker free found has =
    not_taken number workers place worker (both_false (has_number number first.entry) (is_taken number workers) free).1 found has

-- new workers

pub snoc_length : {A : Type 0} (xs : List A) (x : A) → length (xs ++ x ∷ []) ≡ suc (length xs)
snoc_length [] x = refl
snoc_length (y ∷ xs) x = ap suc (snoc_length xs x)

pub new_length : (count : ℕ) → length (new_workers count) ≡ count
new_length zero = refl
new_length (suc count) = snoc_length (new_workers count) (new_worker (suc count)) ∙ ap suc (new_length count)

-- of a list with one more at its end
snoc_got : {A : Type 0} (P : ℕ → A → Type 0) (xs : List A) (last : A) (place : ℕ) (x : A) → ((p : ℕ) (y : A) → slice_get xs p ≡ Some y → P p y) → P (length xs) last
    → slice_get (xs ++ last ∷ []) place ≡ Some x → P place x
snoc_got P [] last zero x each end found =
    let same : last ≡ x = cc in
    subst (P 0) same end
snoc_got P [] last (suc place) x each end found = absurd (let q : None ≡ Some x = found in cc)
snoc_got P (y ∷ xs) last zero x each end found = each 0 x found
snoc_got P (y ∷ xs) last (suc place) x each end found =
    snoc_got (λ p. P (suc p)) xs last place x (λ p z f. each (suc p) z f) end found

-- worker 1 is the first
abbrev pub IsNew : ℕ → Worker → Type 0
IsNew place worker = (worker.owner.0 ≡ 201 + place) × (worker.entry ≡ None)

pub new_is : (count place : ℕ) (worker : Worker) → slice_get (new_workers count) place ≡ Some worker → IsNew place worker
new_is zero place worker found = absurd (let q : None ≡ Some worker = found in cc)
new_is (suc count) place worker found =
    snoc_got IsNew (new_workers count) (new_worker (suc count)) place worker (λ p w f. new_is count p w f) (let n = new_length count in (omega (arith, n), refl)) found

-- the statements of an entry

abbrev pub first_of : List Statement → Option Statement
first_of [] = None
first_of (statement ∷ statements) = Some statement

pub first_got : (statements : List Statement) → slice_get statements 0 ≡ first_of statements
first_got [] = refl
first_got (statement ∷ statements) = refl

pub got_behind : (done : List Statement) (statement : Statement) (rest : List Statement) (started : ℕ) → started ≡ length done + 1 → slice_get (done ++ statement ∷ rest) started ≡ first_of rest
got_behind [] statement rest zero is = absurd (omega (arith, is))
got_behind [] statement rest (suc started) is =
    let e : started ≡ 0 = omega (arith, is) in
    ap (slice_get rest) e ∙ first_got rest
got_behind (first ∷ done) statement rest zero is = absurd (omega (arith, is))
got_behind (first ∷ done) statement rest (suc started) is = got_behind done statement rest started (omega (arith, is))

pub moved_over : (done : List Statement) (statement : Statement) (rest : List Statement) → (done ++ statement ∷ []) ++ rest ≡ done ++ statement ∷ rest
moved_over [] statement rest = refl
moved_over (first ∷ done) statement rest = ap (λ (ss : List Statement). first ∷ ss) (moved_over done statement rest)

-- the entry of a number from 1 on
pub entry_is : (log : List Entry) (number : ℕ) → number ≢ 0 → entry_at number log ≡ slice_get log (number - 1)
entry_is log number some = ap (λ (b : Bool). if b then None else slice_get log (number - 1)) (other_number number 0 some)

-- all that pass stay
pub all_kept : {A : Type 0} (test : A → Bool) (xs : List A) → AllByRecursion (λ (x : A). test x ≡ true) xs → filter test xs ≡ xs
all_kept test [] all = refl
all_kept {A} test (x ∷ xs) all = ap (λ (b : Bool). cond b (x ∷ filter test xs) (filter test xs)) all.0 ∙ ap (λ (ys : List A). x ∷ ys) (all_kept test xs all.1)
