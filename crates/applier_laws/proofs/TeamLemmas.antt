-- What always holds of a replica's workers, and that it holds after what changes one of them, or none.
use Rattle.std.proofs.Common.{◌≡◌, ◌≢◌, ◌∙◌, ◌⊎◌, inl, inr, ℕ, ◌+◌, ◌-◌, ◌<◌, false, List, [], ◌∷◌, ◌++◌, Option, None, Some, length, refl, ap, sym, subst, arith}
use Rattle.std.specs.Prelude.{slice_set}
use Rattle.std.specs.List.{AllByRecursion, slice_get}
use Rattle.ptc_statement.specs.declared.statements.Statement.{Statement}
use Rattle.statement_log.specs.declared.entries.Entry.{Entry}
use Rattle.history.specs.Replay.{Follows, applied_of}
use Rattle.history.proofs.ReplayLemmas.{follows_longer_log, slice_get-append}
use Rattle.lock_table.proofs.HoldLemmas.{same_or_apart}
use Rattle.node_model.specs.declared.parts.Part.TheVariants.{Apply}
use Rattle.node_model.specs.declared.txns.Walk.{Walk}
use Rattle.node_model.specs.declared.txns.Txn.{Txn}
use Rattle.node_model.specs.Txns.{txn_of}
use Rattle.applier.specs.declared.workers.Worker.{Worker}
use Rattle.applier.specs.Appliers.{is_taken}
use Rattle.applier_laws.specs.Follows.{AreLogged}
use Rattle.applier_laws.proofs.ListLemmas.{got_within, set_same, set_other, set_length, not_taken}
use Rattle.applier_laws.proofs.TxnLemmas.{Passes, IsOutside, OfClients, OthersFit, worker_apart, passed_fits, all_more}

-- what a worker has done

-- the statements done, the one in progress and the rest are the entry's
pub record UpTo (statements : List Statement) (started : ℕ) (done : List Statement) (statement : Statement) : Type 0 where
  pub rest : List Statement
  pub whole : done ++ statement ∷ rest ≡ statements
  pub count : started ≡ length done + 1

abbrev pub DoneSoFar : List Statement → ℕ → List Statement → Option Walk → Type 0
DoneSoFar statements started done None = done ≡ statements
DoneSoFar statements started done (Some walk) = UpTo statements started done walk.statement

pub record IsApplying (number : ℕ) (statements : List Statement) (started : ℕ) (txn : Txn) : Type 0 where
  pub part : txn.part ≡ Apply number
  pub so_far : DoneSoFar statements started txn.done txn.current

-- a transaction that a deadlock ended is begun again later
abbrev pub Doing : ℕ → List Statement → ℕ → Option Txn → Type 0
Doing number statements started None = Unit {0}
Doing number statements started (Some txn) = IsApplying number statements started txn

pub record HasEntry (log : List Entry) (applied number started : ℕ) (txn : Option Txn) : Type 0 where
  pub later : applied < number
  pub entry : Entry
  pub found : slice_get log (number - 1) ≡ Some entry
  pub doing : Doing number entry.statements started txn

abbrev pub Works : List Entry → ℕ → Option ℕ → ℕ → Option Txn → Type 0
Works log applied None started txn = txn ≡ None
Works log applied (Some number) started txn = HasEntry log applied number started txn

abbrev pub WorksAt : List Entry → List Entry → List Txn → Worker → Type 0
WorksAt log history txns worker = Works log (applied_of history) worker.entry worker.started (txn_of worker.owner.0 txns)

-- a log, and a replica's history, workers and open transactions
pub record Holds (count : ℕ) (log history : List Entry) (workers : List Worker) (txns : List Txn) : Type 0 where
  pub logged : AllByRecursion AreLogged log
  pub follows : Follows log history
  pub many : length workers ≡ count
  pub owners : (place : ℕ) (worker : Worker) → slice_get workers place ≡ Some worker → worker.owner.0 ≡ 201 + place
  pub works : (place : ℕ) (worker : Worker) → slice_get workers place ≡ Some worker → WorksAt log history txns worker
  -- no two workers have one entry
  pub apart : (p q : ℕ) (a b : Worker) (number : ℕ) → p ≢ q → slice_get workers p ≡ Some a → slice_get workers q ≡ Some b → a.entry ≡ Some number → b.entry ≡ Some number → ⊥
  pub others : OthersFit count txns

doing_on : (number : ℕ) (statements : List Statement) (started : ℕ) (old new : Option Txn) → (new ≡ old) ⊎ (new ≡ None) → Doing number statements started old → Doing number statements started new
doing_on number statements started old new (inl same) doing = subst (Doing number statements started) (sym same) doing
doing_on number statements started old new (inr gone) doing = subst (Doing number statements started) (sym gone) tt

gone_on : (old new : Option Txn) → (new ≡ old) ⊎ (new ≡ None) → old ≡ None → new ≡ None
gone_on old new (inl same) none = same ∙ none
gone_on old new (inr gone) none = gone

-- a worker that did not move
pub works_on : (log : List Entry) (applied after : ℕ) (entry : Option ℕ) (started : ℕ) (old new : Option Txn) → ((n : ℕ) → entry ≡ Some n → applied < n → after < n) → (new ≡ old) ⊎ (new ≡ None)
    → Works log applied entry started old → Works log after entry started new
works_on log applied after None started old new later or works = gone_on old new or works
works_on log applied after (Some number) started old new later or works = record {
  later = later number refl works.later;
  entry = works.entry;
  found = works.found;
  doing = doing_on number works.entry.statements started old new or works.doing;
}

-- a worker moves

pub record Steps (log history : List Entry) (workers : List Worker) (txns : List Txn) (worker new : Worker) (after : List Entry) (left : List Txn) : Type 0 where
  pub owner : new.owner.0 ≡ worker.owner.0
  pub passes : Passes worker.owner.0 txns left
  pub works : Works log (applied_of after) new.entry new.started (txn_of worker.owner.0 left)
  pub follows : Follows log after
  -- what is applied is at most the worker's own entry
  pub later : (n : ℕ) → worker.entry ≢ Some n → applied_of history < n → applied_of after < n
  -- the entry that the worker has then is one that it had, or that none has
  pub free : (n : ℕ) → new.entry ≡ Some n → (worker.entry ≡ Some n) ⊎ (is_taken n workers ≡ false)

some_worker : (a b : Worker) → Some a ≡ Some b → a ≡ b
some_worker a b e = cc

-- what holds of the one that moved and of the others holds of all
set_each : (P : ℕ → Worker → Type 0) (workers : List Worker) (place : ℕ) (worker new : Worker) → slice_get workers place ≡ Some worker → P place new
    → ((p : ℕ) (w : Worker) → p ≢ place → slice_get workers p ≡ Some w → P p w)
    → (p : ℕ) (w : Worker) → slice_get (slice_set workers place new) p ≡ Some w → P p w
set_each P workers place worker new here own others p w found = at (same_or_apart p place)
  where
    at : (p ≡ place) ⊎ (p ≢ place) → P p w
    at (inl same) =
        let is : new ≡ w = some_worker new w (sym (set_same workers place worker new here) ∙ ap (slice_get (slice_set workers place new)) (sym same) ∙ found) in
        subst (λ (n : ℕ). P n w) (sym same) (subst (P place) is own)
    at (inr apart) = others p w apart (sym (set_other workers place p new apart) ∙ found)

pub stepped_holds : (count : ℕ) (log history : List Entry) (workers : List Worker) (txns : List Txn) (place : ℕ) (worker new : Worker) (after : List Entry) (left : List Txn)
    → Holds count log history workers txns → slice_get workers place ≡ Some worker → Steps log history workers txns worker new after left
    → Holds count log after (slice_set workers place new) left
stepped_holds count log history workers txns place worker new after left h here s = record {
  logged = h.logged;
  follows = s.follows;
  many = set_length workers place new ∙ h.many;
  owners = set_each (λ p w. w.owner.0 ≡ 201 + p) workers place worker new here (s.owner ∙ own) (λ p w apart found. h.owners p w found);
  works = set_each (λ p w. WorksAt log after left w) workers place worker new here
      (subst (λ (o : ℕ). Works log (applied_of after) new.entry new.started (txn_of o left)) (sym s.owner) s.works)
      (λ p w apart found. works_on log (applied_of history) (applied_of after) w.entry w.started (txn_of w.owner.0 txns) (txn_of w.owner.0 left)
      (λ n has. s.later n (λ mine. h.apart p place w worker n apart found here has mine)) (s.passes w.owner.0 (elsewhere p w apart found)) (h.works p w found));
  apart = λ p q a b number away a_at b_at a_has b_has. each_apart p a a_at q b number away b_at a_has b_has;
  others = passed_fits count worker.owner.0 txns left h.others s.passes (λ txn outside found. absurd (worker_apart count place worker.owner.0 within outside own));
}
  where
    own : worker.owner.0 ≡ 201 + place
    own = h.owners place worker here

    within : place < count
    within = let w = got_within workers place worker here in omega (arith, w, h.many)

    elsewhere : (p : ℕ) (w : Worker) → p ≢ place → slice_get workers p ≡ Some w → w.owner.0 ≢ worker.owner.0
    elsewhere p w apart found same =
        let theirs = h.owners p w found in
        apart (omega (arith, theirs, own, same))

    mine_not : (q : ℕ) (b : Worker) (number : ℕ) → q ≢ place → slice_get workers q ≡ Some b → new.entry ≡ Some number → b.entry ≡ Some number → ⊥
    mine_not q b number apart found has had = at (s.free number has)
      where
        at : (worker.entry ≡ Some number) ⊎ (is_taken number workers ≡ false) → ⊥
        at (inl kept) = h.apart q place b worker number apart found here had kept
        at (inr free) = not_taken number workers q b free found had

    mine : (q : ℕ) (b : Worker) (number : ℕ) → place ≢ q → slice_get (slice_set workers place new) q ≡ Some b → new.entry ≡ Some number → b.entry ≡ Some number → ⊥
    mine q b number apart found has had =
        mine_not q b number (λ e. apart (sym e)) (sym (set_other workers place q new (λ e. apart (sym e))) ∙ found) has had

    theirs : (p : ℕ) (a : Worker) → p ≢ place → slice_get workers p ≡ Some a
        → (q : ℕ) (b : Worker) (number : ℕ) → p ≢ q → slice_get (slice_set workers place new) q ≡ Some b → a.entry ≡ Some number → b.entry ≡ Some number → ⊥
    theirs p a away found q b number apart other has had =
        set_each (λ r c. p ≢ r → c.entry ≡ Some number → ⊥) workers place worker new here
        (λ not_here new_has. mine_not p a number away found new_has has)
        (λ r c not_place got not_p c_has. h.apart p r a c number not_p found got has c_has)
        q b other apart had

    each_apart : (p : ℕ) (a : Worker) → slice_get (slice_set workers place new) p ≡ Some a
        → (q : ℕ) (b : Worker) (number : ℕ) → p ≢ q → slice_get (slice_set workers place new) q ≡ Some b → a.entry ≡ Some number → b.entry ≡ Some number → ⊥
    each_apart = set_each (λ p a. (q : ℕ) (b : Worker) (number : ℕ) → p ≢ q → slice_get (slice_set workers place new) q ≡ Some b → a.entry ≡ Some number → b.entry ≡ Some number → ⊥)
        workers place worker new here mine theirs

-- a local session's call

pub record Leaves (count : ℕ) (log history : List Entry) (txns : List Txn) (after : List Entry) (left : List Txn) : Type 0 where
  pub mover : ℕ
  pub outside : IsOutside count mover
  pub passes : Passes mover txns left
  pub own : (txn : Txn) → txn_of mover left ≡ Some txn → OfClients txn
  pub follows : Follows log after
  pub applied : applied_of after ≡ applied_of history

pub left_holds : (count : ℕ) (log history : List Entry) (workers : List Worker) (txns : List Txn) (after : List Entry) (left : List Txn)
    → Holds count log history workers txns → Leaves count log history txns after left → Holds count log after workers left
left_holds count log history workers txns after left h l = record {
  logged = h.logged;
  follows = l.follows;
  many = h.many;
  owners = h.owners;
  works = λ p w found.
      works_on log (applied_of history) (applied_of after) w.entry w.started (txn_of w.owner.0 txns) (txn_of w.owner.0 left)
      (λ n has less. subst (λ (a : ℕ). a < n) (sym l.applied) less) (l.passes w.owner.0 (elsewhere p w found)) (h.works p w found);
  apart = h.apart;
  others = passed_fits count l.mover txns left h.others l.passes (λ txn outside found. l.own txn found);
}
  where
    elsewhere : (p : ℕ) (w : Worker) → slice_get workers p ≡ Some w → w.owner.0 ≢ l.mover
    elsewhere p w found same =
        let got = got_within workers p w found in
        let within : p < count = omega (arith, got, h.many) in
        worker_apart count p l.mover within l.outside (sym same ∙ h.owners p w found)

-- the source's log gets one more entry

longer_works : (log : List Entry) (more : Entry) (applied : ℕ) (entry : Option ℕ) (started : ℕ) (txn : Option Txn) → Works log applied entry started txn → Works (log ++ more ∷ []) applied entry started txn
longer_works log more applied None started txn works = works
longer_works log more applied (Some number) started txn works = record {
  later = works.later;
  entry = works.entry;
  found = slice_get-append log (more ∷ []) (number - 1) works.entry works.found;
  doing = works.doing;
}

pub logged_holds : (count : ℕ) (log history : List Entry) (workers : List Worker) (txns : List Txn) (entry : Entry)
    → Holds count log history workers txns → AreLogged entry → Holds count (log ++ entry ∷ []) history workers txns
logged_holds count log history workers txns entry h logged = record {
  logged = all_more AreLogged log entry h.logged logged;
  follows = follows_longer_log log (entry ∷ []) history h.follows;
  many = h.many;
  owners = h.owners;
  works = λ p w found. longer_works log entry (applied_of history) w.entry w.started (txn_of w.owner.0 txns) (h.works p w found);
  apart = h.apart;
  others = h.others;
}
