-- What holds of a replica's workers holds after a stop, which takes their entries and ends their transactions.
use Rattle.std.proofs.Common.{◌≡◌, ◌∙◌, ◌⊎◌, inl, inr, ℕ, zero, suc, ◌+◌, Bool, true, false, cond, map, List, [], ◌∷◌, Option, None, Some, length, refl, ap, sym, subst}
use Rattle.std.specs.List.{slice_get}
use Rattle.statement_log.specs.declared.entries.Entry.{Entry}
use Rattle.history.specs.Replay.{Follows}
use Rattle.node_model.specs.Txns.{txn_of}
use Rattle.node_model.specs.Node.{NodeView, ended}
use Rattle.node_model.proofs.TxnLemmas.{txn_gone}
use Rattle.applier.specs.declared.workers.Worker.{Worker}
use Rattle.applier.specs.Appliers.{ApplierView, without_entry}
use Rattle.applier.specs.Moves.{Switched, all_ended, stop_move}
use Rattle.applier_laws.proofs.TxnLemmas.{OfClients, OthersFit, ended_each}
use Rattle.applier_laws.proofs.TeamLemmas.{WorksAt, Holds}

-- the ends of the workers' transactions

history_stays : (workers : List Worker) (node : NodeView) → (all_ended workers node).history ≡ node.history
history_stays [] node = refl
history_stays (worker ∷ workers) node = history_stays workers (ended worker.owner.0 node)

same_or_gone : (workers : List Worker) (node : NodeView) (a : ℕ) → (txn_of a (all_ended workers node).txns ≡ txn_of a node.txns) ⊎ (txn_of a (all_ended workers node).txns ≡ None)
same_or_gone [] node a = inl refl
same_or_gone (worker ∷ workers) node a = at (ended_each worker.owner.0 node.txns a) (same_or_gone workers (ended worker.owner.0 node) a)
  where
    at : (txn_of a (ended worker.owner.0 node).txns ≡ txn_of a node.txns) ⊎ (txn_of a (ended worker.owner.0 node).txns ≡ None)
        → (txn_of a (all_ended workers (ended worker.owner.0 node)).txns ≡ txn_of a (ended worker.owner.0 node).txns) ⊎ (txn_of a (all_ended workers (ended worker.owner.0 node)).txns ≡ None)
        → (txn_of a (all_ended workers (ended worker.owner.0 node)).txns ≡ txn_of a node.txns) ⊎ (txn_of a (all_ended workers (ended worker.owner.0 node)).txns ≡ None)
    at first (inr gone) = inr gone
    at (inl same) (inl again) = inl (again ∙ same)
    at (inr gone) (inl again) = inr (again ∙ gone)

own_gone : (workers : List Worker) (node : NodeView) (place : ℕ) (worker : Worker) → slice_get workers place ≡ Some worker → txn_of worker.owner.0 (all_ended workers node).txns ≡ None
own_gone [] node place worker found = absurd (let q : None ≡ Some worker = found in cc)
own_gone (first ∷ workers) node zero worker found =
    let same : first ≡ worker = cc in
    subst (λ (w : Worker). txn_of w.owner.0 (all_ended workers (ended first.owner.0 node)).txns ≡ None) same
    (at (same_or_gone workers (ended first.owner.0 node) first.owner.0))
  where
    at : (txn_of first.owner.0 (all_ended workers (ended first.owner.0 node)).txns ≡ txn_of first.owner.0 (ended first.owner.0 node).txns) ⊎ (txn_of first.owner.0 (all_ended workers (ended first.owner.0 node)).txns ≡ None)
        → txn_of first.owner.0 (all_ended workers (ended first.owner.0 node)).txns ≡ None
    at (inl same) = same ∙ txn_gone first.owner.0 node.txns
    at (inr gone) = gone
own_gone (first ∷ workers) node (suc place) worker found = own_gone workers (ended first.owner.0 node) place worker found

-- workers without their entries

emptied_length : (workers : List Worker) → length (map without_entry workers) ≡ length workers
emptied_length [] = refl
emptied_length (worker ∷ workers) = ap suc (emptied_length workers)

emptied_each : (P : ℕ → Worker → Type 0) (workers : List Worker) → ((p : ℕ) (w : Worker) → slice_get workers p ≡ Some w → P p (without_entry w))
    → (p : ℕ) (w : Worker) → slice_get (map without_entry workers) p ≡ Some w → P p w
emptied_each P [] each p w found = absurd (let q : None ≡ Some w = found in cc)
emptied_each P (worker ∷ workers) each zero w found =
    let same : without_entry worker ≡ w = cc in
    subst (P 0) same (each 0 worker refl)
emptied_each P (worker ∷ workers) each (suc p) w found = emptied_each (λ (n : ℕ). P (suc n)) workers (λ q v f. each (suc q) v f) p w found

has_none : (entry : Option ℕ) (number : ℕ) → entry ≡ None → entry ≡ Some number → ⊥
has_none entry number none has = absurd (let q : None ≡ Some number = sym none ∙ has in cc)

ended_holds : (count : ℕ) (log : List Entry) (workers : List Worker) (node : NodeView) → Holds count log node.history workers node.txns
    → Holds count log (all_ended workers node).history (map without_entry workers) (all_ended workers node).txns
ended_holds count log workers node h = record {
  logged = h.logged;
  follows = subst (Follows log) (sym (history_stays workers node)) h.follows;
  many = emptied_length workers ∙ h.many;
  owners = emptied_each (λ p w. w.owner.0 ≡ 201 + p) workers h.owners;
  works = emptied_each (λ p w. WorksAt log (all_ended workers node).history (all_ended workers node).txns w) workers (own_gone workers node);
  apart = λ p q a b number away a_at b_at a_has b_has. has_none a.entry number (emptied_each (λ r w. w.entry ≡ None) workers (λ r w found. refl) p a a_at) a_has;
  others = fits;
}
  where
    fits : OthersFit count (all_ended workers node).txns
    fits a txn outside found = at (same_or_gone workers node a)
      where
        at : (txn_of a (all_ended workers node).txns ≡ txn_of a node.txns) ⊎ (txn_of a (all_ended workers node).txns ≡ None) → OfClients txn
        at (inl same) = h.others a txn outside (sym same ∙ found)
        at (inr gone) = absurd (let q : None ≡ Some txn = sym gone ∙ found in cc)

pub stop_holds : (count : ℕ) (log : List Entry) (applier : ApplierView) (node : NodeView) → Holds count log node.history applier.workers node.txns
    → Holds count log (stop_move applier node).node.history (stop_move applier node).applier.workers (stop_move applier node).node.txns
stop_holds count log applier node h = at applier.stopped
  where
    still : Switched
    still = record { changed = false; applier = applier; node = node }

    stops : Switched
    stops = record { changed = true; applier = record applier { stopped = true; workers = map without_entry applier.workers }; node = all_ended applier.workers node }

    at : (b : Bool) → Holds count log (cond {A = Switched} b still stops).node.history (cond {A = Switched} b still stops).applier.workers (cond {A = Switched} b still stops).node.txns
    at true = h
    at false = ended_holds count log applier.workers node h
