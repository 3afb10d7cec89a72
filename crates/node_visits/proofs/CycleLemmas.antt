-- Following waits, step by step.
use Rattle.std.proofs.Common.{◌≡◌, ◌∙◌, ℕ, suc, ◌==◌, Bool, true, false, cond, List, [], ◌∷◌, ◌++◌, Option, None, Some, map, refl, ap, sym, append_assoc}
use Rattle.std.specs.Prelude.{option_map}
use Rattle.lock_table.specs.declared.wants.Owner.{Owner}
use Rattle.node_model.specs.declared.txns.Walk.{Walk}
use Rattle.node_model.specs.declared.txns.Txn.{Txn}
use Rattle.node_model.specs.Node.{NodeView, plan_of, ended}
use Rattle.node_model.specs.Waits.{way_on, way_back, cycle_of, victim_of, after_wait, visited_unless}
use Rattle.node_model.specs.Calls.{Visit, after_call, visit_if, visited_if}
use Rattle.node_model.proofs.TxnLemmas.{txn_owner}
use Rattle.node_visits.specs.declared.visits.Due.{Due}
use Rattle.node_visits.specs.declared.visits.Visit.TheVariants.{Waits, Deadlock}
use Rattle.node_visits.specs.Cycles.{numbers_of}
use Rattle.node_visits.specs.Answers.{owner_at, answer_wait, answer_by, answer_in, answer_if, visit_answer}
use Rattle.node_visits.specs.Dues.{IsDue}

-- the whole way, of which these owners are passed, and so many steps from one on are left
abbrev pub whole_way : (ℕ → Option ℕ) → ℕ → List Owner → ℕ → ℕ → Option (List ℕ)
whole_way waits home way left at = option_map (λ (rest : List ℕ). numbers_of way ++ rest) (way_back waits home left at)

one_step : (waits : ℕ → Option ℕ) (home : ℕ) (way : List Owner) (left less at : ℕ) (next : Option ℕ) → left ≡ suc less → waits at ≡ next
    → whole_way waits home way left at ≡ option_map (λ (rest : List ℕ). numbers_of way ++ rest) (way_on home at next (way_back waits home less))
one_step waits home way left less at next one is =
    ap (λ (n : ℕ). whole_way waits home way n at) one
    ∙ ap (λ (o : Option ℕ). option_map (λ (rest : List ℕ). numbers_of way ++ rest) (way_on home at o (way_back waits home less))) is

numbers_more : (way : List Owner) (owner : Owner) → numbers_of (way ++ owner ∷ []) ≡ numbers_of way ++ owner.0 ∷ []
numbers_more [] owner = refl
numbers_more (first ∷ way) owner = ap (λ (ns : List ℕ). first.0 ∷ ns) (numbers_more way owner)

pub way_returns : (waits : ℕ → Option ℕ) (home : ℕ) (way longer : List Owner) (left less : ℕ) (at : Owner) (next : ℕ) → left ≡ suc less → waits at.0 ≡ Some next → (next == home) ≡ true → longer ≡ way ++ at ∷ []
    → whole_way waits home way left at.0 ≡ Some (numbers_of longer)
way_returns waits home way longer left less at next one is back pushed =
    one_step waits home way left less at.0 (Some next) one is
    ∙ ap (λ (b : Bool). option_map (λ (rest : List ℕ). numbers_of way ++ rest) (cond b (Some (at.0 ∷ [])) (option_map (λ others. at.0 ∷ others) (way_back waits home less next)))) back
    ∙ ap (λ (ns : List ℕ). Some ns) (sym (ap numbers_of pushed ∙ numbers_more way at))

pub way_goes_on : (waits : ℕ → Option ℕ) (home : ℕ) (way longer : List Owner) (left less : ℕ) (at : Owner) (next : ℕ) → left ≡ suc less → waits at.0 ≡ Some next → (next == home) ≡ false → longer ≡ way ++ at ∷ []
    → whole_way waits home way left at.0 ≡ whole_way waits home longer less next
way_goes_on waits home way longer left less at next one is apart pushed =
    one_step waits home way left less at.0 (Some next) one is
    ∙ ap (λ (b : Bool). option_map (λ (rest : List ℕ). numbers_of way ++ rest) (cond b (Some (at.0 ∷ [])) (option_map (λ others. at.0 ∷ others) (way_back waits home less next)))) apart
    ∙ by (way_back waits home less next)
  where
    by : (o : Option (List ℕ)) → option_map (λ (rest : List ℕ). numbers_of way ++ rest) (option_map (λ (others : List ℕ). at.0 ∷ others) o) ≡ option_map (λ (rest : List ℕ). numbers_of longer ++ rest) o
    by None = refl
    by (Some rest) =
        ap (λ (ns : List ℕ). Some ns)
        (sym (ap (λ (ns : List ℕ). ns ++ rest) (ap numbers_of pushed ∙ numbers_more way at) ∙ append_assoc (numbers_of way) (at.0 ∷ []) rest))

-- owners and their numbers
pub owners_again : (owners : List Owner) → map owner_at (numbers_of owners) ≡ owners
owners_again [] = refl
owners_again (owner ∷ owners) = ap (λ (os : List Owner). owner ∷ os) (owners_again owners)

-- an owner that waits
pub wait_answer : (node : NodeView) (owner by : Owner) (due : Due) (is : IsDue owner.0 node due) → due.by ≡ Some by → visit_answer owner.0 node ≡ answer_wait (cycle_of node owner.0) by.0 owner.0 node
wait_answer node owner by due is excluded =
    ap (λ (o : Option Txn). answer_if o node) is.found
    ∙ ap (λ (o : Option Walk). answer_in o is.txn node) is.current
    ∙ ap (λ (o : Option ℕ). answer_by o is.txn is.walk (plan_of node is.txn is.walk) node) (sym is.by ∙ ap (option_map (λ (o : Owner). o.0)) excluded)
    ∙ ap (λ (a : ℕ). answer_wait (cycle_of node a) by.0 a node) (txn_owner owner.0 is.txn node.txns is.found)

pub wait_call : (node : NodeView) (owner by : Owner) (due : Due) (is : IsDue owner.0 node due) → due.by ≡ Some by → after_call (Visit owner) node ≡ after_wait (cycle_of node owner.0) owner.0 node
wait_call node owner by due is excluded =
    ap (λ (o : Option Txn). visit_if o node) is.found
    ∙ ap (λ (o : Option Walk). visited_if o is.txn node) is.current
    ∙ ap (λ (o : Option ℕ). visited_unless o is.txn is.walk (plan_of node is.txn is.walk) node) (sym is.by ∙ ap (option_map (λ (o : Owner). o.0)) excluded)
    ∙ ap (λ (a : ℕ). after_wait (cycle_of node a) a node) (txn_owner owner.0 is.txn node.txns is.found)

-- for the code: a wait, and a deadlock

pub waits_answer : (node : NodeView) (owner by : Owner) (due : Due) → IsDue owner.0 node due → due.by ≡ Some by → None ≡ cycle_of node owner.0 → Waits by ≡ visit_answer owner.0 node
waits_answer node owner by due is excluded none = sym (wait_answer node owner by due is excluded ∙ ap (λ (c : Option (List ℕ)). answer_wait c by.0 owner.0 node) (sym none))

pub waits_call : (node : NodeView) (owner by : Owner) (due : Due) → IsDue owner.0 node due → due.by ≡ Some by → None ≡ cycle_of node owner.0 → node ≡ after_call (Visit owner) node
waits_call node owner by due is excluded none = sym (wait_call node owner by due is excluded ∙ ap (λ (c : Option (List ℕ)). after_wait c owner.0 node) (sym none))

pub breaks_answer : (node : NodeView) (owner by victim : Owner) (cycle slice : List Owner) (due : Due) → IsDue owner.0 node due → due.by ≡ Some by → Some (numbers_of cycle) ≡ cycle_of node owner.0 → slice ≡ cycle
    → victim.0 ≡ victim_of node.txns owner.0 (numbers_of slice) → Deadlock victim cycle ≡ visit_answer owner.0 node
breaks_answer node owner by victim cycle slice due is excluded found same first =
    (λ i. Deadlock (owner_at ((first ∙ ap (λ (os : List Owner). victim_of node.txns owner.0 (numbers_of os)) same) i)) (sym (owners_again cycle) i))
    ∙ sym (wait_answer node owner by due is excluded ∙ ap (λ (c : Option (List ℕ)). answer_wait c by.0 owner.0 node) (sym found))

pub breaks_call : (node after : NodeView) (owner by victim : Owner) (cycle slice : List Owner) (due : Due) → IsDue owner.0 node due → due.by ≡ Some by → Some (numbers_of cycle) ≡ cycle_of node owner.0 → slice ≡ cycle
    → victim.0 ≡ victim_of node.txns owner.0 (numbers_of slice) → after ≡ ended victim.0 node → after ≡ after_call (Visit owner) node
breaks_call node after owner by victim cycle slice due is excluded found same first view =
    view
    ∙ ap (λ (v : ℕ). ended v node) (first ∙ ap (λ (os : List Owner). victim_of node.txns owner.0 (numbers_of os)) same)
    ∙ sym (wait_call node owner by due is excluded ∙ ap (λ (c : Option (List ℕ)). after_wait c owner.0 node) (sym found))
