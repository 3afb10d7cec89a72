-- A visit that is done with its statement leaves its owner without one.
use Rattle.std.proofs.Common.{◌≡◌, ◌∙◌, ℕ, Bool, true, false, cond, List, [], ◌∷◌, ◌++◌, Option, None, Some, map, refl, ap, sym, subst}
use Rattle.std.specs.Prelude.{IfOk, OnOk, OnErr}
use Rattle.std.specs.declared.result.Result.{Result}
use Rattle.std.specs.declared.result.Result.TheVariants.{Ok, Err}
use Rattle.row_types.specs.declared.memory.Memory.{Memory}
use Rattle.row_types.specs.declared.table_schema.Schema.{Schema}
use Rattle.ptc_statement.specs.Effect.{table_of}
use Rattle.ptc_statement.specs.Fits.{FitsSchemas}
use Rattle.lock_table.specs.declared.wants.Owner.{Owner}
use Rattle.txn_walk.specs.declared.plans.Plan.{Plan}
use Rattle.node_model.specs.declared.txns.Walk.{Walk}
use Rattle.node_model.specs.declared.txns.Txn.{Txn}
use Rattle.node_model.specs.Txns.{txn_of, with_txn}
use Rattle.node_model.specs.Calls.{Visit as VisitCall, after_call, visit_if, visited_if}
use Rattle.node_model.specs.Node.{NodeView, plan_of, plan_excluder, is_duplicate, moved, start_of}
use Rattle.node_model.specs.Waits.{cycle_of, victim_of, visited_unless}
use Rattle.node_model.proofs.TxnLemmas.{txn_same, txn_owner}
use Rattle.node_model.proofs.CallLemmas.{same_schemas}
use Rattle.node_parts.specs.declared.parts.Parts.{Parts}
use Rattle.node_visits.specs.declared.visits.Visit.{Visit}
use Rattle.node_visits.specs.declared.visits.Visit.TheVariants.{Stepped, Done, Duplicate, Waits, Deadlock}
use Rattle.node_parts.specs.Kept.{node_view}
use Rattle.node_visits.specs.NextStarts.{next_walk, IsReady, with_next, next_started}
use Rattle.node_parts.specs.Views.{IsUnderWay, IsIdle}
use Rattle.node_visits.specs.Answers.{owner_at, answer_wait, answer_of, duplicate_key, answer_by, answer_in, answer_if, visit_answer}

-- a statement that ends, or is refused, is no longer in progress
moved_idle : (txn : Txn) (walk : Walk) (plan : Plan) (refused ends : Bool)
    → answer_of (duplicate_key refused plan.on_key) ends ≡ Done
    → (cond refused (record txn { current = None }) (cond ends (record txn { done = txn.done ++ walk.statement ∷ []; current = None }) (record txn { current = Some (record { statement = walk.statement; cursor = plan.after }) }))).current ≡ None
moved_idle txn walk plan true ends e = refl
moved_idle txn walk plan false true e = refl
moved_idle txn walk plan false false e = absurd (let q : Stepped ≡ Done = e in cc)

moved_owner : (txn : Txn) (walk : Walk) (plan : Plan) (refused ends : Bool)
    → (cond refused (record txn { current = None }) (cond ends (record txn { done = txn.done ++ walk.statement ∷ []; current = None }) (record txn { current = Some (record { statement = walk.statement; cursor = plan.after }) }))).owner ≡ txn.owner
moved_owner txn walk plan true ends = refl
moved_owner txn walk plan false true = refl
moved_owner txn walk plan false false = refl

-- who waits is not done
no_wait : (cycle : Option (List ℕ)) (by owner : ℕ) (node : NodeView) → answer_wait cycle by owner node ≡ Done → ⊥
no_wait None by owner node e = let q : Waits (owner_at by) ≡ Done = e in cc
no_wait (Some cycle) by owner node e = let q : Deadlock (owner_at (victim_of node.txns owner cycle)) (map owner_at cycle) ≡ Done = e in cc

pub done_idle : (node : NodeView) (owner : Owner) → IsUnderWay owner.0 node → visit_answer owner.0 node ≡ Done → IsIdle owner.0 (after_call (VisitCall owner) node)
done_idle node owner under answer = at (plan_excluder txn.owner (table_of walk.statement) (plan_of node txn walk) node.held) refl
  where
    txn : Txn
    txn = under.txn

    walk : Walk
    walk = under.walk

    plan : Plan
    plan = plan_of node under.txn under.walk

    own : under.txn.owner.0 ≡ owner.0
    own = txn_owner owner.0 under.txn node.txns under.found

    answered : answer_by (plan_excluder under.txn.owner (table_of under.walk.statement) (plan_of node under.txn under.walk) node.held) under.txn under.walk (plan_of node under.txn under.walk) node ≡ Done
    answered = sym (ap (λ (o : Option Txn). answer_if o node) under.found ∙ ap (λ (o : Option Walk). answer_in o under.txn node) under.current) ∙ answer

    call : after_call (VisitCall owner) node ≡ visited_unless (plan_excluder under.txn.owner (table_of under.walk.statement) (plan_of node under.txn under.walk) node.held) under.txn under.walk (plan_of node under.txn under.walk) node
    call = ap (λ (o : Option Txn). visit_if o node) under.found ∙ ap (λ (o : Option Walk). visited_if o under.txn node) under.current

    at : (o : Option ℕ) → plan_excluder under.txn.owner (table_of under.walk.statement) (plan_of node under.txn under.walk) node.held ≡ o → IsIdle owner.0 (after_call (VisitCall owner) node)
    at (Some by) e =
        absurd (no_wait (cycle_of node under.txn.owner.0) by under.txn.owner.0 node (sym (ap (λ (o : Option ℕ). answer_by o under.txn under.walk (plan_of node under.txn under.walk) node) e) ∙ answered))
    at None e =
        let a : answer_of (duplicate_key (is_duplicate under.txn.part under.walk.statement (plan_of node under.txn under.walk)) (plan_of node under.txn under.walk).on_key) (plan_of node under.txn under.walk).ends ≡ Done =
        sym (ap (λ (o : Option ℕ). answer_by o under.txn under.walk (plan_of node under.txn under.walk) node) e) ∙ answered in
        let m = moved under.txn under.walk (plan_of node under.txn under.walk) in
        let mine : m.owner.0 ≡ owner.0 =
        ap (λ (o : Owner). o.0) (moved_owner under.txn under.walk (plan_of node under.txn under.walk) (is_duplicate under.txn.part under.walk.statement (plan_of node under.txn under.walk)) (plan_of node under.txn under.walk).ends) ∙ own in
        subst (IsIdle owner.0) (sym (call ∙ ap (λ (o : Option ℕ). visited_unless o under.txn under.walk (plan_of node under.txn under.walk) node) e)) (record {
          txn = m;
          found = ap (λ (n : ℕ). txn_of n (with_txn m node.txns)) (sym mine) ∙ txn_same m node.txns;
          idle = moved_idle under.txn under.walk (plan_of node under.txn under.walk) (is_duplicate under.txn.part under.walk.statement (plan_of node under.txn under.walk)) (plan_of node under.txn under.walk).ends a;
        })

-- for the code

pub ready : (old new : Parts) (owner : Owner) (answer : Visit) (walk : Walk) (next : Option Walk) → IsUnderWay owner.0 (node_view old) → answer ≡ visit_answer owner.0 (node_view old)
    → node_view new ≡ after_call (VisitCall owner) (node_view old) → FitsSchemas old.schemas.tables walk.statement → walk.cursor ≡ start_of old.schemas.tables walk.statement → next ≡ next_walk answer walk
    → IsReady next owner.0 (node_view new)
ready old new owner answer walk next under is after fits cursor will = subst (λ (o : Option Walk). IsReady o owner.0 (node_view new)) (sym will) (at answer is)
  where
    schemas : new.schemas.tables ≡ old.schemas.tables
    schemas = ap (λ (n : NodeView). n.schemas) after ∙ same_schemas (VisitCall owner) (node_view old)

    at : (a : Visit) → a ≡ visit_answer owner.0 (node_view old) → IsReady (next_walk a walk) owner.0 (node_view new)
    at Stepped e = tt
    at Done e = record {
      idle = subst (IsIdle owner.0) (sym after) (done_idle (node_view old) owner under (sym e));
      fits = subst (λ (ss : List Schema). FitsSchemas ss walk.statement) (sym schemas) fits;
      cursor = cursor ∙ ap (λ (ss : List Schema). start_of ss walk.statement) (sym schemas);
    }
    at (Duplicate key) e = tt
    at (Waits by) e = tt
    at (Deadlock victim cycle) e = tt

next_is : (answer : Visit) (walk : Walk) (owner : Owner) (node : NodeView) → with_next (next_walk answer walk) owner node ≡ next_started answer owner walk.statement node
next_is Stepped walk owner node = refl
next_is Done walk owner node = refl
next_is (Duplicate key) walk owner node = refl
next_is (Waits by) walk owner node = refl
next_is (Deadlock victim cycle) walk owner node = refl

pub started_next : (old mid new : Parts) (owner : Owner) (answer : Visit) (walk : Walk) (next : Option Walk) → answer ≡ visit_answer owner.0 (node_view old)
    → node_view mid ≡ after_call (VisitCall owner) (node_view old) → next ≡ next_walk answer walk → node_view new ≡ with_next next owner (node_view mid)
    → node_view new ≡ next_started (visit_answer owner.0 (node_view old)) owner walk.statement (after_call (VisitCall owner) (node_view old))
started_next old mid new owner answer walk next is after will view =
    view
    ∙ (λ i. with_next (will i) owner (after i))
    ∙ next_is answer walk owner (after_call (VisitCall owner) (node_view old))
    ∙ ap (λ (a : Visit). next_started a owner walk.statement (after_call (VisitCall owner) (node_view old))) is

-- the answer of a visit, or out of memory

pub all_ready : (old mid : Parts) (owner : Owner) (answer : Result Visit Memory) (walk : Walk) → IsUnderWay owner.0 (node_view old) → IfOk answer (λ (a : Visit). a ≡ visit_answer owner.0 (node_view old))
    → OnOk answer (node_view mid ≡ after_call (VisitCall owner) (node_view old)) → FitsSchemas old.schemas.tables walk.statement → walk.cursor ≡ start_of old.schemas.tables walk.statement
    → IfOk answer (λ (a : Visit). IsReady (next_walk a walk) owner.0 (node_view mid))
all_ready old mid owner (Ok a) walk under is after fits cursor = ready old mid owner a walk (next_walk a walk) under is after fits cursor refl
all_ready old mid owner (Err e) walk under is after fits cursor = tt

pub all_answered : (answer result : Result Visit Memory) (visit : Visit) → result ≡ answer → IfOk answer (λ (a : Visit). a ≡ visit) → IfOk result (λ (a : Visit). a ≡ visit)
all_answered answer result visit same is = subst (λ (r : Result Visit Memory). IfOk r (λ (a : Visit). a ≡ visit)) (sym same) is

pub all_started : (old mid new : Parts) (owner : Owner) (answer result : Result Visit Memory) (walk : Walk) → result ≡ answer → IfOk answer (λ (a : Visit). a ≡ visit_answer owner.0 (node_view old))
    → OnOk answer (node_view mid ≡ after_call (VisitCall owner) (node_view old)) → IfOk answer (λ (a : Visit). node_view new ≡ with_next (next_walk a walk) owner (node_view mid))
    → OnOk result (node_view new ≡ next_started (visit_answer owner.0 (node_view old)) owner walk.statement (after_call (VisitCall owner) (node_view old)))
all_started old mid new owner answer result walk same is after view =
    subst (λ (r : Result Visit Memory). OnOk r (node_view new ≡ next_started (visit_answer owner.0 (node_view old)) owner walk.statement (after_call (VisitCall owner) (node_view old)))) (sym same) (at answer is after view)
  where
    at : (r : Result Visit Memory) → IfOk r (λ (a : Visit). a ≡ visit_answer owner.0 (node_view old)) → OnOk r (node_view mid ≡ after_call (VisitCall owner) (node_view old))
        → IfOk r (λ (a : Visit). node_view new ≡ with_next (next_walk a walk) owner (node_view mid))
        → OnOk r (node_view new ≡ next_started (visit_answer owner.0 (node_view old)) owner walk.statement (after_call (VisitCall owner) (node_view old)))
    at (Ok a) i f v = started_next old mid new owner a walk (next_walk a walk) i f refl v
    at (Err e) i f v = tt

pub all_refused : (old mid new : Parts) (answer result : Result Visit Memory) → result ≡ answer → OnErr answer (node_view mid ≡ node_view old) → OnErr answer (node_view new ≡ node_view mid) → OnErr result (node_view new ≡ node_view old)
all_refused old mid new answer result same before after = subst (λ (r : Result Visit Memory). OnErr r (node_view new ≡ node_view old)) (sym same) (at answer before after)
  where
    at : (r : Result Visit Memory) → OnErr r (node_view mid ≡ node_view old) → OnErr r (node_view new ≡ node_view mid) → OnErr r (node_view new ≡ node_view old)
    at (Ok a) b f = tt
    at (Err e) b f = f ∙ b
