-- What a visit that nobody excludes does to the live rows, as the code makes it.
use Rattle.std.proofs.Common.{◌≡◌, ◌≢◌, ◌∙◌, ℕ, ◌&&◌, not, Bool, true, false, cond, List, Option, None, Some, refl, ap, sym}
use Rattle.std.specs.List.{slice_get}
use Rattle.std.specs.Option.{option_map_or}
use Rattle.std.specs.Ordering.{is_eq}
use Rattle.row_types.specs.declared.values.Value.{Value}
use Rattle.row_types.specs.declared.edges.Edge.{Edge}
use Rattle.row_types.specs.declared.lock_modes.LockMode.{LockMode}
use Rattle.row_types.specs.declared.lock_modes.LockMode.TheVariants.{Shared, Exclusive}
use Rattle.row_types.specs.declared.table_schema.Schema.{Schema}
use Rattle.row_types.specs.Order.{key_cmp}
use Rattle.row_types.specs.Fit.{key_of}
use Rattle.ptc_statement.specs.declared.statements.Statement.{Statement}
use Rattle.ptc_statement.specs.declared.statements.Statement.TheVariants.{Insert, Replace, Delete, Update, LockRead, Check, SetMaster, ClearChecks}
use Rattle.ptc_statement.specs.Effect.{table_of, effect}
use Rattle.lock_table.proofs.HoldLemmas.{same_key_is, is_number, other_number}
use Rattle.node_model.specs.declared.parts.Part.{Part}
use Rattle.node_model.specs.declared.parts.Part.TheVariants.{Client, Apply}
use Rattle.txn_walk.specs.declared.plans.Plan.{Plan}
use Rattle.node_model.specs.declared.txns.Walk.{Walk}
use Rattle.node_model.specs.declared.txns.Txn.{Txn}
use Rattle.node_model.specs.Txns.{txn_of}
use Rattle.txn_walk.specs.Plans.{next_visit, row_visit}
use Rattle.node_model.specs.Kept.{FactsOf}
use Rattle.node_model.specs.Node.{NodeView, act, live_row, is_live, stops, plan_of, empty_plan, plan_excluder, is_client, is_duplicate, visited}
use Rattle.node_model.proofs.VisitLemmas.{sound_in}
use Rattle.node_model.proofs.VisitLive.{is_visit_to, is_locked_at, visit_live, visit_to}
use Rattle.node_parts.specs.declared.notes.Change.{Change}
use Rattle.node_visits.specs.Answers.{change_at, change_under}

-- a visit that nobody excludes
pub record Visits (node : NodeView) (txn : Txn) (walk : Walk) : Type 0 where
  pub facts : FactsOf node
  pub found : txn_of txn.owner.0 node.txns ≡ Some txn
  pub current : txn.current ≡ Some walk
  pub none : plan_excluder txn.owner (table_of walk.statement) (plan_of node txn walk) node.held ≡ None

abbrev pub after_it : NodeView → Txn → Walk → NodeView
after_it node txn walk = visited txn walk (plan_of node txn walk) node

pub record ExclusivePlan (node : NodeView) (txn : Txn) (walk : Walk) : Type 0 where
  pub schema : Schema
  pub found : slice_get node.schemas (table_of walk.statement) ≡ Some schema
  pub fresh : is_duplicate txn.part walk.statement (plan_of node txn walk) ≡ false

no_insert : (part : Part) (x : Bool) → is_client part && false && x ≡ false
no_insert Client x = refl
no_insert (Apply entry) x = refl

no_row : (part : Part) → is_client part && true && not true ≡ false
no_row Client = refl
no_row (Apply entry) = refl

fresh_row : (part : Part) (own key : List Value) (live : Bool) → (row_visit own Shared live).on_key ≡ Some (key, Exclusive) → is_client part && true && not (row_visit own Shared live).insert ≡ false
fresh_row part own key true is = absurd (let q : Some (own, Shared) ≡ Some (key, Exclusive) = is in let m : Shared ≡ Exclusive = ap (λ (o : Option (List Value × LockMode)). option_map_or (λ (l : List Value × LockMode). l.1) o Shared) q in cc)
fresh_row part own key false is = no_row part

fresh_visit : (part : Part) (schema : Schema) (statement : Statement) (cursor : Edge) (stops : List (List Value)) (live : List Value → Bool) (key : List Value)
    → (next_visit schema statement cursor stops live).on_key ≡ Some (key, Exclusive) → is_duplicate part statement (next_visit schema statement cursor stops live) ≡ false
fresh_visit part schema (Insert of row) cursor stops live key is = fresh_row part (key_of schema row) key (live (key_of schema row)) is
fresh_visit part schema (Replace of row) cursor stops live key is = no_insert part (not (next_visit schema (Replace of row) cursor stops live).insert)
fresh_visit part schema (Delete of where_true) cursor stops live key is = no_insert part (not (next_visit schema (Delete of where_true) cursor stops live).insert)
fresh_visit part schema (Update of sets where_true) cursor stops live key is = no_insert part (not (next_visit schema (Update of sets where_true) cursor stops live).insert)
fresh_visit part schema (LockRead of mode span where_true) cursor stops live key is = no_insert part (not (next_visit schema (LockRead of mode span where_true) cursor stops live).insert)
fresh_visit part schema (Check of chunk span kind) cursor stops live key is = no_insert part (not (next_visit schema (Check of chunk span kind) cursor stops live).insert)
fresh_visit part schema (SetMaster of chunk kind master) cursor stops live key is = no_insert part (not (next_visit schema (SetMaster of chunk kind master) cursor stops live).insert)
fresh_visit part schema (ClearChecks of) cursor stops live key is = no_insert part (not (next_visit schema (ClearChecks of) cursor stops live).insert)

pub exclusive_plan : (node : NodeView) (txn : Txn) (walk : Walk) (key : List Value) → (plan_of node txn walk).on_key ≡ Some (key, Exclusive) → ExclusivePlan node txn walk
exclusive_plan node txn walk key on = at (slice_get node.schemas (table_of walk.statement)) refl on
  where
    plan_by : Option Schema → Plan
    plan_by o = option_map_or (λ (schema : Schema). next_visit schema walk.statement walk.cursor (stops node txn.owner.0 (table_of walk.statement)) (is_live node (table_of walk.statement))) o (empty_plan walk.cursor)

    at : (o : Option Schema) → slice_get node.schemas (table_of walk.statement) ≡ o → (plan_by o).on_key ≡ Some (key, Exclusive) → ExclusivePlan node txn walk
    at None e is = absurd (let q : None ≡ Some (key, Exclusive) = is in cc)
    at (Some schema) e is = record {
      schema = schema;
      found = e;
      fresh = ap (λ (o : Option Schema). is_duplicate txn.part walk.statement (plan_by o)) e
          ∙ fresh_visit txn.part schema walk.statement walk.cursor (stops node txn.owner.0 (table_of walk.statement)) (is_live node (table_of walk.statement)) key is;
    }

-- the change at a key
abbrev pub made : NodeView → Walk → Schema → List Value → Change
made node walk schema key = record { table = table_of walk.statement; key = key; new = effect schema walk.statement key (live_row node (table_of walk.statement) key) }

pub record IsMade (node : NodeView) (walk : Walk) (on_key : Option (List Value × LockMode)) (change : Change) : Type 0 where
  pub key : List Value
  pub schema : Schema
  pub found : slice_get node.schemas (table_of walk.statement) ≡ Some schema
  pub on : on_key ≡ Some (key, Exclusive)
  pub is : change ≡ made node walk schema key

pub some_change : (node : NodeView) (walk : Walk) (on_key : Option (List Value × LockMode)) (change : Change) → change_under node walk on_key ≡ Some change → IsMade node walk on_key change
some_change node walk None change is = absurd (let q : None ≡ Some change = is in cc)
some_change node walk (Some (key, Shared)) change is = absurd (let q : None ≡ Some change = is in cc)
some_change node walk (Some (key, Exclusive)) change is = at (slice_get node.schemas (table_of walk.statement)) refl is
  where
    at : (o : Option Schema) → slice_get node.schemas (table_of walk.statement) ≡ o → change_at node walk key o ≡ Some change → IsMade node walk (Some (key, Exclusive)) change
    at None e f = absurd (let q : None ≡ Some change = f in cc)
    at (Some schema) e f = record { key = key; schema = schema; found = e; on = refl; is = ap (λ (o : Option Change). option_map_or (λ (x : Change). x) o change) (sym f) }

-- a visit that makes no change takes no exclusive lock
pub all_shared : (node : NodeView) (txn : Txn) (walk : Walk) → change_under node walk (plan_of node txn walk).on_key ≡ None
    → (key : List Value) (mode : LockMode) → (plan_of node txn walk).on_key ≡ Some (key, mode) → mode ≡ Shared
all_shared node txn walk no_change key Shared on = refl
all_shared node txn walk no_change key Exclusive on =
    let p = exclusive_plan node txn walk key on in
    let q : Some (made node walk p.schema key) ≡ None = ap (change_at node walk key) (sym p.found) ∙ ap (change_under node walk) (sym on) ∙ no_change in
    absurd cc

pub unchanged : (node : NodeView) (txn : Txn) (walk : Walk) → Visits node txn walk → ((key : List Value) (mode : LockMode) → (plan_of node txn walk).on_key ≡ Some (key, mode) → mode ≡ Shared)
    → (table : ℕ) (key : List Value) → live_row (after_it node txn walk) table key ≡ live_row node table key
unchanged node txn walk turn shared table key =
    visit_live node txn walk turn.facts turn.found turn.current turn.none table key ∙ left (is_visit_to txn walk (plan_of node txn walk) table key) refl
  where
    left : (v : Bool) → is_visit_to txn walk (plan_of node txn walk) table key ≡ v → cond v (act node.schemas walk.statement table key (live_row node table key)) (live_row node table key) ≡ live_row node table key
    left false e = refl
    left true e =
        let to = visit_to txn walk (plan_of node txn walk) table key e in
        (sound_in node txn walk).shared node.schemas table key (live_row node table key)
        (to.lock.is ∙ ap (λ (m : LockMode). Some (key, m)) (shared key to.lock.mode to.lock.is)) (ap (λ (t : ℕ). is_live node t key) to.of)

pub changed_here : (node : NodeView) (txn : Txn) (walk : Walk) (schema : Schema) (key : List Value) → Visits node txn walk → slice_get node.schemas (table_of walk.statement) ≡ Some schema
    → (plan_of node txn walk).on_key ≡ Some (key, Exclusive) → (other : List Value)
    → live_row (after_it node txn walk) (table_of walk.statement) other
    ≡ cond (is_eq (key_cmp other key)) (effect schema walk.statement key (live_row node (table_of walk.statement) key)) (live_row node (table_of walk.statement) other)
changed_here node txn walk schema key turn found on other =
    visit_live node txn walk turn.facts turn.found turn.current turn.none number other
    ∙ ap (λ (v : Bool). cond v (act node.schemas walk.statement number other (live_row node number other)) (live_row node number other)) visit
    ∙ at (is_eq (key_cmp other key)) refl
  where
    number : ℕ
    number = table_of walk.statement

    visit : is_visit_to txn walk (plan_of node txn walk) (table_of walk.statement) other ≡ is_eq (key_cmp other key)
    visit = λ i. not ((exclusive_plan node txn walk key on).fresh i) && (is_number (table_of walk.statement) (table_of walk.statement) refl i && is_locked_at other (on i))

    does : (old : Option (List Value)) → act node.schemas walk.statement (table_of walk.statement) key old ≡ effect schema walk.statement key old
    does old = λ i. cond (is_number (table_of walk.statement) (table_of walk.statement) refl i) (option_map_or (λ (s : Schema). effect s walk.statement key old) (found i) old) old

    at : (b : Bool) → is_eq (key_cmp other key) ≡ b
        → cond b (act node.schemas walk.statement (table_of walk.statement) other (live_row node (table_of walk.statement) other)) (live_row node (table_of walk.statement) other)
        ≡ cond b (effect schema walk.statement key (live_row node (table_of walk.statement) key)) (live_row node (table_of walk.statement) other)
    at false e = refl
    at true e =
        ap (λ (k : List Value). act node.schemas walk.statement (table_of walk.statement) k (live_row node (table_of walk.statement) k)) (same_key_is other key e)
        ∙ does (live_row node (table_of walk.statement) key)

and_false : (x y : Bool) → x && (false && y) ≡ false
and_false true y = refl
and_false false y = refl

pub changed_elsewhere : (node : NodeView) (txn : Txn) (walk : Walk) → Visits node txn walk → (table : ℕ) (key : List Value) → table ≢ table_of walk.statement
    → live_row (after_it node txn walk) table key ≡ live_row node table key
changed_elsewhere node txn walk turn table key apart =
    visit_live node txn walk turn.facts turn.found turn.current turn.none table key
    ∙ ap (λ (v : Bool). cond v (act node.schemas walk.statement table key (live_row node table key)) (live_row node table key))
    (ap (λ (b : Bool). not (is_duplicate txn.part walk.statement (plan_of node txn walk)) && (b && is_locked_at key (plan_of node txn walk).on_key)) (other_number (table_of walk.statement) table (λ e. apart (sym e)))
    ∙ and_false (not (is_duplicate txn.part walk.statement (plan_of node txn walk))) (is_locked_at key (plan_of node txn walk).on_key))
