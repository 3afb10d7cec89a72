-- A visit that answers Duplicate is that of an INSERT at whose key a row is live.
use Rattle.std.proofs.Common.{◌≢◌, ◌⊎◌, inl, inr, ◌≡◌, ◌∙◌, ℕ, Bool, true, false, cond, List, Option, None, Some, refl, ap, sym, subst}
use Rattle.std.specs.Prelude.{is_some, not, ◌&&◌}
use Rattle.std.specs.Option.{option_map_or}
use Rattle.std.specs.List.{slice_get}
use Rattle.row_types.specs.declared.values.Value.{Value}
use Rattle.row_types.specs.declared.edges.Edge.{Edge}
use Rattle.row_types.specs.declared.lock_modes.LockMode.{LockMode}
use Rattle.row_types.specs.declared.lock_modes.LockMode.TheVariants.{Shared, Exclusive}
use Rattle.row_types.specs.declared.table_schema.Schema.{Schema}
use Rattle.row_types.specs.Fit.{key_of}
use Rattle.ptc_statement.specs.declared.statements.Statement.{Statement}
use Rattle.ptc_statement.specs.declared.statements.Statement.TheVariants.{Insert, Replace, Delete, Update, LockRead, Check, SetMaster, ClearChecks}
use Rattle.ptc_statement.specs.declared.scripts.ScriptLine.{ScriptLine}
use Rattle.ptc_statement.specs.Effect.{table_of}
use Rattle.txn_walk.specs.declared.plans.Plan.{Plan}
use Rattle.txn_walk.specs.Plans.{next_visit, row_visit}
use Rattle.lock_table.specs.declared.wants.Owner.{Owner}
use Rattle.lock_table.specs.declared.wants.Want.TheVariants.{OnKey}
use Rattle.lock_table.specs.Locks.{excluder, exclusive_owner}
use Rattle.lock_table.proofs.HoldLemmas.{same_or_apart, shut_key, exclusive_found}
use Rattle.node_model.specs.declared.parts.Part.{Part}
use Rattle.node_model.specs.declared.txns.Walk.{Walk}
use Rattle.node_model.specs.declared.txns.Txn.{Txn}
use Rattle.node_model.specs.Txns.{txn_of}
use Rattle.node_model.proofs.TxnLemmas.{txn_owner}
use Rattle.node_model.specs.Node.{NodeView, committed_row, live_row, live_from, is_live, stops, empty_plan, plan_of, plan_excluder, is_client, is_duplicate}
use Rattle.node_model.specs.Waits.{cycle_of}
use Rattle.node_visits.specs.declared.visits.Visit.{Visit}
use Rattle.node_visits.specs.declared.visits.Visit.TheVariants.{Stepped, Done, Duplicate}
use Rattle.node_visits.specs.Answers.{duplicate_key, answer_of, answer_wait, answer_by, answer_in, answer_if, visit_answer}
use Rattle.session.specs.Sessions.{SessionView}
use Rattle.duplicate_laws.specs.Duplicates.{InsertsAtLive, MeetsKey}
use Rattle.duplicate_laws.proofs.LinkLemmas.{RunsAt, IsAt, Links, IsLinked}

-- what answers Duplicate

ends_otherwise : (ends : Bool) (key : List Value) → cond ends Done Stepped ≡ Duplicate key → ⊥
ends_otherwise true key is = absurd (let q : Done ≡ Duplicate key = is in cc)
ends_otherwise false key is = absurd (let q : Stepped ≡ Duplicate key = is in cc)

none_otherwise : (dup ends : Bool) (key : List Value) → answer_of (duplicate_key dup None) ends ≡ Duplicate key → ⊥
none_otherwise true ends key is = ends_otherwise ends key is
none_otherwise false ends key is = ends_otherwise ends key is

not_inserts : (client insert ends : Bool) (lock : Option (List Value × LockMode)) (key : List Value) → answer_of (duplicate_key (client && false && not insert) lock) ends ≡ Duplicate key → ⊥
not_inserts true insert ends lock key is = ends_otherwise ends key is
not_inserts false insert ends lock key is = ends_otherwise ends key is

record IsThere (row : Option (List Value)) : Type 0 where
  there : List Value
  is : row ≡ Some there

there_is : (row : Option (List Value)) → is_some row ≡ true → IsThere row
there_is None is = absurd (let q : false ≡ true = is in cc)
there_is (Some there) is = record { there = there; is = refl }

-- an INSERT's visit at its key

row_meets : (client live : Bool) (at key : List Value)
    → answer_of (duplicate_key (client && true && not (row_visit at Shared live).insert) (row_visit at Shared live).on_key) (row_visit at Shared live).ends ≡ Duplicate key
    → (live ≡ true) × (key ≡ at)
row_meets true true at key is = (refl, let q : Duplicate at ≡ Duplicate key = is in cc)
row_meets true false at key is = absurd (let q : Done ≡ Duplicate key = is in cc)
row_meets false true at key is = absurd (let q : Done ≡ Duplicate key = is in cc)
row_meets false false at key is = absurd (let q : Done ≡ Duplicate key = is in cc)

abbrev plan_for : NodeView → ℕ → Statement → Edge → Option Schema → Plan
plan_for node owner statement cursor schema =
    option_map_or (λ (s : Schema). next_visit s statement cursor (stops node owner (table_of statement)) (is_live node (table_of statement))) schema (empty_plan cursor)

-- what a plan answers
abbrev answers : Bool → Plan → Bool → Visit
answers dup plan ends = answer_of (duplicate_key dup plan.on_key) ends

-- nobody else has the key exclusively
stands_for : (node : NodeView) (owner table : ℕ) (key there : List Value) → excluder owner table (OnKey key Shared) node.held ≡ None → live_row node table key ≡ Some there
    → ((exclusive_owner table key node.held ≡ None) × (committed_row node table key ≡ Some there)) ⊎ (exclusive_owner table key node.held ≡ Some owner)
stands_for node owner table key there free live = at (exclusive_owner table key node.held) refl
  where
    by : (a : ℕ) → exclusive_owner table key node.held ≡ Some a → (a ≡ owner) ⊎ (a ≢ owner)
        → ((exclusive_owner table key node.held ≡ None) × (committed_row node table key ≡ Some there)) ⊎ (exclusive_owner table key node.held ≡ Some owner)
    by a found (inl same) = inr (found ∙ ap Some same)
    by a found (inr apart) = absurd (shut_key owner a table key Shared Exclusive node.held free apart refl (exclusive_found a table key node.held found))

    at : (found : Option ℕ) → exclusive_owner table key node.held ≡ found
        → ((exclusive_owner table key node.held ≡ None) × (committed_row node table key ≡ Some there)) ⊎ (exclusive_owner table key node.held ≡ Some owner)
    at None none = inl (none, ap (λ (o : Option ℕ). live_from node.schemas node.txns o table key (committed_row node table key)) (sym none) ∙ live)
    at (Some a) found = by a found (same_or_apart a owner)

insert_meets : (node : NodeView) (client : Bool) (owner : Owner) (table : ℕ) (row : List Value) (cursor : Edge) (key : List Value) (schema : Option Schema) → slice_get node.schemas table ≡ schema
    → plan_excluder owner table (plan_for node owner.0 (Insert table row) cursor schema) node.held ≡ None
    → answers (client && true && not (plan_for node owner.0 (Insert table row) cursor schema).insert) (plan_for node owner.0 (Insert table row) cursor schema) (plan_for node owner.0 (Insert table row) cursor schema).ends ≡ Duplicate key
    → InsertsAtLive node owner.0 (Insert table row) key
insert_meets node client owner table row cursor key None found free is = absurd (none_otherwise (client && true && not (empty_plan cursor).insert) true key is)
insert_meets node client owner table row cursor key (Some schema) found free is =
    let meets : (is_live node table (key_of schema row) ≡ true) × (key ≡ key_of schema row) = row_meets client (is_live node table (key_of schema row)) (key_of schema row) key is in
    let there : IsThere (live_row node table (key_of schema row)) = there_is (live_row node table (key_of schema row)) meets.0 in
    let live : live_row node table key ≡ Some there.there = ap (live_row node table) meets.1 ∙ there.is in
    let shared : excluder owner.0 table (OnKey (key_of schema row) Shared) node.held ≡ None =
    subst (λ (l : Bool). plan_excluder owner table (row_visit (key_of schema row) Shared l) node.held ≡ None) meets.0 free in
    record {
      table = table;
      row = row;
      inserts = refl;
      schema = schema;
      of_table = found;
      key_is = meets.1;
      there = there.there;
      live = live;
      stands = stands_for node owner.0 table key there.there (subst (λ (k : List Value). excluder owner.0 table (OnKey k Shared) node.held ≡ None) (sym meets.1) shared) live;
    }

statement_meets : (node : NodeView) (part : Part) (owner : Owner) (statement : Statement) (cursor : Edge) (key : List Value)
    → plan_excluder owner (table_of statement) (plan_for node owner.0 statement cursor (slice_get node.schemas (table_of statement))) node.held ≡ None
    → answers (is_duplicate part statement (plan_for node owner.0 statement cursor (slice_get node.schemas (table_of statement)))) (plan_for node owner.0 statement cursor (slice_get node.schemas (table_of statement)))
    (plan_for node owner.0 statement cursor (slice_get node.schemas (table_of statement))).ends ≡ Duplicate key
    → InsertsAtLive node owner.0 statement key
statement_meets node part owner (Insert table row) cursor key free is = insert_meets node (is_client part) owner table row cursor key (slice_get node.schemas table) refl free is
statement_meets node part owner (Replace table row) cursor key free is = absurd (not_inserts (is_client part) _ _ _ key is)
statement_meets node part owner (Delete table where_true) cursor key free is = absurd (not_inserts (is_client part) _ _ _ key is)
statement_meets node part owner (Update table sets where_true) cursor key free is = absurd (not_inserts (is_client part) _ _ _ key is)
statement_meets node part owner (LockRead table mode span where_true) cursor key free is = absurd (not_inserts (is_client part) _ _ _ key is)
statement_meets node part owner (Check table chunk span kind) cursor key free is = absurd (not_inserts (is_client part) _ _ _ key is)
statement_meets node part owner (SetMaster table chunk kind master) cursor key free is = absurd (not_inserts (is_client part) _ _ _ key is)
statement_meets node part owner (ClearChecks table) cursor key free is = absurd (not_inserts (is_client part) _ _ _ key is)

-- a session's visit

record Meets (session : SessionView) (node : NodeView) (key : List Value) : Type 0 where
  statement : Statement
  runs : RunsAt session.script session.next statement
  at_live : InsertsAtLive node session.owner.0 statement key

waits_otherwise : (cycle : Option (List ℕ)) (by owner : ℕ) (node : NodeView) (key : List Value) → answer_wait cycle by owner node ≡ Duplicate key → ⊥
waits_otherwise None by owner node key is = absurd (let q : answer_wait None by owner node ≡ Duplicate key = is in cc)
waits_otherwise (Some cycle) by owner node key is = absurd (let q : answer_wait (Some cycle) by owner node ≡ Duplicate key = is in cc)

by_meets : (session : SessionView) (node : NodeView) (txn : Txn) (walk : Walk) (key : List Value) → RunsAt session.script session.next walk.statement → txn.owner.0 ≡ session.owner.0 → (by : Option ℕ)
    → plan_excluder txn.owner (table_of walk.statement) (plan_of node txn walk) node.held ≡ by
    → answer_by by txn walk (plan_of node txn walk) node ≡ Duplicate key → Meets session node key
by_meets session node txn walk key runs own None free is = record {
  statement = walk.statement;
  runs = runs;
  at_live = subst (λ (owner : ℕ). InsertsAtLive node owner walk.statement key) own (statement_meets node txn.part txn.owner walk.statement walk.cursor key free is);
}
by_meets session node txn walk key runs own (Some by) waits is = absurd (waits_otherwise (cycle_of node txn.owner.0) by txn.owner.0 node key is)

in_meets : (session : SessionView) (node : NodeView) (txn : Txn) (key : List Value) → txn.owner.0 ≡ session.owner.0 → (walk : Option Walk) → IsAt session.script session.next walk
    → answer_in walk txn node ≡ Duplicate key → Meets session node key
in_meets session node txn key own None links is = absurd (let q : Done ≡ Duplicate key = is in cc)
in_meets session node txn key own (Some walk) links is =
    by_meets session node txn walk key links own (plan_excluder txn.owner (table_of walk.statement) (plan_of node txn walk) node.held) refl is

if_meets : (session : SessionView) (node : NodeView) (key : List Value) (txn : Option Txn) → txn_of session.owner.0 node.txns ≡ txn → Links session.script session.next txn
    → answer_if txn node ≡ Duplicate key → Meets session node key
if_meets session node key None found links is = absurd (let q : Done ≡ Duplicate key = is in cc)
if_meets session node key (Some txn) found links is = in_meets session node txn key (txn_owner session.owner.0 txn node.txns found) txn.current links is

same_line : (script : List ScriptLine) (place : ℕ) (one other : ScriptLine) → slice_get script place ≡ Some one → slice_get script place ≡ Some other → other ≡ one
same_line script place one other found too = let is : Some other ≡ Some one = sym too ∙ found in cc

pub meets_key : (session : SessionView) (node : NodeView) (line : ScriptLine) (key : List Value) → IsLinked session node → slice_get session.script session.next ≡ Some line
    → visit_answer session.owner.0 node ≡ Duplicate key → MeetsKey (record { session = session; node = node }) line.line
meets_key session node line key links found is =
    let meets : Meets session node key = if_meets session node key (txn_of session.owner.0 node.txns) refl links is in
    record {
      line = line;
      next = found;
      numbered = refl;
      statement = meets.statement;
      runs = ap (λ (l : ScriptLine). l.step) (sym (same_line session.script session.next line meets.runs.line found meets.runs.found)) ∙ meets.runs.runs;
      key = key;
      at_live = meets.at_live;
      answer = is;
    }
