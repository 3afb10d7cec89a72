-- A reading stays what its transaction's statements read, through its own calls.
use Rattle.std.proofs.Common.{◌≡◌, inl, ◌∙◌, ℕ, ◌&&◌, not, Bool, true, false, cond, List, [], ◌∷◌, ◌++◌, Option, None, Some, refl, ap, sym, subst}
use Rattle.std.specs.List.{slice_get, AllByRecursion}
use Rattle.std.specs.Option.{option_map_or, option_to_list}
use Rattle.std.proofs.lemmas.List.{append-nil}
use Rattle.row_types.specs.declared.values.Value.{Value}
use Rattle.row_types.specs.declared.lock_modes.LockMode.{LockMode}
use Rattle.row_types.specs.declared.lock_modes.LockMode.TheVariants.{Shared}
use Rattle.row_types.specs.declared.edges.Edge.{Edge}
use Rattle.row_types.specs.declared.edges.Edge.TheVariants.{Low}
use Rattle.row_types.specs.declared.edges.Span.{Span}
use Rattle.row_types.specs.Order.{edge_le}
use Rattle.row_types.specs.declared.digests.Digest.{Digest}
use Rattle.row_types.specs.declared.digests.DigestKind.{DigestKind}
use Rattle.row_types.specs.declared.table_schema.Schema.{Schema}
use Rattle.row_types.specs.Fit.{IsSchema}
use Rattle.row_types.specs.KeyRows.{TableRows}
use Rattle.ptc_statement.specs.declared.conditions.Cond.{Cond}
use Rattle.ptc_statement.specs.declared.statements.Statement.{Statement}
use Rattle.ptc_statement.specs.declared.statements.Statement.TheVariants.{Insert, Replace, Delete, Update, LockRead, Check, SetMaster, ClearChecks}
use Rattle.ptc_statement.specs.Reach.{reach_of}
use Rattle.ptc_statement.specs.Effect.{table_of}
use Rattle.ptc_statement.specs.Fits.{FitsSchemas}
use Rattle.row_digest.specs.Digest.{no_rows}
use Rattle.history.specs.Replay.{table_rows, fold}
use Rattle.lock_table.specs.declared.wants.Owner.{Owner}
use Rattle.txn_walk.specs.Plans.{next_visit, walk_visit}
use Rattle.node_model.specs.Kept.{FactsOf, TablesOf}
use Rattle.node_model.specs.declared.parts.Part.{Part}
use Rattle.node_model.specs.declared.parts.Part.TheVariants.{Client, Apply}
use Rattle.node_model.specs.declared.txns.Walk.{Walk}
use Rattle.node_model.specs.declared.txns.Txn.{Txn}
use Rattle.node_model.specs.Txns.{txn_of}
use Rattle.node_model.specs.Node.{NodeView, is_live, stops, plan_of, empty_plan, plan_excluder, is_client, is_duplicate, moved, start_of}
use Rattle.node_reads.specs.declared.gains.Gain.{Gain}
use Rattle.node_reads.specs.declared.gains.Gain.TheVariants.{Nothing, Row, Sum}
use Rattle.node_reads.specs.declared.readings.Reading.{Reading}
use Rattle.node_reads.specs.Gains.{row_met, gain_of, taken_at, sum_with}
use Rattle.node_reads.specs.Readings.{IsUnread, IsSameReading, IsGrown}
use Rattle.node_reads.specs.Reads.{rows_met, rows_taken, sum_made, tables_after_all, read_after, last_read, with_sum, sums_of}
use Rattle.node_reads.specs.ReadBy.{Reads, IsOnWay, IsReadUpTo, IsReadSoFar, IsReading}
use Rattle.node_reads.proofs.MetLemmas.{none_between, not_above, seen_tables, visit_meets}
use Rattle.node_reads.proofs.StatementLemmas.{last_read_more, sums_more, taken_more, sum_more, rows_read_is, sum_read_is}

-- a transaction that begins has read nothing
pub unread_is : (schemas : List Schema) (tables : TableRows) (owner : Owner) (part : Part) (reading : Reading) → IsUnread owner reading
    → IsReading schemas tables (record { owner = owner; part = part; done = []; current = None }) reading
unread_is schemas tables owner part reading is = record { rows = is.rows; sums = is.sums; so_far = (is.taken, is.sum) }

-- what is read depends on no capacity
pub same_is : (schemas : List Schema) (tables : TableRows) (txn : Txn) (old new : Reading) → IsSameReading old new → IsReading schemas tables txn old → IsReading schemas tables txn new
same_is schemas tables txn old new same is = record {
  rows = same.rows ∙ is.rows;
  sums = same.sums ∙ is.sums;
  so_far = at txn.current is.so_far;
}
  where
    at : (w : Option Walk) → IsReadSoFar schemas (tables_after_all schemas txn.done tables) w old → IsReadSoFar schemas (tables_after_all schemas txn.done tables) w new
    at None far = (same.taken ∙ far.0, same.sum ∙ far.1)
    at (Some walk) far = λ schema found. record { taken = same.taken ∙ (far schema found).taken; sum = same.sum ∙ (far schema found).sum; on_way = (far schema found).on_way }

-- nothing is met where a walk begins

none_taken : (schema : Schema) (statement : Statement) → rows_taken schema statement [] ≡ []
none_taken schema (Insert of row) = refl
none_taken schema (Replace of row) = refl
none_taken schema (Delete of where_true) = refl
none_taken schema (Update of sets where_true) = refl
none_taken schema (LockRead of mode span where_true) = refl
none_taken schema (Check of chunk span kind) = refl
none_taken schema (SetMaster of chunk kind master) = refl
none_taken schema (ClearChecks of) = refl

none_summed : (statement : Statement) → sum_made statement [] ≡ no_rows
none_summed (Insert of row) = refl
none_summed (Replace of row) = refl
none_summed (Delete of where_true) = refl
none_summed (Update of sets where_true) = refl
none_summed (LockRead of mode span where_true) = refl
none_summed (Check of chunk span kind) = refl
none_summed (SetMaster of chunk kind master) = refl
none_summed (ClearChecks of) = refl

pub started_is : (schemas : List Schema) (tables : TableRows) (txn : Txn) (statement : Statement) (cursor : Edge) (reading : Reading) → txn.current ≡ None → cursor ≡ start_of schemas statement
    → IsReading schemas tables txn reading → IsReading schemas tables (record txn { current = Some (record { statement = statement; cursor = cursor }) }) reading
started_is schemas tables txn statement cursor reading idle at_start is = record {
  rows = is.rows;
  sums = is.sums;
  so_far = λ schema found.
      let begin : cursor ≡ (reach_of schema statement).lo = at_start ∙ begins schema found in
      let met : rows_met schema (seen) statement cursor ≡ [] =
      none_between schema (reach_of schema statement).lo cursor (table_rows seen (table_of statement)) (ap (λ (e : Edge). e_le e schema) begin ∙ not_above (reach_of schema statement).lo) in
      record {
        taken = far.0 ∙ sym (ap (rows_taken schema statement) met ∙ none_taken schema statement);
        sum = far.1 ∙ sym (ap (sum_made statement) met ∙ none_summed statement);
        on_way = λ r. inl begin;
      };
}
  where
    seen : TableRows
    seen = tables_after_all schemas txn.done tables

    e_le : Edge → Schema → Bool
    e_le e schema = edge_le e (reach_of schema statement).lo

    begins : (schema : Schema) → slice_get schemas (table_of statement) ≡ Some schema → start_of schemas statement ≡ (reach_of schema statement).lo
    begins schema found = ap (λ (o : Option Schema). option_map_or (λ (s : Schema). (reach_of s statement).lo) o Low) found

    far : (reading.taken.items ≡ []) × (reading.sum ≡ no_rows)
    far = subst (λ (w : Option Walk). IsReadSoFar schemas (tables_after_all schemas txn.done tables) w reading) idle is.so_far

-- a statement that was started and not visited has read nothing
pub withdrawn_is : (schemas : List Schema) (tables : TableRows) (txn : Txn) (statement : Statement) (cursor : Edge) (schema : Schema) (reading : Reading) → txn.current ≡ None → cursor ≡ start_of schemas statement
    → slice_get schemas (table_of statement) ≡ Some schema → IsReading schemas tables (record txn { current = Some (record { statement = statement; cursor = cursor }) }) reading → IsReading schemas tables txn reading
withdrawn_is schemas tables txn statement cursor schema reading idle at_start found is =
    let begin : cursor ≡ (reach_of schema statement).lo = at_start ∙ ap (λ (o : Option Schema). option_map_or (λ (s : Schema). (reach_of s statement).lo) o Low) found in
    let met : rows_met schema (tables_after_all schemas txn.done tables) statement cursor ≡ [] =
    none_between schema (reach_of schema statement).lo cursor (table_rows (tables_after_all schemas txn.done tables) (table_of statement))
    (ap (λ (e : Edge). edge_le e (reach_of schema statement).lo) begin ∙ not_above (reach_of schema statement).lo) in
    let far = is.so_far schema found in
    record {
      rows = is.rows;
      sums = is.sums;
      so_far = subst (λ (w : Option Walk). IsReadSoFar schemas (tables_after_all schemas txn.done tables) w reading) (sym idle)
          (far.taken ∙ ap (rows_taken schema statement) met ∙ none_taken schema statement, far.sum ∙ ap (sum_made statement) met ∙ none_summed statement);
    }

-- a visit of a statement that reads nothing

pub record ReadsNothing (statement : Statement) : Type 0 where
  pub taken : (schema : Schema) (met : List (List Value)) → rows_taken schema statement met ≡ []
  pub sum : (met : List (List Value)) → sum_made statement met ≡ no_rows
  pub rows : (schemas : List Schema) (tables : TableRows) (rows : List (List Value)) → read_after schemas tables statement rows ≡ rows
  pub sums : (schemas : List Schema) (tables : TableRows) (sums : List Digest) → with_sum schemas tables statement sums ≡ sums
  pub no : Reads statement → ⊥

-- the transaction after a visit, by what the visit was
abbrev pub moved_by : Bool → Bool → Txn → Walk → Edge → Txn
moved_by refused ends txn walk after =
    cond refused (record txn { current = None }) (cond ends (record txn { done = txn.done ++ walk.statement ∷ []; current = None }) (record txn { current = Some (record { statement = walk.statement; cursor = after }) }))

pub other_is : (schemas : List Schema) (tables : TableRows) (txn : Txn) (walk : Walk) (schema : Schema) (after : Edge) (old new : Reading) (refused ends : Bool) → slice_get schemas (table_of walk.statement) ≡ Some schema
    → txn.current ≡ Some walk → ReadsNothing walk.statement → IsReading schemas tables txn old → IsGrown Nothing ends old new → IsReading schemas tables (moved_by refused ends txn walk after) new
other_is schemas tables txn walk schema after old new refused ends found current none is grown = at refused ends
  where
    far : IsReadUpTo schema (tables_after_all schemas txn.done tables) walk.statement walk.cursor old
    far = subst (λ (w : Option Walk). IsReadSoFar schemas (tables_after_all schemas txn.done tables) w old) current is.so_far schema found

    no_taken : new.taken.items ≡ []
    no_taken = grown.taken ∙ far.taken ∙ none.taken schema (rows_met schema (tables_after_all schemas txn.done tables) walk.statement walk.cursor)

    no_sum : new.sum ≡ no_rows
    no_sum = grown.sum ∙ far.sum ∙ none.sum (rows_met schema (tables_after_all schemas txn.done tables) walk.statement walk.cursor)

    at : (r e : Bool) → IsReading schemas tables (moved_by r e txn walk after) new
    at true e = record { rows = grown.rows ∙ is.rows; sums = grown.sums ∙ is.sums; so_far = (no_taken, no_sum) }
    at false true = record {
      rows = grown.rows ∙ is.rows ∙ sym (last_read_more schemas txn.done walk.statement tables [] ∙ none.rows schemas (tables_after_all schemas txn.done tables) (last_read schemas txn.done tables []));
      sums = grown.sums ∙ is.sums
          ∙ sym (sums_more schemas txn.done walk.statement tables ∙ ap (λ (more : List Digest). sums_of schemas txn.done tables ++ more) (none.sums schemas (tables_after_all schemas txn.done tables) [])
          ∙ append-nil (sums_of schemas txn.done tables));
      so_far = (no_taken, no_sum);
    }
    at false false = record {
      rows = grown.rows ∙ is.rows;
      sums = grown.sums ∙ is.sums;
      so_far = λ s f. record {
        taken = no_taken ∙ sym (none.taken s (rows_met s (tables_after_all schemas txn.done tables) walk.statement after));
        sum = no_sum ∙ sym (none.sum (rows_met s (tables_after_all schemas txn.done tables) walk.statement after));
        on_way = λ r. absurd (none.no r);
      };
    }

-- what the visit of a reading statement met
pub record Met (schema : Schema) (tables : TableRows) (statement : Statement) (cursor after : Edge) (row : Option (List Value)) (ends : Bool) : Type 0 where
  pub rows : rows_met schema tables statement (cond ends (reach_of schema statement).hi after) ≡ rows_met schema tables statement cursor ++ option_to_list row
  pub on_way : ends ≡ false → IsOnWay (reach_of schema statement) after

one_schema : (schemas : List Schema) (number : ℕ) (a b : Schema) → slice_get schemas number ≡ Some a → slice_get schemas number ≡ Some b → a ≡ b
one_schema schemas number a b first second = let q : Some a ≡ Some b = sym first ∙ second in cc

-- a locking read

pub read_is : (schemas : List Schema) (tables : TableRows) (txn : Txn) (of : ℕ) (mode : LockMode) (span : Span) (where_true : Option Cond) (cursor after : Edge) (schema : Schema) (row : Option (List Value)) (old new : Reading) (ends : Bool)
    → slice_get schemas of ≡ Some schema → txn.current ≡ Some (record { statement = LockRead of mode span where_true; cursor = cursor })
    → Met schema (tables_after_all schemas txn.done tables) (LockRead of mode span where_true) cursor after row ends
    → IsReading schemas tables txn old → IsGrown (Row (taken_at schema where_true row)) ends old new
    → IsReading schemas tables (moved_by false ends txn (record { statement = LockRead of mode span where_true; cursor = cursor }) after) new
read_is schemas tables txn of mode span where_true cursor after schema row old new ends found current met is grown = at ends met grown
  where
    statement : Statement
    statement = LockRead of mode span where_true

    seen : TableRows
    seen = tables_after_all schemas txn.done tables

    far : IsReadUpTo schema (tables_after_all schemas txn.done tables) (LockRead of mode span where_true) cursor old
    far = subst (λ (w : Option Walk). IsReadSoFar schemas (tables_after_all schemas txn.done tables) w old) current is.so_far schema found

    more : (edge : Edge) → rows_met schema (tables_after_all schemas txn.done tables) (LockRead of mode span where_true) edge ≡ rows_met schema (tables_after_all schemas txn.done tables) (LockRead of mode span where_true) cursor ++ option_to_list row
        → old.taken.items ++ option_to_list (taken_at schema where_true row) ≡ rows_taken schema (LockRead of mode span where_true) (rows_met schema (tables_after_all schemas txn.done tables) (LockRead of mode span where_true) edge)
    more edge m =
        ap (λ (rs : List (List Value)). rs ++ option_to_list (taken_at schema where_true row)) far.taken
        ∙ sym (ap (rows_taken schema (LockRead of mode span where_true)) m ∙ taken_more schema where_true (rows_met schema (tables_after_all schemas txn.done tables) (LockRead of mode span where_true) cursor) row)

    at : (e : Bool) → Met schema (tables_after_all schemas txn.done tables) (LockRead of mode span where_true) cursor after row e → IsGrown (Row (taken_at schema where_true row)) e old new
        → IsReading schemas tables (moved_by false e txn (record { statement = LockRead of mode span where_true; cursor = cursor }) after) new
    at true m g = record {
      rows = g.rows ∙ more (reach_of schema (LockRead of mode span where_true)).hi m.rows
          ∙ sym (last_read_more schemas txn.done (LockRead of mode span where_true) tables [] ∙ rows_read_is schemas (tables_after_all schemas txn.done tables) (LockRead of mode span where_true) schema found);
      sums = g.sums ∙ is.sums ∙ sym (sums_more schemas txn.done (LockRead of mode span where_true) tables ∙ append-nil (sums_of schemas txn.done tables));
      so_far = (g.taken, g.sum ∙ far.sum);
    }
    at false m g = record {
      rows = g.rows ∙ is.rows;
      sums = g.sums ∙ is.sums;
      so_far = λ s f.
          subst (λ (x : Schema). IsReadUpTo x (tables_after_all schemas txn.done tables) (LockRead of mode span where_true) after new) (one_schema schemas of schema s found f)
          (record { taken = g.taken ∙ more after m.rows; sum = g.sum ∙ far.sum; on_way = λ r. m.on_way refl });
    }

-- a CHECKSUM

pub check_is : (schemas : List Schema) (tables : TableRows) (txn : Txn) (of chunk : ℕ) (span : Span) (kind : DigestKind) (cursor after : Edge) (schema : Schema) (row : Option (List Value)) (old new : Reading) (ends : Bool)
    → slice_get schemas of ≡ Some schema → txn.current ≡ Some (record { statement = Check of chunk span kind; cursor = cursor })
    → Met schema (tables_after_all schemas txn.done tables) (Check of chunk span kind) cursor after row ends
    → IsReading schemas tables txn old → IsGrown (Sum (sum_with kind row old.sum)) ends old new
    → IsReading schemas tables (moved_by false ends txn (record { statement = Check of chunk span kind; cursor = cursor }) after) new
check_is schemas tables txn of chunk span kind cursor after schema row old new ends found current met is grown = at ends met grown
  where
    far : IsReadUpTo schema (tables_after_all schemas txn.done tables) (Check of chunk span kind) cursor old
    far = subst (λ (w : Option Walk). IsReadSoFar schemas (tables_after_all schemas txn.done tables) w old) current is.so_far schema found

    more : (edge : Edge) → rows_met schema (tables_after_all schemas txn.done tables) (Check of chunk span kind) edge ≡ rows_met schema (tables_after_all schemas txn.done tables) (Check of chunk span kind) cursor ++ option_to_list row
        → sum_with kind row old.sum ≡ sum_made (Check of chunk span kind) (rows_met schema (tables_after_all schemas txn.done tables) (Check of chunk span kind) edge)
    more edge m =
        ap (sum_with kind row) far.sum
        ∙ sym (ap (sum_made (Check of chunk span kind)) m ∙ sum_more kind (rows_met schema (tables_after_all schemas txn.done tables) (Check of chunk span kind) cursor) row)

    at : (e : Bool) → Met schema (tables_after_all schemas txn.done tables) (Check of chunk span kind) cursor after row e → IsGrown (Sum (sum_with kind row old.sum)) e old new
        → IsReading schemas tables (moved_by false e txn (record { statement = Check of chunk span kind; cursor = cursor }) after) new
    at true m g = record {
      rows = g.rows ∙ is.rows ∙ sym (last_read_more schemas txn.done (Check of chunk span kind) tables []);
      sums = g.sums ∙ ap (λ (ss : List Digest). ss ++ sum_with kind row old.sum ∷ []) is.sums
          ∙ ap (λ (d : Digest). sums_of schemas txn.done tables ++ d ∷ []) (more (reach_of schema (Check of chunk span kind)).hi m.rows
          ∙ sym (sum_read_is schemas (tables_after_all schemas txn.done tables) (Check of chunk span kind) schema found))
          ∙ sym (sums_more schemas txn.done (Check of chunk span kind) tables);
      so_far = (g.taken ∙ far.taken, g.sum);
    }
    at false m g = record {
      rows = g.rows ∙ is.rows;
      sums = g.sums ∙ is.sums;
      so_far = λ s f.
          subst (λ (x : Schema). IsReadUpTo x (tables_after_all schemas txn.done tables) (Check of chunk span kind) after new) (one_schema schemas of schema s found f)
          (record { taken = g.taken ∙ far.taken; sum = g.sum ∙ more after m.rows; on_way = λ r. m.on_way refl });
    }

-- the visit of any statement

pub record Visiting (node : NodeView) (txn : Txn) (walk : Walk) (schema : Schema) : Type 0 where
  pub facts : FactsOf node
  pub are : TablesOf node
  pub is : IsSchema schema
  pub fit : AllByRecursion (FitsSchemas node.schemas) txn.done
  pub found : txn_of txn.owner.0 node.txns ≡ Some txn
  pub current : txn.current ≡ Some walk
  pub there : slice_get node.schemas (table_of walk.statement) ≡ Some schema
  pub none : plan_excluder txn.owner (table_of walk.statement) (plan_of node txn walk) node.held ≡ None

no_insert : (part : Part) (x : Bool) → is_client part && false && x ≡ false
no_insert Client x = refl
no_insert (Apply entry) x = refl

plan_there : (node : NodeView) (txn : Txn) (walk : Walk) (schema : Schema) → slice_get node.schemas (table_of walk.statement) ≡ Some schema
    → plan_of node txn walk ≡ next_visit schema walk.statement walk.cursor (stops node txn.owner.0 (table_of walk.statement)) (is_live node (table_of walk.statement))
plan_there node txn walk schema there =
    ap (λ (o : Option Schema). option_map_or (λ (s : Schema). next_visit s walk.statement walk.cursor (stops node txn.owner.0 (table_of walk.statement)) (is_live node (table_of walk.statement))) o (empty_plan walk.cursor)) there

way_of : (node : NodeView) (txn : Txn) (walk : Walk) (schema : Schema) (reading : Reading) → Visiting node txn walk schema → Reads walk.statement
    → IsReading node.schemas (fold node.schemas node.start node.history).tables txn reading → IsOnWay (reach_of schema walk.statement) walk.cursor
way_of node txn walk schema reading v reads is =
    (subst (λ (w : Option Walk). IsReadSoFar node.schemas (seen_tables node txn) w reading) v.current is.so_far schema v.there).on_way reads

met_of : (node : NodeView) (txn : Txn) (walk : Walk) (schema : Schema) (mode : LockMode) (reading : Reading) → Visiting node txn walk schema → Reads walk.statement
    → IsReading node.schemas (fold node.schemas node.start node.history).tables txn reading
    → plan_of node txn walk ≡ walk_visit mode (reach_of schema walk.statement) walk.cursor (stops node txn.owner.0 (table_of walk.statement))
    → Met schema (seen_tables node txn) walk.statement walk.cursor (plan_of node txn walk).after (row_met node (table_of walk.statement) (plan_of node txn walk).on_key) (plan_of node txn walk).ends
met_of node txn walk schema mode reading v reads is plan =
    let m = visit_meets node txn walk schema mode (record {
      facts = v.facts;
      are = v.are;
      is = v.is;
      fit = v.fit;
      found = v.found;
      current = v.current;
      there = v.there;
      plan = plan;
      none = v.none;
      on_way = way_of node txn walk schema reading v reads is;
    }) in
    record { rows = m.rows (plan_of node txn walk).ends refl; on_way = m.on_way }

abbrev pub gain_at : NodeView → Txn → Walk → Schema → Digest → Gain
gain_at node txn walk schema sum = gain_of schema walk.statement (row_met node (table_of walk.statement) (plan_of node txn walk).on_key) sum

abbrev Visited : NodeView → Txn → Walk → Schema → Reading → Reading → Type 0
Visited node txn walk schema old new =
    Visiting node txn walk schema → IsReading node.schemas (fold node.schemas node.start node.history).tables txn old → IsGrown (gain_at node txn walk schema old.sum) (plan_of node txn walk).ends old new
    → IsReading node.schemas (fold node.schemas node.start node.history).tables (moved txn walk (plan_of node txn walk)) new

visited_other : (node : NodeView) (txn : Txn) (walk : Walk) (schema : Schema) (old new : Reading) → ReadsNothing walk.statement → Visiting node txn walk schema
    → IsReading node.schemas (fold node.schemas node.start node.history).tables txn old → IsGrown Nothing (plan_of node txn walk).ends old new
    → IsReading node.schemas (fold node.schemas node.start node.history).tables (moved txn walk (plan_of node txn walk)) new
visited_other node txn walk schema old new nothing v is grown =
    other_is node.schemas (fold node.schemas node.start node.history).tables txn walk schema (plan_of node txn walk).after old new (is_duplicate txn.part walk.statement (plan_of node txn walk)) (plan_of node txn walk).ends
    v.there v.current nothing is grown

pub visited_is : (node : NodeView) (txn : Txn) (statement : Statement) (cursor : Edge) (schema : Schema) (old new : Reading) → Visited node txn (record { statement = statement; cursor = cursor }) schema old new
visited_is node txn (Insert of row) cursor schema old new v is grown =
    visited_other node txn (record { statement = Insert of row; cursor = cursor }) schema old new (record { taken = λ s m. refl; sum = λ m. refl; rows = λ ss t rs. refl; sums = λ ss t ds. refl; no = λ r. r }) v is grown
visited_is node txn (Replace of row) cursor schema old new v is grown =
    visited_other node txn (record { statement = Replace of row; cursor = cursor }) schema old new (record { taken = λ s m. refl; sum = λ m. refl; rows = λ ss t rs. refl; sums = λ ss t ds. refl; no = λ r. r }) v is grown
visited_is node txn (Delete of where_true) cursor schema old new v is grown =
    visited_other node txn (record { statement = Delete of where_true; cursor = cursor }) schema old new (record { taken = λ s m. refl; sum = λ m. refl; rows = λ ss t rs. refl; sums = λ ss t ds. refl; no = λ r. r }) v is grown
visited_is node txn (Update of sets where_true) cursor schema old new v is grown =
    visited_other node txn (record { statement = Update of sets where_true; cursor = cursor }) schema old new (record { taken = λ s m. refl; sum = λ m. refl; rows = λ ss t rs. refl; sums = λ ss t ds. refl; no = λ r. r }) v is grown
visited_is node txn (LockRead of mode span where_true) cursor schema old new v is grown =
    let met = met_of node txn (record { statement = LockRead of mode span where_true; cursor = cursor }) schema mode old v tt is (plan_there node txn (record { statement = LockRead of mode span where_true; cursor = cursor }) schema v.there) in
    let after = plan_of node txn (record { statement = LockRead of mode span where_true; cursor = cursor }) in
    subst (λ (r : Bool). IsReading node.schemas (fold node.schemas node.start node.history).tables (moved_by r after.ends txn (record { statement = LockRead of mode span where_true; cursor = cursor }) after.after) new)
    (sym (no_insert txn.part (not after.insert)))
    (read_is node.schemas (fold node.schemas node.start node.history).tables txn of mode span where_true cursor after.after schema (row_met node of after.on_key) old new after.ends v.there v.current met is grown)
visited_is node txn (Check of chunk span kind) cursor schema old new v is grown =
    let met = met_of node txn (record { statement = Check of chunk span kind; cursor = cursor }) schema Shared old v tt is (plan_there node txn (record { statement = Check of chunk span kind; cursor = cursor }) schema v.there) in
    let after = plan_of node txn (record { statement = Check of chunk span kind; cursor = cursor }) in
    subst (λ (r : Bool). IsReading node.schemas (fold node.schemas node.start node.history).tables (moved_by r after.ends txn (record { statement = Check of chunk span kind; cursor = cursor }) after.after) new)
    (sym (no_insert txn.part (not after.insert)))
    (check_is node.schemas (fold node.schemas node.start node.history).tables txn of chunk span kind cursor after.after schema (row_met node of after.on_key) old new after.ends v.there v.current met is grown)
visited_is node txn (SetMaster of chunk kind master) cursor schema old new v is grown =
    visited_other node txn (record { statement = SetMaster of chunk kind master; cursor = cursor }) schema old new (record { taken = λ s m. refl; sum = λ m. refl; rows = λ ss t rs. refl; sums = λ ss t ds. refl; no = λ r. r }) v is grown
visited_is node txn (ClearChecks of) cursor schema old new v is grown =
    visited_other node txn (record { statement = ClearChecks of; cursor = cursor }) schema old new (record { taken = λ s m. refl; sum = λ m. refl; rows = λ ss t rs. refl; sums = λ ss t ds. refl; no = λ r. r }) v is grown
