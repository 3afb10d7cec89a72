-- What a visit reads: the live row at its key, which can be encoded.
use Rattle.std.proofs.Common.{◌≡◌, ◌≢◌, ◌∙◌, ℕ, List, [], ◌∷◌, Option, None, Some, refl, ap, sym, subst, ◌<◌, ◌^◌, length, arith}
use Rattle.std.specs.Prelude.{IfSome, IsSome, is_some}
use Rattle.std.specs.List.{slice_get, AllByRecursion}
use Rattle.row_types.specs.declared.values.Value.{Value}
use Rattle.row_types.specs.declared.values.Value.TheVariants.{Null, Int, Text as OneText}
use Rattle.row_types.specs.declared.lock_modes.LockMode.{LockMode}
use Rattle.row_types.specs.declared.table_schema.Schema.{Schema}
use Rattle.row_types.specs.declared.table_schema.Column.{Column}
use Rattle.row_types.specs.declared.table_schema.ColumnKind.{ColumnKind}
use Rattle.row_types.specs.declared.table_schema.ColumnKind.TheVariants.{Int as IntColumn, BigInt, Text as TextColumn}
use Rattle.row_types.specs.Fit.{KindFits, TextFits, LengthFits, ValueFits, ValuesFit}
use Rattle.row_types.specs.Faults.{TextIsShort}
use Rattle.row_types.specs.KeyRows.{row_at}
use Rattle.ordered_table.specs.TableView.{TableView}
use Rattle.ptc_statement.specs.Effect.{table_of}
use Rattle.row_digest.specs.Encoding.{IsEncodable}
use Rattle.history.specs.Replay.{fold}
use Rattle.lock_table.specs.declared.wants.Owner.{Owner}
use Rattle.txn_walk.specs.declared.plans.Plan.{Plan}
use Rattle.node_model.specs.declared.txns.Walk.{Walk}
use Rattle.node_model.specs.declared.txns.Txn.{Txn}
use Rattle.node_model.specs.Txns.{txn_of, with_txn, with_step, stepped_if}
use Rattle.node_model.specs.Node.{plan_of, plan_excluder, is_duplicate}
use Rattle.node_model.proofs.CallLemmas.{own_txn}
use Rattle.node_reads.specs.declared.gains.Gain.{Gain}
use Rattle.node_reads.specs.declared.readings.Reading.{Reading}
use Rattle.node_reads.specs.Gains.{row_met, gain_of, CanBeAdded}
use Rattle.node_reads.specs.Readings.{reading_of, HasGrown}
use Rattle.node_reads.specs.ReadBy.{AllRead}
use Rattle.node_reads.proofs.KeptReads.{own_at, visited_reads}
use Rattle.node_parts.specs.declared.parts.Parts.{Parts}
use Rattle.node_visits.specs.declared.visits.Due.{Due}
use Rattle.node_parts.specs.Kept.{node_view, PartsKept}
use Rattle.node_parts.specs.KeptReads.{ReadsKept}
use Rattle.node_visits.specs.ReadDues.{row_under, HasGain}
use Rattle.node_visits.specs.Dues.{IsDue}
use Rattle.node_parts.specs.Views.{IsUnderWay}
use Rattle.node_visits.proofs.ChangeLemmas.{row_fits}
use Rattle.node_visits.proofs.SettleLemmas.{turn_of}

-- a row that fits can be encoded

text_is_short : (kind : ColumnKind) (text : List ℕ) → KindFits kind → TextFits kind text → length text < 2 ^ 32
text_is_short IntColumn text fits short = absurd short
text_is_short BigInt text fits short = absurd short
text_is_short (TextColumn max) text fits short = omega arith

value_is_short : (column : Column) (value : Value) → LengthFits column → ValueFits column value → TextIsShort value
value_is_short column Null fits value = tt
value_is_short column (Int n) fits value = tt
value_is_short column (OneText text) fits value = text_is_short column.kind text fits value

values_are_short : (columns : List Column) (values : List Value) → AllByRecursion LengthFits columns → ValuesFit columns values → AllByRecursion TextIsShort values
values_are_short [] [] lengths fit = tt
values_are_short [] (value ∷ values) lengths fit = absurd fit
values_are_short (column ∷ columns) [] lengths fit = tt
values_are_short (column ∷ columns) (value ∷ values) lengths fit = (value_is_short column value lengths.0 fit.0, values_are_short columns values lengths.1 fit.1)

row_can : (parts : Parts) (number : ℕ) (schema : Schema) (key : List Value) (live : TableView) → PartsKept parts → slice_get parts.schemas.tables number ≡ Some schema → slice_get parts.tables.items number ≡ Some live
    → IfSome (row_at live.key_len key live.rows) IsEncodable
row_can parts number schema key live kept found there = at (row_at live.key_len key live.rows) refl
  where
    one : (kept.live number schema found).live ≡ live
    one = let q : Some (kept.live number schema found).live ≡ Some live = sym (kept.live number schema found).there ∙ there in cc

    at : (o : Option (List Value)) → row_at live.key_len key live.rows ≡ o → IfSome o IsEncodable
    at None e = tt
    at (Some row) e =
        let s = (kept.live number schema found).sound in
        values_are_short schema.columns row s.is_schema.lengths
        (row_fits schema key row (kept.live number schema found).live.rows s.is_table
        (ap (λ (n : ℕ). row_at n key (kept.live number schema found).live.rows) (sym s.same_key) ∙ ap (λ (t : TableView). row_at t.key_len key t.rows) one ∙ e))

pub can_be_added : (parts : Parts) (number : ℕ) (schema : Schema) (slice : List TableView) (on_key : Option (List Value × LockMode)) (row : Option (List Value)) → PartsKept parts
    → slice_get parts.schemas.tables number ≡ Some schema → slice ≡ parts.tables.items → row ≡ row_under on_key (slice_get slice number) → CanBeAdded row
can_be_added parts number schema slice on_key row kept found same is =
    subst CanBeAdded (sym (is ∙ ap (λ (ts : List TableView). row_under on_key (slice_get ts number)) same)) (by on_key (slice_get parts.tables.items number) refl)
  where
    by : (o : Option (List Value × LockMode)) (t : Option TableView) → slice_get parts.tables.items number ≡ t → CanBeAdded (row_under o t)
    by None t e = tt
    by (Some lock) None e = tt
    by (Some lock) (Some live) e = row_can parts number schema lock.0 live kept found e

row_is : (parts : Parts) (number : ℕ) (schema : Schema) (on_key : Option (List Value × LockMode)) → PartsKept parts → slice_get parts.schemas.tables number ≡ Some schema
    → row_under on_key (slice_get parts.tables.items number) ≡ row_met (node_view parts) number on_key
row_is parts number schema None kept found = refl
row_is parts number schema (Some lock) kept found =
    let l = kept.live number schema found in
    ap (row_under (Some lock)) l.there ∙ l.rows lock.0

pub gain_is : (parts : Parts) (owner : ℕ) (txn : Txn) (walk : Walk) (schema : Schema) (reading : Reading) (slice : List TableView) (number : ℕ) (on_key : Option (List Value × LockMode)) (row : Option (List Value)) (gain : Gain)
    → PartsKept parts → txn_of owner parts.txns ≡ Some txn → txn.current ≡ Some walk → slice_get parts.schemas.tables number ≡ Some schema → number ≡ table_of walk.statement
    → reading_of owner parts.reads.items ≡ Some reading → slice ≡ parts.tables.items → row ≡ row_under on_key (slice_get slice number) → gain ≡ gain_of schema walk.statement row reading.sum
    → HasGain owner (node_view parts) parts.reads.items on_key gain
gain_is parts owner txn walk schema reading slice number on_key row gain kept found current there num read same at is =
    let here : slice_get parts.schemas.tables (table_of walk.statement) ≡ Some schema = ap (slice_get parts.schemas.tables) (sym num) ∙ there in
    let met : row ≡ row_met (node_view parts) (table_of walk.statement) on_key =
    at ∙ (λ i. row_under on_key (slice_get (same i) (num i))) ∙ row_is parts (table_of walk.statement) schema on_key kept here in
    record {
      txn = txn;
      walk = walk;
      schema = schema;
      reading = reading;
      found = found;
      current = current;
      there = here;
      read = read;
      is = is ∙ ap (λ (r : Option (List Value)). gain_of schema walk.statement r reading.sum) met;
    }

-- each open transaction has its reading after a visit
pub settled_reads : (old : Parts) (owner : Owner) (due : Due) (gain : Gain) (after : List Txn) (new : List Reading) → PartsKept old → ReadsKept old → (is : IsDue owner.0 (node_view old) due) → due.by ≡ None
    → HasGain owner.0 (node_view old) old.reads.items due.plan.on_key gain → HasGrown gain due.plan.ends owner.0 old.reads.items new
    → ((other : ℕ) → other ≢ owner.0 → reading_of other new ≡ reading_of other old.reads.items)
    → after ≡ with_step due.refused due.plan.ends due.plan.after (txn_of owner.0 old.txns) old.txns
    → AllRead old.schemas.tables (fold old.schemas.tables old.start old.history.entries).tables after new
settled_reads old owner due gain after new kept reads is free g grown others did =
    visited_reads (node_view old) owner.0 g.txn g.walk g.schema after old.reads.items new gain due.plan.ends reads g.found
    (record {
      facts = kept.laws.facts;
      are = kept.laws.tables;
      is = (kept.live (table_of g.walk.statement) g.schema g.there).sound.is_schema;
      fit = (kept.laws.fits owner.0 g.txn g.found).done;
      found = own_txn (node_view old) owner.0 g.txn g.found;
      current = g.current;
      there = g.there;
      none = (λ i. plan_excluder (sym same_txn i).owner (table_of (sym same_walk i).statement) (plan_of (node_view old) (sym same_txn i) (sym same_walk i)) old.locks.held) ∙ (turn_of old owner due kept is free).none;
    })
    grown
    (g.is ∙ (λ i. gain_of g.schema g.walk.statement (row_met (node_view old) (table_of g.walk.statement) (plan i).on_key) (same_reading i).sum))
    (ap (λ (p : Plan). p.ends) plan)
    others
    (did ∙ ap (λ (o : Option Txn). with_step due.refused due.plan.ends due.plan.after o old.txns) g.found
    ∙ (λ i. with_txn (stepped_if (refused i) (plan i).ends (plan i).after g.txn (g.current i)) old.txns))
  where
    same_txn : is.txn ≡ g.txn
    same_txn = let q : Some is.txn ≡ Some g.txn = sym is.found ∙ g.found in cc

    same_walk : is.walk ≡ g.walk
    same_walk = let q : Some is.walk ≡ Some g.walk = sym is.current ∙ ap (λ (t : Txn). t.current) same_txn ∙ g.current in cc

    same_reading : g.reading ≡ grown.old
    same_reading = let q : Some g.reading ≡ Some grown.old = sym g.read ∙ grown.was in cc

    plan : due.plan ≡ plan_of (node_view old) g.txn g.walk
    plan = is.plan ∙ (λ i. plan_of (node_view old) (same_txn i) (same_walk i))

    refused : due.refused ≡ is_duplicate g.txn.part g.walk.statement (plan_of (node_view old) g.txn g.walk)
    refused = is.refused ∙ (λ i. is_duplicate (same_txn i).part (same_walk i).statement (plan_of (node_view old) (same_txn i) (same_walk i)))

-- the reading of an owner whose statement is in progress
pub reading_there : (parts : Parts) (owner : ℕ) → ReadsKept parts → IsUnderWay owner (node_view parts) → IsSome (reading_of owner parts.reads.items)
reading_there parts owner reads under =
    ap is_some (own_at parts.schemas.tables (fold parts.schemas.tables parts.start parts.history.entries).tables owner under.txn parts.txns parts.reads.items reads under.found).is
