-- A reading stays what its transaction's statements read, whatever others commit.
use Rattle.std.proofs.Common.{◌≡◌, inl, inr, ◌∙◌, ℕ, ◌&&◌, true, false, List, [], ◌∷◌, Option, None, Some, refl, ap, sym}
use Rattle.std.specs.Prelude.{option_and_then}
use Rattle.std.specs.List.{slice_get, AllByRecursion}
use Rattle.std.specs.Option.{option_map_or}
use Rattle.row_types.specs.declared.values.Value.{Value}
use Rattle.row_types.specs.declared.lock_modes.LockMode.TheVariants.{Shared}
use Rattle.row_types.specs.declared.edges.Edge.{Edge}
use Rattle.row_types.specs.declared.edges.Edge.TheVariants.{After}
use Rattle.row_types.specs.declared.edges.Span.{Span}
use Rattle.row_types.specs.declared.digests.Digest.{Digest}
use Rattle.row_types.specs.declared.table_schema.Schema.{Schema}
use Rattle.row_types.specs.Order.{has, is_past_edge, is_before_edge}
use Rattle.row_types.specs.Fit.{IsSchema, AreTables}
use Rattle.row_types.specs.KeyRows.{TableRows}
use Rattle.row_types.proofs.SpanLemmas.{edge_le_trans}
use Rattle.ptc_statement.specs.declared.statements.Statement.{Statement}
use Rattle.ptc_statement.specs.declared.statements.Statement.TheVariants.{Insert, Replace, Delete, Update, LockRead, Check, SetMaster, ClearChecks}
use Rattle.ptc_statement.specs.Reach.{reach_of}
use Rattle.ptc_statement.specs.Effect.{table_of, row_at}
use Rattle.ptc_statement.specs.Fits.{FitsSchemas}
use Rattle.history.specs.Replay.{table_rows, tables_after}
use Rattle.lock_table.specs.declared.wants.Holding.{Holding}
use Rattle.lock_table.proofs.GapLemmas.{both_true}
use Rattle.lock_table.proofs.HoldLemmas.{is_number}
use Rattle.node_model.specs.declared.txns.Walk.{Walk}
use Rattle.node_model.specs.declared.txns.Txn.{Txn}
use Rattle.node_model.specs.Node.{act, reaches}
use Rattle.node_model.specs.LockFacts.{CommittedRows, Guards, IsCovered, IsCoveredWhole, AreCovered, IsCoveredSoFar, TxnCovered}
use Rattle.node_model.proofs.CommitLemmas.{table_row, table_at, tables_kept, row_after}
use Rattle.node_model.proofs.PlanLemmas.{not_both}
use Rattle.node_model.proofs.RowsRead.{rows_same_in}
use Rattle.node_reads.specs.declared.readings.Reading.{Reading}
use Rattle.node_reads.specs.Reads.{rows_met, rows_taken, sum_made, tables_after_all, read_after, last_read, with_sum, sums_of}
use Rattle.node_reads.specs.ReadBy.{Reads, IsOnWay, IsReadUpTo, IsReadSoFar, IsReading}
use Rattle.node_reads.proofs.StatementLemmas.{rows_read_is, sum_read_is}

-- two states of the tables with the same row at each key that an owner guards
pub record AreAlike (schemas : List Schema) (owner : ℕ) (held : List Holding) (tables others : TableRows) : Type 0 where
  pub first : AreTables schemas tables
  pub second : AreTables schemas others
  pub is : (number : ℕ) (schema : Schema) → slice_get schemas number ≡ Some schema → IsSchema schema
  pub same : (table : ℕ) (key : List Value) → Guards owner table key held → table_row schemas others table key ≡ table_row schemas tables table key

alike_after : (schemas : List Schema) (owner : ℕ) (held : List Holding) (tables others : TableRows) (statement : Statement) → FitsSchemas schemas statement
    → AreAlike schemas owner held tables others → AreAlike schemas owner held (tables_after schemas statement tables) (tables_after schemas statement others)
alike_after schemas owner held tables others statement fits alike = record {
  first = tables_kept schemas statement tables alike.first fits;
  second = tables_kept schemas statement others alike.second fits;
  is = alike.is;
  same = λ table key guards.
      row_after schemas statement others table key alike.second fits
      ∙ ap (act schemas statement table key) (alike.same table key guards)
      ∙ sym (row_after schemas statement tables table key alike.first fits);
}

-- a key at which an owner's statement that reads is covered is guarded
guards_read : (rows : CommittedRows) (held : List Holding) (owner : ℕ) (statement : Statement) (table : ℕ) (key : List Value) → Reads statement → IsCovered rows held owner statement table key → Guards owner table key held
guards_read rows held owner (Insert of row) table key reads covered = absurd reads
guards_read rows held owner (Replace of row) table key reads covered = absurd reads
guards_read rows held owner (Delete of where_true) table key reads covered = absurd reads
guards_read rows held owner (Update of sets where_true) table key reads covered = absurd reads
guards_read rows held owner (LockRead of mode span where_true) table key reads (inl on) = inl (mode, on)
guards_read rows held owner (LockRead of mode span where_true) table key reads (inr over) = inr over
guards_read rows held owner (Check of chunk span kind) table key reads (inl on) = inl (Shared, on)
guards_read rows held owner (Check of chunk span kind) table key reads (inr over) = inr over
guards_read rows held owner (SetMaster of chunk kind master) table key reads covered = absurd reads
guards_read rows held owner (ClearChecks of) table key reads covered = absurd reads

-- the rows up to an edge are the same where each key is guarded
met_same : (schemas : List Schema) (owner : ℕ) (held : List Holding) (tables others : TableRows) (statement : Statement) (edge : Edge) (schema : Schema) → AreAlike schemas owner held tables others
    → slice_get schemas (table_of statement) ≡ Some schema
    → ((key : List Value) → has (record { lo = (reach_of schema statement).lo; hi = edge }) key ≡ true → Guards owner (table_of statement) key held)
    → rows_met schema others statement edge ≡ rows_met schema tables statement edge
met_same schemas owner held tables others statement edge schema alike found guarded =
    rows_same_in schema (record { lo = (reach_of schema statement).lo; hi = edge }) (table_rows others (table_of statement)) (table_rows tables (table_of statement)) (alike.is (table_of statement) schema found)
    (table_at schemas others (table_of statement) schema alike.second found).is_table (table_at schemas tables (table_of statement) schema alike.first found).is_table
    (λ key over.
    sym (there others key)
    ∙ alike.same (table_of statement) key (guarded key over)
    ∙ there tables key)
  where
    there : (t : TableRows) (key : List Value) → table_row schemas t (table_of statement) key ≡ row_at schema key (table_rows t (table_of statement))
    there t key = ap (λ (o : Option Schema). option_and_then (λ (s : Schema). row_at s key (table_rows t (table_of statement))) o) found

-- the reach of a statement at its own table
reach_here : (schemas : List Schema) (statement : Statement) (schema : Schema) (key : List Value) → slice_get schemas (table_of statement) ≡ Some schema → has (reach_of schema statement) key ≡ true
    → reaches schemas statement (table_of statement) key ≡ true
reach_here schemas statement schema key found over =
    λ i. is_number (table_of statement) (table_of statement) refl i && (ap (λ (o : Option Schema). option_map_or (λ (s : Schema). has (reach_of s statement) key) o false) found ∙ over) i

-- what is read of the whole reach is the same
rows_read_same : (schemas : List Schema) (rows : CommittedRows) (owner : ℕ) (held : List Holding) (tables others : TableRows) (statement : Statement) → Reads statement → FitsSchemas schemas statement
    → AreAlike schemas owner held tables others → IsCoveredWhole schemas rows held owner statement
    → (schema : Schema) → slice_get schemas (table_of statement) ≡ Some schema → rows_met schema others statement (reach_of schema statement).hi ≡ rows_met schema tables statement (reach_of schema statement).hi
rows_read_same schemas rows owner held tables others statement reads fits alike covered schema found =
    met_same schemas owner held tables others statement (reach_of schema statement).hi schema alike found
    (λ key over. guards_read rows held owner statement (table_of statement) key reads (covered (table_of statement) key (reach_here schemas statement schema key found over)))

read_after_same : (schemas : List Schema) (rows : CommittedRows) (owner : ℕ) (held : List Holding) (tables others : TableRows) (statement : Statement) (read : List (List Value)) → FitsSchemas schemas statement
    → AreAlike schemas owner held tables others → IsCoveredWhole schemas rows held owner statement → read_after schemas others statement read ≡ read_after schemas tables statement read
read_after_same schemas rows owner held tables others (Insert of row) read fits alike covered = refl
read_after_same schemas rows owner held tables others (Replace of row) read fits alike covered = refl
read_after_same schemas rows owner held tables others (Delete of where_true) read fits alike covered = refl
read_after_same schemas rows owner held tables others (Update of sets where_true) read fits alike covered = refl
read_after_same schemas rows owner held tables others (LockRead of mode span where_true) read fits alike covered =
    rows_read_is schemas others (LockRead of mode span where_true) fits.schema fits.found
    ∙ ap (rows_taken fits.schema (LockRead of mode span where_true)) (rows_read_same schemas rows owner held tables others (LockRead of mode span where_true) tt fits alike covered fits.schema fits.found)
    ∙ sym (rows_read_is schemas tables (LockRead of mode span where_true) fits.schema fits.found)
read_after_same schemas rows owner held tables others (Check of chunk span kind) read fits alike covered = refl
read_after_same schemas rows owner held tables others (SetMaster of chunk kind master) read fits alike covered = refl
read_after_same schemas rows owner held tables others (ClearChecks of) read fits alike covered = refl

with_sum_same : (schemas : List Schema) (rows : CommittedRows) (owner : ℕ) (held : List Holding) (tables others : TableRows) (statement : Statement) (sums : List Digest) → FitsSchemas schemas statement
    → AreAlike schemas owner held tables others → IsCoveredWhole schemas rows held owner statement → with_sum schemas others statement sums ≡ with_sum schemas tables statement sums
with_sum_same schemas rows owner held tables others (Insert of row) sums fits alike covered = refl
with_sum_same schemas rows owner held tables others (Replace of row) sums fits alike covered = refl
with_sum_same schemas rows owner held tables others (Delete of where_true) sums fits alike covered = refl
with_sum_same schemas rows owner held tables others (Update of sets where_true) sums fits alike covered = refl
with_sum_same schemas rows owner held tables others (LockRead of mode span where_true) sums fits alike covered = refl
with_sum_same schemas rows owner held tables others (Check of chunk span kind) sums fits alike covered =
    ap (λ (d : Digest). d ∷ sums)
    (sum_read_is schemas others (Check of chunk span kind) fits.schema fits.found
    ∙ ap (sum_made (Check of chunk span kind)) (rows_read_same schemas rows owner held tables others (Check of chunk span kind) tt fits alike covered fits.schema fits.found)
    ∙ sym (sum_read_is schemas tables (Check of chunk span kind) fits.schema fits.found))
with_sum_same schemas rows owner held tables others (SetMaster of chunk kind master) sums fits alike covered = refl
with_sum_same schemas rows owner held tables others (ClearChecks of) sums fits alike covered = refl

-- the statements that are done

pub last_read_same : (schemas : List Schema) (rows : CommittedRows) (owner : ℕ) (held : List Holding) (tables others : TableRows) (done : List Statement) (read : List (List Value)) → AllByRecursion (FitsSchemas schemas) done
    → AreAlike schemas owner held tables others → AreCovered schemas rows held owner done → last_read schemas done others read ≡ last_read schemas done tables read
last_read_same schemas rows owner held tables others [] read fit alike covered = refl
last_read_same schemas rows owner held tables others (statement ∷ done) read fit alike covered =
    last_read_same schemas rows owner held (tables_after schemas statement tables) (tables_after schemas statement others) done (read_after schemas others statement read) fit.1
    (alike_after schemas owner held tables others statement fit.0 alike) covered.1
    ∙ ap (last_read schemas done (tables_after schemas statement tables)) (read_after_same schemas rows owner held tables others statement read fit.0 alike covered.0)

pub sums_same : (schemas : List Schema) (rows : CommittedRows) (owner : ℕ) (held : List Holding) (tables others : TableRows) (done : List Statement) → AllByRecursion (FitsSchemas schemas) done
    → AreAlike schemas owner held tables others → AreCovered schemas rows held owner done → sums_of schemas done others ≡ sums_of schemas done tables
sums_same schemas rows owner held tables others [] fit alike covered = refl
sums_same schemas rows owner held tables others (statement ∷ done) fit alike covered =
    with_sum_same schemas rows owner held tables others statement (sums_of schemas done (tables_after schemas statement others)) fit.0 alike covered.0
    ∙ ap (with_sum schemas tables statement)
    (sums_same schemas rows owner held (tables_after schemas statement tables) (tables_after schemas statement others) done fit.1 (alike_after schemas owner held tables others statement fit.0 alike) covered.1)

alike_all : (schemas : List Schema) (owner : ℕ) (held : List Holding) (tables others : TableRows) (done : List Statement) → AllByRecursion (FitsSchemas schemas) done
    → AreAlike schemas owner held tables others → AreAlike schemas owner held (tables_after_all schemas done tables) (tables_after_all schemas done others)
alike_all schemas owner held tables others [] fit alike = alike
alike_all schemas owner held tables others (statement ∷ done) fit alike =
    alike_all schemas owner held (tables_after schemas statement tables) (tables_after schemas statement others) done fit.1 (alike_after schemas owner held tables others statement fit.0 alike)

-- the statement in progress

-- a key before the cursor of a walk is one of its reach
passed_reach : (reach : Span) (cursor : Edge) (key : List Value) → IsOnWay reach cursor → has (record { lo = reach.lo; hi = cursor }) key ≡ true → (has reach key ≡ true) × (is_before_edge cursor key ≡ true)
passed_reach reach cursor key (inl at_lo) over =
    let both = both_true (is_past_edge reach.lo key) (is_before_edge cursor key) over in
    absurd (not_both reach.lo key (ap (λ (e : Edge). is_before_edge e key) (sym at_lo) ∙ both.1) both.0)
passed_reach reach cursor key (inr way) over =
    let both = both_true (is_past_edge reach.lo key) (is_before_edge cursor key) over in
    ((λ i. both.0 i && edge_le_trans (After key) cursor reach.hi both.1 way.1 i), both.1)

so_far_same : (schemas : List Schema) (rows : CommittedRows) (owner : ℕ) (held : List Holding) (tables others : TableRows) (statement : Statement) (cursor : Edge) (schema : Schema) (reading : Reading)
    → AreAlike schemas owner held tables others → IsCoveredSoFar schemas rows held owner (Some (record { statement = statement; cursor = cursor })) → slice_get schemas (table_of statement) ≡ Some schema
    → IsReadUpTo schema tables statement cursor reading → Reads statement → rows_met schema others statement cursor ≡ rows_met schema tables statement cursor
so_far_same schemas rows owner held tables others statement cursor schema reading alike covered found is reads =
    met_same schemas owner held tables others statement cursor schema alike found
    (λ key over.
    let here = passed_reach (reach_of schema statement) cursor key (is.on_way reads) over in
    guards_read rows held owner statement (table_of statement) key reads (covered (table_of statement) key (reach_here schemas statement schema key found here.0) here.1).1)

up_to_same : (schemas : List Schema) (rows : CommittedRows) (owner : ℕ) (held : List Holding) (tables others : TableRows) (statement : Statement) (cursor : Edge) (schema : Schema) (reading : Reading)
    → AreAlike schemas owner held tables others → IsCoveredSoFar schemas rows held owner (Some (record { statement = statement; cursor = cursor })) → slice_get schemas (table_of statement) ≡ Some schema
    → IsReadUpTo schema tables statement cursor reading → IsReadUpTo schema others statement cursor reading
up_to_same schemas rows owner held tables others (Insert of row) cursor schema reading alike covered found is = record { taken = is.taken; sum = is.sum; on_way = is.on_way }
up_to_same schemas rows owner held tables others (Replace of row) cursor schema reading alike covered found is = record { taken = is.taken; sum = is.sum; on_way = is.on_way }
up_to_same schemas rows owner held tables others (Delete of where_true) cursor schema reading alike covered found is = record { taken = is.taken; sum = is.sum; on_way = is.on_way }
up_to_same schemas rows owner held tables others (Update of sets where_true) cursor schema reading alike covered found is = record { taken = is.taken; sum = is.sum; on_way = is.on_way }
up_to_same schemas rows owner held tables others (LockRead of mode span where_true) cursor schema reading alike covered found is =
    record {
      taken = is.taken
          ∙ ap (rows_taken schema (LockRead of mode span where_true)) (sym (so_far_same schemas rows owner held tables others (LockRead of mode span where_true) cursor schema reading alike covered found is tt));
      sum = is.sum;
      on_way = is.on_way;
    }
up_to_same schemas rows owner held tables others (Check of chunk span kind) cursor schema reading alike covered found is =
    record {
      taken = is.taken;
      sum = is.sum ∙ ap (sum_made (Check of chunk span kind)) (sym (so_far_same schemas rows owner held tables others (Check of chunk span kind) cursor schema reading alike covered found is tt));
      on_way = is.on_way;
    }
up_to_same schemas rows owner held tables others (SetMaster of chunk kind master) cursor schema reading alike covered found is = record { taken = is.taken; sum = is.sum; on_way = is.on_way }
up_to_same schemas rows owner held tables others (ClearChecks of) cursor schema reading alike covered found is = record { taken = is.taken; sum = is.sum; on_way = is.on_way }

pub reading_stays : (schemas : List Schema) (rows : CommittedRows) (owner : ℕ) (held : List Holding) (tables others : TableRows) (txn : Txn) (reading : Reading) → AllByRecursion (FitsSchemas schemas) txn.done
    → AreAlike schemas owner held tables others → TxnCovered schemas rows held owner txn → IsReading schemas tables txn reading → IsReading schemas others txn reading
reading_stays schemas rows owner held tables others txn reading fit alike covered is = record {
  rows = is.rows ∙ sym (last_read_same schemas rows owner held tables others txn.done [] fit alike covered.done);
  sums = is.sums ∙ sym (sums_same schemas rows owner held tables others txn.done fit alike covered.done);
  so_far = at txn.current covered.so_far is.so_far;
}
  where
    at : (w : Option Walk) → IsCoveredSoFar schemas rows held owner w → IsReadSoFar schemas (tables_after_all schemas txn.done tables) w reading
        → IsReadSoFar schemas (tables_after_all schemas txn.done others) w reading
    at None cover far = far
    at (Some walk) cover far = λ schema found.
        up_to_same schemas rows owner held (tables_after_all schemas txn.done tables) (tables_after_all schemas txn.done others) walk.statement walk.cursor schema reading
        (alike_all schemas owner held tables others txn.done fit alike) cover found (far schema found)
