-- Each open transaction has its reading, through every call.
use Rattle.std.proofs.Common.{◌≡◌, ◌≢◌, ◌⊎◌, inl, inr, ◌∙◌, ℕ, Bool, List, [], ◌∷◌, ◌++◌, Option, None, Some, refl, ap, sym, subst}
use Rattle.std.specs.List.{slice_get}
use Rattle.row_types.specs.declared.edges.Edge.{Edge}
use Rattle.row_types.specs.declared.table_schema.Schema.{Schema}
use Rattle.row_types.specs.Fit.{IsSchema}
use Rattle.row_types.specs.KeyRows.{TableRows}
use Rattle.ptc_statement.specs.declared.statements.Statement.{Statement}
use Rattle.ptc_statement.specs.Effect.{table_of}
use Rattle.statement_log.specs.declared.origins.Origin.{Origin}
use Rattle.history.specs.Replay.{fold}
use Rattle.lock_table.specs.declared.wants.Owner.{Owner}
use Rattle.lock_table.proofs.HoldLemmas.{same_or_apart}
use Rattle.node_model.specs.declared.parts.Part.{Part}
use Rattle.node_model.specs.declared.txns.Walk.{Walk}
use Rattle.node_model.specs.declared.txns.Txn.{Txn}
use Rattle.node_model.specs.Txns.{txn_of, with_txn, without_txn, with_current}
use Rattle.node_model.specs.Kept.{IsKept}
use Rattle.node_model.specs.Node.{NodeView, plan_of, moved, start_of, logged, written, committed, committed_row}
use Rattle.node_model.specs.Calls.{Commit, after_call, committed_if, committed_idle}
use Rattle.node_model.proofs.TxnLemmas.{txn_same, txn_other, txn_left, txn_gone, txn_owner}
use Rattle.node_model.proofs.VisitLemmas.{moved_owner}
use Rattle.node_model.proofs.LiveLemmas.{committed_tables}
use Rattle.node_model.proofs.ReadLemmas.{guarded_stays}
use Rattle.node_reads.specs.declared.gains.Gain.{Gain}
use Rattle.node_reads.specs.declared.readings.Reading.{Reading}
use Rattle.node_reads.specs.Readings.{reading_of, without_reading, IsUnread, IsSameIn, AreSame, IsGrown, HasGrown}
use Rattle.node_reads.specs.ReadBy.{IsReading, IsReadBy, AllRead}
use Rattle.node_reads.proofs.ReadingLemmas.{reading_left, reading_gone, reading_new, reading_apart}
use Rattle.node_reads.proofs.VisitReads.{unread_is, same_is, started_is, withdrawn_is, Visiting, gain_at, visited_is}
use Rattle.node_reads.proofs.OthersReads.{AreAlike, reading_stays}

pub stays : (schemas : List Schema) (tables : TableRows) (txn after : Option Txn) (reading new : Option Reading) → after ≡ txn → new ≡ reading → IsReadBy schemas tables txn reading → IsReadBy schemas tables after new
stays schemas tables txn after reading new e f is =
    subst (λ (o : Option Txn). IsReadBy schemas tables o new) (sym e) (subst (IsReadBy schemas tables txn) (sym f) is)

pub record Own (schemas : List Schema) (tables : TableRows) (txn : Txn) (found : Option Reading) : Type 0 where
  pub reading : Reading
  pub is : found ≡ Some reading
  pub read : IsReading schemas tables txn reading

own_of : (schemas : List Schema) (tables : TableRows) (txn : Txn) (found : Option Reading) → IsReadBy schemas tables (Some txn) found → Own schemas tables txn found
own_of schemas tables txn None is = absurd is
own_of schemas tables txn (Some reading) is = record { reading = reading; is = refl; read = is }

pub own_at : (schemas : List Schema) (tables : TableRows) (owner : ℕ) (txn : Txn) (txns : List Txn) (readings : List Reading) → AllRead schemas tables txns readings → txn_of owner txns ≡ Some txn
    → Own schemas tables txn (reading_of owner readings)
own_at schemas tables owner txn txns readings all found =
    own_of schemas tables txn (reading_of owner readings) (subst (λ (o : Option Txn). IsReadBy schemas tables o (reading_of owner readings)) found (all owner))

none_of : (schemas : List Schema) (tables : TableRows) (found : Option Reading) → IsReadBy schemas tables None found → found ≡ None
none_of schemas tables None is = refl
none_of schemas tables (Some reading) is = absurd is

none_at : (schemas : List Schema) (tables : TableRows) (owner : ℕ) (txns : List Txn) (readings : List Reading) → AllRead schemas tables txns readings → txn_of owner txns ≡ None → reading_of owner readings ≡ None
none_at schemas tables owner txns readings all none =
    none_of schemas tables (reading_of owner readings) (subst (λ (o : Option Txn). IsReadBy schemas tables o (reading_of owner readings)) none (all owner))

pub fresh_reads : (schemas : List Schema) (tables : TableRows) (txns : List Txn) (readings : List Reading) → txns ≡ [] → readings ≡ [] → AllRead schemas tables txns readings
fresh_reads schemas tables txns readings e f owner = stays schemas tables None (txn_of owner txns) None (reading_of owner readings) (ap (txn_of owner) e) (ap (reading_of owner) f) tt

pub same_reads : (schemas : List Schema) (tables : TableRows) (txns : List Txn) (readings new : List Reading) → AreSame readings new → AllRead schemas tables txns readings → AllRead schemas tables txns new
same_reads schemas tables txns readings new same all owner = at (txn_of owner txns) (reading_of owner readings) (reading_of owner new) (same owner) (all owner)
  where
    at : (t : Option Txn) (r n : Option Reading) → IsSameIn r n → IsReadBy schemas tables t r → IsReadBy schemas tables t n
    at None None None s is = tt
    at None None (Some n) s is = absurd s
    at None (Some r) n s is = absurd is
    at (Some t) None n s is = absurd is
    at (Some t) (Some r) None s is = absurd s
    at (Some t) (Some r) (Some n) s is = same_is schemas tables t r n s is

pub begun_reads : (schemas : List Schema) (tables : TableRows) (owner : Owner) (part : Part) (done : List Statement) (txns after : List Txn) (readings room new : List Reading) (reading : Reading)
    → AllRead schemas tables txns readings → txn_of owner.0 txns ≡ None → done ≡ [] → after ≡ with_txn (record { owner = owner; part = part; done = done; current = None }) txns → room ≡ readings → new ≡ room ++ reading ∷ []
    → IsUnread owner reading → AllRead schemas tables after new
begun_reads schemas tables owner part done txns after readings room new reading all none empty is same put unread b = at (same_or_apart b owner.0)
  where
    begun : Txn
    begun = record { owner = owner; part = part; done = []; current = None }

    are : after ≡ with_txn (record { owner = owner; part = part; done = []; current = None }) txns
    are = is ∙ ap (λ (d : List Statement). with_txn (record { owner = owner; part = part; done = d; current = None }) txns) empty

    put_last : new ≡ readings ++ reading ∷ []
    put_last = put ∙ ap (λ (rs : List Reading). rs ++ reading ∷ []) same

    whose : reading.owner.0 ≡ owner.0
    whose = ap (λ (o : Owner). o.0) unread.whose

    at : (b ≡ owner.0) ⊎ (b ≢ owner.0) → IsReadBy schemas tables (txn_of b after) (reading_of b new)
    at (inl own) =
        stays schemas tables (Some (record { owner = owner; part = part; done = []; current = None })) (txn_of b after) (Some reading) (reading_of b new)
        ((λ i. txn_of (own i) (are i)) ∙ txn_same (record { owner = owner; part = part; done = []; current = None }) txns)
        ((λ i. reading_of (own i) (put_last i)) ∙ reading_new owner.0 readings reading (none_at schemas tables owner.0 txns readings all none) whose)
        (unread_is schemas tables owner part reading unread)
    at (inr apart) =
        stays schemas tables (txn_of b txns) (txn_of b after) (reading_of b readings) (reading_of b new)
        (ap (txn_of b) are ∙ txn_other b (record { owner = owner; part = part; done = []; current = None }) txns apart)
        (ap (reading_of b) put_last ∙ reading_apart b readings reading (λ e. apart (e ∙ whose)))
        (all b)

pub started_reads : (schemas : List Schema) (tables : TableRows) (owner : ℕ) (statement : Statement) (cursor : Edge) (txn : Txn) (txns after : List Txn) (readings : List Reading) → AllRead schemas tables txns readings
    → txn_of owner txns ≡ Some txn → txn.current ≡ None → cursor ≡ start_of schemas statement → after ≡ with_current (Some (record { statement = statement; cursor = cursor })) (txn_of owner txns) txns
    → AllRead schemas tables after readings
started_reads schemas tables owner statement cursor txn txns after readings all found idle at_start is b = at (same_or_apart b owner)
  where
    started : Txn
    started = record txn { current = Some (record { statement = statement; cursor = cursor }) }

    are : after ≡ with_txn (record txn { current = Some (record { statement = statement; cursor = cursor }) }) txns
    are = is ∙ ap (λ (o : Option Txn). with_current (Some (record { statement = statement; cursor = cursor })) o txns) found

    whose : txn.owner.0 ≡ owner
    whose = txn_owner owner txn txns found

    own : Own schemas tables txn (reading_of owner readings)
    own = own_at schemas tables owner txn txns readings all found

    at : (b ≡ owner) ⊎ (b ≢ owner) → IsReadBy schemas tables (txn_of b after) (reading_of b readings)
    at (inl same) =
        stays schemas tables (Some (record txn { current = Some (record { statement = statement; cursor = cursor }) })) (txn_of b after) (Some own.reading) (reading_of b readings)
        ((λ i. txn_of ((same ∙ sym whose) i) (are i)) ∙ txn_same (record txn { current = Some (record { statement = statement; cursor = cursor }) }) txns)
        (ap (λ (o : ℕ). reading_of o readings) same ∙ own.is)
        (started_is schemas tables txn statement cursor own.reading idle at_start own.read)
    at (inr apart) =
        stays schemas tables (txn_of b txns) (txn_of b after) (reading_of b readings) (reading_of b readings)
        (ap (txn_of b) are ∙ txn_other b (record txn { current = Some (record { statement = statement; cursor = cursor }) }) txns (λ e. apart (e ∙ whose))) refl (all b)

pub withdrawn_reads : (schemas : List Schema) (tables : TableRows) (owner : ℕ) (statement : Statement) (cursor : Edge) (schema : Schema) (txn : Txn) (txns started : List Txn) (readings : List Reading)
    → AllRead schemas tables started readings → started ≡ with_txn (record txn { current = Some (record { statement = statement; cursor = cursor }) }) txns → txn_of owner txns ≡ Some txn → txn.current ≡ None
    → cursor ≡ start_of schemas statement → slice_get schemas (table_of statement) ≡ Some schema → AllRead schemas tables txns readings
withdrawn_reads schemas tables owner statement cursor schema txn txns started readings all is found idle at_start there b = at (same_or_apart b owner)
  where
    whose : txn.owner.0 ≡ owner
    whose = txn_owner owner txn txns found

    own : Own schemas tables (record txn { current = Some (record { statement = statement; cursor = cursor }) }) (reading_of owner readings)
    own = own_at schemas tables owner (record txn { current = Some (record { statement = statement; cursor = cursor }) }) started readings all
        ((λ i. txn_of (sym whose i) (is i)) ∙ txn_same (record txn { current = Some (record { statement = statement; cursor = cursor }) }) txns)

    at : (b ≡ owner) ⊎ (b ≢ owner) → IsReadBy schemas tables (txn_of b txns) (reading_of b readings)
    at (inl same) =
        stays schemas tables (Some txn) (txn_of b txns) (Some own.reading) (reading_of b readings) (ap (λ (o : ℕ). txn_of o txns) same ∙ found) (ap (λ (o : ℕ). reading_of o readings) same ∙ own.is)
        (withdrawn_is schemas tables txn statement cursor schema own.reading idle at_start there own.read)
    at (inr apart) =
        stays schemas tables (txn_of b started) (txn_of b txns) (reading_of b readings) (reading_of b readings)
        (sym (ap (txn_of b) is ∙ txn_other b (record txn { current = Some (record { statement = statement; cursor = cursor }) }) txns (λ e. apart (e ∙ whose)))) refl (all b)

pub visited_reads : (node : NodeView) (owner : ℕ) (txn : Txn) (walk : Walk) (schema : Schema) (after : List Txn) (readings new : List Reading) (gain : Gain) (ends : Bool)
    → AllRead node.schemas (fold node.schemas node.start node.history).tables node.txns readings → txn_of owner node.txns ≡ Some txn → Visiting node txn walk schema
    → (grown : HasGrown gain ends owner readings new) → gain ≡ gain_at node txn walk schema grown.old.sum → ends ≡ (plan_of node txn walk).ends
    → ((other : ℕ) → other ≢ owner → reading_of other new ≡ reading_of other readings) → after ≡ with_txn (moved txn walk (plan_of node txn walk)) node.txns
    → AllRead node.schemas (fold node.schemas node.start node.history).tables after new
visited_reads node owner txn walk schema after readings new gain ends all found v grown gains ending others is b = at (same_or_apart b owner)
  where
    tables : TableRows
    tables = (fold node.schemas node.start node.history).tables

    whose : txn.owner.0 ≡ owner
    whose = txn_owner owner txn node.txns found

    moves : (moved txn walk (plan_of node txn walk)).owner.0 ≡ owner
    moves = moved_owner txn walk (plan_of node txn walk) ∙ whose

    own : Own node.schemas (fold node.schemas node.start node.history).tables txn (reading_of owner readings)
    own = own_at node.schemas (fold node.schemas node.start node.history).tables owner txn node.txns readings all found

    old_is : own.reading ≡ grown.old
    old_is = let q : Some own.reading ≡ Some grown.old = sym own.is ∙ grown.was in cc

    grows : IsGrown (gain_at node txn walk schema grown.old.sum) (plan_of node txn walk).ends grown.old grown.new
    grows = subst (λ (g : Gain). IsGrown g (plan_of node txn walk).ends grown.old grown.new) gains (subst (λ (e : Bool). IsGrown gain e grown.old grown.new) ending grown.grown)

    read : IsReading node.schemas (fold node.schemas node.start node.history).tables (moved txn walk (plan_of node txn walk)) grown.new
    read = visited_is node txn walk.statement walk.cursor schema grown.old grown.new v (subst (IsReading node.schemas (fold node.schemas node.start node.history).tables txn) old_is own.read) grows

    at : (b ≡ owner) ⊎ (b ≢ owner) → IsReadBy node.schemas (fold node.schemas node.start node.history).tables (txn_of b after) (reading_of b new)
    at (inl same) =
        stays node.schemas (fold node.schemas node.start node.history).tables (Some (moved txn walk (plan_of node txn walk))) (txn_of b after) (Some grown.new) (reading_of b new)
        ((λ i. txn_of ((same ∙ sym moves) i) (is i)) ∙ txn_same (moved txn walk (plan_of node txn walk)) node.txns)
        (ap (λ (o : ℕ). reading_of o new) same ∙ grown.is) read
    at (inr apart) =
        stays node.schemas (fold node.schemas node.start node.history).tables (txn_of b node.txns) (txn_of b after) (reading_of b readings) (reading_of b new)
        (ap (txn_of b) is ∙ txn_other b (moved txn walk (plan_of node txn walk)) node.txns (λ e. apart (e ∙ moves))) (others b apart) (all b)

pub ended_reads : (schemas : List Schema) (tables : TableRows) (owner : ℕ) (txns after : List Txn) (readings new : List Reading) → AllRead schemas tables txns readings → after ≡ without_txn owner txns
    → new ≡ without_reading owner readings → AllRead schemas tables after new
ended_reads schemas tables owner txns after readings new all e f b = at (same_or_apart b owner)
  where
    at : (b ≡ owner) ⊎ (b ≢ owner) → IsReadBy schemas tables (txn_of b after) (reading_of b new)
    at (inl same) = stays schemas tables None (txn_of b after) None (reading_of b new) ((λ i. txn_of (same i) (e i)) ∙ txn_gone owner txns) ((λ i. reading_of (same i) (f i)) ∙ reading_gone owner readings) tt
    at (inr apart) =
        stays schemas tables (txn_of b txns) (txn_of b after) (reading_of b readings) (reading_of b new) (ap (txn_of b) e ∙ txn_left b owner txns apart) (ap (reading_of b) f ∙ reading_left b owner readings apart) (all b)

-- a commit of another owner
pub committed_reads : (node : NodeView) (owner : Owner) (origin : Origin) (txn : Txn) (after : List Txn) (readings new : List Reading) → IsKept node
    → ((number : ℕ) (schema : Schema) → slice_get node.schemas number ≡ Some schema → IsSchema schema) → txn_of owner.0 node.txns ≡ Some txn → txn.current ≡ None
    → AllRead node.schemas (fold node.schemas node.start node.history).tables node.txns readings → after ≡ without_txn owner.0 node.txns → new ≡ without_reading owner.0 readings
    → AllRead node.schemas (fold node.schemas node.start (node.history ++ written origin (logged txn.done))).tables after new
committed_reads node owner origin txn after readings new kept are found idle all e f b = at (same_or_apart b owner.0)
  where
    now : TableRows
    now = (fold node.schemas node.start (node.history ++ written origin (logged txn.done))).tables

    call : after_call (Commit owner origin) node ≡ committed txn origin node
    call = ap (λ (o : Option Txn). committed_if o origin node) found ∙ ap (λ (o : Option Walk). committed_idle o txn origin node) idle

    alike : b ≢ owner.0 → AreAlike node.schemas b node.held (fold node.schemas node.start node.history).tables (fold node.schemas node.start (node.history ++ written origin (logged txn.done))).tables
    alike apart = record {
      first = kept.tables;
      second = committed_tables node txn origin kept.tables (kept.fits owner.0 txn found).done;
      is = are;
      same = λ table key guards. ap (λ (n : NodeView). committed_row n table key) (sym call) ∙ guarded_stays (Commit owner origin) node b table key kept (λ same. apart (sym same)) guards;
    }

    still : b ≢ owner.0 → (t : Option Txn) (r : Option Reading) → txn_of b node.txns ≡ t → IsReadBy node.schemas (fold node.schemas node.start node.history).tables t r
        → IsReadBy node.schemas (fold node.schemas node.start (node.history ++ written origin (logged txn.done))).tables t r
    still apart None None g is = tt
    still apart None (Some r) g is = absurd is
    still apart (Some t) None g is = absurd is
    still apart (Some t) (Some r) g is =
        reading_stays node.schemas (committed_row node) b node.held (fold node.schemas node.start node.history).tables (fold node.schemas node.start (node.history ++ written origin (logged txn.done))).tables t r
        (kept.fits b t g).done (alike apart) (kept.facts.covered b t g) is

    at : (b ≡ owner.0) ⊎ (b ≢ owner.0) → IsReadBy node.schemas (fold node.schemas node.start (node.history ++ written origin (logged txn.done))).tables (txn_of b after) (reading_of b new)
    at (inl same) =
        stays node.schemas now None (txn_of b after) None (reading_of b new) ((λ i. txn_of (same i) (e i)) ∙ txn_gone owner.0 node.txns) ((λ i. reading_of (same i) (f i)) ∙ reading_gone owner.0 readings) tt
    at (inr apart) =
        stays node.schemas now (txn_of b node.txns) (txn_of b after) (reading_of b readings) (reading_of b new)
        (ap (txn_of b) e ∙ txn_left b owner.0 node.txns apart) (ap (reading_of b) f ∙ reading_left b owner.0 readings apart)
        (still apart (txn_of b node.txns) (reading_of b readings) refl (all b))
