-- What the calls do to the live rows, and that a commit leaves them.
use Rattle.std.proofs.Common.{◌≡◌, ◌≢◌, ◌⊎◌, inl, inr, ℕ, List, [], ◌∷◌, ◌++◌, ◌==◌, Bool, true, false, cond, Option, None, Some, refl, sym, ap, subst, ◌∙◌}
use Rattle.std.specs.List.{AllByRecursion}
use Rattle.std.proofs.lemmas.List.{append-nil}
use Rattle.history.specs.Replay.{fold}
use Rattle.row_types.specs.declared.values.Value.{Value}
use Rattle.row_types.specs.declared.table_schema.Schema.{Schema}
use Rattle.row_types.specs.declared.lock_modes.LockMode.{LockMode}
use Rattle.row_types.specs.declared.lock_modes.LockMode.TheVariants.{Shared, Exclusive}
use Rattle.ptc_statement.specs.declared.statements.Statement.{Statement}
use Rattle.ptc_statement.specs.Fits.{FitsSchemas}
use Rattle.statement_log.specs.declared.origins.Origin.{Origin}
use Rattle.statement_log.specs.declared.origins.Origin.TheVariants.{Session, Checksum, Sync, Local, Applied}
use Rattle.statement_log.specs.declared.entries.Entry.{Entry}
use Rattle.std.specs.Prelude.{IsSome}
use Rattle.lock_table.specs.declared.wants.Owner.{Owner}
use Rattle.node_model.specs.declared.parts.Part.{Part}
use Rattle.lock_table.specs.declared.wants.Want.{Want}
use Rattle.lock_table.specs.declared.wants.Want.TheVariants.{OnKey}
use Rattle.lock_table.specs.declared.wants.Holding.{Holding}
use Rattle.lock_table.specs.Locks.{exclusive_owner, released, Holds}
use Rattle.lock_table.proofs.HoldLemmas.{is_number, other_number, same_or_apart, released_holds, still_holds, exclusive_found, exclusive_none, exclusive_is}
use Rattle.node_model.specs.Kept.{FactsOf, TablesOf}
use Rattle.node_model.specs.declared.txns.Walk.{Walk}
use Rattle.node_model.specs.declared.txns.Txn.{Txn}
use Rattle.node_model.specs.Txns.{txn_of, with_txn, without_txn}
use Rattle.node_model.specs.Node.{NodeView, act, acts, act_so_far, seen, seen_by, live_row, live_from, committed_row, begun, ended, logged, is_written, written, with_entries, committed}
use Rattle.node_model.specs.LockFacts.{CommittedRows, LockFacts, TxnCovered}
use Rattle.node_model.proofs.TxnLemmas.{txn_same, txn_other, txn_left, txn_gone}
use Rattle.node_model.proofs.FactLemmas.{done_left, txn_facts, ended_facts}
use Rattle.node_model.proofs.CommitLemmas.{appended_row, appended_tables, logged_acts, logged_fit}

-- who has a key exclusively after an owner's release
abbrev left_owner : ℕ → Option ℕ → Option ℕ
left_owner owner None = None
left_owner owner (Some other) = cond (other == owner) None (Some other)

none_found : (table : ℕ) (key : List Value) (held : List Holding) → ((a : ℕ) → Holds a table (OnKey key Exclusive) held → ⊥) → exclusive_owner table key held ≡ None
none_found table key held nobody = at (exclusive_owner table key held) refl
  where
    at : (o : Option ℕ) → exclusive_owner table key held ≡ o → exclusive_owner table key held ≡ None
    at None e = e
    at (Some a) e = absurd (nobody a (exclusive_found a table key held e))

released_owner : (schemas : List Schema) (rows : CommittedRows) (txns : List Txn) (held : List Holding) (owner table : ℕ) (key : List Value) → LockFacts schemas rows txns held
    → exclusive_owner table key (released owner held) ≡ left_owner owner (exclusive_owner table key held)
released_owner schemas rows txns held owner table key facts = at (exclusive_owner table key held) refl
  where
    alone : (a b : ℕ) → a ≢ b → Holds a table (OnKey key Exclusive) held → Holds b table (OnKey key Exclusive) held → ⊥
    alone a b apart ours theirs = facts.alone_on_key a b table key Exclusive apart ours theirs

    old : (a : ℕ) → Holds a table (OnKey key Exclusive) (released owner held) → Holds a table (OnKey key Exclusive) held × (a ≢ owner)
    old a h = released_holds owner a table (OnKey key Exclusive) held h

    at : (o : Option ℕ) → exclusive_owner table key held ≡ o → exclusive_owner table key (released owner held) ≡ left_owner owner o
    at None e = none_found table key (released owner held) (λ a h. exclusive_none a table key held e (old a h).0)
    at (Some a) e = one (same_or_apart a owner)
      where
        there : Holds a table (OnKey key Exclusive) held
        there = exclusive_found a table key held e

        one : (a ≡ owner) ⊎ (a ≢ owner) → exclusive_owner table key (released owner held) ≡ cond (a == owner) None (Some a)
        one (inl same) =
            none_found table key (released owner held) (λ b h. alone a b (λ e. (old b h).1 (sym e ∙ same)) there (old b h).0)
            ∙ sym (ap (λ (b : Bool). cond b None (Some a)) (is_number a owner same))
        one (inr apart) =
            exclusive_is a table key (released owner held) (λ b away h. alone a b (λ e. away (sym e)) there (old b h).0) (still_holds owner a table (OnKey key Exclusive) held apart there)
            ∙ sym (ap (λ (b : Bool). cond b None (Some a)) (other_number a owner apart))

-- A rollback: at the keys that the owner had exclusively the live rows are the committed ones again, the
-- others stay.

abbrev pub live_without : NodeView → ℕ → ℕ → List Value → Option ℕ → Option (List Value)
live_without node owner table key None = live_row node table key
live_without node owner table key (Some other) = cond (other == owner) (committed_row node table key) (live_row node table key)

left_live : (schemas : List Schema) (txns : List Txn) (owner : ℕ) (other : ℕ) (table : ℕ) (key : List Value) (old : Option (List Value)) → other ≢ owner
    → live_from schemas (without_txn owner txns) (Some other) table key old ≡ live_from schemas txns (Some other) table key old
left_live schemas txns owner other table key old apart = ap (λ (t : Option Txn). seen_by schemas t table key old) (txn_left other owner txns apart)

pub ended_live : (node : NodeView) (owner table : ℕ) (key : List Value) → FactsOf node
    → live_row (ended owner node) table key ≡ live_without node owner table key (exclusive_owner table key node.held)
ended_live node owner table key facts =
    ap (λ (o : Option ℕ). live_from node.schemas (without_txn owner node.txns) o table key (committed_row node table key)) (released_owner node.schemas (committed_row node) node.txns node.held owner table key facts)
    ∙ at (exclusive_owner table key node.held) refl
  where
    at : (o : Option ℕ) → exclusive_owner table key node.held ≡ o
        → live_from node.schemas (without_txn owner node.txns) (left_owner owner o) table key (committed_row node table key) ≡ live_without node owner table key o
    at None e = sym (ap (λ (o : Option ℕ). live_from node.schemas node.txns o table key (committed_row node table key)) e)
    at (Some a) e = one (same_or_apart a owner)
      where
        one : (a ≡ owner) ⊎ (a ≢ owner) → live_from node.schemas (without_txn owner node.txns) (cond (a == owner) None (Some a)) table key (committed_row node table key)
            ≡ cond (a == owner) (committed_row node table key) (live_row node table key)
        one (inl same) =
            ap (λ (b : Bool). live_from node.schemas (without_txn owner node.txns) (cond b None (Some a)) table key (committed_row node table key)) (is_number a owner same)
            ∙ sym (ap (λ (b : Bool). cond b (committed_row node table key) (live_row node table key)) (is_number a owner same))
        one (inr apart) =
            ap (λ (b : Bool). live_from node.schemas (without_txn owner node.txns) (cond b None (Some a)) table key (committed_row node table key)) (other_number a owner apart)
            ∙ left_live node.schemas node.txns owner a table key (committed_row node table key) apart
            ∙ sym (ap (λ (o : Option ℕ). live_from node.schemas node.txns o table key (committed_row node table key)) e)
            ∙ sym (ap (λ (b : Bool). cond b (committed_row node table key) (live_row node table key)) (other_number a owner apart))

-- A commit.

-- what is committed after the entry of a transaction
pub committed_after : (node : NodeView) (txn : Txn) (origin : Origin) (table : ℕ) (key : List Value) → TablesOf node → AllByRecursion (FitsSchemas node.schemas) txn.done
    → committed_row (committed txn origin node) table key ≡ acts node.schemas txn.done table key (committed_row node table key)
committed_after node txn origin table key are fit = at (is_written origin (logged txn.done)) refl
  where
    nothing : (origin : Origin) (statements : List Statement) → is_written origin statements ≡ false → statements ≡ []
    nothing (Session session) [] e = refl
    nothing (Session session) (statement ∷ statements) e = cc
    nothing Checksum statements e = cc
    nothing (Sync replica of span) statements e = cc
    nothing (Local session) [] e = refl
    nothing (Local session) (statement ∷ statements) e = cc
    nothing (Applied entry) statements e = cc

    at : (b : Bool) → is_written origin (logged txn.done) ≡ b
        → committed_row (with_entries (cond b (record { origin = origin; statements = logged txn.done } ∷ []) []) node) table key ≡ acts node.schemas txn.done table key (committed_row node table key)
    at true e =
        appended_row node (record { origin = origin; statements = logged txn.done }) table key are (logged_fit node.schemas txn.done fit)
        ∙ logged_acts node.schemas txn.done table key (committed_row node table key)
    at false e =
        ap (λ (entries : List Entry). committed_row (record node { history = entries }) table key) (append-nil node.history)
        ∙ sym (ap (λ (ss : List Statement). acts node.schemas ss table key (committed_row node table key)) (nothing origin (logged txn.done) e))
        ∙ logged_acts node.schemas txn.done table key (committed_row node table key)

pub committed_tables : (node : NodeView) (txn : Txn) (origin : Origin) → TablesOf node → AllByRecursion (FitsSchemas node.schemas) txn.done → TablesOf (committed txn origin node)
committed_tables node txn origin are fit = at (is_written origin (logged txn.done))
  where
    at : (b : Bool) → TablesOf (with_entries (cond b (record { origin = origin; statements = logged txn.done } ∷ []) []) node)
    at true = appended_tables node (record { origin = origin; statements = logged txn.done }) are (logged_fit node.schemas txn.done fit)
    at false = subst (λ (entries : List Entry). TablesOf (record node { history = entries })) (sym (append-nil node.history)) are

-- what is committed changes only at keys that the owner has exclusively
pub committed_change : (node : NodeView) (txn : Txn) (origin : Origin) → FactsOf node → TablesOf node → AllByRecursion (FitsSchemas node.schemas) txn.done → txn_of txn.owner.0 node.txns ≡ Some txn
    → (table : ℕ) (key : List Value) → (committed_row (committed txn origin node) table key ≡ committed_row node table key) ⊎ Holds txn.owner.0 table (OnKey key Exclusive) node.held
committed_change node txn origin facts are fit found table key =
    at (done_left node.schemas (committed_row node) node.txns node.held txn.owner.0 txn.done table key facts (facts.covered txn.owner.0 txn found).done)
  where
    at : (acts node.schemas txn.done table key (committed_row node table key) ≡ committed_row node table key) ⊎ Holds txn.owner.0 table (OnKey key Exclusive) node.held
        → (committed_row (committed txn origin node) table key ≡ committed_row node table key) ⊎ Holds txn.owner.0 table (OnKey key Exclusive) node.held
    at (inl e) = inl (committed_after node txn origin table key are fit ∙ e)
    at (inr on) = inr on

pub committed_facts : (node : NodeView) (txn : Txn) (origin : Origin) → FactsOf node → TablesOf node → AllByRecursion (FitsSchemas node.schemas) txn.done → txn_of txn.owner.0 node.txns ≡ Some txn
    → FactsOf (committed txn origin node)
committed_facts node txn origin facts are fit found =
    ended_facts node.schemas (committed_row node) (committed_row (committed txn origin node)) node.txns node.held txn.owner.0 facts (committed_change node txn origin facts are fit found)

pub rollback_facts : (node : NodeView) (owner : ℕ) → FactsOf node → FactsOf (ended owner node)
rollback_facts node owner facts = ended_facts node.schemas (committed_row node) (committed_row node) node.txns node.held owner facts (λ table key. inl refl)

-- a commit leaves each live row
pub committed_live : (node : NodeView) (txn : Txn) (origin : Origin) → FactsOf node → TablesOf node → AllByRecursion (FitsSchemas node.schemas) txn.done → txn_of txn.owner.0 node.txns ≡ Some txn
    → txn.current ≡ None → (table : ℕ) (key : List Value) → live_row (committed txn origin node) table key ≡ live_row node table key
committed_live node txn origin facts are fit found idle table key =
    ap (λ (o : Option ℕ). live_from node.schemas (without_txn txn.owner.0 node.txns) o table key now) (released_owner node.schemas (committed_row node) node.txns node.held txn.owner.0 table key facts)
    ∙ at (exclusive_owner table key node.held) refl
  where
    now : Option (List Value)
    now = committed_row (committed txn origin node) table key

    at : (o : Option ℕ) → exclusive_owner table key node.held ≡ o
        → live_from node.schemas (without_txn txn.owner.0 node.txns) (left_owner txn.owner.0 o) table key (committed_row (committed txn origin node) table key) ≡ live_from node.schemas node.txns o table key (committed_row node table key)
    at None e = unheld (committed_change node txn origin facts are fit found table key)
      where
        unheld : (committed_row (committed txn origin node) table key ≡ committed_row node table key) ⊎ Holds txn.owner.0 table (OnKey key Exclusive) node.held
            → committed_row (committed txn origin node) table key ≡ committed_row node table key
        unheld (inl same) = same
        unheld (inr on) = absurd (exclusive_none txn.owner.0 table key node.held e on)
    at (Some a) e = one (same_or_apart a txn.owner.0)
      where
        there : Holds a table (OnKey key Exclusive) node.held
        there = exclusive_found a table key node.held e

        one : (a ≡ txn.owner.0) ⊎ (a ≢ txn.owner.0)
            → live_from node.schemas (without_txn txn.owner.0 node.txns) (cond (a == txn.owner.0) None (Some a)) table key (committed_row (committed txn origin node) table key)
            ≡ seen_by node.schemas (txn_of a node.txns) table key (committed_row node table key)
        one (inl same) =
            ap (λ (b : Bool). live_from node.schemas (without_txn txn.owner.0 node.txns) (cond b None (Some a)) table key (committed_row (committed txn origin node) table key)) (is_number a txn.owner.0 same)
            ∙ committed_after node txn origin table key are fit
            ∙ sym (ap (λ (w : Option Walk). act_so_far node.schemas w table key (acts node.schemas txn.done table key (committed_row node table key))) idle)
            ∙ sym (ap (λ (t : Option Txn). seen_by node.schemas t table key (committed_row node table key)) (ap (λ (o : ℕ). txn_of o node.txns) same ∙ found))
        one (inr apart) =
            ap (λ (b : Bool). live_from node.schemas (without_txn txn.owner.0 node.txns) (cond b None (Some a)) table key (committed_row (committed txn origin node) table key)) (other_number a txn.owner.0 apart)
            ∙ left_live node.schemas node.txns txn.owner.0 a table key (committed_row (committed txn origin node) table key) apart
            ∙ ap (seen_by node.schemas (txn_of a node.txns) table key) (unchanged (committed_change node txn origin facts are fit found table key))
          where
            unchanged : (committed_row (committed txn origin node) table key ≡ committed_row node table key) ⊎ Holds txn.owner.0 table (OnKey key Exclusive) node.held
                → committed_row (committed txn origin node) table key ≡ committed_row node table key
            unchanged (inl same) = same
            unchanged (inr on) = absurd (facts.alone_on_key txn.owner.0 a table key Exclusive (λ e. apart (sym e)) on there)

-- a transaction that begins leaves the live rows
pub begun_live : (node : NodeView) (owner : Owner) (part : Part) → FactsOf node → txn_of owner.0 node.txns ≡ None → (table : ℕ) (key : List Value)
    → live_row (begun owner part node) table key ≡ live_row node table key
begun_live node owner part facts none table key = at (exclusive_owner table key node.held) refl
  where
    begins : Txn
    begins = record { owner = owner; part = part; done = []; current = None }

    at : (o : Option ℕ) → exclusive_owner table key node.held ≡ o
        → live_from node.schemas (with_txn (record { owner = owner; part = part; done = []; current = None }) node.txns) o table key (committed_row node table key) ≡ live_from node.schemas node.txns o table key (committed_row node table key)
    at None e = refl
    at (Some a) e = one (same_or_apart a owner.0)
      where
        one : (a ≡ owner.0) ⊎ (a ≢ owner.0) → seen_by node.schemas (txn_of a (with_txn (record { owner = owner; part = part; done = []; current = None }) node.txns)) table key (committed_row node table key)
            ≡ seen_by node.schemas (txn_of a node.txns) table key (committed_row node table key)
        one (inl same) = absurd (nobody (subst (λ (o : Option Txn). IsSome o) (ap (λ (o : ℕ). txn_of o node.txns) same ∙ none) (facts.owned a table (OnKey key Exclusive) (exclusive_found a table key node.held e))))
          where
            nobody : IsSome {T = Txn} None → ⊥
            nobody some = cc
        one (inr apart) = ap (λ (t : Option Txn). seen_by node.schemas t table key (committed_row node table key)) (txn_other a (record { owner = owner; part = part; done = []; current = None }) node.txns apart)
