-- The open transactions of a node, one for each owner.
use Rattle.std.specs.Prelude.{ℕ, zero, suc, ◌==◌, ◌++◌, Bool, not, filter, cond, List, [], ◌∷◌, Option, None, Some}
use Rattle.row_types.specs.declared.edges.Edge.{Edge}
use Rattle.ptc_statement.specs.declared.statements.Statement.{Statement}
use Rattle.node_model.specs.declared.txns.Walk.{Walk}
use Rattle.node_model.specs.declared.txns.Txn.{Txn}

-- the open transaction of an owner
abbrev pub txn_of : ℕ → List Txn → Option Txn
txn_of owner [] = None
txn_of owner (txn ∷ txns) = cond (txn.owner.0 == owner) (Some txn) (txn_of owner txns)

-- the transactions with this one in place of its owner's
abbrev pub with_txn : Txn → List Txn → List Txn
with_txn txn [] = txn ∷ []
with_txn txn (other ∷ others) = cond (other.owner.0 == txn.owner.0) (txn ∷ others) (other ∷ with_txn txn others)

abbrev pub without_txn : ℕ → List Txn → List Txn
without_txn owner txns = filter (λ (txn : Txn). not (txn.owner.0 == owner)) txns

-- the statements that are done in a transaction
abbrev pub done_of : Option Txn → List Statement
done_of None = []
done_of (Some txn) = txn.done

-- the number of an owner's transaction in the list, or how many there are
abbrev pub place_in : ℕ → List Txn → ℕ
place_in owner [] = 0
place_in owner (txn ∷ txns) = cond (txn.owner.0 == owner) 0 (suc (place_in owner txns))

abbrev pub with_current : Option Walk → Option Txn → List Txn → List Txn
with_current walk None txns = txns
with_current walk (Some txn) txns = with_txn (record txn { current = walk }) txns

-- a statement in progress is refused, ends, or goes on behind an edge
abbrev pub stepped : Bool → Bool → Edge → Txn → Walk → Txn
stepped refused ends after txn walk =
    cond refused (record txn { current = None })
    (cond ends (record txn { done = txn.done ++ walk.statement ∷ []; current = None })
    (record txn { current = Some (record { statement = walk.statement; cursor = after }) }))

abbrev pub stepped_if : Bool → Bool → Edge → Txn → Option Walk → Txn
stepped_if refused ends after txn None = txn
stepped_if refused ends after txn (Some walk) = stepped refused ends after txn walk

abbrev pub with_step : Bool → Bool → Edge → Option Txn → List Txn → List Txn
with_step refused ends after None txns = txns
with_step refused ends after (Some txn) txns = with_txn (stepped_if refused ends after txn txn.current) txns
