-- What a caller knows who asked whether an owner has a transaction, and a statement in progress; and what the calls do
-- then.
use Rattle.std.proofs.Common.{◌≡◌, ◌∙◌, ℕ, Bool, true, false, Option, None, Some, refl, ap, sym}
use Rattle.std.specs.Prelude.{is_some, option_and_then}
use Rattle.ptc_statement.specs.declared.statements.Statement.{Statement}
use Rattle.lock_table.specs.declared.wants.Owner.{Owner}
use Rattle.node_model.specs.declared.parts.Part.{Part}
use Rattle.node_model.specs.declared.txns.Walk.{Walk}
use Rattle.node_model.specs.declared.txns.Txn.{Txn}
use Rattle.node_model.specs.Txns.{txn_of}
use Rattle.node_model.specs.Node.{NodeView, begun}
use Rattle.node_model.specs.Calls.{after_call, begun_if, Begin, Start}
use Rattle.node_parts.specs.Views.{walk_of, IsUnderWay, IsIdle}

none_when : {A : Type 0} (o : Option A) → is_some o ≡ false → o ≡ None
none_when None e = refl
none_when (Some x) e = absurd (let q : true ≡ false = e in cc)

-- an owner that was not begun has no transaction
pub not_begun : (owner : ℕ) (node : NodeView) (begun : Bool) → begun ≡ is_some (txn_of owner node.txns) → begun ≡ false → txn_of owner node.txns ≡ None
not_begun owner node begun is off = none_when (txn_of owner node.txns) (sym is ∙ off)

-- one that was begun and has no statement in progress is idle
pub idle_when : (owner : ℕ) (node : NodeView) → is_some (txn_of owner node.txns) ≡ true → is_some (walk_of owner node.txns) ≡ false → IsIdle owner node
idle_when owner node begun none = at (txn_of owner node.txns) refl begun none
  where
    at : (o : Option Txn) → txn_of owner node.txns ≡ o → is_some o ≡ true → is_some (option_and_then (λ (txn : Txn). txn.current) o) ≡ false → IsIdle owner node
    at None e b n = absurd (let q : false ≡ true = b in cc)
    at (Some txn) e b n = record { txn = txn; found = e; idle = none_when txn.current n }

-- one that has a statement in progress is under way
pub under_way_when : (owner : ℕ) (node : NodeView) → is_some (walk_of owner node.txns) ≡ true → IsUnderWay owner node
under_way_when owner node there = at (txn_of owner node.txns) refl there
  where
    walking : (txn : Txn) → txn_of owner node.txns ≡ Some txn → (w : Option Walk) → txn.current ≡ w → is_some w ≡ true → IsUnderWay owner node
    walking txn e None f b = absurd (let q : false ≡ true = b in cc)
    walking txn e (Some walk) f b = record { txn = txn; walk = walk; found = e; current = f }

    at : (o : Option Txn) → txn_of owner node.txns ≡ o → is_some (option_and_then (λ (txn : Txn). txn.current) o) ≡ true → IsUnderWay owner node
    at None e b = absurd (let q : false ≡ true = b in cc)
    at (Some txn) e b = walking txn e txn.current refl b

pub none_of : (owner : ℕ) (node : NodeView) → is_some (txn_of owner node.txns) ≡ false → txn_of owner node.txns ≡ None
none_of owner node none = none_when (txn_of owner node.txns) none

-- a begin where the owner has no transaction, and where it has one

pub begins : (owner : Owner) (part : Part) (node : NodeView) → is_some (txn_of owner.0 node.txns) ≡ false → after_call (Begin owner part) node ≡ begun owner part node
begins owner part node none = ap (λ (o : Option Txn). begun_if o owner part node) (none_of owner.0 node none)

pub begins_not : (owner : Owner) (part : Part) (node : NodeView) → is_some (txn_of owner.0 node.txns) ≡ true → after_call (Begin owner part) node ≡ node
begins_not owner part node some = at (txn_of owner.0 node.txns) some
  where
    at : (o : Option Txn) → is_some o ≡ true → begun_if o owner part node ≡ node
    at None e = absurd (let q : false ≡ true = e in cc)
    at (Some txn) e = refl

-- a start behind it

pub starts : (owner : Owner) (part : Part) (statement : Statement) (node : NodeView) → is_some (txn_of owner.0 node.txns) ≡ false
    → after_call (Start owner statement) (after_call (Begin owner part) node) ≡ after_call (Start owner statement) (begun owner part node)
starts owner part statement node none = ap (after_call (Start owner statement)) (begins owner part node none)

pub starts_begun : (owner : Owner) (part : Part) (statement : Statement) (node : NodeView) → is_some (txn_of owner.0 node.txns) ≡ true
    → after_call (Start owner statement) (after_call (Begin owner part) node) ≡ after_call (Start owner statement) node
starts_begun owner part statement node some = ap (after_call (Start owner statement)) (begins_not owner part node some)
