-- Nodes that no call, one or two calls lead to.
use Rattle.std.proofs.Common.{[], ◌∷◌, refl}
use Rattle.node_model.specs.Node.{NodeView}
use Rattle.node_model.specs.Calls.{Call, after_call}
use Rattle.turn_laws.specs.TurnCalls.{LeadsBy}

pub none_made : (P : Call → Type 0) (node : NodeView) → LeadsBy P node node
none_made P node = record { calls = []; are = tt; leads = refl }

pub one_made : (P : Call → Type 0) (call : Call) (node : NodeView) → P call → LeadsBy P node (after_call call node)
one_made P call node is = record { calls = call ∷ []; are = (is, tt); leads = refl }

pub two_made : (P : Call → Type 0) (first second : Call) (node : NodeView) → P first → P second → LeadsBy P node (after_call second (after_call first node))
two_made P first second node is also = record { calls = first ∷ second ∷ []; are = (is, (also, tt)); leads = refl }
