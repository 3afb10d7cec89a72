-- The next move, by what transaction the tool has.
use Rattle.std.proofs.Common.{◌≡◌, ◌∙◌, Option, None, Some, Bool, true, false, refl, ap}
use Rattle.std.specs.Prelude.{is_some}
use Rattle.node_model.specs.declared.txns.Walk.{Walk}
use Rattle.node_model.specs.Txns.{txn_of}
use Rattle.node_model.specs.Node.{NodeView}
use Rattle.checksum_tool.specs.Tools.{ToolView, tool_owner}
use Rattle.checksum_tool.specs.Moves.{begun_move, visit_move, rested_move, commit_move, idle_move}

pub walks : (w : Option Walk) (tool : ToolView) (node : NodeView) → is_some w ≡ true → begun_move w tool node ≡ visit_move tool node
walks None tool node e = absurd (let q : false ≡ true = e in cc)
walks (Some walk) tool node e = refl

rests : (w : Option Walk) (tool : ToolView) (node : NodeView) → is_some w ≡ false → begun_move w tool node ≡ rested_move (is_some (txn_of tool_owner.0 node.txns)) tool node
rests (Some walk) tool node e = absurd (let q : true ≡ false = e in cc)
rests None tool node e = refl

pub commits : (w : Option Walk) (tool : ToolView) (node : NodeView) → is_some w ≡ false → is_some (txn_of tool_owner.0 node.txns) ≡ true
    → begun_move w tool node ≡ commit_move tool node
commits w tool node e begun = rests w tool node e ∙ ap (λ (b : Bool). rested_move b tool node) begun

pub idles : (w : Option Walk) (tool : ToolView) (node : NodeView) → is_some w ≡ false → is_some (txn_of tool_owner.0 node.txns) ≡ false
    → begun_move w tool node ≡ idle_move tool.phase tool node
idles w tool node e none = rests w tool node e ∙ ap (λ (b : Bool). rested_move b tool node) none
