use Rattle.std.proofs.Common.{◌≡◌, ◌+◌, drop}
use Rattle.node_model.specs.Txns.{place_in}
use Rattle.node_model.proofs.txns.place_in.Given as goal

abbrev pub invariant-loop-place : goal.invariant-loop-place
invariant-loop-place l = l.place + place_in l.owner.0 (drop l.place l.txns) ≡ place_in l.owner.0 l.txns
