use Rattle.std.proofs.Common.{◌≡◌, ◌∙◌, suc, ◌-◌, option_map, ap, sym, arith}
use Rattle.lock_table.specs.declared.wants.Owner.{Owner}
use Rattle.lock_table.proofs.HoldLemmas.{is_number, other_number}
use Rattle.node_model.specs.Waits.{next_wait}
use Rattle.node_parts.specs.Kept.{node_view}
use Rattle.node_visits.proofs.CycleLemmas.{way_returns, way_goes_on}
use Rattle.node_visits.proofs.cycles.cycle_in.Goals as goal

pub returns-then-next-owner : goal.returns-then-next-owner
returns-then-next-owner c =
    let one : c.loop-left.left ≡ suc (c.loop-left.left - 1) = omega (arith, c.loop-left-test.true) in
    sym (way_returns (next_wait (node_view c.args.parts.now)) c.args.owner.0 c.loop-left.way c.push.new.self c.loop-left.left (c.loop-left.left - 1) c.loop-left.at c.in-Some.next.0 one
    (sym c.in_ok-waits_in.ensures ∙ ap (option_map (λ (o : Owner). o.0)) c.in-Some.is) (is_number c.in-Some.next.0 c.args.owner.0 c.if-next-owner.true) c.in_ok-push.ensures.ok)
    ∙ c.loop-left.invariant

pub loop-left-preserved : goal.loop-left-preserved
loop-left-preserved c =
    let one : c.loop-left.left ≡ suc (c.loop-left.left - 1) = omega (arith, c.loop-left-test.true) in
    sym (way_goes_on (next_wait (node_view c.args.parts.now)) c.args.owner.0 c.loop-left.way c.push.new.self c.loop-left.left (c.loop-left.left - 1) c.loop-left.at c.in-Some.next.0 one
    (sym c.in_ok-waits_in.ensures ∙ ap (option_map (λ (o : Owner). o.0)) c.in-Some.is) (other_number c.in-Some.next.0 c.args.owner.0 c.if-next-owner.false) c.in_ok-push.ensures.ok)
    ∙ c.loop-left.invariant
