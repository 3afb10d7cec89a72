use Rattle.std.proofs.Common.{◌≡◌, ◌≤◌, ◌+◌, length, sym, subst, rules}
use Rattle.line_parts.specs.declared.cuttings.Cutting.{Cutting}
use Rattle.line_items.specs.declared.steps.Step.{Step}
use Rattle.line_items.specs.Readings.{cutting_of, Steps}
use Rattle.line_items.proofs.ReadLemmas.{Reading, begun, went_on, over_told, misfit_told, all_told, part_short, unfit_short}
use Rattle.line_items.proofs.line_readings.read_line.Goals as goal

pub loop-part-init : goal.loop-part-init
loop-part-init c =
    subst (λ (cutting : Cutting). Reading c.args.section c.args.counts.now c.args.line.now c.new-walk.result 1 c.args.line.now cutting) (sym c.cutting_of-cutting.ensures)
    (begun c.args.section c.args.counts.now c.args.line.now c.new-walk.result c.new-walk.ensures)

pub returns-in-Over : goal.returns-in-Over
returns-in-Over c =
    over_told c.args.section c.args.counts.now c.args.line.now c.loop-part.walk c.take.new.self c.loop-part.place c.loop-part.rest.now c.loop-part.cutting c.in-Some.part.place c.in-Some.part.text.now c.in-Some.part.next
    c.in-Some.part.rest.now c.in-Some.part.cutting c.in-Over.which c.loop-part.invariant c.in-Some.ensures
    (subst (Steps c.args.section c.args.counts.now c.in-Some.part.text.now c.loop-part.walk c.take.new.self) c.in-Over.is c.in_ok-take.ensures)

pub overflow_add-result : goal.overflow_add-result
overflow_add-result c =
    let s = subst (Steps c.args.section c.args.counts.now c.in-Some.part.text.now c.loop-part.walk c.take.new.self) c.in-Unfit.is c.in_ok-take.ensures in
    let u = unfit_short c.args.section c.args.counts.now c.in-Some.part.text.now c.loop-part.walk c.take.new.self c.in-Unfit.offset s in
    let p = part_short c.loop-part.cutting c.loop-part.place c.loop-part.rest.now c.in-Some.part.place c.in-Some.part.text.now c.in-Some.part.next c.in-Some.part.rest.now c.in-Some.part.cutting c.in-Some.ensures in
    let w = c.loop-part.invariant.within in
    let r = c.requires in
    search (rules, u, p, w, r)

pub returns-in-Unfit : goal.returns-in-Unfit
returns-in-Unfit c =
    misfit_told c.args.section c.args.counts.now c.args.line.now c.loop-part.walk c.take.new.self c.loop-part.place c.loop-part.rest.now c.loop-part.cutting c.in-Some.part.place c.in-Some.part.text.now c.in-Some.part.next
    c.in-Some.part.rest.now c.in-Some.part.cutting c.in-Unfit.offset c.loop-part.invariant c.in-Some.ensures
    (subst (Steps c.args.section c.args.counts.now c.in-Some.part.text.now c.loop-part.walk c.take.new.self) c.in-Unfit.is c.in_ok-take.ensures)

pub loop-part-preserved : goal.loop-part-preserved
loop-part-preserved c =
    went_on c.args.section c.args.counts.now c.args.line.now c.loop-part.walk c.take.new.self c.loop-part.place c.loop-part.rest.now c.loop-part.cutting c.in-Some.part.place c.in-Some.part.text.now c.in-Some.part.next
    c.in-Some.part.rest.now c.in-Some.part.cutting c.loop-part.invariant c.in-Some.ensures
    (subst (Steps c.args.section c.args.counts.now c.in-Some.part.text.now c.loop-part.walk c.take.new.self) c.in-Taken.is c.in_ok-take.ensures)

pub returns : goal.returns
returns c =
    all_told c.args.section c.args.counts.now c.args.line.now c.loop-part.walk c.loop-part.place c.loop-part.rest.now c.loop-part.cutting c.ends.result c.loop-part.invariant (search rules) c.ends.ensures
