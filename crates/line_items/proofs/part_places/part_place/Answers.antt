use Rattle.std.proofs.Common.{◌≡◌, ◌-◌, ◌∙◌, sym, subst, rules}
use Rattle.line_parts.specs.declared.cuttings.Cutting.{Cutting}
use Rattle.line_items.specs.Readings.{cutting_of}
use Rattle.line_items.proofs.ReadLemmas.{IsCounting, counting_begun, part_found, part_passed, part_missing, one_more}
use Rattle.line_items.proofs.part_places.part_place.Goals as goal

pub loop-part-init : goal.loop-part-init
loop-part-init c =
    subst (λ (cutting : Cutting). IsCounting c.args.section c.args.line.now c.args.number 1 c.args.line.now cutting c.args.number) (sym c.cutting_of-cutting.ensures)
    (counting_begun c.args.section c.args.line.now c.args.number)

pub next_part-requires : goal.next_part-requires
next_part-requires c =
    let w = c.loop-part.invariant.within in
    let r = c.requires in
    search (rules, w, r)

pub returns-then-left-eq0 : goal.returns-then-left-eq0
returns-then-left-eq0 c = part_found c.args.section c.args.line.now c.args.number c.loop-part.place c.loop-part.rest.now c.loop-part.cutting c.loop-part.left c.in-Some.part.place c.in-Some.part.text.now c.in-Some.part.next c.in-Some.part.rest.now c.in-Some.part.cutting c.loop-part.invariant c.in-Some.ensures c.if-left-eq0.true

pub loop-part-preserved : goal.loop-part-preserved
loop-part-preserved c =
    let never = c.if-left-eq0.false in
    part_passed c.args.section c.args.line.now c.args.number c.loop-part.place c.loop-part.rest.now c.loop-part.cutting c.loop-part.left c.in-Some.part.place c.in-Some.part.text.now c.in-Some.part.next c.in-Some.part.rest.now c.in-Some.part.cutting (c.loop-part.left - 1) c.loop-part.invariant c.in-Some.ensures (one_more c.loop-part.left never)

pub returns : goal.returns
returns c = c.past_end.ensures ∙ part_missing c.args.section c.args.line.now c.args.number c.loop-part.place c.loop-part.rest.now c.loop-part.cutting c.loop-part.left c.loop-part.invariant c.in_default.ensures
