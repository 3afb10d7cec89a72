use Rattle.std.proofs.Common.{subst}
use Rattle.line_checks.specs.Checked.{IsChecked}
use Rattle.line_reader.proofs.LineLemmas.{ok_weaker}
use Rattle.line_reader.proofs.section_lines.take_section.Goals as goal

pub returns-in-Fault : goal.returns-in-Fault
returns-in-Fault c = λ before k. subst (IsChecked c.args.section before c.args.line.now) c.in-Fault.is (c.in_ok-fault.ensures before k.marked k.counted c.requires.opens)

pub take_items-requires : goal.take_items-requires
take_items-requires c =
    let n = c.requires.kept in
    record {
      before = n.before;
      keeps = n.keeps;
      is = record { short = c.requires.short; opens = c.requires.opens; form = subst (IsChecked c.args.section n.before c.args.line.now) c.in-Items.is (c.in_ok-fault.ensures n.before n.keeps.marked n.keeps.counted c.requires.opens) };
    }

pub returns-in-Items : goal.returns-in-Items
returns-in-Items c =
    ok_weaker c.take_items.result _ _ c.take_items.ensures
    (λ fault f before k. f before k (record { short = c.requires.short; opens = c.requires.opens; form = subst (IsChecked c.args.section before c.args.line.now) c.in-Items.is (c.in_ok-fault.ensures before k.marked k.counted c.requires.opens) }))
