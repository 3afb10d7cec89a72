use Rattle.std.proofs.Common.{◌≡◌, ◌∙◌, Some, None}
use Rattle.file_text.specs.Said.{Said}
use Rattle.line_decisions.specs.Decides.{Decides}
use Rattle.line_values.specs.Lines.{Gives}
use Rattle.file_state.specs.Keeps.{LeadsTo}
use Rattle.file_text.specs.declared.places.Section.TheVariants.{RowLines}
use Rattle.line_values.specs.Rows.{row_in}
use Rattle.line_takes.proofs.TakeLemmas.{row_only, refused, went_on}
use Rattle.line_takes.proofs.RowLemmas.{has_place}
use Rattle.line_takes.proofs.table_lines.take_row.Goals as goal

pub row_line_fault-requires : goal.row_line_fault-requires
row_line_fault-requires c = c.requires.is.short

pub put_row-requires-clause-kept : goal.put_row-requires-clause-kept
put_row-requires-clause-kept c = record { before = c.requires.before; keeps = c.requires.keeps }

pub put_row-requires-clause-place : goal.put_row-requires-clause-place
put_row-requires-clause-place c =
    let same : c.in_ok-row.row ≡ row_in c.args.items.items = c.in_ok-row.ensures in
    has_place c.args.state.now c.args.line.now c.args.items.items c.in_ok-row.row same c.requires
    (λ node table literals g. c.in-None.ensures c.requires.before node table literals c.requires.keeps.marked c.requires.keeps.rows (same ∙ g.is) g.few g.texts)

pub returns-in-Some : goal.returns-in-Some
returns-in-Some c = λ before k l.
    let same : c.in_ok-row.row ≡ row_in c.args.items.items = c.in_ok-row.ensures in
    refused RowLines before c.args.line.now c.args.items.items c.in-Some.fault l
    (λ said of gives. row_only (λ (s : Said). Gives s c.args.items.items → Decides RowLines before c.args.line.now s (Some c.in-Some.fault)) said of (λ node table literals g. c.in-Some.ensures before node table literals k.marked k.rows (same ∙ g.is) g.few g.texts) gives)

pub returns : goal.returns
returns c = λ before k l.
    let same : c.in_ok-row.row ≡ row_in c.args.items.items = c.in_ok-row.ensures in
    went_on RowLines before c.args.line.now c.args.items.items c.args.state.now c.put_row.new.state k l
    (λ said of gives. record {
      decided = row_only (λ (s : Said). Gives s c.args.items.items → Decides RowLines before c.args.line.now s None) said of (λ node table literals g. c.in-None.ensures before node table literals k.marked k.rows (same ∙ g.is) g.few g.texts) gives;
      leads = row_only (λ (s : Said). Gives s c.args.items.items → LeadsTo s c.args.state.now c.put_row.new.state) said of (λ node table literals g. c.in_ok-put_row-in-None.ensures node table literals (same ∙ g.is)) gives;
    })
