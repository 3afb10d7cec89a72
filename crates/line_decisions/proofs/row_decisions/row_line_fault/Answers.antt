use Rattle.std.proofs.Common.{◌∙◌, ap, ℕ, List, sym, arith}
use Rattle.file_rows.specs.Puts.{place_named}
use Rattle.file_rows.proofs.ThereLemmas.{place_within}
use Rattle.line_decisions.specs.Tests.{first_broken}
use Rattle.line_decisions.proofs.RowLemmas.{unknown_decided, table_decided}
use Rattle.line_decisions.proofs.row_decisions.row_line_fault.Goals as goal

pub index-requires : goal.index-requires
index-requires c =
    let within = place_within c.as_slice.result.now 0 c.in-Some.place c.args.rows.now.tables.items (sym c.in-Some.ensures) in
    omega (arith, within, c.args.rows.now.tables.ok)

pub returns-in-None : goal.returns-in-None
returns-in-None c = λ before node table literals m h r l s.
    unknown_decided c.args.marks.now c.args.rows.now.tables.items c.args.line.now c.args.row.now c.first_broken.result c.unknown_tests.ensures.few
    (ap (λ (name : List ℕ). place_named name 0 c.args.rows.now.tables.items) (sym c.as_slice.ensures) ∙ sym c.in-None.ensures)
    (c.first_broken.ensures ∙ ap first_broken c.unknown_tests.ensures.tests) before node table literals m h r

pub returns-in-Some : goal.returns-in-Some
returns-in-Some c = λ before node table literals m h r l s.
    table_decided c.args.marks.now c.args.rows.now.tables.items c.in-Some.place c.index.result.now c.args.line.now c.args.row.now c.first_broken-in-Some.result c.table_tests.ensures.few
    (ap (λ (name : List ℕ). place_named name 0 c.args.rows.now.tables.items) (sym c.as_slice.ensures) ∙ sym c.in-Some.ensures) c.index.ensures
    (λ short. c.first_broken-in-Some.ensures ∙ ap first_broken (c.table_tests.ensures.tests short)) before node table literals m h r l s
