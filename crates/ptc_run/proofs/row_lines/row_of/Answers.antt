use Rattle.std.proofs.Common.{◌∙◌, to_z-of_z}
use Rattle.std.proofs.lemmas.Option.{some_pair_parts}
use Rattle.ptc_run.proofs.RowLemmas.{row_line_is, behind_row, row_found, same_row}
use Rattle.ptc_run.specs.RowLines.{numbers_text}
use Rattle.ptc_run.proofs.row_lines.row_of.Goals as goal

pub returns-in_default-clause-only : goal.returns-in_default-clause-only
returns-in_default-clause-only c = λ row f e. absurd (c.in_default.ensures _ (e ∙ row_line_is row))

pub returns-in_default-node_of-clause-only : goal.returns-in_default-node_of-clause-only
returns-in_default-node_of-clause-only c = λ row f e.
    let b = behind_row c.args.line.now c.in-Some.rest.now row c.in-Some.ensures e in
    absurd (c.in_default-node_of.ensures.only row.node (numbers_text row.key row.value) b)

pub returns-in_default-numbers_of-clause-only : goal.returns-in_default-numbers_of-clause-only
returns-in_default-numbers_of-clause-only c = λ row f e.
    let b = behind_row c.args.line.now c.in-Some.rest.now row c.in-Some.ensures e in
    let n = c.in-Some-node_of.ensures.only row.node (numbers_text row.key row.value) b in
    let none = c.in_default-numbers_of.ensures.only row.key row.value f.0 f.1 n.1 in
    absurd cc

pub returns-clause-found : goal.returns-clause-found
returns-clause-found c =
    let numbers = c.in-Some-numbers_of.ensures.found in
    rw (to_z-of_z numbers.1, to_z-of_z numbers.2)
    (row_found c.args.line.now c.in-Some.rest.now _ c.in-Some-node_of.node c.in-Some-numbers_of.key c.in-Some-numbers_of.value c.in-Some.ensures c.in-Some-node_of.ensures.found numbers.0, (numbers.1, numbers.2))

pub returns-clause-only : goal.returns-clause-only
returns-clause-only c = λ row f e.
    let b = behind_row c.args.line.now c.in-Some.rest.now row c.in-Some.ensures e in
    let n = c.in-Some-node_of.ensures.only row.node (numbers_text row.key row.value) b in
    let pair = c.in-Some-numbers_of.ensures.only row.key row.value f.0 f.1 n.1 in
    let numbers = c.in-Some-numbers_of.ensures.found in
    let parts = some_pair_parts c.in-Some-numbers_of.key row.key c.in-Some-numbers_of.value row.value pair in
    rw (to_z-of_z numbers.1, to_z-of_z numbers.2) (same_row c.in-Some-node_of.node c.in-Some-numbers_of.key c.in-Some-numbers_of.value row n.0 parts.0 parts.1)
