use Rattle.std.proofs.Common.{◌∙◌, ℕ, List, ap, sym}
use Rattle.file_rows.specs.Puts.{place_named}
use Rattle.line_takes.proofs.RowLemmas.{is_put}
use Rattle.line_takes.proofs.table_lines.put_row.Goals as goal

pub returns : goal.returns
returns c = is_put c.take_row.result c.args.row.now c.args.state.now c.take_row.new.self c.in-Some.place (ap (λ (name : List ℕ). place_named name 0 c.args.state.now.rows.tables.items) (sym c.as_slice.ensures) ∙ sym c.in-Some.ensures) c.take_row.ensures
