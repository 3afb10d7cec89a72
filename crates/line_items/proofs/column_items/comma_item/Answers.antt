use Rattle.std.proofs.Common.{rules}
use Rattle.line_items.proofs.PlaceLemmas.{next_comma, column_closes}
use Rattle.line_items.proofs.column_items.comma_item.Goals as goal

pub returns-then-eq : goal.returns-then-eq
returns-then-eq c = next_comma c.args.column c.next_column.result c.args.text.now c.next_column.ensures (search rules)

pub returns-then-eq-2 : goal.returns-then-eq-2
returns-then-eq-2 c = column_closes c.args.column c.args.text.now (search rules)
