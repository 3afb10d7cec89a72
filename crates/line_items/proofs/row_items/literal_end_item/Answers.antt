use Rattle.std.proofs.Common.{rules}
use Rattle.line_items.proofs.PlaceLemmas.{literal_comma, row_closes}
use Rattle.line_items.proofs.row_items.literal_end_item.Goals as goal

pub returns-then-eq : goal.returns-then-eq
returns-then-eq c = literal_comma c.args.text.now (search rules)

pub returns-then-eq-2 : goal.returns-then-eq-2
returns-then-eq-2 c = row_closes c.args.text.now (search rules)
