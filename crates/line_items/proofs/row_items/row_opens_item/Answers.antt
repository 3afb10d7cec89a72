use Rattle.std.proofs.Common.{rules}
use Rattle.line_items.proofs.PlaceLemmas.{row_opens}
use Rattle.line_items.proofs.row_items.row_opens_item.Goals as goal

pub returns-then-eq : goal.returns-then-eq
returns-then-eq c = row_opens c.args.text.now (search rules)
