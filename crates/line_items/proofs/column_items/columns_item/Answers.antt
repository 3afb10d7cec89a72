use Rattle.std.proofs.Common.{rules}
use Rattle.line_items.proofs.PlaceLemmas.{columns_open}
use Rattle.line_items.proofs.column_items.columns_item.Goals as goal

pub returns-then-eq : goal.returns-then-eq
returns-then-eq c = columns_open c.args.text.now (search rules)
