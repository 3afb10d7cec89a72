use Rattle.std.proofs.Common.{rules}
use Rattle.line_items.proofs.PlaceLemmas.{length_closes}
use Rattle.line_items.proofs.column_items.length_closes_item.Goals as goal

pub returns-then-eq : goal.returns-then-eq
returns-then-eq c = length_closes c.args.column c.args.text.now (search rules)
