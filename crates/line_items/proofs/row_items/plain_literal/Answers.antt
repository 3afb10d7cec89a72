use Rattle.std.proofs.Common.{rules}
use Rattle.line_items.proofs.PlaceLemmas.{minus_found}
use Rattle.line_items.proofs.row_items.plain_literal.Goals as goal

pub returns-then-eq : goal.returns-then-eq
returns-then-eq c = minus_found c.args.text.now (search rules)
