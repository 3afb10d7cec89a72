use Rattle.std.proofs.Common.{◌∙◌, sym}
use Rattle.ordered_table.proofs.PlaceLemmas.{taken_at, free_at}
use Rattle.ordered_table.proofs.places.place_of.Goals as goal

pub returns-then-is_there : goal.returns-then-is_there
returns-then-is_there c =
    taken_at c.args.key_len c.args.key.now c.args.rows.now c.first_past-index.result c.requires c.first_past-index.ensures (sym c.is_there.ensures ∙ c.if-is_there.true)

pub returns : goal.returns
returns c =
    free_at c.args.key_len c.args.key.now c.args.rows.now c.first_past-index.result c.requires c.first_past-index.ensures (sym c.is_there.ensures ∙ c.if-is_there.false)
