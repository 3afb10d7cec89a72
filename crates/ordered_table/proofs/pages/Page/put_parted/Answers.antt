use Rattle.std.proofs.Common.{◌∙◌, ◌++◌, List, ap, sym, arith}
use Rattle.std.specs.List.{insert}
use Rattle.std.proofs.lemmas.List.Edits.{insert-append_right}
use Rattle.row_types.specs.declared.values.Value.{Value}
use Rattle.ordered_table.proofs.pages.Page.put_parted.Goals as goal

pub returns-else-index-le32-clause-rows : goal.returns-else-index-le32-clause-rows
returns-else-index-le32-clause-rows c =
    ap (λ (rows : List (List Value)). c.give_from.new.self ++ rows) c.put_in-else-index-le32.ensures
    ∙ sym (insert-append_right c.give_from.new.self c.give_from.new.other 32 c.args.index c.args.row c.give_from.ensures.len (omega (arith, c.if-index-le32.false)))
    ∙ ap (λ (rows : List (List Value)). insert rows c.args.index c.args.row) c.give_from.ensures.rows
