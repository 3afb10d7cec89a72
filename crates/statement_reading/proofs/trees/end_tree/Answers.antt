use Rattle.std.proofs.Common.{sym, subst}
use Rattle.row_types.specs.declared.table_schema.Schema.{Schema}
use Rattle.statement_reader.specs.Spots.{spot_of}
use Rattle.statement_trees.specs.Trees.{IsEnd}
use Rattle.statement_reading.specs.Readers.{reading_of}
use Rattle.statement_reading.specs.TreeEnds.{IsTreeEnd}
use Rattle.statement_reading.proofs.EndLemmas.{tree_ends}
use Rattle.statement_reading.proofs.trees.end_tree.Goals as goal

pub returns-in-Ok : goal.returns-in-Ok
returns-in-Ok c nothing ts same stopped =
    subst (λ (s : Schema). IsTreeEnd c.args.schemas.now.tables s c.args.base ts (reading_of c.args.schemas.now.tables c.args.reader) (spot_of c.args.next) c.args.place c.closed.result) (sym same)
    (tree_ends c.args.schemas.now.tables nothing c.args.base ts (reading_of c.args.schemas.now.tables c.args.reader) (spot_of c.args.next) c.in-Ok.end c.args.place c.closed.result c.closed.ensures
    (subst (λ (s : Schema). IsEnd s c.args.base ts c.in-Ok.end) same (c.in-Ok.ensures ts stopped)))
