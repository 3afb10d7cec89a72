use Rattle.std.proofs.Common.{◌≡◌, List, [], Option, Some, None, sym, subst, ap, ◌∙◌, length}
use Rattle.std.specs.Prelude.{◌<◌, ◌^◌, Ok, Err, Bool}
use Rattle.row_types.specs.declared.table_schema.Schema.{Schema}
use Rattle.statement_reader.specs.Spots.{spot_of}
use Rattle.statement_trees.specs.Trees.{IsStep, IsStopped, IsReading}
use Rattle.statement_reading.specs.Readers.{reading_of}
use Rattle.statement_reading.specs.TreeEnds.{IsTreeEnd}
use Rattle.statement_reading_laws.proofs.ReadingLemmas.{ready}
use Rattle.statement_progress.specs.Progress.{GoesOn, IsWithin}
use Rattle.statement_progress.proofs.ProgressLemmas.{steps_at, used_short, enters_or_not, goes_on, ends_before}
use Rattle.statement_progress.proofs.progress.behind.Goals as goal

pub end_tree-requires : goal.end_tree-requires
end_tree-requires c = record { columns = subst (λ (s : Schema). length s.columns < 2 ^ 32) (sym c.schema_or-schema.ensures) (used_short c.args.schemas.now.tables c.args.nothing.now c.args.reader.draft.table c.requires.nothing c.requires.columns) }

pub returns-in-Ok : goal.returns-in-Ok
returns-in-Ok c key front rest ts h s none e =
    c.at_spot.ensures c.args.nothing.now key front rest
    (ends_before c.args.schemas.now.tables c.args.nothing.now key front rest c.args.reader c.args.base c.args.next ts c.args.token (Ok c.in-Ok.ended) c.requires.nothing h none
    (subst (λ (x : Schema). IsTreeEnd c.args.schemas.now.tables x c.args.base ts (reading_of c.args.schemas.now.tables c.args.reader) (spot_of c.args.next) c.args.token.place (Ok c.in-Ok.ended)) c.schema_or-schema.ensures
    (c.in-Ok.ensures c.args.nothing.now ts c.schema_or-schema.ensures (subst (λ (x : Schema). IsStopped x c.args.base ts c.args.tree) (sym c.schema_or-schema.ensures) s)))) e

pub returns-in-Err : goal.returns-in-Err
returns-in-Err c key front rest ts h s none e =
    ends_before c.args.schemas.now.tables c.args.nothing.now key front rest c.args.reader c.args.base c.args.next ts c.args.token (Err c.in-Err.fault) c.requires.nothing h none
    (subst (λ (x : Schema). IsTreeEnd c.args.schemas.now.tables x c.args.base ts (reading_of c.args.schemas.now.tables c.args.reader) (spot_of c.args.next) c.args.token.place (Err c.in-Err.fault)) c.schema_or-schema.ensures
    (c.in-Err.ensures c.args.nothing.now ts c.schema_or-schema.ensures (subst (λ (x : Schema). IsStopped x c.args.base ts c.args.tree) (sym c.schema_or-schema.ensures) s)))
