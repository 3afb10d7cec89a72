use Rattle.std.proofs.Common.{◌≡◌, List, [], Option, Some, None, sym, subst, ap, ◌∙◌, length}
use Rattle.std.specs.Prelude.{◌<◌, ◌^◌, Ok, Err, Bool}
use Rattle.row_types.specs.declared.table_schema.Schema.{Schema}
use Rattle.statement_reader.specs.Spots.{spot_of}
use Rattle.statement_trees.specs.Trees.{IsStep, IsStopped, IsReading}
use Rattle.statement_reading.specs.Readers.{reading_of}
use Rattle.statement_reading.specs.TreeEnds.{IsTreeEnd}
use Rattle.statement_reading_laws.proofs.ReadingLemmas.{ready}
use Rattle.statement_progress.specs.Progress.{GoesOn, IsWithin}
use Rattle.statement_progress.proofs.ProgressLemmas.{steps_at, used_short, enters_or_not, goes_on, ends_before}
use Rattle.statement_progress.proofs.progress.enter.Goals as goal

pub step-requires : goal.step-requires
step-requires c = subst (λ (s : Schema). length s.columns < 2 ^ 32) (sym c.schema_or-schema.ensures) (used_short c.args.schemas.now.tables c.args.nothing.now c.args.reader.draft.table c.requires.nothing c.requires.columns)

pub returns-in-Ok : goal.returns-in-Ok
returns-in-Ok c key front rest h d =
    subst (GoesOn c.args.schemas.now.tables c.args.nothing.now key front c.args.token rest) (sym c.entered.ensures)
    (enters_or_not c.args.schemas.now.tables c.args.nothing.now key front rest c.args.reader c.args.base c.args.next c.args.token c.in-Ok.step c.requires.nothing h d
    (subst (λ (s : Schema). IsStep s c.args.base [] c.args.token c.in-Ok.step) c.schema_or-schema.ensures (c.in-Ok.ensures [] (c.new.ensures c.schema_or-schema.result.now c.args.base))))
