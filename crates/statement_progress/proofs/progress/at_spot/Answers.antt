use Rattle.std.proofs.Common.{◌≡◌, List, [], Option, Some, None, sym, subst, ap, ◌∙◌, length}
use Rattle.std.specs.Prelude.{◌<◌, ◌^◌, Ok, Err, Bool}
use Rattle.row_types.specs.declared.table_schema.Schema.{Schema}
use Rattle.statement_reader.specs.Spots.{spot_of}
use Rattle.statement_trees.specs.Trees.{IsStep, IsStopped, IsReading}
use Rattle.statement_reading.specs.Readers.{reading_of}
use Rattle.statement_reading.specs.TreeEnds.{IsTreeEnd}
use Rattle.statement_reading_laws.proofs.ReadingLemmas.{ready}
use Rattle.statement_progress.specs.Progress.{GoesOn, IsWithin}
use Rattle.statement_progress.proofs.ProgressLemmas.{steps_at, used_short, enters_or_not, goes_on, ends_before}
use Rattle.statement_progress.proofs.progress.at_spot.Goals as goal

pub returns-in-Ok : goal.returns-in-Ok
returns-in-Ok c nothing key front rest h e = steps_at c.args.schemas.now.tables key front rest c.args.reader c.args.token (Ok c.in-Ok.read) c.in-Ok.ensures h e

pub returns-in-Err : goal.returns-in-Err
returns-in-Err c nothing key front rest h e = steps_at c.args.schemas.now.tables key front rest c.args.reader c.args.token (Err c.in-Err.fault) c.in-Err.ensures h e
