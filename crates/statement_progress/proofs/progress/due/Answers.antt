use Rattle.std.proofs.Common.{◌≡◌, List, [], Option, Some, None, sym, subst, ap, ◌∙◌, length}
use Rattle.std.specs.Prelude.{◌<◌, ◌^◌, Ok, Err, Bool}
use Rattle.row_types.specs.declared.table_schema.Schema.{Schema}
use Rattle.statement_reader.specs.Spots.{spot_of}
use Rattle.statement_trees.specs.Trees.{IsStep, IsStopped, IsReading}
use Rattle.statement_reading.specs.Readers.{reading_of}
use Rattle.statement_reading.specs.TreeEnds.{IsTreeEnd}
use Rattle.statement_reading_laws.proofs.ReadingLemmas.{ready}
use Rattle.statement_progress.specs.Progress.{GoesOn, IsWithin}
use Rattle.statement_progress.proofs.ProgressLemmas.{steps_at, used_short, enters_or_not, goes_on, ends_before}
use Rattle.statement_progress.proofs.progress.due.Goals as goal

pub returns-in-None : goal.returns-in-None
returns-in-None c key front rest h e =
    c.at_spot.ensures c.args.nothing.now key front rest (ready c.args.schemas.now.tables key front (reading_of c.args.schemas.now.tables c.args.reader) c.args.token h (sym c.in-None.ensures)) e

pub returns-in-Some : goal.returns-in-Some
returns-in-Some c key front rest h e = c.enter.ensures key front rest h (sym c.in-Some.ensures)
