use Rattle.std.proofs.Common.{◌≡◌, List, [], Option, Some, None, sym, subst, ap, ◌∙◌, length}
use Rattle.std.specs.Prelude.{◌<◌, ◌^◌, Ok, Err, Bool}
use Rattle.row_types.specs.declared.table_schema.Schema.{Schema}
use Rattle.statement_reader.specs.Spots.{spot_of}
use Rattle.statement_trees.specs.Trees.{IsStep, IsStopped, IsReading}
use Rattle.statement_reading.specs.Readers.{reading_of}
use Rattle.statement_reading.specs.TreeEnds.{IsTreeEnd}
use Rattle.statement_reading_laws.proofs.ReadingLemmas.{ready}
use Rattle.statement_progress.specs.Progress.{GoesOn, IsWithin}
use Rattle.statement_progress.proofs.ProgressLemmas.{steps_at, used_short, enters_or_not, goes_on, ends_before}
use Rattle.statement_progress.proofs.progress.within.Goals as goal

pub step-requires : goal.step-requires
step-requires c = subst (λ (s : Schema). length s.columns < 2 ^ 32) (sym c.schema_or-schema.ensures) (used_short c.args.schemas.now.tables c.args.nothing.now c.args.inner.reader.draft.table c.requires.nothing c.requires.columns)

pub returns-in-Ok : goal.returns-in-Ok
returns-in-Ok c key front rest w e =
    c.stepped.ensures key front rest w.ts c.args.token w.is_open
    (subst (λ (x : Schema). IsStep x c.args.inner.base w.ts c.args.token c.in-Ok.step) c.schema_or-schema.ensures
    (c.in-Ok.ensures w.ts (subst (λ (x : Schema). IsReading x c.args.inner.base w.ts c.args.inner.tree) (sym c.schema_or-schema.ensures) w.reads))) e
