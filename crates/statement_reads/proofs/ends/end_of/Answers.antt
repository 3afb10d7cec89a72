use Rattle.std.proofs.Common.{subst}
use Rattle.statement_reading.specs.Readers.{reading_of}
use Rattle.statement_reading_laws.proofs.ReadingLemmas.{at_end}
use Rattle.statement_progress.specs.Progress.{IsProgress}
use Rattle.statement_reads.proofs.ends.end_of.Goals as goal

pub returns-in-In : goal.returns-in-In
returns-in-In c key front h =
    c.finish_tree.ensures key front (subst (IsProgress c.args.schemas.now.tables c.args.nothing.now key front) c.in-In.is h)

pub returns-in-At : goal.returns-in-At
returns-in-At c key front h =
    c.finish.ensures c.args.schemas.now.tables key front
    (at_end c.args.schemas.now.tables key front (reading_of c.args.schemas.now.tables c.in-At.reader) (subst (IsProgress c.args.schemas.now.tables c.args.nothing.now key front) c.in-At.is h))
