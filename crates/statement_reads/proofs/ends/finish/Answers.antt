use Rattle.std.proofs.Common.{subst, sym}
use Rattle.statement_tokens.specs.declared.text_ends.TextEnd.{TextEnd}
use Rattle.statement_reading.specs.Readers.{reading_of}
use Rattle.statement_reads.specs.Reads.{IsFinished}
use Rattle.statement_reads.proofs.FinishLemmas.{finishes_before}
use Rattle.statement_reads.proofs.ends.finish.Goals as goal

pub returns-in-NoToken : goal.returns-in-NoToken
returns-in-NoToken c schemas key front h =
    finishes_before schemas key front (reading_of schemas c.args.reader) c.args.end c.in-NoToken.place c.stopped.result c.in-NoToken.is h c.stopped.ensures

pub returns-in-Whole : goal.returns-in-Whole
returns-in-Whole c schemas key front h =
    subst (λ (x : TextEnd). IsFinished schemas key front x c.finish_whole.result) (sym c.in-Whole.is) (c.finish_whole.ensures schemas key front h)
