use Rattle.std.proofs.Common.{◌≡◌, true, false, sym, ◌∙◌}
use Rattle.statement_tokens.specs.declared.text_ends.TextEnd.TheVariants as ends
use Rattle.statement_grammar.specs.Sentence.{may_end}
use Rattle.statement_reader.specs.Spots.{spot_of}
use Rattle.statement_reading.specs.Readers.{reading_of}
use Rattle.statement_reads.proofs.FinishLemmas.{finishes_short, finishes_wrong, finishes}
use Rattle.statement_reads.proofs.ends.finish_whole.Goals as goal

pub returns-then-not-may_end : goal.returns-then-not-may_end
returns-then-not-may_end c schemas key front h =
    let no : may_end (spot_of c.args.reader.spot) ≡ false = sym c.may_end.ensures ∙ c.if-not-may_end.true in
    finishes_short schemas key front (reading_of schemas c.args.reader) (ends.Whole c.args.past) c.stopped.result h (λ w. no) c.stopped.ensures

pub returns-in-Some : goal.returns-in-Some
returns-in-Some c schemas key front h =
    let yes : may_end (spot_of c.args.reader.spot) ≡ true = sym c.may_end.ensures ∙ c.if-not-may_end.false in
    finishes_wrong schemas key front (reading_of schemas c.args.reader) c.args.past c.in-Some.fault h yes c.in-Some.is

pub returns-in-None : goal.returns-in-None
returns-in-None c schemas key front h =
    let yes : may_end (spot_of c.args.reader.spot) ≡ true = sym c.may_end.ensures ∙ c.if-not-may_end.false in
    finishes schemas key front c.args.reader c.args.past c.say.result h yes c.in-None.is (c.say.ensures schemas)
