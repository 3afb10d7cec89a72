use Rattle.line_parts.proofs.PartLemmas.{no_part}
use Rattle.line_parts.proofs.parts.next_part.Goals as goal

pub returns-in-None : goal.returns-in-None
returns-in-None c = no_part c.args.cutting c.args.place c.args.bytes.now c.behind_spaces-here.result.now c.behind_spaces-here.ensures.rest c.in-None.ensures.cases
