use Rattle.line_reader.proofs.LineLemmas.{skipped_read}
use Rattle.line_reader.proofs.lines.take_short.Goals as goal

pub returns-in-Skipped : goal.returns-in-Skipped
returns-in-Skipped c = skipped_read c.args.number c.args.line.now c.args.state.now c.skip.new.self c.requires.short c.in-Skipped.ensures c.skip.ensures
