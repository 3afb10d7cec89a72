use Rattle.std.proofs.Common.{[]}
use Rattle.text_check.proofs.tables.table_line.Goals as goal

pub returns : goal.returns
returns c = c.table_read.ensures c.args.line.now c.requires.short c.requires.opens (c.in_ok-read_line.ensures [] c.new-counts.ensures)
