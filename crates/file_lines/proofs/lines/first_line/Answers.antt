use Rattle.std.proofs.Common.{sym, length}
use Rattle.std.proofs.lemmas.Bool.{eqb-false}
use Rattle.file_lines.proofs.LineLemmas.{first_parts, first_whole}
use Rattle.file_lines.proofs.lines.first_line.Goals as goal

pub returns-in-None : goal.returns-in-None
returns-in-None c = first_whole c.args.bytes.now _ _ c.split_at.ensures.front c.split_at.ensures.back c.in-None.ensures (eqb-false (length c.args.bytes.now) 0 (sym c.if-is_empty.ensures))

pub returns-in-Some : goal.returns-in-Some
returns-in-Some c = first_parts c.args.bytes.now _ _ c.in-Some.at c.split_at-in-Some.ensures.front c.split_at-in-Some.ensures.back c.in-Some.ensures
