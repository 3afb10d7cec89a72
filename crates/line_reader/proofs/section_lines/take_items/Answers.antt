use Rattle.std.proofs.Common.{subst}
use Rattle.file_text.specs.declared.places.Section.{Section}
use Rattle.line_takes.specs.Takes.{IsLine}
use Rattle.line_reader.proofs.LineLemmas.{ok_weaker}
use Rattle.line_reader.proofs.section_lines.take_items.Goals as goal

pub returns-in-PtcLines : goal.returns-in-PtcLines
returns-in-PtcLines c = λ before k l. c.take_header.ensures before c.args.line.now c.args.items.items k (subst (λ (s : Section). IsLine s before c.args.line.now c.args.items.items) c.in-PtcLines.is l)

pub returns-in-EndLines : goal.returns-in-EndLines
returns-in-EndLines c = λ before k l. c.take_end.ensures before c.args.line.now c.args.items.items k (subst (λ (s : Section). IsLine s before c.args.line.now c.args.items.items) c.in-EndLines.is l)

pub returns-in-SessionLines : goal.returns-in-SessionLines
returns-in-SessionLines c =
    ok_weaker c.take_session.result _ _ c.take_session.ensures
    (λ fault f before k l. f before c.args.line.now c.args.items.items k (subst (λ (s : Section). IsLine s before c.args.line.now c.args.items.items) c.in-SessionLines.is l))
