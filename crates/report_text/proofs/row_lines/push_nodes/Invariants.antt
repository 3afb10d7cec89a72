use Rattle.std.proofs.Common.{◌≡◌, ◌++◌, drop}
use Rattle.report_text.specs.Report.{nodes_lines}
use Rattle.report_text.proofs.row_lines.push_nodes.Given as goal

-- what is written, and then the text of what is left, is the whole
abbrev pub invariant-loop-node : goal.invariant-loop-node
invariant-loop-node l =
    record l.writer { text = l.writer.text ++ nodes_lines l.writer.schemas l.word l.node (drop l.node l.nodes) }
    ≡ record l.initial.writer { text = l.initial.writer.text ++ nodes_lines l.initial.writer.schemas l.word 0 l.nodes }
