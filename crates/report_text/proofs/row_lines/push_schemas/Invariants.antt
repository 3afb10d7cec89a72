use Rattle.std.proofs.Common.{◌≡◌, ◌++◌, drop}
use Rattle.std.specs.List.{flat_map}
use Rattle.statement_text.specs.Texts.{table_line}
use Rattle.report_text.proofs.row_lines.push_schemas.Given as goal

-- what is written, and then the text of what is left, is the whole
abbrev pub invariant-loop-schema : goal.invariant-loop-schema
invariant-loop-schema l =
    record l.writer { text = l.writer.text ++ flat_map table_line (drop l.schema-index l.schemas) }
    ≡ record l.initial.writer { text = l.initial.writer.text ++ flat_map table_line l.schemas }
