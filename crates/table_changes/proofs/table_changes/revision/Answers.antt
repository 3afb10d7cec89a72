use Rattle.std.proofs.Common.{◌∙◌, ap}
use Rattle.row_types.specs.declared.edges.Span.{Span}
use Rattle.row_types.specs.KeyRows.{rows_in}
use Rattle.table_changes.specs.RowChanges.{changes_within}
use Rattle.table_changes.proofs.DueLemmas.{revision_due}
use Rattle.table_changes.proofs.table_changes.revision.Goals as goal

pub returns : goal.returns
returns c =
    revision_due c.args.table.now.key_len c.args.schema.now c.args.statement.now c.args.table.now.rows c.in_ok-rows.rows c.requires.sound c.requires.statement c.requires.absent
    (c.in_ok-rows.ensures
    ∙ ap (λ (span : Span). changes_within c.args.schema.now c.args.statement.now (rows_in c.args.table.now.key_len span c.args.table.now.rows)) c.in_ok-span.ensures)
