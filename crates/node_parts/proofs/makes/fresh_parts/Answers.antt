use Rattle.std.proofs.Common.{refl, ap, ◌∙◌}
use Rattle.node_parts.specs.NotesView.{NotesView}
use Rattle.lock_table.specs.LockView.{LockView}
use Rattle.statement_log.specs.LogView.{LogView}
use Rattle.node_parts.specs.Fresh.{fresh_tables}
use Rattle.node_parts.proofs.FreshLemmas.{fresh_parts_kept}
use Rattle.node_reads.proofs.KeptReads.{fresh_reads}
use Rattle.node_parts.proofs.makes.fresh_parts.Goals as goal

pub returns-clause-kept : goal.returns-clause-kept
returns-clause-kept c =
    fresh_parts_kept c.args.schemas.tables c.args.start _ c.requires.schemas c.requires.start (record {
      schemas_are = refl;
      start_is = refl;
      history = ap (λ (v : LogView). v.entries) c.new.ensures;
      checks = c.new-2.ensures;
      applied = refl;
      tables = c.in_ok-tables.ensures ∙ (λ i. fresh_tables (c.as_slice.ensures i) (c.as_slice-2.ensures i));
      txns = c.new-3.ensures;
      held = ap (λ (v : LockView). v.held) c.new-4.ensures;
      notes = ap (λ (v : NotesView). v.notes) c.new-5.ensures;
    })

pub returns-clause-reads : goal.returns-clause-reads
returns-clause-reads c = fresh_reads _ _ _ _ c.new-3.ensures c.new-6.ensures.items
