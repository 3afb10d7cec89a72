use Rattle.std.proofs.Common.{◌∙◌, sym, ap}
use Rattle.checksum_table.specs.declared.check_rows.CheckEntry.{CheckEntry}
use Rattle.checksum_table.proofs.LastLemmas.{end_at_start, end_behind_other, end_behind_last}
use Rattle.checksum_table.proofs.places.last_chunk.Goals as goal

pub returns-then-end-eq0 : goal.returns-then-end-eq0
returns-then-end-eq0 c = sym (end_at_start c.args.table c.args.entries.now c.end_of-end.result c.end_of-end.ensures c.if-end-eq0.true)

pub returns-then-entry-table : goal.returns-then-entry-table
returns-then-entry-table c =
    sym (end_behind_other c.args.table c.args.entries.now c.end_of-end.result c.index-entries-end.result c.requires c.end_of-end.ensures c.if-end-eq0.false
    (λ e. c.if-entry-table.true (ap (λ (entry : CheckEntry). entry.table) c.index-entries-end.is ∙ e)))

pub returns : goal.returns
returns c =
    ap (λ (entry : CheckEntry). entry.chunk) c.index-entries-end.is
    ∙ sym (end_behind_last c.args.table c.args.entries.now c.end_of-end.result c.index-entries-end.result c.requires c.end_of-end.ensures c.if-end-eq0.false
    (sym (ap (λ (entry : CheckEntry). entry.table) c.index-entries-end.is) ∙ c.if-entry-table.false))
