use Rattle.std.proofs.Common.{sym, subst, length}
use Rattle.std.specs.Prelude.{◌<◌, ◌^◌, Ok, Err}
use Rattle.row_types.specs.declared.table_schema.Schema.{Schema}
use Rattle.statement_grammar.specs.FirstFault.{end_place}
use Rattle.statement_reader.specs.Spots.{spot_of}
use Rattle.statement_trees.specs.Trees.{IsStopped}
use Rattle.statement_reading.specs.Readers.{reading_of}
use Rattle.statement_reading.specs.TreeEnds.{IsTreeEnd}
use Rattle.statement_progress.proofs.ProgressLemmas.{used_short}
use Rattle.statement_reads.proofs.FinishLemmas.{stopped, ends_tree}
use Rattle.statement_reads.proofs.ends.finish_tree.Goals as goal

pub end_tree-requires : goal.end_tree-requires
end_tree-requires c = record { columns = subst (λ (s : Schema). length s.columns < 2 ^ 32) (sym c.schema_or-schema.ensures) (used_short c.args.schemas.now.tables c.args.nothing.now c.args.inner.reader.draft.table c.requires.nothing c.requires.columns) }

pub returns-in-Ok : goal.returns-in-Ok
returns-in-Ok c key front w =
    c.finish.ensures c.args.schemas.now.tables key front
    (ends_tree c.args.schemas.now.tables c.args.nothing.now key front c.args.inner.reader c.args.inner.base c.args.inner.next w.ts c.args.end (Ok c.in-Ok.behind) c.requires.nothing w.is_open
    (subst (λ (x : Schema). IsTreeEnd c.args.schemas.now.tables x c.args.inner.base w.ts (reading_of c.args.schemas.now.tables c.args.inner.reader) (spot_of c.args.inner.next) (end_place c.args.end) (Ok c.in-Ok.behind)) c.schema_or-schema.ensures
    (subst (λ place. IsTreeEnd c.args.schemas.now.tables c.schema_or-schema.result.now c.args.inner.base w.ts (reading_of c.args.schemas.now.tables c.args.inner.reader) (spot_of c.args.inner.next) place (Ok c.in-Ok.behind)) c.place_of.ensures
    (c.in-Ok.ensures c.args.nothing.now w.ts c.schema_or-schema.ensures (subst (λ (x : Schema). IsStopped x c.args.inner.base w.ts c.args.inner.tree) (sym c.schema_or-schema.ensures) (stopped _ _ _ _ w.reads))))))

pub returns-in-Err : goal.returns-in-Err
returns-in-Err c key front w =
    ends_tree c.args.schemas.now.tables c.args.nothing.now key front c.args.inner.reader c.args.inner.base c.args.inner.next w.ts c.args.end (Err c.in-Err.fault) c.requires.nothing w.is_open
    (subst (λ (x : Schema). IsTreeEnd c.args.schemas.now.tables x c.args.inner.base w.ts (reading_of c.args.schemas.now.tables c.args.inner.reader) (spot_of c.args.inner.next) (end_place c.args.end) (Err c.in-Err.fault)) c.schema_or-schema.ensures
    (subst (λ place. IsTreeEnd c.args.schemas.now.tables c.schema_or-schema.result.now c.args.inner.base w.ts (reading_of c.args.schemas.now.tables c.args.inner.reader) (spot_of c.args.inner.next) place (Err c.in-Err.fault)) c.place_of.ensures
    (c.in-Err.ensures c.args.nothing.now w.ts c.schema_or-schema.ensures (subst (λ (x : Schema). IsStopped x c.args.inner.base w.ts c.args.inner.tree) (sym c.schema_or-schema.ensures) (stopped _ _ _ _ w.reads)))))
