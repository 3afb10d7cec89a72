use Rattle.std.proofs.Common.{◌∙◌, ap, sym, subst, refl}
use Rattle.file_state.proofs.KeepLemmas.{table_kept}
use Rattle.std.specs.Prelude.{◌++◌, ◌∷◌, []}
use Rattle.std.specs.List.{AllByRecursion}
use Rattle.row_types.specs.declared.table_schema.Schema.{Schema}
use Rattle.file_rows.specs.Holds.{IsOfKey}
use Rattle.file_state.specs.declared.states.FileState.{FileState}
use Rattle.file_state.proofs.states.FileState.take_table.Goals as goal

pub returns : goal.returns
returns c = λ name columns e.
    let new : FileState = record { marks = c.mark.new.self; counts = c.args.self.now.counts; schemas = record { tables = c.push.new.self }; rows = c.begin.new.self; scripts = c.args.self.now.scripts; schedule = c.args.self.now.schedule } in
    table_kept c.args.self.now new c.in_ok-table.table c.args.schema
    (c.mark.ensures, refl, c.in_ok-push.ensures.ok ∙ ap (λ (x : Schema). c.args.self.now.schemas.tables ++ x ∷ []) c.in_ok-copy.ensures, c.in_ok-begin.ensures, refl, refl)
    c.requires.schema c.requires.few c.in_ok-table.ensures.schema c.in_ok-table.ensures.rows
    (subst (λ (x : Schema). AllByRecursion (IsOfKey x.key_len) c.in_ok-table.table.nodes.items) (sym c.in_ok-table.ensures.schema) c.in_ok-table.ensures.keys)
    name columns e
