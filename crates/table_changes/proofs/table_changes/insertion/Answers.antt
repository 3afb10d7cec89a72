use Rattle.std.proofs.Common.{◌∙◌, ap, sym, ℕ}
use Rattle.std.specs.Option.{option_copied}
use Rattle.std.proofs.lemmas.Result.{IfOk-weaker}
use Rattle.ptc_statement.specs.declared.statements.Statement.TheVariants.{Insert}
use Rattle.table_changes.proofs.DueLemmas.{insertion_new, insertion_old, due_when}
use Rattle.table_changes.proofs.table_changes.insertion.Goals as goal

pub returns-in-None : goal.returns-in-None
returns-in-None c =
    IfOk-weaker c.one_put.result _ _
    (due_when c.args.table.now.key_len c.args.schema.now (λ (number : ℕ). Insert number c.args.row.now) c.args.table.now.rows _
    (insertion_new c.args.table.now.key_len c.args.schema.now c.key_values.result.now c.args.row.now c.args.table.now.rows c.requires.sound c.requires.row
    c.key_values.ensures (sym (ap option_copied c.in-None.is) ∙ c.get_at.ensures)))
    c.one_put.ensures

pub returns-in-Some : goal.returns-in-Some
returns-in-Some c =
    due_when c.args.table.now.key_len c.args.schema.now (λ (number : ℕ). Insert number c.args.row.now) c.args.table.now.rows _
    (insertion_old c.args.table.now.key_len c.args.schema.now c.key_values.result.now c.args.row.now c.in-Some.field-0.now c.args.table.now.rows c.requires.sound c.requires.row
    c.key_values.ensures (sym (ap option_copied c.in-Some.is) ∙ c.get_at.ensures))
    c.nothing.result c.nothing.ensures
