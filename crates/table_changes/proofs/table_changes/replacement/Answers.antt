use Rattle.std.proofs.Common.{◌∙◌, ap, sym, None, Some, ℕ}
use Rattle.std.specs.Option.{option_copied}
use Rattle.std.proofs.lemmas.Result.{IfOk-weaker}
use Rattle.ptc_statement.specs.declared.statements.Statement.TheVariants.{Replace}
use Rattle.table_changes.proofs.DueLemmas.{replacement_due, due_when}
use Rattle.table_changes.proofs.table_changes.replacement.Goals as goal

pub returns-in-None : goal.returns-in-None
returns-in-None c =
    IfOk-weaker c.one_put.result _ _
    (due_when c.args.table.now.key_len c.args.schema.now (λ (number : ℕ). Replace number c.args.row.now) c.args.table.now.rows _
    (replacement_due c.args.table.now.key_len c.args.schema.now c.key_values.result.now c.args.row.now c.args.table.now.rows None c.requires.sound c.requires.row
    c.key_values.ensures (sym (ap option_copied c.in-None.is) ∙ c.get_at.ensures)))
    c.one_put.ensures

pub returns-in-Some : goal.returns-in-Some
returns-in-Some c =
    IfOk-weaker c.one_put-in-Some.result _ _
    (due_when c.args.table.now.key_len c.args.schema.now (λ (number : ℕ). Replace number c.args.row.now) c.args.table.now.rows _
    (replacement_due c.args.table.now.key_len c.args.schema.now c.key_values.result.now c.args.row.now c.args.table.now.rows (Some c.in-Some.field-0.now) c.requires.sound c.requires.row
    c.key_values.ensures (sym (ap option_copied c.in-Some.is) ∙ c.get_at.ensures)))
    c.one_put-in-Some.ensures
