use Rattle.std.proofs.Common.{sym, subst, IfOk}
use Rattle.std.proofs.lemmas.Result.{IfOk-weaker}
use Rattle.ptc_statement.specs.declared.statements.Statement.{Statement}
use Rattle.table_changes.specs.Plans.{IsDue}
use Rattle.table_changes.proofs.table_changes.planned.Goals as goal

pub returns-in-Insert : goal.returns-in-Insert
returns-in-Insert c =
    subst (λ (statement : Statement). IfOk c.insertion.result (IsDue c.args.table.now.key_len c.args.schema.now statement c.args.table.now.rows)) (sym c.in-Insert.is)
    (IfOk-weaker c.insertion.result _ _ (λ change due. due c.in-Insert.table) c.insertion.ensures)

pub returns-in-Replace : goal.returns-in-Replace
returns-in-Replace c =
    subst (λ (statement : Statement). IfOk c.replacement.result (IsDue c.args.table.now.key_len c.args.schema.now statement c.args.table.now.rows)) (sym c.in-Replace.is)
    (IfOk-weaker c.replacement.result _ _ (λ change due. due c.in-Replace.table) c.replacement.ensures)
