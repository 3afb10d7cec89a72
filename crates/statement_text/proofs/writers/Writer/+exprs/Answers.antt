use Rattle.std.proofs.Common.{Bool, OnOk, subst}
use Rattle.statement_text.specs.ConditionTexts.{enclosed, expr_text}
use Rattle.statement_text.specs.Written.{Appended}
use Rattle.statement_text.proofs.writers.Writer.+exprs.Goals as goal

pub push_after_sign-returns : goal.push_after_sign-returns
push_after_sign-returns t c =
    subst (λ (bare : Bool). OnOk c.push_enclosed.result (Appended (enclosed bare (expr_text c.args.schemas.now c.args.table c.args.operand.now)) c.args.self.now c.push_enclosed.new.self))
    (c.is_bare_after_sign.ensures c.args.schemas.now c.args.table) c.push_enclosed.ensures

pub push_operand-returns : goal.push_operand-returns
push_operand-returns t c =
    subst (λ (bare : Bool). OnOk c.push_enclosed.result (Appended (enclosed bare (expr_text c.args.schemas.now c.args.table c.args.operand.now)) c.args.self.now c.push_enclosed.new.self))
    (c.is_leaf.ensures c.args.schemas.now c.args.table) c.push_enclosed.ensures
