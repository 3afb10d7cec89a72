use Rattle.std.proofs.Common.{Bool, OnOk, not, subst}
use Rattle.statement_text.specs.ConditionTexts.{enclosed, cond_text}
use Rattle.statement_text.specs.Written.{Appended}
use Rattle.statement_text.proofs.writers.Writer.+conditions.Goals as goal

pub push_left_of_and-returns : goal.push_left_of_and-returns
push_left_of_and-returns t c =
    subst (λ (is_or : Bool). OnOk c.push_joined.result (Appended (enclosed (not is_or) (cond_text c.args.schemas.now c.args.table c.args.left.now)) c.args.self.now c.push_joined.new.self))
    (c.is_or.ensures c.args.schemas.now c.args.table) c.push_joined.ensures

pub push_left_of_or-returns : goal.push_left_of_or-returns
push_left_of_or-returns t c =
    subst (λ (is_and : Bool). OnOk c.push_joined.result (Appended (enclosed (not is_and) (cond_text c.args.schemas.now c.args.table c.args.left.now)) c.args.self.now c.push_joined.new.self))
    (c.is_and.ensures c.args.schemas.now c.args.table) c.push_joined.ensures

pub push_on_the_right-returns : goal.push_on_the_right-returns
push_on_the_right-returns t c =
    subst (λ (is_either : Bool). OnOk c.push_joined.result (Appended (enclosed (not is_either) (cond_text c.args.schemas.now c.args.table c.args.right.now)) c.args.self.now c.push_joined.new.self))
    (c.is_either.ensures c.args.schemas.now c.args.table) c.push_joined.ensures
