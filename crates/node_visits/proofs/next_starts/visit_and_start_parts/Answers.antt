use Rattle.std.proofs.Common.{◌≡◌, refl, sym, subst}
use Rattle.std.specs.Prelude.{OnOk}
use Rattle.ptc_statement.specs.Fits.{FitsSchemas}
use Rattle.node_model.specs.Node.{start_of}
use Rattle.node_model.specs.Calls.{Visit as VisitCall, after_call}
use Rattle.node_parts.specs.Kept.{node_view}
use Rattle.node_visits.specs.Answers.{visit_answer}
use Rattle.node_visits.specs.NextStarts.{next_started}
use Rattle.node_model.specs.declared.txns.Walk.{Walk}
use Rattle.node_visits.proofs.DoneLemmas.{all_ready, all_answered, all_started, all_refused}
use Rattle.node_visits.proofs.next_starts.visit_and_start_parts.Goals as goal

pub go_on-requires-clause-ready : goal.go_on-requires-clause-ready
go_on-requires-clause-ready c =
    all_ready c.args.parts.now c.visit_parts-answer.new.parts c.args.owner c.visit_parts-answer.result c.in_ok-walk.walk c.requires.under_way c.visit_parts-answer.ensures.answer c.visit_parts-answer.ensures.ok
    (subst (λ (w : Walk). FitsSchemas c.args.parts.now.schemas.tables w.statement) (sym c.in_ok-walk.ensures) c.requires.fits)
    (subst (λ (w : Walk). w.cursor ≡ start_of c.args.parts.now.schemas.tables w.statement) (sym c.in_ok-walk.ensures) refl)

pub returns-clause-answer : goal.returns-clause-answer
returns-clause-answer c = all_answered c.visit_parts-answer.result c.go_on.result _ c.go_on.ensures.same c.visit_parts-answer.ensures.answer

pub returns-clause-ok : goal.returns-clause-ok
returns-clause-ok c =
    subst (λ (w : Walk). OnOk c.go_on.result (node_view c.go_on.new.parts ≡ next_started (visit_answer c.args.owner.0 (node_view c.args.parts.now)) c.args.owner w.statement (after_call (VisitCall c.args.owner) (node_view c.args.parts.now))))
    c.in_ok-walk.ensures
    (all_started c.args.parts.now c.visit_parts-answer.new.parts c.go_on.new.parts c.args.owner c.visit_parts-answer.result c.go_on.result c.in_ok-walk.walk c.go_on.ensures.same c.visit_parts-answer.ensures.answer
    c.visit_parts-answer.ensures.ok c.go_on.ensures.ok)

pub returns-clause-err : goal.returns-clause-err
returns-clause-err c =
    all_refused c.args.parts.now c.visit_parts-answer.new.parts c.go_on.new.parts c.visit_parts-answer.result c.go_on.result c.go_on.ensures.same c.visit_parts-answer.ensures.err c.go_on.ensures.err
