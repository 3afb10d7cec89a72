use Rattle.std.proofs.Common.{◌∷◌, [], ◌++◌, inl, inr, refl, subst}
use Rattle.std.specs.Prelude.{◌≡◌, ◌≢◌}
use Rattle.std.proofs.lemmas.Result.{IfOk-weaker}
use Rattle.statement_grammar.specs.declared.text_faults.TextFault.TheVariants.{Memory}
use Rattle.statement_grammar.specs.FirstFault.{IsFirstFault}
use Rattle.statement_text.specs.StatementTexts.{statement_text}
use Rattle.statement_reads.specs.Reads.{IsRead}
use Rattle.text_check.specs.Checks.{AddsAnswer, IsWritten, IsRefused, fault_text}
use Rattle.text_check.proofs.answers.push_read.Goals as goal

pub returns-in-Ok : goal.returns-in-Ok
returns-in-Ok c line h =
    let schemas = c.args.schemas.now.tables in
    let text = statement_text schemas c.in-Ok.statement in
    IfOk-weaker c.push_statement.result (λ _. c.push_statement.new.out.items ≡ c.args.out.now.items ++ text ++ 10 ∷ []) (λ _. AddsAnswer schemas line c.args.out.now.items c.push_statement.new.out.items)
    (λ _ e. record { answer = text; is = IsWritten c.in-Ok.statement (subst (IsRead schemas line) c.in-Ok.is h) refl; added = e }) c.push_statement.ensures

pub returns-in-Err : goal.returns-in-Err
returns-in-Err c line h =
    let schemas = c.args.schemas.now.tables in
    let fault = c.in-Err.fault in
    let first : (fault ≢ Memory) → IsFirstFault schemas line fault = λ some. elim (subst (IsRead schemas line) c.in-Err.is h) [
      | inl e ↦ absurd (some e)
      | inr f ↦ f
    ] in
    IfOk-weaker c.push_refusal.result (λ _. (c.push_refusal.new.out.items ≡ c.args.out.now.items ++ fault_text fault ++ 10 ∷ []) × (fault ≢ Memory)) (λ _. AddsAnswer schemas line c.args.out.now.items c.push_refusal.new.out.items)
    (λ _ e. record { answer = fault_text fault; is = IsRefused fault (first e.1) refl; added = e.0 }) c.push_refusal.ensures
