use Rattle.std.proofs.Common.{◌≡◌, Ok, Some, sym, ◌∙◌, ap, subst, rules, w64, SFits, to_z-of_z}
use Rattle.std.specs.Fmt.{signed_decimal}
use Rattle.ptc_run.proofs.NumberLemmas.{number_utf8, number_parses}
use Rattle.ptc_run.proofs.row_lines.number_of.Goals as goal

pub returns-in_default-clause-only : goal.returns-in_default-clause-only
returns-in_default-clause-only c = λ n f e. absurd (c.in_default.ensures.cases.0 (number_utf8 n c.args.token.now f e))

pub returns-in_default-parse-clause-only : goal.returns-in_default-parse-clause-only
returns-in_default-parse-clause-only c = λ n f e.
    let parsed : c.parse.result ≡ Ok n = number_parses n c.in-Ok.text.now c.parse.result f (c.in-Ok.ensures.cases.0 ∙ e) c.parse.ensures.value.0 in
    absurd cc

pub returns-then-eq-clause-only : goal.returns-then-eq-clause-only
returns-then-eq-clause-only c = λ n f e.
    let parsed : c.parse.result ≡ Ok n = number_parses n c.in-Ok.text.now c.parse.result f (c.in-Ok.ensures.cases.0 ∙ e) c.parse.ensures.value.0 in
    let same : c.in-Ok-parse.number ≡ n = cc in
    ap Some (to_z-of_z (subst (SFits w64) (sym same) f) ∙ same)

pub returns-else-eq-clause-only : goal.returns-else-eq-clause-only
returns-else-eq-clause-only c = λ n f e.
    let parsed : c.parse.result ≡ Ok n = number_parses n c.in-Ok.text.now c.parse.result f (c.in-Ok.ensures.cases.0 ∙ e) c.parse.ensures.value.0 in
    let same : c.in-Ok-parse.number ≡ n = cc in
    let other : c.as_bytes.result.now ≡ c.args.token.now → ⊥ = search rules in
    absurd (other (c.as_bytes.ensures.value ∙ c.format.ensures.text ∙ ap signed_decimal (to_z-of_z (subst (SFits w64) (sym same) f) ∙ same) ∙ sym e))
