use Rattle.std.proofs.Common.{◌≡◌, sym, ◌∙◌, subst, w64, SFits, to_z-of_z}
use Rattle.std.specs.Fmt.{signed_decimal}
use Rattle.ptc_run.proofs.LineLemmas.{never_cut}
use Rattle.ptc_run.proofs.NumberLemmas.{token_is}
use Rattle.ptc_run.proofs.row_lines.number_before.Goals as goal

pub returns-in_default-clause-only : goal.returns-in_default-clause-only
returns-in_default-clause-only c = λ n rest f e. never_cut c.args.stop c.args.bytes.now (signed_decimal n) rest c.in_default.ensures e

pub returns-in_default-number_of-clause-only : goal.returns-in_default-number_of-clause-only
returns-in_default-number_of-clause-only c = λ n rest f e.
    let t = token_is c.args.stop c.requires n c.in-Some.token.now c.in-Some.rest.now rest c.args.bytes.now f c.in-Some.ensures.0 c.in-Some.ensures.1 e in
    let none = c.in_default-number_of.ensures.only n f t.0 in
    cc

pub returns-clause-only : goal.returns-clause-only
returns-clause-only c = λ n rest f e.
    let t = token_is c.args.stop c.requires n c.in-Some.token.now c.in-Some.rest.now rest c.args.bytes.now f c.in-Some.ensures.0 c.in-Some.ensures.1 e in
    let found = c.in-Some-number_of.ensures.only n f t.0 in
    let same : c.in-Some-number_of.number ≡ n = cc in
    (to_z-of_z (subst (SFits w64) (sym same) f) ∙ same, t.1)
