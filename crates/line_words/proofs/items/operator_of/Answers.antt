use Rattle.std.proofs.Common.{◌≡◌, ◌++◌, List, ℕ, sym, ap, ◌∙◌, rules}
use Rattle.std.specs.Prelude.{codes}
use Rattle.line_words.proofs.ItemLemmas.{no_stop_word, no_start_word, no_operator}
use Rattle.line_words.proofs.items.operator_of.Goals as goal

pub returns-in-None-stop_word : goal.returns-in-None-stop_word
returns-in-None-stop_word c = no_stop_word c.args.text.now c.in-Some.rest.now (search rules) c.in-None-stop_word.ensures

pub returns-in-None-start_word : goal.returns-in-None-start_word
returns-in-None-start_word c = no_start_word c.args.text.now c.in-Some-behind.rest.now (search rules) c.in-None-start_word.ensures

pub returns-else-eq : goal.returns-else-eq
returns-else-eq c =
    let stop : c.as_slice.result.now ≡ codes "stop:" = search rules in
    let start : c.as_slice-in-None.result.now ≡ codes "start:" = search rules in
    no_operator c.args.text.now
    (λ more e. c.in-None.ensures more (e ∙ ap (λ (xs : List ℕ). xs ++ more) (sym stop)))
    (λ more e. c.in-None-behind.ensures more (e ∙ ap (λ (xs : List ℕ). xs ++ more) (sym start)))
    (search rules)
