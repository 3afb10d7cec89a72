use Rattle.std.proofs.Common.{◌≡◌, ◌∷◌, [], rules}
use Rattle.ptc_run.proofs.ScheduleLemmas.{other_word, is_schedule, other_end}
use Rattle.ptc_run.proofs.schedule_lines.words_of.Goals as goal

pub returns-in_default : goal.returns-in_default
returns-in_default c = other_word c.args.line.now c.args.some_session c.in_default.ensures

pub returns-then-eq : goal.returns-then-eq
returns-then-eq c =
    let end : c.loop-word.rest.now ≡ 10 ∷ [] = search rules in
    is_schedule c.args.line.now c.in-Some.text.now c.loop-word.rest.now c.args.some_session c.loop-word.words.items c.in-Some.ensures c.loop-word.invariant end

pub returns-else-eq : goal.returns-else-eq
returns-else-eq c =
    let other : c.loop-word.rest.now ≡ 10 ∷ [] → ⊥ = search rules in
    other_end c.args.line.now c.in-Some.text.now c.loop-word.rest.now c.args.some_session c.loop-word.words.items c.in-Some.ensures c.loop-word.invariant c.in_default-first_word.ensures other
