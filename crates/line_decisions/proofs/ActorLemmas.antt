-- LOCAL and SCHEDULE lines: who is not declared.
use Rattle.std.proofs.Common.{◌≡◌, ◌<◌, ◌+◌, ◌^◌, ℕ, suc, Bool, true, false, List, [], ◌∷◌, map, length, Option, Some, None, refl, ap, ◌∙◌, arith}
use Rattle.std.specs.Prelude.{MatchOption, if◌then◌else◌}
use Rattle.file_text.specs.declared.places.Section.TheVariants.{LocalLines, ScheduleLines}
use Rattle.file_text.specs.Said.{Said, LocalOf, Schedule, ScheduleWord}
use Rattle.line_items.specs.declared.counts.Counts.{Counts}
use Rattle.line_items.specs.Counted.{IsCounted}
use Rattle.cause_laws.specs.Clear.{NamesDeclared}
use Rattle.line_checks.specs.declared.line_faults.LineFault.{LineFault}
use Rattle.line_checks.specs.declared.marks.Marks.{Marks}
use Rattle.line_checks.specs.MarksOf.{IsMarked}
use Rattle.file_scripts.specs.Laws.{Knows}
use Rattle.line_decisions.specs.Decides.{Decides}
use Rattle.line_decisions.specs.Tests.{first_broken, actor_tests, part_at, replica_actor, schedule_actor, word_place}
use Rattle.line_words.specs.Actors.{kept}
use Rattle.line_words.specs.Items.{kept_word}
use Rattle.line_words.specs.declared.items.ItemWord.{ItemWord}
use Rattle.file_scripts.specs.Declarations.{is_within, declares_word, first_undeclared}
use Rattle.file_laws.proofs.FitLemmas.{some_is}
use Rattle.file_scripts.proofs.DeclareLemmas.{replica_there, replica_absent, first_found, none_found, all_declared}
use Rattle.line_decisions.proofs.ToldLemmas.{NamesNobody, decided, script_told}

pub local_decided : (marks : Marks) (line : List ℕ) (replica : ℕ) (result : Option LineFault) → marks.replicas < 2 ^ 32 → result ≡ first_broken (actor_tests LocalLines (replica_actor marks.replicas line replica) marks)
    → (before : List Said) (named session : ℕ) → IsMarked marks before → replica ≡ kept named → Decides LocalLines before line (LocalOf named session) result
local_decided marks line replica result few e before named session m k =
    decided LocalLines before line (LocalOf named session) (actor_tests LocalLines (replica_actor marks.replicas line (kept named)) marks) result (e ∙ ap (λ (n : ℕ). first_broken (actor_tests LocalLines (replica_actor marks.replicas line n) marks)) k) (record {
      twice = λ w. w;
      level = λ w. w;
      row = λ fault w. w;
      script = script_told LocalLines before (LocalOf named session) marks m refl;
      actor = by_test (is_within (kept named) marks.replicas) refl;
    })
  where
    by_test : (b : Bool) → is_within (kept named) marks.replicas ≡ b
        → MatchOption (if b then None else Some (part_at LocalLines line 0)) (NamesDeclared before (LocalOf named session)) (λ place. NamesNobody LocalLines before line (LocalOf named session) place)
    by_test true t = λ number w. w.1 (replica_there before marks.replicas named m.replicas (omega (arith, few)) t)
    by_test false t = record { number = 0; who = (refl, replica_absent before marks.replicas named m.replicas (omega (arith, few)) t); is = refl }

pub schedule_decided : (marks : Marks) (counts : Counts) (line : List ℕ) (words : List ItemWord) (result : Option LineFault) → marks.replicas < 2 ^ 32 → result ≡ first_broken (actor_tests ScheduleLines (schedule_actor marks.replicas counts line words) marks)
    → (before : List Said) (said : List ScheduleWord) → IsMarked marks before → IsCounted counts before → words ≡ map kept_word said → Decides ScheduleLines before line (Schedule said) result
schedule_decided marks counts line words result few e before said m c k =
    decided ScheduleLines before line (Schedule said) (actor_tests ScheduleLines (schedule_actor marks.replicas counts line (map kept_word said)) marks) result (e ∙ ap (λ (l : List ItemWord). first_broken (actor_tests ScheduleLines (schedule_actor marks.replicas counts line l) marks)) k) (record {
      twice = λ w. w;
      level = λ w. w;
      row = λ fault w. w;
      script = script_told ScheduleLines before (Schedule said) marks m refl;
      actor = by_first (first_undeclared counts marks.replicas 0 (map kept_word said)) refl;
    })
  where
    knows : Knows counts marks.replicas before
    knows = record { counted = c; number = m.replicas; few = omega (arith, few) }

    by_first : (found : Option ℕ) → first_undeclared counts marks.replicas 0 (map kept_word said) ≡ found
        → MatchOption (word_place line found) (NamesDeclared before (Schedule said)) (λ place. NamesNobody ScheduleLines before line (Schedule said) place)
    by_first None f = λ number w. all_declared before said number (none_found counts before marks.replicas said knows f) w
    by_first (Some number) f = record { number = number; who = first_found counts before marks.replicas said number knows f; is = refl }

-- the word that is found is one of the line
pub first_within : (counts : Counts) (replicas number : ℕ) (words : List ItemWord) (found : ℕ) → first_undeclared counts replicas number words ≡ Some found → found < number + length words
first_within counts replicas number [] found e = absurd cc
first_within counts replicas number (word ∷ words) found e = by_test (declares_word counts replicas word) e (first_within counts replicas (suc number) words found)
  where
    by_test : (b : Bool) → (if b then first_undeclared counts replicas (suc number) words else Some number) ≡ Some found → (first_undeclared counts replicas (suc number) words ≡ Some found → found < suc number + length words) → found < number + suc (length words)
    by_test true f go = let g = go f in omega (arith, g)
    by_test false f go = let g = some_is number found f in omega (arith, g)
