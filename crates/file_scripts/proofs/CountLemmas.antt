-- The counts of one line more.
use Rattle.std.proofs.Common.{◌≡◌, ◌≤◌, ◌<◌, ◌+◌, ◌^◌, ◌==◌, ℕ, Bool, true, false, List, [], ◌∷◌, ◌++◌, map, get_or, refl, ap, ◌∙◌, arith}
use Rattle.std.proofs.lemmas.Bool.Decides.{nat_tests}
use Rattle.file_text.specs.Said.{Said, Skipped, Header, Isolation, Replicas, TableOf, RowOf, SessionOf, LocalOf, StepOf, Schedule, End, ScheduleWord, Once, Times, StopTool, ResumeTool, StopReplica, StartReplica}
use Rattle.file_text.specs.Context.{session_said, sessions_in, local_said, locals_in, scheduled_said, scheduled_in, turns_in, turns_of as turns_said}
use Rattle.line_words.specs.Actors.{kept}
use Rattle.line_words.specs.Items.{kept_word}
use Rattle.line_items.specs.declared.counts.Counts.{Counts}
use Rattle.line_items.specs.Counted.{IsCounted, turns_of_word}
use Rattle.file_scripts.specs.Counting.{turns_of, CountsSession, CountsLocal, CountsTurns}
use Rattle.file_scripts.specs.Laws.{IsUncounted}
use Rattle.file_scripts.proofs.NumberLemmas.{kept_small, kept_back}

sessions_end : (before : List Said) (last : Said) → sessions_in (before ++ last ∷ []) ≡ sessions_in before + session_said last
sessions_end [] last = omega arith
sessions_end (said ∷ before) last = let e = sessions_end before last in omega (arith, e)

locals_end : (replica : ℕ) (before : List Said) (last : Said) → locals_in replica (before ++ last ∷ []) ≡ locals_in replica before + local_said replica last
locals_end replica [] last = omega arith
locals_end replica (said ∷ before) last = let e = locals_end replica before last in omega (arith, e)

scheduled_end : (before : List Said) (last : Said) → scheduled_in (before ++ last ∷ []) ≡ scheduled_in before + scheduled_said last
scheduled_end [] last = omega arith
scheduled_end (said ∷ before) last = let e = scheduled_end before last in omega (arith, e)

uncounted_sessions : (said : Said) → IsUncounted said → session_said said ≡ 0
uncounted_sessions Skipped u = refl
uncounted_sessions (Header version) u = refl
uncounted_sessions (Isolation level) u = refl
uncounted_sessions (Replicas count) u = refl
uncounted_sessions (TableOf name columns) u = refl
uncounted_sessions (RowOf node table literals) u = refl
uncounted_sessions (SessionOf session) u = absurd u
uncounted_sessions (LocalOf replica session) u = refl
uncounted_sessions (StepOf step) u = refl
uncounted_sessions (Schedule words) u = refl
uncounted_sessions End u = refl

uncounted_locals : (replica : ℕ) (said : Said) → IsUncounted said → local_said replica said ≡ 0
uncounted_locals replica Skipped u = refl
uncounted_locals replica (Header version) u = refl
uncounted_locals replica (Isolation level) u = refl
uncounted_locals replica (Replicas count) u = refl
uncounted_locals replica (TableOf name columns) u = refl
uncounted_locals replica (RowOf node table literals) u = refl
uncounted_locals replica (SessionOf session) u = refl
uncounted_locals replica (LocalOf other session) u = absurd u
uncounted_locals replica (StepOf step) u = refl
uncounted_locals replica (Schedule words) u = refl
uncounted_locals replica End u = refl

uncounted_turns : (said : Said) → IsUncounted said → scheduled_said said ≡ 0
uncounted_turns Skipped u = refl
uncounted_turns (Header version) u = refl
uncounted_turns (Isolation level) u = refl
uncounted_turns (Replicas count) u = refl
uncounted_turns (TableOf name columns) u = refl
uncounted_turns (RowOf node table literals) u = refl
uncounted_turns (SessionOf session) u = refl
uncounted_turns (LocalOf replica session) u = refl
uncounted_turns (StepOf step) u = refl
uncounted_turns (Schedule words) u = absurd u
uncounted_turns End u = refl

pub counts_stay : (counts : Counts) (before : List Said) (said : Said) → IsUncounted said → IsCounted counts before → IsCounted counts (before ++ said ∷ [])
counts_stay counts before said u k =
    let s = sessions_end before said in let t = scheduled_end before said in
    let a = uncounted_sessions said u in let b = uncounted_turns said u in
    let ks = k.sessions in let kt = k.scheduled in let kf = k.few_sessions in
    record {
      sessions = omega (arith, s, a, ks);
      locals = λ replica.
          let l = locals_end replica before said in let c = uncounted_locals replica said u in let kl = k.locals replica in
          omega (arith, l, c, kl);
      scheduled = omega (arith, t, b, kt);
      few_sessions = omega (arith, s, a, kf);
      few_locals = λ replica.
          let l = locals_end replica before said in let c = uncounted_locals replica said u in let kl = k.few_locals replica in
          omega (arith, l, c, kl);
    }

pub session_counted : (old new : Counts) (before : List Said) (session : ℕ) → CountsSession old new → sessions_in before < 64 → IsCounted old before → IsCounted new (before ++ SessionOf session ∷ [])
session_counted old new before session h few k =
    let s : sessions_in (before ++ SessionOf session ∷ []) ≡ sessions_in before + 1 = sessions_end before (SessionOf session) in
    let t : scheduled_in (before ++ SessionOf session ∷ []) ≡ scheduled_in before + 0 = scheduled_end before (SessionOf session) in
    let hs = h.sessions in let ht = h.scheduled in
    let ks = k.sessions in let kt = k.scheduled in
    record {
      sessions = omega (arith, s, hs, ks);
      locals = λ replica.
          let l : locals_in replica (before ++ SessionOf session ∷ []) ≡ locals_in replica before + 0 = locals_end replica before (SessionOf session) in
          let hl = h.locals (kept replica) in let kl = k.locals replica in
          omega (arith, l, hl, kl);
      scheduled = omega (arith, t, ht, kt);
      few_sessions = omega (arith, s, few);
      few_locals = λ replica.
          let l : locals_in replica (before ++ SessionOf session ∷ []) ≡ locals_in replica before + 0 = locals_end replica before (SessionOf session) in
          let kl = k.few_locals replica in
          omega (arith, l, kl);
    }

local_here : (replica session : ℕ) → local_said replica (LocalOf replica session) ≡ 1
local_here replica session = let e : (replica == replica) ≡ true = grind (arith, nat_tests) in rw e refl

local_there : (replica session other : ℕ) → (replica == other) ≡ false → local_said other (LocalOf replica session) ≡ 0
local_there replica session other e = rw e refl

pub local_counted : (old new : Counts) (before : List Said) (replica session : ℕ) → replica < 2 ^ 32 → CountsLocal replica old new → locals_in replica before < 16 → IsCounted old before → IsCounted new (before ++ LocalOf replica session ∷ [])
local_counted old new before replica session small h few k =
    let s : sessions_in (before ++ LocalOf replica session ∷ []) ≡ sessions_in before + 0 = sessions_end before (LocalOf replica session) in
    let t : scheduled_in (before ++ LocalOf replica session ∷ []) ≡ scheduled_in before + 0 = scheduled_end before (LocalOf replica session) in
    let hs = h.sessions in let ht = h.scheduled in
    let ks = k.sessions in let kt = k.scheduled in let kf = k.few_sessions in
    record {
      sessions = omega (arith, s, hs, ks);
      locals = λ other. by_place other (replica == other) refl;
      scheduled = omega (arith, t, ht, kt);
      few_sessions = omega (arith, s, kf);
      few_locals = λ other. few_place other (replica == other) refl;
    }
  where
    here : (other : ℕ) → (replica == other) ≡ true → other ≡ replica
    here other e = grind (arith, nat_tests, e)

    by_place : (other : ℕ) (is : Bool) → (replica == other) ≡ is → get_or new.locals.items (kept other) 0 ≡ locals_in other (before ++ LocalOf replica session ∷ [])
    by_place other true e =
        let same = here other e in
        let l = locals_end other before (LocalOf replica session) in
        let one : local_said other (LocalOf replica session) ≡ 1 = ap (λ (x : ℕ). local_said x (LocalOf replica session)) same ∙ local_here replica session in
        let own = h.own in
        let kl = k.locals other in
        let place : kept other ≡ replica = kept_small other (omega (arith, small, same)) ∙ same in
        let a : get_or new.locals.items (kept other) 0 ≡ get_or new.locals.items replica 0 = ap (λ (x : ℕ). get_or new.locals.items x 0) place in
        let b : get_or old.locals.items (kept other) 0 ≡ get_or old.locals.items replica 0 = ap (λ (x : ℕ). get_or old.locals.items x 0) place in
        omega (arith, l, one, own, kl, a, b)
    by_place other false e =
        let l = locals_end other before (LocalOf replica session) in
        let none = local_there replica session other e in
        let kl = k.locals other in
        let apart : kept other ≡ replica → ⊥ = λ p.
        let same : kept other ≡ other = kept_back other (omega (arith, small, p)) in
        let q : other ≡ replica = omega (arith, p, same) in
        grind (arith, nat_tests, q, e) in
        let stays = h.others (kept other) apart in
        omega (arith, l, none, kl, stays)

    few_place : (other : ℕ) (is : Bool) → (replica == other) ≡ is → locals_in other (before ++ LocalOf replica session ∷ []) ≤ 16
    few_place other true e =
        let same = here other e in
        let l = locals_end other before (LocalOf replica session) in
        let one : local_said other (LocalOf replica session) ≡ 1 = ap (λ (x : ℕ). local_said x (LocalOf replica session)) same ∙ local_here replica session in
        let m : locals_in other before ≡ locals_in replica before = ap (λ (x : ℕ). locals_in x before) same in
        omega (arith, l, one, m, few)
    few_place other false e =
        let l = locals_end other before (LocalOf replica session) in
        let none = local_there replica session other e in
        let kl = k.few_locals other in
        omega (arith, l, none, kl)

word_turns : (word : ScheduleWord) → turns_in word ≤ 10000000 → turns_of_word (kept_word word) ≡ turns_in word
word_turns (Once turn) s = refl
word_turns (Times turn count) s = kept_small count (omega (arith, s))
word_turns StopTool s = refl
word_turns ResumeTool s = refl
word_turns (StopReplica replica) s = refl
word_turns (StartReplica replica) s = refl

pub turns_kept : (words : List ScheduleWord) → turns_said words ≤ 10000000 → turns_of (map kept_word words) ≡ turns_said words
turns_kept [] s = refl
turns_kept (word ∷ words) s =
    let a = word_turns word (omega (arith, s)) in
    let b = turns_kept words (omega (arith, s)) in
    omega (arith, a, b)

pub turns_counted : (old new : Counts) (before : List Said) (words : List ScheduleWord) → turns_said words ≤ 10000000 → CountsTurns (turns_of (map kept_word words)) old new → IsCounted old before → IsCounted new (before ++ Schedule words ∷ [])
turns_counted old new before words some h k =
    let s : sessions_in (before ++ Schedule words ∷ []) ≡ sessions_in before + 0 = sessions_end before (Schedule words) in
    let t : scheduled_in (before ++ Schedule words ∷ []) ≡ scheduled_in before + turns_said words = scheduled_end before (Schedule words) in
    let e = turns_kept words some in
    let hs = h.sessions in let ht = h.scheduled in
    let ks = k.sessions in let kt = k.scheduled in let kf = k.few_sessions in
    record {
      sessions = omega (arith, s, hs, ks);
      locals = λ replica.
          let l : locals_in replica (before ++ Schedule words ∷ []) ≡ locals_in replica before + 0 = locals_end replica before (Schedule words) in
          let hl = h.locals (kept replica) in let kl = k.locals replica in
          omega (arith, l, hl, kl);
      scheduled = omega (arith, t, e, ht, kt);
      few_sessions = omega (arith, s, kf);
      few_locals = λ replica.
          let l : locals_in replica (before ++ Schedule words ∷ []) ≡ locals_in replica before + 0 = locals_end replica before (Schedule words) in
          let kl = k.few_locals replica in
          omega (arith, l, kl);
    }
