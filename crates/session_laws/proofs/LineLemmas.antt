-- The calls of lines, one after the other, and what they depend on.
use Rattle.std.proofs.Common.{◌≡◌, ◌∙◌, ℕ, ◌+◌, ◌<◌, ◌≤◌, Bool, List, [], ◌∷◌, ◌++◌, Option, None, Some, refl, ap, sym, append_assoc, append-nil, le_trans, le_refl, arith}
use Rattle.std.specs.List.{AllByRecursion}
use Rattle.ptc_statement.specs.declared.statements.Statement.{Statement}
use Rattle.ptc_statement.specs.declared.scripts.ScriptLine.{ScriptLine}
use Rattle.ptc_statement.specs.declared.scripts.ScriptStep.{ScriptStep}
use Rattle.ptc_statement.specs.declared.scripts.ScriptStep.TheVariants.{Begin, Commit, Rollback, Run}
use Rattle.statement_log.specs.declared.entries.Entry.{Entry}
use Rattle.statement_log.specs.declared.origins.Origin.{Origin}
use Rattle.session_laws.specs.OwnCalls.{is_among, Place, kept, entry_of, place_behind, entries_at, calls_from}

-- the place behind lines
abbrev pub places : List ℕ → Place → List ScriptLine → Place
places refused place [] = place
places refused place (line ∷ lines) = places refused (place_behind (is_among line.line refused) line.step place.number place.begun) lines

pub places_more : (refused : List ℕ) (place : Place) (xs ys : List ScriptLine) → places refused place (xs ++ ys) ≡ places refused (places refused place xs) ys
places_more refused place [] ys = refl
places_more refused place (line ∷ xs) ys = places_more refused (place_behind (is_among line.line refused) line.step place.number place.begun) xs ys

pub calls_more : (origin : Origin) (abandoned refused : List ℕ) (place : Place) (xs ys : List ScriptLine)
    → calls_from origin abandoned refused place (xs ++ ys) ≡ calls_from origin abandoned refused place xs ++ calls_from origin abandoned refused (places refused place xs) ys
calls_more origin abandoned refused place [] ys = refl
calls_more origin abandoned refused place (line ∷ xs) ys =
    let es = entries_at origin (is_among place.number abandoned) (is_among line.line refused) line.step place.begun in
    let behind = place_behind (is_among line.line refused) line.step place.number place.begun in
    ap (λ (more : List Entry). es ++ more) (calls_more origin abandoned refused behind xs ys)
    ∙ sym (append_assoc es (calls_from origin abandoned refused behind xs) (calls_from origin abandoned refused (places refused behind xs) ys))

-- lines that run statements

abbrev pub IsRun : ScriptStep → Type 0
IsRun Begin = ⊥
IsRun (Run statement) = Unit {0}
IsRun Commit = ⊥
IsRun Rollback = ⊥

abbrev pub AreRuns : List ScriptLine → Type 0
AreRuns lines = AllByRecursion (λ (line : ScriptLine). IsRun line.step) lines

abbrev pub IsEnd : ScriptStep → Type 0
IsEnd Begin = ⊥
IsEnd (Run statement) = ⊥
IsEnd Commit = Unit {0}
IsEnd Rollback = Unit {0}

-- the statements of lines, without those that were refused
abbrev pub kept_at : Bool → ScriptStep → List Statement
kept_at refused Begin = []
kept_at refused (Run statement) = kept refused statement
kept_at refused Commit = []
kept_at refused Rollback = []

abbrev pub kept_of : List ℕ → List ScriptLine → List Statement
kept_of refused [] = []
kept_of refused (line ∷ lines) = kept_at (is_among line.line refused) line.step ++ kept_of refused lines

abbrev pub opened : ℕ → List Statement → Place
opened number done = record { number = number; begun = Some done }

abbrev pub closed : ℕ → Place
closed number = record { number = number; begun = None }

pub kept_more : (refused : List ℕ) (xs ys : List ScriptLine) → kept_of refused (xs ++ ys) ≡ kept_of refused xs ++ kept_of refused ys
kept_more refused [] ys = refl
kept_more refused (line ∷ xs) ys =
    ap (λ (more : List Statement). kept_at (is_among line.line refused) line.step ++ more) (kept_more refused xs ys)
    ∙ sym (append_assoc (kept_at (is_among line.line refused) line.step) (kept_of refused xs) (kept_of refused ys))

pub runs_place : (refused : List ℕ) (number : ℕ) (done : List Statement) (runs : List ScriptLine) → AreRuns runs → places refused (opened number done) runs ≡ opened number (done ++ kept_of refused runs)
runs_place refused number done [] are = ap (opened number) (sym (append-nil done))
runs_place refused number done (line ∷ lines) are = at (λ (d : List Statement). runs_place refused number d lines are.1) line.step are.0
  where
    at : ((d : List Statement) → places refused (opened number d) lines ≡ opened number (d ++ kept_of refused lines)) → (step : ScriptStep) → IsRun step
        → places refused (place_behind (is_among line.line refused) step number (Some done)) lines ≡ opened number (done ++ (kept_at (is_among line.line refused) step ++ kept_of refused lines))
    at more Begin is = absurd is
    at more (Run statement) is =
        more (done ++ kept (is_among line.line refused) statement)
        ∙ ap (opened number) (append_assoc done (kept (is_among line.line refused) statement) (kept_of refused lines))
    at more Commit is = absurd is
    at more Rollback is = absurd is

pub runs_silent : (origin : Origin) (abandoned refused : List ℕ) (number : ℕ) (done : List Statement) (runs : List ScriptLine) → AreRuns runs
    → calls_from origin abandoned refused (opened number done) runs ≡ []
runs_silent origin abandoned refused number done [] are = refl
runs_silent origin abandoned refused number done (line ∷ lines) are = at (λ (d : List Statement). runs_silent origin abandoned refused number d lines are.1) line.step are.0
  where
    at : ((d : List Statement) → calls_from origin abandoned refused (opened number d) lines ≡ []) → (step : ScriptStep) → IsRun step
        → entries_at origin (is_among number abandoned) (is_among line.line refused) step (Some done)
        ++ calls_from origin abandoned refused (place_behind (is_among line.line refused) step number (Some done)) lines ≡ []
    at more Begin is = absurd is
    at more (Run statement) is = more (done ++ kept (is_among line.line refused) statement)
    at more Commit is = absurd is
    at more Rollback is = absurd is

-- a transaction from BEGIN on

pub open_place : (refused : List ℕ) (number : ℕ) (begin : ScriptLine) (runs : List ScriptLine) → begin.step ≡ Begin → AreRuns runs
    → places refused (closed number) (begin ∷ runs) ≡ opened number (kept_of refused (begin ∷ runs))
open_place refused number begin runs begins are =
    ap (λ (step : ScriptStep). places refused (place_behind (is_among begin.line refused) step number None) runs) begins
    ∙ runs_place refused number [] runs are
    ∙ ap (λ (step : ScriptStep). opened number (kept_at (is_among begin.line refused) step ++ kept_of refused runs)) (sym begins)

pub open_silent : (origin : Origin) (abandoned refused : List ℕ) (number : ℕ) (begin : ScriptLine) (runs : List ScriptLine) → begin.step ≡ Begin → AreRuns runs
    → calls_from origin abandoned refused (closed number) (begin ∷ runs) ≡ []
open_silent origin abandoned refused number begin runs begins are =
    ap (λ (step : ScriptStep).
    entries_at origin (is_among number abandoned) (is_among begin.line refused) step None
    ++ calls_from origin abandoned refused (place_behind (is_among begin.line refused) step number None) runs) begins
    ∙ runs_silent origin abandoned refused number [] runs are

end_place : (refused : Bool) (number : ℕ) (begun : Option (List Statement)) (step : ScriptStep) → IsEnd step → place_behind refused step number begun ≡ closed (number + 1)
end_place refused number begun Begin is = absurd is
end_place refused number begun (Run statement) is = absurd is
end_place refused number begun Commit is = refl
end_place refused number begun Rollback is = refl

pub txn_place : (refused : List ℕ) (number : ℕ) (begin end : ScriptLine) (runs : List ScriptLine) → begin.step ≡ Begin → AreRuns runs → IsEnd end.step
    → places refused (closed number) ((begin ∷ runs) ++ end ∷ []) ≡ closed (number + 1)
txn_place refused number begin end runs begins are ends =
    places_more refused (closed number) (begin ∷ runs) (end ∷ [])
    ∙ ap (λ (p : Place). places refused p (end ∷ [])) (open_place refused number begin runs begins are)
    ∙ end_place (is_among end.line refused) number (Some (kept_of refused (begin ∷ runs))) end.step ends

pub txn_calls : (origin : Origin) (abandoned refused : List ℕ) (number : ℕ) (begin end : ScriptLine) (runs : List ScriptLine) → begin.step ≡ Begin → AreRuns runs
    → calls_from origin abandoned refused (closed number) ((begin ∷ runs) ++ end ∷ [])
    ≡ entries_at origin (is_among number abandoned) (is_among end.line refused) end.step (Some (kept_of refused (begin ∷ runs)))
txn_calls origin abandoned refused number begin end runs begins are =
    calls_more origin abandoned refused (closed number) (begin ∷ runs) (end ∷ [])
    ∙ ap (λ (es : List Entry). es ++ calls_from origin abandoned refused (places refused (closed number) (begin ∷ runs)) (end ∷ [])) (open_silent origin abandoned refused number begin runs begins are)
    ∙ ap (λ (p : Place). calls_from origin abandoned refused p (end ∷ [])) (open_place refused number begin runs begins are)
    ∙ append-nil (entries_at origin (is_among number abandoned) (is_among end.line refused) end.step (Some (kept_of refused (begin ∷ runs))))

-- a lone statement

pub lone_place : (refused : List ℕ) (number : ℕ) (line : ScriptLine) → IsRun line.step → places refused (closed number) (line ∷ []) ≡ closed (number + 1)
lone_place refused number line is = at line.step is
  where
    at : (step : ScriptStep) → IsRun step → place_behind (is_among line.line refused) step number None ≡ closed (number + 1)
    at Begin e = absurd e
    at (Run statement) e = refl
    at Commit e = absurd e
    at Rollback e = absurd e

pub lone_calls : (origin : Origin) (abandoned refused : List ℕ) (number : ℕ) (line : ScriptLine) → IsRun line.step
    → calls_from origin abandoned refused (closed number) (line ∷ []) ≡ entry_of origin (is_among number abandoned) (kept_of refused (line ∷ []))
lone_calls origin abandoned refused number line is = at line.step is
  where
    at : (step : ScriptStep) → IsRun step
        → entries_at origin (is_among number abandoned) (is_among line.line refused) step None ++ []
        ≡ entry_of origin (is_among number abandoned) (kept_at (is_among line.line refused) step ++ [])
    at Begin e = absurd e
    at (Run statement) e =
        append-nil (entry_of origin (is_among number abandoned) (kept (is_among line.line refused) statement))
        ∙ ap (entry_of origin (is_among number abandoned)) (sym (append-nil (kept (is_among line.line refused) statement)))
    at Commit e = absurd e
    at Rollback e = absurd e

-- only the lines' own numbers among the refused ones count

abbrev pub SameAmong : List ℕ → List ℕ → List ScriptLine → Type 0
SameAmong a b lines = AllByRecursion (λ (line : ScriptLine). is_among line.line a ≡ is_among line.line b) lines

pub calls_same : (origin : Origin) (abandoned a b : List ℕ) (place : Place) (lines : List ScriptLine) → SameAmong a b lines → calls_from origin abandoned a place lines ≡ calls_from origin abandoned b place lines
calls_same origin abandoned a b place [] same = refl
calls_same origin abandoned a b place (line ∷ lines) same =
    ap (λ (r : Bool). entries_at origin (is_among place.number abandoned) r line.step place.begun ++ calls_from origin abandoned a (place_behind r line.step place.number place.begun) lines) same.0
    ∙ ap (λ (more : List Entry). entries_at origin (is_among place.number abandoned) (is_among line.line b) line.step place.begun ++ more)
    (calls_same origin abandoned a b (place_behind (is_among line.line b) line.step place.number place.begun) lines same.1)

pub places_same : (a b : List ℕ) (place : Place) (lines : List ScriptLine) → SameAmong a b lines → places a place lines ≡ places b place lines
places_same a b place [] same = refl
places_same a b place (line ∷ lines) same =
    ap (λ (r : Bool). places a (place_behind r line.step place.number place.begun) lines) same.0
    ∙ places_same a b (place_behind (is_among line.line b) line.step place.number place.begun) lines same.1

pub kept_same : (a b : List ℕ) (lines : List ScriptLine) → SameAmong a b lines → kept_of a lines ≡ kept_of b lines
kept_same a b [] same = refl
kept_same a b (line ∷ lines) same =
    ap (λ (r : Bool). kept_at r line.step ++ kept_of a lines) same.0
    ∙ ap (λ (more : List Statement). kept_at (is_among line.line b) line.step ++ more) (kept_same a b lines same.1)

-- only the numbers of its transactions among the abandoned ones count

number_behind : (refused : Bool) (step : ScriptStep) (number : ℕ) (begun : Option (List Statement)) → number ≤ (place_behind refused step number begun).number
number_behind refused Begin number None = le_refl number
number_behind refused Begin number (Some done) = le_refl number
number_behind refused (Run statement) number None = omega arith
number_behind refused (Run statement) number (Some done) = le_refl number
number_behind refused Commit number begun = omega arith
number_behind refused Rollback number begun = omega arith

pub numbers_rise : (refused : List ℕ) (place : Place) (lines : List ScriptLine) → place.number ≤ (places refused place lines).number
numbers_rise refused place [] = le_refl place.number
numbers_rise refused place (line ∷ lines) =
    le_trans (number_behind (is_among line.line refused) line.step place.number place.begun)
    (numbers_rise refused (place_behind (is_among line.line refused) line.step place.number place.begun) lines)

entries_same : (origin : Origin) (refused : Bool) (step : ScriptStep) (number : ℕ) (begun : Option (List Statement)) (a b : Bool) (last : ℕ)
    → (place_behind refused step number begun).number ≤ last → (number < last → a ≡ b) → entries_at origin a refused step begun ≡ entries_at origin b refused step begun
entries_same origin refused Begin number begun a b last below same = refl
entries_same origin refused (Run statement) number None a b last below same = ap (λ (d : Bool). entry_of origin d (kept refused statement)) (same (omega arith))
entries_same origin refused (Run statement) number (Some done) a b last below same = refl
entries_same origin refused Commit number None a b last below same = refl
entries_same origin refused Commit number (Some done) a b last below same = ap (λ (d : Bool). entry_of origin d done) (same (omega arith))
entries_same origin refused Rollback number begun a b last below same = refl

pub calls_without : (origin : Origin) (a b refused : List ℕ) (place : Place) (lines : List ScriptLine)
    → ((k : ℕ) → k < (places refused place lines).number → is_among k a ≡ is_among k b) → calls_from origin a refused place lines ≡ calls_from origin b refused place lines
calls_without origin a b refused place [] same = refl
calls_without origin a b refused place (line ∷ lines) same =
    let r = is_among line.line refused in
    let behind = place_behind r line.step place.number place.begun in
    ap (λ (es : List Entry). es ++ calls_from origin a refused behind lines)
    (entries_same origin r line.step place.number place.begun (is_among place.number a) (is_among place.number b) (places refused behind lines).number (numbers_rise refused behind lines) (same place.number))
    ∙ ap (λ (more : List Entry). entries_at origin (is_among place.number b) r line.step place.begun ++ more) (calls_without origin a b refused behind lines same)
