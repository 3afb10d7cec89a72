-- Scripts are whole: their transactions follow one another and are ended, and their lines rise.
use Rattle.std.proofs.Common.{◌≡◌, ◌<◌, ℕ, suc, Bool, true, false, List, [], ◌∷◌, ◌++◌, Option, Some, None, refl, sym, ap, ◌∙◌, arith, inl, inr, leb-true}
use Rattle.std.specs.Prelude.{⊤, not, ◌&&◌}
use Rattle.std.specs.List.{AllByRecursion}
use Rattle.ptc_statement.specs.declared.scripts.ScriptLine.{ScriptLine}
use Rattle.ptc_statement.specs.declared.scripts.ScriptStep.TheVariants.{Begin, Commit, Rollback, Run}
use Rattle.session_laws.specs.OwnCalls.{is_whole, LinesRise}
use Rattle.file_text.specs.declared.places.Section.{Section}
use Rattle.file_text.specs.declared.places.Section.TheVariants.{PtcLines, IsolationLines, ReplicaLines, TableLines, RowLines, SessionLines, LocalLines, ScheduleLines, EndLines}
use Rattle.file_text.specs.declared.faults.LineCause.TheVariants.{AfterEnd, Order, Script}
use Rattle.file_text.specs.Said.{Said, Skipped, Header, Isolation, Replicas, TableOf, RowOf, SessionOf, LocalOf, StepOf, Schedule, End, section_of}
use Rattle.file_text.specs.Context.{is_end, is_ended, rank, section_at, is_script, in_script, said_opens, opened, is_open}
use Rattle.file_text.specs.Rules.{is_skipped}
use Rattle.file_text.specs.Causes.{OfLine, IsGood, at_or_behind, ends_open, ends_closed}
use Rattle.file_text.specs.File.{steps_from}
use Rattle.file_laws.proofs.FitLemmas.{true_false}
use Rattle.file_laws.proofs.SaidLemmas.{view, View, IsSkip, IsOfStep, IsOfSection}
use Rattle.file_laws.proofs.TestLemmas.{either}
use Rattle.cause_laws.proofs.MoreLemmas.{newest, section_more, ended_more, opened_more}
use Rattle.file_state.proofs.GoodLemmas.{opens_of}

-- whether a line may stand where a transaction is open, or where none is
abbrev pub LineKeeps : Bool → Said → Type 0
LineKeeps within Skipped = ⊤
LineKeeps within (StepOf Begin) = within ≡ false
LineKeeps within (StepOf Commit) = within ≡ true
LineKeeps within (StepOf Rollback) = within ≡ true
LineKeeps within (StepOf (Run statement)) = ⊤
LineKeeps within _ = within ≡ false

abbrev pub Keeps : Bool → List Said → Type 0
Keeps within [] = ⊤
Keeps within (said ∷ more) = LineKeeps within said × Keeps (said_opens within said) more

keeps_more : (within : Bool) (before : List Said) (said : Said) → Keeps within before → LineKeeps (opened within before) said → Keeps within (before ++ said ∷ [])
keeps_more within [] said k l = (l, tt)
keeps_more within (first ∷ before) said k l = (k.0, keeps_more (said_opens within first) before said k.1 l)

-- what holds of good lines
pub record Scripted (said : List Said) : Type 0 where
  pub keeps : Keeps false said
  pub inside : is_open said ≡ true → in_script said ≡ true
  pub closed : is_ended said ≡ true → is_open said ≡ false

pub none_scripted : Scripted []
none_scripted = record { keeps = tt; inside = λ e. absurd (true_false false e refl); closed = λ e. refl }

-- ---- where a line may stand

no_open : (before : List Said) (line : List ℕ) (said : Said) → IsGood before line said → ends_open said → is_open before ≡ false
no_open before line said g ends = by_test (is_open before) refl
  where
    by_test : (b : Bool) → is_open before ≡ b → is_open before ≡ false
    by_test true e = absurd (g.good (OfLine Script) (record { said = said; says = g.says; wrong = inl (e, ends) }))
    by_test false e = e

some_open : (before : List Said) (line : List ℕ) (said : Said) → IsGood before line said → ends_closed said → is_open before ≡ true
some_open before line said g ends = by_test (is_open before) refl
  where
    by_test : (b : Bool) → is_open before ≡ b → is_open before ≡ true
    by_test true e = e
    by_test false e = absurd (g.good (OfLine Script) (record { said = said; says = g.says; wrong = inr (e, ends) }))

late : (last : Option Section) (section : Section) → is_script last ≡ true → rank section < 5 → at_or_behind last section ≡ true → ⊥
late None section s l e = cc
late (Some SessionLines) section s l e = let h = leb-true 5 (rank section) e in omega (arith, l, h)
late (Some LocalLines) section s l e = let h = leb-true 6 (rank section) e in omega (arith, l, h)
late (Some PtcLines) section s l e = cc
late (Some IsolationLines) section s l e = cc
late (Some ReplicaLines) section s l e = cc
late (Some TableLines) section s l e = cc
late (Some RowLines) section s l e = cc
late (Some ScheduleLines) section s l e = cc
late (Some EndLines) section s l e = cc

-- a line of a section that stands before all scripts
early : (section : Section) (before : List Said) (line : List ℕ) (said : Said) → section_of said ≡ Some section → rank section < 5 → IsGood before line said → (is_open before ≡ true → in_script before ≡ true) → is_open before ≡ false
early section before line said e l g inside = by_test (is_open before) refl
  where
    by_test : (b : Bool) → is_open before ≡ b → is_open before ≡ false
    by_test true t = absurd (g.good (OfLine Order) (record {
      section = section;
      opens = opens_of section before line said e g;
      breaks = λ o. late (section_at before) section (inside t) l o.not_back;
    }))
    by_test false t = t

line_keeps : (before : List Said) (line : List ℕ) (said : Said) → IsGood before line said → (is_open before ≡ true → in_script before ≡ true) → LineKeeps (is_open before) said
line_keeps before line Skipped g inside = tt
line_keeps before line (StepOf Begin) g inside = no_open before line (StepOf Begin) g tt
line_keeps before line (StepOf Commit) g inside = some_open before line (StepOf Commit) g tt
line_keeps before line (StepOf Rollback) g inside = some_open before line (StepOf Rollback) g tt
line_keeps before line (StepOf (Run statement)) g inside = tt
line_keeps before line (SessionOf session) g inside = no_open before line (SessionOf session) g tt
line_keeps before line (LocalOf replica session) g inside = no_open before line (LocalOf replica session) g tt
line_keeps before line (Schedule words) g inside = no_open before line (Schedule words) g tt
line_keeps before line End g inside = no_open before line End g tt
line_keeps before line (Header version) g inside = early PtcLines before line (Header version) refl (omega arith) g inside
line_keeps before line (Isolation level) g inside = early IsolationLines before line (Isolation level) refl (omega arith) g inside
line_keeps before line (Replicas count) g inside = early ReplicaLines before line (Replicas count) refl (omega arith) g inside
line_keeps before line (TableOf name columns) g inside = early TableLines before line (TableOf name columns) refl (omega arith) g inside
line_keeps before line (RowOf which table literals) g inside = early RowLines before line (RowOf which table literals) refl (omega arith) g inside

-- ---- with a line more

inside_at : (before : List Said) (line : List ℕ) (said : Said) → IsGood before line said → LineKeeps (is_open before) said → (is_open before ≡ true → in_script before ≡ true)
    → said_opens (is_open before) said ≡ true → is_script (newest (section_of said) (section_at before)) ≡ true
inside_at before line Skipped g k inside e = inside e
inside_at before line (StepOf step) g k inside e = g.says.1
inside_at before line (SessionOf session) g k inside e = absurd (true_false (is_open before) e k)
inside_at before line (LocalOf replica session) g k inside e = absurd (true_false (is_open before) e k)
inside_at before line (Schedule words) g k inside e = absurd (true_false (is_open before) e k)
inside_at before line End g k inside e = absurd (true_false (is_open before) e k)
inside_at before line (Header version) g k inside e = absurd (true_false (is_open before) e k)
inside_at before line (Isolation level) g k inside e = absurd (true_false (is_open before) e k)
inside_at before line (Replicas count) g k inside e = absurd (true_false (is_open before) e k)
inside_at before line (TableOf name columns) g k inside e = absurd (true_false (is_open before) e k)
inside_at before line (RowOf which table literals) g k inside e = absurd (true_false (is_open before) e k)

inside_more : (before : List Said) (line : List ℕ) (said : Said) → IsGood before line said → LineKeeps (is_open before) said → Scripted before → is_open (before ++ said ∷ []) ≡ true → in_script (before ++ said ∷ []) ≡ true
inside_more before line said g k s e = ap is_script (section_more before said) ∙ inside_at before line said g k s.inside (sym (opened_more false before said) ∙ e)

-- behind END a line says nothing
skips : (before : List Said) (line : List ℕ) (said : Said) → is_ended before ≡ true → IsGood before line said → said ≡ Skipped
skips before line said e g = cases (view before line said g.says)
  where
    counts : is_skipped line ≡ false → said ≡ Skipped
    counts c = absurd (g.good (OfLine AfterEnd) (e, c))

    cases : View before line said → said ≡ Skipped
    cases (IsSkip s k) = s
    cases (IsOfStep step s k) = counts k.0.counts
    cases (IsOfSection s) = counts s.1.opens.counts

end_closes : (within : Bool) (said : Said) → is_end said ≡ true → LineKeeps within said → said_opens within said ≡ false
end_closes within End e k = k
end_closes within _ e k = absurd cc

closed_more : (before : List Said) (line : List ℕ) (said : Said) → IsGood before line said → LineKeeps (is_open before) said → Scripted before → is_ended (before ++ said ∷ []) ≡ true → is_open (before ++ said ∷ []) ≡ false
closed_more before line said g k s e = opened_more false before said ∙ (elim (either (is_end said) (is_ended before) (sym (ended_more before said) ∙ e)) [
  | inl now ↦ end_closes (is_open before) said now k
  | inr earlier ↦ ap (said_opens (is_open before)) (skips before line said earlier g) ∙ s.closed earlier
])

pub scripted_more : (before : List Said) (line : List ℕ) (said : Said) → IsGood before line said → Scripted before → Scripted (before ++ said ∷ [])
scripted_more before line said g s =
    let k = line_keeps before line said g s.inside in
    record {
      keeps = keeps_more false before said s.keeps k;
      inside = inside_more before line said g k s;
      closed = closed_more before line said g k s;
    }

-- ---- the steps of a script

pub steps_whole : (within : Bool) (number : ℕ) (said : List Said) → Keeps within said → opened within said ≡ false → is_whole within (steps_from number said) ≡ true
steps_whole within number [] k c = ap not c
steps_whole within number (Skipped ∷ said) k c = steps_whole within (suc number) said k.1 c
steps_whole within number (StepOf Begin ∷ said) k c = ap (λ (b : Bool). not b && is_whole true (steps_from (suc number) said)) k.0 ∙ steps_whole true (suc number) said k.1 c
steps_whole within number (StepOf Commit ∷ said) k c = ap (λ (b : Bool). b && is_whole false (steps_from (suc number) said)) k.0 ∙ steps_whole false (suc number) said k.1 c
steps_whole within number (StepOf Rollback ∷ said) k c = ap (λ (b : Bool). b && is_whole false (steps_from (suc number) said)) k.0 ∙ steps_whole false (suc number) said k.1 c
steps_whole within number (StepOf (Run statement) ∷ said) k c = steps_whole within (suc number) said k.1 c
steps_whole within number (SessionOf session ∷ said) k c = ap not k.0
steps_whole within number (LocalOf replica session ∷ said) k c = ap not k.0
steps_whole within number (Schedule words ∷ said) k c = ap not k.0
steps_whole within number (End ∷ said) k c = ap not k.0
steps_whole within number (Header version ∷ said) k c = ap not k.0
steps_whole within number (Isolation level ∷ said) k c = ap not k.0
steps_whole within number (Replicas count ∷ said) k c = ap not k.0
steps_whole within number (TableOf name columns ∷ said) k c = ap not k.0
steps_whole within number (RowOf which table literals ∷ said) k c = ap not k.0

steps_later : (least number : ℕ) (said : List Said) → least < number → AllByRecursion (λ (later : ScriptLine). least < later.line) (steps_from number said)
steps_later least number [] l = tt
steps_later least number (StepOf step ∷ said) l = (l, steps_later least (suc number) said (omega (arith, l)))
steps_later least number (Skipped ∷ said) l = steps_later least (suc number) said (omega (arith, l))
steps_later least number (SessionOf session ∷ said) l = tt
steps_later least number (LocalOf replica session ∷ said) l = tt
steps_later least number (Schedule words ∷ said) l = tt
steps_later least number (End ∷ said) l = tt
steps_later least number (Header version ∷ said) l = tt
steps_later least number (Isolation level ∷ said) l = tt
steps_later least number (Replicas count ∷ said) l = tt
steps_later least number (TableOf name columns ∷ said) l = tt
steps_later least number (RowOf which table literals ∷ said) l = tt

pub steps_rise : (number : ℕ) (said : List Said) → LinesRise (steps_from number said)
steps_rise number [] = tt
steps_rise number (StepOf step ∷ said) = (steps_later number (suc number) said (omega arith), steps_rise (suc number) said)
steps_rise number (Skipped ∷ said) = steps_rise (suc number) said
steps_rise number (SessionOf session ∷ said) = tt
steps_rise number (LocalOf replica session ∷ said) = tt
steps_rise number (Schedule words ∷ said) = tt
steps_rise number (End ∷ said) = tt
steps_rise number (Header version ∷ said) = tt
steps_rise number (Isolation level ∷ said) = tt
steps_rise number (Replicas count ∷ said) = tt
steps_rise number (TableOf name columns ∷ said) = tt
steps_rise number (RowOf which table literals ∷ said) = tt
