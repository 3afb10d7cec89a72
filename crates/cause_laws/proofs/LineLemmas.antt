-- The order and the form of lines, and lines that are skipped.
use Rattle.std.proofs.Common.{◌≡◌, ◌⊎◌, ◌≤◌, ℕ, true, false, List, length, Some, subst, arith, inl, inr}
use Rattle.file_text.specs.declared.faults.LimitKind.{LimitKind}
use Rattle.file_text.specs.declared.faults.LimitKind.TheVariants.{Bytes, LineBytes, Tables, Columns, Replicas as ReplicaLimit, Sessions, Locals, Schedule as ScheduleLimit}
use Rattle.file_text.specs.declared.faults.LineCause.TheVariants.{AfterEnd, Order, Form, Twice, Row as RowCause, Statement as StatementCause, Tool, Script, Actor}
use Rattle.file_text.specs.Parts.{words_of}
use Rattle.file_text.specs.declared.places.Section.{Section}
use Rattle.file_text.specs.Said.{Said, Skipped, section_of}
use Rattle.file_text.specs.Context.{is_ended}
use Rattle.file_text.specs.Rules.{is_skipped, named_first, Opens, parts_in}
use Rattle.file_text.specs.Causes.{IsOver, IsInOrder, Cause, OfLimit, OfLine, OfIsolation, MisfitAt, FirstMisfits, SaysWrong, IsSaidAgain, IsOtherLevel, IsRowThat, RowMisfits, IsTool, BreaksScript, Breaks, IsRefused, IsGood}
use Rattle.file_text.specs.Rules.{FitsUpTo}
use Rattle.file_laws.proofs.FitLemmas.{none_some, true_false, whole_fits}
use Rattle.file_laws.proofs.SaidLemmas.{one_section, one_said}
use Rattle.line_items.specs.declared.found_items.LineItem.{LineItem}
use Rattle.line_items.specs.Readings.{IsWholeLine, IsMisfitAt}
use Rattle.cause_laws.specs.Clear.{Clear}
use Rattle.cause_laws.proofs.ClearLemmas.{clear_after_end, clear_order, clear_form}

-- ---- behind END, and out of order

pub ended_refused : (before : List Said) (line : List ℕ) → is_skipped line ≡ false → Clear 8 before line → is_ended before ≡ true → IsRefused before line (OfLine AfterEnd)
ended_refused before line s c e = record { breaks = (e, s); first = c }

pub not_ended : (before : List Said) (line : List ℕ) → Clear 8 before line → is_ended before ≡ false → Clear 9 before line
not_ended before line c e = clear_after_end before line c (λ b. true_false (is_ended before) b.0 e)

pub order_refused : (section : Section) (before : List Said) (line : List ℕ) → Opens section line → Clear 9 before line → (IsInOrder before section → ⊥) → IsRefused before line (OfLine Order)
order_refused section before line o c never = record { breaks = record { section = section; opens = o; breaks = never }; first = c }

pub in_order : (section : Section) (before : List Said) (line : List ℕ) → Opens section line → Clear 9 before line → IsInOrder before section → Clear 10 before line
in_order section before line o c i = clear_order before line c (λ b. b.breaks (subst (IsInOrder before) (one_section section b.section line o b.opens) i))

-- ---- the form

pub misfit_refused : (section : Section) (before : List Said) (line : List ℕ) (place : ℕ) → Opens section line → Clear 10 before line → IsMisfitAt section before line place → IsRefused before line (OfLine (Form place))
misfit_refused section before line place o c m = record {
  breaks = inl (record { section = section; opens = o; fitting = m.fitting; left = m.left; misfit = m.misfit; fits = m.fits; is = m.is });
  first = c;
}

pub whole_clear : (section : Section) (before : List Said) (line : List ℕ) (items : List LineItem) → Opens section line → Clear 10 before line → IsWholeLine section before (parts_in section line) items → Clear 11 before line
whole_clear section before line items o c w = clear_form before line c no_form
  where
    no_form : (place : ℕ) → MisfitAt before line place ⊎ FirstMisfits before line place → ⊥
    no_form place (inl m) =
        let s = one_section m.section section line m.opens o in
        whole_fits section before (parts_in section line) m.fitting m.left m.misfit w.items w.line w.spelled w.in_range
        (subst (λ (x : Section). FitsUpTo x before (parts_in x line) m.fitting m.left m.misfit) s m.fits)
    no_form place (inr m) = none_some (named_first (words_of line)) section m.opens.none o.first

-- ---- lines that are skipped

pub skipped_good : (before : List Said) (line : List ℕ) → length line ≤ 65535 → is_skipped line ≡ true → IsGood before line Skipped
skipped_good before line short s = record { says = s; good = unbroken }
  where
    opens_none : {A : Type 0} → is_skipped line ≡ false → A
    opens_none e = absurd (true_false (is_skipped line) s e)

    wrong : {A : Type 0} (P : Said → Type 0) → (P Skipped → ⊥) → SaysWrong before line P → A
    wrong P never w = absurd (never (subst P (one_said before line w.said Skipped w.says s) w.wrong))

    over : (which : LimitKind) → IsOver before line which → ⊥
    over Bytes p = opens_none p.opens.counts
    over LineBytes p = omega (arith, p, short)
    over Tables p = opens_none p.0.counts
    over Columns p = opens_none p.opens.counts
    over ReplicaLimit p = opens_none p.opens.counts
    over Sessions p = opens_none p.0.counts
    over Locals p = opens_none p.opens.counts
    over ScheduleLimit p = opens_none p.opens.counts

    form : (place : ℕ) → MisfitAt before line place ⊎ FirstMisfits before line place → ⊥
    form place (inl m) = opens_none m.opens.counts
    form place (inr m) = opens_none m.opens.counts

    none_of : (section : Section) → section_of Skipped ≡ Some section → ⊥
    none_of section e = cc

    unbroken : (cause : Cause) → Breaks before line cause → ⊥
    unbroken (OfLimit which) b = over which b
    unbroken (OfLine AfterEnd) b = opens_none b.1
    unbroken (OfLine Order) b = opens_none b.opens.counts
    unbroken (OfLine (Form place)) b = form place b
    unbroken (OfLine Twice) b = wrong (IsSaidAgain before) (λ w. w) b
    unbroken OfIsolation b = wrong IsOtherLevel (λ w. w) b
    unbroken (OfLine (RowCause fault)) b = wrong (IsRowThat (λ table literals. RowMisfits before table literals fault)) (λ w. w) b
    unbroken (OfLine (StatementCause fault)) b = opens_none b.opens.counts
    unbroken (OfLine Tool) b = wrong IsTool (λ w. w) b
    unbroken (OfLine Script) b = wrong (BreaksScript before) no_script b
      where
        no_script : BreaksScript before Skipped → ⊥
        no_script (inl w) = w.1
        no_script (inr w) = w.1
    unbroken (OfLine (Actor place)) b = none_of b.section (subst (λ (x : Said). section_of x ≡ Some b.section) (one_said before line b.said Skipped b.says s) b.of)
