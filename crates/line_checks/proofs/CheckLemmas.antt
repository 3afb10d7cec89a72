-- The limits, the order and the form of a line, from its marks and its reading.
use Rattle.std.proofs.Common.{◌≡◌, ◌<◌, ◌≤◌, ℕ, Bool, true, false, List, length, Option, Some, None, refl, sym, subst, ◌∙◌, leb, leb-true, leb-false}
use Rattle.file_text.specs.declared.faults.LimitKind.TheVariants.{LineBytes, Tables, Sessions}
use Rattle.file_text.specs.declared.faults.LineCause.TheVariants.{AfterEnd, Order, Form}
use Rattle.file_text.specs.declared.places.Section.{Section}
use Rattle.file_text.specs.declared.places.Section.TheVariants.{TableLines, SessionLines}
use Rattle.file_text.specs.Said.{Said}
use Rattle.file_text.specs.Context.{sessions_in, is_ended}
use Rattle.file_text.specs.Rules.{Opens}
use Rattle.file_text.specs.Causes.{IsRefused, tables_in}
use Rattle.line_items.specs.declared.counts.Counts.{Counts}
use Rattle.line_items.specs.declared.line_readings.LineReading.{LineReading}
use Rattle.line_items.specs.declared.line_readings.LineReading.TheVariants.{Whole, Over, Misfit}
use Rattle.line_items.specs.Counted.{IsCounted}
use Rattle.line_items.specs.Readings.{IsReading}
use Rattle.cause_laws.specs.Clear.{Clear}
use Rattle.cause_laws.proofs.LimitLemmas.{FewBefore, under_clear, passed_refused, long_refused, tables_refused, sessions_refused}
use Rattle.cause_laws.proofs.LineLemmas.{ended_refused, not_ended, order_refused, in_order, misfit_refused, whole_clear}
use Rattle.file_laws.proofs.FitLemmas.{some_is}
use Rattle.line_checks.specs.declared.line_faults.LineFault.{LineFault}
use Rattle.line_checks.specs.declared.line_faults.LineFault.TheVariants.{Limit, Cause}
use Rattle.line_checks.specs.declared.checks.LineCheck.TheVariants.{Items, Fault}
use Rattle.line_checks.specs.declared.marks.Marks.{Marks}
use Rattle.line_checks.specs.Faults.{cause_of}
use Rattle.line_checks.specs.MarksOf.{IsMarked, in_order as orders}
use Rattle.line_checks.specs.Checked.{IsChecked, unless_fewer, passed_before, order_unless, after_end_or, order_fault, unless_faulty, check_of}
use Rattle.line_checks.proofs.OrderLemmas.{is_in_order, out_of_order}

pub too_long : (line : List ℕ) → 65535 < length line → (before : List Said) → IsRefused before line (cause_of (Limit LineBytes))
too_long line long before = long_refused before line long

-- ---- limits that the lines before pass

some_fault : (b : Bool) (found fault : LineFault) → unless_fewer b found ≡ Some fault → (b ≡ true) × (found ≡ fault)
some_fault true found fault e = (refl, some_is found fault e)
some_fault false found fault e = absurd cc

pub passed_is : (section : Section) (marks : Marks) (counts : Counts) (fault : LineFault) (line : List ℕ) → length line ≤ 65535 → passed_before section marks counts ≡ Some fault
    → (before : List Said) → IsMarked marks before → IsCounted counts before → Opens section line → IsChecked section before line (Fault fault)
passed_is TableLines marks counts fault line short e before m k o =
    let p = some_fault (leb 16 marks.tables) (Limit Tables) fault e in
    subst (λ (f : LineFault). IsRefused before line (cause_of f)) p.1 (tables_refused before line o short (subst (λ (n : ℕ). 16 ≤ n) m.tables (leb-true 16 marks.tables p.0)))
passed_is SessionLines marks counts fault line short e before m k o =
    let p = some_fault (leb 64 counts.sessions) (Limit Sessions) fault e in
    subst (λ (f : LineFault). IsRefused before line (cause_of f)) p.1 (sessions_refused before line o short (subst (λ (n : ℕ). 64 ≤ n) k.sessions (leb-true 64 counts.sessions p.0)))
passed_is _ marks counts fault line short e before m k o = absurd cc

no_fault : (b : Bool) (found : LineFault) → unless_fewer b found ≡ None → b ≡ false
no_fault true found e = absurd cc
no_fault false found e = refl

few_before : (section : Section) (marks : Marks) (counts : Counts) (line : List ℕ) (before : List Said) → length line ≤ 65535 → passed_before section marks counts ≡ None → IsMarked marks before → IsCounted counts before → FewBefore section before line
few_before section marks counts line before short e m k = record { short = short; tables = λ s. few_tables s; sessions = λ s. few_sessions s }
  where
    few_tables : section ≡ TableLines → tables_in before < 16
    few_tables s =
        let f : passed_before TableLines marks counts ≡ None = subst (λ (x : Section). passed_before x marks counts ≡ None) s e in
        subst (λ (n : ℕ). n < 16) m.tables (leb-false 16 marks.tables (no_fault (leb 16 marks.tables) (Limit Tables) f))

    few_sessions : section ≡ SessionLines → sessions_in before < 64
    few_sessions s =
        let f : passed_before SessionLines marks counts ≡ None = subst (λ (x : Section). passed_before x marks counts ≡ None) s e in
        subst (λ (n : ℕ). n < 64) k.sessions (leb-false 64 counts.sessions (no_fault (leb 64 counts.sessions) (Limit Sessions) f))

-- ---- order

data Ordered (section : Section) (before : List Said) (line : List ℕ) : Option LineFault → Type 0 where
  Fits : Clear 10 before line → Ordered section before line None
  Breaks : (fault : LineFault) → IsRefused before line (cause_of fault) → Ordered section before line (Some fault)

ordered : (section : Section) (marks : Marks) (before : List Said) (line : List ℕ) → IsMarked marks before → Opens section line → Clear 8 before line → Ordered section before line (order_fault section marks)
ordered section marks before line m o c = by_end marks.ended refl
  where
    by_order : (b : Bool) → orders section marks ≡ b → is_ended before ≡ false → Ordered section before line (order_unless b)
    by_order true e n = Fits (in_order section before line o (not_ended before line c n) (is_in_order marks before section m e))
    by_order false e n = Breaks (Cause Order) (order_refused section before line o (not_ended before line c n) (out_of_order marks before section m e))

    by_end : (b : Bool) → marks.ended ≡ b → Ordered section before line (after_end_or b (order_unless (orders section marks)))
    by_end true e = Breaks (Cause AfterEnd) (ended_refused before line o.counts c (sym m.ended ∙ e))
    by_end false e = by_order (orders section marks) refl (sym m.ended ∙ e)

-- ---- the whole check

pub checked_is : (section : Section) (marks : Marks) (counts : Counts) (line : List ℕ) (reading : LineReading) → length line ≤ 65535 → passed_before section marks counts ≡ None
    → ((before : List Said) → IsCounted counts before → IsReading section before line reading)
    → (before : List Said) → IsMarked marks before → IsCounted counts before → Opens section line → IsChecked section before line (check_of section marks reading)
checked_is section marks counts line reading short e r before m k o = by_reading reading (r before k)
  where
    few : FewBefore section before line
    few = few_before section marks counts line before short e m k

    by_reading : (reading : LineReading) → IsReading section before line reading → IsChecked section before line (check_of section marks reading)
    by_reading (Over which) x = passed_refused section before line which o few x
    by_reading (Misfit place) x = by_order (order_fault section marks) (ordered section marks before line m o (under_clear section before line o few x.under))
      where
        by_order : (fault : Option LineFault) → Ordered section before line fault → IsChecked section before line (unless_faulty fault (Fault (Cause (Form place))))
        by_order _ (Fits c) = misfit_refused section before line place o c x
        by_order _ (Breaks fault b) = b
    by_reading (Whole items) x = by_order (order_fault section marks) (ordered section marks before line m o (under_clear section before line o few x.under))
      where
        by_order : (fault : Option LineFault) → Ordered section before line fault → IsChecked section before line (unless_faulty fault (Items items))
        by_order _ (Fits c) = record { whole = x; clear = whole_clear section before line items.items o c x }
        by_order _ (Breaks fault b) = b
