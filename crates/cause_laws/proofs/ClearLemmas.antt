-- Rules that are not broken, one more after the other.
use Rattle.std.proofs.Common.{◌≡◌, ℕ, suc, Bool, true, false, List, refl, arith, leb, leb-true, leb-false}
use Rattle.row_types.specs.declared.row_faults.RowFault.{RowFault}
use Rattle.statement_grammar.specs.declared.text_faults.TextFault.{TextFault}
use Rattle.file_text.specs.declared.faults.LimitKind.{LimitKind}
use Rattle.file_text.specs.declared.faults.LineCause.TheVariants.{AfterEnd, Order, Form, Twice, Row as RowCause, Statement as StatementCause, Tool, Script, Actor}
use Rattle.file_text.specs.Said.{Said}
use Rattle.file_text.specs.Causes.{IsOver, Cause, OfLimit, OfLine, OfIsolation, Breaks, order}
use Rattle.file_laws.proofs.CauseLemmas.{limit_small, cause_large, not_isolation}
use Rattle.cause_laws.specs.Clear.{Clear}

clear_next : (before : List Said) (line : List ℕ) (place : ℕ) → Clear place before line → ((cause : Cause) → order cause ≡ place → Breaks before line cause → ⊥) → Clear (suc place) before line
clear_next before line place c f cause lt b = by_test (leb (suc (order cause)) place) refl
  where
    by_test : (t : Bool) → leb (suc (order cause)) place ≡ t → ⊥
    by_test true e = c cause (leb-true (suc (order cause)) place e) b
    by_test false e = let g = leb-false (suc (order cause)) place e in f cause (omega (arith, g, lt)) b

-- no limit is passed
pub clear_limits : (before : List Said) (line : List ℕ) → ((which : LimitKind) → IsOver before line which → ⊥) → Clear 8 before line
clear_limits before line f (OfLimit which) lt b = f which b
clear_limits before line f (OfLine cause) lt b = let g = cause_large cause in omega (arith, lt, g)
clear_limits before line f OfIsolation lt b = omega (arith, lt)

at_after_end : (before : List Said) (line : List ℕ) → (Breaks before line (OfLine AfterEnd) → ⊥) → (cause : Cause) → order cause ≡ 8 → Breaks before line cause → ⊥
at_after_end before line f (OfLine AfterEnd) e b = f b
at_after_end before line f (OfLine _) e b = omega (arith, e)
at_after_end before line f OfIsolation e b = omega (arith, e)
at_after_end before line f (OfLimit which) e b = let g = limit_small which in omega (arith, e, g)

pub clear_after_end : (before : List Said) (line : List ℕ) → Clear 8 before line → (Breaks before line (OfLine AfterEnd) → ⊥) → Clear 9 before line
clear_after_end before line c f = clear_next before line 8 c (at_after_end before line f)

at_order : (before : List Said) (line : List ℕ) → (Breaks before line (OfLine Order) → ⊥) → (cause : Cause) → order cause ≡ 9 → Breaks before line cause → ⊥
at_order before line f (OfLine Order) e b = f b
at_order before line f (OfLine _) e b = omega (arith, e)
at_order before line f OfIsolation e b = omega (arith, e)
at_order before line f (OfLimit which) e b = let g = limit_small which in omega (arith, e, g)

pub clear_order : (before : List Said) (line : List ℕ) → Clear 9 before line → (Breaks before line (OfLine Order) → ⊥) → Clear 10 before line
clear_order before line c f = clear_next before line 9 c (at_order before line f)

at_form : (before : List Said) (line : List ℕ) → ((place : ℕ) → Breaks before line (OfLine (Form place)) → ⊥) → (cause : Cause) → order cause ≡ 10 → Breaks before line cause → ⊥
at_form before line f (OfLine (Form place)) e b = f place b
at_form before line f (OfLine _) e b = omega (arith, e)
at_form before line f OfIsolation e b = omega (arith, e)
at_form before line f (OfLimit which) e b = let g = limit_small which in omega (arith, e, g)

pub clear_form : (before : List Said) (line : List ℕ) → Clear 10 before line → ((place : ℕ) → Breaks before line (OfLine (Form place)) → ⊥) → Clear 11 before line
clear_form before line c f = clear_next before line 10 c (at_form before line f)

at_twice : (before : List Said) (line : List ℕ) → (Breaks before line (OfLine Twice) → ⊥) → (cause : Cause) → order cause ≡ 11 → Breaks before line cause → ⊥
at_twice before line f (OfLine Twice) e b = f b
at_twice before line f (OfLine _) e b = omega (arith, e)
at_twice before line f OfIsolation e b = omega (arith, e)
at_twice before line f (OfLimit which) e b = let g = limit_small which in omega (arith, e, g)

pub clear_twice : (before : List Said) (line : List ℕ) → Clear 11 before line → (Breaks before line (OfLine Twice) → ⊥) → Clear 12 before line
clear_twice before line c f = clear_next before line 11 c (at_twice before line f)

at_isolation : (before : List Said) (line : List ℕ) → (Breaks before line OfIsolation → ⊥) → (cause : Cause) → order cause ≡ 12 → Breaks before line cause → ⊥
at_isolation before line f OfIsolation e b = f b
at_isolation before line f (OfLine cause) e b = absurd (not_isolation cause e)
at_isolation before line f (OfLimit which) e b = let g = limit_small which in omega (arith, e, g)

pub clear_isolation : (before : List Said) (line : List ℕ) → Clear 12 before line → (Breaks before line OfIsolation → ⊥) → Clear 13 before line
clear_isolation before line c f = clear_next before line 12 c (at_isolation before line f)

at_row : (before : List Said) (line : List ℕ) → ((fault : RowFault) → Breaks before line (OfLine (RowCause fault)) → ⊥) → (cause : Cause) → order cause ≡ 13 → Breaks before line cause → ⊥
at_row before line f (OfLine (RowCause fault)) e b = f fault b
at_row before line f (OfLine _) e b = omega (arith, e)
at_row before line f OfIsolation e b = omega (arith, e)
at_row before line f (OfLimit which) e b = let g = limit_small which in omega (arith, e, g)

pub clear_row : (before : List Said) (line : List ℕ) → Clear 13 before line → ((fault : RowFault) → Breaks before line (OfLine (RowCause fault)) → ⊥) → Clear 14 before line
clear_row before line c f = clear_next before line 13 c (at_row before line f)

at_statement : (before : List Said) (line : List ℕ) → ((fault : TextFault) → Breaks before line (OfLine (StatementCause fault)) → ⊥) → (cause : Cause) → order cause ≡ 14 → Breaks before line cause → ⊥
at_statement before line f (OfLine (StatementCause fault)) e b = f fault b
at_statement before line f (OfLine _) e b = omega (arith, e)
at_statement before line f OfIsolation e b = omega (arith, e)
at_statement before line f (OfLimit which) e b = let g = limit_small which in omega (arith, e, g)

pub clear_statement : (before : List Said) (line : List ℕ) → Clear 14 before line → ((fault : TextFault) → Breaks before line (OfLine (StatementCause fault)) → ⊥) → Clear 15 before line
clear_statement before line c f = clear_next before line 14 c (at_statement before line f)

at_tool : (before : List Said) (line : List ℕ) → (Breaks before line (OfLine Tool) → ⊥) → (cause : Cause) → order cause ≡ 15 → Breaks before line cause → ⊥
at_tool before line f (OfLine Tool) e b = f b
at_tool before line f (OfLine _) e b = omega (arith, e)
at_tool before line f OfIsolation e b = omega (arith, e)
at_tool before line f (OfLimit which) e b = let g = limit_small which in omega (arith, e, g)

pub clear_tool : (before : List Said) (line : List ℕ) → Clear 15 before line → (Breaks before line (OfLine Tool) → ⊥) → Clear 16 before line
clear_tool before line c f = clear_next before line 15 c (at_tool before line f)

at_script : (before : List Said) (line : List ℕ) → (Breaks before line (OfLine Script) → ⊥) → (cause : Cause) → order cause ≡ 16 → Breaks before line cause → ⊥
at_script before line f (OfLine Script) e b = f b
at_script before line f (OfLine _) e b = omega (arith, e)
at_script before line f OfIsolation e b = omega (arith, e)
at_script before line f (OfLimit which) e b = let g = limit_small which in omega (arith, e, g)

pub clear_script : (before : List Said) (line : List ℕ) → Clear 16 before line → (Breaks before line (OfLine Script) → ⊥) → Clear 17 before line
clear_script before line c f = clear_next before line 16 c (at_script before line f)

at_actor : (before : List Said) (line : List ℕ) → ((place : ℕ) → Breaks before line (OfLine (Actor place)) → ⊥) → (cause : Cause) → order cause ≡ 17 → Breaks before line cause → ⊥
at_actor before line f (OfLine (Actor place)) e b = f place b
at_actor before line f (OfLine _) e b = omega (arith, e)
at_actor before line f OfIsolation e b = omega (arith, e)
at_actor before line f (OfLimit which) e b = let g = limit_small which in omega (arith, e, g)

pub clear_actor : (before : List Said) (line : List ℕ) → Clear 17 before line → ((place : ℕ) → Breaks before line (OfLine (Actor place)) → ⊥) → Clear 18 before line
clear_actor before line c f = clear_next before line 17 c (at_actor before line f)
