-- The limits, the order and the form of a line of a section.
use Rattle.std.specs.Prelude.{leb, ℕ, Bool, true, false, List, Option, None, Some}
use Rattle.file_text.specs.declared.faults.LimitKind.TheVariants.{Tables, Sessions}
use Rattle.file_text.specs.declared.faults.LineCause.TheVariants.{AfterEnd, Order, Form}
use Rattle.file_text.specs.declared.places.Section.{Section}
use Rattle.file_text.specs.declared.places.Section.TheVariants.{TableLines, SessionLines}
use Rattle.file_text.specs.Said.{Said}
use Rattle.file_text.specs.Rules.{parts_in}
use Rattle.file_text.specs.Causes.{IsRefused}
use Rattle.line_items.specs.declared.counts.Counts.{Counts}
use Rattle.line_items.specs.declared.line_readings.LineReading.{LineReading}
use Rattle.line_items.specs.declared.line_readings.LineReading.TheVariants.{Whole, Over, Misfit}
use Rattle.line_items.specs.declared.found_items.LineItem.{LineItem}
use Rattle.line_items.specs.Readings.{IsWholeLine}
use Rattle.cause_laws.specs.Clear.{Clear}
use Rattle.line_checks.specs.declared.line_faults.LineFault.{LineFault}
use Rattle.line_checks.specs.declared.line_faults.LineFault.TheVariants.{Limit, Cause}
use Rattle.line_checks.specs.declared.checks.LineCheck.{LineCheck}
use Rattle.line_checks.specs.declared.checks.LineCheck.TheVariants.{Items, Fault}
use Rattle.line_checks.specs.declared.marks.Marks.{Marks}
use Rattle.line_checks.specs.Faults.{cause_of}
use Rattle.line_checks.specs.MarksOf.{in_order}

-- the line's items, where it breaks no rule up to that of its form
pub record HasForm (section : Section) (before : List Said) (line : List ℕ) (items : List LineItem) : Type 0 where
  pub whole : IsWholeLine section before (parts_in section line) items
  pub clear : Clear 11 before line

abbrev pub IsChecked : Section → List Said → List ℕ → LineCheck → Type 0
IsChecked section before line (Items items) = HasForm section before line items.items
IsChecked section before line (Fault fault) = IsRefused before line (cause_of fault)

-- ---- bridges to the code

abbrev pub unless_fewer : Bool → LineFault → Option LineFault
unless_fewer true fault = Some fault
unless_fewer false fault = None

abbrev pub passed_before : Section → Marks → Counts → Option LineFault
passed_before TableLines marks counts = unless_fewer (leb 16 marks.tables) (Limit Tables)
passed_before SessionLines marks counts = unless_fewer (leb 64 counts.sessions) (Limit Sessions)
passed_before section marks counts = None

abbrev pub order_unless : Bool → Option LineFault
order_unless true = None
order_unless false = Some (Cause Order)

abbrev pub after_end_or : Bool → Option LineFault → Option LineFault
after_end_or true fault = Some (Cause AfterEnd)
after_end_or false fault = fault

abbrev pub order_fault : Section → Marks → Option LineFault
order_fault section marks = after_end_or marks.ended (order_unless (in_order section marks))

abbrev pub unless_faulty : Option LineFault → LineCheck → LineCheck
unless_faulty None check = check
unless_faulty (Some fault) check = Fault fault

abbrev pub check_of : Section → Marks → LineReading → LineCheck
check_of section marks (Over which) = Fault (Limit which)
check_of section marks (Misfit place) = unless_faulty (order_fault section marks) (Fault (Cause (Form place)))
check_of section marks (Whole items) = unless_faulty (order_fault section marks) (Items items)
