-- Limits of a line of a section, and of other lines.
use Rattle.std.proofs.Common.{◌≡◌, ◌<◌, ◌≤◌, ℕ, List, length, Some, None, refl, sym, subst, ◌∙◌, arith}
use Rattle.file_text.specs.declared.faults.LimitKind.{LimitKind}
use Rattle.file_text.specs.declared.faults.LimitKind.TheVariants.{Bytes, LineBytes, Tables, Columns, Replicas as ReplicaLimit, Sessions, Locals, Schedule as ScheduleLimit}
use Rattle.file_text.specs.Parts.{words_of}
use Rattle.file_text.specs.declared.places.Section.{Section}
use Rattle.file_text.specs.declared.places.Section.TheVariants.{ReplicaLines, TableLines, SessionLines}
use Rattle.file_text.specs.Said.{Said}
use Rattle.file_text.specs.Context.{sessions_in}
use Rattle.file_text.specs.Rules.{named_first, Opens, OpensNone, parts_in}
use Rattle.file_text.specs.Causes.{limits, Passes, tables_in, IsOver, Cause, OfLimit, OfLine, OfIsolation, Breaks, limit_order, order, IsRefused}
use Rattle.file_laws.proofs.FitLemmas.{some_is, none_some}
use Rattle.file_laws.proofs.SaidLemmas.{one_section}
use Rattle.file_laws.proofs.CauseLemmas.{limit_small, cause_large}
use Rattle.line_items.specs.Readings.{Exceeds, IsUnder}
use Rattle.cause_laws.specs.Clear.{Clear}
use Rattle.cause_laws.proofs.ClearLemmas.{clear_limits}

-- the limits that the line's length and the lines before it tell
pub record FewBefore (section : Section) (before : List Said) (line : List ℕ) : Type 0 where
  pub short : length line ≤ 65535
  pub tables : section ≡ TableLines → tables_in before < 16
  pub sessions : section ≡ SessionLines → sessions_in before < 64

no_bytes : {A : Type 0} (section : Section) → None ≡ Some section → A
no_bytes section e = absurd cc

too_long : {A : Type 0} (m n : ℕ) → m < n → n ≤ m → A
too_long m n a b = absurd (omega (arith, a, b))

passes_here : (section : Section) (before : List Said) (line : List ℕ) (which : LimitKind) → Opens section line → Passes before line which → Exceeds section before (parts_in section line) which
passes_here section before line which o p = by_section section (one_section p.section section line p.opens o)
  where
    by_section : (s : Section) → p.section ≡ s → Exceeds s before (parts_in s line) which
    by_section s e = subst (λ (x : Section). Exceeds x before (parts_in x line) which) e (record { of = p.of; fitting = p.fitting; left = p.left; are = p.are; front = p.front; item = p.item; begins = p.begins; passes = p.passes })

not_over : (section : Section) (before : List Said) (line : List ℕ) → Opens section line → FewBefore section before line → IsUnder section before (parts_in section line) → (which : LimitKind) → IsOver before line which → ⊥
not_over section before line o f u Bytes p = no_bytes p.section p.of
not_over section before line o f u LineBytes p = too_long 65535 (length line) p f.short
not_over section before line o f u Tables p = too_long (tables_in before) 16 (f.tables (one_section section TableLines line o p.0)) p.1
not_over section before line o f u Columns p = u Columns (passes_here section before line Columns o p)
not_over section before line o f u ReplicaLimit p = u ReplicaLimit (passes_here section before line ReplicaLimit o p)
not_over section before line o f u Sessions p = too_long (sessions_in before) 64 (f.sessions (one_section section SessionLines line o p.0)) p.1
not_over section before line o f u Locals p = u Locals (passes_here section before line Locals o p)
not_over section before line o f u ScheduleLimit p = u ScheduleLimit (passes_here section before line ScheduleLimit o p)

pub under_clear : (section : Section) (before : List Said) (line : List ℕ) → Opens section line → FewBefore section before line → IsUnder section before (parts_in section line) → Clear 8 before line
under_clear section before line o f u = clear_limits before line (not_over section before line o f u)

-- ---- a limit that is passed

-- an item passes one limit of its section
one_limit : (section : Section) (which other : LimitKind) → limits which ≡ Some section → limits other ≡ Some section → limit_order other < limit_order which → ⊥
one_limit section Columns Columns e f lt = omega (arith, lt)
one_limit section ReplicaLimit ReplicaLimit e f lt = omega (arith, lt)
one_limit section Locals Locals e f lt = omega (arith, lt)
one_limit section ScheduleLimit ScheduleLimit e f lt = omega (arith, lt)
one_limit section _ _ e f lt = cc

passes_of : (section : Section) (before : List Said) (line : List ℕ) (which : LimitKind) → Opens section line → Exceeds section before (parts_in section line) which → Passes before line which
passes_of section before line which o x = record { section = section; of = x.of; opens = o; fitting = x.fitting; left = x.left; are = x.are; front = x.front; item = x.item; begins = x.begins; passes = x.passes }

over_of : (section : Section) (before : List Said) (line : List ℕ) (which : LimitKind) → Opens section line → Exceeds section before (parts_in section line) which → IsOver before line which
over_of section before line Bytes o x = no_bytes section x.of
over_of section before line LineBytes o x = no_bytes section x.of
over_of section before line Tables o x = no_bytes section x.of
over_of section before line Columns o x = passes_of section before line Columns o x
over_of section before line ReplicaLimit o x = passes_of section before line ReplicaLimit o x
over_of section before line Sessions o x = no_bytes section x.of
over_of section before line Locals o x = passes_of section before line Locals o x
over_of section before line ScheduleLimit o x = passes_of section before line ScheduleLimit o x

not_before : (section : Section) (before : List Said) (line : List ℕ) (which : LimitKind) → Opens section line → FewBefore section before line → limits which ≡ Some section
    → (other : LimitKind) → limit_order other < limit_order which → IsOver before line other → ⊥
not_before section before line which o f of Bytes lt p = no_bytes p.section p.of
not_before section before line which o f of LineBytes lt p = too_long 65535 (length line) p f.short
not_before section before line which o f of Tables lt p = too_long (tables_in before) 16 (f.tables (one_section section TableLines line o p.0)) p.1
not_before section before line which o f of Columns lt p = one_limit section which Columns of (passes_here section before line Columns o p).of lt
not_before section before line which o f of ReplicaLimit lt p = one_limit section which ReplicaLimit of (passes_here section before line ReplicaLimit o p).of lt
not_before section before line which o f of Sessions lt p = too_long (sessions_in before) 64 (f.sessions (one_section section SessionLines line o p.0)) p.1
not_before section before line which o f of Locals lt p = one_limit section which Locals of (passes_here section before line Locals o p).of lt
not_before section before line which o f of ScheduleLimit lt p = one_limit section which ScheduleLimit of (passes_here section before line ScheduleLimit o p).of lt

limits_first : (before : List Said) (line : List ℕ) (which : LimitKind) → ((other : LimitKind) → limit_order other < limit_order which → IsOver before line other → ⊥) → (other : Cause) → order other < limit_order which → Breaks before line other → ⊥
limits_first before line which f (OfLimit other) lt b = f other lt b
limits_first before line which f (OfLine other) lt b = let g = cause_large other in let h = limit_small which in omega (arith, lt, g, h)
limits_first before line which f OfIsolation lt b = let h = limit_small which in omega (arith, lt, h)

pub passed_refused : (section : Section) (before : List Said) (line : List ℕ) (which : LimitKind) → Opens section line → FewBefore section before line → Exceeds section before (parts_in section line) which → IsRefused before line (OfLimit which)
passed_refused section before line which o f x = record { breaks = over_of section before line which o x; first = limits_first before line which (not_before section before line which o f x.of) }

pub long_refused : (before : List Said) (line : List ℕ) → 65535 < length line → IsRefused before line (OfLimit LineBytes)
long_refused before line long = record { breaks = long; first = limits_first before line LineBytes first }
  where
    first : (other : LimitKind) → limit_order other < 1 → IsOver before line other → ⊥
    first Bytes lt p = no_bytes p.section p.of
    first _ lt p = omega (arith, lt)

pub tables_refused : (before : List Said) (line : List ℕ) → Opens TableLines line → length line ≤ 65535 → 16 ≤ tables_in before → IsRefused before line (OfLimit Tables)
tables_refused before line o short many = record { breaks = (o, many); first = limits_first before line Tables first }
  where
    first : (other : LimitKind) → limit_order other < 2 → IsOver before line other → ⊥
    first Bytes lt p = no_bytes p.section p.of
    first LineBytes lt p = too_long 65535 (length line) p short
    first _ lt p = omega (arith, lt)

other_section : {A : Type 0} (before : List Said) (line : List ℕ) (which : LimitKind) (section other : Section) → Opens section line → limits which ≡ Some other → (section ≡ other → A) → Passes before line which → A
other_section before line which section other o e f p = f (one_section section p.section line o p.opens ∙ some_is p.section other (sym p.of ∙ e))

pub sessions_refused : (before : List Said) (line : List ℕ) → Opens SessionLines line → length line ≤ 65535 → 64 ≤ sessions_in before → IsRefused before line (OfLimit Sessions)
sessions_refused before line o short many = record { breaks = (o, many); first = limits_first before line Sessions first }
  where
    first : (other : LimitKind) → limit_order other < 5 → IsOver before line other → ⊥
    first Bytes lt p = no_bytes p.section p.of
    first LineBytes lt p = too_long 65535 (length line) p short
    first Tables lt p = absurd (differ (one_section SessionLines TableLines line o p.0))
      where
        differ : SessionLines ≡ TableLines → ⊥
        differ e = cc
    first Columns lt p = other_section before line Columns SessionLines TableLines o refl (λ e. cc) p
    first ReplicaLimit lt p = other_section before line ReplicaLimit SessionLines ReplicaLines o refl (λ e. cc) p
    first _ lt p = omega (arith, lt)

-- ---- lines that open no section

pub none_clear : (before : List Said) (line : List ℕ) → OpensNone line → length line ≤ 65535 → Clear 8 before line
none_clear before line o short = clear_limits before line no_limit
  where
    opened : {A : Type 0} (s : Section) → Opens s line → A
    opened s p = absurd (none_some (named_first (words_of line)) s o.none p.first)

    no_limit : (which : LimitKind) → IsOver before line which → ⊥
    no_limit Bytes p = no_bytes p.section p.of
    no_limit LineBytes p = too_long 65535 (length line) p short
    no_limit Tables p = opened TableLines p.0
    no_limit Columns p = opened p.section p.opens
    no_limit ReplicaLimit p = opened p.section p.opens
    no_limit Sessions p = opened SessionLines p.0
    no_limit Locals p = opened p.section p.opens
    no_limit ScheduleLimit p = opened p.section p.opens
