-- A line is refused for one cause, and a file has one first fault.
use Rattle.std.proofs.Common.{◌≡◌, ◌⊎◌, ◌<◌, ◌≤◌, ◌+◌, ℕ, zero, suc, List, [], ◌∷◌, ◌++◌, map, length, refl, sym, ap, subst, ◌∙◌, append_assoc, append-nil, arith, inl, inr}
use Rattle.std.specs.List.{AllByRecursion}
use Rattle.row_types.specs.declared.table_schema.Schema.{Schema}
use Rattle.row_types.specs.Faults.{row_fault}
use Rattle.row_types.specs.declared.row_faults.RowFault.{RowFault}
use Rattle.file_text.specs.declared.faults.LimitKind.{LimitKind}
use Rattle.file_text.specs.declared.faults.LimitKind.TheVariants.{Bytes, LineBytes, Tables, Columns, Replicas as ReplicaLimit, Sessions, Locals, Schedule as ScheduleLimit}
use Rattle.file_text.specs.declared.faults.LineCause.{LineCause}
use Rattle.file_text.specs.declared.faults.LineCause.TheVariants.{AfterEnd, Order, Form, Twice, Row as RowCause, Statement as StatementCause, Tool, Script, Actor}
use Rattle.file_text.specs.declared.faults.FileFault.{FileFault}
use Rattle.file_text.specs.declared.faults.FileFault.TheVariants.{Line, Limit, Isolation as IsolationFault, Truncated, Memory}
use Rattle.file_text.specs.Parts.{Part, words_of, trimmed, past_end, place_of}
use Rattle.file_text.specs.declared.places.Section.{Section}
use Rattle.file_text.specs.Said.{value_of, Said, Skipped, Header, Isolation, Replicas, TableOf, RowOf, SessionOf, LocalOf, StepOf, Schedule, End, Literal, section_of, ScheduleWord}
use Rattle.file_text.specs.Context.{schemas_of, is_ended}
use Rattle.file_text.specs.Rules.{named_first, parts_in, Misfit, FitsUpTo, offset_of, next_place, next_text}
use Rattle.file_text.specs.Causes.{most, AllDeclared, UndeclaredWord, Undeclared, Cause, OfLimit, OfLine, OfIsolation, MisfitAt, FirstMisfits, IsRowThat, RowMisfits, IsUndeclared, Breaks, limit_order, cause_order, order, IsRefused, IsGood}
use Rattle.file_text.specs.File.{lines_of, content, IsWhole, AreGood, Contents, contents_of, IsFile, RefusedAt, EndsAt, IsFirstFault}
use Rattle.statement_text_laws.proofs.OneTextLemmas.{one_fault_of_text}
use Rattle.file_laws.proofs.FitLemmas.{head_of, onto, some_is, none_some, true_false, cuts, Longer, one_misfit}
use Rattle.file_laws.proofs.SaidLemmas.{one_said, one_section}

-- ---- one place

one_place : (before : List Said) (line : List ℕ) (p q : ℕ) → MisfitAt before line p ⊎ FirstMisfits before line p → MisfitAt before line q ⊎ FirstMisfits before line q → p ≡ q
one_place before line p q (inl a) (inl b) =
    let s = one_section a.section b.section line a.opens b.opens in
    let f : FitsUpTo b.section before (parts_in b.section line) a.fitting a.left a.misfit = subst (λ (x : Section). FitsUpTo x before (parts_in x line) a.fitting a.left a.misfit) s a.fits in
    let r = one_misfit b.section before (parts_in b.section line) a.fitting a.left b.fitting b.left a.misfit b.misfit f b.fits in
    a.is ∙ ap (λ (l : List Part). next_place (past_end line) l + offset_of a.misfit (next_text l)) r.rest ∙ ap (λ (m : Misfit). next_place (past_end line) b.left + offset_of m (next_text b.left)) r.how ∙ sym b.is
one_place before line p q (inl a) (inr b) = absurd (none_some (named_first (words_of line)) a.section b.opens.none a.opens.first)
one_place before line p q (inr a) (inl b) = absurd (none_some (named_first (words_of line)) b.section a.opens.none b.opens.first)
one_place before line p q (inr a) (inr b) = a.is ∙ sym b.is

one_row : (before : List Said) (table : List ℕ) (literals : List Literal) (f g : RowFault) → RowMisfits before table literals f → RowMisfits before table literals g → f ≡ g
one_row before table literals f g a b =
    let s : a.schema ≡ b.schema = some_is a.schema b.schema (sym a.table_is ∙ b.table_is) in
    some_is f g (sym a.fault_is ∙ ap (λ (x : Schema). row_fault x (map value_of literals)) s ∙ b.fault_is)

row_cases : (before : List Said) (said : Said) (f g : RowFault) → IsRowThat (λ table literals. RowMisfits before table literals f) said → IsRowThat (λ table literals. RowMisfits before table literals g) said → f ≡ g
row_cases before (RowOf node table literals) f g a b = one_row before table literals f g a b
row_cases before _ f g a b = absurd a

-- ---- the first who is not declared

one_word : (before : List Said) (words : List ScheduleWord) (m n : ℕ) → UndeclaredWord before words m → UndeclaredWord before words n → m ≡ n
one_word before words m n a b =
    elim (cuts a.front (a.word ∷ a.back) b.front (b.word ∷ b.back) (sym a.are ∙ b.are)) [
      | inl r ↦ a.number_is ∙ ap length r.0 ∙ sym b.number_is
      | inr r ↦ elim r [
        | inl s ↦ absurd (a.undeclared (declared_in a.front a.word (a.back) s b.declared))
        | inr s ↦ absurd (b.undeclared (declared_in b.front b.word (b.back) s a.declared))
      ]
    ]
  where
    middle : (xs : List ScheduleWord) (w : ScheduleWord) (ys : List ScheduleWord) → AllByRecursion (AllDeclared before) (xs ++ w ∷ ys) → AllDeclared before w
    middle [] w ys h = h.0
    middle (x ∷ xs) w ys h = middle xs w ys h.1

    declared_in : {right : List ScheduleWord} (front : List ScheduleWord) (word : ScheduleWord) (back : List ScheduleWord) {other : List ScheduleWord} → (s : Longer front (word ∷ back) other right) → AllByRecursion (AllDeclared before) other → AllDeclared before word
    declared_in front word back s h =
        let m = middle front s.item s.more (subst (AllByRecursion (AllDeclared before)) s.longer h) in
        subst (AllDeclared before) (sym (head_of word s.item back _ s.begins)) m

one_undeclared : (before : List Said) (said : Said) (m n : ℕ) → Undeclared before said m → Undeclared before said n → m ≡ n
one_undeclared before (Schedule words) m n a b = one_word before words m n a b
one_undeclared before (LocalOf replica session) m n a b = a.0 ∙ sym b.0
one_undeclared before (RowOf node table literals) zero zero a b = refl
one_undeclared before (RowOf node table literals) zero (suc zero) a b = absurd (a b.0)
one_undeclared before (RowOf node table literals) zero (suc (suc n)) a b = absurd b
one_undeclared before (RowOf node table literals) (suc zero) zero a b = absurd (b a.0)
one_undeclared before (RowOf node table literals) (suc zero) (suc zero) a b = refl
one_undeclared before (RowOf node table literals) (suc zero) (suc (suc n)) a b = absurd b
one_undeclared before (RowOf node table literals) (suc (suc m)) n a b = absurd a
one_undeclared before Skipped m n a b = absurd a
one_undeclared before (Header v) m n a b = absurd a
one_undeclared before (Isolation l) m n a b = absurd a
one_undeclared before (Replicas c) m n a b = absurd a
one_undeclared before (TableOf x y) m n a b = absurd a
one_undeclared before (SessionOf s) m n a b = absurd a
one_undeclared before (StepOf s) m n a b = absurd a
one_undeclared before End m n a b = absurd a

one_actor : (before : List Said) (line : List ℕ) (p q : ℕ) → IsUndeclared before line p → IsUndeclared before line q → p ≡ q
one_actor before line p q a b =
    let s : a.said ≡ b.said = one_said before line a.said b.said a.says b.says in
    let t : a.section ≡ b.section = some_is a.section b.section (sym a.of ∙ ap section_of s ∙ b.of) in
    let n = one_undeclared before b.said a.number b.number (subst (λ (x : Said). Undeclared before x a.number) s a.who) b.who in
    a.is ∙ ap (λ (x : Section). place_of (past_end line) (parts_in x line) (suc a.number)) t ∙ ap (λ (x : ℕ). place_of (past_end line) (parts_in b.section line) (suc x)) n ∙ sym b.is

-- ---- one cause

limits_once : (k l : LimitKind) → limit_order k ≡ limit_order l → k ≡ l
limits_once Bytes Bytes e = refl
limits_once Bytes LineBytes e = absurd (omega (arith, e))
limits_once Bytes Tables e = absurd (omega (arith, e))
limits_once Bytes Columns e = absurd (omega (arith, e))
limits_once Bytes ReplicaLimit e = absurd (omega (arith, e))
limits_once Bytes Sessions e = absurd (omega (arith, e))
limits_once Bytes Locals e = absurd (omega (arith, e))
limits_once Bytes ScheduleLimit e = absurd (omega (arith, e))
limits_once LineBytes Bytes e = absurd (omega (arith, e))
limits_once LineBytes LineBytes e = refl
limits_once LineBytes Tables e = absurd (omega (arith, e))
limits_once LineBytes Columns e = absurd (omega (arith, e))
limits_once LineBytes ReplicaLimit e = absurd (omega (arith, e))
limits_once LineBytes Sessions e = absurd (omega (arith, e))
limits_once LineBytes Locals e = absurd (omega (arith, e))
limits_once LineBytes ScheduleLimit e = absurd (omega (arith, e))
limits_once Tables Bytes e = absurd (omega (arith, e))
limits_once Tables LineBytes e = absurd (omega (arith, e))
limits_once Tables Tables e = refl
limits_once Tables Columns e = absurd (omega (arith, e))
limits_once Tables ReplicaLimit e = absurd (omega (arith, e))
limits_once Tables Sessions e = absurd (omega (arith, e))
limits_once Tables Locals e = absurd (omega (arith, e))
limits_once Tables ScheduleLimit e = absurd (omega (arith, e))
limits_once Columns Bytes e = absurd (omega (arith, e))
limits_once Columns LineBytes e = absurd (omega (arith, e))
limits_once Columns Tables e = absurd (omega (arith, e))
limits_once Columns Columns e = refl
limits_once Columns ReplicaLimit e = absurd (omega (arith, e))
limits_once Columns Sessions e = absurd (omega (arith, e))
limits_once Columns Locals e = absurd (omega (arith, e))
limits_once Columns ScheduleLimit e = absurd (omega (arith, e))
limits_once ReplicaLimit Bytes e = absurd (omega (arith, e))
limits_once ReplicaLimit LineBytes e = absurd (omega (arith, e))
limits_once ReplicaLimit Tables e = absurd (omega (arith, e))
limits_once ReplicaLimit Columns e = absurd (omega (arith, e))
limits_once ReplicaLimit ReplicaLimit e = refl
limits_once ReplicaLimit Sessions e = absurd (omega (arith, e))
limits_once ReplicaLimit Locals e = absurd (omega (arith, e))
limits_once ReplicaLimit ScheduleLimit e = absurd (omega (arith, e))
limits_once Sessions Bytes e = absurd (omega (arith, e))
limits_once Sessions LineBytes e = absurd (omega (arith, e))
limits_once Sessions Tables e = absurd (omega (arith, e))
limits_once Sessions Columns e = absurd (omega (arith, e))
limits_once Sessions ReplicaLimit e = absurd (omega (arith, e))
limits_once Sessions Sessions e = refl
limits_once Sessions Locals e = absurd (omega (arith, e))
limits_once Sessions ScheduleLimit e = absurd (omega (arith, e))
limits_once Locals Bytes e = absurd (omega (arith, e))
limits_once Locals LineBytes e = absurd (omega (arith, e))
limits_once Locals Tables e = absurd (omega (arith, e))
limits_once Locals Columns e = absurd (omega (arith, e))
limits_once Locals ReplicaLimit e = absurd (omega (arith, e))
limits_once Locals Sessions e = absurd (omega (arith, e))
limits_once Locals Locals e = refl
limits_once Locals ScheduleLimit e = absurd (omega (arith, e))
limits_once ScheduleLimit Bytes e = absurd (omega (arith, e))
limits_once ScheduleLimit LineBytes e = absurd (omega (arith, e))
limits_once ScheduleLimit Tables e = absurd (omega (arith, e))
limits_once ScheduleLimit Columns e = absurd (omega (arith, e))
limits_once ScheduleLimit ReplicaLimit e = absurd (omega (arith, e))
limits_once ScheduleLimit Sessions e = absurd (omega (arith, e))
limits_once ScheduleLimit Locals e = absurd (omega (arith, e))
limits_once ScheduleLimit ScheduleLimit e = refl

pub limit_small : (k : LimitKind) → limit_order k < 8
limit_small Bytes = omega arith
limit_small LineBytes = omega arith
limit_small Tables = omega arith
limit_small Columns = omega arith
limit_small ReplicaLimit = omega arith
limit_small Sessions = omega arith
limit_small Locals = omega arith
limit_small ScheduleLimit = omega arith

pub cause_large : (c : LineCause) → 8 ≤ cause_order c
cause_large AfterEnd = omega arith
cause_large Order = omega arith
cause_large (Form x) = omega arith
cause_large Twice = omega arith
cause_large (RowCause x) = omega arith
cause_large (StatementCause x) = omega arith
cause_large Tool = omega arith
cause_large Script = omega arith
cause_large (Actor x) = omega arith

pub not_isolation : (c : LineCause) → cause_order c ≡ 12 → ⊥
not_isolation AfterEnd e = omega (arith, e)
not_isolation Order e = omega (arith, e)
not_isolation (Form x) e = omega (arith, e)
not_isolation Twice e = omega (arith, e)
not_isolation (RowCause x) e = omega (arith, e)
not_isolation (StatementCause x) e = omega (arith, e)
not_isolation Tool e = omega (arith, e)
not_isolation Script e = omega (arith, e)
not_isolation (Actor x) e = omega (arith, e)

causes_once : (before : List Said) (line : List ℕ) (c d : LineCause) → cause_order c ≡ cause_order d → Breaks before line (OfLine c) → Breaks before line (OfLine d) → c ≡ d
causes_once before line AfterEnd AfterEnd e h k = refl
causes_once before line AfterEnd Order e h k = absurd (omega (arith, e))
causes_once before line AfterEnd (Form y) e h k = absurd (omega (arith, e))
causes_once before line AfterEnd Twice e h k = absurd (omega (arith, e))
causes_once before line AfterEnd (RowCause y) e h k = absurd (omega (arith, e))
causes_once before line AfterEnd (StatementCause y) e h k = absurd (omega (arith, e))
causes_once before line AfterEnd Tool e h k = absurd (omega (arith, e))
causes_once before line AfterEnd Script e h k = absurd (omega (arith, e))
causes_once before line AfterEnd (Actor y) e h k = absurd (omega (arith, e))
causes_once before line Order AfterEnd e h k = absurd (omega (arith, e))
causes_once before line Order Order e h k = refl
causes_once before line Order (Form y) e h k = absurd (omega (arith, e))
causes_once before line Order Twice e h k = absurd (omega (arith, e))
causes_once before line Order (RowCause y) e h k = absurd (omega (arith, e))
causes_once before line Order (StatementCause y) e h k = absurd (omega (arith, e))
causes_once before line Order Tool e h k = absurd (omega (arith, e))
causes_once before line Order Script e h k = absurd (omega (arith, e))
causes_once before line Order (Actor y) e h k = absurd (omega (arith, e))
causes_once before line (Form x) AfterEnd e h k = absurd (omega (arith, e))
causes_once before line (Form x) Order e h k = absurd (omega (arith, e))
causes_once before line (Form x) (Form y) e h k = ap Form (one_place before line x y h k)
causes_once before line (Form x) Twice e h k = absurd (omega (arith, e))
causes_once before line (Form x) (RowCause y) e h k = absurd (omega (arith, e))
causes_once before line (Form x) (StatementCause y) e h k = absurd (omega (arith, e))
causes_once before line (Form x) Tool e h k = absurd (omega (arith, e))
causes_once before line (Form x) Script e h k = absurd (omega (arith, e))
causes_once before line (Form x) (Actor y) e h k = absurd (omega (arith, e))
causes_once before line Twice AfterEnd e h k = absurd (omega (arith, e))
causes_once before line Twice Order e h k = absurd (omega (arith, e))
causes_once before line Twice (Form y) e h k = absurd (omega (arith, e))
causes_once before line Twice Twice e h k = refl
causes_once before line Twice (RowCause y) e h k = absurd (omega (arith, e))
causes_once before line Twice (StatementCause y) e h k = absurd (omega (arith, e))
causes_once before line Twice Tool e h k = absurd (omega (arith, e))
causes_once before line Twice Script e h k = absurd (omega (arith, e))
causes_once before line Twice (Actor y) e h k = absurd (omega (arith, e))
causes_once before line (RowCause x) AfterEnd e h k = absurd (omega (arith, e))
causes_once before line (RowCause x) Order e h k = absurd (omega (arith, e))
causes_once before line (RowCause x) (Form y) e h k = absurd (omega (arith, e))
causes_once before line (RowCause x) Twice e h k = absurd (omega (arith, e))
causes_once before line (RowCause x) (RowCause y) e h k = ap RowCause (row_cases before k.said x y (subst (IsRowThat (λ table literals. RowMisfits before table literals x)) (one_said before line h.said k.said h.says k.says) h.wrong) k.wrong)
causes_once before line (RowCause x) (StatementCause y) e h k = absurd (omega (arith, e))
causes_once before line (RowCause x) Tool e h k = absurd (omega (arith, e))
causes_once before line (RowCause x) Script e h k = absurd (omega (arith, e))
causes_once before line (RowCause x) (Actor y) e h k = absurd (omega (arith, e))
causes_once before line (StatementCause x) AfterEnd e h k = absurd (omega (arith, e))
causes_once before line (StatementCause x) Order e h k = absurd (omega (arith, e))
causes_once before line (StatementCause x) (Form y) e h k = absurd (omega (arith, e))
causes_once before line (StatementCause x) Twice e h k = absurd (omega (arith, e))
causes_once before line (StatementCause x) (RowCause y) e h k = absurd (omega (arith, e))
causes_once before line (StatementCause x) (StatementCause y) e h k = ap StatementCause (one_fault_of_text (schemas_of before) (trimmed line) x y h.fails k.fails)
causes_once before line (StatementCause x) Tool e h k = absurd (omega (arith, e))
causes_once before line (StatementCause x) Script e h k = absurd (omega (arith, e))
causes_once before line (StatementCause x) (Actor y) e h k = absurd (omega (arith, e))
causes_once before line Tool AfterEnd e h k = absurd (omega (arith, e))
causes_once before line Tool Order e h k = absurd (omega (arith, e))
causes_once before line Tool (Form y) e h k = absurd (omega (arith, e))
causes_once before line Tool Twice e h k = absurd (omega (arith, e))
causes_once before line Tool (RowCause y) e h k = absurd (omega (arith, e))
causes_once before line Tool (StatementCause y) e h k = absurd (omega (arith, e))
causes_once before line Tool Tool e h k = refl
causes_once before line Tool Script e h k = absurd (omega (arith, e))
causes_once before line Tool (Actor y) e h k = absurd (omega (arith, e))
causes_once before line Script AfterEnd e h k = absurd (omega (arith, e))
causes_once before line Script Order e h k = absurd (omega (arith, e))
causes_once before line Script (Form y) e h k = absurd (omega (arith, e))
causes_once before line Script Twice e h k = absurd (omega (arith, e))
causes_once before line Script (RowCause y) e h k = absurd (omega (arith, e))
causes_once before line Script (StatementCause y) e h k = absurd (omega (arith, e))
causes_once before line Script Tool e h k = absurd (omega (arith, e))
causes_once before line Script Script e h k = refl
causes_once before line Script (Actor y) e h k = absurd (omega (arith, e))
causes_once before line (Actor x) AfterEnd e h k = absurd (omega (arith, e))
causes_once before line (Actor x) Order e h k = absurd (omega (arith, e))
causes_once before line (Actor x) (Form y) e h k = absurd (omega (arith, e))
causes_once before line (Actor x) Twice e h k = absurd (omega (arith, e))
causes_once before line (Actor x) (RowCause y) e h k = absurd (omega (arith, e))
causes_once before line (Actor x) (StatementCause y) e h k = absurd (omega (arith, e))
causes_once before line (Actor x) Tool e h k = absurd (omega (arith, e))
causes_once before line (Actor x) Script e h k = absurd (omega (arith, e))
causes_once before line (Actor x) (Actor y) e h k = ap Actor (one_actor before line x y h k)

same_order : (before : List Said) (line : List ℕ) (c d : Cause) → order c ≡ order d → Breaks before line c → Breaks before line d → c ≡ d
same_order before line (OfLimit k) (OfLimit l) e h j = ap OfLimit (limits_once k l e)
same_order before line (OfLimit k) (OfLine d) e h j = let a = limit_small k in let b = cause_large d in absurd (omega (arith, e, a, b))
same_order before line (OfLimit k) OfIsolation e h j = let a = limit_small k in absurd (omega (arith, e, a))
same_order before line (OfLine c) (OfLimit l) e h j = let a = limit_small l in let b = cause_large c in absurd (omega (arith, e, a, b))
same_order before line (OfLine c) (OfLine d) e h j = ap OfLine (causes_once before line c d e h j)
same_order before line (OfLine c) OfIsolation e h j = absurd (not_isolation c e)
same_order before line OfIsolation (OfLimit l) e h j = let a = limit_small l in absurd (omega (arith, e, a))
same_order before line OfIsolation (OfLine d) e h j = absurd (not_isolation d (sym e))
same_order before line OfIsolation OfIsolation e h j = refl

pub one_cause : (before : List Said) (line : List ℕ) (c d : Cause) → IsRefused before line c → IsRefused before line d → c ≡ d
one_cause before line c d a b =
    elim (three (order c) (order d)) [
      | inl l ↦ absurd (b.first c l a.breaks)
      | inr r ↦ elim r [
        | inl e ↦ same_order before line c d e a.breaks b.breaks
        | inr g ↦ absurd (a.first d g b.breaks)
      ]
    ]
  where
    three : (m n : ℕ) → (m < n) ⊎ ((m ≡ n) ⊎ (n < m))
    three zero zero = inr (inl refl)
    three zero (suc n) = inl (omega arith)
    three (suc m) zero = inr (inr (omega arith))
    three (suc m) (suc n) = elim (three m n) [
      | inl l ↦ inl (omega arith)
      | inr r ↦ elim r [
        | inl e ↦ inr (inl (ap suc e))
        | inr g ↦ inr (inr (omega arith))
      ]
    ]

-- ---- lines

pub good_once : (before : List Said) (lines : List (List ℕ)) (a b : List Said) → AreGood before lines a → AreGood before lines b → a ≡ b
good_once before [] [] [] h k = refl
good_once before [] [] (y ∷ b) h k = absurd k
good_once before [] (x ∷ a) b h k = absurd h
good_once before (line ∷ lines) [] b h k = absurd h
good_once before (line ∷ lines) (x ∷ a) [] h k = absurd k
good_once before (line ∷ lines) (x ∷ a) (y ∷ b) h k =
    let e : x ≡ y = one_said before (content line) x y h.1.says k.1.says in
    onto x y a b e (good_once (before ++ y ∷ []) lines a b (subst (λ (z : Said). AreGood (before ++ z ∷ []) lines a) e h.2) k.2)

pub record GoodSplit (before : List Said) (front rest : List (List ℕ)) (said : List Said) : Type 0 where
  pub first : List Said
  pub second : List Said
  pub are : said ≡ first ++ second
  pub of_front : AreGood before front first
  pub of_rest : AreGood (before ++ first) rest second

pub good_split : (before : List Said) (front rest : List (List ℕ)) (said : List Said) → AreGood before (front ++ rest) said → GoodSplit before front rest said
good_split before [] rest said h = record { first = []; second = said; are = refl; of_front = tt; of_rest = subst (λ (b : List Said). AreGood b rest said) (sym (append-nil before)) h }
good_split before (line ∷ front) rest [] h = absurd h
good_split before (line ∷ front) rest (x ∷ said) h =
    let r = good_split (before ++ x ∷ []) front rest said h.2 in record {
      first = x ∷ r.first;
      second = r.second;
      are = ap (λ (l : List Said). x ∷ l) r.are;
      of_front = (h.0, h.1, r.of_front);
      of_rest = subst (λ (b : List Said). AreGood b rest r.second) (append_assoc before (x ∷ []) r.first) r.of_rest;
    }

-- what is known of a line that stands behind good ones
pub record GoodNext (said : List Said) (line : List ℕ) : Type 0 where
  pub whole : IsWhole said line
  pub next : Said
  pub good : IsGood said (content line) next

next_good : (front : List (List ℕ)) (line : List ℕ) (rest : List (List ℕ)) (said all : List Said) → AreGood [] front said → AreGood [] (front ++ line ∷ rest) all → GoodNext said line
next_good front line rest said all h k =
    let r = good_split [] front (line ∷ rest) all k in
    let e : r.first ≡ said = good_once [] front r.first said r.of_front h in
    from r.second (subst (λ (b : List Said). AreGood b (line ∷ rest) r.second) e r.of_rest)
  where
    from : (second : List Said) → AreGood said (line ∷ rest) second → GoodNext said line
    from [] g = absurd g
    from (x ∷ more) g = record { whole = g.0; next = x; good = g.1 }

refused_not_good : (said : List Said) (line : List ℕ) (cause : Cause) → IsRefused said (content line) cause → GoodNext said line → ⊥
refused_not_good said line cause r g = g.good.good cause r.breaks

-- ---- a file and its faults

pub one_file : (bytes : List ℕ) (v w : Contents) → IsFile bytes v → IsFile bytes w → v ≡ w
one_file bytes v w a b = a.gives ∙ ap contents_of (good_once [] (lines_of bytes) a.said b.said a.lines b.lines) ∙ sym b.gives

refused_file : (bytes : List ℕ) (number : ℕ) (cause : Cause) (w : Contents) → RefusedAt bytes number cause → IsFile bytes w → ⊥
refused_file bytes number cause w r f =
    refused_not_good r.said r.line cause r.refused (next_good r.front r.line r.rest r.said f.said r.before.good (subst (λ (l : List (List ℕ)). AreGood [] l f.said) r.before.parts f.lines))

ends_file : (bytes : List ℕ) (number : ℕ) (w : Contents) → EndsAt bytes number → IsFile bytes w → ⊥
ends_file bytes number w r f = cases r.rest r.before.parts r.cut
  where
    cases : (rest : List (List ℕ)) → lines_of bytes ≡ r.front ++ rest → ((line : List ℕ) (more : List (List ℕ)) → rest ≡ line ∷ more → IsWhole r.said line → ⊥) → ⊥
    cases [] e c =
        let s : f.said ≡ r.said = good_once [] r.front f.said r.said (subst (λ (l : List (List ℕ)). AreGood [] l f.said) (e ∙ append-nil r.front) f.lines) r.before.good in
        true_false (is_ended f.said) f.ended (ap is_ended s ∙ r.no_end)
    cases (line ∷ more) e c =
        let g = next_good r.front line more r.said f.said r.before.good (subst (λ (l : List (List ℕ)). AreGood [] l f.said) e f.lines) in
        c line more refl g.whole

limit_file : (bytes : List ℕ) (which : LimitKind) (got : ℕ) (w : Contents) → IsFirstFault bytes (Limit which got) → IsFile bytes w → ⊥
limit_file bytes Bytes got w h f = let s = f.short in let l = h.0 in omega (arith, s, l)
limit_file bytes LineBytes got w h f = refused_file bytes h.0.0 (OfLimit LineBytes) w h.0.1 f
limit_file bytes Tables got w h f = refused_file bytes h.0.0 (OfLimit Tables) w h.0.1 f
limit_file bytes Columns got w h f = refused_file bytes h.0.0 (OfLimit Columns) w h.0.1 f
limit_file bytes ReplicaLimit got w h f = refused_file bytes h.0.0 (OfLimit ReplicaLimit) w h.0.1 f
limit_file bytes Sessions got w h f = refused_file bytes h.0.0 (OfLimit Sessions) w h.0.1 f
limit_file bytes Locals got w h f = refused_file bytes h.0.0 (OfLimit Locals) w h.0.1 f
limit_file bytes ScheduleLimit got w h f = refused_file bytes h.0.0 (OfLimit ScheduleLimit) w h.0.1 f

pub never_both : (bytes : List ℕ) (fault : FileFault) (w : Contents) → IsFirstFault bytes fault → IsFile bytes w → ⊥
never_both bytes (Line number cause) w h f = refused_file bytes number (OfLine cause) w h f
never_both bytes (Limit which got) w h f = limit_file bytes which got w h f
never_both bytes (IsolationFault number) w h f = refused_file bytes number OfIsolation w h f
never_both bytes (Truncated number) w h f = ends_file bytes number w h f
never_both bytes Memory w h f = h

-- ---- one fault

pub record SameRefusal (m n : ℕ) (c d : Cause) : Type 0 where
  pub number : m ≡ n
  pub cause : c ≡ d

-- good lines go on past this one
goes_on : (front other : List (List ℕ)) (line : List ℕ) (rest right : List (List ℕ)) (said all : List Said) → AreGood [] front said → AreGood [] other all → Longer front (line ∷ rest) other right → GoodNext said line
goes_on front other line rest right said all h k s =
    let e : line ≡ s.item = head_of line s.item rest _ s.begins in
    next_good front line s.more said all h (subst (λ (l : List (List ℕ)). AreGood [] l all) (s.longer ∙ ap (λ (x : List ℕ). front ++ x ∷ s.more) (sym e)) k)

pub one_refusal : (bytes : List ℕ) (m n : ℕ) (c d : Cause) → RefusedAt bytes m c → RefusedAt bytes n d → SameRefusal m n c d
one_refusal bytes m n c d a b =
    elim (cuts a.front (a.line ∷ a.rest) b.front (b.line ∷ b.rest) (sym a.before.parts ∙ b.before.parts)) [
      | inl r ↦
          let s : a.said ≡ b.said = good_once [] b.front a.said b.said (subst (λ (l : List (List ℕ)). AreGood [] l a.said) r.0 a.before.good) b.before.good in
          let l : a.line ≡ b.line = head_of a.line b.line a.rest b.rest r.1 in
          record {
            number = a.before.number_is ∙ ap (λ (x : List (List ℕ)). suc (length x)) r.0 ∙ sym b.before.number_is;
            cause = one_cause b.said (content b.line) c d (subst (λ (x : List ℕ). IsRefused b.said (content x) c) l (subst (λ (x : List Said). IsRefused x (content a.line) c) s a.refused)) b.refused;
          }
      | inr r ↦ elim r [
        | inl s ↦ absurd (refused_not_good a.said a.line c a.refused (goes_on a.front b.front a.line a.rest (b.line ∷ b.rest) a.said b.said a.before.good b.before.good s))
        | inr s ↦ absurd (refused_not_good b.said b.line d b.refused (goes_on b.front a.front b.line b.rest (a.line ∷ a.rest) b.said a.said b.before.good a.before.good s))
      ]
    ]

-- the end is not reached where a line is refused
refused_ends : (bytes : List ℕ) (m n : ℕ) (c : Cause) → RefusedAt bytes m c → EndsAt bytes n → ⊥
refused_ends bytes m n c a b =
    elim (cuts a.front (a.line ∷ a.rest) b.front b.rest (sym a.before.parts ∙ b.before.parts)) [
      | inl r ↦
          let s : a.said ≡ b.said = good_once [] b.front a.said b.said (subst (λ (l : List (List ℕ)). AreGood [] l a.said) r.0 a.before.good) b.before.good in
          b.cut a.line a.rest (sym r.1) (subst (λ (x : List Said). IsWhole x a.line) s a.whole)
      | inr r ↦ elim r [
        | inl s ↦ refused_not_good a.said a.line c a.refused (goes_on a.front b.front a.line a.rest b.rest a.said b.said a.before.good b.before.good s)
        | inr s ↦
            let g = next_good b.front s.item s.more b.said a.said b.before.good (subst (λ (l : List (List ℕ)). AreGood [] l a.said) s.longer a.before.good) in
            b.cut s.item (s.more ++ (a.line ∷ a.rest)) s.begins g.whole
      ]
    ]

one_end : (bytes : List ℕ) (m n : ℕ) → EndsAt bytes m → EndsAt bytes n → m ≡ n
one_end bytes m n a b =
    elim (cuts a.front a.rest b.front b.rest (sym a.before.parts ∙ b.before.parts)) [
      | inl r ↦ a.before.number_is ∙ ap (λ (x : List (List ℕ)). suc (length x)) r.0 ∙ sym b.before.number_is
      | inr r ↦ elim r [
        | inl s ↦
            let g = next_good a.front s.item s.more a.said b.said a.before.good (subst (λ (l : List (List ℕ)). AreGood [] l b.said) s.longer b.before.good) in
            absurd (a.cut s.item (s.more ++ b.rest) s.begins g.whole)
        | inr s ↦
            let g = next_good b.front s.item s.more b.said a.said b.before.good (subst (λ (l : List (List ℕ)). AreGood [] l a.said) s.longer a.before.good) in
            absurd (b.cut s.item (s.more ++ a.rest) s.begins g.whole)
      ]
    ]

-- ---- a fault of any kind is a refusal, the end, or the size

abbrev pub fault_of : ℕ → Cause → FileFault
fault_of number (OfLine cause) = Line number cause
fault_of number (OfLimit which) = Limit which (most which + 1)
fault_of number OfIsolation = IsolationFault number

pub data Kind (bytes : List ℕ) (fault : FileFault) : Type 0 where
  OfSize : fault ≡ Limit Bytes 16777217 → most Bytes < length bytes → Kind bytes fault
  OfRefusal : (number : ℕ) (cause : Cause) → fault ≡ fault_of number cause → RefusedAt bytes number cause → Kind bytes fault
  OfEnd : (number : ℕ) → fault ≡ Truncated number → EndsAt bytes number → Kind bytes fault

limit_kind : (bytes : List ℕ) (which : LimitKind) (got : ℕ) → IsFirstFault bytes (Limit which got) → Kind bytes (Limit which got)
limit_kind bytes Bytes got h = OfSize (ap (Limit Bytes) h.1) h.0
limit_kind bytes LineBytes got h = OfRefusal h.0.0 (OfLimit LineBytes) (ap (Limit LineBytes) h.1) h.0.1
limit_kind bytes Tables got h = OfRefusal h.0.0 (OfLimit Tables) (ap (Limit Tables) h.1) h.0.1
limit_kind bytes Columns got h = OfRefusal h.0.0 (OfLimit Columns) (ap (Limit Columns) h.1) h.0.1
limit_kind bytes ReplicaLimit got h = OfRefusal h.0.0 (OfLimit ReplicaLimit) (ap (Limit ReplicaLimit) h.1) h.0.1
limit_kind bytes Sessions got h = OfRefusal h.0.0 (OfLimit Sessions) (ap (Limit Sessions) h.1) h.0.1
limit_kind bytes Locals got h = OfRefusal h.0.0 (OfLimit Locals) (ap (Limit Locals) h.1) h.0.1
limit_kind bytes ScheduleLimit got h = OfRefusal h.0.0 (OfLimit ScheduleLimit) (ap (Limit ScheduleLimit) h.1) h.0.1

kind_of : (bytes : List ℕ) (fault : FileFault) → IsFirstFault bytes fault → Kind bytes fault
kind_of bytes (Line number cause) h = OfRefusal number (OfLine cause) refl h
kind_of bytes (Limit which got) h = limit_kind bytes which got h
kind_of bytes (IsolationFault number) h = OfRefusal number OfIsolation refl h
kind_of bytes (Truncated number) h = OfEnd number refl h
kind_of bytes Memory h = absurd h

too_long : (m n : ℕ) → m < n → n ≤ m → ⊥
too_long m n a b = omega (arith, a, b)

same_limit : (m n : ℕ) (c d : Cause) → m ≡ n → c ≡ d → fault_of m c ≡ fault_of n d
same_limit m n c d e f = ap (λ (x : ℕ). fault_of x c) e ∙ ap (fault_of n) f

pub one_fault : (bytes : List ℕ) (f g : FileFault) → IsFirstFault bytes f → IsFirstFault bytes g → f ≡ g
one_fault bytes f g h k = cases (kind_of bytes f h) (kind_of bytes g k)
  where
    cases : Kind bytes f → Kind bytes g → f ≡ g
    cases (OfSize e a) (OfSize d b) = e ∙ sym d
    cases (OfSize e a) (OfRefusal n c d b) = absurd (too_long _ _ a b.before.short)
    cases (OfSize e a) (OfEnd n d b) = absurd (too_long _ _ a b.before.short)
    cases (OfRefusal m c e a) (OfSize d b) = absurd (too_long _ _ b a.before.short)
    cases (OfRefusal m c e a) (OfRefusal n x d b) = let r = one_refusal bytes m n c x a b in e ∙ same_limit m n c x r.number r.cause ∙ sym d
    cases (OfRefusal m c e a) (OfEnd n d b) = absurd (refused_ends bytes m n c a b)
    cases (OfEnd m e a) (OfSize d b) = absurd (too_long _ _ b a.before.short)
    cases (OfEnd m e a) (OfRefusal n x d b) = absurd (refused_ends bytes n m x b a)
    cases (OfEnd m e a) (OfEnd n d b) = e ∙ ap Truncated (one_end bytes m n a b) ∙ sym d
