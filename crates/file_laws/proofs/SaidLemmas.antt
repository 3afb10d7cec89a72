-- A line says one thing.
use Rattle.std.proofs.Common.{◌≡◌, ℕ, true, false, List, [], ◌∷◌, ◌++◌, map, Some, refl, sym, ap, subst, ◌∙◌, append_assoc, append-nil, arith}
use Rattle.row_types.specs.declared.table_schema.ColumnKind.{ColumnKind}
use Rattle.row_types.specs.declared.table_schema.ColumnKind.TheVariants.{Int as IntColumn, BigInt, Text as TextColumn}
use Rattle.ptc_statement.specs.declared.scripts.ScriptStep.{ScriptStep}
use Rattle.ptc_statement.specs.declared.scripts.ScriptStep.TheVariants.{Begin, Commit, Rollback, Run}
use Rattle.file_text.specs.Parts.{words_of, trimmed}
use Rattle.file_text.specs.declared.places.Section.{Section}
use Rattle.file_text.specs.declared.places.Keyword.TheVariants.{First}
use Rattle.file_text.specs.Said.{Said, Skipped, Header, Isolation, Replicas, TableOf, RowOf, SessionOf, LocalOf, StepOf, Schedule, End, Mark, Bare, Key, NotNull, ColumnText, Literal, Number, Quoted, NullWord, Level, RepeatableRead, ReadCommitted, ReadUncommitted, Serializable, section_of, ScheduleWord, Item, Word, Sign, Name, Turns, kind_items, mark_items, column_items, more_columns, columns_items, literal_items, more_literals, literals_items, level_items, behind_first, IsLineOf}
use Rattle.file_text.specs.Context.{schemas_of, in_script}
use Rattle.file_text.specs.Rules.{is_skipped, named_first, Opens, OpensNone, parts_in, MayBegin, word_step, IsStep, IsWritten, Says}
use Rattle.statement_text_laws.proofs.OneTextLemmas.{one_statement_of_text}
use Rattle.file_laws.proofs.FitLemmas.{tail_of, head_of, onto, some_is, none_some, true_false, one_front}

-- ---- the items tell what is said

signs_differ : {A : Type 0} (xs ys : List Item) → Sign 41 ∷ xs ≡ Sign 44 ∷ ys → A
signs_differ xs ys e = let h : Sign 41 ≡ Sign 44 = head_of (Sign 41) (Sign 44) xs ys e in let n : 41 ≡ 44 = ap number h in absurd (omega (arith, n))
  where
    number : Item → ℕ
    number (Sign s) = s
    number _ = 0

kinds_once : (k l : ColumnKind) (xs ys : List Item) → kind_items k ++ xs ≡ kind_items l ++ ys → (k ≡ l) × (xs ≡ ys)
kinds_once IntColumn IntColumn xs ys e = (cc, cc)
kinds_once IntColumn BigInt xs ys e = absurd cc
kinds_once IntColumn (TextColumn n) xs ys e = absurd cc
kinds_once BigInt IntColumn xs ys e = absurd cc
kinds_once BigInt BigInt xs ys e = (cc, cc)
kinds_once BigInt (TextColumn n) xs ys e = absurd cc
kinds_once (TextColumn m) IntColumn xs ys e = absurd cc
kinds_once (TextColumn m) BigInt xs ys e = absurd cc
kinds_once (TextColumn m) (TextColumn n) xs ys e = (cc, cc)

marks_once : (m n : Mark) (s t : ℕ) (xs ys : List Item) → mark_items m ++ (Sign s ∷ xs) ≡ mark_items n ++ (Sign t ∷ ys) → (m ≡ n) × (Sign s ∷ xs ≡ Sign t ∷ ys)
marks_once Bare Bare s t xs ys e = (refl, cc)
marks_once Bare Key s t xs ys e = absurd cc
marks_once Bare NotNull s t xs ys e = absurd cc
marks_once Key Bare s t xs ys e = absurd cc
marks_once Key Key s t xs ys e = (refl, cc)
marks_once Key NotNull s t xs ys e = absurd cc
marks_once NotNull Bare s t xs ys e = absurd cc
marks_once NotNull Key s t xs ys e = absurd cc
marks_once NotNull NotNull s t xs ys e = (refl, cc)

same_column : (c d : ColumnText) → c.name ≡ d.name → c.kind ≡ d.kind → c.mark ≡ d.mark → c ≡ d
same_column c d e f g = λ i. record { name = e i; kind = f i; mark = g i }

column_once : (c d : ColumnText) (s t : ℕ) (xs ys : List Item) → column_items c ++ (Sign s ∷ xs) ≡ column_items d ++ (Sign t ∷ ys) → (c ≡ d) × (Sign s ∷ xs ≡ Sign t ∷ ys)
column_once c d s t xs ys e =
    let h : Name c.name ≡ Name d.name = head_of _ _ _ _ e in
    let r = tail_of (Name c.name) (Name d.name) ((kind_items c.kind ++ mark_items c.mark) ++ (Sign s ∷ xs)) ((kind_items d.kind ++ mark_items d.mark) ++ (Sign t ∷ ys)) e in
    let k = kinds_once c.kind d.kind (mark_items c.mark ++ (Sign s ∷ xs)) (mark_items d.mark ++ (Sign t ∷ ys)) (sym (append_assoc (kind_items c.kind) (mark_items c.mark) (Sign s ∷ xs)) ∙ r ∙ append_assoc (kind_items d.kind) (mark_items d.mark) (Sign t ∷ ys)) in
    let m = marks_once c.mark d.mark s t xs ys k.1 in
    let names : c.name ≡ d.name = cc in
    (same_column c d names k.0 m.0, m.1)

-- what stands behind a column is a sign
more_is : (columns : List ColumnText) → (s : ℕ) × (xs : List Item) × (more_columns columns ≡ Sign s ∷ xs)
more_is [] = (41, [], refl)
more_is (c ∷ cs) = (44, column_items c ++ more_columns cs, refl)

one_column : (c d : ColumnText) (cs ds : List ColumnText) → column_items c ++ more_columns cs ≡ column_items d ++ more_columns ds → (c ≡ d) × (more_columns cs ≡ more_columns ds)
one_column c d cs ds e =
    let p = more_is cs in
    let q = more_is ds in
    let r = column_once c d p.0 q.0 p.1 q.1 (ap (λ (x : List Item). column_items c ++ x) (sym p.2) ∙ e ∙ ap (λ (x : List Item). column_items d ++ x) q.2) in
    (r.0, p.2 ∙ r.1 ∙ sym q.2)

more_once : (cs ds : List ColumnText) → more_columns cs ≡ more_columns ds → cs ≡ ds
more_once [] [] e = refl
more_once [] (d ∷ ds) e = signs_differ _ _ e
more_once (c ∷ cs) [] e = signs_differ _ _ (sym e)
more_once (c ∷ cs) (d ∷ ds) e = let r = one_column c d cs ds (tail_of _ _ _ _ e) in onto c d cs ds r.0 (more_once cs ds r.1)

column_some : (c : ColumnText) (xs : List Item) → [] ≡ column_items c ++ xs → ⊥
column_some c xs e = cc

columns_once : (cs ds : List ColumnText) → columns_items cs ≡ columns_items ds → cs ≡ ds
columns_once [] [] e = refl
columns_once [] (d ∷ ds) e = absurd (column_some d (more_columns ds) e)
columns_once (c ∷ cs) [] e = absurd (column_some c (more_columns cs) (sym e))
columns_once (c ∷ cs) (d ∷ ds) e = let r = one_column c d cs ds e in onto c d cs ds r.0 (more_once cs ds r.1)

literal_once : (l m : Literal) (xs ys : List Item) → literal_items l ++ xs ≡ literal_items m ++ ys → (l ≡ m) × (xs ≡ ys)
literal_once (Number true a) (Number true b) xs ys e = (cc, cc)
literal_once (Number true a) (Number false b) xs ys e = absurd cc
literal_once (Number true a) (Quoted b) xs ys e = absurd cc
literal_once (Number true a) NullWord xs ys e = absurd cc
literal_once (Number false a) (Number true b) xs ys e = absurd cc
literal_once (Number false a) (Number false b) xs ys e = (cc, cc)
literal_once (Number false a) (Quoted b) xs ys e = absurd cc
literal_once (Number false a) NullWord xs ys e = absurd cc
literal_once (Quoted a) (Number true b) xs ys e = absurd cc
literal_once (Quoted a) (Number false b) xs ys e = absurd cc
literal_once (Quoted a) (Quoted b) xs ys e = (cc, cc)
literal_once (Quoted a) NullWord xs ys e = absurd cc
literal_once NullWord (Number true b) xs ys e = absurd cc
literal_once NullWord (Number false b) xs ys e = absurd cc
literal_once NullWord (Quoted b) xs ys e = absurd cc
literal_once NullWord NullWord xs ys e = (cc, cc)

literals_more : (ls ms : List Literal) → more_literals ls ≡ more_literals ms → ls ≡ ms
literals_more [] [] e = refl
literals_more [] (m ∷ ms) e = signs_differ _ _ e
literals_more (l ∷ ls) [] e = signs_differ _ _ (sym e)
literals_more (l ∷ ls) (m ∷ ms) e = let r = literal_once l m (more_literals ls) (more_literals ms) (tail_of _ _ _ _ e) in onto l m ls ms r.0 (literals_more ls ms r.1)

literal_some : (l : Literal) (xs : List Item) → [] ≡ literal_items l ++ xs → ⊥
literal_some (Number true n) xs e = cc
literal_some (Number false n) xs e = cc
literal_some (Quoted t) xs e = cc
literal_some NullWord xs e = cc

literals_once : (ls ms : List Literal) → literals_items ls ≡ literals_items ms → ls ≡ ms
literals_once [] [] e = refl
literals_once [] (m ∷ ms) e = absurd (literal_some m (more_literals ms) e)
literals_once (l ∷ ls) [] e = absurd (literal_some l (more_literals ls) (sym e))
literals_once (l ∷ ls) (m ∷ ms) e = let r = literal_once l m (more_literals ls) (more_literals ms) e in onto l m ls ms r.0 (literals_more ls ms r.1)

turns_once : (vs ws : List ScheduleWord) → map Turns vs ≡ map Turns ws → vs ≡ ws
turns_once [] [] e = refl
turns_once [] (w ∷ ws) e = absurd cc
turns_once (v ∷ vs) [] e = absurd cc
turns_once (v ∷ vs) (w ∷ ws) e = let h : Turns v ≡ Turns w = head_of (Turns v) (Turns w) (map Turns vs) (map Turns ws) e in let f : v ≡ w = cc in onto v w vs ws f (turns_once vs ws (tail_of _ _ _ _ e))

level_once : (l m : Level) → level_items l ≡ level_items m → l ≡ m
level_once RepeatableRead RepeatableRead e = refl
level_once RepeatableRead ReadCommitted e = cc
level_once RepeatableRead ReadUncommitted e = cc
level_once RepeatableRead Serializable e = cc
level_once ReadCommitted RepeatableRead e = cc
level_once ReadCommitted ReadCommitted e = refl
level_once ReadCommitted ReadUncommitted e = cc
level_once ReadCommitted Serializable e = cc
level_once ReadUncommitted RepeatableRead e = cc
level_once ReadUncommitted ReadCommitted e = cc
level_once ReadUncommitted ReadUncommitted e = refl
level_once ReadUncommitted Serializable e = cc
level_once Serializable RepeatableRead e = cc
level_once Serializable ReadCommitted e = cc
level_once Serializable ReadUncommitted e = cc
level_once Serializable Serializable e = refl

-- the items behind the first word tell what is said
said_once : (section : Section) (a b : Said) → section_of a ≡ Some section → section_of b ≡ Some section → behind_first a ≡ behind_first b → a ≡ b
said_once section Skipped Skipped p q e = refl
said_once section Skipped (Header v1) p q e = absurd cc
said_once section Skipped (Isolation l1) p q e = absurd cc
said_once section Skipped (Replicas c1) p q e = absurd cc
said_once section Skipped (TableOf n1 cs1) p q e = absurd cc
said_once section Skipped (RowOf n1 t1 ls1) p q e = absurd cc
said_once section Skipped (SessionOf s1) p q e = absurd cc
said_once section Skipped (LocalOf r1 s1) p q e = absurd cc
said_once section Skipped (StepOf st1) p q e = absurd cc
said_once section Skipped (Schedule ws1) p q e = absurd cc
said_once section Skipped End p q e = absurd cc
said_once section (Header v0) Skipped p q e = absurd cc
said_once section (Header v0) (Header v1) p q e = cc
said_once section (Header v0) (Isolation l1) p q e = absurd cc
said_once section (Header v0) (Replicas c1) p q e = absurd cc
said_once section (Header v0) (TableOf n1 cs1) p q e = absurd cc
said_once section (Header v0) (RowOf n1 t1 ls1) p q e = absurd cc
said_once section (Header v0) (SessionOf s1) p q e = absurd cc
said_once section (Header v0) (LocalOf r1 s1) p q e = absurd cc
said_once section (Header v0) (StepOf st1) p q e = absurd cc
said_once section (Header v0) (Schedule ws1) p q e = absurd cc
said_once section (Header v0) End p q e = absurd cc
said_once section (Isolation l0) Skipped p q e = absurd cc
said_once section (Isolation l0) (Header v1) p q e = absurd cc
said_once section (Isolation l0) (Isolation l1) p q e = ap Isolation (level_once l0 l1 e)
said_once section (Isolation l0) (Replicas c1) p q e = absurd cc
said_once section (Isolation l0) (TableOf n1 cs1) p q e = absurd cc
said_once section (Isolation l0) (RowOf n1 t1 ls1) p q e = absurd cc
said_once section (Isolation l0) (SessionOf s1) p q e = absurd cc
said_once section (Isolation l0) (LocalOf r1 s1) p q e = absurd cc
said_once section (Isolation l0) (StepOf st1) p q e = absurd cc
said_once section (Isolation l0) (Schedule ws1) p q e = absurd cc
said_once section (Isolation l0) End p q e = absurd cc
said_once section (Replicas c0) Skipped p q e = absurd cc
said_once section (Replicas c0) (Header v1) p q e = absurd cc
said_once section (Replicas c0) (Isolation l1) p q e = absurd cc
said_once section (Replicas c0) (Replicas c1) p q e = cc
said_once section (Replicas c0) (TableOf n1 cs1) p q e = absurd cc
said_once section (Replicas c0) (RowOf n1 t1 ls1) p q e = absurd cc
said_once section (Replicas c0) (SessionOf s1) p q e = absurd cc
said_once section (Replicas c0) (LocalOf r1 s1) p q e = absurd cc
said_once section (Replicas c0) (StepOf st1) p q e = absurd cc
said_once section (Replicas c0) (Schedule ws1) p q e = absurd cc
said_once section (Replicas c0) End p q e = absurd cc
said_once section (TableOf n0 cs0) Skipped p q e = absurd cc
said_once section (TableOf n0 cs0) (Header v1) p q e = absurd cc
said_once section (TableOf n0 cs0) (Isolation l1) p q e = absurd cc
said_once section (TableOf n0 cs0) (Replicas c1) p q e = absurd cc
said_once section (TableOf n0 cs0) (TableOf n1 cs1) p q e = let f = columns_once cs0 cs1 (tail_of _ _ _ _ (tail_of _ _ _ _ e)) in let g : Name n0 ≡ Name n1 = head_of _ _ _ _ e in cc
said_once section (TableOf n0 cs0) (RowOf n1 t1 ls1) p q e = absurd cc
said_once section (TableOf n0 cs0) (SessionOf s1) p q e = absurd cc
said_once section (TableOf n0 cs0) (LocalOf r1 s1) p q e = absurd cc
said_once section (TableOf n0 cs0) (StepOf st1) p q e = absurd cc
said_once section (TableOf n0 cs0) (Schedule ws1) p q e = absurd cc
said_once section (TableOf n0 cs0) End p q e = absurd cc
said_once section (RowOf n0 t0 ls0) Skipped p q e = absurd cc
said_once section (RowOf n0 t0 ls0) (Header v1) p q e = absurd cc
said_once section (RowOf n0 t0 ls0) (Isolation l1) p q e = absurd cc
said_once section (RowOf n0 t0 ls0) (Replicas c1) p q e = absurd cc
said_once section (RowOf n0 t0 ls0) (TableOf n1 cs1) p q e = absurd cc
said_once section (RowOf n0 t0 ls0) (RowOf n1 t1 ls1) p q e = let f = literals_once ls0 ls1 (tail_of _ _ _ _ (tail_of _ _ _ _ (tail_of _ _ _ _ e))) in let g = head_of _ _ _ _ e in let h = head_of _ _ _ _ (tail_of _ _ _ _ e) in cc
said_once section (RowOf n0 t0 ls0) (SessionOf s1) p q e = absurd cc
said_once section (RowOf n0 t0 ls0) (LocalOf r1 s1) p q e = absurd cc
said_once section (RowOf n0 t0 ls0) (StepOf st1) p q e = absurd cc
said_once section (RowOf n0 t0 ls0) (Schedule ws1) p q e = absurd cc
said_once section (RowOf n0 t0 ls0) End p q e = absurd cc
said_once section (SessionOf s0) Skipped p q e = absurd cc
said_once section (SessionOf s0) (Header v1) p q e = absurd cc
said_once section (SessionOf s0) (Isolation l1) p q e = absurd cc
said_once section (SessionOf s0) (Replicas c1) p q e = absurd cc
said_once section (SessionOf s0) (TableOf n1 cs1) p q e = absurd cc
said_once section (SessionOf s0) (RowOf n1 t1 ls1) p q e = absurd cc
said_once section (SessionOf s0) (SessionOf s1) p q e = cc
said_once section (SessionOf s0) (LocalOf r1 s1) p q e = absurd cc
said_once section (SessionOf s0) (StepOf st1) p q e = absurd cc
said_once section (SessionOf s0) (Schedule ws1) p q e = absurd cc
said_once section (SessionOf s0) End p q e = absurd cc
said_once section (LocalOf r0 s0) Skipped p q e = absurd cc
said_once section (LocalOf r0 s0) (Header v1) p q e = absurd cc
said_once section (LocalOf r0 s0) (Isolation l1) p q e = absurd cc
said_once section (LocalOf r0 s0) (Replicas c1) p q e = absurd cc
said_once section (LocalOf r0 s0) (TableOf n1 cs1) p q e = absurd cc
said_once section (LocalOf r0 s0) (RowOf n1 t1 ls1) p q e = absurd cc
said_once section (LocalOf r0 s0) (SessionOf s1) p q e = absurd cc
said_once section (LocalOf r0 s0) (LocalOf r1 s1) p q e = cc
said_once section (LocalOf r0 s0) (StepOf st1) p q e = absurd cc
said_once section (LocalOf r0 s0) (Schedule ws1) p q e = absurd cc
said_once section (LocalOf r0 s0) End p q e = absurd cc
said_once section (StepOf st0) Skipped p q e = absurd cc
said_once section (StepOf st0) (Header v1) p q e = absurd cc
said_once section (StepOf st0) (Isolation l1) p q e = absurd cc
said_once section (StepOf st0) (Replicas c1) p q e = absurd cc
said_once section (StepOf st0) (TableOf n1 cs1) p q e = absurd cc
said_once section (StepOf st0) (RowOf n1 t1 ls1) p q e = absurd cc
said_once section (StepOf st0) (SessionOf s1) p q e = absurd cc
said_once section (StepOf st0) (LocalOf r1 s1) p q e = absurd cc
said_once section (StepOf st0) (StepOf st1) p q e = absurd cc
said_once section (StepOf st0) (Schedule ws1) p q e = absurd cc
said_once section (StepOf st0) End p q e = absurd cc
said_once section (Schedule ws0) Skipped p q e = absurd cc
said_once section (Schedule ws0) (Header v1) p q e = absurd cc
said_once section (Schedule ws0) (Isolation l1) p q e = absurd cc
said_once section (Schedule ws0) (Replicas c1) p q e = absurd cc
said_once section (Schedule ws0) (TableOf n1 cs1) p q e = absurd cc
said_once section (Schedule ws0) (RowOf n1 t1 ls1) p q e = absurd cc
said_once section (Schedule ws0) (SessionOf s1) p q e = absurd cc
said_once section (Schedule ws0) (LocalOf r1 s1) p q e = absurd cc
said_once section (Schedule ws0) (StepOf st1) p q e = absurd cc
said_once section (Schedule ws0) (Schedule ws1) p q e = ap Schedule (turns_once ws0 ws1 e)
said_once section (Schedule ws0) End p q e = absurd cc
said_once section End Skipped p q e = absurd cc
said_once section End (Header v1) p q e = absurd cc
said_once section End (Isolation l1) p q e = absurd cc
said_once section End (Replicas c1) p q e = absurd cc
said_once section End (TableOf n1 cs1) p q e = absurd cc
said_once section End (RowOf n1 t1 ls1) p q e = absurd cc
said_once section End (SessionOf s1) p q e = absurd cc
said_once section End (LocalOf r1 s1) p q e = absurd cc
said_once section End (StepOf st1) p q e = absurd cc
said_once section End (Schedule ws1) p q e = absurd cc
said_once section End End p q e = refl

-- ---- the line tells it too

pub one_section : (s t : Section) (line : List ℕ) → Opens s line → Opens t line → s ≡ t
one_section s t line h k = some_is s t (sym h.first ∙ k.first)

line_of : (section : Section) (before : List Said) (line : List ℕ) (said : Said) → IsWritten section before line said → IsLineOf section (Word (First section) ∷ behind_first said)
line_of section before line said w = record { said = said; of = w.of; form = w.form; written = refl }

written_once : (section : Section) (before : List Said) (line : List ℕ) (a b : Said) → IsWritten section before line a → IsWritten section before line b → a ≡ b
written_once section before line a b v w =
    let m : MayBegin section (Word (First section) ∷ behind_first a) = record { back = []; line = subst (IsLineOf section) (sym (append-nil (Word (First section) ∷ behind_first a))) (line_of section before line a v) } in
    let n : MayBegin section (Word (First section) ∷ behind_first b) = record { back = []; line = subst (IsLineOf section) (sym (append-nil (Word (First section) ∷ behind_first b))) (line_of section before line b w) } in
    let e = one_front section _ _ (parts_in section line) m n v.spelled w.spelled in
    said_once section a b v.of w.of (tail_of _ _ _ _ e)

abbrev Written : List Said → List ℕ → Said → Type 0
Written before line said = (section : Section) × IsWritten section before line said

abbrev Steps : List Said → List ℕ → ScriptStep → Type 0
Steps before line step = OpensNone line × (in_script before ≡ true) × IsStep before line step

pub data View (before : List Said) (line : List ℕ) (said : Said) : Type 0 where
  IsSkip : said ≡ Skipped → is_skipped line ≡ true → View before line said
  IsOfStep : (step : ScriptStep) → said ≡ StepOf step → Steps before line step → View before line said
  IsOfSection : Written before line said → View before line said

pub view : (before : List Said) (line : List ℕ) (said : Said) → Says before line said → View before line said
view before line Skipped h = IsSkip refl h
view before line (Header v) h = IsOfSection h
view before line (Isolation l) h = IsOfSection h
view before line (Replicas c) h = IsOfSection h
view before line (TableOf n cs) h = IsOfSection h
view before line (RowOf n t ls) h = IsOfSection h
view before line (SessionOf s) h = IsOfSection h
view before line (LocalOf r s) h = IsOfSection h
view before line (StepOf st) h = IsOfStep st refl h
view before line (Schedule ws) h = IsOfSection h
view before line End h = IsOfSection h

steps_once : (before : List Said) (line : List ℕ) (a b : ScriptStep) → IsStep before line a → IsStep before line b → a ≡ b
steps_once before line Begin Begin h k = some_is Begin Begin (sym h ∙ k)
steps_once before line Begin Commit h k = some_is Begin Commit (sym h ∙ k)
steps_once before line Begin Rollback h k = some_is Begin Rollback (sym h ∙ k)
steps_once before line Begin (Run y) h k = absurd (none_some (word_step (words_of line)) Begin k.0 h)
steps_once before line Commit Begin h k = some_is Commit Begin (sym h ∙ k)
steps_once before line Commit Commit h k = some_is Commit Commit (sym h ∙ k)
steps_once before line Commit Rollback h k = some_is Commit Rollback (sym h ∙ k)
steps_once before line Commit (Run y) h k = absurd (none_some (word_step (words_of line)) Commit k.0 h)
steps_once before line Rollback Begin h k = some_is Rollback Begin (sym h ∙ k)
steps_once before line Rollback Commit h k = some_is Rollback Commit (sym h ∙ k)
steps_once before line Rollback Rollback h k = some_is Rollback Rollback (sym h ∙ k)
steps_once before line Rollback (Run y) h k = absurd (none_some (word_step (words_of line)) Rollback k.0 h)
steps_once before line (Run x) Begin h k = absurd (none_some (word_step (words_of line)) Begin h.0 k)
steps_once before line (Run x) Commit h k = absurd (none_some (word_step (words_of line)) Commit h.0 k)
steps_once before line (Run x) Rollback h k = absurd (none_some (word_step (words_of line)) Rollback h.0 k)
steps_once before line (Run x) (Run y) h k = ap Run (one_statement_of_text (schemas_of before) (trimmed line) x y h.1 k.1)

pub one_said : (before : List Said) (line : List ℕ) (a b : Said) → Says before line a → Says before line b → a ≡ b
one_said before line a b h k = cases (view before line a h) (view before line b k)
  where
    cases : View before line a → View before line b → a ≡ b
    cases (IsSkip e h) (IsSkip f k) = e ∙ sym f
    cases (IsSkip e h) (IsOfStep t f k) = absurd (true_false (is_skipped line) h k.0.counts)
    cases (IsSkip e h) (IsOfSection k) = absurd (true_false (is_skipped line) h k.1.opens.counts)
    cases (IsOfStep s e h) (IsSkip f k) = absurd (true_false (is_skipped line) k h.0.counts)
    cases (IsOfStep s e h) (IsOfStep t f k) = e ∙ ap StepOf (steps_once before line s t h.2 k.2) ∙ sym f
    cases (IsOfStep s e h) (IsOfSection k) = absurd (none_some (named_first (words_of line)) k.0 h.0.none k.1.opens.first)
    cases (IsOfSection h) (IsSkip f k) = absurd (true_false (is_skipped line) k h.1.opens.counts)
    cases (IsOfSection h) (IsOfStep t f k) = absurd (none_some (named_first (words_of line)) h.0 k.0.none h.1.opens.first)
    cases (IsOfSection h) (IsOfSection k) =
        let e = one_section h.0 k.0 line h.1.opens k.1.opens in
        written_once k.0 before line a b (subst (λ (s : Section). IsWritten s before line a) e h.1) k.1
