-- The places lead through each line.
use Rattle.std.proofs.Common.{◌≡◌, ℕ, true, false, List, [], ◌∷◌, ◌++◌, Some, refl, ap, subst, ◌∙◌, map}
use Rattle.std.specs.Bool.{⊤}
use Rattle.std.specs.List.{AllByRecursion}
use Rattle.row_types.specs.declared.table_schema.ColumnKind.{ColumnKind}
use Rattle.row_types.specs.declared.table_schema.ColumnKind.TheVariants.{Int as IntColumn, BigInt, Text as TextColumn}
use Rattle.file_text.specs.declared.places.Section.{Section}
use Rattle.file_text.specs.declared.places.Section.TheVariants.{PtcLines, IsolationLines, ReplicaLines, TableLines, RowLines, SessionLines, LocalLines, ScheduleLines, EndLines}
use Rattle.file_text.specs.declared.places.Keyword.TheVariants.{First}
use Rattle.file_text.specs.Said.{Said, Skipped, Header, Isolation, Replicas, TableOf, RowOf, SessionOf, LocalOf, StepOf, Schedule, End, Mark, Bare, Key, NotNull, ColumnText, Literal, Number, Quoted, NullWord, Level, RepeatableRead, ReadCommitted, ReadUncommitted, Serializable, section_of, ScheduleWord, Item, Word, Sign, Name, Turns, kind_items, mark_items, column_items, more_columns, columns_items, literal_items, more_literals, literals_items, behind_first, is_key, HasNoKey, KeysFirst, HasForm, IsLineOf, HasLiteral}
use Rattle.file_text.specs.declared.places.ColumnSpot.{ColumnSpot}
use Rattle.file_text.specs.declared.places.ColumnSpot.TheVariants.{FirstColumn, SecondColumn, FurtherColumn}
use Rattle.file_text.specs.declared.places.Spot.{Spot}
use Rattle.file_text.specs.declared.places.Spot.TheVariants.{SectionDue, ColumnDue, MarkDue, CommaDue, NothingDue, TurnsDue, LiteralDue, LiteralEnds}
use Rattle.file_text.specs.Spots.{first_spot, next_column, walked, may_end}
use Rattle.file_laws.specs.Laws.{WalksThrough}

-- behind a column with this mark
abbrev pub behind_column : ColumnSpot → Mark → Spot
behind_column column Bare = MarkDue column
behind_column column Key = CommaDue column
behind_column column NotNull = CommaDue column

abbrev pub TakesMark : ColumnSpot → Mark → Type 0
TakesMark FirstColumn mark = is_key mark ≡ true
TakesMark SecondColumn mark = ⊤
TakesMark FurtherColumn mark = is_key mark ≡ false

column_walks : (column : ColumnSpot) (name : List ℕ) (kind : ColumnKind) (mark : Mark) (rest : List Item) → TakesMark column mark
    → walked (ColumnDue column) (Name name ∷ ((kind_items kind ++ mark_items mark) ++ rest)) ≡ walked (behind_column column mark) rest
column_walks FirstColumn name IntColumn Key rest h = refl
column_walks FirstColumn name BigInt Key rest h = refl
column_walks FirstColumn name (TextColumn max) Key rest h = refl
column_walks FirstColumn name kind Bare rest h = absurd cc
column_walks FirstColumn name kind NotNull rest h = absurd cc
column_walks SecondColumn name IntColumn Bare rest h = refl
column_walks SecondColumn name BigInt Bare rest h = refl
column_walks SecondColumn name (TextColumn max) Bare rest h = refl
column_walks SecondColumn name IntColumn Key rest h = refl
column_walks SecondColumn name BigInt Key rest h = refl
column_walks SecondColumn name (TextColumn max) Key rest h = refl
column_walks SecondColumn name IntColumn NotNull rest h = refl
column_walks SecondColumn name BigInt NotNull rest h = refl
column_walks SecondColumn name (TextColumn max) NotNull rest h = refl
column_walks FurtherColumn name IntColumn Bare rest h = refl
column_walks FurtherColumn name BigInt Bare rest h = refl
column_walks FurtherColumn name (TextColumn max) Bare rest h = refl
column_walks FurtherColumn name IntColumn NotNull rest h = refl
column_walks FurtherColumn name BigInt NotNull rest h = refl
column_walks FurtherColumn name (TextColumn max) NotNull rest h = refl
column_walks FurtherColumn name kind Key rest h = absurd cc

comma_walks : (column : ColumnSpot) (mark : Mark) (rest : List Item) → TakesMark column mark → walked (behind_column column mark) (Sign 44 ∷ rest) ≡ walked (ColumnDue (next_column column)) rest
comma_walks FirstColumn Key rest h = refl
comma_walks FirstColumn Bare rest h = absurd cc
comma_walks FirstColumn NotNull rest h = absurd cc
comma_walks SecondColumn Bare rest h = refl
comma_walks SecondColumn Key rest h = refl
comma_walks SecondColumn NotNull rest h = refl
comma_walks FurtherColumn Bare rest h = refl
comma_walks FurtherColumn NotNull rest h = refl
comma_walks FurtherColumn Key rest h = refl

close_walks : (column : ColumnSpot) (mark : Mark) → TakesMark column mark → walked (behind_column column mark) (Sign 41 ∷ []) ≡ Some NothingDue
close_walks FirstColumn Key h = refl
close_walks FirstColumn Bare h = absurd cc
close_walks FirstColumn NotNull h = absurd cc
close_walks SecondColumn Bare h = refl
close_walks SecondColumn Key h = refl
close_walks SecondColumn NotNull h = refl
close_walks FurtherColumn Bare h = refl
close_walks FurtherColumn NotNull h = refl
close_walks FurtherColumn Key h = refl

one_walks : (column : ColumnSpot) (c : ColumnText) (rest : List Item) → TakesMark column c.mark → walked (ColumnDue column) (column_items c ++ rest) ≡ walked (behind_column column c.mark) rest
one_walks column c rest h = column_walks column c.name c.kind c.mark rest h

further_walk : (column : ColumnSpot) (mark : Mark) (columns : List ColumnText) → TakesMark column mark → next_column column ≡ FurtherColumn → AllByRecursion HasNoKey columns → walked (behind_column column mark) (more_columns columns) ≡ Some NothingDue
further_walk column mark [] t n h = close_walks column mark t
further_walk column mark (c ∷ columns) t n h =
    comma_walks column mark (column_items c ++ more_columns columns) t
    ∙ ap (λ next. walked (ColumnDue next) (column_items c ++ more_columns columns)) n
    ∙ one_walks FurtherColumn c (more_columns columns) h.0
    ∙ further_walk FurtherColumn c.mark columns h.0 refl h.1

columns_walk : (columns : List ColumnText) → KeysFirst columns → walked (ColumnDue FirstColumn) (columns_items columns) ≡ Some NothingDue
columns_walk [] h = absurd h
columns_walk (first ∷ []) h = one_walks FirstColumn first (Sign 41 ∷ []) h ∙ close_walks FirstColumn first.mark h
columns_walk (first ∷ second ∷ columns) h =
    one_walks FirstColumn first (more_columns (second ∷ columns)) h.0
    ∙ comma_walks FirstColumn first.mark (column_items second ++ more_columns columns) h.0
    ∙ one_walks SecondColumn second (more_columns columns) tt
    ∙ further_walk SecondColumn second.mark columns tt refl h.1

literal_walks : (literal : Literal) (rest : List Item) → walked LiteralDue (literal_items literal ++ rest) ≡ walked LiteralEnds rest
literal_walks (Number true n) rest = refl
literal_walks (Number false n) rest = refl
literal_walks (Quoted text) rest = refl
literal_walks NullWord rest = refl

more_walk : (literals : List Literal) → walked LiteralEnds (more_literals literals) ≡ Some NothingDue
more_walk [] = refl
more_walk (literal ∷ literals) = literal_walks literal (more_literals literals) ∙ more_walk literals

literals_walk : (literals : List Literal) → HasLiteral literals → walked LiteralDue (literals_items literals) ≡ Some NothingDue
literals_walk [] h = absurd h
literals_walk (literal ∷ literals) h = literal_walks literal (more_literals literals) ∙ more_walk literals

turns_walk : (words : List ScheduleWord) → walked TurnsDue (map Turns words) ≡ Some TurnsDue
turns_walk [] = refl
turns_walk (word ∷ words) = turns_walk words

through : (spot end : Spot) (items : List Item) → walked spot items ≡ Some end → may_end end ≡ true → WalksThrough spot items
through spot end items w e = record { end = end; walks = w; ends = e }

opens_all : (section : Section) (items : List Item) → walked (SectionDue section) (Word (First section) ∷ items) ≡ walked (first_spot section) items
opens_all PtcLines items = refl
opens_all IsolationLines items = refl
opens_all ReplicaLines items = refl
opens_all TableLines items = refl
opens_all RowLines items = refl
opens_all SessionLines items = refl
opens_all LocalLines items = refl
opens_all ScheduleLines items = refl
opens_all EndLines items = refl

-- what stands behind the first word leads from there to the end
behind_walks : (section : Section) (said : Said) → section_of said ≡ Some section → HasForm said → WalksThrough (first_spot section) (behind_first said)
behind_walks section Skipped o h = absurd cc
behind_walks section (StepOf step) o h = absurd cc
behind_walks section (Header version) o h = subst (λ s. WalksThrough (first_spot s) (behind_first (Header version))) (let e : PtcLines ≡ section = cc in e) (through (first_spot PtcLines) NothingDue _ refl refl)
behind_walks section (Isolation level) o h = subst (λ s. WalksThrough (first_spot s) (behind_first (Isolation level))) (let e : IsolationLines ≡ section = cc in e) (through (first_spot IsolationLines) NothingDue _ (levels level) refl)
  where
    levels : (level : Level) → walked (first_spot IsolationLines) (behind_first (Isolation level)) ≡ Some NothingDue
    levels RepeatableRead = refl
    levels ReadCommitted = refl
    levels ReadUncommitted = refl
    levels Serializable = refl
behind_walks section (Replicas count) o h = subst (λ s. WalksThrough (first_spot s) (behind_first (Replicas count))) (let e : ReplicaLines ≡ section = cc in e) (through (first_spot ReplicaLines) NothingDue _ refl refl)
behind_walks section (TableOf name columns) o h = subst (λ s. WalksThrough (first_spot s) (behind_first (TableOf name columns))) (let e : TableLines ≡ section = cc in e) (through (first_spot TableLines) NothingDue _ (columns_walk columns h) refl)
behind_walks section (RowOf node table literals) o h = subst (λ s. WalksThrough (first_spot s) (behind_first (RowOf node table literals))) (let e : RowLines ≡ section = cc in e) (through (first_spot RowLines) NothingDue _ (literals_walk literals h) refl)
behind_walks section (SessionOf session) o h = subst (λ s. WalksThrough (first_spot s) (behind_first (SessionOf session))) (let e : SessionLines ≡ section = cc in e) (through (first_spot SessionLines) NothingDue _ refl refl)
behind_walks section (LocalOf replica session) o h = subst (λ s. WalksThrough (first_spot s) (behind_first (LocalOf replica session))) (let e : LocalLines ≡ section = cc in e) (through (first_spot LocalLines) NothingDue _ refl refl)
behind_walks section (Schedule words) o h = subst (λ s. WalksThrough (first_spot s) (behind_first (Schedule words))) (let e : ScheduleLines ≡ section = cc in e) (through (first_spot ScheduleLines) TurnsDue _ (turns_walk words) refl)
behind_walks section End o h = subst (λ s. WalksThrough (first_spot s) (behind_first End)) (let e : EndLines ≡ section = cc in e) (through (first_spot EndLines) NothingDue _ refl refl)

pub complete : (section : Section) (items : List Item) → IsLineOf section items → WalksThrough (SectionDue section) items
complete section items line =
    let b = behind_walks section line.said line.of line.form in
    through (SectionDue section) b.end items (ap (walked (SectionDue section)) line.written ∙ opens_all section (behind_first line.said) ∙ b.walks) b.ends
