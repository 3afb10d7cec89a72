-- What is walked to its end is a line, and what is walked can be led to an end.
use Rattle.std.proofs.Common.{◌≡◌, ℕ, Bool, true, false, cond, List, [], ◌∷◌, ◌++◌, map, Some, refl, sym, ap, subst, ◌∙◌, append_assoc}
use Rattle.std.specs.Prelude.{◌==◌}
use Rattle.std.specs.Bool.{⊤}
use Rattle.std.specs.List.{AllByRecursion}
use Rattle.std.proofs.lemmas.Bool.Decides.{nat_tests}
use Rattle.std.proofs.Common.{arith}
use Rattle.row_types.specs.declared.table_schema.ColumnKind.{ColumnKind}
use Rattle.row_types.specs.declared.table_schema.ColumnKind.TheVariants.{Int as IntColumn, BigInt, Text as TextColumn}
use Rattle.file_text.specs.declared.places.Section.{Section}
use Rattle.file_text.specs.declared.places.Section.TheVariants.{PtcLines, IsolationLines, ReplicaLines, TableLines, RowLines, SessionLines, LocalLines, ScheduleLines, EndLines}
use Rattle.file_text.specs.declared.places.Keyword.TheVariants.{First, WorkloadWord, RepeatableWord, ReadWord, CommittedWord, UncommittedWord, SerializableWord, IntWord, BigIntWord, VarcharWord, KeyWord, NotWord, NullKeyword}
use Rattle.file_text.specs.Said.{Said, Header, Isolation, Replicas, TableOf, RowOf, SessionOf, LocalOf, Schedule, End, Mark, Bare, Key, NotNull, ColumnText, Literal, Number, Quoted, NullWord, Level, RepeatableRead, ReadCommitted, ReadUncommitted, Serializable, section_of, ScheduleWord, Node, All, Item, Word, Sign, Name, Version, Count, Length, NodeWord, SessionWord, LocalWord, Turns, Digits, Quote, kind_items, mark_items, column_items, more_columns, columns_items, literal_items, more_literals, literals_items, level_items, behind_first, HasNoKey, KeysFirst, HasForm, IsLineOf, HasLiteral}
use Rattle.file_text.specs.declared.places.ColumnSpot.{ColumnSpot}
use Rattle.file_text.specs.declared.places.ColumnSpot.TheVariants.{FirstColumn, SecondColumn, FurtherColumn}
use Rattle.file_text.specs.declared.places.Spot.{Spot}
use Rattle.file_text.specs.declared.places.Spot.TheVariants.{SectionDue, WorkloadDue, VersionDue, LevelDue, ReadDue, CommittedDue, CountDue, TableDue, ColumnsDue, ColumnDue, KindDue, LengthOpens, LengthDue, LengthCloses, MarkDue, NullDue, CommaDue, NodeDue, RowTableDue, RowOpens, LiteralDue, DigitsDue, LiteralEnds, SessionDue, LocalDue, TurnsDue, NothingDue}
use Rattle.file_text.specs.Spots.{first_spot, next_column, when, ends_column, marked, moved, walked, may_end}
use Rattle.file_text.specs.Rules.{MayBegin}
use Rattle.file_laws.specs.Laws.{WalksThrough}
use Rattle.file_laws.proofs.WalkLemmas.{TakesMark}
use Rattle.file_laws.proofs.FitLemmas.{some_is, bound_some, walk_on}

-- columns from this one on, each with a mark that it may have
abbrev pub Marked : ColumnSpot → List ColumnText → Type 0
Marked column [] = ⊤
Marked column (c ∷ columns) = TakesMark column c.mark × Marked (next_column column) columns

record MoreColumns (column : ColumnSpot) (items : List Item) : Type 0 where
  columns : List ColumnText
  are : items ≡ more_columns columns
  marked : Marked (next_column column) columns

record FromMark (column : ColumnSpot) (items : List Item) : Type 0 where
  mark : Mark
  takes : TakesMark column mark
  columns : List ColumnText
  are : items ≡ mark_items mark ++ more_columns columns
  marked : Marked (next_column column) columns

record FromKind (column : ColumnSpot) (items : List Item) : Type 0 where
  kind : ColumnKind
  mark : Mark
  takes : TakesMark column mark
  columns : List ColumnText
  are : items ≡ kind_items kind ++ (mark_items mark ++ more_columns columns)
  marked : Marked (next_column column) columns

record FromName (column : ColumnSpot) (items : List Item) : Type 0 where
  first : ColumnText
  columns : List ColumnText
  are : items ≡ column_items first ++ more_columns columns
  marked : Marked column (first ∷ columns)

record FromLength (column : ColumnSpot) (items : List Item) (front : List Item → List Item) : Type 0 where
  mark : Mark
  takes : TakesMark column mark
  columns : List ColumnText
  are : items ≡ front (mark_items mark ++ more_columns columns)
  marked : Marked (next_column column) columns

-- what is still to come at a place
abbrev Rest : Spot → List Item → Type 0
Rest (SectionDue section) items = (more : List Item) × (items ≡ Word (First section) ∷ more) × WalksThrough (first_spot section) more
Rest WorkloadDue items = (n : ℕ) × (items ≡ Word WorkloadWord ∷ Version n ∷ [])
Rest VersionDue items = (n : ℕ) × (items ≡ Version n ∷ [])
Rest LevelDue items = (level : Level) × (items ≡ level_items level)
Rest ReadDue items = items ≡ Word ReadWord ∷ []
Rest CommittedDue items = (level : Level) × (Word ReadWord ∷ items ≡ level_items level)
Rest CountDue items = (n : ℕ) × (items ≡ Count n ∷ [])
Rest TableDue items = (name : List ℕ) × (columns : List ColumnText) × (items ≡ Name name ∷ Sign 40 ∷ columns_items columns) × KeysFirst columns
Rest ColumnsDue items = (columns : List ColumnText) × (items ≡ Sign 40 ∷ columns_items columns) × KeysFirst columns
Rest (ColumnDue column) items = FromName column items
Rest (KindDue column) items = FromKind column items
Rest (LengthOpens column) items = (n : ℕ) × FromLength column items (λ rest. Sign 40 ∷ Length n ∷ Sign 41 ∷ rest)
Rest (LengthDue column) items = (n : ℕ) × FromLength column items (λ rest. Length n ∷ Sign 41 ∷ rest)
Rest (LengthCloses column) items = FromLength column items (λ rest. Sign 41 ∷ rest)
Rest (MarkDue column) items = FromMark column items
Rest (NullDue column) items = (rest : List Item) × (items ≡ Word NullKeyword ∷ rest) × MoreColumns column rest
Rest (CommaDue column) items = MoreColumns column items
Rest NodeDue items = (node : Node) × (name : List ℕ) × (literals : List Literal) × (items ≡ NodeWord node ∷ Name name ∷ Sign 40 ∷ literals_items literals) × HasLiteral literals
Rest RowTableDue items = (name : List ℕ) × (literals : List Literal) × (items ≡ Name name ∷ Sign 40 ∷ literals_items literals) × HasLiteral literals
Rest RowOpens items = (literals : List Literal) × (items ≡ Sign 40 ∷ literals_items literals) × HasLiteral literals
Rest LiteralDue items = (literal : Literal) × (literals : List Literal) × (items ≡ literal_items literal ++ more_literals literals)
Rest DigitsDue items = (n : ℕ) × (literals : List Literal) × (items ≡ Digits n ∷ more_literals literals)
Rest LiteralEnds items = (literals : List Literal) × (items ≡ more_literals literals)
Rest SessionDue items = (n : ℕ) × (items ≡ SessionWord n ∷ [])
Rest LocalDue items = (r : ℕ) × (n : ℕ) × (items ≡ LocalWord r n ∷ [])
Rest TurnsDue items = (words : List ScheduleWord) × (items ≡ map Turns words)
Rest NothingDue items = items ≡ []

keys_first : (c : ColumnText) (cs : List ColumnText) → Marked FirstColumn (c ∷ cs) → KeysFirst (c ∷ cs)
keys_first c [] h = h.0
keys_first c (d ∷ cs) h = (h.0, no_keys cs h.1.1)
  where
    no_keys : (cs : List ColumnText) → Marked FurtherColumn cs → AllByRecursion HasNoKey cs
    no_keys [] h = tt
    no_keys (c ∷ cs) h = (h.0, no_keys cs h.1)

same_number : (m n : ℕ) → (m == n) ≡ true → m ≡ n
same_number m n e = grind (arith, nat_tests)

on : (i : Item) (xs ys : List Item) → xs ≡ ys → i ∷ xs ≡ i ∷ ys
on i xs ys e = ap (λ (l : List Item). i ∷ l) e

when_some : {A : Type 0} (b : Bool) (a y : A) → when b a ≡ Some y → (b ≡ true) × (a ≡ y)
when_some true a y e = (refl, cc)
when_some false a y e = cc

-- behind a column comes a comma and a column, or the bracket and nothing
data Ends (column : ColumnSpot) (item : Item) (spot : Spot) : Type 0 where
  Comma : item ≡ Sign 44 → spot ≡ ColumnDue (next_column column) → Ends column item spot
  Close : item ≡ Sign 41 → spot ≡ NothingDue → Ends column item spot

ends_is : (column : ColumnSpot) (item : Item) (spot : Spot) → ends_column column item ≡ Some spot → Ends column item spot
ends_is column (Sign sign) spot e =
    elim (sign == 44) as (λ b. (sign == 44) ≡ b → cond b (Some (ColumnDue (next_column column))) (when (sign == 41) NothingDue) ≡ Some spot → Ends column (Sign sign) spot) [
      | true ↦ λ q e. Comma (ap Sign (same_number sign 44 q)) (sym (some_is _ _ e))
      | false ↦ λ q e. let w = when_some (sign == 41) NothingDue spot e in Close (ap Sign (same_number sign 41 w.0)) (sym w.1)
    ] refl e
ends_is column _ spot e = cc

onto : (i j : Item) (xs ys : List Item) → i ≡ j → xs ≡ ys → i ∷ xs ≡ j ∷ ys
onto i j xs ys e f = cc

more_from : (column : ColumnSpot) (item : Item) (items : List Item) (spot : Spot) → ends_column column item ≡ Some spot → (Rest spot items) → MoreColumns column (item ∷ items)
more_from column item items spot e r = cases (ends_is column item spot e)
  where
    cases : Ends column item spot → MoreColumns column (item ∷ items)
    cases (Comma i s) = let f : FromName (next_column column) items = subst (λ (x : Spot). Rest x items) s r in record { columns = f.first ∷ f.columns; are = onto item (Sign 44) items (column_items f.first ++ more_columns f.columns) i f.are; marked = f.marked }
    cases (Close i s) = let f : items ≡ [] = subst (λ (x : Spot). Rest x items) s r in record { columns = []; are = onto item (Sign 41) items [] i f; marked = tt }

bare : (column : ColumnSpot) (items : List Item) → TakesMark column Bare → MoreColumns column items → FromMark column items
bare column items t m = record { mark = Bare; takes = t; columns = m.columns; are = m.are; marked = m.marked }

mark_from : (column : ColumnSpot) (item : Item) (items : List Item) (spot : Spot) → marked column item ≡ Some spot → Rest spot items → FromMark column (item ∷ items)
mark_from FirstColumn (Word KeyWord) items spot e r = let s : CommaDue FirstColumn ≡ spot = some_is _ _ e in let m : MoreColumns FirstColumn items = subst (λ (x : Spot). Rest x items) (sym s) r in record { mark = Key; takes = refl; columns = m.columns; are = on (Word KeyWord) items (more_columns m.columns) m.are; marked = m.marked }
mark_from FirstColumn _ items spot e r = cc
mark_from SecondColumn (Word KeyWord) items spot e r = let s : CommaDue SecondColumn ≡ spot = some_is _ _ e in let m : MoreColumns SecondColumn items = subst (λ (x : Spot). Rest x items) (sym s) r in record { mark = Key; takes = tt; columns = m.columns; are = on (Word KeyWord) items (more_columns m.columns) m.are; marked = m.marked }
mark_from SecondColumn (Word NotWord) items spot e r = let s : NullDue SecondColumn ≡ spot = some_is _ _ e in let n : Rest (NullDue SecondColumn) items = subst (λ (x : Spot). Rest x items) (sym s) r in record { mark = NotNull; takes = tt; columns = n.2.columns; are = on (Word NotWord) items (Word NullKeyword ∷ more_columns n.2.columns) (n.1 ∙ on (Word NullKeyword) n.0 (more_columns n.2.columns) n.2.are); marked = n.2.marked }
mark_from SecondColumn (Sign sign) items spot e r = bare SecondColumn (Sign sign ∷ items) tt (more_from SecondColumn (Sign sign) items spot e r)
mark_from SecondColumn _ items spot e r = cc
mark_from FurtherColumn (Word NotWord) items spot e r = let s : NullDue FurtherColumn ≡ spot = some_is _ _ e in let n : Rest (NullDue FurtherColumn) items = subst (λ (x : Spot). Rest x items) (sym s) r in record { mark = NotNull; takes = refl; columns = n.2.columns; are = on (Word NotWord) items (Word NullKeyword ∷ more_columns n.2.columns) (n.1 ∙ on (Word NullKeyword) n.0 (more_columns n.2.columns) n.2.are); marked = n.2.marked }
mark_from FurtherColumn (Sign sign) items spot e r = bare FurtherColumn (Sign sign ∷ items) refl (more_from FurtherColumn (Sign sign) items spot e r)
mark_from FurtherColumn _ items spot e r = cc

-- one step of the way back
back : (spot next : Spot) (item : Item) (items : List Item) → moved spot item ≡ Some next → Rest next items → WalksThrough next items → Rest spot (item ∷ items)
back (SectionDue PtcLines) next (Word (First PtcLines)) items e r w = (items, refl, subst (λ (x : Spot). WalksThrough x items) (sym (some_is _ _ e)) w)
back (SectionDue PtcLines) next _ items e r w = cc
back (SectionDue IsolationLines) next (Word (First IsolationLines)) items e r w = (items, refl, subst (λ (x : Spot). WalksThrough x items) (sym (some_is _ _ e)) w)
back (SectionDue IsolationLines) next _ items e r w = cc
back (SectionDue ReplicaLines) next (Word (First ReplicaLines)) items e r w = (items, refl, subst (λ (x : Spot). WalksThrough x items) (sym (some_is _ _ e)) w)
back (SectionDue ReplicaLines) next _ items e r w = cc
back (SectionDue TableLines) next (Word (First TableLines)) items e r w = (items, refl, subst (λ (x : Spot). WalksThrough x items) (sym (some_is _ _ e)) w)
back (SectionDue TableLines) next _ items e r w = cc
back (SectionDue RowLines) next (Word (First RowLines)) items e r w = (items, refl, subst (λ (x : Spot). WalksThrough x items) (sym (some_is _ _ e)) w)
back (SectionDue RowLines) next _ items e r w = cc
back (SectionDue SessionLines) next (Word (First SessionLines)) items e r w = (items, refl, subst (λ (x : Spot). WalksThrough x items) (sym (some_is _ _ e)) w)
back (SectionDue SessionLines) next _ items e r w = cc
back (SectionDue LocalLines) next (Word (First LocalLines)) items e r w = (items, refl, subst (λ (x : Spot). WalksThrough x items) (sym (some_is _ _ e)) w)
back (SectionDue LocalLines) next _ items e r w = cc
back (SectionDue ScheduleLines) next (Word (First ScheduleLines)) items e r w = (items, refl, subst (λ (x : Spot). WalksThrough x items) (sym (some_is _ _ e)) w)
back (SectionDue ScheduleLines) next _ items e r w = cc
back (SectionDue EndLines) next (Word (First EndLines)) items e r w = (items, refl, subst (λ (x : Spot). WalksThrough x items) (sym (some_is _ _ e)) w)
back (SectionDue EndLines) next _ items e r w = cc
back WorkloadDue next (Word WorkloadWord) items e r w = let n : Rest VersionDue items = subst (λ (x : Spot). Rest x items) (sym (some_is _ _ e)) r in (n.0, on (Word WorkloadWord) items (Version n.0 ∷ []) n.1)
back WorkloadDue next _ items e r w = cc
back VersionDue next (Version v) items e r w = let n : Rest NothingDue items = subst (λ (x : Spot). Rest x items) (sym (some_is _ _ e)) r in (v, on (Version v) items [] n)
back VersionDue next _ items e r w = cc
back LevelDue next (Word RepeatableWord) items e r w = let n : Rest ReadDue items = subst (λ (x : Spot). Rest x items) (sym (some_is _ _ e)) r in (RepeatableRead, on (Word RepeatableWord) items (Word ReadWord ∷ []) n)
back LevelDue next (Word ReadWord) items e r w = let n : Rest CommittedDue items = subst (λ (x : Spot). Rest x items) (sym (some_is _ _ e)) r in n
back LevelDue next (Word SerializableWord) items e r w = let n : Rest NothingDue items = subst (λ (x : Spot). Rest x items) (sym (some_is _ _ e)) r in (Serializable, on (Word SerializableWord) items [] n)
back LevelDue next _ items e r w = cc
back ReadDue next (Word ReadWord) items e r w = let n : Rest NothingDue items = subst (λ (x : Spot). Rest x items) (sym (some_is _ _ e)) r in on (Word ReadWord) items [] n
back ReadDue next _ items e r w = cc
back CommittedDue next (Word CommittedWord) items e r w = let n : Rest NothingDue items = subst (λ (x : Spot). Rest x items) (sym (some_is _ _ e)) r in (ReadCommitted, on (Word ReadWord) (Word CommittedWord ∷ items) (Word CommittedWord ∷ []) (on (Word CommittedWord) items [] n))
back CommittedDue next (Word UncommittedWord) items e r w = let n : Rest NothingDue items = subst (λ (x : Spot). Rest x items) (sym (some_is _ _ e)) r in (ReadUncommitted, on (Word ReadWord) (Word UncommittedWord ∷ items) (Word UncommittedWord ∷ []) (on (Word UncommittedWord) items [] n))
back CommittedDue next _ items e r w = cc
back CountDue next (Count v) items e r w = let n : Rest NothingDue items = subst (λ (x : Spot). Rest x items) (sym (some_is _ _ e)) r in (v, on (Count v) items [] n)
back CountDue next _ items e r w = cc
back TableDue next (Name v) items e r w = let n : Rest ColumnsDue items = subst (λ (x : Spot). Rest x items) (sym (some_is _ _ e)) r in (v, n.0, on (Name v) items (Sign 40 ∷ columns_items n.0) n.1, n.2)
back TableDue next _ items e r w = cc
back ColumnsDue next (Sign s) items e r w = let v = when_some (s == 40) (ColumnDue FirstColumn) next e in let n : Rest (ColumnDue FirstColumn) items = subst (λ (x : Spot). Rest x items) (sym v.1) r in (n.first ∷ n.columns, onto (Sign s) (Sign 40) items (column_items n.first ++ more_columns n.columns) (ap Sign (same_number s 40 v.0)) n.are, keys_first n.first n.columns n.marked)
back ColumnsDue next _ items e r w = cc
back (ColumnDue c) next (Name v) items e r w = let n : Rest (KindDue c) items = subst (λ (x : Spot). Rest x items) (sym (some_is _ _ e)) r in record { first = record { name = v; kind = n.kind; mark = n.mark }; columns = n.columns; are = on (Name v) items ((kind_items n.kind ++ mark_items n.mark) ++ more_columns n.columns) (n.are ∙ sym (append_assoc (kind_items n.kind) (mark_items n.mark) (more_columns n.columns))); marked = (n.takes, n.marked) }
back (ColumnDue c) next _ items e r w = cc
back (KindDue c) next (Word IntWord) items e r w = let n : Rest (MarkDue c) items = subst (λ (x : Spot). Rest x items) (sym (some_is _ _ e)) r in record { kind = IntColumn; mark = n.mark; takes = n.takes; columns = n.columns; are = on (Word IntWord) items _ n.are; marked = n.marked }
back (KindDue c) next (Word BigIntWord) items e r w = let n : Rest (MarkDue c) items = subst (λ (x : Spot). Rest x items) (sym (some_is _ _ e)) r in record { kind = BigInt; mark = n.mark; takes = n.takes; columns = n.columns; are = on (Word BigIntWord) items _ n.are; marked = n.marked }
back (KindDue c) next (Word VarcharWord) items e r w = let n : Rest (LengthOpens c) items = subst (λ (x : Spot). Rest x items) (sym (some_is _ _ e)) r in record { kind = TextColumn n.0; mark = n.1.mark; takes = n.1.takes; columns = n.1.columns; are = on (Word VarcharWord) items _ n.1.are; marked = n.1.marked }
back (KindDue c) next _ items e r w = cc
back (LengthOpens c) next (Sign s) items e r w = let v = when_some (s == 40) (LengthDue c) next e in let n : Rest (LengthDue c) items = subst (λ (x : Spot). Rest x items) (sym v.1) r in (n.0, record { mark = n.1.mark; takes = n.1.takes; columns = n.1.columns; are = onto (Sign s) (Sign 40) items _ (ap Sign (same_number s 40 v.0)) n.1.are; marked = n.1.marked })
back (LengthOpens c) next _ items e r w = cc
back (LengthDue c) next (Length v) items e r w = let n : Rest (LengthCloses c) items = subst (λ (x : Spot). Rest x items) (sym (some_is _ _ e)) r in (v, record { mark = n.mark; takes = n.takes; columns = n.columns; are = on (Length v) items _ n.are; marked = n.marked })
back (LengthDue c) next _ items e r w = cc
back (LengthCloses c) next (Sign s) items e r w = let v = when_some (s == 41) (MarkDue c) next e in let n : Rest (MarkDue c) items = subst (λ (x : Spot). Rest x items) (sym v.1) r in record { mark = n.mark; takes = n.takes; columns = n.columns; are = onto (Sign s) (Sign 41) items _ (ap Sign (same_number s 41 v.0)) n.are; marked = n.marked }
back (LengthCloses c) next _ items e r w = cc
back (NullDue c) next (Word NullKeyword) items e r w = let n : Rest (CommaDue c) items = subst (λ (x : Spot). Rest x items) (sym (some_is _ _ e)) r in (items, refl, n)
back (NullDue c) next _ items e r w = cc
back NodeDue next (NodeWord v) items e r w = let n : Rest RowTableDue items = subst (λ (x : Spot). Rest x items) (sym (some_is _ _ e)) r in (v, n.0, n.1, on (NodeWord v) items _ n.2, n.3)
back NodeDue next _ items e r w = cc
back RowTableDue next (Name v) items e r w = let n : Rest RowOpens items = subst (λ (x : Spot). Rest x items) (sym (some_is _ _ e)) r in (v, n.0, on (Name v) items _ n.1, n.2)
back RowTableDue next _ items e r w = cc
back RowOpens next (Sign s) items e r w = let v = when_some (s == 40) LiteralDue next e in let n : Rest LiteralDue items = subst (λ (x : Spot). Rest x items) (sym v.1) r in (n.0 ∷ n.1, onto (Sign s) (Sign 40) items _ (ap Sign (same_number s 40 v.0)) n.2, tt)
back RowOpens next _ items e r w = cc
back LiteralDue next (Digits v) items e r w = let n : Rest LiteralEnds items = subst (λ (x : Spot). Rest x items) (sym (some_is _ _ e)) r in (Number false v, n.0, on (Digits v) items _ n.1)
back LiteralDue next (Quote v) items e r w = let n : Rest LiteralEnds items = subst (λ (x : Spot). Rest x items) (sym (some_is _ _ e)) r in (Quoted v, n.0, on (Quote v) items _ n.1)
back LiteralDue next (Word NullKeyword) items e r w = let n : Rest LiteralEnds items = subst (λ (x : Spot). Rest x items) (sym (some_is _ _ e)) r in (NullWord, n.0, on (Word NullKeyword) items _ n.1)
back LiteralDue next (Sign s) items e r w = let v = when_some (s == 45) DigitsDue next e in let n : Rest DigitsDue items = subst (λ (x : Spot). Rest x items) (sym v.1) r in (Number true n.0, n.1, onto (Sign s) (Sign 45) items _ (ap Sign (same_number s 45 v.0)) n.2)
back LiteralDue next _ items e r w = cc
back DigitsDue next (Digits v) items e r w = let n : Rest LiteralEnds items = subst (λ (x : Spot). Rest x items) (sym (some_is _ _ e)) r in (v, n.0, on (Digits v) items _ n.1)
back DigitsDue next _ items e r w = cc
back SessionDue next (SessionWord v) items e r w = let n : Rest NothingDue items = subst (λ (x : Spot). Rest x items) (sym (some_is _ _ e)) r in (v, on (SessionWord v) items [] n)
back SessionDue next _ items e r w = cc
back LocalDue next (LocalWord u v) items e r w = let n : Rest NothingDue items = subst (λ (x : Spot). Rest x items) (sym (some_is _ _ e)) r in (u, v, on (LocalWord u v) items [] n)
back LocalDue next _ items e r w = cc
back TurnsDue next (Turns v) items e r w = let n : Rest TurnsDue items = subst (λ (x : Spot). Rest x items) (sym (some_is _ _ e)) r in (v ∷ n.0, on (Turns v) items _ n.1)
back TurnsDue next _ items e r w = cc
back (MarkDue c) next item items e r w = mark_from c item items next e r
back (CommaDue c) next item items e r w = more_from c item items next e r
back LiteralEnds next (Sign s) items e r w =
    elim (s == 44) as (λ b. (s == 44) ≡ b → cond b (Some LiteralDue) (when (s == 41) NothingDue) ≡ Some next → Rest LiteralEnds (Sign s ∷ items)) [
      | true ↦ λ q e. let n : Rest LiteralDue items = subst (λ (x : Spot). Rest x items) (sym (some_is _ _ e)) r in (n.0 ∷ n.1, onto (Sign s) (Sign 44) items _ (ap Sign (same_number s 44 q)) n.2)
      | false ↦ λ q e. let v = when_some (s == 41) NothingDue next e in let n : Rest NothingDue items = subst (λ (x : Spot). Rest x items) (sym v.1) r in ([], onto (Sign s) (Sign 41) items [] (ap Sign (same_number s 41 v.0)) n)
    ] refl e
back LiteralEnds next _ items e r w = cc
back NothingDue next item items e r w = cc

at_end : (spot : Spot) → may_end spot ≡ true → Rest spot []
at_end TurnsDue e = ([], refl)
at_end NothingDue e = refl
at_end _ e = cc

rest : (spot : Spot) (items : List Item) → WalksThrough spot items → Rest spot items
rest spot [] w = let e : w.end ≡ spot = sym (some_is spot w.end w.walks) in at_end spot (ap may_end (sym e) ∙ w.ends)
rest spot (item ∷ items) w =
    let b = bound_some (moved spot item) (λ next. walked next items) w.end w.walks in
    let v : WalksThrough b.0 items = record { end = w.end; walks = b.2; ends = w.ends } in
    back spot b.0 item items b.1 (rest b.0 items v) v

line : (section : Section) (said : Said) (items more : List Item) → section_of said ≡ Some section → HasForm said → items ≡ Word (First section) ∷ more → more ≡ behind_first said → IsLineOf section items
line section said items more o f e g = record { said = said; of = o; form = f; written = e ∙ on (Word (First section)) more (behind_first said) g }

by_section : (section : Section) (items more : List Item) → items ≡ Word (First section) ∷ more → Rest (first_spot section) more → IsLineOf section items
by_section PtcLines items more e r = line PtcLines (Header r.0) items more refl tt e r.1
by_section IsolationLines items more e r = line IsolationLines (Isolation r.0) items more refl tt e r.1
by_section ReplicaLines items more e r = line ReplicaLines (Replicas r.0) items more refl tt e r.1
by_section TableLines items more e r = line TableLines (TableOf r.0 r.1) items more refl r.3 e r.2
by_section RowLines items more e r = line RowLines (RowOf r.0 r.1 r.2) items more refl r.4 e r.3
by_section SessionLines items more e r = line SessionLines (SessionOf r.0) items more refl tt e r.1
by_section LocalLines items more e r = line LocalLines (LocalOf r.0 r.1) items more refl tt e r.2
by_section ScheduleLines items more e r = line ScheduleLines (Schedule r.0) items more refl tt e r.1
by_section EndLines items more e r = line EndLines End items more refl tt e r

pub sound : (section : Section) (items : List Item) → WalksThrough (SectionDue section) items → IsLineOf section items
sound section items w = let r : Rest (SectionDue section) items = rest (SectionDue section) items w in by_section section items r.0 r.1 (rest (first_spot section) r.0 r.2)

-- ---- each place can be led to an end

way : (spot : Spot) (items : List Item) → walked spot items ≡ Some NothingDue → WalksThrough spot items
way spot items e = record { end = NothingDue; walks = e; ends = refl }

ends : (spot : Spot) → (items : List Item) × WalksThrough spot items
ends (SectionDue PtcLines) = (Word (First PtcLines) ∷ Word WorkloadWord ∷ Version 0 ∷ [], way _ _ refl)
ends (SectionDue IsolationLines) = (Word (First IsolationLines) ∷ Word SerializableWord ∷ [], way _ _ refl)
ends (SectionDue ReplicaLines) = (Word (First ReplicaLines) ∷ Count 0 ∷ [], way _ _ refl)
ends (SectionDue TableLines) = (Word (First TableLines) ∷ Name [] ∷ Sign 40 ∷ Name [] ∷ Word IntWord ∷ Word KeyWord ∷ Sign 41 ∷ [], way _ _ refl)
ends (SectionDue RowLines) = (Word (First RowLines) ∷ NodeWord All ∷ Name [] ∷ Sign 40 ∷ Digits 0 ∷ Sign 41 ∷ [], way _ _ refl)
ends (SectionDue SessionLines) = (Word (First SessionLines) ∷ SessionWord 0 ∷ [], way _ _ refl)
ends (SectionDue LocalLines) = (Word (First LocalLines) ∷ LocalWord 0 0 ∷ [], way _ _ refl)
ends (SectionDue ScheduleLines) = (Word (First ScheduleLines) ∷ [], record { end = TurnsDue; walks = refl; ends = refl })
ends (SectionDue EndLines) = (Word (First EndLines) ∷ [], way _ _ refl)
ends WorkloadDue = (Word WorkloadWord ∷ Version 0 ∷ [], way _ _ refl)
ends VersionDue = (Version 0 ∷ [], way _ _ refl)
ends LevelDue = (Word SerializableWord ∷ [], way _ _ refl)
ends ReadDue = (Word ReadWord ∷ [], way _ _ refl)
ends CommittedDue = (Word CommittedWord ∷ [], way _ _ refl)
ends CountDue = (Count 0 ∷ [], way _ _ refl)
ends TableDue = (Name [] ∷ Sign 40 ∷ Name [] ∷ Word IntWord ∷ Word KeyWord ∷ Sign 41 ∷ [], way _ _ refl)
ends ColumnsDue = (Sign 40 ∷ Name [] ∷ Word IntWord ∷ Word KeyWord ∷ Sign 41 ∷ [], way _ _ refl)
ends NodeDue = (NodeWord All ∷ Name [] ∷ Sign 40 ∷ Digits 0 ∷ Sign 41 ∷ [], way _ _ refl)
ends RowTableDue = (Name [] ∷ Sign 40 ∷ Digits 0 ∷ Sign 41 ∷ [], way _ _ refl)
ends RowOpens = (Sign 40 ∷ Digits 0 ∷ Sign 41 ∷ [], way _ _ refl)
ends LiteralDue = (Digits 0 ∷ Sign 41 ∷ [], way _ _ refl)
ends DigitsDue = (Digits 0 ∷ Sign 41 ∷ [], way _ _ refl)
ends LiteralEnds = (Sign 41 ∷ [], way _ _ refl)
ends SessionDue = (SessionWord 0 ∷ [], way _ _ refl)
ends LocalDue = (LocalWord 0 0 ∷ [], way _ _ refl)
ends NothingDue = ([], way _ _ refl)
ends TurnsDue = ([], record { end = TurnsDue; walks = refl; ends = refl })
ends (ColumnDue FirstColumn) = (Name [] ∷ Word IntWord ∷ Word KeyWord ∷ Sign 41 ∷ [], way _ _ refl)
ends (KindDue FirstColumn) = (Word IntWord ∷ Word KeyWord ∷ Sign 41 ∷ [], way _ _ refl)
ends (LengthOpens FirstColumn) = (Sign 40 ∷ Length 0 ∷ Sign 41 ∷ Word KeyWord ∷ Sign 41 ∷ [], way _ _ refl)
ends (LengthDue FirstColumn) = (Length 0 ∷ Sign 41 ∷ Word KeyWord ∷ Sign 41 ∷ [], way _ _ refl)
ends (LengthCloses FirstColumn) = (Sign 41 ∷ Word KeyWord ∷ Sign 41 ∷ [], way _ _ refl)
ends (MarkDue FirstColumn) = (Word KeyWord ∷ Sign 41 ∷ [], way _ _ refl)
ends (NullDue FirstColumn) = (Word NullKeyword ∷ Sign 41 ∷ [], way _ _ refl)
ends (CommaDue FirstColumn) = (Sign 41 ∷ [], way _ _ refl)
ends (ColumnDue SecondColumn) = (Name [] ∷ Word IntWord ∷ Sign 41 ∷ [], way _ _ refl)
ends (KindDue SecondColumn) = (Word IntWord ∷ Sign 41 ∷ [], way _ _ refl)
ends (LengthOpens SecondColumn) = (Sign 40 ∷ Length 0 ∷ Sign 41 ∷ Sign 41 ∷ [], way _ _ refl)
ends (LengthDue SecondColumn) = (Length 0 ∷ Sign 41 ∷ Sign 41 ∷ [], way _ _ refl)
ends (LengthCloses SecondColumn) = (Sign 41 ∷ Sign 41 ∷ [], way _ _ refl)
ends (MarkDue SecondColumn) = (Sign 41 ∷ [], way _ _ refl)
ends (NullDue SecondColumn) = (Word NullKeyword ∷ Sign 41 ∷ [], way _ _ refl)
ends (CommaDue SecondColumn) = (Sign 41 ∷ [], way _ _ refl)
ends (ColumnDue FurtherColumn) = (Name [] ∷ Word IntWord ∷ Sign 41 ∷ [], way _ _ refl)
ends (KindDue FurtherColumn) = (Word IntWord ∷ Sign 41 ∷ [], way _ _ refl)
ends (LengthOpens FurtherColumn) = (Sign 40 ∷ Length 0 ∷ Sign 41 ∷ Sign 41 ∷ [], way _ _ refl)
ends (LengthDue FurtherColumn) = (Length 0 ∷ Sign 41 ∷ Sign 41 ∷ [], way _ _ refl)
ends (LengthCloses FurtherColumn) = (Sign 41 ∷ Sign 41 ∷ [], way _ _ refl)
ends (MarkDue FurtherColumn) = (Sign 41 ∷ [], way _ _ refl)
ends (NullDue FurtherColumn) = (Word NullKeyword ∷ Sign 41 ∷ [], way _ _ refl)
ends (CommaDue FurtherColumn) = (Sign 41 ∷ [], way _ _ refl)

pub lives : (section : Section) (front : List Item) (spot : Spot) → walked (SectionDue section) front ≡ Some spot → MayBegin section front
lives section front spot e =
    let r = ends spot in
    record { back = r.0; line = sound section (front ++ r.0) (record { end = r.1.end; walks = walk_on (SectionDue section) spot r.1.end front r.0 e r.1.walks; ends = r.1.ends }) }
