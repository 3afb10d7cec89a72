-- Which items may follow one another in a line: the places of a line, and what is due there.
use Rattle.std.specs.Prelude.{Bool, true, false, List, [], ◌∷◌, Option, None, Some, if◌then◌else◌, ◌==◌}
use Rattle.file_text.specs.declared.places.Section.{Section}
use Rattle.file_text.specs.declared.places.Section.TheVariants.{PtcLines, IsolationLines, ReplicaLines, TableLines, RowLines, SessionLines, LocalLines, ScheduleLines, EndLines}
use Rattle.file_text.specs.declared.places.Keyword.TheVariants.{First, WorkloadWord, RepeatableWord, ReadWord, CommittedWord, UncommittedWord, SerializableWord, IntWord, BigIntWord, VarcharWord, KeyWord, NotWord, NullKeyword}
use Rattle.file_text.specs.Said.{Item, Word, Sign, Name, Version, Count, Length, NodeWord, SessionWord, LocalWord, Turns, Digits, Quote}
use Rattle.file_text.specs.declared.places.ColumnSpot.{ColumnSpot}
use Rattle.file_text.specs.declared.places.ColumnSpot.TheVariants.{FirstColumn, SecondColumn, FurtherColumn}
use Rattle.file_text.specs.declared.places.Spot.{Spot}
use Rattle.file_text.specs.declared.places.Spot.TheVariants.{SectionDue, WorkloadDue, VersionDue, LevelDue, ReadDue, CommittedDue, CountDue, TableDue, ColumnsDue, ColumnDue, KindDue, LengthOpens, LengthDue, LengthCloses, MarkDue, NullDue, CommaDue, NodeDue, RowTableDue, RowOpens, LiteralDue, DigitsDue, LiteralEnds, SessionDue, LocalDue, TurnsDue, NothingDue}

abbrev pub first_spot : Section → Spot
first_spot PtcLines = WorkloadDue
first_spot IsolationLines = LevelDue
first_spot ReplicaLines = CountDue
first_spot TableLines = TableDue
first_spot RowLines = NodeDue
first_spot SessionLines = SessionDue
first_spot LocalLines = LocalDue
first_spot ScheduleLines = TurnsDue
first_spot EndLines = NothingDue

abbrev pub next_column : ColumnSpot → ColumnSpot
next_column FirstColumn = SecondColumn
next_column SecondColumn = FurtherColumn
next_column FurtherColumn = FurtherColumn

abbrev pub when : {A : Type 0} → Bool → A → Option A
when true a = Some a
when false a = None

-- a comma or the closing parenthesis behind a column
abbrev pub ends_column : ColumnSpot → Item → Option Spot
ends_column column (Sign sign) = if sign == 44 then Some (ColumnDue (next_column column)) else when (sign == 41) NothingDue
ends_column column _ = None

abbrev pub opens_section : Section → Section → Option Spot
opens_section PtcLines PtcLines = Some WorkloadDue
opens_section IsolationLines IsolationLines = Some LevelDue
opens_section ReplicaLines ReplicaLines = Some CountDue
opens_section TableLines TableLines = Some TableDue
opens_section RowLines RowLines = Some NodeDue
opens_section SessionLines SessionLines = Some SessionDue
opens_section LocalLines LocalLines = Some LocalDue
opens_section ScheduleLines ScheduleLines = Some TurnsDue
opens_section EndLines EndLines = Some NothingDue
opens_section section _ = None

-- KEY, NOT NULL or nothing behind a column's kind
abbrev pub marked : ColumnSpot → Item → Option Spot
marked FirstColumn (Word KeyWord) = Some (CommaDue FirstColumn)
marked SecondColumn (Word KeyWord) = Some (CommaDue SecondColumn)
marked SecondColumn (Word NotWord) = Some (NullDue SecondColumn)
marked SecondColumn (Sign sign) = ends_column SecondColumn (Sign sign)
marked FurtherColumn (Word NotWord) = Some (NullDue FurtherColumn)
marked FurtherColumn (Sign sign) = ends_column FurtherColumn (Sign sign)
marked column _ = None

-- the place behind an item, and None where it may not stand here
abbrev pub moved : Spot → Item → Option Spot
moved (SectionDue section) (Word (First other)) = opens_section section other
moved WorkloadDue (Word WorkloadWord) = Some VersionDue
moved VersionDue (Version version) = Some NothingDue
moved LevelDue (Word RepeatableWord) = Some ReadDue
moved LevelDue (Word ReadWord) = Some CommittedDue
moved LevelDue (Word SerializableWord) = Some NothingDue
moved ReadDue (Word ReadWord) = Some NothingDue
moved CommittedDue (Word CommittedWord) = Some NothingDue
moved CommittedDue (Word UncommittedWord) = Some NothingDue
moved CountDue (Count count) = Some NothingDue
moved TableDue (Name name) = Some ColumnsDue
moved ColumnsDue (Sign sign) = when (sign == 40) (ColumnDue FirstColumn)
moved (ColumnDue column) (Name name) = Some (KindDue column)
moved (KindDue column) (Word IntWord) = Some (MarkDue column)
moved (KindDue column) (Word BigIntWord) = Some (MarkDue column)
moved (KindDue column) (Word VarcharWord) = Some (LengthOpens column)
moved (LengthOpens column) (Sign sign) = when (sign == 40) (LengthDue column)
moved (LengthDue column) (Length length) = Some (LengthCloses column)
moved (LengthCloses column) (Sign sign) = when (sign == 41) (MarkDue column)
moved (MarkDue column) item = marked column item
moved (NullDue column) (Word NullKeyword) = Some (CommaDue column)
moved (CommaDue column) item = ends_column column item
moved NodeDue (NodeWord node) = Some RowTableDue
moved RowTableDue (Name name) = Some RowOpens
moved RowOpens (Sign sign) = when (sign == 40) LiteralDue
moved LiteralDue (Digits n) = Some LiteralEnds
moved LiteralDue (Quote text) = Some LiteralEnds
moved LiteralDue (Word NullKeyword) = Some LiteralEnds
moved LiteralDue (Sign sign) = when (sign == 45) DigitsDue
moved DigitsDue (Digits n) = Some LiteralEnds
moved LiteralEnds (Sign sign) = if sign == 44 then Some LiteralDue else when (sign == 41) NothingDue
moved SessionDue (SessionWord session) = Some NothingDue
moved LocalDue (LocalWord replica session) = Some NothingDue
moved TurnsDue (Turns word) = Some TurnsDue
moved spot _ = None

abbrev pub bound : Option Spot → (Spot → Option Spot) → Option Spot
bound None next = None
bound (Some spot) next = next spot

abbrev pub walked : Spot → List Item → Option Spot
walked spot [] = Some spot
walked spot (item ∷ items) = bound (moved spot item) (λ next. walked next items)

-- the line may end here
abbrev pub may_end : Spot → Bool
may_end TurnsDue = true
may_end NothingDue = true
may_end spot = false
