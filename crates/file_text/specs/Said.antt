-- What the lines of the file say, and the items that a line is written with.
use Rattle.std.specs.Prelude.{◌≡◌, ◌==◌, ⊤, ℕ, ℤ, pos, neg_ℤ, Bool, true, false, List, [], ◌∷◌, ◌++◌, Option, None, Some, map, length, codes}
use Rattle.std.specs.List.{AllByRecursion}
use Rattle.std.specs.Str.{str_eq_ignore_ascii_case}
use Rattle.std.specs.Int.{w64, saturate_signed}
use Rattle.row_types.specs.declared.values.Value.{Value}
use Rattle.row_types.specs.declared.values.Value.TheVariants.{Null, Int, Text as OneText}
use Rattle.row_types.specs.declared.table_schema.ColumnKind.{ColumnKind}
use Rattle.row_types.specs.declared.table_schema.ColumnKind.TheVariants.{Int as IntColumn, BigInt, Text as TextColumn}
use Rattle.ptc_statement.specs.declared.scripts.ScriptStep.{ScriptStep}
use Rattle.statement_tokens.specs.Spellings.{IsNameText, IsNumberText, IsQuoted}
use Rattle.file_text.specs.Parts.{Part}
use Rattle.file_text.specs.declared.places.Section.{Section}
use Rattle.file_text.specs.declared.places.Section.TheVariants.{PtcLines, IsolationLines, ReplicaLines, TableLines, RowLines, SessionLines, LocalLines, ScheduleLines, EndLines}
use Rattle.file_text.specs.declared.places.Keyword.{Keyword}
use Rattle.file_text.specs.declared.places.Keyword.TheVariants.{First, WorkloadWord, RepeatableWord, ReadWord, CommittedWord, UncommittedWord, SerializableWord, IntWord, BigIntWord, VarcharWord, KeyWord, NotWord, NullKeyword}

-- ---- words of a schedule

-- rR is worker 1 of replica R, rR.W another one
pub data Turn : Type 0 where
  OfSession : ℕ → Turn
  OfTool : Turn
  OfSync : ℕ → Turn
  OfWorker : ℕ → Turn
  OfFurtherWorker : ℕ → ℕ → Turn
  OfLocal : ℕ → ℕ → Turn

-- an actor for one turn or for several, or an operator's word
pub data ScheduleWord : Type 0 where
  Once : Turn → ScheduleWord
  Times : Turn → ℕ → ScheduleWord
  StopTool : ScheduleWord
  ResumeTool : ScheduleWord
  StopReplica : ℕ → ScheduleWord
  StartReplica : ℕ → ScheduleWord

-- ---- literals of a ROW

pub data Literal : Type 0 where
  Number : Bool → ℕ → Literal  -- whether a `-` stands before it
  Quoted : List ℕ → Literal
  NullWord : Literal

abbrev pub signed : Bool → ℕ → ℤ
signed true n = neg_ℤ (pos n)
signed false n = pos n

-- numbers are clipped to 64 bits
abbrev pub value_of : Literal → Value
value_of (Number minus n) = Int (saturate_signed w64 (signed minus n))
value_of (Quoted text) = OneText text
value_of NullWord = Null

-- ---- lines

pub data Node : Type 0 where
  All : Node
  Source : Node
  Replica : ℕ → Node

pub data Level : Type 0 where
  RepeatableRead : Level
  ReadCommitted : Level
  ReadUncommitted : Level
  Serializable : Level

-- a column as it is written: KEY or NOT NULL may stand behind its kind
pub data Mark : Type 0 where
  Bare : Mark
  Key : Mark
  NotNull : Mark

pub record ColumnText : Type 0 where
  pub name : List ℕ
  pub kind : ColumnKind
  pub mark : Mark

pub data Said : Type 0 where
  Skipped : Said
  Header : ℕ → Said
  Isolation : Level → Said
  Replicas : ℕ → Said
  TableOf : List ℕ → List ColumnText → Said
  RowOf : Node → List ℕ → List Literal → Said
  SessionOf : ℕ → Said
  LocalOf : ℕ → ℕ → Said
  StepOf : ScriptStep → Said
  Schedule : List ScheduleWord → Said
  End : Said

abbrev pub section_of : Said → Option Section
section_of Skipped = None
section_of (Header version) = Some PtcLines
section_of (Isolation level) = Some IsolationLines
section_of (Replicas count) = Some ReplicaLines
section_of (TableOf name columns) = Some TableLines
section_of (RowOf node table literals) = Some RowLines
section_of (SessionOf session) = Some SessionLines
section_of (LocalOf replica session) = Some LocalLines
section_of (StepOf step) = None
section_of (Schedule words) = Some ScheduleLines
section_of End = Some EndLines

-- the word that begins a section's lines
abbrev pub first_word : Section → List ℕ
first_word PtcLines = codes "PTC"
first_word IsolationLines = codes "ISOLATION"
first_word ReplicaLines = codes "REPLICAS"
first_word TableLines = codes "TABLE"
first_word RowLines = codes "ROW"
first_word SessionLines = codes "SESSION"
first_word LocalLines = codes "LOCAL"
first_word ScheduleLines = codes "SCHEDULE"
first_word EndLines = codes "END"

abbrev pub spelling : Keyword → List ℕ
spelling (First section) = first_word section
spelling WorkloadWord = codes "WORKLOAD"
spelling RepeatableWord = codes "REPEATABLE"
spelling ReadWord = codes "READ"
spelling CommittedWord = codes "COMMITTED"
spelling UncommittedWord = codes "UNCOMMITTED"
spelling SerializableWord = codes "SERIALIZABLE"
spelling IntWord = codes "INT"
spelling BigIntWord = codes "BIGINT"
spelling VarcharWord = codes "VARCHAR"
spelling KeyWord = codes "KEY"
spelling NotWord = codes "NOT"
spelling NullKeyword = codes "NULL"

-- ---- items: what one part of a line is

pub data Item : Type 0 where
  Word : Keyword → Item  -- in any mix of capital and small letters
  Sign : ℕ → Item
  Name : List ℕ → Item
  Version : ℕ → Item
  Count : ℕ → Item  -- of replicas
  Length : ℕ → Item  -- of a VARCHAR
  NodeWord : Node → Item
  SessionWord : ℕ → Item
  LocalWord : ℕ → ℕ → Item
  Turns : ScheduleWord → Item
  Digits : ℕ → Item
  Quote : List ℕ → Item

abbrev pub kind_items : ColumnKind → List Item
kind_items IntColumn = Word IntWord ∷ []
kind_items BigInt = Word BigIntWord ∷ []
kind_items (TextColumn max) = Word VarcharWord ∷ Sign 40 ∷ Length max ∷ Sign 41 ∷ []

abbrev pub mark_items : Mark → List Item
mark_items Bare = []
mark_items Key = Word KeyWord ∷ []
mark_items NotNull = Word NotWord ∷ Word NullKeyword ∷ []

abbrev pub column_items : ColumnText → List Item
column_items column = Name column.name ∷ (kind_items column.kind ++ mark_items column.mark)

abbrev pub more_columns : List ColumnText → List Item
more_columns [] = Sign 41 ∷ []
more_columns (column ∷ columns) = Sign 44 ∷ (column_items column ++ more_columns columns)

-- one column, or several parted by commas, and the closing parenthesis
abbrev pub columns_items : List ColumnText → List Item
columns_items [] = []
columns_items (column ∷ columns) = column_items column ++ more_columns columns

abbrev pub literal_items : Literal → List Item
literal_items (Number true n) = Sign 45 ∷ Digits n ∷ []
literal_items (Number false n) = Digits n ∷ []
literal_items (Quoted text) = Quote text ∷ []
literal_items NullWord = Word NullKeyword ∷ []

abbrev pub more_literals : List Literal → List Item
more_literals [] = Sign 41 ∷ []
more_literals (literal ∷ literals) = Sign 44 ∷ (literal_items literal ++ more_literals literals)

abbrev pub literals_items : List Literal → List Item
literals_items [] = []
literals_items (literal ∷ literals) = literal_items literal ++ more_literals literals

abbrev pub level_items : Level → List Item
level_items RepeatableRead = Word RepeatableWord ∷ Word ReadWord ∷ []
level_items ReadCommitted = Word ReadWord ∷ Word CommittedWord ∷ []
level_items ReadUncommitted = Word ReadWord ∷ Word UncommittedWord ∷ []
level_items Serializable = Word SerializableWord ∷ []

-- what stands behind the first word
abbrev pub behind_first : Said → List Item
behind_first Skipped = []
behind_first (Header version) = Word WorkloadWord ∷ Version version ∷ []
behind_first (Isolation level) = level_items level
behind_first (Replicas count) = Count count ∷ []
behind_first (TableOf name columns) = Name name ∷ Sign 40 ∷ columns_items columns
behind_first (RowOf node table literals) = NodeWord node ∷ Name table ∷ Sign 40 ∷ literals_items literals
behind_first (SessionOf session) = SessionWord session ∷ []
behind_first (LocalOf replica session) = LocalWord replica session ∷ []
behind_first (StepOf step) = []
behind_first (Schedule words) = map Turns words
behind_first End = []

abbrev pub is_key : Mark → Bool
is_key Bare = false
is_key Key = true
is_key NotNull = false

abbrev pub HasNoKey : ColumnText → Type 0
HasNoKey column = is_key column.mark ≡ false

-- KEY stands at the first column, or at the first and the second
abbrev pub KeysFirst : List ColumnText → Type 0
KeysFirst [] = ⊥
KeysFirst (first ∷ []) = is_key first.mark ≡ true
KeysFirst (first ∷ second ∷ columns) = (is_key first.mark ≡ true) × AllByRecursion HasNoKey columns

abbrev pub HasLiteral : List Literal → Type 0
HasLiteral [] = ⊥
HasLiteral (literal ∷ literals) = ⊤

-- what the words and signs of a section's line can say, whatever the lines before it say
abbrev pub HasForm : Said → Type 0
HasForm (TableOf name columns) = KeysFirst columns
HasForm (RowOf node table literals) = HasLiteral literals
HasForm _ = ⊤

-- these items are a line of this section
pub record IsLineOf (section : Section) (items : List Item) : Type 0 where
  pub said : Said
  pub of : section_of said ≡ Some section
  pub form : HasForm said
  pub written : items ≡ Word (First section) ∷ behind_first said

-- ---- how an item is spelled

abbrev pub begins_zero : List ℕ → Bool
begins_zero [] = false
begins_zero (byte ∷ bytes) = byte == 48

-- a number of the file: without a leading zero
pub record IsDecimal (n : ℕ) (text : List ℕ) : Type 0 where
  pub digits : IsNumberText n text
  pub canonical : begins_zero text ≡ true → length text ≡ 1

-- a letter and a number
pub record IsLed (letter n : ℕ) (text : List ℕ) : Type 0 where
  pub digits : List ℕ
  pub is : text ≡ letter ∷ digits
  pub number : IsDecimal n digits

-- rR.W
pub record IsFurther (replica worker : ℕ) (text : List ℕ) : Type 0 where
  pub front : List ℕ
  pub back : List ℕ
  pub is : text ≡ 114 ∷ (front ++ 46 ∷ back)
  pub first : IsDecimal replica front
  pub second : IsDecimal worker back

-- rR.lN
pub record IsLocal (replica session : ℕ) (text : List ℕ) : Type 0 where
  pub front : List ℕ
  pub back : List ℕ
  pub is : text ≡ 114 ∷ (front ++ 46 ∷ (108 ∷ back))
  pub first : IsDecimal replica front
  pub second : IsDecimal session back

-- an actor's word
abbrev pub IsTurn : Turn → List ℕ → Type 0
IsTurn (OfSession session) text = IsLed 115 session text
IsTurn OfTool text = text ≡ 99 ∷ []
IsTurn (OfSync replica) text = IsLed 121 replica text
IsTurn (OfWorker replica) text = IsLed 114 replica text
IsTurn (OfFurtherWorker replica worker) text = IsFurther replica worker text
IsTurn (OfLocal replica session) text = IsLocal replica session text

-- an actor's word, `*` and a number
pub record IsRepeated (turn : Turn) (count : ℕ) (text : List ℕ) : Type 0 where
  pub front : List ℕ
  pub back : List ℕ
  pub is : text ≡ front ++ 42 ∷ back
  pub actor : IsTurn turn front
  pub number : IsDecimal count back

-- an operator's word of a replica
pub record IsOperators (verb : List ℕ) (replica : ℕ) (text : List ℕ) : Type 0 where
  pub word : List ℕ
  pub is : text ≡ verb ++ word
  pub of : IsLed 114 replica word

abbrev pub IsScheduled : ScheduleWord → List ℕ → Type 0
IsScheduled (Once turn) text = IsTurn turn text
IsScheduled (Times turn count) text = IsRepeated turn count text
IsScheduled StopTool text = text ≡ codes "stop:c"
IsScheduled ResumeTool text = text ≡ codes "resume:c"
IsScheduled (StopReplica replica) text = IsOperators (codes "stop:") replica text
IsScheduled (StartReplica replica) text = IsOperators (codes "start:") replica text

abbrev pub IsNode : Node → List ℕ → Type 0
IsNode All text = text ≡ 42 ∷ []
IsNode Source text = text ≡ codes "source"
IsNode (Replica replica) text = IsLed 114 replica text

-- a part of a line is this item
abbrev pub IsItem : Item → List ℕ → Type 0
IsItem (Word word) text = str_eq_ignore_ascii_case (spelling word) text ≡ true
IsItem (Sign sign) text = text ≡ sign ∷ []
IsItem (Name name) text = IsNameText name text
IsItem (Version version) text = IsDecimal version text
IsItem (Count count) text = IsDecimal count text
IsItem (Length length) text = IsDecimal length text
IsItem (NodeWord node) text = IsNode node text
IsItem (SessionWord session) text = IsLed 115 session text
IsItem (LocalWord replica session) text = IsLocal replica session text
IsItem (Turns word) text = IsScheduled word text
IsItem (Digits n) text = IsNumberText n text
IsItem (Quote content) text = IsQuoted content text

-- these parts are these items, one for one
abbrev pub Spells : List Item → List Part → Type 0
Spells [] [] = ⊤
Spells [] (part ∷ parts) = ⊥
Spells (item ∷ items) [] = ⊥
Spells (item ∷ items) (part ∷ parts) = IsItem item part.text × Spells items parts
