-- The causes for which a line is refused, each with its rule, and their order.
use Rattle.std.specs.Prelude.{◌≡◌, ◌⊎◌, ◌+◌, ◌==◌, ◌&&◌, ◌≤◌, ◌<◌, leb, ⊤, ℕ, zero, suc, Bool, true, false, List, [], ◌∷◌, ◌++◌, Option, None, Some, map, length, take, if◌then◌else◌}
use Rattle.std.specs.List.{AllByRecursion}
use Rattle.std.specs.Prelude.{bytes_eq}
use Rattle.statement_grammar.specs.FirstFault.{IsFirstFault as IsStatementFault}
use Rattle.row_types.specs.declared.values.Value.{Value}
use Rattle.row_types.specs.declared.table_schema.Schema.{Schema}
use Rattle.row_types.specs.declared.row_faults.RowFault.{RowFault}
use Rattle.row_types.specs.Faults.{row_fault}
use Rattle.ptc_statement.specs.declared.scripts.ScriptStep.TheVariants.{Begin, Commit, Rollback, Run}
use Rattle.ptc_statement.specs.Fits.{IsClients}
use Rattle.statement_grammar.specs.declared.text_faults.TextFault.{TextFault}
use Rattle.file_text.specs.declared.faults.LimitKind.{LimitKind}
use Rattle.file_text.specs.declared.faults.LimitKind.TheVariants.{Bytes, LineBytes, Tables, Columns, Replicas as ReplicaLimit, Sessions, Locals, Schedule as ScheduleLimit}
use Rattle.file_text.specs.declared.faults.LineCause.{LineCause}
use Rattle.file_text.specs.declared.faults.LineCause.TheVariants.{AfterEnd, Order, Form, Twice, Row as RowCause, Statement as StatementCause, Tool, Script, Actor}
use Rattle.file_text.specs.Parts.{Part, words_of, trimmed, past_end, place_of}
use Rattle.file_text.specs.declared.places.Section.{Section}
use Rattle.file_text.specs.declared.places.Section.TheVariants.{PtcLines, IsolationLines, ReplicaLines, TableLines, SessionLines, LocalLines, ScheduleLines}
use Rattle.file_text.specs.Said.{Said, Header, Isolation, Replicas, TableOf, RowOf, SessionOf, LocalOf, StepOf, Schedule, End, ColumnText, section_of, Item, Name, Count, LocalWord, Turns, Node, All, Source, Replica, Literal, value_of, RepeatableRead, ScheduleWord, Once, Times, StopTool, ResumeTool, StopReplica, StartReplica, Turn, OfSession, OfTool, OfSync, OfWorker, OfFurtherWorker, OfLocal}
use Rattle.file_text.specs.Context.{schemas_of, replicas_of, sessions_in, locals_in, scheduled_in, is_ended, rank, section_at, is_there, in_script, is_open}
use Rattle.file_text.specs.Rules.{is_skipped, Opens, OpensNone, parts_in, turns_among, Begins, Misfit, offset_of, next_place, next_text, FitsUpTo, word_step, Says}

-- ---- limits

abbrev pub most : LimitKind → ℕ
most Bytes = 16777216
most LineBytes = 65535
most Tables = 16
most Columns = 16
most ReplicaLimit = 8
most Sessions = 64
most Locals = 16
most ScheduleLimit = 10000000

abbrev pub names_among : List Item → ℕ
names_among [] = 0
names_among (Name name ∷ items) = suc (names_among items)
names_among (item ∷ items) = names_among items

-- the items from the front of the line pass the limit
abbrev pub PassesAt : LimitKind → List Said → Item → List Item → Type 0
PassesAt Columns before item front = 17 < names_among (front ++ item ∷ [])  -- the table's name, and 17 columns
PassesAt ReplicaLimit before (Count count) front = 8 < count
PassesAt Locals before (LocalWord replica session) front = 16 ≤ locals_in replica before
PassesAt ScheduleLimit before (Turns word) front = 10000000 < scheduled_in before + turns_among (front ++ Turns word ∷ [])
PassesAt which before item front = ⊥

-- the section in whose lines a limit is passed by an item
abbrev pub limits : LimitKind → Option Section
limits Columns = Some TableLines
limits ReplicaLimit = Some ReplicaLines
limits Locals = Some LocalLines
limits ScheduleLimit = Some ScheduleLines
limits _ = None

-- a part that passes a limit, before the first that does not fit
pub record Passes (before : List Said) (line : List ℕ) (which : LimitKind) : Type 0 where
  pub section : Section
  pub of : limits which ≡ Some section
  pub opens : Opens section line
  pub fitting : List Part
  pub left : List Part
  pub are : parts_in section line ≡ fitting ++ left
  pub front : List Item
  pub item : Item
  pub begins : Begins section before fitting (front ++ item ∷ [])
  pub passes : PassesAt which before item front

abbrev pub tables_said : Said → ℕ
tables_said (TableOf name columns) = 1
tables_said _ = 0

abbrev pub tables_in : List Said → ℕ
tables_in [] = 0
tables_in (said ∷ before) = tables_said said + tables_in before

abbrev pub IsOver : List Said → List ℕ → LimitKind → Type 0
IsOver before line LineBytes = most LineBytes < length line
IsOver before line Tables = Opens TableLines line × (16 ≤ tables_in before)
IsOver before line Sessions = Opens SessionLines line × (64 ≤ sessions_in before)
IsOver before line which = Passes before line which

-- ---- order

abbrev pub at_or_behind : Option Section → Section → Bool
at_or_behind None section = true
at_or_behind (Some last) section = leb (rank last) (rank section)

abbrev pub needs : Section → Section → Bool
needs section needed = leb (suc (rank needed)) (rank section)

-- a line of the section may stand behind these
pub record IsInOrder (before : List Said) (section : Section) : Type 0 where
  pub not_back : at_or_behind (section_at before) section ≡ true
  pub header : needs section PtcLines ≡ true → is_there PtcLines before ≡ true
  pub replicas : needs section ReplicaLines ≡ true → is_there ReplicaLines before ≡ true
  pub tables : needs section TableLines ≡ true → is_there TableLines before ≡ true

-- ---- what is said again

abbrev pub is_for : ℕ → Node → Bool
is_for node All = true
is_for node Source = node == 0
is_for node (Replica replica) = leb 1 replica && (node == replica)

-- the keys of a table's rows on a node, 0 for the source
abbrev pub key_in : Schema → List Value → List Value
key_in schema values = take schema.key_len values

pub record HasKey (schema : Schema) (table : List ℕ) (key : List Value) (node : ℕ) (said : Said) : Type 0 where
  pub which : Node
  pub literals : List Literal
  pub is : said ≡ RowOf which table literals
  pub there : is_for node which ≡ true
  pub same : key_in schema (map value_of literals) ≡ key

pub record SomeSaid (before : List Said) (P : Said → Type 0) : Type 0 where
  pub front : List Said
  pub said : Said
  pub back : List Said
  pub is : before ≡ front ++ said ∷ back
  pub does : P said

-- the first schema of this name
abbrev pub schema_named : List ℕ → List Schema → Option Schema
schema_named table [] = None
schema_named table (schema ∷ schemas) = if bytes_eq schema.name table then Some schema else schema_named table schemas

abbrev pub SchemaIs : List Said → List ℕ → Schema → Type 0
SchemaIs before table schema = schema_named table (schemas_of before) ≡ Some schema

pub record RowIsThere (before : List Said) (which : Node) (table : List ℕ) (literals : List Literal) : Type 0 where
  pub schema : Schema
  pub table_is : SchemaIs before table schema
  pub whole : schema.key_len ≤ length literals
  pub node : ℕ
  pub among : is_for node which ≡ true
  pub declared : node ≤ replicas_of before
  pub there : SomeSaid before (HasKey schema table (key_in schema (map value_of literals)) node)

pub record SameName (columns : List ColumnText) : Type 0 where
  pub front : List ColumnText
  pub first : ColumnText
  pub between : List ColumnText
  pub second : ColumnText
  pub back : List ColumnText
  pub are : columns ≡ front ++ first ∷ (between ++ second ∷ back)
  pub same : first.name ≡ second.name

abbrev pub IsSaidAgain : List Said → Said → Type 0
IsSaidAgain before (Header version) = is_there PtcLines before ≡ true
IsSaidAgain before (Isolation level) = is_there IsolationLines before ≡ true
IsSaidAgain before (Replicas count) = is_there ReplicaLines before ≡ true
IsSaidAgain before (TableOf name columns) = ((schema : Schema) × SchemaIs before name schema) ⊎ SameName columns
IsSaidAgain before (RowOf which table literals) = RowIsThere before which table literals
IsSaidAgain before _ = ⊥

-- ---- rows that do not fit

pub record RowMisfits (before : List Said) (table : List ℕ) (literals : List Literal) (fault : RowFault) : Type 0 where
  pub schema : Schema
  pub table_is : SchemaIs before table schema
  pub fault_is : row_fault schema (map value_of literals) ≡ Some fault

-- ---- scripts

abbrev pub ends_open : Said → Type 0
ends_open (SessionOf session) = ⊤
ends_open (LocalOf replica session) = ⊤
ends_open (Schedule words) = ⊤
ends_open End = ⊤
ends_open (StepOf Begin) = ⊤
ends_open _ = ⊥

abbrev pub ends_closed : Said → Type 0
ends_closed (StepOf Commit) = ⊤
ends_closed (StepOf Rollback) = ⊤
ends_closed _ = ⊥

-- what may not come in an open transaction, or may not come without one
abbrev pub BreaksScript : List Said → Said → Type 0
BreaksScript before said = ((is_open before ≡ true) × ends_open said) ⊎ ((is_open before ≡ false) × ends_closed said)

-- ---- who is not declared

abbrev pub IsReplica : List Said → ℕ → Type 0
IsReplica before replica = (1 ≤ replica) × (replica ≤ replicas_of before)

abbrev pub IsDeclared : List Said → Turn → Type 0
IsDeclared before (OfSession session) = (1 ≤ session) × (session ≤ sessions_in before)
IsDeclared before OfTool = ⊤
IsDeclared before (OfSync replica) = IsReplica before replica
IsDeclared before (OfWorker replica) = IsReplica before replica
IsDeclared before (OfFurtherWorker replica worker) = IsReplica before replica
IsDeclared before (OfLocal replica session) = IsReplica before replica × (1 ≤ session) × (session ≤ locals_in replica before)

abbrev pub AllDeclared : List Said → ScheduleWord → Type 0
AllDeclared before (Once turn) = IsDeclared before turn
AllDeclared before (Times turn count) = IsDeclared before turn
AllDeclared before StopTool = ⊤
AllDeclared before ResumeTool = ⊤
AllDeclared before (StopReplica replica) = IsReplica before replica
AllDeclared before (StartReplica replica) = IsReplica before replica

abbrev pub NodeIsDeclared : List Said → Node → Type 0
NodeIsDeclared before All = ⊤
NodeIsDeclared before Source = ⊤
NodeIsDeclared before (Replica replica) = IsReplica before replica

-- the first schedule word that is not declared has this number in the line, the line's first word not counted
pub record UndeclaredWord (before : List Said) (words : List ScheduleWord) (number : ℕ) : Type 0 where
  pub front : List ScheduleWord
  pub word : ScheduleWord
  pub back : List ScheduleWord
  pub are : words ≡ front ++ word ∷ back
  pub number_is : number ≡ length front
  pub declared : AllByRecursion (AllDeclared before) front
  pub undeclared : AllDeclared before word → ⊥

-- the part of this number, behind the first word, names nobody
abbrev pub Undeclared : List Said → Said → ℕ → Type 0
Undeclared before (Schedule words) number = UndeclaredWord before words number
Undeclared before (LocalOf replica session) number = (number ≡ 0) × (IsReplica before replica → ⊥)
Undeclared before (RowOf node table literals) zero = NodeIsDeclared before node → ⊥
Undeclared before (RowOf node table literals) (suc zero) = NodeIsDeclared before node × ((schema : Schema) → SchemaIs before table schema → ⊥)
Undeclared before said number = ⊥

-- ---- all causes

pub data Cause : Type 0 where
  OfLimit : LimitKind → Cause
  OfLine : LineCause → Cause
  OfIsolation : Cause

pub record MisfitAt (before : List Said) (line : List ℕ) (place : ℕ) : Type 0 where
  pub section : Section
  pub opens : Opens section line
  pub fitting : List Part
  pub left : List Part
  pub misfit : Misfit
  pub fits : FitsUpTo section before (parts_in section line) fitting left misfit
  pub is : place ≡ next_place (past_end line) left + offset_of misfit (next_text left)

-- outside scripts a line has to open a section
pub record FirstMisfits (before : List Said) (line : List ℕ) (place : ℕ) : Type 0 where
  pub opens : OpensNone line
  pub outside : in_script before ≡ false
  pub is : place ≡ next_place (past_end line) (words_of line)

pub record SaysWrong (before : List Said) (line : List ℕ) (P : Said → Type 0) : Type 0 where
  pub said : Said
  pub says : Says before line said
  pub wrong : P said

abbrev pub IsTool : Said → Type 0
IsTool (StepOf (Run statement)) = IsClients statement → ⊥
IsTool _ = ⊥

abbrev pub IsOtherLevel : Said → Type 0
IsOtherLevel (Isolation RepeatableRead) = ⊥
IsOtherLevel (Isolation level) = ⊤
IsOtherLevel _ = ⊥

abbrev pub IsRowThat : (List ℕ → List Literal → Type 0) → Said → Type 0
IsRowThat P (RowOf node table literals) = P table literals
IsRowThat P _ = ⊥

pub record IsUndeclared (before : List Said) (line : List ℕ) (place : ℕ) : Type 0 where
  pub said : Said
  pub section : Section
  pub of : section_of said ≡ Some section
  pub says : Says before line said
  pub number : ℕ
  pub who : Undeclared before said number
  pub is : place ≡ place_of (past_end line) (parts_in section line) (suc number)

pub record StatementMisfits (before : List Said) (line : List ℕ) (fault : TextFault) : Type 0 where
  pub opens : OpensNone line
  pub inside : in_script before ≡ true
  pub other : word_step (words_of line) ≡ None
  pub fails : IsStatementFault (schemas_of before) (trimmed line) fault

pub record OutOfOrder (before : List Said) (line : List ℕ) : Type 0 where
  pub section : Section
  pub opens : Opens section line
  pub breaks : IsInOrder before section → ⊥

-- the rule of this cause is broken by the line behind these
abbrev pub Breaks : List Said → List ℕ → Cause → Type 0
Breaks before line (OfLimit which) = IsOver before line which
Breaks before line (OfLine AfterEnd) = (is_ended before ≡ true) × (is_skipped line ≡ false)
Breaks before line (OfLine Order) = OutOfOrder before line
Breaks before line (OfLine (Form place)) = MisfitAt before line place ⊎ FirstMisfits before line place
Breaks before line (OfLine Twice) = SaysWrong before line (IsSaidAgain before)
Breaks before line OfIsolation = SaysWrong before line IsOtherLevel
Breaks before line (OfLine (RowCause fault)) = SaysWrong before line (IsRowThat (λ table literals. RowMisfits before table literals fault))
Breaks before line (OfLine (StatementCause fault)) = StatementMisfits before line fault
Breaks before line (OfLine Tool) = SaysWrong before line IsTool
Breaks before line (OfLine Script) = SaysWrong before line (BreaksScript before)
Breaks before line (OfLine (Actor place)) = IsUndeclared before line place

-- the order in which the causes of one line are looked at
abbrev pub limit_order : LimitKind → ℕ
limit_order Bytes = 0
limit_order LineBytes = 1
limit_order Tables = 2
limit_order Columns = 3
limit_order ReplicaLimit = 4
limit_order Sessions = 5
limit_order Locals = 6
limit_order ScheduleLimit = 7

abbrev pub cause_order : LineCause → ℕ
cause_order AfterEnd = 8
cause_order Order = 9
cause_order (Form place) = 10
cause_order Twice = 11
cause_order (RowCause fault) = 13
cause_order (StatementCause fault) = 14
cause_order Tool = 15
cause_order Script = 16
cause_order (Actor place) = 17

abbrev pub order : Cause → ℕ
order (OfLimit which) = limit_order which
order (OfLine cause) = cause_order cause
order OfIsolation = 12

-- the line is refused for this cause: its rule is broken, and no rule before it
pub record IsRefused (before : List Said) (line : List ℕ) (cause : Cause) : Type 0 where
  pub breaks : Breaks before line cause
  pub first : (other : Cause) → order other < order cause → Breaks before line other → ⊥

-- the line says this, and breaks no rule
pub record IsGood (before : List Said) (line : List ℕ) (said : Said) : Type 0 where
  pub says : Says before line said
  pub good : (cause : Cause) → Breaks before line cause → ⊥
