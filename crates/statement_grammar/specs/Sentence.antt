-- Statements: which tokens and trees may follow one another.
use Rattle.std.specs.Prelude.{◌≡◌, ℕ, leb, ◌==◌, ◌&&◌, ◌||◌, Bool, true, false, List, [], ◌∷◌, ◌++◌, length, Option, None, Some}
use Rattle.ptc_statement.specs.declared.expressions.Op.TheVariants as op
use Rattle.statement_tokens.specs.declared.words.Math.TheVariants.{Minus, Times}
use Rattle.statement_tokens.specs.declared.words.Keyword.TheVariants as k
use Rattle.statement_tokens.specs.declared.words.Token.{Token}
use Rattle.statement_tokens.specs.declared.words.Word.{Word}
use Rattle.statement_tokens.specs.declared.words.Word.TheVariants as w
use Rattle.statement_grammar.specs.Grammar.{Shape, Setting, IsAt, tokens_of}

-- a token, or a whole expression or condition
pub data Piece : Type 0 where
  One : Token → Piece
  Tree : Shape → Piece

abbrev pub piece_tokens : Piece → List Token
piece_tokens (One t) = t ∷ []
piece_tokens (Tree s) = tokens_of s

abbrev pub pieces_tokens : List Piece → List Token
pieces_tokens [] = []
pieces_tokens (piece ∷ pieces) = piece_tokens piece ++ pieces_tokens pieces

-- which of the two edges of a span
pub data End : Type 0 where
  Lower : End
  Upper : End

-- which list of literals: the values of a row, or of the key of an edge
pub data Literals : Type 0 where
  OfRow : Literals
  OfEdge : End → Literals

-- the checksum tool's two statements on a chunk
pub data OnChunk : Type 0 where
  Checks : OnChunk
  SetsMaster : OnChunk

-- what is due next in a statement
pub data Spot : Type 0 where
  StatementDue : Spot
  IntoDue : Spot
  IntoTable : Spot
  ValuesDue : Spot
  OpenDue : Literals → Spot
  LiteralDue : Literals → Spot
  LiteralEnds : Literals → Spot
  DigitsDue : Literals → Spot
  FromDue : Spot
  DeleteTable : Spot
  WhereDue : Spot
  CondDue : Spot
  CondEnds : Spot
  UpdateTable : Spot
  SetDue : Spot
  ColumnDue : Spot
  EqualsDue : Spot
  ExprDue : Spot
  SetEnds : Spot
  StarDue : Spot
  SelectFrom : Spot
  SelectTable : Spot
  SelectWhere : Spot
  SelectCond : Spot
  LockDue : Spot
  ForDue : Spot
  InDue : Spot
  ShareDue : Spot
  ModeDue : Spot
  ChunkTable : OnChunk → Spot
  ChunkDue : OnChunk → Spot
  ChunkNumber : OnChunk → Spot
  EdgeFrom : Spot
  EdgeDue : End → Spot
  EdgeTo : Spot
  UsingDue : Spot
  KindDue : Spot
  CountDue : Spot
  CountNumber : Spot
  CrcDue : Spot
  CrcText : Spot
  ClearTable : Spot
  EndDue : Spot
  NothingDue : Spot

-- where a tree is due: whether it is a condition, and what is due behind it
abbrev pub tree_at : Spot → Option (Bool × Spot)
tree_at CondDue = Some (true, CondEnds)
tree_at ExprDue = Some (false, SetEnds)
tree_at SelectCond = Some (true, LockDue)
tree_at _ = None

abbrev pub behind_edge : End → Spot
behind_edge Lower = EdgeTo
behind_edge Upper = UsingDue

abbrev pub behind_literals : Literals → Spot
behind_literals OfRow = EndDue
behind_literals (OfEdge end) = behind_edge end

abbrev pub behind_chunk : OnChunk → Spot
behind_chunk Checks = EdgeFrom
behind_chunk SetsMaster = CountDue

-- the numbers and texts of the tool's statements
abbrev pub is_chunk : ℕ → Bool
is_chunk n = leb 1 n && leb n 4294967295

abbrev pub is_count : ℕ → Bool
is_count n = leb n 18446744073709551615

abbrev pub is_lower_digit : ℕ → Bool
is_lower_digit byte = (leb 48 byte && leb byte 57) || (leb 97 byte && leb byte 102)

abbrev pub are_lower_digits : List ℕ → Bool
are_lower_digits [] = true
are_lower_digits (byte ∷ bytes) = is_lower_digit byte && are_lower_digits bytes

-- 32 or 40 hexadecimal digits, with small letters
abbrev pub is_crc : List ℕ → Bool
is_crc text = ((length text == 32) || (length text == 40)) && are_lower_digits text

abbrev pub when_so : Bool → Spot → Option Spot
when_so true spot = Some spot
when_so false spot = None

-- what is due behind a single token
abbrev pub one : Spot → Word → Option Spot
one StatementDue (w.Keyword k.Insert) = Some IntoDue
one StatementDue (w.Keyword k.Replace) = Some IntoDue
one StatementDue (w.Keyword k.Delete) = Some FromDue
one StatementDue (w.Keyword k.Update) = Some UpdateTable
one StatementDue (w.Keyword k.Select) = Some StarDue
one StatementDue (w.Keyword k.Checksum) = Some (ChunkTable Checks)
one StatementDue (w.Keyword k.SetMaster) = Some (ChunkTable SetsMaster)
one StatementDue (w.Keyword k.ClearChecks) = Some ClearTable
one IntoDue (w.Keyword k.Into) = Some IntoTable
one IntoTable (w.Name n) = Some ValuesDue
one ValuesDue (w.Keyword k.Values) = Some (OpenDue OfRow)
one (OpenDue of) w.Open = Some (LiteralDue of)
one (LiteralDue of) (w.Number n) = Some (LiteralEnds of)
one (LiteralDue of) (w.Text t) = Some (LiteralEnds of)
one (LiteralDue of) w.Null = Some (LiteralEnds of)
one (LiteralDue of) (w.Math Minus) = Some (DigitsDue of)
one (DigitsDue of) (w.Number n) = Some (LiteralEnds of)
one (LiteralEnds of) w.Comma = Some (LiteralDue of)
one (LiteralEnds of) w.Close = Some (behind_literals of)
one FromDue (w.Keyword k.From) = Some DeleteTable
one DeleteTable (w.Name n) = Some WhereDue
one WhereDue (w.Keyword k.Where) = Some CondDue
one WhereDue w.Semicolon = Some NothingDue
one CondEnds w.Semicolon = Some NothingDue
one UpdateTable (w.Name n) = Some SetDue
one SetDue (w.Keyword k.Set) = Some ColumnDue
one ColumnDue (w.Name n) = Some EqualsDue
one EqualsDue (w.Compare op.Eq) = Some ExprDue
one SetEnds w.Comma = Some ColumnDue
one SetEnds (w.Keyword k.Where) = Some CondDue
one SetEnds w.Semicolon = Some NothingDue
one StarDue (w.Math Times) = Some SelectFrom
one SelectFrom (w.Keyword k.From) = Some SelectTable
one SelectTable (w.Name n) = Some SelectWhere
one SelectWhere (w.Keyword k.Where) = Some SelectCond
one SelectWhere (w.Keyword k.For) = Some ForDue
one SelectWhere (w.Keyword k.Lock) = Some InDue
one LockDue (w.Keyword k.For) = Some ForDue
one LockDue (w.Keyword k.Lock) = Some InDue
one ForDue (w.Keyword k.Update) = Some EndDue
one ForDue (w.Keyword k.Share) = Some EndDue
one InDue (w.Keyword k.In) = Some ShareDue
one ShareDue (w.Keyword k.Share) = Some ModeDue
one ModeDue (w.Keyword k.Mode) = Some EndDue
one (ChunkTable tool) (w.Name n) = Some (ChunkDue tool)
one (ChunkDue tool) (w.Keyword k.Chunk) = Some (ChunkNumber tool)
one (ChunkNumber tool) (w.Number n) = when_so (is_chunk n) (behind_chunk tool)
one EdgeFrom (w.Keyword k.From) = Some (EdgeDue Lower)
one (EdgeDue end) (w.Keyword k.Low) = Some (behind_edge end)
one (EdgeDue end) (w.Keyword k.High) = Some (behind_edge end)
one (EdgeDue end) (w.Keyword k.Before) = Some (OpenDue (OfEdge end))
one (EdgeDue end) (w.Keyword k.After) = Some (OpenDue (OfEdge end))
one EdgeTo (w.Keyword k.To) = Some (EdgeDue Upper)
one UsingDue (w.Keyword k.Using) = Some KindDue
one KindDue (w.Keyword k.Md5) = Some EndDue
one KindDue (w.Keyword k.Sha1) = Some EndDue
one CountDue (w.Keyword k.Cnt) = Some CountNumber
one CountNumber (w.Number n) = when_so (is_count n) CrcDue
one CrcDue (w.Keyword k.Crc) = Some CrcText
one CrcText (w.Text t) = when_so (is_crc t) EndDue
one ClearTable (w.Name n) = Some EndDue
one EndDue w.Semicolon = Some NothingDue
one _ word = None

-- where a statement may end
abbrev pub may_end : Spot → Bool
may_end WhereDue = true
may_end CondEnds = true
may_end SetEnds = true
may_end EndDue = true
may_end NothingDue = true
may_end _ = false

-- the names of the key's columns of the statement's table, where it has two
abbrev pub Keys : Type 0
Keys = Option (List ℕ × List ℕ)

abbrev pub setting : Bool → Keys → Setting
setting base key = record { base = base; key = key }

-- the pieces lead from what is due before them to what is due behind them
abbrev pub Follows : Keys → Spot → List Piece → Spot → Type 0
Follows key spot [] end = spot ≡ end
Follows key spot (One t ∷ pieces) end = (next : Spot) × (one spot t.word ≡ Some next) × Follows key next pieces end
Follows key spot (Tree s ∷ pieces) end = (base : Bool) × (next : Spot) × (tree_at spot ≡ Some (base, next)) × IsAt (setting base key) 1 base s × Follows key next pieces end

-- these tokens are a statement
pub record IsSentence (key : Keys) (ts : List Token) : Type 0 where
  pub pieces : List Piece
  pub end : Spot
  pub follows : Follows key StatementDue pieces end
  pub ends : may_end end ≡ true
  pub spelled : pieces_tokens pieces ≡ ts

-- these tokens begin one
pub record BeginsSentence (key : Keys) (ts : List Token) : Type 0 where
  pub more : List Token
  pub whole : IsSentence key (ts ++ more)
