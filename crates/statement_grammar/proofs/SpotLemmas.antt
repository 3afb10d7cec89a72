-- The table of what may follow what in a statement.
use Rattle.std.proofs.Common.{◌≡◌, ℕ, Bool, true, false, List, [], ◌∷◌, Some, None, refl, ap, subst, arith}
use Rattle.std.specs.Prelude.{codes}
use Rattle.ptc_statement.specs.declared.expressions.Op.TheVariants as op
use Rattle.statement_tokens.specs.declared.words.Math.TheVariants.{Times}
use Rattle.statement_tokens.specs.declared.words.Keyword.TheVariants as k
use Rattle.statement_tokens.specs.declared.words.Token.{Token}
use Rattle.statement_tokens.specs.declared.words.Word.{Word}
use Rattle.statement_tokens.specs.declared.words.Word.TheVariants as w
use Rattle.statement_grammar.specs.Grammar.{Shape, Leaf, Nullness, Setting, IsAt}
use Rattle.statement_grammar.specs.Machine.{Held, followed, shapes}
use Rattle.statement_grammar.specs.Sentence.{Piece, One, Tree, Spot, StatementDue, IntoDue, IntoTable, ValuesDue, OpenDue, LiteralDue, LiteralEnds, DigitsDue, FromDue, DeleteTable, WhereDue, CondDue, CondEnds, UpdateTable, SetDue, ColumnDue, EqualsDue, ExprDue, SetEnds, StarDue, SelectFrom, SelectTable, SelectWhere, SelectCond, LockDue, ForDue, InDue, ShareDue, ModeDue, ChunkTable, ChunkDue, ChunkNumber, EdgeFrom, EdgeDue, EdgeTo, UsingDue, KindDue, CountDue, CountNumber, CrcDue, CrcText, ClearTable, EndDue, NothingDue, End, Lower, Upper, Literals, OfRow, OfEdge, OnChunk, Checks, SetsMaster, behind_edge, behind_literals, behind_chunk, tree_at, one, may_end, Keys, setting, Follows}
use Rattle.statement_tokens.proofs.ReservedLemmas.{some_is}

abbrev pub is_terminator : Word → Bool
is_terminator w.Comma = true
is_terminator w.Semicolon = true
is_terminator (w.Keyword a) = true
is_terminator _ = false

pub terminates : (g : Setting) (h : Held Shape) (t : Token) (u : Word) → is_terminator u ≡ true → followed g shapes u h t ≡ None
terminates g h t w.Comma e = refl
terminates g h t w.Semicolon e = refl
terminates g h t (w.Keyword a) e = refl
terminates g h t _ e = cc

-- where a single token may stand, no tree is due
pub no_tree : (spot next : Spot) (u : Word) → one spot u ≡ Some next → tree_at spot ≡ None
no_tree CondDue next (w.Name a) e = cc
no_tree CondDue next _ e = cc
no_tree ExprDue next (w.Name a) e = cc
no_tree ExprDue next _ e = cc
no_tree SelectCond next (w.Name a) e = cc
no_tree SelectCond next _ e = cc
no_tree _ next u e = refl

-- what stands behind a tree ends it, and no tree is due there
pub record EndsTree (next : Spot) : Type 0 where
  pub words : (u : Word) (after : Spot) → one next u ≡ Some after → is_terminator u ≡ true
  pub none : tree_at next ≡ None

words_CondEnds : (u : Word) (after : Spot) → one CondEnds u ≡ Some after → is_terminator u ≡ true
words_CondEnds w.Semicolon after e = refl
words_CondEnds (w.Keyword a) after e = refl
words_CondEnds _ after e = cc

words_SetEnds : (u : Word) (after : Spot) → one SetEnds u ≡ Some after → is_terminator u ≡ true
words_SetEnds w.Comma after e = refl
words_SetEnds w.Semicolon after e = refl
words_SetEnds (w.Keyword a) after e = refl
words_SetEnds _ after e = cc

words_LockDue : (u : Word) (after : Spot) → one LockDue u ≡ Some after → is_terminator u ≡ true
words_LockDue (w.Keyword a) after e = refl
words_LockDue _ after e = cc

pub ends_tree : (spot next : Spot) (base : Bool) → tree_at spot ≡ Some (base, next) → EndsTree next
ends_tree CondDue next base e = let f : (true, CondEnds) ≡ (base, next) = some_is (true, CondEnds) (base, next) e in let n : CondEnds ≡ next = ap (λ (p : Bool × Spot). p.1) f in subst EndsTree n (record { words = words_CondEnds; none = refl })
ends_tree ExprDue next base e = let f : (false, SetEnds) ≡ (base, next) = some_is (false, SetEnds) (base, next) e in let n : SetEnds ≡ next = ap (λ (p : Bool × Spot). p.1) f in subst EndsTree n (record { words = words_SetEnds; none = refl })
ends_tree SelectCond next base e = let f : (true, LockDue) ≡ (base, next) = some_is (true, LockDue) (base, next) e in let n : LockDue ≡ next = ap (λ (p : Bool × Spot). p.1) f in subst EndsTree n (record { words = words_LockDue; none = refl })
ends_tree _ next base e = cc

-- ---- from each spot a statement can be ended

abbrev token : Word → Token
token word = record { word = word; place = 0 }

abbrev null_token : Token
null_token = token w.Null

abbrev a_condition : Shape
a_condition = Nullness (Leaf null_token) (token w.Is) (null_token ∷ [])

pub record Finish (key : Keys) (spot : Spot) : Type 0 where
  pub pieces : List Piece
  pub end : Spot
  pub follows : Follows key spot pieces end
  pub ends : may_end end ≡ true

done : (key : Keys) (spot : Spot) → may_end spot ≡ true → Finish key spot
done key spot e = record { pieces = []; end = spot; follows = refl; ends = e }

by_one : (key : Keys) (spot next : Spot) (word : Word) → one spot word ≡ Some next → Finish key next → Finish key spot
by_one key spot next word e f = record { pieces = One (token word) ∷ f.pieces; end = f.end; follows = (next, e, f.follows); ends = f.ends }

by_tree : (key : Keys) (spot next : Spot) (base : Bool) (s : Shape) → tree_at spot ≡ Some (base, next) → IsAt (setting base key) 1 base s → Finish key next → Finish key spot
by_tree key spot next base s d i f = record { pieces = Tree s ∷ f.pieces; end = f.end; follows = (base, next, d, i, f.follows); ends = f.ends }

finish_NothingDue : (key : Keys) → Finish key NothingDue
finish_NothingDue key = done key NothingDue refl

finish_EndDue : (key : Keys) → Finish key EndDue
finish_EndDue key = done key EndDue refl

finish_WhereDue : (key : Keys) → Finish key WhereDue
finish_WhereDue key = done key WhereDue refl

finish_CondEnds : (key : Keys) → Finish key CondEnds
finish_CondEnds key = done key CondEnds refl

finish_SetEnds : (key : Keys) → Finish key SetEnds
finish_SetEnds key = done key SetEnds refl

finish_CondDue : (key : Keys) → Finish key CondDue
finish_CondDue key = by_tree key CondDue CondEnds true a_condition refl (omega arith, refl, refl, refl, (refl, refl)) (finish_CondEnds key)

finish_ExprDue : (key : Keys) → Finish key ExprDue
finish_ExprDue key = by_tree key ExprDue SetEnds false (Leaf null_token) refl (refl, refl) (finish_SetEnds key)

finish_KindDue : (key : Keys) → Finish key KindDue
finish_KindDue key = by_one key KindDue EndDue (w.Keyword k.Md5) refl (finish_EndDue key)

finish_UsingDue : (key : Keys) → Finish key UsingDue
finish_UsingDue key = by_one key UsingDue KindDue (w.Keyword k.Using) refl (finish_KindDue key)

finish_UpperEdge : (key : Keys) → Finish key (EdgeDue Upper)
finish_UpperEdge key = by_one key (EdgeDue Upper) UsingDue (w.Keyword k.High) refl (finish_UsingDue key)

finish_EdgeTo : (key : Keys) → Finish key EdgeTo
finish_EdgeTo key = by_one key EdgeTo (EdgeDue Upper) (w.Keyword k.To) refl (finish_UpperEdge key)

finish_behind_edge : (key : Keys) (end : End) → Finish key (behind_edge end)
finish_behind_edge key Lower = finish_EdgeTo key
finish_behind_edge key Upper = finish_UsingDue key

finish_EdgeDue : (key : Keys) (end : End) → Finish key (EdgeDue end)
finish_EdgeDue key end = by_one key (EdgeDue end) (behind_edge end) (w.Keyword k.Low) refl (finish_behind_edge key end)

finish_behind_literals : (key : Keys) (of : Literals) → Finish key (behind_literals of)
finish_behind_literals key OfRow = finish_EndDue key
finish_behind_literals key (OfEdge end) = finish_behind_edge key end

finish_LiteralEnds : (key : Keys) (of : Literals) → Finish key (LiteralEnds of)
finish_LiteralEnds key of = by_one key (LiteralEnds of) (behind_literals of) w.Close refl (finish_behind_literals key of)

finish_LiteralDue : (key : Keys) (of : Literals) → Finish key (LiteralDue of)
finish_LiteralDue key of = by_one key (LiteralDue of) (LiteralEnds of) w.Null refl (finish_LiteralEnds key of)

finish_DigitsDue : (key : Keys) (of : Literals) → Finish key (DigitsDue of)
finish_DigitsDue key of = by_one key (DigitsDue of) (LiteralEnds of) (w.Number 0) refl (finish_LiteralEnds key of)

finish_OpenDue : (key : Keys) (of : Literals) → Finish key (OpenDue of)
finish_OpenDue key of = by_one key (OpenDue of) (LiteralDue of) w.Open refl (finish_LiteralDue key of)

finish_EdgeFrom : (key : Keys) → Finish key EdgeFrom
finish_EdgeFrom key = by_one key EdgeFrom (EdgeDue Lower) (w.Keyword k.From) refl ((λ (keys : Keys). finish_EdgeDue keys Lower) key)

abbrev a_crc : List ℕ
a_crc = codes "00000000000000000000000000000000"

finish_CrcText : (key : Keys) → Finish key CrcText
finish_CrcText key = by_one key CrcText EndDue (w.Text a_crc) refl (finish_EndDue key)

finish_CrcDue : (key : Keys) → Finish key CrcDue
finish_CrcDue key = by_one key CrcDue CrcText (w.Keyword k.Crc) refl (finish_CrcText key)

finish_CountNumber : (key : Keys) → Finish key CountNumber
finish_CountNumber key = by_one key CountNumber CrcDue (w.Number 0) refl (finish_CrcDue key)

finish_CountDue : (key : Keys) → Finish key CountDue
finish_CountDue key = by_one key CountDue CountNumber (w.Keyword k.Cnt) refl (finish_CountNumber key)

finish_behind_chunk : (key : Keys) (tool : OnChunk) → Finish key (behind_chunk tool)
finish_behind_chunk key Checks = finish_EdgeFrom key
finish_behind_chunk key SetsMaster = finish_CountDue key

finish_ChunkNumber : (key : Keys) (tool : OnChunk) → Finish key (ChunkNumber tool)
finish_ChunkNumber key tool = by_one key (ChunkNumber tool) (behind_chunk tool) (w.Number 1) refl (finish_behind_chunk key tool)

finish_ChunkDue : (key : Keys) (tool : OnChunk) → Finish key (ChunkDue tool)
finish_ChunkDue key tool = by_one key (ChunkDue tool) (ChunkNumber tool) (w.Keyword k.Chunk) refl (finish_ChunkNumber key tool)

finish_ChunkTable : (key : Keys) (tool : OnChunk) → Finish key (ChunkTable tool)
finish_ChunkTable key tool = by_one key (ChunkTable tool) (ChunkDue tool) (w.Name []) refl (finish_ChunkDue key tool)

finish_ClearTable : (key : Keys) → Finish key ClearTable
finish_ClearTable key = by_one key ClearTable EndDue (w.Name []) refl (finish_EndDue key)

finish_ValuesDue : (key : Keys) → Finish key ValuesDue
finish_ValuesDue key = by_one key ValuesDue (OpenDue OfRow) (w.Keyword k.Values) refl ((λ (keys : Keys). finish_OpenDue keys OfRow) key)

finish_IntoTable : (key : Keys) → Finish key IntoTable
finish_IntoTable key = by_one key IntoTable ValuesDue (w.Name []) refl (finish_ValuesDue key)

finish_IntoDue : (key : Keys) → Finish key IntoDue
finish_IntoDue key = by_one key IntoDue IntoTable (w.Keyword k.Into) refl (finish_IntoTable key)

finish_DeleteTable : (key : Keys) → Finish key DeleteTable
finish_DeleteTable key = by_one key DeleteTable WhereDue (w.Name []) refl (finish_WhereDue key)

finish_FromDue : (key : Keys) → Finish key FromDue
finish_FromDue key = by_one key FromDue DeleteTable (w.Keyword k.From) refl (finish_DeleteTable key)

finish_EqualsDue : (key : Keys) → Finish key EqualsDue
finish_EqualsDue key = by_one key EqualsDue ExprDue (w.Compare op.Eq) refl (finish_ExprDue key)

finish_ColumnDue : (key : Keys) → Finish key ColumnDue
finish_ColumnDue key = by_one key ColumnDue EqualsDue (w.Name []) refl (finish_EqualsDue key)

finish_SetDue : (key : Keys) → Finish key SetDue
finish_SetDue key = by_one key SetDue ColumnDue (w.Keyword k.Set) refl (finish_ColumnDue key)

finish_UpdateTable : (key : Keys) → Finish key UpdateTable
finish_UpdateTable key = by_one key UpdateTable SetDue (w.Name []) refl (finish_SetDue key)

finish_ModeDue : (key : Keys) → Finish key ModeDue
finish_ModeDue key = by_one key ModeDue EndDue (w.Keyword k.Mode) refl (finish_EndDue key)

finish_ShareDue : (key : Keys) → Finish key ShareDue
finish_ShareDue key = by_one key ShareDue ModeDue (w.Keyword k.Share) refl (finish_ModeDue key)

finish_InDue : (key : Keys) → Finish key InDue
finish_InDue key = by_one key InDue ShareDue (w.Keyword k.In) refl (finish_ShareDue key)

finish_ForDue : (key : Keys) → Finish key ForDue
finish_ForDue key = by_one key ForDue EndDue (w.Keyword k.Share) refl (finish_EndDue key)

finish_LockDue : (key : Keys) → Finish key LockDue
finish_LockDue key = by_one key LockDue ForDue (w.Keyword k.For) refl (finish_ForDue key)

finish_SelectCond : (key : Keys) → Finish key SelectCond
finish_SelectCond key = by_tree key SelectCond LockDue true a_condition refl (omega arith, refl, refl, refl, (refl, refl)) (finish_LockDue key)

finish_SelectWhere : (key : Keys) → Finish key SelectWhere
finish_SelectWhere key = by_one key SelectWhere ForDue (w.Keyword k.For) refl (finish_ForDue key)

finish_SelectTable : (key : Keys) → Finish key SelectTable
finish_SelectTable key = by_one key SelectTable SelectWhere (w.Name []) refl (finish_SelectWhere key)

finish_SelectFrom : (key : Keys) → Finish key SelectFrom
finish_SelectFrom key = by_one key SelectFrom SelectTable (w.Keyword k.From) refl (finish_SelectTable key)

finish_StarDue : (key : Keys) → Finish key StarDue
finish_StarDue key = by_one key StarDue SelectFrom (w.Math Times) refl (finish_SelectFrom key)

finish_StatementDue : (key : Keys) → Finish key StatementDue
finish_StatementDue key = by_one key StatementDue FromDue (w.Keyword k.Delete) refl (finish_FromDue key)

pub finish : (key : Keys) (spot : Spot) → Finish key spot
finish key StatementDue = finish_StatementDue key
finish key IntoDue = finish_IntoDue key
finish key IntoTable = finish_IntoTable key
finish key ValuesDue = finish_ValuesDue key
finish key (OpenDue of) = finish_OpenDue key of
finish key (LiteralDue of) = finish_LiteralDue key of
finish key (LiteralEnds of) = finish_LiteralEnds key of
finish key (DigitsDue of) = finish_DigitsDue key of
finish key FromDue = finish_FromDue key
finish key DeleteTable = finish_DeleteTable key
finish key WhereDue = finish_WhereDue key
finish key CondDue = finish_CondDue key
finish key CondEnds = finish_CondEnds key
finish key UpdateTable = finish_UpdateTable key
finish key SetDue = finish_SetDue key
finish key ColumnDue = finish_ColumnDue key
finish key EqualsDue = finish_EqualsDue key
finish key ExprDue = finish_ExprDue key
finish key SetEnds = finish_SetEnds key
finish key StarDue = finish_StarDue key
finish key SelectFrom = finish_SelectFrom key
finish key SelectTable = finish_SelectTable key
finish key SelectWhere = finish_SelectWhere key
finish key SelectCond = finish_SelectCond key
finish key LockDue = finish_LockDue key
finish key ForDue = finish_ForDue key
finish key InDue = finish_InDue key
finish key ShareDue = finish_ShareDue key
finish key ModeDue = finish_ModeDue key
finish key (ChunkTable tool) = finish_ChunkTable key tool
finish key (ChunkDue tool) = finish_ChunkDue key tool
finish key (ChunkNumber tool) = finish_ChunkNumber key tool
finish key EdgeFrom = finish_EdgeFrom key
finish key (EdgeDue end) = finish_EdgeDue key end
finish key EdgeTo = finish_EdgeTo key
finish key UsingDue = finish_UsingDue key
finish key KindDue = finish_KindDue key
finish key CountDue = finish_CountDue key
finish key CountNumber = finish_CountNumber key
finish key CrcDue = finish_CrcDue key
finish key CrcText = finish_CrcText key
finish key ClearTable = finish_ClearTable key
finish key EndDue = finish_EndDue key
finish key NothingDue = finish_NothingDue key
