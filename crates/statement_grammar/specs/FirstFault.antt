-- Which fault of a text comes first, and which texts are statements.
use Rattle.std.specs.Prelude.{◌≡◌, ◌⊎◌, ◌<◌, ◌≤◌, ◌==◌, ◌&&◌, ◌||◌, nat_lt, ⊤, ℕ, Bool, List, [], ◌∷◌, ◌++◌, Option, None, Some, take, length, if◌then◌else◌}
use Rattle.row_types.specs.declared.table_schema.Column.{Column}
use Rattle.row_types.specs.declared.table_schema.Schema.{Schema}
use Rattle.row_types.specs.declared.row_faults.RowFault.{RowFault}
use Rattle.row_types.specs.declared.row_faults.RowFault.TheVariants.{Arity, NullIn, Kind, OutOfRange, TooLong}
use Rattle.ptc_statement.specs.declared.statements.Statement.{Statement}
use Rattle.statement_tokens.specs.declared.words.Token.{Token}
use Rattle.statement_tokens.specs.declared.words.Word.{Word}
use Rattle.statement_tokens.specs.declared.words.Word.TheVariants as w
use Rattle.statement_tokens.specs.declared.text_ends.TextEnd.{TextEnd}
use Rattle.statement_tokens.specs.declared.text_ends.TextEnd.TheVariants.{Whole, NoToken}
use Rattle.statement_tokens.specs.Tokens.{AreTokensOf}
use Rattle.statement_grammar.specs.declared.text_faults.TextFault.{TextFault}
use Rattle.statement_grammar.specs.declared.text_faults.TextFault.TheVariants.{At, UnknownTable, UnknownColumn, KeyAssigned, NullIntoNotNull, Literal, TooDeep, Memory}
use Rattle.statement_grammar.specs.Grammar.{Shape, IsAt, tokens_of}
use Rattle.statement_grammar.specs.Sentence.{Piece, pieces_tokens, Spot, StatementDue, Keys, setting, Follows, tree_at, IsSentence, BeginsSentence}
use Rattle.statement_grammar.specs.Draft.{nothing_known, table_from, statement_of}
use Rattle.statement_grammar.specs.Faults.{faults_from}

-- ---- the order of faults

abbrev pub place_of_fault : TextFault → ℕ
place_of_fault (At place) = place
place_of_fault (UnknownTable place) = place
place_of_fault (UnknownColumn place) = place
place_of_fault (KeyAssigned place) = place
place_of_fault (NullIntoNotNull place) = place
place_of_fault (Literal place fault) = place
place_of_fault (TooDeep place) = place
place_of_fault Memory = 0

abbrev pub row_rank : RowFault → ℕ
row_rank (Arity got want) = 5
row_rank (NullIn column) = 6
row_rank (Kind column) = 7
row_rank (OutOfRange column value) = 8
row_rank (TooLong column len) = 9

abbrev pub rank_of : TextFault → ℕ
rank_of (At place) = 0
rank_of (UnknownTable place) = 1
rank_of (UnknownColumn place) = 2
rank_of (KeyAssigned place) = 3
rank_of (NullIntoNotNull place) = 4
rank_of (Literal place fault) = row_rank fault
rank_of (TooDeep place) = 10
rank_of Memory = 11

-- the first comes before the second: at a lesser place, or at the same place and in the order of faults
abbrev pub comes_before : TextFault → TextFault → Bool
comes_before f h =
    nat_lt (place_of_fault f) (place_of_fault h) || ((place_of_fault f == place_of_fault h) && nat_lt (rank_of f) (rank_of h))

abbrev pub earlier : TextFault → Option TextFault → TextFault
earlier f None = f
earlier f (Some h) = if comes_before h f then h else f

-- the fault that comes first, of those that tie the one that stands first
abbrev pub first_of : List TextFault → Option TextFault
first_of [] = None
first_of (f ∷ fs) = Some (earlier f (first_of fs))

-- the first does not come behind the second
abbrev pub NotBehind : TextFault → TextFault → Type 0
NotBehind f h = (place_of_fault f < place_of_fault h) ⊎ ((place_of_fault f ≡ place_of_fault h) × (rank_of f ≤ rank_of h))

abbrev pub IsAmong : TextFault → List TextFault → Type 0
IsAmong f [] = ⊥
IsAmong f (h ∷ hs) = (f ≡ h) ⊎ IsAmong f hs

-- it is one of these, and none of them comes before it
pub record IsLeast (f : TextFault) (faults : List TextFault) : Type 0 where
  pub among : IsAmong f faults
  pub least : (other : TextFault) → IsAmong other faults → NotBehind f other

-- what comes first is least, and there is such a fault wherever there is one
abbrev pub FirstIsLeast : Type 0
FirstIsLeast = (faults : List TextFault) (f : TextFault) → first_of faults ≡ Some f → IsLeast f faults

-- ---- where a text stops

-- one past the text's end, or the place of what is no token
abbrev pub end_place : TextEnd → ℕ
end_place (Whole past) = past
end_place (NoToken place) = place

abbrev pub IsWhole : TextEnd → Type 0
IsWhole (Whole past) = ⊤
IsWhole (NoToken place) = ⊥

-- The front is all that may begin a statement: with the next token the tokens begin none, or there is
-- no next token and no statement ends here.
pub record StopsAt (key : Keys) (ts : List Token) (end : TextEnd) (front left : List Token) : Type 0 where
  pub are : ts ≡ front ++ left
  pub begins : BeginsSentence key front
  pub not_next : (t : Token) (rest : List Token) → left ≡ t ∷ rest → BeginsSentence key (front ++ t ∷ []) → ⊥
  pub not_whole : left ≡ [] → IsWhole end → IsSentence key front → ⊥

abbrev pub next_place : TextEnd → List Token → ℕ
next_place end [] = end_place end
next_place end (t ∷ ts) = t.place

abbrev pub open_tokens : Option (Shape × ℕ) → List Token
open_tokens None = []
open_tokens (Some tree) = take tree.1 (tokens_of tree.0)

-- a tree of which at least one token is read, where one is due
abbrev pub IsOpen : Keys → Spot → Option (Shape × ℕ) → Type 0
IsOpen key spot None = ⊤
IsOpen key spot (Some tree) = (1 ≤ tree.1) × (tree.1 ≤ length (tokens_of tree.0)) × ((base : Bool) × (next : Spot) × (tree_at spot ≡ Some (base, next)) × IsAt (setting base key) 1 base tree.0)

-- the tokens read so far are these pieces, and maybe so many tokens of a tree, which goes on somehow
pub record SoFar (key : Keys) (ts : List Token) (pieces : List Piece) (tree : Option (Shape × ℕ)) : Type 0 where
  pub spot : Spot
  pub follows : Follows key StatementDue pieces spot
  pub open_tree : IsOpen key spot tree
  pub spelled : pieces_tokens pieces ++ open_tokens tree ≡ ts

-- ---- the first fault

-- a text that is in no form of a statement
pub record BreaksOff (key : Keys) (schemas : List Schema) (ts : List Token) (end : TextEnd) (fault : TextFault) : Type 0 where
  pub front : List Token
  pub left : List Token
  pub stops : StopsAt key ts end front left
  pub pieces : List Piece
  pub tree : Option (Shape × ℕ)
  pub so_far : SoFar key front pieces tree
  pub first : first_of (At (next_place end left) ∷ faults_from schemas StatementDue nothing_known pieces tree) ≡ Some fault

-- a text in a form of a statement
pub record IsWrong (key : Keys) (schemas : List Schema) (ts : List Token) (end : TextEnd) (fault : TextFault) : Type 0 where
  pub all : IsWhole end
  pub whole : IsSentence key ts
  pub first : first_of (faults_from schemas StatementDue nothing_known whole.pieces None) ≡ Some fault

-- a text without a fault
pub record IsStatement (key : Keys) (schemas : List Schema) (ts : List Token) (end : TextEnd) (statement : Statement) : Type 0 where
  pub all : IsWhole end
  pub whole : IsSentence key ts
  pub right : faults_from schemas StatementDue nothing_known whole.pieces None ≡ []
  pub is : statement ≡ statement_of schemas whole.pieces

-- ---- texts

-- the first name in a statement is its table's
abbrev pub name_or : Word → List ℕ → List ℕ
name_or (w.Name name) later = name
name_or word later = later

abbrev pub first_name : List Token → List ℕ
first_name [] = []
first_name (t ∷ ts) = name_or t.word (first_name ts)

abbrev pub two_names : List Column → Keys
two_names (first ∷ second ∷ columns) = Some (first.name, second.name)
two_names columns = None

abbrev pub keys_of : Schema → Keys
keys_of schema = if schema.key_len == 2 then two_names schema.columns else None

abbrev pub keys_found : Option (ℕ × Schema) → Keys
keys_found None = None
keys_found (Some found) = keys_of found.1

-- the names of the key's columns in the statement's table, where it has two
abbrev pub keys_in : List Schema → List Token → Keys
keys_in schemas ts = keys_found (table_from 0 schemas (first_name ts))

-- the text is this statement
pub record IsText (schemas : List Schema) (text : List ℕ) (statement : Statement) : Type 0 where
  pub tokens : List Token
  pub end : TextEnd
  pub are : AreTokensOf text tokens end
  pub is : IsStatement (keys_in schemas tokens) schemas tokens end statement

-- the text is no statement, and this is its first fault
pub record IsFirstFault (schemas : List Schema) (text : List ℕ) (fault : TextFault) : Type 0 where
  pub tokens : List Token
  pub end : TextEnd
  pub are : AreTokensOf text tokens end
  pub is : BreaksOff (keys_in schemas tokens) schemas tokens end fault ⊎ IsWrong (keys_in schemas tokens) schemas tokens end fault
