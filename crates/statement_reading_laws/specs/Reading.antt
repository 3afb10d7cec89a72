-- What is read of a statement, in the words of the grammar.
use Rattle.std.specs.Prelude.{◌≡◌, ◌⊎◌, Bool, true, false, List, [], ◌∷◌, ◌++◌, length, Option, Some, None}
use Rattle.row_types.specs.declared.table_schema.Schema.{Schema}
use Rattle.ptc_statement.specs.declared.assignments.Assignment.{Assignment}
use Rattle.ptc_statement.specs.declared.conditions.Cond.{Cond}
use Rattle.statement_tokens.specs.declared.words.Token.{Token}
use Rattle.statement_grammar.specs.declared.text_faults.TextFault.{TextFault}
use Rattle.statement_grammar.specs.Grammar.{Shape, IsAt, tokens_of}
use Rattle.statement_grammar.specs.Machine as m
use Rattle.statement_grammar.specs.Machine.{run, shapes}
use Rattle.statement_grammar.specs.Sentence.{Piece, pieces_tokens, Spot, StatementDue, Keys, setting, Follows, tree_at, one, may_end}
use Rattle.statement_grammar.specs.SentenceMachine.{Place, At, In, put_at, stepped, walk, place_ends}
use Rattle.statement_grammar.specs.Draft.{Draft, nothing_known, with_token, with_tree}
use Rattle.statement_grammar.specs.Faults.{token_faults, tree_faults, faults_from}
use Rattle.statement_grammar.specs.FirstFault.{first_of, first_name, keys_of}
use Rattle.statement_faults.specs.TreeFaults.{merged}
use Rattle.statement_piece_laws.specs.Pieces.{bare, known}
use Rattle.statement_piece_laws.specs.Names.{before_table}

-- what is due, what is known but for expressions and the condition, these, and the first fault so far
pub record Reading : Type 0 where
  pub spot : Spot
  pub draft : Draft
  pub sets : List Assignment
  pub where_true : Option Cond
  pub first : Option TextFault

abbrev pub keys_known : Option Schema → Keys
keys_known None = None
keys_known (Some schema) = keys_of schema

-- the table is not named yet, and nothing else is; or it is, and its key's columns are known
abbrev pub IsNamed : Keys → List Token → Spot → Draft → Type 0
IsNamed key front spot draft =
    ((before_table spot ≡ true) × (draft.schema ≡ None) × ((later : List Token) → first_name (front ++ later) ≡ first_name later))
    ⊎ ((before_table spot ≡ false) × (key ≡ keys_known draft.schema))

-- these pieces are read
pub record HasRead (schemas : List Schema) (key : Keys) (front : List Token) (pieces : List Piece) (r : Reading) : Type 0 where
  pub follows : Follows key StatementDue pieces r.spot
  pub draft : r.draft ≡ bare (known schemas pieces)
  pub terms : r.first ≡ None → ((known schemas pieces).sets ≡ r.sets) × ((known schemas pieces).where_true ≡ r.where_true)
  pub first : r.first ≡ first_of (faults_from schemas StatementDue nothing_known pieces None)
  pub named : IsNamed key front r.spot r.draft

-- no tree is open, and a token is tried at the spot
pub record IsReady (schemas : List Schema) (key : Keys) (front : List Token) (r : Reading) (t : Token) : Type 0 where
  pub pieces : List Piece
  pub has : HasRead schemas key front pieces r
  pub spelled : pieces_tokens pieces ≡ front
  pub place : Place
  pub walks : walk key (At StatementDue) front ≡ Some place
  pub goes : stepped key place t ≡ put_at (one r.spot t.word)

-- no tree is open, and the tokens end
pub record IsAtEnd (schemas : List Schema) (key : Keys) (front : List Token) (r : Reading) : Type 0 where
  pub pieces : List Piece
  pub has : HasRead schemas key front pieces r
  pub spelled : pieces_tokens pieces ≡ front
  pub place : Place
  pub walks : walk key (At StatementDue) front ≡ Some place
  pub ends : place_ends place ≡ may_end r.spot

-- a single token or a tree is due
pub record IsAtSpot (schemas : List Schema) (key : Keys) (front : List Token) (r : Reading) : Type 0 where
  pub pieces : List Piece
  pub has : HasRead schemas key front pieces r
  pub spelled : pieces_tokens pieces ≡ front
  pub walks : walk key (At StatementDue) front ≡ Some (At r.spot)

-- a tree is open, of which these tokens are read
pub record IsInTree (schemas : List Schema) (key : Keys) (front : List Token) (r : Reading) (ts : List Token) (base : Bool) : Type 0 where
  pub pieces : List Piece
  pub has : HasRead schemas key front pieces r
  pub next : Spot
  pub due : tree_at r.spot ≡ Some (base, next)
  pub spelled : pieces_tokens pieces ++ ts ≡ front
  pub state : m.State Shape
  pub runs : run (setting base key) shapes (m.Due []) ts ≡ Some state
  pub walks : walk key (At StatementDue) front ≡ Some (In base next state)

-- with its expressions and its condition
abbrev pub all_known : Reading → Draft
all_known r = record r.draft { sets = r.sets; where_true = r.where_true }

-- with a token that is due
abbrev pub with_one : List Schema → Reading → Spot → Token → Reading
with_one schemas r next t = record {
  spot = next;
  draft = with_token schemas r.spot r.draft t.word t.place;
  sets = r.sets;
  where_true = r.where_true;
  first = merged r.first (first_of (token_faults schemas r.spot r.draft t.word t.place));
}

-- with a whole tree: expressions and the condition count where there is no fault
pub record HasTree (r : Reading) (next : Spot) (s : Shape) (behind : Reading) : Type 0 where
  pub spot : behind.spot ≡ next
  pub draft : behind.draft ≡ r.draft
  pub first : behind.first ≡ merged r.first (first_of (tree_faults r.draft.schema r.spot r.draft s (length (tokens_of s))))
  pub sets : behind.first ≡ None → behind.sets ≡ (with_tree r.draft.schema r.spot (all_known r) s).sets
  pub where_true : behind.first ≡ None → behind.where_true ≡ (with_tree r.draft.schema r.spot (all_known r) s).where_true
