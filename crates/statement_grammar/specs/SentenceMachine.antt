-- The machine that reads statements: at a spot, or within a tree.
use Rattle.std.specs.Prelude.{◌≡◌, Bool, true, false, ◌&&◌, List, [], ◌∷◌, Option, None, Some, if◌then◌else◌}
use Rattle.statement_tokens.specs.declared.words.Token.{Token}
use Rattle.statement_tokens.specs.declared.words.Word.{Word}
use Rattle.statement_grammar.specs.declared.frames.Frame.{Frame}
use Rattle.statement_grammar.specs.Grammar.{Shape}
use Rattle.statement_grammar.specs.Machine.{Held, State, Due, shapes, close, moved as tree_moved, held_at, same_sort}
use Rattle.statement_grammar.specs.Sentence.{Spot, StatementDue, tree_at, one, may_end, Keys, setting, IsSentence, BeginsSentence}

pub data Place : Type 0 where
  At : Spot → Place
  In : Bool → Spot → State Shape → Place

abbrev pub put_at : Option Spot → Option Place
put_at None = None
put_at (Some spot) = Some (At spot)

abbrev pub put_in : Bool → Spot → Option (State Shape) → Option Place
put_in base next None = None
put_in base next (Some s) = Some (In base next s)

abbrev pub no_frames : List (Frame Shape) → Bool
no_frames [] = true
no_frames (f ∷ fs) = false

abbrev pub is_bare : Bool → Option (Held Shape) → Bool
is_bare base None = false
is_bare base (Some h) = no_frames h.stack && same_sort base h.condition

abbrev pub closed_held : Option (Held Shape) → Option (Held Shape)
closed_held None = None
closed_held (Some h) = close shapes 1 h.stack h.condition h.x

-- a whole tree has been read
abbrev pub is_whole : Bool → State Shape → Bool
is_whole base s = is_bare base (closed_held (held_at shapes s))

-- a token behind a tree, where the tree does not go on
abbrev pub behind_tree : Bool → Spot → State Shape → Word → Option (State Shape) → Option Place
behind_tree base next s word (Some more) = Some (In base next more)
behind_tree base next s word None = if is_whole base s then put_at (one next word) else None

abbrev pub entered : Keys → Option (Bool × Spot) → Spot → Token → Option Place
entered key None spot t = put_at (one spot t.word)
entered key (Some due) spot t = put_in due.0 due.1 (tree_moved (setting due.0 key) shapes (Due []) t)

abbrev pub stepped : Keys → Place → Token → Option Place
stepped key (At spot) t = entered key (tree_at spot) spot t
stepped key (In base next s) t = behind_tree base next s t.word (tree_moved (setting base key) shapes s t)

abbrev pub bound : Option Place → (Place → Option Place) → Option Place
bound None f = None
bound (Some place) f = f place

abbrev pub walk : Keys → Place → List Token → Option Place
walk key place [] = Some place
walk key place (t ∷ ts) = bound (stepped key place t) (λ next. walk key next ts)

abbrev pub place_ends : Place → Bool
place_ends (At spot) = may_end spot
place_ends (In base next s) = is_whole base s && may_end next

-- the tokens are read to the end
pub record IsWalked (key : Keys) (ts : List Token) : Type 0 where
  pub place : Place
  pub walks : walk key (At StatementDue) ts ≡ Some place
  pub ends : place_ends place ≡ true

abbrev pub CompleteSentences : Type 0
CompleteSentences = (key : Keys) (ts : List Token) → IsSentence key ts → IsWalked key ts

abbrev pub SoundSentences : Type 0
SoundSentences = (key : Keys) (ts : List Token) → IsWalked key ts → IsSentence key ts

abbrev pub LiveSentences : Type 0
LiveSentences = (key : Keys) (ts : List Token) (place : Place) → walk key (At StatementDue) ts ≡ Some place → BeginsSentence key ts

abbrev pub BegunSentences : Type 0
BegunSentences = (key : Keys) (ts : List Token) → BeginsSentence key ts → (place : Place) × (walk key (At StatementDue) ts ≡ Some place)
