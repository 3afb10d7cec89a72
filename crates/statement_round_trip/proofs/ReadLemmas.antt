-- Words that are read one by one.
use Rattle.std.proofs.Common.{◌≡◌, ℕ, ◌≤◌, Bool, true, List, [], ◌∷◌, ◌++◌, Option, None, Some, refl, sym, ◌∙◌, ap, subst}
use Rattle.std.specs.Prelude.{length, map}
use Rattle.row_types.specs.declared.table_schema.Schema.{Schema}
use Rattle.ptc_statement.specs.declared.statements.Statement.{Statement}
use Rattle.statement_tokens.specs.declared.words.Token.{Token}
use Rattle.statement_tokens.specs.declared.words.Word.{Word}
use Rattle.statement_grammar.specs.declared.text_faults.TextFault.TheVariants.{UnknownColumn}
use Rattle.statement_grammar.specs.Grammar.{Shape, IsAt, tokens_of}
use Rattle.statement_grammar.specs.Cut.{Part, whole, len, cut, height}
use Rattle.statement_grammar.specs.Kinds.{breaches, unknown_in, places}
use Rattle.statement_grammar.specs.Sentence.{Piece, One, Tree, pieces_tokens, Spot, Keys, setting, tree_at, one, may_end, Follows}
use Rattle.statement_grammar.specs.Draft.{Draft, with_token, with_tree, spot_or, tree_next, drafted, said_as}
use Rattle.statement_grammar.specs.Faults.{kind_fault, column_or_0, deep_in, condition_faults, assignment_breach, assignment_faults, token_faults, tree_faults, faults_from}
use Rattle.statement_text_laws.specs.SpelledWords.{words_of}
use Rattle.statement_round_trip.proofs.PlacedLemmas.{at, First, first_of, Split, split, no_words, Same, Placed, placed, empties}
use Rattle.statement_round_trip.proofs.DeepLemmas.{none_deep, whole_cut}

-- these tokens end a statement, from a spot on
pub record Rest (schemas : List Schema) (key : Keys) (spot : Spot) (draft : Draft) (ts : List Token) (statement : Statement) : Type 0 where
  pub pieces : List Piece
  pub end : Spot
  pub spelled : pieces_tokens pieces ≡ ts
  pub follows : Follows key spot pieces end
  pub ends : may_end end ≡ true
  pub right : faults_from schemas spot draft pieces None ≡ []
  pub said : said_as (drafted schemas spot draft pieces).form (drafted schemas spot draft pieces) ≡ statement

-- whatever the places, tokens of these words do
abbrev pub Reads : List Schema → Keys → Spot → Draft → List Word → Statement → Type 0
Reads schemas key spot draft words statement = (ts : List Token) → words_of ts ≡ words → Rest schemas key spot draft ts statement

pub at_end : (schemas : List Schema) (key : Keys) (spot : Spot) (draft : Draft) (statement : Statement) → may_end spot ≡ true → said_as draft.form draft ≡ statement → Reads schemas key spot draft [] statement
at_end schemas key spot draft statement e s ts none = record { pieces = []; end = spot; spelled = sym (no_words ts none); follows = refl; ends = e; right = refl; said = s }

-- a single token; what is known behind it may depend on its place
pub next : (schemas : List Schema) (key : Keys) (spot : Spot) (draft : Draft) (word : Word) (words : List Word) (statement : Statement) (mid : Spot) → one spot word ≡ Some mid
    → ((place : ℕ) → token_faults schemas spot draft word place ≡ []) → ((place : ℕ) → Reads schemas key mid (with_token schemas spot draft word place) words statement)
    → Reads schemas key spot draft (word ∷ words) statement
next schemas key spot draft word words statement mid e f more ts are = put (more i.place i.later i.rest)
  where
    i : First word words ts
    i = first_of word words ts are

    put : Rest schemas key mid (with_token schemas spot draft word i.place) i.later statement → Rest schemas key spot draft ts statement
    put j = record {
      pieces = One (at word i.place) ∷ j.pieces;
      end = j.end;
      spelled = ap (λ (l : List Token). at word i.place ∷ l) j.spelled ∙ sym i.are;
      follows = (mid, e, j.follows);
      ends = j.ends;
      right = empties (token_faults schemas spot draft word i.place) (faults_from schemas (spot_or spot (one spot word)) (with_token schemas spot draft word i.place) j.pieces None) (f i.place)
          (ap (λ (o : Option Spot). faults_from schemas (spot_or spot o) (with_token schemas spot draft word i.place) j.pieces None) e ∙ j.right);
      said = ap (λ (o : Option Spot). said_as (drafted schemas (spot_or spot o) (with_token schemas spot draft word i.place) j.pieces).form (drafted schemas (spot_or spot o) (with_token schemas spot draft word i.place) j.pieces)) e ∙ j.said;
    }

-- the same where what is known behind the token does not depend on its place
pub step : (schemas : List Schema) (key : Keys) (spot : Spot) (draft between : Draft) (word : Word) (words : List Word) (statement : Statement) (mid : Spot) → one spot word ≡ Some mid
    → ((place : ℕ) → token_faults schemas spot draft word place ≡ []) → ((place : ℕ) → with_token schemas spot draft word place ≡ between) → Reads schemas key mid between words statement
    → Reads schemas key spot draft (word ∷ words) statement
step schemas key spot draft between word words statement mid e f g more =
    next schemas key spot draft word words statement mid e f (λ place. subst (λ (d : Draft). Reads schemas key mid d words statement) (sym (g place)) more)

-- what is to be known of a tree: it may stand here, has no fault, and says what it is to say
pub record TreeRight (schemas : List Schema) (key : Keys) (spot : Spot) (draft between : Draft) (base : Bool) (s : Shape) : Type 0 where
  pub stands : IsAt (setting base key) 1 base s
  pub right : tree_faults draft.schema spot draft s (length (tokens_of s)) ≡ []
  pub says : with_tree draft.schema spot draft s ≡ between

pub tree : (schemas : List Schema) (key : Keys) (spot : Spot) (draft between : Draft) (base : Bool) (mid : Spot) (s : Shape) (words : List Word) (statement : Statement) → tree_at spot ≡ Some (base, mid)
    → ((r : Shape) → Same s r → TreeRight schemas key spot draft between base r) → Reads schemas key mid between words statement
    → Reads schemas key spot draft (words_of (tokens_of s) ++ words) statement
tree schemas key spot draft between base mid s words statement e rights more ts are = put (rights i.tree i.same) (more b.back b.rest)
  where
    b : Split (words_of (tokens_of s)) words ts
    b = split (words_of (tokens_of s)) words ts are

    i : Placed s b.front
    i = placed s b.front b.first

    put : TreeRight schemas key spot draft between base i.tree → Rest schemas key mid between b.back statement → Rest schemas key spot draft ts statement
    put r j = record {
      pieces = Tree i.tree ∷ j.pieces;
      end = j.end;
      spelled = ap (λ (l : List Token). l ++ pieces_tokens j.pieces) i.spelled ∙ ap (λ (l : List Token). b.front ++ l) j.spelled ∙ sym b.are;
      follows = (base, mid, e, r.stands, j.follows);
      ends = j.ends;
      right = empties (tree_faults draft.schema spot draft i.tree (length (tokens_of i.tree))) (faults_from schemas (tree_next spot (tree_at spot)) (with_tree draft.schema spot draft i.tree) j.pieces None) r.right
          (ap (λ (o : Option (Bool × Spot)). faults_from schemas (tree_next spot o) (with_tree draft.schema spot draft i.tree) j.pieces None) e ∙ ap (λ (d : Draft). faults_from schemas mid d j.pieces None) r.says ∙ j.right);
      said = ap (λ (o : Option (Bool × Spot)). said_as (drafted schemas (tree_next spot o) (with_tree draft.schema spot draft i.tree) j.pieces).form (drafted schemas (tree_next spot o) (with_tree draft.schema spot draft i.tree) j.pieces)) e
          ∙ ap (λ (d : Draft). said_as (drafted schemas mid d j.pieces).form (drafted schemas mid d j.pieces)) r.says ∙ j.said;
    }

-- ---- trees without a fault

pub cond_right : (schema : Schema) (key : Keys) (base : Bool) (s : Shape) → IsAt (setting base key) 1 base s → height (whole s) ≤ 64 → unknown_in schema (whole s) ≡ [] → breaches schema (whole s) ≡ []
    → condition_faults schema (cut true (len s) s) (deep_in s (len s)) ≡ []
cond_right schema key base s is h u b =
    ap (λ (x : Part). condition_faults schema x (deep_in s (len s))) (whole_cut (setting base key) 1 base s is) ∙ ap (condition_faults schema (whole s)) (none_deep (setting base key) 1 base s is h)
    ∙ ap (λ (l : List ℕ). (map UnknownColumn l ++ []) ++ map (kind_fault 0) (breaches schema (whole s))) u ∙ ap (λ (l : List ℕ). map (kind_fault 0) l) b

pub expr_right : (schema : Schema) (key : Keys) (base : Bool) (column : Option ℕ) (s : Shape) → IsAt (setting base key) 1 base s → height (whole s) ≤ 64 → unknown_in schema (whole s) ≡ [] → assignment_breach schema column (whole s) ≡ None
    → assignment_faults schema column (cut true (len s) s) (deep_in s (len s)) ≡ []
expr_right schema key base column s is h u b =
    ap (λ (x : Part). assignment_faults schema column x (deep_in s (len s))) (whole_cut (setting base key) 1 base s is) ∙ ap (assignment_faults schema column (whole s)) (none_deep (setting base key) 1 base s is h)
    ∙ ap (λ (l : List ℕ). (map UnknownColumn l ++ []) ++ map (kind_fault (column_or_0 column)) (places (assignment_breach schema column (whole s)))) u ∙ ap (λ (o : Option ℕ). map (kind_fault (column_or_0 column)) (places o)) b
