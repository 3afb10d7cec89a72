-- What one piece more adds.
use Rattle.std.specs.Prelude.{◌≡◌, ℕ, List, [], ◌∷◌, ◌++◌, length, Option, Some, None}
use Rattle.row_types.specs.declared.table_schema.Schema.{Schema}
use Rattle.statement_tokens.specs.declared.words.Token.{Token}
use Rattle.statement_tokens.specs.declared.words.Word.{Word}
use Rattle.statement_grammar.specs.Grammar.{Shape, tokens_of}
use Rattle.statement_grammar.specs.Sentence.{Piece, One, Tree, Spot, StatementDue, Keys, Follows}
use Rattle.statement_grammar.specs.Draft.{Draft, nothing_known, with_token, with_tree, drafted}
use Rattle.statement_grammar.specs.Faults.{token_faults, tree_faults, faults_from}
use Rattle.statement_grammar.specs.FirstFault.{first_of}
use Rattle.statement_grammar.specs.declared.text_faults.TextFault.{TextFault}
use Rattle.statement_faults.specs.TreeFaults.{merged}

-- what is known of a statement but for its expressions and its condition
abbrev pub bare : Draft → Draft
bare draft = record draft { sets = []; where_true = None }

abbrev pub known : List Schema → List Piece → Draft
known schemas pieces = drafted schemas StatementDue nothing_known pieces

abbrev pub first_fault : List Schema → List Piece → Option (Shape × ℕ) → Option TextFault
first_fault schemas pieces tree = first_of (faults_from schemas StatementDue nothing_known pieces tree)

abbrev pub AddsPiece : Type 0
AddsPiece =
    (key : Keys) (schemas : List Schema) (pieces more : List Piece) (spot : Spot) → Follows key StatementDue pieces spot
    → known schemas (pieces ++ more) ≡ drafted schemas spot (known schemas pieces) more

abbrev pub AddsToken : Type 0
AddsToken =
    (key : Keys) (schemas : List Schema) (pieces : List Piece) (spot : Spot) (t : Token) → Follows key StatementDue pieces spot
    → first_fault schemas (pieces ++ One t ∷ []) None ≡ merged (first_fault schemas pieces None) (first_of (token_faults schemas spot (known schemas pieces) t.word t.place))

abbrev pub AddsTree : Type 0
AddsTree =
    (key : Keys) (schemas : List Schema) (pieces : List Piece) (spot : Spot) (s : Shape) → Follows key StatementDue pieces spot
    → first_fault schemas (pieces ++ Tree s ∷ []) None ≡ merged (first_fault schemas pieces None) (first_of (tree_faults (known schemas pieces).schema spot (known schemas pieces) s (length (tokens_of s))))

-- the faults of a tree behind the pieces of which n tokens are read
abbrev pub HasOpenTree : Type 0
HasOpenTree =
    (key : Keys) (schemas : List Schema) (pieces : List Piece) (spot : Spot) (s : Shape) (n : ℕ) → Follows key StatementDue pieces spot
    → first_fault schemas pieces (Some (s, n)) ≡ merged (first_fault schemas pieces None) (first_of (tree_faults (known schemas pieces).schema spot (known schemas pieces) s n))

abbrev pub KeepsBare : Type 0
KeepsBare = (schemas : List Schema) (spot : Spot) (draft : Draft) (word : Word) (place : ℕ) → bare (with_token schemas spot draft word place) ≡ with_token schemas spot (bare draft) word place

abbrev pub KeepsBareTree : Type 0
KeepsBareTree = (schema : Option Schema) (spot : Spot) (draft : Draft) (s : Shape) → bare (with_tree schema spot draft s) ≡ bare draft

abbrev pub KeepsFaults : Type 0
KeepsFaults = (schemas : List Schema) (spot : Spot) (draft : Draft) (word : Word) (place : ℕ) → token_faults schemas spot (bare draft) word place ≡ token_faults schemas spot draft word place

abbrev pub KeepsTreeFaults : Type 0
KeepsTreeFaults = (schema : Option Schema) (spot : Spot) (draft : Draft) (s : Shape) (n : ℕ) → tree_faults schema spot (bare draft) s n ≡ tree_faults schema spot draft s n
