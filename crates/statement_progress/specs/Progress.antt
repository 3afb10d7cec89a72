-- How far a statement is read.
use Rattle.std.specs.Prelude.{◌≡◌, ◌⊎◌, ℕ, Bool, List, [], ◌∷◌, ◌++◌, Result, Ok, Err}
use Rattle.row_types.specs.declared.table_schema.Schema.{Schema}
use Rattle.statement_tokens.specs.declared.words.Token.{Token}
use Rattle.statement_tokens.specs.declared.text_ends.TextEnd.{TextEnd}
use Rattle.statement_grammar.specs.declared.text_faults.TextFault.{TextFault}
use Rattle.statement_grammar.specs.declared.text_faults.TextFault.TheVariants.{At, Memory}
use Rattle.statement_grammar.specs.Sentence.{Keys}
use Rattle.statement_grammar.specs.FirstFault.{earlier, keys_in, BreaksOff}
use Rattle.statement_reader.specs.Spots.{spot_of}
use Rattle.statement_reader.specs.declared.spots.Spot.{Spot}
use Rattle.statement_drafts.specs.Drafts.{schema_at}
use Rattle.statement_trees.specs.Trees.{IsReading}
use Rattle.statement_trees.specs.declared.trees.TreeStep.{TreeStep}
use Rattle.statement_trees.specs.declared.trees.TreeStep.TheVariants as step
use Rattle.statement_reading_laws.specs.Reading.{IsAtSpot, IsInTree}
use Rattle.statement_reading.specs.Readers.{reading_of, used}
use Rattle.statement_reading.specs.declared.readers.Reader.{Reader}
use Rattle.statement_progress.specs.declared.progress.Inner.{Inner}
use Rattle.statement_progress.specs.declared.progress.Progress.{Progress}
use Rattle.statement_progress.specs.declared.progress.Progress.TheVariants as p

-- a tree is open, of which these tokens are read, one or more
pub record IsOpenAt (schemas : List Schema) (key : Keys) (front : List Token) (r : Reader) (base : Bool) (next : Spot) (ts : List Token) : Type 0 where
  pub some : ts ≡ [] → ⊥
  pub in_tree : IsInTree schemas key front (reading_of schemas r) ts base
  pub behind : in_tree.next ≡ spot_of next

-- these tokens of a tree are read
pub record IsWithin (schemas : List Schema) (nothing : Schema) (key : Keys) (front : List Token) (x : Inner) : Type 0 where
  pub ts : List Token
  pub is_open : IsOpenAt schemas key front x.reader x.base x.next ts
  pub reads : IsReading (used nothing (schema_at schemas x.reader.draft.table)) x.base ts x.tree

-- these tokens of a statement are read
abbrev pub IsProgress : List Schema → Schema → Keys → List Token → Progress → Type 0
IsProgress schemas nothing key front (p.At r) = IsAtSpot schemas key front (reading_of schemas r)
IsProgress schemas nothing key front (p.In x) = IsWithin schemas nothing key front x

-- with a token more they are read too, or they break off before it
abbrev pub GoesOn : List Schema → Schema → Keys → List Token → Token → List Token → Result Progress TextFault → Type 0
GoesOn schemas nothing key front t rest (Ok behind) = IsProgress schemas nothing key (front ++ t ∷ []) behind
GoesOn schemas nothing key front t rest (Err f) = (f ≡ Memory) ⊎ ((end : TextEnd) → BreaksOff key schemas (front ++ (t ∷ rest)) end f)

-- what comes of a tree's first token
abbrev pub entered_by : Reader → Bool → Spot → TreeStep → ℕ → Result Progress TextFault
entered_by r base next (step.Moved tree) place = Ok (p.In (record { reader = r; base = base; next = next; tree = tree }))
entered_by r base next (step.Stuck tree token) place = Err (earlier (At place) r.first)
