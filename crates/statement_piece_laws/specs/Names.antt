-- Where a statement's table is named.
use Rattle.std.specs.Prelude.{◌≡◌, ℕ, Bool, true, false, List, Some}
use Rattle.statement_tokens.specs.declared.words.Word.{Word}
use Rattle.statement_tokens.specs.declared.words.Word.TheVariants as w
use Rattle.statement_grammar.specs.Sentence as g
use Rattle.statement_grammar.specs.Sentence.{Spot, one}
use Rattle.statement_grammar.specs.FirstFault.{name_or}

-- the table's name is due
abbrev pub takes_table : Spot → Bool
takes_table g.IntoTable = true
takes_table g.DeleteTable = true
takes_table g.UpdateTable = true
takes_table g.SelectTable = true
takes_table (g.ChunkTable tool) = true
takes_table g.ClearTable = true
takes_table _ = false

-- the table is not named yet
abbrev pub before_table : Spot → Bool
before_table g.StatementDue = true
before_table g.IntoDue = true
before_table g.FromDue = true
before_table g.StarDue = true
before_table g.SelectFrom = true
before_table spot = takes_table spot

pub record LeadsToTable (word : Word) (next : Spot) : Type 0 where
  pub before : before_table next ≡ true
  pub no_name : (later : List ℕ) → name_or word later ≡ later

abbrev pub NamesNone : Type 0
NamesNone = (spot next : Spot) (word : Word) → before_table spot ≡ true → takes_table spot ≡ false → one spot word ≡ Some next → LeadsToTable word next

pub record LeadsBehind (word : Word) (next : Spot) : Type 0 where
  pub behind : before_table next ≡ false
  pub name : List ℕ
  pub is : word ≡ w.Name name

abbrev pub NamesTable : Type 0
NamesTable = (spot next : Spot) (word : Word) → takes_table spot ≡ true → one spot word ≡ Some next → LeadsBehind word next

abbrev pub StaysBehind : Type 0
StaysBehind = (spot next : Spot) (word : Word) → before_table spot ≡ false → one spot word ≡ Some next → before_table next ≡ false
