-- What comes of the end of a statement.
use Rattle.std.specs.Prelude.{◌≡◌, ◌⊎◌, ◌&&◌, ℕ, nat_lt, Bool, true, List, [], ◌∷◌, None, Result, Ok, Err, length}
use Rattle.row_types.specs.declared.table_schema.Schema.{Schema}
use Rattle.ptc_statement.specs.declared.statements.Statement.{Statement}
use Rattle.statement_tokens.specs.declared.words.Token.{Token}
use Rattle.statement_tokens.specs.declared.text_ends.TextEnd.{TextEnd}
use Rattle.statement_grammar.specs.declared.text_faults.TextFault.{TextFault}
use Rattle.statement_grammar.specs.declared.text_faults.TextFault.TheVariants.{Memory}
use Rattle.statement_grammar.specs.Sentence.{StatementDue, Keys}
use Rattle.statement_grammar.specs.Draft.{nothing_known}
use Rattle.statement_grammar.specs.FirstFault.{BreaksOff, IsWrong, IsStatement, IsText, IsFirstFault}
use Rattle.statement_reading_laws.specs.Reading.{Reading}
use Rattle.statement_reading.specs.declared.readers.Reader.{Reader}
use Rattle.statement_ends.specs.Ends.{said}

-- the tables, and the columns of each, can be counted in 32 bits
abbrev pub columns_fit : List Schema → Bool
columns_fit [] = true
columns_fit (schema ∷ schemas) = nat_lt (length schema.columns) 4294967296 && columns_fit schemas

abbrev pub are_countable : List Schema → Bool
are_countable schemas = nat_lt (length schemas) 4294967296 && columns_fit schemas

abbrev pub nothing_read : Reading
nothing_read = record { spot = StatementDue; draft = nothing_known; sets = []; where_true = None; first = None }

abbrev pub IsSaid : List Schema → Reader → Result Statement TextFault → Type 0
IsSaid schemas r (Ok statement) = statement ≡ said schemas r.draft r.sets r.cond
IsSaid schemas r (Err f) = f ≡ Memory

-- these tokens, with this end, are the statement, or this is their first fault
abbrev pub IsFinished : List Schema → Keys → List Token → TextEnd → Result Statement TextFault → Type 0
IsFinished schemas key ts end (Ok statement) = IsStatement key schemas ts end statement
IsFinished schemas key ts end (Err f) = (f ≡ Memory) ⊎ (BreaksOff key schemas ts end f ⊎ IsWrong key schemas ts end f)

-- the text is the statement, or this is its first fault
abbrev pub IsRead : List Schema → List ℕ → Result Statement TextFault → Type 0
IsRead schemas text (Ok statement) = IsText schemas text statement
IsRead schemas text (Err f) = (f ≡ Memory) ⊎ IsFirstFault schemas text f

-- what is answered for a statement
abbrev pub IsOnly : Statement → Result Statement TextFault → Type 0
IsOnly statement (Ok other) = other ≡ statement
IsOnly statement (Err f) = f ≡ Memory

-- what is answered where a text has this first fault
abbrev pub IsExactly : TextFault → Result Statement TextFault → Type 0
IsExactly fault (Ok statement) = ⊥
IsExactly fault (Err f) = (f ≡ Memory) ⊎ (f ≡ fault)
