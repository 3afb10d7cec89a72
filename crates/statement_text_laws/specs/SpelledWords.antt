-- Words that bytes spell, whatever stands before them.
use Rattle.std.specs.Prelude.{◌≡◌, ℕ, ◌==◌, ◌&&◌, ◌||◌, Bool, true, false, is_some, List, [], ◌∷◌, ◌++◌, Some, map}
use Rattle.std.specs.List.{slice_get}
use Rattle.row_types.specs.declared.values.Value.{Value}
use Rattle.row_types.specs.declared.values.Value.TheVariants.{Null, Int, Text}
use Rattle.row_types.specs.declared.table_schema.Column.{Column}
use Rattle.row_types.specs.declared.table_schema.Schema.{Schema}
use Rattle.ptc_statement.specs.declared.expressions.Expr.{Expr, Expr-F, fold-Expr}
use Rattle.ptc_statement.specs.declared.conditions.Cond.{Cond, Cond-F, fold-Cond}
use Rattle.statement_tokens.specs.declared.words.Token.{Token}
use Rattle.statement_tokens.specs.declared.words.Word.{Word}
use Rattle.statement_tokens.specs.declared.text_ends.TextEnd.TheVariants.{Whole}
use Rattle.statement_tokens.specs.Spellings.{IsNameText, is_text_byte}
use Rattle.statement_tokens.specs.Tokens.{TokenAt, AreSpaces, AreTokensOf}
use Rattle.statement_grammar.specs.Grammar.{tokens_of}
use Rattle.statement_grammar.specs.Sentence.{Keys}
use Rattle.statement_grammar.specs.FirstFault.{keys_of}
use Rattle.statement_text.specs.ConditionTexts.{expr_text, cond_text}
use Rattle.statement_text_laws.specs.Canonical.{expr_tree, cond_tree, in_64_bits, expr_passes_at, key_passes, cond_passes_at}

-- these bytes, with the rest behind them, are these words; no number needs a sign before it
abbrev pub Spelled : List Word → List ℕ → List ℕ → Type 0
Spelled [] bytes rest = bytes ≡ []
Spelled (word ∷ words) bytes rest =
    (blanks : List ℕ) × (text : List ℕ) × (later : List ℕ) × (bytes ≡ blanks ++ (text ++ later)) × AreSpaces blanks
    × TokenAt false word text (later ++ rest) × Spelled words later rest

abbrev pub words_of : List Token → List Word
words_of ts = map (λ (t : Token). t.word) ts

-- words that are spelled are the tokens of their text
abbrev pub WordsAreRead : Type 0
WordsAreRead =
    (words : List Word) (bytes : List ℕ) → Spelled words bytes []
    → (ts : List Token) × (past : ℕ) × AreTokensOf bytes ts (Whole past) × (words_of ts ≡ words)

-- no token goes on here: at the end, a space, `)` or `,`
abbrev pub ends_token : List ℕ → Bool
ends_token [] = true
ends_token (byte ∷ bytes) = byte == 32 || (byte == 41 || byte == 44)

abbrev pub are_text_bytes : List ℕ → Bool
are_text_bytes [] = true
are_text_bytes (byte ∷ bytes) = is_text_byte byte && are_text_bytes bytes

abbrev pub literal_spells : Value → Bool
literal_spells Null = true
literal_spells (Int n) = in_64_bits n
literal_spells (Text text) = are_text_bytes text

abbrev pub expr_spells_at : Schema → Expr-F Bool → Bool
expr_spells_at schema expr = expr_passes_at literal_spells (λ (column : ℕ). is_some (slice_get schema.columns column)) expr

-- numbers of 64 bits, texts without control characters, columns that are there
abbrev pub expr_spells : Schema → Expr → Bool
expr_spells schema expr = fold-Expr Bool (expr_spells_at schema) expr

-- each column has a name
abbrev pub HasNames : Schema → Type 0
HasNames schema = (n : ℕ) (column : Column) → slice_get schema.columns n ≡ Some column → IsNameText column.name column.name

-- the text of an expression spells the words of its tree
abbrev pub ExprsAreSpelled : Type 0
ExprsAreSpelled =
    (schemas : List Schema) (table : ℕ) (schema : Schema) (expr : Expr) (rest : List ℕ)
    → slice_get schemas table ≡ Some schema → HasNames schema → expr_spells schema expr ≡ true → ends_token rest ≡ true
    → Spelled (words_of (tokens_of (expr_tree schema expr))) (expr_text schemas table expr) rest

abbrev pub key_spells : Keys → List Value → Bool
key_spells keys key = key_passes literal_spells keys key

-- as for expressions
abbrev pub cond_spells_at : Schema → Cond-F Bool → Bool
cond_spells_at schema condition = cond_passes_at (expr_spells schema) (key_spells (keys_of schema)) condition

abbrev pub cond_spells : Schema → Cond → Bool
cond_spells schema condition = fold-Cond Bool (cond_spells_at schema) condition

-- the text of a condition spells the words of its tree
abbrev pub CondsAreSpelled : Type 0
CondsAreSpelled =
    (schemas : List Schema) (table : ℕ) (schema : Schema) (condition : Cond) (rest : List ℕ)
    → slice_get schemas table ≡ Some schema → HasNames schema → cond_spells schema condition ≡ true → ends_token rest ≡ true
    → Spelled (words_of (tokens_of (cond_tree schema condition))) (cond_text schemas table condition) rest
