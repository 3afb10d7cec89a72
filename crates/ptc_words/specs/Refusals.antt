-- The lines that refuse words and a run of too many moves.
use Rattle.std.specs.Prelude.{ℕ, ◌-◌, List, [], ◌++◌, codes, slice_index_or}
use Rattle.std.specs.Fmt.{decimal}
use Rattle.ptc_words.specs.declared.words.WordFault.{WordFault}
use Rattle.ptc_words.specs.declared.words.WordFault.TheVariants.{Nothing, Bad, Missing}

-- the word of this number
abbrev pub word_at : List (List ℕ) → ℕ → List ℕ
word_at words index = slice_index_or words (index - 1) []

-- of a program of this name
unfoldable pub word_refusal : List ℕ → List (List ℕ) → WordFault → List ℕ
word_refusal program words Nothing = program ++ codes ": no command\n"
word_refusal program words (Bad index) = program ++ codes ": word " ++ decimal index ++ codes " refused: " ++ word_at words index ++ codes "\n"
word_refusal program words (Missing index) = program ++ codes ": value missing: " ++ word_at words index ++ codes "\n"

unfoldable pub steps_refusal : List ℕ → ℕ → List ℕ
steps_refusal program moves = program ++ codes ": step limit " ++ decimal moves ++ codes "\n"
