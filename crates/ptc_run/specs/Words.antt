-- Which words the program takes, and the line that refuses others.
use Rattle.std.specs.Prelude.{◌≤◌, ℕ, List, [], ◌∷◌, ◌++◌, Result, Ok, Err, cond, codes, length}
use Rattle.std.specs.Prelude.{slice_index_or, ◌-◌}
use Rattle.std.specs.Str.{bytes_eq}
use Rattle.std.specs.Fmt.{decimal}
use Rattle.ptc_run.specs.declared.words.WordFault.{WordFault}
use Rattle.ptc_run.specs.declared.words.WordFault.TheVariants.{Nothing, Bad}

-- the one word is `run`; else the first word that is not allowed at its place is bad
abbrev pub words_read : List (List ℕ) → Result (Unit {0}) WordFault
words_read [] = Err Nothing
words_read (word ∷ []) = cond (bytes_eq word (codes "run")) (Ok tt) (Err (Bad 1))
words_read (word ∷ second ∷ words) = cond (bytes_eq word (codes "run")) (Err (Bad 2)) (Err (Bad 1))

-- a word that is there, counted from 1
abbrev pub IsOfWords : List (List ℕ) → WordFault → Type 0
IsOfWords words Nothing = Unit {0}
IsOfWords words (Bad index) = (1 ≤ index) × (index ≤ length words)

-- the line that refuses the words
unfoldable pub word_refusal : List (List ℕ) → WordFault → List ℕ
word_refusal words Nothing = codes "ptc: no command\n"
word_refusal words (Bad index) = codes "ptc: word " ++ decimal index ++ codes " refused: " ++ slice_index_or words (index - 1) [] ++ codes "\n"

unfoldable pub workload_refused : List ℕ
workload_refused = codes "ptc: workload refused: "

-- the line that refuses a file by its first early line
unfoldable pub early_refusal : ℕ → List ℕ
early_refusal number = workload_refused ++ codes "line " ++ decimal number ++ codes ": early\n"

-- the line that refuses a file of too many bytes
unfoldable pub limit_refusal : ℕ → List ℕ
limit_refusal got = workload_refused ++ codes "limit bytes: " ++ decimal got ++ codes "\n"
