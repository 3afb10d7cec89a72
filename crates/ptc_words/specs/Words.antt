-- Which words the program takes, and what they ask for.
use Rattle.std.specs.Prelude.{ℕ, ◌+◌, ◌-◌, ◌≤◌, nat_le, ◌&&◌, Bool, true, false, cond, List, [], ◌∷◌, length, codes, Option, None, Some, Result, Ok, Err}
use Rattle.std.specs.List.{list_all}
use Rattle.std.specs.Option.{option_map, option_map_or}
use Rattle.std.specs.Char.{is_digit}
use Rattle.std.specs.Str.{bytes_eq}
use Rattle.std.specs.Str.Parse.{digits_value_after}
use Rattle.ptc_words.specs.declared.words.Options.{Options}
use Rattle.ptc_words.specs.declared.words.WordFault.{WordFault}
use Rattle.ptc_words.specs.declared.words.WordFault.TheVariants.{Nothing, Bad, Missing}
use Rattle.ptc_words.specs.declared.given.Valued.{Valued}
use Rattle.ptc_words.specs.declared.given.Valued.TheVariants.{Absent, Awaited, Is}
use Rattle.ptc_words.specs.declared.given.Given.{Given}

-- the number that digits write behind those of another number, where all are digits and it is at most this
abbrev pub number_from : ℕ → ℕ → List ℕ → Option ℕ
number_from most number text =
    cond (list_all (λ (byte : ℕ). is_digit byte 10) text && nat_le (digits_value_after 10 number text) most) (Some (digits_value_after 10 number text)) None

-- the number of one to ten digits, where it is at most this
abbrev pub number_to : ℕ → List ℕ → Option ℕ
number_to most text = cond (nat_le 1 (length text) && nat_le (length text) 10) (number_from most 0 text) None

-- the name of an option that was not given yet

abbrev pub with_trace : Given → Option Given
with_trace given = cond given.trace None (Some (record given { trace = true }))

abbrev pub with_retries : Bool → Valued → Option Given
with_retries trace Absent = Some (record { trace = trace; retries = Awaited })
with_retries trace Awaited = None
with_retries trace (Is retries) = None

abbrev pub named_after : Given → List ℕ → Option Given
named_after given word =
    cond (bytes_eq word (codes "--trace")) (with_trace given) (cond (bytes_eq word (codes "--retries")) (with_retries given.trace given.retries) None)

-- what is given with one more word; none where it is not allowed at its place
abbrev pub after_by : Valued → Given → List ℕ → Option Given
after_by Absent given word = named_after given word
after_by Awaited given word = option_map (λ (retries : ℕ). record given { retries = Is retries }) (number_to 100 word)
after_by (Is retries) given word = named_after given word

abbrev pub given_after : Given → List ℕ → Option Given
given_after given word = after_by given.retries given word

-- where no word is left, the next one having this number
abbrev pub ended_by : ℕ → Bool → Valued → Result Options WordFault
ended_by next trace Absent = Ok (record { trace = trace; retries = 2 })
ended_by next trace Awaited = Err (Missing (next - 1))
ended_by next trace (Is retries) = Ok (record { trace = trace; retries = retries })

abbrev pub ended : ℕ → Given → Result Options WordFault
ended next given = ended_by next given.trace given.retries

-- options, the next word having this number
abbrev pub options_read : ℕ → Given → List (List ℕ) → Result Options WordFault
options_read next given [] = ended next given
options_read next given (word ∷ words) = option_map_or (λ (after : Given). options_read (next + 1) after words) (given_after given word) (Err (Bad next))

-- `run`, and then options in any order, each at most once; else the first word that is not allowed at its place is bad
abbrev pub words_read : List (List ℕ) → Result Options WordFault
words_read [] = Err Nothing
words_read (word ∷ words) = cond (bytes_eq word (codes "run")) (options_read 2 (record { trace = false; retries = Absent }) words) (Err (Bad 1))

-- how many words behind `run` gave this
abbrev pub words_of_value : Valued → ℕ
words_of_value Absent = 0
words_of_value Awaited = 1
words_of_value (Is retries) = 2

abbrev pub words_behind : Given → ℕ
words_behind given = cond given.trace 1 0 + words_of_value given.retries

-- a word that is there, counted from 1
abbrev pub IsOfWords : List (List ℕ) → WordFault → Type 0
IsOfWords words Nothing = Unit {0}
IsOfWords words (Bad index) = (1 ≤ index) × (index ≤ length words)
IsOfWords words (Missing index) = (1 ≤ index) × (index ≤ length words)
