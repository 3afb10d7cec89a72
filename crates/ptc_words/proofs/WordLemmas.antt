-- A fault tells of a word that is there.
use Rattle.std.proofs.Common.{◌≡◌, ℕ, ◌+◌, ◌≤◌, ◌&&◌, cond, codes, List, [], ◌∷◌, length, Option, None, Some, Bool, true, false, Result, Ok, Err, IfErr, IfOk, IfSome, arith, leb-true, subst, sym, refl}
use Rattle.std.specs.Bool.{⊤}
use Rattle.std.specs.Prelude.{nat_le}
use Rattle.std.specs.List.{list_all}
use Rattle.std.specs.Char.{is_digit}
use Rattle.std.specs.Str.{bytes_eq}
use Rattle.std.specs.Str.Parse.{digits_value_after}
use Rattle.std.specs.Option.{option_map, option_map_or}
use Rattle.ptc_words.specs.declared.words.Options.{Options}
use Rattle.ptc_words.specs.declared.words.WordFault.{WordFault}
use Rattle.ptc_words.specs.declared.words.WordFault.TheVariants.{Bad}
use Rattle.ptc_words.specs.declared.given.Valued.{Valued}
use Rattle.ptc_words.specs.declared.given.Valued.TheVariants.{Absent, Awaited, Is}
use Rattle.ptc_words.specs.declared.given.Given.{Given}
use Rattle.ptc_words.specs.Words.{options_read, ended_by, given_after, with_trace, with_retries, number_from, IsOfWords}

ended_within : (next : ℕ) (trace : Bool) (retries : Valued) (words : List (List ℕ)) → 2 ≤ next → next ≤ length words + 1
    → IfErr (ended_by next trace retries) (IsOfWords words)
ended_within next trace Absent words from to = tt
ended_within next trace Awaited words from to = (omega arith, omega arith)
ended_within next trace (Is retries) words from to = tt

step_within : (after : Option Given) (next : ℕ) (rest words : List (List ℕ)) → 2 ≤ next → (next + 1) + length rest ≡ length words + 1
    → ((given : Given) → IfErr (options_read (next + 1) given rest) (IsOfWords words))
    → IfErr (option_map_or (λ (given : Given). options_read (next + 1) given rest) after (Err (Bad next))) (IsOfWords words)
step_within None next rest words from to more = (omega arith, omega (arith, to))
step_within (Some given) next rest words from to more = more given

within : (next : ℕ) (given : Given) (rest words : List (List ℕ)) → 2 ≤ next → next + length rest ≡ length words + 1
    → IfErr (options_read next given rest) (IsOfWords words)
within next given [] words from to = ended_within next given.trace given.retries words from (omega (arith, to))
within next given (word ∷ rest) words from to =
    step_within (given_after given word) next rest words from (omega (arith, to))
    (λ (after : Given). within (next + 1) after rest words (omega arith) (omega (arith, to)))

-- behind the first word
read_within : (word : List ℕ) (words : List (List ℕ)) → IfErr (options_read 2 (record { trace = false; retries = Absent }) words) (IsOfWords (word ∷ words))
read_within word words = within 2 (record { trace = false; retries = Absent }) words (word ∷ words) (omega arith) (omega arith)

pub faults_within : (word : List ℕ) (rest words : List (List ℕ)) (answer : Result Options WordFault)
    → words ≡ word ∷ rest → answer ≡ options_read 2 (record { trace = false; retries = Absent }) rest → IfErr answer (IsOfWords words)
faults_within word rest words answer are is = subst (λ (r : Result Options WordFault). IfErr r (IsOfWords words)) (sym is)
    (subst (λ (ws : List (List ℕ)). IfErr (options_read 2 (record { trace = false; retries = Absent }) rest) (IsOfWords ws)) (sym are) (read_within word rest))

-- ---- retries are 100 at most

abbrev Few : Valued → Type 0
Few Absent = ⊤
Few Awaited = ⊤
Few (Is retries) = retries ≤ 100

abbrev FewGiven : Option Given → Type 0
FewGiven given = IfSome given (λ (after : Given). Few after.retries)

trace_few : (trace given_trace : Bool) (retries : Valued) → Few retries → FewGiven (with_trace (record { trace = given_trace; retries = retries }))
trace_few trace true retries few = tt
trace_few trace false retries few = few

retries_few : (trace : Bool) (retries : Valued) → FewGiven (with_retries trace retries)
retries_few trace Absent = tt
retries_few trace Awaited = tt
retries_few trace (Is retries) = tt

named_few : (is_trace is_retries trace : Bool) (retries : Valued) → Few retries
    → FewGiven (cond is_trace (with_trace (record { trace = trace; retries = retries })) (cond is_retries (with_retries trace retries) None))
named_few true is_retries trace retries few = trace_few true trace retries few
named_few false true trace retries few = retries_few trace retries
named_few false false trace retries few = tt

number_few : (digits few : Bool) (number : ℕ) (trace : Bool) → (few ≡ true → number ≤ 100)
    → FewGiven (option_map (λ (retries : ℕ). record { trace = trace; retries = Is retries }) (cond (digits && few) (Some number) None))
number_few true true number trace is = is refl
number_few true false number trace is = tt
number_few false few number trace is = tt

value_few : (short : Bool) (text : List ℕ) (trace : Bool) → FewGiven (option_map (λ (retries : ℕ). record { trace = trace; retries = Is retries }) (cond short (number_from 100 0 text) None))
value_few true text trace =
    number_few (list_all (λ (byte : ℕ). is_digit byte 10) text) (nat_le (digits_value_after 10 0 text) 100) (digits_value_after 10 0 text) trace
    (λ (few : nat_le (digits_value_after 10 0 text) 100 ≡ true). leb-true (digits_value_after 10 0 text) 100 few)
value_few false text trace = tt

after_few : (trace : Bool) (retries : Valued) (word : List ℕ) → Few retries → FewGiven (given_after (record { trace = trace; retries = retries }) word)
after_few trace Absent word few = named_few (bytes_eq word (codes "--trace")) (bytes_eq word (codes "--retries")) trace Absent few
after_few trace Awaited word few = value_few (nat_le 1 (length word) && nat_le (length word) 10) word trace
after_few trace (Is retries) word few = named_few (bytes_eq word (codes "--trace")) (bytes_eq word (codes "--retries")) trace (Is retries) few

abbrev FewRetries : Result Options WordFault → Type 0
FewRetries answer = IfOk answer (λ (options : Options). options.retries ≤ 100)

ended_few : (next : ℕ) (trace : Bool) (retries : Valued) → Few retries → FewRetries (ended_by next trace retries)
ended_few next trace Absent few = omega arith
ended_few next trace Awaited few = tt
ended_few next trace (Is retries) few = few

step_few : (after : Option Given) (next : ℕ) (rest : List (List ℕ)) → FewGiven after
    → ((given : Given) → Few given.retries → FewRetries (options_read (next + 1) given rest))
    → FewRetries (option_map_or (λ (given : Given). options_read (next + 1) given rest) after (Err (Bad next)))
step_few None next rest few more = tt
step_few (Some given) next rest few more = more given few

options_few : (next : ℕ) (given : Given) (rest : List (List ℕ)) → Few given.retries → FewRetries (options_read next given rest)
options_few next given [] few = ended_few next given.trace given.retries few
options_few next given (word ∷ rest) few =
    step_few (given_after given word) next rest (after_few given.trace given.retries word few)
    (λ (after : Given) (kept : Few after.retries). options_few (next + 1) after rest kept)

pub few_retries : (rest : List (List ℕ)) (answer : Result Options WordFault)
    → answer ≡ options_read 2 (record { trace = false; retries = Absent }) rest → IfOk answer (λ (options : Options). options.retries ≤ 100)
few_retries rest answer is = subst FewRetries (sym is) (options_few 2 (record { trace = false; retries = Absent }) rest tt)
