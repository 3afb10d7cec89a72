-- The spelling of SCHEDULE lines.
use Rattle.std.proofs.Common.{◌≡◌, ℕ, Bool, List, [], ◌∷◌, ◌++◌, map, refl, sym, ap, subst, ◌∙◌, append_assoc, arith, get_or}
use Rattle.std.specs.Prelude.{IsTrue, codes}
use Rattle.std.specs.List.{AllByRecursion, flat_map}
use Rattle.std.proofs.lemmas.List.{append_cancel_left, flat_map_more}
use Rattle.ptc_run.specs.declared.row_lines.RowLine.{RowLine}
use Rattle.ptc_run.specs.declared.script_lines.ScriptText.{ScriptText}
use Rattle.ptc_run.specs.declared.script_lines.ScriptText.TheVariants.{Insert, Update, Delete}
use Rattle.ptc_run.specs.declared.schedule_lines.ScheduleWord.{ScheduleWord}
use Rattle.ptc_run.specs.declared.schedule_lines.ScheduleWord.TheVariants.{Session, Tool, Worker}
use Rattle.ptc_run.specs.Lines.{IsFreeOf}
use Rattle.ptc_run.specs.RowLines.{row_line}
use Rattle.ptc_run.specs.ScriptLines.{script_line, session_line}
use Rattle.ptc_run.specs.ScheduleLines.{word_text, words_text, schedule_line, AllowedWord, AllowedWords, IsNoSchedule}
use Rattle.ptc_run.specs.ScheduleReads.{BeginsNoWord, WordRead}
use Rattle.ptc_run.specs.FirstForm.{end_line}
use Rattle.ptc_run.proofs.LineLemmas.{free-append, IsLine}
use Rattle.ptc_run.proofs.ListLemmas.{all_append}
use Rattle.ptc_run.proofs.RowLemmas.{first, free_text}
use Rattle.ptc_run.proofs.ScriptLemmas.{differ, end_first, row_first, insert_first, update_first, delete_first}

pub schedule_line_is : (words : List ScheduleWord) → schedule_line words ≡ codes "SCHEDULE" ++ words_text words
unfolding schedule_line
schedule_line_is words = refl

words_more : (word : ScheduleWord) (words : List ScheduleWord) (rest : List ℕ) → flat_map word_text (word ∷ words) ++ rest ≡ word_text word ++ (flat_map word_text words ++ rest)
words_more word words rest = append_assoc (word_text word) (flat_map word_text words) rest

-- ---- the words are told apart

abbrev second : List ℕ → ℕ
second xs = get_or xs 1 0

word_once : (v w : ScheduleWord) (xs ys : List ℕ) → word_text v ++ xs ≡ word_text w ++ ys → (v ≡ w) × (xs ≡ ys)
word_once Session Session xs ys e = (refl, append_cancel_left (word_text Session) xs ys e)
word_once Session Tool xs ys e = absurd (let letters : 115 ≡ 99 = ap second e in omega arith)
word_once Session Worker xs ys e = absurd (let letters : 115 ≡ 114 = ap second e in omega arith)
word_once Tool Session xs ys e = absurd (let letters : 99 ≡ 115 = ap second e in omega arith)
word_once Tool Tool xs ys e = (refl, append_cancel_left (word_text Tool) xs ys e)
word_once Tool Worker xs ys e = absurd (let letters : 99 ≡ 114 = ap second e in omega arith)
word_once Worker Session xs ys e = absurd (let letters : 114 ≡ 115 = ap second e in omega arith)
word_once Worker Tool xs ys e = absurd (let letters : 114 ≡ 99 = ap second e in omega arith)
word_once Worker Worker xs ys e = (refl, append_cancel_left (word_text Worker) xs ys e)

begins_blank : (word : ScheduleWord) (xs : List ℕ) → first (word_text word ++ xs) ≡ 32
begins_blank Session xs = refl
begins_blank Tool xs = refl
begins_blank Worker xs = refl

no_word_at_end : (some_session : Bool) (word : ScheduleWord) (more : List ℕ) → AllowedWord some_session word → 10 ∷ [] ≡ word_text word ++ more → ⊥
no_word_at_end some_session word more allowed e = absurd (let letters : 10 ≡ 32 = ap first e ∙ begins_blank word more in omega arith)

-- words that no further word follows are all the words of a line
words_match : (some_session : Bool) (vs ws : List ScheduleWord) (rest : List ℕ) → AllowedWords some_session ws → BeginsNoWord some_session rest → flat_map word_text vs ++ rest ≡ words_text ws → (vs ≡ ws) × (rest ≡ 10 ∷ [])
words_match some_session [] [] rest f ends e = (refl, e)
words_match some_session [] (w ∷ ws) rest f ends e = absurd (ends w (words_text ws) f.0 (e ∙ words_more w ws (10 ∷ [])))
words_match some_session (v ∷ vs) [] rest f ends e =
    absurd (let letters : 32 ≡ 10 = sym (begins_blank v (flat_map word_text vs ++ rest)) ∙ ap first (sym (words_more v vs rest) ∙ e) in omega arith)
words_match some_session (v ∷ vs) (w ∷ ws) rest f ends e =
    let heads = word_once v w (flat_map word_text vs ++ rest) (words_text ws) (sym (words_more v vs rest) ∙ e ∙ words_more w ws (10 ∷ [])) in
    let tails = words_match some_session vs ws rest f.1 ends heads.1 in
    ((λ i. heads.0 i ∷ tails.0 i), tails.1)

pub schedule_line_once : (some_session : Bool) (vs ws : List ScheduleWord) → AllowedWords some_session vs → AllowedWords some_session ws → schedule_line vs ≡ schedule_line ws → ◌≡◌ {A = List ScheduleWord} vs ws
schedule_line_once some_session vs ws f g e =
    let words : words_text vs ≡ words_text ws = append_cancel_left (codes "SCHEDULE") (words_text vs) (words_text ws) (sym (schedule_line_is vs) ∙ e ∙ schedule_line_is ws) in
    let parts = words_match some_session vs ws (10 ∷ []) g (no_word_at_end some_session) words in
    parts.0

-- ---- no other line is one

schedule_first : (words : List ScheduleWord) → first (schedule_line words) ≡ 83
schedule_first words = ap first (schedule_line_is words)

session_second : second session_line ≡ 69
unfolding session_line
session_second = refl

pub schedule_not_session : (words : List ScheduleWord) → schedule_line words ≡ session_line → ⊥
schedule_not_session words e = absurd (let letters : 67 ≡ 69 = sym (ap second (schedule_line_is words)) ∙ ap second e ∙ session_second in omega arith)

pub schedule_not_end : (words : List ScheduleWord) → schedule_line words ≡ end_line → ⊥
schedule_not_end words e = differ (schedule_line words) end_line 83 69 (schedule_first words) end_first (λ no. omega arith) e

pub row_not_schedule : (row : RowLine) (words : List ScheduleWord) → row_line row ≡ schedule_line words → ⊥
row_not_schedule row words e = differ (row_line row) (schedule_line words) 82 83 (row_first row) (schedule_first words) (λ no. omega arith) e

pub script_not_schedule : (text : ScriptText) (words : List ScheduleWord) → script_line text ≡ schedule_line words → ⊥
script_not_schedule (Insert key value) words e = differ (script_line (Insert key value)) (schedule_line words) 73 83 (insert_first key value) (schedule_first words) (λ no. omega arith) e
script_not_schedule (Update key value) words e = differ (script_line (Update key value)) (schedule_line words) 85 83 (update_first key value) (schedule_first words) (λ no. omega arith) e
script_not_schedule (Delete key) words e = differ (script_line (Delete key)) (schedule_line words) 68 83 (delete_first key) (schedule_first words) (λ no. omega arith) e

-- ---- each line ends in a line feed

word_free : (word : ScheduleWord) → IsFreeOf 10 (word_text word)
word_free Session = free_text 10 (word_text Session) refl
word_free Tool = free_text 10 (word_text Tool) refl
word_free Worker = free_text 10 (word_text Worker) refl

words_free : (words : List ScheduleWord) → IsFreeOf 10 (flat_map word_text words)
words_free [] = tt
words_free (word ∷ words) = free-append 10 (word_text word) (flat_map word_text words) (word_free word) (words_free words)

pub schedule_line-IsLine : (words : List ScheduleWord) → IsLine (schedule_line words)
schedule_line-IsLine words = record {
  front = codes "SCHEDULE" ++ flat_map word_text words;
  free = free-append 10 (codes "SCHEDULE") (flat_map word_text words) (free_text 10 (codes "SCHEDULE") refl) (words_free words);
  text = schedule_line_is words ∙ sym (append_assoc (codes "SCHEDULE") (flat_map word_text words) (10 ∷ []));
}

pub schedule-AreLines : (schedule : List (List ScheduleWord)) → AllByRecursion IsLine (map schedule_line schedule)
schedule-AreLines [] = tt
schedule-AreLines (words ∷ schedule) = (schedule_line-IsLine words, schedule-AreLines schedule)

-- ---- the steps of the code

pub record WordsSoFar (text : List ℕ) (some_session : Bool) (words : List ScheduleWord) (rest : List ℕ) : Type 0 where
  pub allowed : AllowedWords some_session words
  pub parts : text ≡ flat_map word_text words ++ rest

pub no_words : (text : List ℕ) (some_session : Bool) (words : List ScheduleWord) → ◌≡◌ {A = List ScheduleWord} words [] → WordsSoFar text some_session words text
no_words text some_session words none = record {
  allowed = subst (AllowedWords some_session) (sym none) tt;
  parts = ap (λ (x : List ScheduleWord). flat_map word_text x ++ text) (sym none);
}

pub is_schedule : (line text rest : List ℕ) (some_session : Bool) (words : List ScheduleWord) → line ≡ codes "SCHEDULE" ++ text → WordsSoFar text some_session words rest → rest ≡ 10 ∷ [] → (line ≡ schedule_line words) × AllowedWords some_session words
is_schedule line text rest some_session words e h end =
    (e ∙ ap (λ (x : List ℕ). codes "SCHEDULE" ++ x) (h.parts ∙ ap (λ (x : List ℕ). flat_map word_text words ++ x) end) ∙ sym (schedule_line_is words), h.allowed)

pub other_word : (line : List ℕ) (some_session : Bool) → ((more : List ℕ) → line ≡ codes "SCHEDULE" ++ more → ⊥) → IsNoSchedule some_session line
other_word line some_session other = λ words allowed e. other (words_text words) (e ∙ schedule_line_is words)

pub other_end : (line text rest : List ℕ) (some_session : Bool) (words : List ScheduleWord) → line ≡ codes "SCHEDULE" ++ text → WordsSoFar text some_session words rest → BeginsNoWord some_session rest → (rest ≡ 10 ∷ [] → ⊥) → IsNoSchedule some_session line
other_end line text rest some_session words e h ends other = λ texts allowed is.
    let behind : text ≡ words_text texts = append_cancel_left (codes "SCHEDULE") text (words_text texts) (sym e ∙ is ∙ schedule_line_is texts) in
    let parts = words_match some_session words texts rest allowed ends (sym h.parts ∙ behind) in
    other parts.1
