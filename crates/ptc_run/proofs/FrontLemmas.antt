-- The lines of a file of the first form: a prefix of them goes on in one way.
use Rattle.std.proofs.Common.{◌≡◌, ℕ, ◌+◌, true, Option, None, Some, List, [], ◌∷◌, ◌++◌, map, length, refl, sym, ap, subst, ◌∙◌, append_assoc, arith, inl, inr, length-append, not, eqb}
use Rattle.std.specs.Prelude.{codes, is_some, Bool}
use Rattle.std.specs.List.{AllByRecursion, concat, list_all}
use Rattle.std.proofs.lemmas.List.{append_cancel_left, map-append, length-map}
use Rattle.std.proofs.lemmas.List.Elements.{filter-append}
use Rattle.ptc_run.specs.declared.row_lines.RowLine.{RowLine}
use Rattle.ptc_run.specs.declared.script_lines.ScriptText.{ScriptText}
use Rattle.ptc_run.specs.declared.schedule_lines.ScheduleWord.{ScheduleWord}
use Rattle.ptc_run.specs.Lines.{lines_of}
use Rattle.ptc_run.specs.RowLines.{row_line, NumbersFit, is_for_source, is_for_replica}
use Rattle.ptc_run.specs.ScriptLines.{script_line, session_line, session_lines, NumbersFitScript, AllowedScript, EndsScript}
use Rattle.ptc_run.specs.ScheduleLines.{schedule_line, AllowedWords, AllowedSchedule, EndsSchedule}
use Rattle.ptc_run.specs.FirstForm.{head_lines, end_line, text_lines, source_rows, replica_rows, keys_of, Allowed, AllowedRows, AreDistinct}
use Rattle.ptc_run.specs.KeptRows.{EndsRows}
use Rattle.ptc_run.proofs.LineLemmas.{IsLine, lines_of-concat}
use Rattle.ptc_run.proofs.ListLemmas.{all_append, all_front, all_back, all_map, all_weaker, distinct_front, items_match}
use Rattle.ptc_run.proofs.RowLemmas.{row_line_once, row_line_not_end, row_line-IsLine, free_text}
use Rattle.ptc_run.proofs.ScriptLemmas.{script_line_once, script_line_not_end, script_line-IsLine, session_not_end, row_not_session}
use Rattle.ptc_run.proofs.ScheduleLemmas.{schedule_line_once, schedule_not_session, schedule_not_end, row_not_schedule, script_not_schedule, schedule-AreLines}

-- ---- what stands behind the script, and behind the rows, with these lines at the end

abbrev pub behind_script : List (List ScheduleWord) → List (List ℕ) → List (List ℕ)
behind_script schedule left = map schedule_line schedule ++ left

abbrev pub behind_rows : Option (List ScriptText) → List (List ScheduleWord) → List (List ℕ) → List (List ℕ)
behind_rows script schedule left = session_lines script ++ behind_script schedule left

-- ---- the lines of the text

fixed-IsLine : (front : List ℕ) → list_all (λ b. not (eqb b 10)) front ≡ true → IsLine (front ++ 10 ∷ [])
fixed-IsLine front e = record { front = front; free = free_text 10 front e; text = refl }

head-AreLines : AllByRecursion IsLine head_lines
unfolding head_lines
head-AreLines = (fixed-IsLine (codes "PTC WORKLOAD 1") refl, (fixed-IsLine (codes "REPLICAS 1") refl, (fixed-IsLine (codes "TABLE t (id BIGINT KEY, v BIGINT)") refl, tt)))

end-IsLine : IsLine end_line
unfolding end_line
end-IsLine = fixed-IsLine (codes "END") refl

session-IsLine : IsLine session_line
unfolding session_line
session-IsLine = fixed-IsLine (codes "SESSION s1") refl

script-AreLines : (script : Option (List ScriptText)) → AllowedScript script → AllByRecursion IsLine (session_lines script)
script-AreLines None fits = tt
script-AreLines (Some texts) fits = (session-IsLine, all_map IsLine script_line texts (all_weaker NumbersFitScript (λ (text : ScriptText). IsLine (script_line text)) script_line-IsLine texts fits))

text-AreLines : (rows : List RowLine) (script : Option (List ScriptText)) (schedule : List (List ScheduleWord)) → Allowed rows script schedule → AllByRecursion IsLine (text_lines rows script schedule)
text-AreLines rows script schedule allowed =
    all_append IsLine head_lines (map row_line rows ++ behind_rows script schedule (end_line ∷ [])) head-AreLines
    (all_append IsLine (map row_line rows) (behind_rows script schedule (end_line ∷ [])) (all_map IsLine row_line rows (all_weaker NumbersFit (λ (row : RowLine). IsLine (row_line row)) row_line-IsLine rows allowed.of_rows.numbers))
    (all_append IsLine (session_lines script) (behind_script schedule (end_line ∷ [])) (script-AreLines script allowed.of_script)
    (all_append IsLine (map schedule_line schedule) (end_line ∷ []) (schedule-AreLines schedule) (end-IsLine, tt))))

pub lines_of_text : (bytes : List ℕ) (rows : List RowLine) (script : Option (List ScriptText)) (schedule : List (List ScheduleWord)) → Allowed rows script schedule → bytes ≡ concat (text_lines rows script schedule) → lines_of bytes ≡ text_lines rows script schedule
lines_of_text bytes rows script schedule allowed e = ap lines_of e ∙ lines_of-concat (text_lines rows script schedule) (text-AreLines rows script schedule allowed)

-- ---- fronts of what is allowed

pub Allowed-front : (rows more : List RowLine) → AllowedRows (rows ++ more) → AllowedRows rows
Allowed-front rows more h = record {
  numbers = all_front NumbersFit rows more h.numbers;
  source_once = distinct_front (keys_of (source_rows rows)) (keys_of (source_rows more)) (subst AreDistinct (ap keys_of (filter-append (λ (row : RowLine). is_for_source row.node) rows more) ∙ map-append (λ (row : RowLine). row.key) (source_rows rows) (source_rows more)) h.source_once);
  replica_once = distinct_front (keys_of (replica_rows rows)) (keys_of (replica_rows more)) (subst AreDistinct (ap keys_of (filter-append (λ (row : RowLine). is_for_replica row.node) rows more) ∙ map-append (λ (row : RowLine). row.key) (replica_rows rows) (replica_rows more)) h.replica_once);
}

pub Allowed-none : AllowedRows []
Allowed-none = record { numbers = tt; source_once = tt; replica_once = tt }

-- ---- the lines before END

abbrev pub front_lines : List RowLine → Option (List ScriptText) → List (List ScheduleWord) → List (List ℕ)
front_lines rows script schedule = head_lines ++ (map row_line rows ++ (session_lines script ++ map schedule_line schedule))

pub front_parts : (rows : List RowLine) (script : Option (List ScriptText)) (schedule : List (List ScheduleWord)) (left : List (List ℕ)) → front_lines rows script schedule ++ left ≡ head_lines ++ (map row_line rows ++ behind_rows script schedule left)
front_parts rows script schedule left =
    append_assoc head_lines (map row_line rows ++ (session_lines script ++ map schedule_line schedule)) left
    ∙ ap (λ (x : List (List ℕ)). head_lines ++ x) (append_assoc (map row_line rows) (session_lines script ++ map schedule_line schedule) left
    ∙ ap (λ (x : List (List ℕ)). map row_line rows ++ x) (append_assoc (session_lines script) (map schedule_line schedule) left))

pub front_number : (rows : List RowLine) (script : Option (List ScriptText)) (schedule : List (List ScheduleWord)) → length (front_lines rows script schedule) ≡ length rows + length (session_lines script) + length schedule + 3
unfolding head_lines
front_number rows script schedule = omega (
  arith,
  length-append (map row_line rows) (session_lines script ++ map schedule_line schedule),
  length-append (session_lines script) (map schedule_line schedule),
  length-map rows row_line,
  length-map schedule schedule_line,
)

-- these lines go on with no row, no script and no schedule
pub record EndsFront (rows : List RowLine) (script : Option (List ScriptText)) (schedule : List (List ScheduleWord)) (left : List (List ℕ)) : Type 0 where
  pub of_rows : EndsRows rows (behind_rows script schedule left)
  pub of_script : EndsScript script (behind_script schedule left)
  pub of_schedule : EndsSchedule (is_some script) left

-- ---- END ends a front

end_no_row : (script : Option (List ScriptText)) (schedule : List (List ScheduleWord)) (more rest : List (List ℕ)) (row : RowLine) → behind_rows script schedule (end_line ∷ more) ≡ row_line row ∷ rest → ⊥
end_no_row None [] more rest row e = row_line_not_end row (let same : row_line row ≡ end_line = cc in same)
end_no_row None (words ∷ schedule) more rest row e = row_not_schedule row words (let same : row_line row ≡ schedule_line words = cc in same)
end_no_row (Some texts) schedule more rest row e = row_not_session row (let same : row_line row ≡ session_line = cc in same)

end_no_session : (schedule : List (List ScheduleWord)) (more rest : List (List ℕ)) → behind_script schedule (end_line ∷ more) ≡ session_line ∷ rest → ⊥
end_no_session [] more rest e = session_not_end (let same : session_line ≡ end_line = cc in same)
end_no_session (words ∷ schedule) more rest e = schedule_not_session words (let same : schedule_line words ≡ session_line = cc in same)

end_no_text : (schedule : List (List ScheduleWord)) (more rest : List (List ℕ)) (text : ScriptText) → behind_script schedule (end_line ∷ more) ≡ script_line text ∷ rest → ⊥
end_no_text [] more rest text e = script_line_not_end text (let same : script_line text ≡ end_line = cc in same)
end_no_text (words ∷ schedule) more rest text e = script_not_schedule text words (let same : script_line text ≡ schedule_line words = cc in same)

end_no_schedule : (more rest : List (List ℕ)) (words : List ScheduleWord) → end_line ∷ more ≡ schedule_line words ∷ rest → ⊥
end_no_schedule more rest words e = schedule_not_end words (let same : schedule_line words ≡ end_line = cc in same)

end-EndsScript : (script : Option (List ScriptText)) (schedule : List (List ScheduleWord)) (more : List (List ℕ)) → EndsScript script (behind_script schedule (end_line ∷ more))
end-EndsScript None schedule more = λ rest e. end_no_session schedule more rest e
end-EndsScript (Some texts) schedule more = λ text rest fits e. end_no_text schedule more rest text e

end-EndsFront : (rows : List RowLine) (script : Option (List ScriptText)) (schedule : List (List ScheduleWord)) (more : List (List ℕ)) → EndsFront rows script schedule (end_line ∷ more)
end-EndsFront rows script schedule more = record {
  of_rows = record { ends = λ row rest a e. end_no_row script schedule more rest row e };
  of_script = end-EndsScript script schedule more;
  of_schedule = λ words rest allowed e. end_no_schedule more rest words e;
}

-- ---- what ends a front is its next line

-- the first line is the same whatever stands behind the next one
starts_again : (xs : List (List ℕ)) (line item : List ℕ) (more other rest : List (List ℕ)) → xs ++ line ∷ other ≡ item ∷ rest → (later : List (List ℕ)) × (xs ++ line ∷ more ≡ item ∷ later)
starts_again [] line item more other rest e = (more, (let same : line ≡ item = cc in ap (λ (x : List ℕ). x ∷ more) same))
starts_again (x ∷ xs) line item more other rest e = (xs ++ line ∷ more, (let same : x ≡ item = cc in ap (λ (y : List ℕ). y ∷ (xs ++ line ∷ more)) same))

rows_start_again : (script : Option (List ScriptText)) (schedule : List (List ScheduleWord)) (line item : List ℕ) (more other rest : List (List ℕ)) → behind_rows script schedule (line ∷ other) ≡ item ∷ rest → (later : List (List ℕ)) × (behind_rows script schedule (line ∷ more) ≡ item ∷ later)
rows_start_again None schedule line item more other rest e = starts_again (map schedule_line schedule) line item more other rest e
rows_start_again (Some texts) schedule line item more other rest e =
    let behind : List (List ℕ) = map script_line texts ++ behind_script schedule (line ∷ more) in
    (behind, (let same : session_line ≡ item = cc in ap (λ (x : List ℕ). x ∷ behind) same))

script_end_again : (script : Option (List ScriptText)) (schedule : List (List ScheduleWord)) (line : List ℕ) (more other : List (List ℕ)) → EndsScript script (behind_script schedule (line ∷ more)) → EndsScript script (behind_script schedule (line ∷ other))
script_end_again None schedule line more other h = λ rest e.
    let start = starts_again (map schedule_line schedule) line session_line more other rest e in h start.0 start.1
script_end_again (Some texts) schedule line more other h = λ text rest fits e.
    let start = starts_again (map schedule_line schedule) line (script_line text) more other rest e in h text start.0 fits start.1

pub ends_again : (rows : List RowLine) (script : Option (List ScriptText)) (schedule : List (List ScheduleWord)) (line : List ℕ) (more other : List (List ℕ)) → EndsFront rows script schedule (line ∷ more) → EndsFront rows script schedule (line ∷ other)
ends_again rows script schedule line more other h = record {
  of_rows = record { ends = λ row rest a e. let start = rows_start_again script schedule line (row_line row) more other rest e in h.of_rows.ends row start.0 a start.1 };
  of_script = script_end_again script schedule line more other h.of_script;
  of_schedule = λ words rest allowed e. h.of_schedule words more allowed (let same : line ≡ schedule_line words = cc in ap (λ (x : List ℕ). x ∷ more) same);
}

-- ---- two readings of a file

script_match : (s t : Option (List ScriptText)) (left right : List (List ℕ)) → AllowedScript s → AllowedScript t → EndsScript s left → EndsScript t right → session_lines s ++ left ≡ session_lines t ++ right → (◌≡◌ {A = Option (List ScriptText)} t s) × (left ≡ right)
script_match None None left right f g ends others e = (refl, e)
script_match None (Some ts) left right f g ends others e = absurd (ends (map script_line ts ++ right) e)
script_match (Some ss) None left right f g ends others e = absurd (others (map script_line ss ++ left) (sym e))
script_match (Some ss) (Some ts) left right f g ends others e =
    let tails : map script_line ss ++ left ≡ map script_line ts ++ right = cc in
    elim (items_match script_line NumbersFitScript script_line_once ss ts left right f g (λ text rest fits is. others text rest fits is) tails) [
      | inl h ↦ ((λ i. Some (h.0 i)), h.1)
      | inr h ↦ absurd (ends h.item h.rest (let last = all_back NumbersFitScript ss (h.item ∷ h.others) (subst (AllByRecursion NumbersFitScript) h.longer g) in last.0) h.is_line)
    ]

schedule_match : (some_session : Bool) (schedule later : List (List ScheduleWord)) (left : List (List ℕ)) → AllowedSchedule some_session schedule → AllowedSchedule some_session later → EndsSchedule some_session left → behind_script schedule left ≡ behind_script later (end_line ∷ []) → (◌≡◌ {A = List (List ScheduleWord)} later schedule) × (left ≡ end_line ∷ [])
schedule_match some_session schedule later left f g ends e =
    elim (items_match schedule_line (AllowedWords some_session) (schedule_line_once some_session) schedule later left (end_line ∷ []) f g (λ words rest allowed is. end_no_schedule [] rest words is) e) [
      | inl h ↦ h
      | inr h ↦ absurd (ends h.item h.rest (let last = all_back (AllowedWords some_session) schedule (h.item ∷ h.others) (subst (AllByRecursion (AllowedWords some_session)) h.longer g) in last.0) h.is_line)
    ]

row_stops : (rows others : List RowLine) (row : RowLine) (ys : List RowLine) → ys ≡ rows ++ row ∷ others → AllowedRows ys → AllowedRows (rows ++ row ∷ [])
row_stops rows others row ys e h = Allowed-front (rows ++ row ∷ []) others (subst AllowedRows (e ∙ sym (append_assoc rows (row ∷ []) others)) h)

-- the parts of two files are the same, and these lines are END
pub record SameParts (rows others : List RowLine) (script other : Option (List ScriptText)) (schedule later : List (List ScheduleWord)) (left : List (List ℕ)) : Type 0 where
  pub same_rows : others ≡ rows
  pub same_script : other ≡ script
  pub same_schedule : later ≡ schedule
  pub end : left ≡ end_line ∷ []

tails_match : (rows others : List RowLine) (script other : Option (List ScriptText)) (schedule later : List (List ScheduleWord)) (left : List (List ℕ)) → Allowed rows script schedule → Allowed others other later → EndsFront rows script schedule left → ◌≡◌ {A = List RowLine} others rows → behind_rows script schedule left ≡ behind_rows other later (end_line ∷ []) → SameParts rows others script other schedule later left
tails_match rows others script other schedule later left f g ends same e =
    let scripts = script_match script other (behind_script schedule left) (behind_script later (end_line ∷ [])) f.of_script g.of_script ends.of_script (end-EndsScript other later []) e in
    let allowed : AllowedSchedule (is_some script) later = subst (λ (x : Option (List ScriptText)). AllowedSchedule (is_some x) later) scripts.0 g.of_schedule in
    let schedules = schedule_match (is_some script) schedule later left f.of_schedule allowed ends.of_schedule scripts.1 in
    record { same_rows = same; same_script = scripts.0; same_schedule = schedules.0; end = schedules.1 }

-- a front that ends its rows, its script and its schedule goes on in one way
pub front_match : (rows others : List RowLine) (script other : Option (List ScriptText)) (schedule later : List (List ScheduleWord)) (left : List (List ℕ)) → Allowed rows script schedule → Allowed others other later → EndsFront rows script schedule left → front_lines rows script schedule ++ left ≡ text_lines others other later → SameParts rows others script other schedule later left
front_match rows others script other schedule later left f g ends e =
    let behind_head : map row_line rows ++ behind_rows script schedule left ≡ map row_line others ++ behind_rows other later (end_line ∷ []) =
    append_cancel_left head_lines (map row_line rows ++ behind_rows script schedule left) (map row_line others ++ behind_rows other later (end_line ∷ [])) (sym (front_parts rows script schedule left) ∙ e) in
    elim (items_match row_line NumbersFit row_line_once rows others (behind_rows script schedule left) (behind_rows other later (end_line ∷ [])) f.of_rows.numbers g.of_rows.numbers (λ row rest fits is. end_no_row other later [] rest row is) behind_head) [
      | inl h ↦ tails_match rows others script other schedule later left f g ends h.0 h.1
      | inr h ↦ absurd (ends.of_rows.ends h.item h.rest (row_stops rows h.others h.item others h.longer g.of_rows) h.is_line)
    ]

pub form_match : (rows others : List RowLine) (script other : Option (List ScriptText)) (schedule later : List (List ScheduleWord)) (more : List (List ℕ)) → Allowed rows script schedule → Allowed others other later → front_lines rows script schedule ++ end_line ∷ more ≡ text_lines others other later → SameParts rows others script other schedule later (end_line ∷ more)
form_match rows others script other schedule later more f g e = front_match rows others script other schedule later (end_line ∷ more) f g (end-EndsFront rows script schedule more) e
