-- Where a file stops being one of the first form.
use Rattle.std.proofs.Common.{◌≡◌, ◌⊎◌, ℕ, ◌+◌, ◌<◌, ◌≤◌, Option, None, List, [], ◌∷◌, ◌++◌, map, length, take, drop, refl, sym, ap, subst, ◌∙◌, append_assoc, append-nil, arith, inl, inr, take_at, length-append, take-append-drop, eq-or-lt_of_le}
use Rattle.std.proofs.lemmas.Bool.{cases_lt}
use Rattle.std.proofs.lemmas.List.{append_cancel_left, take-take}
use Rattle.workload_file.specs.declared.workload.Workload.{Workload}
use Rattle.ptc_run.specs.declared.row_lines.RowLine.{RowLine}
use Rattle.ptc_run.specs.declared.script_lines.ScriptText.{ScriptText}
use Rattle.ptc_run.specs.declared.schedule_lines.ScheduleWord.{ScheduleWord}
use Rattle.ptc_run.specs.Lines.{lines_of}
use Rattle.ptc_run.specs.RowLines.{row_line}
use Rattle.ptc_run.specs.ScriptLines.{session_lines}
use Rattle.ptc_run.specs.FirstForm.{head_lines, end_line, text_lines, Allowed, IsWorkloadText, workload_of, BeginsForm, IsForm, IsEarly}
use Rattle.ptc_run.proofs.FrontLemmas.{behind_rows, lines_of_text, Allowed-none, front_lines, front_parts, front_number, EndsFront, ends_again, front_match, form_match}

begins-front : (xs ys : List (List ℕ)) → BeginsForm (xs ++ ys) → BeginsForm xs
begins-front xs ys h = record { rows = h.rows; script = h.script; schedule = h.schedule; more = ys ++ h.more; allowed = h.allowed; text = sym (append_assoc xs ys h.more) ∙ h.text }

-- What is known of the lines before and after the place of the fault.
pub record Stops (front rest : List (List ℕ)) : Type 0 where
  pub begins : BeginsForm front
  pub stops : (line : List ℕ) (more : List (List ℕ)) → rest ≡ line ∷ more → BeginsForm (front ++ line ∷ []) → ⊥
  pub missing : rest ≡ [] → IsForm front → ⊥

stops_after : (front rest : List (List ℕ)) → Stops front rest → length front < length (front ++ rest) → BeginsForm (take (length front + 1) (front ++ rest)) → ⊥
stops_after front [] h lt b = absurd (omega (arith, length-append front []))
stops_after front (line ∷ more) h lt b =
    let parts : take (length front + 1) (front ++ line ∷ more) ≡ front ++ line ∷ [] =
    ap (take (length front + 1)) (sym (append_assoc front (line ∷ []) more)) ∙ take_at (front ++ line ∷ []) more (length front + 1) (length-append front (line ∷ [])) in
    h.stops line more refl (subst BeginsForm parts b)

missing_after : (front rest : List (List ℕ)) → Stops front rest → length front ≡ length (front ++ rest) → IsForm (front ++ rest) → ⊥
missing_after front [] h e f = h.missing refl (subst IsForm (append-nil front) f)
missing_after front (line ∷ more) h e f = absurd (omega (arith, e, length-append front (line ∷ more)))

pub early_at : (bytes : List ℕ) (front rest : List (List ℕ)) → lines_of bytes ≡ front ++ rest → Stops front rest → IsEarly bytes (length front + 1)
early_at bytes front rest e h = record {
  before = length front;
  is_next = refl;
  within = subst (λ (lines : List (List ℕ)). length front ≤ length lines) (sym e) (omega (arith, length-append front rest));
  begins = subst (λ (lines : List (List ℕ)). BeginsForm (take (length front) lines)) (sym e) (subst BeginsForm (sym (take_at front rest (length front) refl)) h.begins);
  stops = subst (λ (lines : List (List ℕ)). length front < length lines → BeginsForm (take (length front + 1) lines) → ⊥) (sym e) (stops_after front rest h);
  missing = subst (λ (lines : List (List ℕ)). length front ≡ length lines → IsForm lines → ⊥) (sym e) (missing_after front rest h);
}

-- ---- in the fixed lines

pub early_in_head : (bytes : List ℕ) (done left rest : List (List ℕ)) (expected : List ℕ) → head_lines ≡ done ++ expected ∷ left → lines_of bytes ≡ done ++ rest → ((more : List (List ℕ)) → rest ≡ expected ∷ more → ⊥) → IsEarly bytes (length done + 1)
early_in_head bytes done left rest expected head e other = early_at bytes done rest e (record {
  begins = record {
    rows = [];
    script = None;
    schedule = [];
    more = expected ∷ (left ++ end_line ∷ []);
    allowed = record { of_rows = Allowed-none; of_script = tt; of_schedule = tt };
    text = sym (append_assoc done (expected ∷ left) (end_line ∷ [])) ∙ ap (λ (x : List (List ℕ)). x ++ end_line ∷ []) (sym head);
  };
  stops = λ line more is b.
      let body : List (List ℕ) = map row_line b.rows ++ behind_rows b.script b.schedule (end_line ∷ []) in
      let whole : done ++ (line ∷ b.more) ≡ done ++ (expected ∷ (left ++ body)) =
      sym (append_assoc done (line ∷ []) b.more) ∙ b.text ∙ ap (λ (x : List (List ℕ)). x ++ body) head ∙ append_assoc done (expected ∷ left) body in
      let same : line ∷ b.more ≡ expected ∷ (left ++ body) = append_cancel_left done _ _ whole in
      let lines : line ≡ expected = cc in
      other more (is ∙ ap (λ (x : List ℕ). x ∷ more) lines);
  missing = λ none f.
      let body : List (List ℕ) = map row_line f.rows ++ behind_rows f.script f.schedule (end_line ∷ []) in
      let whole : done ≡ done ++ (expected ∷ (left ++ body)) = f.text ∙ ap (λ (x : List (List ℕ)). x ++ body) head ∙ append_assoc done (expected ∷ left) body in
      absurd (omega (arith, ap length whole, length-append done (expected ∷ (left ++ body))));
})

-- ---- in the rows, the script and the schedule

front_stops : (rows : List RowLine) (script : Option (List ScriptText)) (schedule : List (List ScheduleWord)) (line : List ℕ) (more : List (List ℕ)) → Allowed rows script schedule → EndsFront rows script schedule (line ∷ more) → (line ≡ end_line → ⊥) → BeginsForm (front_lines rows script schedule ++ line ∷ []) → ⊥
front_stops rows script schedule line more allowed ends other b =
    let parts = front_match rows b.rows script b.script schedule b.schedule (line ∷ b.more) allowed b.allowed (ends_again rows script schedule line more b.more ends)
    (sym (append_assoc (front_lines rows script schedule) (line ∷ []) b.more) ∙ b.text) in
    let tails : line ∷ b.more ≡ end_line ∷ [] = parts.end in
    other (let same : line ≡ end_line = cc in same)

front_missing : (rows : List RowLine) (script : Option (List ScriptText)) (schedule : List (List ScheduleWord)) → Allowed rows script schedule → EndsFront rows script schedule [] → IsForm (front_lines rows script schedule) → ⊥
front_missing rows script schedule allowed ends f =
    let parts = front_match rows f.rows script f.script schedule f.schedule [] allowed f.allowed ends (append-nil (front_lines rows script schedule) ∙ f.text) in
    let tails : [] ≡ end_line ∷ [] = parts.end in
    cc

pub early_in_front : (bytes : List ℕ) (rows : List RowLine) (script : Option (List ScriptText)) (schedule : List (List ScheduleWord)) (rest : List (List ℕ)) → lines_of bytes ≡ front_lines rows script schedule ++ rest → Allowed rows script schedule → EndsFront rows script schedule rest → ((more : List (List ℕ)) → rest ≡ end_line ∷ more → ⊥) → IsEarly bytes (length rows + length (session_lines script) + length schedule + 4)
early_in_front bytes rows script schedule rest e allowed ends other =
    let number : length (front_lines rows script schedule) + 1 ≡ length rows + length (session_lines script) + length schedule + 4 = omega (arith, front_number rows script schedule) in
    subst (IsEarly bytes) number (early_at bytes (front_lines rows script schedule) rest e (record {
      begins = record { rows = rows; script = script; schedule = schedule; more = end_line ∷ []; allowed = allowed; text = front_parts rows script schedule (end_line ∷ []) };
      stops = λ line more is b. front_stops rows script schedule line more allowed (subst (EndsFront rows script schedule) is ends) (λ same. other more (is ∙ ap (λ (x : List ℕ). x ∷ more) same)) b;
      missing = λ none f. front_missing rows script schedule allowed (subst (EndsFront rows script schedule) none ends) f;
    }))

-- ---- behind the last line

abbrev whole_lines : List RowLine → Option (List ScriptText) → List (List ScheduleWord) → List (List ℕ)
whole_lines rows script schedule = front_lines rows script schedule ++ end_line ∷ []

whole_number : (rows : List RowLine) (script : Option (List ScriptText)) (schedule : List (List ScheduleWord)) → length (whole_lines rows script schedule) ≡ length rows + length (session_lines script) + length schedule + 4
whole_number rows script schedule = omega (arith, front_number rows script schedule, length-append (front_lines rows script schedule) (end_line ∷ []))

pub early_behind_end : (bytes : List ℕ) (rows : List RowLine) (script : Option (List ScriptText)) (schedule : List (List ScheduleWord)) (rest : List (List ℕ)) → lines_of bytes ≡ front_lines rows script schedule ++ end_line ∷ rest → Allowed rows script schedule → (rest ≡ [] → ⊥) → IsEarly bytes (length rows + length (session_lines script) + length schedule + 5)
early_behind_end bytes rows script schedule rest e allowed some =
    let front : List (List ℕ) = front_lines rows script schedule in
    let lines : List (List ℕ) = whole_lines rows script schedule in
    let number : length (whole_lines rows script schedule) + 1 ≡ length rows + length (session_lines script) + length schedule + 5 = omega (arith, whole_number rows script schedule) in
    subst (IsEarly bytes) number (early_at bytes (whole_lines rows script schedule) rest (e ∙ sym (append_assoc front (end_line ∷ []) rest)) (record {
      begins = record { rows = rows; script = script; schedule = schedule; more = []; allowed = allowed; text = append-nil lines ∙ front_parts rows script schedule (end_line ∷ []) };
      stops = λ line more is b.
          let whole : front ++ (end_line ∷ (line ∷ b.more)) ≡ text_lines b.rows b.script b.schedule =
          sym (append_assoc front (end_line ∷ []) (line ∷ b.more)) ∙ sym (append_assoc lines (line ∷ []) b.more) ∙ b.text in
          let parts = form_match rows b.rows script b.script schedule b.schedule (line ∷ b.more) allowed b.allowed whole in
          let tails : end_line ∷ (line ∷ b.more) ≡ end_line ∷ [] = parts.end in
          cc;
      missing = λ none f. some none;
    }))

-- ---- the laws

pub text_once : (bytes : List ℕ) (v w : Workload) → IsWorkloadText bytes v → IsWorkloadText bytes w → ◌≡◌ {A = Workload} v w
text_once bytes v w f g =
    let lines : text_lines f.rows f.script f.schedule ≡ text_lines g.rows g.script g.schedule = sym (lines_of_text bytes f.rows f.script f.schedule f.allowed f.text) ∙ lines_of_text bytes g.rows g.script g.schedule g.allowed g.text in
    let parts = form_match f.rows g.rows f.script g.script f.schedule g.schedule [] f.allowed g.allowed (front_parts f.rows f.script f.schedule (end_line ∷ []) ∙ lines) in
    let same_rows : ◌≡◌ {A = List RowLine} f.rows g.rows = sym parts.same_rows in
    let same_script : ◌≡◌ {A = Option (List ScriptText)} f.script g.script = sym parts.same_script in
    let same_schedule : ◌≡◌ {A = List (List ScheduleWord)} f.schedule g.schedule = sym parts.same_schedule in
    f.workload ∙ (λ i. workload_of (same_rows i) (same_script i) (same_schedule i)) ∙ sym g.workload

pub early_excludes : (bytes : List ℕ) (number : ℕ) (w : Workload) → IsEarly bytes number → IsWorkloadText bytes w → ⊥
early_excludes bytes number w e t =
    let lines : lines_of bytes ≡ text_lines t.rows t.script t.schedule = lines_of_text bytes t.rows t.script t.schedule t.allowed t.text in
    elim (eq-or-lt_of_le e.within) [
      | inl same ↦ e.missing same (record { rows = t.rows; script = t.script; schedule = t.schedule; allowed = t.allowed; text = lines })
      | inr lt ↦ e.stops lt (record { rows = t.rows; script = t.script; schedule = t.schedule; more = drop (e.before + 1) (lines_of bytes); allowed = t.allowed; text = take-append-drop (e.before + 1) (lines_of bytes) ∙ lines })
    ]

three_cases : (m n : ℕ) → (m < n) ⊎ ((m ≡ n) ⊎ (n < m))
three_cases m n = elim (cases_lt m n) [ inl lt ↦ inl lt | inr le ↦ inr (elim (eq-or-lt_of_le le) [ inl same ↦ inl (sym same) | inr gt ↦ inr gt ]) ]

not_before : (bytes : List ℕ) (m n : ℕ) (f : IsEarly bytes m) (g : IsEarly bytes n) → f.before < g.before → ⊥
not_before bytes m n f g lt =
    let L : List (List ℕ) = lines_of bytes in
    let parts : take g.before L ≡ take (f.before + 1) L ++ drop (f.before + 1) (take g.before L) =
    sym (take-append-drop (f.before + 1) (take g.before L)) ∙ ap (λ (x : List (List ℕ)). x ++ drop (f.before + 1) (take g.before L)) (take-take (f.before + 1) g.before L (omega arith)) in
    let within : g.before ≤ length (lines_of bytes) = g.within in
    f.stops (omega arith) (begins-front (take (f.before + 1) L) (drop (f.before + 1) (take g.before L)) (subst BeginsForm parts g.begins))

pub early_once : (bytes : List ℕ) (m n : ℕ) → IsEarly bytes m → IsEarly bytes n → m ≡ n
early_once bytes m n f g =
    elim (three_cases f.before g.before) [
      | inl lt ↦ absurd (not_before bytes m n f g lt)
      | inr other ↦ elim other [
        | inl same ↦ omega (arith, f.is_next, g.is_next, same)
        | inr gt ↦ absurd (not_before bytes n m g f gt)
      ]
    ]
