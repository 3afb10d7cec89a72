-- The steps of the reader.
use Rattle.std.proofs.Common.{◌≡◌, ℕ, ◌+◌, ◌≤◌, Bool, true, false, not, Option, None, Some, List, [], ◌∷◌, ◌++◌, map, length, refl, sym, ap, subst, ◌∙◌, append_assoc, arith}
use Rattle.std.specs.Prelude.{◌↔◌, IsTrue, codes, is_some}
use Rattle.std.specs.List.{concat}
use Rattle.std.proofs.lemmas.List.{map_push, length_push, length-map, flat_map_more}
use Rattle.workload_file.specs.declared.workload.Workload.{Workload}
use Rattle.ptc_run.specs.declared.row_lines.RowLine.{RowLine}
use Rattle.ptc_run.specs.declared.kept_rows.Nodes.{Nodes}
use Rattle.ptc_run.specs.declared.first_form.Parts.{Parts}
use Rattle.ptc_run.specs.declared.script_lines.ScriptText.{ScriptText}
use Rattle.ptc_statement.specs.declared.scripts.Script.{Script}
use Rattle.ptc_statement.specs.declared.scripts.ScriptLine.{ScriptLine}
use Rattle.ptc_statement.specs.declared.statements.Statement.{Statement}
use Rattle.ptc_statement.specs.declared.scripts.ScriptStep.TheVariants.{Run}
use Rattle.workload_file.specs.declared.schedule.Item.{Item}
use Rattle.ptc_run.specs.declared.schedule_lines.ScheduleWord.{ScheduleWord}
use Rattle.ptc_run.specs.ScriptLines.{script_line, session_line, session_lines, sessions_of, statement_of, numbered, NumbersFitScript, EndsScript}
use Rattle.ptc_run.specs.ScriptReads.{StatementRead, StatementsRead, SessionsRead}
use Rattle.ptc_run.specs.ScheduleLines.{schedule_line, items_of, schedule_of, AllowedWords, AllowedSchedule, EndsSchedule}
use Rattle.ptc_run.specs.ScheduleReads.{WordsRead, ScheduleRead}
use Rattle.std.specs.List.{AllByRecursion}
use Rattle.ptc_run.proofs.ListLemmas.{all_append}
use Rattle.ptc_run.proofs.ScriptLemmas.{numbered_push}
use Rattle.ptc_run.specs.Lines.{lines_of}
use Rattle.ptc_run.specs.RowLines.{row_line}
use Rattle.ptc_run.specs.FirstForm.{head_lines, end_line, workload_of, IsWorkloadText, IsEarly, Allowed, AllowedRows}
use Rattle.ptc_run.specs.KeptRows.{KeepsBoth, TakesRow, RowsRead, EndsRows, PartsRead, workload_in}
use Rattle.ptc_run.proofs.LineLemmas.{concat-lines_of, lines_of-nil}
use Rattle.ptc_run.specs.declared.first_form.FileFault.{FileFault}
use Rattle.ptc_run.specs.declared.first_form.FileFault.TheVariants.{Early, Limit, Memory}
use Rattle.ptc_run.specs.Faults.{IsFaultOf}
use Rattle.ptc_run.proofs.FrontLemmas.{front_lines, front_parts, EndsFront, Allowed-none}
use Rattle.ptc_run.proofs.FormLemmas.{early_in_head, early_in_front, early_behind_end, early_excludes}

-- ---- the fixed lines

abbrev pub first_head : List ℕ
first_head = codes "PTC WORKLOAD 1\n"

abbrev pub second_head : List ℕ
second_head = codes "REPLICAS 1\n"

abbrev pub third_head : List ℕ
third_head = codes "TABLE t (id BIGINT KEY, v BIGINT)\n"

pub head-is : head_lines ≡ first_head ∷ second_head ∷ third_head ∷ []
unfolding head_lines
head-is = refl

pub end-is : end_line ≡ codes "END\n"
unfolding end_line
end-is = refl

pub early_first : (bytes : List ℕ) → ((more : List (List ℕ)) → lines_of bytes ≡ first_head ∷ more → ⊥) → IsEarly bytes 1
early_first bytes other = early_in_head bytes [] (second_head ∷ third_head ∷ []) (lines_of bytes) first_head head-is refl other

pub early_second : (bytes rest : List ℕ) → lines_of bytes ≡ first_head ∷ lines_of rest → ((more : List (List ℕ)) → lines_of rest ≡ second_head ∷ more → ⊥) → IsEarly bytes 2
early_second bytes rest e other = early_in_head bytes (first_head ∷ []) (third_head ∷ []) (lines_of rest) second_head head-is e other

pub early_third : (bytes rest last : List ℕ) → lines_of bytes ≡ first_head ∷ lines_of rest → lines_of rest ≡ second_head ∷ lines_of last → ((more : List (List ℕ)) → lines_of last ≡ third_head ∷ more → ⊥) → IsEarly bytes 3
early_third bytes rest last e f other = early_in_head bytes (first_head ∷ second_head ∷ []) [] (lines_of last) third_head head-is (e ∙ ap (λ (x : List (List ℕ)). first_head ∷ x) f) other

pub head_read : (bytes one two rest : List ℕ) → lines_of bytes ≡ first_head ∷ lines_of one → lines_of one ≡ second_head ∷ lines_of two → lines_of two ≡ third_head ∷ lines_of rest → lines_of bytes ≡ head_lines ++ lines_of rest
head_read bytes one two rest e f g =
    e ∙ ap (λ (x : List (List ℕ)). first_head ∷ x) (f ∙ ap (λ (x : List (List ℕ)). second_head ∷ x) g) ∙ ap (λ (x : List (List ℕ)). x ++ lines_of rest) (sym head-is)

-- ---- the rows

pub record RowsSoFar (bytes : List ℕ) (nodes : Nodes) (rest : List ℕ) (count : ℕ) : Type 0 where
  pub rows : List RowLine
  pub allowed : AllowedRows rows
  pub keeps : KeepsBoth nodes rows
  pub lines : lines_of bytes ≡ map row_line rows ++ lines_of rest
  pub counted : count ≡ length rows
  pub room : count + length rest ≤ length bytes

pub no_rows : (bytes : List ℕ) (nodes : Nodes) → KeepsBoth nodes [] → RowsSoFar bytes nodes bytes 0
no_rows bytes nodes k = record { rows = []; allowed = Allowed-none; keeps = k; lines = refl; counted = refl; room = omega arith }

pub row_taken : (bytes : List ℕ) (nodes after : Nodes) (rest left : List ℕ) (count : ℕ) (h : RowsSoFar bytes nodes rest count) → TakesRow after h.rows rest left → RowsSoFar bytes after left (count + 1)
row_taken bytes nodes after rest left count h t = record {
  rows = h.rows ++ t.row ∷ [];
  allowed = t.allowed;
  keeps = t.keeps;
  lines = h.lines ∙ ap (λ (x : List (List ℕ)). map row_line h.rows ++ x) t.line ∙ sym (append_assoc (map row_line h.rows) (row_line t.row ∷ []) (lines_of left)) ∙ ap (λ (x : List (List ℕ)). x ++ lines_of left) (sym (map_push row_line h.rows t.row));
  counted = omega (arith, h.counted, length_push h.rows t.row);
  room = let shorter = t.shorter in let room = h.room in omega arith;
}

-- ---- the script

pub record StatementsSoFar (bytes : List ℕ) (first : ℕ) (script : List ScriptLine) (rest : List ℕ) (count : ℕ) : Type 0 where
  pub texts : List ScriptText
  pub fit : AllByRecursion NumbersFitScript texts
  pub is_script : script ≡ numbered first texts
  pub lines : lines_of bytes ≡ map script_line texts ++ lines_of rest
  pub counted : count ≡ length texts
  pub room : count + length rest ≤ length bytes

pub no_statements : (bytes : List ℕ) (first : ℕ) (script : List ScriptLine) → ◌≡◌ {A = List ScriptLine} script [] → StatementsSoFar bytes first script bytes 0
no_statements bytes first script none = record { texts = []; fit = tt; is_script = none; lines = refl; counted = refl; room = omega arith }

pub statement_taken : (bytes : List ℕ) (first : ℕ) (script after : List ScriptLine) (rest left : List ℕ) (count : ℕ) (text : ScriptText) (statement : Statement) → StatementsSoFar bytes first script rest count → StatementRead rest text left → ◌≡◌ {A = Statement} statement (statement_of text) → ◌≡◌ {A = List ScriptLine} after (script ++ record { line = first + count; step = Run statement } ∷ []) → StatementsSoFar bytes first after left (count + 1)
statement_taken bytes first script after rest left count text statement h t is pushed = record {
  texts = h.texts ++ text ∷ [];
  fit = all_append NumbersFitScript h.texts (text ∷ []) h.fit (t.fits, tt);
  is_script = pushed ∙ (λ i. ◌++◌ {A = ScriptLine} (h.is_script i) (record { line = first + h.counted i; step = Run (is i) } ∷ [])) ∙ sym (numbered_push first h.texts text);
  lines = h.lines ∙ ap (λ (x : List (List ℕ)). map script_line h.texts ++ x) t.line ∙ sym (append_assoc (map script_line h.texts) (script_line text ∷ []) (lines_of left)) ∙ ap (λ (x : List (List ℕ)). x ++ lines_of left) (sym (map_push script_line h.texts text));
  counted = omega (arith, h.counted, length_push h.texts text);
  room = let shorter = t.shorter in let room = h.room in omega arith;
}

pub session-is : session_line ≡ codes "SESSION s1\n"
unfolding session_line
session-is = refl

pub no_session : (bytes : List ℕ) (rows : ℕ) (sessions : List Script) → ((more : List (List ℕ)) → lines_of bytes ≡ codes "SESSION s1\n" ∷ more → ⊥) → ◌≡◌ {A = List Script} sessions [] → SessionsRead bytes rows sessions bytes rows
no_session bytes rows sessions other none = record { script = None; allowed = tt; is_sessions = none; lines = refl; ends = λ more e. other more (e ∙ ap (λ (x : List ℕ). x ∷ more) session-is); counted = omega arith }

pub one_session : (bytes behind rest : List ℕ) (rows : ℕ) (old new : List Script) (script : List ScriptLine) (count : ℕ) → lines_of bytes ≡ codes "SESSION s1\n" ∷ lines_of behind → StatementsRead behind (rows + 5) script rest count → ◌≡◌ {A = List Script} old [] → ◌≡◌ {A = List Script} new (old ++ record { lines = script } ∷ []) → SessionsRead bytes rows new rest (rows + 1 + count)
one_session bytes behind rest rows old new script count e h none pushed = record {
  script = Some h.texts;
  allowed = h.fit;
  is_sessions = pushed ∙ (λ i. ◌++◌ {A = Script} (none i) (record { lines = h.is_script i } ∷ []));
  lines = e ∙ (λ i. sym session-is i ∷ h.lines i);
  ends = h.ends;
  counted = omega (arith, h.counted, length-map h.texts script_line);
}

-- ---- the schedule

pub record ScheduleSoFar (bytes : List ℕ) (some_session : Bool) (before : ℕ) (items : List Item) (rest : List ℕ) (count : ℕ) : Type 0 where
  pub schedule : List (List ScheduleWord)
  pub allowed : AllowedSchedule some_session schedule
  pub is_schedule : items ≡ schedule_of schedule
  pub lines : lines_of bytes ≡ map schedule_line schedule ++ lines_of rest
  pub counted : count ≡ before + length schedule
  pub room : count + length rest ≤ before + length bytes

pub words_taken : (bytes : List ℕ) (some_session : Bool) (before : ℕ) (items after : List Item) (rest left : List ℕ) (count : ℕ) (words : List ScheduleWord) → ScheduleSoFar bytes some_session before items rest count → WordsRead rest some_session words left → ◌≡◌ {A = List Item} after (items ++ items_of words) → ScheduleSoFar bytes some_session before after left (count + 1)
words_taken bytes some_session before items after rest left count words h t pushed = record {
  schedule = h.schedule ++ words ∷ [];
  allowed = all_append (AllowedWords some_session) h.schedule (words ∷ []) h.allowed (t.allowed, tt);
  is_schedule = pushed ∙ ap (λ (x : List Item). x ++ items_of words) h.is_schedule ∙ flat_map_more items_of [] h.schedule words;
  lines = h.lines ∙ ap (λ (x : List (List ℕ)). map schedule_line h.schedule ++ x) t.line ∙ sym (append_assoc (map schedule_line h.schedule) (schedule_line words ∷ []) (lines_of left)) ∙ ap (λ (x : List (List ℕ)). x ++ lines_of left) (sym (map_push schedule_line h.schedule words));
  counted = omega (arith, h.counted, length_push h.schedule words);
  room = let shorter = t.shorter in let room = h.room in omega arith;
}

-- a script stands where there is some session
session_stands : (script : Option (List ScriptText)) (number : ℕ) (sessions : List Script) (empty : Bool) → ◌≡◌ {A = List Script} sessions (sessions_of number script) → (IsTrue empty ↔ (◌≡◌ {A = List Script} sessions [])) → not empty ≡ is_some script
session_stands None number sessions true e h = refl
session_stands None number sessions false e h = absurd (let no : false ≡ true = h.1 e in cc)
session_stands (Some texts) number sessions true e h = absurd (let none : ◌≡◌ {A = List Script} sessions [] = h.0 refl in cc)
session_stands (Some texts) number sessions false e h = refl

-- ---- what stands before END

abbrev Behind : List ℕ → List ℕ → Type 0
Behind bytes rest = lines_of bytes ≡ head_lines ++ lines_of rest

pub record FrontRead (bytes : List ℕ) (parts : Parts) (rest : List ℕ) (count : ℕ) : Type 0 where
  pub rows : List RowLine
  pub script : Option (List ScriptText)
  pub schedule : List (List ScheduleWord)
  pub allowed : Allowed rows script schedule
  pub keeps : KeepsBoth parts.nodes rows
  pub sessions : parts.sessions ≡ sessions_of (length rows + 5) script
  pub items : parts.schedule ≡ schedule_of schedule
  pub lines : lines_of bytes ≡ front_lines rows script schedule ++ lines_of rest
  pub ends : EndsFront rows script schedule (lines_of rest)
  pub counted : count ≡ length rows + length (session_lines script) + length schedule

pub front_read : (bytes first second third last : List ℕ) (parts : Parts) (rows lines count : ℕ) (empty : Bool) → Behind bytes first → RowsRead first parts.nodes second rows → SessionsRead second rows parts.sessions third lines → (IsTrue empty ↔ (◌≡◌ {A = List Script} parts.sessions [])) → ScheduleRead third (not empty) lines parts.schedule last count → FrontRead bytes parts last count
front_read bytes first second third last parts rows lines count empty e h s told c =
    let same : not empty ≡ is_some s.script = session_stands s.script (rows + 5) parts.sessions empty s.is_sessions told in
    record {
      rows = h.rows;
      script = s.script;
      schedule = c.schedule;
      allowed = record { of_rows = h.allowed; of_script = s.allowed; of_schedule = subst (λ (b : Bool). AllowedSchedule b c.schedule) same c.allowed };
      keeps = h.keeps;
      sessions = s.is_sessions ∙ ap (λ (n : ℕ). sessions_of (n + 5) s.script) h.counted;
      items = c.is_schedule;
      lines = e ∙ ap (λ (x : List (List ℕ)). head_lines ++ x) (h.lines ∙ ap (λ (x : List (List ℕ)). map row_line h.rows ++ x) (s.lines ∙ ap (λ (x : List (List ℕ)). session_lines s.script ++ x) c.lines)) ∙ sym (front_parts h.rows s.script c.schedule (lines_of last));
      ends = record {
        of_rows = subst (EndsRows h.rows) (s.lines ∙ ap (λ (x : List (List ℕ)). session_lines s.script ++ x) c.lines) h.ends;
        of_script = subst (EndsScript s.script) c.lines s.ends;
        of_schedule = subst (λ (b : Bool). EndsSchedule b (lines_of last)) same c.ends;
      };
      counted = omega (arith, h.counted, s.counted, c.counted);
    }

-- ---- the end

pub early_row : (bytes last : List ℕ) (parts : Parts) (count : ℕ) → FrontRead bytes parts last count → ((more : List (List ℕ)) → lines_of last ≡ codes "END\n" ∷ more → ⊥) → IsEarly bytes (count + 4)
early_row bytes last parts count h other =
    let number : length h.rows + length (session_lines h.script) + length h.schedule + 4 ≡ count + 4 = omega (arith, h.counted) in
    subst (IsEarly bytes) number (early_in_front bytes h.rows h.script h.schedule (lines_of last) h.lines h.allowed h.ends (λ more is. other more (is ∙ ap (λ (x : List ℕ). x ∷ more) end-is)))

some_lines : (rest : List ℕ) → (rest ≡ [] → ⊥) → lines_of rest ≡ [] → ⊥
some_lines rest some none = some (sym (concat-lines_of rest) ∙ ap concat none)

pub early_line : (bytes last after : List ℕ) (parts : Parts) (count : ℕ) → FrontRead bytes parts last count → lines_of last ≡ codes "END\n" ∷ lines_of after → (after ≡ [] → ⊥) → IsEarly bytes (count + 5)
early_line bytes last after parts count h end some =
    let number : length h.rows + length (session_lines h.script) + length h.schedule + 5 ≡ count + 5 = omega (arith, h.counted) in
    let lines : lines_of last ≡ end_line ∷ lines_of after = end ∙ ap (λ (x : List ℕ). x ∷ lines_of after) (sym end-is) in
    subst (IsEarly bytes) number
    (early_behind_end bytes h.rows h.script h.schedule (lines_of after) (h.lines ∙ ap (λ (x : List (List ℕ)). front_lines h.rows h.script h.schedule ++ x) lines) h.allowed (some_lines after some))

pub all_read : (bytes last after : List ℕ) (parts : Parts) (count : ℕ) → FrontRead bytes parts last count → lines_of last ≡ codes "END\n" ∷ lines_of after → after ≡ [] → PartsRead bytes parts
all_read bytes last after parts count h end none =
    let lines : lines_of last ≡ end_line ∷ [] = end ∙ ap (λ (x : List ℕ). x ∷ lines_of after) (sym end-is) ∙ ap (λ (x : List (List ℕ)). end_line ∷ x) (ap lines_of none ∙ lines_of-nil) in
    record {
      rows = h.rows;
      script = h.script;
      schedule = h.schedule;
      allowed = h.allowed;
      keeps = h.keeps;
      sessions = h.sessions;
      items = h.items;
      lines = h.lines ∙ ap (λ (x : List (List ℕ)). front_lines h.rows h.script h.schedule ++ x) lines ∙ front_parts h.rows h.script h.schedule (end_line ∷ []);
    }

pub workload_read : (bytes : List ℕ) (parts : Parts) (w : Workload) → PartsRead bytes parts → ◌≡◌ {A = Workload} w (workload_in parts.nodes parts.sessions parts.schedule) → IsWorkloadText bytes w
workload_read bytes parts w h e = record {
  rows = h.rows;
  script = h.script;
  schedule = h.schedule;
  text = sym (concat-lines_of bytes) ∙ ap concat h.lines;
  allowed = h.allowed;
  workload = e ∙ (λ i. record (workload_of h.rows h.script h.schedule) { source = h.keeps.source.same i ∷ []; copies = (h.keeps.replica.same i ∷ []) ∷ []; sessions = h.sessions i; schedule = h.items i });
}

pub only_memory : (bytes : List ℕ) (fault : FileFault) (w : Workload) → IsFaultOf bytes fault → IsWorkloadText bytes w → length bytes ≤ 16777216 → fault ≡ Memory
only_memory bytes (Early number) w h t le = absurd (early_excludes bytes number w h.1 t)
only_memory bytes (Limit which got) w h t le = absurd (let more = h.0 in omega arith)
only_memory bytes Memory w h t le = refl
