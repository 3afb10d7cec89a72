-- The scripts of one line more.
use Rattle.std.proofs.Common.{◌≡◌, ◌+◌, ◌<◌, ◌==◌, ℕ, suc, true, false, List, [], ◌∷◌, ◌++◌, length, Option, Some, None, refl, sym, ap, ◌∙◌, append-nil, arith}
use Rattle.std.specs.Prelude.{if◌then◌else◌}
use Rattle.ptc_statement.specs.declared.scripts.ScriptLine.{ScriptLine}
use Rattle.ptc_statement.specs.declared.scripts.Script.{Script}
use Rattle.ptc_statement.specs.declared.scripts.ScriptStep.{ScriptStep}
use Rattle.file_text.specs.declared.places.Section.{Section}
use Rattle.file_text.specs.declared.places.Section.TheVariants.{PtcLines, IsolationLines, ReplicaLines, TableLines, RowLines, SessionLines, LocalLines, ScheduleLines, EndLines}
use Rattle.file_text.specs.Said.{Said, Skipped, Header, Isolation, Replicas, TableOf, RowOf, SessionOf, LocalOf, StepOf, Schedule, End, section_of}
use Rattle.file_text.specs.Context.{later, section_at, has_script, is_script, in_script}
use Rattle.file_text.specs.File.{steps_from, sessions_from, locals_from}
use Rattle.file_scripts.specs.declared.scripts.Owner.{Owner}
use Rattle.file_scripts.specs.declared.scripts.Owner.TheVariants as o
use Rattle.file_scripts.specs.declared.scripts.OwnScript.{OwnScript}
use Rattle.file_scripts.specs.Scripts.{begun, with_line, scripts_from, AreScripts, IsApart, sessions_of, locals_of}

-- ---- what a line at the end adds

steps_end : (last : Said) → ((k : ℕ) → steps_from k (last ∷ []) ≡ []) → (n : ℕ) (before : List Said) → steps_from n (before ++ last ∷ []) ≡ steps_from n before
steps_end last ends n [] = ends n
steps_end last ends n (Skipped ∷ before) = steps_end last ends (suc n) before
steps_end last ends n (StepOf step ∷ before) = ap (λ (lines : List ScriptLine). record { line = n; step = step } ∷ lines) (steps_end last ends (suc n) before)
steps_end last ends n (Header version ∷ before) = refl
steps_end last ends n (Isolation level ∷ before) = refl
steps_end last ends n (Replicas count ∷ before) = refl
steps_end last ends n (TableOf name columns ∷ before) = refl
steps_end last ends n (RowOf node table literals ∷ before) = refl
steps_end last ends n (SessionOf session ∷ before) = refl
steps_end last ends n (LocalOf replica session ∷ before) = refl
steps_end last ends n (Schedule words ∷ before) = refl
steps_end last ends n (End ∷ before) = refl

scripts_end : (last : Said) (own : List OwnScript) → ((k : ℕ) → steps_from k (last ∷ []) ≡ []) → ((k : ℕ) → scripts_from k (last ∷ []) ≡ own) → (n : ℕ) (before : List Said) → scripts_from n (before ++ last ∷ []) ≡ scripts_from n before ++ own
scripts_end last own ends gives n [] = gives n
scripts_end last own ends gives n (SessionOf session ∷ before) =
    ap (λ (lines : List ScriptLine). record { owner = o.Session; lines = lines } ∷ scripts_from (suc n) (before ++ last ∷ [])) (steps_end last ends (suc n) before)
    ∙ ap (λ (scripts : List OwnScript). record { owner = o.Session; lines = steps_from (suc n) before } ∷ scripts) (scripts_end last own ends gives (suc n) before)
scripts_end last own ends gives n (LocalOf replica session ∷ before) =
    ap (λ (lines : List ScriptLine). record { owner = o.Local replica; lines = lines } ∷ scripts_from (suc n) (before ++ last ∷ [])) (steps_end last ends (suc n) before)
    ∙ ap (λ (scripts : List OwnScript). record { owner = o.Local replica; lines = steps_from (suc n) before } ∷ scripts) (scripts_end last own ends gives (suc n) before)
scripts_end last own ends gives n (Skipped ∷ before) = scripts_end last own ends gives (suc n) before
scripts_end last own ends gives n (StepOf step ∷ before) = scripts_end last own ends gives (suc n) before
scripts_end last own ends gives n (Header version ∷ before) = scripts_end last own ends gives (suc n) before
scripts_end last own ends gives n (Isolation level ∷ before) = scripts_end last own ends gives (suc n) before
scripts_end last own ends gives n (Replicas count ∷ before) = scripts_end last own ends gives (suc n) before
scripts_end last own ends gives n (TableOf name columns ∷ before) = scripts_end last own ends gives (suc n) before
scripts_end last own ends gives n (RowOf node table literals ∷ before) = scripts_end last own ends gives (suc n) before
scripts_end last own ends gives n (Schedule words ∷ before) = scripts_end last own ends gives (suc n) before
scripts_end last own ends gives n (End ∷ before) = scripts_end last own ends gives (suc n) before

pub session_begun : (scripts : List OwnScript) (before : List Said) (session : ℕ) → AreScripts scripts before → AreScripts (begun o.Session scripts) (before ++ SessionOf session ∷ [])
session_begun scripts before session are =
    ap (begun o.Session) are ∙ sym (scripts_end (SessionOf session) (record { owner = o.Session; lines = [] } ∷ []) (λ k. refl) (λ k. refl) 1 before)

pub local_begun : (scripts : List OwnScript) (before : List Said) (replica session : ℕ) → AreScripts scripts before → AreScripts (begun (o.Local replica) scripts) (before ++ LocalOf replica session ∷ [])
local_begun scripts before replica session are =
    ap (begun (o.Local replica)) are ∙ sym (scripts_end (LocalOf replica session) (record { owner = o.Local replica; lines = [] } ∷ []) (λ k. refl) (λ k. refl) 1 before)

apart_steps : (said : Said) → IsApart said → (k : ℕ) → steps_from k (said ∷ []) ≡ []
apart_steps Skipped a k = refl
apart_steps (Header version) a k = refl
apart_steps (Isolation level) a k = refl
apart_steps (Replicas count) a k = refl
apart_steps (TableOf name columns) a k = refl
apart_steps (RowOf node table literals) a k = refl
apart_steps (SessionOf session) a k = absurd a
apart_steps (LocalOf replica session) a k = absurd a
apart_steps (StepOf step) a k = absurd a
apart_steps (Schedule words) a k = refl
apart_steps End a k = refl

apart_scripts : (said : Said) → IsApart said → (k : ℕ) → scripts_from k (said ∷ []) ≡ []
apart_scripts Skipped a k = refl
apart_scripts (Header version) a k = refl
apart_scripts (Isolation level) a k = refl
apart_scripts (Replicas count) a k = refl
apart_scripts (TableOf name columns) a k = refl
apart_scripts (RowOf node table literals) a k = refl
apart_scripts (SessionOf session) a k = absurd a
apart_scripts (LocalOf replica session) a k = absurd a
apart_scripts (StepOf step) a k = absurd a
apart_scripts (Schedule words) a k = refl
apart_scripts End a k = refl

pub apart_stays : (scripts : List OwnScript) (before : List Said) (said : Said) → IsApart said → AreScripts scripts before → AreScripts scripts (before ++ said ∷ [])
apart_stays scripts before said a are = are ∙ sym (scripts_end said [] (apart_steps said a) (apart_scripts said a) 1 before ∙ append-nil (scripts_from 1 before))

-- ---- a step

later_some : (first : Section) (rest : Option Section) → later (Some first) rest ≡ None → ⊥
later_some first None e = cc
later_some first (Some section) e = cc

script_behind : (first : Section) → has_script first ≡ false → (rest : Option Section) → is_script (later (Some first) rest) ≡ true → is_script rest ≡ true
script_behind first h None e = cc
script_behind first h (Some section) e = e

-- where no section's line follows, the steps go on to the end
steps_more : (line : ScriptLine) (n : ℕ) (before : List Said) → section_at before ≡ None → line.line ≡ n + length before → steps_from n (before ++ StepOf line.step ∷ []) ≡ steps_from n before ++ line ∷ []
steps_more line n [] e at = let here : n ≡ line.line = omega (arith, at) in λ i. record { line = here i; step = line.step } ∷ []
steps_more line n (Skipped ∷ before) e at = steps_more line (suc n) before e (omega (arith, at))
steps_more line n (StepOf step ∷ before) e at = ap (λ (lines : List ScriptLine). record { line = n; step = step } ∷ lines) (steps_more line (suc n) before e (omega (arith, at)))
steps_more line n (Header version ∷ before) e at = absurd (later_some PtcLines (section_at before) e)
steps_more line n (Isolation level ∷ before) e at = absurd (later_some IsolationLines (section_at before) e)
steps_more line n (Replicas count ∷ before) e at = absurd (later_some ReplicaLines (section_at before) e)
steps_more line n (TableOf name columns ∷ before) e at = absurd (later_some TableLines (section_at before) e)
steps_more line n (RowOf node table literals ∷ before) e at = absurd (later_some RowLines (section_at before) e)
steps_more line n (SessionOf session ∷ before) e at = absurd (later_some SessionLines (section_at before) e)
steps_more line n (LocalOf replica session ∷ before) e at = absurd (later_some LocalLines (section_at before) e)
steps_more line n (Schedule words ∷ before) e at = absurd (later_some ScheduleLines (section_at before) e)
steps_more line n (End ∷ before) e at = absurd (later_some EndLines (section_at before) e)

-- where one follows, they end at it
steps_over : (last : Said) (section : Section) (n : ℕ) (before : List Said) → section_at before ≡ Some section → steps_from n (before ++ last ∷ []) ≡ steps_from n before
steps_over last section n [] e = absurd cc
steps_over last section n (Skipped ∷ before) e = steps_over last section (suc n) before e
steps_over last section n (StepOf step ∷ before) e = ap (λ (lines : List ScriptLine). record { line = n; step = step } ∷ lines) (steps_over last section (suc n) before e)
steps_over last section n (Header version ∷ before) e = refl
steps_over last section n (Isolation level ∷ before) e = refl
steps_over last section n (Replicas count ∷ before) e = refl
steps_over last section n (TableOf name columns ∷ before) e = refl
steps_over last section n (RowOf node table literals ∷ before) e = refl
steps_over last section n (SessionOf session ∷ before) e = refl
steps_over last section n (LocalOf replica session ∷ before) e = refl
steps_over last section n (Schedule words ∷ before) e = refl
steps_over last section n (End ∷ before) e = refl

-- without a section's line there is no script
no_scripts : (n : ℕ) (before : List Said) → section_at before ≡ None → scripts_from n before ≡ []
no_scripts n [] e = refl
no_scripts n (Skipped ∷ before) e = no_scripts (suc n) before e
no_scripts n (StepOf step ∷ before) e = no_scripts (suc n) before e
no_scripts n (Header version ∷ before) e = absurd (later_some PtcLines (section_at before) e)
no_scripts n (Isolation level ∷ before) e = absurd (later_some IsolationLines (section_at before) e)
no_scripts n (Replicas count ∷ before) e = absurd (later_some ReplicaLines (section_at before) e)
no_scripts n (TableOf name columns ∷ before) e = absurd (later_some TableLines (section_at before) e)
no_scripts n (RowOf node table literals ∷ before) e = absurd (later_some RowLines (section_at before) e)
no_scripts n (SessionOf session ∷ before) e = absurd (later_some SessionLines (section_at before) e)
no_scripts n (LocalOf replica session ∷ before) e = absurd (later_some LocalLines (section_at before) e)
no_scripts n (Schedule words ∷ before) e = absurd (later_some ScheduleLines (section_at before) e)
no_scripts n (End ∷ before) e = absurd (later_some EndLines (section_at before) e)

-- there is a script where a line stands in one
some_script : (n : ℕ) (before : List Said) → in_script before ≡ true → 0 < length (scripts_from n before)
some_script n [] e = absurd cc
some_script n (SessionOf session ∷ before) e = omega arith
some_script n (LocalOf replica session ∷ before) e = omega arith
some_script n (Skipped ∷ before) e = some_script (suc n) before e
some_script n (StepOf step ∷ before) e = some_script (suc n) before e
some_script n (Header version ∷ before) e = some_script (suc n) before (script_behind PtcLines refl (section_at before) e)
some_script n (Isolation level ∷ before) e = some_script (suc n) before (script_behind IsolationLines refl (section_at before) e)
some_script n (Replicas count ∷ before) e = some_script (suc n) before (script_behind ReplicaLines refl (section_at before) e)
some_script n (TableOf name columns ∷ before) e = some_script (suc n) before (script_behind TableLines refl (section_at before) e)
some_script n (RowOf node table literals ∷ before) e = some_script (suc n) before (script_behind RowLines refl (section_at before) e)
some_script n (Schedule words ∷ before) e = some_script (suc n) before (script_behind ScheduleLines refl (section_at before) e)
some_script n (End ∷ before) e = some_script (suc n) before (script_behind EndLines refl (section_at before) e)

pub script_there : (scripts : List OwnScript) (before : List Said) → in_script before ≡ true → AreScripts scripts before → 0 < length scripts
script_there scripts before e are = let h = some_script 1 before e in let s : length scripts ≡ length (scripts_from 1 before) = ap length are in omega (arith, h, s)

line_behind : (line : ScriptLine) (script : OwnScript) (scripts : List OwnScript) → 0 < length scripts → with_line line (script ∷ scripts) ≡ script ∷ with_line line scripts
line_behind line script [] h = absurd (omega (arith, h))
line_behind line script (next ∷ scripts) h = refl

section_step : (step : ScriptStep) (before : List Said) → section_at (before ++ StepOf step ∷ []) ≡ section_at before
section_step step [] = refl
section_step step (said ∷ before) = ap (later (section_of said)) (section_step step before)

-- the script that a line begins, where the step is one of it or of a later one
own_more : (line : ScriptLine) (n : ℕ) (owner : Owner) (first : Section) (before : List Said) (rest : Option Section) → section_at before ≡ rest
    → is_script (later (Some first) rest) ≡ true → line.line ≡ n + length before
    → (is_script rest ≡ true → with_line line (scripts_from n before) ≡ scripts_from n (before ++ StepOf line.step ∷ []))
    → with_line line (record { owner = owner; lines = steps_from n before } ∷ scripts_from n before)
    ≡ record { owner = owner; lines = steps_from n (before ++ StepOf line.step ∷ []) } ∷ scripts_from n (before ++ StepOf line.step ∷ [])
own_more line n owner first before None s e at more =
    ap (λ (scripts : List OwnScript). with_line line (record { owner = owner; lines = steps_from n before } ∷ scripts)) (no_scripts n before s)
    ∙ ap (λ (lines : List ScriptLine). record { owner = owner; lines = lines } ∷ []) (sym (steps_more line n before s at))
    ∙ ap (λ (scripts : List OwnScript). record { owner = owner; lines = steps_from n (before ++ StepOf line.step ∷ []) } ∷ scripts) (sym (no_scripts n (before ++ StepOf line.step ∷ []) (section_step line.step before ∙ s)))
own_more line n owner first before (Some section) s e at more =
    line_behind line (record { owner = owner; lines = steps_from n before }) (scripts_from n before) (some_script n before (ap is_script s ∙ e))
    ∙ ap (λ (scripts : List OwnScript). record { owner = owner; lines = steps_from n before } ∷ scripts) (more e)
    ∙ ap (λ (lines : List ScriptLine). record { owner = owner; lines = lines } ∷ scripts_from n (before ++ StepOf line.step ∷ [])) (sym (steps_over (StepOf line.step) section n before s))

line_more : (line : ScriptLine) (n : ℕ) (before : List Said) → in_script before ≡ true → line.line ≡ n + length before → with_line line (scripts_from n before) ≡ scripts_from n (before ++ StepOf line.step ∷ [])
line_more line n [] e at = absurd cc
line_more line n (SessionOf session ∷ before) e at =
    own_more line (suc n) o.Session SessionLines before (section_at before) refl e (omega (arith, at)) (λ f. line_more line (suc n) before f (omega (arith, at)))
line_more line n (LocalOf replica session ∷ before) e at =
    own_more line (suc n) (o.Local replica) LocalLines before (section_at before) refl e (omega (arith, at)) (λ f. line_more line (suc n) before f (omega (arith, at)))
line_more line n (Skipped ∷ before) e at = line_more line (suc n) before e (omega (arith, at))
line_more line n (StepOf step ∷ before) e at = line_more line (suc n) before e (omega (arith, at))
line_more line n (Header version ∷ before) e at = line_more line (suc n) before (script_behind PtcLines refl (section_at before) e) (omega (arith, at))
line_more line n (Isolation level ∷ before) e at = line_more line (suc n) before (script_behind IsolationLines refl (section_at before) e) (omega (arith, at))
line_more line n (Replicas count ∷ before) e at = line_more line (suc n) before (script_behind ReplicaLines refl (section_at before) e) (omega (arith, at))
line_more line n (TableOf name columns ∷ before) e at = line_more line (suc n) before (script_behind TableLines refl (section_at before) e) (omega (arith, at))
line_more line n (RowOf node table literals ∷ before) e at = line_more line (suc n) before (script_behind RowLines refl (section_at before) e) (omega (arith, at))
line_more line n (Schedule words ∷ before) e at = line_more line (suc n) before (script_behind ScheduleLines refl (section_at before) e) (omega (arith, at))
line_more line n (End ∷ before) e at = line_more line (suc n) before (script_behind EndLines refl (section_at before) e) (omega (arith, at))

pub step_taken : (scripts : List OwnScript) (before : List Said) (line : ScriptLine) → in_script before ≡ true → line.line ≡ suc (length before) → AreScripts scripts before → AreScripts (with_line line scripts) (before ++ StepOf line.step ∷ [])
step_taken scripts before line e at are = ap (with_line line) are ∙ line_more line 1 before e (omega (arith, at))

-- ---- what the scripts are

sessions_are : (n : ℕ) (said : List Said) → sessions_of (scripts_from n said) ≡ sessions_from n said
sessions_are n [] = refl
sessions_are n (SessionOf session ∷ said) = ap (λ (scripts : List Script). record { lines = steps_from (suc n) said } ∷ scripts) (sessions_are (suc n) said)
sessions_are n (LocalOf replica session ∷ said) = sessions_are (suc n) said
sessions_are n (Skipped ∷ said) = sessions_are (suc n) said
sessions_are n (StepOf step ∷ said) = sessions_are (suc n) said
sessions_are n (Header version ∷ said) = sessions_are (suc n) said
sessions_are n (Isolation level ∷ said) = sessions_are (suc n) said
sessions_are n (Replicas count ∷ said) = sessions_are (suc n) said
sessions_are n (TableOf name columns ∷ said) = sessions_are (suc n) said
sessions_are n (RowOf node table literals ∷ said) = sessions_are (suc n) said
sessions_are n (Schedule words ∷ said) = sessions_are (suc n) said
sessions_are n (End ∷ said) = sessions_are (suc n) said

locals_are : (replica n : ℕ) (said : List Said) → locals_of replica (scripts_from n said) ≡ locals_from replica n said
locals_are replica n [] = refl
locals_are replica n (LocalOf other session ∷ said) = ap (λ (scripts : List Script). if other == replica then record { lines = steps_from (suc n) said } ∷ scripts else scripts) (locals_are replica (suc n) said)
locals_are replica n (SessionOf session ∷ said) = locals_are replica (suc n) said
locals_are replica n (Skipped ∷ said) = locals_are replica (suc n) said
locals_are replica n (StepOf step ∷ said) = locals_are replica (suc n) said
locals_are replica n (Header version ∷ said) = locals_are replica (suc n) said
locals_are replica n (Isolation level ∷ said) = locals_are replica (suc n) said
locals_are replica n (Replicas count ∷ said) = locals_are replica (suc n) said
locals_are replica n (TableOf name columns ∷ said) = locals_are replica (suc n) said
locals_are replica n (RowOf node table literals ∷ said) = locals_are replica (suc n) said
locals_are replica n (Schedule words ∷ said) = locals_are replica (suc n) said
locals_are replica n (End ∷ said) = locals_are replica (suc n) said

pub sessions_told : (scripts : List OwnScript) (said : List Said) → AreScripts scripts said → sessions_of scripts ≡ sessions_from 1 said
sessions_told scripts said are = ap sessions_of are ∙ sessions_are 1 said

pub locals_told : (scripts : List OwnScript) (said : List Said) (replica : ℕ) → AreScripts scripts said → locals_of replica scripts ≡ locals_from replica 1 said
locals_told scripts said replica are = ap (locals_of replica) are ∙ locals_are replica 1 said
