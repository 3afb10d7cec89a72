-- Marks with one line more.
use Rattle.std.proofs.Common.{◌≡◌, ℕ, Bool, false, List, [], ◌∷◌, ◌++◌, Some, refl, sym, ap, subst, ◌∙◌, arith}
use Rattle.std.specs.Prelude.{◌+◌, ◌||◌}
use Rattle.file_text.specs.declared.places.Section.{Section}
use Rattle.file_text.specs.declared.places.Section.TheVariants.{PtcLines, IsolationLines, ReplicaLines, TableLines, RowLines, SessionLines, LocalLines, ScheduleLines, EndLines}
use Rattle.ptc_statement.specs.declared.scripts.ScriptStep.{ScriptStep}
use Rattle.file_text.specs.Said.{Said, Skipped, Header, Isolation, Replicas, TableOf, RowOf, SessionOf, LocalOf, StepOf, Schedule, End, section_of}
use Rattle.file_text.specs.Context.{replicas_said, is_end, same_section, said_opens}
use Rattle.file_text.specs.Causes.{tables_said}
use Rattle.file_laws.proofs.FitLemmas.{some_is}
use Rattle.cause_laws.proofs.MoreLemmas.{newest, section_more, there_more, ended_more, opened_more, replicas_more, tables_more}
use Rattle.line_checks.specs.declared.marks.Marks.{Marks}
use Rattle.line_checks.specs.MarksOf.{IsMarked, none_marked, marked, with_replicas, with_step}

pub none_is_marked : IsMarked none_marked []
none_is_marked = record { last = refl; header = refl; isolation = refl; replica_line = refl; table_line = refl; tables = refl; replicas = refl; ended = refl; in_transaction = refl }

-- ---- marks

-- what the marks become with a line that says this
abbrev pub behind : Marks → Said → Marks
behind m said = record {
  last = newest (section_of said) m.last;
  header = same_section PtcLines (section_of said) || m.header;
  isolation = same_section IsolationLines (section_of said) || m.isolation;
  replica_line = same_section ReplicaLines (section_of said) || m.replica_line;
  table_line = same_section TableLines (section_of said) || m.table_line;
  tables = m.tables + tables_said said;
  replicas = m.replicas + replicas_said said;
  ended = is_end said || m.ended;
  in_transaction = said_opens m.in_transaction said;
}

pub marked_more : (m : Marks) (before : List Said) (said : Said) → IsMarked m before → IsMarked (behind m said) (before ++ said ∷ [])
marked_more m before said k = record {
  last = ap (newest (section_of said)) k.last ∙ sym (section_more before said);
  header = ap (λ (b : Bool). same_section PtcLines (section_of said) || b) k.header ∙ sym (there_more PtcLines before said);
  isolation = ap (λ (b : Bool). same_section IsolationLines (section_of said) || b) k.isolation ∙ sym (there_more IsolationLines before said);
  replica_line = ap (λ (b : Bool). same_section ReplicaLines (section_of said) || b) k.replica_line ∙ sym (there_more ReplicaLines before said);
  table_line = ap (λ (b : Bool). same_section TableLines (section_of said) || b) k.table_line ∙ sym (there_more TableLines before said);
  tables = ap (λ (n : ℕ). n + tables_said said) k.tables ∙ sym (tables_more before said);
  replicas = ap (λ (n : ℕ). n + replicas_said said) k.replicas ∙ sym (replicas_more before said);
  ended = ap (λ (b : Bool). is_end said || b) k.ended ∙ sym (ended_more before said);
  in_transaction = ap (λ (b : Bool). said_opens b said) k.in_transaction ∙ sym (opened_more false before said);
}

abbrev with_tables : Marks → ℕ → Marks
with_tables m tables = record { last = m.last; header = m.header; isolation = m.isolation; replica_line = m.replica_line; table_line = m.table_line; tables = tables; replicas = m.replicas; ended = m.ended; in_transaction = m.in_transaction }

plus_none : (n : ℕ) → n + 0 ≡ n
plus_none n = omega arith

-- no table more
same_tables : (m : Marks) → with_tables m (m.tables + 0) ≡ m
same_tables m = ap (with_tables m) (plus_none m.tables)

at : (m : Marks) (said : Said) (found section : Section) → Some found ≡ Some section → behind m said ≡ with_replicas (replicas_said said) (marked found m) → behind m said ≡ with_replicas (replicas_said said) (marked section m)
at m said found section e b = subst (λ (s : Section). behind m said ≡ with_replicas (replicas_said said) (marked s m)) (some_is found section e) b

-- a line of a section
pub section_behind : (m : Marks) (said : Said) (section : Section) → section_of said ≡ Some section → behind m said ≡ with_replicas (replicas_said said) (marked section m)
section_behind m Skipped section e = absurd cc
section_behind m (Header version) section e = at m (Header version) PtcLines section e (same_tables (with_replicas 0 (marked PtcLines m)))
section_behind m (Isolation level) section e = at m (Isolation level) IsolationLines section e (same_tables (with_replicas 0 (marked IsolationLines m)))
section_behind m (Replicas count) section e = at m (Replicas count) ReplicaLines section e (same_tables (with_replicas count (marked ReplicaLines m)))
section_behind m (TableOf name columns) section e = at m (TableOf name columns) TableLines section e refl
section_behind m (RowOf node table literals) section e = at m (RowOf node table literals) RowLines section e (same_tables (with_replicas 0 (marked RowLines m)))
section_behind m (SessionOf session) section e = at m (SessionOf session) SessionLines section e (same_tables (with_replicas 0 (marked SessionLines m)))
section_behind m (LocalOf replica session) section e = at m (LocalOf replica session) LocalLines section e (same_tables (with_replicas 0 (marked LocalLines m)))
section_behind m (StepOf step) section e = absurd cc
section_behind m (Schedule words) section e = at m (Schedule words) ScheduleLines section e (same_tables (with_replicas 0 (marked ScheduleLines m)))
section_behind m End section e = at m End EndLines section e (same_tables (with_replicas 0 (marked EndLines m)))

abbrev with_number : Marks → ℕ → Marks
with_number m replicas = record { last = m.last; header = m.header; isolation = m.isolation; replica_line = m.replica_line; table_line = m.table_line; tables = m.tables; replicas = replicas; ended = m.ended; in_transaction = m.in_transaction }

no_replicas : (m : Marks) → with_replicas 0 m ≡ m
no_replicas m = ap (with_number m) (plus_none m.replicas)

pub replicas_marked : (m : Marks) (before : List Said) (count : ℕ) → IsMarked m before → IsMarked (with_replicas count (marked ReplicaLines m)) (before ++ Replicas count ∷ [])
replicas_marked m before count k = subst (λ (n : Marks). IsMarked n (before ++ Replicas count ∷ [])) (section_behind m (Replicas count) ReplicaLines refl) (marked_more m before (Replicas count) k)

pub section_marked : (m : Marks) (before : List Said) (said : Said) (section : Section) → section_of said ≡ Some section → replicas_said said ≡ 0 → IsMarked m before → IsMarked (marked section m) (before ++ said ∷ [])
section_marked m before said section e z k =
    subst (λ (n : Marks). IsMarked n (before ++ said ∷ []))
    (section_behind m said section e ∙ ap (λ (n : ℕ). with_replicas n (marked section m)) z ∙ no_replicas (marked section m))
    (marked_more m before said k)

pub step_marked : (m : Marks) (before : List Said) (step : ScriptStep) → IsMarked m before → IsMarked (with_step step m) (before ++ StepOf step ∷ [])
step_marked m before step k =
    subst (λ (n : Marks). IsMarked n (before ++ StepOf step ∷ []))
    (ap (λ (n : ℕ). with_number (with_tables (with_step step m) (m.tables + 0)) n) (plus_none m.replicas) ∙ same_tables (with_step step m))
    (marked_more m before (StepOf step) k)

pub skipped_marked : (m : Marks) (before : List Said) → IsMarked m before → IsMarked m (before ++ Skipped ∷ [])
skipped_marked m before k =
    subst (λ (n : Marks). IsMarked n (before ++ Skipped ∷ []))
    (ap (λ (n : ℕ). with_number (with_tables m (m.tables + 0)) n) (plus_none m.replicas) ∙ same_tables m)
    (marked_more m before Skipped k)
