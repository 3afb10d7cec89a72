-- Lines of which only the words before tell whether they break a rule.
use Rattle.std.proofs.Common.{◌≡◌, ℕ, Bool, true, false, List, Option, refl}
use Rattle.std.specs.Prelude.{not}
use Rattle.file_text.specs.declared.places.Section.TheVariants.{PtcLines, IsolationLines, ReplicaLines, SessionLines, EndLines}
use Rattle.file_text.specs.Said.{Said, Header, Isolation, Replicas, SessionOf, End, Level, RepeatableRead, ReadCommitted, ReadUncommitted, Serializable}
use Rattle.file_text.specs.Context.{is_there}
use Rattle.file_text.specs.Causes.{IsOtherLevel}
use Rattle.line_checks.specs.declared.line_faults.LineFault.{LineFault}
use Rattle.line_checks.specs.declared.marks.Marks.{Marks}
use Rattle.line_checks.specs.MarksOf.{IsMarked}
use Rattle.file_scripts.specs.Laws.{Tells}
use Rattle.line_decisions.specs.Decides.{Decides}
use Rattle.line_decisions.specs.Tests.{first_broken, plain_tests, level_tests}
use Rattle.line_values.specs.Lines.{is_repeatable}
use Rattle.line_decisions.proofs.ToldLemmas.{decided, script_told, there_told}

pub header_decided : (marks : Marks) (result : Option LineFault) → result ≡ first_broken (plain_tests PtcLines marks.header marks) → (before : List Said) (line : List ℕ) (version : ℕ) → IsMarked marks before → Decides PtcLines before line (Header version) result
header_decided marks result e before line version m = decided PtcLines before line (Header version) (plain_tests PtcLines marks.header marks) result e (record {
  twice = there_told marks.header (is_there PtcLines before) m.header;
  level = λ w. w;
  row = λ fault w. w;
  script = script_told PtcLines before (Header version) marks m refl;
  actor = λ number w. w;
})

level_told : (level : Level) (repeatable : Bool) → repeatable ≡ is_repeatable level → Tells (not repeatable) (IsOtherLevel (Isolation level))
level_told RepeatableRead true e = λ w. w
level_told RepeatableRead false e = absurd cc
level_told ReadCommitted true e = absurd cc
level_told ReadCommitted false e = tt
level_told ReadUncommitted true e = absurd cc
level_told ReadUncommitted false e = tt
level_told Serializable true e = absurd cc
level_told Serializable false e = tt

pub level_decided : (marks : Marks) (repeatable : Bool) (result : Option LineFault) → result ≡ first_broken (level_tests repeatable marks) → (before : List Said) (line : List ℕ) (level : Level) → IsMarked marks before → repeatable ≡ is_repeatable level
    → Decides IsolationLines before line (Isolation level) result
level_decided marks repeatable result e before line level m r = decided IsolationLines before line (Isolation level) (level_tests repeatable marks) result e (record {
  twice = there_told marks.isolation (is_there IsolationLines before) m.isolation;
  level = level_told level repeatable r;
  row = λ fault w. w;
  script = script_told IsolationLines before (Isolation level) marks m refl;
  actor = λ number w. w;
})

pub replicas_decided : (marks : Marks) (result : Option LineFault) → result ≡ first_broken (plain_tests ReplicaLines marks.replica_line marks) → (before : List Said) (line : List ℕ) (count : ℕ) → IsMarked marks before → Decides ReplicaLines before line (Replicas count) result
replicas_decided marks result e before line count m = decided ReplicaLines before line (Replicas count) (plain_tests ReplicaLines marks.replica_line marks) result e (record {
  twice = there_told marks.replica_line (is_there ReplicaLines before) m.replica_line;
  level = λ w. w;
  row = λ fault w. w;
  script = script_told ReplicaLines before (Replicas count) marks m refl;
  actor = λ number w. w;
})

pub session_decided : (marks : Marks) (result : Option LineFault) → result ≡ first_broken (plain_tests SessionLines false marks) → (before : List Said) (line : List ℕ) (session : ℕ) → IsMarked marks before → Decides SessionLines before line (SessionOf session) result
session_decided marks result e before line session m = decided SessionLines before line (SessionOf session) (plain_tests SessionLines false marks) result e (record {
  twice = λ w. w;
  level = λ w. w;
  row = λ fault w. w;
  script = script_told SessionLines before (SessionOf session) marks m refl;
  actor = λ number w. w;
})

pub end_decided : (marks : Marks) (result : Option LineFault) → result ≡ first_broken (plain_tests EndLines false marks) → (before : List Said) (line : List ℕ) → IsMarked marks before → Decides EndLines before line End result
end_decided marks result e before line m = decided EndLines before line End (plain_tests EndLines false marks) result e (record {
  twice = λ w. w;
  level = λ w. w;
  row = λ fault w. w;
  script = script_told EndLines before End marks m refl;
  actor = λ number w. w;
})
