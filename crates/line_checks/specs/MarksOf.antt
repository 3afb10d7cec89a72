-- What the lines before a line leave of the rules on order, and on what may be said once.
use Rattle.std.specs.Prelude.{◌≡◌, ◌+◌, ◌&&◌, ℕ, Bool, true, false, List, None, Some}
use Rattle.file_text.specs.declared.places.Section.{Section}
use Rattle.file_text.specs.declared.places.Section.TheVariants.{PtcLines, IsolationLines, ReplicaLines, TableLines, RowLines, SessionLines, LocalLines, ScheduleLines, EndLines}
use Rattle.ptc_statement.specs.declared.scripts.ScriptStep.{ScriptStep}
use Rattle.file_text.specs.Said.{Said}
use Rattle.file_text.specs.Context.{replicas_of, is_ended, section_at, is_there, is_open, step_opens}
use Rattle.file_text.specs.Causes.{tables_in, needs, at_or_behind as is_at_or_behind}
use Rattle.line_checks.specs.declared.marks.Marks.{Marks}

-- these are the marks of the lines before
pub record IsMarked (marks : Marks) (before : List Said) : Type 0 where
  pub last : marks.last ≡ section_at before
  pub header : marks.header ≡ is_there PtcLines before
  pub isolation : marks.isolation ≡ is_there IsolationLines before
  pub replica_line : marks.replica_line ≡ is_there ReplicaLines before
  pub table_line : marks.table_line ≡ is_there TableLines before
  pub tables : marks.tables ≡ tables_in before
  pub replicas : marks.replicas ≡ replicas_of before
  pub ended : marks.ended ≡ is_ended before
  pub in_transaction : marks.in_transaction ≡ is_open before

abbrev pub none_marked : Marks
none_marked = record { last = None; header = false; isolation = false; replica_line = false; table_line = false; tables = 0; replicas = 0; ended = false; in_transaction = false }

-- with a line of this section
abbrev pub marked : Section → Marks → Marks
marked PtcLines m = record { last = Some PtcLines; header = true; isolation = m.isolation; replica_line = m.replica_line; table_line = m.table_line; tables = m.tables; replicas = m.replicas; ended = m.ended; in_transaction = m.in_transaction }
marked IsolationLines m = record { last = Some IsolationLines; header = m.header; isolation = true; replica_line = m.replica_line; table_line = m.table_line; tables = m.tables; replicas = m.replicas; ended = m.ended; in_transaction = m.in_transaction }
marked ReplicaLines m = record { last = Some ReplicaLines; header = m.header; isolation = m.isolation; replica_line = true; table_line = m.table_line; tables = m.tables; replicas = m.replicas; ended = m.ended; in_transaction = m.in_transaction }
marked TableLines m = record { last = Some TableLines; header = m.header; isolation = m.isolation; replica_line = m.replica_line; table_line = true; tables = m.tables + 1; replicas = m.replicas; ended = m.ended; in_transaction = m.in_transaction }
marked EndLines m = record { last = Some EndLines; header = m.header; isolation = m.isolation; replica_line = m.replica_line; table_line = m.table_line; tables = m.tables; replicas = m.replicas; ended = true; in_transaction = m.in_transaction }
marked RowLines m = record { last = Some RowLines; header = m.header; isolation = m.isolation; replica_line = m.replica_line; table_line = m.table_line; tables = m.tables; replicas = m.replicas; ended = m.ended; in_transaction = m.in_transaction }
marked SessionLines m = record { last = Some SessionLines; header = m.header; isolation = m.isolation; replica_line = m.replica_line; table_line = m.table_line; tables = m.tables; replicas = m.replicas; ended = m.ended; in_transaction = m.in_transaction }
marked LocalLines m = record { last = Some LocalLines; header = m.header; isolation = m.isolation; replica_line = m.replica_line; table_line = m.table_line; tables = m.tables; replicas = m.replicas; ended = m.ended; in_transaction = m.in_transaction }
marked ScheduleLines m = record { last = Some ScheduleLines; header = m.header; isolation = m.isolation; replica_line = m.replica_line; table_line = m.table_line; tables = m.tables; replicas = m.replicas; ended = m.ended; in_transaction = m.in_transaction }

-- with this number of replicas more
abbrev pub with_replicas : ℕ → Marks → Marks
with_replicas count m = record { last = m.last; header = m.header; isolation = m.isolation; replica_line = m.replica_line; table_line = m.table_line; tables = m.tables; replicas = m.replicas + count; ended = m.ended; in_transaction = m.in_transaction }

-- with a step of a script
abbrev pub with_step : ScriptStep → Marks → Marks
with_step step m = record { last = m.last; header = m.header; isolation = m.isolation; replica_line = m.replica_line; table_line = m.table_line; tables = m.tables; replicas = m.replicas; ended = m.ended; in_transaction = step_opens m.in_transaction step }

abbrev pub has_needed : Bool → Bool → Bool
has_needed false there = true
has_needed true there = there

abbrev pub has_what_it_needs : Section → Marks → Bool
has_what_it_needs section m =
    has_needed (needs section PtcLines) m.header && (has_needed (needs section ReplicaLines) m.replica_line && has_needed (needs section TableLines) m.table_line)

abbrev pub in_order : Section → Marks → Bool
in_order section m = is_at_or_behind m.last section && has_what_it_needs section m
