-- The lines of a report on turns: a word for each kind of line, in the words of the trace.
use Rattle.std.specs.Prelude.{ℕ, ◌+◌, ◌==◌, cond, List, [], ◌∷◌, ◌++◌, codes}
use Rattle.std.specs.Fmt.{decimal}
use Rattle.row_types.specs.declared.table_schema.Schema.{Schema}
use Rattle.statement_text.specs.Texts.{name_of}
use Rattle.workload.specs.declared.actors.Actor.{Actor}
use Rattle.workload.specs.declared.actors.Actor.TheVariants as a
use Rattle.workload.specs.declared.schedule.Item.{Item}
use Rattle.workload.specs.declared.schedule.Item.TheVariants as i
use Rattle.trace_text.specs.declared.notes.Note.{Note}
use Rattle.trace_text.specs.declared.notes.Note.TheVariants as n
use Rattle.trace_text.specs.declared.notes.Why.{Why}
use Rattle.trace_text.specs.declared.notes.Why.TheVariants as w
use Rattle.trace_text.specs.declared.lines.JournalLine.{JournalLine}
use Rattle.trace_text.specs.declared.lines.DuplicateLine.{DuplicateLine}
use Rattle.trace_text.specs.declared.lines.AbandonedLine.{AbandonedLine}
use Rattle.trace_text.specs.declared.lines.UnfinishedLine.{UnfinishedLine}

-- ---- who

unfoldable pub replica_text : ℕ → List ℕ
replica_text replica = codes "r" ++ decimal replica

-- the first worker of a replica has the replica's name
unfoldable pub worker_text : ℕ → ℕ → List ℕ
worker_text replica worker = replica_text replica ++ cond (worker == 1) [] (codes "." ++ decimal worker)

unfoldable pub local_text : ℕ → ℕ → List ℕ
local_text replica session = replica_text replica ++ codes ".l" ++ decimal session

unfoldable pub actor_text : Actor → List ℕ
actor_text (a.Session session) = codes "s" ++ decimal session
actor_text a.Tool = codes "c"
actor_text (a.Sync replica) = codes "y" ++ decimal replica
actor_text (a.Worker replica worker) = worker_text replica worker
actor_text (a.Local replica session) = local_text replica session

unfoldable pub item_text : Item → List ℕ
item_text (i.Turn actor) = actor_text actor
item_text i.StopTool = codes "stop:c"
item_text i.ResumeTool = codes "resume:c"
item_text (i.StopReplica replica) = codes "stop:" ++ replica_text replica
item_text (i.StartReplica replica) = codes "start:" ++ replica_text replica

-- ---- the trace

-- the actors of a cycle, each behind a space
abbrev pub cycle_text : List Actor → List ℕ
cycle_text [] = []
cycle_text (actor ∷ actors) = codes " " ++ actor_text actor ++ cycle_text actors

unfoldable pub deadlock_text : Actor → List Actor → List ℕ
deadlock_text victim cycle = codes "deadlock " ++ actor_text victim ++ codes " cycle" ++ cycle_text cycle

unfoldable pub choose_text : List Schema → ℕ → ℕ → List ℕ
choose_text schemas table chunk = codes "choose " ++ name_of schemas table ++ codes " " ++ decimal chunk

unfoldable pub note_text : List Schema → Note → List ℕ
note_text schemas n.Off = codes "off"
note_text schemas n.Step = codes "step"
note_text schemas n.Done = codes "done"
note_text schemas (n.Waits by) = codes "waits " ++ actor_text by
note_text schemas (n.Deadlock victim cycle) = deadlock_text victim cycle
note_text schemas n.Duplicate = codes "duplicate"
note_text schemas n.Victim = codes "victim"
note_text schemas n.Begin = codes "begin"
note_text schemas n.Start = codes "start"
note_text schemas (n.Commit position) = codes "commit " ++ decimal position
note_text schemas n.CommitNone = codes "commit none"
note_text schemas n.CommitLocal = codes "commit local"
note_text schemas n.Rollback = codes "rollback"
note_text schemas n.Finished = codes "finished"
note_text schemas n.Stopped = codes "stopped"
note_text schemas (n.Take entry) = codes "take " ++ decimal entry
note_text schemas (n.Nothing applied) = codes "nothing " ++ decimal applied
note_text schemas (n.Order entry) = codes "order " ++ decimal entry
note_text schemas (n.Retries rollbacks) = codes "retries " ++ decimal rollbacks
note_text schemas (n.Clear position) = codes "clear " ++ decimal position
note_text schemas (n.Choose table chunk) = choose_text schemas table chunk
note_text schemas (n.Master position) = codes "master " ++ decimal position

unfoldable pub journal_line : List Schema → ℕ → JournalLine → List ℕ
journal_line schemas number line = codes "T " ++ decimal number ++ codes " " ++ item_text line.item ++ codes " " ++ note_text schemas line.note ++ codes "\n"

-- the lines of a journal, the first of this number
abbrev pub journal_lines : List Schema → ℕ → List JournalLine → List ℕ
journal_lines schemas number [] = []
journal_lines schemas number (line ∷ lines) = journal_line schemas number line ++ journal_lines schemas (number + 1) lines

-- ---- what the actors leave

unfoldable pub duplicate_line : DuplicateLine → List ℕ
duplicate_line line = codes "DUPLICATE " ++ actor_text line.actor ++ codes " line " ++ decimal line.line ++ codes "\n"

unfoldable pub abandoned_line : AbandonedLine → List ℕ
abandoned_line line = codes "ABANDONED " ++ actor_text line.actor ++ codes " " ++ decimal line.number ++ codes "\n"

unfoldable pub why_text : Why → List ℕ
why_text (w.Retries rollbacks) = codes "retries " ++ decimal rollbacks
why_text (w.Waits by) = codes "waits " ++ actor_text by
why_text (w.Order entry) = codes "order " ++ decimal entry

unfoldable pub unfinished_word : List ℕ
unfinished_word = codes "UNFINISHED "

unfoldable pub unfinished_line : UnfinishedLine → List ℕ
unfinished_line line = unfinished_word ++ actor_text line.actor ++ codes " " ++ why_text line.why ++ codes "\n"
