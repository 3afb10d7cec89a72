-- The workload of a file is sound.
use Rattle.std.proofs.Common.{◌≡◌, ◌≤◌, ◌-◌, ℕ, true, false, List, [], ◌∷◌, ◌++◌, map, length, Option, sym, ap, subst, ◌∙◌, arith, append_assoc, append-nil}
use Rattle.std.specs.List.{slice_get, AllByRecursion, flat_map}
use Rattle.row_types.specs.Fit.{AreTables}
use Rattle.ptc_statement.specs.declared.scripts.Script.{Script}
use Rattle.file_text.specs.Said.{Said, ScheduleWord, Once, Times, StopTool, ResumeTool, StopReplica, StartReplica, Turn, OfSession, OfTool, OfSync, OfWorker, OfFurtherWorker, OfLocal}
use Rattle.file_text.specs.Context.{schemas_of, replicas_of, sessions_in, locals_in, is_ended}
use Rattle.file_text.specs.Causes.{IsReplica, IsDeclared as IsDeclaredIn}
use Rattle.file_text.specs.File.{content, AreGood, Contents, contents_of, tables_of_node, nodes_from, sessions_from, locals_from, words_said, played}
use Rattle.workload.specs.declared.workloads.Workload.{Workload}
use Rattle.workload.specs.Played.{actor_of, item_of}
use Rattle.workload.specs.Gives.{Gives}
use Rattle.workload_laws.specs.Sound.{IsOneOf, IsLocalOf, IsScript, IsDeclared, IsItem, IsSound, FilesAreSound}
use Rattle.workload_laws.proofs.ListLemmas.{all_map, all_weaker, all_each}
use Rattle.workload_laws.proofs.SoundLemmas.{Sound, none_sound, sound_more}
use Rattle.workload_laws.proofs.WholeLemmas.{Scripted, none_scripted, scripted_more}
use Rattle.workload_laws.proofs.DeclareLemmas.{WorkerIn, WordSound, LineDeclares, declares_more}
use Rattle.workload_laws.proofs.GiveLemmas.{Scripts, tables_are, tables_counted, tables_there, replicas_there, mapped_length, node_at, sessions_are, locals_are, all_words, all_played}

-- ---- all lines

record AllSound (said : List Said) : Type 0 where
  sound : Sound said
  scripts : Scripted said
  declares : AllByRecursion (LineDeclares said) said

all_sound : (before : List Said) (lines : List (List ℕ)) (said : List Said) → AreGood before lines said → AllSound before → AllSound (before ++ said)
all_sound before [] [] g s = subst AllSound (sym (append-nil before)) s
all_sound before [] (first ∷ said) g s = absurd g
all_sound before (line ∷ lines) [] g s = absurd g
all_sound before (line ∷ lines) (first ∷ said) g s =
    subst AllSound (append_assoc before (first ∷ []) said)
    (all_sound (before ++ first ∷ []) lines said g.2 (record {
      sound = sound_more before (content line) first g.1 s.sound;
      scripts = scripted_more before (content line) first g.1 s.scripts;
      declares = declares_more before (content line) first g.1 s.declares;
    }))

-- ---- what they give

abbrev given : Contents → Workload
given contents = record {
  schemas = record { tables = contents.schemas };
  replicas = contents.replicas;
  source = contents.source;
  copies = contents.copies;
  sessions = contents.sessions;
  locals = contents.locals;
  schedule = map item_of contents.schedule;
}

is_given : (contents : Contents) (workload : Workload) → Gives contents workload → given contents ≡ workload
is_given contents workload gives = sym (λ i. record {
  schemas = record { tables = gives.schemas i };
  replicas = gives.replicas i;
  source = gives.source i;
  copies = gives.copies i;
  sessions = gives.sessions i;
  locals = gives.locals i;
  schedule = gives.schedule i;
})

abbrev whole : List Said → Workload
whole said = given (contents_of said)

-- the scripts that the lines give, on the source and on a replica
record ScriptsAre (said : List Said) : Type 0 where
  sessions : Scripts (schemas_of said) (sessions_in said) (sessions_from 1 said)
  locals : (replica : ℕ) → Scripts (schemas_of said) (locals_in replica said) (locals_from replica 1 said)

scripts_are : (said : List Said) → Sound said → Scripted said → is_ended said ≡ true → ScriptsAre said
scripts_are said s k ended = record {
  sessions = sessions_are (schemas_of said) 1 false said s.fits k.keeps (k.closed ended);
  locals = λ replica. locals_are (schemas_of said) replica 1 false said s.fits k.keeps (k.closed ended);
}

-- as many of each as are counted
record Counts (said : List Said) : Type 0 where
  copies : length (whole said).copies ≡ replicas_of said
  sessions : length (whole said).sessions ≡ sessions_in said
  locals : (replica : ℕ) → length (locals_from replica 1 said) ≡ locals_in replica said

counts : (said : List Said) → Sound said → ScriptsAre said → Counts said
counts said s are = record {
  copies = mapped_length (tables_of_node said) (replicas_of said);
  sessions = are.sessions.number;
  locals = λ replica. (are.locals replica).number;
}

replica_declared : (said : List Said) (replica : ℕ) → Counts said → IsReplica said replica → IsOneOf (length (whole said).copies) replica
replica_declared said replica c d = subst (λ (n : ℕ). IsOneOf n replica) (sym c.copies) d

local_declared : (said : List Said) (replica session : ℕ) → Counts said → IsReplica said replica → IsOneOf (locals_in replica said) session → IsLocalOf (slice_get (whole said).locals (replica - 1)) session
local_declared said replica session c d l =
    subst (λ (found : Option (List Script)). IsLocalOf found session) (sym (node_at (λ (number : ℕ). locals_from number 1 said) (replicas_of said) replica d.0 d.1))
    (subst (λ (n : ℕ). IsOneOf n session) (sym (c.locals replica)) l)

turn_declared : (said : List Said) (turn : Turn) → Counts said → IsDeclaredIn said turn → WorkerIn turn → IsDeclared (whole said) (actor_of turn)
turn_declared said (OfSession session) c d w = subst (λ (n : ℕ). IsOneOf n session) (sym c.sessions) d
turn_declared said OfTool c d w = tt
turn_declared said (OfSync replica) c d w = replica_declared said replica c d
turn_declared said (OfWorker replica) c d w = (replica_declared said replica c d, (omega arith, omega arith))
turn_declared said (OfFurtherWorker replica worker) c d w = (replica_declared said replica c d, w)
turn_declared said (OfLocal replica session) c d w = (replica_declared said replica c d.0, local_declared said replica session c d.0 (d.1, d.2))

word_declared : (said : List Said) (word : ScheduleWord) → Counts said → WordSound said word → IsItem (whole said) (item_of word)
word_declared said (Once turn) c s = turn_declared said turn c s.declared s.workers
word_declared said (Times turn count) c s = turn_declared said turn c s.declared s.workers
word_declared said StopTool c s = tt
word_declared said ResumeTool c s = tt
word_declared said (StopReplica replica) c s = replica_declared said replica c s.declared
word_declared said (StartReplica replica) c s = replica_declared said replica c s.declared

items_declared : (said : List Said) → AllSound said → Counts said → AllByRecursion (IsItem (whole said)) (whole said).schedule
items_declared said s c =
    let words = flat_map played (flat_map words_said said) in
    all_map (IsItem (whole said)) item_of words
    (all_weaker (WordSound said) (λ (word : ScheduleWord). IsItem (whole said) (item_of word)) words (λ word w. word_declared said word c w)
    (all_played said (flat_map words_said said) (all_words said said s.declares)))

node_tables : (said : List Said) (node : ℕ) → Sound said → AreTables (schemas_of said) (tables_of_node said node)
node_tables said node s = tables_are (schemas_of said) (schemas_of said) node said s.named s.fits

given_sound : (said : List Said) → AllSound said → is_ended said ≡ true → IsSound (whole said)
given_sound said all ended =
    let s = all.sound in
    let there = s.ended ended in
    let are = scripts_are said s all.scripts ended in
    let c = counts said s are in
    record {
      schemas = s.schemas;
      tables = subst (IsOneOf 16) (tables_counted said) (tables_there said there.1, s.tables);
      source = node_tables said 0 s;
      copies = all_map (AreTables (schemas_of said)) (tables_of_node said) (nodes_from 1 (replicas_of said)) (all_each (λ (node : ℕ). AreTables (schemas_of said) (tables_of_node said node)) (nodes_from 1 (replicas_of said)) (λ node. node_tables said node s));
      replicas = subst (IsOneOf 8) (sym c.copies) (replicas_there (schemas_of said) said s.fits there.0, s.replicas);
      counted = sym c.copies;
      sessions = subst (λ (n : ℕ). n ≤ 64) (sym c.sessions) s.sessions;
      locals = mapped_length (λ (replica : ℕ). locals_from replica 1 said) (replicas_of said) ∙ sym c.copies;
      locals_most = all_map (λ (scripts : List Script). length scripts ≤ 16) (λ (replica : ℕ). locals_from replica 1 said) (nodes_from 1 (replicas_of said))
          (all_each (λ (replica : ℕ). length (locals_from replica 1 said) ≤ 16) (nodes_from 1 (replicas_of said)) (λ replica. subst (λ (n : ℕ). n ≤ 16) (sym (c.locals replica)) (s.locals replica)));
      scripts = are.sessions.fit;
      local_scripts = all_map (AllByRecursion (IsScript (schemas_of said))) (λ (replica : ℕ). locals_from replica 1 said) (nodes_from 1 (replicas_of said))
          (all_each (λ (replica : ℕ). AllByRecursion (IsScript (schemas_of said)) (locals_from replica 1 said)) (nodes_from 1 (replicas_of said)) (λ replica. (are.locals replica).fit));
      schedule = items_declared said all c;
    }

pub files_are_sound : FilesAreSound
files_are_sound bytes workload is =
    let file = is.file in
    let all = all_sound [] _ file.said file.lines (record { sound = none_sound; scripts = none_scripted; declares = tt }) in
    subst IsSound (ap given (sym file.gives) ∙ is_given is.contents workload is.gives) (given_sound file.said all file.ended)
