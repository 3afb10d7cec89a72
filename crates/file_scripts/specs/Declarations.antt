-- Who is declared, told from what the reader keeps.
use Rattle.std.specs.Prelude.{◌&&◌, leb, ℕ, suc, Bool, true, List, [], ◌∷◌, Option, None, Some, get_or, if◌then◌else◌}
use Rattle.line_words.specs.declared.actors.ActorWord.{ActorWord}
use Rattle.line_words.specs.declared.actors.ActorWord.TheVariants.{Session, Tool, Sync, Worker, FurtherWorker, Local}
use Rattle.line_words.specs.declared.items.ItemWord.{ItemWord}
use Rattle.line_words.specs.declared.items.ItemWord.TheVariants.{Once, Times, StopTool, ResumeTool, StopReplica, StartReplica}
use Rattle.line_words.specs.declared.nodes.NodeWord.{NodeWord}
use Rattle.line_words.specs.declared.nodes.NodeWord.TheVariants.{All, Source, Replica}
use Rattle.line_items.specs.declared.counts.Counts.{Counts}

-- one of so many numbers, from 1
abbrev pub is_within : ℕ → ℕ → Bool
is_within number count = leb 1 number && leb number count

abbrev pub declares_node : ℕ → NodeWord → Bool
declares_node replicas All = true
declares_node replicas Source = true
declares_node replicas (Replica replica) = is_within replica replicas

abbrev pub declares : Counts → ℕ → ActorWord → Bool
declares counts replicas (Session session) = is_within session counts.sessions
declares counts replicas Tool = true
declares counts replicas (Sync replica) = is_within replica replicas
declares counts replicas (Worker replica) = is_within replica replicas
declares counts replicas (FurtherWorker replica worker) = is_within replica replicas
declares counts replicas (Local replica session) = is_within replica replicas && is_within session (get_or counts.locals.items replica 0)

abbrev pub declares_word : Counts → ℕ → ItemWord → Bool
declares_word counts replicas (Once actor) = declares counts replicas actor
declares_word counts replicas (Times actor count) = declares counts replicas actor
declares_word counts replicas StopTool = true
declares_word counts replicas ResumeTool = true
declares_word counts replicas (StopReplica replica) = is_within replica replicas
declares_word counts replicas (StartReplica replica) = is_within replica replicas

-- the number of the first word that names nobody; the first word has this number
abbrev pub first_undeclared : Counts → ℕ → ℕ → List ItemWord → Option ℕ
first_undeclared counts replicas number [] = None
first_undeclared counts replicas number (word ∷ words) =
    if declares_word counts replicas word then first_undeclared counts replicas (suc number) words else Some number
