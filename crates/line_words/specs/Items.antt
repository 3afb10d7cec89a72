-- Words of a schedule and nodes as the reader keeps them.
use Rattle.std.specs.Prelude.{◌≡◌, ◌≢◌, ◌==◌, not, ℕ, Bool, List, [], ◌∷◌, codes}
use Rattle.file_text.specs.Said.{Turn, ScheduleWord, Once, Times, StopTool, ResumeTool, StopReplica, StartReplica, Node, All, Source, Replica, IsTurn, IsDecimal, IsLed, IsOperators, IsScheduled, IsNode}
use Rattle.line_words.specs.declared.items.ItemWord.{ItemWord}
use Rattle.line_words.specs.declared.items.ItemWord.TheVariants as w
use Rattle.line_words.specs.declared.nodes.NodeWord.{NodeWord}
use Rattle.line_words.specs.declared.nodes.NodeWord.TheVariants as n
use Rattle.line_words.specs.Actors.{kept, kept_turn, NoActor}

abbrev pub kept_word : ScheduleWord → ItemWord
kept_word (Once turn) = w.Once (kept_turn turn)
kept_word (Times turn count) = w.Times (kept_turn turn) (kept count)
kept_word StopTool = w.StopTool
kept_word ResumeTool = w.ResumeTool
kept_word (StopReplica replica) = w.StopReplica (kept replica)
kept_word (StartReplica replica) = w.StartReplica (kept replica)

-- the text is this word of a schedule
pub record IsItemWord (text : List ℕ) (found : ItemWord) : Type 0 where
  pub word : ScheduleWord
  pub is : IsScheduled word text
  pub kept : found ≡ kept_word word

abbrev pub NoItem : List ℕ → Type 0
NoItem text = (word : ScheduleWord) → IsScheduled word text → ⊥

-- no operator's word
pub record NoOperator (text : List ℕ) : Type 0 where
  pub no_stop : text ≢ codes "stop:c"
  pub no_resume : text ≢ codes "resume:c"
  pub no_stop_replica : (replica : ℕ) → IsOperators (codes "stop:") replica text → ⊥
  pub no_start_replica : (replica : ℕ) → IsOperators (codes "start:") replica text → ⊥

-- neither the tool nor a replica
pub record NoStop (rest : List ℕ) : Type 0 where
  pub no_tool : rest ≢ 99 ∷ []
  pub no_replica : (replica : ℕ) → IsLed 114 replica rest → ⊥

pub record NoSingle (text : List ℕ) : Type 0 where
  pub no_actor : NoActor text
  pub no_operator : NoOperator text

abbrev pub NoTimes : List ℕ → List ℕ → Type 0
NoTimes front back = (turn : Turn) (count : ℕ) → IsTurn turn front → IsDecimal count back → ⊥

-- no `*`
abbrev pub is_no_star : ℕ → Bool
is_no_star byte = not (byte == 42)

abbrev pub kept_node : Node → NodeWord
kept_node All = n.All
kept_node Source = n.Source
kept_node (Replica replica) = n.Replica (kept replica)

-- the text is this node's word
pub record IsNodeWord (text : List ℕ) (found : NodeWord) : Type 0 where
  pub node : Node
  pub is : IsNode node text
  pub kept : found ≡ kept_node node

abbrev pub NoNode : List ℕ → Type 0
NoNode text = (node : Node) → IsNode node text → ⊥
