-- Words of actors as the reader keeps them.
use Rattle.std.specs.Prelude.{◌≡◌, ◌-◌, ◌^◌, ℕ, min, List, [], ◌∷◌}
use Rattle.file_text.specs.Said.{Turn, OfSession, OfTool, OfSync, OfWorker, OfFurtherWorker, OfLocal, IsTurn, IsDecimal}
use Rattle.line_words.specs.declared.actors.ActorWord.{ActorWord}
use Rattle.line_words.specs.declared.actors.ActorWord.TheVariants.{Session, Tool, Sync, Worker, FurtherWorker, Local}
use Rattle.line_words.specs.Numbers.{Capped}

-- a number past 128 bits is the greatest of 128 bits
abbrev pub kept : ℕ → ℕ
kept n = min n (2 ^ 128 - 1)

abbrev pub kept_turn : Turn → ActorWord
kept_turn (OfSession session) = Session (kept session)
kept_turn OfTool = Tool
kept_turn (OfSync replica) = Sync (kept replica)
kept_turn (OfWorker replica) = Worker (kept replica)
kept_turn (OfFurtherWorker replica worker) = FurtherWorker (kept replica) (kept worker)
kept_turn (OfLocal replica session) = Local (kept replica) (kept session)

-- the text is this actor's word
pub record IsActorWord (text : List ℕ) (found : ActorWord) : Type 0 where
  pub turn : Turn
  pub is : IsTurn turn text
  pub kept : found ≡ kept_turn turn

abbrev pub NoActor : List ℕ → Type 0
NoActor text = (turn : Turn) → IsTurn turn text → ⊥

-- behind a replica's word and a point: a worker's number, or `l` and a session's
pub data BehindPoint (replica : ℕ) (back : List ℕ) (found : ActorWord) : Type 0 where
  OfNumber : (n : ℕ) → Capped (λ (m : ℕ). IsDecimal m back) n → found ≡ FurtherWorker replica n → BehindPoint replica back found
  OfSessionNumber : (more : List ℕ) (n : ℕ) → back ≡ 108 ∷ more → Capped (λ (m : ℕ). IsDecimal m more) n → found ≡ Local replica n → BehindPoint replica back found

pub record NothingBehindPoint (back : List ℕ) : Type 0 where
  pub no_number : (n : ℕ) → IsDecimal n back → ⊥
  pub no_session : (more : List ℕ) (n : ℕ) → back ≡ 108 ∷ more → IsDecimal n more → ⊥
