-- What one line more adds to the counts.
use Rattle.std.specs.Prelude.{◌≡◌, ◌≢◌, ◌+◌, ℕ, List, [], ◌∷◌, get_or}
use Rattle.line_words.specs.declared.items.ItemWord.{ItemWord}
use Rattle.line_items.specs.declared.counts.Counts.{Counts}
use Rattle.line_items.specs.Counted.{turns_of_word}

-- turns and operator's words, with repeats
abbrev pub turns_of : List ItemWord → ℕ
turns_of [] = 0
turns_of (word ∷ words) = turns_of_word word + turns_of words

abbrev pub SameLocals : Counts → Counts → Type 0
SameLocals old new = (replica : ℕ) → get_or new.locals.items replica 0 ≡ get_or old.locals.items replica 0

pub record SameCounts (old new : Counts) : Type 0 where
  pub sessions : new.sessions ≡ old.sessions
  pub locals : SameLocals old new
  pub scheduled : new.scheduled ≡ old.scheduled

pub record CountsSession (old new : Counts) : Type 0 where
  pub sessions : new.sessions ≡ old.sessions + 1
  pub locals : SameLocals old new
  pub scheduled : new.scheduled ≡ old.scheduled

pub record CountsLocal (replica : ℕ) (old new : Counts) : Type 0 where
  pub sessions : new.sessions ≡ old.sessions
  pub own : get_or new.locals.items replica 0 ≡ get_or old.locals.items replica 0 + 1
  pub others : (other : ℕ) → other ≢ replica → get_or new.locals.items other 0 ≡ get_or old.locals.items other 0
  pub scheduled : new.scheduled ≡ old.scheduled

pub record CountsTurns (turns : ℕ) (old new : Counts) : Type 0 where
  pub sessions : new.sessions ≡ old.sessions
  pub locals : SameLocals old new
  pub scheduled : new.scheduled ≡ old.scheduled + turns
