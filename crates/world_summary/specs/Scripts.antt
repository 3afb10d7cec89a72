-- What sessions of a node could not do of their scripts.
use Rattle.std.specs.Prelude.{ℕ, List, map}
use Rattle.workload.specs.declared.actors.Actor.{Actor}
use Rattle.workload.specs.declared.actors.Actor.TheVariants as a
use Rattle.turn_notes.specs.declared.actors.Place.{Place}
use Rattle.turn_notes.specs.declared.actors.Place.TheVariants.{Source, Replica}
use Rattle.trace_text.specs.declared.lines.DuplicateLine.{DuplicateLine}
use Rattle.trace_text.specs.declared.lines.AbandonedLine.{AbandonedLine}

-- the session of a number on a node
abbrev pub session_of : Place → ℕ → Actor
session_of Source = a.Session
session_of (Replica number) = a.Local number

abbrev pub duplicates_by : Actor → List ℕ → List DuplicateLine
duplicates_by actor lines = map (λ (line : ℕ). record { actor = actor; line = line }) lines

abbrev pub abandoned_by : Actor → List ℕ → List AbandonedLine
abandoned_by actor numbers = map (λ (number : ℕ). record { actor = actor; number = number }) numbers
