-- One session more.
use Rattle.std.proofs.Common.{◌≡◌, ℕ, ◌+◌, List, ◌∷◌, ◌++◌, refl}
use Rattle.session.specs.Sessions.{SessionView}
use Rattle.turn_notes.specs.declared.actors.Place.{Place}
use Rattle.world_model.specs.Summary.{abandoned_from}
use Rattle.world_summary.specs.Scripts.{session_of, abandoned_by}

pub abandoned_more : (place : Place) (number : ℕ) (session : SessionView) (sessions : List SessionView)
    → abandoned_from (session_of place) number (session ∷ sessions) ≡ abandoned_by (session_of place number) session.abandoned ++ abandoned_from (session_of place) (number + 1) sessions
abandoned_more place number session sessions = refl
