-- What contracts see of a world's parts, and what always holds of them.
use Rattle.std.specs.Prelude.{ℕ, ◌≡◌}
use Rattle.trace_text.specs.declared.notes.Note.{Note}
use Rattle.world_model.specs.Worlds.{WorldView}
use Rattle.world_model.specs.Turns.{Turned}
use Rattle.world_model.specs.Rounds.{moves_in}
use Rattle.world.specs.declared.parts.Parts.{Parts}
use Rattle.world.specs.RunOf.{IsRun}

abbrev pub world_view : Parts → WorldView
world_view parts = record {
  options = parts.options;
  source = parts.source;
  sessions = parts.sessions.items;
  tool = parts.tool;
  replicas = parts.replicas.items;
  schedule = parts.schedule;
  journal = parts.journal.items;
}

abbrev pub turned_by : Note → Parts → Turned
turned_by note parts = record { note = note; world = world_view parts }

-- its moves are those that the journal tells of
pub record IsCounted (world : WorldView) (moves : ℕ) : Type 0 where
  pub run : IsRun world
  pub counted : moves ≡ moves_in world.journal

abbrev pub PartsKept : Parts → Type 0
PartsKept parts = IsCounted (world_view parts) parts.moves
