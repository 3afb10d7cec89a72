-- What the checksum tool tells of the source of a run.
use Rattle.std.specs.Prelude.{◌≢◌}
use Rattle.checksum_tool.specs.declared.phases.ToolTurn.TheVariants.{Victim}
use Rattle.checksum_tool.specs.Moves.{next_move}
use Rattle.checksum_tool_laws.specs.Told.{Told}
use Rattle.world_model.specs.Worlds.{WorldView}
use Rattle.world_laws.specs.Clients.{OfEachWorld}

abbrev pub SourcesAreTold : Type 0
SourcesAreTold = OfEachWorld (λ (world : WorldView). Told world.tool world.source)

-- the tool's next turn does not tell that another's turn rolled its chunk back
abbrev pub ToolsAreNoVictims : Type 0
ToolsAreNoVictims = OfEachWorld (λ (world : WorldView). (next_move world.tool world.source).turn ≢ Victim)
