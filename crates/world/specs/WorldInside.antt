-- A world is seen as its parts are, and keeps what they do.
use Rattle.world_model.specs.Worlds.{WorldView}
use Rattle.world.specs.declared.worlds.World.TheInside.{Inside}
use Rattle.world.specs.WorldParts.{world_view, PartsKept}

abbrev pub view_of : Inside → WorldView
view_of world = world_view world.parts

abbrev pub WorldKept : Inside → Type 0
WorldKept world = PartsKept world.parts
