use Rattle.std.proofs.Common.{◌∙◌, ap}
use Rattle.turn_notes.specs.declared.actors.Place.TheVariants.{Replica}
use Rattle.world_model.specs.Worlds.{begun_sessions}
use Rattle.world.specs.Teams.{origin_of}
use Rattle.world.proofs.BeginLemmas.{replica_begun}
use Rattle.world.proofs.begins.new_replica.Goals as goal

pub returns : goal.returns
returns c = c.new-3.ensures ∙ replica_begun c.args.options.now c.args.schemas.tables c.args.number c.args.start c.args.scripts _ _ _ c.in_ok-node.ensures
    (c.in_ok-locals.ensures ∙ ap (begun_sessions (origin_of (Replica c.args.number)) 1) c.scripts.view_is) c.in_ok-applier.ensures
