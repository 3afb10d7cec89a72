use Rattle.std.proofs.Common.{◌∙◌}
use Rattle.world_summary.proofs.UnfinishedLemmas.{stays}
use Rattle.world_summary.proofs.unfinished.add_actor.Goals as goal

pub returns-clause-world : goal.returns-clause-world
returns-clause-world c = c.in_ok-note.ensures.ok ∙ stays c.args.item c.args.world.now c.requires.behind c.requires.still
