use Rattle.std.proofs.Common.{◌≤◌, length, subst, sym, arith}
use Rattle.workload.specs.declared.actors.Actor.{Actor}
use Rattle.world_model.specs.Worlds.{WorldView}
use Rattle.world_model.specs.Turns.{turn}
use Rattle.world.specs.NoteCycles.{note_cycle}
use Rattle.world.specs.WorldParts.{world_view}
use Rattle.world.proofs.CycleLemmas.{session_turn_few, tool_turn_few, worker_turn_few, local_turn_few}
use Rattle.world.proofs.turns.most_for.Goals as goal

pub returns-in-Session : goal.returns-in-Session
returns-in-Session c =
    let world : WorldView = world_view c.args.parts.now in
    let few = session_turn_few c.in-Session.field-0 world in
    subst (λ (actor : Actor). length (note_cycle (turn actor world).note) ≤ c.open_count.result) (sym c.in-Session.is) (omega (arith, few, c.open_count.ensures))

pub returns-in-Tool : goal.returns-in-Tool
returns-in-Tool c =
    let world : WorldView = world_view c.args.parts.now in
    let few = tool_turn_few world in
    subst (λ (actor : Actor). length (note_cycle (turn actor world).note) ≤ c.open_count-in-Tool.result) (sym c.in-Tool.is) (omega (arith, few, c.open_count-in-Tool.ensures))

pub returns-in-Worker : goal.returns-in-Worker
returns-in-Worker c =
    let world : WorldView = world_view c.args.parts.now in
    let few = worker_turn_few c.in-Worker.replica c.in-Worker.worker world.source.history world in
    subst (λ (actor : Actor). length (note_cycle (turn actor world).note) ≤ c.open_on.result) (sym c.in-Worker.is) (omega (arith, few, c.open_on.ensures))

pub returns-in-Local : goal.returns-in-Local
returns-in-Local c =
    let world : WorldView = world_view c.args.parts.now in
    let few = local_turn_few c.in-Local.replica world.options.retries c.in-Local.session world in
    subst (λ (actor : Actor). length (note_cycle (turn actor world).note) ≤ c.open_on-in-Local.result) (sym c.in-Local.is) (omega (arith, few, c.open_on-in-Local.ensures))
