use Rattle.std.proofs.Common.{List, drop, ap, ◌∙◌}
use Rattle.cluster_core.specs.World.{WorldView, behind_item}
use Rattle.workload_file.specs.declared.schedule.Item.{Item}
use Rattle.cluster_core.proofs.KeptLemmas.{drop_next}
use Rattle.cluster_core.proofs.worlds.World.count_item.Goals as goal

pub returns-then-self-len : goal.returns-then-self-len
returns-then-self-len c =
    let world = c.self.inside in
    let old : WorldView = record { source = world.source; replicas = world.replicas.items; sessions = world.sessions.items; phase = world.phase; unplayed = drop world.played world.schedule } in
    ap (λ (items : List Item). record old { unplayed = items }) (drop_next world.played world.schedule) ∙ ap behind_item c.self.view_is
