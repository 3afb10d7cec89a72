use Rattle.std.proofs.Common.{◌-◌, ◌<◌, length, drop, arith, subst}
use Rattle.std.specs.Prelude.{slice_set}
use Rattle.cluster_core.specs.World.{WorldView, worker_turn}
use Rattle.cluster_core.specs.Turns.{Takes}
use Rattle.cluster_core.proofs.MoveLemmas.{worker_takes}
use Rattle.cluster_core.proofs.worlds.World.worker_turn.Goals as goal

pub returns-clause-ok : goal.returns-clause-ok
returns-clause-ok c =
    let old : WorldView = record { source = c.self.inside.source; replicas = c.self.inside.replicas.items; sessions = c.self.inside.sessions.items; phase = c.self.inside.phase; unplayed = drop c.self.inside.played c.self.inside.schedule } in
    let new : WorldView = record old { replicas = slice_set old.replicas (c.args.replica - 1) c.apply_next.new.node } in
    let within : c.args.replica - 1 < length old.replicas = omega arith in
    let takes = rw c.history.ensures at c.in_ok-moved.ensures.ok in
    subst (λ (w : WorldView). Takes (worker_turn c.args.replica w) c.in_ok-moved.moved w new) c.self.view_is
    (worker_takes old c.args.replica c.index_mut.result.now c.apply_next.new.node c.in_ok-moved.moved within c.index_mut.ensures.value takes)
