use Rattle.std.proofs.Common.{Some, ◌-◌, ◌<◌, length, drop, ap, sym, ◌∙◌, arith, subst}
use Rattle.std.specs.Prelude.{slice_set}
use Rattle.std.proofs.lemmas.List.{length-set}
use Rattle.cluster_core.specs.Sessions.{SessionView}
use Rattle.cluster_core.specs.World.{WorldView, session_turn}
use Rattle.cluster_core.specs.Good.{StepsFit}
use Rattle.cluster_core.specs.Turns.{Takes}
use Rattle.cluster_core.proofs.EachLemmas.{each_at, each_set}
use Rattle.cluster_core.proofs.MoveLemmas.{slice_get-within}
use Rattle.cluster_core.proofs.KeptLemmas.{turn_keeps, session_takes}
use Rattle.cluster_core.proofs.worlds.World.session_turn.Goals as goal

pub invariant_of-self-2 : goal.invariant_of-self-2
invariant_of-self-2 c =
    let kept = c.self.invariant in
    let schemas = c.self.inside.source.schemas in
    let within : c.args.session - 1 < length c.self.inside.sessions.items = omega arith in
    let found = slice_get-within c.self.inside.sessions.items (c.args.session - 1) c.index_mut-one.result.now within
    ∙ ap (λ (v : SessionView). Some v) (sym c.index_mut-one.ensures.value) in
    let steps = each_at (StepsFit schemas) c.self.inside.sessions.items (c.args.session - 1) c.index_mut-one.result.now kept.scripts found in
    let both = turn_keeps schemas c.args.session c.index_mut-one.result.now c.turn.new.self c.self.inside.source c.turn.new.source c.in_ok-moved.moved steps kept.log c.in_ok-moved.ensures.ok in
    let after : StepsFit schemas c.turn.new.self = rw both.script steps in
    record {
      tables = rw both.schemas_stay kept.tables;
      replicas = kept.replicas;
      sessions = omega (arith, length-set c.self.inside.sessions.items (c.args.session - 1) c.turn.new.self, kept.sessions);
      schemas = rw both.schemas_stay kept.schemas;
      log = rw both.schemas_stay both.log;
      schedule = kept.schedule;
      phase = rw both.schemas_stay kept.phase;
      scripts = rw both.schemas_stay (each_set (StepsFit schemas) c.self.inside.sessions.items (c.args.session - 1) c.turn.new.self kept.scripts after);
    }

pub returns-clause-ok : goal.returns-clause-ok
returns-clause-ok c =
    let old : WorldView = record { source = c.self.inside.source; replicas = c.self.inside.replicas.items; sessions = c.self.inside.sessions.items; phase = c.self.inside.phase; unplayed = drop c.self.inside.played c.self.inside.schedule } in
    let new : WorldView = record old { source = c.turn.new.source; sessions = slice_set old.sessions (c.args.session - 1) c.turn.new.self } in
    let within : c.args.session - 1 < length old.sessions = omega arith in
    subst (λ (w : WorldView). Takes (session_turn c.args.session w) c.in_ok-moved.moved w new) c.self.view_is
    (session_takes old c.args.session c.index_mut-one.result.now c.turn.new.self c.turn.new.source c.in_ok-moved.moved within c.index_mut-one.ensures.value c.in_ok-moved.ensures.ok)
