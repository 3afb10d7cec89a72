use Rattle.std.proofs.Common.{◌≡◌, [], ◌∷◌, length, ap, sym, subst}
use Rattle.statement_log.specs.declared.origins.Origin.TheVariants.{Checksum}
use Rattle.statement_log.specs.declared.entries.Entry.{Entry}
use Rattle.ptc_statement.specs.Fits.{FitsSchemas}
use Rattle.cluster_core.specs.Good.{PhaseFits}
use Rattle.cluster_core.specs.Node.{NodeView}
use Rattle.cluster_core.specs.World.{WorldView}
use Rattle.cluster_core.proofs.KeptLemmas.{log_more}
use Rattle.cluster_core.proofs.worlds.World.log_by_tool.Goals as goal

pub invariant_of-self-2 : goal.invariant_of-self-2
invariant_of-self-2 c =
    let kept = c.self.invariant in
    let entry : Entry = record { origin = Checksum; statements = c.args.statement ∷ [] } in
    let same : c.log_one.new.self.schemas ≡ c.self.inside.source.schemas = ap (λ (n : NodeView). n.schemas) c.in_ok-log_one.ensures.ok in
    let fits : FitsSchemas c.self.inside.source.schemas c.args.statement =
    subst (λ (w : WorldView). FitsSchemas w.source.schemas c.args.statement) (sym c.self.view_is) c.requires.statement in
    let phase : PhaseFits (length c.self.inside.source.schemas) c.args.phase =
    subst (λ (w : WorldView). PhaseFits (length w.source.schemas) c.args.phase) (sym c.self.view_is) c.requires.phase in
    record {
      tables = rw same kept.tables;
      replicas = kept.replicas;
      sessions = kept.sessions;
      schemas = rw same kept.schemas;
      log = rw same (log_more c.self.inside.source.schemas c.self.inside.source.history c.log_one.new.self.history entry
          kept.log (fits, tt) (ap (λ (n : NodeView). n.history) c.in_ok-log_one.ensures.ok));
      scripts = rw same kept.scripts;
      phase = rw same phase;
      schedule = kept.schedule;
    }
