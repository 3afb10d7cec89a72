use Rattle.std.proofs.Common.{refl, sym, ◌∙◌, ◌++◌, [], ◌∷◌}
use Rattle.statement_log.specs.declared.origins.Origin.TheVariants.{Checksum}
use Rattle.node_engine.proofs.PublishedLemmas.{published_parts, published_reads}
use Rattle.node_engine.proofs.publishing.publish_parts.Goals as goal

pub returns-clause-kept : goal.returns-clause-kept
returns-clause-kept c =
    published_parts c.args.parts.now _ c.args.table c.args.chunk c.in-Some.row.now c.requires.kept
    (record {
      found = sym c.in-Some.ensures;
      schemas = refl;
      start = refl;
      tables = refl;
      history = c.append_reserved-position.ensures.entries ∙ (λ i. c.reserve.ensures.entries i ++ (record { origin = Checksum; statements = c.in_ok-statements.ensures i } ∷ []));
      txns = refl;
      held = refl;
      notes = refl;
      checks = c.set_master.ensures.value;
      applied = refl;
    })

pub returns-clause-reads : goal.returns-clause-reads
returns-clause-reads c =
    published_reads c.args.parts.now
    (record { schemas = c.args.parts.now.schemas; start = c.args.parts.now.start; history = c.append_reserved-position.new.history; checks = c.set_master.new.self; applied = c.args.parts.now.applied; tables = c.args.parts.now.tables; txns = c.args.parts.now.txns; locks = c.args.parts.now.locks; notes = c.args.parts.now.notes; reads = c.args.parts.now.reads })
    c.args.table c.args.chunk c.in-Some.row.now c.requires.reads
    (record {
      found = sym c.in-Some.ensures;
      schemas = refl;
      start = refl;
      tables = refl;
      history = c.append_reserved-position.ensures.entries ∙ (λ i. c.reserve.ensures.entries i ++ (record { origin = Checksum; statements = c.in_ok-statements.ensures i } ∷ []));
      txns = refl;
      held = refl;
      notes = refl;
      checks = c.set_master.ensures.value;
      applied = refl;
    })
    refl
