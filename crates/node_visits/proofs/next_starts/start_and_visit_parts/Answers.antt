use Rattle.std.proofs.Common.{◌∙◌, refl, ap}
use Rattle.std.specs.Prelude.{is_some}
use Rattle.node_parts.proofs.StartLemmas.{started_under_way, back_view, back_kept, back_reads}
use Rattle.node_visits.proofs.next_starts.start_and_visit_parts.Goals as goal

pub visit_parts-requires-clause-under_way : goal.visit_parts-requires-clause-under_way
visit_parts-requires-clause-under_way c = started_under_way c.args.parts.now c.start_parts.new.parts c.args.owner c.args.statement c.requires.idle c.in_ok-start_parts.ensures.ok

pub withdraw-requires : goal.withdraw-requires
withdraw-requires c =
    ap is_some (started_under_way c.args.parts.now c.visit_parts.new.parts c.args.owner c.args.statement c.requires.idle (c.in-Err.ensures.err ∙ c.in_ok-start_parts.ensures.ok)).found

pub returns-in-Err-clause-err : goal.returns-in-Err-clause-err
returns-in-Err-clause-err c =
    back_view c.args.parts.now c.visit_parts.new.parts
    (record { schemas = c.visit_parts.new.parts.schemas; start = c.visit_parts.new.parts.start; history = c.visit_parts.new.parts.history; checks = c.visit_parts.new.parts.checks; applied = c.visit_parts.new.parts.applied; tables = c.visit_parts.new.parts.tables; txns = c.withdraw.new.self; locks = c.visit_parts.new.parts.locks; notes = c.visit_parts.new.parts.notes; reads = c.visit_parts.new.parts.reads })
    c.args.owner c.args.statement c.requires.idle
    (record {
      visit = c.in-Err.ensures.err ∙ c.in_ok-start_parts.ensures.ok;
      still = record { frame = record { schemas = refl; start = refl; history = refl; checks = refl; applied = refl }; tables = refl; notes = refl; held = refl };
      back = c.withdraw.ensures;
    })

pub returns-in-Err-clause-kept : goal.returns-in-Err-clause-kept
returns-in-Err-clause-kept c =
    back_kept c.args.parts.now c.visit_parts.new.parts _ c.args.owner c.args.statement c.requires.idle c.requires.kept c.visit_parts.ensures.kept
    (record {
      visit = c.in-Err.ensures.err ∙ c.in_ok-start_parts.ensures.ok;
      still = record { frame = record { schemas = refl; start = refl; history = refl; checks = refl; applied = refl }; tables = refl; notes = refl; held = refl };
      back = c.withdraw.ensures;
    })

pub returns-in-Err-clause-reads : goal.returns-in-Err-clause-reads
returns-in-Err-clause-reads c =
    back_reads c.args.parts.now c.visit_parts.new.parts
    (record { schemas = c.visit_parts.new.parts.schemas; start = c.visit_parts.new.parts.start; history = c.visit_parts.new.parts.history; checks = c.visit_parts.new.parts.checks; applied = c.visit_parts.new.parts.applied; tables = c.visit_parts.new.parts.tables; txns = c.withdraw.new.self; locks = c.visit_parts.new.parts.locks; notes = c.visit_parts.new.parts.notes; reads = c.visit_parts.new.parts.reads })
    c.args.owner c.args.statement c.requires.idle c.requires.fits c.visit_parts.ensures.reads
    (record {
      visit = c.in-Err.ensures.err ∙ c.in_ok-start_parts.ensures.ok;
      still = record { frame = record { schemas = refl; start = refl; history = refl; checks = refl; applied = refl }; tables = refl; notes = refl; held = refl };
      back = c.withdraw.ensures;
    })
    refl
