use Rattle.std.proofs.Common.{refl}
use Rattle.node_visits.proofs.SettleLemmas.{due_free, can_write, settled_view, settled_kept}
use Rattle.node_visits.proofs.GainLemmas.{settled_reads}
use Rattle.node_visits.proofs.visits.settle.Goals as goal

pub take_due-requires-clause-free : goal.take_due-requires-clause-free
take_due-requires-clause-free c = due_free c.args.parts.now c.args.owner c.args.due c.requires.due c.requires.free

pub write_due-requires : goal.write_due-requires
write_due-requires c = can_write c.args.parts.now c.args.owner c.args.due c.requires.kept c.requires.due c.requires.free c.requires.room

pub returns-clause-ok : goal.returns-clause-ok
returns-clause-ok c =
    settled_view c.args.parts.now (record { schemas = c.args.parts.now.schemas; start = c.args.parts.now.start; history = c.args.parts.now.history; checks = c.args.parts.now.checks; applied = c.args.parts.now.applied; tables = c.write_due.new.tables; txns = c.step.new.self; locks = c.take_due.new.locks; notes = c.write_due.new.notes; reads = c.grow_of.new.readings }) c.args.owner c.args.due c.requires.due c.requires.free
    (record { frame = record { schemas = refl; start = refl; history = refl; checks = refl; applied = refl }; txns = c.in_ok-step.ensures.ok; held = c.take_due.ensures; written = c.write_due.ensures })

pub returns-clause-kept : goal.returns-clause-kept
returns-clause-kept c =
    settled_kept c.args.parts.now _ c.args.owner c.args.due c.requires.kept c.requires.due c.requires.free c.requires.room
    (record { frame = record { schemas = refl; start = refl; history = refl; checks = refl; applied = refl }; txns = c.in_ok-step.ensures.ok; held = c.take_due.ensures; written = c.write_due.ensures })

pub returns-clause-reads : goal.returns-clause-reads
returns-clause-reads c =
    settled_reads c.args.parts.now c.args.owner c.args.due c.args.gain _ _ c.requires.kept c.requires.reads c.requires.due c.requires.free c.requires.gain c.grow_of.ensures.own c.grow_of.ensures.others c.in_ok-step.ensures.ok
