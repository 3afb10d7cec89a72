use Rattle.std.proofs.Common.{refl, ap, ◌≡◌, ℕ, List}
use Rattle.node_reads.specs.declared.readings.Reading.{Reading}
use Rattle.node_reads.specs.Readings.{reading_of}
use Rattle.node_parts.specs.declared.parts.Parts.{Parts}
use Rattle.node_engine.specs.Commits.{sums_in}
use Rattle.node_engine.proofs.CommittedLemmas.{commits, committed_view, committed_parts, commits_reads}
use Rattle.node_engine.proofs.commits.commit_parts.Goals as goal

sums_are : (items slice : List Reading) (owner : ℕ) → slice ≡ items → sums_in (reading_of owner slice) ≡ sums_in (reading_of owner items)
sums_are items slice owner same = ap (λ (rs : List Reading). sums_in (reading_of owner rs)) same

pub returns-clause-ok : goal.returns-clause-ok
returns-clause-ok c =
    let new : Parts = record { schemas = c.args.parts.now.schemas; start = c.args.parts.now.start; history = c.write_entry-position.new.history; checks = c.checks_now.new.checks; applied = c.applied_after-parts.result; tables = c.args.parts.now.tables; txns = c.close-done.new.self; locks = c.release.new.self; notes = c.forget.new.self; reads = c.forget-2.new.readings } in
    committed_view c.args.parts.now new c.args.owner c.args.origin c.requires.idle
    (commits c.args.parts.now new c.args.owner c.args.origin c.reserve.new.self.entries c.position_next-number.result (sums_in (reading_of c.args.owner.0 c.as_slice.result.now)) c.close-done.result c.logged-statements.result c.requires.idle c.requires.kept c.requires.reads
    (record { same_entries = c.reserve.ensures.entries; numbered = c.position_next-number.ensures; summed = sums_are c.args.parts.now.reads.items c.as_slice.result.now c.args.owner.0 c.as_slice.ensures.value; taken = c.close-done.ensures.done; those = c.logged-statements.ensures; schemas = refl; start = refl; tables = refl; history = c.write_entry-position.ensures.entries; txns = c.close-done.ensures.left; held = c.release.ensures.held; notes = c.forget.ensures; checks = c.in_ok-checks_now.ensures.ok; applied = c.applied_after-parts.ensures }))

pub returns-clause-kept : goal.returns-clause-kept
returns-clause-kept c =
    let new : Parts = record { schemas = c.args.parts.now.schemas; start = c.args.parts.now.start; history = c.write_entry-position.new.history; checks = c.checks_now.new.checks; applied = c.applied_after-parts.result; tables = c.args.parts.now.tables; txns = c.close-done.new.self; locks = c.release.new.self; notes = c.forget.new.self; reads = c.forget-2.new.readings } in
    committed_parts c.args.parts.now new c.args.owner c.args.origin c.requires.kept c.requires.idle
    (commits c.args.parts.now new c.args.owner c.args.origin c.reserve.new.self.entries c.position_next-number.result (sums_in (reading_of c.args.owner.0 c.as_slice.result.now)) c.close-done.result c.logged-statements.result c.requires.idle c.requires.kept c.requires.reads
    (record { same_entries = c.reserve.ensures.entries; numbered = c.position_next-number.ensures; summed = sums_are c.args.parts.now.reads.items c.as_slice.result.now c.args.owner.0 c.as_slice.ensures.value; taken = c.close-done.ensures.done; those = c.logged-statements.ensures; schemas = refl; start = refl; tables = refl; history = c.write_entry-position.ensures.entries; txns = c.close-done.ensures.left; held = c.release.ensures.held; notes = c.forget.ensures; checks = c.in_ok-checks_now.ensures.ok; applied = c.applied_after-parts.ensures }))

pub returns-clause-reads : goal.returns-clause-reads
returns-clause-reads c =
    let new : Parts = record { schemas = c.args.parts.now.schemas; start = c.args.parts.now.start; history = c.write_entry-position.new.history; checks = c.checks_now.new.checks; applied = c.applied_after-parts.result; tables = c.args.parts.now.tables; txns = c.close-done.new.self; locks = c.release.new.self; notes = c.forget.new.self; reads = c.forget-2.new.readings } in
    commits_reads c.args.parts.now new c.args.owner c.args.origin c.requires.idle c.requires.kept c.requires.reads
    (commits c.args.parts.now new c.args.owner c.args.origin c.reserve.new.self.entries c.position_next-number.result (sums_in (reading_of c.args.owner.0 c.as_slice.result.now)) c.close-done.result c.logged-statements.result c.requires.idle c.requires.kept c.requires.reads
    (record { same_entries = c.reserve.ensures.entries; numbered = c.position_next-number.ensures; summed = sums_are c.args.parts.now.reads.items c.as_slice.result.now c.args.owner.0 c.as_slice.ensures.value; taken = c.close-done.ensures.done; those = c.logged-statements.ensures; schemas = refl; start = refl; tables = refl; history = c.write_entry-position.ensures.entries; txns = c.close-done.ensures.left; held = c.release.ensures.held; notes = c.forget.ensures; checks = c.in_ok-checks_now.ensures.ok; applied = c.applied_after-parts.ensures })) c.forget-2.ensures
