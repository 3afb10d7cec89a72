use Rattle.std.proofs.Common.{List, ap}
use Rattle.trace_text.specs.declared.lines.JournalLine.{JournalLine}
use Rattle.world_model.specs.Worlds.{WorldView}
use Rattle.world.specs.WorldParts.{world_view}
use Rattle.world.proofs.StepLemmas.{run_is_good, played_counted}
use Rattle.world.proofs.steps.play_parts.Goals as goal

pub item_turn-requires : goal.item_turn-requires
item_turn-requires c = rw c.reserve.ensures.items (run_is_good (world_view c.args.parts.now) c.requires.run)

pub returns-clause-kept : goal.returns-clause-kept
returns-clause-kept c =
    let old : WorldView = world_view c.args.parts.now in
    let reserved : WorldView = record old { journal = c.reserve.new.self.items } in
    played_counted c.args.item old reserved (world_view c.item_turn.new.parts) (world_view c.write_line.new.parts) c.in_ok-note.note
    c.args.parts.now.moves c.write_line.new.parts.moves c.requires
    (ap (λ (lines : List JournalLine). record old { journal = lines }) c.reserve.ensures.items) c.in_ok-note.ensures.ok c.write_line.ensures.line c.write_line.ensures.moves
