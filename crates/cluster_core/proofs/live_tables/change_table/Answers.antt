use Rattle.std.proofs.Common.{ap, ◌∙◌}
use Rattle.table_changes.specs.RowChanges.{done}
use Rattle.cluster_core.proofs.LiveLemmas.{sound_after}
use Rattle.cluster_core.proofs.live_tables.change_table.Goals as goal

pub returns-clause-sound : goal.returns-clause-sound
returns-clause-sound c =
    let changes = c.in_ok-change.change.rows in
    sound_after c.args.schema.now c.args.statement.now c.args.table.now c.perform.new.table c.requires.sound c.requires.statement
    (c.perform.ensures.key_len ∙ c.reserve.ensures.key_len)
    (c.perform.ensures.rows
    ∙ ap (λ n. done n changes c.reserve.new.self.rows) c.reserve.ensures.key_len
    ∙ ap (done c.args.table.now.key_len changes) c.reserve.ensures.rows
    ∙ c.in_ok-change.ensures.rows)
