use Rattle.std.proofs.Common.{length, ap, ◌∙◌}
use Rattle.cluster_core.specs.LiveTables.{LiveView}
use Rattle.cluster_core.proofs.SummaryLemmas.{as_many_tables}
use Rattle.cluster_core.proofs.live_tables.LiveTables.as_slice.Goals as goal

pub returns-clause-len : goal.returns-clause-len
returns-clause-len c =
    ap length c.as_slice.ensures.value
    ∙ as_many_tables c.self.inside.schemas.tables c.self.inside.tables.items c.self.invariant
    ∙ ap (λ (live : LiveView). length live.schemas) c.self.view_is
