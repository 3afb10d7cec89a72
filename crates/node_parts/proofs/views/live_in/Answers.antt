use Rattle.std.proofs.Common.{sym}
use Rattle.std.specs.Prelude.{option_copied}
use Rattle.node_parts.proofs.ViewLemmas.{live_is}
use Rattle.node_parts.proofs.views.live_in.Goals as goal

pub returns-in-Some : goal.returns-in-Some
returns-in-Some c =
    live_is c.args.parts.now c.args.number c.in-Some.field-0.now (option_copied c.table_at.result) c.requires (sym c.in-Some.ensures) c.table_at.ensures
