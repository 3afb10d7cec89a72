use Rattle.std.proofs.Common.{◌∙◌, ap, sym}
use Rattle.std.specs.Option.{option_copied}
use Rattle.node_parts.proofs.PutAllLemmas.{table_missing, notes_keyed, no_table, committed_is}
use Rattle.node_parts.proofs.committed_rows.committed_in.Goals as goal

pub unreachable-requires : goal.unreachable-requires
unreachable-requires c =
    table_missing c.args.parts.now c.args.number c.in-Some.field-0.now (option_copied c.table_at.result) c.requires (sym c.in-Some.ensures) c.table_at.ensures (ap option_copied c.in_default.is)

pub put_all_back-requires : goal.put_all_back-requires
put_all_back-requires c = notes_keyed c.args.parts.now c.args.number c.in-Some.field-0.now c.in-Some-table_at.live.now c.requires (sym c.in-Some.ensures) (sym c.in-Some-table_at.ensures)

pub returns-in-None : goal.returns-in-None
returns-in-None c = c.new.ensures ∙ no_table c.args.parts.now c.args.number c.requires (sym c.in-None.ensures)

pub returns-in_ok-rows-in-Some : goal.returns-in_ok-rows-in-Some
returns-in_ok-rows-in-Some c =
    committed_is c.args.parts.now c.args.number c.in-Some.field-0.now c.in-Some-table_at.live.now c.in_ok-rows-in-Some.rows c.requires (sym c.in-Some.ensures) (sym c.in-Some-table_at.ensures) c.in_ok-rows-in-Some.ensures
