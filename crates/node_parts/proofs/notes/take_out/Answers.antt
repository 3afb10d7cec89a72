use Rattle.std.proofs.Common.{rules, not, ◌==◌}
use Rattle.std.proofs.lemmas.Fn.{filter_same}
use Rattle.node_parts.specs.declared.notes.Note.{Note}
use Rattle.node_parts.proofs.notes.take_out.Goals as goal

pub returns-clause-items : goal.returns-clause-items
returns-clause-items c = filter_same _ (λ (note : Note). not (note.owner.0 == c.args.owner.0)) _ (λ x b f' k. search rules) _ _ c.retain.ensures.filtered
