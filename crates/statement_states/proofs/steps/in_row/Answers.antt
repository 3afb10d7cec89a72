use Rattle.std.proofs.Common.{◌≡◌, List, Some, subst}
use Rattle.std.specs.Option.{option_map}
use Rattle.statement_tokens.specs.declared.words.Token.{Token}
use Rattle.statement_grammar.specs.Sentence.{setting}
use Rattle.statement_grammar.specs.FirstFault.{keys_of}
use Rattle.statement_grammar.specs.Machine.{row_next}
use Rattle.statement_operands.specs.Operands.{operands}
use Rattle.statement_states.specs.Slots.{slot_due, slots_left, slots_of}
use Rattle.statement_states.specs.States.{state_of}
use Rattle.statement_states.proofs.StepLemmas.{row_moves}
use Rattle.statement_states.proofs.steps.in_row.Goals as goal

pub returns : goal.returns
returns c =
    row_moves (setting c.args.base (keys_of c.args.schema.now)) c.args.schema.now c.args.stack c.args.seen (slot_due c.args.slot) (slots_left c.args.slot) c.args.token
    (slots_of c.after_slot-after.result) (state_of c.in_ok-state.state) c.after_slot-after.ensures
    (subst (λ (seen : List Token). option_map (row_next (operands c.args.schema.now) c.args.stack seen) (slots_of c.after_slot-after.result) ≡ Some (state_of c.in_ok-state.state)) c.in_ok-push.ensures.ok c.in_ok-state.ensures)
