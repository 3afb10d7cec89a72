-- The slots of a row comparison, as the code names them.
use Rattle.std.specs.Prelude.{Bool, true, false, List, [], ◌∷◌, Option, None, Some}
use Rattle.statement_grammar.specs.Grammar as g
use Rattle.statement_states.specs.declared.row_slots.Slot.{Slot}
use Rattle.statement_states.specs.declared.row_slots.Slot.TheVariants as slot
use Rattle.statement_states.specs.declared.row_slots.AfterSlot.{AfterSlot}
use Rattle.statement_states.specs.declared.row_slots.AfterSlot.TheVariants as after

abbrev pub slot_due : Slot → g.Slot
slot_due slot.SecondColumn = g.SecondSlot
slot_due slot.CloseColumns = g.CloseSlot
slot_due slot.Comparison = g.CompareSlot
slot_due slot.OpenValues = g.OpenSlot
slot_due slot.FirstValue = g.ValueSlot
slot_due slot.FirstDigits = g.DigitsSlot
slot_due slot.ValuesComma = g.CommaSlot
slot_due slot.SecondValue = g.ValueSlot
slot_due slot.SecondDigits = g.DigitsSlot
slot_due slot.CloseValues = g.CloseSlot

abbrev pub slots_left : Slot → List g.Slot
slots_left slot.SecondColumn = g.CloseSlot ∷ g.CompareSlot ∷ g.OpenSlot ∷ g.ValueSlot ∷ g.CommaSlot ∷ g.ValueSlot ∷ g.CloseSlot ∷ []
slots_left slot.CloseColumns = g.CompareSlot ∷ g.OpenSlot ∷ g.ValueSlot ∷ g.CommaSlot ∷ g.ValueSlot ∷ g.CloseSlot ∷ []
slots_left slot.Comparison = g.OpenSlot ∷ g.ValueSlot ∷ g.CommaSlot ∷ g.ValueSlot ∷ g.CloseSlot ∷ []
slots_left slot.OpenValues = g.ValueSlot ∷ g.CommaSlot ∷ g.ValueSlot ∷ g.CloseSlot ∷ []
slots_left slot.FirstValue = g.CommaSlot ∷ g.ValueSlot ∷ g.CloseSlot ∷ []
slots_left slot.FirstDigits = g.CommaSlot ∷ g.ValueSlot ∷ g.CloseSlot ∷ []
slots_left slot.ValuesComma = g.ValueSlot ∷ g.CloseSlot ∷ []
slots_left slot.SecondValue = g.CloseSlot ∷ []
slots_left slot.SecondDigits = g.CloseSlot ∷ []
slots_left slot.CloseValues = []

-- all slots that are left behind a token; None where it does not fit
abbrev pub slots_of : AfterSlot → Option (List g.Slot)
slots_of after.Misfit = None
slots_of (after.Next slot) = Some (slot_due slot ∷ slots_left slot)
slots_of after.Done = Some []

abbrev pub slots_if : Bool → Slot → Option (List g.Slot)
slots_if true slot = Some (slot_due slot ∷ slots_left slot)
slots_if false slot = None
