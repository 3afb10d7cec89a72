-- The states, as the machine has them, and what is there of the tree in each.
use Rattle.std.specs.Prelude.{◌≡◌, ℕ, Option, None, Some, if◌then◌else◌}
use Rattle.row_types.specs.declared.table_schema.Schema.{Schema}
use Rattle.statement_tokens.specs.declared.words.Token.{Token}
use Rattle.statement_grammar.specs.Grammar.{is_number}
use Rattle.statement_grammar.specs.Machine as m
use Rattle.statement_grammar.specs.Machine.{close, held_at, same_sort}
use Rattle.statement_grammar.specs.Cut.{RowTest}
use Rattle.statement_reader.specs.Facts.{facts_of, leaf_facts, sign_facts, nullness_facts, paren_facts}
use Rattle.statement_reader.specs.declared.facts.Facts.{Facts}
use Rattle.statement_reader.specs.declared.facts.Sort.TheVariants.{Any}
use Rattle.statement_operands.specs.Operands.{operands, leaf_operand}
use Rattle.statement_operands.specs.declared.operands.Operand.{Operand}
use Rattle.statement_stacks.specs.Plugs.{plug}
use Rattle.statement_stacks.specs.Levels.{around}
use Rattle.statement_stacks.specs.Closes.{held_of}
use Rattle.statement_states.specs.Slots.{slot_due, slots_left}
use Rattle.statement_states.specs.declared.states.State.{State}
use Rattle.statement_states.specs.declared.states.State.TheVariants as s

abbrev pub state_of : State → m.State Operand
state_of (s.Due stack) = m.Due stack
state_of (s.Read held) = m.Read (held_of held)
state_of (s.SawIs held i) = m.SawIs (held_of held) i
state_of (s.SawNot held i n) = m.SawNot (held_of held) i n
state_of (s.Lone stack o a) = m.Lone stack o a
state_of (s.InRow stack seen slot) = m.InRow stack seen (slot_due slot) (slots_left slot)
state_of (s.SawMinus stack o) = m.SawMinus stack o

abbrev pub gap : Facts
gap = leaf_facts 0 Any None

-- the facts of the tree so far, where the text ends in this state
abbrev pub facts_so_far : Schema → m.State Operand → Facts
facts_so_far schema (m.Due fs) = plug fs gap
facts_so_far schema (m.Read h) = plug h.stack h.x.facts
facts_so_far schema (m.SawIs h i) = plug h.stack (nullness_facts h.x.facts)
facts_so_far schema (m.SawNot h i n) = plug h.stack (nullness_facts h.x.facts)
facts_so_far schema (m.Lone fs o a) = plug fs (paren_facts o.place (leaf_operand schema a.word a.place).facts)
facts_so_far schema (m.InRow fs seen slot slots) = plug fs (facts_of schema (RowTest seen))
facts_so_far schema (m.SawMinus fs o) = plug fs (sign_facts o.word o.place gap)

-- how high it is where this token comes next; 65 stands for more than 64
abbrev pub height_before : m.State Operand → Token → ℕ
height_before (m.Due fs) t = around fs 1
height_before (m.Read h) t = around h.stack h.x.facts.height
height_before (m.SawIs h i) t = around h.stack (nullness_facts h.x.facts).height
height_before (m.SawNot h i n) t = around h.stack (nullness_facts h.x.facts).height
height_before (m.Lone fs o a) t = around fs 1
height_before (m.InRow fs seen slot slots) t = around fs 1
height_before (m.SawMinus fs o) t = around fs (if is_number t.word then 1 else 2)

abbrev pub all_closed : Schema → Option (m.Held Operand) → Option (m.Held Operand)
all_closed schema None = None
all_closed schema (Some h) = close (operands schema) 1 h.stack h.condition h.x

-- the tree with all closed that is open
abbrev pub closed_state : Schema → m.State Operand → Option (m.Held Operand)
closed_state schema state = all_closed schema (held_at (operands schema) state)

-- both are the same tree so far, and the same tree where all is closed
pub record AreAlike (schema : Schema) (a b : m.State Operand) : Type 0 where
  pub facts : facts_so_far schema a ≡ facts_so_far schema b
  pub whole : closed_state schema a ≡ closed_state schema b
