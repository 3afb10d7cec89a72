-- What is there of a whole tree, round an operand of which these are the facts.
use Rattle.std.specs.Prelude.{List, [], ◌∷◌}
use Rattle.statement_grammar.specs.declared.frames.Frame.{Frame}
use Rattle.statement_grammar.specs.declared.frames.Frame.TheVariants.{Before, Behind, Low, High, Opened}
use Rattle.statement_reader.specs.Facts.{sign_facts, two_facts, lower_facts, range_facts, paren_facts}
use Rattle.statement_reader.specs.declared.facts.Facts.{Facts}
use Rattle.statement_operands.specs.declared.operands.Operand.{Operand}

abbrev pub plugged : Frame Operand → Facts → Facts
plugged (Before t) x = sign_facts t.word t.place x
plugged (Behind l t) x = two_facts t.word l.facts x
plugged (Low v b) x = lower_facts v.facts x
plugged (High v b l a) x = range_facts v.facts l.facts x
plugged (Opened o takes) x = paren_facts o.place x

abbrev pub plug : List (Frame Operand) → Facts → Facts
plug [] x = x
plug (f ∷ fs) x = plug fs (plugged f x)
