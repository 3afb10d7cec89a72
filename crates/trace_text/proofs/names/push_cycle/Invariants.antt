use Rattle.std.proofs.Common.{◌≡◌, ◌++◌, drop}
use Rattle.trace_text.specs.Trace.{cycle_text}
use Rattle.trace_text.proofs.names.push_cycle.Given as goal

-- what is written, and then the text of what is left, is the whole
abbrev pub invariant-loop-actor : goal.invariant-loop-actor
invariant-loop-actor l =
    record l.writer { text = l.writer.text ++ cycle_text (drop l.actor-index l.cycle) }
    ≡ record l.initial.writer { text = l.initial.writer.text ++ cycle_text l.cycle }
