use Rattle.file_reader.proofs.ReadLemmas.{line_short, stops, all_read, never_ends}
use Rattle.file_reader.proofs.reads.read_short.Goals as goal

pub take_next-requires-clause-short : goal.take_next-requires-clause-short
take_next-requires-clause-short c =
    line_short c.args.bytes.now c.loop-line.rest.now c.in-Some.line.now c.in-Some.more.now c.loop-line.number c.loop-line.state c.loop-line.invariant c.in-Some.ensures.0

pub returns-in-Err-clause-refused : goal.returns-in-Err-clause-refused
returns-in-Err-clause-refused c =
    stops c.args.bytes.now c.loop-line.rest.now c.in-Some.line.now c.in-Some.more.now c.loop-line.number c.loop-line.state c.take_next.new.state c.in-Err.fault
    c.loop-line.invariant c.in-Some.ensures.0 c.in-Err.ensures

pub returns-then-state-clause-found : goal.returns-then-state-clause-found
returns-then-state-clause-found c = all_read c.args.bytes.now c.loop-line.rest.now c.loop-line.number c.loop-line.state c.loop-line.invariant c.in_default.ensures c.if-state.true

pub returns-else-state-clause-refused : goal.returns-else-state-clause-refused
returns-else-state-clause-refused c = never_ends c.args.bytes.now c.loop-line.rest.now c.loop-line.number c.loop-line.state c.loop-line.invariant c.in_default.ensures c.if-state.false
