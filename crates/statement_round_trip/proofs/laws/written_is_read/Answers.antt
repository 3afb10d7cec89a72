use Rattle.statement_round_trip.proofs.RoundTripLemmas.{written_is_read, written_is_read_only_so, texts_differ}
use Rattle.statement_round_trip.proofs.laws.written_is_read.Goals as goal

pub returns-clause-read : goal.returns-clause-read
returns-clause-read c = written_is_read

pub returns-clause-only : goal.returns-clause-only
returns-clause-only c = written_is_read_only_so

pub returns-clause-differ : goal.returns-clause-differ
returns-clause-differ c = texts_differ
