use Rattle.statement_round_trip.proofs.DigestLemmas.{checksums_are_said, keys_are_said}
use Rattle.statement_round_trip.proofs.laws.tool_can_be_said.Goals as goal

pub returns-clause-checksums : goal.returns-clause-checksums
returns-clause-checksums c = checksums_are_said

pub returns-clause-keys : goal.returns-clause-keys
returns-clause-keys c = keys_are_said
