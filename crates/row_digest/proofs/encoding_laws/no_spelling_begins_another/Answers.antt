use Rattle.row_digest.proofs.EncodingLemmas.{value_apart}
use Rattle.row_digest.proofs.encoding_laws.no_spelling_begins_another.Goals as goal

pub returns : goal.returns
returns c = value_apart
