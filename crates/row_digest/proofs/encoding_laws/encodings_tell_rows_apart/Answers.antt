use Rattle.row_digest.proofs.EncodingLemmas.{rows_apart}
use Rattle.row_digest.proofs.encoding_laws.encodings_tell_rows_apart.Goals as goal

pub returns : goal.returns
returns c = rows_apart
