use Rattle.std.proofs.Common.{[], ◌∷◌}
use Rattle.row_digest.specs.Digest.{no_rows}
use Rattle.row_digest.proofs.DigestLemmas.{added_rows-append, digest_of-count}
use Rattle.row_digest.proofs.digest_laws.rows_are_added_one_by_one.Goals as goal

pub returns-clause-one_more : goal.returns-clause-one_more
returns-clause-one_more c = λ kind rows row. added_rows-append kind rows (row ∷ []) no_rows

pub returns-clause-more : goal.returns-clause-more
returns-clause-more c = λ kind rows more. added_rows-append kind rows more no_rows

pub returns-clause-count : goal.returns-clause-count
returns-clause-count c = digest_of-count
