use Rattle.checksum_table.proofs.CheckLemmas.{digest_eq-IsTrue}
use Rattle.checksum_table.proofs.check_laws.digest_test_is_equality.Goals as goal

pub returns : goal.returns
returns c = digest_eq-IsTrue
