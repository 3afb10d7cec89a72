use Rattle.checksum_table.proofs.LastLemmas.{last_absent, last_stands, last_greatest}
use Rattle.checksum_table.proofs.check_laws.last_chunk_is_the_greatest.Goals as goal

pub returns-clause-none : goal.returns-clause-none
returns-clause-none c = last_absent

pub returns-clause-stands : goal.returns-clause-stands
returns-clause-stands c = last_stands

pub returns-clause-greatest : goal.returns-clause-greatest
returns-clause-greatest c = last_greatest
