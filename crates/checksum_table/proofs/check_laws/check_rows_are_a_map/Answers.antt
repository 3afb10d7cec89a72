use Rattle.checksum_table.proofs.CheckLemmas.{check_at-with_check_same, check_at-with_check_other, check_at-with_master_same, check_at-with_master_other, check_at-without_table_same, check_at-without_table_other}
use Rattle.checksum_table.proofs.MapLemmas.{same_rows}
use Rattle.checksum_table.proofs.check_laws.check_rows_are_a_map.Goals as goal

pub returns-clause-set_there : goal.returns-clause-set_there
returns-clause-set_there c = check_at-with_check_same

pub returns-clause-set_elsewhere : goal.returns-clause-set_elsewhere
returns-clause-set_elsewhere c = check_at-with_check_other

pub returns-clause-master_there : goal.returns-clause-master_there
returns-clause-master_there c = check_at-with_master_same

pub returns-clause-master_elsewhere : goal.returns-clause-master_elsewhere
returns-clause-master_elsewhere c = check_at-with_master_other

pub returns-clause-clear_there : goal.returns-clause-clear_there
returns-clause-clear_there c = check_at-without_table_same

pub returns-clause-clear_elsewhere : goal.returns-clause-clear_elsewhere
returns-clause-clear_elsewhere c = check_at-without_table_other

pub returns-clause-exact : goal.returns-clause-exact
returns-clause-exact c = same_rows
