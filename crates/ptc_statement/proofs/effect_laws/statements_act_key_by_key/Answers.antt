use Rattle.ptc_statement.proofs.TableLemmas.{rows_after_table}
use Rattle.ptc_statement.proofs.ActLemmas.{acts_at}
use Rattle.ptc_statement.proofs.effect_laws.statements_act_key_by_key.Goals as goal

pub returns-clause-table : goal.returns-clause-table
returns-clause-table c = rows_after_table

pub returns-clause-key_by_key : goal.returns-clause-key_by_key
returns-clause-key_by_key c = acts_at
