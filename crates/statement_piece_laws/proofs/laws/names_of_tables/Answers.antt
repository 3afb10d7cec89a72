use Rattle.statement_piece_laws.proofs.NameLemmas.{names_none, names_table, stays_behind}
use Rattle.statement_piece_laws.proofs.laws.names_of_tables.Goals as goal

pub returns-clause-none : goal.returns-clause-none
returns-clause-none c = names_none

pub returns-clause-table : goal.returns-clause-table
returns-clause-table c = names_table

pub returns-clause-behind : goal.returns-clause-behind
returns-clause-behind c = stays_behind
