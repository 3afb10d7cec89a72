use Rattle.statement_reads.proofs.ReadLemmas.{found_so, refused_so, only_so, exactly_so}
use Rattle.statement_reads.proofs.CountLemmas.{tables_short, all_short}
use Rattle.statement_reads.proofs.reads.read.Goals as goal

pub returns-clause-found : goal.returns-clause-found
returns-clause-found c = found_so c.args.schemas.now.tables c.args.text.now c.read_text.result c.read_text.ensures

pub returns-clause-refused : goal.returns-clause-refused
returns-clause-refused c = refused_so c.args.schemas.now.tables c.args.text.now c.read_text.result c.read_text.ensures

pub returns-clause-only : goal.returns-clause-only
returns-clause-only c = only_so c.args.schemas.now.tables c.args.text.now c.read_text.result c.read_text.ensures

pub returns-clause-exactly : goal.returns-clause-exactly
returns-clause-exactly c = exactly_so c.args.schemas.now.tables c.args.text.now c.read_text.result c.read_text.ensures

pub read_text-requires-clause-tables : goal.read_text-requires-clause-tables
read_text-requires-clause-tables c = tables_short c.args.schemas.now.tables c.requires.countable

pub read_text-requires-clause-columns : goal.read_text-requires-clause-columns
read_text-requires-clause-columns c = all_short c.args.schemas.now.tables c.requires.countable
