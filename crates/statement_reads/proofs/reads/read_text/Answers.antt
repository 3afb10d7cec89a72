use Rattle.statement_reads.proofs.ReadLemmas.{read_so}
use Rattle.statement_reads.proofs.reads.read_text.Goals as goal

pub returns-in-Ok : goal.returns-in-Ok
returns-in-Ok c = read_so c.args.schemas.now.tables c.args.text.now c.in-Ok.tokens c.in-Ok.end c.read_tokens.result c.in-Ok.ensures c.read_tokens.ensures
