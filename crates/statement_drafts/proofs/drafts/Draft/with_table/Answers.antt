use Rattle.std.proofs.Common.{refl}
use Rattle.statement_drafts.proofs.TableLemmas.{with_named}
use Rattle.statement_drafts.proofs.drafts.Draft.with_table.Goals as goal

pub returns-in-Some-clause-drafted : goal.returns-in-Some-clause-drafted
returns-in-Some-clause-drafted c = with_named c.args.schemas.now.tables c.args.name.now c.args.self.now _ c.in-Some.number c.in-Some.ensures refl
