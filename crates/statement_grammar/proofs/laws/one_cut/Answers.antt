use Rattle.statement_grammar.proofs.OneCutLemmas.{one_cut, one_cut_on_the_way}
use Rattle.statement_grammar.proofs.laws.one_cut.Goals as goal

pub returns-clause-at_end : goal.returns-clause-at_end
returns-clause-at_end c = one_cut

pub returns-clause-on_the_way : goal.returns-clause-on_the_way
returns-clause-on_the_way c = one_cut_on_the_way
