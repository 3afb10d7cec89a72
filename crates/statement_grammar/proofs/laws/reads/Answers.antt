use Rattle.std.proofs.Common.{◌∙◌, ap, sym, arith, [], refl, append-nil}
use Rattle.statement_grammar.specs.Grammar.{tokens_of}
use Rattle.statement_grammar.specs.Machine.{run, Due, Read}
use Rattle.statement_grammar.proofs.Complete.{complete}
use Rattle.statement_grammar.proofs.Sound.{sound}
use Rattle.statement_grammar.proofs.Alive.{lives, begun_by}
use Rattle.statement_grammar.proofs.laws.reads.Goals as goal

pub returns-clause-complete : goal.returns-clause-complete
returns-clause-complete c g m b s r h =
    let i = complete g m 1 b s [] [] h (λ u k e. tt) r tt in record {
      state = Read i.held;
      runs = ap (run g m (Due [])) (sym (append-nil (tokens_of s))) ∙ i.runs;
      held = i.held;
      ends = refl;
      closes = i.closes 1 (omega arith);
    }

pub returns-clause-sound : goal.returns-clause-sound
returns-clause-sound c = sound

pub returns-clause-lives : goal.returns-clause-lives
returns-clause-lives c = lives

pub returns-clause-begun : goal.returns-clause-begun
returns-clause-begun c = begun_by
