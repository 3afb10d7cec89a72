use Rattle.std.proofs.Common.{sym, subst}
use Rattle.file_state.proofs.KeepLemmas.{with_marks, plain_kept}
use Rattle.line_checks.specs.declared.marks.Marks.{Marks}
use Rattle.file_state.specs.Keeps.{LeadsTo}
use Rattle.file_state.proofs.states.FileState.take_plain.Goals as goal

pub returns : goal.returns
returns c = λ said plain of. subst (λ (m : Marks). LeadsTo said c.args.self.now (with_marks m c.args.self.now)) (sym c.mark.ensures) (plain_kept c.args.self.now c.args.section said plain of)
