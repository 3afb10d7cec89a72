use Rattle.std.proofs.Common.{◌∙◌, ap, sym, subst}
use Rattle.file_state.proofs.KeepLemmas.{with_marks, replicas_kept}
use Rattle.line_checks.specs.declared.marks.Marks.{Marks}
use Rattle.line_checks.specs.MarksOf.{with_replicas}
use Rattle.file_text.specs.Said.{Replicas}
use Rattle.file_state.specs.Keeps.{LeadsTo}
use Rattle.file_state.proofs.states.FileState.take_replicas.Goals as goal

pub returns : goal.returns
returns c =
    subst (λ (m : Marks). LeadsTo (Replicas c.args.count) c.args.self.now (with_marks m c.args.self.now)) (sym (c.add_replicas.ensures ∙ ap (with_replicas c.args.count) c.mark.ensures))
    (replicas_kept c.args.self.now c.args.count c.requires.few)
