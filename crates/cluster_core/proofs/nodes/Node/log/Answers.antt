use Rattle.std.proofs.Common.{◌≡◌, ap, ◌∙◌, sym, List, [], ◌∷◌, ◌++◌}
use Rattle.row_types.specs.declared.table_schema.Schema.{Schema}
use Rattle.statement_log.specs.declared.entries.Entry.{Entry}
use Rattle.history.specs.Replay.{applied_of, fold, position_of}
use Rattle.history.proofs.ReplayLemmas.{applied_of-more}
use Rattle.cluster_core.specs.Node.{StateView, after_each}
use Rattle.cluster_core.proofs.NodeLemmas.{log_keeps}
use Rattle.cluster_core.proofs.nodes.Node.log.Goals as goal

pub invariant_of-self-2 : goal.invariant_of-self-2
invariant_of-self-2 c =
    let kept = c.self.invariant in
    let entry : Entry = c.args.entry in
    let state : StateView = c.self.inside.state in
    let old = c.self.inside.history.entries in
    let new = c.append_reserved.new.history.entries in
    let changed : c.change_by.new.self ≡ after_each c.position_from-position.result entry.statements state = c.in_ok-change_by.ensures.ok in
    let schemas : c.change_by.new.self.schemas ≡ state.schemas = ap (λ (s : StateView). s.schemas) changed in
    let here = ap (λ (s : StateView). s.here) changed in
    let grown : new ≡ old ++ entry ∷ [] =
    c.append_reserved.ensures ∙ ap (λ (entries : List Entry). entries ++ entry ∷ []) c.reserve.ensures.entries in
    record {
      here = ap (λ (s : List Schema). fold s c.self.inside.start new) schemas
          ∙ log_keeps state.schemas c.self.inside.start old new entry c.len.result c.position_from-position.result state.here c.change_by.new.self.here
          kept.here c.len.ensures.value c.position_from-position.ensures here grown;
      applied = ap applied_of grown ∙ applied_of-more old entry
          ∙ ap (λ done. position_of done entry.origin) kept.applied ∙ sym c.position_from-applied.ensures;
    }
