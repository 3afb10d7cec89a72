-- What was read stays so.
use Rattle.std.proofs.Common.{◌≡◌, ◌∙◌, ℕ, zero, suc, List, [], ◌∷◌, None, Some, refl, ap, sym, subst}
use Rattle.std.specs.List.{slice_get, AllByRecursion}
use Rattle.row_types.specs.declared.table_schema.Schema.{Schema}
use Rattle.row_types.specs.Fit.{IsSchema, AreTables}
use Rattle.node_model.specs.declared.txns.Txn.{Txn}
use Rattle.node_model.specs.Txns.{txn_of}
use Rattle.node_model.specs.Kept.{IsKept}
use Rattle.node_model.specs.Node.{NodeView, committed_row}
use Rattle.node_model.specs.Calls.{Call, CallFits, IsNoCommitOf, after_call, after_calls, fresh_node}
use Rattle.node_model.proofs.CommitLemmas.{table_row}
use Rattle.node_model.proofs.CallLemmas.{call_kept, calls_kept, fresh_kept, same_schemas}
use Rattle.node_model.proofs.ReadLemmas.{guarded_stays}
use Rattle.node_reads.specs.Reads.{last_read, sums_of}
use Rattle.node_reads.specs.ReadLaws.{replayed_tables, ReadsStay, ReadsStayAlways}
use Rattle.node_reads.proofs.OthersReads.{AreAlike, last_read_same, sums_same}

schema_at : (schemas : List Schema) (number : ℕ) (schema : Schema) → AllByRecursion IsSchema schemas → slice_get schemas number ≡ Some schema → IsSchema schema
schema_at [] number schema are found = absurd (let q : None ≡ Some schema = found in cc)
schema_at (first ∷ schemas) zero schema are found = subst IsSchema (let same : first ≡ schema = cc in same) are.0
schema_at (first ∷ schemas) (suc number) schema are found = schema_at schemas number schema are.1 found

reads_stay : (node : NodeView) (call : Call) (owner : ℕ) (txn : Txn) → AllByRecursion IsSchema node.schemas → IsKept node → CallFits node.schemas call → IsNoCommitOf owner call → txn_of owner node.txns ≡ Some txn
    → ReadsStay node (after_call call node) txn
reads_stay node call owner txn are kept fits other found = record {
  rows = ap (λ (ss : List Schema). last_read ss txn.done (replayed_tables (after_call call node)) []) schemas
      ∙ last_read_same node.schemas (committed_row node) owner node.held (replayed_tables node) (replayed_tables (after_call call node)) txn.done [] (kept.fits owner txn found).done alike (kept.facts.covered owner txn found).done;
  sums = ap (λ (ss : List Schema). sums_of ss txn.done (replayed_tables (after_call call node))) schemas
      ∙ sums_same node.schemas (committed_row node) owner node.held (replayed_tables node) (replayed_tables (after_call call node)) txn.done (kept.fits owner txn found).done alike (kept.facts.covered owner txn found).done;
}
  where
    schemas : (after_call call node).schemas ≡ node.schemas
    schemas = same_schemas call node

    alike : AreAlike node.schemas owner node.held (replayed_tables node) (replayed_tables (after_call call node))
    alike = record {
      first = kept.tables;
      second = subst (λ (ss : List Schema). AreTables ss (replayed_tables (after_call call node))) (same_schemas call node) (call_kept call node fits kept).tables;
      is = λ number schema there. schema_at node.schemas number schema are there;
      same = λ table key guards.
          ap (λ (ss : List Schema). table_row ss (replayed_tables (after_call call node)) table key) (sym (same_schemas call node))
          ∙ guarded_stays call node owner table key kept other guards;
    }

calls_schemas : (calls : List Call) (node : NodeView) → (after_calls calls node).schemas ≡ node.schemas
calls_schemas [] node = refl
calls_schemas (call ∷ calls) node = calls_schemas calls (after_call call node) ∙ same_schemas call node

pub reads_stay_always : ReadsStayAlways
reads_stay_always schemas start calls call owner txn are tables fit fits other found =
    let same = calls_schemas calls (fresh_node schemas start) in
    reads_stay (after_calls calls (fresh_node schemas start)) call owner txn (subst (AllByRecursion IsSchema) (sym same) are) (calls_kept calls (fresh_node schemas start) fit (fresh_kept schemas start tables))
    (subst (λ (ss : List Schema). CallFits ss call) (sym same) fits) other found
