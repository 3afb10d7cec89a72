-- Statements and entries that fit, one after the other, and a replica that goes on.
use Rattle.std.proofs.Common.{◌≡◌, ◌∙◌, ℕ, List, [], ◌∷◌, ◌++◌, sym, ap, subst}
use Rattle.std.specs.List.{AllByRecursion}
use Rattle.row_types.specs.declared.table_schema.Schema.{Schema}
use Rattle.ptc_statement.specs.declared.statements.Statement.{Statement}
use Rattle.ptc_statement.specs.Fits.{FitsSchemas}
use Rattle.statement_log.specs.declared.entries.Entry.{Entry}
use Rattle.node_model.specs.Node.{NodeView, ended}
use Rattle.node_builders.specs.Nodes.{one_table}
use Rattle.applier.specs.Appliers.{LogFits}
use Rattle.applier_tests.specs.Replicas.{ReplicaFits}

each_more : {A : Type 0} (P : A → Type 0) (items : List A) (item : A) → AllByRecursion P items → P item → AllByRecursion P (items ++ item ∷ [])
each_more P [] item all holds = (holds, tt)
each_more P (first ∷ items) item all holds = (all.0, each_more P items item all.1 holds)

pub one_statement : (old new : List Statement) (statement : Statement) → AllByRecursion (FitsSchemas one_table) old → FitsSchemas one_table statement → new ≡ old ++ statement ∷ []
    → AllByRecursion (FitsSchemas one_table) new
one_statement old new statement all fits is = subst (AllByRecursion (FitsSchemas one_table)) (sym is) (each_more (FitsSchemas one_table) old statement all fits)

pub one_entry : (old new : List Entry) (entry : Entry) → LogFits one_table old → AllByRecursion (FitsSchemas one_table) entry.statements → new ≡ old ++ entry ∷ [] → LogFits one_table new
one_entry old new entry all fits is =
    subst (LogFits one_table) (sym is) (each_more (λ (e : Entry). AllByRecursion (FitsSchemas one_table) e.statements) old entry all fits)

pub fit_here : (schemas : List Schema) (log : List Entry) → ReplicaFits schemas log → LogFits schemas log
fit_here schemas log fits = subst (λ (ss : List Schema). LogFits ss log) (sym fits.schemas_are) fits.log_fits

pub goes_on : (old new : List Schema) (log : List Entry) → new ≡ old → ReplicaFits old log → ReplicaFits new log
goes_on old new log same fits = record { schemas_are = same ∙ fits.schemas_are; log_fits = fits.log_fits }

pub ended_same : (owner : ℕ) (old new : NodeView) → new ≡ ended owner old → new.schemas ≡ old.schemas
ended_same owner old new is = ap (λ (n : NodeView). n.schemas) is
