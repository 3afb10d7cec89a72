-- Which statements fit the table of a test's node, and that no call changes the schemas.
use Rattle.std.proofs.Common.{◌≡◌, ◌∙◌, ℤ, List, None, refl, sym, ap, subst}
use Rattle.std.specs.Prelude.{FitsSigned}
use Rattle.std.specs.Int.{w64}
use Rattle.row_types.specs.declared.values.Value.{Value}
use Rattle.row_types.specs.declared.lock_modes.LockMode.{LockMode}
use Rattle.row_types.specs.declared.edges.Span.{Span}
use Rattle.ptc_statement.specs.declared.statements.Statement.{Statement}
use Rattle.ptc_statement.specs.declared.statements.Statement.TheVariants.{Insert, LockRead, Delete}
use Rattle.ptc_statement.specs.Fits.{FitsSchemas}
use Rattle.lock_table.specs.declared.wants.Owner.{Owner}
use Rattle.node_model.specs.declared.parts.Part.{Part}
use Rattle.node_model.specs.Node.{NodeView, begun}
use Rattle.node_model.specs.Calls.{Call, after_call, Start, Visit}
use Rattle.node_model.proofs.CallLemmas.{same_schemas}
use Rattle.node_visits.specs.declared.visits.Visit.{Visit as VisitAnswer}
use Rattle.node_visits.specs.declared.visits.Visit.TheVariants.{Stepped, Done, Duplicate, Waits, Deadlock}
use Rattle.node_visits.specs.NextStarts.{next_started}
use Rattle.test_builders.specs.Builders.{pair}
use Rattle.node_builders.specs.Nodes.{one_table}

-- statements on the table

pub insert_fits : (id value : ℤ) (row : List Value) → FitsSigned w64 id → FitsSigned w64 value → row ≡ pair id value → FitsSchemas one_table (Insert 0 row)
insert_fits id value row fits more is =
    subst (λ (r : List Value). FitsSchemas one_table (Insert 0 r)) (sym is) (record { schema = _; found = refl; fits = (fits, (more, tt)) })

pub read_fits : (mode : LockMode) (span : Span) → FitsSchemas one_table (LockRead 0 mode span None)
read_fits mode span = record { schema = _; found = refl; fits = tt }

pub delete_fits : FitsSchemas one_table (Delete 0 None)
delete_fits = record { schema = _; found = refl; fits = tt }

-- calls

pub begun_same : (owner : Owner) (part : Part) (old new : NodeView) → new ≡ begun owner part old → new.schemas ≡ old.schemas
begun_same owner part old new is = ap (λ (n : NodeView). n.schemas) is

pub call_same : (call : Call) (old new : NodeView) → new ≡ after_call call old → new.schemas ≡ old.schemas
call_same call old new is = ap (λ (n : NodeView). n.schemas) is ∙ same_schemas call old

pub start_visit_same : (owner : Owner) (statement : Statement) (old new : NodeView) → new ≡ after_call (Visit owner) (after_call (Start owner statement) old) → new.schemas ≡ old.schemas
start_visit_same owner statement old new is =
    call_same (Visit owner) (after_call (Start owner statement) old) new is ∙ same_schemas (Start owner statement) old

next_same : (answer : VisitAnswer) (owner : Owner) (next : Statement) (node : NodeView) → (next_started answer owner next node).schemas ≡ node.schemas
next_same Stepped owner next node = refl
next_same Done owner next node = same_schemas (Start owner next) node
next_same (Duplicate key) owner next node = refl
next_same (Waits by) owner next node = refl
next_same (Deadlock victim cycle) owner next node = refl

pub visit_start_same : (answer : VisitAnswer) (owner : Owner) (next : Statement) (old new : NodeView) → new ≡ next_started answer owner next (after_call (Visit owner) old) → new.schemas ≡ old.schemas
visit_start_same answer owner next old new is =
    ap (λ (n : NodeView). n.schemas) is ∙ next_same answer owner next (after_call (Visit owner) old) ∙ same_schemas (Visit owner) old
