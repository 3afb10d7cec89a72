-- The next move, by what the worker has; and that the next statement of an entry fits.
use Rattle.std.proofs.Common.{◌≡◌, ◌∙◌, ℕ, ◌-◌, ◌==◌, if◌then◌else◌, List, Option, None, Some, Bool, true, false, refl, ap}
use Rattle.std.specs.Prelude.{is_some, option_and_then}
use Rattle.std.specs.List.{AllByRecursion, slice_get}
use Rattle.row_types.specs.declared.table_schema.Schema.{Schema}
use Rattle.ptc_statement.specs.declared.statements.Statement.{Statement}
use Rattle.ptc_statement.specs.Fits.{FitsSchemas}
use Rattle.statement_log.specs.declared.entries.Entry.{Entry}
use Rattle.statement_log.specs.Positions.{entry_at}
use Rattle.node_model.specs.declared.txns.Walk.{Walk}
use Rattle.node_model.specs.Txns.{txn_of}
use Rattle.node_model.specs.Node.{NodeView}
use Rattle.node_parts.specs.Views.{walk_of}
use Rattle.node_engine.proofs.EachLemmas.{each_at}
use Rattle.applier.specs.declared.workers.Worker.{Worker}
use Rattle.applier.specs.Appliers.{LogFits, statement_behind, next_statement}
use Rattle.applier.specs.Moves.{worker_move, walking_move, visit_move, idle_move, done_move, begin_move}

walking : (w : Option Walk) (left : Option ℕ) (log : List Entry) (worker : Worker) (node : NodeView) → is_some w ≡ true
    → walking_move w left log worker node ≡ visit_move (next_statement worker.started worker.entry log) worker node
walking None left log worker node e = absurd (let q : false ≡ true = e in cc)
walking (Some walk) left log worker node e = refl

resting : (w : Option Walk) (left : Option ℕ) (log : List Entry) (worker : Worker) (node : NodeView) → is_some w ≡ false
    → walking_move w left log worker node ≡ idle_move (is_some (txn_of worker.owner.0 node.txns)) left log worker node
resting (Some walk) left log worker node e = absurd (let q : true ≡ false = e in cc)
resting None left log worker node e = refl

pub walks : (left : Option ℕ) (log : List Entry) (worker : Worker) (node : NodeView) → is_some (walk_of worker.owner.0 node.txns) ≡ true
    → worker_move left log worker node ≡ visit_move (next_statement worker.started worker.entry log) worker node
walks left log worker node e = walking (walk_of worker.owner.0 node.txns) left log worker node e

pub rests_begun : (left : Option ℕ) (log : List Entry) (worker : Worker) (node : NodeView) → is_some (walk_of worker.owner.0 node.txns) ≡ false
    → is_some (txn_of worker.owner.0 node.txns) ≡ true → worker_move left log worker node ≡ done_move worker.entry worker node
rests_begun left log worker node e begun =
    resting (walk_of worker.owner.0 node.txns) left log worker node e ∙ ap (λ (b : Bool). idle_move b left log worker node) begun

pub rests : (left : Option ℕ) (log : List Entry) (worker : Worker) (node : NodeView) → is_some (walk_of worker.owner.0 node.txns) ≡ false
    → is_some (txn_of worker.owner.0 node.txns) ≡ false → worker_move left log worker node ≡ begin_move worker.entry left log worker node
rests left log worker node e none =
    resting (walk_of worker.owner.0 node.txns) left log worker node e ∙ ap (λ (b : Bool). idle_move b left log worker node) none

entry_fits : (schemas : List Schema) (log : List Entry) (number : ℕ) (entry : Entry) → LogFits schemas log → entry_at number log ≡ Some entry → AllByRecursion (FitsSchemas schemas) entry.statements
entry_fits schemas log number entry fits found = at (number == 0) found
  where
    at : (b : Bool) → (if b then None else slice_get log (number - 1)) ≡ Some entry → AllByRecursion (FitsSchemas schemas) entry.statements
    at true f = absurd (let q : None ≡ Some entry = f in cc)
    at false f = each_at (λ (e : Entry). AllByRecursion (FitsSchemas schemas) e.statements) log (number - 1) entry fits f

pub behind_fits : (schemas : List Schema) (log : List Entry) (number started : ℕ) (statement : Statement) → LogFits schemas log
    → statement_behind started number log ≡ Some statement → FitsSchemas schemas statement
behind_fits schemas log number started statement fits found = at (entry_at number log) refl found
  where
    at : (o : Option Entry) → entry_at number log ≡ o → option_and_then (λ (entry : Entry). slice_get entry.statements started) o ≡ Some statement → FitsSchemas schemas statement
    at None e f = absurd (let q : None ≡ Some statement = f in cc)
    at (Some entry) e f = each_at (FitsSchemas schemas) entry.statements started statement (entry_fits schemas log number entry fits e) f

pub next_fits : (schemas : List Schema) (log : List Entry) (entry : Option ℕ) (started : ℕ) (statement : Statement) → LogFits schemas log
    → next_statement started entry log ≡ Some statement → FitsSchemas schemas statement
next_fits schemas log None started statement fits found = absurd (let q : None ≡ Some statement = found in cc)
next_fits schemas log (Some number) started statement fits found = behind_fits schemas log number started statement fits found
