-- A transaction that has just begun has no statement in progress, and its first one is started.
use Rattle.std.proofs.Common.{◌≡◌, ◌∙◌, [], None, refl, ap, sym, subst}
use Rattle.std.specs.Prelude.{OnOk, OnErr}
use Rattle.std.specs.declared.result.Result.{Result}
use Rattle.std.specs.declared.result.Result.TheVariants.{Ok, Err}
use Rattle.row_types.specs.declared.memory.Memory.{Memory}
use Rattle.ptc_statement.specs.Fits.{FitsSchemas}
use Rattle.lock_table.specs.declared.wants.Owner.{Owner}
use Rattle.node_model.specs.declared.parts.Part.{Part}
use Rattle.node_model.specs.declared.txns.Walk.{Walk}
use Rattle.node_model.specs.declared.txns.Txn.{Txn}
use Rattle.node_model.specs.Node.{NodeView, begun, start_of}
use Rattle.node_model.specs.Calls.{Start as StartCall, after_call}
use Rattle.node_model.proofs.TxnLemmas.{txn_same}
use Rattle.node_parts.specs.declared.parts.Parts.{Parts}
use Rattle.node_parts.specs.Kept.{node_view}
use Rattle.node_visits.specs.NextStarts.{CanBegin}

begun_ready : (owner : Owner) (part : Part) (walk : Walk) (old : NodeView) → FitsSchemas old.schemas walk.statement → walk.cursor ≡ start_of old.schemas walk.statement
    → CanBegin walk owner.0 (begun owner part old)
begun_ready owner part walk old fits cursor =
    let txn : Txn = record { owner = owner; part = part; done = []; current = None } in
    record { idle = record { txn = txn; found = txn_same txn old.txns; idle = refl }; fits = fits; cursor = cursor }

pub all_ready : (owner : Owner) (part : Part) (walk : Walk) (old mid : Parts) (answer : Result (Unit {0}) Memory) → OnOk answer (node_view mid ≡ begun owner part (node_view old))
    → FitsSchemas old.schemas.tables walk.statement → walk.cursor ≡ start_of old.schemas.tables walk.statement → OnOk answer (CanBegin walk owner.0 (node_view mid))
all_ready owner part walk old mid (Ok _) is fits cursor = subst (CanBegin walk owner.0) (sym is) (begun_ready owner part walk (node_view old) fits cursor)
all_ready owner part walk old mid (Err _) is fits cursor = tt

pub all_started : (owner : Owner) (part : Part) (walk : Walk) (old mid new : Parts) (answer result : Result (Unit {0}) Memory) → result ≡ answer → OnOk answer (node_view mid ≡ begun owner part (node_view old))
    → OnOk answer (node_view new ≡ after_call (StartCall owner walk.statement) (node_view mid)) → OnOk result (node_view new ≡ after_call (StartCall owner walk.statement) (begun owner part (node_view old)))
all_started owner part walk old mid new answer result same is started =
    subst (λ (r : Result (Unit {0}) Memory). OnOk r (node_view new ≡ after_call (StartCall owner walk.statement) (begun owner part (node_view old)))) (sym same) (at answer is started)
  where
    at : (r : Result (Unit {0}) Memory) → OnOk r (node_view mid ≡ begun owner part (node_view old)) → OnOk r (node_view new ≡ after_call (StartCall owner walk.statement) (node_view mid))
        → OnOk r (node_view new ≡ after_call (StartCall owner walk.statement) (begun owner part (node_view old)))
    at (Ok _) i s = s ∙ ap (after_call (StartCall owner walk.statement)) i
    at (Err _) i s = tt

pub all_refused : (old mid new : Parts) (answer result : Result (Unit {0}) Memory) → result ≡ answer → OnErr answer (node_view mid ≡ node_view old) → OnErr answer (node_view new ≡ node_view mid)
    → OnErr result (node_view new ≡ node_view old)
all_refused old mid new answer result same before after = subst (λ (r : Result (Unit {0}) Memory). OnErr r (node_view new ≡ node_view old)) (sym same) (at answer before after)
  where
    at : (r : Result (Unit {0}) Memory) → OnErr r (node_view mid ≡ node_view old) → OnErr r (node_view new ≡ node_view mid) → OnErr r (node_view new ≡ node_view old)
    at (Ok _) b f = tt
    at (Err _) b f = f ∙ b
