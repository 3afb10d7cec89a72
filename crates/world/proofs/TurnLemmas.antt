-- The turns of actors, as the calls on their nodes leave them.
use Rattle.std.proofs.Common.{◌≡◌, ◌≤◌, ◌<◌, ◌⊎◌, inl, inr, ◌∙◌, ℕ, ◌-◌, ◌==◌, ◌&&◌, Bool, true, false, cond, List, Option, None, Some, length, refl, ap, sym, subst, arith}
use Rattle.std.specs.Prelude.{nat_lt, nat_le, slice_set}
use Rattle.std.specs.List.{slice_get}
use Rattle.std.proofs.lemmas.Bool.Decides.{nat_tests}
use Rattle.std.proofs.lemmas.Option.{slice_get_past}
use Rattle.row_types.specs.declared.table_schema.Schema.{Schema}
use Rattle.statement_log.specs.declared.entries.Entry.{Entry}
use Rattle.node_model.specs.Node.{NodeView}
use Rattle.applier.specs.declared.turns.Turn.{Turn}
use Rattle.applier.specs.Appliers.{ApplierView, LogFits}
use Rattle.applier.specs.Moves as applier
use Rattle.checksum_tool.specs.declared.phases.ToolTurn.{ToolTurn}
use Rattle.checksum_tool.specs.Tools.{ToolView}
use Rattle.checksum_tool.specs.Moves as tool
use Rattle.trace_text.specs.declared.notes.Note.{Note}
use Rattle.trace_text.specs.declared.notes.Note.TheVariants.{Off}
use Rattle.turn_notes.specs.Notes.{tool_note, applier_note}
use Rattle.world_model.specs.Worlds.{WorldView, ReplicaView}
use Rattle.world_model.specs.Turns.{Turned, off, tool_turned, tool_turn, ReplicaTurned, off_there, is_worker, worker_turned, worker_turn, replica_turned, replica_at, on_replica}
use Rattle.world_model.specs.Good.{ReplicaFits, SessionsFit, IsGood}
use Rattle.world_model.proofs.EachLemmas.{each_at}

-- The checksum tool.

pub tool_is : (world : WorldView) (turn : ToolTurn) (one : ToolView) (node : NodeView) → record { turn = turn; tool = one; node = node } ≡ tool.next_move world.tool world.source
    → record { note = tool_note turn; world = record world { source = node; tool = one } } ≡ tool_turn world
tool_is world turn one node same = ap (λ (moved : tool.Moved). tool_turned moved world) same

-- Workers.

zero_is_none : (worker count : ℕ) → worker ≡ 0 → (nat_lt 0 worker && nat_le worker count) ≡ false
zero_is_none worker count is = ap (λ (n : ℕ). nat_lt 0 n && nat_le n count) is

over : (worker count : ℕ) → count < worker → nat_le worker count ≡ false
over worker count more = grind (arith, nat_tests)

and_false : (b c : Bool) → c ≡ false → (b && c) ≡ false
and_false true c is = is
and_false false c is = refl

under : (worker count : ℕ) → 1 ≤ worker → nat_lt 0 worker ≡ true
under worker count some = grind (arith, nat_tests)

within : (worker count : ℕ) → worker ≤ count → nat_le worker count ≡ true
within worker count few = grind (arith, nat_tests)

both_true : (b c : Bool) → b ≡ true → c ≡ true → (b && c) ≡ true
both_true b c one two = ap (λ (x : Bool). x && c) one ∙ two

pub no_worker : (number worker : ℕ) (log : List Entry) (replica : ReplicaView) → (worker ≡ 0) ⊎ (length replica.applier.workers < worker)
    → record { note = Off; replica = replica } ≡ worker_turn number worker log replica
no_worker number worker log replica none =
    sym (ap (λ (b : Bool). cond b (worker_turned number (applier.next_move worker log replica.applier replica.node) replica) (off_there replica)) (at none))
  where
    at : (worker ≡ 0) ⊎ (length replica.applier.workers < worker) → is_worker worker replica ≡ false
    at (inl zero) = zero_is_none worker (length replica.applier.workers) zero
    at (inr more) = and_false (nat_lt 0 worker) (nat_le worker (length replica.applier.workers)) (over worker (length replica.applier.workers) more)

applier_is : (old new : ApplierView) → new.replica ≡ old.replica → new.stopped ≡ old.stopped → record old { workers = new.workers } ≡ new
applier_is old new replica stopped =
    ap (λ (n : ℕ). record old { replica = n; workers = new.workers }) (sym replica) ∙ ap (λ (b : Bool). record new { stopped = b }) (sym stopped)

pub worker_is : (number worker : ℕ) (log : List Entry) (replica : ReplicaView) (turn : Turn) (one : ApplierView) (node : NodeView)
    → 1 ≤ worker → worker ≤ length replica.applier.workers
    → record { turn = turn; workers = one.workers; node = node } ≡ applier.next_move worker log replica.applier replica.node
    → one.replica ≡ replica.applier.replica → one.stopped ≡ replica.applier.stopped
    → record { note = applier_note number turn; replica = record replica { node = node; applier = one } } ≡ worker_turn number worker log replica
worker_is number worker log replica turn one node some few same number_same stopped =
    ap (λ (a : ApplierView). record { note = applier_note number turn; replica = record replica { node = node; applier = a } }) (sym (applier_is replica.applier one number_same stopped))
    ∙ ap (λ (t : applier.Turned). worker_turned number t replica) same
    ∙ sym (ap (λ (b : Bool). cond b (worker_turned number (applier.next_move worker log replica.applier replica.node) replica) (off_there replica))
    (both_true (nat_lt 0 worker) (nat_le worker (length replica.applier.workers)) (under worker (length replica.applier.workers) some) (within worker (length replica.applier.workers) few)))

-- On a replica.

pub no_replica : (number : ℕ) (turn_there : ReplicaView → ReplicaTurned) (world : WorldView) → (number ≡ 0) ⊎ (length world.replicas < number)
    → record { note = Off; world = world } ≡ on_replica number turn_there world
no_replica number turn_there world none = at none
  where
    none_past : (xs : List ReplicaView) (i : ℕ) → length xs ≤ i → slice_get xs i ≡ None
    none_past xs i past = slice_get_past xs i past

    if_same : (b : Bool) (turned : Turned) → off world ≡ turned → off world ≡ cond b (off world) turned
    if_same true turned same = refl
    if_same false turned same = same

    at : (number ≡ 0) ⊎ (length world.replicas < number) → off world ≡ on_replica number turn_there world
    at (inl zero) = sym (ap (λ (n : ℕ). cond (n == 0) (off world) (replica_at (number - 1) (slice_get world.replicas (number - 1)) turn_there world)) zero)
    at (inr more) =
        if_same (number == 0) (replica_at (number - 1) (slice_get world.replicas (number - 1)) turn_there world)
        (sym (ap (λ (o : Option ReplicaView). replica_at (number - 1) o turn_there world) (none_past world.replicas (number - 1) (omega (arith, more)))))

is_not : (number : ℕ) → 1 ≤ number → (number == 0) ≡ false
is_not number some = grind (arith, nat_tests)

pub replica_is : (number : ℕ) (turn_there : ReplicaView → ReplicaTurned) (world : WorldView) (old new : ReplicaView) (note : Note)
    → 1 ≤ number → slice_get world.replicas (number - 1) ≡ Some old → record { note = note; replica = new } ≡ turn_there old
    → record { note = note; world = record world { replicas = slice_set world.replicas (number - 1) new } } ≡ on_replica number turn_there world
replica_is number turn_there world old new note some found same =
    ap (λ (t : ReplicaTurned). replica_turned (number - 1) t world) same
    ∙ sym (ap (λ (o : Option ReplicaView). replica_at (number - 1) o turn_there world) found)
    ∙ sym (ap (λ (b : Bool). cond b (off world) (replica_at (number - 1) (slice_get world.replicas (number - 1)) turn_there world)) (is_not number some))

-- What fits there.

pub replica_fits : (world : WorldView) (at : ℕ) (replica : ReplicaView) → IsGood world → slice_get world.replicas at ≡ Some replica → ReplicaFits world.source.schemas replica
replica_fits world at replica good found = each_at (ReplicaFits world.source.schemas) world.replicas at replica good.replicas_fit found

pub log_fits_there : (world : WorldView) (at : ℕ) (replica : ReplicaView) → IsGood world → slice_get world.replicas at ≡ Some replica → LogFits replica.node.schemas world.source.history
log_fits_there world at replica good found = subst (λ (schemas : List Schema). LogFits schemas world.source.history) (sym (replica_fits world at replica good found).same) good.log_fits

pub locals_fit_there : (world : WorldView) (at : ℕ) (replica : ReplicaView) → IsGood world → slice_get world.replicas at ≡ Some replica → SessionsFit replica.node.schemas replica.locals
locals_fit_there world at replica good found = subst (λ (schemas : List Schema). SessionsFit schemas replica.locals) (sym (replica_fits world at replica good found).same) (replica_fits world at replica good found).locals_fit
