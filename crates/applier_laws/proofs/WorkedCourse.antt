-- The definitions on a small course: they compute.
use Rattle.std.proofs.Common.{◌≡◌, ◌≤◌, ℕ, pos, arith, List, [], ◌∷◌, false, refl, inl}
use Rattle.std.specs.List.{AllByRecursion}
use Rattle.row_types.specs.declared.values.Value.TheVariants.{Int}
use Rattle.row_types.specs.declared.table_schema.ColumnKind.TheVariants.{BigInt}
use Rattle.row_types.specs.declared.table_schema.Schema.{Schema}
use Rattle.ptc_statement.specs.declared.statements.Statement.{Statement}
use Rattle.ptc_statement.specs.declared.statements.Statement.TheVariants.{Insert}
use Rattle.statement_log.specs.declared.entries.Entry.{Entry}
use Rattle.statement_log.specs.declared.origins.Origin.TheVariants.{Session, Local, Applied}
use Rattle.lock_table.specs.declared.wants.Owner.{Owner}
use Rattle.node_model.specs.declared.parts.Part.TheVariants.{Client}
use Rattle.node_model.specs.Calls.{Begin, Start, Visit, Commit}
use Rattle.applier.specs.declared.turns.Turn.TheVariants.{OrderWait}
use Rattle.applier.specs.Moves.{next_move}
use Rattle.applier_laws.specs.Follows.{Event, Turn, Logged, Other, Course, IsNoWorker, EventFits, after_events, new_course}

numbers : Schema
numbers = record { name = []; columns = (record { name = []; kind = BigInt; nullable = false }) ∷ []; key_len = 1 }

put : ℕ → Statement
put k = Insert 0 (Int (pos k) ∷ [])

entry : ℕ → Entry
entry k = record { origin = Session 1; statements = put k ∷ [] }

session : Owner
session = record { 0 = 101 }

course_after : List Event → Course
course_after events = after_events events (new_course 1 2 (numbers ∷ []) ([] ∷ []))

-- two entries, and a worker for each; the second worker comes to its end first
both_taken : List Event
both_taken = Logged (entry 10) ∷ Logged (entry 20) ∷ Turn 1 ∷ Turn 2 ∷ Turn 2 ∷ []

-- its commit waits for the first entry
waits_for_order : (next_move 2 (course_after both_taken).log (course_after both_taken).applier (course_after both_taken).node).turn ≡ OrderWait 1
unfolding course_after both_taken entry put numbers
waits_for_order = refl

-- a local session commits meanwhile, and the first worker then
events : List Event
events =
    Logged (entry 10) ∷ Logged (entry 20) ∷ Turn 1 ∷ Turn 2 ∷ Turn 2 ∷ Turn 2
    ∷ Other (Begin session Client) ∷ Other (Start session (put 30)) ∷ Other (Visit session) ∷ Other (Commit session (Local 1))
    ∷ Turn 1 ∷ Turn 1 ∷ Turn 2 ∷ []

outside : IsNoWorker 2 session
unfolding session
outside = inl (omega arith)

first : (1 ≤ 1) × (1 ≤ 2)
first = (omega arith, omega arith)

second : (1 ≤ 2) × (2 ≤ 2)
second = (omega arith, omega arith)

fits : AllByRecursion (EventFits 2) events
unfolding events entry put
fits = (
  (refl, tt),
  (
    (refl, tt),
    (
      first,
      (
        second,
        (
          second,
          (
            second,
            (
              outside,
              (
                (outside, tt),
                (
                  outside,
                  (
                    (outside, tt),
                    (first, (first, (second, tt))),
                  ),
                ),
              ),
            ),
          ),
        ),
      ),
    ),
  ),
)

applied_in_order : (course_after events).node.history
    ≡ (record { origin = Local 1; statements = put 30 ∷ [] })
    ∷ (record { origin = Applied 1; statements = put 10 ∷ [] })
    ∷ (record { origin = Applied 2; statements = put 20 ∷ [] })
    ∷ []
unfolding course_after events entry put session numbers
applied_in_order = refl
