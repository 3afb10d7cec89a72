-- What holds of a replica's workers holds at first and after each event, and so always.
use Rattle.std.proofs.Common.{◌≡◌, ℕ, List, [], ◌∷◌, Option, None, Some, refl}
use Rattle.std.specs.List.{AllByRecursion}
use Rattle.row_types.specs.declared.table_schema.Schema.{Schema}
use Rattle.row_types.specs.KeyRows.{TableRows}
use Rattle.node_model.specs.Calls.{after_call}
use Rattle.applier_laws.specs.Follows.{Event, Turn, StopApplier, StartApplier, Logged, Other, Course, EventFits, after_event, after_events, new_course, AppliersFollow}
use Rattle.applier_laws.proofs.ListLemmas.{new_length, new_is}
use Rattle.applier_laws.proofs.TeamLemmas.{Works, Holds, left_holds, logged_holds}
use Rattle.applier_laws.proofs.MoveLemmas.{turn_holds}
use Rattle.applier_laws.proofs.StopLemmas.{stop_holds}
use Rattle.applier_laws.proofs.CallLemmas.{others_leave}

abbrev pub CourseHolds : ℕ → Course → Type 0
CourseHolds workers course = Holds workers course.log course.node.history course.applier.workers course.node.txns

pub event_holds : (workers : ℕ) (event : Event) (course : Course) → EventFits workers event → CourseHolds workers course → CourseHolds workers (after_event event course)
event_holds workers (Turn worker) course fits h = turn_holds workers worker course.log course.applier course.node h
event_holds workers StopApplier course fits h = stop_holds workers course.log course.applier course.node h
event_holds workers StartApplier course fits h = h
event_holds workers (Logged entry) course fits h = logged_holds workers course.log course.node.history course.applier.workers course.node.txns entry h fits
event_holds workers (Other call) course fits h =
    left_holds workers course.log course.node.history course.applier.workers course.node.txns (after_call call course.node).history (after_call call course.node).txns h
    (others_leave workers course.log call course.node fits h.follows h.others)

pub events_hold : (workers : ℕ) (events : List Event) (course : Course) → AllByRecursion (EventFits workers) events → CourseHolds workers course → CourseHolds workers (after_events events course)
events_hold workers [] course fits h = h
events_hold workers (event ∷ events) course fits h = events_hold workers events (after_event event course) fits.1 (event_holds workers event course fits.0 h)

none_works : (entry : Option ℕ) (started : ℕ) → entry ≡ None → Works [] 0 entry started None
none_works None started none = refl
none_works (Some number) started none = absurd (let q : Some number ≡ None = none in cc)

has_none : (entry : Option ℕ) (number : ℕ) → entry ≡ None → entry ≡ Some number → ⊥
has_none None number none has = absurd (let q : None ≡ Some number = has in cc)
has_none (Some other) number none has = absurd (let q : Some other ≡ None = none in cc)

pub at_first : (replica workers : ℕ) (schemas : List Schema) (start : TableRows) → CourseHolds workers (new_course replica workers schemas start)
at_first replica workers schemas start = record {
  logged = tt;
  follows = tt;
  many = new_length workers;
  owners = λ p w found. (new_is workers p w found).0;
  works = λ p w found. none_works w.entry w.started (new_is workers p w found).1;
  apart = λ p q a b number away a_at b_at a_has b_has. has_none a.entry number (new_is workers p a a_at).1 a_has;
  others = λ a txn outside found. absurd (let q : None ≡ Some txn = found in cc);
}

pub appliers_follow : AppliersFollow
appliers_follow replica workers schemas start events fits = (events_hold workers events (new_course replica workers schemas start) fits (at_first replica workers schemas start)).follows
