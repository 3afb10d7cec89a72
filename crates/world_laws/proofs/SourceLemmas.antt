-- What happens on the source: turns of the checksum tool, and sessions' calls between them.
use Rattle.std.proofs.Common.{◌≡◌, ◌≢◌, ◌∙◌, ℕ, List, [], ◌∷◌, ◌++◌, map, refl, ap, sym, subst}
use Rattle.std.specs.List.{AllByRecursion}
use Rattle.lock_table.specs.declared.wants.Owner.{Owner}
use Rattle.node_model.specs.Node.{NodeView}
use Rattle.node_model.specs.Calls.{Call, Begin, Start, Visit, Commit, Rollback, Publish, after_call, after_calls}
use Rattle.session.specs.Sessions.{SessionView}
use Rattle.session.specs.Moves.{next_move}
use Rattle.checksum_tool.specs.Tools.{ToolView, tool_owner}
use Rattle.checksum_tool.specs.Moves as tool_moves
use Rattle.checksum_tool_laws.specs.Courses.{Event, Own, Other, Course, IsOthers, IsWriter, EventFits, after_event, after_events}
use Rattle.checksum_tool_laws.specs.Standing.{IsApart, EventApart}
use Rattle.turn_laws.specs.TurnCalls.{LeadsBy, IsSessions}
use Rattle.turn_laws.proofs.StayLemmas.{sessions_stay}
use Rattle.turn_laws.proofs.SessionCalls.{sessions_make_calls}
use Rattle.world_laws.specs.Clients.{LinesOfClients}
use Rattle.world_laws.proofs.ListLemmas.{each_joined, each_mapped}
use Rattle.world_laws.proofs.ClientLemmas.{runs_clients}

-- a session beside the checksum tool: it is another owner, writes in its own name, and runs clients' statements
pub record IsBeside (session : SessionView) : Type 0 where
  pub apart : session.owner.0 ≢ tool_owner.0
  pub writer : IsWriter session.origin
  pub clients : LinesOfClients session.script

pub beside_stays : (retries : ℕ) (session : SessionView) (node : NodeView) → IsBeside session → IsBeside (next_move retries session node).session
beside_stays retries session node beside =
    let stays = sessions_stay retries session node in
    record {
      apart = subst (λ (o : Owner). o.0 ≢ tool_owner.0) (sym stays.0) beside.apart;
      writer = subst IsWriter (sym stays.1) beside.writer;
      clients = subst LinesOfClients (sym stays.2) beside.clients;
    }

others_call : (session : SessionView) → IsBeside session → (call : Call) → IsSessions session call → IsOthers call
others_call session beside (Begin owner part) is = subst (λ (o : Owner). o.0 ≢ tool_owner.0) (sym is.0) beside.apart
others_call session beside (Start owner statement) is =
    (subst (λ (o : Owner). o.0 ≢ tool_owner.0) (sym is.0) beside.apart, runs_clients session.script statement beside.clients is.1)
others_call session beside (Visit owner) is = subst (λ (o : Owner). o.0 ≢ tool_owner.0) (sym is) beside.apart
others_call session beside (Commit owner origin) is =
    (subst (λ (o : Owner). o.0 ≢ tool_owner.0) (sym is.0) beside.apart, subst IsWriter (sym is.1) beside.writer)
others_call session beside (Rollback owner) is = tt
others_call session beside (Publish table chunk) is = absurd is

apart_call : (session : SessionView) → IsBeside session → (call : Call) → IsSessions session call → IsApart call
apart_call session beside (Begin owner part) is = is.1
apart_call session beside (Start owner statement) is = tt
apart_call session beside (Visit owner) is = tt
apart_call session beside (Commit owner origin) is = tt
apart_call session beside (Rollback owner) is = subst (λ (o : Owner). o.0 ≢ tool_owner.0) (sym is) beside.apart
apart_call session beside (Publish table chunk) is = tt

-- Courses.

abbrev pub course_of : ToolView → NodeView → Course
course_of tool node = record { tool = tool; node = node }

events_joined : (xs ys : List Event) (course : Course) → after_events (xs ++ ys) course ≡ after_events ys (after_events xs course)
events_joined [] ys course = refl
events_joined (x ∷ xs) ys course = events_joined xs ys (after_event x course)

calls_are : (calls : List Call) (tool : ToolView) (node : NodeView) → after_events (map Other calls) (course_of tool node) ≡ course_of tool (after_calls calls node)
calls_are [] tool node = refl
calls_are (call ∷ calls) tool node = calls_are calls tool (after_call call node)

-- events lead from the first course to this tool and this node
pub record IsLed (first : Course) (tool : ToolView) (node : NodeView) : Type 0 where
  pub events : List Event
  pub fit : AllByRecursion EventFits events
  pub apart : AllByRecursion EventApart events
  pub course : course_of tool node ≡ after_events events first

further_led : (first : Course) (tool now : ToolView) (node new : NodeView) (more : List Event) → IsLed first tool node → AllByRecursion EventFits more → AllByRecursion EventApart more
    → course_of now new ≡ after_events more (course_of tool node) → IsLed first now new
further_led first tool now node new more led fit apart is = record {
  events = led.events ++ more;
  fit = each_joined EventFits led.events more led.fit fit;
  apart = each_joined EventApart led.events more led.apart apart;
  course = is ∙ ap (after_events more) led.course ∙ sym (events_joined led.events more first);
}

pub session_led : (first : Course) (retries : ℕ) (session : SessionView) (tool : ToolView) (node : NodeView) → IsBeside session → IsLed first tool node
    → IsLed first tool (next_move retries session node).node
session_led first retries session tool node beside led =
    let made : LeadsBy (IsSessions session) node (next_move retries session node).node = sessions_make_calls retries session node in
    further_led first tool tool node (next_move retries session node).node (map Other made.calls) led
    (each_mapped (IsSessions session) EventFits Other made.calls (others_call session beside) made.are)
    (each_mapped (IsSessions session) EventApart Other made.calls (apart_call session beside) made.are)
    (ap (course_of tool) made.leads ∙ sym (calls_are made.calls tool node))

pub tool_led : (first : Course) (tool : ToolView) (node : NodeView) → IsLed first tool node → IsLed first (tool_moves.next_move tool node).tool (tool_moves.next_move tool node).node
tool_led first tool node led =
    further_led first tool (tool_moves.next_move tool node).tool node (tool_moves.next_move tool node).node (Own ∷ []) led (tt, tt) (tt, tt) refl
