-- What happens to each session of a node: its own turns, and calls of others between them.
use Rattle.std.proofs.Common.{◌≡◌, ◌≢◌, ◌∙◌, ℕ, zero, suc, ◌+◌, ◌<◌, ◌≤◌, true, false, List, [], ◌∷◌, ◌++◌, Some, map, length, refl, ap, sym, subst, arith}
use Rattle.std.specs.Prelude.{slice_set}
use Rattle.std.specs.List.{AllByRecursion, slice_get}
use Rattle.ptc_statement.specs.declared.scripts.ScriptLine.{ScriptLine}
use Rattle.statement_log.specs.declared.entries.Entry.{Entry}
use Rattle.statement_log.specs.declared.origins.Origin.{Origin}
use Rattle.lock_table.specs.declared.wants.Owner.{Owner}
use Rattle.node_model.specs.Txns.{txn_of}
use Rattle.node_model.specs.Node.{NodeView}
use Rattle.node_model.specs.Calls.{Call, Begin, Start, Visit, Commit, Rollback, Publish, after_call, after_calls}
use Rattle.session.specs.Sessions.{SessionView, new_session, RunFits}
use Rattle.session.specs.Moves.{next_move}
use Rattle.session_laws.specs.OwnCalls.{calls_of, Event, Own, Other, Course, after_event, after_events, is_own, own_entries, IsOthers, EventFits, is_whole, LinesRise, WritesOwnCalls}
use Rattle.turn_laws.specs.TurnCalls.{LeadsBy, IsSessions}
use Rattle.turn_laws.proofs.StayLemmas.{sessions_stay}
use Rattle.turn_laws.proofs.SessionCalls.{sessions_make_calls}
use Rattle.world_laws.proofs.ListLemmas.{each_joined, each_mapped}

-- sessions are told apart by their numbers
pub record TellsApart (origin : ℕ → Origin) : Type 0 where
  pub own : (number : ℕ) → is_own (origin number) (origin number) ≡ true
  pub other : (ours theirs : ℕ) → ours ≢ theirs → is_own (origin ours) (origin theirs) ≡ false

abbrev pub owner_of : ℕ → Owner
owner_of number = record { 0 = number }

abbrev pub course_of : SessionView → NodeView → Course
course_of session node = record { session = session; node = node }

-- the session of this number, and the node on which it runs, come from its first line and the first node by events
pub record IsLed (retries : ℕ) (origin : ℕ → Origin) (first : NodeView) (number : ℕ) (session : SessionView) (node : NodeView) : Type 0 where
  pub script : List ScriptLine
  pub whole : is_whole false script ≡ true
  pub rise : LinesRise script
  pub fits : AllByRecursion (λ (line : ScriptLine). RunFits first.schemas line.step) script
  pub owner : session.owner.0 ≡ number
  pub origin_is : session.origin ≡ origin number
  pub script_is : session.script ≡ script
  pub events : List Event
  pub fit : AllByRecursion (EventFits (owner_of number) (origin number)) events
  pub course : course_of session node ≡ after_events retries events (course_of (new_session (owner_of number) (origin number) script) first)

events_joined : (retries : ℕ) (xs ys : List Event) (course : Course) → after_events retries (xs ++ ys) course ≡ after_events retries ys (after_events retries xs course)
events_joined retries [] ys course = refl
events_joined retries (x ∷ xs) ys course = events_joined retries xs ys (after_event retries x course)

calls_are : (retries : ℕ) (calls : List Call) (session : SessionView) (node : NodeView) → after_events retries (map Other calls) (course_of session node) ≡ course_of session (after_calls calls node)
calls_are retries [] session node = refl
calls_are retries (call ∷ calls) session node = calls_are retries calls session (after_call call node)

further_led : (retries : ℕ) (origin : ℕ → Origin) (first : NodeView) (number : ℕ) (session now : SessionView) (node new : NodeView) (more : List Event) → IsLed retries origin first number session node
    → now.owner ≡ session.owner → now.origin ≡ session.origin → now.script ≡ session.script
    → AllByRecursion (EventFits (owner_of number) (origin number)) more → course_of now new ≡ after_events retries more (course_of session node) → IsLed retries origin first number now new
further_led retries origin first number session now node new more led same_owner same_origin same_script fit is = record {
  script = led.script;
  whole = led.whole;
  rise = led.rise;
  fits = led.fits;
  owner = ap (λ (o : Owner). o.0) same_owner ∙ led.owner;
  origin_is = same_origin ∙ led.origin_is;
  script_is = same_script ∙ led.script_is;
  events = led.events ++ more;
  fit = each_joined (EventFits (owner_of number) (origin number)) led.events more led.fit fit;
  course = is ∙ ap (after_events retries more) led.course ∙ sym (events_joined retries led.events more (course_of (new_session (owner_of number) (origin number) led.script) first));
}

-- the session's own turn
own_led : (retries : ℕ) (origin : ℕ → Origin) (first : NodeView) (number : ℕ) (session : SessionView) (node : NodeView) → IsLed retries origin first number session node
    → IsLed retries origin first number (next_move retries session node).session (next_move retries session node).node
own_led retries origin first number session node led =
    let stays = sessions_stay retries session node in
    further_led retries origin first number session (next_move retries session node).session node (next_move retries session node).node (Own ∷ []) led stays.0 stays.1 stays.2 (tt, tt) refl

-- calls of others
called_led : (retries : ℕ) (origin : ℕ → Origin) (first : NodeView) (number : ℕ) (session : SessionView) (node : NodeView) (calls : List Call)
    → AllByRecursion (IsOthers (owner_of number) (origin number)) calls → IsLed retries origin first number session node → IsLed retries origin first number session (after_calls calls node)
called_led retries origin first number session node calls others led =
    further_led retries origin first number session session node (after_calls calls node) (map Other calls) led refl refl refl
    (each_mapped (IsOthers (owner_of number) (origin number)) (EventFits (owner_of number) (origin number)) Other calls (λ call is. is) others)
    (sym (calls_are retries calls session node))

wrote : WritesOwnCalls → (retries : ℕ) (origin : ℕ → Origin) (first : NodeView) (number : ℕ) (session : SessionView) (node : NodeView) → TellsApart origin → first.history ≡ [] → first.txns ≡ []
    → IsLed retries origin first number session node → own_entries (origin number) node.history ≡ calls_of session
wrote law retries origin first number session node tells none idle led =
    subst (λ (course : Course). own_entries (origin number) course.node.history ≡ calls_of course.session) (sym led.course)
    (law retries (owner_of number) (origin number) led.script first led.events (tells.own number) led.whole led.rise led.fits (ap (txn_of number) idle) led.fit
    ∙ ap (λ (es : List Entry). own_entries (origin number) es ++ calls_of last.session) none)
  where
    last : Course
    last = after_events retries led.events (course_of (new_session (owner_of number) (origin number) led.script) first)

-- ---- all sessions of a node, the first of this number

abbrev pub EachLed : ℕ → (ℕ → Origin) → NodeView → NodeView → ℕ → List SessionView → Type 0
EachLed retries origin first node number [] = Unit {0}
EachLed retries origin first node number (session ∷ sessions) = IsLed retries origin first number session node × EachLed retries origin first node (number + 1) sessions

-- calls of none of them
pub each_called : (retries : ℕ) (origin : ℕ → Origin) (first node : NodeView) (calls : List Call) (P : Call → Type 0) (number : ℕ) (sessions : List SessionView) → AllByRecursion P calls
    → ((n : ℕ) → number ≤ n → n < number + length sessions → (call : Call) → P call → IsOthers (owner_of n) (origin n) call)
    → EachLed retries origin first node number sessions → EachLed retries origin first (after_calls calls node) number sessions
each_called retries origin first node calls P number [] are others each = tt
each_called retries origin first node calls P number (session ∷ sessions) are others each = (
  called_led retries origin first number session node calls (each_other calls are) each.0,
  each_called retries origin first node calls P (number + 1) sessions are
      (λ n least most. others n (omega (arith, least)) (omega (arith, most))) each.1,
)
  where
    each_other : (some : List Call) → AllByRecursion P some → AllByRecursion (IsOthers (owner_of number) (origin number)) some
    each_other [] is = tt
    each_other (call ∷ some) is = (others number (omega arith) (omega arith) call is.0, each_other some is.1)

-- a session's calls are others' to each other session
sessions_call : (origin : ℕ → Origin) (session : SessionView) (number theirs : ℕ) → TellsApart origin → session.owner.0 ≡ theirs → session.origin ≡ origin theirs → number ≢ theirs
    → (call : Call) → IsSessions session call → IsOthers (owner_of number) (origin number) call
sessions_call origin session number theirs tells owner_is origin_is apart = at
  where
    other : (owner : Owner) → owner ≡ session.owner → owner.0 ≢ number
    other owner is = λ same. apart (sym same ∙ ap (λ (o : Owner). o.0) is ∙ owner_is)

    at : (call : Call) → IsSessions session call → IsOthers (owner_of number) (origin number) call
    at (Begin owner part) is = other owner is.0
    at (Start owner statement) is = other owner is.0
    at (Visit owner) is = other owner is
    at (Commit owner named) is = (other owner is.0, ap (is_own (origin number)) (is.1 ∙ origin_is) ∙ tells.other number theirs apart)
    at (Rollback owner) is = tt
    at (Publish table chunk) is = absurd is

-- a session of these moves
each_turned_at : (retries : ℕ) (origin : ℕ → Origin) (first node : NodeView) (place number : ℕ) (sessions : List SessionView) (session : SessionView) → TellsApart origin
    → session.owner.0 ≡ number + place → session.origin ≡ origin (number + place) → slice_get sessions place ≡ Some session → EachLed retries origin first node number sessions
    → EachLed retries origin first (next_move retries session node).node number (slice_set sessions place (next_move retries session node).session)
each_turned_at retries origin first node place number [] session tells owner_is origin_is found each = tt
each_turned_at retries origin first node zero number (other ∷ sessions) session tells owner_is origin_is found each =
    let same : other ≡ session = cc in (
      own_led retries origin first number session node (subst (λ (s : SessionView). IsLed retries origin first number s node) same each.0),
      subst (λ (n : NodeView). EachLed retries origin first n (number + 1) sessions) (sym made.leads)
          (each_called retries origin first node made.calls (IsSessions session) (number + 1) sessions made.are
          (λ n least most. sessions_call origin session n (number + 0) tells owner_is origin_is (λ is. absurd (omega (arith, least, is)))) each.1),
    )
  where
    made : LeadsBy (IsSessions session) node (next_move retries session node).node
    made = sessions_make_calls retries session node
each_turned_at retries origin first node (suc place) number (other ∷ sessions) session tells owner_is origin_is found each = (
  subst (IsLed retries origin first number other) (sym made.leads)
      (called_led retries origin first number other node made.calls (each_other made.calls made.are) each.0),
  each_turned_at retries origin first node place (number + 1) sessions session tells
      (subst (λ (n : ℕ). session.owner.0 ≡ n) moved owner_is) (subst (λ (n : ℕ). session.origin ≡ origin n) moved origin_is) found each.1,
)
  where
    made : LeadsBy (IsSessions session) node (next_move retries session node).node
    made = sessions_make_calls retries session node

    moved : number + suc place ≡ number + 1 + place
    moved = omega arith

    each_other : (some : List Call) → AllByRecursion (IsSessions session) some → AllByRecursion (IsOthers (owner_of number) (origin number)) some
    each_other [] is = tt
    each_other (call ∷ some) is =
        (sessions_call origin session number (number + suc place) tells owner_is origin_is (λ same. absurd (omega (arith, same))) call is.0, each_other some is.1)

pub led_at : (retries : ℕ) (origin : ℕ → Origin) (first node : NodeView) (place number : ℕ) (sessions : List SessionView) (session : SessionView) → slice_get sessions place ≡ Some session
    → EachLed retries origin first node number sessions → IsLed retries origin first (number + place) session node
led_at retries origin first node place number [] session found each = absurd (cc)
led_at retries origin first node zero number (other ∷ sessions) session found each =
    let same : other ≡ session = cc in
    subst (λ (n : ℕ). IsLed retries origin first n session node) (let is : number ≡ number + 0 = omega arith in is) (subst (λ (s : SessionView). IsLed retries origin first number s node) same each.0)
led_at retries origin first node (suc place) number (other ∷ sessions) session found each =
    subst (λ (n : ℕ). IsLed retries origin first n session node) (let is : number + 1 + place ≡ number + suc place = omega arith in is)
    (led_at retries origin first node place (number + 1) sessions session found each.1)

pub each_turned : (retries : ℕ) (origin : ℕ → Origin) (first node : NodeView) (place number : ℕ) (sessions : List SessionView) (session : SessionView) → TellsApart origin
    → slice_get sessions place ≡ Some session → EachLed retries origin first node number sessions
    → EachLed retries origin first (next_move retries session node).node number (slice_set sessions place (next_move retries session node).session)
each_turned retries origin first node place number sessions session tells found each =
    let led = led_at retries origin first node place number sessions session found each in
    each_turned_at retries origin first node place number sessions session tells led.owner led.origin_is found each

-- Each has written its own calls.
pub each_wrote : WritesOwnCalls → (retries : ℕ) (origin : ℕ → Origin) (first node : NodeView) (sessions : List SessionView) → TellsApart origin → first.history ≡ [] → first.txns ≡ []
    → EachLed retries origin first node 1 sessions
    → (place : ℕ) (session : SessionView) → slice_get sessions place ≡ Some session → own_entries (origin (place + 1)) node.history ≡ calls_of session
each_wrote law retries origin first node sessions tells none idle each place session found =
    subst (λ (n : ℕ). own_entries (origin n) node.history ≡ calls_of session) (let is : 1 + place ≡ place + 1 = omega arith in is)
    (wrote law retries origin first (1 + place) session node tells none idle (led_at retries origin first node place 1 sessions session found each))
