-- Each line that a session counts as refused was refused at a turn of its own, in each world that items make of a workload.
use Rattle.std.proofs.Common.{◌≡◌, ◌∙◌, ℕ, zero, suc, ◌+◌, ◌<◌, ◌≤◌, List, [], ◌∷◌, ◌++◌, map, take, length, refl, ap, sym, subst, append_assoc, append-nil, arith}
use Rattle.std.specs.List.{AllByRecursion}
use Rattle.row_types.specs.declared.table_schema.Schema.{Schema}
use Rattle.row_types.specs.KeyRows.{TableRows}
use Rattle.ptc_statement.specs.declared.scripts.Script.{Script}
use Rattle.statement_log.specs.declared.origins.Origin.{Origin}
use Rattle.statement_log.specs.declared.origins.Origin.TheVariants as o
use Rattle.lock_table.specs.declared.wants.Owner.{Owner}
use Rattle.node_model.specs.Node.{NodeView}
use Rattle.node_model.specs.Calls.{fresh_node}
use Rattle.session.specs.Sessions.{SessionView}
use Rattle.applier.specs.declared.workers.Worker.{Worker}
use Rattle.applier.specs.Appliers.{new_worker, new_workers}
use Rattle.turn_laws.specs.Stays.{owners_of}
use Rattle.workload.specs.declared.actors.Actor.{Actor}
use Rattle.workload.specs.declared.actors.Actor.TheVariants as a
use Rattle.workload.specs.declared.schedule.Item.{Item}
use Rattle.workload.specs.declared.schedule.Item.TheVariants.{Turn}
use Rattle.workload.specs.declared.workloads.Workload.{Workload}
use Rattle.trace_text.specs.declared.lines.DuplicateLine.{DuplicateLine}
use Rattle.world_model.specs.declared.options.RunOptions.{RunOptions}
use Rattle.world_model.specs.CanRun.{CanRun, LocalsFit}
use Rattle.world_model.specs.Worlds.{WorldView, ReplicaView, begun_sessions, begun_replicas, begun}
use Rattle.world_model.specs.Turns.{stepped, played}
use Rattle.world_model.specs.Summary.{duplicates_from, local_duplicates_from, duplicates_of}
use Rattle.world_model.proofs.ReplayLemmas.{played-append}
use Rattle.world_model.proofs.GoodLemmas.{each_world_fits}
use Rattle.duplicate_laws.specs.Duplicates.{WasRefused, WereRefused, EachDuplicateWasThere}
use Rattle.duplicate_laws.proofs.OtherLemmas.{AreAbove}
use Rattle.duplicate_laws.proofs.HereLemmas.{AreHere, taken, here_at}
use Rattle.duplicate_laws.proofs.WorldLemmas.{AreThere, WorldHere, TellsTurn, step_here, world_more, there_at}

-- Before the first move.

begun_here : (told : ℕ → ℕ → Type 0) (schemas : List Schema) (start : TableRows) (origin : ℕ → Origin) (number : ℕ) (scripts : List Script)
    → AreHere told (fresh_node schemas start) number (begun_sessions origin number scripts)
begun_here told schemas start origin number [] = tt
begun_here told schemas start origin number (script ∷ scripts) =
    (record { owner = refl; linked = tt; refused = tt }, begun_here told schemas start origin (number + 1) scripts)

begun_count : (origin : ℕ → Origin) (number : ℕ) (scripts : List Script) → length (begun_sessions origin number scripts) ≡ length scripts
begun_count origin number [] = refl
begun_count origin number (script ∷ scripts) =
    let more : length (begun_sessions origin (number + 1) scripts) ≡ length scripts = begun_count origin (number + 1) scripts in
    omega (arith, more)

all_joined : {A : Type 0} (P : A → Type 0) (xs ys : List A) → AllByRecursion P xs → AllByRecursion P ys → AllByRecursion P (xs ++ ys)
all_joined P [] ys xs_are ys_are = ys_are
all_joined P (x ∷ xs) ys xs_are ys_are = (xs_are.0, all_joined P xs ys xs_are.1 ys_are)

owners_joined : (xs ys : List Worker) → owners_of (xs ++ ys) ≡ owners_of xs ++ owners_of ys
owners_joined [] ys = refl
owners_joined (x ∷ xs) ys = ap (λ (os : List Owner). x.owner ∷ os) (owners_joined xs ys)

above : (count : ℕ) → AreAbove (owners_of (new_workers count))
above zero = tt
above (suc count) =
    subst AreAbove (sym (owners_joined (new_workers count) (new_worker (suc count) ∷ [])))
    (all_joined (λ (owner : Owner). 200 < owner.0) (owners_of (new_workers count)) (owners_of (new_worker (suc count) ∷ [])) (above count) (omega arith, tt))

begun_there : (told : ℕ → ℕ → ℕ → Type 0) (options : RunOptions) (schemas : List Schema) (number : ℕ) (copies : List TableRows) (locals : List (List Script)) → LocalsFit schemas locals
    → AreThere told number (begun_replicas options schemas number copies locals)
begun_there told options schemas number [] locals fit = tt
begun_there told options schemas number (start ∷ copies) [] fit = tt
begun_there told options schemas number (start ∷ copies) (scripts ∷ locals) fit = (
  record {
    here = begun_here (told number) schemas start o.Local 1 scripts;
    few = subst (λ (count : ℕ). count ≤ 16) (sym (begun_count o.Local 1 scripts)) fit.0.1;
    workers = above options.workers;
  },
  begun_there told options schemas (number + 1) copies locals fit.1,
)

begun_world : (told : Actor → ℕ → Type 0) (options : RunOptions) (workload : Workload) → CanRun options workload → WorldHere told (begun options workload)
begun_world told options workload can = record {
  source = begun_here (λ (number line : ℕ). told (a.Session number) line) workload.schemas.tables workload.source o.Session 1 workload.sessions;
  replicas = begun_there (λ (number local line : ℕ). told (a.Local number local) line) options workload.schemas.tables 1 workload.copies workload.locals can.runnable.locals;
}

-- Items.

still_refused : (options : RunOptions) (workload : Workload) (items more : List Item) (actor : Actor) (number : ℕ) → WasRefused options workload items actor number
    → WasRefused options workload (items ++ more) actor number
still_refused options workload items more actor number was = record {
  front = was.front;
  rest = was.rest ++ more;
  split = ap (λ (all : List Item). all ++ more) was.split ∙ append_assoc was.front (Turn actor ∷ was.rest) more;
  seat = was.seat;
  found = was.found;
  meets = was.meets;
  told = was.told;
}

item_here : (options : RunOptions) (workload : Workload) (items : List Item) (item : Item) → CanRun options workload
    → WorldHere (WasRefused options workload items) (played items (begun options workload))
    → WorldHere (WasRefused options workload (items ++ item ∷ [])) (stepped item (played items (begun options workload)))
item_here options workload items item can h =
    step_here told world item (each_world_fits options workload items can).few_sessions tells
    (world_more (WasRefused options workload items) told world (λ actor line was. still_refused options workload items (item ∷ []) actor line was) h)
  where
    world : WorldView
    world = played items (begun options workload)

    told : Actor → ℕ → Type 0
    told = WasRefused options workload (items ++ item ∷ [])

    tells : (actor : Actor) → item ≡ Turn actor → TellsTurn told world actor
    tells actor is seat number found meets noted = record {
      front = items;
      rest = [];
      split = ap (λ (one : Item). items ++ one ∷ []) is;
      seat = seat;
      found = found;
      meets = meets;
      told = noted;
    }

more_here : (options : RunOptions) (workload : Workload) (items more : List Item) → CanRun options workload → WorldHere (WasRefused options workload items) (played items (begun options workload))
    → WorldHere (WasRefused options workload (items ++ more)) (played (items ++ more) (begun options workload))
more_here options workload items [] can h =
    subst (λ (all : List Item). WorldHere (WasRefused options workload all) (played all (begun options workload))) (sym (append-nil items)) h
more_here options workload items (item ∷ more) can h =
    subst (λ (all : List Item). WorldHere (WasRefused options workload all) (played all (begun options workload))) (append_assoc items (item ∷ []) more)
    (more_here options workload (items ++ item ∷ []) more can
    (subst (WorldHere (WasRefused options workload (items ++ item ∷ []))) (sym (played-append items (item ∷ []) (begun options workload))) (item_here options workload items item can h)))

all_here : (options : RunOptions) (workload : Workload) (items : List Item) → CanRun options workload → WorldHere (WasRefused options workload items) (played items (begun options workload))
all_here options workload items can = more_here options workload [] items can (begun_world (WasRefused options workload []) options workload can)

-- The lines that are printed.

abbrev TellsLine : (Actor → ℕ → Type 0) → DuplicateLine → Type 0
TellsLine told line = told line.actor line.line

lines_told : (told : Actor → ℕ → Type 0) (actor : Actor) (lines : List ℕ) → AllByRecursion (told actor) lines
    → AllByRecursion (TellsLine told) (map (λ (line : ℕ). record { actor = actor; line = line }) lines)
lines_told told actor [] are = tt
lines_told told actor (line ∷ lines) are = (are.0, lines_told told actor lines are.1)

from_told : (told : Actor → ℕ → Type 0) (actor : ℕ → Actor) (node : NodeView) (number : ℕ) (sessions : List SessionView) → AreHere (λ (n line : ℕ). told (actor n) line) node number sessions
    → AllByRecursion (TellsLine told) (duplicates_from actor number sessions)
from_told told actor node number [] are = tt
from_told told actor node number (session ∷ sessions) are =
    all_joined (TellsLine told) (map (λ (line : ℕ). record { actor = actor number; line = line }) (take session.settled session.refused)) (duplicates_from actor (number + 1) sessions)
    (lines_told told (actor number) (take session.settled session.refused) (taken (told (actor number)) session.settled session.refused are.0.refused))
    (from_told told actor node (number + 1) sessions are.1)

local_told : (told : Actor → ℕ → Type 0) (number : ℕ) (replicas : List ReplicaView) → AreThere (λ (n local line : ℕ). told (a.Local n local) line) number replicas
    → AllByRecursion (TellsLine told) (local_duplicates_from number replicas)
local_told told number [] are = tt
local_told told number (replica ∷ replicas) are =
    all_joined (TellsLine told) (duplicates_from (a.Local number) 1 replica.locals) (local_duplicates_from (number + 1) replicas)
    (from_told told (a.Local number) replica.node 1 replica.locals are.0.here) (local_told told (number + 1) replicas are.1)

printed_told : (told : Actor → ℕ → Type 0) (world : WorldView) → WorldHere told world → AllByRecursion (TellsLine told) (duplicates_of world)
printed_told told world h =
    all_joined (TellsLine told) (duplicates_from a.Session 1 world.sessions) (local_duplicates_from 1 world.replicas)
    (from_told told a.Session world.source 1 world.sessions h.source) (local_told told 1 world.replicas h.replicas)

were_told : (told : ℕ → ℕ → Type 0) (node : NodeView) (sessions : List SessionView) → AreHere told node 1 sessions → WereRefused told 1 sessions
were_told told node sessions are place session found = (here_at told node place 1 (1 + place) sessions session found refl are).refused

pub each_was_there : EachDuplicateWasThere
each_was_there options workload items can =
    let world : WorldView = played items (begun options workload) in
    let told : Actor → ℕ → Type 0 = WasRefused options workload items in
    let h : WorldHere told world = all_here options workload items can in
    record {
      printed = printed_told told world h;
      sessions = were_told (λ (number line : ℕ). told (a.Session number) line) world.source world.sessions h.source;
      locals = λ place replica found.
          were_told (λ (local line : ℕ). told (a.Local (1 + place) local) line) replica.node replica.locals
          (there_at (λ (n local line : ℕ). told (a.Local n local) line) place 1 (1 + place) world.replicas replica found refl h.replicas).here;
    }
