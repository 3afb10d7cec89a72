-- A line that is printed as DUPLICATE is an INSERT of the workload's script of its session.
use Rattle.std.proofs.Common.{◌≡◌, ◌∙◌, ℕ, zero, suc, ◌-◌, List, [], ◌∷◌, Option, None, Some, map, refl, ap, sym, subst}
use Rattle.std.specs.List.{slice_get}
use Rattle.ptc_statement.specs.declared.statements.Statement.{Statement}
use Rattle.ptc_statement.specs.declared.scripts.ScriptLine.{ScriptLine}
use Rattle.ptc_statement.specs.declared.scripts.ScriptStep.TheVariants.{Run}
use Rattle.node_model.specs.Node.{NodeView}
use Rattle.session.specs.Sessions.{SessionView}
use Rattle.workload.specs.declared.actors.Actor.{Actor}
use Rattle.workload.specs.declared.actors.Actor.TheVariants.{Session, Tool, Sync, Worker, Local}
use Rattle.workload.specs.declared.schedule.Item.{Item}
use Rattle.workload.specs.declared.workloads.Workload.{Workload}
use Rattle.trace_text.specs.declared.lines.DuplicateLine.{DuplicateLine}
use Rattle.world_model.specs.declared.options.RunOptions.{RunOptions}
use Rattle.world_model.specs.CanRun.{CanRun}
use Rattle.world_model.specs.Worlds.{WorldView, ReplicaView, begun}
use Rattle.world_model.specs.Turns.{played}
use Rattle.world_model.specs.Summary.{duplicates_of}
use Rattle.world_model.proofs.EachLemmas.{each_more}
use Rattle.headline_laws.specs.Begins.{script_of, local_scripts_of, lines_of}
use Rattle.headline_laws.proofs.KeptLemmas.{Kept, each_kept}
use Rattle.duplicate_laws.specs.Duplicates.{Seat, seat_on, local_seat, seat_of, MeetsKey, WasRefused}
use Rattle.duplicate_laws.specs.Scripts.{local_script, HasInsert, IsOfScript, DuplicatesAreInserts}
use Rattle.duplicate_laws.proofs.RunLemmas.{each_was_there}

-- what stands at a place of a list of the same images
record Image {A B : Type 0} (g : A → B) (xs : List A) (place : ℕ) (image : B) : Type 0 where
  one : A
  found : slice_get xs place ≡ Some one
  is : g one ≡ image

image_at : {A B C : Type 0} (f : C → B) (g : A → B) (xs : List C) (ys : List A) (place : ℕ) (x : C) → map f xs ≡ map g ys → slice_get xs place ≡ Some x → Image g ys place (f x)
image_at f g [] ys place x same found = absurd (cc)
image_at f g (first ∷ xs) [] place x same found = absurd (cc)
image_at f g (first ∷ xs) (one ∷ ys) zero x same found =
    let is : first ≡ x = cc in
    let both : f first ∷ map f xs ≡ g one ∷ map g ys = same in
    let images : f first ≡ g one = cc in
    record { one = one; found = refl; is = sym images ∙ ap f is }
image_at f g (first ∷ xs) (one ∷ ys) (suc place) x same found =
    let both : f first ∷ map f xs ≡ g one ∷ map g ys = same in
    let rest : map f xs ≡ map g ys = cc in
    let more : Image g ys place (f x) = image_at f g xs ys place x rest found in
    record { one = more.one; found = more.found; is = more.is }

-- a seat is of a session that is there
seat_found : (node : NodeView) (session : Option SessionView) (seat : Seat) → seat_on node session ≡ Some seat → session ≡ Some seat.session
seat_found node None seat is = absurd (let no : None ≡ Some seat = is in cc)
seat_found node (Some session) seat is =
    let both : Some (record { session = session; node = node }) ≡ Some seat = is in
    let same : record { session = session; node = node } ≡ seat = cc in
    ap (λ (s : Seat). Some s.session) same

record LocalFound (found : Option ReplicaView) (local : ℕ) (session : SessionView) : Type 0 where
  replica : ReplicaView
  is : found ≡ Some replica
  at : slice_get replica.locals (local - 1) ≡ Some session

local_found : (local : ℕ) (found : Option ReplicaView) (seat : Seat) → local_seat local found ≡ Some seat → LocalFound found local seat.session
local_found local None seat is = absurd (let no : None ≡ Some seat = is in cc)
local_found local (Some replica) seat is = record { replica = replica; is = refl; at = seat_found replica.node (slice_get replica.locals (local - 1)) seat is }

has_insert : (seat : Seat) (number : ℕ) → MeetsKey seat number → HasInsert seat.session.script number
has_insert seat number meets = record {
  place = seat.session.next;
  line = meets.line;
  found = meets.next;
  numbered = meets.numbered;
  table = meets.at_live.table;
  row = meets.at_live.row;
  inserts = meets.runs ∙ ap (λ (statement : Statement). Run statement) meets.at_live.inserts;
}

of_script : (options : RunOptions) (workload : Workload) (items : List Item) → CanRun options workload → (actor : Actor) (number : ℕ) → WasRefused options workload items actor number
    → IsOfScript workload (record { actor = actor; line = number })
of_script options workload items can actor number was = at actor was.found
  where
    world : WorldView
    world = played was.front (begun options workload)

    kept : Kept workload world
    kept = each_kept options workload was.front can

    has : HasInsert was.seat.session.script number
    has = has_insert was.seat number was.meets

    at : (one : Actor) → seat_of one world ≡ Some was.seat → IsOfScript workload (record { actor = one; line = number })
    at (Session place) found =
        let script : Image lines_of workload.sessions (place - 1) was.seat.session.script =
        image_at script_of lines_of world.sessions workload.sessions (place - 1) was.seat.session kept.scripts (seat_found world.source (slice_get world.sessions (place - 1)) was.seat found) in
        record { script = script.one; of_actor = script.found; has = subst (λ (lines : List ScriptLine). HasInsert lines number) (sym script.is) has }
    at Tool found = absurd (let no : None ≡ Some was.seat = found in cc)
    at (Sync place) found = absurd (let no : None ≡ Some was.seat = found in cc)
    at (Worker place worker) found = absurd (let no : None ≡ Some was.seat = found in cc)
    at (Local place local) found =
        let there : LocalFound (slice_get world.replicas (place - 1)) local was.seat.session = local_found local (slice_get world.replicas (place - 1)) was.seat found in
        let scripts : Image (map lines_of) workload.locals (place - 1) (local_scripts_of there.replica) =
        image_at local_scripts_of (map lines_of) world.replicas workload.locals (place - 1) there.replica kept.locals there.is in
        let script : Image lines_of scripts.one (local - 1) was.seat.session.script =
        image_at script_of lines_of there.replica.locals scripts.one (local - 1) was.seat.session (sym scripts.is) there.at in
        record {
          script = script.one;
          of_actor = ap (local_script local) scripts.found ∙ script.found;
          has = subst (λ (lines : List ScriptLine). HasInsert lines number) (sym script.is) has;
        }

pub each_is_insert : DuplicatesAreInserts
each_is_insert options workload items can =
    each_more (λ (line : DuplicateLine). WasRefused options workload items line.actor line.line) (IsOfScript workload) (duplicates_of (played items (begun options workload)))
    (λ line was. of_script options workload items can line.actor line.line was) (each_was_there options workload items can).printed
