-- At the end of a run the actors of a round are told, and all have finished where none is told as unfinished.
use Rattle.std.proofs.Common.{◌≡◌, ◌∙◌, ◌⊎◌, inl, inr, ℕ, zero, suc, ◌+◌, ◌-◌, ◌<◌, ◌≤◌, ◌||◌, Bool, true, false, cond, List, [], ◌∷◌, ◌++◌, Option, None, Some, length, refl, ap, sym, subst, arith}
use Rattle.std.specs.List.{AllByRecursion, slice_get}
use Rattle.row_types.specs.declared.table_schema.Schema.{Schema}
use Rattle.statement_log.specs.declared.entries.Entry.{Entry}
use Rattle.statement_log.specs.declared.origins.Origin.{Origin}
use Rattle.statement_log.specs.declared.origins.Origin.TheVariants.{Session, Local}
use Rattle.history.specs.Replay.{applied_of}
use Rattle.history.proofs.ReplayLemmas.{follows_within}
use Rattle.node_model.specs.Txns.{txn_of}
use Rattle.node_model.specs.Node.{NodeView}
use Rattle.node_model.specs.Calls.{fresh_node}
use Rattle.session.specs.Sessions.{SessionView, is_at_end}
use Rattle.session_laws.specs.Standing.{Stands, CourseStands}
use Rattle.session_laws.proofs.StandLemmas.{sessions_stand}
use Rattle.applier.specs.declared.workers.Worker.{Worker}
use Rattle.applier.specs.Appliers.{is_number, is_taken, first_left, entry_of, entry_left}
use Rattle.applier_laws.specs.Follows.{new_course}
use Rattle.applier_laws.proofs.ListLemmas.{IsAt, is_at, got_within}
use Rattle.applier_laws.proofs.TeamLemmas.{Holds as TeamHolds}
use Rattle.applier_laws.proofs.RunLemmas.{CourseHolds, events_hold, at_first}
use Rattle.workload.specs.declared.actors.Actor.{Actor}
use Rattle.workload.specs.declared.actors.Actor.TheVariants as a
use Rattle.workload.specs.declared.schedule.Item.{Item}
use Rattle.workload.specs.declared.schedule.Item.TheVariants as i
use Rattle.workload.specs.declared.workloads.Workload.{Workload}
use Rattle.trace_text.specs.declared.notes.Why.{Why}
use Rattle.trace_text.specs.declared.lines.UnfinishedLine.{UnfinishedLine}
use Rattle.world_model.specs.declared.options.RunOptions.{RunOptions}
use Rattle.world_model.specs.CanRun.{CanRun}
use Rattle.world_model.specs.Worlds.{WorldView, ReplicaView, begun}
use Rattle.world_model.specs.Turns.{unplayed, played}
use Rattle.world_model.specs.Rounds.{order, round, rounds, IsStillAt, IsStill, behind_schedule, EndsIn, Reaches}
use Rattle.world_model.specs.Ends.{SessionIsFinished, WorkerIsFinished, LocalIsFinished, IsFinished, why, unfinished_line, unfinished_at, unfinished_in}
use Rattle.world_model.proofs.ReplayLemmas.{played-append}
use Rattle.world_laws.specs.Clients.{AreClients}
use Rattle.world_laws.specs.InOrder.{AreInOrder}
use Rattle.world_laws.proofs.ListLemmas.{each_is, each_at}
use Rattle.world_laws.proofs.ReplicaLemmas.{IsLed as IsReplicaLed}
use Rattle.world_laws.proofs.OwnLemmas.{TellsApart, owner_of, IsLed, EachLed, led_at}
use Rattle.world_laws.proofs.StepLemmas.{WorldHolds}
use Rattle.world_laws.proofs.OwnStepLemmas.{sessions_apart, locals_apart, ReplicaHolds, OwnHolds}
use Rattle.world_laws.proofs.OwnRunLemmas.{own}
use Rattle.world_laws.proofs.RunLemmas.{holds}
use Rattle.run_laws.specs.Finished.{IsTold, IsTurnTold, ActorsAreTold, ReplicaHasFinished, AllHaveFinished, RunsWithoutLines}
use Rattle.run_laws.proofs.ListLemmas.{OnTurn, EachThere, Each, in_order, from_order, each_from, before, got_before}
use Rattle.run_laws.proofs.ActorLemmas.{IsStillActor, session_told, tool_told, local_told, worker_told}

-- Rounds play items.

rounds_reach : (first : WorldView) (count : ℕ) (world : WorldView) → Reaches first world → Reaches first (rounds count world)
rounds_reach first zero world reaches = reaches
rounds_reach first (suc count) world reaches = rounds_reach first count (round world) (record {
  items = reaches.items ++ order world;
  reached = ap (played (order world)) reaches.reached ∙ sym (played-append reaches.items (order world) first);
})

pub end_reached : (first last : WorldView) → EndsIn first last → Reaches first last
end_reached first last ends = subst (Reaches first) (sym ends.reached) (rounds_reach first ends.count (behind_schedule first) (record { items = unplayed first; reached = refl }))

-- What is known of the world that items make.

session_stands : (retries : ℕ) (origin : ℕ → Origin) (first : NodeView) (number : ℕ) (session : SessionView) (node : NodeView) → TellsApart origin → txn_of number first.txns ≡ None
    → IsLed retries origin first number session node → Stands session node
session_stands retries origin first number session node tells idle led =
    subst CourseStands (sym led.course) (sessions_stand retries (owner_of number) (origin number) led.script first led.events (tells.own number) led.whole led.rise led.fits idle led.fit)

stands_at : (retries : ℕ) (origin : ℕ → Origin) (first : NodeView) (sessions : List SessionView) (node : NodeView) → TellsApart origin → ((number : ℕ) → txn_of number first.txns ≡ None)
    → EachLed retries origin first node 1 sessions → (place : ℕ) (session : SessionView) → slice_get sessions place ≡ Some session → Stands session node
stands_at retries origin first sessions node tells idle each place session found =
    session_stands retries origin first (1 + place) session node tells (idle (1 + place)) (led_at retries origin first node place 1 sessions session found each)

team_holds : (schemas : List Schema) (workers : ℕ) (log : List Entry) (replica : ReplicaView) → IsReplicaLed schemas workers log replica
    → TeamHolds workers log replica.node.history replica.applier.workers replica.node.txns
team_holds schemas workers log replica led =
    subst (CourseHolds workers) (sym led.course) (events_hold workers led.events (new_course led.number workers schemas led.start) led.fit (at_first led.number workers schemas led.start))

pub record ReplicaIs (workers : ℕ) (log : List Entry) (replica : ReplicaView) : Type 0 where
  pub stands : (place : ℕ) (session : SessionView) → slice_get replica.locals place ≡ Some session → Stands session replica.node
  pub running : replica.applier.stopped ≡ false
  pub team : TeamHolds workers log replica.node.history replica.applier.workers replica.node.txns

pub record WorldIs (workers : ℕ) (world : WorldView) : Type 0 where
  pub stands : (place : ℕ) (session : SessionView) → slice_get world.sessions place ≡ Some session → Stands session world.source
  pub replicas : (place : ℕ) (replica : ReplicaView) → slice_get world.replicas place ≡ Some replica → ReplicaIs workers world.source.history replica

replica_is : (retries : ℕ) (schemas : List Schema) (workers : ℕ) (log : List Entry) (replica : ReplicaView) → IsReplicaLed schemas workers log replica → ReplicaHolds retries replica → ReplicaIs workers log replica
replica_is retries schemas workers log replica led h = record {
  stands = stands_at retries Local (fresh_node h.schemas h.start) replica.locals replica.node locals_apart (λ number. refl) h.each;
  running = h.running;
  team = team_holds schemas workers log replica led;
}

played_is : (options : RunOptions) (workload : Workload) (items : List Item) → CanRun options workload → AreClients workload → AreInOrder workload
    → WorldIs options.workers (played items (begun options workload))
played_is options workload items can clients ordered =
    let world : WorldView = played items (begun options workload) in
    let led : WorldHolds options workload world = holds options workload items can clients in
    let h : OwnHolds workload world = own options workload items can clients ordered in
    record {
      stands = stands_at world.options.retries Session (fresh_node workload.schemas.tables workload.source) world.sessions world.source sessions_apart (λ number. refl) h.source.each;
      replicas = λ place replica found. replica_is world.options.retries workload.schemas.tables options.workers world.source.history replica
          (each_at (IsReplicaLed workload.schemas.tables options.workers world.source.history) world.replicas place replica led.each found)
          (each_at (ReplicaHolds world.options.retries) world.replicas place replica h.replicas found);
    }

end_is : (options : RunOptions) (workload : Workload) (last : WorldView) → CanRun options workload → AreClients workload → AreInOrder workload → EndsIn (begun options workload) last → WorldIs options.workers last
end_is options workload last can clients ordered ends =
    let reaches : Reaches (begun options workload) last = end_reached (begun options workload) last ends in
    subst (WorldIs options.workers) (sym reaches.reached) (played_is options workload reaches.items can clients ordered)

-- Each actor is told.

still_turn : (world : WorldView) (item : Item) → IsStillAt world item → OnTurn (IsStillActor world) item
still_turn world (i.Turn actor) still = still
still_turn world i.StopTool still = tt
still_turn world i.ResumeTool still = tt
still_turn world (i.StopReplica number) still = tt
still_turn world (i.StartReplica number) still = tt

turn_told : (world : WorldView) (item : Item) → OnTurn (IsTold world) item → IsTurnTold world item
turn_told world (i.Turn actor) told = told
turn_told world i.StopTool told = tt
turn_told world i.ResumeTool told = tt
turn_told world (i.StopReplica number) told = tt
turn_told world (i.StartReplica number) told = tt

there_told : (workers : ℕ) (world : WorldView) (place : ℕ) (replica : ReplicaView) → slice_get world.replicas place ≡ Some replica → ReplicaIs workers world.source.history replica
    → EachThere (IsStillActor world) (suc place) replica → EachThere (IsTold world) (suc place) replica
there_told workers world place replica found is still = record {
  locals = λ local within.
      let at : IsAt replica.locals local = is_at replica.locals local within in
      local_told world place local replica at.item found at.found (is.stands local at.item at.found) (still.locals local within);
  workers = λ worker within.
      let at : IsAt replica.applier.workers worker = is_at replica.applier.workers worker within in
      worker_told world place worker replica at.item found is.running at.found (is.team.works worker at.item at.found) (still.workers worker within);
}

each_told : (workers : ℕ) (world : WorldView) → WorldIs workers world → IsStill world → Each (IsTold world) world
each_told workers world is still =
    let each : Each (IsStillActor world) world = from_order (IsStillActor world) world (each_is (IsStillAt world) (OnTurn (IsStillActor world)) (order world) (still_turn world) still) in
    record {
      sessions = λ place within.
          let at : IsAt world.sessions place = is_at world.sessions place within in
          session_told world place at.item at.found (is.stands place at.item at.found) (each.sessions place within);
      tool = tool_told world each.tool;
      replicas = λ place replica found. there_told workers world place replica found (is.replicas place replica found) (each.replicas place replica found);
    }

pub actors_are_told : ActorsAreTold
actors_are_told options workload last can clients ordered ends =
    each_is (OnTurn (IsTold last)) (IsTurnTold last) (order last) (turn_told last)
    (in_order (IsTold last) last (each_told options.workers last (end_is options workload last can clients ordered ends) ends.still))

-- No lines.

abbrev HasNoReason : WorldView → Actor → Type 0
HasNoReason world actor = why actor world ≡ None

both_empty : {A : Type 0} (xs ys : List A) → xs ++ ys ≡ [] → (xs ≡ []) × (ys ≡ [])
both_empty [] ys is = (refl, is)
both_empty (x ∷ xs) ys is = absurd (let q : x ∷ (xs ++ ys) ≡ [] = is in cc)

no_reason : (actor : Actor) (reason : Option Why) → unfinished_line actor reason ≡ [] → reason ≡ None
no_reason actor None is = refl
no_reason actor (Some reason) is = absurd (cc)

no_line_at : (world : WorldView) (item : Item) → unfinished_at world item ≡ [] → OnTurn (HasNoReason world) item
no_line_at world (i.Turn actor) is = no_reason actor (why actor world) is
no_line_at world i.StopTool is = tt
no_line_at world i.ResumeTool is = tt
no_line_at world (i.StopReplica number) is = tt
no_line_at world (i.StartReplica number) is = tt

no_lines : (world : WorldView) (items : List Item) → unfinished_in world items ≡ [] → AllByRecursion (OnTurn (HasNoReason world)) items
no_lines world [] is = tt
no_lines world (item ∷ items) is =
    let both = both_empty (unfinished_at world item) (unfinished_in world items) is in
    (no_line_at world item both.0, no_lines world items both.1)

line_at : (world : WorldView) (item : Item) → OnTurn (HasNoReason world) item → unfinished_at world item ≡ []
line_at world (i.Turn actor) none = ap (unfinished_line actor) none
line_at world i.StopTool none = refl
line_at world i.ResumeTool none = refl
line_at world (i.StopReplica number) none = refl
line_at world (i.StartReplica number) none = refl

lines : (world : WorldView) (items : List Item) → AllByRecursion (OnTurn (HasNoReason world)) items → unfinished_in world items ≡ []
lines world [] none = refl
lines world (item ∷ items) none = ap (λ (more : List UnfinishedLine). more ++ unfinished_in world items) (line_at world item none.0) ∙ lines world items none.1

-- One who has finished is not told as unfinished.
finished_silent : (world : WorldView) (actor : Actor) → IsTold world actor → IsFinished actor world → HasNoReason world actor
finished_silent world actor told finished = at (why actor world) refl
  where
    at : (reason : Option Why) → why actor world ≡ reason → reason ≡ None
    at None e = refl
    at (Some reason) e = absurd (told.1 reason e finished)

each_silent : (world : WorldView) → Each (IsTold world) world → Each (λ (actor : Actor). IsFinished actor world) world → Each (HasNoReason world) world
each_silent world told finished = record {
  sessions = λ place within. finished_silent world (a.Session (suc place)) (told.sessions place within) (finished.sessions place within);
  tool = finished_silent world a.Tool told.tool finished.tool;
  replicas = λ place replica found. record {
    locals = λ local within. finished_silent world (a.Local (suc place) (suc local)) ((told.replicas place replica found).locals local within) ((finished.replicas place replica found).locals local within);
    workers = λ worker within. finished_silent world (a.Worker (suc place) (suc worker)) ((told.replicas place replica found).workers worker within) ((finished.replicas place replica found).workers worker within);
  };
}

each_finished : (world : WorldView) → Each (IsTold world) world → Each (HasNoReason world) world → Each (λ (actor : Actor). IsFinished actor world) world
each_finished world told none = record {
  sessions = λ place within. (told.sessions place within).0 (none.sessions place within);
  tool = told.tool.0 none.tool;
  replicas = λ place replica found. record {
    locals = λ local within. ((told.replicas place replica found).locals local within).0 ((none.replicas place replica found).locals local within);
    workers = λ worker within. ((told.replicas place replica found).workers worker within).0 ((none.replicas place replica found).workers worker within);
  };
}

-- All have finished.

-- where all of a replica's workers have finished, the whole log is applied

none_taken : (number : ℕ) (workers : List Worker) → AllByRecursion (λ (worker : Worker). worker.entry ≡ None) workers → is_taken number workers ≡ false
none_taken number [] none = refl
none_taken number (worker ∷ workers) none = ap (λ (e : Option ℕ). is_number number e || is_taken number workers) none.0 ∙ none_taken number workers none.1

all_applied : (applied end : ℕ) (workers : List Worker) → AllByRecursion (λ (worker : Worker). worker.entry ≡ None) workers → entry_left applied end workers ≡ None → end ≤ applied
all_applied applied end workers none left = at (end - applied) refl left
  where
    at : (many : ℕ) → end - applied ≡ many → first_left many (applied + 1) workers ≡ None → end ≤ applied
    at zero e is = omega (arith, e)
    at (suc many) e is =
        let q : Some (applied + 1) ≡ None =
        sym (ap (λ (b : Bool). cond b (first_left many (applied + 1 + 1) workers) (Some (applied + 1))) (none_taken (applied + 1) workers none)) ∙ is in
        absurd (cc)

none_or : {G : Type 0} (workers : List Worker) → ((place : ℕ) (worker : Worker) → slice_get workers place ≡ Some worker → G ⊎ (worker.entry ≡ None)) → G ⊎ AllByRecursion (λ (worker : Worker). worker.entry ≡ None) workers
none_or [] each = inr tt
none_or {G} (worker ∷ workers) each = at (each 0 worker refl) (none_or workers (λ place other found. each (suc place) other found))
  where
    at : G ⊎ (worker.entry ≡ None) → G ⊎ AllByRecursion (λ (w : Worker). w.entry ≡ None) workers → G ⊎ AllByRecursion (λ (w : Worker). w.entry ≡ None) (worker ∷ workers)
    at (inl goal) rest = inl goal
    at (inr none) (inl goal) = inl goal
    at (inr none) (inr all) = inr (none, all)

abbrev WorkerDone : List Entry → ReplicaView → ℕ → Type 0
WorkerDone log replica place =
    (length log ≤ applied_of replica.node.history)
    ⊎ ((entry_of (slice_get replica.applier.workers place) ≡ None) × (entry_left (applied_of replica.node.history) (length log) replica.applier.workers ≡ None))

whole_log : (workers : ℕ) (log : List Entry) (replica : ReplicaView) → 1 ≤ workers → TeamHolds workers log replica.node.history replica.applier.workers replica.node.txns
    → ((place : ℕ) → place < length replica.applier.workers → WorkerDone log replica place) → applied_of replica.node.history ≡ length log
whole_log workers log replica some team done =
    let within : applied_of replica.node.history ≤ length log = follows_within log replica.node.history team.follows in
    let all : length log ≤ applied_of replica.node.history = first (done 0 (omega (arith, some, team.many))) in
    omega (arith, within, all)
  where
    entry_none : (place : ℕ) (worker : Worker) → slice_get replica.applier.workers place ≡ Some worker → (length log ≤ applied_of replica.node.history) ⊎ (worker.entry ≡ None)
    entry_none place worker found = at (done place (got_within replica.applier.workers place worker found))
      where
        at : WorkerDone log replica place → (length log ≤ applied_of replica.node.history) ⊎ (worker.entry ≡ None)
        at (inl all) = inl all
        at (inr none) = inr (sym (ap entry_of found) ∙ none.0)

    first : WorkerDone log replica 0 → length log ≤ applied_of replica.node.history
    first (inl all) = all
    first (inr none) = or (none_or replica.applier.workers entry_none)
      where
        or : (length log ≤ applied_of replica.node.history) ⊎ AllByRecursion (λ (worker : Worker). worker.entry ≡ None) replica.applier.workers → length log ≤ applied_of replica.node.history
        or (inl all) = all
        or (inr entries) = all_applied (applied_of replica.node.history) (length log) replica.applier.workers entries none.1

abbrev Finishes : WorldView → Actor → Type 0
Finishes world actor = IsFinished actor world

replica_finished : (workers : ℕ) (world : WorldView) (place : ℕ) (replica : ReplicaView) → 1 ≤ workers → slice_get world.replicas place ≡ Some replica → ReplicaIs workers world.source.history replica
    → EachThere (Finishes world) (suc place) replica → ReplicaHasFinished world.source.history replica
replica_finished workers world place replica some found is finished = record {
  locals = each_from (λ (session : SessionView). is_at_end session ≡ true) replica.locals
      (λ local session at. subst SessionIsFinished (got_before replica.locals local session at)
      (subst (LocalIsFinished (suc local)) there (finished.locals local (got_within replica.locals local session at))));
  applied = whole_log workers world.source.history replica some is.team
      (λ worker within. subst (WorkerDone world.source.history replica) (before worker) (subst (WorkerIsFinished (suc worker) world.source.history) there (finished.workers worker within)));
}
  where
    there : slice_get world.replicas (suc place - 1) ≡ Some replica
    there = got_before world.replicas place replica found

all_finished : (workers : ℕ) (world : WorldView) → 1 ≤ workers → WorldIs workers world → Each (Finishes world) world → AllHaveFinished world
all_finished workers world some is finished = record {
  sessions = each_from (λ (session : SessionView). is_at_end session ≡ true) world.sessions
      (λ place session at. subst SessionIsFinished (got_before world.sessions place session at) (finished.sessions place (got_within world.sessions place session at)));
  tool = finished.tool;
  replicas = each_from (ReplicaHasFinished world.source.history) world.replicas
      (λ place replica found. replica_finished workers world place replica some found (is.replicas place replica found) (finished.replicas place replica found));
}

each_of_all : (world : WorldView) → AllHaveFinished world → Each (Finishes world) world
each_of_all world all = record {
  sessions = λ place within.
      let at : IsAt world.sessions place = is_at world.sessions place within in
      subst SessionIsFinished (sym (got_before world.sessions place at.item at.found)) (each_at (λ (session : SessionView). is_at_end session ≡ true) world.sessions place at.item all.sessions at.found);
  tool = all.tool;
  replicas = λ place replica found.
      let has : ReplicaHasFinished world.source.history replica = each_at (ReplicaHasFinished world.source.history) world.replicas place replica all.replicas found in
      let there : slice_get world.replicas (suc place - 1) ≡ Some replica = got_before world.replicas place replica found in
      record {
        locals = λ local within.
            let at : IsAt replica.locals local = is_at replica.locals local within in
            subst (LocalIsFinished (suc local)) (sym there)
            (subst SessionIsFinished (sym (got_before replica.locals local at.item at.found)) (each_at (λ (session : SessionView). is_at_end session ≡ true) replica.locals local at.item has.locals at.found));
        workers = λ worker within. subst (WorkerIsFinished (suc worker) world.source.history) (sym there) (inl (omega (arith, has.applied)));
      };
}

pub runs_without_lines : RunsWithoutLines
runs_without_lines options workload last can clients ordered ends = (
  λ none. all_finished options.workers last can.options_fit.some_worker is
      (each_finished last told (from_order (HasNoReason last) last (no_lines last (order last) none))),
  λ all. lines last (order last) (in_order (HasNoReason last) last (each_silent last told (each_of_all last all))),
)
  where
    is : WorldIs options.workers last
    is = end_is options workload last can clients ordered ends

    told : Each (IsTold last) last
    told = each_told options.workers last is ends.still
