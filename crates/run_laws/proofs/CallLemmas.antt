-- A session at the end of its script has all its lines behind it, and so wrote the calls of all of them.
use Rattle.std.proofs.Common.{◌≡◌, ◌∙◌, ℕ, zero, suc, ◌≤◌, not, Bool, true, false, cond, List, [], ◌∷◌, take, length, None, refl, ap, sym, subst, arith}
use Rattle.std.specs.Prelude.{nat_le}
use Rattle.std.specs.List.{AllByRecursion}
use Rattle.std.proofs.lemmas.Bool.Decides.{nat_tests}
use Rattle.ptc_statement.specs.declared.scripts.ScriptLine.{ScriptLine}
use Rattle.statement_log.specs.declared.origins.Origin.{Origin}
use Rattle.statement_log.specs.declared.origins.Origin.TheVariants.{Session, Local}
use Rattle.lock_table.proofs.GapLemmas.{both_true}
use Rattle.node_model.specs.Node.{NodeView}
use Rattle.session.specs.Sessions.{SessionView, is_open, is_at_end}
use Rattle.session_laws.specs.OwnCalls.{calls_from, lines_behind, calls_of, WritesOwnCalls}
use Rattle.world_model.specs.Worlds.{WorldView, ReplicaView, begun}
use Rattle.world_model.specs.Rounds.{Reaches}
use Rattle.world_laws.specs.OwnCalls.{WroteOwnCalls}
use Rattle.world_laws.proofs.ListLemmas.{each_is, each_both, each_at}
use Rattle.world_laws.proofs.OwnRunLemmas.{sessions_wrote, locals_wrote}
use Rattle.run_laws.specs.Finished.{AreAtEnd, ReplicaHasFinished, AllHaveFinished}
use Rattle.run_laws.specs.Calls.{all_calls, WroteAllCalls, FinishedSessionsWroteAll}
use Rattle.run_laws.proofs.EndLemmas.{end_reached, runs_without_lines}

take_all : {A : Type 0} (xs : List A) (count : ℕ) → length xs ≤ count → take count xs ≡ xs
take_all [] zero within = refl
take_all [] (suc count) within = refl
take_all (x ∷ xs) zero within = absurd (omega (arith, within))
take_all {A} (x ∷ xs) (suc count) within = ap (λ (more : List A). x ∷ more) (take_all xs count (omega (arith, within)))

le_within : (a b : ℕ) → nat_le a b ≡ true → a ≤ b
le_within a b is = grind (arith, nat_tests)

not_opened : (b : Bool) → not b ≡ true → b ≡ false
not_opened true is = absurd (let q : false ≡ true = is in cc)
not_opened false is = refl

all_behind : (session : SessionView) → is_at_end session ≡ true → lines_behind session ≡ session.script
all_behind session at_end =
    let both = both_true (not (is_open session.stage)) (nat_le (length session.script) session.next) at_end in
    ap (λ (b : Bool). take (cond b session.first session.next) session.script) (not_opened (is_open session.stage) both.0)
    ∙ take_all session.script session.next (le_within (length session.script) session.next both.1)

calls_are_all : (session : SessionView) → is_at_end session ≡ true → calls_of session ≡ all_calls session
calls_are_all session at_end =
    ap (λ (lines : List ScriptLine). calls_from session.origin session.abandoned session.refused (record { number = 1; begun = None }) lines) (all_behind session at_end)

wrote_all : (origin : ℕ → Origin) (node : NodeView) (sessions : List SessionView) → WroteOwnCalls origin node sessions → AreAtEnd sessions → WroteAllCalls origin node sessions
wrote_all origin node sessions own at_end place session found =
    own place session found ∙ calls_are_all session (each_at (λ (one : SessionView). is_at_end one ≡ true) sessions place session at_end found)

pub finished_wrote_all : WritesOwnCalls → FinishedSessionsWroteAll
finished_wrote_all law options workload last can clients ordered ends none =
    let all : AllHaveFinished last = (runs_without_lines options workload last can clients ordered ends).0 none in
    let reaches : Reaches (begun options workload) last = end_reached (begun options workload) last ends in
    let sessions : WroteOwnCalls Session last.source last.sessions =
    subst (λ (world : WorldView). WroteOwnCalls Session world.source world.sessions) (sym reaches.reached) (sessions_wrote law options workload reaches.items can clients ordered) in
    let locals : AllByRecursion (λ (replica : ReplicaView). WroteOwnCalls Local replica.node replica.locals) last.replicas =
    subst (λ (world : WorldView). AllByRecursion (λ (replica : ReplicaView). WroteOwnCalls Local replica.node replica.locals) world.replicas) (sym reaches.reached)
    (locals_wrote law options workload reaches.items can clients ordered) in
    record {
      sessions = wrote_all Session last.source last.sessions sessions all.sessions;
      locals = each_is (λ (replica : ReplicaView). WroteOwnCalls Local replica.node replica.locals × ReplicaHasFinished last.source.history replica)
          (λ (replica : ReplicaView). WroteAllCalls Local replica.node replica.locals) last.replicas
          (λ replica both. wrote_all Local replica.node replica.locals both.0 both.1.locals)
          (each_both (λ (replica : ReplicaView). WroteOwnCalls Local replica.node replica.locals) (ReplicaHasFinished last.source.history) last.replicas locals all.replicas);
    }
