-- Where a session stands, by its stage.
use Rattle.std.proofs.Common.{◌≡◌, ◌∙◌, ℕ, ◌+◌, ◌<◌, true, false, List, [], ◌∷◌, ◌++◌, length, Option, None, Some, refl, ap, sym, length-append, arith}
use Rattle.std.specs.Prelude.{option_and_then}
use Rattle.ptc_statement.specs.declared.scripts.ScriptLine.{ScriptLine}
use Rattle.node_model.specs.declared.txns.Walk.{Walk}
use Rattle.node_model.specs.declared.txns.Txn.{Txn}
use Rattle.node_model.specs.Txns.{txn_of}
use Rattle.node_model.specs.Node.{NodeView}
use Rattle.session.specs.declared.stages.Stage.{Stage}
use Rattle.session.specs.declared.stages.Stage.TheVariants.{Between, Within, Alone}
use Rattle.session.specs.Sessions.{SessionView, new_session}
use Rattle.session_laws.specs.OwnCalls.{own_entries, after_events}
use Rattle.session_laws.specs.Standing.{Stands, SessionsStand}
use Rattle.session_laws.proofs.OwnLemmas.{Staged}
use Rattle.session_laws.proofs.LeaveLemmas.{Ground, Fine}
use Rattle.session_laws.proofs.TurnLemmas.{events_fine, at_first}

none_between : (stage : Stage) (behind first : ℕ) (refused more : List ℕ) (mid rest : List ScriptLine) (txn : Option Txn) → Staged stage behind first refused more mid rest txn → stage ≡ Between → txn ≡ None
none_between Between behind first refused more [] rest txn s is = s.0
none_between Between behind first refused more (line ∷ mid) rest txn s is = absurd s
none_between Within behind first refused more mid rest txn s is = absurd (let q : Within ≡ Between = is in cc)
none_between Alone behind first refused more mid rest txn s is = absurd (let q : Alone ≡ Between = is in cc)

line_within : (stage : Stage) (behind first : ℕ) (refused more : List ℕ) (mid rest : List ScriptLine) (txn : Option Txn) → Staged stage behind first refused more mid rest txn → stage ≡ Within → 0 < length rest
line_within Between behind first refused more mid rest txn s is = absurd (let q : Between ≡ Within = is in cc)
line_within Within behind first refused more [] rest txn s is = absurd s
line_within Within behind first refused more (line ∷ mid) [] txn s is = absurd (let q : false ≡ true = s.3 in cc)
line_within Within behind first refused more (line ∷ mid) (next ∷ rest) txn s is = omega arith
line_within Alone behind first refused more mid rest txn s is = absurd (let q : Alone ≡ Within = is in cc)

abbrev walk_in : Option Txn → Option Walk
walk_in = option_and_then (λ (t : Txn). t.current)

not_walking : (txn : Option Txn) (walk : Walk) → txn ≡ None → walk_in txn ≡ Some walk → ⊥
not_walking txn walk none walks = let q : None ≡ Some walk = sym (ap walk_in none) ∙ walks in cc

line_walking : (stage : Stage) (behind first : ℕ) (refused more : List ℕ) (mid rest : List ScriptLine) (txn : Option Txn) (walk : Walk) → Staged stage behind first refused more mid rest txn
    → walk_in txn ≡ Some walk → 0 < length rest
line_walking Between behind first refused more [] rest txn walk s walks = absurd (not_walking txn walk s.0 walks)
line_walking Between behind first refused more (line ∷ mid) rest txn walk s walks = absurd s
line_walking Within behind first refused more [] rest txn walk s walks = absurd s
line_walking Within behind first refused more (line ∷ mid) rest txn walk s walks = line_within Within behind first refused more (line ∷ mid) rest txn s refl
line_walking Alone behind first refused more [] [] txn walk s walks = absurd s
line_walking Alone behind first refused more [] (line ∷ rest) txn walk s walks = omega arith
line_walking Alone behind first refused more (line ∷ []) rest None walk s walks = absurd (not_walking None walk refl walks)
line_walking Alone behind first refused more (line ∷ []) rest (Some txn) walk s walks = absurd (let q : None ≡ Some walk = sym s.2.1 ∙ walks in cc)
line_walking Alone behind first refused more (line ∷ other ∷ mid) rest txn walk s walks = absurd s

stands : (g : Ground) (session : SessionView) (node : NodeView) → Fine g session node → Stands session node
stands g session node f = record {
  between = λ is. none_between session.stage (length f.behind) session.first (f.before ++ f.more) f.more f.mid f.rest txn f.is.staged is;
  within = λ is. there (line_within session.stage (length f.behind) session.first (f.before ++ f.more) f.more f.mid f.rest txn f.is.staged is);
  walking = λ walk walks. there (line_walking session.stage (length f.behind) session.first (f.before ++ f.more) f.more f.mid f.rest txn walk f.is.staged walks);
}
  where
    txn : Option Txn
    txn = txn_of session.owner.0 node.txns

    there : 0 < length f.rest → session.next < length session.script
    there some =
        let all : length session.script ≡ length f.behind + length (f.mid ++ f.rest) = ap length (f.is.script_is ∙ f.is.split) ∙ length-append f.behind (f.mid ++ f.rest) in
        let mid : length (f.mid ++ f.rest) ≡ length f.mid + length f.rest = length-append f.mid f.rest in
        let next : session.next ≡ length f.behind + length f.mid = f.is.next in
        omega (arith, all, mid, next, some)

pub sessions_stand : SessionsStand
sessions_stand retries owner origin script node events own whole rise fits none others =
    let g : Ground = record { owner = owner; origin = origin; script = script; schemas = node.schemas; start = own_entries origin node.history; own = own; rise = rise; fits = fits } in
    let last = after_events retries events (record { session = new_session owner origin script; node = node }) in
    stands g last.session last.node (events_fine g retries events (new_session owner origin script) node others (at_first g node refl refl whole none))
