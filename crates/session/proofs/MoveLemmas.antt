-- The next move, by whether another's turn has rolled the transaction back.
use Rattle.std.proofs.Common.{◌≡◌, ◌∙◌, ℕ, List, Some, Bool, true, false, cond, ap, sym, subst}
use Rattle.std.specs.List.{AllByRecursion, slice_get}
use Rattle.row_types.specs.declared.table_schema.Schema.{Schema}
use Rattle.ptc_statement.specs.declared.scripts.ScriptLine.{ScriptLine}
use Rattle.node_model.specs.Node.{NodeView}
use Rattle.node_parts.specs.Views.{walk_of}
use Rattle.node_engine.proofs.EachLemmas.{each_at}
use Rattle.session.specs.declared.parts.Parts.{Parts}
use Rattle.session.specs.declared.stages.SessionTurn.TheVariants.{Victim}
use Rattle.session.specs.Sessions.{SessionView, RunFits, rolled_back}
use Rattle.session.specs.Moves.{Moved, is_victim, begun_move, next_move}
use Rattle.session.specs.SessionParts.{session_view, moved}

abbrev told : SessionView → NodeView → Moved
told session node = record { turn = Victim; session = session; node = node }

pub victim_moves : (retries : ℕ) (session : SessionView) (node : NodeView) → is_victim session node ≡ true
    → next_move retries session node ≡ record { turn = Victim; session = rolled_back retries session; node = node }
victim_moves retries session node e =
    ap (λ (b : Bool). cond b (told (rolled_back retries session) node) (begun_move retries (walk_of session.owner.0 node.txns) session node)) e

pub stands_moves : (retries : ℕ) (session : SessionView) (node : NodeView) → is_victim session node ≡ false
    → next_move retries session node ≡ begun_move retries (walk_of session.owner.0 node.txns) session node
stands_moves retries session node e =
    ap (λ (b : Bool). cond b (told (rolled_back retries session) node) (begun_move retries (walk_of session.owner.0 node.txns) session node)) e

pub victim_same : (retries : ℕ) (mid new : Parts) (session : SessionView) (node : NodeView) → session_view mid ≡ session → is_victim (session_view mid) node ≡ true
    → session_view new ≡ rolled_back retries (session_view mid) → moved Victim new node ≡ next_move retries session node
victim_same retries mid new session node same victim rolled =
    ap (λ (s : SessionView). told s node) (rolled ∙ ap (rolled_back retries) same)
    ∙ sym (victim_moves retries session node (ap (λ (s : SessionView). is_victim s node) (sym same) ∙ victim))

pub stands_same : (retries : ℕ) (mid : Parts) (session : SessionView) (node : NodeView) (result : Moved) → session_view mid ≡ session → is_victim (session_view mid) node ≡ false
    → result ≡ begun_move retries (walk_of mid.owner.0 node.txns) (session_view mid) node → result ≡ next_move retries session node
stands_same retries mid session node result same stands is =
    is ∙ ap (λ (s : SessionView). begun_move retries (walk_of s.owner.0 node.txns) s node) same
    ∙ sym (stands_moves retries session node (ap (λ (s : SessionView). is_victim s node) (sym same) ∙ stands))

pub fits_same : (schemas : List Schema) (mid : Parts) (session : SessionView) → session_view mid ≡ session
    → AllByRecursion (λ (line : ScriptLine). RunFits schemas line.step) session.script → AllByRecursion (λ (line : ScriptLine). RunFits schemas line.step) mid.script.lines
fits_same schemas mid session same fits = subst (λ (s : SessionView). AllByRecursion (λ (line : ScriptLine). RunFits schemas line.step) s.script) (sym same) fits

pub line_fits : (schemas : List Schema) (lines : List ScriptLine) (place : ℕ) (line : ScriptLine) → AllByRecursion (λ (line : ScriptLine). RunFits schemas line.step) lines
    → slice_get lines place ≡ Some line → RunFits schemas line.step
line_fits schemas lines place line fits found = each_at (λ (line : ScriptLine). RunFits schemas line.step) lines place line fits found
