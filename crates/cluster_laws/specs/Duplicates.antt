-- What a line that is printed as a duplicate means, and that no statement that a session logged was one.
use Rattle.std.specs.Prelude.{ℕ, ◌≡◌, ◌≤◌, ◌<◌, ◌+◌, true, false, List, [], ◌∷◌, ◌++◌, length, take, Some}
use Rattle.std.specs.List.{AllByRecursion, slice_get}
use Rattle.ptc_statement.specs.declared.statements.Statement.{Statement}
use Rattle.ptc_statement.specs.declared.scripts.ScriptLine.{ScriptLine}
use Rattle.ptc_statement.specs.declared.scripts.ScriptStep.TheVariants.{Run}
use Rattle.statement_log.specs.declared.origins.Origin.TheVariants.{Session}
use Rattle.statement_log.specs.declared.entries.Entry.{Entry}
use Rattle.cluster_core.specs.Node.{NodeView}
use Rattle.cluster_core.specs.Sessions.{SessionView, is_duplicate}
use Rattle.cluster_core.specs.declared.refusals.Refusal.{Refusal}
use Rattle.cluster_laws.specs.OwnCalls.{calls_of, begun_in, logged_by}

-- a transaction of a session, with these statements
abbrev pub by_transaction : ℕ → List Statement → Entry
by_transaction session statements = record { origin = Session session; statements = statements }

-- the source after this many entries of its log, and within a session's transaction that did these
-- statements so far
abbrev pub within : ℕ → List Statement → ℕ → NodeView → NodeView
within session statements position source = record source { history = take position source.history ++ by_transaction session statements ∷ [] }

-- a refusal of a session: at its line's own turn, when the source's log had the refusal's position and
-- the session's entries of it were the own calls of the lines above, the line's statement was an INSERT
-- whose key was there, after the entries so far and the earlier statements of its transaction
pub record IsTrueDuplicate (source : NodeView) (session : ℕ) (script : List ScriptLine) (refused : List Refusal) (refusal : Refusal) : Type 0 where
  pub above : List ScriptLine
  pub line : ScriptLine
  pub below : List ScriptLine
  pub among : script ≡ above ++ line ∷ below
  pub numbered : line.line ≡ refusal.line
  pub statement : Statement
  pub step : line.step ≡ Run statement
  pub in_log : refusal.position ≤ length source.history
  pub at_its_turn : logged_by session (take refusal.position source.history) ≡ calls_of refused above
  pub duplicate : is_duplicate (within session (begun_in refused above) refusal.position source) statement ≡ true

-- the lines' numbers rise, so each stands once
abbrev pub RefusalsRise : List Refusal → Type 0
RefusalsRise [] = Unit {0}
RefusalsRise (refusal ∷ refusals) = AllByRecursion (λ (later : Refusal). refusal.line < later.line) refusals × RefusalsRise refusals

-- a session's refused lines: by rising number, and each refused truly
pub record RefusedTruly (source : NodeView) (session : ℕ) (view : SessionView) : Type 0 where
  pub rise : RefusalsRise view.refused
  pub duplicates : AllByRecursion (IsTrueDuplicate source session view.script view.refused) view.refused

abbrev pub EachRefusedTruly : NodeView → ℕ → List SessionView → Type 0
EachRefusedTruly source number [] = Unit {0}
EachRefusedTruly source number (view ∷ views) = RefusedTruly source number view × EachRefusedTruly source (number + 1) views

-- no statement that a session logged was a duplicate where it stands: after the entries before its own,
-- and the statements before it in its own
abbrev pub LoggedTruly : NodeView → Type 0
LoggedTruly source =
    (before session : ℕ) (earlier : List Statement) (statement : Statement) (later : List Statement)
    → slice_get source.history before ≡ Some (by_transaction session (earlier ++ statement ∷ later))
    → is_duplicate (within session earlier before source) statement ≡ false
