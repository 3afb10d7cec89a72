-- A session's own calls: what its script's transactions leave to the log.
use Rattle.std.specs.Prelude.{ℕ, ◌≡◌, ◌+◌, ◌==◌, Bool, true, false, not, cond, List, [], ◌∷◌, ◌++◌, length, map, filter, Option, None, Some, unwrap_or}
use Rattle.std.specs.List.{list_any}
use Rattle.ptc_statement.specs.declared.statements.Statement.{Statement}
use Rattle.ptc_statement.specs.declared.scripts.ScriptLine.{ScriptLine}
use Rattle.ptc_statement.specs.declared.scripts.ScriptStep.{ScriptStep}
use Rattle.ptc_statement.specs.declared.scripts.ScriptStep.TheVariants.{Begin, Commit, Rollback, Run}
use Rattle.ptc_statement.specs.Effect.{is_logged}
use Rattle.statement_log.specs.declared.origins.Origin.{Origin}
use Rattle.statement_log.specs.declared.origins.Origin.TheVariants.{Session, Checksum, Sync, Local, Applied}
use Rattle.statement_log.specs.declared.entries.Entry.{Entry}
use Rattle.cluster_core.specs.Sessions.{SessionView}
use Rattle.cluster_core.specs.declared.refusals.Refusal.{Refusal}

-- whether a line is among those that were refused as duplicates
abbrev pub is_refused : List Refusal → ScriptLine → Bool
is_refused refused line = list_any (λ (refusal : Refusal). refusal.line == line.line) refused

-- the lines of a script that were not
abbrev pub accepted : List Refusal → List ScriptLine → List ScriptLine
accepted refused lines = filter (λ (line : ScriptLine). not (is_refused refused line)) lines

-- a transaction of a script: its statements, and whether it ends with ROLLBACK
pub record Transaction : Type 0 where
  pub statements : List Statement
  pub rolled_back : Bool

-- the transactions of a script up to a line: those that have ended, in order, and the statements so far
-- of the one that is begun there
pub record Transactions : Type 0 where
  pub ended : List Transaction
  pub begun : Option (List Statement)

abbrev pub no_transactions : Transactions
no_transactions = record { ended = []; begun = None }

-- a statement outside BEGIN and its end is a transaction of its own
abbrev pub with_statement : Statement → List Transaction → Option (List Statement) → Transactions
with_statement statement ended None = record { ended = ended ++ record { statements = statement ∷ []; rolled_back = false } ∷ []; begun = None }
with_statement statement ended (Some before) = record { ended = ended; begun = Some (before ++ statement ∷ []) }

abbrev pub with_end : Bool → Transactions → Transactions
with_end rolled_back so_far = record {
  ended = so_far.ended ++ record { statements = unwrap_or so_far.begun []; rolled_back = rolled_back } ∷ [];
  begun = None;
}

abbrev pub after_step : ScriptStep → Transactions → Transactions
after_step Begin so_far = record so_far { begun = Some [] }
after_step Commit so_far = with_end false so_far
after_step Rollback so_far = with_end true so_far
after_step (Run statement) so_far = with_statement statement so_far.ended so_far.begun

abbrev pub after_lines : List ScriptLine → Transactions → Transactions
after_lines [] so_far = so_far
after_lines (line ∷ lines) so_far = after_lines lines (after_step line.step so_far)

-- what the log keeps of a transaction: nothing where it was rolled back, and no locking read
abbrev pub logged_of : Transaction → List Statement
logged_of transaction = cond transaction.rolled_back [] (filter is_logged transaction.statements)

abbrev pub is_something : List Statement → Bool
is_something [] = false
is_something (statement ∷ statements) = true

-- the transactions of which something is left
abbrev pub all_logged_of : List Transaction → List (List Statement)
all_logged_of transactions = filter is_something (map logged_of transactions)

-- the own calls of a script's lines, some of which were refused as duplicates
abbrev pub calls_of : List Refusal → List ScriptLine → List (List Statement)
calls_of refused lines = all_logged_of (after_lines (accepted refused lines) no_transactions).ended

-- the statements so far of the transaction that is begun behind these lines
abbrev pub begun_in : List Refusal → List ScriptLine → List Statement
begun_in refused lines = unwrap_or (after_lines (accepted refused lines) no_transactions).begun []

abbrev pub is_by : ℕ → Origin → Bool
is_by session (Session other) = other == session
is_by session Checksum = false
is_by session (Sync replica table span) = false
is_by session (Local other) = false
is_by session (Applied number) = false

-- the statements of each entry that a session logged, in order
abbrev pub logged_by : ℕ → List Entry → List (List Statement)
logged_by session log = map (λ (entry : Entry). entry.statements) (filter (λ (entry : Entry). is_by session entry.origin) log)

-- own calls: a session is through its script, and its entries of the log are, in order and each
-- once, its script's transactions, without those that end with ROLLBACK, without locking reads and the
-- lines that are printed as duplicates, and without the transactions of which nothing is left
pub record OwnCalls (log : List Entry) (session : ℕ) (view : SessionView) : Type 0 where
  pub through : view.next ≡ length view.script
  pub calls : logged_by session log ≡ calls_of view.refused view.script

abbrev pub EachOwnCalls : List Entry → ℕ → List SessionView → Type 0
EachOwnCalls log number [] = Unit {0}
EachOwnCalls log number (view ∷ views) = OwnCalls log number view × EachOwnCalls log (number + 1) views
