-- A session: where it is in its script, and how it goes on there.
use Rattle.std.specs.Prelude.{ℕ, ◌+◌, nat_lt, nat_le, ◌&&◌, not, Bool, true, false, cond, List, [], ◌∷◌, ◌++◌, length, take, drop}
use Rattle.row_types.specs.declared.table_schema.Schema.{Schema}
use Rattle.ptc_statement.specs.declared.scripts.ScriptLine.{ScriptLine}
use Rattle.ptc_statement.specs.declared.scripts.ScriptStep.{ScriptStep}
use Rattle.ptc_statement.specs.declared.scripts.ScriptStep.TheVariants.{Begin, Commit, Rollback, Run}
use Rattle.ptc_statement.specs.Fits.{FitsSchemas}
use Rattle.statement_log.specs.declared.origins.Origin.{Origin}
use Rattle.lock_table.specs.declared.wants.Owner.{Owner}
use Rattle.session.specs.declared.stages.Stage.{Stage}
use Rattle.session.specs.declared.stages.Stage.TheVariants.{Between, Within, Alone}

pub record SessionView : Type 0 where
  pub owner : Owner
  pub origin : Origin
  pub script : List ScriptLine
  -- how many lines are behind it, now and when its transaction began
  pub next : ℕ
  pub first : ℕ
  pub stage : Stage
  -- whether the statement of the next line is in progress
  pub in_progress : Bool
  -- how often its transaction was rolled back and begun again
  pub rollbacks : ℕ
  -- how many transactions are behind it, and the numbers of those that were abandoned
  pub ended : ℕ
  pub abandoned : List ℕ
  -- the lines that were refused as duplicates, and how many of them stand in committed transactions
  pub refused : List ℕ
  pub settled : ℕ

abbrev pub new_session : Owner → Origin → List ScriptLine → SessionView
new_session owner origin script = record {
  owner = owner;
  origin = origin;
  script = script;
  next = 0;
  first = 0;
  stage = Between;
  in_progress = false;
  rollbacks = 0;
  ended = 0;
  abandoned = [];
  refused = [];
  settled = 0;
}

-- the statement that a step runs, if it runs one, fits
abbrev pub RunFits : List Schema → ScriptStep → Type 0
RunFits schemas Begin = Unit {0}
RunFits schemas Commit = Unit {0}
RunFits schemas Rollback = Unit {0}
RunFits schemas (Run statement) = FitsSchemas schemas statement

abbrev pub is_open : Stage → Bool
is_open Between = false
is_open Within = true
is_open Alone = true

-- no line and no transaction is left
abbrev pub is_at_end : SessionView → Bool
is_at_end session = not (is_open session.stage) && nat_le (length session.script) session.next

-- Behind the next line.

abbrev pub advanced : SessionView → SessionView
advanced session = record session { next = session.next + 1; in_progress = false }

-- a statement that was refused
abbrev pub with_refusal : ℕ → SessionView → SessionView
with_refusal line session = record session { next = session.next + 1; in_progress = false; refused = session.refused ++ line ∷ [] }

-- The begin and the end of a transaction.

abbrev pub entered : Stage → SessionView → SessionView
entered stage session = record session { stage = stage; first = session.next }

-- a lone statement is a transaction of its own
abbrev pub entered_alone : Stage → SessionView → SessionView
entered_alone Between session = entered Alone session
entered_alone Within session = session
entered_alone Alone session = session

abbrev pub left : SessionView → SessionView
left session = record session { stage = Between; in_progress = false; rollbacks = 0; ended = session.ended + 1 }

-- its duplicates are those of a committed transaction
abbrev pub settled_all : SessionView → SessionView
settled_all session = record session { settled = length session.refused }

-- its duplicates are dropped
abbrev pub forgotten : SessionView → SessionView
forgotten session = record session { refused = take session.settled session.refused }

-- A transaction that was rolled back, though not by its script.

abbrev pub ends_txn : ScriptStep → Bool
ends_txn Begin = false
ends_txn Commit = true
ends_txn Rollback = true
ends_txn (Run statement) = false

-- how many lines there are up to COMMIT or ROLLBACK, and with it
abbrev pub lines_to_end : List ScriptLine → ℕ
lines_to_end [] = 0
lines_to_end (line ∷ lines) = cond (ends_txn line.step) 1 (lines_to_end lines + 1)

-- how many lines the transaction has that these lines begin with
abbrev pub txn_lines : Stage → List ScriptLine → ℕ
txn_lines Between lines = 0
txn_lines Within lines = lines_to_end lines
txn_lines Alone lines = 1

-- back to its first line
abbrev pub begun_again : SessionView → SessionView
begun_again session = forgotten (record session { next = session.first; stage = Between; in_progress = false; rollbacks = session.rollbacks + 1 })

-- behind its last line
abbrev pub abandoning : SessionView → SessionView
abandoning session = left (forgotten (record session {
  next = session.first + txn_lines session.stage (drop session.first session.script);
  abandoned = session.abandoned ++ (session.ended + 1) ∷ [];
}))

-- a transaction is begun again so many times at most
abbrev pub rolled_back : ℕ → SessionView → SessionView
rolled_back retries session = cond (nat_lt session.rollbacks retries) (begun_again session) (abandoning session)
