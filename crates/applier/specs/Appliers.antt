-- An applier: which entries of the source's log its workers have, which of their statements come next, and which
-- entry is taken and committed next.
use Rattle.std.specs.Prelude.{ℕ, zero, suc, ◌+◌, ◌-◌, ◌==◌, ◌||◌, nat_lt, Bool, false, cond, List, [], ◌∷◌, ◌++◌, Option, None, Some, option_and_then}
use Rattle.std.specs.List.{slice_get, AllByRecursion}
use Rattle.row_types.specs.declared.table_schema.Schema.{Schema}
use Rattle.ptc_statement.specs.declared.statements.Statement.{Statement}
use Rattle.ptc_statement.specs.Fits.{FitsSchemas}
use Rattle.statement_log.specs.declared.entries.Entry.{Entry}
use Rattle.statement_log.specs.Positions.{entry_at}
use Rattle.applier.specs.declared.workers.Worker.{Worker}

pub record ApplierView : Type 0 where
  pub replica : ℕ
  pub stopped : Bool
  -- worker 1, worker 2 and so on
  pub workers : List Worker

-- worker 1 of a replica holds locks as owner 201, worker 2 as owner 202 and so on
abbrev pub new_worker : ℕ → Worker
new_worker number = record { owner = record { 0 = 200 + number }; entry = None; started = 0 }

abbrev pub new_workers : ℕ → List Worker
new_workers zero = []
new_workers (suc number) = new_workers number ++ new_worker (suc number) ∷ []

abbrev pub new_applier : ℕ → ℕ → ApplierView
new_applier replica workers = record { replica = replica; stopped = false; workers = new_workers workers }

-- the statements of a log fit
abbrev pub LogFits : List Schema → List Entry → Type 0
LogFits schemas log = AllByRecursion (λ (entry : Entry). AllByRecursion (FitsSchemas schemas) entry.statements) log

-- the statement of an entry behind its first ones, as many as were started
abbrev pub statement_behind : ℕ → ℕ → List Entry → Option Statement
statement_behind started number log = option_and_then (λ (entry : Entry). slice_get entry.statements started) (entry_at number log)

abbrev pub next_statement : ℕ → Option ℕ → List Entry → Option Statement
next_statement started None log = None
next_statement started (Some number) log = statement_behind started number log

abbrev pub is_number : ℕ → Option ℕ → Bool
is_number number None = false
is_number number (Some entry) = entry == number

-- whether a worker has the entry of this number
abbrev pub is_taken : ℕ → List Worker → Bool
is_taken number [] = false
is_taken number (worker ∷ workers) = is_number number worker.entry || is_taken number workers

-- of so many entries, from this number on, the first that no worker has
abbrev pub first_left : ℕ → ℕ → List Worker → Option ℕ
first_left zero number workers = None
first_left (suc left) number workers = cond (is_taken number workers) (first_left left (number + 1) workers) (Some number)

-- the first entry behind those that were applied that no worker has, if the log has one
abbrev pub entry_left : ℕ → ℕ → List Worker → Option ℕ
entry_left applied end workers = first_left (end - applied) (applied + 1) workers

-- the entry behind those that were applied, where it is an earlier one than this
abbrev pub earlier_open : ℕ → ℕ → Option ℕ
earlier_open applied number = cond (nat_lt (applied + 1) number) (Some (applied + 1)) None

-- the worker has an entry, and has started so many of its statements
abbrev pub with_entry : ℕ → ℕ → Worker → Worker
with_entry number started worker = record worker { entry = Some number; started = started }

abbrev pub without_entry : Worker → Worker
without_entry worker = record worker { entry = None; started = 0 }

-- the entry of a worker, if there is such a worker
abbrev pub entry_of : Option Worker → Option ℕ
entry_of None = None
entry_of (Some worker) = worker.entry
