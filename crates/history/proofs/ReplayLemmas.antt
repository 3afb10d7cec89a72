-- Replays of logs and histories that grow by an entry.
use Rattle.std.proofs.Common.{◌≡◌, ℕ, zero, suc, ◌+◌, ◌<◌, ◌≤◌, List, [], ◌∷◌, ◌++◌, length, take, Some, slice_get, None, refl, ap, ◌∙◌, subst, cond, arith, length-take-le, ◌==◌, Bool, true, false}
use Rattle.std.specs.Prelude.{slice_set}
use Rattle.std.specs.List.{AllByRecursion}
use Rattle.std.specs.Option.{option_map_or}
use Rattle.std.proofs.lemmas.List.{set-get_or, take_more}
use Rattle.std.proofs.lemmas.Bool.Decides.{nat_tests, Decides-eqb}
use Rattle.std.proofs.lemmas.Option.{get_or_from_slice_get, slice_get_within}
use Rattle.row_types.specs.declared.table_schema.Schema.{Schema}
use Rattle.row_types.specs.KeyRows.{TableRows}
use Rattle.row_types.specs.declared.edges.Span.{Span}
use Rattle.row_types.specs.declared.digests.DigestKind.{DigestKind}
use Rattle.ptc_statement.specs.declared.statements.Statement.{Statement}
use Rattle.ptc_statement.specs.declared.statements.Statement.TheVariants.{Insert, Replace, Delete, Update, LockRead, Check, SetMaster, ClearChecks}
use Rattle.ptc_statement.specs.Fits.{IsClients}
use Rattle.statement_log.specs.declared.origins.Origin.{Origin}
use Rattle.statement_log.specs.declared.origins.Origin.TheVariants.{Session, Checksum, Sync, Local, Applied}
use Rattle.statement_log.specs.declared.entries.Entry.{Entry}
use Rattle.history.specs.Replay.{NodeLog, Replayed, table_rows, tables_after, checks_after, after_statement, after_entry, replay_from, fold, position_of, applied_from, applied_of, after_statements, applying, source_at, up_to_applied, applies, IsNextOf, FollowsFrom, Follows}
use Rattle.history.specs.Headline.{IsTrueMaster, MastersAreTrueFrom, MastersAreTrue, behind_applied}

-- a CHECKSUM leaves every table as it is
pub tables_after-check : (schemas : List Schema) (table chunk : ℕ) (span : Span) (kind : DigestKind) (tables : TableRows)
    → tables_after schemas (Check table chunk span kind) tables ≡ tables
tables_after-check schemas table chunk span kind tables =
    elim (slice_get schemas table) as (λ o. option_map_or (λ (schema : Schema). slice_set tables table (table_rows tables table)) o tables ≡ tables)
    [ None ↦ refl | Some schema ↦ set-get_or tables table [] ]

-- the replay of one entry more
replay_from_more : (schemas : List Schema) (number : ℕ) (entries : List Entry) (entry : Entry) (here : Replayed)
    → replay_from schemas number (entries ++ entry ∷ []) here ≡ after_entry schemas (length entries + number) entry (replay_from schemas number entries here)
replay_from_more schemas number [] entry here = ap (λ n. after_entry schemas n entry here) (omega arith)
replay_from_more schemas number (first ∷ entries) entry here =
    replay_from_more schemas (number + 1) entries entry (after_entry schemas number first here)
    ∙ ap (λ n. after_entry schemas n entry (replay_from schemas (number + 1) entries (after_entry schemas number first here))) (omega arith)

pub fold_more : (schemas : List Schema) (start : TableRows) (entries : List Entry) (entry : Entry)
    → fold schemas start (entries ++ entry ∷ []) ≡ after_entry schemas (length entries + 1) entry (fold schemas start entries)
fold_more schemas start entries entry = replay_from_more schemas 1 entries entry (record { tables = start; checks = [] })

-- what holds of the masters of a log holds of it with one true entry more
masters_from_more : (schemas : List Schema) (number : ℕ) (log : List Entry) (entry : Entry) (here : Replayed)
    → MastersAreTrueFrom schemas number log here
    → AllByRecursion (λ (statement : Statement). IsTrueMaster statement (replay_from schemas number log here)) entry.statements
    → MastersAreTrueFrom schemas number (log ++ entry ∷ []) here
masters_from_more schemas number [] entry here before new = (new, tt)
masters_from_more schemas number (first ∷ log) entry here before new =
    (before.0, masters_from_more schemas (number + 1) log entry (after_entry schemas number first here) before.1 new)

pub masters_more : (schemas : List Schema) (start : TableRows) (log : List Entry) (entry : Entry)
    → MastersAreTrue schemas (record { start = start; entries = log })
    → AllByRecursion (λ (statement : Statement). IsTrueMaster statement (fold schemas start log)) entry.statements
    → MastersAreTrue schemas (record { start = start; entries = log ++ entry ∷ [] })
masters_more schemas start log entry before new = masters_from_more schemas 1 log entry (record { tables = start; checks = [] }) before new

-- the next item of a history that follows the log
follows_from_more : (log : List Entry) (done : ℕ) (history : List Entry) (item : Entry)
    → FollowsFrom log done history
    → IsNextOf log (applied_from done history) item.origin item.statements
    → FollowsFrom log done (history ++ item ∷ [])
follows_from_more log done [] item before next = (next, tt)
follows_from_more log done (first ∷ history) item before next =
    (before.0, follows_from_more log (position_of done first.origin) history item before.1 next)

-- the next entry is applied
pub follows_more : (log history : List Entry) (entry : Entry)
    → Follows log history
    → slice_get log (applied_of history) ≡ Some entry
    → Follows log (history ++ applying (applied_of history + 1) entry ∷ [])
follows_more log history entry before e =
    follows_from_more log 0 history (applying (applied_of history + 1) entry) before (entry, e, refl, refl)

-- a prefix of a history that follows the log, and the item behind it
pub follows_front : (log : List Entry) (done : ℕ) (front rest : List Entry) → FollowsFrom log done (front ++ rest) → FollowsFrom log done front
follows_front log done [] rest h = tt
follows_front log done (item ∷ front) rest h = (h.0, follows_front log (position_of done item.origin) front rest h.1)

pub follows_behind : (log : List Entry) (done : ℕ) (front rest : List Entry) → FollowsFrom log done (front ++ rest) → FollowsFrom log (applied_from done front) rest
follows_behind log done [] rest h = h
follows_behind log done (item ∷ front) rest h = follows_behind log (position_of done item.origin) front rest h.1

-- an entry of a list stands at its place in a longer one
pub slice_get-append : {A : Type 0} → (xs ys : List A) (i : ℕ) (x : A) → slice_get xs i ≡ Some x → slice_get (xs ++ ys) i ≡ Some x
slice_get-append [] ys i x h = cc
slice_get-append (y ∷ xs) ys zero x h = h
slice_get-append (y ∷ xs) ys (suc i) x h = slice_get-append xs ys i x h

next_longer : (log more : List Entry) (done : ℕ) (origin : Origin) (statements : List Statement)
    → IsNextOf log done origin statements → IsNextOf (log ++ more) done origin statements
next_longer log more done (Session session) statements h = h
next_longer log more done Checksum statements h = h
next_longer log more done (Sync replica table span) statements h = h
next_longer log more done (Local session) statements h = h
next_longer log more done (Applied number) statements h = (h.0, slice_get-append log more done h.0 h.1, h.2, h.3)

follows_from_longer_log : (log more : List Entry) (done : ℕ) (history : List Entry) → FollowsFrom log done history → FollowsFrom (log ++ more) done history
follows_from_longer_log log more done [] h = tt
follows_from_longer_log log more done (item ∷ history) h =
    (next_longer log more done item.origin item.statements h.0, follows_from_longer_log log more (position_of done item.origin) history h.1)

pub follows_longer_log : (log more history : List Entry) → Follows log history → Follows (log ++ more) history
follows_longer_log log more history = follows_from_longer_log log more 0 history

-- the number applied never falls, and stays within the log
next_grows : (log : List Entry) (done : ℕ) (origin : Origin) (statements : List Statement)
    → IsNextOf log done origin statements → done ≤ position_of done origin
next_grows log done (Session session) statements h = absurd h
next_grows log done Checksum statements h = absurd h
next_grows log done (Sync replica table span) statements h = absurd h
next_grows log done (Local session) statements h = omega arith
next_grows log done (Applied number) statements h = omega (arith, h.2)

pub follows_grows : (log : List Entry) (done : ℕ) (history : List Entry) → FollowsFrom log done history → done ≤ applied_from done history
follows_grows log done [] h = omega arith
follows_grows log done (item ∷ history) h =
    let one = next_grows log done item.origin item.statements h.0 in
    let rest = follows_grows log (position_of done item.origin) history h.1 in
    omega (arith, one, rest)

next_within : (log : List Entry) (done : ℕ) (origin : Origin) (statements : List Statement)
    → IsNextOf log done origin statements → done ≤ length log → position_of done origin ≤ length log
next_within log done (Session session) statements h le = absurd h
next_within log done Checksum statements h le = absurd h
next_within log done (Sync replica table span) statements h le = absurd h
next_within log done (Local session) statements h le = le
next_within log done (Applied number) statements h le = omega (arith, h.2, slice_get_within log done h.0 h.1)

follows_from_within : (log : List Entry) (done : ℕ) (history : List Entry) → FollowsFrom log done history → done ≤ length log → applied_from done history ≤ length log
follows_from_within log done [] h le = le
follows_from_within log done (item ∷ history) h le =
    follows_from_within log (position_of done item.origin) history h.1 (next_within log done item.origin item.statements h.0 le)

pub follows_within : (log history : List Entry) → Follows log history → applied_of history ≤ length log
follows_within log history h = follows_from_within log 0 history h (omega arith)

applied_from-more : (done : ℕ) (history : List Entry) (item : Entry) → applied_from done (history ++ item ∷ []) ≡ position_of (applied_from done history) item.origin
applied_from-more done [] item = refl
applied_from-more done (first ∷ history) item = applied_from-more (position_of done first.origin) history item

pub applied_of-more : (history : List Entry) (item : Entry) → applied_of (history ++ item ∷ []) ≡ position_of (applied_of history) item.origin
applied_of-more = applied_from-more 0

-- the first entries of a list, with the next
pub take_one_more : {A : Type 0} → (xs : List A) (k : ℕ) (x : A) → slice_get xs k ≡ Some x → take (k + 1) xs ≡ take k xs ++ x ∷ []
take_one_more xs k x e = take_more xs k x (slice_get_within xs k x e) ∙ ap (λ y. take k xs ++ y ∷ []) (get_or_from_slice_get xs k x x e)

pub fold-take_more : (schemas : List Schema) (start : TableRows) (entries : List Entry) (k : ℕ) (entry : Entry)
    → slice_get entries k ≡ Some entry
    → fold schemas start (take (k + 1) entries) ≡ after_entry schemas (k + 1) entry (fold schemas start (take k entries))
fold-take_more schemas start entries k entry e =
    let within = slice_get_within entries k entry e in
    let n : length (take k entries) ≡ k = length-take-le k entries (omega arith) in
    ap (fold schemas start) (take_one_more entries k entry e)
    ∙ fold_more schemas start (take k entries) entry
    ∙ ap (λ m. after_entry schemas (m + 1) entry (fold schemas start (take k entries))) n

-- the masters of the entry at a place of a log are true there
masters_from_at : (schemas : List Schema) (number : ℕ) (log : List Entry) (here : Replayed) (k : ℕ) (entry : Entry)
    → MastersAreTrueFrom schemas number log here
    → slice_get log k ≡ Some entry
    → AllByRecursion (λ (statement : Statement). IsTrueMaster statement (replay_from schemas number (take k log) here)) entry.statements
masters_from_at schemas number [] here k entry h e = absurd (cc)
masters_from_at schemas number (first ∷ log) here zero entry h e =
    let same : first ≡ entry = cc in
    subst (λ (x : Entry). AllByRecursion (λ (statement : Statement). IsTrueMaster statement here) x.statements) same h.0
masters_from_at schemas number (first ∷ log) here (suc k) entry h e =
    masters_from_at schemas (number + 1) log (after_entry schemas number first here) k entry h.1 e

pub masters_at : (schemas : List Schema) (source : NodeLog) (k : ℕ) (entry : Entry)
    → MastersAreTrue schemas source
    → slice_get source.entries k ≡ Some entry
    → AllByRecursion (λ (statement : Statement). IsTrueMaster statement (source_at schemas source k)) entry.statements
masters_at schemas source k entry h e = masters_from_at schemas 1 source.entries (record { tables = source.start; checks = [] }) k entry h e

-- an item does not apply an entry that comes later
applies_earlier : (log : List Entry) (done position : ℕ) (origin : Origin) (statements : List Statement)
    → IsNextOf log done origin statements → position_of done origin < position → applies position origin ≡ false
applies_earlier log done position (Session session) statements h lt = refl
applies_earlier log done position Checksum statements h lt = refl
applies_earlier log done position (Sync replica table span) statements h lt = refl
applies_earlier log done position (Local session) statements h lt = refl
applies_earlier log done position (Applied number) statements h lt = grind (arith, nat_tests)

same_number : (n : ℕ) → (n == n) ≡ true
same_number n = grind (arith, nat_tests)

-- of a history that follows the log, the items up to one that applies an entry
pub up_to_front : (log : List Entry) (done : ℕ) (front rest : List Entry) (item : Entry)
    → FollowsFrom log done front
    → item.origin ≡ Applied (applied_from done front + 1)
    → up_to_applied (applied_from done front + 1) (front ++ item ∷ rest) ≡ front ++ item ∷ []
up_to_front log done [] rest item h e =
    ap (λ (b : Bool). cond b (item ∷ []) (item ∷ up_to_applied (done + 1) rest)) (ap (applies (done + 1)) e ∙ same_number (done + 1))
up_to_front log done (first ∷ front) rest item h e =
    let next : ℕ = position_of done first.origin in
    let position : ℕ = applied_from next front + 1 in
    let grown = follows_grows log next front h.1 in
    let later : next < position = omega (arith, grown) in
    ap (λ (b : Bool). cond b (first ∷ []) (first ∷ up_to_applied position (front ++ item ∷ rest))) (applies_earlier log done position first.origin first.statements h.0 later)
    ∙ ap (λ (items : List Entry). first ∷ items) (up_to_front log next front rest item h.1 e)

-- the items up to the one that applies an entry, and those behind it
pub up_to_behind : (position : ℕ) (items : List Entry) → up_to_applied position items ++ behind_applied position items ≡ items
up_to_behind position [] = refl
up_to_behind position (item ∷ items) =
    elim (applies position item.origin) as (λ b. cond b (item ∷ []) (item ∷ up_to_applied position items) ++ cond b items (behind_applied position items) ≡ item ∷ items)
    [ true ↦ refl | false ↦ ap (λ (xs : List Entry). item ∷ xs) (up_to_behind position items) ]

-- up to the item that applies an entry as many are applied as its number
up_to_number : (log : List Entry) (done position : ℕ) (origin : Origin) (statements : List Statement) (rest : ℕ → ℕ)
    → IsNextOf log done origin statements
    → done < position
    → (position_of done origin < position → rest (position_of done origin) ≡ position)
    → cond (applies position origin) (position_of done origin) (rest (position_of done origin)) ≡ position
up_to_number log done position (Session session) statements rest h lt later = absurd h
up_to_number log done position Checksum statements rest h lt later = absurd h
up_to_number log done position (Sync replica table span) statements rest h lt later = absurd h
up_to_number log done position (Local session) statements rest h lt later = later lt
up_to_number log done position (Applied number) statements rest h lt later =
    elim (number == position) as (λ (b : Bool). (number == position) ≡ b → cond b number (rest number) ≡ position)
    [ true ↦ λ is. (Decides-eqb number position).0 is | false ↦ λ is. later (grind (arith, nat_tests)) ] refl

pub up_to_applied_of : (log : List Entry) (done position : ℕ) (items : List Entry)
    → FollowsFrom log done items
    → done < position
    → position ≤ applied_from done items
    → applied_from done (up_to_applied position items) ≡ position
up_to_applied_of log done position [] h lt le = absurd (omega (arith, lt, le))
up_to_applied_of log done position (item ∷ items) h lt le =
    (elim (applies position item.origin) as (λ (b : Bool). applied_from done (cond b (item ∷ []) (item ∷ up_to_applied position items)) ≡ cond b (position_of done item.origin) (applied_from (position_of done item.origin) (up_to_applied position items)))
    [ true ↦ refl | false ↦ refl ])
    ∙ up_to_number log done position item.origin item.statements (λ n. applied_from n (up_to_applied position items)) h.0 lt
    (λ later. up_to_applied_of log (position_of done item.origin) position items h.1 later le)

pub applied_from-append : (done : ℕ) (front rest : List Entry) → applied_from done (front ++ rest) ≡ applied_from (applied_from done front) rest
applied_from-append done [] rest = refl
applied_from-append done (item ∷ front) rest = applied_from-append (position_of done item.origin) front rest

pub replay_from-append : (schemas : List Schema) (number : ℕ) (front rest : List Entry) (here : Replayed)
    → replay_from schemas number (front ++ rest) here ≡ replay_from schemas (length front + number) rest (replay_from schemas number front here)
replay_from-append schemas number [] rest here = ap (λ n. replay_from schemas n rest here) {x = number} {y = 0 + number} (omega arith)
replay_from-append schemas number (item ∷ front) rest here =
    replay_from-append schemas (number + 1) front rest (after_entry schemas number item here)
    ∙ ap (λ n. replay_from schemas n rest (replay_from schemas (number + 1) front (after_entry schemas number item here))) (omega arith)

-- clients' statements leave the check rows
client_keeps_checks : (schemas : List Schema) (position : ℕ) (statement : Statement) (here : Replayed)
    → IsClients statement → checks_after schemas position statement here ≡ here.checks
client_keeps_checks schemas position (Insert table row) here h = refl
client_keeps_checks schemas position (Replace table row) here h = refl
client_keeps_checks schemas position (Delete table where_true) here h = refl
client_keeps_checks schemas position (Update table sets where_true) here h = refl
client_keeps_checks schemas position (LockRead table mode span where_true) here h = refl
client_keeps_checks schemas position (Check table chunk span kind) here h = absurd h
client_keeps_checks schemas position (SetMaster table chunk kind master) here h = absurd h
client_keeps_checks schemas position (ClearChecks table) here h = absurd h

pub clients_keep_checks : (schemas : List Schema) (position : ℕ) (statements : List Statement) (here : Replayed)
    → AllByRecursion IsClients statements → (after_statements schemas position statements here).checks ≡ here.checks
clients_keep_checks schemas position [] here h = refl
clients_keep_checks schemas position (statement ∷ statements) here h =
    clients_keep_checks schemas position statements (after_statement schemas position statement here) h.1
    ∙ client_keeps_checks schemas position statement here h.0
