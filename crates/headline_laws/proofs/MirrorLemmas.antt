-- The check rows of a replica that has applied the whole log are of the source's chunks, and of the same spans.
use Rattle.std.proofs.Common.{◌≡◌, ◌∙◌, ℕ, ◌+◌, ◌==◌, ◌&&◌, Bool, true, false, cond, List, [], ◌∷◌, ◌++◌, length, take, append-nil, append_assoc, Option, None, Some, option_map, refl, ap, sym, subst, subst₂}
use Rattle.std.proofs.Math.Seq.{take-length}
use Rattle.row_types.specs.KeyRows.{TableRows}
use Rattle.row_types.specs.declared.digests.Digest.{Digest}
use Rattle.row_types.specs.declared.edges.Span.{Span}
use Rattle.row_types.specs.declared.table_schema.Schema.{Schema}
use Rattle.ptc_statement.specs.declared.statements.Statement.{Statement}
use Rattle.ptc_statement.specs.declared.statements.Statement.TheVariants.{Insert, Replace, Delete, Update, LockRead, Check as CheckStatement, SetMaster, ClearChecks}
use Rattle.statement_log.specs.declared.origins.Origin.{Origin}
use Rattle.statement_log.specs.declared.origins.Origin.TheVariants.{Session, Checksum, Sync, Local, Applied}
use Rattle.statement_log.specs.declared.entries.Entry.{Entry}
use Rattle.checksum_table.specs.declared.check_rows.CheckRow.{CheckRow}
use Rattle.checksum_table.specs.declared.check_rows.CheckEntry.{CheckEntry}
use Rattle.checksum_table.specs.Checks.{check_at, mastered}
use Rattle.checksum_table.proofs.CheckLemmas.{check_at-with_check, check_at-with_master, check_at-without_table}
use Rattle.history.specs.Replay.{Replayed, checks_after, after_statement, after_statements, fold, position_of, applied_from, applied_of, IsNextOf, FollowsFrom, Follows}
use Rattle.history.proofs.ReplayLemmas.{fold_more, fold-take_more, applied_of-more, clients_keep_checks}

-- what a check row says that is the same on each node: its span, and the published checksum
pub record Told : Type 0 where
  pub span : Span
  pub master : Option Digest

abbrev pub told : CheckRow → Told
told row = record { span = row.span; master = row.master }

-- whether a chunk has a row, and what it says that is the same on each node
abbrev pub told_in : Option CheckRow → Option Told
told_in found = option_map told found

-- two lists have rows of the same chunks, and the same span and published checksum in each
abbrev pub SameMasters : List CheckEntry → List CheckEntry → Type 0
SameMasters a b = (table chunk : ℕ) → told_in (check_at table chunk a) ≡ told_in (check_at table chunk b)

same_checked : (here : Bool) (new_a new_b : CheckRow) (a b : Option CheckRow)
    → told new_a ≡ told new_b
    → told_in a ≡ told_in b
    → told_in (cond here (Some new_a) a) ≡ told_in (cond here (Some new_b) b)
same_checked true new_a new_b a b new before = ap Some new
same_checked false new_a new_b a b new before = before

same_published : (master : Digest) (a b : Option CheckRow)
    → told_in a ≡ told_in b
    → told_in (option_map (λ r. mastered r master) a) ≡ told_in (option_map (λ r. mastered r master) b)
same_published master None None before = refl
same_published master None (Some b) before = absurd (cc)
same_published master (Some a) None before = absurd (cc)
same_published master (Some a) (Some b) before = ap (option_map (λ (t : Told). record t { master = Some master })) before

same_mastered : (here : Bool) (master : Digest) (a b : Option CheckRow)
    → told_in a ≡ told_in b
    → told_in (cond here (option_map (λ r. mastered r master) a) a) ≡ told_in (cond here (option_map (λ r. mastered r master) b) b)
same_mastered true master a b before = same_published master a b before
same_mastered false master a b before = before

same_cleared : (here : Bool) (a b : Option CheckRow)
    → told_in a ≡ told_in b
    → told_in (cond here None a) ≡ told_in (cond here None b)
same_cleared true a b before = refl
same_cleared false a b before = before

same_statement : (schemas : List Schema) (m n : ℕ) (statement : Statement) (a b : Replayed)
    → SameMasters a.checks b.checks → SameMasters (checks_after schemas m statement a) (checks_after schemas n statement b)
same_statement schemas m n (Insert t row) a b before table chunk = before table chunk
same_statement schemas m n (Replace t row) a b before table chunk = before table chunk
same_statement schemas m n (Delete t where_true) a b before table chunk = before table chunk
same_statement schemas m n (Update t sets where_true) a b before table chunk = before table chunk
same_statement schemas m n (LockRead t mode span where_true) a b before table chunk = before table chunk
same_statement schemas m n (CheckStatement t c span kind) a b before table chunk =
    subst₂ (λ x y. told_in x ≡ told_in y)
    (sym (check_at-with_check table chunk t c _ a.checks))
    (sym (check_at-with_check table chunk t c _ b.checks))
    (same_checked ((table == t) && (chunk == c)) _ _ (check_at table chunk a.checks) (check_at table chunk b.checks) refl (before table chunk))
same_statement schemas m n (SetMaster t c kind master) a b before table chunk =
    subst₂ (λ x y. told_in x ≡ told_in y)
    (sym (check_at-with_master table chunk t c master a.checks))
    (sym (check_at-with_master table chunk t c master b.checks))
    (same_mastered ((table == t) && (chunk == c)) master (check_at table chunk a.checks) (check_at table chunk b.checks) (before table chunk))
same_statement schemas m n (ClearChecks t) a b before table chunk =
    subst₂ (λ x y. told_in x ≡ told_in y)
    (sym (check_at-without_table table chunk t a.checks))
    (sym (check_at-without_table table chunk t b.checks))
    (same_cleared (table == t) (check_at table chunk a.checks) (check_at table chunk b.checks) (before table chunk))

same_statements : (schemas : List Schema) (m n : ℕ) (statements : List Statement) (a b : Replayed)
    → SameMasters a.checks b.checks → SameMasters (after_statements schemas m statements a).checks (after_statements schemas n statements b).checks
same_statements schemas m n [] a b before = before
same_statements schemas m n (statement ∷ statements) a b before =
    same_statements schemas m n statements (after_statement schemas m statement a) (after_statement schemas n statement b) (same_statement schemas m n statement a b before)

-- the next item of a replica's history
same_next : (schemas : List Schema) (source_start replica_start : TableRows) (log front : List Entry) (item : Entry) (origin : Origin)
    → item.origin ≡ origin
    → IsNextOf log (applied_of front) origin item.statements
    → SameMasters (fold schemas source_start (take (applied_of front) log)).checks (fold schemas replica_start front).checks
    → SameMasters (fold schemas source_start (take (position_of (applied_of front) origin) log)).checks (fold schemas replica_start (front ++ item ∷ [])).checks
same_next schemas source_start replica_start log front item (Session session) by next before = absurd next
same_next schemas source_start replica_start log front item Checksum by next before = absurd next
same_next schemas source_start replica_start log front item (Sync replica table span) by next before = absurd next
same_next schemas source_start replica_start log front item (Local session) by next before =
    subst (λ (checks : List CheckEntry). SameMasters (fold schemas source_start (take (applied_of front) log)).checks checks)
    (sym (ap (λ (x : Replayed). x.checks) (fold_more schemas replica_start front item)
    ∙ clients_keep_checks schemas (position_of (length front + 1) item.origin) item.statements (fold schemas replica_start front) next))
    before
same_next schemas source_start replica_start log front item (Applied number) by next before =
    let entry : Entry = next.0 in
    let done : ℕ = applied_of front in
    let place : ℕ = position_of (length front + 1) item.origin in
    subst₂ (λ (a b : Replayed). SameMasters a.checks b.checks)
    (sym (ap (λ n. fold schemas source_start (take n log)) next.2 ∙ fold-take_more schemas source_start log done entry next.1))
    (sym (fold_more schemas replica_start front item ∙ ap (λ (statements : List Statement). after_statements schemas place statements (fold schemas replica_start front)) next.3))
    (same_statements schemas (position_of (done + 1) entry.origin) place entry.statements (fold schemas source_start (take done log)) (fold schemas replica_start front) before)

same_on : (schemas : List Schema) (source_start replica_start : TableRows) (log front rest : List Entry)
    → FollowsFrom log (applied_of front) rest
    → SameMasters (fold schemas source_start (take (applied_of front) log)).checks (fold schemas replica_start front).checks
    → SameMasters (fold schemas source_start (take (applied_from (applied_of front) rest) log)).checks (fold schemas replica_start (front ++ rest)).checks
same_on schemas source_start replica_start log front [] follows before =
    subst (λ (items : List Entry). SameMasters (fold schemas source_start (take (applied_of front) log)).checks (fold schemas replica_start items).checks) (sym (append-nil front)) before
same_on schemas source_start replica_start log front (item ∷ rest) follows before =
    let more : List Entry = front ++ item ∷ [] in
    let number : applied_of more ≡ position_of (applied_of front) item.origin = applied_of-more front item in
    let now : SameMasters (fold schemas source_start (take (applied_of more) log)).checks (fold schemas replica_start more).checks =
    subst (λ n. SameMasters (fold schemas source_start (take n log)).checks (fold schemas replica_start more).checks) (sym number)
    (same_next schemas source_start replica_start log front item item.origin refl follows.0 before) in
    subst₂ (λ (n : ℕ) (items : List Entry). SameMasters (fold schemas source_start (take n log)).checks (fold schemas replica_start items).checks)
    (ap (λ n. applied_from n rest) number)
    (append_assoc front (item ∷ []) rest)
    (same_on schemas source_start replica_start log more rest (subst (λ n. FollowsFrom log n rest) (sym number) follows.1) now)

-- a replica that applied the whole log
pub same_masters : (schemas : List Schema) (source_start replica_start : TableRows) (log history : List Entry)
    → Follows log history
    → applied_of history ≡ length log
    → SameMasters (fold schemas source_start log).checks (fold schemas replica_start history).checks
same_masters schemas source_start replica_start log history follows all =
    let whole_log : take (applied_of history) log ≡ log = ap (λ n. take n log) all ∙ take-length log in
    subst (λ (entries : List Entry). SameMasters (fold schemas source_start entries).checks (fold schemas replica_start history).checks) whole_log
    (same_on schemas source_start replica_start log [] history follows (λ table chunk. refl))
