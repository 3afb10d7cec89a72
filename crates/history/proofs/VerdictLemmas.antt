-- Each verdict on a replica compares the source's and the replica's rows at one position.
use Rattle.std.proofs.Common.{◌≡◌, ◌≢◌, ℕ, zero, suc, ◌+◌, ◌≤◌, ◌==◌, ◌&&◌, Bool, true, false, cond, List, [], ◌∷◌, ◌++◌, length, append-nil, append_assoc, Option, None, Some, option_map, IfSome, slice_get, refl, ap, ◌∙◌, sym, subst, subst₂, arith}
use Rattle.std.specs.List.{AllByRecursion}
use Rattle.std.proofs.lemmas.Bool.Decides.{Decides-and, Decides-eqb}
use Rattle.row_types.specs.KeyRows.{Rows}
use Rattle.row_types.specs.declared.digests.Digest.{Digest}
use Rattle.row_types.specs.declared.digests.DigestKind.{DigestKind}
use Rattle.row_types.specs.declared.edges.Span.{Span}
use Rattle.row_types.specs.declared.table_schema.Schema.{Schema}
use Rattle.ptc_statement.specs.declared.statements.Statement.{Statement}
use Rattle.ptc_statement.specs.declared.statements.Statement.TheVariants.{Insert, Replace, Delete, Update, LockRead, Check, SetMaster, ClearChecks}
use Rattle.ptc_statement.specs.Fits.{IsClients}
use Rattle.statement_log.specs.declared.origins.Origin.{Origin}
use Rattle.statement_log.specs.declared.origins.Origin.TheVariants.{Session, Checksum, Sync, Local, Applied}
use Rattle.statement_log.specs.declared.entries.Entry.{Entry}
use Rattle.checksum_table.specs.declared.check_rows.CheckEntry.{CheckEntry}
use Rattle.checksum_table.specs.declared.check_rows.CheckRow.{CheckRow}
use Rattle.checksum_table.specs.declared.check_rows.Verdict.TheVariants.{Same, Differ, Pending}
use Rattle.checksum_table.specs.Checks.{check_at, mastered, digest_eq, verdict_against, verdict_of_row}
use Rattle.row_digest.specs.Digest.{digest_of}
use Rattle.row_digest.proofs.DigestLemmas.{digest_of-count}
use Rattle.history.specs.Replay.{NodeLog, Replayed, chunk_rows, tables_after, checks_after, after_statement, after_statements, after_entry, position_of, fold, source_at, replica_at, applied_from, applied_of, up_to_applied, IsNextOf, Follows}
use Rattle.history.specs.Headline.{IsTrueMaster, MastersAreTrue, IsOneOfTools, IsWrittenBy, EachIsWritten, Compares, HasStatementAt, EachVerdictCompares}
use Rattle.checksum_table.proofs.CheckLemmas.{check_at-with_check, check_at-with_master, check_at-without_table, digest_eq-Decides}
use Rattle.history.proofs.ReplayLemmas.{tables_after-check, fold_more, fold-take_more, masters_at, follows_front, follows_behind, follows_grows, follows_within, applied_of-more, applied_from-append, up_to_front, clients_keep_checks}

-- at a position that the history has applied the log has the CHECKSUM of the chunk
pub record CheckedAt (log history : List Entry) (table chunk position : ℕ) (span : Span) (kind : DigestKind) : Type 0 where
  pub from_one : 1 ≤ position
  pub applied : position ≤ applied_of history
  pub checked : HasStatementAt log position (Check table chunk span kind)

-- a chunk's row on the source and on the replica: each has the checksum of its own rows at the
-- replica's position, which is one where the chunk was checked, and a published checksum is the source's
pub record RowsAgree (place : ℕ → Span → DigestKind → Type 0) (source_rows replica_rows : ℕ → Span → Rows) (source_row row : CheckRow) : Type 0 where
  pub kind : source_row.kind ≡ row.kind
  pub placed : place row.position row.span row.kind
  pub source_sum : source_row.this ≡ digest_of row.kind (source_rows row.position row.span)
  pub own_sum : row.this ≡ digest_of row.kind (replica_rows row.position row.span)
  pub published : (master : Digest) → row.master ≡ Some master → master ≡ source_row.this

-- the chunk has a row on both, or on neither
abbrev pub ChunksAgree : (ℕ → Span → DigestKind → Type 0) → (ℕ → Span → Rows) → (ℕ → Span → Rows) → Option CheckRow → Option CheckRow → Type 0
ChunksAgree place source_rows replica_rows None None = Unit {0}
ChunksAgree place source_rows replica_rows None (Some row) = ⊥
ChunksAgree place source_rows replica_rows (Some source_row) None = ⊥
ChunksAgree place source_rows replica_rows (Some source_row) (Some row) = RowsAgree place source_rows replica_rows source_row row

agree_checked : (place : ℕ → Span → DigestKind → Type 0) (source_rows replica_rows : ℕ → Span → Rows) (here : Bool) (source_new new : CheckRow) (source_old old : Option CheckRow)
    → (here ≡ true → RowsAgree place source_rows replica_rows source_new new)
    → ChunksAgree place source_rows replica_rows source_old old
    → ChunksAgree place source_rows replica_rows (cond here (Some source_new) source_old) (cond here (Some new) old)
agree_checked place source_rows replica_rows true source_new new source_old old now before = now refl
agree_checked place source_rows replica_rows false source_new new source_old old now before = before

agree_published : (place : ℕ → Span → DigestKind → Type 0) (source_rows replica_rows : ℕ → Span → Rows) (master : Digest) (source_old old : Option CheckRow)
    → ((row : CheckRow) × (source_old ≡ Some row) × (row.this ≡ master))
    → ChunksAgree place source_rows replica_rows source_old old
    → ChunksAgree place source_rows replica_rows (option_map (λ row. mastered row master) source_old) (option_map (λ row. mastered row master) old)
agree_published place source_rows replica_rows master None None now before = tt
agree_published place source_rows replica_rows master None (Some row) now before = before
agree_published place source_rows replica_rows master (Some source_row) None now before = before
agree_published place source_rows replica_rows master (Some source_row) (Some row) now before =
    let same : source_row ≡ now.0 = cc in
    let sum : source_row.this ≡ master = ap (λ (x : CheckRow). x.this) same ∙ now.2 in
    record {
      kind = before.kind;
      placed = before.placed;
      source_sum = before.source_sum;
      own_sum = before.own_sum;
      published = λ other e. let is : master ≡ other = cc in sym is ∙ sym sum;
    }

agree_mastered : (place : ℕ → Span → DigestKind → Type 0) (source_rows replica_rows : ℕ → Span → Rows) (here : Bool) (master : Digest) (source_old old : Option CheckRow)
    → (here ≡ true → (row : CheckRow) × (source_old ≡ Some row) × (row.this ≡ master))
    → ChunksAgree place source_rows replica_rows source_old old
    → ChunksAgree place source_rows replica_rows (cond here (option_map (λ row. mastered row master) source_old) source_old) (cond here (option_map (λ row. mastered row master) old) old)
agree_mastered place source_rows replica_rows true master source_old old now before = agree_published place source_rows replica_rows master source_old old (now refl) before
agree_mastered place source_rows replica_rows false master source_old old now before = before

agree_cleared : (place : ℕ → Span → DigestKind → Type 0) (source_rows replica_rows : ℕ → Span → Rows) (here : Bool) (source_old old : Option CheckRow)
    → ChunksAgree place source_rows replica_rows source_old old
    → ChunksAgree place source_rows replica_rows (cond here None source_old) (cond here None old)
agree_cleared place source_rows replica_rows true source_old old before = tt
agree_cleared place source_rows replica_rows false source_old old before = before

-- one statement on both keeps a chunk's rows agreeing
agree_statement : (schemas : List Schema) (place : ℕ → Span → DigestKind → Type 0) (source_rows replica_rows : ℕ → Span → Rows) (table chunk source_position position : ℕ) (statement : Statement) (source replica : Replayed)
    → ((span : Span) → source_rows position span ≡ chunk_rows schemas (tables_after schemas statement source.tables) table span)
    → ((span : Span) → replica_rows position span ≡ chunk_rows schemas (tables_after schemas statement replica.tables) table span)
    → ((span : Span) (kind : DigestKind) → statement ≡ Check table chunk span kind → place position span kind)
    → IsTrueMaster statement source
    → ChunksAgree place source_rows replica_rows (check_at table chunk source.checks) (check_at table chunk replica.checks)
    → ChunksAgree place source_rows replica_rows (check_at table chunk (checks_after schemas source_position statement source)) (check_at table chunk (checks_after schemas position statement replica))
agree_statement schemas place source_rows replica_rows table chunk source_position position (Insert t row) source replica source_is replica_is is_placed master before = before
agree_statement schemas place source_rows replica_rows table chunk source_position position (Replace t row) source replica source_is replica_is is_placed master before = before
agree_statement schemas place source_rows replica_rows table chunk source_position position (Delete t where_true) source replica source_is replica_is is_placed master before = before
agree_statement schemas place source_rows replica_rows table chunk source_position position (Update t sets where_true) source replica source_is replica_is is_placed master before = before
agree_statement schemas place source_rows replica_rows table chunk source_position position (LockRead t mode span where_true) source replica source_is replica_is is_placed master before = before
agree_statement schemas place source_rows replica_rows table chunk source_position position (Check t c span kind) source replica source_is replica_is is_placed master before =
    let statement : Statement = Check t c span kind in
    let source_new : CheckRow = record { span = span; kind = kind; this = digest_of kind (chunk_rows schemas source.tables t span); master = None; position = source_position } in
    let new : CheckRow = record { span = span; kind = kind; this = digest_of kind (chunk_rows schemas replica.tables t span); master = None; position = position } in
    subst₂ (λ a b. ChunksAgree place source_rows replica_rows a b)
    (sym (check_at-with_check table chunk t c source_new source.checks))
    (sym (check_at-with_check table chunk t c new replica.checks))
    (agree_checked place source_rows replica_rows ((table == t) && (chunk == c)) source_new new (check_at table chunk source.checks) (check_at table chunk replica.checks)
    (λ test.
    let place_is : (table ≡ t) × (chunk ≡ c) = (Decides-and (table == t) (chunk == c) (Decides-eqb table t) (Decides-eqb chunk c)).0 test in
    record {
      kind = refl;
      placed = is_placed span kind (ap (λ n. Check n c span kind) (sym place_is.0) ∙ ap (λ n. Check table n span kind) (sym place_is.1));
      source_sum = ap (λ n. digest_of kind (chunk_rows schemas source.tables n span)) (sym place_is.0)
          ∙ ap (λ tables. digest_of kind (chunk_rows schemas tables table span)) (sym (tables_after-check schemas t c span kind source.tables))
          ∙ ap (digest_of kind) (sym (source_is span));
      own_sum = ap (λ n. digest_of kind (chunk_rows schemas replica.tables n span)) (sym place_is.0)
          ∙ ap (λ tables. digest_of kind (chunk_rows schemas tables table span)) (sym (tables_after-check schemas t c span kind replica.tables))
          ∙ ap (digest_of kind) (sym (replica_is span));
      published = λ other e. cc;
    })
    before)
agree_statement schemas place source_rows replica_rows table chunk source_position position (SetMaster t c kind master) source replica source_is replica_is is_placed true_one before =
    subst₂ (λ a b. ChunksAgree place source_rows replica_rows a b)
    (sym (check_at-with_master table chunk t c master source.checks))
    (sym (check_at-with_master table chunk t c master replica.checks))
    (agree_mastered place source_rows replica_rows ((table == t) && (chunk == c)) master (check_at table chunk source.checks) (check_at table chunk replica.checks)
    (λ test.
    let place_is : (table ≡ t) × (chunk ≡ c) = (Decides-and (table == t) (chunk == c) (Decides-eqb table t) (Decides-eqb chunk c)).0 test in
    (true_one.0, subst₂ (λ m n. check_at m n source.checks ≡ Some true_one.0) (sym place_is.0) (sym place_is.1) true_one.1, true_one.2))
    before)
agree_statement schemas place source_rows replica_rows table chunk source_position position (ClearChecks t) source replica source_is replica_is is_placed master before =
    subst₂ (λ a b. ChunksAgree place source_rows replica_rows a b)
    (sym (check_at-without_table table chunk t source.checks))
    (sym (check_at-without_table table chunk t replica.checks))
    (agree_cleared place source_rows replica_rows (table == t) (check_at table chunk source.checks) (check_at table chunk replica.checks) before)

-- an element of a list of which something holds of each
each_found : {A : Type 0} (P : A → Type 0) (xs : List A) (i : ℕ) (x : A) → AllByRecursion P xs → slice_get xs i ≡ Some x → P x
each_found P [] i x h e = absurd (cc)
each_found P (y ∷ ys) zero x h e = let same : y ≡ x = cc in subst P same h.0
each_found P (y ∷ ys) (suc i) x h e = each_found P ys i x h.1 e

-- a history applied at least what each of its items applies
applied_reaches : (log front : List Entry) (item : Entry) (rest : List Entry)
    → Follows log (front ++ item ∷ rest)
    → item.origin ≡ Applied (applied_of front + 1)
    → applied_of front + 1 ≤ applied_of (front ++ item ∷ rest)
applied_reaches log front item rest follows by =
    let behind = follows_behind log 0 front (item ∷ rest) follows in
    let grown : position_of (applied_of front) item.origin ≤ applied_from (position_of (applied_of front) item.origin) rest =
    follows_grows log (position_of (applied_of front) item.origin) rest behind.1 in
    let at : position_of (applied_of front) item.origin ≡ applied_of front + 1 = ap (position_of (applied_of front)) by in
    let all : applied_of (front ++ item ∷ rest) ≡ applied_from (position_of (applied_of front) item.origin) rest = applied_from-append 0 front (item ∷ rest) in
    omega (arith, grown, at, all)

-- clients' statements leave the check rows on both
agree_clients : (schemas : List Schema) (place : ℕ → Span → DigestKind → Type 0) (source_rows replica_rows : ℕ → Span → Rows) (table chunk source_position position : ℕ) (statements : List Statement) (source replica : Replayed)
    → AllByRecursion IsClients statements
    → ChunksAgree place source_rows replica_rows (check_at table chunk source.checks) (check_at table chunk replica.checks)
    → ChunksAgree place source_rows replica_rows (check_at table chunk (after_statements schemas source_position statements source).checks) (check_at table chunk (after_statements schemas position statements replica).checks)
agree_clients schemas place source_rows replica_rows table chunk source_position position statements source replica clients before =
    subst₂ (λ (a b : List CheckEntry). ChunksAgree place source_rows replica_rows (check_at table chunk a) (check_at table chunk b))
    (sym (clients_keep_checks schemas source_position statements source clients))
    (sym (clients_keep_checks schemas position statements replica clients))
    before

-- the tool's one statement on both
agree_tools : (schemas : List Schema) (place : ℕ → Span → DigestKind → Type 0) (source_rows replica_rows : ℕ → Span → Rows) (table chunk source_position position : ℕ) (statements : List Statement) (source replica : Replayed)
    → IsOneOfTools statements
    → AllByRecursion (λ (statement : Statement). IsTrueMaster statement source) statements
    → ((span : Span) → source_rows position span ≡ chunk_rows schemas (after_statements schemas source_position statements source).tables table span)
    → ((span : Span) → replica_rows position span ≡ chunk_rows schemas (after_statements schemas position statements replica).tables table span)
    → ((span : Span) (kind : DigestKind) → statements ≡ Check table chunk span kind ∷ [] → place position span kind)
    → ChunksAgree place source_rows replica_rows (check_at table chunk source.checks) (check_at table chunk replica.checks)
    → ChunksAgree place source_rows replica_rows (check_at table chunk (after_statements schemas source_position statements source).checks) (check_at table chunk (after_statements schemas position statements replica).checks)
agree_tools schemas place source_rows replica_rows table chunk source_position position statements source replica one masters source_is replica_is is_placed before =
    let after_source : after_statements schemas source_position statements source ≡ after_statement schemas source_position one.statement source =
    ap (λ (xs : List Statement). after_statements schemas source_position xs source) one.only in
    let after_replica : after_statements schemas position statements replica ≡ after_statement schemas position one.statement replica =
    ap (λ (xs : List Statement). after_statements schemas position xs replica) one.only in
    let master : AllByRecursion (λ (statement : Statement). IsTrueMaster statement source) (one.statement ∷ []) =
    subst (AllByRecursion (λ (statement : Statement). IsTrueMaster statement source)) one.only masters in
    subst₂ (λ (a b : Replayed). ChunksAgree place source_rows replica_rows (check_at table chunk a.checks) (check_at table chunk b.checks))
    (sym after_source) (sym after_replica)
    (agree_statement schemas place source_rows replica_rows table chunk source_position position one.statement source replica
    (λ span. source_is span ∙ ap (λ (x : Replayed). chunk_rows schemas x.tables table span) after_source)
    (λ span. replica_is span ∙ ap (λ (x : Replayed). chunk_rows schemas x.tables table span) after_replica)
    (λ span kind e. is_placed span kind (one.only ∙ ap (λ (statement : Statement). statement ∷ []) e))
    master.0 before)

-- an entry's statements on both keep a chunk's rows agreeing
agree_written : (schemas : List Schema) (place : ℕ → Span → DigestKind → Type 0) (source_rows replica_rows : ℕ → Span → Rows) (table chunk source_position position : ℕ) (origin : Origin) (statements : List Statement) (source replica : Replayed)
    → IsWrittenBy origin statements
    → AllByRecursion (λ (statement : Statement). IsTrueMaster statement source) statements
    → ((span : Span) → source_rows position span ≡ chunk_rows schemas (after_statements schemas source_position statements source).tables table span)
    → ((span : Span) → replica_rows position span ≡ chunk_rows schemas (after_statements schemas position statements replica).tables table span)
    → ((span : Span) (kind : DigestKind) → statements ≡ Check table chunk span kind ∷ [] → place position span kind)
    → ChunksAgree place source_rows replica_rows (check_at table chunk source.checks) (check_at table chunk replica.checks)
    → ChunksAgree place source_rows replica_rows (check_at table chunk (after_statements schemas source_position statements source).checks) (check_at table chunk (after_statements schemas position statements replica).checks)
agree_written schemas place source_rows replica_rows table chunk source_position position (Session session) statements source replica written masters source_is replica_is is_placed before =
    agree_clients schemas place source_rows replica_rows table chunk source_position position statements source replica written before
agree_written schemas place source_rows replica_rows table chunk source_position position Checksum statements source replica written masters source_is replica_is is_placed before =
    agree_tools schemas place source_rows replica_rows table chunk source_position position statements source replica written masters source_is replica_is is_placed before
agree_written schemas place source_rows replica_rows table chunk source_position position (Sync repaired t span) statements source replica written masters source_is replica_is is_placed before =
    agree_clients schemas place source_rows replica_rows table chunk source_position position statements source replica written before
agree_written schemas place source_rows replica_rows table chunk source_position position (Local session) statements source replica written masters source_is replica_is is_placed before =
    agree_clients schemas place source_rows replica_rows table chunk source_position position statements source replica written before
agree_written schemas place source_rows replica_rows table chunk source_position position (Applied number) statements source replica written masters source_is replica_is is_placed before =
    absurd written

-- what is there after these items of the replica's history, and after the entries that they applied, agrees
abbrev pub AgreeAfter : List Schema → NodeLog → NodeLog → ℕ → ℕ → List Entry → Type 0
AgreeAfter schemas source replica table chunk front =
    ChunksAgree
    (CheckedAt source.entries replica.entries table chunk)
    (λ position span. chunk_rows schemas (source_at schemas source position).tables table span)
    (λ position span. chunk_rows schemas (replica_at schemas replica position).tables table span)
    (check_at table chunk (source_at schemas source (applied_of front)).checks)
    (check_at table chunk (fold schemas replica.start front).checks)

-- the next item applies an entry
agree_applied : (schemas : List Schema) (source replica : NodeLog) (table chunk : ℕ) (front rest : List Entry) (item entry : Entry)
    → EachIsWritten source.entries
    → MastersAreTrue schemas source
    → Follows source.entries replica.entries
    → replica.entries ≡ front ++ item ∷ rest
    → slice_get source.entries (applied_of front) ≡ Some entry
    → item.origin ≡ Applied (applied_of front + 1)
    → item.statements ≡ entry.statements
    → AgreeAfter schemas source replica table chunk front
    → AgreeAfter schemas source replica table chunk (front ++ item ∷ [])
agree_applied schemas source replica table chunk front rest item entry written masters follows parts found by same before =
    let done : ℕ = applied_of front in
    let whole : Follows source.entries (front ++ item ∷ rest) = subst (Follows source.entries) parts follows in
    let number : applied_of (front ++ item ∷ []) ≡ done + 1 = applied_of-more front item ∙ ap (position_of done) by in
    let source_more : source_at schemas source (done + 1) ≡ after_entry schemas (done + 1) entry (source_at schemas source done) =
    fold-take_more schemas source.start source.entries done entry found in
    let replica_more : fold schemas replica.start (front ++ item ∷ []) ≡ after_statements schemas (done + 1) entry.statements (fold schemas replica.start front) =
    fold_more schemas replica.start front item
    ∙ ap (λ (origin : Origin). after_statements schemas (position_of (length front + 1) origin) item.statements (fold schemas replica.start front)) by
    ∙ ap (λ (statements : List Statement). after_statements schemas (done + 1) statements (fold schemas replica.start front)) same in
    let up_to : up_to_applied (done + 1) replica.entries ≡ front ++ item ∷ [] =
    ap (up_to_applied (done + 1)) parts ∙ up_to_front source.entries 0 front rest item (follows_front source.entries 0 front (item ∷ rest) whole) by in
    let replica_now : replica_at schemas replica (done + 1) ≡ after_statements schemas (done + 1) entry.statements (fold schemas replica.start front) =
    ap (fold schemas replica.start) up_to ∙ replica_more in
    let reached : done + 1 ≤ applied_of replica.entries = subst (λ (items : List Entry). done + 1 ≤ applied_of items) (sym parts)
    (applied_reaches source.entries front item rest whole by) in
    subst (λ (n : ℕ). ChunksAgree (CheckedAt source.entries replica.entries table chunk) (λ position span. chunk_rows schemas (source_at schemas source position).tables table span) (λ position span. chunk_rows schemas (replica_at schemas replica position).tables table span) (check_at table chunk (source_at schemas source n).checks) (check_at table chunk (fold schemas replica.start (front ++ item ∷ [])).checks)) (sym number)
    (subst₂ (λ (a b : Replayed). ChunksAgree (CheckedAt source.entries replica.entries table chunk) (λ position span. chunk_rows schemas (source_at schemas source position).tables table span) (λ position span. chunk_rows schemas (replica_at schemas replica position).tables table span) (check_at table chunk a.checks) (check_at table chunk b.checks))
    (sym source_more)
    (sym replica_more)
    (agree_written schemas
    (CheckedAt source.entries replica.entries table chunk)
    (λ position span. chunk_rows schemas (source_at schemas source position).tables table span)
    (λ position span. chunk_rows schemas (replica_at schemas replica position).tables table span)
    table chunk (position_of (done + 1) entry.origin) (done + 1) entry.origin entry.statements (source_at schemas source done) (fold schemas replica.start front)
    (each_found (λ (e : Entry). IsWrittenBy e.origin e.statements) source.entries done entry written found)
    (masters_at schemas source done entry masters found)
    (λ span. ap (λ (x : Replayed). chunk_rows schemas x.tables table span) source_more)
    (λ span. ap (λ (x : Replayed). chunk_rows schemas x.tables table span) replica_now)
    (λ span kind e. record {
      from_one = omega arith;
      applied = reached;
      checked = (entry, subst (λ n. slice_get source.entries n ≡ Some entry) (omega arith) found, e);
    })
    before))

-- the next item is a local session's
agree_local : (schemas : List Schema) (source replica : NodeLog) (table chunk session : ℕ) (front : List Entry) (item : Entry)
    → item.origin ≡ Local session
    → AllByRecursion IsClients item.statements
    → AgreeAfter schemas source replica table chunk front
    → AgreeAfter schemas source replica table chunk (front ++ item ∷ [])
agree_local schemas source replica table chunk session front item by clients before =
    let number : applied_of (front ++ item ∷ []) ≡ applied_of front = applied_of-more front item ∙ ap (position_of (applied_of front)) by in
    let checks : (fold schemas replica.start (front ++ item ∷ [])).checks ≡ (fold schemas replica.start front).checks =
    ap (λ (x : Replayed). x.checks) (fold_more schemas replica.start front item)
    ∙ clients_keep_checks schemas (position_of (length front + 1) item.origin) item.statements (fold schemas replica.start front) clients in
    subst₂ (λ (n : ℕ) (rows : List CheckEntry). ChunksAgree (CheckedAt source.entries replica.entries table chunk) (λ position span. chunk_rows schemas (source_at schemas source position).tables table span) (λ position span. chunk_rows schemas (replica_at schemas replica position).tables table span) (check_at table chunk (source_at schemas source n).checks) (check_at table chunk rows))
    (sym number) (sym checks) before

-- whichever the next item is
agree_next : (schemas : List Schema) (source replica : NodeLog) (table chunk : ℕ) (front rest : List Entry) (item : Entry) (origin : Origin)
    → EachIsWritten source.entries
    → MastersAreTrue schemas source
    → Follows source.entries replica.entries
    → replica.entries ≡ front ++ item ∷ rest
    → item.origin ≡ origin
    → IsNextOf source.entries (applied_of front) origin item.statements
    → AgreeAfter schemas source replica table chunk front
    → AgreeAfter schemas source replica table chunk (front ++ item ∷ [])
agree_next schemas source replica table chunk front rest item (Session session) written masters follows parts by next before = absurd next
agree_next schemas source replica table chunk front rest item Checksum written masters follows parts by next before = absurd next
agree_next schemas source replica table chunk front rest item (Sync repaired t span) written masters follows parts by next before = absurd next
agree_next schemas source replica table chunk front rest item (Local session) written masters follows parts by next before =
    agree_local schemas source replica table chunk session front item by next before
agree_next schemas source replica table chunk front rest item (Applied number) written masters follows parts by next before =
    agree_applied schemas source replica table chunk front rest item next.0 written masters follows parts next.1 (by ∙ ap (λ n. Applied n) next.2) next.3 before

-- whatever follows a prefix of the history
agree_on : (schemas : List Schema) (source replica : NodeLog) (table chunk : ℕ) (front rest : List Entry)
    → EachIsWritten source.entries
    → MastersAreTrue schemas source
    → Follows source.entries replica.entries
    → replica.entries ≡ front ++ rest
    → AgreeAfter schemas source replica table chunk front
    → AgreeAfter schemas source replica table chunk (front ++ rest)
agree_on schemas source replica table chunk front [] written masters follows parts before =
    subst (AgreeAfter schemas source replica table chunk) (sym (append-nil front)) before
agree_on schemas source replica table chunk front (item ∷ rest) written masters follows parts before =
    let next = follows_behind source.entries 0 front (item ∷ rest) (subst (Follows source.entries) parts follows) in
    let shifted : front ++ item ∷ [] ++ rest ≡ front ++ item ∷ rest = append_assoc front (item ∷ []) rest in
    subst (AgreeAfter schemas source replica table chunk) shifted
    (agree_on schemas source replica table chunk (front ++ item ∷ []) rest written masters follows (parts ∙ sym shifted)
    (agree_next schemas source replica table chunk front rest item item.origin written masters follows parts refl next.0 before))

pub agree_after : (schemas : List Schema) (source replica : NodeLog) (table chunk : ℕ)
    → EachIsWritten source.entries
    → MastersAreTrue schemas source
    → Follows source.entries replica.entries
    → AgreeAfter schemas source replica table chunk replica.entries
agree_after schemas source replica table chunk written masters follows =
    agree_on schemas source replica table chunk [] replica.entries written masters follows refl tt

-- a row that is not pending has the source's checksum
published_of : (row : CheckRow) (master : Option Digest) → row.master ≡ master → verdict_against master row.this ≢ Pending → (m : Digest) × (row.master ≡ Some m)
published_of row None e h = absurd (h refl)
published_of row (Some m) e h = (m, e)

-- what a verdict against a checksum says of the two
differ_says : (master own : Digest) (equal : Bool) → digest_eq master own ≡ equal → cond equal Same Differ ≡ Differ → master ≢ own
differ_says master own true e h = cc
differ_says master own false e h = λ q. let is : digest_eq master own ≡ true = (digest_eq-Decides master own).1 q in cc

same_says : (master own : Digest) (equal : Bool) → digest_eq master own ≡ equal → cond equal Same Differ ≡ Same → master ≡ own
same_says master own true e h = (digest_eq-Decides master own).0 e
same_says master own false e h = cc

differ_holds : (master own : Digest) (equal : Bool) → digest_eq master own ≡ equal → master ≢ own → cond equal Same Differ ≡ Differ
differ_holds master own true e h = absurd (h ((digest_eq-Decides master own).0 e))
differ_holds master own false e h = refl

-- a row with the checksums of two lists of rows compares them
pub compares_of : (row : CheckRow) (master : Digest) (source_rows replica_rows : Rows)
    → row.master ≡ Some master
    → master ≡ digest_of row.kind source_rows
    → row.this ≡ digest_of row.kind replica_rows
    → Compares row source_rows replica_rows
compares_of row master source_rows replica_rows known source_sum own_sum =
    let verdict : verdict_of_row row ≡ cond (digest_eq master row.this) Same Differ = ap (λ o. verdict_against o row.this) known in
    let differs : verdict_of_row row ≡ Differ → digest_of row.kind source_rows ≢ digest_of row.kind replica_rows =
    λ v q. differ_says master row.this (digest_eq master row.this) refl (sym verdict ∙ v) (source_sum ∙ q ∙ sym own_sum) in
    record {
      master_count = subst (λ (o : Option Digest). IfSome o (λ m. m.count ≡ length source_rows)) (sym known) (ap (λ (d : Digest). d.count) source_sum ∙ digest_of-count row.kind source_rows);
      own_count = ap (λ (d : Digest). d.count) own_sum ∙ digest_of-count row.kind replica_rows;
      differ = (differs, λ apart. verdict ∙ differ_holds master row.this (digest_eq master row.this) refl (λ q. apart (sym source_sum ∙ q ∙ own_sum)));
      rows_differ = λ v q. differs v (ap (digest_of row.kind) q);
      rows_same = λ v distinguish. distinguish (sym source_sum ∙ same_says master row.this (digest_eq master row.this) refl (sym verdict ∙ v) ∙ own_sum);
    }

-- a row of the replica that agrees with the source's compares the rows of its chunk, where it was checked
agree_compares : (place : ℕ → Span → DigestKind → Type 0) (source_rows replica_rows : ℕ → Span → Rows) (source_row : Option CheckRow) (row : CheckRow)
    → ChunksAgree place source_rows replica_rows source_row (Some row)
    → verdict_of_row row ≢ Pending
    → place row.position row.span row.kind × Compares row (source_rows row.position row.span) (replica_rows row.position row.span)
agree_compares place source_rows replica_rows None row h known = absurd h
agree_compares place source_rows replica_rows (Some source_row) row h known =
    let master = published_of row row.master refl known in (
      h.placed,
      compares_of row master.0 (source_rows row.position row.span) (replica_rows row.position row.span) master.1
          (h.published master.0 master.1 ∙ h.source_sum)
          h.own_sum,
    )

pub each_verdict : (schemas : List Schema) (source replica : NodeLog)
    → EachIsWritten source.entries
    → MastersAreTrue schemas source
    → Follows source.entries replica.entries
    → EachVerdictCompares schemas source replica
each_verdict schemas source replica written masters follows table chunk row stands known =
    let most : applied_of replica.entries ≤ length source.entries = follows_within source.entries replica.entries follows in
    let found = agree_compares
    (CheckedAt source.entries replica.entries table chunk)
    (λ position span. chunk_rows schemas (source_at schemas source position).tables table span)
    (λ position span. chunk_rows schemas (replica_at schemas replica position).tables table span)
    (check_at table chunk (source_at schemas source (applied_of replica.entries)).checks)
    row
    (subst (λ (o : Option CheckRow). ChunksAgree
    (CheckedAt source.entries replica.entries table chunk)
    (λ position span. chunk_rows schemas (source_at schemas source position).tables table span)
    (λ position span. chunk_rows schemas (replica_at schemas replica position).tables table span)
    (check_at table chunk (source_at schemas source (applied_of replica.entries)).checks)
    o)
    stands
    (agree_after schemas source replica table chunk written masters follows))
    known in
    let there : CheckedAt source.entries replica.entries table chunk row.position row.span row.kind = found.0 in
    let applied_there : row.position ≤ applied_of replica.entries = there.applied in
    record {
      from_one = there.from_one;
      in_log = omega (arith, applied_there, most);
      applied = applied_there;
      checked = there.checked;
      compares = found.1;
    }
