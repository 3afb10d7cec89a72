-- The words of the checksum tool's statements are read as those statements.
use Rattle.std.proofs.Common.{◌≡◌, ℕ, zero, suc, ◌≤◌, Bool, true, List, [], ◌∷◌, ◌++◌, Option, Some, refl, sym, ◌∙◌, ap, subst, arith, append_assoc}
use Rattle.std.specs.Prelude.{length, take}
use Rattle.row_types.specs.declared.edges.Span.{Span}
use Rattle.row_types.specs.declared.digests.Digest.{Digest}
use Rattle.row_types.specs.declared.digests.DigestKind.{DigestKind}
use Rattle.row_types.specs.declared.digests.DigestKind.TheVariants.{Md5, Sha1}
use Rattle.row_types.specs.declared.table_schema.Column.{Column}
use Rattle.row_types.specs.declared.table_schema.Schema.{Schema}
use Rattle.row_types.specs.Fit.{IsSchema}
use Rattle.row_digest.specs.Digest.{crc_text}
use Rattle.ptc_statement.specs.declared.statements.Statement.{Statement}
use Rattle.ptc_statement.specs.declared.statements.Statement.TheVariants.{Check, SetMaster, ClearChecks}
use Rattle.statement_tokens.specs.declared.words.Keyword.TheVariants as k
use Rattle.statement_tokens.specs.declared.words.Word.{Word}
use Rattle.statement_tokens.specs.declared.words.Word.TheVariants as w
use Rattle.statement_grammar.specs.Sentence.{Spot, StatementDue, ChunkTable, ChunkDue, ChunkNumber, EdgeFrom, EdgeDue, EdgeTo, UsingDue, KindDue, CountDue, CountNumber, CrcDue, CrcText, ClearTable, EndDue, Lower, Upper, OnChunk, Checks, SetsMaster, behind_chunk, is_chunk, is_count, is_crc, when_so, Keys}
use Rattle.statement_grammar.specs.Draft.{kind_of_crc, xor_of_crc, Form, CheckForm, MasterForm, ClearForm, Draft, nothing_known, said_as}
use Rattle.statement_grammar.specs.Faults.{behind_table}
use Rattle.statement_text_laws.specs.StatementWords.{edge_words, kind_word, span_words, statement_words, edge_spells}
use Rattle.statement_round_trip.specs.RoundTrip.{EdgeFits, IsXor}
use Rattle.statement_round_trip.proofs.ReadLemmas.{Reads, at_end, step}
use Rattle.statement_round_trip.proofs.ValueReadLemmas.{edge_read, edged}
use Rattle.statement_round_trip.proofs.StatementReadLemmas.{Found, known, naming}
use Rattle.statement_round_trip.proofs.CrcLemmas.{crc_right}

when_is : (b : Bool) (spot : Spot) → b ≡ true → when_so b spot ≡ Some spot
when_is b spot e = rw e refl

-- what is known behind the number of a chunk
abbrev on_chunk : Form → ℕ → Schema → ℕ → Draft
on_chunk form table schema chunk = record nothing_known { form = form; table = table; schema = Some schema; chunk = chunk }

chunk_read : (schemas : List Schema) (key : Keys) (table : ℕ) (schema : Schema) (tool : OnChunk) (form : Form) (chunk : ℕ) (words : List Word) (statement : Statement) → Found schemas table schema → is_chunk chunk ≡ true
    → Reads schemas key (behind_chunk tool) (on_chunk form table schema chunk) words statement
    → Reads schemas key (ChunkTable tool) (record nothing_known { form = form }) (w.Name schema.name ∷ w.Keyword k.Chunk ∷ w.Number chunk ∷ words) statement
chunk_read schemas key table schema tool form chunk words statement f h more =
    step schemas key (ChunkTable tool) (record nothing_known { form = form }) (record nothing_known { form = form; table = table; schema = Some schema }) (w.Name schema.name) (w.Keyword k.Chunk ∷ w.Number chunk ∷ words) statement (ChunkDue tool) refl
    (known schemas table schema f) (λ place. naming schemas table schema (record nothing_known { form = form }) f)
    (step schemas key (ChunkDue tool) (record nothing_known { form = form; table = table; schema = Some schema }) (record nothing_known { form = form; table = table; schema = Some schema }) (w.Keyword k.Chunk) (w.Number chunk ∷ words) statement (ChunkNumber tool) refl (λ place. refl) (λ place. refl)
    (step schemas key (ChunkNumber tool) (record nothing_known { form = form; table = table; schema = Some schema }) (on_chunk form table schema chunk) (w.Number chunk) words statement (behind_chunk tool) (when_is (is_chunk chunk) (behind_chunk tool) h) (λ place. refl) (λ place. refl) more))

kind_read : (schemas : List Schema) (key : Keys) (schema : Schema) (draft : Draft) (kind : DigestKind) (statement : Statement) → draft.schema ≡ Some schema → said_as draft.form (record draft { kind = kind }) ≡ statement
    → Reads schemas key UsingDue draft (w.Keyword k.Using ∷ kind_word kind ∷ []) statement
kind_read schemas key schema draft Md5 statement e said =
    step schemas key UsingDue draft draft (w.Keyword k.Using) (w.Keyword k.Md5 ∷ []) statement KindDue refl (λ place. ap (λ (o : Option Schema). behind_table o UsingDue draft (w.Keyword k.Using) place) e) (λ place. refl)
    (step schemas key KindDue draft (record draft { kind = Md5 }) (w.Keyword k.Md5) [] statement EndDue refl (λ place. ap (λ (o : Option Schema). behind_table o KindDue draft (w.Keyword k.Md5) place) e) (λ place. refl)
    (at_end schemas key EndDue (record draft { kind = Md5 }) statement refl said))
kind_read schemas key schema draft Sha1 statement e said =
    step schemas key UsingDue draft draft (w.Keyword k.Using) (w.Keyword k.Sha1 ∷ []) statement KindDue refl (λ place. ap (λ (o : Option Schema). behind_table o UsingDue draft (w.Keyword k.Using) place) e) (λ place. refl)
    (step schemas key KindDue draft (record draft { kind = Sha1 }) (w.Keyword k.Sha1) [] statement EndDue refl (λ place. ap (λ (o : Option Schema). behind_table o KindDue draft (w.Keyword k.Sha1) place) e) (λ place. refl)
    (at_end schemas key EndDue (record draft { kind = Sha1 }) statement refl said))

some_key : (n : ℕ) (columns : List Column) → 1 ≤ n → 1 ≤ length columns → 1 ≤ length (take n columns)
some_key zero columns h i = h
some_key (suc n) [] h i = i
some_key (suc n) (column ∷ columns) h i = omega arith

pub check_read : (schemas : List Schema) (key : Keys) (table : ℕ) (schema : Schema) (chunk : ℕ) (span : Span) (kind : DigestKind) → Found schemas table schema → IsSchema schema → is_chunk chunk ≡ true
    → EdgeFits schema span.lo → EdgeFits schema span.hi → edge_spells span.lo ≡ true → edge_spells span.hi ≡ true
    → Reads schemas key StatementDue nothing_known (statement_words schema (Check table chunk span kind)) (Check table chunk span kind)
check_read schemas key table schema chunk span kind f is h lo hi a b =
    step schemas key StatementDue nothing_known (record nothing_known { form = CheckForm }) (w.Keyword k.Checksum) (w.Name schema.name ∷ w.Keyword k.Chunk ∷ w.Number chunk ∷ (span_words span ++ using)) said (ChunkTable Checks) refl (λ place. refl) (λ place. refl)
    (chunk_read schemas key table schema Checks CheckForm chunk (span_words span ++ using) said f h
    (step schemas key EdgeFrom draft draft (w.Keyword k.From) ((edge_words span.lo ++ (w.Keyword k.To ∷ edge_words span.hi)) ++ using) said (EdgeDue Lower) refl (λ place. refl) (λ place. refl)
    (subst (λ (ws : List Word). Reads schemas key (EdgeDue Lower) draft ws said) (sym (append_assoc (edge_words span.lo) (w.Keyword k.To ∷ edge_words span.hi) using))
    (edge_read schemas key schema Lower draft span.lo (w.Keyword k.To ∷ (edge_words span.hi ++ using)) said refl some lo a
    (step schemas key EdgeTo (edged Lower draft span.lo) (edged Lower draft span.lo) (w.Keyword k.To) (edge_words span.hi ++ using) said (EdgeDue Upper) refl (λ place. refl) (λ place. refl)
    (edge_read schemas key schema Upper (edged Lower draft span.lo) span.hi using said refl some hi b
    (kind_read schemas key schema (edged Upper (edged Lower draft span.lo) span.hi) kind said refl refl)))))))
  where
    draft : Draft
    draft = on_chunk CheckForm table schema chunk

    said : Statement
    said = Check table chunk span kind

    using : List Word
    using = w.Keyword k.Using ∷ kind_word kind ∷ []

    some : 1 ≤ length (take schema.key_len schema.columns)
    some = some_key schema.key_len schema.columns is.key (let l = is.within in let m = is.key in omega arith)

pub master_read : (schemas : List Schema) (key : Keys) (table : ℕ) (schema : Schema) (chunk : ℕ) (kind : DigestKind) (master : Digest) → Found schemas table schema → is_chunk chunk ≡ true → is_count master.count ≡ true → IsXor kind master.xor
    → Reads schemas key StatementDue nothing_known (statement_words schema (SetMaster table chunk kind master)) (SetMaster table chunk kind master)
master_read schemas key table schema chunk kind master f h c x =
    step schemas key StatementDue nothing_known (record nothing_known { form = MasterForm }) (w.Keyword k.SetMaster)
    (w.Name schema.name ∷ w.Keyword k.Chunk ∷ w.Number chunk ∷ w.Keyword k.Cnt ∷ w.Number master.count ∷ w.Keyword k.Crc ∷ w.Text (crc_text kind master) ∷ []) said (ChunkTable SetsMaster) refl (λ place. refl) (λ place. refl)
    (chunk_read schemas key table schema SetsMaster MasterForm chunk (w.Keyword k.Cnt ∷ w.Number master.count ∷ w.Keyword k.Crc ∷ w.Text (crc_text kind master) ∷ []) said f h
    (step schemas key CountDue draft draft (w.Keyword k.Cnt) (w.Number master.count ∷ w.Keyword k.Crc ∷ w.Text (crc_text kind master) ∷ []) said CountNumber refl (λ place. refl) (λ place. refl)
    (step schemas key CountNumber draft (record draft { count = master.count }) (w.Number master.count) (w.Keyword k.Crc ∷ w.Text (crc_text kind master) ∷ []) said CrcDue (when_is (is_count master.count) CrcDue c) (λ place. refl) (λ place. refl)
    (step schemas key CrcDue (record draft { count = master.count }) (record draft { count = master.count }) (w.Keyword k.Crc) (w.Text (crc_text kind master) ∷ []) said CrcText refl (λ place. refl) (λ place. refl)
    (step schemas key CrcText (record draft { count = master.count }) (record draft { count = master.count; crc = crc_text kind master }) (w.Text (crc_text kind master)) [] said EndDue (when_is (is_crc (crc_text kind master)) EndDue i.0) (λ place. refl) (λ place. refl)
    (at_end schemas key EndDue (record draft { count = master.count; crc = crc_text kind master }) said refl
    (ap (λ (d : DigestKind). SetMaster table chunk d (record { count = master.count; xor = xor_of_crc (crc_text kind master) })) i.1
    ∙ ap (λ (l : List ℕ). SetMaster table chunk kind (record { count = master.count; xor = l })) i.2)))))))
  where
    draft : Draft
    draft = on_chunk MasterForm table schema chunk

    said : Statement
    said = SetMaster table chunk kind master

    i : (is_crc (crc_text kind master) ≡ true) × (kind_of_crc (crc_text kind master) ≡ kind) × (xor_of_crc (crc_text kind master) ≡ master.xor)
    i = crc_right kind master x

pub clear_read : (schemas : List Schema) (key : Keys) (table : ℕ) (schema : Schema) → Found schemas table schema
    → Reads schemas key StatementDue nothing_known (statement_words schema (ClearChecks table)) (ClearChecks table)
clear_read schemas key table schema f =
    step schemas key StatementDue nothing_known (record nothing_known { form = ClearForm }) (w.Keyword k.ClearChecks) (w.Name schema.name ∷ []) (ClearChecks table) ClearTable refl (λ place. refl) (λ place. refl)
    (step schemas key ClearTable (record nothing_known { form = ClearForm }) (record nothing_known { form = ClearForm; table = table; schema = Some schema }) (w.Name schema.name) [] (ClearChecks table) EndDue refl
    (known schemas table schema f) (λ place. naming schemas table schema (record nothing_known { form = ClearForm }) f)
    (at_end schemas key EndDue (record nothing_known { form = ClearForm; table = table; schema = Some schema }) (ClearChecks table) refl refl))
