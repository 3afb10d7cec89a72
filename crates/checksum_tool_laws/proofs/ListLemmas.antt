-- Spans by number, and deeds, with one more.
use Rattle.std.proofs.Common.{◌≡◌, ◌≢◌, ◌∙◌, ℕ, zero, suc, ◌+◌, ◌<◌, Bool, true, false, cond, List, [], ◌∷◌, ◌++◌, None, Some, length, map, refl, ap, arith}
use Rattle.std.specs.List.{slice_get}
use Rattle.row_types.specs.declared.edges.Span.{Span}
use Rattle.statement_log.specs.declared.entries.Entry.{Entry}
use Rattle.checksum_tool_laws.specs.Courses.{is_tools}
use Rattle.checksum_tool_laws.specs.Cover.{span_at}
use Rattle.checksum_tool_laws.specs.Deeds.{Deed, Clears, Checks, Masters, deed_of, tool_entries, deeds_in, alone, chunk_deeds, table_deeds, tables_deeds}

none_behind : (spans : List Span) → slice_get spans (length spans) ≡ None
none_behind [] = refl
none_behind (span ∷ spans) = none_behind spans

got_last : (spans : List Span) (last : Span) → slice_get (spans ++ last ∷ []) (length spans) ≡ Some last
got_last [] last = refl
got_last (span ∷ spans) last = got_last spans last

got_other : (spans : List Span) (last : Span) (number : ℕ) → number ≢ length spans → slice_get (spans ++ last ∷ []) number ≡ slice_get spans number
got_other [] last zero apart = absurd (apart refl)
got_other [] last (suc number) apart = refl
got_other (span ∷ spans) last zero apart = refl
got_other (span ∷ spans) last (suc number) apart = got_other spans last number (λ e. apart (ap (λ (n : ℕ). suc n) e))

-- the chunk behind the last one
pub span_none : (spans : List Span) (chunk : ℕ) → chunk ≡ length spans + 1 → span_at chunk spans ≡ None
span_none spans zero next = absurd (omega arith)
span_none spans (suc number) next =
    let e : number ≡ length spans = omega arith in
    ap (slice_get spans) e ∙ none_behind spans

pub span_last : (spans : List Span) (last : Span) (chunk : ℕ) → chunk ≡ length spans + 1 → span_at chunk (spans ++ last ∷ []) ≡ Some last
span_last spans last zero next = absurd (omega arith)
span_last spans last (suc number) next =
    let e : number ≡ length spans = omega arith in
    ap (slice_get (spans ++ last ∷ [])) e ∙ got_last spans last

pub span_other : (spans : List Span) (last : Span) (chunk number : ℕ) → chunk ≡ length spans + 1 → number ≢ chunk → span_at number (spans ++ last ∷ []) ≡ span_at number spans
span_other spans last chunk zero next apart = refl
span_other spans last chunk (suc number) next apart = got_other spans last number (λ e. apart (let q : suc number ≡ chunk = omega arith in q))

pub span_empty : (chunk : ℕ) → span_at chunk [] ≡ None
span_empty zero = refl
span_empty (suc number) = refl

-- deeds of more entries

pub deeds_more : (xs ys : List Entry) → deeds_in (xs ++ ys) ≡ deeds_in xs ++ deeds_in ys
deeds_more [] ys = refl
deeds_more (x ∷ xs) ys = at (is_tools x.origin) (deeds_more xs ys)
  where
    at : (b : Bool) → deeds_in (xs ++ ys) ≡ deeds_in xs ++ deeds_in ys
        → map (λ (entry : Entry). map deed_of entry.statements) (cond b (x ∷ tool_entries (xs ++ ys)) (tool_entries (xs ++ ys)))
        ≡ map (λ (entry : Entry). map deed_of entry.statements) (cond b (x ∷ tool_entries xs) (tool_entries xs)) ++ deeds_in ys
    at true more = ap (λ (ds : List (List Deed)). map deed_of x.statements ∷ ds) more
    at false more = more

pub no_deeds : (entry : Entry) → is_tools entry.origin ≡ false → deeds_in (entry ∷ []) ≡ []
no_deeds entry other = ap (λ (b : Bool). map (λ (e : Entry). map deed_of e.statements) (cond b (entry ∷ []) [])) other

-- a chunk more
chunks_more : (table number last : ℕ) (spans : List Span) (span : Span) → last ≡ length spans + number
    → chunk_deeds table number (spans ++ span ∷ []) ≡ chunk_deeds table number spans ++ alone (Checks table last span) ++ alone (Masters table last)
chunks_more table number last [] span is =
    ap (λ (n : ℕ). alone (Checks table n span) ++ alone (Masters table n)) (let e : number ≡ last = omega arith in e)
chunks_more table number last (first ∷ spans) span is =
    ap (λ (ds : List (List Deed)). alone (Checks table number first) ++ alone (Masters table number) ++ ds)
    (chunks_more table (number + 1) last spans span (omega arith))

pub table_more : (table chunk : ℕ) (spans : List Span) (span : Span) → chunk ≡ length spans + 1
    → table_deeds table (spans ++ span ∷ []) ≡ table_deeds table spans ++ alone (Checks table chunk span) ++ alone (Masters table chunk)
table_more table chunk spans span is =
    ap (λ (ds : List (List Deed)). (Clears table ∷ []) ∷ ds) (chunks_more table 1 chunk spans span is)

pub tables_same : (f g : ℕ → List Span) (tables : ℕ) → ((table : ℕ) → table < tables → f table ≡ g table) → tables_deeds f tables ≡ tables_deeds g tables
tables_same f g zero same = refl
tables_same f g (suc tables) same =
    (λ i. tables_same f g tables (λ table within. same table (omega arith)) i ++ table_deeds tables (same tables (omega arith) i))

pub append_assoc : (xs ys zs : List (List Deed)) → (xs ++ ys) ++ zs ≡ xs ++ (ys ++ zs)
append_assoc [] ys zs = refl
append_assoc (x ∷ xs) ys zs = ap (λ (ds : List (List Deed)). x ∷ ds) (append_assoc xs ys zs)
