-- What is known where a statement ends: it can be said.
use Rattle.std.proofs.Common.{◌≡◌, ℕ, zero, suc, Bool, true, false, List, [], ◌∷◌, ◌++◌, Option, refl, sym, ◌∙◌, ap, subst, arith, length-append}
use Rattle.std.specs.Prelude.{◌==◌, ◌&&◌, not, length, take, drop, replicate, Result, Ok, Err, if◌then◌else◌}
use Rattle.std.proofs.lemmas.Bool.Decides.{nat_tests}
use Rattle.hex.specs.Hex.{IsBytes, decode_of, encode_lower}
use Rattle.hex.specs.declared.error.FromHexError.{FromHexError}
use Rattle.hex.proofs.HexLemmas.{decode_of-ok}
use Rattle.row_types.specs.declared.digests.Digest.{Digest}
use Rattle.row_types.specs.declared.digests.DigestKind.{DigestKind}
use Rattle.row_types.specs.declared.digests.DigestKind.TheVariants.{Md5, Sha1}
use Rattle.row_types.specs.declared.table_schema.Schema.{Schema}
use Rattle.row_types.specs.Fit.{ValuesFit}
use Rattle.row_digest.specs.Digest.{crc_text}
use Rattle.ptc_statement.specs.declared.assignments.Assignment.{Assignment}
use Rattle.statement_tokens.specs.Spellings.{is_text_byte}
use Rattle.statement_grammar.specs.Sentence.{OfRow, is_chunk, is_count, is_lower_digit, are_lower_digits, Keys}
use Rattle.statement_grammar.specs.Draft.{Form, InsertForm, ReplaceForm, DeleteForm, UpdateForm, ReadForm, CheckForm, MasterForm, ClearForm, Draft, columns_for, bytes_or_none, kind_of_crc, xor_of_crc, said_as}
use Rattle.statement_grammar.proofs.BasicLemmas.{both, both_true, equal}
use Rattle.statement_text_laws.specs.StatementWords.{values_spell, where_spells, sets_spell, assignments_spell, edge_spells, are_plain}
use Rattle.statement_round_trip.specs.RoundTrip.{IsXor, IsSayable}
use Rattle.statement_round_trip.proofs.CrcLemmas.{taken_bytes, taken_long, take_front, digits}
use Rattle.statement_round_trip.proofs.DigestLemmas.{appended, zeros}
use Rattle.statement_fit_laws.proofs.GoodLemmas.{Tabled, IsRow, OnTable, WhereOk, SetsOk, SomeSets, Sets, ReadsWhere, Edges, EdgeOk}

by_form : (schemas : List Schema) (draft : Draft) (form : Form) → draft.form ≡ form → IsSayable schemas (said_as form draft) → IsSayable schemas (said_as draft.form draft)
by_form schemas draft form e i = subst (λ (f : Form). IsSayable schemas (said_as f draft)) (sym e) i

pub row_ends : (schemas : List Schema) (key : Keys) (draft : Draft) → Tabled schemas key draft.table draft.schema → IsRow draft.form → ValuesFit (columns_for OfRow draft.schema) draft.values → values_spell draft.values ≡ true → IsSayable schemas (said_as draft.form draft)
row_ends schemas key draft t row fit spell = by_row draft.form refl row
  where
    fits : ValuesFit t.schema.columns draft.values
    fits = subst (λ (o : Option Schema). ValuesFit (columns_for OfRow o) draft.values) t.is fit

    by_row : (form : Form) → draft.form ≡ form → IsRow form → IsSayable schemas (said_as draft.form draft)
    by_row InsertForm e row = by_form schemas draft InsertForm e (record { fits = record { schema = t.schema; found = t.there; fits = fits }; spells = spell; said = tt })
    by_row ReplaceForm e row = by_form schemas draft ReplaceForm e (record { fits = record { schema = t.schema; found = t.there; fits = fits }; spells = spell; said = tt })
    by_row _ e row = absurd row

pub delete_ends : (schemas : List Schema) (key : Keys) (draft : Draft) → OnTable schemas key draft DeleteForm → WhereOk draft.schema draft.where_true → IsSayable schemas (said_as draft.form draft)
delete_ends schemas key draft t ok =
    let q = subst (λ (o : Option Schema). WhereOk o draft.where_true) t.0.is ok in
    by_form schemas draft DeleteForm t.1 (record { fits = record { schema = t.0.schema; found = t.0.there; fits = q.0 }; spells = q.1; said = tt })

some_spell : (schema : Schema) (sets : List Assignment) → SomeSets sets → assignments_spell schema sets ≡ true → sets_spell schema sets ≡ true
some_spell schema [] some h = absurd some
some_spell schema (assignment ∷ sets) some h = h

pub update_ends : (schemas : List Schema) (key : Keys) (draft : Draft) → Sets schemas key draft → SomeSets draft.sets → IsSayable schemas (said_as draft.form draft)
update_ends schemas key draft t some =
    let q = subst (λ (o : Option Schema). WhereOk o draft.where_true) t.0.is t.2 in
    let r = subst (λ (o : Option Schema). SetsOk o draft.sets) t.0.is t.3 in
    by_form schemas draft UpdateForm t.1 (record {
      fits = record { schema = t.0.schema; found = t.0.there; fits = (r.0, q.0) };
      spells = both_true (sets_spell t.0.schema draft.sets) (where_spells t.0.schema draft.where_true) (some_spell t.0.schema draft.sets some r.1) q.1;
      said = tt;
    })

pub read_ends : (schemas : List Schema) (key : Keys) (draft : Draft) → ReadsWhere schemas key draft → IsSayable schemas (said_as draft.form draft)
read_ends schemas key draft t =
    let q = subst (λ (o : Option Schema). WhereOk o draft.where_true) t.0.is t.2 in
    by_form schemas draft ReadForm t.1 (record { fits = record { schema = t.0.schema; found = t.0.there; fits = q.0 }; spells = q.1; said = refl })

pub check_ends : (schemas : List Schema) (key : Keys) (draft : Draft) → Edges schemas key draft → IsSayable schemas (said_as draft.form draft)
check_ends schemas key draft t =
    let q = subst (λ (o : Option Schema). EdgeOk o draft.lo) t.0.is t.3 in
    let r = subst (λ (o : Option Schema). EdgeOk o draft.hi) t.0.is t.4 in
    by_form schemas draft CheckForm t.1 (record {
      fits = record { schema = t.0.schema; found = t.0.there; fits = tt };
      spells = both_true (is_chunk draft.chunk) (edge_spells draft.lo && edge_spells draft.hi) t.2 (both_true (edge_spells draft.lo) (edge_spells draft.hi) q.1 r.1);
      said = (q.0, r.0);
    })

pub clear_ends : (schemas : List Schema) (key : Keys) (draft : Draft) → OnTable schemas key draft ClearForm → IsSayable schemas (said_as draft.form draft)
clear_ends schemas key draft t = by_form schemas draft ClearForm t.1 (record { fits = record { schema = t.0.schema; found = t.0.there; fits = tt }; spells = refl; said = tt })

-- ---- the source's checksum

drop_front : (xs ys : List ℕ) (n : ℕ) → n ≡ length xs → drop n (xs ++ ys) ≡ ys
drop_front [] ys zero e = refl
drop_front [] ys (suc n) e = absurd (omega arith)
drop_front (x ∷ xs) ys zero e = absurd (omega arith)
drop_front (x ∷ xs) ys (suc n) e = drop_front xs ys n (omega arith)

-- the bytes that the digits spell
record Spelled (crc : List ℕ) (r : Result (List ℕ) FromHexError) : Type 0 where
  bytes : IsBytes (bytes_or_none r)
  ends : length crc ≡ 32 → drop 16 (take 20 (bytes_or_none r ++ replicate 20 0)) ≡ replicate 4 0

spelled : (crc : List ℕ) (r : Result (List ℕ) FromHexError) → decode_of crc ≡ r → Spelled crc r
spelled crc (Ok bs) e =
    let q = decode_of-ok crc bs e in record {
      bytes = q.3;
      ends = λ l. let m : 16 ≡ length bs = (let n = q.2 in omega arith) in
          ap (drop 16) (take_front bs (replicate 20 0) 20 4 (omega arith)) ∙ drop_front bs (take 4 (replicate 20 0)) 16 m;
    }
spelled crc (Err error) e = record { bytes = λ i. omega arith; ends = λ l. refl }

is_xor : (crc : List ℕ) → IsXor (kind_of_crc crc) (xor_of_crc crc)
is_xor crc = by_kind (length crc == 32) refl
  where
    s : Spelled crc (decode_of crc)
    s = spelled crc (decode_of crc) refl

    bytes : IsBytes (xor_of_crc crc)
    bytes = taken_bytes 20 (bytes_or_none (decode_of crc) ++ replicate 20 0) (appended (bytes_or_none (decode_of crc)) (replicate 20 0) s.bytes (zeros 20))

    long : length (xor_of_crc crc) ≡ 20
    long = taken_long 20 (bytes_or_none (decode_of crc) ++ replicate 20 0) (let a = length-append (bytes_or_none (decode_of crc)) (replicate 20 0) in let zs : List ℕ = replicate 20 0 in let z : length zs ≡ 20 = refl in omega (arith, a, z))

    by_kind : (b : Bool) → (length crc == 32) ≡ b → IsXor (if b then Md5 else Sha1) (xor_of_crc crc)
    by_kind true e = record { long = long; bytes = bytes; ends = s.ends (equal (length crc) 32 e) }
    by_kind false e = record { long = long; bytes = bytes; ends = tt }

plain_digit : (byte : ℕ) → is_lower_digit byte ≡ true → (not (byte == 39) && is_text_byte byte) ≡ true
plain_digit byte e = grind (arith, nat_tests)

plain : (text : List ℕ) → are_lower_digits text ≡ true → are_plain text ≡ true
plain [] h = refl
plain (byte ∷ bytes) h = let q = both (is_lower_digit byte) (are_lower_digits bytes) h in both_true (not (byte == 39) && is_text_byte byte) (are_plain bytes) (plain_digit byte q.0) (plain bytes q.1)

crc_plain : (kind : DigestKind) (master : Digest) → IsBytes master.xor → are_plain (crc_text kind master) ≡ true
crc_plain Md5 master h = plain (encode_lower (take 16 master.xor)) (digits (take 16 master.xor) (taken_bytes 16 master.xor h))
crc_plain Sha1 master h = plain (encode_lower master.xor) (digits master.xor h)

pub master_ends : (schemas : List Schema) (key : Keys) (draft : Draft) → OnTable schemas key draft MasterForm → is_chunk draft.chunk ≡ true → is_count draft.count ≡ true → IsSayable schemas (said_as draft.form draft)
master_ends schemas key draft t chunk count =
    let x = is_xor draft.crc in
    let master : Digest = record { count = draft.count; xor = xor_of_crc draft.crc } in
    by_form schemas draft MasterForm t.1 (record {
      fits = record { schema = t.0.schema; found = t.0.there; fits = tt };
      spells = both_true (is_chunk draft.chunk) (is_count draft.count && are_plain (crc_text (kind_of_crc draft.crc) master)) chunk
          (both_true (is_count draft.count) (are_plain (crc_text (kind_of_crc draft.crc) master)) count (crc_plain (kind_of_crc draft.crc) master x.bytes));
      said = x;
    })
