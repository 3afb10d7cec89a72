-- What is written of a statement is a text of that statement, and of no other.
use Rattle.std.proofs.Common.{◌≡◌, ℕ, true, List, [], ◌∷◌, refl, sym, ◌∙◌, ap, subst}
use Rattle.std.specs.Prelude.{◌&&◌}
use Rattle.row_types.specs.declared.edges.Span.{Span}
use Rattle.row_types.specs.declared.table_schema.Schema.{Schema}
use Rattle.row_types.specs.Fit.{IsSchema}
use Rattle.row_digest.specs.Digest.{crc_text}
use Rattle.ptc_statement.specs.declared.statements.Statement.{Statement}
use Rattle.ptc_statement.specs.declared.statements.Statement.TheVariants.{Insert, Replace, Delete, Update, LockRead, Check, SetMaster, ClearChecks}
use Rattle.ptc_statement.specs.Effect.{table_of}
use Rattle.ptc_statement.specs.Fits.{StatementFits}
use Rattle.statement_tokens.specs.declared.words.Token.{Token}
use Rattle.statement_tokens.specs.declared.words.Word.{Word}
use Rattle.statement_tokens.specs.declared.words.Keyword.TheVariants as k
use Rattle.statement_tokens.specs.declared.words.Word.TheVariants as w
use Rattle.statement_tokens.specs.declared.text_ends.TextEnd.TheVariants.{Whole}
use Rattle.statement_grammar.specs.Sentence.{Keys, StatementDue, IntoDue, is_chunk, is_count}
use Rattle.statement_grammar.specs.FirstFault.{IsStatement, IsText, name_or, first_name, keys_of, keys_found, keys_in}
use Rattle.statement_grammar.specs.Draft.{InsertForm, ReplaceForm, nothing_known, table_from}
use Rattle.statement_text.specs.StatementTexts.{statement_text}
use Rattle.statement_text_laws.specs.SpelledWords.{words_of}
use Rattle.statement_text_laws.specs.StatementWords.{row_words, statement_words, statement_spells, sets_spell, where_spells, edge_spells, are_plain}
use Rattle.statement_text_laws.proofs.SpelledLemmas.{words_are_read}
use Rattle.statement_text_laws.proofs.StatementTextLemmas.{statements_are_spelled}
use Rattle.statement_text_laws.proofs.OneTextLemmas.{one_statement_of_text}
use Rattle.statement_round_trip.specs.RoundTrip.{HasOwnNames, IsSaid, WrittenIsRead, WrittenIsReadOnlySo, TextsDiffer}
use Rattle.statement_round_trip.proofs.NameLemmas.{named_table, each_at}
use Rattle.statement_round_trip.proofs.ReadLemmas.{Reads, step}
use Rattle.statement_round_trip.proofs.StatementReadLemmas.{Found, row_statement, delete_read, update_read, select_read}
use Rattle.statement_round_trip.proofs.ToolReadLemmas.{check_read, master_read, clear_read}
use Rattle.statement_grammar.proofs.BasicLemmas.{both}

statement_read : (schemas : List Schema) (schema : Schema) (statement : Statement) → Found schemas (table_of statement) schema → IsSchema schema → HasOwnNames schema → StatementFits schema statement → statement_spells schema statement ≡ true → IsSaid schema statement
    → Reads schemas (keys_of schema) StatementDue nothing_known (statement_words schema statement) statement
statement_read schemas schema (Insert table row) f is names fits h said =
    step schemas (keys_of schema) StatementDue nothing_known (record nothing_known { form = InsertForm }) (w.Keyword k.Insert) (w.Keyword k.Into ∷ w.Name schema.name ∷ w.Keyword k.Values ∷ row_words row) (Insert table row) IntoDue refl (λ place. refl) (λ place. refl)
    (row_statement schemas table schema InsertForm row (Insert table row) f is fits h refl)
statement_read schemas schema (Replace table row) f is names fits h said =
    step schemas (keys_of schema) StatementDue nothing_known (record nothing_known { form = ReplaceForm }) (w.Keyword k.Replace) (w.Keyword k.Into ∷ w.Name schema.name ∷ w.Keyword k.Values ∷ row_words row) (Replace table row) IntoDue refl (λ place. refl) (λ place. refl)
    (row_statement schemas table schema ReplaceForm row (Replace table row) f is fits h refl)
statement_read schemas schema (Delete table where_true) f is names fits h said = delete_read schemas table schema where_true f names fits h
statement_read schemas schema (Update table sets where_true) f is names fits h said =
    let q = both (sets_spell schema sets) (where_spells schema where_true) h in update_read schemas table schema sets where_true f names fits.0 fits.1 q.0 q.1
statement_read schemas schema (LockRead table mode span where_true) f is names fits h said =
    subst (λ (s : Span). Reads schemas (keys_of schema) StatementDue nothing_known (statement_words schema (LockRead table mode s where_true)) (LockRead table mode s where_true)) (sym said) (select_read schemas table schema mode where_true f names fits h)
statement_read schemas schema (Check table chunk span kind) f is names fits h said =
    let p = both (is_chunk chunk) (edge_spells span.lo && edge_spells span.hi) h in
    let q = both (edge_spells span.lo) (edge_spells span.hi) p.1 in check_read schemas (keys_of schema) table schema chunk span kind f is p.0 said.0 said.1 q.0 q.1
statement_read schemas schema (SetMaster table chunk kind master) f is names fits h said =
    let p = both (is_chunk chunk) (is_count master.count && are_plain (crc_text kind master)) h in
    let q = both (is_count master.count) (are_plain (crc_text kind master)) p.1 in master_read schemas (keys_of schema) table schema chunk kind master f p.0 q.0 said
statement_read schemas schema (ClearChecks table) f is names fits h said = clear_read schemas (keys_of schema) table schema f

-- ---- the table's keys

abbrev name_in : List Word → List ℕ
name_in [] = []
name_in (word ∷ words) = name_or word (name_in words)

first_is : (ts : List Token) → first_name ts ≡ name_in (words_of ts)
first_is [] = refl
first_is (t ∷ ts) = ap (name_or t.word) (first_is ts)

own_name : (schema : Schema) (statement : Statement) → name_in (statement_words schema statement) ≡ schema.name
own_name schema (Insert table row) = refl
own_name schema (Replace table row) = refl
own_name schema (Delete table where_true) = refl
own_name schema (Update table sets where_true) = refl
own_name schema (LockRead table mode span where_true) = refl
own_name schema (Check table chunk span kind) = refl
own_name schema (SetMaster table chunk kind master) = refl
own_name schema (ClearChecks table) = refl

keys_are : (schemas : List Schema) (table : ℕ) (schema : Schema) (statement : Statement) (ts : List Token) → Found schemas table schema → words_of ts ≡ statement_words schema statement → keys_in schemas ts ≡ keys_of schema
keys_are schemas table schema statement ts f e =
    ap (λ (name : List ℕ). keys_found (table_from 0 schemas name)) (first_is ts ∙ ap name_in e ∙ own_name schema statement) ∙ ap keys_found f

-- ---- texts

pub written_is_read : WrittenIsRead
written_is_read schemas statement names sayable =
    let found : Found schemas (table_of statement) schema = named_table schemas (table_of statement) schema names sayable.fits.found in
    let is : IsSchema schema = each_at IsSchema schemas (table_of statement) schema names.keys sayable.fits.found in
    let own : HasOwnNames schema = each_at HasOwnNames schemas (table_of statement) schema names.names sayable.fits.found in
    let i = words_are_read (statement_words schema statement) (statement_text schemas statement) (statements_are_spelled schemas schema statement sayable.fits.found own.columns own.name sayable.spells) in
    let j = statement_read schemas schema statement found is own sayable.fits.fits sayable.spells sayable.said i.0 i.3 in record {
      tokens = i.0;
      end = Whole i.1;
      are = i.2;
      is = subst (λ (key : Keys). IsStatement key schemas i.0 (Whole i.1) statement) (sym (keys_are schemas (table_of statement) schema statement i.0 found i.3)) (record {
        all = tt;
        whole = record { pieces = j.pieces; end = j.end; follows = j.follows; ends = j.ends; spelled = j.spelled };
        right = j.right;
        is = sym j.said;
      });
    }
  where
    schema : Schema
    schema = sayable.fits.schema

pub written_is_read_only_so : WrittenIsReadOnlySo
written_is_read_only_so schemas statement other names sayable is = one_statement_of_text schemas (statement_text schemas statement) other statement is (written_is_read schemas statement names sayable)

pub texts_differ : TextsDiffer
texts_differ schemas statement other names sayable so e =
    one_statement_of_text schemas (statement_text schemas statement) statement other (written_is_read schemas statement names sayable)
    (subst (λ (text : List ℕ). IsText schemas text other) (sym e) (written_is_read schemas other names so))
