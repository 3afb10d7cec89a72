-- A single token without a fault leads from what is known at a spot to what is known behind it.
use Rattle.std.proofs.Common.{◌≡◌, ℕ, pos, suc, ◌≤◌, ◌+◌, nat_lt, Bool, true, false, List, [], ◌∷◌, Option, None, Some, refl, sym, ◌∙◌, ap, subst, inl, inr, arith}
use Rattle.std.specs.Prelude.{neg_ℤ, length, if◌then◌else◌}
use Rattle.std.specs.Int.{w64, saturate_signed}
use Rattle.std.specs.List.{slice_get}
use Rattle.std.proofs.lemmas.Bool.Decides.{nat_tests}
use Rattle.row_types.specs.declared.values.Value.{Value}
use Rattle.row_types.specs.declared.values.Value.TheVariants.{Null, Text}
use Rattle.row_types.specs.declared.edges.Edge.{Edge}
use Rattle.row_types.specs.declared.edges.Edge.TheVariants as edge
use Rattle.row_types.specs.declared.digests.DigestKind.TheVariants.{Md5, Sha1}
use Rattle.row_types.specs.declared.lock_modes.LockMode.TheVariants.{Shared, Exclusive}
use Rattle.row_types.specs.declared.table_schema.Column.{Column}
use Rattle.row_types.specs.declared.table_schema.Schema.{Schema}
use Rattle.row_types.specs.Fit.{ValuesFit}
use Rattle.ptc_statement.specs.declared.expressions.Op.TheVariants as op
use Rattle.ptc_statement.specs.declared.conditions.Cond.{Cond}
use Rattle.ptc_statement.specs.declared.assignments.Assignment.{Assignment}
use Rattle.statement_tokens.specs.declared.words.Math.TheVariants.{Minus, Times}
use Rattle.statement_tokens.specs.declared.words.Keyword.TheVariants as k
use Rattle.statement_tokens.specs.declared.words.Word.{Word}
use Rattle.statement_tokens.specs.declared.words.Word.TheVariants as w
use Rattle.statement_tokens.proofs.ReservedLemmas.{some_is}
use Rattle.statement_grammar.specs.declared.text_faults.TextFault.TheVariants.{KeyAssigned}
use Rattle.statement_grammar.specs.Grammar.{same_bytes}
use Rattle.statement_grammar.specs.Kinds.{column_named}
use Rattle.statement_grammar.specs.Terms.{value_in, negative}
use Rattle.statement_grammar.specs.Sentence.{Spot, StatementDue, IntoDue, IntoTable, ValuesDue, OpenDue, LiteralDue, LiteralEnds, DigitsDue, FromDue, DeleteTable, WhereDue, CondDue, CondEnds, UpdateTable, SetDue, ColumnDue, EqualsDue, ExprDue, SetEnds, StarDue, SelectFrom, SelectTable, SelectWhere, SelectCond, LockDue, ForDue, InDue, ShareDue, ModeDue, ChunkTable, ChunkDue, ChunkNumber, EdgeFrom, EdgeDue, EdgeTo, UsingDue, KindDue, CountDue, CountNumber, CrcDue, CrcText, ClearTable, EndDue, NothingDue, End, Lower, Upper, Literals, OfRow, OfEdge, Checks, SetsMaster, is_chunk, is_count, is_crc, when_so, one, Keys}
use Rattle.statement_grammar.specs.FirstFault.{name_or, keys_found}
use Rattle.statement_grammar.specs.Draft.{column_assigned, Form, Draft, table_from, with_table, columns_of, columns_for, with_list, edge_at, with_token}
use Rattle.statement_grammar.specs.Faults.{literal_fault, value_fault, list_fault, assigned_fault, place_or, behind_table, table_fault, token_faults}
use Rattle.statement_text_laws.specs.StatementWords.{values_spell}
use Rattle.statement_round_trip.proofs.ValueReadLemmas.{no_comma}
use Rattle.statement_fit_laws.proofs.PrintLemmas.{Prints}
use Rattle.statement_fit_laws.proofs.ExprFitLemmas.{column_is_there}
use Rattle.statement_fit_laws.proofs.ValueFitLemmas.{SoFar, none_yet, value_more, number_right, text_right, null_right, all_there}
use Rattle.statement_fit_laws.proofs.GoodLemmas.{Tabled, KeysOf, ListBase, WhereOk, SetsOk, GivesTo, EdgeOk, Good}
use Rattle.statement_fit_laws.proofs.EndFitLemmas.{row_ends, delete_ends, update_ends, read_ends, check_ends, clear_ends, master_ends}

-- ---- the table

at_first : (from n : ℕ) → from ≡ n → n ≡ from + 0
at_first from n e = omega arith

behind_first : (from n k : ℕ) → n ≡ suc from + k → n ≡ from + suc k
behind_first from n k e = omega arith

table_there : (from n : ℕ) (schemas : List Schema) (name : List ℕ) (schema : Schema) → table_from from schemas name ≡ Some (n, schema) → (k : ℕ) × (n ≡ from + k) × (slice_get schemas k ≡ Some schema)
table_there from n [] name schema e = cc
table_there from n (first ∷ schemas) name schema e = by_name (same_bytes first.name name) e (table_there (suc from) n schemas name schema)
  where
    by_name : (b : Bool) → (if b then Some (from, first) else table_from (suc from) schemas name) ≡ Some (n, schema) → (table_from (suc from) schemas name ≡ Some (n, schema) → (k : ℕ) × (n ≡ suc from + k) × (slice_get schemas k ≡ Some schema))
        → (k : ℕ) × (n ≡ from + k) × (slice_get (first ∷ schemas) k ≡ Some schema)
    by_name true e later =
        let h : (from, first) ≡ (n, schema) = some_is (from, first) (n, schema) e in
        (0, at_first from n (ap (λ (p : ℕ × Schema). p.0) h), ap (λ (p : ℕ × Schema). Some p.1) h)
    by_name false e later = let i = later e in (suc i.0, behind_first from n i.0 i.1, i.2)

at_table : (schemas : List Schema) (key : Keys) (name : List ℕ) (d : Draft) (place : ℕ) (P : Draft → Type 0) → table_fault (table_from 0 schemas name) place ≡ [] → KeysOf schemas key name
    → ((table : ℕ) (schema : Schema) → Tabled schemas key table (Some schema) → P (record d { table = table; schema = Some schema })) → P (with_table d (table_from 0 schemas name))
at_table schemas key name d place P f keys go = by_table (table_from 0 schemas name) refl f
  where
    by_table : (o : Option (ℕ × Schema)) → table_from 0 schemas name ≡ o → table_fault o place ≡ [] → P (with_table d (table_from 0 schemas name))
    by_table None e f = cc
    by_table (Some found) e f =
        let i = table_there 0 found.0 schemas name found.1 e in
        let n : i.0 ≡ found.0 = (let a = i.1 in omega arith) in
        subst (λ (o : Option (ℕ × Schema)). P (with_table d o)) (sym e)
        (go found.0 found.1 (record { schema = found.1; is = refl; there = ap (slice_get schemas) (sym n) ∙ i.2; keys = keys ∙ ap keys_found e }))

base_table : (schemas : List Schema) (key : Keys) (of : Literals) (form : Form) (table : ℕ) (known : Option Schema) (chunk : ℕ) (lo : Edge) → ListBase schemas key of form table known chunk lo → Tabled schemas key table known
base_table schemas key OfRow form table known chunk lo g = g.0
base_table schemas key (OfEdge Lower) form table known chunk lo g = g.0
base_table schemas key (OfEdge Upper) form table known chunk lo g = g.0

-- ---- the fault of a token, where the table is known

unfault : {schemas : List Schema} {key : Keys} {table : ℕ} (of : Literals) (d : Draft) (word : Word) (place : ℕ) (known : Option Schema) → Tabled schemas key table known
    → ((columns : List Column) (n : ℕ) → literal_fault columns n word place ≡ value_fault columns n (slice_get columns n) word place) → behind_table known (LiteralDue of) d word place ≡ []
    → value_fault (columns_for of known) (length d.values) (slice_get (columns_for of known) (length d.values)) word place ≡ []
unfault of d word place known t same = subst (λ (o : Option Schema). behind_table o (LiteralDue of) d word place ≡ [] → value_fault (columns_for of o) (length d.values) (slice_get (columns_for of o) (length d.values)) word place ≡ []) (sym t.is)
    (λ f. sym (same (columns_of of t.schema) (length d.values)) ∙ f)

undigits : {schemas : List Schema} {key : Keys} {table : ℕ} (of : Literals) (d : Draft) (word : Word) (place : ℕ) (known : Option Schema) → Tabled schemas key table known
    → ((columns : List Column) (n : ℕ) → literal_fault columns n word (place_or d.minus place) ≡ value_fault columns n (slice_get columns n) word (place_or d.minus place)) → behind_table known (DigitsDue of) d word place ≡ []
    → value_fault (columns_for of known) (length d.values) (slice_get (columns_for of known) (length d.values)) word (place_or d.minus place) ≡ []
undigits of d word place known t same = subst (λ (o : Option Schema). behind_table o (DigitsDue of) d word place ≡ [] → value_fault (columns_for of o) (length d.values) (slice_get (columns_for of o) (length d.values)) word (place_or d.minus place) ≡ []) (sym t.is)
    (λ f. sym (same (columns_of of t.schema) (length d.values)) ∙ f)

ended : {schemas : List Schema} {key : Keys} (of : Literals) (d : Draft) (place : ℕ) → Tabled schemas key d.table d.schema → SoFar (columns_for of d.schema) d.values → behind_table d.schema (LiteralEnds of) d w.Close place ≡ [] → ValuesFit (columns_for of d.schema) d.values
ended of d place t i f =
    all_there (columns_for of d.schema) d.values place i
    (subst (λ (o : Option Schema). behind_table o (LiteralEnds of) d w.Close place ≡ [] → list_fault (columns_for of o) (length d.values) w.Close place ≡ []) (sym t.is) (λ f. f) f)

key_ok : {schemas : List Schema} {key : Keys} {table : ℕ} (known : Option Schema) (values : List Value) (end : End) (after : Bool) → Tabled schemas key table known → ValuesFit (columns_for (OfEdge end) known) values → values_spell values ≡ true → EdgeOk known (edge_at after values)
key_ok known values end after t = subst (λ (o : Option Schema). ValuesFit (columns_for (OfEdge end) o) values → values_spell values ≡ true → EdgeOk o (edge_at after values)) (sym t.is) (by_side after)
  where
    by_side : (b : Bool) → ValuesFit (columns_of (OfEdge end) t.schema) values → values_spell values ≡ true → EdgeOk (Some t.schema) (edge_at b values)
    by_side true h s = (h, s)
    by_side false h s = (h, s)

low_ok : {schemas : List Schema} {key : Keys} {table : ℕ} (known : Option Schema) → Tabled schemas key table known → EdgeOk known edge.Low
low_ok known t = subst (λ (o : Option Schema). EdgeOk o edge.Low) (sym t.is) (tt, refl)

high_ok : {schemas : List Schema} {key : Keys} {table : ℕ} (known : Option Schema) → Tabled schemas key table known → EdgeOk known edge.High
high_ok known t = subst (λ (o : Option Schema). EdgeOk o edge.High) (sym t.is) (tt, refl)

no_where : (schema : Schema) (condition : Option Cond) → condition ≡ None → WhereOk (Some schema) condition
no_where schema condition e = subst (WhereOk (Some schema)) (sym e) (tt, refl)

no_sets : (schema : Schema) (sets : List Assignment) → sets ≡ [] → SetsOk (Some schema) sets
no_sets schema sets e = subst (SetsOk (Some schema)) (sym e) (tt, refl)

gives : {schemas : List Schema} {key : Keys} {table : ℕ} (d : Draft) (name : List ℕ) (place : ℕ) (known : Option Schema) → Tabled schemas key table known → behind_table known ColumnDue d (w.Name name) place ≡ [] → GivesTo known (column_assigned known (w.Name name))
gives d name place known t = subst (λ (o : Option Schema). behind_table o ColumnDue d (w.Name name) place ≡ [] → GivesTo o (column_assigned o (w.Name name))) (sym t.is) (λ f. by_column (column_named t.schema name) refl f)
  where
    behind_key : (k : ℕ) (b : Bool) → nat_lt k t.schema.key_len ≡ b → (if b then KeyAssigned place ∷ [] else []) ≡ [] → t.schema.key_len ≤ k
    behind_key k false e f = grind (arith, nat_tests)
    behind_key k true e f = cc

    by_column : (o : Option ℕ) → column_named t.schema name ≡ o → assigned_fault t.schema o place ≡ [] → GivesTo (Some t.schema) o
    by_column None e f = cc
    by_column (Some k) e f = (behind_key k (nat_lt k t.schema.key_len) refl f, column_is_there t.schema name k e)

when_is : (b : Bool) (spot next : Spot) → when_so b spot ≡ Some next → (b ≡ true) × (spot ≡ next)
when_is true spot next e = (refl, some_is spot next e)
when_is false spot next e = cc

-- ---- each spot

pub step_good : (schemas : List Schema) (key : Keys) (name : List ℕ) (spot : Spot) (d : Draft) (word : Word) (place : ℕ) (next : Spot) → one spot word ≡ Some next → token_faults schemas spot d word place ≡ [] → Prints word
    → Good schemas key (name_or word name) spot d → Good schemas key name next (with_token schemas spot d word place)
step_good schemas key name StatementDue d (w.Keyword k.Insert) place next e f p g = subst (λ (s : Spot). Good schemas key name s (with_token schemas StatementDue d (w.Keyword k.Insert) place)) (some_is IntoDue next e) ((g.0, tt))
step_good schemas key name StatementDue d (w.Keyword k.Replace) place next e f p g = subst (λ (s : Spot). Good schemas key name s (with_token schemas StatementDue d (w.Keyword k.Replace) place)) (some_is IntoDue next e) ((g.0, tt))
step_good schemas key name StatementDue d (w.Keyword k.Delete) place next e f p g = subst (λ (s : Spot). Good schemas key name s (with_token schemas StatementDue d (w.Keyword k.Delete) place)) (some_is FromDue next e) ((g.0, refl, record { where_true = g.1.where_true; sets = g.1.sets }))
step_good schemas key name StatementDue d (w.Keyword k.Update) place next e f p g = subst (λ (s : Spot). Good schemas key name s (with_token schemas StatementDue d (w.Keyword k.Update) place)) (some_is UpdateTable next e) ((g.0, refl, record { where_true = g.1.where_true; sets = g.1.sets }))
step_good schemas key name StatementDue d (w.Keyword k.Select) place next e f p g = subst (λ (s : Spot). Good schemas key name s (with_token schemas StatementDue d (w.Keyword k.Select) place)) (some_is StarDue next e) ((g.0, refl, record { where_true = g.1.where_true; sets = g.1.sets }))
step_good schemas key name StatementDue d (w.Keyword k.Checksum) place next e f p g = subst (λ (s : Spot). Good schemas key name s (with_token schemas StatementDue d (w.Keyword k.Checksum) place)) (some_is (ChunkTable Checks) next e) ((g.0, refl))
step_good schemas key name StatementDue d (w.Keyword k.SetMaster) place next e f p g = subst (λ (s : Spot). Good schemas key name s (with_token schemas StatementDue d (w.Keyword k.SetMaster) place)) (some_is (ChunkTable SetsMaster) next e) ((g.0, refl))
step_good schemas key name StatementDue d (w.Keyword k.ClearChecks) place next e f p g = subst (λ (s : Spot). Good schemas key name s (with_token schemas StatementDue d (w.Keyword k.ClearChecks) place)) (some_is ClearTable next e) ((g.0, refl))
step_good schemas key name StatementDue d _ place next e f p g = cc
step_good schemas key name IntoDue d (w.Keyword k.Into) place next e f p g = subst (λ (s : Spot). Good schemas key name s (with_token schemas IntoDue d (w.Keyword k.Into) place)) (some_is IntoTable next e) (g)
step_good schemas key name IntoDue d _ place next e f p g = cc
step_good schemas key name IntoTable d (w.Name n) place next e f p g = subst (λ (s : Spot). Good schemas key name s (with_table d (table_from 0 schemas n))) (some_is ValuesDue next e) (at_table schemas key n d place (λ (x : Draft). Good schemas key name ValuesDue x) f g.0 (λ table schema t. (t, g.1)))
step_good schemas key name IntoTable d _ place next e f p g = cc
step_good schemas key name ValuesDue d (w.Keyword k.Values) place next e f p g = subst (λ (s : Spot). Good schemas key name s (with_token schemas ValuesDue d (w.Keyword k.Values) place)) (some_is (OpenDue OfRow) next e) (g)
step_good schemas key name ValuesDue d _ place next e f p g = cc
step_good schemas key name (OpenDue of) d w.Open place next e f p g = subst (λ (s : Spot). Good schemas key name s (with_token schemas (OpenDue of) d w.Open place)) (some_is (LiteralDue of) next e) ((g, none_yet (columns_for of d.schema)))
step_good schemas key name (OpenDue of) d _ place next e f p g = cc
step_good schemas key name (LiteralDue of) d (w.Number n) place next e f p g = subst (λ (s : Spot). Good schemas key name s (with_token schemas (LiteralDue of) d (w.Number n) place)) (some_is (LiteralEnds of) next e) ((g.0, value_more (columns_for of d.schema) d.values (w.Number n) (value_in (w.Number n)) place g.1 (unfault of d (w.Number n) place d.schema (base_table schemas key of d.form d.table d.schema d.chunk d.lo g.0) (λ columns n. refl) f) (λ column e. number_right (columns_for of d.schema) (length d.values) n place (saturate_signed w64 (pos n)) column e)))
step_good schemas key name (LiteralDue of) d (w.Text text) place next e f p g = subst (λ (s : Spot). Good schemas key name s (with_token schemas (LiteralDue of) d (w.Text text) place)) (some_is (LiteralEnds of) next e) ((g.0, value_more (columns_for of d.schema) d.values (w.Text text) (Text text) place g.1 (unfault of d (w.Text text) place d.schema (base_table schemas key of d.form d.table d.schema d.chunk d.lo g.0) (λ columns n. refl) f) (λ column e. text_right (columns_for of d.schema) (length d.values) place text column p e)))
step_good schemas key name (LiteralDue of) d w.Null place next e f p g = subst (λ (s : Spot). Good schemas key name s (with_token schemas (LiteralDue of) d w.Null place)) (some_is (LiteralEnds of) next e) ((g.0, value_more (columns_for of d.schema) d.values w.Null Null place g.1 (unfault of d w.Null place d.schema (base_table schemas key of d.form d.table d.schema d.chunk d.lo g.0) (λ columns n. refl) f) (λ column e. null_right (columns_for of d.schema) (length d.values) place column e)))
step_good schemas key name (LiteralDue of) d (w.Math Minus) place next e f p g = subst (λ (s : Spot). Good schemas key name s (with_token schemas (LiteralDue of) d (w.Math Minus) place)) (some_is (DigitsDue of) next e) (g)
step_good schemas key name (LiteralDue of) d _ place next e f p g = cc
step_good schemas key name (DigitsDue of) d (w.Number n) place next e f p g = subst (λ (s : Spot). Good schemas key name s (with_token schemas (DigitsDue of) d (w.Number n) place)) (some_is (LiteralEnds of) next e) ((g.0, value_more (columns_for of d.schema) d.values (w.Number n) (negative (w.Number n)) (place_or d.minus place) g.1 (undigits of d (w.Number n) place d.schema (base_table schemas key of d.form d.table d.schema d.chunk d.lo g.0) (λ columns n. refl) f) (λ column e. number_right (columns_for of d.schema) (length d.values) n (place_or d.minus place) (saturate_signed w64 (neg_ℤ (pos n))) column e)))
step_good schemas key name (DigitsDue of) d _ place next e f p g = cc
step_good schemas key name (LiteralEnds of) d w.Comma place next e f p g = subst (λ (s : Spot). Good schemas key name s (with_list of d w.Comma)) (some_is (LiteralDue of) next e) (subst (λ (x : Draft). Good schemas key name (LiteralDue of) x) (sym (no_comma of d)) g)
step_good schemas key name (LiteralEnds OfRow) d w.Close place next e f p g = subst (λ (s : Spot). Good schemas key name s (with_token schemas (LiteralEnds OfRow) d w.Close place)) (some_is EndDue next e) (row_ends schemas key d g.0.0 g.0.1 (ended OfRow d place g.0.0 g.1 f) g.1.spell)
step_good schemas key name (LiteralEnds (OfEdge Lower)) d w.Close place next e f p g = subst (λ (s : Spot). Good schemas key name s (with_token schemas (LiteralEnds (OfEdge Lower)) d w.Close place)) (some_is EdgeTo next e) ((g.0.0, g.0.1, g.0.2, key_ok d.schema d.values Lower d.is_after g.0.0 (ended (OfEdge Lower) d place g.0.0 g.1 f) g.1.spell))
step_good schemas key name (LiteralEnds (OfEdge Upper)) d w.Close place next e f p g = subst (λ (s : Spot). Good schemas key name s (with_token schemas (LiteralEnds (OfEdge Upper)) d w.Close place)) (some_is UsingDue next e) ((g.0.0, g.0.1, g.0.2, g.0.3, key_ok d.schema d.values Upper d.is_after g.0.0 (ended (OfEdge Upper) d place g.0.0 g.1 f) g.1.spell))
step_good schemas key name (LiteralEnds of) d _ place next e f p g = cc
step_good schemas key name FromDue d (w.Keyword k.From) place next e f p g = subst (λ (s : Spot). Good schemas key name s (with_token schemas FromDue d (w.Keyword k.From) place)) (some_is DeleteTable next e) (g)
step_good schemas key name FromDue d _ place next e f p g = cc
step_good schemas key name DeleteTable d (w.Name n) place next e f p g = subst (λ (s : Spot). Good schemas key name s (with_table d (table_from 0 schemas n))) (some_is WhereDue next e) (at_table schemas key n d place (λ (x : Draft). Good schemas key name WhereDue x) f g.0 (λ table schema t. ((t, g.1), no_where schema d.where_true g.2.where_true)))
step_good schemas key name DeleteTable d _ place next e f p g = cc
step_good schemas key name WhereDue d (w.Keyword k.Where) place next e f p g = subst (λ (s : Spot). Good schemas key name s (with_token schemas WhereDue d (w.Keyword k.Where) place)) (some_is CondDue next e) (inl g.0)
step_good schemas key name WhereDue d w.Semicolon place next e f p g = subst (λ (s : Spot). Good schemas key name s (with_token schemas WhereDue d w.Semicolon place)) (some_is NothingDue next e) (delete_ends schemas key d g.0 g.1)
step_good schemas key name WhereDue d _ place next e f p g = cc
step_good schemas key name CondDue d (w.Name n) place next e f p g = cc
step_good schemas key name CondDue d _ place next e f p g = cc
step_good schemas key name CondEnds d w.Semicolon place next e f p g = subst (λ (s : Spot). Good schemas key name s (with_token schemas CondEnds d w.Semicolon place)) (some_is NothingDue next e) (g)
step_good schemas key name CondEnds d _ place next e f p g = cc
step_good schemas key name UpdateTable d (w.Name n) place next e f p g = subst (λ (s : Spot). Good schemas key name s (with_table d (table_from 0 schemas n))) (some_is SetDue next e) (at_table schemas key n d place (λ (x : Draft). Good schemas key name SetDue x) f g.0 (λ table schema t. (t, g.1, no_where schema d.where_true g.2.where_true, no_sets schema d.sets g.2.sets)))
step_good schemas key name UpdateTable d _ place next e f p g = cc
step_good schemas key name SetDue d (w.Keyword k.Set) place next e f p g = subst (λ (s : Spot). Good schemas key name s (with_token schemas SetDue d (w.Keyword k.Set) place)) (some_is ColumnDue next e) (g)
step_good schemas key name SetDue d _ place next e f p g = cc
step_good schemas key name ColumnDue d (w.Name n) place next e f p g = subst (λ (s : Spot). Good schemas key name s (with_token schemas ColumnDue d (w.Name n) place)) (some_is EqualsDue next e) ((g, gives d n place d.schema g.0 f))
step_good schemas key name ColumnDue d _ place next e f p g = cc
step_good schemas key name EqualsDue d (w.Compare op.Eq) place next e f p g = subst (λ (s : Spot). Good schemas key name s (with_token schemas EqualsDue d (w.Compare op.Eq) place)) (some_is ExprDue next e) (g)
step_good schemas key name EqualsDue d _ place next e f p g = cc
step_good schemas key name ExprDue d (w.Name n) place next e f p g = cc
step_good schemas key name ExprDue d _ place next e f p g = cc
step_good schemas key name SetEnds d w.Comma place next e f p g = subst (λ (s : Spot). Good schemas key name s (with_token schemas SetEnds d w.Comma place)) (some_is ColumnDue next e) (g.0)
step_good schemas key name SetEnds d (w.Keyword k.Where) place next e f p g = subst (λ (s : Spot). Good schemas key name s (with_token schemas SetEnds d (w.Keyword k.Where) place)) (some_is CondDue next e) (inr g)
step_good schemas key name SetEnds d w.Semicolon place next e f p g = subst (λ (s : Spot). Good schemas key name s (with_token schemas SetEnds d w.Semicolon place)) (some_is NothingDue next e) (update_ends schemas key d g.0 g.1)
step_good schemas key name SetEnds d _ place next e f p g = cc
step_good schemas key name StarDue d (w.Math Times) place next e f p g = subst (λ (s : Spot). Good schemas key name s (with_token schemas StarDue d (w.Math Times) place)) (some_is SelectFrom next e) (g)
step_good schemas key name StarDue d _ place next e f p g = cc
step_good schemas key name SelectFrom d (w.Keyword k.From) place next e f p g = subst (λ (s : Spot). Good schemas key name s (with_token schemas SelectFrom d (w.Keyword k.From) place)) (some_is SelectTable next e) (g)
step_good schemas key name SelectFrom d _ place next e f p g = cc
step_good schemas key name SelectTable d (w.Name n) place next e f p g = subst (λ (s : Spot). Good schemas key name s (with_table d (table_from 0 schemas n))) (some_is SelectWhere next e) (at_table schemas key n d place (λ (x : Draft). Good schemas key name SelectWhere x) f g.0 (λ table schema t. (t, g.1, no_where schema d.where_true g.2.where_true)))
step_good schemas key name SelectTable d _ place next e f p g = cc
step_good schemas key name SelectWhere d (w.Keyword k.Where) place next e f p g = subst (λ (s : Spot). Good schemas key name s (with_token schemas SelectWhere d (w.Keyword k.Where) place)) (some_is SelectCond next e) (g)
step_good schemas key name SelectWhere d (w.Keyword k.For) place next e f p g = subst (λ (s : Spot). Good schemas key name s (with_token schemas SelectWhere d (w.Keyword k.For) place)) (some_is ForDue next e) (g)
step_good schemas key name SelectWhere d (w.Keyword k.Lock) place next e f p g = subst (λ (s : Spot). Good schemas key name s (with_token schemas SelectWhere d (w.Keyword k.Lock) place)) (some_is InDue next e) (g)
step_good schemas key name SelectWhere d _ place next e f p g = cc
step_good schemas key name SelectCond d (w.Name n) place next e f p g = cc
step_good schemas key name SelectCond d _ place next e f p g = cc
step_good schemas key name LockDue d (w.Keyword k.For) place next e f p g = subst (λ (s : Spot). Good schemas key name s (with_token schemas LockDue d (w.Keyword k.For) place)) (some_is ForDue next e) (g)
step_good schemas key name LockDue d (w.Keyword k.Lock) place next e f p g = subst (λ (s : Spot). Good schemas key name s (with_token schemas LockDue d (w.Keyword k.Lock) place)) (some_is InDue next e) (g)
step_good schemas key name LockDue d _ place next e f p g = cc
step_good schemas key name ForDue d (w.Keyword k.Update) place next e f p g = subst (λ (s : Spot). Good schemas key name s (with_token schemas ForDue d (w.Keyword k.Update) place)) (some_is EndDue next e) (read_ends schemas key (record d { mode = Exclusive }) g)
step_good schemas key name ForDue d (w.Keyword k.Share) place next e f p g = subst (λ (s : Spot). Good schemas key name s (with_token schemas ForDue d (w.Keyword k.Share) place)) (some_is EndDue next e) (read_ends schemas key (record d { mode = Shared }) g)
step_good schemas key name ForDue d _ place next e f p g = cc
step_good schemas key name InDue d (w.Keyword k.In) place next e f p g = subst (λ (s : Spot). Good schemas key name s (with_token schemas InDue d (w.Keyword k.In) place)) (some_is ShareDue next e) (g)
step_good schemas key name InDue d _ place next e f p g = cc
step_good schemas key name ShareDue d (w.Keyword k.Share) place next e f p g = subst (λ (s : Spot). Good schemas key name s (with_token schemas ShareDue d (w.Keyword k.Share) place)) (some_is ModeDue next e) (g)
step_good schemas key name ShareDue d _ place next e f p g = cc
step_good schemas key name ModeDue d (w.Keyword k.Mode) place next e f p g = subst (λ (s : Spot). Good schemas key name s (with_token schemas ModeDue d (w.Keyword k.Mode) place)) (some_is EndDue next e) (read_ends schemas key (record d { mode = Shared }) g)
step_good schemas key name ModeDue d _ place next e f p g = cc
step_good schemas key name (ChunkTable tool) d (w.Name n) place next e f p g = subst (λ (s : Spot). Good schemas key name s (with_table d (table_from 0 schemas n))) (some_is (ChunkDue tool) next e) (at_table schemas key n d place (λ (x : Draft). Good schemas key name (ChunkDue tool) x) f g.0 (λ table schema t. (t, g.1)))
step_good schemas key name (ChunkTable tool) d _ place next e f p g = cc
step_good schemas key name (ChunkDue tool) d (w.Keyword k.Chunk) place next e f p g = subst (λ (s : Spot). Good schemas key name s (with_token schemas (ChunkDue tool) d (w.Keyword k.Chunk) place)) (some_is (ChunkNumber tool) next e) (g)
step_good schemas key name (ChunkDue tool) d _ place next e f p g = cc
step_good schemas key name (ChunkNumber Checks) d (w.Number n) place next e f p g = let q = when_is (is_chunk n) EdgeFrom next e in subst (λ (s : Spot). Good schemas key name s (with_token schemas (ChunkNumber Checks) d (w.Number n) place)) q.1 ((g.0, g.1, q.0))
step_good schemas key name (ChunkNumber SetsMaster) d (w.Number n) place next e f p g = let q = when_is (is_chunk n) CountDue next e in subst (λ (s : Spot). Good schemas key name s (with_token schemas (ChunkNumber SetsMaster) d (w.Number n) place)) q.1 ((g, q.0))
step_good schemas key name (ChunkNumber tool) d _ place next e f p g = cc
step_good schemas key name EdgeFrom d (w.Keyword k.From) place next e f p g = subst (λ (s : Spot). Good schemas key name s (with_token schemas EdgeFrom d (w.Keyword k.From) place)) (some_is (EdgeDue Lower) next e) (g)
step_good schemas key name EdgeFrom d _ place next e f p g = cc
step_good schemas key name (EdgeDue Lower) d (w.Keyword k.Low) place next e f p g = subst (λ (s : Spot). Good schemas key name s (with_token schemas (EdgeDue Lower) d (w.Keyword k.Low) place)) (some_is EdgeTo next e) ((g.0, g.1, g.2, low_ok d.schema g.0))
step_good schemas key name (EdgeDue Upper) d (w.Keyword k.Low) place next e f p g = subst (λ (s : Spot). Good schemas key name s (with_token schemas (EdgeDue Upper) d (w.Keyword k.Low) place)) (some_is UsingDue next e) ((g.0, g.1, g.2, g.3, low_ok d.schema g.0))
step_good schemas key name (EdgeDue Lower) d (w.Keyword k.High) place next e f p g = subst (λ (s : Spot). Good schemas key name s (with_token schemas (EdgeDue Lower) d (w.Keyword k.High) place)) (some_is EdgeTo next e) ((g.0, g.1, g.2, high_ok d.schema g.0))
step_good schemas key name (EdgeDue Upper) d (w.Keyword k.High) place next e f p g = subst (λ (s : Spot). Good schemas key name s (with_token schemas (EdgeDue Upper) d (w.Keyword k.High) place)) (some_is UsingDue next e) ((g.0, g.1, g.2, g.3, high_ok d.schema g.0))
step_good schemas key name (EdgeDue end) d (w.Keyword k.Before) place next e f p g = subst (λ (s : Spot). Good schemas key name s (with_token schemas (EdgeDue end) d (w.Keyword k.Before) place)) (some_is (OpenDue (OfEdge end)) next e) (g)
step_good schemas key name (EdgeDue end) d (w.Keyword k.After) place next e f p g = subst (λ (s : Spot). Good schemas key name s (with_token schemas (EdgeDue end) d (w.Keyword k.After) place)) (some_is (OpenDue (OfEdge end)) next e) (g)
step_good schemas key name (EdgeDue end) d _ place next e f p g = cc
step_good schemas key name EdgeTo d (w.Keyword k.To) place next e f p g = subst (λ (s : Spot). Good schemas key name s (with_token schemas EdgeTo d (w.Keyword k.To) place)) (some_is (EdgeDue Upper) next e) (g)
step_good schemas key name EdgeTo d _ place next e f p g = cc
step_good schemas key name UsingDue d (w.Keyword k.Using) place next e f p g = subst (λ (s : Spot). Good schemas key name s (with_token schemas UsingDue d (w.Keyword k.Using) place)) (some_is KindDue next e) (g)
step_good schemas key name UsingDue d _ place next e f p g = cc
step_good schemas key name KindDue d (w.Keyword k.Md5) place next e f p g = subst (λ (s : Spot). Good schemas key name s (with_token schemas KindDue d (w.Keyword k.Md5) place)) (some_is EndDue next e) (check_ends schemas key (record d { kind = Md5 }) g)
step_good schemas key name KindDue d (w.Keyword k.Sha1) place next e f p g = subst (λ (s : Spot). Good schemas key name s (with_token schemas KindDue d (w.Keyword k.Sha1) place)) (some_is EndDue next e) (check_ends schemas key (record d { kind = Sha1 }) g)
step_good schemas key name KindDue d _ place next e f p g = cc
step_good schemas key name CountDue d (w.Keyword k.Cnt) place next e f p g = subst (λ (s : Spot). Good schemas key name s (with_token schemas CountDue d (w.Keyword k.Cnt) place)) (some_is CountNumber next e) (g)
step_good schemas key name CountDue d _ place next e f p g = cc
step_good schemas key name CountNumber d (w.Number n) place next e f p g = let q = when_is (is_count n) CrcDue next e in subst (λ (s : Spot). Good schemas key name s (with_token schemas CountNumber d (w.Number n) place)) q.1 ((g.0, g.1, q.0))
step_good schemas key name CountNumber d _ place next e f p g = cc
step_good schemas key name CrcDue d (w.Keyword k.Crc) place next e f p g = subst (λ (s : Spot). Good schemas key name s (with_token schemas CrcDue d (w.Keyword k.Crc) place)) (some_is CrcText next e) (g)
step_good schemas key name CrcDue d _ place next e f p g = cc
step_good schemas key name CrcText d (w.Text text) place next e f p g = let q = when_is (is_crc text) EndDue next e in subst (λ (s : Spot). Good schemas key name s (with_token schemas CrcText d (w.Text text) place)) q.1 (master_ends schemas key (record d { crc = text }) g.0 g.1 g.2)
step_good schemas key name CrcText d _ place next e f p g = cc
step_good schemas key name ClearTable d (w.Name n) place next e f p g = subst (λ (s : Spot). Good schemas key name s (with_table d (table_from 0 schemas n))) (some_is EndDue next e) (at_table schemas key n d place (λ (x : Draft). Good schemas key name EndDue x) f g.0 (λ table schema t. clear_ends schemas key (record d { table = table; schema = Some schema }) (t, g.1)))
step_good schemas key name ClearTable d _ place next e f p g = cc
step_good schemas key name EndDue d w.Semicolon place next e f p g = subst (λ (s : Spot). Good schemas key name s (with_token schemas EndDue d w.Semicolon place)) (some_is NothingDue next e) (g)
step_good schemas key name EndDue d _ place next e f p g = cc
step_good schemas key name NothingDue d (w.Name n) place next e f p g = cc
step_good schemas key name NothingDue d _ place next e f p g = cc
