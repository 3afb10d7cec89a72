-- The text of a statement spells its words.
use Rattle.std.proofs.Common.{◌≡◌, ℕ, Bool, true, false, List, [], ◌∷◌, ◌++◌, Option, Some, None, refl, sym, ◌∙◌, ap, subst, ◌≤◌, arith, append_assoc}
use Rattle.std.specs.Prelude.{◌&&◌, ◌==◌, not, codes, is_some, if◌then◌else◌}
use Rattle.std.specs.List.{AllByRecursion, slice_get}
use Rattle.std.specs.Option.{option_map_or}
use Rattle.std.specs.Fmt.{decimal}
use Rattle.std.proofs.lemmas.Bool.Decides.{nat_tests}
use Rattle.statement_grammar.specs.Sentence.{is_chunk, is_count}
use Rattle.row_types.specs.declared.values.Value.{Value}
use Rattle.row_types.specs.declared.edges.Edge.{Edge}
use Rattle.row_types.specs.declared.edges.Edge.TheVariants as edge
use Rattle.row_types.specs.declared.edges.Span.{Span}
use Rattle.row_types.specs.declared.digests.Digest.{Digest}
use Rattle.row_digest.specs.Digest.{crc_text}
use Rattle.row_types.specs.declared.digests.DigestKind.{DigestKind}
use Rattle.row_types.specs.declared.digests.DigestKind.TheVariants.{Md5, Sha1}
use Rattle.row_types.specs.declared.lock_modes.LockMode.{LockMode}
use Rattle.row_types.specs.declared.lock_modes.LockMode.TheVariants.{Shared, Exclusive}
use Rattle.row_types.specs.declared.table_schema.Schema.{Schema}
use Rattle.ptc_statement.specs.declared.expressions.Op.TheVariants as op
use Rattle.ptc_statement.specs.declared.conditions.Cond.{Cond}
use Rattle.ptc_statement.specs.declared.assignments.Assignment.{Assignment}
use Rattle.ptc_statement.specs.declared.statements.Statement.TheVariants.{Insert, Replace, Delete, Update, LockRead, Check, SetMaster, ClearChecks}
use Rattle.statement_tokens.specs.declared.words.Math.TheVariants.{Times}
use Rattle.statement_tokens.specs.declared.words.Keyword.TheVariants as k
use Rattle.statement_tokens.specs.declared.words.Word.{Word}
use Rattle.statement_tokens.specs.declared.words.Word.TheVariants as w
use Rattle.statement_tokens.specs.Spellings.{IsNameText, is_text_byte, doubled}
use Rattle.statement_tokens.specs.Tokens.{TokenAt}
use Rattle.statement_text.specs.Texts.{name_of, value_text, values_on, tuple_text, edge_text, span_text, digest_kind_text}
use Rattle.statement_text.specs.StatementTexts.{assignment_text, assignments_on, assignments_text, where_text, insert_word, replace_word, select_word, lock_text, delete_word, clear_word, chunk_text, summed_text, master_text, statement_text}
use Rattle.statement_text.specs.ConditionTexts.{cond_text, expr_text, column_name}
use Rattle.statement_text_laws.specs.SpelledWords.{Spelled, words_of, ends_token, literal_spells, expr_spells, HasNames}
use Rattle.statement_grammar.specs.Grammar.{tokens_of}
use Rattle.statement_text_laws.specs.Canonical.{expr_tree, name_at}
use Rattle.statement_text_laws.specs.StatementWords.{are_plain, edge_words, kind_word, span_words, edge_spells, assignment_words, assignments_words_on, assignments_words, assignment_spells, assignments_spell, value_words, values_words_on, row_words, where_words, lock_words, statement_words, values_spell, where_spells, StatementsAreSpelled}
use Rattle.statement_tokens.proofs.NumberLemmas.{decimal_spells}
use Rattle.statement_text_laws.proofs.SpelledLemmas.{joined, spaced, one, before_others, stops}
use Rattle.statement_text_laws.proofs.ExprTextLemmas.{number_token, expr_is_spelled, cell_written, open_token, close_token, value_spelled}
use Rattle.statement_text_laws.proofs.CondTextLemmas.{between, comma_token, some_value, name_spelled, cond_is_spelled}
use Rattle.statement_grammar.proofs.BasicLemmas.{both}

-- ---- rows

on_ends : (values : List Value) (rest : List ℕ) → ends_token rest ≡ true → ends_token (values_on values ++ rest) ≡ true
on_ends [] rest e = e
on_ends (value ∷ values) rest e = refl

more_words : (value : Value) (more : List Word) → value_words value ++ more ≡ [] → ⊥
more_words value more e = some_value value (left (value_words value) more e)
  where
    left : (a b : List Word) → a ++ b ≡ [] → a ≡ []
    left [] b e = refl
    left (x ∷ a) b e = cc

values_on_spelled : (values : List Value) (rest : List ℕ) → values_spell values ≡ true → ends_token rest ≡ true → Spelled (values_words_on values) (values_on values) rest
values_on_spelled [] rest h e = refl
values_on_spelled (value ∷ values) rest h e =
    let p = both (literal_spells value) (values_spell values) h in
    before_others w.Comma (value_words value ++ values_words_on values) (codes ",") (32 ∷ (value_text value ++ values_on values)) rest (comma_token _)
    (spaced (value_words value ++ values_words_on values) (value_text value ++ values_on values) rest (more_words value (values_words_on values))
    (joined (value_words value) (values_words_on values) (value_text value) (values_on values) rest (value_spelled value (values_on values ++ rest) p.0 (on_ends values rest e)) (values_on_spelled values rest p.1 e)))

row_spelled : (row : List Value) (rest : List ℕ) → values_spell row ≡ true → Spelled (row_words row) (tuple_text row) rest
unfolding tuple_text
row_spelled [] rest h = before_others w.Open (w.Close ∷ []) (codes "(") (codes ")") rest (open_token _) (one w.Close (codes ")") rest (close_token rest))
row_spelled (value ∷ values) rest h =
    let p = both (literal_spells value) (values_spell values) h in
    before_others w.Open ((value_words value ++ values_words_on values) ++ w.Close ∷ []) (codes "(") ((value_text value ++ values_on values) ++ codes ")") rest (open_token _)
    (joined (value_words value ++ values_words_on values) (w.Close ∷ []) (value_text value ++ values_on values) (codes ")") rest
    (joined (value_words value) (values_words_on values) (value_text value) (values_on values) (41 ∷ rest) (value_spelled value (values_on values ++ (41 ∷ rest)) p.0 (on_ends values (41 ∷ rest) refl)) (values_on_spelled values (41 ∷ rest) p.1 refl))
    (one w.Close (codes ")") rest (close_token rest)))

row_some : (row : List Value) → row_words row ≡ [] → ⊥
row_some [] e = cc
row_some (value ∷ values) e = cc

-- ---- WHERE and the locks

where_spelled : (schemas : List Schema) (table : ℕ) (schema : Schema) (where_true : Option Cond) (rest : List ℕ) → slice_get schemas table ≡ Some schema → HasNames schema → where_spells schema where_true ≡ true → ends_token rest ≡ true
    → Spelled (where_words schema where_true) (where_text schemas table where_true) rest
unfolding where_text
where_spelled schemas table schema None rest f n h e = refl
where_spelled schemas table schema (Some condition) rest f n h e =
    let i = cond_is_spelled schemas table schema f n condition h in
    between (w.Keyword k.Where) (codes "WHERE") _ (cond_text schemas table condition) rest (record { spelled = refl; longest = refl; bits = tt }) i.some (i.spelled rest e)

where_ends : (schemas : List Schema) (table : ℕ) (where_true : Option Cond) (rest : List ℕ) → ends_token rest ≡ true → ends_token (where_text schemas table where_true ++ rest) ≡ true
unfolding where_text
where_ends schemas table None rest e = e
where_ends schemas table (Some condition) rest e = refl

lock_spelled : (mode : LockMode) → Spelled (lock_words mode) (lock_text mode) []
unfolding lock_text
lock_spelled Shared = between (w.Keyword k.For) (codes "FOR") (w.Keyword k.Share ∷ []) (codes "SHARE") [] (record { spelled = refl; longest = refl; bits = tt }) (λ e. cc) (one (w.Keyword k.Share) (codes "SHARE") [] (record { spelled = refl; longest = tt; bits = tt }))
lock_spelled Exclusive = between (w.Keyword k.For) (codes "FOR") (w.Keyword k.Update ∷ []) (codes "UPDATE") [] (record { spelled = refl; longest = refl; bits = tt }) (λ e. cc) (one (w.Keyword k.Update) (codes "UPDATE") [] (record { spelled = refl; longest = tt; bits = tt }))

lock_ends : (mode : LockMode) → ends_token (lock_text mode ++ []) ≡ true
unfolding lock_text
lock_ends Shared = refl
lock_ends Exclusive = refl

-- ---- edges

edge_spelled : (edge : Edge) (rest : List ℕ) → edge_spells edge ≡ true → ends_token rest ≡ true → Spelled (edge_words edge) (edge_text edge) rest
unfolding edge_text
edge_spelled edge.Low rest h e = one (w.Keyword k.Low) (codes "LOW") rest (record { spelled = refl; longest = stops (w.Keyword k.Low) rest e; bits = tt })
edge_spelled edge.High rest h e = one (w.Keyword k.High) (codes "HIGH") rest (record { spelled = refl; longest = stops (w.Keyword k.High) rest e; bits = tt })
edge_spelled (edge.Before key) rest h e = before_others (w.Keyword k.Before) (row_words key) (codes "BEFORE") (32 ∷ tuple_text key) rest (record { spelled = refl; longest = refl; bits = tt }) (spaced (row_words key) (tuple_text key) rest (row_some key) (row_spelled key rest h))
edge_spelled (edge.After key) rest h e = before_others (w.Keyword k.After) (row_words key) (codes "AFTER") (32 ∷ tuple_text key) rest (record { spelled = refl; longest = refl; bits = tt }) (spaced (row_words key) (tuple_text key) rest (row_some key) (row_spelled key rest h))

edge_some : (edge : Edge) (more : List Word) → edge_words edge ++ more ≡ [] → ⊥
edge_some edge.Low more e = cc
edge_some edge.High more e = cc
edge_some (edge.Before key) more e = cc
edge_some (edge.After key) more e = cc

only_edge : (edge : Edge) → edge_words edge ≡ [] → ⊥
only_edge edge.Low e = cc
only_edge edge.High e = cc
only_edge (edge.Before key) e = cc
only_edge (edge.After key) e = cc

span_spelled : (span : Span) (rest : List ℕ) → edge_spells span.lo ≡ true → edge_spells span.hi ≡ true → ends_token rest ≡ true → Spelled (span_words span) (span_text span) rest
unfolding span_text
span_spelled span rest h i e =
    before_others (w.Keyword k.From) (edge_words span.lo ++ (w.Keyword k.To ∷ edge_words span.hi)) (codes "FROM") (32 ∷ ((edge_text span.lo ++ codes " TO ") ++ edge_text span.hi)) rest (record { spelled = refl; longest = refl; bits = tt })
    (spaced (edge_words span.lo ++ (w.Keyword k.To ∷ edge_words span.hi)) ((edge_text span.lo ++ codes " TO ") ++ edge_text span.hi) rest (edge_some span.lo (w.Keyword k.To ∷ edge_words span.hi))
    (subst (λ (l : List ℕ). Spelled (edge_words span.lo ++ (w.Keyword k.To ∷ edge_words span.hi)) l rest) (sym (append_assoc (edge_text span.lo) (codes " TO ") (edge_text span.hi)))
    (joined (edge_words span.lo) (w.Keyword k.To ∷ edge_words span.hi) (edge_text span.lo) (codes " TO " ++ edge_text span.hi) rest (edge_spelled span.lo ((codes " TO " ++ edge_text span.hi) ++ rest) h refl)
    (between (w.Keyword k.To) (codes "TO") (edge_words span.hi) (edge_text span.hi) rest (record { spelled = refl; longest = refl; bits = tt }) (only_edge span.hi) (edge_spelled span.hi rest i e)))))

using_spelled : (kind : DigestKind) → Spelled (w.Keyword k.Using ∷ kind_word kind ∷ []) (codes " USING " ++ digest_kind_text kind) []
unfolding digest_kind_text
using_spelled Md5 = between (w.Keyword k.Using) (codes "USING") (w.Keyword k.Md5 ∷ []) (codes "MD5") [] (record { spelled = refl; longest = refl; bits = tt }) (λ e. cc) (one (w.Keyword k.Md5) (codes "MD5") [] (record { spelled = refl; longest = tt; bits = tt }))
using_spelled Sha1 = between (w.Keyword k.Using) (codes "USING") (w.Keyword k.Sha1 ∷ []) (codes "SHA1") [] (record { spelled = refl; longest = refl; bits = tt }) (λ e. cc) (one (w.Keyword k.Sha1) (codes "SHA1") [] (record { spelled = refl; longest = tt; bits = tt }))

chunk_low : (n : ℕ) → is_chunk n ≡ true → n ≤ 9223372036854775808
chunk_low n h = grind (arith, nat_tests)

-- ---- the source's checksum

abbrev master_words : DigestKind → Digest → List Word
master_words kind master = w.Keyword k.Cnt ∷ w.Number master.count ∷ w.Keyword k.Crc ∷ w.Text (crc_text kind master) ∷ []

plain_bytes : (bytes : List ℕ) → are_plain bytes ≡ true → (doubled bytes ≡ bytes) × AllByRecursion (λ (byte : ℕ). is_text_byte byte ≡ true) bytes
plain_bytes [] h = (refl, tt)
plain_bytes (byte ∷ bytes) h =
    let p = both (not (byte == 39) && is_text_byte byte) (are_plain bytes) h in
    let q = both (not (byte == 39)) (is_text_byte byte) p.0 in
    let i = plain_bytes bytes p.1 in
    (ap (λ (b : Bool). if b then 39 ∷ (39 ∷ doubled bytes) else byte ∷ doubled bytes) (no_quote (byte == 39) q.0) ∙ ap (λ (l : List ℕ). byte ∷ l) i.0, (q.1, i.1))
  where
    no_quote : (b : Bool) → not b ≡ true → b ≡ false
    no_quote true e = cc
    no_quote false e = refl

count_low : (n : ℕ) → is_count n ≡ true → n ≤ 18446744073709551615
count_low n h = grind (arith, nat_tests)

count_token : (n : ℕ) (rest : List ℕ) → n ≤ 18446744073709551615 → ends_token rest ≡ true → TokenAt false (w.Number n) (decimal n) rest
count_token n rest h e = record { spelled = decimal_spells n (omega arith); longest = stops (w.Number n) rest e; bits = omega arith }

master_spelled : (kind : DigestKind) (master : Digest) → is_count master.count ≡ true → are_plain (crc_text kind master) ≡ true
    → Spelled (master_words kind master) ((((codes " CNT " ++ decimal master.count) ++ codes " CRC '") ++ crc_text kind master) ++ codes "'") []
master_spelled kind master c h =
    let i = plain_bytes (crc_text kind master) h in
    let quoted : Spelled (w.Text (crc_text kind master) ∷ []) (39 ∷ (crc_text kind master ++ codes "'")) [] =
    one (w.Text (crc_text kind master)) (39 ∷ (crc_text kind master ++ codes "'")) [] (record { spelled = record { is = ap (λ (l : List ℕ). 39 ∷ (l ++ codes "'")) (sym i.0); bytes = i.1 }; longest = tt; bits = tt }) in
    subst (λ (l : List ℕ). Spelled (master_words kind master) l [])
    (sym (append_assoc ((codes " CNT " ++ decimal master.count) ++ codes " CRC '") (crc_text kind master) (codes "'") ∙ append_assoc (codes " CNT " ++ decimal master.count) (codes " CRC '") (crc_text kind master ++ codes "'")))
    (between (w.Keyword k.Cnt) (codes "CNT") (w.Number master.count ∷ w.Keyword k.Crc ∷ w.Text (crc_text kind master) ∷ []) (decimal master.count ++ (codes " CRC '" ++ (crc_text kind master ++ codes "'"))) [] (record { spelled = refl; longest = refl; bits = tt }) (λ e. cc)
    (joined (w.Number master.count ∷ []) (w.Keyword k.Crc ∷ w.Text (crc_text kind master) ∷ []) (decimal master.count) (codes " CRC '" ++ (crc_text kind master ++ codes "'")) []
    (one (w.Number master.count) (decimal master.count) _ (count_token master.count _ (count_low master.count c) refl))
    (between (w.Keyword k.Crc) (codes "CRC") (w.Text (crc_text kind master) ∷ []) (39 ∷ (crc_text kind master ++ codes "'")) [] (record { spelled = refl; longest = refl; bits = tt }) (λ e. cc) quoted)))

-- ---- assignments

assignment_spelled : (schemas : List Schema) (table : ℕ) (schema : Schema) (assignment : Assignment) (rest : List ℕ) → slice_get schemas table ≡ Some schema → HasNames schema → assignment_spells schema assignment ≡ true → ends_token rest ≡ true
    → Spelled (assignment_words schema assignment) (assignment_text schemas table assignment) rest
unfolding assignment_text
assignment_spelled schemas table schema assignment rest f n h e =
    let p = both (is_some (slice_get schema.columns assignment.column)) (expr_spells schema assignment.expr) h in
    let i = expr_is_spelled schemas table schema f n assignment.expr p.1 in
    let c = cell_written schemas table schema assignment.column f n p.0 in
    subst (λ (l : List ℕ). Spelled (assignment_words schema assignment) l rest) (sym (append_assoc (column_name schemas table assignment.column) (codes " = ") (expr_text schemas table assignment.expr)))
    (joined (w.Name (name_at schema assignment.column) ∷ []) (w.Compare op.Eq ∷ words_of (tokens_of (expr_tree schema assignment.expr))) (column_name schemas table assignment.column) (codes " = " ++ expr_text schemas table assignment.expr) rest
    (c.spelled ((codes " = " ++ expr_text schemas table assignment.expr) ++ rest) refl)
    (between (w.Compare op.Eq) (codes "=") (words_of (tokens_of (expr_tree schema assignment.expr))) (expr_text schemas table assignment.expr) rest (record { spelled = refl; longest = refl; bits = tt }) i.some (i.spelled rest e)))

assignments_end : (schemas : List Schema) (table : ℕ) (assignments : List Assignment) (rest : List ℕ) → ends_token rest ≡ true → ends_token (assignments_on schemas table assignments ++ rest) ≡ true
assignments_end schemas table [] rest e = e
assignments_end schemas table (assignment ∷ assignments) rest e = refl

assignments_spelled : (schemas : List Schema) (table : ℕ) (schema : Schema) (assignments : List Assignment) (rest : List ℕ) → slice_get schemas table ≡ Some schema → HasNames schema → assignments_spell schema assignments ≡ true → ends_token rest ≡ true
    → Spelled (assignments_words_on schema assignments) (assignments_on schemas table assignments) rest
assignments_spelled schemas table schema [] rest f n h e = refl
assignments_spelled schemas table schema (assignment ∷ assignments) rest f n h e =
    let p = both (assignment_spells schema assignment) (assignments_spell schema assignments) h in
    before_others w.Comma (assignment_words schema assignment ++ assignments_words_on schema assignments) (codes ",") (32 ∷ (assignment_text schemas table assignment ++ assignments_on schemas table assignments)) rest (comma_token _)
    (spaced (assignment_words schema assignment ++ assignments_words_on schema assignments) (assignment_text schemas table assignment ++ assignments_on schemas table assignments) rest (λ e. cc)
    (joined (assignment_words schema assignment) (assignments_words_on schema assignments) (assignment_text schemas table assignment) (assignments_on schemas table assignments) rest
    (assignment_spelled schemas table schema assignment (assignments_on schemas table assignments ++ rest) f n p.0 (assignments_end schemas table assignments rest e))
    (assignments_spelled schemas table schema assignments rest f n p.1 e)))

-- ---- statements

-- a keyword, and what stands behind a space
keyword_first : (word second : Word) (letters : List ℕ) (words : List Word) (bytes : List ℕ) → TokenAt false word letters ((32 ∷ bytes) ++ []) → Spelled (second ∷ words) bytes [] → Spelled (word ∷ second ∷ words) (letters ++ (32 ∷ bytes)) []
keyword_first word second letters words bytes t h = before_others word (second ∷ words) letters (32 ∷ bytes) [] t (spaced (second ∷ words) bytes [] (λ e. cc) h)

named : (name bytes : List ℕ) (words : List Word) → IsNameText name name → ends_token (bytes ++ []) ≡ true → Spelled words bytes [] → Spelled (w.Name name ∷ words) (name ++ bytes) []
named name bytes words h e i = joined (w.Name name ∷ []) words name bytes [] (name_spelled name (bytes ++ []) h e) i

values_named : (name : List ℕ) (row : List Value) → IsNameText name name → values_spell row ≡ true → Spelled (w.Name name ∷ w.Keyword k.Values ∷ row_words row) ((name ++ codes " VALUES ") ++ tuple_text row) []
values_named name row h v =
    subst (λ (l : List ℕ). Spelled (w.Name name ∷ w.Keyword k.Values ∷ row_words row) l []) (sym (append_assoc name (codes " VALUES ") (tuple_text row)))
    (named name (codes " VALUES " ++ tuple_text row) (w.Keyword k.Values ∷ row_words row) h refl
    (between (w.Keyword k.Values) (codes "VALUES") (row_words row) (tuple_text row) [] (record { spelled = refl; longest = refl; bits = tt }) (row_some row) (row_spelled row [] v)))

name_is : (schemas : List Schema) (table : ℕ) (schema : Schema) → slice_get schemas table ≡ Some schema → name_of schemas table ≡ schema.name
unfolding name_of
name_is schemas table schema f = ap (λ (o : Option Schema). option_map_or (λ (schema : Schema). schema.name) o []) f

pub statements_are_spelled : StatementsAreSpelled
unfolding statement_text insert_word replace_word select_word delete_word clear_word chunk_text summed_text master_text
statements_are_spelled schemas schema (Insert table row) f n h r =
    subst (λ (name : List ℕ). Spelled (statement_words schema (Insert table row)) (((codes "INSERT INTO " ++ name) ++ codes " VALUES ") ++ tuple_text row) []) (sym (name_is schemas table schema f))
    (keyword_first (w.Keyword k.Insert) (w.Keyword k.Into) (codes "INSERT") (w.Name schema.name ∷ w.Keyword k.Values ∷ row_words row) (codes "INTO " ++ ((schema.name ++ codes " VALUES ") ++ tuple_text row)) (record { spelled = refl; longest = refl; bits = tt })
    (keyword_first (w.Keyword k.Into) (w.Name schema.name) (codes "INTO") (w.Keyword k.Values ∷ row_words row) ((schema.name ++ codes " VALUES ") ++ tuple_text row) (record { spelled = refl; longest = refl; bits = tt }) (values_named schema.name row h r)))
statements_are_spelled schemas schema (Replace table row) f n h r =
    subst (λ (name : List ℕ). Spelled (statement_words schema (Replace table row)) (((codes "REPLACE INTO " ++ name) ++ codes " VALUES ") ++ tuple_text row) []) (sym (name_is schemas table schema f))
    (keyword_first (w.Keyword k.Replace) (w.Keyword k.Into) (codes "REPLACE") (w.Name schema.name ∷ w.Keyword k.Values ∷ row_words row) (codes "INTO " ++ ((schema.name ++ codes " VALUES ") ++ tuple_text row)) (record { spelled = refl; longest = refl; bits = tt })
    (keyword_first (w.Keyword k.Into) (w.Name schema.name) (codes "INTO") (w.Keyword k.Values ∷ row_words row) ((schema.name ++ codes " VALUES ") ++ tuple_text row) (record { spelled = refl; longest = refl; bits = tt }) (values_named schema.name row h r)))
statements_are_spelled schemas schema (Delete table where_true) f n h r =
    subst (λ (name : List ℕ). Spelled (statement_words schema (Delete table where_true)) ((codes "DELETE FROM " ++ name) ++ where_text schemas table where_true) []) (sym (name_is schemas table schema f))
    (keyword_first (w.Keyword k.Delete) (w.Keyword k.From) (codes "DELETE") (w.Name schema.name ∷ where_words schema where_true) (codes "FROM " ++ (schema.name ++ where_text schemas table where_true)) (record { spelled = refl; longest = refl; bits = tt })
    (keyword_first (w.Keyword k.From) (w.Name schema.name) (codes "FROM") (where_words schema where_true) (schema.name ++ where_text schemas table where_true) (record { spelled = refl; longest = refl; bits = tt })
    (named schema.name (where_text schemas table where_true) (where_words schema where_true) h (where_ends schemas table where_true [] refl) (where_spelled schemas table schema where_true [] f n r refl))))
statements_are_spelled schemas schema (LockRead table mode span where_true) f n h r =
    subst (λ (name : List ℕ). Spelled (statement_words schema (LockRead table mode span where_true)) (((codes "SELECT * FROM " ++ name) ++ where_text schemas table where_true) ++ lock_text mode) []) (sym (name_is schemas table schema f))
    (keyword_first (w.Keyword k.Select) (w.Math Times) (codes "SELECT") (w.Keyword k.From ∷ w.Name schema.name ∷ (where_words schema where_true ++ lock_words mode)) (codes "* FROM " ++ ((schema.name ++ where_text schemas table where_true) ++ lock_text mode)) (record { spelled = refl; longest = refl; bits = tt })
    (keyword_first (w.Math Times) (w.Keyword k.From) (codes "*") (w.Name schema.name ∷ (where_words schema where_true ++ lock_words mode)) (codes "FROM " ++ ((schema.name ++ where_text schemas table where_true) ++ lock_text mode)) (record { spelled = refl; longest = refl; bits = tt })
    (keyword_first (w.Keyword k.From) (w.Name schema.name) (codes "FROM") (where_words schema where_true ++ lock_words mode) ((schema.name ++ where_text schemas table where_true) ++ lock_text mode) (record { spelled = refl; longest = refl; bits = tt })
    (joined (w.Name schema.name ∷ where_words schema where_true) (lock_words mode) (schema.name ++ where_text schemas table where_true) (lock_text mode) []
    (joined (w.Name schema.name ∷ []) (where_words schema where_true) schema.name (where_text schemas table where_true) (lock_text mode ++ [])
    (name_spelled schema.name (where_text schemas table where_true ++ (lock_text mode ++ [])) h (where_ends schemas table where_true (lock_text mode ++ []) (lock_ends mode)))
    (where_spelled schemas table schema where_true (lock_text mode ++ []) f n r (lock_ends mode)))
    (lock_spelled mode)))))
statements_are_spelled schemas schema (ClearChecks table) f n h r =
    subst (λ (name : List ℕ). Spelled (statement_words schema (ClearChecks table)) (codes "CLEARCHECKS " ++ name) []) (sym (name_is schemas table schema f))
    (keyword_first (w.Keyword k.ClearChecks) (w.Name schema.name) (codes "CLEARCHECKS") [] schema.name (record { spelled = refl; longest = refl; bits = tt }) (name_spelled schema.name [] h refl))
statements_are_spelled schemas schema (Update table [] where_true) f n h r = cc
statements_are_spelled schemas schema (Update table (assignment ∷ assignments) where_true) f n h r =
    let p = both (assignment_spells schema assignment && assignments_spell schema assignments) (where_spells schema where_true) r in
    let q = both (assignment_spells schema assignment) (assignments_spell schema assignments) p.0 in
    subst (λ (name : List ℕ). Spelled (statement_words schema (Update table (assignment ∷ assignments) where_true)) ((((codes "UPDATE " ++ name) ++ codes " SET ") ++ assignments_text schemas table (assignment ∷ assignments)) ++ where_text schemas table where_true) []) (sym (name_is schemas table schema f))
    (keyword_first (w.Keyword k.Update) (w.Name schema.name) (codes "UPDATE") (w.Keyword k.Set ∷ (assignments_words schema (assignment ∷ assignments) ++ where_words schema where_true)) (((schema.name ++ codes " SET ") ++ assignments_text schemas table (assignment ∷ assignments)) ++ where_text schemas table where_true) (record { spelled = refl; longest = refl; bits = tt })
    (subst (λ (l : List ℕ). Spelled (w.Name schema.name ∷ w.Keyword k.Set ∷ (assignments_words schema (assignment ∷ assignments) ++ where_words schema where_true)) l [])
    (sym (append_assoc (schema.name ++ codes " SET ") (assignments_text schemas table (assignment ∷ assignments)) (where_text schemas table where_true) ∙ append_assoc schema.name (codes " SET ") (assignments_text schemas table (assignment ∷ assignments) ++ where_text schemas table where_true)))
    (named schema.name (codes " SET " ++ (assignments_text schemas table (assignment ∷ assignments) ++ where_text schemas table where_true)) (w.Keyword k.Set ∷ (assignments_words schema (assignment ∷ assignments) ++ where_words schema where_true)) h refl
    (between (w.Keyword k.Set) (codes "SET") (assignments_words schema (assignment ∷ assignments) ++ where_words schema where_true) (assignments_text schemas table (assignment ∷ assignments) ++ where_text schemas table where_true) [] (record { spelled = refl; longest = refl; bits = tt }) (λ e. cc)
    (joined (assignments_words schema (assignment ∷ assignments)) (where_words schema where_true) (assignments_text schemas table (assignment ∷ assignments)) (where_text schemas table where_true) []
    (joined (assignment_words schema assignment) (assignments_words_on schema assignments) (assignment_text schemas table assignment) (assignments_on schemas table assignments) (where_text schemas table where_true ++ [])
    (assignment_spelled schemas table schema assignment (assignments_on schemas table assignments ++ (where_text schemas table where_true ++ [])) f n q.0 (assignments_end schemas table assignments (where_text schemas table where_true ++ []) (where_ends schemas table where_true [] refl)))
    (assignments_spelled schemas table schema assignments (where_text schemas table where_true ++ []) f n q.1 (where_ends schemas table where_true [] refl)))
    (where_spelled schemas table schema where_true [] f n p.1 refl))))))
statements_are_spelled schemas schema (Check table chunk span kind) f n h r =
    let p = both (is_chunk chunk) (edge_spells span.lo && edge_spells span.hi) r in
    let q = both (edge_spells span.lo) (edge_spells span.hi) p.1 in
    subst (λ (name : List ℕ). Spelled (statement_words schema (Check table chunk span kind)) ((codes "CHECKSUM " ++ ((name ++ codes " CHUNK ") ++ decimal chunk)) ++ (((codes " " ++ span_text span) ++ codes " USING ") ++ digest_kind_text kind)) []) (sym (name_is schemas table schema f))
    (keyword_first (w.Keyword k.Checksum) (w.Name schema.name) (codes "CHECKSUM") (w.Keyword k.Chunk ∷ w.Number chunk ∷ (span_words span ++ (w.Keyword k.Using ∷ kind_word kind ∷ []))) (((schema.name ++ codes " CHUNK ") ++ decimal chunk) ++ (32 ∷ ((span_text span ++ codes " USING ") ++ digest_kind_text kind))) (record { spelled = refl; longest = refl; bits = tt })
    (subst (λ (l : List ℕ). Spelled (w.Name schema.name ∷ w.Keyword k.Chunk ∷ w.Number chunk ∷ (span_words span ++ (w.Keyword k.Using ∷ kind_word kind ∷ []))) l [])
    (sym (append_assoc (schema.name ++ codes " CHUNK ") (decimal chunk) (32 ∷ ((span_text span ++ codes " USING ") ++ digest_kind_text kind)) ∙ append_assoc schema.name (codes " CHUNK ") (decimal chunk ++ (32 ∷ ((span_text span ++ codes " USING ") ++ digest_kind_text kind)))))
    (named schema.name (codes " CHUNK " ++ (decimal chunk ++ (32 ∷ ((span_text span ++ codes " USING ") ++ digest_kind_text kind)))) (w.Keyword k.Chunk ∷ w.Number chunk ∷ (span_words span ++ (w.Keyword k.Using ∷ kind_word kind ∷ []))) h refl
    (between (w.Keyword k.Chunk) (codes "CHUNK") (w.Number chunk ∷ (span_words span ++ (w.Keyword k.Using ∷ kind_word kind ∷ []))) (decimal chunk ++ (32 ∷ ((span_text span ++ codes " USING ") ++ digest_kind_text kind))) [] (record { spelled = refl; longest = refl; bits = tt }) (λ e. cc)
    (joined (w.Number chunk ∷ []) (span_words span ++ (w.Keyword k.Using ∷ kind_word kind ∷ [])) (decimal chunk) (32 ∷ ((span_text span ++ codes " USING ") ++ digest_kind_text kind)) []
    (one (w.Number chunk) (decimal chunk) ((32 ∷ ((span_text span ++ codes " USING ") ++ digest_kind_text kind)) ++ []) (number_token chunk ((32 ∷ ((span_text span ++ codes " USING ") ++ digest_kind_text kind)) ++ []) (chunk_low chunk p.0) refl))
    (spaced (span_words span ++ (w.Keyword k.Using ∷ kind_word kind ∷ [])) ((span_text span ++ codes " USING ") ++ digest_kind_text kind) [] (λ e. cc)
    (subst (λ (l : List ℕ). Spelled (span_words span ++ (w.Keyword k.Using ∷ kind_word kind ∷ [])) l []) (sym (append_assoc (span_text span) (codes " USING ") (digest_kind_text kind)))
    (joined (span_words span) (w.Keyword k.Using ∷ kind_word kind ∷ []) (span_text span) (codes " USING " ++ digest_kind_text kind) [] (span_spelled span ((codes " USING " ++ digest_kind_text kind) ++ []) q.0 q.1 refl) (using_spelled kind)))))))))
statements_are_spelled schemas schema (SetMaster table chunk kind master) f n h r =
    let p = both (is_chunk chunk) (is_count master.count && are_plain (crc_text kind master)) r in
    let q = both (is_count master.count) (are_plain (crc_text kind master)) p.1 in
    subst (λ (name : List ℕ). Spelled (statement_words schema (SetMaster table chunk kind master)) ((codes "SETMASTER " ++ ((name ++ codes " CHUNK ") ++ decimal chunk)) ++ ((((codes " CNT " ++ decimal master.count) ++ codes " CRC '") ++ crc_text kind master) ++ codes "'")) []) (sym (name_is schemas table schema f))
    (keyword_first (w.Keyword k.SetMaster) (w.Name schema.name) (codes "SETMASTER") (w.Keyword k.Chunk ∷ w.Number chunk ∷ master_words kind master) (((schema.name ++ codes " CHUNK ") ++ decimal chunk) ++ ((((codes " CNT " ++ decimal master.count) ++ codes " CRC '") ++ crc_text kind master) ++ codes "'")) (record { spelled = refl; longest = refl; bits = tt })
    (subst (λ (l : List ℕ). Spelled (w.Name schema.name ∷ w.Keyword k.Chunk ∷ w.Number chunk ∷ master_words kind master) l [])
    (sym (append_assoc (schema.name ++ codes " CHUNK ") (decimal chunk) ((((codes " CNT " ++ decimal master.count) ++ codes " CRC '") ++ crc_text kind master) ++ codes "'") ∙ append_assoc schema.name (codes " CHUNK ") (decimal chunk ++ ((((codes " CNT " ++ decimal master.count) ++ codes " CRC '") ++ crc_text kind master) ++ codes "'"))))
    (named schema.name (codes " CHUNK " ++ (decimal chunk ++ ((((codes " CNT " ++ decimal master.count) ++ codes " CRC '") ++ crc_text kind master) ++ codes "'"))) (w.Keyword k.Chunk ∷ w.Number chunk ∷ master_words kind master) h refl
    (between (w.Keyword k.Chunk) (codes "CHUNK") (w.Number chunk ∷ master_words kind master) (decimal chunk ++ ((((codes " CNT " ++ decimal master.count) ++ codes " CRC '") ++ crc_text kind master) ++ codes "'")) [] (record { spelled = refl; longest = refl; bits = tt }) (λ e. cc)
    (joined (w.Number chunk ∷ []) (master_words kind master) (decimal chunk) ((((codes " CNT " ++ decimal master.count) ++ codes " CRC '") ++ crc_text kind master) ++ codes "'") []
    (one (w.Number chunk) (decimal chunk) _ (number_token chunk _ (chunk_low chunk p.0) refl))
    (master_spelled kind master q.0 q.1))))))
