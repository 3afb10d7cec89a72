-- The words of statements, as they are written.
use Rattle.std.specs.Prelude.{◌≡◌, ℕ, ◌&&◌, ◌==◌, not, Bool, true, false, is_some, List, [], ◌∷◌, ◌++◌, Option, None, Some}
use Rattle.std.specs.List.{slice_get}
use Rattle.row_types.specs.declared.values.Value.{Value}
use Rattle.row_types.specs.declared.edges.Edge.{Edge}
use Rattle.row_types.specs.declared.edges.Edge.TheVariants as edge
use Rattle.row_types.specs.declared.edges.Span.{Span}
use Rattle.row_types.specs.declared.digests.DigestKind.{DigestKind}
use Rattle.row_types.specs.declared.digests.DigestKind.TheVariants.{Md5, Sha1}
use Rattle.row_types.specs.declared.lock_modes.LockMode.{LockMode}
use Rattle.row_types.specs.declared.lock_modes.LockMode.TheVariants.{Shared, Exclusive}
use Rattle.row_types.specs.declared.table_schema.Schema.{Schema}
use Rattle.row_digest.specs.Digest.{crc_text}
use Rattle.ptc_statement.specs.declared.expressions.Op.TheVariants.{Eq}
use Rattle.ptc_statement.specs.declared.conditions.Cond.{Cond}
use Rattle.ptc_statement.specs.declared.assignments.Assignment.{Assignment}
use Rattle.ptc_statement.specs.declared.statements.Statement.{Statement}
use Rattle.ptc_statement.specs.declared.statements.Statement.TheVariants.{Insert, Replace, Delete, Update, LockRead, Check, SetMaster, ClearChecks}
use Rattle.ptc_statement.specs.Effect.{table_of}
use Rattle.statement_tokens.specs.declared.words.Math.TheVariants.{Times}
use Rattle.statement_tokens.specs.declared.words.Keyword.TheVariants as k
use Rattle.statement_tokens.specs.declared.words.Word.{Word}
use Rattle.statement_tokens.specs.declared.words.Word.TheVariants as w
use Rattle.statement_tokens.specs.Spellings.{IsNameText, is_text_byte}
use Rattle.statement_grammar.specs.Grammar.{tokens_of}
use Rattle.statement_grammar.specs.Sentence.{is_chunk, is_count}
use Rattle.statement_text.specs.StatementTexts.{statement_text}
use Rattle.statement_text_laws.specs.Canonical.{value_tree, expr_tree, cond_tree, name_at}
use Rattle.statement_text_laws.specs.SpelledWords.{Spelled, words_of, literal_spells, expr_spells, cond_spells, HasNames}

abbrev pub value_words : Value → List Word
value_words value = words_of (tokens_of (value_tree value))

abbrev pub values_words_on : List Value → List Word
values_words_on [] = []
values_words_on (value ∷ values) = w.Comma ∷ (value_words value ++ values_words_on values)

abbrev pub row_words : List Value → List Word
row_words [] = w.Open ∷ w.Close ∷ []
row_words (value ∷ values) = w.Open ∷ ((value_words value ++ values_words_on values) ++ w.Close ∷ [])

abbrev pub where_words : Schema → Option Cond → List Word
where_words schema None = []
where_words schema (Some condition) = w.Keyword k.Where ∷ words_of (tokens_of (cond_tree schema condition))

abbrev pub assignment_words : Schema → Assignment → List Word
assignment_words schema assignment = w.Name (name_at schema assignment.column) ∷ w.Compare Eq ∷ words_of (tokens_of (expr_tree schema assignment.expr))

abbrev pub assignments_words_on : Schema → List Assignment → List Word
assignments_words_on schema [] = []
assignments_words_on schema (assignment ∷ assignments) = w.Comma ∷ (assignment_words schema assignment ++ assignments_words_on schema assignments)

abbrev pub assignments_words : Schema → List Assignment → List Word
assignments_words schema [] = []
assignments_words schema (assignment ∷ assignments) = assignment_words schema assignment ++ assignments_words_on schema assignments

abbrev pub lock_words : LockMode → List Word
lock_words Shared = w.Keyword k.For ∷ w.Keyword k.Share ∷ []
lock_words Exclusive = w.Keyword k.For ∷ w.Keyword k.Update ∷ []

abbrev pub edge_words : Edge → List Word
edge_words edge.Low = w.Keyword k.Low ∷ []
edge_words edge.High = w.Keyword k.High ∷ []
edge_words (edge.Before key) = w.Keyword k.Before ∷ row_words key
edge_words (edge.After key) = w.Keyword k.After ∷ row_words key

abbrev pub kind_word : DigestKind → Word
kind_word Md5 = w.Keyword k.Md5
kind_word Sha1 = w.Keyword k.Sha1

abbrev pub span_words : Span → List Word
span_words span = w.Keyword k.From ∷ (edge_words span.lo ++ (w.Keyword k.To ∷ edge_words span.hi))

abbrev pub statement_words : Schema → Statement → List Word
statement_words schema (Insert table row) = w.Keyword k.Insert ∷ w.Keyword k.Into ∷ w.Name schema.name ∷ w.Keyword k.Values ∷ row_words row
statement_words schema (Replace table row) = w.Keyword k.Replace ∷ w.Keyword k.Into ∷ w.Name schema.name ∷ w.Keyword k.Values ∷ row_words row
statement_words schema (Delete table where_true) = w.Keyword k.Delete ∷ w.Keyword k.From ∷ w.Name schema.name ∷ where_words schema where_true
statement_words schema (LockRead table mode span where_true) =
    w.Keyword k.Select ∷ w.Math Times ∷ w.Keyword k.From ∷ w.Name schema.name ∷ (where_words schema where_true ++ lock_words mode)
statement_words schema (ClearChecks table) = w.Keyword k.ClearChecks ∷ w.Name schema.name ∷ []
statement_words schema (Update table sets where_true) =
    w.Keyword k.Update ∷ w.Name schema.name ∷ w.Keyword k.Set ∷ (assignments_words schema sets ++ where_words schema where_true)
statement_words schema (Check table chunk span kind) =
    w.Keyword k.Checksum ∷ w.Name schema.name ∷ w.Keyword k.Chunk ∷ w.Number chunk ∷ (span_words span ++ (w.Keyword k.Using ∷ kind_word kind ∷ []))
statement_words schema (SetMaster table chunk kind master) =
    w.Keyword k.SetMaster ∷ w.Name schema.name ∷ w.Keyword k.Chunk ∷ w.Number chunk ∷ w.Keyword k.Cnt ∷ w.Number master.count ∷ w.Keyword k.Crc ∷ w.Text (crc_text kind master) ∷ []

abbrev pub values_spell : List Value → Bool
values_spell [] = true
values_spell (value ∷ values) = literal_spells value && values_spell values

abbrev pub where_spells : Schema → Option Cond → Bool
where_spells schema None = true
where_spells schema (Some condition) = cond_spells schema condition

abbrev pub assignment_spells : Schema → Assignment → Bool
assignment_spells schema assignment = is_some (slice_get schema.columns assignment.column) && expr_spells schema assignment.expr

abbrev pub assignments_spell : Schema → List Assignment → Bool
assignments_spell schema [] = true
assignments_spell schema (assignment ∷ assignments) = assignment_spells schema assignment && assignments_spell schema assignments

-- there is an assignment
abbrev pub sets_spell : Schema → List Assignment → Bool
sets_spell schema [] = false
sets_spell schema assignments = assignments_spell schema assignments

abbrev pub edge_spells : Edge → Bool
edge_spells edge.Low = true
edge_spells edge.High = true
edge_spells (edge.Before key) = values_spell key
edge_spells (edge.After key) = values_spell key

-- no quote and no control character
abbrev pub are_plain : List ℕ → Bool
are_plain [] = true
are_plain (byte ∷ bytes) = (not (byte == 39) && is_text_byte byte) && are_plain bytes

abbrev pub statement_spells : Schema → Statement → Bool
statement_spells schema (Insert table row) = values_spell row
statement_spells schema (Replace table row) = values_spell row
statement_spells schema (Delete table where_true) = where_spells schema where_true
statement_spells schema (LockRead table mode span where_true) = where_spells schema where_true
statement_spells schema (ClearChecks table) = true
statement_spells schema (Update table sets where_true) = sets_spell schema sets && where_spells schema where_true
statement_spells schema (Check table chunk span kind) = is_chunk chunk && (edge_spells span.lo && edge_spells span.hi)
statement_spells schema (SetMaster table chunk kind master) = is_chunk chunk && (is_count master.count && are_plain (crc_text kind master))

-- the text of a statement spells its words
abbrev pub StatementsAreSpelled : Type 0
StatementsAreSpelled =
    (schemas : List Schema) (schema : Schema) (statement : Statement)
    → slice_get schemas (table_of statement) ≡ Some schema → HasNames schema → IsNameText schema.name schema.name → statement_spells schema statement ≡ true
    → Spelled (statement_words schema statement) (statement_text schemas statement) []
