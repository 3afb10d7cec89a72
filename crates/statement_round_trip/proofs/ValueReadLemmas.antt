-- Literals of rows and edges are read as they are.
use Rattle.std.proofs.Common.{◌≡◌, ℕ, ℤ, pos, negsuc, zero, suc, ◌≤◌, nat_lt, Bool, true, false, List, [], ◌∷◌, ◌++◌, Option, None, Some, refl, sym, ◌∙◌, ap, subst, arith, append_assoc, append-nil}
use Rattle.std.specs.Prelude.{cond, length, map, take}
use Rattle.std.specs.List.{slice_get}
use Rattle.std.proofs.lemmas.Bool.Decides.{nat_tests}
use Rattle.std.proofs.lemmas.Int.{ints}
use Rattle.row_types.specs.declared.values.Value.{Value}
use Rattle.row_types.specs.declared.values.Value.TheVariants.{Null, Int, Text}
use Rattle.row_types.specs.declared.edges.Edge.{Edge}
use Rattle.row_types.specs.declared.edges.Edge.TheVariants as edge
use Rattle.row_types.specs.declared.table_schema.ColumnKind.{ColumnKind}
use Rattle.row_types.specs.declared.table_schema.ColumnKind.TheVariants.{Int as IntColumn, BigInt, Text as TextColumn}
use Rattle.row_types.specs.declared.table_schema.Column.{Column}
use Rattle.row_types.specs.declared.table_schema.Schema.{Schema}
use Rattle.row_types.specs.Faults.{clipped}
use Rattle.row_types.specs.Fit.{NumberFits, TextFits, ValueFits, ValuesFit}
use Rattle.ptc_statement.specs.declared.statements.Statement.{Statement}
use Rattle.ptc_statement.specs.Effect.{empty_of, cut, stored}
use Rattle.statement_tokens.specs.declared.words.Math.TheVariants.{Minus}
use Rattle.statement_tokens.specs.declared.words.Keyword.TheVariants as k
use Rattle.statement_tokens.specs.declared.words.Word.{Word}
use Rattle.statement_tokens.specs.declared.words.Word.TheVariants as w
use Rattle.statement_grammar.specs.Kinds.{OfNumber, OfText, sort_of_kind, differ, when_true, places}
use Rattle.statement_grammar.specs.Terms.{value_in, negative}
use Rattle.statement_grammar.specs.Sentence.{OpenDue, LiteralDue, DigitsDue, LiteralEnds, EdgeDue, Literals, OfRow, OfEdge, End, Keys, behind_literals, behind_edge}
use Rattle.statement_grammar.specs.Draft.{Draft, columns_of, columns_for, kept, with_value, with_list, with_edge}
use Rattle.statement_grammar.specs.Faults.{kind_fault, value_fault, list_fault, behind_table}
use Rattle.statement_text_laws.specs.Canonical.{literal_reads}
use Rattle.statement_text_laws.specs.SpelledWords.{literal_spells}
use Rattle.statement_text_laws.specs.StatementWords.{value_words, values_words_on, row_words, values_spell, edge_words, edge_spells}
use Rattle.statement_text_laws.proofs.CanonicalLemmas.{least}
use Rattle.statement_round_trip.specs.RoundTrip.{EdgeFits}
use Rattle.statement_round_trip.proofs.ReadLemmas.{Reads, next, step}
use Rattle.statement_grammar.proofs.BasicLemmas.{both}

-- ---- what a column keeps of a value that fits

number_kept : (kind : ColumnKind) (n : ℤ) → NumberFits kind n → clipped kind n ≡ n
number_kept IntColumn (pos n) h = grind (arith, ints)
number_kept IntColumn (negsuc n) h = grind (arith, ints)
number_kept BigInt (pos n) h = grind (arith, ints)
number_kept BigInt (negsuc n) h = grind (arith, ints)
number_kept (TextColumn max) n h = absurd h

take_short : (n : ℕ) (text : List ℕ) → length text ≤ n → take n text ≡ text
take_short zero [] h = refl
take_short zero (byte ∷ bytes) h = absurd (omega arith)
take_short (suc n) [] h = refl
take_short (suc n) (byte ∷ bytes) h = ap (λ (l : List ℕ). byte ∷ l) (take_short n bytes (omega arith))

text_kept : (kind : ColumnKind) (text : List ℕ) → TextFits kind text → cut kind text ≡ text
text_kept IntColumn text h = refl
text_kept BigInt text h = refl
text_kept (TextColumn max) text h = take_short max text h

value_kept : (column : Column) (value : Value) → ValueFits column value → stored column value ≡ value
value_kept column Null h = ap (λ (b : Bool). cond b Null (empty_of column.kind)) h
value_kept column (Int n) h = ap Int (number_kept column.kind n h)
value_kept column (Text text) h = ap Text (text_kept column.kind text h)

number_column : (kind : ColumnKind) (n : ℤ) → NumberFits kind n → differ (sort_of_kind kind) OfNumber ≡ false
number_column IntColumn n h = refl
number_column BigInt n h = refl
number_column (TextColumn max) n h = absurd h

text_column : (kind : ColumnKind) (text : List ℕ) → TextFits kind text → differ (sort_of_kind kind) OfText ≡ false
text_column IntColumn text h = absurd h
text_column BigInt text h = absurd h
text_column (TextColumn max) text h = refl

-- ---- a literal

-- these literals of the list are read
abbrev pub holding : Draft → List Value → Draft
holding draft values = record draft { values = values; minus = None }

kind_right : (b : Bool) (n place : ℕ) → b ≡ false → map (kind_fault n) (places (when_true b place)) ≡ []
kind_right b n place e = rw e refl

number_right : (column : Column) (i : ℤ) (m : ℕ) → NumberFits column.kind i → (columns : List Column) (n place : ℕ) → value_fault columns n (Some column) (w.Number m) place ≡ []
number_right column i m h columns n place = kind_right (differ (sort_of_kind column.kind) OfNumber) n place (number_column column.kind i h)

value_at : (schema : Schema) (of : Literals) (draft : Draft) (values : List Value) (column : Column) (value said : Value) → draft.schema ≡ Some schema → slice_get (columns_of of schema) (length values) ≡ Some column
    → said ≡ value → ValueFits column value → with_value of (holding draft values) said ≡ holding draft (values ++ value ∷ [])
value_at schema of draft values column value said e f s h =
    ap (λ (o : Option Schema). holding draft (values ++ kept (slice_get (columns_for of o) (length values)) said ∷ [])) e ∙ ap (λ (o : Option Column). holding draft (values ++ kept o said ∷ [])) f
    ∙ ap (λ (v : Value). holding draft (values ++ stored column v ∷ [])) s ∙ ap (λ (v : Value). holding draft (values ++ v ∷ [])) (value_kept column value h)

-- a literal of one word
plain : (schemas : List Schema) (key : Keys) (schema : Schema) (of : Literals) (draft : Draft) (values : List Value) (column : Column) (value : Value) (words : List Word) (statement : Statement)
    → draft.schema ≡ Some schema → slice_get (columns_of of schema) (length values) ≡ Some column → ValueFits column value → literal_reads value ≡ true
    → Reads schemas key (LiteralEnds of) (holding draft (values ++ value ∷ [])) words statement
    → Reads schemas key (LiteralDue of) (holding draft values) (value_words value ++ words) statement
plain schemas key schema of draft values column Null words statement e f h r more =
    step schemas key (LiteralDue of) (holding draft values) (holding draft (values ++ Null ∷ [])) w.Null words statement (LiteralEnds of) refl
    (λ place. ap (λ (o : Option Schema). behind_table o (LiteralDue of) (holding draft values) w.Null place) e ∙ ap (λ (o : Option Column). value_fault (columns_of of schema) (length values) o w.Null place) f ∙ nullable column.nullable h place)
    (λ place. value_at schema of draft values column Null Null e f refl h) more
  where
    nullable : (b : Bool) → b ≡ true → (place : ℕ) → value_fault (columns_of of schema) (length values) (Some (record column { nullable = b })) w.Null place ≡ []
    nullable true t place = refl
    nullable false t place = cc
plain schemas key schema of draft values column (Int (pos n)) words statement e f h r more =
    step schemas key (LiteralDue of) (holding draft values) (holding draft (values ++ Int (pos n) ∷ [])) (w.Number n) words statement (LiteralEnds of) refl
    (λ place. ap (λ (o : Option Schema). behind_table o (LiteralDue of) (holding draft values) (w.Number n) place) e ∙ ap (λ (o : Option Column). value_fault (columns_of of schema) (length values) o (w.Number n) place) f
    ∙ number_right column (pos n) n h (columns_of of schema) (length values) place)
    (λ place. value_at schema of draft values column (Int (pos n)) (value_in (w.Number n)) e f (ap (λ (m : ℕ). Int (pos m)) (least n r)) h) more
plain schemas key schema of draft values column (Int (negsuc n)) words statement e f h r more =
    next schemas key (LiteralDue of) (holding draft values) (w.Math Minus) (w.Number (suc n) ∷ words) statement (DigitsDue of) refl
    (λ place. ap (λ (o : Option Schema). behind_table o (LiteralDue of) (holding draft values) (w.Math Minus) place) e)
    (λ minus. step schemas key (DigitsDue of) (record draft { values = values; minus = Some minus }) (holding draft (values ++ Int (negsuc n) ∷ [])) (w.Number (suc n)) words statement (LiteralEnds of) refl
    (λ place. ap (λ (o : Option Schema). behind_table o (DigitsDue of) (record draft { values = values; minus = Some minus }) (w.Number (suc n)) place) e
    ∙ ap (λ (o : Option Column). value_fault (columns_of of schema) (length values) o (w.Number (suc n)) minus) f ∙ number_right column (negsuc n) (suc n) h (columns_of of schema) (length values) minus)
    (λ place. value_at schema of draft values column (Int (negsuc n)) (negative (w.Number (suc n))) e f (ap (λ (m : ℕ). Int (negsuc m)) (least n r)) h) more)
plain schemas key schema of draft values column (Text text) words statement e f h r more =
    step schemas key (LiteralDue of) (holding draft values) (holding draft (values ++ Text text ∷ [])) (w.Text text) words statement (LiteralEnds of) refl
    (λ place. ap (λ (o : Option Schema). behind_table o (LiteralDue of) (holding draft values) (w.Text text) place) e ∙ ap (λ (o : Option Column). value_fault (columns_of of schema) (length values) o (w.Text text) place) f
    ∙ kind_right (differ (sort_of_kind column.kind) OfText) (length values) place (text_column column.kind text h))
    (λ place. value_at schema of draft values column (Text text) (Text text) e f refl h) more

-- ---- a list of literals

at_front : (front back : List Column) (column : Column) (n : ℕ) → n ≡ length front → slice_get (front ++ (column ∷ back)) n ≡ Some column
at_front [] back column zero e = refl
at_front [] back column (suc n) e = absurd (omega arith)
at_front (x ∷ front) back column zero e = absurd (omega arith)
at_front (x ∷ front) back column (suc n) e = at_front front back column n (omega arith)

length_more : (values : List Value) (front : List Column) (value : Value) (column : Column) → length values ≡ length front → length (values ++ value ∷ []) ≡ length (front ++ column ∷ [])
length_more [] [] value column e = refl
length_more [] (x ∷ front) value column e = absurd (omega arith)
length_more (v ∷ values) [] value column e = absurd (omega arith)
length_more (v ∷ values) (x ∷ front) value column e = let i = length_more values front value column (omega arith) in omega arith

pub no_comma : (of : Literals) (draft : Draft) → with_list of draft w.Comma ≡ draft
no_comma OfRow draft = refl
no_comma (OfEdge end) draft = refl

no_values : (column : Column) (columns : List Column) → ValuesFit (column ∷ columns) [] → ⊥
no_values column columns h = h

spelled_reads : (value : Value) → literal_spells value ≡ true → literal_reads value ≡ true
spelled_reads Null h = refl
spelled_reads (Int n) h = h
spelled_reads (Text text) h = refl

-- what is behind the last literal of a list
abbrev pub listed : Literals → Draft → List Value → Draft
listed of draft values = with_list of (holding draft values) w.Close

rest_read : (schemas : List Schema) (key : Keys) (schema : Schema) (of : Literals) (draft : Draft) (front back : List Column) (seen values : List Value) (words : List Word) (statement : Statement)
    → draft.schema ≡ Some schema → columns_of of schema ≡ front ++ back → length seen ≡ length front → ValuesFit back values → values_spell values ≡ true
    → Reads schemas key (behind_literals of) (listed of draft (seen ++ values)) words statement
    → Reads schemas key (LiteralEnds of) (holding draft seen) (values_words_on values ++ (w.Close ∷ words)) statement
rest_read schemas key schema of draft front [] seen [] words statement e f l h r more =
    step schemas key (LiteralEnds of) (holding draft seen) (listed of draft seen) w.Close words statement (behind_literals of) refl
    (λ place. ap (λ (o : Option Schema). behind_table o (LiteralEnds of) (holding draft seen) w.Close place) e ∙ all place)
    (λ place. refl) (subst (λ (vs : List Value). Reads schemas key (behind_literals of) (listed of draft vs) words statement) (append-nil seen) more)
  where
    enough : (n m : ℕ) → n ≡ m → nat_lt n m ≡ false
    enough n m e = grind (arith, nat_tests)

    all : (place : ℕ) → list_fault (columns_of of schema) (length seen) w.Close place ≡ []
    all place = rw (enough (length seen) (length (columns_of of schema)) (l ∙ ap length (sym (append-nil front)) ∙ ap length (sym f))) refl
rest_read schemas key schema of draft front (column ∷ back) seen [] words statement e f l h r more = absurd (no_values column back h)
rest_read schemas key schema of draft front [] seen (value ∷ values) words statement e f l h r more = absurd h
rest_read schemas key schema of draft front (column ∷ back) seen (value ∷ values) words statement e f l h r more =
    let q = both (literal_spells value) (values_spell values) r in
    step schemas key (LiteralEnds of) (holding draft seen) (holding draft seen) w.Comma ((value_words value ++ values_words_on values) ++ (w.Close ∷ words)) statement (LiteralDue of) refl
    (λ place. ap (λ (o : Option Schema). behind_table o (LiteralEnds of) (holding draft seen) w.Comma place) e) (λ place. no_comma of (holding draft seen))
    (subst (λ (ws : List Word). Reads schemas key (LiteralDue of) (holding draft seen) ws statement) (sym (append_assoc (value_words value) (values_words_on values) (w.Close ∷ words)))
    (plain schemas key schema of draft seen column value (values_words_on values ++ (w.Close ∷ words)) statement e (ap (λ (cs : List Column). slice_get cs (length seen)) f ∙ at_front front back column (length seen) l) h.0 (spelled_reads value q.0)
    (rest_read schemas key schema of draft (front ++ column ∷ []) back (seen ++ value ∷ []) values words statement e (f ∙ sym (append_assoc front (column ∷ []) back)) (length_more seen front value column l) h.1 q.1
    (subst (λ (vs : List Value). Reads schemas key (behind_literals of) (listed of draft vs) words statement) (sym (append_assoc seen (value ∷ []) values)) more))))

pub row_read : (schemas : List Schema) (key : Keys) (schema : Schema) (of : Literals) (draft : Draft) (values : List Value) (words : List Word) (statement : Statement)
    → draft.schema ≡ Some schema → 1 ≤ length (columns_of of schema) → ValuesFit (columns_of of schema) values → values_spell values ≡ true
    → Reads schemas key (behind_literals of) (listed of draft values) words statement
    → Reads schemas key (OpenDue of) draft (row_words values ++ words) statement
row_read schemas key schema of draft values words statement e some h r more = by_columns (columns_of of schema) refl values h r more
  where
    by_columns : (columns : List Column) → columns_of of schema ≡ columns → (values : List Value) → ValuesFit columns values → values_spell values ≡ true → Reads schemas key (behind_literals of) (listed of draft values) words statement
        → Reads schemas key (OpenDue of) draft (row_words values ++ words) statement
    by_columns [] f values h r more = absurd (none (subst (λ (cs : List Column). 1 ≤ length cs) f some))
      where
        none : 1 ≤ 0 → ⊥
        none e = omega arith
    by_columns (column ∷ columns) f [] h r more = absurd h
    by_columns (column ∷ columns) f (value ∷ values) h r more =
        let q = both (literal_spells value) (values_spell values) r in
        step schemas key (OpenDue of) draft (holding draft []) w.Open (((value_words value ++ values_words_on values) ++ w.Close ∷ []) ++ words) statement (LiteralDue of) refl
        (λ place. ap (λ (o : Option Schema). behind_table o (OpenDue of) draft w.Open place) e) (λ place. refl)
        (subst (λ (ws : List Word). Reads schemas key (LiteralDue of) (holding draft []) ws statement)
        (sym (append_assoc (value_words value ++ values_words_on values) (w.Close ∷ []) words ∙ append_assoc (value_words value) (values_words_on values) (w.Close ∷ words)))
        (plain schemas key schema of draft [] column value (values_words_on values ++ (w.Close ∷ words)) statement e (ap (λ (cs : List Column). slice_get cs 0) f) h.0 (spelled_reads value q.0)
        (rest_read schemas key schema of draft (column ∷ []) columns (value ∷ []) values words statement e f refl h.1 q.1 more)))

-- ---- edges

abbrev edge_values : List Value → Edge → List Value
edge_values values edge.Low = values
edge_values values edge.High = values
edge_values values (edge.Before at) = at
edge_values values (edge.After at) = at

abbrev edge_minus : Option ℕ → Edge → Option ℕ
edge_minus minus edge.Low = minus
edge_minus minus edge.High = minus
edge_minus minus (edge.Before at) = None
edge_minus minus (edge.After at) = None

abbrev edge_side : Bool → Edge → Bool
edge_side side edge.Low = side
edge_side side edge.High = side
edge_side side (edge.Before at) = false
edge_side side (edge.After at) = true

-- what is known behind an edge
abbrev pub edged : End → Draft → Edge → Draft
edged end draft at = with_edge end (record draft { values = edge_values draft.values at; minus = edge_minus draft.minus at; is_after = edge_side draft.is_after at }) at

pub edge_read : (schemas : List Schema) (key : Keys) (schema : Schema) (end : End) (draft : Draft) (at : Edge) (words : List Word) (statement : Statement)
    → draft.schema ≡ Some schema → 1 ≤ length (columns_of (OfEdge end) schema) → EdgeFits schema at → edge_spells at ≡ true
    → Reads schemas key (behind_edge end) (edged end draft at) words statement → Reads schemas key (EdgeDue end) draft (edge_words at ++ words) statement
edge_read schemas key schema end draft edge.Low words statement e some h r more =
    step schemas key (EdgeDue end) draft (edged end draft edge.Low) (w.Keyword k.Low) words statement (behind_edge end) refl
    (λ place. ap (λ (o : Option Schema). behind_table o (EdgeDue end) draft (w.Keyword k.Low) place) e) (λ place. refl) more
edge_read schemas key schema end draft edge.High words statement e some h r more =
    step schemas key (EdgeDue end) draft (edged end draft edge.High) (w.Keyword k.High) words statement (behind_edge end) refl
    (λ place. ap (λ (o : Option Schema). behind_table o (EdgeDue end) draft (w.Keyword k.High) place) e) (λ place. refl) more
edge_read schemas key schema end draft (edge.Before at) words statement e some h r more =
    step schemas key (EdgeDue end) draft (record draft { is_after = false }) (w.Keyword k.Before) (row_words at ++ words) statement (OpenDue (OfEdge end)) refl
    (λ place. ap (λ (o : Option Schema). behind_table o (EdgeDue end) draft (w.Keyword k.Before) place) e) (λ place. refl)
    (row_read schemas key schema (OfEdge end) (record draft { is_after = false }) at words statement e some h r more)
edge_read schemas key schema end draft (edge.After at) words statement e some h r more =
    step schemas key (EdgeDue end) draft (record draft { is_after = true }) (w.Keyword k.After) (row_words at ++ words) statement (OpenDue (OfEdge end)) refl
    (λ place. ap (λ (o : Option Schema). behind_table o (EdgeDue end) draft (w.Keyword k.After) place) e) (λ place. refl)
    (row_read schemas key schema (OfEdge end) (record draft { is_after = true }) at words statement e some h r more)
