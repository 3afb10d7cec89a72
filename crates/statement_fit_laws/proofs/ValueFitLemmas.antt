-- Literals without a fault fit the columns that they are for.
use Rattle.std.proofs.Common.{◌≡◌, ℕ, ℤ, pos, negsuc, zero, suc, ◌≤◌, ◌+◌, nat_lt, Bool, true, false, List, [], ◌∷◌, ◌++◌, Option, None, Some, refl, sym, ◌∙◌, ap, subst, arith}
use Rattle.std.specs.Prelude.{cond, length, map, take}
use Rattle.std.specs.List.{slice_get}
use Rattle.std.proofs.lemmas.Bool.Decides.{nat_tests}
use Rattle.std.proofs.lemmas.Int.{ints}
use Rattle.row_types.specs.declared.values.Value.{Value}
use Rattle.row_types.specs.declared.values.Value.TheVariants.{Null, Int, Text}
use Rattle.row_types.specs.declared.table_schema.ColumnKind.{ColumnKind}
use Rattle.row_types.specs.declared.table_schema.ColumnKind.TheVariants.{Int as IntColumn, BigInt, Text as TextColumn}
use Rattle.row_types.specs.declared.table_schema.Column.{Column}
use Rattle.row_types.specs.Faults.{clipped}
use Rattle.row_types.specs.Fit.{NumberFits, TextFits, ValueFits, ValuesFit}
use Rattle.ptc_statement.specs.Effect.{empty_of, cut, stored}
use Rattle.statement_tokens.specs.declared.words.Word.{Word}
use Rattle.statement_tokens.specs.declared.words.Word.TheVariants as w
use Rattle.statement_tokens.specs.Spellings.{is_text_byte}
use Rattle.statement_grammar.specs.Kinds.{OfNumber, OfText, sort_of_kind, differ, when_true, places}
use Rattle.statement_grammar.specs.Draft.{kept}
use Rattle.statement_grammar.specs.Faults.{kind_fault, value_fault, list_fault}
use Rattle.statement_grammar.proofs.BasicLemmas.{both, both_true}
use Rattle.statement_text_laws.specs.Canonical.{in_64_bits}
use Rattle.statement_text_laws.specs.SpelledWords.{are_text_bytes, literal_spells}
use Rattle.statement_text_laws.specs.StatementWords.{values_spell}

-- ---- one value

-- a value as its column keeps it
pub record KeptFits (column : Column) (value : Value) : Type 0 where
  pub fits : ValueFits column (stored column value)
  pub spells : literal_spells (stored column value) ≡ true

no_fault : (n : ℕ) (b : Bool) (place : ℕ) → map (kind_fault n) (places (when_true b place)) ≡ [] → b ≡ false
no_fault n false place e = refl
no_fault n true place e = cc

number_fits : (kind : ColumnKind) (n : ℤ) → differ (sort_of_kind kind) OfNumber ≡ false → NumberFits kind (clipped kind n) × (in_64_bits (clipped kind n) ≡ true)
number_fits IntColumn (pos n) e = (grind (arith, ints), grind (arith, nat_tests))
number_fits IntColumn (negsuc n) e = (grind (arith, ints), grind (arith, nat_tests))
number_fits BigInt (pos n) e = (grind (arith, ints), grind (arith, nat_tests))
number_fits BigInt (negsuc n) e = (grind (arith, ints), grind (arith, nat_tests))
number_fits (TextColumn max) n e = cc

pub number_kept : (column : Column) (n : ℤ) → differ (sort_of_kind column.kind) OfNumber ≡ false → KeptFits column (Int n)
number_kept column n e = let q = number_fits column.kind n e in record { fits = q.0; spells = q.1 }

take_print : (n : ℕ) (text : List ℕ) → are_text_bytes text ≡ true → are_text_bytes (take n text) ≡ true
take_print zero text h = refl
take_print (suc n) [] h = refl
take_print (suc n) (byte ∷ bytes) h = let q = both (is_text_byte byte) (are_text_bytes bytes) h in both_true (is_text_byte byte) (are_text_bytes (take n bytes)) q.0 (take_print n bytes q.1)

take_short : (n : ℕ) (text : List ℕ) → length (take n text) ≤ n
take_short zero text = omega arith
take_short (suc n) [] = omega arith
take_short (suc n) (byte ∷ bytes) = let i = take_short n bytes in omega arith

text_fits : (kind : ColumnKind) (text : List ℕ) → differ (sort_of_kind kind) OfText ≡ false → are_text_bytes text ≡ true → TextFits kind (cut kind text) × (are_text_bytes (cut kind text) ≡ true)
text_fits IntColumn text e h = cc
text_fits BigInt text e h = cc
text_fits (TextColumn max) text e h = (take_short max text, take_print max text h)

text_kept : (column : Column) (text : List ℕ) → differ (sort_of_kind column.kind) OfText ≡ false → are_text_bytes text ≡ true → KeptFits column (Text text)
text_kept column text e h = let q = text_fits column.kind text e h in record { fits = q.0; spells = q.1 }

null_kept : (column : Column) → column.nullable ≡ true → KeptFits column Null
null_kept column e = by_stored (ap (λ (b : Bool). cond b Null (empty_of column.kind)) e)
  where
    by_stored : stored column Null ≡ Null → KeptFits column Null
    by_stored f = record { fits = subst (ValueFits column) (sym f) e; spells = ap literal_spells f }

-- ---- lists of values

-- so many values fit the first columns
pub record SoFar (columns : List Column) (values : List Value) : Type 0 where
  pub front : List Column
  pub back : List Column
  pub are : columns ≡ front ++ back
  pub long : length values ≡ length front
  pub fit : ValuesFit front values
  pub spell : values_spell values ≡ true

pub none_yet : (columns : List Column) → SoFar columns []
none_yet columns = record { front = []; back = columns; are = refl; long = refl; fit = tt; spell = refl }

behind : (front back : List Column) (column : Column) (n : ℕ) → n ≡ length front → slice_get (front ++ back) n ≡ Some column → (more : List Column) × (back ≡ column ∷ more)
behind [] [] column n e f = cc
behind [] (first ∷ back) column zero e f = let s : first ≡ column = cc in (back, ap (λ (c : Column). c ∷ back) s)
behind [] (first ∷ back) column (suc n) e f = absurd (omega arith)
behind (x ∷ front) back column zero e f = absurd (omega arith)
behind (x ∷ front) back column (suc n) e f = behind front back column n (omega arith) f

fit_more : (front : List Column) (values : List Value) (column : Column) (value : Value) → ValuesFit front values → ValueFits column value → ValuesFit (front ++ column ∷ []) (values ++ value ∷ [])
fit_more [] [] column value h f = (f, tt)
fit_more [] (v ∷ values) column value h f = absurd h
fit_more (x ∷ front) [] column value h f = absurd h
fit_more (x ∷ front) (v ∷ values) column value h f = (h.0, fit_more front values column value h.1 f)

spell_more : (values : List Value) (value : Value) → values_spell values ≡ true → literal_spells value ≡ true → values_spell (values ++ value ∷ []) ≡ true
spell_more [] value h f = both_true (literal_spells value) true f refl
spell_more (v ∷ values) value h f = let q = both (literal_spells v) (values_spell values) h in both_true (literal_spells v) (values_spell (values ++ value ∷ [])) q.0 (spell_more values value q.1 f)

long_more : (front : List Column) (values : List Value) (column : Column) (value : Value) → length values ≡ length front → length (values ++ value ∷ []) ≡ length (front ++ column ∷ [])
long_more [] [] column value e = refl
long_more [] (v ∷ values) column value e = absurd (omega arith)
long_more (x ∷ front) [] column value e = absurd (omega arith)
long_more (x ∷ front) (v ∷ values) column value e = let i = long_more front values column value (omega arith) in omega arith

moved : (front back : List Column) (column : Column) → front ++ (column ∷ back) ≡ (front ++ column ∷ []) ++ back
moved [] back column = refl
moved (x ∷ front) back column = ap (λ (l : List Column). x ∷ l) (moved front back column)

one_more : (columns : List Column) (values : List Value) (column : Column) (value : Value) → SoFar columns values → slice_get columns (length values) ≡ Some column → KeptFits column value → SoFar columns (values ++ stored column value ∷ [])
one_more columns values column value i e k =
    let b = behind i.front i.back column (length values) i.long (ap (λ (l : List Column). slice_get l (length values)) (sym i.are) ∙ e) in record {
      front = i.front ++ column ∷ [];
      back = b.0;
      are = i.are ∙ ap (λ (l : List Column). i.front ++ l) b.1 ∙ moved i.front b.0 column;
      long = long_more i.front values column (stored column value) i.long;
      fit = fit_more i.front values column (stored column value) i.fit k.fits;
      spell = spell_more values (stored column value) i.spell k.spells;
    }

-- a value's word that has no fault, kept as its column keeps it
pub value_more : (columns : List Column) (values : List Value) (word : Word) (value : Value) (place : ℕ) → SoFar columns values → value_fault columns (length values) (slice_get columns (length values)) word place ≡ []
    → ((column : Column) → value_fault columns (length values) (Some column) word place ≡ [] → KeptFits column value) → SoFar columns (values ++ kept (slice_get columns (length values)) value ∷ [])
value_more columns values word value place i e k = by_column (slice_get columns (length values)) refl e
  where
    by_column : (o : Option Column) → slice_get columns (length values) ≡ o → value_fault columns (length values) o word place ≡ [] → SoFar columns (values ++ kept o value ∷ [])
    by_column None f e = cc
    by_column (Some column) f e = one_more columns values column value i f (k column e)

pub number_right : (columns : List Column) (n m place : ℕ) (i : ℤ) (column : Column) → value_fault columns n (Some column) (w.Number m) place ≡ [] → KeptFits column (Int i)
number_right columns n m place i column e = number_kept column i (no_fault n (differ (sort_of_kind column.kind) OfNumber) place e)

pub text_right : (columns : List Column) (n place : ℕ) (text : List ℕ) (column : Column) → are_text_bytes text ≡ true → value_fault columns n (Some column) (w.Text text) place ≡ [] → KeptFits column (Text text)
text_right columns n place text column p e = text_kept column text (no_fault n (differ (sort_of_kind column.kind) OfText) place e) p

pub null_right : (columns : List Column) (n place : ℕ) (column : Column) → value_fault columns n (Some column) w.Null place ≡ [] → KeptFits column Null
null_right columns n place column e = null_kept column (by_null column.nullable refl e)
  where
    by_null : (b : Bool) → column.nullable ≡ b → value_fault columns n (Some (record column { nullable = b })) w.Null place ≡ [] → column.nullable ≡ true
    by_null true f e = f
    by_null false f e = cc

-- the list ends where each column has its value
pub all_there : (columns : List Column) (values : List Value) (place : ℕ) → SoFar columns values → list_fault columns (length values) w.Close place ≡ [] → ValuesFit columns values
all_there columns values place i e = by_back i.back i.are
  where
    long : (b : Bool) → nat_lt (length values) (length columns) ≡ b → list_fault columns (length values) w.Close place ≡ [] → length columns ≤ length values
    long false f e = grind (arith, nat_tests)
    long true f e = cc

    longer : (front : List Column) (column : Column) (back : List Column) → length front + 1 ≤ length (front ++ (column ∷ back))
    longer [] column back = omega arith
    longer (x ∷ front) column back = let i = longer front column back in omega arith

    whole : (front : List Column) → front ++ [] ≡ front
    whole [] = refl
    whole (x ∷ front) = ap (λ (l : List Column). x ∷ l) (whole front)

    by_back : (back : List Column) → columns ≡ i.front ++ back → ValuesFit columns values
    by_back [] f = subst (λ (l : List Column). ValuesFit l values) (sym (f ∙ whole i.front)) i.fit
    by_back (column ∷ back) f =
        let a = longer i.front column back in
        let b = ap length f in
        let c = i.long in
        let d = long (nat_lt (length values) (length columns)) refl e in absurd (omega arith)
