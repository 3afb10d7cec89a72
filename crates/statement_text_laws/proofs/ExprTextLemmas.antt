-- The text of an expression spells the words of its tree.
use Rattle.std.proofs.Common.{◌≡◌, ℕ, pos, negsuc, suc, ◌≤◌, Bool, true, false, List, [], ◌∷◌, ◌++◌, Option, Some, None, refl, sym, ◌∙◌, ap, subst, arith, append_assoc, append-nil}
use Rattle.std.specs.Prelude.{◌==◌, ◌&&◌, not, leb, codes, cond, is_some}
use Rattle.std.specs.List.{AllByRecursion, slice_get}
use Rattle.std.specs.Option.{option_map_or}
use Rattle.std.specs.Fmt.{decimal}
use Rattle.std.proofs.lemmas.Bool.Decides.{nat_tests}
use Rattle.row_types.specs.declared.values.Value.{Value}
use Rattle.row_types.specs.declared.values.Value.TheVariants.{Null, Int, Text}
use Rattle.row_types.specs.declared.table_schema.Column.{Column}
use Rattle.row_types.specs.declared.table_schema.Schema.{Schema}
use Rattle.ptc_statement.specs.declared.expressions.Expr.{Expr, Expr-F, roll-Expr}
use Rattle.ptc_statement.specs.declared.expressions.Expr.TheOpen as e
use Rattle.ptc_statement.specs.declared.expressions.Expr.TheFolds.{ind-Expr, map-Expr, fold-roll-Expr}
use Rattle.statement_tokens.specs.declared.words.Token.{Token}
use Rattle.statement_tokens.specs.declared.words.Word.{Word}
use Rattle.statement_tokens.specs.declared.words.Word.TheVariants as w
use Rattle.statement_tokens.specs.declared.words.Math.{Math}
use Rattle.statement_tokens.specs.declared.words.Math.TheVariants.{Plus, Minus, Times}
use Rattle.statement_tokens.specs.Spellings.{IsNameText, IsTokenText, StopsAtEnd, doubled, is_text_byte}
use Rattle.statement_tokens.specs.Tokens.{TokenAt}
use Rattle.statement_grammar.specs.Grammar.{Shape, Leaf, Prefix, Binary, tokens_of}
use Rattle.statement_text.specs.Texts.{value_text, quoted}
use Rattle.statement_text.specs.ConditionTexts as text
use Rattle.statement_text.specs.ConditionTexts.{opening, closing, column_name}
use Rattle.statement_text_laws.specs.Canonical.{placeless, enclosed, value_tree, name_at, WrittenExpr, is_from_zero, arithmetic, operand, expr_written_at, expr_written}
use Rattle.statement_text_laws.specs.SpelledWords.{Spelled, words_of, ends_token, are_text_bytes, literal_spells, expr_spells_at, expr_spells, HasNames, ExprsAreSpelled}
use Rattle.statement_tokens.proofs.NumberLemmas.{decimal_spells}
use Rattle.statement_text_laws.proofs.SpelledLemmas.{joined, spaced, one, before_others, stops}
use Rattle.statement_grammar.proofs.BasicLemmas.{both}

-- ---- signs

math_token : (sign : Math) (text rest : List ℕ) → IsTokenText (w.Math sign) text → TokenAt false (w.Math sign) text rest
math_token sign text rest h = record { spelled = h; longest = free rest; bits = tt }
  where
    free : (rest : List ℕ) → StopsAtEnd (w.Math sign) rest
    free [] = tt
    free (byte ∷ bytes) = refl

pub open_token : (rest : List ℕ) → TokenAt false w.Open (codes "(") rest
open_token rest = record { spelled = refl; longest = free rest; bits = tt }
  where
    free : (rest : List ℕ) → StopsAtEnd w.Open rest
    free [] = tt
    free (byte ∷ bytes) = refl

pub close_token : (rest : List ℕ) → TokenAt false w.Close (codes ")") rest
close_token rest = record { spelled = refl; longest = free rest; bits = tt }
  where
    free : (rest : List ℕ) → StopsAtEnd w.Close rest
    free [] = tt
    free (byte ∷ bytes) = refl

-- ---- values

doubled_is : (bytes : List ℕ) → quoted bytes ≡ doubled bytes
doubled_is [] = refl
doubled_is (byte ∷ bytes) = by_test (byte == 39) (doubled_is bytes)
  where
    by_test : (b : Bool) → quoted bytes ≡ doubled bytes → cond b (39 ∷ 39 ∷ quoted bytes) (byte ∷ quoted bytes) ≡ cond b (39 ∷ (39 ∷ doubled bytes)) (byte ∷ doubled bytes)
    by_test true more = ap (λ (l : List ℕ). 39 ∷ 39 ∷ l) more
    by_test false more = ap (λ (l : List ℕ). byte ∷ l) more

text_bytes : (bytes : List ℕ) → are_text_bytes bytes ≡ true → AllByRecursion (λ (byte : ℕ). is_text_byte byte ≡ true) bytes
text_bytes [] h = tt
text_bytes (byte ∷ bytes) h = let p = both (is_text_byte byte) (are_text_bytes bytes) h in (p.0, text_bytes bytes p.1)

low : (n : ℕ) → leb n 9223372036854775807 ≡ true → n ≤ 9223372036854775807
low n h = grind (arith, nat_tests)

pub number_token : (n : ℕ) (rest : List ℕ) → n ≤ 9223372036854775808 → ends_token rest ≡ true → TokenAt false (w.Number n) (decimal n) rest
number_token n rest h e = record { spelled = decimal_spells n (omega arith); longest = stops (w.Number n) rest e; bits = omega arith }

pub value_spelled : (value : Value) (rest : List ℕ) → literal_spells value ≡ true → ends_token rest ≡ true → Spelled (words_of (tokens_of (value_tree value))) (value_text value) rest
unfolding value_text
value_spelled Null rest h e = one w.Null (codes "NULL") rest (record { spelled = refl; longest = stops w.Null rest e; bits = tt })
value_spelled (Int (pos n)) rest h e = one (w.Number n) (decimal n) rest (number_token n rest (let l = low n h in omega arith) e)
value_spelled (Int (negsuc n)) rest h e =
    before_others (w.Math Minus) (w.Number (suc n) ∷ []) (codes "-") (decimal (suc n)) rest (math_token Minus (codes "-") (decimal (suc n) ++ rest) refl)
    (one (w.Number (suc n)) (decimal (suc n)) rest (number_token (suc n) rest (let l = low n h in omega arith) e))
value_spelled (Text bytes) rest h e = one (w.Text bytes) (39 ∷ (quoted bytes ++ 39 ∷ [])) rest
    (record { spelled = record { is = ap (λ (l : List ℕ). 39 ∷ (l ++ 39 ∷ [])) (doubled_is bytes); bytes = text_bytes bytes h }; longest = stops (w.Text bytes) rest e; bits = tt })

-- ---- expressions

pub words_on : (ts us : List Token) → words_of (ts ++ us) ≡ words_of ts ++ words_of us
words_on [] us = refl
words_on (t ∷ ts) us = ap (λ (ws : List Word). t.word ∷ ws) (words_on ts us)

-- a text and a tree that are written of one expression
pub record Written (x : WrittenExpr) (y : text.WrittenExpr) : Type 0 where
  pub leaf : y.is_leaf ≡ x.is_leaf
  pub zero : y.from_zero ≡ x.from_zero
  pub some : words_of (tokens_of x.tree) ≡ [] → ⊥
  pub spelled : (rest : List ℕ) → ends_token rest ≡ true → Spelled (words_of (tokens_of x.tree)) y.text rest

pub some_enclosed : (b : Bool) (tree : Shape) → (words_of (tokens_of tree) ≡ [] → ⊥) → words_of (tokens_of (enclosed b tree)) ≡ [] → ⊥
some_enclosed true tree h e = h e
some_enclosed false tree h e = cc

pub enclosed_spelled : (b : Bool) (tree : Shape) (bytes rest : List ℕ) → ((rest : List ℕ) → ends_token rest ≡ true → Spelled (words_of (tokens_of tree)) bytes rest) → ends_token rest ≡ true
    → Spelled (words_of (tokens_of (enclosed b tree))) (text.enclosed b bytes) rest
unfolding opening closing
enclosed_spelled true tree bytes rest h e = subst (λ (l : List ℕ). Spelled (words_of (tokens_of tree)) l rest) (sym (append-nil bytes)) (h rest e)
enclosed_spelled false tree bytes rest h e =
    before_others w.Open (words_of (tokens_of tree ++ placeless w.Close ∷ [])) (codes "(") (bytes ++ codes ")") rest (open_token ((bytes ++ codes ")") ++ rest))
    (subst (λ (ws : List Word). Spelled ws (bytes ++ codes ")") rest) (sym (words_on (tokens_of tree) (placeless w.Close ∷ [])))
    (joined (words_of (tokens_of tree)) (w.Close ∷ []) bytes (codes ")") rest (h (41 ∷ rest) refl) (one w.Close (codes ")") rest (close_token rest))))

two_spelled : (sign : Math) (byte : ℕ) (x y : WrittenExpr) (a b : text.WrittenExpr) (rest : List ℕ) → IsTokenText (w.Math sign) (byte ∷ []) → Written x a → Written y b → ends_token rest ≡ true
    → Spelled (words_of (tokens_of (operand x) ++ (placeless (w.Math sign) ∷ tokens_of (operand y)))) (text.operand_text a ++ ((32 ∷ byte ∷ 32 ∷ []) ++ text.operand_text b)) rest
two_spelled sign byte x y a b rest s i j e =
    let left : (rest : List ℕ) → ends_token rest ≡ true → Spelled (words_of (tokens_of (operand x))) (text.operand_text a) rest =
    λ rest e. subst (λ (c : Bool). Spelled (words_of (tokens_of (operand x))) (text.enclosed c a.text) rest) (sym i.leaf) (enclosed_spelled x.is_leaf x.tree a.text rest i.spelled e) in
    let right : Spelled (words_of (tokens_of (operand y))) (text.operand_text b) rest =
    subst (λ (c : Bool). Spelled (words_of (tokens_of (operand y))) (text.enclosed c b.text) rest) (sym j.leaf) (enclosed_spelled y.is_leaf y.tree b.text rest j.spelled e) in
    let behind : Spelled (w.Math sign ∷ words_of (tokens_of (operand y))) (32 ∷ byte ∷ 32 ∷ text.operand_text b) rest =
    spaced (w.Math sign ∷ words_of (tokens_of (operand y))) (byte ∷ 32 ∷ text.operand_text b) rest (λ e. cc)
    (before_others (w.Math sign) (words_of (tokens_of (operand y))) (byte ∷ []) (32 ∷ text.operand_text b) rest (math_token sign (byte ∷ []) (32 ∷ (text.operand_text b ++ rest)) s)
    (spaced (words_of (tokens_of (operand y))) (text.operand_text b) rest (some_enclosed y.is_leaf y.tree j.some) right)) in
    subst (λ (ws : List Word). Spelled ws (text.operand_text a ++ ((32 ∷ byte ∷ 32 ∷ []) ++ text.operand_text b)) rest) (sym (words_on (tokens_of (operand x)) (placeless (w.Math sign) ∷ tokens_of (operand y))))
    (joined (words_of (tokens_of (operand x))) (w.Math sign ∷ words_of (tokens_of (operand y))) (text.operand_text a) (32 ∷ byte ∷ 32 ∷ text.operand_text b) rest (left _ refl) behind)

pub no_words : (ts us : List Token) (t : Token) → words_of (ts ++ (t ∷ us)) ≡ [] → ⊥
no_words [] us t e = cc
no_words (x ∷ ts) us t e = cc

two_written : (sign : Math) (byte : ℕ) (x y : WrittenExpr) (a b : text.WrittenExpr) → IsTokenText (w.Math sign) (byte ∷ []) → Written x a → Written y b
    → Written (arithmetic (Binary (operand x) (placeless (w.Math sign)) (operand y))) (text.arithmetic ((text.operand_text a ++ (32 ∷ byte ∷ 32 ∷ [])) ++ text.operand_text b))
two_written sign byte x y a b s i j = record {
  leaf = refl;
  zero = refl;
  some = no_words (tokens_of (operand x)) (tokens_of (operand y)) (placeless (w.Math sign));
  spelled = λ rest e. subst (λ (l : List ℕ). Spelled (words_of (tokens_of (operand x) ++ (placeless (w.Math sign) ∷ tokens_of (operand y)))) l rest)
      (sym (append_assoc (text.operand_text a) (32 ∷ byte ∷ 32 ∷ []) (text.operand_text b))) (two_spelled sign byte x y a b rest s i j e);
}

negated_written : (x : WrittenExpr) (a : text.WrittenExpr) → Written x a
    → Written (arithmetic (Prefix (placeless (w.Math Minus)) (enclosed (x.is_leaf && not x.from_zero) x.tree))) (text.arithmetic (codes "-" ++ text.text_after_sign a))
negated_written x a i = record {
  leaf = refl;
  zero = refl;
  some = λ e. cc;
  spelled = λ rest e. before_others (w.Math Minus) (words_of (tokens_of (enclosed (x.is_leaf && not x.from_zero) x.tree))) (codes "-") (text.text_after_sign a) rest
      (math_token Minus (codes "-") (text.text_after_sign a ++ rest) refl)
      (subst (λ (c : Bool). Spelled (words_of (tokens_of (enclosed (x.is_leaf && not x.from_zero) x.tree))) (text.enclosed c a.text) rest) (sym bare) (enclosed_spelled (x.is_leaf && not x.from_zero) x.tree a.text rest i.spelled e));
}
  where
    bare : (a.is_leaf && not a.from_zero) ≡ (x.is_leaf && not x.from_zero)
    bare = ap (λ (c : Bool). c && not a.from_zero) i.leaf ∙ ap (λ (c : Bool). x.is_leaf && not c) i.zero

value_written : (value : Value) → literal_spells value ≡ true → Written (record { is_leaf = true; from_zero = is_from_zero value; tree = value_tree value }) (record { is_leaf = true; from_zero = text.is_from_zero value; text = value_text value })
value_written value h = record { leaf = refl; zero = so value; some = some value; spelled = λ rest e. value_spelled value rest h e }
  where
    so : (value : Value) → text.is_from_zero value ≡ is_from_zero value
    so Null = refl
    so (Int (pos n)) = refl
    so (Int (negsuc n)) = refl
    so (Text t) = refl

    some : (value : Value) → words_of (tokens_of (value_tree value)) ≡ [] → ⊥
    some Null e = cc
    some (Int (pos n)) e = cc
    some (Int (negsuc n)) e = cc
    some (Text t) e = cc

pub cell_written : (schemas : List Schema) (table : ℕ) (schema : Schema) (column : ℕ) → slice_get schemas table ≡ Some schema → HasNames schema → is_some (slice_get schema.columns column) ≡ true
    → Written (record { is_leaf = true; from_zero = false; tree = Leaf (placeless (w.Name (name_at schema column))) }) (record { is_leaf = true; from_zero = false; text = text.column_name schemas table column })
unfolding column_name
cell_written schemas table schema column f names there = record { leaf = refl; zero = refl; some = λ e. cc; spelled = λ rest e. by_column (slice_get schema.columns column) refl there rest e }
  where
    name : text.column_name schemas table column ≡ name_at schema column
    name = ap (λ (o : Option Schema). option_map_or (λ (schema : Schema). option_map_or (λ (found : Column). found.name) (slice_get schema.columns column) []) o []) f

    by_column : (o : Option Column) → slice_get schema.columns column ≡ o → is_some o ≡ true → (rest : List ℕ) → ends_token rest ≡ true → Spelled (w.Name (name_at schema column) ∷ []) (text.column_name schemas table column) rest
    by_column None f there rest e = cc
    by_column (Some found) g there rest e =
        let n : name_at schema column ≡ found.name = ap (λ (o : Option Column). option_map_or (λ (found : Column). found.name) o []) g in
        one (w.Name (name_at schema column)) (text.column_name schemas table column) rest (record {
          spelled = subst (λ (l : List ℕ). IsNameText (name_at schema column) l) (sym name) (subst (λ (l : List ℕ). IsNameText l l) (sym n) (names column found g));
          longest = stops (w.Name (name_at schema column)) rest e;
          bits = tt;
        })

abbrev pub IsSpelled : List Schema → ℕ → Schema → Expr → Type 0
IsSpelled schemas table schema expr = expr_spells schema expr ≡ true → Written (expr_written schema expr) (text.expr_written schemas table expr)

layer : (schemas : List Schema) (table : ℕ) (schema : Schema) → slice_get schemas table ≡ Some schema → HasNames schema → (y : Expr-F ((x : Expr) × IsSpelled schemas table schema x))
    → expr_spells_at schema (map-Expr Expr Bool (expr_spells schema) (map-Expr ((x : Expr) × IsSpelled schemas table schema x) Expr (λ p. p.0) y)) ≡ true
    → Written (expr_written_at schema (map-Expr Expr WrittenExpr (expr_written schema) (map-Expr ((x : Expr) × IsSpelled schemas table schema x) Expr (λ p. p.0) y)))
    (text.expr_written_at schemas table (map-Expr Expr text.WrittenExpr (text.expr_written schemas table) (map-Expr ((x : Expr) × IsSpelled schemas table schema x) Expr (λ p. p.0) y)))
layer schemas table schema f n (e.Lit value) r = value_written value r
layer schemas table schema f n (e.Cell column) r = cell_written schemas table schema column f n r
layer schemas table schema f n (e.Neg x) r = negated_written (expr_written schema x.0) (text.expr_written schemas table x.0) (x.1 r)
layer schemas table schema f n (e.Add x y) r =
    let p = both (expr_spells schema x.0) (expr_spells schema y.0) r in
    two_written Plus 43 (expr_written schema x.0) (expr_written schema y.0) (text.expr_written schemas table x.0) (text.expr_written schemas table y.0) refl (x.1 p.0) (y.1 p.1)
layer schemas table schema f n (e.Sub x y) r =
    let p = both (expr_spells schema x.0) (expr_spells schema y.0) r in
    two_written Minus 45 (expr_written schema x.0) (expr_written schema y.0) (text.expr_written schemas table x.0) (text.expr_written schemas table y.0) refl (x.1 p.0) (y.1 p.1)
layer schemas table schema f n (e.Mul x y) r =
    let p = both (expr_spells schema x.0) (expr_spells schema y.0) r in
    two_written Times 42 (expr_written schema x.0) (expr_written schema y.0) (text.expr_written schemas table x.0) (text.expr_written schemas table y.0) refl (x.1 p.0) (y.1 p.1)

pub expr_is_spelled : (schemas : List Schema) (table : ℕ) (schema : Schema) → slice_get schemas table ≡ Some schema → HasNames schema → (expr : Expr) → IsSpelled schemas table schema expr
expr_is_spelled schemas table schema f n = ind-Expr (IsSpelled schemas table schema) (λ x y is spells.
    subst (λ z. Written z (text.expr_written schemas table (roll-Expr x))) (sym (fold-roll-Expr WrittenExpr (expr_written_at schema) x))
    (subst (λ z. Written (expr_written_at schema (map-Expr Expr WrittenExpr (expr_written schema) x)) z) (sym (fold-roll-Expr text.WrittenExpr (text.expr_written_at schemas table) x))
    (subst (λ z. expr_spells_at schema (map-Expr Expr Bool (expr_spells schema) z) ≡ true
    → Written (expr_written_at schema (map-Expr Expr WrittenExpr (expr_written schema) z)) (text.expr_written_at schemas table (map-Expr Expr text.WrittenExpr (text.expr_written schemas table) z)))
    is (layer schemas table schema f n y) (sym (fold-roll-Expr Bool (expr_spells_at schema) x) ∙ spells))))

pub exprs_are_spelled : ExprsAreSpelled
exprs_are_spelled schemas table schema expr rest f n r e = (expr_is_spelled schemas table schema f n expr r).spelled rest e
