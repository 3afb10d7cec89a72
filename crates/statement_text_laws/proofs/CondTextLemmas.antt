-- The text of a condition spells the words of its tree.
use Rattle.std.proofs.Common.{◌≡◌, ℕ, pos, negsuc, Bool, true, false, List, [], ◌∷◌, ◌++◌, Option, Some, None, refl, sym, ◌∙◌, ap, subst, inl, arith, append_assoc, append-nil}
use Rattle.std.specs.Prelude.{◌==◌, ◌||◌, not, take, codes, if◌then◌else◌}
use Rattle.std.specs.List.{slice_get}
use Rattle.std.specs.Option.{option_map_or}
use Rattle.std.proofs.lemmas.Bool.Decides.{nat_tests}
use Rattle.row_types.specs.declared.values.Value.{Value}
use Rattle.row_types.specs.declared.values.Value.TheVariants.{Null, Int, Text}
use Rattle.row_types.specs.declared.table_schema.Column.{Column}
use Rattle.row_types.specs.declared.table_schema.Schema.{Schema}
use Rattle.ptc_statement.specs.declared.expressions.Op.{Op}
use Rattle.ptc_statement.specs.declared.expressions.Op.TheVariants as op
use Rattle.ptc_statement.specs.declared.expressions.Expr.{Expr}
use Rattle.ptc_statement.specs.declared.conditions.Cond.{Cond, Cond-F, roll-Cond}
use Rattle.ptc_statement.specs.declared.conditions.Cond.TheOpen as c
use Rattle.ptc_statement.specs.declared.conditions.Cond.TheFolds.{ind-Cond, map-Cond, fold-roll-Cond}
use Rattle.statement_tokens.specs.declared.words.Word.{Word}
use Rattle.statement_tokens.specs.declared.words.Word.TheVariants as w
use Rattle.statement_tokens.specs.Spellings.{IsNameText, StopsAtEnd}
use Rattle.statement_tokens.specs.Tokens.{TokenAt}
use Rattle.statement_grammar.specs.Sentence.{Keys}
use Rattle.statement_grammar.specs.FirstFault.{keys_of, two_names}
use Rattle.statement_text.specs.Texts.{value_text, tuple_text}
use Rattle.statement_grammar.specs.Grammar.{tokens_of}
use Rattle.statement_text.specs.ConditionTexts as text
use Rattle.statement_text.specs.ConditionTexts.{op_text, null_test_text, key_columns_text, names_text}
use Rattle.statement_text_laws.specs.Canonical.{placeless, in_parentheses, enclosed, value_tree, two_values, row_tokens, expr_written, expr_tree, WrittenCond, null_words, left_of_and, left_of_or, on_the_right, cond_written_at, cond_written}
use Rattle.statement_text_laws.specs.SpelledWords.{Spelled, words_of, ends_token, expr_spells, literal_spells, key_spells, cond_spells_at, cond_spells, HasNames, CondsAreSpelled}
use Rattle.statement_text_laws.proofs.SpelledLemmas.{joined, spaced, one, before_others, stops}
use Rattle.statement_text_laws.proofs.ExprTextLemmas.{open_token, close_token, value_spelled, words_on, enclosed_spelled, some_enclosed, no_words, Written, expr_is_spelled}
use Rattle.statement_grammar.proofs.BasicLemmas.{both}

-- a word between spaces
pub between : (word : Word) (letters : List ℕ) (words : List Word) (bytes rest : List ℕ) → TokenAt false word letters ((32 ∷ bytes) ++ rest) → (words ≡ [] → ⊥) → Spelled words bytes rest → Spelled (word ∷ words) (32 ∷ (letters ++ (32 ∷ bytes))) rest
between word letters words bytes rest t some h =
    spaced (word ∷ words) (letters ++ (32 ∷ bytes)) rest (λ e. cc) (before_others word words letters (32 ∷ bytes) rest t (spaced words bytes rest some h))

op_spelled : (o : Op) (words : List Word) (bytes rest : List ℕ) → (words ≡ [] → ⊥) → Spelled words bytes rest → Spelled (w.Compare o ∷ words) (op_text o ++ bytes) rest
unfolding op_text
op_spelled op.Eq words bytes rest some h = between (w.Compare op.Eq) (codes "=") words bytes rest (record { spelled = refl; longest = refl; bits = tt }) some h
op_spelled op.Ne words bytes rest some h = between (w.Compare op.Ne) (codes "<>") words bytes rest (record { spelled = inl refl; longest = refl; bits = tt }) some h
op_spelled op.Lt words bytes rest some h = between (w.Compare op.Lt) (codes "<") words bytes rest (record { spelled = refl; longest = refl; bits = tt }) some h
op_spelled op.Le words bytes rest some h = between (w.Compare op.Le) (codes "<=") words bytes rest (record { spelled = refl; longest = refl; bits = tt }) some h
op_spelled op.Gt words bytes rest some h = between (w.Compare op.Gt) (codes ">") words bytes rest (record { spelled = refl; longest = refl; bits = tt }) some h
op_spelled op.Ge words bytes rest some h = between (w.Compare op.Ge) (codes ">=") words bytes rest (record { spelled = refl; longest = refl; bits = tt }) some h

op_ends : (o : Op) (bytes rest : List ℕ) → ends_token ((op_text o ++ bytes) ++ rest) ≡ true
unfolding op_text
op_ends op.Eq bytes rest = refl
op_ends op.Ne bytes rest = refl
op_ends op.Lt bytes rest = refl
op_ends op.Le bytes rest = refl
op_ends op.Gt bytes rest = refl
op_ends op.Ge bytes rest = refl

null_spelled : (negated : Bool) (rest : List ℕ) → ends_token rest ≡ true → Spelled (w.Is ∷ words_of (null_words negated)) (null_test_text negated) rest
unfolding null_test_text
null_spelled true rest e =
    between w.Is (codes "IS") (w.Not ∷ w.Null ∷ []) (codes "NOT NULL") rest (record { spelled = refl; longest = refl; bits = tt }) (λ e. cc)
    (before_others w.Not (w.Null ∷ []) (codes "NOT") (codes " NULL") rest (record { spelled = refl; longest = refl; bits = tt })
    (spaced (w.Null ∷ []) (codes "NULL") rest (λ e. cc) (one w.Null (codes "NULL") rest (record { spelled = refl; longest = stops w.Null rest e; bits = tt }))))
null_spelled false rest e =
    between w.Is (codes "IS") (w.Null ∷ []) (codes "NULL") rest (record { spelled = refl; longest = refl; bits = tt }) (λ e. cc)
    (one w.Null (codes "NULL") rest (record { spelled = refl; longest = stops w.Null rest e; bits = tt }))

null_ends : (negated : Bool) (rest : List ℕ) → ends_token (null_test_text negated ++ rest) ≡ true
unfolding null_test_text
null_ends true rest = refl
null_ends false rest = refl

-- a text and a tree that are written of one condition
pub record CondWritten (x : WrittenCond) (y : text.WrittenCond) : Type 0 where
  pub ands : y.is_and ≡ x.is_and
  pub ors : y.is_or ≡ x.is_or
  pub some : words_of (tokens_of x.tree) ≡ [] → ⊥
  pub spelled : (rest : List ℕ) → ends_token rest ≡ true → Spelled (words_of (tokens_of x.tree)) y.text rest

compared_written : (schemas : List Schema) (table : ℕ) (schema : Schema) (o : Op) (left right : Expr) → Written (expr_written schema left) (text.expr_written schemas table left) → Written (expr_written schema right) (text.expr_written schemas table right)
    → CondWritten (cond_written_at schema (c.Compare o left right)) (text.cond_written_at schemas table (c.Compare o left right))
compared_written schemas table schema o left right i j = record {
  ands = refl;
  ors = refl;
  some = no_words (tokens_of (expr_tree schema left)) (tokens_of (expr_tree schema right)) (placeless (w.Compare o));
  spelled = λ rest e.
      subst (λ (l : List ℕ). Spelled (words_of (tokens_of (expr_tree schema left) ++ (placeless (w.Compare o) ∷ tokens_of (expr_tree schema right)))) l rest)
      (sym (append_assoc (text.expr_text schemas table left) (op_text o) (text.expr_text schemas table right)))
      (subst (λ (ws : List Word). Spelled ws (text.expr_text schemas table left ++ (op_text o ++ text.expr_text schemas table right)) rest)
      (sym (words_on (tokens_of (expr_tree schema left)) (placeless (w.Compare o) ∷ tokens_of (expr_tree schema right))))
      (joined (words_of (tokens_of (expr_tree schema left))) (w.Compare o ∷ words_of (tokens_of (expr_tree schema right))) (text.expr_text schemas table left) (op_text o ++ text.expr_text schemas table right) rest
      (i.spelled _ (op_ends o (text.expr_text schemas table right) rest))
      (op_spelled o (words_of (tokens_of (expr_tree schema right))) (text.expr_text schemas table right) rest j.some (j.spelled rest e))));
}

null_written : (schemas : List Schema) (table : ℕ) (schema : Schema) (expr : Expr) (negated : Bool) → Written (expr_written schema expr) (text.expr_written schemas table expr)
    → CondWritten (cond_written_at schema (c.IsNull expr negated)) (text.cond_written_at schemas table (c.IsNull expr negated))
null_written schemas table schema expr negated i = record {
  ands = refl;
  ors = refl;
  some = no_words (tokens_of (expr_tree schema expr)) (null_words negated) (placeless w.Is);
  spelled = λ rest e.
      subst (λ (ws : List Word). Spelled ws (text.expr_text schemas table expr ++ null_test_text negated) rest)
      (sym (words_on (tokens_of (expr_tree schema expr)) (placeless w.Is ∷ null_words negated)))
      (joined (words_of (tokens_of (expr_tree schema expr))) (w.Is ∷ words_of (null_words negated)) (text.expr_text schemas table expr) (null_test_text negated) rest
      (i.spelled _ (null_ends negated rest)) (null_spelled negated rest e));
}

-- ---- row comparisons

pub comma_token : (rest : List ℕ) → TokenAt false w.Comma (codes ",") rest
comma_token rest = record { spelled = refl; longest = free rest; bits = tt }
  where
    free : (rest : List ℕ) → StopsAtEnd w.Comma rest
    free [] = tt
    free (byte ∷ bytes) = refl

-- two texts in parentheses
pair_spelled : (ws vs : List Word) (a b rest : List ℕ) → ((rest : List ℕ) → ends_token rest ≡ true → Spelled ws a rest) → ((rest : List ℕ) → ends_token rest ≡ true → Spelled vs b rest) → (vs ≡ [] → ⊥)
    → Spelled (w.Open ∷ (ws ++ (w.Comma ∷ (vs ++ w.Close ∷ [])))) ((codes "(" ++ (a ++ ((codes ", " ++ b) ++ []))) ++ codes ")") rest
pair_spelled ws vs a b rest i j some =
    let second : Spelled (vs ++ w.Close ∷ []) (b ++ codes ")") rest = joined vs (w.Close ∷ []) b (codes ")") rest (j (41 ∷ rest) refl) (one w.Close (codes ")") rest (close_token rest)) in
    let first : Spelled (ws ++ (w.Comma ∷ (vs ++ w.Close ∷ []))) (a ++ (44 ∷ 32 ∷ (b ++ codes ")"))) rest =
    joined ws (w.Comma ∷ (vs ++ w.Close ∷ [])) a (44 ∷ 32 ∷ (b ++ codes ")")) rest (i _ refl)
    (before_others w.Comma (vs ++ w.Close ∷ []) (codes ",") (32 ∷ (b ++ codes ")")) rest (comma_token _) (spaced (vs ++ w.Close ∷ []) (b ++ codes ")") rest (not_nil vs some) second)) in
    subst (λ (l : List ℕ). Spelled (w.Open ∷ (ws ++ (w.Comma ∷ (vs ++ w.Close ∷ [])))) l rest)
    (sym (ap (λ (l : List ℕ). 40 ∷ l) (append_assoc a (44 ∷ 32 ∷ (b ++ [])) (codes ")") ∙ ap (λ (l : List ℕ). a ++ (44 ∷ 32 ∷ (l ++ codes ")"))) (append-nil b))))
    (before_others w.Open (ws ++ (w.Comma ∷ (vs ++ w.Close ∷ []))) (codes "(") (a ++ (44 ∷ 32 ∷ (b ++ codes ")"))) rest (open_token _) first)
  where
    not_nil : (vs : List Word) → (vs ≡ [] → ⊥) → vs ++ w.Close ∷ [] ≡ [] → ⊥
    not_nil [] some e = some refl
    not_nil (v ∷ vs) some e = cc

-- the key's two columns
record TwoKeys (schema : Schema) : Type 0 where
  first : Column
  second : Column
  more : List Column
  columns : schema.columns ≡ first ∷ second ∷ more
  two : schema.key_len ≡ 2
  keys : keys_of schema ≡ Some (first.name, second.name)

two_keys : (schema : Schema) (key : List Value) → key_spells (keys_of schema) key ≡ true → TwoKeys schema
two_keys schema key r = by_test (schema.key_len == 2) refl r
  where
    wrong : (key : List Value) → key_spells None key ≡ true → ⊥
    wrong [] e = cc
    wrong (x ∷ xs) e = cc

    is_two : (n : ℕ) → (n == 2) ≡ true → n ≡ 2
    is_two n h = grind (arith, nat_tests)

    by_columns : (schema.key_len == 2) ≡ true → (columns : List Column) → schema.columns ≡ columns → key_spells (two_names columns) key ≡ true → TwoKeys schema
    by_columns t [] c r = absurd (wrong key r)
    by_columns t (first ∷ []) c r = absurd (wrong key r)
    by_columns t (first ∷ second ∷ more) c r = record {
      first = first;
      second = second;
      more = more;
      columns = c;
      two = is_two schema.key_len t;
      keys = ap (λ (b : Bool). if b then two_names schema.columns else None) t ∙ ap two_names c;
    }

    by_test : (b : Bool) → (schema.key_len == 2) ≡ b → key_spells (if b then two_names schema.columns else None) key ≡ true → TwoKeys schema
    by_test false t r = absurd (wrong key r)
    by_test true t r = by_columns t schema.columns refl r

pub name_spelled : (name rest : List ℕ) → IsNameText name name → ends_token rest ≡ true → Spelled (w.Name name ∷ []) name rest
name_spelled name rest h e = one (w.Name name) name rest (record { spelled = h; longest = stops (w.Name name) rest e; bits = tt })

-- the names, and then the sign and the literals
names_are : (schemas : List Schema) (table : ℕ) (schema : Schema) (k : TwoKeys schema) → slice_get schemas table ≡ Some schema
    → key_columns_text schemas table ≡ (codes "(" ++ (k.first.name ++ ((codes ", " ++ k.second.name) ++ []))) ++ codes ")"
unfolding key_columns_text
names_are schemas table schema k f =
    ap (λ (o : Option Schema). (codes "(" ++ option_map_or (λ (schema : Schema). names_text (take schema.key_len schema.columns)) o []) ++ codes ")") f
    ∙ ap (λ (n : ℕ). (codes "(" ++ names_text (take n schema.columns)) ++ codes ")") k.two
    ∙ ap (λ (l : List Column). (codes "(" ++ names_text (take 2 l)) ++ codes ")") k.columns

pub some_value : (value : Value) → words_of (tokens_of (value_tree value)) ≡ [] → ⊥
some_value Null e = cc
some_value (Int (pos n)) e = cc
some_value (Int (negsuc n)) e = cc
some_value (Text t) e = cc

values_spelled : (x y : Value) (rest : List ℕ) → literal_spells x ≡ true → literal_spells y ≡ true → Spelled (w.Open ∷ words_of (two_values (x ∷ y ∷ []))) (tuple_text (x ∷ y ∷ [])) rest
unfolding tuple_text
values_spelled x y rest h i =
    subst (λ (ws : List Word). Spelled (w.Open ∷ ws) (tuple_text (x ∷ y ∷ [])) rest)
    (sym (words_on (tokens_of (value_tree x)) (placeless w.Comma ∷ (tokens_of (value_tree y) ++ placeless w.Close ∷ []))
    ∙ ap (λ (ws : List Word). words_of (tokens_of (value_tree x)) ++ (w.Comma ∷ ws)) (words_on (tokens_of (value_tree y)) (placeless w.Close ∷ []))))
    (pair_spelled (words_of (tokens_of (value_tree x))) (words_of (tokens_of (value_tree y))) (value_text x) (value_text y) rest
    (λ rest e. value_spelled x rest h e) (λ rest e. value_spelled y rest i e) (some_value y))

key_written : (schemas : List Schema) (table : ℕ) (schema : Schema) (o : Op) (key : List Value) → slice_get schemas table ≡ Some schema → HasNames schema → key_spells (keys_of schema) key ≡ true
    → CondWritten (cond_written_at schema (c.KeyCompare o key)) (text.cond_written_at schemas table (c.KeyCompare o key))
key_written schemas table schema o key f n r = by_key key (subst (λ (keys : Keys). key_spells keys key ≡ true) k.keys r)
  where
    k : TwoKeys schema
    k = two_keys schema key r

    wrong : false ≡ true → ⊥
    wrong e = cc

    first_named : IsNameText k.first.name k.first.name
    first_named = n 0 k.first (ap (λ (l : List Column). slice_get l 0) k.columns)

    second_named : IsNameText k.second.name k.second.name
    second_named = n 1 k.second (ap (λ (l : List Column). slice_get l 1) k.columns)

    all : (x y : Value) (rest : List ℕ) → literal_spells x ≡ true → literal_spells y ≡ true
        → Spelled (words_of (row_tokens (Some (k.first.name, k.second.name)) o (x ∷ y ∷ []))) ((key_columns_text schemas table ++ op_text o) ++ tuple_text (x ∷ y ∷ [])) rest
    all x y rest h i =
        subst (λ (l : List ℕ). Spelled (words_of (row_tokens (Some (k.first.name, k.second.name)) o (x ∷ y ∷ []))) l rest) (sym (append_assoc (key_columns_text schemas table) (op_text o) (tuple_text (x ∷ y ∷ []))))
        (subst (λ (l : List ℕ). Spelled (words_of (row_tokens (Some (k.first.name, k.second.name)) o (x ∷ y ∷ []))) (l ++ (op_text o ++ tuple_text (x ∷ y ∷ []))) rest) (sym (names_are schemas table schema k f))
        (joined (w.Open ∷ w.Name k.first.name ∷ w.Comma ∷ w.Name k.second.name ∷ w.Close ∷ []) (w.Compare o ∷ w.Open ∷ words_of (two_values (x ∷ y ∷ []))) ((codes "(" ++ (k.first.name ++ ((codes ", " ++ k.second.name) ++ []))) ++ codes ")") (op_text o ++ tuple_text (x ∷ y ∷ [])) rest
        (pair_spelled (w.Name k.first.name ∷ []) (w.Name k.second.name ∷ []) k.first.name k.second.name ((op_text o ++ tuple_text (x ∷ y ∷ [])) ++ rest)
        (λ rest e. name_spelled k.first.name rest first_named e) (λ rest e. name_spelled k.second.name rest second_named e) (λ e. cc))
        (op_spelled o (w.Open ∷ words_of (two_values (x ∷ y ∷ []))) (tuple_text (x ∷ y ∷ [])) rest (λ e. cc) (values_spelled x y rest h i))))

    by_key : (key : List Value) → key_spells (Some (k.first.name, k.second.name)) key ≡ true → CondWritten (cond_written_at schema (c.KeyCompare o key)) (text.cond_written_at schemas table (c.KeyCompare o key))
    by_key [] r = absurd (wrong r)
    by_key (x ∷ []) r = absurd (wrong r)
    by_key (x ∷ y ∷ z ∷ zs) r = absurd (wrong r)
    by_key (x ∷ y ∷ []) r =
        let p = both (literal_spells x) (literal_spells y) r in record {
          ands = refl;
          ors = refl;
          some = subst (λ (keys : Keys). words_of (row_tokens keys o (x ∷ y ∷ [])) ≡ [] → ⊥) (sym k.keys) (λ e. cc);
          spelled = λ rest e. subst (λ (keys : Keys). Spelled (words_of (row_tokens keys o (x ∷ y ∷ []))) ((key_columns_text schemas table ++ op_text o) ++ tuple_text (x ∷ y ∷ [])) rest) (sym k.keys) (all x y rest p.0 p.1);
        }

not_written : (schemas : List Schema) (table : ℕ) (schema : Schema) (x : WrittenCond) (y : text.WrittenCond) → CondWritten x y → CondWritten (cond_written_at schema (c.Not x)) (text.cond_written_at schemas table (c.Not y))
not_written schemas table schema x y i = record {
  ands = refl;
  ors = refl;
  some = λ e. cc;
  spelled = λ rest e.
      before_others w.Not (words_of (tokens_of (in_parentheses x.tree))) (codes "NOT") (32 ∷ text.enclosed false y.text) rest (record { spelled = refl; longest = refl; bits = tt })
      (spaced (words_of (tokens_of (in_parentheses x.tree))) (text.enclosed false y.text) rest (λ e. cc) (enclosed_spelled false x.tree y.text rest i.spelled e));
}

-- two conditions and a word between them
two_written : (word : Word) (letters : List ℕ) (x y : WrittenCond) (a b : text.WrittenCond) (l r : Bool) (rest : List ℕ) → ((bytes : List ℕ) → TokenAt false word letters (32 ∷ bytes)) → CondWritten x a → CondWritten y b → ends_token rest ≡ true
    → Spelled (words_of (tokens_of (enclosed l x.tree) ++ (placeless word ∷ tokens_of (enclosed r y.tree)))) (text.enclosed l a.text ++ (32 ∷ (letters ++ (32 ∷ text.enclosed r b.text)))) rest
two_written word letters x y a b l r rest t i j e =
    subst (λ (ws : List Word). Spelled ws (text.enclosed l a.text ++ (32 ∷ (letters ++ (32 ∷ text.enclosed r b.text)))) rest) (sym (words_on (tokens_of (enclosed l x.tree)) (placeless word ∷ tokens_of (enclosed r y.tree))))
    (joined (words_of (tokens_of (enclosed l x.tree))) (word ∷ words_of (tokens_of (enclosed r y.tree))) (text.enclosed l a.text) (32 ∷ (letters ++ (32 ∷ text.enclosed r b.text))) rest
    (enclosed_spelled l x.tree a.text ((32 ∷ (letters ++ (32 ∷ text.enclosed r b.text))) ++ rest) i.spelled refl)
    (between word letters (words_of (tokens_of (enclosed r y.tree))) (text.enclosed r b.text) rest (t (text.enclosed r b.text ++ rest)) (some_enclosed r y.tree j.some) (enclosed_spelled r y.tree b.text rest j.spelled e)))

-- an AND or an OR, whose left side stands bare unless it is of the other word
joined_written : (word : Word) (letters : List ℕ) (x y : WrittenCond) (a b : text.WrittenCond) (p q : Bool) (rest : List ℕ) → q ≡ p → ((bytes : List ℕ) → TokenAt false word letters (32 ∷ bytes)) → CondWritten x a → CondWritten y b → ends_token rest ≡ true
    → Spelled (words_of (tokens_of (enclosed (not p) x.tree) ++ (placeless word ∷ tokens_of (on_the_right y)))) ((text.enclosed (not q) a.text ++ (32 ∷ (letters ++ 32 ∷ []))) ++ text.text_on_the_right b) rest
joined_written word letters x y a b p q rest same t i j e =
    subst (λ (o : Bool). Spelled words ((text.enclosed (not o) a.text ++ (32 ∷ (letters ++ 32 ∷ []))) ++ text.text_on_the_right b) rest) (sym same)
    (subst (λ (o : Bool). Spelled words ((text.enclosed (not p) a.text ++ (32 ∷ (letters ++ 32 ∷ []))) ++ text.enclosed (not o) b.text) rest) (sym bare)
    (subst (λ (l : List ℕ). Spelled words l rest)
    (sym (append_assoc (text.enclosed (not p) a.text) (32 ∷ (letters ++ 32 ∷ [])) (text.enclosed (not (y.is_and || y.is_or)) b.text)
    ∙ ap (λ (l : List ℕ). text.enclosed (not p) a.text ++ (32 ∷ l)) (append_assoc letters (32 ∷ []) (text.enclosed (not (y.is_and || y.is_or)) b.text))))
    (two_written word letters x y a b (not p) (not (y.is_and || y.is_or)) rest t i j e)))
  where
    words : List Word
    words = words_of (tokens_of (enclosed (not p) x.tree) ++ (placeless word ∷ tokens_of (on_the_right y)))

    bare : (b.is_and || b.is_or) ≡ (y.is_and || y.is_or)
    bare = ap (λ (p : Bool). p || b.is_or) j.ands ∙ ap (λ (p : Bool). y.is_and || p) j.ors

and_written : (schemas : List Schema) (table : ℕ) (schema : Schema) (x y : WrittenCond) (a b : text.WrittenCond) → CondWritten x a → CondWritten y b → CondWritten (cond_written_at schema (c.And x y)) (text.cond_written_at schemas table (c.And a b))
and_written schemas table schema x y a b i j = record {
  ands = refl;
  ors = refl;
  some = no_words (tokens_of (left_of_and x)) (tokens_of (on_the_right y)) (placeless w.And);
  spelled = λ rest e. joined_written w.And (codes "AND") x y a b x.is_or a.is_or rest i.ors (λ bytes. record { spelled = refl; longest = refl; bits = tt }) i j e;
}

or_written : (schemas : List Schema) (table : ℕ) (schema : Schema) (x y : WrittenCond) (a b : text.WrittenCond) → CondWritten x a → CondWritten y b → CondWritten (cond_written_at schema (c.Or x y)) (text.cond_written_at schemas table (c.Or a b))
or_written schemas table schema x y a b i j = record {
  ands = refl;
  ors = refl;
  some = no_words (tokens_of (left_of_or x)) (tokens_of (on_the_right y)) (placeless w.Or);
  spelled = λ rest e. joined_written w.Or (codes "OR") x y a b x.is_and a.is_and rest i.ands (λ bytes. record { spelled = refl; longest = refl; bits = tt }) i j e;
}

abbrev pub IsSpelled : List Schema → ℕ → Schema → Cond → Type 0
IsSpelled schemas table schema condition = cond_spells schema condition ≡ true → CondWritten (cond_written schema condition) (text.cond_written schemas table condition)

layer : (schemas : List Schema) (table : ℕ) (schema : Schema) → slice_get schemas table ≡ Some schema → HasNames schema → (y : Cond-F ((x : Cond) × IsSpelled schemas table schema x))
    → cond_spells_at schema (map-Cond Cond Bool (cond_spells schema) (map-Cond ((x : Cond) × IsSpelled schemas table schema x) Cond (λ p. p.0) y)) ≡ true
    → CondWritten (cond_written_at schema (map-Cond Cond WrittenCond (cond_written schema) (map-Cond ((x : Cond) × IsSpelled schemas table schema x) Cond (λ p. p.0) y)))
    (text.cond_written_at schemas table (map-Cond Cond text.WrittenCond (text.cond_written schemas table) (map-Cond ((x : Cond) × IsSpelled schemas table schema x) Cond (λ p. p.0) y)))
layer schemas table schema f n (c.Compare o left right) r =
    let p = both (expr_spells schema left) (expr_spells schema right) r in
    compared_written schemas table schema o left right (expr_is_spelled schemas table schema f n left p.0) (expr_is_spelled schemas table schema f n right p.1)
layer schemas table schema f n (c.KeyCompare o key) r = key_written schemas table schema o key f n r
layer schemas table schema f n (c.IsNull expr negated) r = null_written schemas table schema expr negated (expr_is_spelled schemas table schema f n expr r)
layer schemas table schema f n (c.Not x) r = not_written schemas table schema (cond_written schema x.0) (text.cond_written schemas table x.0) (x.1 r)
layer schemas table schema f n (c.And x y) r =
    let p = both (cond_spells schema x.0) (cond_spells schema y.0) r in
    and_written schemas table schema (cond_written schema x.0) (cond_written schema y.0) (text.cond_written schemas table x.0) (text.cond_written schemas table y.0) (x.1 p.0) (y.1 p.1)
layer schemas table schema f n (c.Or x y) r =
    let p = both (cond_spells schema x.0) (cond_spells schema y.0) r in
    or_written schemas table schema (cond_written schema x.0) (cond_written schema y.0) (text.cond_written schemas table x.0) (text.cond_written schemas table y.0) (x.1 p.0) (y.1 p.1)

pub cond_is_spelled : (schemas : List Schema) (table : ℕ) (schema : Schema) → slice_get schemas table ≡ Some schema → HasNames schema → (condition : Cond) → IsSpelled schemas table schema condition
cond_is_spelled schemas table schema f n = ind-Cond (IsSpelled schemas table schema) (λ x y is spells.
    subst (λ z. CondWritten z (text.cond_written schemas table (roll-Cond x))) (sym (fold-roll-Cond WrittenCond (cond_written_at schema) x))
    (subst (λ z. CondWritten (cond_written_at schema (map-Cond Cond WrittenCond (cond_written schema) x)) z) (sym (fold-roll-Cond text.WrittenCond (text.cond_written_at schemas table) x))
    (subst (λ z. cond_spells_at schema (map-Cond Cond Bool (cond_spells schema) z) ≡ true
    → CondWritten (cond_written_at schema (map-Cond Cond WrittenCond (cond_written schema) z)) (text.cond_written_at schemas table (map-Cond Cond text.WrittenCond (text.cond_written schemas table) z)))
    is (layer schemas table schema f n y) (sym (fold-roll-Cond Bool (cond_spells_at schema) x) ∙ spells))))

pub conds_are_spelled : CondsAreSpelled
conds_are_spelled schemas table schema condition rest f n r e = (cond_is_spelled schemas table schema f n condition r).spelled rest e
