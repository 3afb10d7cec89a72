-- The trees as which expressions and conditions are written.
use Rattle.std.specs.Prelude.{◌≡◌, ℕ, ℤ, pos, negsuc, suc, leb, ◌==◌, ◌&&◌, ◌||◌, not, Bool, true, false, List, [], ◌∷◌, ◌++◌, Option, None, Some}
use Rattle.std.specs.List.{slice_get}
use Rattle.std.specs.Option.{option_map_or}
use Rattle.row_types.specs.declared.values.Value.{Value}
use Rattle.row_types.specs.declared.values.Value.TheVariants.{Null, Int, Text}
use Rattle.row_types.specs.declared.table_schema.Column.{Column}
use Rattle.row_types.specs.declared.table_schema.Schema.{Schema}
use Rattle.ptc_statement.specs.declared.expressions.Expr.{Expr, Expr-F, fold-Expr}
use Rattle.ptc_statement.specs.declared.expressions.Expr.TheOpen as e
use Rattle.ptc_statement.specs.declared.conditions.Cond.{Cond, Cond-F, fold-Cond}
use Rattle.ptc_statement.specs.declared.conditions.Cond.TheOpen as c
use Rattle.ptc_statement.specs.declared.expressions.Op.{Op}
use Rattle.statement_tokens.specs.declared.words.Math.TheVariants.{Plus, Minus, Times}
use Rattle.statement_tokens.specs.declared.words.Token.{Token}
use Rattle.statement_tokens.specs.declared.words.Word.{Word}
use Rattle.statement_tokens.specs.declared.words.Word.TheVariants as w
use Rattle.statement_grammar.specs.Grammar.{Setting, Shape, Leaf, Prefix, Binary, Nullness, Paren, Signed, RowTest, IsAt, tokens_of}
use Rattle.statement_grammar.specs.Kinds.{column_named}
use Rattle.statement_grammar.specs.Terms.{expression_of, condition_of}
use Rattle.statement_grammar.specs.Sentence.{Keys, setting}
use Rattle.statement_grammar.specs.FirstFault.{keys_of}

-- a token of which only the word matters
abbrev pub placeless : Word → Token
placeless word = record { word = word; place = 0 }

abbrev pub in_parentheses : Shape → Shape
in_parentheses s = Paren (placeless w.Open) s (placeless w.Close)

-- in parentheses, unless it stands bare
abbrev pub enclosed : Bool → Shape → Shape
enclosed true s = s
enclosed false s = in_parentheses s

abbrev pub value_tree : Value → Shape
value_tree Null = Leaf (placeless w.Null)
value_tree (Int (pos n)) = Leaf (placeless (w.Number n))
value_tree (Int (negsuc n)) = Signed (placeless (w.Math Minus)) (placeless (w.Number (suc n)))
value_tree (Text text) = Leaf (placeless (w.Text text))

abbrev pub name_at : Schema → ℕ → List ℕ
name_at schema column = option_map_or (λ (found : Column). found.name) (slice_get schema.columns column) []

-- an expression as it is written: whether it is a literal or a column, and whether a number from 0 on
pub record WrittenExpr : Type 0 where
  pub is_leaf : Bool
  pub from_zero : Bool
  pub tree : Shape

abbrev pub is_from_zero : Value → Bool
is_from_zero (Int (pos n)) = true
is_from_zero value = false

abbrev pub arithmetic : Shape → WrittenExpr
arithmetic tree = record { is_leaf = false; from_zero = false; tree = tree }

abbrev pub operand : WrittenExpr → Shape
operand x = enclosed x.is_leaf x.tree

abbrev pub expr_written_at : Schema → Expr-F WrittenExpr → WrittenExpr
expr_written_at schema (e.Lit value) = record { is_leaf = true; from_zero = is_from_zero value; tree = value_tree value }
expr_written_at schema (e.Cell column) = record { is_leaf = true; from_zero = false; tree = Leaf (placeless (w.Name (name_at schema column))) }
expr_written_at schema (e.Neg x) = arithmetic (Prefix (placeless (w.Math Minus)) (enclosed (x.is_leaf && not x.from_zero) x.tree))
expr_written_at schema (e.Add x y) = arithmetic (Binary (operand x) (placeless (w.Math Plus)) (operand y))
expr_written_at schema (e.Sub x y) = arithmetic (Binary (operand x) (placeless (w.Math Minus)) (operand y))
expr_written_at schema (e.Mul x y) = arithmetic (Binary (operand x) (placeless (w.Math Times)) (operand y))

abbrev pub expr_written : Schema → Expr → WrittenExpr
expr_written schema expr = fold-Expr WrittenExpr (expr_written_at schema) expr

-- the tree as which an expression is written
abbrev pub expr_tree : Schema → Expr → Shape
expr_tree schema expr = (expr_written schema expr).tree

-- ---- what can be read

abbrev pub in_64_bits : ℤ → Bool
in_64_bits (pos n) = leb n 9223372036854775807
in_64_bits (negsuc n) = leb n 9223372036854775807

abbrev pub literal_reads : Value → Bool
literal_reads Null = true
literal_reads (Int n) = in_64_bits n
literal_reads (Text text) = true

abbrev pub is_column : ℕ → Option ℕ → Bool
is_column column None = false
is_column column (Some found) = found == column

-- the column's name is no other's before it
abbrev pub cell_reads : Schema → ℕ → Bool
cell_reads schema column = is_column column (column_named schema (name_at schema column))

-- whether each literal and each column of an expression passes
abbrev pub expr_passes_at : (Value → Bool) → (ℕ → Bool) → Expr-F Bool → Bool
expr_passes_at literal cell (e.Lit value) = literal value
expr_passes_at literal cell (e.Cell column) = cell column
expr_passes_at literal cell (e.Neg x) = x
expr_passes_at literal cell (e.Add x y) = x && y
expr_passes_at literal cell (e.Sub x y) = x && y
expr_passes_at literal cell (e.Mul x y) = x && y

abbrev pub expr_reads_at : Schema → Expr-F Bool → Bool
expr_reads_at schema expr = expr_passes_at literal_reads (cell_reads schema) expr

-- numbers of 64 bits, and columns that are there
abbrev pub expr_reads : Schema → Expr → Bool
expr_reads schema expr = fold-Expr Bool (expr_reads_at schema) expr

-- what is written of an expression may stand where an expression is due, and is the expression
pub record ExprReadBack (schema : Schema) (expr : Expr) : Type 0 where
  pub stands : (g : Setting) → IsAt g 1 false (expr_tree schema expr)
  pub means : expression_of schema (expr_tree schema expr) ≡ expr

abbrev pub ExprsAreReadBack : Type 0
ExprsAreReadBack = (schema : Schema) (expr : Expr) → expr_reads schema expr ≡ true → ExprReadBack schema expr

-- ---- conditions

-- a condition as it is written: whether it is an AND or an OR
pub record WrittenCond : Type 0 where
  pub is_and : Bool
  pub is_or : Bool
  pub tree : Shape

abbrev pub term : Shape → WrittenCond
term tree = record { is_and = false; is_or = false; tree = tree }

abbrev pub null_words : Bool → List Token
null_words true = placeless w.Not ∷ placeless w.Null ∷ []
null_words false = placeless w.Null ∷ []

abbrev pub two_values : List Value → List Token
two_values (first ∷ second ∷ []) = tokens_of (value_tree first) ++ (placeless w.Comma ∷ (tokens_of (value_tree second) ++ placeless w.Close ∷ []))
two_values values = []

-- the key's columns, a sign, and a literal for each
abbrev pub row_tokens : Keys → Op → List Value → List Token
row_tokens None op key = []
row_tokens (Some names) op key =
    placeless w.Open ∷ placeless (w.Name names.0) ∷ placeless w.Comma ∷ placeless (w.Name names.1) ∷ placeless w.Close ∷ placeless (w.Compare op)
    ∷ placeless w.Open ∷ two_values key

abbrev pub left_of_and : WrittenCond → Shape
left_of_and x = enclosed (not x.is_or) x.tree

abbrev pub left_of_or : WrittenCond → Shape
left_of_or x = enclosed (not x.is_and) x.tree

abbrev pub on_the_right : WrittenCond → Shape
on_the_right x = enclosed (not (x.is_and || x.is_or)) x.tree

abbrev pub cond_written_at : Schema → Cond-F WrittenCond → WrittenCond
cond_written_at schema (c.Compare op left right) = term (Binary (expr_tree schema left) (placeless (w.Compare op)) (expr_tree schema right))
cond_written_at schema (c.KeyCompare op key) = term (RowTest (row_tokens (keys_of schema) op key))
cond_written_at schema (c.IsNull expr negated) = term (Nullness (expr_tree schema expr) (placeless w.Is) (null_words negated))
cond_written_at schema (c.Not x) = term (Prefix (placeless w.Not) (in_parentheses x.tree))
cond_written_at schema (c.And x y) = record { is_and = true; is_or = false; tree = Binary (left_of_and x) (placeless w.And) (on_the_right y) }
cond_written_at schema (c.Or x y) = record { is_and = false; is_or = true; tree = Binary (left_of_or x) (placeless w.Or) (on_the_right y) }

abbrev pub cond_written : Schema → Cond → WrittenCond
cond_written schema condition = fold-Cond WrittenCond (cond_written_at schema) condition

-- the tree as which a condition is written
abbrev pub cond_tree : Schema → Cond → Shape
cond_tree schema condition = (cond_written schema condition).tree

abbrev pub key_literal_reads : Value → Bool
key_literal_reads Null = false
key_literal_reads value = literal_reads value

-- two literals that pass, where the key has two columns
abbrev pub key_passes : (Value → Bool) → Keys → List Value → Bool
key_passes literal (Some names) (first ∷ second ∷ []) = literal first && literal second
key_passes literal keys key = false

-- literals that are not NULL
abbrev pub key_reads : Keys → List Value → Bool
key_reads keys key = key_passes key_literal_reads keys key

-- whether each expression and each key of a condition passes
abbrev pub cond_passes_at : (Expr → Bool) → (List Value → Bool) → Cond-F Bool → Bool
cond_passes_at expr key (c.Compare op left right) = expr left && expr right
cond_passes_at expr key (c.KeyCompare op values) = key values
cond_passes_at expr key (c.IsNull x negated) = expr x
cond_passes_at expr key (c.Not x) = x
cond_passes_at expr key (c.And x y) = x && y
cond_passes_at expr key (c.Or x y) = x && y

abbrev pub cond_reads_at : Schema → Cond-F Bool → Bool
cond_reads_at schema condition = cond_passes_at (expr_reads schema) (key_reads (keys_of schema)) condition

abbrev pub cond_reads : Schema → Cond → Bool
cond_reads schema condition = fold-Cond Bool (cond_reads_at schema) condition

-- what is written of a condition may stand where a condition is due, and is the condition
pub record CondReadBack (schema : Schema) (condition : Cond) : Type 0 where
  pub stands : IsAt (setting true (keys_of schema)) 1 true (cond_tree schema condition)
  pub means : condition_of schema (cond_tree schema condition) ≡ condition

abbrev pub CondsAreReadBack : Type 0
CondsAreReadBack = (schema : Schema) (condition : Cond) → cond_reads schema condition ≡ true → CondReadBack schema condition
