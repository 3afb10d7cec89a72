-- A row whose key lies outside the keys that a condition leaves never meets the condition.
use Rattle.std.proofs.Common.{◌≡◌, ◌∙◌, ◌==◌, ℕ, Bool, true, false, cond, Option, Some, None, List, [], ◌∷◌, take, refl, ap, sym, subst, arith}
use Rattle.std.specs.Prelude.{◌&&◌, slice_index_or}
use Rattle.std.specs.Ordering.{is_eq, is_lt, is_le, is_gt, is_ge, ordering_reverse, ordering_then}
use Rattle.std.specs.declared.cmp.Ordering.{Ordering}
use Rattle.std.specs.declared.cmp.Ordering.TheVariants.{Less, Equal, Greater}
use Rattle.row_types.specs.declared.values.Value.{Value}
use Rattle.row_types.specs.declared.values.Value.TheVariants.{Null, Int, Text}
use Rattle.row_types.specs.declared.edges.Span.{Span}
use Rattle.row_types.specs.declared.table_schema.Schema.{Schema}
use Rattle.row_types.specs.Order.{value_cmp, key_cmp, has, all_keys}
use Rattle.row_types.specs.Fit.{key_of}
use Rattle.row_types.proofs.OrderLemmas.{equal_last, values_total, keys_total}
use Rattle.row_types.proofs.SpanLemmas.{meeting_has}
use Rattle.ptc_statement.specs.declared.expressions.Op.{Op}
use Rattle.ptc_statement.specs.declared.expressions.Op.TheVariants.{Eq, Ne, Lt, Le, Gt, Ge}
use Rattle.ptc_statement.specs.declared.expressions.Expr.{Expr, Expr-F}
use Rattle.ptc_statement.specs.declared.expressions.Expr.TheOpen.{Lit, Cell, Neg, Add, Sub, Mul}
use Rattle.ptc_statement.specs.declared.expressions.Expr.TheFolds.{ind-Expr, map-Expr, fold-roll-Expr}
use Rattle.ptc_statement.specs.declared.conditions.Cond.{Cond, Cond-F}
use Rattle.ptc_statement.specs.declared.conditions.Cond.TheOpen.{Compare, KeyCompare, IsNull, Not, And, Or}
use Rattle.ptc_statement.specs.declared.conditions.Cond.TheViews.{roll-Cond}
use Rattle.ptc_statement.specs.declared.conditions.Cond.TheFolds.{ind-Cond, map-Cond, fold-roll-Cond}
use Rattle.ptc_statement.specs.Meaning.{value_of, value_at, meets, compared, both, truth_at, truth_of, is_true, is_taken}
use Rattle.ptc_statement.specs.Reach.{literal_at, literal_of, is_first_column_at, is_first_column, exchanged, keys_by, keys_of_value, keys_of_column, keys_at, keys_met, keys_where}

just_at : (o p : Ordering) → p ≡ ordering_reverse o → is_eq o ≡ true → is_le p && is_le o ≡ true
just_at Less p e met = cc
just_at Equal p e met = rw e refl
just_at Greater p e met = cc

below_at : (o : Ordering) → is_lt o ≡ true → is_le (ordering_then o Greater) ≡ true
below_at Less met = refl
below_at Equal met = cc
below_at Greater met = cc

above_at : (o p : Ordering) → p ≡ ordering_reverse o → is_gt o ≡ true → is_le (ordering_then p Greater) && true ≡ true
above_at Less p e met = cc
above_at Equal p e met = cc
above_at Greater p e met = rw e refl

least_at : (o p : Ordering) → p ≡ ordering_reverse o → is_ge o ≡ true → is_le p && true ≡ true
least_at Less p e met = cc
least_at Equal p e met = rw e refl
least_at Greater p e met = rw e refl

-- a key that stands so to another is among the keys that do
met_by : (op : Op) (own key : List Value) → meets op (key_cmp own key) ≡ true → has (keys_by op key) own ≡ true
met_by Eq own key met = just_at (key_cmp own key) (key_cmp key own) (keys_total.antisymm key own) met
met_by Ne own key met = refl
met_by Lt own key met = below_at (key_cmp own key) met
met_by Le own key met = met
met_by Gt own key met = above_at (key_cmp own key) (key_cmp key own) (keys_total.antisymm key own) met
met_by Ge own key met = least_at (key_cmp own key) (key_cmp key own) (keys_total.antisymm key own) met

-- keys of one value are compared as the values
alone : (own value : Value) → key_cmp (own ∷ []) (value ∷ []) ≡ value_cmp own value
alone own value = sym (equal_last (value_cmp own value))

met_alone : (op : Op) (own value : Value) → meets op (value_cmp own value) ≡ true → has (keys_by op (value ∷ [])) (own ∷ []) ≡ true
met_alone op own value met = met_by op (own ∷ []) (value ∷ []) (ap (meets op) (alone own value) ∙ met)

met_literal : (op : Op) (row : List Value) (literal : Value) → is_true (compared op (slice_index_or row 0 Null) literal) ≡ true
    → has (keys_of_value op (Some literal)) (take 1 row) ≡ true
met_literal op row Null met = refl
met_literal op [] (Int n) met = cc
met_literal op [] (Text t) met = cc
met_literal op (Null ∷ row) (Int n) met = cc
met_literal op (Null ∷ row) (Text t) met = cc
met_literal op (Int m ∷ row) (Int n) met = met_alone op (Int m) (Int n) met
met_literal op (Int m ∷ row) (Text t) met = met_alone op (Int m) (Text t) met
met_literal op (Text s ∷ row) (Int n) met = met_alone op (Text s) (Int n) met
met_literal op (Text s ∷ row) (Text t) met = met_alone op (Text s) (Text t) met

exchanged_at : (op : Op) (o : Ordering) → meets op o ≡ meets (exchanged op) (ordering_reverse o)
exchanged_at Eq Less = refl
exchanged_at Eq Equal = refl
exchanged_at Eq Greater = refl
exchanged_at Ne Less = refl
exchanged_at Ne Equal = refl
exchanged_at Ne Greater = refl
exchanged_at Lt Less = refl
exchanged_at Lt Equal = refl
exchanged_at Lt Greater = refl
exchanged_at Le Less = refl
exchanged_at Le Equal = refl
exchanged_at Le Greater = refl
exchanged_at Gt Less = refl
exchanged_at Gt Equal = refl
exchanged_at Gt Greater = refl
exchanged_at Ge Less = refl
exchanged_at Ge Equal = refl
exchanged_at Ge Greater = refl

meets_exchanged : (op : Op) (left right : Value) → meets op (value_cmp left right) ≡ meets (exchanged op) (value_cmp right left)
meets_exchanged op left right = exchanged_at op (value_cmp left right) ∙ ap (meets (exchanged op)) (sym (values_total.antisymm right left))

-- a comparison with its sides exchanged
compared_exchanged : (op : Op) (left right : Value) → compared op left right ≡ compared (exchanged op) right left
compared_exchanged op Null Null = refl
compared_exchanged op Null (Int n) = refl
compared_exchanged op Null (Text t) = refl
compared_exchanged op (Int m) Null = refl
compared_exchanged op (Int m) (Int n) = ap Some (meets_exchanged op (Int m) (Int n))
compared_exchanged op (Int m) (Text t) = ap Some (meets_exchanged op (Int m) (Text t))
compared_exchanged op (Text s) Null = refl
compared_exchanged op (Text s) (Int n) = ap Some (meets_exchanged op (Text s) (Int n))
compared_exchanged op (Text s) (Text t) = ap Some (meets_exchanged op (Text s) (Text t))

-- the value of a literal, and of the first column
abbrev LiteralIs : List Value → Expr → Type 0
LiteralIs row expr = (value : Value) → literal_of expr ≡ Some value → value_of row expr ≡ value

abbrev FirstIs : List Value → Expr → Type 0
FirstIs row expr = is_first_column expr ≡ true → value_of row expr ≡ slice_index_or row 0 Null

literal_layer : (row : List Value) (x : Expr-F Expr) (value : Value) → literal_at (map-Expr Expr (Option Value) literal_of x) ≡ Some value
    → value_at row (map-Expr Expr Value (value_of row) x) ≡ value
literal_layer row (Lit own) value is = cc
literal_layer row (Cell column) value is = cc
literal_layer row (Neg operand) value is = cc
literal_layer row (Add left right) value is = cc
literal_layer row (Sub left right) value is = cc
literal_layer row (Mul left right) value is = cc

first_layer : (row : List Value) (x : Expr-F Expr) → is_first_column_at (map-Expr Expr Bool is_first_column x) ≡ true
    → value_at row (map-Expr Expr Value (value_of row) x) ≡ slice_index_or row 0 Null
first_layer row (Lit own) is = cc
first_layer row (Cell column) is = let zero_is : column ≡ 0 = grind arith in ap (λ (place : ℕ). slice_index_or row place Null) zero_is
first_layer row (Neg operand) is = cc
first_layer row (Add left right) is = cc
first_layer row (Sub left right) is = cc
first_layer row (Mul left right) is = cc

literal_value : (row : List Value) (expr : Expr) → LiteralIs row expr
literal_value row = ind-Expr (LiteralIs row) (λ x y is value literal.
    fold-roll-Expr Value (value_at row) x
    ∙ literal_layer row x value (sym (fold-roll-Expr (Option Value) literal_at x) ∙ literal))

first_value : (row : List Value) (expr : Expr) → FirstIs row expr
first_value row = ind-Expr (FirstIs row) (λ x y is first.
    fold-roll-Expr Value (value_at row) x
    ∙ first_layer row x (sym (fold-roll-Expr Bool is_first_column_at x) ∙ first))

-- a column compared with what may be a literal
met_side : (op : Op) (row : List Value) (column side : Expr) (literal : Option Value) → is_first_column column ≡ true → literal_of side ≡ literal
    → is_true (compared op (value_of row column) (value_of row side)) ≡ true → has (keys_of_value op literal) (take 1 row) ≡ true
met_side op row column side None first is met = refl
met_side op row column side (Some literal) first is met =
    met_literal op row literal
    (ap (λ (own : Value). is_true (compared op own literal)) (sym (first_value row column first))
    ∙ ap (λ (value : Value). is_true (compared op (value_of row column) value)) (sym (literal_value row side literal is))
    ∙ met)

met_right_at : (op : Op) (row : List Value) (left right : Expr) (first : Bool) → is_first_column right ≡ first
    → is_true (compared op (value_of row left) (value_of row right)) ≡ true
    → has (cond first (keys_of_value (exchanged op) (literal_of left)) all_keys) (take 1 row) ≡ true
met_right_at op row left right true is met =
    met_side (exchanged op) row right left (literal_of left) is refl
    (ap is_true (sym (compared_exchanged op (value_of row left) (value_of row right))) ∙ met)
met_right_at op row left right false is met = refl

met_left_at : (op : Op) (row : List Value) (left right : Expr) (first : Bool) → is_first_column left ≡ first
    → is_true (compared op (value_of row left) (value_of row right)) ≡ true
    → has (cond first (keys_of_value op (literal_of right)) (cond (is_first_column right) (keys_of_value (exchanged op) (literal_of left)) all_keys)) (take 1 row) ≡ true
met_left_at op row left right true is met = met_side op row left right (literal_of right) is refl met
met_left_at op row left right false is met = met_right_at op row left right (is_first_column right) refl met

met_compared_at : (schema : Schema) (op : Op) (row : List Value) (left right : Expr) (one : Bool) → (schema.key_len == 1) ≡ one
    → is_true (compared op (value_of row left) (value_of row right)) ≡ true
    → has (cond one (keys_of_column op left right) all_keys) (key_of schema row) ≡ true
met_compared_at schema op row left right true is met =
    let one : schema.key_len ≡ 1 = grind arith in
    ap (λ (count : ℕ). has (keys_of_column op left right) (take count row)) one
    ∙ met_left_at op row left right (is_first_column left) refl met
met_compared_at schema op row left right false is met = refl

both_true : (left right : Option Bool) → is_true (both left right) ≡ true → (is_true left ≡ true) × (is_true right ≡ true)
both_true None None met = cc
both_true None (Some true) met = cc
both_true None (Some false) met = cc
both_true (Some true) right met = (refl, met)
both_true (Some false) right met = cc

abbrev KeyIsLeft : Schema → List Value → Cond → Type 0
KeyIsLeft schema row condition = is_true (truth_of schema row condition) ≡ true → has (keys_met schema condition) (key_of schema row) ≡ true

in_both : (left right : Bool) → left ≡ true → right ≡ true → left && right ≡ true
in_both left right one two = ap (λ (b : Bool). b && right) one ∙ two

-- a condition with what is known of it, and the layer without it
abbrev Known : Schema → List Value → Type 0
Known schema row = (condition : Cond) × KeyIsLeft schema row condition

abbrev bare : (schema : Schema) (row : List Value) → Cond-F (Known schema row) → Cond-F Cond
bare schema row y = map-Cond (Known schema row) Cond (λ e. e.0) y

met_layer : (schema : Schema) (row : List Value) (y : Cond-F (Known schema row))
    → is_true (truth_at schema row (map-Cond Cond (Option Bool) (truth_of schema row) (bare schema row y))) ≡ true
    → has (keys_at schema (map-Cond Cond Span (keys_met schema) (bare schema row y))) (key_of schema row) ≡ true
met_layer schema row (Compare op left right) met = met_compared_at schema op row left right (schema.key_len == 1) refl met
met_layer schema row (KeyCompare op key) met = met_by op (key_of schema row) key met
met_layer schema row (IsNull expr negated) met = refl
met_layer schema row (Not operand) met = refl
met_layer schema row (And left right) met =
    let both_met = both_true (truth_of schema row left.0) (truth_of schema row right.0) met in
    meeting_has (keys_met schema left.0) (keys_met schema right.0) (key_of schema row)
    ∙ in_both (has (keys_met schema left.0) (key_of schema row)) (has (keys_met schema right.0) (key_of schema row)) (left.1 both_met.0) (right.1 both_met.1)
met_layer schema row (Or left right) met = refl

-- a key whose row meets the condition is among those that it leaves
key_is_left : (schema : Schema) (row : List Value) (condition : Cond) → KeyIsLeft schema row condition
key_is_left schema row = ind-Cond (KeyIsLeft schema row) (λ x y is. subst (λ z. KeyIsLeft schema row (roll-Cond z)) is (λ met.
    ap (λ (span : Span). has span (key_of schema row)) (fold-roll-Cond Span (keys_at schema) (bare schema row y))
    ∙ met_layer schema row y (sym (ap is_true (fold-roll-Cond (Option Bool) (truth_at schema row) (bare schema row y))) ∙ met)))

-- a row that a statement takes has its key among those that the condition leaves
pub taken_is_left : (schema : Schema) (where_true : Option Cond) (row : List Value) → is_taken schema where_true row ≡ true
    → has (keys_where schema where_true) (key_of schema row) ≡ true
taken_is_left schema None row taken = refl
taken_is_left schema (Some condition) row taken = key_is_left schema row condition taken
