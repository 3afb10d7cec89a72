-- The row of a line.
use Rattle.std.proofs.Common.{◌≡◌, ℕ, Bool, true, false, List, [], ◌∷◌, ◌++◌, None, map, refl, sym, ap, ◌∙◌, arith, append_assoc, append-nil, leb-true}
use Rattle.std.specs.Prelude.{◌-◌, ◌^◌, ◌≤◌, leb, reverse}
use Rattle.std.proofs.lemmas.List.{reverse-append}
use Rattle.std.specs.Int.{w64, saturate_signed}
use Rattle.row_types.specs.declared.values.Value.{Value}
use Rattle.row_types.specs.declared.values.Value.TheVariants.{Int}
use Rattle.statement_tokens.specs.Tokens.{most_number}
use Rattle.file_text.specs.declared.places.Keyword.TheVariants.{First}
use Rattle.file_text.specs.declared.places.Section.{Section}
use Rattle.file_text.specs.Said.{Said, Item, Word, Sign, Name, Digits, NodeWord, Literal, Number, Quoted, NullWord, Node, signed, value_of, literal_items, more_literals, literals_items}
use Rattle.file_text.specs.Rules.{InRange, misplaced, ends_in_minus, AtFirst}
use Rattle.line_words.specs.Actors.{kept}
use Rattle.line_words.specs.Items.{kept_node}
use Rattle.line_items.specs.declared.found_items.LineItem.{LineItem}
use Rattle.line_items.specs.Items.{kept_item}
use Rattle.line_values.specs.declared.row_texts.RowText.{RowText}
use Rattle.file_text.specs.Said.{HasLiteral}
use Rattle.line_values.specs.Lines.{row_said}
use Rattle.line_values.proofs.RangeLemmas.{range_behind, unless_none}
use Rattle.line_values.specs.Rows.{row_behind, row_on, row_in, with_value}

-- what is read from the last one of a list turned round
pub last_first : (row : RowText) (items : List LineItem) (item : LineItem) → row_on row (reverse (items ++ item ∷ [])) ≡ row_on (row_behind row item) (reverse items)
last_first row items item = ap (row_on row) (reverse-append items (item ∷ []))

-- ---- numbers in their range are kept

kept_small : (n : ℕ) → n ≤ 2 ^ 128 - 1 → kept n ≡ n
kept_small n h = omega (arith, h)

in_bits : (minus : Bool) (n : ℕ) → leb n (most_number minus) ≡ true → kept n ≡ n
in_bits true n e = let h : n ≤ 170141183460469231731687303715884105728 = leb-true n _ e in omega (arith, h)
in_bits false n e = let h : n ≤ 170141183460469231731687303715884105727 = leb-true n _ e in omega (arith, h)

digits_kept : (before : List Said) (front : List Item) (n : ℕ) → misplaced before front (Digits n) ≡ None → kept n ≡ n
digits_kept before front n e = in_bits (ends_in_minus front) n (unless_none (leb n (most_number (ends_in_minus front))) AtFirst e)

-- ---- literals

-- these literals' values, behind what was read
abbrev with_values : RowText → List Literal → RowText
with_values row literals = record { node = row.node; table = row.table; values = row.values ++ map value_of literals; minus = false }

one_literal : (before : List Said) (acc : List Item) (row : RowText) (literal : Literal) (more : List Item) → row.minus ≡ false → InRange before acc (literal_items literal ++ more)
    → row_on row (map kept_item (literal_items literal ++ more)) ≡ row_on (with_value (value_of literal) row) (map kept_item more)
one_literal before acc row (Number true n) more p r =
    ap (λ (m : ℕ). row_on (with_value (Int (saturate_signed w64 (signed true m))) row) (map kept_item more)) (digits_kept before (acc ++ Sign 45 ∷ []) n r.1.0)
one_literal before acc row (Number false n) more p r =
    ap (λ (m : ℕ). row_on (with_value (Int (saturate_signed w64 (signed row.minus m))) row) (map kept_item more)) (digits_kept before acc n r.0)
    ∙ ap (λ (b : Bool). row_on (with_value (Int (saturate_signed w64 (signed b n))) row) (map kept_item more)) p
one_literal before acc row (Quoted text) more p r = refl
one_literal before acc row NullWord more p r = refl

values_append : (row : RowText) (literal : Literal) (literals : List Literal) → with_values (with_value (value_of literal) row) literals ≡ with_values row (literal ∷ literals)
values_append row literal literals =
    ap (λ (l : List (Value)). record { node = row.node; table = row.table; values = l; minus = false }) (append_assoc row.values (value_of literal ∷ []) (map value_of literals))

no_values : (row : RowText) → record { node = row.node; table = row.table; values = row.values; minus = false } ≡ with_values row []
no_values row = ap (λ (l : List (Value)). record { node = row.node; table = row.table; values = l; minus = false }) (sym (append-nil row.values))

abbrev behind_comma : RowText → RowText
behind_comma row = record { node = row.node; table = row.table; values = row.values; minus = false }

further_literals : (before : List Said) (acc : List Item) (row : RowText) (literals : List Literal) → InRange before acc (more_literals literals)
    → row_on row (map kept_item (more_literals literals)) ≡ with_values row literals
further_literals before acc row [] r = no_values row
further_literals before acc row (literal ∷ literals) r =
    one_literal before (acc ++ Sign 44 ∷ []) (behind_comma row) literal (more_literals literals) refl r.1
    ∙ further_literals before ((acc ++ Sign 44 ∷ []) ++ literal_items literal) (with_value (value_of literal) row) literals (range_behind before (acc ++ Sign 44 ∷ []) (literal_items literal) (more_literals literals) r.1)
    ∙ values_append row literal literals

all_literals : (before : List Said) (acc : List Item) (row : RowText) (literals : List Literal) → row.minus ≡ false → row.values ≡ [] → HasLiteral literals → InRange before acc (literals_items literals)
    → row_on row (map kept_item (literals_items literals)) ≡ with_values row literals
all_literals before acc row [] p e h r = absurd h
all_literals before acc row (literal ∷ literals) p e h r =
    one_literal before acc row literal (more_literals literals) p r
    ∙ further_literals before (acc ++ literal_items literal) (with_value (value_of literal) row) literals (range_behind before acc (literal_items literal) (more_literals literals) r)
    ∙ values_append row literal literals

pub row_given : (section : Section) (before : List Said) (node : Node) (table : List ℕ) (literals : List Literal) → HasLiteral literals → InRange before [] (Word (First section) ∷ NodeWord node ∷ Name table ∷ Sign 40 ∷ literals_items literals)
    → row_in (map kept_item (Word (First section) ∷ NodeWord node ∷ Name table ∷ Sign 40 ∷ literals_items literals)) ≡ row_said node table literals
row_given section before node table literals h r =
    all_literals before _ (record { node = kept_node node; table = table; values = []; minus = false }) literals refl refl h r.1.1.1.1
