-- The number that a key or a row begins with. Where two begin with different numbers, these give their order.
use Rattle.std.specs.Prelude.{ℤ, List, [], ◌∷◌, Option, None, Some}
use Rattle.std.specs.Ordering.{int_cmp}
use Rattle.std.specs.declared.cmp.Ordering.{Ordering}
use Rattle.std.specs.declared.cmp.Ordering.TheVariants.{Equal}
use Rattle.row_types.specs.declared.values.Value.{Value}
use Rattle.row_types.specs.declared.values.Value.TheVariants.{Null, Int, Text}

abbrev pub number_of : Value → Option ℤ
number_of Null = None
number_of (Int n) = Some n
number_of (Text text) = None

-- the number that a list of values begins with
abbrev pub leading : List Value → Option ℤ
leading [] = None
leading (value ∷ values) = number_of value

-- the number that a page's first row begins with
abbrev pub page_leading : List (List Value) → Option ℤ
page_leading [] = None
page_leading (row ∷ rows) = leading row

-- the order of two such numbers; equal where one of them is missing
abbrev pub leading_cmp : Option ℤ → Option ℤ → Ordering
leading_cmp None theirs = Equal
leading_cmp (Some m) None = Equal
leading_cmp (Some m) (Some n) = int_cmp m n
