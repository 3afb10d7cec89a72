-- Expressions and conditions: what may stand where, and how it is spelled.
use Rattle.std.specs.Prelude.{◌≡◌, ◌≤◌, ℕ, suc, Bool, true, false, ◌&&◌, ◌==◌, Option, None, Some, List, [], ◌∷◌, ◌++◌, ⊤}
use Rattle.statement_tokens.specs.declared.words.Math.TheVariants.{Plus, Minus, Times}
use Rattle.statement_tokens.specs.declared.words.Token.{Token}
use Rattle.statement_tokens.specs.declared.words.Word.{Word}
use Rattle.statement_tokens.specs.declared.words.Word.TheVariants as w

-- A tree as it is written, with its parentheses.
pub data Shape : Type 0 where
  Leaf : Token → Shape
  Prefix : Token → Shape → Shape
  Binary : Shape → Token → Shape → Shape
  Range : Shape → Token → Shape → Token → Shape → Shape
  Nullness : Shape → Token → List Token → Shape
  Paren : Token → Shape → Token → Shape
  Signed : Token → Token → Shape  -- a `-` and the number behind it
  RowTest : List Token → Shape  -- (a, b) op (literal, literal)

-- how it is spelled
abbrev pub tokens_of : Shape → List Token
tokens_of (Leaf t) = t ∷ []
tokens_of (Prefix t s) = t ∷ tokens_of s
tokens_of (Binary l t r) = tokens_of l ++ (t ∷ tokens_of r)
tokens_of (Range x b l a h) = tokens_of x ++ (b ∷ (tokens_of l ++ (a ∷ tokens_of h)))
tokens_of (Nullness x i more) = tokens_of x ++ (i ∷ more)
tokens_of (Paren o s c) = o ∷ (tokens_of s ++ (c ∷ []))
tokens_of (Signed t d) = t ∷ d ∷ []
tokens_of (RowTest ts) = ts

-- How tightly words bind, from OR to a sign before an operand. A word between two operands groups to the left,
-- so what stands on its right binds tighter than it.
abbrev pub level : Word → ℕ
level w.Or = 1
level w.And = 2
level (w.Compare o) = 4
level (w.Math Plus) = 5
level (w.Math Minus) = 5
level (w.Math Times) = 6
level _ = 0

-- how tightly what stands on the left of a word binds at least; comparisons have no comparison as a side
abbrev pub left_level : Word → ℕ
left_level w.Or = 1
left_level w.And = 2
left_level (w.Compare o) = 5
left_level (w.Math Plus) = 5
left_level (w.Math Minus) = 5
left_level (w.Math Times) = 6
left_level _ = 0

abbrev pub prefix_level : Word → ℕ
prefix_level w.Not = 3
prefix_level (w.Math Minus) = 7
prefix_level _ = 0

-- whether the operands of a word are conditions, and whether what it makes is one
abbrev pub wants : Word → Bool
wants w.Or = true
wants w.And = true
wants w.Not = true
wants _ = false

abbrev pub gives : Word → Bool
gives (w.Compare o) = true
gives w.Or = true
gives w.And = true
gives w.Not = true
gives _ = false

abbrev pub is_operand : Word → Bool
is_operand (w.Name n) = true
is_operand (w.Number n) = true
is_operand (w.Text t) = true
is_operand w.Null = true
is_operand _ = false

abbrev pub AreNullWords : List Token → Type 0
AreNullWords [] = ⊥
AreNullWords (t ∷ []) = t.word ≡ w.Null
AreNullWords (t ∷ u ∷ []) = (t.word ≡ w.Not) × (u.word ≡ w.Null)
AreNullWords (t ∷ u ∷ v ∷ ts) = ⊥

-- ---- where a tree stands: whether a condition is wanted, and which names are the first and the second
-- column of the key, where it has two
pub record Setting : Type 0 where
  pub base : Bool
  pub key : Option (List ℕ × List ℕ)

abbrev pub same_bytes : List ℕ → List ℕ → Bool
same_bytes [] [] = true
same_bytes [] (y ∷ ys) = false
same_bytes (x ∷ xs) [] = false
same_bytes (x ∷ xs) (y ∷ ys) = (x == y) && same_bytes xs ys

abbrev pub names_first : Option (List ℕ × List ℕ) → List ℕ → Bool
names_first None name = false
names_first (Some key) name = same_bytes key.0 name

abbrev pub names_second : Option (List ℕ × List ℕ) → List ℕ → Bool
names_second None name = false
names_second (Some key) name = same_bytes key.1 name

-- the word is the name of the first column of a key of two, or of the second
abbrev pub first_is : Setting → Word → Bool
first_is g (w.Name name) = names_first g.key name
first_is g _ = false

abbrev pub second_is : Setting → Word → Bool
second_is g (w.Name name) = names_second g.key name
second_is g _ = false

-- the tokens of a row comparison, one by one
pub data Slot : Type 0 where
  OpenSlot : Slot
  FirstSlot : Slot
  CommaSlot : Slot
  SecondSlot : Slot
  CloseSlot : Slot
  CompareSlot : Slot
  ValueSlot : Slot
  DigitsSlot : Slot

abbrev pub is_open : Word → Bool
is_open w.Open = true
is_open _ = false

abbrev pub is_close : Word → Bool
is_close w.Close = true
is_close _ = false

abbrev pub is_comma : Word → Bool
is_comma w.Comma = true
is_comma _ = false

abbrev pub is_compare : Word → Bool
is_compare (w.Compare o) = true
is_compare _ = false

abbrev pub is_value : Word → Bool
is_value (w.Number n) = true
is_value (w.Text t) = true
is_value _ = false

abbrev pub is_number : Word → Bool
is_number (w.Number n) = true
is_number _ = false

abbrev pub is_minus : Word → Bool
is_minus (w.Math Minus) = true
is_minus _ = false

abbrev pub filled_by : Bool → Option (List Slot)
filled_by true = Some []
filled_by false = None

-- a value, or the `-` before a number
abbrev pub value_after : Word → Option (List Slot)
value_after (w.Math Minus) = Some (DigitsSlot ∷ [])
value_after word = filled_by (is_value word)

-- what of the slot is left behind a word
abbrev pub slot_after : Setting → Slot → Word → Option (List Slot)
slot_after g OpenSlot word = filled_by (is_open word)
slot_after g FirstSlot word = filled_by (first_is g word)
slot_after g CommaSlot word = filled_by (is_comma word)
slot_after g SecondSlot word = filled_by (second_is g word)
slot_after g CloseSlot word = filled_by (is_close word)
slot_after g CompareSlot word = filled_by (is_compare word)
slot_after g ValueSlot word = value_after word
slot_after g DigitsSlot word = filled_by (is_number word)

abbrev pub after_comma : List Slot
after_comma = SecondSlot ∷ CloseSlot ∷ CompareSlot ∷ OpenSlot ∷ ValueSlot ∷ CommaSlot ∷ ValueSlot ∷ CloseSlot ∷ []

abbrev pub row_slots : List Slot
row_slots = OpenSlot ∷ FirstSlot ∷ CommaSlot ∷ after_comma

abbrev pub FillSlots : Setting → List Slot → List Token → Type 0
FillSlots g [] [] = ⊤
FillSlots g [] (t ∷ ts) = ⊥
FillSlots g (slot ∷ slots) [] = ⊥
FillSlots g (slot ∷ slots) (t ∷ ts) = (more : List Slot) × (slot_after g slot t.word ≡ Some more) × FillSlots g (more ++ slots) ts

-- a `-` before a number belongs to the number
abbrev pub LeafBehind : Word → Word → Type 0
LeafBehind (w.Math Minus) word = is_number word ≡ false
LeafBehind _ word = ⊤

abbrev pub Unjoined : Word → Shape → Type 0
Unjoined u (Leaf t) = LeafBehind u t.word
Unjoined u _ = ⊤

-- the tree may stand where level n is wanted; it is a condition (true) or an expression (false)
abbrev pub IsAt : Setting → ℕ → Bool → Shape → Type 0
IsAt g n c (Leaf t) = (c ≡ false) × (is_operand t.word ≡ true)
IsAt g n c (Prefix t s) = (n ≤ prefix_level t.word) × (1 ≤ prefix_level t.word) × (c ≡ gives t.word) × IsAt g (prefix_level t.word) (wants t.word) s × Unjoined t.word s
IsAt g n c (Binary l t r) = (n ≤ level t.word) × (1 ≤ level t.word) × (c ≡ gives t.word) × IsAt g (left_level t.word) (wants t.word) l × IsAt g (suc (level t.word)) (wants t.word) r
IsAt g n c (Range x b l a h) = (n ≤ 4) × (c ≡ true) × (b.word ≡ w.Between) × (a.word ≡ w.And) × IsAt g 5 false x × IsAt g 5 false l × IsAt g 5 false h
IsAt g n c (Nullness x i more) = (n ≤ 4) × (c ≡ true) × (i.word ≡ w.Is) × AreNullWords more × IsAt g 5 false x
IsAt g n c (Paren o s p) = (o.word ≡ w.Open) × (p.word ≡ w.Close) × IsAt g 1 c s
IsAt g n c (RowTest ts) = (n ≤ 4) × (c ≡ true) × FillSlots g row_slots ts
IsAt g n c (Signed t d) = (c ≡ false) × (is_minus t.word ≡ true) × (is_number d.word ≡ true)
