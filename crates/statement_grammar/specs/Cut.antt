-- The tree so far.
use Rattle.std.specs.Prelude.{ℕ, ◌+◌, ◌-◌, max, nat_lt, Bool, List, [], ◌∷◌, length, take, if◌then◌else◌}
use Rattle.statement_tokens.specs.declared.words.Token.{Token}
use Rattle.statement_grammar.specs.Grammar as g
use Rattle.statement_grammar.specs.Machine as m

-- A tree of which some is not read yet: a gap is an operand that is not read.
pub data Part : Type 0 where
  Gap : Part
  Leaf : Token → Part
  Prefix : Token → Part → Part
  Binary : Part → Token → Part → Part
  Lower : Part → Token → Part → Part
  Range : Part → Token → Part → Token → Part → Part
  Nullness : Part → Token → Part
  Paren : Token → Part → Part
  Signed : Token → Token → Part
  RowTest : List Token → Part

abbrev pub parts : m.Maker Part
parts = record { leaf = Leaf; sign = Prefix; two = Binary; range = Range; nullness = λ x i ws. Nullness x i; paren = λ o x p. Paren o x; signed = Signed; row = RowTest }

abbrev pub whole : g.Shape → Part
whole s = m.made parts s

abbrev pub len : g.Shape → ℕ
len s = length (g.tokens_of s)

-- a row comparison is a column in parentheses until its comma is read
abbrev pub cut_row : ℕ → List Token → Part
cut_row n [] = Gap
cut_row n (o ∷ []) = Gap
cut_row n (o ∷ a ∷ ts) =
    if nat_lt 2 n then RowTest (take n (o ∷ a ∷ ts)) else if nat_lt 1 n then Paren o (Leaf a) else if nat_lt 0 n then Paren o Gap else Gap

-- What is there of a tree when n of its tokens are read. Where the text ends there, a `-` is a sign whose operand is
-- not read; where it goes on, a `-` before a number is the number already.
abbrev pub cut : Bool → ℕ → g.Shape → Part
cut ends n (g.Leaf t) = if nat_lt 0 n then Leaf t else Gap
cut ends n (g.Prefix t s) = if nat_lt 0 n then Prefix t (cut ends (n - 1) s) else Gap
cut ends n (g.Binary l t r) = if nat_lt (len l) n then Binary (whole l) t (cut ends (n - (len l + 1)) r) else cut ends n l
cut ends n (g.Range x b l a h) =
    if nat_lt (len x) n
    then if nat_lt (len x + 1 + len l) n then Range (whole x) b (whole l) a (cut ends (n - (len x + 1 + len l + 1)) h) else Lower (whole x) b (cut ends (n - (len x + 1)) l)
    else cut ends n x
cut ends n (g.Nullness x i ws) = if nat_lt (len x) n then Nullness (whole x) i else cut ends n x
cut ends n (g.Paren o s p) = if nat_lt 0 n then Paren o (cut ends (n - 1) s) else Gap
cut ends n (g.Signed t d) = if nat_lt 1 n then Signed t d else if nat_lt 0 n then (if ends then Prefix t Gap else Signed t d) else Gap
cut ends n (g.RowTest ts) = cut_row n ts

-- how high it is; BETWEEN stands for an AND of two comparisons
abbrev pub height : Part → ℕ
height Gap = 1
height (Leaf t) = 1
height (Prefix t s) = height s + 1
height (Binary l t r) = max (height l) (height r) + 1
height (Lower x b l) = max (height x) (height l) + 2
height (Range x b l a h) = max (height x) (max (height l) (height h)) + 2
height (Nullness x i) = height x + 1
height (Paren o s) = height s
height (Signed t d) = 1
height (RowTest ts) = 1
