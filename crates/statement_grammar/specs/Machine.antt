-- A machine that reads expressions and conditions token by token. What an operand is kept as, is left open.
use Rattle.std.specs.Prelude.{ℕ, nat_lt, Bool, true, false, not, ◌&&◌, List, [], ◌∷◌, ◌++◌, Option, Some, None, if◌then◌else◌}
use Rattle.statement_tokens.specs.declared.words.Math.TheVariants.{Minus}
use Rattle.statement_tokens.specs.declared.words.Token.{Token}
use Rattle.statement_tokens.specs.declared.words.Word.{Word}
use Rattle.statement_tokens.specs.declared.words.Word.TheVariants as w
use Rattle.statement_grammar.specs.declared.frames.Frame.{Frame}
use Rattle.statement_grammar.specs.declared.frames.Frame.TheVariants.{Before, Behind, Low, High, Opened}
use Rattle.statement_grammar.specs.Grammar.{Shape, Leaf, Prefix, Binary, Range, Nullness, Paren, Signed, RowTest, Setting, Slot, is_number, first_is, slot_after, after_comma, level, prefix_level, wants, gives, is_operand}

-- what a reader makes of the parts of a tree
pub record Maker (X : Type 0) : Type 0 where
  pub leaf : Token → X
  pub sign : Token → X → X
  pub two : X → Token → X → X
  pub range : X → Token → X → Token → X → X
  pub nullness : X → Token → List Token → X
  pub paren : Token → X → Token → X
  pub signed : Token → Token → X
  pub row : List Token → X

abbrev pub made : {X : Type 0} → Maker X → Shape → X
made m (Leaf t) = m.leaf t
made m (Prefix t s) = m.sign t (made m s)
made m (Binary l t r) = m.two (made m l) t (made m r)
made m (Range x b l a h) = m.range (made m x) b (made m l) a (made m h)
made m (Nullness x i more) = m.nullness (made m x) i more
made m (Paren o s p) = m.paren o (made m s) p
made m (Signed t d) = m.signed t d
made m (RowTest ts) = m.row ts

-- the tree itself
abbrev pub shapes : Maker Shape
shapes = record { leaf = Leaf; sign = Prefix; two = Binary; range = Range; nullness = Nullness; paren = Paren; signed = Signed; row = RowTest }

pub record Held (X : Type 0) : Type 0 where
  pub stack : List (Frame X)
  pub condition : Bool
  pub x : X

pub data State (X : Type 0) : Type 0 where
  Due : List (Frame X) → State X
  Read : Held X → State X
  SawIs : Held X → Token → State X
  SawNot : Held X → Token → Token → State X
  Lone : List (Frame X) → Token → Token → State X  -- `(` and the first key column, where a condition may stand
  InRow : List (Frame X) → List Token → Slot → List Slot → State X
  SawMinus : List (Frame X) → Token → State X  -- a `-` where an operand is due

infixl 10 ◌>>=◌
abbrev pub ◌>>=◌ : {A B : Type 0} → Option A → (A → Option B) → Option B
None >>= f = None
(Some x) >>= f = f x

-- how tightly a frame binds the operand that it waits for; 0 where only its own word ends it
abbrev pub strength : {X : Type 0} → Frame X → ℕ
strength (Before t) = prefix_level t.word
strength (Behind x t) = level t.word
strength (Low x t) = 0
strength (High x b l a) = 4
strength (Opened t b) = 0

abbrev pub frame_wants : {X : Type 0} → Frame X → Bool
frame_wants (Before t) = wants t.word
frame_wants (Behind x t) = wants t.word
frame_wants (Low x t) = false
frame_wants (High x b l a) = false
frame_wants (Opened t b) = false

abbrev pub frame_gives : {X : Type 0} → Frame X → Bool
frame_gives (Before t) = gives t.word
frame_gives (Behind x t) = gives t.word
frame_gives (Low x t) = true
frame_gives (High x b l a) = true
frame_gives (Opened t b) = false

-- the frame with its operand
abbrev pub filled : {X : Type 0} → Maker X → Frame X → X → X
filled m (Before t) x = m.sign t x
filled m (Behind l t) x = m.two l t x
filled m (Low l t) x = x
filled m (High v b l a) x = m.range v b l a x
filled m (Opened t b) x = x

abbrev pub same_sort : Bool → Bool → Bool
same_sort true b = b
same_sort false b = not b

-- closes what binds at least as tightly as a level
abbrev pub close : {X : Type 0} → Maker X → ℕ → List (Frame X) → Bool → X → Option (Held X)
close m k [] c x = Some (record { stack = []; condition = c; x = x })
close m k (f ∷ fs) c x =
    if nat_lt (strength f) k then Some (record { stack = f ∷ fs; condition = c; x = x })
    else if same_sort c (frame_wants f) then close m k fs (frame_gives f) (filled m f x) else None

-- whether a condition may stand behind these frames
abbrev pub takes_condition : {X : Type 0} → Setting → List (Frame X) → Bool
takes_condition g [] = g.base
takes_condition g (Before t ∷ fs) = wants t.word
takes_condition g (Behind x t ∷ fs) = wants t.word
takes_condition g (Low x t ∷ fs) = false
takes_condition g (High x b l a ∷ fs) = false
takes_condition g (Opened t b ∷ fs) = b

abbrev pub when : {A : Type 0} → Bool → A → Option A
when true a = Some a
when false a = None

-- an operand is due
-- an operand: `(` and the first key column may begin a row comparison
abbrev pub operand : {X : Type 0} → Setting → Maker X → Word → List (Frame X) → Token → State X
operand g m (w.Name n) (Opened o true ∷ fs) t =
    if first_is g (w.Name n) then Lone fs o t else Read (record { stack = Opened o true ∷ fs; condition = false; x = m.leaf t })
operand g m word fs t = Read (record { stack = fs; condition = false; x = m.leaf t })

abbrev pub begun : {X : Type 0} → Setting → Maker X → Word → List (Frame X) → Token → Option (State X)
begun g m w.Not fs t = when (takes_condition g fs) (Due (Before t ∷ fs))
begun g m (w.Math Minus) fs t = Some (SawMinus fs t)
begun g m w.Open fs t = Some (Due (Opened t (takes_condition g fs) ∷ fs))
begun g m word fs t = when (is_operand word) (operand g m word fs t)

-- AND belongs to a BETWEEN that waits for it
abbrev pub and_then : {X : Type 0} → List (Frame X) → Bool → X → Token → Option (State X)
and_then (Low v b ∷ fs) c x t = when (not c) (Due (High v b x t ∷ fs))
and_then fs c x t = when c (Due (Behind x t ∷ fs))

abbrev pub closed : {X : Type 0} → Maker X → List (Frame X) → Bool → X → Token → Option (State X)
closed m (Opened o b ∷ fs) c x t = Some (Read (record { stack = fs; condition = c; x = m.paren o x t }))
closed m fs c x t = None

-- an operand has been read
abbrev pub followed : {X : Type 0} → Setting → Maker X → Word → Held X → Token → Option (State X)
followed g m (w.Math o) h t = close m (level (w.Math o)) h.stack h.condition h.x >>= λ q. when (not q.condition) (Due (Behind q.x t ∷ q.stack))
followed g m (w.Compare o) h t = close m 5 h.stack h.condition h.x >>= λ q. when (not q.condition && takes_condition g q.stack) (Due (Behind q.x t ∷ q.stack))
followed g m w.Between h t = close m 5 h.stack h.condition h.x >>= λ q. when (not q.condition && takes_condition g q.stack) (Due (Low q.x t ∷ q.stack))
followed g m w.Is h t = close m 5 h.stack h.condition h.x >>= λ q. when (not q.condition && takes_condition g q.stack) (SawIs q t)
followed g m w.And h t = close m 2 h.stack h.condition h.x >>= λ q. and_then q.stack q.condition q.x t
followed g m w.Or h t = close m 1 h.stack h.condition h.x >>= λ q. when q.condition (Due (Behind q.x t ∷ q.stack))
followed g m w.Close h t = close m 1 h.stack h.condition h.x >>= λ q. closed m q.stack q.condition q.x t
followed g m word h t = None

abbrev pub nulled : {X : Type 0} → Maker X → Held X → Token → List Token → State X
nulled m h i more = Read (record { stack = h.stack; condition = true; x = m.nullness h.x i more })

abbrev pub behind_is : {X : Type 0} → Maker X → Word → Held X → Token → Token → Option (State X)
behind_is m w.Not h i t = Some (SawNot h i t)
behind_is m w.Null h i t = Some (nulled m h i (t ∷ []))
behind_is m word h i t = None

abbrev pub behind_not : {X : Type 0} → Maker X → Word → Held X → Token → Token → Token → Option (State X)
behind_not m w.Null h i n t = Some (nulled m h i (n ∷ t ∷ []))
behind_not m word h i n t = None

-- within a row comparison
abbrev pub row_next : {X : Type 0} → Maker X → List (Frame X) → List Token → List Slot → State X
row_next m fs seen [] = Read (record { stack = fs; condition = true; x = m.row seen })
row_next m fs seen (slot ∷ slots) = InRow fs seen slot slots

abbrev pub row_left : {X : Type 0} → Maker X → List (Frame X) → List Token → List Slot → Option (List Slot) → Option (State X)
row_left m fs seen slots None = None
row_left m fs seen slots (Some more) = Some (row_next m fs seen (more ++ slots))

abbrev pub in_row : {X : Type 0} → Setting → Maker X → List (Frame X) → List Token → Slot → List Slot → Token → Option (State X)
in_row g m fs seen slot slots t = row_left m fs (seen ++ t ∷ []) slots (slot_after g slot t.word)

-- a number behind a `-` is joined with it; else the `-` is a sign
abbrev pub behind_minus : {X : Type 0} → Setting → Maker X → List (Frame X) → Token → Token → Option (State X)
behind_minus g m fs o t =
    if is_number t.word then Some (Read (record { stack = fs; condition = false; x = m.signed o t })) else begun g m t.word (Before o ∷ fs) t

abbrev pub lone_held : {X : Type 0} → Maker X → List (Frame X) → Token → Token → Held X
lone_held m fs o t = record { stack = Opened o true ∷ fs; condition = false; x = m.leaf t }

abbrev pub behind_lone : {X : Type 0} → Setting → Maker X → Word → List (Frame X) → Token → Token → Token → Option (State X)
behind_lone g m w.Comma fs o a t = Some (row_next m fs (o ∷ a ∷ t ∷ []) after_comma)
behind_lone g m word fs o a t = followed g m word (lone_held m fs o a) t

-- the move at a token; None where the tokens so far begin nothing
abbrev pub moved : {X : Type 0} → Setting → Maker X → State X → Token → Option (State X)
moved g m (Due fs) t = begun g m t.word fs t
moved g m (Read h) t = followed g m t.word h t
moved g m (SawIs h i) t = behind_is m t.word h i t
moved g m (SawNot h i n) t = behind_not m t.word h i n t
moved g m (Lone fs o a) t = behind_lone g m t.word fs o a t
moved g m (InRow fs seen slot slots) t = in_row g m fs seen slot slots t
moved g m (SawMinus fs o) t = behind_minus g m fs o t

abbrev pub run : {X : Type 0} → Setting → Maker X → State X → List Token → Option (State X)
run g m s [] = Some s
run g m s (t ∷ ts) = moved g m s t >>= λ next. run g m next ts

-- what stands where the tokens may end
abbrev pub held_at : {X : Type 0} → Maker X → State X → Option (Held X)
held_at m (Read h) = Some h
held_at m (Lone fs o a) = Some (lone_held m fs o a)
held_at m s = None
