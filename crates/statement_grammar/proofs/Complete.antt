-- What is in the grammar is read.
use Rattle.std.proofs.Common.{◌≡◌, ℕ, suc, ◌≤◌, ◌<◌, Bool, true, false, List, [], ◌∷◌, ◌++◌, Some, refl, sym, ap, subst, ◌∙◌, arith, append_assoc, append-nil, cond}
use Rattle.std.specs.Prelude.{⊤}
use Rattle.statement_tokens.specs.declared.words.Math.TheVariants.{Plus, Minus, Times}
use Rattle.statement_tokens.specs.declared.words.Token.{Token}
use Rattle.statement_tokens.specs.declared.words.Word.{Word}
use Rattle.statement_tokens.specs.declared.words.Word.TheVariants as w
use Rattle.ptc_statement.specs.declared.expressions.Op.TheVariants as op
use Rattle.statement_grammar.specs.declared.frames.Frame.{Frame}
use Rattle.statement_grammar.specs.declared.frames.Frame.TheVariants.{Before, Behind, Low, High, Opened}
use Rattle.statement_grammar.specs.Grammar.{Shape, Leaf, Prefix, Binary, Range, Nullness, Paren, Signed, RowTest, Setting, Slot, FirstSlot, CommaSlot, filled_by, is_number, is_minus, Unjoined, LeafBehind, is_open, is_comma, first_is, after_comma, row_slots, FillSlots, level, left_level, prefix_level, wants, gives, is_operand, IsAt, AreNullWords, tokens_of}
use Rattle.statement_grammar.specs.Machine.{Maker, made, Held, State, Due, Read, SawIs, SawNot, Lone, InRow, SawMinus, ◌>>=◌, strength, frame_wants, frame_gives, filled, close, takes_condition, operand, begun, and_then, followed, nulled, behind_is, behind_not, row_next, row_left, lone_held, behind_lone, run, moved}
use Rattle.statement_grammar.specs.Laws.{Stops}
use Rattle.statement_grammar.proofs.BasicLemmas.{lt_is, lt_not, same_sort_refl, gives_too}

-- no word that may stand in an operand of this level closes the frame on top
abbrev pub Waits : {X : Type 0} → ℕ → List (Frame X) → Type 0
Waits n fs = (u : Word) → 1 ≤ level u → n ≤ level u → Stops (left_level u) fs

abbrev pub Ready : {X : Type 0} → Setting → Bool → List (Frame X) → Type 0
Ready g c fs = c ≡ true → takes_condition g fs ≡ true

pub record Reaches {X : Type 0} (g : Setting) (m : Maker X) (n : ℕ) (fs : List (Frame X)) (c : Bool) (v : X) (ts more : List Token) : Type 0 where
  pub held : Held X
  pub runs : run g m (Due fs) (ts ++ more) ≡ run g m (Read held) more
  pub closes : (k : ℕ) → k ≤ n → close m k held.stack held.condition held.x ≡ close m k fs c v

pub stop : {X : Type 0} (m : Maker X) (k : ℕ) (fs : List (Frame X)) (c : Bool) (x : X) → Stops k fs → close m k fs c x ≡ Some (record { stack = fs; condition = c; x = x })
stop m k [] c x h = refl
stop m k (f ∷ fs) c x h = rw (lt_is (strength f) k h) refl

pass : {X : Type 0} (m : Maker X) (k : ℕ) (f : Frame X) (fs : List (Frame X)) (x : X) → k ≤ strength f → close m k (f ∷ fs) (frame_wants f) x ≡ close m k fs (frame_gives f) (filled m f x)
pass m k f fs x h = rw (lt_not (strength f) k h, same_sort_refl (frame_wants f)) refl

pub left_least : (u : Word) → level u ≤ left_level u
left_least w.Or = omega arith
left_least w.And = omega arith
left_least (w.Compare o) = omega arith
left_least (w.Math Plus) = omega arith
left_least (w.Math Minus) = omega arith
left_least (w.Math Times) = omega arith
left_least _ = omega arith

-- behind a sign before an operand
pub prefix_waits : (a u : Word) → 1 ≤ level u → prefix_level a ≤ level u → prefix_level a < left_level u
prefix_waits w.Not w.Or l h = omega arith
prefix_waits w.Not w.And l h = omega arith
prefix_waits w.Not (w.Compare o) l h = omega arith
prefix_waits w.Not (w.Math Plus) l h = omega arith
prefix_waits w.Not (w.Math Minus) l h = omega arith
prefix_waits w.Not (w.Math Times) l h = omega arith
prefix_waits w.Not _ l h = omega arith
prefix_waits (w.Math Minus) w.Or l h = omega arith
prefix_waits (w.Math Minus) w.And l h = omega arith
prefix_waits (w.Math Minus) (w.Compare o) l h = omega arith
prefix_waits (w.Math Minus) (w.Math Plus) l h = omega arith
prefix_waits (w.Math Minus) (w.Math Minus) l h = omega arith
prefix_waits (w.Math Minus) (w.Math Times) l h = omega arith
prefix_waits (w.Math Minus) _ l h = omega arith
prefix_waits _ u l h = let e = left_least u in omega arith

-- no AND of a BETWEEN where a condition may stand
and_joins : {X : Type 0} (g : Setting) (fs : List (Frame X)) (x : X) (t : Token) → takes_condition g fs ≡ true → and_then fs true x t ≡ Some (Due (Behind x t ∷ fs))
and_joins g [] x t e = refl
and_joins g (Low v b ∷ fs) x t e = cc
and_joins g (Before b ∷ fs) x t e = refl
and_joins g (Behind v b ∷ fs) x t e = refl
and_joins g (High v b l a ∷ fs) x t e = refl
and_joins g (Opened o b ∷ fs) x t e = refl

-- the move at a word between two operands
pub joins : {X : Type 0} (g : Setting) (m : Maker X) (u : Word) (h : Held X) (t : Token) (fs : List (Frame X)) (x : X) → 1 ≤ level u → Ready g (gives u) fs →
    close m (left_level u) h.stack h.condition h.x ≡ Some (record { stack = fs; condition = wants u; x = x }) → followed g m u h t ≡ Some (Due (Behind x t ∷ fs))
joins g m w.Or h t fs x l r e = rw e refl
joins g m w.And h t fs x l r e = rw e (and_joins g fs x t (r refl))
joins g m (w.Compare o) h t fs x l r e = rw (e, r refl) refl
joins g m (w.Math Plus) h t fs x l r e = rw e refl
joins g m (w.Math Minus) h t fs x l r e = rw e refl
joins g m (w.Math Times) h t fs x l r e = rw e refl
joins g m _ h t fs x l r e = absurd (omega arith)

pub begins : {X : Type 0} (g : Setting) (m : Maker X) (u : Word) (fs : List (Frame X)) (t : Token) → 1 ≤ prefix_level u → is_minus u ≡ false → Ready g (gives u) fs → begun g m u fs t ≡ Some (Due (Before t ∷ fs))
begins g m w.Not fs t l n r = rw (r refl) refl
begins g m (w.Math Minus) fs t l n r = cc
begins g m _ fs t l n r = absurd (omega arith)

-- one more token
pub step : {X : Type 0} (g : Setting) (m : Maker X) (s next : State X) (t : Token) (ts : List Token) → moved g m s t ≡ Some next → run g m s (t ∷ ts) ≡ run g m next ts
step g m s next t ts e = rw e refl

-- what is read so far goes on
pub goes : {X : Type 0} (g : Setting) (m : Maker X) (fs : List (Frame X)) (ts us more : List Token) (h : Held X) → run g m (Due fs) (ts ++ (us ++ more)) ≡ run g m (Read h) (us ++ more) → run g m (Due fs) ((ts ++ us) ++ more) ≡ run g m (Read h) (us ++ more)
goes g m fs ts us more h e = ap (run g m (Due fs)) (append_assoc ts us more) ∙ e

-- the words of BETWEEN, IS and parentheses
pub ranges : {X : Type 0} (g : Setting) (m : Maker X) (u : Word) (h : Held X) (t : Token) (fs : List (Frame X)) (x : X) → u ≡ w.Between → takes_condition g fs ≡ true →
    close m 5 h.stack h.condition h.x ≡ Some (record { stack = fs; condition = false; x = x }) → followed g m u h t ≡ Some (Due (Low x t ∷ fs))
ranges g m u h t fs x w r e = rw (w, e, r) refl

pub ands : {X : Type 0} (g : Setting) (m : Maker X) (u : Word) (h : Held X) (t : Token) (fs : List (Frame X)) (v : X) (b : Token) (x : X) → u ≡ w.And →
    close m 2 h.stack h.condition h.x ≡ Some (record { stack = Low v b ∷ fs; condition = false; x = x }) → followed g m u h t ≡ Some (Due (High v b x t ∷ fs))
ands g m u h t fs v b x w e = rw (w, e) refl

pub iss : {X : Type 0} (g : Setting) (m : Maker X) (u : Word) (h : Held X) (t : Token) (fs : List (Frame X)) (x : X) → u ≡ w.Is → takes_condition g fs ≡ true →
    close m 5 h.stack h.condition h.x ≡ Some (record { stack = fs; condition = false; x = x }) → followed g m u h t ≡ Some (SawIs (record { stack = fs; condition = false; x = x }) t)
iss g m u h t fs x w r e = rw (w, e, r) refl

pub nulls : {X : Type 0} (g : Setting) (m : Maker X) (h : Held X) (i : Token) (ws more : List Token) → AreNullWords ws → run g m (SawIs h i) (ws ++ more) ≡ run g m (nulled m h i ws) more
nulls g m h i [] more e = absurd e
nulls g m h i (t ∷ []) more e = step g m (SawIs h i) (nulled m h i (t ∷ [])) t more (is_null t.word e)
  where
    is_null : (u : Word) → u ≡ w.Null → behind_is m u h i t ≡ Some (nulled m h i (t ∷ []))
    is_null u e = rw e refl
nulls g m h i (t ∷ v ∷ []) more e = step g m (SawIs h i) (SawNot h i t) t (v ∷ more) (is_not t.word e.0) ∙ step g m (SawNot h i t) (nulled m h i (t ∷ v ∷ [])) v more (is_null v.word e.1)
  where
    is_not : (u : Word) → u ≡ w.Not → behind_is m u h i t ≡ Some (SawNot h i t)
    is_not u e = rw e refl

    is_null : (u : Word) → u ≡ w.Null → behind_not m u h i t v ≡ Some (nulled m h i (t ∷ v ∷ []))
    is_null u e = rw e refl
nulls g m h i (t ∷ u ∷ v ∷ ts) more e = absurd e

pub opens : {X : Type 0} (g : Setting) (m : Maker X) (u : Word) (fs : List (Frame X)) (t : Token) → u ≡ w.Open → begun g m u fs t ≡ Some (Due (Opened t (takes_condition g fs) ∷ fs))
opens g m u fs t w = rw w refl

pub parens : {X : Type 0} (g : Setting) (m : Maker X) (u : Word) (h : Held X) (t o : Token) (b : Bool) (fs : List (Frame X)) (c : Bool) (x : X) → u ≡ w.Close →
    close m 1 h.stack h.condition h.x ≡ Some (record { stack = Opened o b ∷ fs; condition = c; x = x }) → followed g m u h t ≡ Some (Read (record { stack = fs; condition = c; x = m.paren o x t }))
parens g m u h t o b fs c x w e = rw (w, e) refl

-- a comma does not follow what may be the first column of a row comparison
abbrev pub Quiet : {X : Type 0} → List (Frame X) → List Token → Type 0
Quiet (Opened o b ∷ fs) [] = ⊥
Quiet (Opened o b ∷ fs) (t ∷ ts) = is_comma t.word ≡ false
Quiet fs ts = ⊤

lone_goes : {X : Type 0} (g : Setting) (m : Maker X) (u : Word) (fs : List (Frame X)) (o a t : Token) → is_comma u ≡ false → behind_lone g m u fs o a t ≡ followed g m u (lone_held m fs o a) t
lone_goes g m w.Comma fs o a t e = cc
lone_goes g m _ fs o a t e = refl

lone_runs : {X : Type 0} (g : Setting) (m : Maker X) (fs : List (Frame X)) (o a : Token) (more : List Token) → Quiet (Opened o true ∷ fs) more → run g m (Lone fs o a) more ≡ run g m (Read (lone_held m fs o a)) more
lone_runs g m fs o a [] h = absurd h
lone_runs g m fs o a (t ∷ ts) h = ap (λ s. s >>= λ next. run g m next ts) (lone_goes g m t.word fs o a t h)

operand_runs : {X : Type 0} (g : Setting) (m : Maker X) (u : Word) (fs : List (Frame X)) (t : Token) (more : List Token) → Quiet fs more → run g m (operand g m u fs t) more ≡ run g m (Read (record { stack = fs; condition = false; x = m.leaf t })) more
operand_runs g m (w.Name n) [] t more q = refl
operand_runs g m (w.Name n) (Before b ∷ fs) t more q = refl
operand_runs g m (w.Name n) (Behind x b ∷ fs) t more q = refl
operand_runs g m (w.Name n) (Low x b ∷ fs) t more q = refl
operand_runs g m (w.Name n) (High x b l a ∷ fs) t more q = refl
operand_runs g m (w.Name n) (Opened o false ∷ fs) t more q = refl
operand_runs g m (w.Name n) (Opened o true ∷ fs) t more q =
    elim (first_is g (w.Name n)) as (λ b. run g m (cond b (Lone fs o t) (Read (lone_held m fs o t))) more ≡ run g m (Read (lone_held m fs o t)) more) [
      | true ↦ lone_runs g m fs o t more q
      | false ↦ refl
    ]
operand_runs g m _ fs t more q = refl

leaf_runs : {X : Type 0} (g : Setting) (m : Maker X) (fs : List (Frame X)) (t : Token) (more : List Token) → is_operand t.word ≡ true → Quiet fs more → run g m (Due fs) (t ∷ more) ≡ run g m (Read (record { stack = fs; condition = false; x = m.leaf t })) more
leaf_runs g m fs t more e q = step g m (Due fs) (operand g m t.word fs t) t more (begins_leaf t.word e) ∙ operand_runs g m t.word fs t more q
  where
    begins_leaf : (u : Word) → is_operand u ≡ true → begun g m u fs t ≡ Some (operand g m u fs t)
    begins_leaf (w.Name n) e = refl
    begins_leaf (w.Number n) e = refl
    begins_leaf (w.Text n) e = refl
    begins_leaf w.Null e = refl
    begins_leaf _ e = cc

pub quiet_token : {X : Type 0} (fs : List (Frame X)) (t : Token) (ts : List Token) → is_comma t.word ≡ false → Quiet fs (t ∷ ts)
quiet_token [] t ts e = tt
quiet_token (Before b ∷ fs) t ts e = tt
quiet_token (Behind x b ∷ fs) t ts e = tt
quiet_token (Low x b ∷ fs) t ts e = tt
quiet_token (High x b l a ∷ fs) t ts e = tt
quiet_token (Opened o b ∷ fs) t ts e = e

pub level_quiet : (u : Word) → 1 ≤ level u → is_comma u ≡ false
level_quiet w.Comma l = absurd (omega arith)
level_quiet _ l = refl

pub between_quiet : (u : Word) → u ≡ w.Between → is_comma u ≡ false
between_quiet u e = rw e refl

pub is_quiet : (u : Word) → u ≡ w.Is → is_comma u ≡ false
is_quiet u e = rw e refl

pub close_quiet : (u : Word) → u ≡ w.Close → is_comma u ≡ false
close_quiet u e = rw e refl

-- ---- signs

-- the first of these is no number
abbrev pub StartsPlain : List Token → Type 0
StartsPlain [] = ⊥
StartsPlain (t ∷ ts) = is_number t.word ≡ false

minus_goes : {X : Type 0} (g : Setting) (m : Maker X) (fs : List (Frame X)) (o : Token) (us : List Token) → StartsPlain us → run g m (SawMinus fs o) us ≡ run g m (Due (Before o ∷ fs)) us
minus_goes g m fs o [] h = absurd h
minus_goes g m fs o (t ∷ us) h = ap (λ (b : Bool). cond b (Some (Read (record { stack = fs; condition = false; x = m.signed o t }))) (begun g m t.word (Before o ∷ fs) t) >>= λ next. run g m next us) h

pub sign_runs : {X : Type 0} (g : Setting) (m : Maker X) (u : Word) (fs : List (Frame X)) (t : Token) (us : List Token) → t.word ≡ u → 1 ≤ prefix_level u → Ready g (gives u) fs → (is_minus u ≡ true → StartsPlain us) → run g m (Due fs) (t ∷ us) ≡ run g m (Due (Before t ∷ fs)) us
sign_runs g m (w.Math Minus) fs t us e l r p =
    step g m (Due fs) (SawMinus fs t) t us (ap (λ (u : Word). begun g m u fs t) e) ∙ minus_goes g m fs t us (p refl)
sign_runs g m w.Not fs t us e l r p = step g m (Due fs) (Due (Before t ∷ fs)) t us (ap (λ (u : Word). begun g m u fs t) e ∙ begins g m w.Not fs t l refl r)
sign_runs g m _ fs t us e l r p = absurd (omega arith)

level_low : (u : Word) → level u < 7
level_low w.Or = omega arith
level_low w.And = omega arith
level_low (w.Compare o) = omega arith
level_low (w.Math Plus) = omega arith
level_low (w.Math Minus) = omega arith
level_low (w.Math Times) = omega arith
level_low _ = omega arith

prefix_plain : (u : Word) → 1 ≤ prefix_level u → is_number u ≡ false
prefix_plain (w.Number n) l = absurd (omega arith)
prefix_plain _ l = refl

open_plain : (u : Word) → u ≡ w.Open → is_number u ≡ false
open_plain u e = rw e refl

minus_plain : (u : Word) → is_minus u ≡ true → is_number u ≡ false
minus_plain (w.Number n) e = cc
minus_plain _ e = refl

minus_leaf : (u : Word) (t : Token) → is_minus u ≡ true → LeafBehind u t.word → is_number t.word ≡ false
minus_leaf (w.Math Minus) t e h = h
minus_leaf (w.Math Plus) t e h = cc
minus_leaf (w.Math Times) t e h = cc
minus_leaf _ t e h = cc

-- what stands behind a `-` begins with no number
pub starts_plain : (g : Setting) (u : Word) (c : Bool) (s : Shape) (more : List Token) → is_minus u ≡ true → IsAt g 7 c s → Unjoined u s → StartsPlain (tokens_of s ++ more)
starts_plain g u c (Leaf t) more e h j = minus_leaf u t e j
starts_plain g u c (Prefix t s) more e h j = prefix_plain t.word h.1
starts_plain g u c (Binary l t r) more e h j = let k = level_low t.word in absurd (omega arith)
starts_plain g u c (Range x b l a y) more e h j = absurd (omega arith)
starts_plain g u c (Nullness x i ws) more e h j = absurd (omega arith)
starts_plain g u c (Paren o s p) more e h j = open_plain o.word h.0
starts_plain g u c (Signed t d) more e h j = minus_plain t.word h.1
starts_plain g u c (RowTest ts) more e h j = absurd (omega arith)

pub minus_level : (u : Word) → is_minus u ≡ true → prefix_level u ≡ 7
minus_level (w.Math Minus) e = refl
minus_level (w.Math Plus) e = cc
minus_level (w.Math Times) e = cc
minus_level _ e = cc

pub minus_is : (u : Word) → is_minus u ≡ true → u ≡ w.Math Minus
minus_is (w.Math Minus) e = refl
minus_is (w.Math Plus) e = cc
minus_is (w.Math Times) e = cc
minus_is _ e = cc

pub signed_runs : {X : Type 0} (g : Setting) (m : Maker X) (fs : List (Frame X)) (t d : Token) (more : List Token) → is_minus t.word ≡ true → is_number d.word ≡ true → run g m (Due fs) (t ∷ (d ∷ more)) ≡ run g m (Read (record { stack = fs; condition = false; x = m.signed t d })) more
signed_runs g m fs t d more e f =
    step g m (Due fs) (SawMinus fs t) t (d ∷ more) (ap (λ (u : Word). begun g m u fs t) (minus_is t.word e))
    ∙ step g m (SawMinus fs t) _ d more (ap (λ (b : Bool). cond b (Some (Read (record { stack = fs; condition = false; x = m.signed t d }))) (begun g m d.word (Before t ∷ fs) d)) f)

-- ---- row comparisons

row_rest : {X : Type 0} (g : Setting) (m : Maker X) (fs : List (Frame X)) (seen : List Token) (slots : List Slot) (ts more : List Token) → FillSlots g slots ts
    → run g m (row_next m fs seen slots) (ts ++ more) ≡ run g m (Read (record { stack = fs; condition = true; x = m.row (seen ++ ts) })) more
row_rest g m fs seen [] [] more h = ap (λ (l : List Token). run g m (Read (record { stack = fs; condition = true; x = m.row l })) more) (sym (append-nil seen))
row_rest g m fs seen [] (t ∷ ts) more h = absurd h
row_rest g m fs seen (slot ∷ slots) [] more h = absurd h
row_rest g m fs seen (slot ∷ slots) (t ∷ ts) more h =
    step g m (InRow fs seen slot slots) (row_next m fs (seen ++ t ∷ []) (h.0 ++ slots)) t (ts ++ more) (ap (row_left m fs (seen ++ t ∷ []) slots) h.1)
    ∙ row_rest g m fs (seen ++ t ∷ []) (h.0 ++ slots) ts more h.2
    ∙ ap (λ (l : List Token). run g m (Read (record { stack = fs; condition = true; x = m.row l })) more) (append_assoc seen (t ∷ []) ts)

pub filled_is : (b : Bool) (more : List Slot) → filled_by b ≡ Some more → (b ≡ true) × (more ≡ [])
filled_is true more e = (refl, cc)
filled_is false more e = cc

pub open_is : (u : Word) → is_open u ≡ true → u ≡ w.Open
open_is w.Open e = refl
open_is _ e = cc

pub lone_begins : {X : Type 0} (g : Setting) (m : Maker X) (u : Word) (fs : List (Frame X)) (o t : Token) → first_is g u ≡ true → begun g m u (Opened o true ∷ fs) t ≡ Some (Lone fs o t)
lone_begins g m (w.Name n) fs o t e = rw e refl
lone_begins g m _ fs o t e = cc

pub comma_goes : {X : Type 0} (g : Setting) (m : Maker X) (u : Word) (fs : List (Frame X)) (o a t : Token) → is_comma u ≡ true → behind_lone g m u fs o a t ≡ Some (row_next m fs (o ∷ a ∷ t ∷ []) after_comma)
comma_goes g m w.Comma fs o a t e = refl
comma_goes g m _ fs o a t e = cc

-- a slot that takes one token
pub one_slot : (g : Setting) (b : Bool) (slots : List Slot) (ts : List Token) → (f : (more : List Slot) × (filled_by b ≡ Some more) × FillSlots g (more ++ slots) ts) → (b ≡ true) × FillSlots g slots ts
one_slot g b slots ts f = let r = filled_is b f.0 f.1 in (r.0, subst (λ (l : List Slot). FillSlots g (l ++ slots) ts) r.1 f.2)

row_runs : {X : Type 0} (g : Setting) (m : Maker X) (fs : List (Frame X)) (ts more : List Token) → takes_condition g fs ≡ true → FillSlots g row_slots ts
    → run g m (Due fs) (ts ++ more) ≡ run g m (Read (record { stack = fs; condition = true; x = m.row ts })) more
row_runs g m fs [] more r h = absurd h
row_runs g m fs (o ∷ ts) more r h = by_first ts (one_slot g (is_open o.word) (FirstSlot ∷ CommaSlot ∷ after_comma) ts h)
  where
    by_comma : (a : Token) (us : List Token) → is_open o.word ≡ true → (first_is g a.word ≡ true) × FillSlots g (CommaSlot ∷ after_comma) us → run g m (Due fs) ((o ∷ (a ∷ us)) ++ more) ≡ run g m (Read (record { stack = fs; condition = true; x = m.row (o ∷ (a ∷ us)) })) more
    by_comma a [] p q = absurd q.1
    by_comma a (c ∷ us) p q =
        let k = one_slot g (is_comma c.word) after_comma us q.1 in
        step g m (Due fs) (Due (Opened o true ∷ fs)) o (a ∷ (c ∷ (us ++ more))) (opens g m o.word fs o (open_is o.word p) ∙ ap (λ (b : Bool). Some (Due (Opened o b ∷ fs))) r)
        ∙ step g m (Due (Opened o true ∷ fs)) (Lone fs o a) a (c ∷ (us ++ more)) (lone_begins g m a.word fs o a q.0)
        ∙ step g m (Lone fs o a) (row_next m fs (o ∷ a ∷ c ∷ []) after_comma) c (us ++ more) (comma_goes g m c.word fs o a c k.0)
        ∙ row_rest g m fs (o ∷ a ∷ c ∷ []) after_comma us more k.1

    by_first : (us : List Token) → (is_open o.word ≡ true) × FillSlots g (FirstSlot ∷ CommaSlot ∷ after_comma) us → run g m (Due fs) ((o ∷ us) ++ more) ≡ run g m (Read (record { stack = fs; condition = true; x = m.row (o ∷ us) })) more
    by_first [] p = absurd p.1
    by_first (a ∷ us) p = by_comma a us p.0 (one_slot g (first_is g a.word) (CommaSlot ∷ after_comma) us p.1)

pub complete : {X : Type 0} (g : Setting) (m : Maker X) (n : ℕ) (c : Bool) (s : Shape) (fs : List (Frame X)) (more : List Token) → IsAt g n c s → Waits n fs → Ready g c fs → Quiet fs more → Reaches g m n fs c (made m s) (tokens_of s) more
complete g m n c (Leaf t) fs more h wt r q = record {
  held = record { stack = fs; condition = false; x = m.leaf t };
  runs = leaf_runs g m fs t more h.1 q;
  closes = λ k l. ap (λ b. close m k fs b (m.leaf t)) (sym h.0);
}
complete g m n c (Prefix t s) fs more h wt r q =
    let i = complete g m (prefix_level t.word) (wants t.word) s (Before t ∷ fs) more h.3 (λ u l e. prefix_waits t.word u l e) (λ e. e) tt in record {
      held = i.held;
      runs = sign_runs g m t.word fs t (tokens_of s ++ more) refl h.1 (λ e. r (h.2 ∙ e)) (λ e. starts_plain g t.word (wants t.word) s more e (subst (λ (k : ℕ). IsAt g k (wants t.word) s) (minus_level t.word e) h.3) h.4) ∙ i.runs;
      closes = λ k l. i.closes k (omega arith) ∙ pass m k (Before t) fs (made m s) (omega arith) ∙ ap (λ b. close m k fs b (m.sign t (made m s))) (sym h.2);
    }
complete g m n c (Binary l t y) fs more h wt r q =
    let least = left_least t.word in
    let a = complete g m (left_level t.word) (wants t.word) l fs ((t ∷ tokens_of y) ++ more) h.3 (λ u k e. wt u k (omega arith)) (λ e. r (h.2 ∙ gives_too t.word e)) (quiet_token fs t _ (level_quiet t.word h.1)) in
    let b = complete g m (suc (level t.word)) (wants t.word) y (Behind (made m l) t ∷ fs) more h.4 (λ u k e. let o = left_least u in omega arith) (λ e. e) tt in
    let j = joins g m t.word a.held t fs (made m l) h.1 (λ e. r (h.2 ∙ e)) (a.closes (left_level t.word) (omega arith) ∙ stop m (left_level t.word) fs (wants t.word) (made m l) (wt t.word h.1 h.0)) in record {
      held = b.held;
      runs = goes g m fs (tokens_of l) (t ∷ tokens_of y) more a.held a.runs ∙ step g m (Read a.held) _ t (tokens_of y ++ more) j ∙ b.runs;
      closes = λ k e. b.closes k (omega arith) ∙ pass m k (Behind (made m l) t) fs (made m y) (omega arith) ∙ ap (λ d. close m k fs d (m.two (made m l) t (made m y))) (sym h.2);
    }
complete g m n c (Range x b l a y) fs more h wt r q =
    let five = wt (w.Compare op.Eq) (omega arith) h.0 in
    let one = complete g m 5 false x fs ((b ∷ (tokens_of l ++ (a ∷ tokens_of y))) ++ more) h.4 (λ u k e. wt u k (omega arith)) (λ e. cc) (quiet_token fs b _ (between_quiet b.word h.2)) in
    let low = complete g m 5 false l (Low (made m x) b ∷ fs) ((a ∷ tokens_of y) ++ more) h.5 (λ u k e. let o = left_least u in omega arith) (λ e. cc) tt in
    let top = complete g m 5 false y (High (made m x) b (made m l) a ∷ fs) more h.6 (λ u k e. let o = left_least u in omega arith) (λ e. cc) tt in record {
      held = top.held;
      runs = goes g m fs (tokens_of x) (b ∷ (tokens_of l ++ (a ∷ tokens_of y))) more one.held one.runs
          ∙ step g m (Read one.held) _ b _ (ranges g m b.word one.held b fs (made m x) h.2 (r h.1) (one.closes 5 (omega arith) ∙ stop m 5 fs false (made m x) five))
          ∙ goes g m (Low (made m x) b ∷ fs) (tokens_of l) (a ∷ tokens_of y) more low.held low.runs
          ∙ step g m (Read low.held) _ a _ (ands g m a.word low.held a fs (made m x) b (made m l) h.3 (low.closes 2 (omega arith)))
          ∙ top.runs;
      closes = λ k e. top.closes k (omega arith) ∙ pass m k (High (made m x) b (made m l) a) fs (made m y) (omega arith) ∙ ap (λ d. close m k fs d (m.range (made m x) b (made m l) a (made m y))) (sym h.1);
    }
complete g m n c (Nullness x i ws) fs more h wt r q =
    let five = wt (w.Compare op.Eq) (omega arith) h.0 in
    let one = complete g m 5 false x fs ((i ∷ ws) ++ more) h.4 (λ u k e. wt u k (omega arith)) (λ e. cc) (quiet_token fs i _ (is_quiet i.word h.2)) in record {
      held = record { stack = fs; condition = true; x = m.nullness (made m x) i ws };
      runs = goes g m fs (tokens_of x) (i ∷ ws) more one.held one.runs
          ∙ step g m (Read one.held) _ i _ (iss g m i.word one.held i fs (made m x) h.2 (r h.1) (one.closes 5 (omega arith) ∙ stop m 5 fs false (made m x) five))
          ∙ nulls g m (record { stack = fs; condition = false; x = made m x }) i ws more h.3;
      closes = λ k e. ap (λ d. close m k fs d (m.nullness (made m x) i ws)) (sym h.1);
    }
complete g m n c (Paren o s p) fs more h wt r q =
    let i = complete g m 1 c s (Opened o (takes_condition g fs) ∷ fs) ((p ∷ []) ++ more) h.2 (λ u k e. let d = left_least u in omega arith) r (close_quiet p.word h.1) in record {
      held = record { stack = fs; condition = c; x = m.paren o (made m s) p };
      runs = step g m (Due fs) (Due (Opened o (takes_condition g fs) ∷ fs)) o _ (opens g m o.word fs o h.0) ∙ goes g m (Opened o (takes_condition g fs) ∷ fs) (tokens_of s) (p ∷ []) more i.held i.runs
          ∙ step g m (Read i.held) _ p more (parens g m p.word i.held p o (takes_condition g fs) fs c (made m s) h.1 (i.closes 1 (omega arith)));
      closes = λ k l. refl;
    }
complete g m n c (RowTest ts) fs more h wt r q = record {
  held = record { stack = fs; condition = true; x = m.row ts };
  runs = row_runs g m fs ts more (r h.1) h.2;
  closes = λ k e. ap (λ d. close m k fs d (m.row ts)) (sym h.1);
}
complete g m n c (Signed t d) fs more h wt r q = record {
  held = record { stack = fs; condition = false; x = m.signed t d };
  runs = signed_runs g m fs t d more h.1 h.2;
  closes = λ k l. ap (λ b. close m k fs b (m.signed t d)) (sym h.0);
}
