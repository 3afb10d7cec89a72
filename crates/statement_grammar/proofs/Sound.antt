-- What is read is in the grammar.
use Rattle.std.proofs.Common.{◌≡◌, ℕ, suc, ◌≤◌, Bool, true, false, List, [], ◌∷◌, ◌++◌, Option, Some, None, refl, sym, ap, subst, ◌∙◌, arith, append_assoc, append-nil, nat_lt, cond}
use Rattle.std.specs.Prelude.{not, ◌&&◌, ◌==◌, ⊤}
use Rattle.std.proofs.lemmas.Bool.Decides.{nat_tests}
use Rattle.statement_tokens.specs.declared.words.Math.TheVariants.{Plus, Minus, Times}
use Rattle.statement_tokens.specs.declared.words.Token.{Token}
use Rattle.statement_tokens.specs.declared.words.Word.{Word}
use Rattle.statement_tokens.specs.declared.words.Word.TheVariants as w
use Rattle.ptc_statement.specs.declared.expressions.Op.TheVariants as op
use Rattle.statement_grammar.specs.declared.frames.Frame.{Frame}
use Rattle.statement_grammar.specs.declared.frames.Frame.TheVariants.{Before, Behind, Low, High, Opened}
use Rattle.statement_grammar.specs.Grammar.{Shape, Leaf, Prefix, Binary, Range, Nullness, Paren, Signed, RowTest, Setting, Slot, FirstSlot, SecondSlot, CloseSlot, CompareSlot, OpenSlot, ValueSlot, CommaSlot, DigitsSlot, filled_by, value_after, slot_after, is_number, is_minus, LeafBehind, Unjoined, is_close, is_compare, is_open, is_comma, first_is, second_is, names_first, names_second, same_bytes, after_comma, row_slots, FillSlots, level, left_level, prefix_level, wants, gives, is_operand, IsAt, tokens_of}
use Rattle.statement_grammar.specs.Machine.{Held, State, Due, Read, SawIs, SawNot, Lone, InRow, SawMinus, ◌>>=◌, strength, frame_wants, frame_gives, filled, same_sort, close, takes_condition, when, operand, begun, and_then, closed, followed, nulled, behind_is, behind_not, row_next, row_left, in_row, behind_minus, lone_held, behind_lone, run, moved, held_at, shapes}
use Rattle.statement_grammar.specs.Laws.{IsRead, Stops}
use Rattle.statement_grammar.proofs.Complete.{Ready}
use Rattle.statement_tokens.proofs.ReservedLemmas.{some_is}
use Rattle.statement_grammar.proofs.BasicLemmas.{lt_yes, lt_no, bind_some, both}

abbrev pub Stack : Type 0
Stack = List (Frame Shape)

-- the tokens of what is open
abbrev pub under : Stack → List Token
under [] = []
under (Before t ∷ fs) = under fs ++ (t ∷ [])
under (Behind l t ∷ fs) = under fs ++ (tokens_of l ++ (t ∷ []))
under (Low l t ∷ fs) = under fs ++ (tokens_of l ++ (t ∷ []))
under (High v b l a ∷ fs) = under fs ++ (tokens_of v ++ (b ∷ (tokens_of l ++ (a ∷ []))))
under (Opened o b ∷ fs) = under fs ++ (o ∷ [])

-- the level that an operand on the top of these has at least
abbrev pub least : Stack → ℕ
least [] = 1
least (Before t ∷ fs) = prefix_level t.word
least (Behind l t ∷ fs) = suc (level t.word)
least (Low l t ∷ fs) = 5
least (High v b l a ∷ fs) = 5
least (Opened o b ∷ fs) = 1

-- a frame is itself well formed
abbrev pub Formed : Setting → Frame Shape → Type 0
Formed g (Before t) = 1 ≤ prefix_level t.word
Formed g (Behind l t) = (1 ≤ level t.word) × IsAt g (left_level t.word) (wants t.word) l
Formed g (Low l b) = (b.word ≡ w.Between) × IsAt g 5 false l
Formed g (High v b l a) = (b.word ≡ w.Between) × (a.word ≡ w.And) × IsAt g 5 false v × IsAt g 5 false l
Formed g (Opened o b) = o.word ≡ w.Open

-- the level of what a frame makes
abbrev pub makes : Frame Shape → ℕ
makes (Before t) = prefix_level t.word
makes (Behind l t) = level t.word
makes (Low l t) = 4
makes (High v b l a) = 4
makes (Opened o b) = 7

-- a parenthesis knows whether a condition may stand in it
abbrev pub Knows : Setting → Frame Shape → Stack → Type 0
Knows g (Opened o b) fs = b ≡ takes_condition g fs
Knows g _ fs = ⊤

abbrev pub AreFrames : Setting → Stack → Type 0
AreFrames g [] = ⊤
AreFrames g (f ∷ fs) = Formed g f × (least fs ≤ makes f) × Ready g (frame_gives f) fs × AreFrames g fs × Knows g f fs

lower : (g : Setting) (n k : ℕ) (c : Bool) (s : Shape) → k ≤ n → IsAt g n c s → IsAt g k c s
lower g n k c (Leaf t) l h = h
lower g n k c (Prefix t s) l h = (omega arith, h.1, h.2, h.3, h.4)
lower g n k c (Binary a t b) l h = (omega arith, h.1, h.2, h.3, h.4)
lower g n k c (Range x b s a t) l h = (omega arith, h.1, h.2, h.3, h.4, h.5, h.6)
lower g n k c (Nullness x i ws) l h = (omega arith, h.1, h.2, h.3, h.4)
lower g n k c (Paren o s p) l h = h
lower g n k c (RowTest ts) l h = (omega arith, h.1, h.2)
lower g n k c (Signed t d) l h = h

-- the operand is no number behind a `-`
abbrev pub Plain : Stack → Shape → Type 0
Plain (Before t ∷ fs) x = Unjoined t.word x
Plain fs x = ⊤

plain_of : (fs : Stack) (x : Shape) → ((u : Word) → Unjoined u x) → Plain fs x
plain_of [] x h = tt
plain_of (Before t ∷ fs) x h = h t.word
plain_of (Behind l t ∷ fs) x h = tt
plain_of (Low l t ∷ fs) x h = tt
plain_of (High v b l a ∷ fs) x h = tt
plain_of (Opened o b ∷ fs) x h = tt

-- an operand behind a frame, where their sorts agree
fills : (g : Setting) (f : Frame Shape) (fs : Stack) (x : Shape) → Formed g f → 1 ≤ strength f → IsAt g (least (f ∷ fs)) (frame_wants f) x → Plain (f ∷ fs) x → IsAt g (makes f) (frame_gives f) (filled shapes f x)
fills g (Before t) fs x h k a p = (omega arith, h, refl, a, p)
fills g (Behind l t) fs x h k a p = (omega arith, h.0, refl, h.1, a)
fills g (Low l t) fs x h k a p = absurd (omega arith)
fills g (High v b l t) fs x h k a p = (omega arith, refl, h.0, h.1, h.2, h.3, a)
fills g (Opened o b) fs x h k a p = absurd (omega arith)

-- what a frame makes is no number
filled_plain : (f : Frame Shape) (fs : Stack) (x : Shape) → 1 ≤ strength f → Plain fs (filled shapes f x)
filled_plain (Before t) fs x k = plain_of fs (Prefix t x) (λ u. tt)
filled_plain (Behind l t) fs x k = plain_of fs (Binary l t x) (λ u. tt)
filled_plain (Low l t) fs x k = absurd (omega arith)
filled_plain (High v b l t) fs x k = plain_of fs (Range v b l t x) (λ u. tt)
filled_plain (Opened o b) fs x k = absurd (omega arith)

spelled : (f : Frame Shape) (fs : Stack) (x : Shape) → 1 ≤ strength f → under fs ++ tokens_of (filled shapes f x) ≡ under (f ∷ fs) ++ tokens_of x
spelled (Before t) fs x k = sym (append_assoc (under fs) (t ∷ []) (tokens_of x))
spelled (Behind l t) fs x k = ap (λ r. under fs ++ r) (sym (append_assoc (tokens_of l) (t ∷ []) (tokens_of x))) ∙ sym (append_assoc (under fs) (tokens_of l ++ (t ∷ [])) (tokens_of x))
spelled (Low l t) fs x k = absurd (omega arith)
spelled (High v b l a) fs x k =
    ap (λ r. under fs ++ (tokens_of v ++ (b ∷ r))) (sym (append_assoc (tokens_of l) (a ∷ []) (tokens_of x)))
    ∙ ap (λ r. under fs ++ r) (sym (append_assoc (tokens_of v) (b ∷ (tokens_of l ++ (a ∷ []))) (tokens_of x)))
    ∙ sym (append_assoc (under fs) (tokens_of v ++ (b ∷ (tokens_of l ++ (a ∷ [])))) (tokens_of x))
spelled (Opened o b) fs x k = absurd (omega arith)

sorts : (a b : Bool) → same_sort a b ≡ true → a ≡ b
sorts true true e = refl
sorts true false e = cc
sorts false true e = cc
sorts false false e = refl

not_least : (g : Setting) (fs : Stack) → takes_condition g fs ≡ true → AreFrames g fs → least fs ≤ 3
not_least g [] e h = omega arith
not_least g (Before t ∷ fs) e h = not_level t.word e
  where
    not_level : (u : Word) → wants u ≡ true → prefix_level u ≤ 3
    not_level w.Not e = omega arith
    not_level w.Or e = omega arith
    not_level w.And e = omega arith
    not_level _ e = cc
not_least g (Behind l t ∷ fs) e h = and_level t.word e
  where
    and_level : (u : Word) → wants u ≡ true → suc (level u) ≤ 3
    and_level w.Not e = omega arith
    and_level w.Or e = omega arith
    and_level w.And e = omega arith
    and_level _ e = cc
not_least g (Low l t ∷ fs) e h = cc
not_least g (High v b l a ∷ fs) e h = cc
not_least g (Opened o b ∷ fs) e h = omega arith

ready_true : (g : Setting) (fs : Stack) → takes_condition g fs ≡ true → AreFrames g fs → least fs ≤ 4
ready_true g fs e h = let i = not_least g fs e h in omega arith

abbrev pub Fits : Setting → Stack → Bool → Shape → Type 0
Fits g [] c x = ⊤
Fits g (f ∷ fs) c x = c ≡ frame_wants f → IsAt g (least (f ∷ fs)) c x

-- What stands: frames, and an operand that fits at this level and, where its sort is wanted, on the top frame.
pub record Stands (g : Setting) (k : ℕ) (fs : Stack) (c : Bool) (x : Shape) : Type 0 where
  pub frames : AreFrames g fs
  pub here : IsAt g k c x
  pub top : c ≡ true → takes_condition g fs ≡ true
  pub fits : Fits g fs c x
  pub plain : Plain fs x

pub record Closes (g : Setting) (k : ℕ) (fs : Stack) (c : Bool) (x : Shape) (z : Held Shape) : Type 0 where
  pub stands : Stands g k z.stack z.condition z.x
  pub stops : Stops k z.stack
  pub same : under z.stack ++ tokens_of z.x ≡ under fs ++ tokens_of x

strength_makes : (f : Frame Shape) → strength f ≤ makes f
strength_makes (Before t) = omega arith
strength_makes (Behind l t) = omega arith
strength_makes (Low l t) = omega arith
strength_makes (High v b l a) = omega arith
strength_makes (Opened o b) = omega arith

fits_lower : (g : Setting) (fs : Stack) (n : ℕ) (c : Bool) (x : Shape) → least fs ≤ n → IsAt g n c x → Fits g fs c x
fits_lower g [] n c x l h = tt
fits_lower g (f ∷ fs) n c x l h = λ e. lower g n (least (f ∷ fs)) c x l h

popped : (g : Setting) (k : ℕ) (f : Frame Shape) (fs : Stack) (c : Bool) (x : Shape) → 1 ≤ k → k ≤ strength f → c ≡ frame_wants f → Stands g k (f ∷ fs) c x → Stands g k fs (frame_gives f) (filled shapes f x)
popped g k f fs c x k1 l e h =
    let m = strength_makes f in
    let a : IsAt g (least (f ∷ fs)) (frame_wants f) x = subst (λ b. IsAt g (least (f ∷ fs)) b x) e (h.fits e) in
    let b = fills g f fs x h.frames.0 (omega arith) a h.plain in record {
      frames = h.frames.3;
      here = lower g (makes f) k (frame_gives f) (filled shapes f x) (omega arith) b;
      top = h.frames.2;
      fits = fits_lower g fs (makes f) (frame_gives f) (filled shapes f x) h.frames.1 b;
      plain = filled_plain f fs x (omega arith);
    }

close_step : (g : Setting) (k : ℕ) (f : Frame Shape) (fs : Stack) (c : Bool) (x : Shape) (z : Held Shape) → 1 ≤ k → Stands g k (f ∷ fs) c x
    → (Stands g k fs (frame_gives f) (filled shapes f x) → close shapes k fs (frame_gives f) (filled shapes f x) ≡ Some z → Closes g k fs (frame_gives f) (filled shapes f x) z)
    → close shapes k (f ∷ fs) c x ≡ Some z → Closes g k (f ∷ fs) c x z
close_step g k f fs c x z k1 h more e =
    elim (nat_lt (strength f) k) as (λ b. nat_lt (strength f) k ≡ b → cond b (Some (record { stack = f ∷ fs; condition = c; x = x })) (cond (same_sort c (frame_wants f)) (close shapes k fs (frame_gives f) (filled shapes f x)) None) ≡ Some z → Closes g k (f ∷ fs) c x z) [
      | true ↦ λ b r. subst (λ z. Closes g k (f ∷ fs) c x z) (some_is (record { stack = f ∷ fs; condition = c; x = x }) z r) (record { stands = h; stops = lt_yes (strength f) k b; same = refl })
      | false ↦ λ b r. elim (same_sort c (frame_wants f)) as (λ d. same_sort c (frame_wants f) ≡ d → cond d (close shapes k fs (frame_gives f) (filled shapes f x)) None ≡ Some z → Closes g k (f ∷ fs) c x z) [
        | true ↦ λ d q.
            let l = lt_no (strength f) k b in
            let m = more (popped g k f fs c x k1 l (sorts c (frame_wants f) d) h) q in
            record { stands = m.stands; stops = m.stops; same = m.same ∙ spelled f fs x (omega arith) }
        | false ↦ λ d q. cc
      ] refl r
    ] refl e

pub close_sound : (g : Setting) (k : ℕ) (fs : Stack) (c : Bool) (x : Shape) (z : Held Shape) → 1 ≤ k → Stands g k fs c x → close shapes k fs c x ≡ Some z → Closes g k fs c x z
close_sound g k [] c x z k1 h e = subst (λ z. Closes g k [] c x z) (some_is (record { stack = []; condition = c; x = x }) z e) (record { stands = h; stops = tt; same = refl })
close_sound g k (f ∷ fs) c x z k1 h e = close_step g k f fs c x z k1 h (λ s q. close_sound g k fs (frame_gives f) (filled shapes f x) z k1 s q) e

-- a condition stays one
gives_true : (f : Frame Shape) → frame_wants f ≡ true → frame_gives f ≡ true
gives_true (Before t) e = word_gives t.word e
  where
    word_gives : (u : Word) → wants u ≡ true → gives u ≡ true
    word_gives w.Or e = refl
    word_gives w.And e = refl
    word_gives w.Not e = refl
    word_gives _ e = cc
gives_true (Behind l t) e = word_gives t.word e
  where
    word_gives : (u : Word) → wants u ≡ true → gives u ≡ true
    word_gives w.Or e = refl
    word_gives w.And e = refl
    word_gives w.Not e = refl
    word_gives _ e = cc
gives_true (Low l t) e = refl
gives_true (High v b l a) e = refl
gives_true (Opened o b) e = cc

close_true : (k : ℕ) (fs : Stack) (c : Bool) (x : Shape) (z : Held Shape) → c ≡ true → close shapes k fs c x ≡ Some z → z.condition ≡ true
close_true k [] c x z t e = ap (λ (h : Held Shape). h.condition) (sym (some_is (record { stack = []; condition = c; x = x }) z e)) ∙ t
close_true k (f ∷ fs) c x z t e =
    elim (nat_lt (strength f) k) as (λ b. cond b (Some (record { stack = f ∷ fs; condition = c; x = x })) (cond (same_sort c (frame_wants f)) (close shapes k fs (frame_gives f) (filled shapes f x)) None) ≡ Some z → z.condition ≡ true) [
      | true ↦ λ r. ap (λ (h : Held Shape). h.condition) (sym (some_is (record { stack = f ∷ fs; condition = c; x = x }) z r)) ∙ t
      | false ↦ λ r. elim (same_sort c (frame_wants f)) as (λ d. same_sort c (frame_wants f) ≡ d → cond d (close shapes k fs (frame_gives f) (filled shapes f x)) None ≡ Some z → z.condition ≡ true) [
        | true ↦ λ d q. close_true k fs (frame_gives f) (filled shapes f x) z (gives_true f (sym (sorts c (frame_wants f) d) ∙ t)) q
        | false ↦ λ d q. cc
      ] refl r
    ] e

-- the state after these tokens
pub record Reading (g : Setting) (ts : List Token) (h : Held Shape) : Type 0 where
  pub frames : AreFrames g h.stack
  pub prime : (n : ℕ) → (h.condition ≡ true → n ≤ 4) → IsAt g n h.condition h.x
  pub top : h.condition ≡ true → takes_condition g h.stack ≡ true
  pub same : under h.stack ++ tokens_of h.x ≡ ts
  pub plain : Plain h.stack h.x

pub record BehindIs (g : Setting) (ts : List Token) (h : Held Shape) (i : Token) (more : List Token) : Type 0 where
  pub frames : AreFrames g h.stack
  pub left : IsAt g 5 false h.x
  pub top : takes_condition g h.stack ≡ true
  pub word : i.word ≡ w.Is
  pub same : under h.stack ++ (tokens_of h.x ++ (i ∷ more)) ≡ ts

-- each slot is filled by some token
abbrev pub Fillable : Setting → List Slot → Type 0
Fillable g [] = ⊤
Fillable g (slot ∷ slots) = ((t : Token) × (slot_after g slot t.word ≡ Some [])) × Fillable g slots

bytes_same : (xs : List ℕ) → same_bytes xs xs ≡ true
bytes_same [] = refl
bytes_same (x ∷ xs) = let e : (x == x) ≡ true = grind (arith, nat_tests) in rw (e, bytes_same xs) refl

abbrev sample : Word → Token
sample word = record { word = word; place = 0 }

-- behind the first column there is a second
fillable : (g : Setting) (u : Word) → first_is g u ≡ true → Fillable g after_comma
fillable g (w.Name n) e = by_key g.key refl e
  where
    by_key : (key : Option (List ℕ × List ℕ)) → g.key ≡ key → names_first key n ≡ true → Fillable g after_comma
    by_key None k e = cc
    by_key (Some key) k e = ((sample (w.Name key.1), ap filled_by (ap (λ (o : Option (List ℕ × List ℕ)). names_second o key.1) k ∙ bytes_same key.1)), ((sample w.Close, refl), ((sample (w.Compare op.Eq), refl), ((sample w.Open, refl), ((sample (w.Number 0), refl), ((sample w.Comma, refl), ((sample (w.Number 0), refl), ((sample w.Close, refl), tt))))))))
fillable g _ e = cc

-- where more slots stand behind, they are fillable too
digits_fillable : (g : Setting) (slot : Slot) (u : Word) (more slots : List Slot) → slot_after g slot u ≡ Some more → Fillable g slots → Fillable g (more ++ slots)
digits_fillable g slot u more slots e f = by_slot slot e
  where
    none : (b : Bool) → filled_by b ≡ Some more → Fillable g (more ++ slots)
    none true e = let n : [] ≡ more = cc in subst (λ (l : List Slot). Fillable g (l ++ slots)) n f
    none false e = cc

    by_word : (u : Word) → value_after u ≡ Some more → Fillable g (more ++ slots)
    by_word (w.Math Minus) e = let n : DigitsSlot ∷ [] ≡ more = cc in subst (λ (l : List Slot). Fillable g (l ++ slots)) n ((sample (w.Number 0), refl), f)
    by_word (w.Number n) e = none true e
    by_word (w.Text n) e = none true e
    by_word _ e = none false e

    by_slot : (slot : Slot) → slot_after g slot u ≡ Some more → Fillable g (more ++ slots)
    by_slot OpenSlot e = none (is_open u) e
    by_slot FirstSlot e = none (first_is g u) e
    by_slot CommaSlot e = none (is_comma u) e
    by_slot SecondSlot e = none (second_is g u) e
    by_slot CloseSlot e = none (is_close u) e
    by_slot CompareSlot e = none (is_compare u) e
    by_slot ValueSlot e = by_word u e
    by_slot DigitsSlot e = none (is_number u) e

pub record WithinRow (g : Setting) (ts : List Token) (fs : Stack) (seen : List Token) (slots : List Slot) : Type 0 where
  pub frames : AreFrames g fs
  pub top : takes_condition g fs ≡ true
  pub same : under fs ++ seen ≡ ts
  pub goes : (more : List Token) → FillSlots g slots more → FillSlots g row_slots (seen ++ more)
  pub ready : Fillable g slots

-- the top frame is no `-`
abbrev pub Free : Stack → Type 0
Free (Before t ∷ fs) = is_minus t.word ≡ false
Free fs = ⊤

abbrev pub After : Setting → List Token → State Shape → Type 0
After g ts (Due fs) = AreFrames g fs × (under fs ≡ ts) × Free fs
After g ts (Read h) = Reading g ts h
After g ts (SawIs h i) = BehindIs g ts h i []
After g ts (SawNot h i n) = (n.word ≡ w.Not) × BehindIs g ts h i (n ∷ [])
After g ts (Lone fs o a) = Reading g ts (lone_held shapes fs o a) × (is_open o.word ≡ true) × (first_is g a.word ≡ true)
After g ts (InRow fs seen slot slots) = WithinRow g ts fs seen (slot ∷ slots)
After g ts (SawMinus fs o) = AreFrames g (Before o ∷ fs) × (under (Before o ∷ fs) ≡ ts) × (is_minus o.word ≡ true)

wants_least : (g : Setting) (f : Frame Shape) (fs : Stack) → frame_wants f ≡ true → AreFrames g (f ∷ fs) → least (f ∷ fs) ≤ 4
wants_least g (Before t) fs e h = ready_true g (Before t ∷ fs) e h
wants_least g (Behind l t) fs e h = ready_true g (Behind l t ∷ fs) e h
wants_least g (Low l t) fs e h = cc
wants_least g (High v b l a) fs e h = cc
wants_least g (Opened o b) fs e h = cc

prime_fits : (g : Setting) (fs : Stack) (c : Bool) (x : Shape) → AreFrames g fs → ((n : ℕ) → (c ≡ true → n ≤ 4) → IsAt g n c x) → Fits g fs c x
prime_fits g [] c x h p = tt
prime_fits g (f ∷ fs) c x h p = λ e. p (least (f ∷ fs)) (λ t. wants_least g f fs (sym e ∙ t) h)

stands : (g : Setting) (k : ℕ) (ts : List Token) (h : Held Shape) → Reading g ts h → (h.condition ≡ true → k ≤ 4) → Stands g k h.stack h.condition h.x
stands g k ts h r l = record { frames = r.frames; here = r.prime k l; top = r.top; fits = prime_fits g h.stack h.condition h.x r.frames r.prime; plain = r.plain }

when_some : {A : Type 0} (b : Bool) (a y : A) → when b a ≡ Some y → (b ≡ true) × (a ≡ y)
when_some true a y e = (refl, some_is a y e)
when_some false a y e = cc

-- an expression on the top, whatever it was closed by
expression : (g : Setting) (k : ℕ) (ts : List Token) (h z : Held Shape) → 1 ≤ k → Reading g ts h → close shapes k h.stack h.condition h.x ≡ Some z → z.condition ≡ false → Closes g k h.stack h.condition h.x z
expression g k ts h z k1 r e f = close_sound g k h.stack h.condition h.x z k1 (stands g k ts h r (λ t. absurd (two (close_true k h.stack h.condition h.x z t e)))) e
  where
    two : z.condition ≡ true → ⊥
    two t = cc

low_closes : (g : Setting) (k : ℕ) (ts : List Token) (h z : Held Shape) → 1 ≤ k → k ≤ 4 → Reading g ts h → close shapes k h.stack h.condition h.x ≡ Some z → Closes g k h.stack h.condition h.x z
low_closes g k ts h z k1 k4 r e = close_sound g k h.stack h.condition h.x z k1 (stands g k ts h r (λ t. k4)) e

stop_least : (k : ℕ) (fs : Stack) → 5 ≤ k → Stops k fs → least fs ≤ k
stop_least k [] l s = omega arith
stop_least k (Before t ∷ fs) l s = omega arith
stop_least k (Behind x t ∷ fs) l s = omega arith
stop_least k (Low x t ∷ fs) l s = omega arith
stop_least k (High v b x a ∷ fs) l s = omega arith
stop_least k (Opened o b ∷ fs) l s = omega arith

join_least : (g : Setting) (k : ℕ) (fs : Stack) → 1 ≤ k → Stops k fs → takes_condition g fs ≡ true → least fs ≤ k
join_least g k [] l s e = omega arith
join_least g k (Before t ∷ fs) l s e = omega arith
join_least g k (Behind x t ∷ fs) l s e = omega arith
join_least g k (Low x t ∷ fs) l s e = cc
join_least g k (High v b x a ∷ fs) l s e = cc
join_least g k (Opened o b ∷ fs) l s e = omega arith

not_true : (b : Bool) → not b ≡ true → b ≡ false
not_true true e = cc
not_true false e = refl

-- a word between two operands is put on the stack
pushed : (g : Setting) (u : Word) (ts : List Token) (gs : Stack) (c : Bool) (x : Shape) (t : Token) → t.word ≡ u → AreFrames g gs → IsAt g (left_level u) (wants u) x → under gs ++ tokens_of x ≡ ts → 1 ≤ level u
    → least gs ≤ level u → Ready g (gives u) gs → After g (ts ++ (t ∷ [])) (Due (Behind x t ∷ gs))
pushed g u ts gs c x t is a h e l b d = (
  (subst (λ v. (1 ≤ level v) × IsAt g (left_level v) (wants v) x) (sym is) (l, h), subst (λ v. least gs ≤ level v) (sym is) b, subst (λ v. Ready g (gives v) gs) (sym is) d, a, tt),
  sym (append_assoc (under gs) (tokens_of x) (t ∷ [])) ∙ ap (λ q. q ++ (t ∷ [])) e,
  tt,
)

level_most : (u : Word) → suc (level u) ≤ 7
level_most w.Or = omega arith
level_most w.And = omega arith
level_most (w.Compare o) = omega arith
level_most (w.Math Plus) = omega arith
level_most (w.Math Minus) = omega arith
level_most (w.Math Times) = omega arith
level_most _ = omega arith

prefix_most : (u : Word) → prefix_level u ≤ 7
prefix_most w.Not = omega arith
prefix_most (w.Math Minus) = omega arith
prefix_most _ = omega arith

most_least : (fs : Stack) → least fs ≤ 7
most_least [] = omega arith
most_least (Before t ∷ fs) = prefix_most t.word
most_least (Behind x t ∷ fs) = level_most t.word
most_least (Low x t ∷ fs) = omega arith
most_least (High v b x a ∷ fs) = omega arith
most_least (Opened o b ∷ fs) = omega arith

-- an operand is due
begun_sound : (g : Setting) (u : Word) (ts : List Token) (fs : Stack) (t : Token) (next : State Shape) → t.word ≡ u → AreFrames g fs × (under fs ≡ ts) × Plain fs (Leaf t) → begun g shapes u fs t ≡ Some next → After g (ts ++ (t ∷ [])) next
begun_sound g u ts fs t next is a e = cases u is e
  where
    signs : (v : Word) → t.word ≡ v → 1 ≤ prefix_level v → least fs ≤ prefix_level v → Ready g (gives v) fs → AreFrames g (Before t ∷ fs)
    signs v q l b r = (subst (λ v. 1 ≤ prefix_level v) (sym q) l, subst (λ v. least fs ≤ prefix_level v) (sym q) b, subst (λ v. Ready g (gives v) fs) (sym q) r, a.0, tt)

    leaf : is_operand t.word ≡ true → After g (ts ++ (t ∷ [])) (Read (record { stack = fs; condition = false; x = Leaf t }))
    leaf o = record { frames = a.0; prime = λ n l. (refl, o); top = λ f. cc; same = ap (λ q. q ++ (t ∷ [])) a.1; plain = a.2 }

    plain : (v : Word) → t.word ≡ v → is_operand v ≡ true → operand g shapes v fs t ≡ Read (record { stack = fs; condition = false; x = Leaf t }) → Some (operand g shapes v fs t) ≡ Some next → After g (ts ++ (t ∷ [])) next
    plain v q o f e = subst (After g (ts ++ (t ∷ []))) (sym f ∙ some_is (operand g shapes v fs t) next e) (leaf (ap is_operand q ∙ o))

    name : (n : List ℕ) → t.word ≡ w.Name n → (gs : Stack) → gs ≡ fs → Some (operand g shapes (w.Name n) gs t) ≡ Some next → After g (ts ++ (t ∷ [])) next
    name n q (Opened o true ∷ gs) s e =
        elim (first_is g (w.Name n)) as (λ b. first_is g (w.Name n) ≡ b → Some (cond b (Lone gs o t) (Read (lone_held shapes gs o t))) ≡ Some next → After g (ts ++ (t ∷ [])) next) [
          | true ↦ λ b e.
              let f : AreFrames g (Opened o true ∷ gs) = subst (AreFrames g) (sym s) a.0 in
              subst (After g (ts ++ (t ∷ []))) (some_is (Lone gs o t) next e)
              (subst (λ (k : Stack). Reading g (ts ++ (t ∷ [])) (record { stack = k; condition = false; x = Leaf t })) (sym s) (leaf (ap is_operand q)), opened f.0, ap (first_is g) q ∙ b)
          | false ↦ λ b e. subst (After g (ts ++ (t ∷ []))) (ap (λ (k : Stack). Read (record { stack = k; condition = false; x = Leaf t })) (sym s) ∙ some_is (Read (lone_held shapes gs o t)) next e) (leaf (ap is_operand q))
        ] refl e
      where
        opened : o.word ≡ w.Open → is_open o.word ≡ true
        opened e = ap is_open e
    name n q [] s e = subst (After g (ts ++ (t ∷ []))) (ap (λ (k : Stack). Read (record { stack = k; condition = false; x = Leaf t })) (sym s) ∙ some_is (operand g shapes (w.Name n) [] t) next e) (leaf (ap is_operand q))
    name n q (Before b ∷ gs) s e = subst (After g (ts ++ (t ∷ []))) (ap (λ (k : Stack). Read (record { stack = k; condition = false; x = Leaf t })) (sym s) ∙ some_is (operand g shapes (w.Name n) (Before b ∷ gs) t) next e) (leaf (ap is_operand q))
    name n q (Behind x b ∷ gs) s e = subst (After g (ts ++ (t ∷ []))) (ap (λ (k : Stack). Read (record { stack = k; condition = false; x = Leaf t })) (sym s) ∙ some_is (operand g shapes (w.Name n) (Behind x b ∷ gs) t) next e) (leaf (ap is_operand q))
    name n q (Low x b ∷ gs) s e = subst (After g (ts ++ (t ∷ []))) (ap (λ (k : Stack). Read (record { stack = k; condition = false; x = Leaf t })) (sym s) ∙ some_is (operand g shapes (w.Name n) (Low x b ∷ gs) t) next e) (leaf (ap is_operand q))
    name n q (High x b l y ∷ gs) s e = subst (After g (ts ++ (t ∷ []))) (ap (λ (k : Stack). Read (record { stack = k; condition = false; x = Leaf t })) (sym s) ∙ some_is (operand g shapes (w.Name n) (High x b l y ∷ gs) t) next e) (leaf (ap is_operand q))
    name n q (Opened o false ∷ gs) s e = subst (After g (ts ++ (t ∷ []))) (ap (λ (k : Stack). Read (record { stack = k; condition = false; x = Leaf t })) (sym s) ∙ some_is (operand g shapes (w.Name n) (Opened o false ∷ gs) t) next e) (leaf (ap is_operand q))

    cases : (v : Word) → t.word ≡ v → begun g shapes v fs t ≡ Some next → After g (ts ++ (t ∷ [])) next
    cases w.Not q e =
        let b = when_some (takes_condition g fs) (Due (Before t ∷ fs)) next e in
        subst (After g (ts ++ (t ∷ []))) b.1 (signs w.Not q (omega arith) (not_least g fs b.0 a.0) (λ r. b.0), ap (λ q. q ++ (t ∷ [])) a.1, ap is_minus q)
    cases (w.Math Minus) q e = subst (After g (ts ++ (t ∷ []))) (some_is (SawMinus fs t) next e) (signs (w.Math Minus) q (omega arith) (most_least fs) (λ r. cc), ap (λ q. q ++ (t ∷ [])) a.1, ap is_minus q)
    cases w.Open q e = subst (After g (ts ++ (t ∷ []))) (some_is (Due (Opened t (takes_condition g fs) ∷ fs)) next e) ((q, most_least fs, (λ r. cc), a.0, refl), ap (λ q. q ++ (t ∷ [])) a.1, tt)
    cases (w.Math Plus) q e = cc
    cases (w.Math Times) q e = cc
    cases (w.Name n) q e = name n q fs refl e
    cases (w.Number n) q e = plain (w.Number n) q refl refl e
    cases (w.Text n) q e = plain (w.Text n) q refl refl e
    cases w.Null q e = plain w.Null q refl refl e
    cases (w.Compare o) q e = cc
    cases _ q e = cc

free_plain : (fs : Stack) (t : Token) → Free fs → Plain fs (Leaf t)
free_plain [] t h = tt
free_plain (Before o ∷ fs) t h = by_word o.word h
  where
    by_word : (u : Word) → is_minus u ≡ false → LeafBehind u t.word
    by_word (w.Math Minus) e = cc
    by_word (w.Math Plus) e = tt
    by_word (w.Math Times) e = tt
    by_word _ e = tt
free_plain (Behind l b ∷ fs) t h = tt
free_plain (Low l b ∷ fs) t h = tt
free_plain (High v b l a ∷ fs) t h = tt
free_plain (Opened o b ∷ fs) t h = tt

minus_sound : (g : Setting) (ts : List Token) (fs : Stack) (o t : Token) (next : State Shape) → After g ts (SawMinus fs o) → behind_minus g shapes fs o t ≡ Some next → After g (ts ++ (t ∷ [])) next
minus_sound g ts fs o t next a e = by_number (is_number t.word) refl e
  where
    by_number : (b : Bool) → is_number t.word ≡ b → cond b (Some (Read (record { stack = fs; condition = false; x = Signed o t }))) (begun g shapes t.word (Before o ∷ fs) t) ≡ Some next → After g (ts ++ (t ∷ [])) next
    by_number true f e = subst (After g (ts ++ (t ∷ []))) (some_is (Read (record { stack = fs; condition = false; x = Signed o t })) next e) (record {
      frames = a.0.3;
      prime = λ n l. (refl, a.2, f);
      top = λ c. cc;
      same = sym (append_assoc (under fs) (o ∷ []) (t ∷ [])) ∙ ap (λ (q : List Token). q ++ (t ∷ [])) a.1;
      plain = plain_of fs (Signed o t) (λ u. tt);
    })
    by_number false f e = begun_sound g t.word ts (Before o ∷ fs) t next refl (a.0, a.1, behind) e
      where
        leaf_behind : (u : Word) → is_number t.word ≡ false → LeafBehind u t.word
        leaf_behind (w.Math Minus) f = f
        leaf_behind (w.Math Plus) f = tt
        leaf_behind (w.Math Times) f = tt
        leaf_behind _ f = tt

        behind : LeafBehind o.word t.word
        behind = leaf_behind o.word f

and_sound : (g : Setting) (ts : List Token) (gs : Stack) (c : Bool) (x : Shape) (t : Token) (next : State Shape) → t.word ≡ w.And → Stands g 2 gs c x → Stops 2 gs → under gs ++ tokens_of x ≡ ts
    → and_then gs c x t ≡ Some next → After g (ts ++ (t ∷ [])) next
and_sound g ts gs c x t next is s k e q = cases gs s k e q
  where
    joined : (gs : Stack) → Stands g 2 gs c x → Stops 2 gs → under gs ++ tokens_of x ≡ ts → when c (Due (Behind x t ∷ gs)) ≡ Some next → After g (ts ++ (t ∷ [])) next
    joined gs s k e q =
        let b = when_some c (Due (Behind x t ∷ gs)) next q in
        subst (After g (ts ++ (t ∷ []))) b.1 (pushed g w.And ts gs c x t is s.frames (subst (λ b. IsAt g 2 b x) b.0 s.here) e (omega arith) (join_least g 2 gs (omega arith) k (s.top b.0)) (λ r. s.top b.0))

    cases : (gs : Stack) → Stands g 2 gs c x → Stops 2 gs → under gs ++ tokens_of x ≡ ts → and_then gs c x t ≡ Some next → After g (ts ++ (t ∷ [])) next
    cases (Low v b ∷ fs) s k e q =
        let d = when_some (not c) (Due (High v b x t ∷ fs)) next q in
        let f = not_true c d.0 in
        subst (After g (ts ++ (t ∷ []))) d.1 (
          ((s.frames.0.0, is, s.frames.0.1, subst (λ b. IsAt g 5 b x) f (s.fits f)), s.frames.1, s.frames.2, s.frames.3, tt),
          ap (λ r. under fs ++ r) (sym (append_assoc (tokens_of v) (b ∷ []) (tokens_of x ++ (t ∷ []))))
              ∙ sym (append_assoc (under fs) (tokens_of v ++ (b ∷ [])) (tokens_of x ++ (t ∷ [])))
              ∙ sym (append_assoc (under fs ++ (tokens_of v ++ (b ∷ []))) (tokens_of x) (t ∷ []))
              ∙ ap (λ r. r ++ (t ∷ [])) e,
          tt,
        )
    cases [] s k e q = joined [] s k e q
    cases (Before b ∷ fs) s k e q = joined (Before b ∷ fs) s k e q
    cases (Behind l b ∷ fs) s k e q = joined (Behind l b ∷ fs) s k e q
    cases (High v b l a ∷ fs) s k e q = joined (High v b l a ∷ fs) s k e q
    cases (Opened o b ∷ fs) s k e q = joined (Opened o b ∷ fs) s k e q

closed_sound : (g : Setting) (ts : List Token) (gs : Stack) (c : Bool) (x : Shape) (t : Token) (next : State Shape) → t.word ≡ w.Close → Stands g 1 gs c x → under gs ++ tokens_of x ≡ ts
    → closed shapes gs c x t ≡ Some next → After g (ts ++ (t ∷ [])) next
closed_sound g ts (Opened o b ∷ fs) c x t next is s e q = subst (After g (ts ++ (t ∷ []))) (some_is (Read (record { stack = fs; condition = c; x = Paren o x t })) next q) (record {
  frames = s.frames.3;
  prime = λ n l. (s.frames.0, is, s.here);
  top = λ r. sym s.frames.4 ∙ s.top r;
  same = sym (append_assoc (under fs) (o ∷ []) (tokens_of x ++ (t ∷ []))) ∙ sym (append_assoc (under fs ++ (o ∷ [])) (tokens_of x) (t ∷ [])) ∙ ap (λ r. r ++ (t ∷ [])) e;
  plain = plain_of fs (Paren o x t) (λ u. tt);
})
closed_sound g ts [] c x t next is s e q = cc
closed_sound g ts (Before b ∷ fs) c x t next is s e q = cc
closed_sound g ts (Behind l b ∷ fs) c x t next is s e q = cc
closed_sound g ts (Low l b ∷ fs) c x t next is s e q = cc
closed_sound g ts (High v b l a ∷ fs) c x t next is s e q = cc

-- an operand has been read
followed_sound : (g : Setting) (u : Word) (ts : List Token) (h : Held Shape) (t : Token) (next : State Shape) → t.word ≡ u → Reading g ts h → followed g shapes u h t ≡ Some next → After g (ts ++ (t ∷ [])) next
followed_sound g u ts h t next is r e = cases u is e
  where
    math : (v : Word) (k : ℕ) → t.word ≡ v → 5 ≤ k → level v ≡ k → left_level v ≡ k → wants v ≡ false → gives v ≡ false
        → (close shapes k h.stack h.condition h.x >>= λ z. when (not z.condition) (Due (Behind z.x t ∷ z.stack))) ≡ Some next → After g (ts ++ (t ∷ [])) next
    math v k q l a b c d e =
        let o = bind_some (close shapes k h.stack h.condition h.x) (λ (z : Held Shape). when (not z.condition) (Due (Behind z.x t ∷ z.stack))) next e in
        let z = o.0 in
        let n = when_some (not z.condition) (Due (Behind z.x t ∷ z.stack)) next o.2 in
        let f = not_true z.condition n.0 in
        let s = expression g k ts h z (omega arith) r o.1 f in
        let at : IsAt g (left_level v) (wants v) z.x = subst (λ p. IsAt g p (wants v) z.x) (sym b) (subst (λ p. IsAt g k p z.x) (f ∙ sym c) s.stands.here) in
        let lo : least z.stack ≤ level v = subst (λ p. least z.stack ≤ p) (sym a) (stop_least k z.stack l s.stops) in
        subst (After g (ts ++ (t ∷ []))) n.1 (pushed g v ts z.stack z.condition z.x t q s.stands.frames at (s.same ∙ r.same) (omega arith) lo (λ y. absurd (two (sym d ∙ y))))
      where
        two : false ≡ true → ⊥
        two y = cc

    cases : (v : Word) → t.word ≡ v → followed g shapes v h t ≡ Some next → After g (ts ++ (t ∷ [])) next
    cases (w.Math Plus) q e = math (w.Math Plus) 5 q (omega arith) refl refl refl refl e
    cases (w.Math Minus) q e = math (w.Math Minus) 5 q (omega arith) refl refl refl refl e
    cases (w.Math Times) q e = math (w.Math Times) 6 q (omega arith) refl refl refl refl e
    cases (w.Compare c) q e =
        let o = bind_some (close shapes 5 h.stack h.condition h.x) (λ (z : Held Shape). when (not z.condition && takes_condition g z.stack) (Due (Behind z.x t ∷ z.stack))) next e in
        let z = o.0 in
        let n = when_some (not z.condition && takes_condition g z.stack) (Due (Behind z.x t ∷ z.stack)) next o.2 in
        let m = both (not z.condition) (takes_condition g z.stack) n.0 in
        let f = not_true z.condition m.0 in
        let s = expression g 5 ts h z (omega arith) r o.1 f in
        subst (After g (ts ++ (t ∷ []))) n.1 (pushed g (w.Compare c) ts z.stack z.condition z.x t q s.stands.frames (subst (λ p. IsAt g 5 p z.x) f s.stands.here) (s.same ∙ r.same) (omega arith) (ready_true g z.stack m.1 s.stands.frames) (λ y. m.1))
    cases w.Between q e =
        let o = bind_some (close shapes 5 h.stack h.condition h.x) (λ (z : Held Shape). when (not z.condition && takes_condition g z.stack) (Due (Low z.x t ∷ z.stack))) next e in
        let z = o.0 in
        let n = when_some (not z.condition && takes_condition g z.stack) (Due (Low z.x t ∷ z.stack)) next o.2 in
        let m = both (not z.condition) (takes_condition g z.stack) n.0 in
        let f = not_true z.condition m.0 in
        let s = expression g 5 ts h z (omega arith) r o.1 f in
        subst (After g (ts ++ (t ∷ []))) n.1 (
          ((q, subst (λ p. IsAt g 5 p z.x) f s.stands.here), ready_true g z.stack m.1 s.stands.frames, (λ y. m.1), s.stands.frames, tt),
          sym (append_assoc (under z.stack) (tokens_of z.x) (t ∷ [])) ∙ ap (λ q. q ++ (t ∷ [])) (s.same ∙ r.same),
          tt,
        )
    cases w.Is q e =
        let o = bind_some (close shapes 5 h.stack h.condition h.x) (λ (z : Held Shape). when (not z.condition && takes_condition g z.stack) (SawIs z t)) next e in
        let z = o.0 in
        let n = when_some (not z.condition && takes_condition g z.stack) (SawIs z t) next o.2 in
        let m = both (not z.condition) (takes_condition g z.stack) n.0 in
        let f = not_true z.condition m.0 in
        let s = expression g 5 ts h z (omega arith) r o.1 f in
        subst (After g (ts ++ (t ∷ []))) n.1 (record {
          frames = s.stands.frames;
          left = subst (λ p. IsAt g 5 p z.x) f s.stands.here;
          top = m.1;
          word = q;
          same = sym (append_assoc (under z.stack) (tokens_of z.x) (t ∷ [])) ∙ ap (λ q. q ++ (t ∷ [])) (s.same ∙ r.same);
        })
    cases w.And q e =
        let o = bind_some (close shapes 2 h.stack h.condition h.x) (λ (z : Held Shape). and_then z.stack z.condition z.x t) next e in
        let s = low_closes g 2 ts h o.0 (omega arith) (omega arith) r o.1 in
        and_sound g ts o.0.stack o.0.condition o.0.x t next q s.stands s.stops (s.same ∙ r.same) o.2
    cases w.Or q e =
        let o = bind_some (close shapes 1 h.stack h.condition h.x) (λ (z : Held Shape). when z.condition (Due (Behind z.x t ∷ z.stack))) next e in
        let z = o.0 in
        let s = low_closes g 1 ts h z (omega arith) (omega arith) r o.1 in
        let n = when_some z.condition (Due (Behind z.x t ∷ z.stack)) next o.2 in
        subst (After g (ts ++ (t ∷ []))) n.1 (pushed g w.Or ts z.stack z.condition z.x t q s.stands.frames (subst (λ p. IsAt g 1 p z.x) n.0 s.stands.here) (s.same ∙ r.same) (omega arith) (join_least g 1 z.stack (omega arith) s.stops (s.stands.top n.0)) (λ y. s.stands.top n.0))
    cases w.Close q e =
        let o = bind_some (close shapes 1 h.stack h.condition h.x) (λ (z : Held Shape). closed shapes z.stack z.condition z.x t) next e in
        let s = low_closes g 1 ts h o.0 (omega arith) (omega arith) r o.1 in
        closed_sound g ts o.0.stack o.0.condition o.0.x t next q s.stands (s.same ∙ r.same) o.2
    cases _ q e = cc

behind_is_sound : (g : Setting) (u : Word) (ts : List Token) (h : Held Shape) (i t : Token) (next : State Shape) → t.word ≡ u → BehindIs g ts h i [] → behind_is shapes u h i t ≡ Some next → After g (ts ++ (t ∷ [])) next
behind_is_sound g w.Not ts h i t next is b e = subst (After g (ts ++ (t ∷ []))) (some_is (SawNot h i t) next e) (is, record { frames = b.frames; left = b.left; top = b.top; word = b.word; same = longer })
  where
    longer : under h.stack ++ (tokens_of h.x ++ (i ∷ t ∷ [])) ≡ ts ++ (t ∷ [])
    longer = ap (λ r. under h.stack ++ r) (sym (append_assoc (tokens_of h.x) (i ∷ []) (t ∷ []))) ∙ sym (append_assoc (under h.stack) (tokens_of h.x ++ (i ∷ [])) (t ∷ [])) ∙ ap (λ r. r ++ (t ∷ [])) b.same
behind_is_sound g w.Null ts h i t next is b e = subst (After g (ts ++ (t ∷ []))) (some_is (nulled shapes h i (t ∷ [])) next e) (record {
  frames = b.frames;
  prime = λ n l. (l refl, refl, b.word, is, b.left);
  top = λ r. b.top;
  same = longer;
  plain = plain_of h.stack (Nullness h.x i (t ∷ [])) (λ u. tt);
})
  where
    longer : under h.stack ++ (tokens_of h.x ++ (i ∷ t ∷ [])) ≡ ts ++ (t ∷ [])
    longer = ap (λ r. under h.stack ++ r) (sym (append_assoc (tokens_of h.x) (i ∷ []) (t ∷ []))) ∙ sym (append_assoc (under h.stack) (tokens_of h.x ++ (i ∷ [])) (t ∷ [])) ∙ ap (λ r. r ++ (t ∷ [])) b.same
behind_is_sound g _ ts h i t next is b e = cc

behind_not_sound : (g : Setting) (u : Word) (ts : List Token) (h : Held Shape) (i n t : Token) (next : State Shape) → t.word ≡ u → n.word ≡ w.Not → BehindIs g ts h i (n ∷ []) → behind_not shapes u h i n t ≡ Some next → After g (ts ++ (t ∷ [])) next
behind_not_sound g w.Null ts h i n t next is isn b e = subst (After g (ts ++ (t ∷ []))) (some_is (nulled shapes h i (n ∷ t ∷ [])) next e) (record {
  frames = b.frames;
  prime = λ m l. (l refl, refl, b.word, (isn, is), b.left);
  top = λ r. b.top;
  same = longer;
  plain = plain_of h.stack (Nullness h.x i (n ∷ t ∷ [])) (λ u. tt);
})
  where
    longer : under h.stack ++ (tokens_of h.x ++ (i ∷ n ∷ t ∷ [])) ≡ ts ++ (t ∷ [])
    longer = ap (λ r. under h.stack ++ r) (sym (append_assoc (tokens_of h.x) (i ∷ n ∷ []) (t ∷ []))) ∙ sym (append_assoc (under h.stack) (tokens_of h.x ++ (i ∷ n ∷ [])) (t ∷ [])) ∙ ap (λ r. r ++ (t ∷ [])) b.same
behind_not_sound g _ ts h i n t next is isn b e = cc

row_next_sound : (g : Setting) (ts : List Token) (fs : Stack) (seen : List Token) (slots : List Slot) → WithinRow g ts fs seen slots → After g ts (row_next shapes fs seen slots)
row_next_sound g ts fs seen [] r = record {
  frames = r.frames;
  prime = λ n l. (l refl, refl, subst (FillSlots g row_slots) (append-nil seen) (r.goes [] tt));
  top = λ c. r.top;
  same = r.same;
  plain = plain_of fs (RowTest seen) (λ u. tt);
}
row_next_sound g ts fs seen (slot ∷ slots) r = r

in_row_sound : (g : Setting) (ts : List Token) (fs : Stack) (seen : List Token) (slot : Slot) (slots : List Slot) (t : Token) (next : State Shape) → WithinRow g ts fs seen (slot ∷ slots) → in_row g shapes fs seen slot slots t ≡ Some next → After g (ts ++ (t ∷ [])) next
in_row_sound g ts fs seen slot slots t next r e = by_left (slot_after g slot t.word) refl e
  where
    by_left : (o : Option (List Slot)) → slot_after g slot t.word ≡ o → row_left shapes fs (seen ++ t ∷ []) slots o ≡ Some next → After g (ts ++ (t ∷ [])) next
    by_left None f e = cc
    by_left (Some more) f e = subst (After g (ts ++ (t ∷ []))) (some_is (row_next shapes fs (seen ++ t ∷ []) (more ++ slots)) next e)
        (row_next_sound g (ts ++ (t ∷ [])) fs (seen ++ t ∷ []) (more ++ slots) (record {
          frames = r.frames;
          top = r.top;
          same = sym (append_assoc (under fs) seen (t ∷ [])) ∙ ap (λ (q : List Token). q ++ (t ∷ [])) r.same;
          goes = λ us h. subst (FillSlots g row_slots) (sym (append_assoc seen (t ∷ []) us)) (r.goes (t ∷ us) (more, f, h));
          ready = digits_fillable g slot t.word more slots f r.ready.1;
        }))

lone_sound : (g : Setting) (u : Word) (ts : List Token) (fs : Stack) (o a t : Token) (next : State Shape) → t.word ≡ u → After g ts (Lone fs o a) → behind_lone g shapes u fs o a t ≡ Some next → After g (ts ++ (t ∷ [])) next
lone_sound g u ts fs o a t next is r e = cases u is e
  where
    comma : is_comma t.word ≡ true → After g (ts ++ (t ∷ [])) (row_next shapes fs (o ∷ a ∷ t ∷ []) after_comma)
    comma c = row_next_sound g (ts ++ (t ∷ [])) fs (o ∷ a ∷ t ∷ []) after_comma (record {
      frames = r.0.frames.3;
      top = sym r.0.frames.4;
      same = sym (append_assoc (under fs) (o ∷ []) (a ∷ t ∷ [])) ∙ sym (append_assoc (under fs ++ (o ∷ [])) (a ∷ []) (t ∷ [])) ∙ ap (λ (q : List Token). q ++ (t ∷ [])) r.0.same;
      goes = λ us h. ([], ap filled_by r.1, ([], ap filled_by r.2, ([], ap filled_by c, h)));
      ready = fillable g a.word r.2;
    })

    cases : (v : Word) → t.word ≡ v → behind_lone g shapes v fs o a t ≡ Some next → After g (ts ++ (t ∷ [])) next
    cases w.Comma q e = subst (After g (ts ++ (t ∷ []))) (some_is (row_next shapes fs (o ∷ a ∷ t ∷ []) after_comma) next e) (comma (ap is_comma q))
    cases (w.Name n) q e = followed_sound g (w.Name n) ts (lone_held shapes fs o a) t next q r.0 e
    cases (w.Number n) q e = followed_sound g (w.Number n) ts (lone_held shapes fs o a) t next q r.0 e
    cases (w.Text n) q e = followed_sound g (w.Text n) ts (lone_held shapes fs o a) t next q r.0 e
    cases w.Null q e = followed_sound g w.Null ts (lone_held shapes fs o a) t next q r.0 e
    cases (w.Math n) q e = followed_sound g (w.Math n) ts (lone_held shapes fs o a) t next q r.0 e
    cases (w.Compare n) q e = followed_sound g (w.Compare n) ts (lone_held shapes fs o a) t next q r.0 e
    cases w.And q e = followed_sound g w.And ts (lone_held shapes fs o a) t next q r.0 e
    cases w.Or q e = followed_sound g w.Or ts (lone_held shapes fs o a) t next q r.0 e
    cases w.Not q e = followed_sound g w.Not ts (lone_held shapes fs o a) t next q r.0 e
    cases w.Is q e = followed_sound g w.Is ts (lone_held shapes fs o a) t next q r.0 e
    cases w.Between q e = followed_sound g w.Between ts (lone_held shapes fs o a) t next q r.0 e
    cases w.Open q e = followed_sound g w.Open ts (lone_held shapes fs o a) t next q r.0 e
    cases w.Close q e = followed_sound g w.Close ts (lone_held shapes fs o a) t next q r.0 e
    cases w.Semicolon q e = followed_sound g w.Semicolon ts (lone_held shapes fs o a) t next q r.0 e
    cases (w.Keyword n) q e = followed_sound g (w.Keyword n) ts (lone_held shapes fs o a) t next q r.0 e

pub moved_sound : (g : Setting) (s next : State Shape) (ts : List Token) (t : Token) → After g ts s → moved g shapes s t ≡ Some next → After g (ts ++ (t ∷ [])) next
moved_sound g (Due fs) next ts t a e = begun_sound g t.word ts fs t next refl (a.0, a.1, free_plain fs t a.2) e
moved_sound g (Read h) next ts t a e = followed_sound g t.word ts h t next refl a e
moved_sound g (SawIs h i) next ts t a e = behind_is_sound g t.word ts h i t next refl a e
moved_sound g (SawNot h i n) next ts t a e = behind_not_sound g t.word ts h i n t next refl a.0 a.1 e
moved_sound g (Lone fs o b) next ts t a e = lone_sound g t.word ts fs o b t next refl a e
moved_sound g (InRow fs seen slot slots) next ts t a e = in_row_sound g ts fs seen slot slots t next a e
moved_sound g (SawMinus fs o) next ts t a e = minus_sound g ts fs o t next a e

pub run_sound : (g : Setting) (s next : State Shape) (ts us : List Token) → After g ts s → run g shapes s us ≡ Some next → After g (ts ++ us) next
run_sound g s next ts [] a e = subst (λ r. After g r next) (sym (append-nil ts)) (subst (After g ts) (some_is s next e) a)
run_sound g s next ts (t ∷ us) a e =
    let b = bind_some (moved g shapes s t) (λ (n : State Shape). run g shapes n us) next e in
    subst (λ r. After g r next) (append_assoc ts (t ∷ []) us) (run_sound g b.0 next (ts ++ (t ∷ [])) us (moved_sound g s b.0 ts t a b.1) b.2)

-- what stands at the end is what was read
held_reading : (g : Setting) (s : State Shape) (h : Held Shape) (ts : List Token) → held_at shapes s ≡ Some h → After g ts s → Reading g ts h
held_reading g (Read k) h ts e a = subst (Reading g ts) (some_is k h e) a
held_reading g (Lone fs o b) h ts e a = subst (Reading g ts) (some_is (lone_held shapes fs o b) h e) a.0
held_reading g (Due fs) h ts e a = cc
held_reading g (SawIs k i) h ts e a = cc
held_reading g (SawNot k i n) h ts e a = cc
held_reading g (InRow fs seen slot slots) h ts e a = cc
held_reading g (SawMinus fs o) h ts e a = cc

pub sound : (g : Setting) (ts : List Token) (c : Bool) (x : Shape) → IsRead g shapes ts c x → (c ≡ true → g.base ≡ true) × IsAt g 1 c x × (tokens_of x ≡ ts)
sound g ts c x r =
    let a : Reading g ts r.held = held_reading g r.state r.held ts r.ends (run_sound g (Due []) r.state [] ts (tt, refl, tt) r.runs) in
    let b = low_closes g 1 ts r.held (record { stack = []; condition = c; x = x }) (omega arith) (omega arith) a r.closes in
    (b.stands.top, b.stands.here, b.same ∙ a.same)
