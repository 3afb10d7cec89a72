-- Whatever is made of the trees, the machine goes the same way.
use Rattle.std.proofs.Common.{◌≡◌, ℕ, Bool, true, false, List, [], ◌∷◌, ◌++◌, Option, Some, None, refl, ap, ◌∙◌}
use Rattle.std.specs.Prelude.{not, ◌&&◌, if◌then◌else◌}
use Rattle.std.specs.Option.{option_map}
use Rattle.statement_tokens.specs.declared.words.Math.TheVariants.{Plus, Minus, Times}
use Rattle.statement_tokens.specs.declared.words.Token.{Token}
use Rattle.statement_tokens.specs.declared.words.Word.{Word}
use Rattle.statement_tokens.specs.declared.words.Word.TheVariants as w
use Rattle.statement_grammar.specs.declared.frames.Frame.{Frame}
use Rattle.statement_grammar.specs.declared.frames.Frame.TheVariants.{Before, Behind, Low, High, Opened}
use Rattle.statement_grammar.specs.Grammar.{Shape, Signed, Setting, Slot, is_number, first_is, slot_after, level}
use Rattle.statement_grammar.specs.Machine.{Maker, made, shapes, Held, State, Due, Read, SawIs, SawNot, Lone, InRow, SawMinus, ◌>>=◌, close, takes_condition, when, operand, begun, and_then, closed, followed, behind_is, behind_not, row_next, row_left, lone_held, behind_lone, moved, run}
use Rattle.statement_machine_laws.specs.Images.{stack_image, held_image, state_image}

both : {A B : Type 0} (f : A → B) (a b : Bool) (x : A) (y : Option B) (z : Option A) → y ≡ option_map f z
    → (if a then Some (f x) else if b then y else None) ≡ option_map f (if a then Some x else if b then z else None)
both f true b x y z e = refl
both f false true x y z e = e
both f false false x y z e = refl

pub close_image : {X : Type 0} (m : Maker X) (k : ℕ) (fs : List (Frame Shape)) (c : Bool) (x : Shape) → close m k (stack_image m fs) c (made m x) ≡ option_map (held_image m) (close shapes k fs c x)
close_image m k [] c x = refl
close_image m k (Before t ∷ fs) c x = both (held_image m) _ _ (record { stack = Before t ∷ fs; condition = c; x = x }) _ _ (close_image m k fs _ _)
close_image m k (Behind l t ∷ fs) c x = both (held_image m) _ _ (record { stack = Behind l t ∷ fs; condition = c; x = x }) _ _ (close_image m k fs _ _)
close_image m k (Low v b ∷ fs) c x = both (held_image m) _ _ (record { stack = Low v b ∷ fs; condition = c; x = x }) _ _ (close_image m k fs _ _)
close_image m k (High v b l a ∷ fs) c x = both (held_image m) _ _ (record { stack = High v b l a ∷ fs; condition = c; x = x }) _ _ (close_image m k fs _ _)
close_image m k (Opened o b ∷ fs) c x = both (held_image m) _ _ (record { stack = Opened o b ∷ fs; condition = c; x = x }) _ _ (close_image m k fs _ _)

pub takes_image : {X : Type 0} (g : Setting) (m : Maker X) (fs : List (Frame Shape)) → takes_condition g (stack_image m fs) ≡ takes_condition g fs
takes_image g m [] = refl
takes_image g m (Before t ∷ fs) = refl
takes_image g m (Behind l t ∷ fs) = refl
takes_image g m (Low v b ∷ fs) = refl
takes_image g m (High v b l a ∷ fs) = refl
takes_image g m (Opened o b ∷ fs) = refl

when_image : {X : Type 0} (m : Maker X) (b : Bool) (s : State Shape) → when b (state_image m s) ≡ option_map (state_image m) (when b s)
when_image m true s = refl
when_image m false s = refl

-- with the test on what is open
takes_too : {X : Type 0} (g : Setting) (m : Maker X) (c : Bool) (fs : List (Frame Shape)) (s : State Shape)
    → when (c && takes_condition g (stack_image m fs)) (state_image m s) ≡ option_map (state_image m) (when (c && takes_condition g fs) s)
takes_too g m c fs s = ap (λ (b : Bool). when (c && b) (state_image m s)) (takes_image g m fs) ∙ when_image m (c && takes_condition g fs) s

bind_image : {X : Type 0} (m : Maker X) (k : ℕ) (h : Held Shape) (f : Held Shape → Option (State Shape)) (g : Held X → Option (State X)) → ((q : Held Shape) → g (held_image m q) ≡ option_map (state_image m) (f q))
    → (close m k (stack_image m h.stack) h.condition (made m h.x) >>= g) ≡ option_map (state_image m) (close shapes k h.stack h.condition h.x >>= f)
bind_image m k h f g e = ap (λ o. o >>= g) (close_image m k h.stack h.condition h.x) ∙ by_result (close shapes k h.stack h.condition h.x)
  where
    by_result : (o : Option (Held Shape)) → (option_map (held_image m) o >>= g) ≡ option_map (state_image m) (o >>= f)
    by_result None = refl
    by_result (Some q) = e q

and_image : {X : Type 0} (m : Maker X) (fs : List (Frame Shape)) (c : Bool) (x : Shape) (t : Token) → and_then (stack_image m fs) c (made m x) t ≡ option_map (state_image m) (and_then fs c x t)
and_image m [] c x t = when_image m c (Due (Behind x t ∷ []))
and_image m (Before b ∷ fs) c x t = when_image m c (Due (Behind x t ∷ Before b ∷ fs))
and_image m (Behind l b ∷ fs) c x t = when_image m c (Due (Behind x t ∷ Behind l b ∷ fs))
and_image m (Low v b ∷ fs) c x t = when_image m (not c) (Due (High v b x t ∷ fs))
and_image m (High v b l a ∷ fs) c x t = when_image m c (Due (Behind x t ∷ High v b l a ∷ fs))
and_image m (Opened o b ∷ fs) c x t = when_image m c (Due (Behind x t ∷ Opened o b ∷ fs))

closed_image : {X : Type 0} (m : Maker X) (fs : List (Frame Shape)) (c : Bool) (x : Shape) (t : Token) → closed m (stack_image m fs) c (made m x) t ≡ option_map (state_image m) (closed shapes fs c x t)
closed_image m [] c x t = refl
closed_image m (Before b ∷ fs) c x t = refl
closed_image m (Behind l b ∷ fs) c x t = refl
closed_image m (Low v b ∷ fs) c x t = refl
closed_image m (High v b l a ∷ fs) c x t = refl
closed_image m (Opened o b ∷ fs) c x t = refl

followed_image : {X : Type 0} (g : Setting) (m : Maker X) (u : Word) (h : Held Shape) (t : Token) → followed g m u (held_image m h) t ≡ option_map (state_image m) (followed g shapes u h t)
followed_image g m (w.Math o) h t = bind_image m (level (w.Math o)) h _ _ (λ q. when_image m (not q.condition) (Due (Behind q.x t ∷ q.stack)))
followed_image g m (w.Compare o) h t = bind_image m 5 h _ _ (λ q. takes_too g m (not q.condition) q.stack (Due (Behind q.x t ∷ q.stack)))
followed_image g m w.Between h t = bind_image m 5 h _ _ (λ q. takes_too g m (not q.condition) q.stack (Due (Low q.x t ∷ q.stack)))
followed_image g m w.Is h t = bind_image m 5 h _ _ (λ q. takes_too g m (not q.condition) q.stack (SawIs q t))
followed_image g m w.And h t = bind_image m 2 h _ _ (λ q. and_image m q.stack q.condition q.x t)
followed_image g m w.Or h t = bind_image m 1 h _ _ (λ q. when_image m q.condition (Due (Behind q.x t ∷ q.stack)))
followed_image g m w.Close h t = bind_image m 1 h _ _ (λ q. closed_image m q.stack q.condition q.x t)
followed_image g m _ h t = refl

if_image : {X : Type 0} (m : Maker X) (b : Bool) (s z : State Shape) → (if b then state_image m s else state_image m z) ≡ state_image m (if b then s else z)
if_image m true s z = refl
if_image m false s z = refl

operand_image : {X : Type 0} (g : Setting) (m : Maker X) (u : Word) (fs : List (Frame Shape)) (t : Token) → operand g m u (stack_image m fs) t ≡ state_image m (operand g shapes u fs t)
operand_image g m (w.Name n) [] t = refl
operand_image g m (w.Name n) (Before b ∷ fs) t = refl
operand_image g m (w.Name n) (Behind l b ∷ fs) t = refl
operand_image g m (w.Name n) (Low v b ∷ fs) t = refl
operand_image g m (w.Name n) (High v b l a ∷ fs) t = refl
operand_image g m (w.Name n) (Opened o true ∷ fs) t = if_image m (first_is g (w.Name n)) (Lone fs o t) (operand g shapes w.Null (Opened o true ∷ fs) t)
operand_image g m (w.Name n) (Opened o false ∷ fs) t = refl
operand_image g m _ fs t = refl

leaf_image : {X : Type 0} (g : Setting) (m : Maker X) (b : Bool) (u : Word) (fs : List (Frame Shape)) (t : Token) → when b (operand g m u (stack_image m fs) t) ≡ option_map (state_image m) (when b (operand g shapes u fs t))
leaf_image g m true u fs t = ap (λ s. Some s) (operand_image g m u fs t)
leaf_image g m false u fs t = refl

begun_image : {X : Type 0} (g : Setting) (m : Maker X) (u : Word) (fs : List (Frame Shape)) (t : Token) → begun g m u (stack_image m fs) t ≡ option_map (state_image m) (begun g shapes u fs t)
begun_image g m w.Not fs t = takes_too g m true fs (Due (Before t ∷ fs))
begun_image g m (w.Math Minus) fs t = refl
begun_image g m (w.Math Plus) fs t = refl
begun_image g m (w.Math Times) fs t = refl
begun_image g m w.Open fs t = ap (λ (b : Bool). Some (Due (Opened t b ∷ stack_image m fs))) (takes_image g m fs)
begun_image g m (w.Name n) fs t = leaf_image g m true (w.Name n) fs t
begun_image g m (w.Number n) fs t = leaf_image g m true (w.Number n) fs t
begun_image g m (w.Text n) fs t = leaf_image g m true (w.Text n) fs t
begun_image g m w.Null fs t = leaf_image g m true w.Null fs t
begun_image g m _ fs t = refl

is_image : {X : Type 0} (m : Maker X) (u : Word) (h : Held Shape) (i t : Token) → behind_is m u (held_image m h) i t ≡ option_map (state_image m) (behind_is shapes u h i t)
is_image m w.Not h i t = refl
is_image m w.Null h i t = refl
is_image m _ h i t = refl

not_image : {X : Type 0} (m : Maker X) (u : Word) (h : Held Shape) (i n t : Token) → behind_not m u (held_image m h) i n t ≡ option_map (state_image m) (behind_not shapes u h i n t)
not_image m w.Null h i n t = refl
not_image m _ h i n t = refl

next_image : {X : Type 0} (m : Maker X) (fs : List (Frame Shape)) (seen : List Token) (slots : List Slot) → row_next m (stack_image m fs) seen slots ≡ state_image m (row_next shapes fs seen slots)
next_image m fs seen [] = refl
next_image m fs seen (slot ∷ slots) = refl

row_image : {X : Type 0} (m : Maker X) (fs : List (Frame Shape)) (seen : List Token) (slots : List Slot) (o : Option (List Slot)) → row_left m (stack_image m fs) seen slots o ≡ option_map (state_image m) (row_left shapes fs seen slots o)
row_image m fs seen slots None = refl
row_image m fs seen slots (Some more) = ap (λ s. Some s) (next_image m fs seen (more ++ slots))

lone_image : {X : Type 0} (g : Setting) (m : Maker X) (u : Word) (fs : List (Frame Shape)) (o a t : Token) → behind_lone g m u (stack_image m fs) o a t ≡ option_map (state_image m) (behind_lone g shapes u fs o a t)
lone_image g m w.Comma fs o a t = refl
lone_image g m (w.Name n) fs o a t = refl
lone_image g m (w.Number n) fs o a t = refl
lone_image g m (w.Text n) fs o a t = refl
lone_image g m w.Null fs o a t = refl
lone_image g m (w.Math p) fs o a t = followed_image g m (w.Math p) (lone_held shapes fs o a) t
lone_image g m (w.Compare p) fs o a t = followed_image g m (w.Compare p) (lone_held shapes fs o a) t
lone_image g m w.And fs o a t = followed_image g m w.And (lone_held shapes fs o a) t
lone_image g m w.Or fs o a t = followed_image g m w.Or (lone_held shapes fs o a) t
lone_image g m w.Not fs o a t = refl
lone_image g m w.Is fs o a t = followed_image g m w.Is (lone_held shapes fs o a) t
lone_image g m w.Between fs o a t = followed_image g m w.Between (lone_held shapes fs o a) t
lone_image g m w.Open fs o a t = refl
lone_image g m w.Close fs o a t = followed_image g m w.Close (lone_held shapes fs o a) t
lone_image g m w.Semicolon fs o a t = refl
lone_image g m (w.Keyword k) fs o a t = refl

either_image : {X : Type 0} (m : Maker X) (b : Bool) (s : State Shape) (y : Option (State X)) (z : Option (State Shape)) → y ≡ option_map (state_image m) z → (if b then Some (state_image m s) else y) ≡ option_map (state_image m) (if b then Some s else z)
either_image m true s y z e = refl
either_image m false s y z e = e

pub moved_image : {X : Type 0} (g : Setting) (m : Maker X) (s : State Shape) (t : Token) → moved g m (state_image m s) t ≡ option_map (state_image m) (moved g shapes s t)
moved_image g m (Due fs) t = begun_image g m t.word fs t
moved_image g m (Read h) t = followed_image g m t.word h t
moved_image g m (SawIs h i) t = is_image m t.word h i t
moved_image g m (SawNot h i n) t = not_image m t.word h i n t
moved_image g m (Lone fs o a) t = lone_image g m t.word fs o a t
moved_image g m (InRow fs seen slot slots) t = row_image m fs (seen ++ t ∷ []) slots (slot_after g slot t.word)
moved_image g m (SawMinus fs o) t = either_image m (is_number t.word) (Read (record { stack = fs; condition = false; x = Signed o t })) _ _ (begun_image g m t.word (Before o ∷ fs) t)

-- over many tokens
pub run_image : {X : Type 0} (g : Setting) (m : Maker X) (s : State Shape) (ts : List Token) → run g m (state_image m s) ts ≡ option_map (state_image m) (run g shapes s ts)
run_image g m s [] = refl
run_image g m s (t ∷ ts) = ap (λ o. o >>= λ n. run g m n ts) (moved_image g m s t) ∙ by_next (moved g shapes s t) (λ n. run_image g m n ts)
  where
    by_next : (o : Option (State Shape)) → ((n : State Shape) → run g m (state_image m n) ts ≡ option_map (state_image m) (run g shapes n ts)) → (option_map (state_image m) o >>= λ n. run g m n ts) ≡ option_map (state_image m) (o >>= λ n. run g shapes n ts)
    by_next None e = refl
    by_next (Some n) e = e n
