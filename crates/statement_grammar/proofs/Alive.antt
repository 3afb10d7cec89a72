-- The machine can always be led to an end.
use Rattle.std.proofs.Common.{◌≡◌, ℕ, ◌≤◌, ◌<◌, Bool, true, false, List, [], ◌∷◌, ◌++◌, Option, Some, refl, sym, ap, ◌∙◌, arith, append-nil, nat_lt}
use Rattle.std.proofs.lemmas.Bool.Decides.{nat_tests}
use Rattle.statement_tokens.specs.declared.words.Math.TheVariants.{Plus, Minus, Times}
use Rattle.ptc_statement.specs.declared.expressions.Op.TheVariants as op
use Rattle.statement_tokens.specs.declared.words.Token.{Token}
use Rattle.statement_tokens.specs.declared.words.Word.{Word}
use Rattle.statement_tokens.specs.declared.words.Word.TheVariants as w
use Rattle.statement_grammar.specs.declared.frames.Frame.{Frame}
use Rattle.statement_grammar.specs.declared.frames.Frame.TheVariants.{Before, Behind, Low, High, Opened}
use Rattle.statement_grammar.specs.Grammar.{Shape, Leaf, Prefix, Binary, Range, Nullness, Paren, Signed, RowTest, Setting, Slot, level, prefix_level, wants, gives, tokens_of}
use Rattle.statement_grammar.specs.Machine.{Held, State, Due, Read, SawIs, SawNot, Lone, InRow, SawMinus, row_next, row_left, lone_held, ◌>>=◌, strength, frame_wants, frame_gives, filled, close, takes_condition, run, moved, shapes}
use Rattle.statement_grammar.specs.Laws.{IsRead}
use Rattle.statement_grammar.proofs.Sound.{Fillable, Stack, AreFrames, After, sound, run_sound}
use Rattle.statement_grammar.proofs.Complete.{complete}
use Rattle.statement_grammar.specs.Begins.{Begins}
use Rattle.statement_grammar.proofs.BasicLemmas.{same_sort_refl, gives_too, bind_some, run_more}

abbrev zero_token : Token
zero_token = record { word = w.Null; place = 0 }

abbrev equals : Token
equals = record { word = w.Compare op.Eq; place = 0 }

abbrev ends : Token
ends = record { word = w.Close; place = 0 }

abbrev joins : Token
joins = record { word = w.And; place = 0 }

-- the tokens lead the state to one condition
record Ends (g : Setting) (s : State Shape) : Type 0 where
  more : List Token
  held : Held Shape
  x : Shape
  runs : run g shapes s more ≡ Some (Read held)
  closes : close shapes 1 held.stack held.condition held.x ≡ Some (record { stack = []; condition = g.base; x = x })

-- one token more in front
onward : (g : Setting) (s next : State Shape) (t : Token) → moved g shapes s t ≡ Some next → Ends g next → Ends g s
onward g s next t e r = record { more = t ∷ r.more; held = r.held; x = r.x; runs = rw e r.runs; closes = r.closes }

stop_at : (k : ℕ) (f : Frame Shape) (fs : Stack) (c : Bool) (x : Shape) → strength f < k → close shapes k (f ∷ fs) c x ≡ Some (record { stack = f ∷ fs; condition = c; x = x })
stop_at k f fs c x h = let e : nat_lt (strength f) k ≡ true = grind (arith, nat_tests) in rw e refl

pass_by : (k : ℕ) (f : Frame Shape) (fs : Stack) (c d : Bool) (x : Shape) → k ≤ strength f → frame_wants f ≡ c → frame_gives f ≡ d → close shapes k (f ∷ fs) c x ≡ close shapes k fs d (filled shapes f x)
pass_by k f fs c d x h a b = let e : nat_lt (strength f) k ≡ false = grind (arith, nat_tests) in rw (e, ← a, ← b, same_sort_refl (frame_wants f)) refl

paren_move : (g : Setting) (h : Held Shape) (o : Token) (b c : Bool) (fs : Stack) (x : Shape) → close shapes 1 h.stack h.condition h.x ≡ Some (record { stack = Opened o b ∷ fs; condition = c; x = x })
    → moved g shapes (Read h) ends ≡ Some (Read (record { stack = fs; condition = c; x = Paren o x ends }))
paren_move g h o b c fs x e = rw e refl

-- a condition stands
condition_ends : (g : Setting) (fs : Stack) (x : Shape) (h : Held Shape) → AreFrames g fs → takes_condition g fs ≡ true → close shapes 1 h.stack h.condition h.x ≡ close shapes 1 fs true x → Ends g (Read h)
condition_ends g [] x h a t e = record { more = []; held = h; x = x; runs = refl; closes = e ∙ ap (λ (b : Bool). Some (record { stack = []; condition = b; x = x })) (sym t) }
condition_ends g (Before v ∷ fs) x h a t e =
    condition_ends g fs (Prefix v x) h a.3 (a.2 (gives_too v.word t)) (e ∙ pass_by 1 (Before v) fs true true x a.0 t (gives_too v.word t))
condition_ends g (Behind l v ∷ fs) x h a t e =
    condition_ends g fs (Binary l v x) h a.3 (a.2 (gives_too v.word t)) (e ∙ pass_by 1 (Behind l v) fs true true x a.0.0 t (gives_too v.word t))
condition_ends g (Low l v ∷ fs) x h a t e = cc
condition_ends g (High y b l v ∷ fs) x h a t e = cc
condition_ends g (Opened o b ∷ fs) x h a t e =
    onward g (Read h) (Read (record { stack = fs; condition = true; x = Paren o x ends })) ends (paren_move g h o b true fs x (e ∙ stop_at 1 (Opened o b) fs true x (omega arith)))
    (condition_ends g fs (Paren o x ends) (record { stack = fs; condition = true; x = Paren o x ends }) a.3 (sym a.4 ∙ t) refl)

-- `= NULL` behind an expression where a condition may stand
compare_ends : (g : Setting) (fs : Stack) (x : Shape) (h : Held Shape) → AreFrames g fs → takes_condition g fs ≡ true → close shapes 5 h.stack h.condition h.x ≡ Some (record { stack = fs; condition = false; x = x }) → Ends g (Read h)
compare_ends g fs x h a t e =
    onward g (Read h) (Due (Behind x equals ∷ fs)) equals (rw (e, t) refl)
    (onward g (Due (Behind x equals ∷ fs)) (Read (record { stack = Behind x equals ∷ fs; condition = false; x = Leaf zero_token })) zero_token refl
    (condition_ends g fs (Binary x equals (Leaf zero_token)) (record { stack = Behind x equals ∷ fs; condition = false; x = Leaf zero_token }) a t (pass_by 1 (Behind x equals) fs false true (Leaf zero_token) (omega arith) refl refl)))

abbrev Like : Held Shape → Stack → Shape → Type 0
Like h fs x = (k : ℕ) → k ≤ 5 → close shapes k h.stack h.condition h.x ≡ close shapes k fs false x

-- how a frame that wants an expression passes one on
arith_level : (u : Word) → 1 ≤ level u → wants u ≡ false → gives u ≡ false → 5 ≤ level u
arith_level w.Or l a b = cc
arith_level w.And l a b = cc
arith_level (w.Compare o) l a b = cc
arith_level (w.Math Plus) l a b = omega arith
arith_level (w.Math Minus) l a b = omega arith
arith_level (w.Math Times) l a b = omega arith
arith_level _ l a b = absurd (omega arith)

sign_level : (u : Word) → 1 ≤ prefix_level u → wants u ≡ false → (5 ≤ prefix_level u) × (gives u ≡ false)
sign_level w.Not l a = cc
sign_level (w.Math Minus) l a = (omega arith, refl)
sign_level _ l a = absurd (omega arith)

not_level : (u : Word) → wants u ≡ true → (level u < 5) × (prefix_level u < 5)
not_level w.Or e = (omega arith, omega arith)
not_level w.And e = (omega arith, omega arith)
not_level w.Not e = (omega arith, omega arith)
not_level _ e = cc

range_move : (g : Setting) (h : Held Shape) (v x : Shape) (b : Token) (fs : Stack) → close shapes 2 h.stack h.condition h.x ≡ Some (record { stack = Low v b ∷ fs; condition = false; x = x })
    → moved g shapes (Read h) joins ≡ Some (Due (High v b x joins ∷ fs))
range_move g h v x b fs e = rw e refl

-- an expression stands
expression_ends : (g : Setting) (fs : Stack) (x : Shape) (h : Held Shape) → AreFrames g fs → Like h fs x → Ends g (Read h)
expression_ends g [] x h a l = elim g.base as (λ b. g.base ≡ b → Ends g (Read h)) [
  | true ↦ λ e. compare_ends g [] x h a e (l 5 (omega arith))
  | false ↦ λ e. record { more = []; held = h; x = x; runs = refl; closes = l 1 (omega arith) ∙ ap (λ (b : Bool). Some (record { stack = []; condition = b; x = x })) (sym e) }
] refl
expression_ends g (Before v ∷ fs) x h a l = elim (wants v.word) as (λ b. wants v.word ≡ b → Ends g (Read h)) [
  | true ↦ λ e. compare_ends g (Before v ∷ fs) x h a e (l 5 (omega arith) ∙ stop_at 5 (Before v) fs false x (not_level v.word e).1)
  | false ↦ λ e. let s = sign_level v.word a.0 e in expression_ends g fs (Prefix v x) h a.3 (λ k m. l k m ∙ pass_by k (Before v) fs false false x (omega arith) e s.1)
] refl
expression_ends g (Behind y v ∷ fs) x h a l = elim (wants v.word) as (λ b. wants v.word ≡ b → Ends g (Read h)) [
  | true ↦ λ e. compare_ends g (Behind y v ∷ fs) x h a e (l 5 (omega arith) ∙ stop_at 5 (Behind y v) fs false x (not_level v.word e).0)
  | false ↦ λ e. elim (gives v.word) as (λ b. gives v.word ≡ b → Ends g (Read h)) [
    | true ↦ λ k. condition_ends g fs (Binary y v x) h a.3 (a.2 k) (l 1 (omega arith) ∙ pass_by 1 (Behind y v) fs false true x a.0.0 e k)
    | false ↦ λ k. let s = arith_level v.word a.0.0 e k in expression_ends g fs (Binary y v x) h a.3 (λ j m. l j m ∙ pass_by j (Behind y v) fs false false x (omega arith) e k)
  ] refl
] refl
expression_ends g (Low v b ∷ fs) x h a l =
    onward g (Read h) (Due (High v b x joins ∷ fs)) joins (range_move g h v x b fs (l 2 (omega arith) ∙ stop_at 2 (Low v b) fs false x (omega arith)))
    (onward g (Due (High v b x joins ∷ fs)) (Read (record { stack = High v b x joins ∷ fs; condition = false; x = Leaf zero_token })) zero_token refl
    (condition_ends g fs (Range v b x joins (Leaf zero_token)) (record { stack = High v b x joins ∷ fs; condition = false; x = Leaf zero_token }) a.3 (a.2 refl) (pass_by 1 (High v b x joins) fs false true (Leaf zero_token) (omega arith) refl refl)))
expression_ends g (High v b y t ∷ fs) x h a l =
    condition_ends g fs (Range v b y t x) h a.3 (a.2 refl) (l 1 (omega arith) ∙ pass_by 1 (High v b y t) fs false true x (omega arith) refl refl)
expression_ends g (Opened o b ∷ fs) x h a l =
    onward g (Read h) (Read (record { stack = fs; condition = false; x = Paren o x ends })) ends (paren_move g h o b false fs x (l 1 (omega arith) ∙ stop_at 1 (Opened o b) fs false x (omega arith)))
    (expression_ends g fs (Paren o x ends) (record { stack = fs; condition = false; x = Paren o x ends }) a.3 (λ k m. refl))

due_ends : (g : Setting) (fs : Stack) → AreFrames g fs → Ends g (Due fs)
due_ends g fs a = onward g (Due fs) (Read (record { stack = fs; condition = false; x = Leaf zero_token })) zero_token refl (expression_ends g fs (Leaf zero_token) (record { stack = fs; condition = false; x = Leaf zero_token }) a (λ k m. refl))

null_ends : (g : Setting) (h : Held Shape) (i : Token) (ws : List Token) → AreFrames g h.stack → takes_condition g h.stack ≡ true → Ends g (Read (record { stack = h.stack; condition = true; x = Nullness h.x i ws }))
null_ends g h i ws a t = condition_ends g h.stack (Nullness h.x i ws) (record { stack = h.stack; condition = true; x = Nullness h.x i ws }) a t refl

read_ends : (g : Setting) (c : Bool) (fs : Stack) (x : Shape) → AreFrames g fs → (c ≡ true → takes_condition g fs ≡ true) → Ends g (Read (record { stack = fs; condition = c; x = x }))
read_ends g true fs x a t = condition_ends g fs x (record { stack = fs; condition = true; x = x }) a (t refl) refl
read_ends g false fs x a t = expression_ends g fs x (record { stack = fs; condition = false; x = x }) a (λ k m. refl)

lone_ends : (g : Setting) (ts : List Token) (fs : Stack) (o b : Token) → After g ts (Lone fs o b) → Ends g (Lone fs o b)
lone_ends g ts fs o b a =
    onward g (Lone fs o b) (Read (record { stack = fs; condition = false; x = Paren o (Leaf b) ends })) ends (paren_move g (lone_held shapes fs o b) o true false fs (Leaf b) (stop_at 1 (Opened o true) fs false (Leaf b) (omega arith)))
    (expression_ends g fs (Paren o (Leaf b) ends) (record { stack = fs; condition = false; x = Paren o (Leaf b) ends }) a.0.frames.3 (λ k m. refl))

row_ends : (g : Setting) (fs : Stack) (seen : List Token) (slots : List Slot) → AreFrames g fs → takes_condition g fs ≡ true → Fillable g slots → Ends g (row_next shapes fs seen slots)
row_ends g fs seen [] a t f = condition_ends g fs (RowTest seen) (record { stack = fs; condition = true; x = RowTest seen }) a t refl
row_ends g fs seen (slot ∷ slots) a t f =
    onward g (InRow fs seen slot slots) (row_next shapes fs (seen ++ f.0.0 ∷ []) slots) f.0.0 (ap (row_left shapes fs (seen ++ f.0.0 ∷ []) slots) f.0.1)
    (row_ends g fs (seen ++ f.0.0 ∷ []) slots a t f.1)

abbrev one_token : Token
one_token = record { word = w.Number 0; place = 0 }

minus_ends : (g : Setting) (fs : Stack) (o : Token) → AreFrames g fs → Ends g (SawMinus fs o)
minus_ends g fs o a =
    onward g (SawMinus fs o) (Read (record { stack = fs; condition = false; x = Signed o one_token })) one_token refl
    (expression_ends g fs (Signed o one_token) (record { stack = fs; condition = false; x = Signed o one_token }) a (λ k m. refl))

state_ends : (g : Setting) (ts : List Token) (s : State Shape) → After g ts s → Ends g s
state_ends g ts (Due fs) a = due_ends g fs a.0
state_ends g ts (Read h) a = read_ends g h.condition h.stack h.x a.frames a.top
state_ends g ts (SawIs h i) a = onward g (SawIs h i) (Read (record { stack = h.stack; condition = true; x = Nullness h.x i (zero_token ∷ []) })) zero_token refl (null_ends g h i (zero_token ∷ []) a.frames a.top)
state_ends g ts (SawNot h i n) a = onward g (SawNot h i n) (Read (record { stack = h.stack; condition = true; x = Nullness h.x i (n ∷ zero_token ∷ []) })) zero_token refl (null_ends g h i (n ∷ zero_token ∷ []) a.1.frames a.1.top)
state_ends g ts (Lone fs o b) a = lone_ends g ts fs o b a
state_ends g ts (InRow fs seen slot slots) a = row_ends g fs seen (slot ∷ slots) a.frames a.top a.ready
state_ends g ts (SawMinus fs o) a = minus_ends g fs o a.0.3

run_front : (g : Setting) (s z : State Shape) (ts us : List Token) → run g shapes s (ts ++ us) ≡ Some z → (n : State Shape) × (run g shapes s ts ≡ Some n)
run_front g s z [] us e = (s, refl)
run_front g s z (t ∷ ts) us e =
    let b = bind_some (moved g shapes s t) (λ (n : State Shape). run g shapes n (ts ++ us)) z e in
    let r = run_front g b.0 z ts us b.2 in
    (r.0, ap (λ (o : Option (State Shape)). o >>= λ (n : State Shape). run g shapes n ts) b.1 ∙ r.1)

pub lives : (g : Setting) (ts : List Token) (s : State Shape) → run g shapes (Due []) ts ≡ Some s → Begins g ts
lives g ts s e =
    let r = state_ends g ts s (run_sound g (Due []) s [] ts (tt, refl, tt) e) in
    let q : IsRead g shapes (ts ++ r.more) g.base r.x = record { state = Read r.held; runs = run_more g (Due []) s ts r.more e ∙ r.runs; held = r.held; ends = refl; closes = r.closes } in
    let d = sound g (ts ++ r.more) g.base r.x q in
    record { more = r.more; whole = r.x; is = d.1; spelled = d.2 }

pub begun_by : (g : Setting) (ts : List Token) → Begins g ts → (s : State Shape) × (run g shapes (Due []) ts ≡ Some s)
begun_by g ts b =
    let r = complete g shapes 1 g.base b.whole [] [] b.is (λ u k e. tt) (λ e. e) tt in
    run_front g (Due []) (Read r.held) ts b.more (ap (run g shapes (Due [])) (sym b.spelled ∙ sym (append-nil (tokens_of b.whole))) ∙ r.runs)
