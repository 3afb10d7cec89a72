-- Statements are read by places, and the trees in them by the machine.
use Rattle.std.proofs.Common.{◌≡◌, ℕ, Bool, true, false, cond, List, [], ◌∷◌, ◌++◌, Option, Some, None, refl, sym, ap, subst, ◌∙◌, arith, append_assoc, append-nil}
use Rattle.std.specs.Prelude.{◌&&◌}
use Rattle.statement_tokens.specs.declared.words.Token.{Token}
use Rattle.statement_grammar.specs.declared.frames.Frame.{Frame}
use Rattle.statement_grammar.specs.Grammar.{Shape, Leaf, Prefix, Binary, Range, Nullness, Paren, Signed, RowTest, Setting, IsAt, row_slots, FillSlots, tokens_of}
use Rattle.statement_grammar.specs.Machine.{made, Held, State, Due, Read, ◌>>=◌, close, moved as tree_moved, run, held_at, same_sort, shapes}
use Rattle.statement_grammar.specs.Laws.{IsRead}
use Rattle.statement_grammar.specs.Begins.{Begins}
use Rattle.statement_grammar.specs.Sentence.{Piece, One, Tree, piece_tokens, pieces_tokens, Spot, StatementDue, tree_at, one, may_end, Keys, setting, Follows, IsSentence, BeginsSentence}
use Rattle.statement_grammar.specs.SentenceMachine.{Place, At, In, put_at, put_in, no_frames, is_bare, closed_held, is_whole, behind_tree, entered, stepped, bound, walk, place_ends, IsWalked}
use Rattle.statement_grammar.proofs.SpotLemmas.{terminates, no_tree, EndsTree, ends_tree, finish}
use Rattle.statement_grammar.proofs.Complete.{complete}
use Rattle.statement_grammar.proofs.Sound.{sound}
use Rattle.statement_grammar.proofs.Alive.{lives}
use Rattle.statement_tokens.proofs.ReservedLemmas.{some_is}
use Rattle.statement_grammar.proofs.BasicLemmas.{same_sort_refl, bind_some, both, both_true, run_more}

-- ---- complete

data Reached (end : Spot) (p : Place) : Type 0 where
  AtIt : p ≡ At end → Reached end p
  Behind : (spot : Spot) (base : Bool) → tree_at spot ≡ Some (base, end) → (h : Held Shape) → p ≡ In base end (Read h) → is_whole base (Read h) ≡ true → Reached end p

one_at : (key : Keys) (spot next : Spot) (t : Token) → one spot t.word ≡ Some next → stepped key (At spot) t ≡ Some (At next)
one_at key spot next t e = ap (λ (o : Option (Bool × Spot)). entered key o spot t) (no_tree spot next t.word e) ∙ ap put_at e

one_behind : (key : Keys) (spot next : Spot) (base : Bool) (h : Held Shape) (t : Token) → EndsTree spot → is_whole base (Read h) ≡ true → one spot t.word ≡ Some next → stepped key (In base spot (Read h)) t ≡ Some (At next)
one_behind key spot next base h t ends whole e =
    ap (λ (o : Option (State Shape)). behind_tree base spot (Read h) t.word o) (terminates (setting base key) h t t.word (ends.words t.word next e))
    ∙ ap (λ (b : Bool). cond b (put_at (one spot t.word)) None) whole ∙ ap put_at e

step_on : (key : Keys) (p next : Place) (t : Token) (ts : List Token) → stepped key p t ≡ Some next → walk key p (t ∷ ts) ≡ walk key next ts
step_on key p next t ts e = ap (λ (o : Option Place). bound o (λ n. walk key n ts)) e

inside : (key : Keys) (base : Bool) (next : Spot) (s z : State Shape) (us rest : List Token) → run (setting base key) shapes s us ≡ Some z → walk key (In base next s) (us ++ rest) ≡ walk key (In base next z) rest
inside key base next s z [] rest e = ap (λ (x : State Shape). walk key (In base next x) rest) (some_is s z e)
inside key base next s z (u ∷ us) rest e =
    let b = bind_some (tree_moved (setting base key) shapes s u) (λ (n : State Shape). run (setting base key) shapes n us) z e in
    step_on key (In base next s) (In base next b.0) u (us ++ rest) (ap (λ (o : Option (State Shape)). behind_tree base next s u.word o) b.1)
    ∙ inside key base next b.0 z us rest b.2

into : (key : Keys) (spot : Spot) (base : Bool) (next : Spot) (z : State Shape) (u : Token) (us rest : List Token) → tree_at spot ≡ Some (base, next) → run (setting base key) shapes (Due []) (u ∷ us) ≡ Some z
    → walk key (At spot) ((u ∷ us) ++ rest) ≡ walk key (In base next z) rest
into key spot base next z u us rest d e =
    let b = bind_some (tree_moved (setting base key) shapes (Due []) u) (λ (n : State Shape). run (setting base key) shapes n us) z e in
    step_on key (At spot) (In base next b.0) u (us ++ rest) (ap (λ (o : Option (Bool × Spot)). entered key o spot u) d ∙ ap (put_in base next) b.1)
    ∙ inside key base next b.0 z us rest b.2

pub no_nil : (xs ys : List Token) (t : Token) → xs ++ (t ∷ ys) ≡ [] → ⊥
no_nil [] ys t e = cc
no_nil (x ∷ xs) ys t e = cc

pub tree_some : (g : Setting) (n : ℕ) (c : Bool) (s : Shape) → IsAt g n c s → tokens_of s ≡ [] → ⊥
tree_some g n c (Leaf t) h e = cc
tree_some g n c (Prefix t s) h e = cc
tree_some g n c (Binary l t r) h e = no_nil (tokens_of l) (tokens_of r) t e
tree_some g n c (Range x b l a y) h e = no_nil (tokens_of x) (tokens_of l ++ (a ∷ tokens_of y)) b e
tree_some g n c (Nullness x i ws) h e = no_nil (tokens_of x) ws i e
tree_some g n c (Paren o s p) h e = cc
tree_some g n c (Signed t d) h e = cc
tree_some g n c (RowTest ts) h e = subst (FillSlots g row_slots) e h.2

tree_walks : (key : Keys) (spot : Spot) (base : Bool) (next : Spot) (s : Shape) (rest : List Token) → tree_at spot ≡ Some (base, next) → IsAt (setting base key) 1 base s
    → (h : Held Shape) × (walk key (At spot) (tokens_of s ++ rest) ≡ walk key (In base next (Read h)) rest) × (is_whole base (Read h) ≡ true)
tree_walks key spot base next s rest d i =
    let r = complete (setting base key) shapes 1 base s [] [] i (λ u k e. tt) (λ e. e) tt in
    let c : close shapes 1 r.held.stack r.held.condition r.held.x ≡ Some (record { stack = []; condition = base; x = made shapes s }) = r.closes 1 (omega arith) in
    (r.held, by_tokens (tokens_of s) refl r.held (ap (run (setting base key) shapes (Due [])) (sym (append-nil (tokens_of s))) ∙ r.runs), ap (is_bare base) c ∙ same_sort_refl base)
  where
    by_tokens : (ts : List Token) → tokens_of s ≡ ts → (h : Held Shape) → run (setting base key) shapes (Due []) (tokens_of s) ≡ Some (Read h) → walk key (At spot) (tokens_of s ++ rest) ≡ walk key (In base next (Read h)) rest
    by_tokens [] e h r = absurd (tree_some (setting base key) 1 base s i e)
    by_tokens (u ∷ us) e h r =
        ap (λ (ts : List Token). walk key (At spot) (ts ++ rest)) e
        ∙ into key spot base next (Read h) u us rest d (ap (run (setting base key) shapes (Due [])) (sym e) ∙ r)

not_some : {A : Type 0} (o : Option A) (x : A) → o ≡ None → o ≡ Some x → ⊥
not_some o x e f = cc

follow : (key : Keys) (spot end : Spot) (p : Place) (pieces : List Piece) → Reached spot p → Follows key spot pieces end → (q : Place) × (walk key p (pieces_tokens pieces) ≡ Some q) × Reached end q
follow key spot end p [] r f = (p, refl, subst (λ (s : Spot). Reached s p) f r)
follow key spot end p (One t ∷ pieces) r f = cases (follow key f.0 end (At f.0) pieces (AtIt refl) f.2) r
  where
    cases : (q : Place) × (walk key (At f.0) (pieces_tokens pieces) ≡ Some q) × Reached end q → Reached spot p → (q : Place) × (walk key p (t ∷ pieces_tokens pieces) ≡ Some q) × Reached end q
    cases after (AtIt e) = (after.0, ap (λ (x : Place). walk key x (t ∷ pieces_tokens pieces)) e ∙ step_on key (At spot) (At f.0) t (pieces_tokens pieces) (one_at key spot f.0 t f.1) ∙ after.1, after.2)
    cases after (Behind from base d h e whole) = (after.0, ap (λ (x : Place). walk key x (t ∷ pieces_tokens pieces)) e ∙ step_on key (In base spot (Read h)) (At f.0) t (pieces_tokens pieces) (one_behind key spot f.0 base h t (ends_tree from spot base d) whole f.1) ∙ after.1, after.2)
follow key spot end p (Tree s ∷ pieces) r f = cases (λ h whole. follow key f.1 end (In f.0 f.1 (Read h)) pieces (Behind spot f.0 f.2 h refl whole) f.4) r
  where
    cases : ((h : Held Shape) → is_whole f.0 (Read h) ≡ true → (q : Place) × (walk key (In f.0 f.1 (Read h)) (pieces_tokens pieces) ≡ Some q) × Reached end q) → Reached spot p → (q : Place) × (walk key p (tokens_of s ++ pieces_tokens pieces) ≡ Some q) × Reached end q
    cases goes (AtIt e) =
        let t = tree_walks key spot f.0 f.1 s (pieces_tokens pieces) f.2 f.3 in
        let after = goes t.0 t.2 in
        (after.0, ap (λ (x : Place). walk key x (tokens_of s ++ pieces_tokens pieces)) e ∙ t.1 ∙ after.1, after.2)
    cases goes (Behind from base d h e whole) = absurd (not_some (tree_at spot) (f.0, f.1) ((ends_tree from spot base d).none) f.2)

pub complete_sentence : (key : Keys) (ts : List Token) → IsSentence key ts → IsWalked key ts
complete_sentence key ts h =
    let r = follow key StatementDue h.end (At StatementDue) h.pieces (AtIt refl) h.follows in
    record { place = r.0; walks = ap (walk key (At StatementDue)) (sym h.spelled) ∙ r.1; ends = ended r.0 r.2 }
  where
    ended : (q : Place) → Reached h.end q → place_ends q ≡ true
    ended q (AtIt e) = ap place_ends e ∙ h.ends
    ended q (Behind from base d held e whole) = ap place_ends e ∙ both_true (is_whole base (Read held)) (may_end h.end) whole h.ends

-- ---- sound

follows_on : (key : Keys) (a b c : Spot) (ps qs : List Piece) → Follows key a ps b → Follows key b qs c → Follows key a (ps ++ qs) c
follows_on key a b c [] qs f g = subst (λ (s : Spot). Follows key s qs c) (sym f) g
follows_on key a b c (One t ∷ ps) qs f g = (f.0, f.1, follows_on key f.0 b c ps qs f.2 g)
follows_on key a b c (Tree s ∷ ps) qs f g = (f.0, f.1, f.2, f.3, follows_on key f.1 b c ps qs f.4 g)

tokens_on : (ps qs : List Piece) → pieces_tokens (ps ++ qs) ≡ pieces_tokens ps ++ pieces_tokens qs
tokens_on [] qs = refl
tokens_on (p ∷ ps) qs = ap (λ (ts : List Token). piece_tokens p ++ ts) (tokens_on ps qs) ∙ sym (append_assoc (piece_tokens p) (pieces_tokens ps) (pieces_tokens qs))

record AtSpot (key : Keys) (ts : List Token) (spot : Spot) : Type 0 where
  pieces : List Piece
  follows : Follows key StatementDue pieces spot
  same : pieces_tokens pieces ≡ ts

record InTree (key : Keys) (ts : List Token) (base : Bool) (next : Spot) (s : State Shape) : Type 0 where
  pieces : List Piece
  spot : Spot
  follows : Follows key StatementDue pieces spot
  due : tree_at spot ≡ Some (base, next)
  read : List Token
  runs : run (setting base key) shapes (Due []) read ≡ Some s
  same : pieces_tokens pieces ++ read ≡ ts

abbrev AfterTokens : Keys → List Token → Place → Type 0
AfterTokens key ts (At spot) = AtSpot key ts spot
AfterTokens key ts (In base next s) = InTree key ts base next s

run_one : (g : Setting) (s next : State Shape) (t : Token) → tree_moved g shapes s t ≡ Some next → run g shapes s (t ∷ []) ≡ Some next
run_one g s next t e = ap (λ (o : Option (State Shape)). o >>= λ (n : State Shape). run g shapes n []) e

put_at_some : (o : Option Spot) (q : Place) → put_at o ≡ Some q → (n : Spot) × (o ≡ Some n) × (At n ≡ q)
put_at_some None q e = cc
put_at_some (Some n) q e = (n, refl, some_is (At n) q e)

put_in_some : (base : Bool) (next : Spot) (o : Option (State Shape)) (q : Place) → put_in base next o ≡ Some q → (s : State Shape) × (o ≡ Some s) × (In base next s ≡ q)
put_in_some base next None q e = cc
put_in_some base next (Some s) q e = (s, refl, some_is (In base next s) q e)

-- a whole tree that was read is in the grammar
record TreeRead (g : Setting) (base : Bool) (us : List Token) : Type 0 where
  tree : Shape
  is : IsAt g 1 base tree
  spelled : tokens_of tree ≡ us

sorts : (a b : Bool) → same_sort a b ≡ true → b ≡ a
sorts true true e = refl
sorts true false e = cc
sorts false true e = cc
sorts false false e = refl

whole_tree : (key : Keys) (base : Bool) (us : List Token) (s : State Shape) → run (setting base key) shapes (Due []) us ≡ Some s → is_whole base s ≡ true → TreeRead (setting base key) base us
whole_tree key base us s r e = by_held (held_at shapes s) refl e
  where
    by_close : (h : Held Shape) → held_at shapes s ≡ Some h → (o : Option (Held Shape)) → close shapes 1 h.stack h.condition h.x ≡ o → is_bare base o ≡ true → TreeRead (setting base key) base us
    by_close h a None c e = cc
    by_close h a (Some q) c e = by_stack q.stack refl e
      where
        by_stack : (fs : List (Frame Shape)) → q.stack ≡ fs → (no_frames fs && same_sort base q.condition) ≡ true → TreeRead (setting base key) base us
        by_stack [] f e =
            let t : q.condition ≡ base = sorts base q.condition e in
            let d : IsRead (setting base key) shapes us base q.x = record { state = s; runs = r; held = h; ends = a; closes = c ∙ ap (λ (b : Bool). Some (record { stack = q.stack; condition = b; x = q.x })) t ∙ ap (λ (fs : List (Frame Shape)). Some (record { stack = fs; condition = base; x = q.x })) f } in
            let i = sound (setting base key) us base q.x d in
            record { tree = q.x; is = i.1; spelled = i.2 }
        by_stack (x ∷ fs) f e = cc

    by_held : (o : Option (Held Shape)) → held_at shapes s ≡ o → is_bare base (closed_held o) ≡ true → TreeRead (setting base key) base us
    by_held None a e = cc
    by_held (Some h) a e = by_close h a (close shapes 1 h.stack h.condition h.x) refl e

-- the pieces with the tree
with_tree : (key : Keys) (ts : List Token) (base : Bool) (next : Spot) (s : State Shape) → InTree key ts base next s → is_whole base s ≡ true → AtSpot key ts next
with_tree key ts base next s a e =
    let t = whole_tree key base a.read s a.runs e in record {
      pieces = a.pieces ++ Tree t.tree ∷ [];
      follows = follows_on key StatementDue a.spot next a.pieces (Tree t.tree ∷ []) a.follows (base, next, a.due, t.is, refl);
      same = tokens_on a.pieces (Tree t.tree ∷ []) ∙ ap (λ (us : List Token). pieces_tokens a.pieces ++ us) (append-nil (tokens_of t.tree) ∙ t.spelled) ∙ a.same;
    }

with_one : (key : Keys) (ts : List Token) (spot next : Spot) (t : Token) → AtSpot key ts spot → one spot t.word ≡ Some next → AtSpot key (ts ++ t ∷ []) next
with_one key ts spot next t a e = record {
  pieces = a.pieces ++ One t ∷ [];
  follows = follows_on key StatementDue spot next a.pieces (One t ∷ []) a.follows (next, e, refl);
  same = tokens_on a.pieces (One t ∷ []) ∙ ap (λ (us : List Token). us ++ t ∷ []) a.same;
}

at_sound : (key : Keys) (ts : List Token) (spot : Spot) (t : Token) (q : Place) (o : Option (Bool × Spot)) → tree_at spot ≡ o → AtSpot key ts spot → entered key o spot t ≡ Some q → AfterTokens key (ts ++ t ∷ []) q
at_sound key ts spot t q None d a e = let n = put_at_some (one spot t.word) q e in subst (AfterTokens key (ts ++ t ∷ [])) n.2 (with_one key ts spot n.0 t a n.1)
at_sound key ts spot t q (Some due) d a e =
    let n = put_in_some due.0 due.1 (tree_moved (setting due.0 key) shapes (Due []) t) q e in
    subst (AfterTokens key (ts ++ t ∷ [])) n.2 (record {
      pieces = a.pieces;
      spot = spot;
      follows = a.follows;
      due = d;
      read = t ∷ [];
      runs = run_one (setting due.0 key) (Due []) n.0 t n.1;
      same = ap (λ (us : List Token). us ++ t ∷ []) a.same;
    })

in_sound : (key : Keys) (ts : List Token) (base : Bool) (next : Spot) (s : State Shape) (t : Token) (q : Place) (o : Option (State Shape)) → tree_moved (setting base key) shapes s t ≡ o → InTree key ts base next s → behind_tree base next s t.word o ≡ Some q → AfterTokens key (ts ++ t ∷ []) q
in_sound key ts base next s t q (Some more) d a e =
    subst (AfterTokens key (ts ++ t ∷ [])) (some_is (In base next more) q e) (record {
      pieces = a.pieces;
      spot = a.spot;
      follows = a.follows;
      due = a.due;
      read = a.read ++ t ∷ [];
      runs = run_more (setting base key) (Due []) s a.read (t ∷ []) a.runs ∙ run_one (setting base key) s more t d;
      same = sym (append_assoc (pieces_tokens a.pieces) a.read (t ∷ [])) ∙ ap (λ (us : List Token). us ++ t ∷ []) a.same;
    })
in_sound key ts base next s t q None d a e = by_whole (is_whole base s) refl e
  where
    by_whole : (b : Bool) → is_whole base s ≡ b → cond b (put_at (one next t.word)) None ≡ Some q → AfterTokens key (ts ++ t ∷ []) q
    by_whole true f e = let n = put_at_some (one next t.word) q e in subst (AfterTokens key (ts ++ t ∷ [])) n.2 (with_one key ts next n.0 t (with_tree key ts base next s a f) n.1)
    by_whole false f e = cc

step_sound : (key : Keys) (ts : List Token) (p q : Place) (t : Token) → AfterTokens key ts p → stepped key p t ≡ Some q → AfterTokens key (ts ++ t ∷ []) q
step_sound key ts (At spot) q t a e = at_sound key ts spot t q (tree_at spot) refl a e
step_sound key ts (In base next s) q t a e = in_sound key ts base next s t q (tree_moved (setting base key) shapes s t) refl a e

bound_some : (o : Option Place) (f : Place → Option Place) (y : Place) → bound o f ≡ Some y → (x : Place) × (o ≡ Some x) × (f x ≡ Some y)
bound_some None f y e = cc
bound_some (Some x) f y e = (x, refl, e)

walk_sound : (key : Keys) (ts us : List Token) (p q : Place) → AfterTokens key ts p → walk key p us ≡ Some q → AfterTokens key (ts ++ us) q
walk_sound key ts [] p q a e = subst (λ (r : List Token). AfterTokens key r q) (sym (append-nil ts)) (subst (AfterTokens key ts) (some_is p q e) a)
walk_sound key ts (t ∷ us) p q a e =
    let b = bound_some (stepped key p t) (λ n. walk key n us) q e in
    subst (λ (r : List Token). AfterTokens key r q) (append_assoc ts (t ∷ []) us) (walk_sound key (ts ++ t ∷ []) us b.0 q (step_sound key ts p b.0 t a b.1) b.2)

abbrev start : (key : Keys) → AfterTokens key [] (At StatementDue)
start key = record { pieces = []; follows = refl; same = refl }

sentence : (key : Keys) (ts : List Token) (spot : Spot) → AtSpot key ts spot → may_end spot ≡ true → IsSentence key ts
sentence key ts spot a e = record { pieces = a.pieces; end = spot; follows = a.follows; ends = e; spelled = a.same }

pub sound_sentence : (key : Keys) (ts : List Token) → IsWalked key ts → IsSentence key ts
sound_sentence key ts h = cases h.place (walk_sound key [] ts (At StatementDue) h.place (start key) h.walks) h.ends
  where
    cases : (p : Place) → AfterTokens key ts p → place_ends p ≡ true → IsSentence key ts
    cases (At spot) a e = sentence key ts spot a e
    cases (In base next s) a e = let b = both (is_whole base s) (may_end next) e in sentence key ts next (with_tree key ts base next s a b.0) b.1

-- ---- begins

led : (key : Keys) (ts : List Token) (spot : Spot) → AtSpot key ts spot → BeginsSentence key ts
led key ts spot a =
    let f = finish key spot in record {
      more = pieces_tokens f.pieces;
      whole = record { pieces = a.pieces ++ f.pieces; end = f.end; follows = follows_on key StatementDue spot f.end a.pieces f.pieces a.follows f.follows; ends = f.ends; spelled = tokens_on a.pieces f.pieces ∙ ap (λ (us : List Token). us ++ pieces_tokens f.pieces) a.same };
    }

led_tree : (key : Keys) (ts : List Token) (base : Bool) (next : Spot) (s : State Shape) → InTree key ts base next s → BeginsSentence key ts
led_tree key ts base next s a =
    let b : Begins (setting base key) a.read = lives (setting base key) a.read s a.runs in
    let f = finish key next in
    let tail : List Piece = Tree b.whole ∷ f.pieces in record {
      more = b.more ++ pieces_tokens f.pieces;
      whole = record {
        pieces = a.pieces ++ Tree b.whole ∷ f.pieces;
        end = f.end;
        follows = follows_on key StatementDue a.spot f.end a.pieces (Tree b.whole ∷ f.pieces) a.follows (base, next, a.due, b.is, f.follows);
        ends = f.ends;
        spelled = tokens_on a.pieces (Tree b.whole ∷ f.pieces)
            ∙ ap (λ (us : List Token). pieces_tokens a.pieces ++ (us ++ pieces_tokens f.pieces)) b.spelled
            ∙ ap (λ (us : List Token). pieces_tokens a.pieces ++ us) (append_assoc a.read b.more (pieces_tokens f.pieces))
            ∙ sym (append_assoc (pieces_tokens a.pieces) a.read (b.more ++ pieces_tokens f.pieces))
            ∙ ap (λ (us : List Token). us ++ (b.more ++ pieces_tokens f.pieces)) a.same;
      };
    }

pub live_sentence : (key : Keys) (ts : List Token) (place : Place) → walk key (At StatementDue) ts ≡ Some place → BeginsSentence key ts
live_sentence key ts p e = cases p (walk_sound key [] ts (At StatementDue) p (start key) e)
  where
    cases : (p : Place) → AfterTokens key ts p → BeginsSentence key ts
    cases (At spot) a = led key ts spot a
    cases (In base next s) a = led_tree key ts base next s a

walk_front : (key : Keys) (p z : Place) (ts us : List Token) → walk key p (ts ++ us) ≡ Some z → (n : Place) × (walk key p ts ≡ Some n)
walk_front key p z [] us e = (p, refl)
walk_front key p z (t ∷ ts) us e =
    let b = bound_some (stepped key p t) (λ n. walk key n (ts ++ us)) z e in
    let r = walk_front key b.0 z ts us b.2 in
    (r.0, ap (λ (o : Option Place). bound o (λ n. walk key n ts)) b.1 ∙ r.1)

pub begun_sentence : (key : Keys) (ts : List Token) → BeginsSentence key ts → (place : Place) × (walk key (At StatementDue) ts ≡ Some place)
begun_sentence key ts b = let w = complete_sentence key (ts ++ b.more) b.whole in walk_front key (At StatementDue) w.place ts b.more w.walks
