-- A list of tokens is read in one way.
use Rattle.std.proofs.Common.{◌≡◌, ℕ, zero, suc, ◌≤◌, Bool, true, List, [], ◌∷◌, ◌++◌, Option, Some, None, refl, sym, ap, subst, ◌∙◌, inl, inr, arith, append_assoc, append-nil}
use Rattle.std.specs.Prelude.{⊤, take, drop, length}
use Rattle.row_types.specs.declared.table_schema.Schema.{Schema}
use Rattle.statement_tokens.specs.declared.words.Token.{Token}
use Rattle.statement_tokens.specs.declared.text_ends.TextEnd.{TextEnd}
use Rattle.statement_grammar.specs.declared.text_faults.TextFault.{TextFault}
use Rattle.statement_grammar.specs.Grammar.{Shape, Leaf, Prefix, Binary, Range, Nullness, Paren, Signed, RowTest, Setting, IsAt, tokens_of}
use Rattle.statement_grammar.specs.Machine.{Held, State, Due, Read, shapes, made, run, held_at, close, ◌>>=◌}
use Rattle.statement_grammar.specs.Cut.{Part, cut, len}
use Rattle.statement_grammar.specs.Sentence.{Piece, One, Tree, pieces_tokens, Spot, StatementDue, tree_at, one, Keys, setting, Follows, IsSentence, BeginsSentence}
use Rattle.statement_grammar.specs.Draft.{Draft, with_token, with_tree, spot_or, tree_next, nothing_known, statement_of}
use Rattle.statement_grammar.specs.Faults.{deep_in, part_faults, tree_faults, token_faults, faults_from}
use Rattle.statement_grammar.specs.declared.text_faults.TextFault.TheVariants.{At}
use Rattle.statement_grammar.specs.FirstFault.{IsOpen, open_tokens, StopsAt, IsWhole, first_of, next_place}
use Rattle.statement_grammar.specs.Unique.{OneStatement, OneFirstFault, NeverBoth}
use Rattle.statement_grammar.proofs.Complete.{complete}
use Rattle.statement_grammar.proofs.OneCutLemmas.{one_cut, one_depth, take_drop}
use Rattle.statement_grammar.proofs.SpotLemmas.{terminates, is_terminator, no_tree, EndsTree, ends_tree}
use Rattle.statement_grammar.proofs.SentenceLemmas.{tree_some}
use Rattle.statement_tokens.proofs.ReservedLemmas.{some_is}
use Rattle.statement_tokens.proofs.OneListLemmas.{none_some}

-- ---- one tree

made_shapes : (s : Shape) → made shapes s ≡ s
made_shapes (Leaf t) = refl
made_shapes (Prefix t s) = ap (Prefix t) (made_shapes s)
made_shapes (Binary l t r) = ap (λ (x : Shape). Binary x t (made shapes r)) (made_shapes l) ∙ ap (Binary l t) (made_shapes r)
made_shapes (Range x b l a h) =
    ap (λ (y : Shape). Range y b (made shapes l) a (made shapes h)) (made_shapes x) ∙ ap (λ (y : Shape). Range x b y a (made shapes h)) (made_shapes l)
    ∙ ap (Range x b l a) (made_shapes h)
made_shapes (Nullness x i ws) = ap (λ (y : Shape). Nullness y i ws) (made_shapes x)
made_shapes (Paren o s p) = ap (λ (y : Shape). Paren o y p) (made_shapes s)
made_shapes (Signed t d) = refl
made_shapes (RowTest ts) = refl

-- what stands behind a whole tree
read_end : (g : Setting) (s : Shape) → IsAt g 1 g.base s → (held : Held Shape) × (run g shapes (Due []) (tokens_of s) ≡ Some (Read held)) × (close shapes 1 held.stack held.condition held.x ≡ Some (record { stack = []; condition = g.base; x = s }))
read_end g s h =
    let r = complete g shapes 1 g.base s [] [] h (λ u k e. tt) (λ e. e) tt in
    (r.held, ap (run g shapes (Due [])) (sym (append-nil (tokens_of s))) ∙ r.runs, r.closes 1 (omega arith) ∙ ap (λ (x : Shape). Some (record { stack = []; condition = g.base; x = x })) (made_shapes s))

abbrev held_tree : Shape → Option (Held Shape) → Shape
held_tree s None = s
held_tree s (Some h) = h.x

pub one_tree : (g : Setting) (s x : Shape) → IsAt g 1 g.base s → IsAt g 1 g.base x → tokens_of s ≡ tokens_of x → s ≡ x
one_tree g s x h i e =
    let a = read_end g s h in
    let b = read_end g x i in
    let same : Some (Read a.0) ≡ Some (Read b.0) = sym a.1 ∙ ap (run g shapes (Due [])) e ∙ b.1 in
    let held : Some a.0 ≡ Some b.0 = ap (held_at shapes) (some_is (Read a.0) (Read b.0) same) in
    let k : a.0 ≡ b.0 = some_is a.0 b.0 held in
    let c : Some (record { stack = []; condition = g.base; x = s }) ≡ Some (record { stack = []; condition = g.base; x = x }) = sym a.2 ∙ ap (λ (y : Held Shape). close shapes 1 y.stack y.condition y.x) k ∙ b.2 in
    ap (held_tree s) c

-- a tree doesn't go on with what ends another
pub tree_stops : (g : Setting) (s x : Shape) (u : Token) (us : List Token) → IsAt g 1 g.base s → IsAt g 1 g.base x → tokens_of x ≡ tokens_of s ++ (u ∷ us) → is_terminator u.word ≡ true → ⊥
tree_stops g s x u us h i e t =
    let a = complete g shapes 1 g.base s [] (u ∷ us) h (λ u k e. tt) (λ e. e) tt in
    let b = read_end g x i in
    none_some (Read b.0)
    (sym (ap (λ (o : Option (State Shape)). o >>= λ (n : State Shape). run g shapes n us) (terminates g a.held u u.word t))
    ∙ sym a.runs ∙ ap (run g shapes (Due [])) (sym e) ∙ b.1)

-- ---- fronts

data Compared (xs ys a b : List Token) : Type 0 where
  Same : xs ≡ ys → a ≡ b → Compared xs ys a b
  Longer : (u : Token) (us : List Token) → xs ≡ ys ++ (u ∷ us) → b ≡ u ∷ (us ++ a) → Compared xs ys a b
  Shorter : (u : Token) (us : List Token) → ys ≡ xs ++ (u ∷ us) → a ≡ u ∷ (us ++ b) → Compared xs ys a b

head_is : (x y : Token) (xs ys : List Token) → (x ∷ xs) ≡ (y ∷ ys) → x ≡ y
head_is x y xs ys e = cc

tail_is : (x y : Token) (xs ys : List Token) → (x ∷ xs) ≡ (y ∷ ys) → xs ≡ ys
tail_is x y xs ys e = cc

compared : (xs ys a b : List Token) → xs ++ a ≡ ys ++ b → Compared xs ys a b
compared [] [] a b e = Same refl e
compared [] (y ∷ ys) a b e = Shorter y ys refl e
compared (x ∷ xs) [] a b e = Longer x xs refl (sym e)
compared (x ∷ xs) (y ∷ ys) a b e = on (compared xs ys a b (tail_is x y (xs ++ a) (ys ++ b) e))
  where
    h : x ≡ y
    h = head_is x y (xs ++ a) (ys ++ b) e

    on : Compared xs ys a b → Compared (x ∷ xs) (y ∷ ys) a b
    on (Same p q) = Same (ap (λ (l : List Token). x ∷ l) p ∙ ap (λ (t : Token). t ∷ ys) h) q
    on (Longer u us p q) = Longer u us (ap (λ (l : List Token). x ∷ l) p ∙ ap (λ (t : Token). t ∷ (ys ++ (u ∷ us))) h) q
    on (Shorter u us p q) = Shorter u us (ap (λ (l : List Token). y ∷ l) p ∙ ap (λ (t : Token). t ∷ (xs ++ (u ∷ us))) (sym h)) q

-- nothing, or a token that ends a tree
abbrev EndsWith : List Token → Type 0
EndsWith [] = ⊤
EndsWith (t ∷ ts) = is_terminator t.word ≡ true

two_trees : (g : Setting) (s x : Shape) (a b : List Token) → IsAt g 1 g.base s → IsAt g 1 g.base x → EndsWith a → EndsWith b → tokens_of s ++ a ≡ tokens_of x ++ b → (s ≡ x) × (a ≡ b)
two_trees g s x a b h i p q e = by_place (compared (tokens_of s) (tokens_of x) a b e)
  where
    by_place : Compared (tokens_of s) (tokens_of x) a b → (s ≡ x) × (a ≡ b)
    by_place (Same c d) = (one_tree g s x h i c, d)
    by_place (Longer u us c d) = absurd (tree_stops g x s u us i h c (subst EndsWith d q))
    by_place (Shorter u us c d) = absurd (tree_stops g s x u us h i c (subst EndsWith d p))

length_take : (n : ℕ) (xs : List Token) → n ≤ length xs → length (take n xs) ≡ n
length_take zero xs h = refl
length_take (suc n) [] h = absurd (omega arith)
length_take (suc n) (x ∷ xs) h = let i = length_take n xs (omega arith) in omega arith

-- the faults of two trees of which the same tokens are read
pub same_faults : (g : Setting) (s x : Shape) (n m : ℕ) (schema : Option Schema) (spot : Spot) (draft : Draft) → IsAt g 1 g.base s → IsAt g 1 g.base x → n ≤ len s → m ≤ len x → take n (tokens_of s) ≡ take m (tokens_of x)
    → tree_faults schema spot draft s n ≡ tree_faults schema spot draft x m
same_faults g s x n m schema spot draft h i l k e =
    let a = length_take n (tokens_of s) l in
    let b = length_take m (tokens_of x) k in
    let c : length (take n (tokens_of s)) ≡ length (take m (tokens_of x)) = ap length e in
    let d : m ≡ n = omega arith in
    let f : take n (tokens_of s) ≡ take n (tokens_of x) = e ∙ ap (λ (j : ℕ). take j (tokens_of x)) d in
    ap (λ (p : Part). part_faults schema spot draft p (deep_in s n)) (one_cut g s x n h i l (omega arith) f ∙ ap (λ (j : ℕ). cut true j x) (sym d))
    ∙ ap (part_faults schema spot draft (cut true m x)) (one_depth g s x n m h i e)

-- ---- pieces

-- the pieces have the same faults, and where no tree is open they are the same
pub record SameRead (schemas : List Schema) (spot : Spot) (ps qs : List Piece) (p q : Option (Shape × ℕ)) : Type 0 where
  pub faults : (draft : Draft) → faults_from schemas spot draft ps p ≡ faults_from schemas spot draft qs q
  pub pieces : p ≡ None → q ≡ None → ps ≡ qs

flipped : (schemas : List Schema) (spot : Spot) (ps qs : List Piece) (p q : Option (Shape × ℕ)) → SameRead schemas spot ps qs p q → SameRead schemas spot qs ps q p
flipped schemas spot ps qs p q r = record { faults = λ draft. sym (r.faults draft); pieces = λ a b. sym (r.pieces b a) }

not_none : (tree : Shape × ℕ) → Some tree ≡ None → ⊥
not_none tree e = cc

open_some : (key : Keys) (spot : Spot) (tree : Shape × ℕ) → IsOpen key spot (Some tree) → take tree.1 (tokens_of tree.0) ≡ [] → ⊥
open_some key spot tree o e =
    let a = length_take tree.1 (tokens_of tree.0) o.1 in
    let b : length (take tree.1 (tokens_of tree.0)) ≡ 0 = ap length e in
    let c = o.0 in omega arith

due_is : (a b : Bool × Spot) → Some a ≡ Some b → a ≡ b
due_is a b e = some_is a b e

none_is : (o : Option (Bool × Spot)) (a : Bool × Spot) → o ≡ None → o ≡ Some a → ⊥
none_is o a e f = cc

left_nil : (xs ys : List Token) → xs ++ ys ≡ [] → xs ≡ []
left_nil [] ys e = refl
left_nil (x ∷ xs) ys e = cc

-- nothing is left, so there are no more pieces
nothing_left : (key : Keys) (spot end : Spot) (qs : List Piece) (q : Option (Shape × ℕ)) → Follows key spot qs end → IsOpen key end q → pieces_tokens qs ++ open_tokens q ≡ [] → (qs ≡ []) × (q ≡ None)
nothing_left key spot end [] None f o e = (refl, refl)
nothing_left key spot end [] (Some tree) f o e = absurd (open_some key end tree o e)
nothing_left key spot end (One t ∷ qs) q f o e = cc
nothing_left key spot end (Tree s ∷ qs) q f o e =
    absurd (tree_some (setting f.0 key) 1 f.0 s f.3 (left_nil (tokens_of s) (pieces_tokens qs) (left_nil (tokens_of s ++ pieces_tokens qs) (open_tokens q) e)))

-- what stands behind a tree ends it
ends_with : (key : Keys) (spot end : Spot) (qs : List Piece) (q : Option (Shape × ℕ)) → EndsTree spot → Follows key spot qs end → IsOpen key end q → EndsWith (pieces_tokens qs ++ open_tokens q)
ends_with key spot end [] None x f o = tt
ends_with key spot end [] (Some tree) x f o = absurd (none_is (tree_at end) (o.2.0, o.2.1) (ap tree_at (sym f) ∙ x.none) o.2.2)
ends_with key spot end (One t ∷ qs) q x f o = x.words t.word f.0 f.1
ends_with key spot end (Tree s ∷ qs) q x f o = absurd (none_is (tree_at spot) (f.0, f.1) x.none f.2)

-- an open tree, or none, against other pieces
record TreeDue (key : Keys) (spot : Spot) (s : Shape) : Type 0 where
  base : Bool
  next : Spot
  due : tree_at spot ≡ Some (base, next)
  is : IsAt (setting base key) 1 base s

same_due : (key : Keys) (spot : Spot) (s x : Shape) → (a : TreeDue key spot s) → (b : TreeDue key spot x) → IsAt (setting a.base key) 1 a.base x
same_due key spot s x a b =
    let e : (b.base, b.next) ≡ (a.base, a.next) = due_is (b.base, b.next) (a.base, a.next) (sym b.due ∙ a.due) in
    subst (λ (c : Bool). IsAt (setting c key) 1 c x) (ap (λ (p : Bool × Spot). p.0) e) b.is

take_len : (xs : List Token) → take (length xs) xs ≡ xs
take_len [] = refl
take_len (x ∷ xs) = ap (λ (l : List Token). x ∷ l) (take_len xs)

none_open : (schemas : List Schema) (key : Keys) (spot end : Spot) (qs : List Piece) (p q : Option (Shape × ℕ)) → IsOpen key spot p → Follows key spot qs end → IsOpen key end q → open_tokens p ≡ pieces_tokens qs ++ open_tokens q
    → SameRead schemas spot [] qs p q
none_open schemas key spot end qs None q o f u e = by_nothing (nothing_left key spot end qs q f u (sym e))
  where
    by_nothing : (qs ≡ []) × (q ≡ None) → SameRead schemas spot [] qs None q
    by_nothing n = subst (λ (r : Option (Shape × ℕ)). SameRead schemas spot [] qs None r) (sym n.1) (subst (λ (rs : List Piece). SameRead schemas spot [] rs None None) (sym n.0) (record { faults = λ draft. refl; pieces = λ a b. refl }))
none_open schemas key spot end [] (Some tree) None o f u e = absurd (open_some key spot tree o e)
none_open schemas key spot end [] (Some tree) (Some other) o f u e = record {
  faults = λ draft. same_faults (setting a.base key) tree.0 other.0 tree.1 other.1 draft.schema spot draft a.is (same_due key spot tree.0 other.0 a b) o.1 u.1 e;
  pieces = λ p q. refl;
}
  where
    a : TreeDue key spot tree.0
    a = record { base = o.2.0; next = o.2.1; due = o.2.2; is = o.2.3 }

    b : TreeDue key spot other.0
    b = record { base = u.2.0; next = u.2.1; due = ap tree_at f ∙ u.2.2; is = u.2.3 }
none_open schemas key spot end (One t ∷ qs) (Some tree) q o f u e = absurd (none_is (tree_at spot) (o.2.0, o.2.1) (no_tree spot f.0 t.word f.1) o.2.2)
none_open schemas key spot end (Tree s ∷ qs) (Some tree) q o f u e = by_rest (pieces_tokens qs ++ open_tokens q) refl
  where
    a : TreeDue key spot tree.0
    a = record { base = o.2.0; next = o.2.1; due = o.2.2; is = o.2.3 }

    b : TreeDue key spot s
    b = record { base = f.0; next = f.1; due = f.2; is = f.3 }

    joined : open_tokens (Some tree) ≡ tokens_of s ++ (pieces_tokens qs ++ open_tokens q)
    joined = e ∙ append_assoc (tokens_of s) (pieces_tokens qs) (open_tokens q)

    by_rest : (rest : List Token) → pieces_tokens qs ++ open_tokens q ≡ rest → SameRead schemas spot [] (Tree s ∷ qs) (Some tree) q
    by_rest [] r = by_nothing (nothing_left key f.1 end qs q f.4 u r)
      where
        fronts : take tree.1 (tokens_of tree.0) ≡ take (len s) (tokens_of s)
        fronts = joined ∙ ap (λ (l : List Token). tokens_of s ++ l) r ∙ append-nil (tokens_of s) ∙ sym (take_len (tokens_of s))

        by_nothing : (qs ≡ []) × (q ≡ None) → SameRead schemas spot [] (Tree s ∷ qs) (Some tree) q
        by_nothing n = subst (λ (r : Option (Shape × ℕ)). SameRead schemas spot [] (Tree s ∷ qs) (Some tree) r) (sym n.1) (subst (λ (rs : List Piece). SameRead schemas spot [] (Tree s ∷ rs) (Some tree) None) (sym n.0) (record {
          faults = λ draft. same_faults (setting a.base key) tree.0 s tree.1 (len s) draft.schema spot draft a.is (same_due key spot tree.0 s a b) o.1 (omega arith) fronts ∙ sym (append-nil (tree_faults draft.schema spot draft s (len s)));
          pieces = λ p x. absurd (not_none tree p);
        }))
    by_rest (t ∷ ts) r =
        let ends : EndsWith (t ∷ ts) = subst EndsWith r (ends_with key f.1 end qs q (ends_tree spot f.1 f.0 f.2) f.4 u) in
        absurd (tree_stops (setting a.base key) s tree.0 t (ts ++ drop tree.1 (tokens_of tree.0)) (same_due key spot tree.0 s a b) a.is
        (take_drop tree.1 (tokens_of tree.0) ∙ ap (λ (l : List Token). l ++ drop tree.1 (tokens_of tree.0)) (joined ∙ ap (λ (l : List Token). tokens_of s ++ l) r) ∙ append_assoc (tokens_of s) (t ∷ ts) (drop tree.1 (tokens_of tree.0))) ends)

pub same_read : (schemas : List Schema) (key : Keys) (spot end stop : Spot) (ps qs : List Piece) (p q : Option (Shape × ℕ)) → Follows key spot ps end → IsOpen key end p → Follows key spot qs stop → IsOpen key stop q
    → pieces_tokens ps ++ open_tokens p ≡ pieces_tokens qs ++ open_tokens q → SameRead schemas spot ps qs p q
same_read schemas key spot end stop [] qs p q f o h u e = none_open schemas key spot stop qs p q (subst (λ (x : Spot). IsOpen key x p) (sym f) o) h u e
same_read schemas key spot end stop (One t ∷ ps) [] p q f o h u e = flipped schemas spot [] (One t ∷ ps) q p (none_open schemas key spot end (One t ∷ ps) q p (subst (λ (x : Spot). IsOpen key x q) (sym h) u) f o (sym e))
same_read schemas key spot end stop (Tree s ∷ ps) [] p q f o h u e = flipped schemas spot [] (Tree s ∷ ps) q p (none_open schemas key spot end (Tree s ∷ ps) q p (subst (λ (x : Spot). IsOpen key x q) (sym h) u) f o (sym e))
same_read schemas key spot end stop (One t ∷ ps) (Tree x ∷ qs) p q f o h u e = absurd (none_is (tree_at spot) (h.0, h.1) (no_tree spot f.0 t.word f.1) h.2)
same_read schemas key spot end stop (Tree s ∷ ps) (One t ∷ qs) p q f o h u e = absurd (none_is (tree_at spot) (f.0, f.1) (no_tree spot h.0 t.word h.1) f.2)
same_read schemas key spot end stop (One t ∷ ps) (One v ∷ qs) p q f o h u e =
    let x : t ≡ v = head_is t v (pieces_tokens ps ++ open_tokens p) (pieces_tokens qs ++ open_tokens q) e in
    let y = tail_is t v (pieces_tokens ps ++ open_tokens p) (pieces_tokens qs ++ open_tokens q) e in
    let n : h.0 ≡ f.0 = spot_is h.0 f.0 (sym h.1 ∙ ap (λ (w : Token). one spot w.word) (sym x) ∙ f.1) in
    let i = same_read schemas key f.0 end stop ps qs p q f.2 o (subst (λ (z : Spot). Follows key z qs stop) n h.2) u y in
    subst (λ (w : Token). SameRead schemas spot (One t ∷ ps) (One w ∷ qs) p q) x (record {
      faults = λ draft. ap (λ (l : List TextFault). token_faults schemas spot draft t.word t.place ++ l)
          (ap (λ (z : Option Spot). faults_from schemas (spot_or spot z) (with_token schemas spot draft t.word t.place) ps p) f.1
          ∙ i.faults (with_token schemas spot draft t.word t.place)
          ∙ ap (λ (z : Option Spot). faults_from schemas (spot_or spot z) (with_token schemas spot draft t.word t.place) qs q) (sym f.1));
      pieces = λ a b. ap (λ (l : List Piece). One t ∷ l) (i.pieces a b);
    })
  where
    spot_is : (a b : Spot) → Some a ≡ Some b → a ≡ b
    spot_is a b e = some_is a b e
same_read schemas key spot end stop (Tree s ∷ ps) (Tree x ∷ qs) p q f o h u e =
    let a : TreeDue key spot s = record { base = f.0; next = f.1; due = f.2; is = f.3 } in
    let b : TreeDue key spot x = record { base = h.0; next = h.1; due = h.2; is = h.3 } in
    let d : (h.0, h.1) ≡ (f.0, f.1) = due_is (h.0, h.1) (f.0, f.1) (sym h.2 ∙ f.2) in
    let n : h.1 ≡ f.1 = ap (λ (z : Bool × Spot). z.1) d in
    let rest : Follows key f.1 qs stop = subst (λ (z : Spot). Follows key z qs stop) n h.4 in
    let two = two_trees (setting f.0 key) s x (pieces_tokens ps ++ open_tokens p) (pieces_tokens qs ++ open_tokens q) f.3 (same_due key spot s x a b)
    (ends_with key f.1 end ps p (ends_tree spot f.1 f.0 f.2) f.4 o) (ends_with key f.1 stop qs q (ends_tree spot f.1 f.0 f.2) rest u)
    (sym (append_assoc (tokens_of s) (pieces_tokens ps) (open_tokens p)) ∙ e ∙ append_assoc (tokens_of x) (pieces_tokens qs) (open_tokens q)) in
    let i = same_read schemas key f.1 end stop ps qs p q f.4 o rest u two.1 in
    subst (λ (y : Shape). SameRead schemas spot (Tree s ∷ ps) (Tree y ∷ qs) p q) two.0 (record {
      faults = λ draft. ap (λ (l : List TextFault). tree_faults draft.schema spot draft s (len s) ++ l)
          (ap (λ (z : Option (Bool × Spot)). faults_from schemas (tree_next spot z) (with_tree draft.schema spot draft s) ps p) f.2
          ∙ i.faults (with_tree draft.schema spot draft s)
          ∙ ap (λ (z : Option (Bool × Spot)). faults_from schemas (tree_next spot z) (with_tree draft.schema spot draft s) qs q) (sym f.2));
      pieces = λ a b. ap (λ (l : List Piece). Tree s ∷ l) (i.pieces a b);
    })

-- ---- texts

whole_read : (schemas : List Schema) (key : Keys) (ts : List Token) (a b : IsSentence key ts) → SameRead schemas StatementDue a.pieces b.pieces None None
whole_read schemas key ts a b =
    same_read schemas key StatementDue a.end b.end a.pieces b.pieces None None a.follows tt b.follows tt
    (append-nil (pieces_tokens a.pieces) ∙ a.spelled ∙ sym b.spelled ∙ sym (append-nil (pieces_tokens b.pieces)))

pub one_statement : OneStatement
one_statement key schemas ts end statement other a b =
    a.is ∙ ap (statement_of schemas) ((whole_read schemas key ts a.whole b.whole).pieces refl refl) ∙ sym b.is

begins_front : (key : Keys) (ts us : List Token) → BeginsSentence key (ts ++ us) → BeginsSentence key ts
begins_front key ts us b = record { more = us ++ b.more; whole = subst (IsSentence key) (append_assoc ts us b.more) b.whole }

-- a statement's text doesn't break off
no_break : (key : Keys) (ts : List Token) (end : TextEnd) (front left : List Token) → IsWhole end → IsSentence key ts → StopsAt key ts end front left → ⊥
no_break key ts end front [] w h s = s.not_whole refl w (subst (IsSentence key) (s.are ∙ append-nil front) h)
no_break key ts end front (t ∷ rest) w h s =
    s.not_next t rest refl (record { more = rest; whole = subst (IsSentence key) (s.are ∙ sym (append_assoc front (t ∷ []) rest)) h })

some_none : (f : TextFault) → None ≡ Some f → ⊥
some_none f e = cc

pub never_both : NeverBoth
never_both key schemas ts end statement fault a (inl b) = no_break key ts end b.front b.left a.all a.whole b.stops
never_both key schemas ts end statement fault a (inr b) =
    some_none fault (ap first_of (sym a.right ∙ (whole_read schemas key ts a.whole b.whole).faults nothing_known) ∙ b.first)

-- no text goes on with a token with which it begins no statement
no_longer : (key : Keys) (ts : List Token) (end : TextEnd) (front left : List Token) (u : Token) (us more : List Token) → StopsAt key ts end front left → BeginsSentence key (front ++ (u ∷ us)) → left ≡ u ∷ more → ⊥
no_longer key ts end front left u us more s b e =
    s.not_next u more e (begins_front key (front ++ u ∷ []) us (subst (BeginsSentence key) (sym (append_assoc front (u ∷ []) us)) b))

one_stop : (key : Keys) (ts : List Token) (end : TextEnd) (front left other rest : List Token) → StopsAt key ts end front left → StopsAt key ts end other rest → (front ≡ other) × (left ≡ rest)
one_stop key ts end front left other rest s x = by_place (compared front other left rest (sym s.are ∙ x.are))
  where
    by_place : Compared front other left rest → (front ≡ other) × (left ≡ rest)
    by_place (Same a b) = (a, b)
    by_place (Longer u us a b) = absurd (no_longer key ts end other rest u us (us ++ left) x (subst (BeginsSentence key) a s.begins) b)
    by_place (Shorter u us a b) = absurd (no_longer key ts end front left u us (us ++ rest) s (subst (BeginsSentence key) a x.begins) b)

fault_is : (f h : TextFault) → Some f ≡ Some h → f ≡ h
fault_is f h e = some_is f h e

pub one_first_fault : OneFirstFault
one_first_fault key schemas ts end fault other (inl a) (inl b) =
    let e = one_stop key ts end a.front a.left b.front b.left a.stops b.stops in
    let r = same_read schemas key StatementDue a.so_far.spot b.so_far.spot a.pieces b.pieces a.tree b.tree a.so_far.follows a.so_far.open_tree b.so_far.follows b.so_far.open_tree (a.so_far.spelled ∙ e.0 ∙ sym b.so_far.spelled) in
    let f = r.faults nothing_known in
    fault_is fault other
    (sym a.first ∙ ap (λ (l : List Token). first_of (At (next_place end l) ∷ faults_from schemas StatementDue nothing_known a.pieces a.tree)) e.1
    ∙ ap (λ (fs : List TextFault). first_of (At (next_place end b.left) ∷ fs)) f ∙ b.first)
one_first_fault key schemas ts end fault other (inl a) (inr b) = absurd (no_break key ts end a.front a.left b.all b.whole a.stops)
one_first_fault key schemas ts end fault other (inr a) (inl b) = absurd (no_break key ts end b.front b.left a.all a.whole b.stops)
one_first_fault key schemas ts end fault other (inr a) (inr b) =
    fault_is fault other (sym a.first ∙ ap first_of ((whole_read schemas key ts a.whole b.whole).faults nothing_known) ∙ b.first)
