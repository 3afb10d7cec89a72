-- A tree is read token by token, and ended.
use Rattle.std.proofs.Common.{◌≡◌, ℕ, suc, ◌+◌, ◌≤◌, ◌<◌, min, Bool, true, false, List, [], ◌∷◌, ◌++◌, Option, Some, None, refl, sym, ap, subst, ◌∙◌, arith, append_assoc, append-nil, nat_lt, inl, inr}
use Rattle.std.specs.Prelude.{◌↔◌, IsTrue, take, drop, length, if◌then◌else◌}
use Rattle.std.specs.Option.{option_or, option_map}
use Rattle.std.proofs.lemmas.Bool.Decides.{nat_tests}
use Rattle.row_types.specs.declared.table_schema.Schema.{Schema}
use Rattle.statement_tokens.specs.declared.words.Token.{Token}
use Rattle.statement_grammar.specs.declared.frames.Frame.{Frame}
use Rattle.statement_grammar.specs.declared.frames.Frame.TheVariants.{Before, Behind, Low, High, Opened}
use Rattle.statement_grammar.specs.Grammar.{Shape, Setting, IsAt, tokens_of}
use Rattle.statement_grammar.specs.Machine as m
use Rattle.statement_grammar.specs.Machine.{◌>>=◌, made, shapes, run, close, strength, frame_wants, frame_gives, filled, same_sort, held_at, moved}
use Rattle.statement_grammar.specs.Laws.{IsRead}
use Rattle.statement_grammar.specs.Begins.{Begins}
use Rattle.statement_grammar.specs.Cut.{Part, parts, len, cut, height}
use Rattle.statement_grammar.specs.SoFar.{so_far, so_far_before}
use Rattle.statement_grammar.specs.Kinds.{places, when_true}
use Rattle.statement_grammar.specs.Faults.{deep_from, deep_in, is_last}
use Rattle.statement_grammar.proofs.Sound.{sound}
use Rattle.statement_grammar.proofs.Complete.{complete}
use Rattle.statement_grammar.proofs.Alive.{begun_by}
use Rattle.statement_grammar.proofs.CutLemmas.{Next, cuts, length_on}
use Rattle.statement_reader.specs.Facts.{facts_of}
use Rattle.statement_reader.specs.declared.facts.Facts.{Facts}
use Rattle.statement_operands.specs.Operands.{operands}
use Rattle.statement_operands.specs.declared.operands.Operand.{Operand}
use Rattle.statement_stacks.specs.Plugs.{plug, plugged}
use Rattle.statement_states.specs.States.{state_of, facts_so_far, height_before, closed_state, AreAlike}
use Rattle.statement_states.specs.Steps.{IsStepped}
use Rattle.statement_states.specs.Finishes.{is_bare, IsFinished}
use Rattle.statement_states.specs.declared.states.Stepped.{Stepped}
use Rattle.statement_states.specs.declared.states.Stepped.TheVariants as s
use Rattle.statement_states.specs.declared.states.State.TheVariants as code
use Rattle.statement_states.specs.declared.finishes.Finished.{Finished}
use Rattle.statement_states.specs.declared.finishes.Finished.TheVariants as f
use Rattle.statement_machine_laws.specs.Images.{stack_image, held_image, state_image}
use Rattle.statement_machine_laws.proofs.MirrorLemmas.{close_image, moved_image, run_image}
use Rattle.statement_machine_laws.proofs.MeaningLemmas.{has_facts, has_height}
use Rattle.statement_trees.specs.Trees.{tree_setting, deep_front, KnowsLast, KnowsDepth, IsReading, IsStopped, IsStep, IsWholeTree, IsEnd, step_of, deep_at_last, end_of}
use Rattle.statement_trees.specs.declared.trees.OpenTree.{OpenTree}

some_is : {A : Type 0} (x y : A) → Some x ≡ Some y → x ≡ y
some_is x y e = cc

none_some : {A : Type 0} (o : Option A) (x : A) → o ≡ None → o ≡ Some x → ⊥
none_some o x e f = cc

bind_some : {A B : Type 0} (o : Option A) (f : A → Option B) (y : B) → (o >>= f) ≡ Some y → (x : A) × (o ≡ Some x) × (f x ≡ Some y)
bind_some None f y e = cc
bind_some (Some x) f y e = (x, refl, e)

map_some : {A B : Type 0} (f : A → B) (o : Option A) (y : B) → option_map f o ≡ Some y → (x : A) × (o ≡ Some x) × (f x ≡ y)
map_some f None y e = cc
map_some f (Some x) y e = (x, refl, some_is (f x) y e)

map_none : {A B : Type 0} (f : A → B) (o : Option A) → option_map f o ≡ None → o ≡ None
map_none f None e = refl
map_none f (Some x) e = cc

run_more : (g : Setting) (x next : m.State Shape) (ts us : List Token) → run g shapes x ts ≡ Some next → run g shapes x (ts ++ us) ≡ run g shapes next us
run_more g x next [] us e = ap (λ (o : Option (m.State Shape)). o >>= λ (n : m.State Shape). run g shapes n us) e
run_more g x next (t ∷ ts) us e =
    let b = bind_some (moved g shapes x t) (λ (n : m.State Shape). run g shapes n ts) next e in
    ap (λ (o : Option (m.State Shape)). o >>= λ (n : m.State Shape). run g shapes n (ts ++ us)) b.1 ∙ run_more g b.0 next ts us b.2

run_one : (g : Setting) (x : m.State Shape) (t : Token) → run g shapes x (t ∷ []) ≡ moved g shapes x t
run_one g x t = by_next (moved g shapes x t)
  where
    by_next : (o : Option (m.State Shape)) → (o >>= λ (n : m.State Shape). run g shapes n []) ≡ o
    by_next None = refl
    by_next (Some n) = refl

-- ---- lists

take_front : (xs ys : List Token) → take (length xs) (xs ++ ys) ≡ xs
take_front [] ys = refl
take_front (x ∷ xs) ys = ap (λ (l : List Token). x ∷ l) (take_front xs ys)

drop_front : (xs ys : List Token) → drop (length xs) (xs ++ ys) ≡ ys
drop_front [] ys = refl
drop_front (x ∷ xs) ys = drop_front xs ys

within : (s : Shape) (ts more : List Token) → tokens_of s ≡ ts ++ more → length ts ≤ len s
within s ts more e = let a = length_on ts more in let b : len s ≡ length (ts ++ more) = ap length e in omega arith

-- ---- the tree so far is the whole one, cut

record Cut (schema : Schema) (g : Setting) (ts : List Token) (state : m.State Shape) (s : Shape) : Type 0 where
  ends : so_far (state_image parts state) ≡ cut true (length ts) s
  goes_on : (t : Token) (more : List Token) → tokens_of s ≡ ts ++ (t ∷ more) → so_far_before (state_image parts state) t ≡ cut false (length ts) s

cut_is : (schema : Schema) (g : Setting) (ts more : List Token) (state : m.State Shape) (s : Shape) → run g shapes (m.Due []) ts ≡ Some state → IsAt g 1 g.base s → tokens_of s ≡ ts ++ more → Cut schema g ts state s
cut_is schema g ts more state s r h e =
    let c = cuts g 1 g.base s [] (length ts) h (λ u o p. tt) (λ p. p) (within s ts more e) in
    let front : take (length ts) (tokens_of s) ≡ ts = ap (take (length ts)) e ∙ take_front ts more in
    let image : run g parts (m.Due []) ts ≡ Some (state_image parts state) = run_image g parts (m.Due []) ts ∙ ap (option_map (state_image parts)) r in
    let same : state_image parts state ≡ c.state = some_is (state_image parts state) c.state (sym image ∙ ap (run g parts (m.Due [])) (sym front) ∙ c.runs) in record {
      ends = ap so_far same ∙ c.ends;
      goes_on = λ t rest f. ap (λ (x : m.State Part). so_far_before x t) same ∙ c.goes_on t (subst (λ (l : List Token). Next l t) (sym (ap (drop (length ts)) f ∙ drop_front ts (t ∷ rest))) refl);
    }

-- ---- what is too deep

abbrev or_list : List ℕ → List ℕ → List ℕ
or_list [] ys = ys
or_list (x ∷ xs) ys = x ∷ xs

abbrev deep_one : Bool → ℕ → Shape → Token → List ℕ
deep_one ends n s t = if nat_lt 64 (height (cut ends n s)) then t.place ∷ [] else []

pick : (b : Bool) (place : ℕ) (xs ys zs : List ℕ) → xs ≡ or_list ys zs → (if b then place ∷ [] else xs) ≡ or_list (if b then place ∷ [] else ys) zs
pick true place xs ys zs e = refl
pick false place xs ys zs e = e

shifted : (n j : ℕ) → suc n + j ≡ n + suc j
shifted n j = omega arith

front_more : (s : Shape) (n : ℕ) (front : List Token) (t : Token) → deep_front s n (front ++ t ∷ []) ≡ or_list (deep_front s n front) (deep_one false (suc (n + length front)) s t)
front_more s n [] t = ap (λ (k : ℕ). deep_one false (suc k) s t) (add_none n)
  where
    add_none : (n : ℕ) → n ≡ n + 0
    add_none n = omega arith
front_more s n (u ∷ us) t =
    pick (nat_lt 64 (height (cut false (suc n) s))) u.place (deep_front s (suc n) (us ++ t ∷ [])) (deep_front s (suc n) us) (deep_one false (suc (n + suc (length us))) s t)
    (front_more s (suc n) us t ∙ ap (λ (k : ℕ). or_list (deep_front s (suc n) us) (deep_one false (suc k) s t)) (shifted n (length us)))

not_last : (us : List Token) (t : Token) → is_last (us ++ t ∷ []) ≡ false
not_last [] t = refl
not_last (u ∷ us) t = refl

end_more : (s : Shape) (n : ℕ) (front : List Token) (t : Token) → deep_from s n (front ++ t ∷ []) ≡ or_list (deep_front s n front) (deep_one true (suc (n + length front)) s t)
end_more s n [] t = ap (λ (k : ℕ). deep_one true (suc k) s t) (add_none n)
  where
    add_none : (n : ℕ) → n ≡ n + 0
    add_none n = omega arith
end_more s n (u ∷ us) t =
    ap (λ (b : Bool). if nat_lt 64 (height (cut b (suc n) s)) then u.place ∷ [] else deep_from s (suc n) (us ++ t ∷ [])) (not_last us t)
    ∙ pick (nat_lt 64 (height (cut false (suc n) s))) u.place (deep_from s (suc n) (us ++ t ∷ [])) (deep_front s (suc n) us) (deep_one true (suc (n + suc (length us))) s t)
    (end_more s (suc n) us t ∙ ap (λ (k : ℕ). or_list (deep_front s (suc n) us) (deep_one true (suc k) s t)) (shifted n (length us)))

places_or : (o : Option ℕ) (b : Bool) (place : ℕ) → places (option_or o (when_true b place)) ≡ or_list (places o) (if b then place ∷ [] else [])
places_or None true place = refl
places_or None false place = refl
places_or (Some n) b place = refl

one_longer : (front : List Token) (t : Token) → length (front ++ t ∷ []) ≡ suc (0 + length front)
one_longer front t = let a = length_on front (t ∷ []) in omega arith

-- with one token more, read or not
deeper : (s : Shape) (ts : List Token) (l : Token) (front : List Token) (last : ℕ) (deep : Option ℕ) (ends b : Bool) → ts ≡ front ++ l ∷ [] → last ≡ l.place → places deep ≡ deep_front s 0 front → b ≡ nat_lt 64 (height (cut ends (length ts) s))
    → places (option_or deep (when_true b last)) ≡ or_list (deep_front s 0 front) (deep_one ends (suc (0 + length front)) s l)
deeper s ts l front last deep ends b are place known is =
    places_or deep b last
    ∙ ap (λ (xs : List ℕ). or_list xs (if b then last ∷ [] else [])) known
    ∙ ap (λ (k : ℕ). or_list (deep_front s 0 front) (if b then k ∷ [] else [])) place
    ∙ ap (λ (t : Bool). or_list (deep_front s 0 front) (if t then l.place ∷ [] else [])) is
    ∙ ap (λ (k : ℕ). or_list (deep_front s 0 front) (deep_one ends k s l)) (ap length are ∙ one_longer front l)

high_is : (b : Bool) (n k : ℕ) → (IsTrue b ↔ (64 < n)) → n ≡ min 65 k → b ≡ nat_lt 64 k
high_is true n k i e = let h : 64 < n = i.0 refl in sym (is_lt k (omega arith))
  where
    is_lt : (k : ℕ) → 64 < k → nat_lt 64 k ≡ true
    is_lt k h = grind (arith, nat_tests)
high_is false n k i e = by_test (nat_lt 64 k) refl
  where
    lt_is : (k : ℕ) → nat_lt 64 k ≡ true → 64 < k
    lt_is k h = grind (arith, nat_tests)

    by_test : (t : Bool) → nat_lt 64 k ≡ t → false ≡ nat_lt 64 k
    by_test false d = sym d
    by_test true d = let h : 64 < k = lt_is k d in let f : false ≡ true = i.1 (omega arith) in cc

-- ---- one token

due_is : (g : Setting) (state : m.State Shape) → run g shapes (m.Due []) [] ≡ Some state → m.Due [] ≡ state
due_is g state e = some_is (m.Due []) state e

low_due : (schema : Schema) (t : Token) (state : m.State Shape) (b : Bool) → m.Due [] ≡ state → (IsTrue b ↔ (64 < height_before (state_image (operands schema) state) t)) → b ≡ false
low_due schema t state true e i =
    let h : 64 < height_before (state_image (operands schema) state) t = i.0 refl in
    let one : height_before (state_image (operands schema) state) t ≡ 1 = ap (λ (x : m.State Shape). height_before (state_image (operands schema) x) t) (sym e) in absurd (omega arith)
low_due schema t state false e i = refl

record Moves (schema : Schema) (base : Bool) (ts : List Token) (t : Token) (state : m.State Shape) (next : m.State Operand) : Type 0 where
  state_too : m.State Shape
  runs : run (tree_setting schema base) shapes (m.Due []) (ts ++ t ∷ []) ≡ Some state_too
  is : next ≡ state_image (operands schema) state_too

moves : (schema : Schema) (base : Bool) (ts : List Token) (t : Token) (state : m.State Shape) (from next : m.State Operand) → run (tree_setting schema base) shapes (m.Due []) ts ≡ Some state → from ≡ state_image (operands schema) state
    → moved (tree_setting schema base) (operands schema) from t ≡ Some next → Moves schema base ts t state next
moves schema base ts t state from next r e n =
    let i = map_some (state_image (operands schema)) (moved (tree_setting schema base) shapes state t) next (sym (moved_image (tree_setting schema base) (operands schema) state t) ∙ ap (λ (x : m.State Operand). moved (tree_setting schema base) (operands schema) x t) (sym e) ∙ n) in record {
      state_too = i.0;
      runs = run_more (tree_setting schema base) (m.Due []) state ts (t ∷ []) r ∙ run_one (tree_setting schema base) state t ∙ i.1;
      is = sym i.2;
    }

depth_on : (schema : Schema) (base : Bool) (ts : List Token) (t : Token) (state : m.State Shape) (last : ℕ) (deep : Option ℕ) (b : Bool) → run (tree_setting schema base) shapes (m.Due []) ts ≡ Some state
    → (IsTrue b ↔ (64 < height_before (state_image (operands schema) state) t)) → KnowsDepth (tree_setting schema base) ts last deep → KnowsLast (tree_setting schema base) (ts ++ t ∷ []) t.place (option_or deep (when_true b last))
depth_on schema base ts t state last deep b r i (inl k) =
    let due : m.Due [] ≡ state = due_is (tree_setting schema base) state (sym (ap (run (tree_setting schema base) shapes (m.Due [])) k.0) ∙ r) in
    let no : option_or deep (when_true b last) ≡ None = ap (λ (o : Option ℕ). option_or o (when_true b last)) k.1 ∙ ap (λ (x : Bool). when_true x last) (low_due schema t state b due i) in record {
      front = ts;
      token = t;
      are = refl;
      place = refl;
      deep_is = λ s more h e. ap places no ∙ ap (deep_front s 0) (sym k.0);
    }
depth_on schema base ts t state last deep b r i (inr k) = record {
  front = ts;
  token = t;
  are = refl;
  place = refl;
  deep_is = λ s more h e.
      let f : tokens_of s ≡ ts ++ (t ∷ more) = e ∙ append_assoc ts (t ∷ []) more in
      let c = cut_is schema (tree_setting schema base) ts (t ∷ more) state s r h f in
      let high : b ≡ nat_lt 64 (height (cut false (length ts) s)) =
      high_is b (height_before (state_image (operands schema) state) t) (height (cut false (length ts) s)) i (has_height schema state t ∙ ap (λ (x : Part). min 65 (height x)) (c.goes_on t more f)) in
      deeper s ts k.token k.front last deep false b k.are k.place (k.deep_is s (t ∷ more) h f) high
      ∙ sym (front_more s 0 k.front k.token) ∙ ap (deep_front s 0) (sym k.are);
}

no_more : (schema : Schema) (base : Bool) (ts : List Token) (t : Token) (state : m.State Shape) (from : m.State Operand) → run (tree_setting schema base) shapes (m.Due []) ts ≡ Some state → from ≡ state_image (operands schema) state
    → moved (tree_setting schema base) (operands schema) from t ≡ None → Begins (tree_setting schema base) (ts ++ t ∷ []) → ⊥
no_more schema base ts t state from r e n begins =
    let b = begun_by (tree_setting schema base) (ts ++ t ∷ []) begins in
    let none : moved (tree_setting schema base) shapes state t ≡ None = map_none (state_image (operands schema)) (moved (tree_setting schema base) shapes state t) (sym (moved_image (tree_setting schema base) (operands schema) state t) ∙ ap (λ (x : m.State Operand). moved (tree_setting schema base) (operands schema) x t) (sym e) ∙ n) in
    none_some (run (tree_setting schema base) shapes (m.Due []) (ts ++ t ∷ [])) b.0 (run_more (tree_setting schema base) (m.Due []) state ts (t ∷ []) r ∙ run_one (tree_setting schema base) state t ∙ none) b.1

pub steps : (schema : Schema) (base : Bool) (tree : OpenTree) (t : Token) (b : Bool) (stepped : Stepped) → (IsTrue b ↔ (64 < height_before (state_of tree.state) t))
    → IsStepped schema (moved (tree_setting schema base) (operands schema) (state_of tree.state) t) (state_of tree.state) t stepped → (ts : List Token) → IsReading schema base ts tree
    → IsStep schema base ts t (step_of stepped tree.last tree.deep t.place (option_or tree.deep (when_true b tree.last)))
steps schema base tree t b (s.Moved state) i d ts r =
    let mv = moves schema base ts t r.state (state_of tree.state) (state_of state) r.runs r.is d in record {
      state = mv.state_too;
      runs = mv.runs;
      is = mv.is;
      depth = inr (depth_on schema base ts t r.state tree.last tree.deep b r.runs (subst (λ (x : m.State Operand). IsTrue b ↔ (64 < height_before x t)) r.is i) r.depth);
    }
steps schema base tree t b (s.Stuck state token) i d ts r = record {
  stopped = record {
    state = r.state;
    runs = r.runs;
    alike = subst (λ (x : m.State Operand). AreAlike schema x (state_of state)) r.is d.alike;
    depth = r.depth;
  };
  token = d.token;
  none = no_more schema base ts t r.state (state_of tree.state) r.runs r.is d.none;
}

-- ---- the end

lt_no : (a b : ℕ) → nat_lt a b ≡ false → b ≤ a
lt_no a b h = grind (arith, nat_tests)

filled_facts : (schema : Schema) (k : ℕ) (f : Frame Operand) (x : Operand) → 1 ≤ k → nat_lt (strength f) k ≡ false → plugged f x.facts ≡ (filled (operands schema) f x).facts
filled_facts schema k (Before t) x l e = refl
filled_facts schema k (Behind y t) x l e = refl
filled_facts schema k (Low y t) x l e = let o : k ≤ 0 = lt_no 0 k e in absurd (omega arith)
filled_facts schema k (High v b y a) x l e = refl
filled_facts schema k (Opened o b) x l e = let p : k ≤ 0 = lt_no 0 k e in absurd (omega arith)

close_plugs : (schema : Schema) (k : ℕ) (fs : List (Frame Operand)) (c : Bool) (x : Operand) (q : m.Held Operand) → 1 ≤ k → close (operands schema) k fs c x ≡ Some q → plug fs x.facts ≡ plug q.stack q.x.facts
close_plugs schema k [] c x q l e = ap (λ (h : m.Held Operand). plug h.stack h.x.facts) (some_is (record { stack = []; condition = c; x = x }) q e)
close_plugs schema k (f ∷ fs) c x q l e = by_strength (nat_lt (strength f) k) refl e (close_plugs schema k fs (frame_gives f) (filled (operands schema) f x) q l)
  where
    by_sort : (b : Bool) → nat_lt (strength f) k ≡ false → (if b then close (operands schema) k fs (frame_gives f) (filled (operands schema) f x) else None) ≡ Some q → (close (operands schema) k fs (frame_gives f) (filled (operands schema) f x) ≡ Some q → plug fs (filled (operands schema) f x).facts ≡ plug q.stack q.x.facts) → plug (f ∷ fs) x.facts ≡ plug q.stack q.x.facts
    by_sort true d e more = ap (plug fs) (filled_facts schema k f x l d) ∙ more e
    by_sort false d e more = cc

    by_strength : (b : Bool) → nat_lt (strength f) k ≡ b → (if b then Some (record { stack = f ∷ fs; condition = c; x = x }) else if same_sort c (frame_wants f) then close (operands schema) k fs (frame_gives f) (filled (operands schema) f x) else None) ≡ Some q → (close (operands schema) k fs (frame_gives f) (filled (operands schema) f x) ≡ Some q → plug fs (filled (operands schema) f x).facts ≡ plug q.stack q.x.facts) → plug (f ∷ fs) x.facts ≡ plug q.stack q.x.facts
    by_strength true d e more = ap (λ (h : m.Held Operand). plug h.stack h.x.facts) (some_is (record { stack = f ∷ fs; condition = c; x = x }) q e)
    by_strength false d e more = by_sort (same_sort c (frame_wants f)) d e more

closed_facts : (schema : Schema) (x : m.State Operand) (q : m.Held Operand) → closed_state schema x ≡ Some q → facts_so_far schema x ≡ plug q.stack q.x.facts
closed_facts schema (m.Due fs) q e = cc
closed_facts schema (m.Read h) q e = close_plugs schema 1 h.stack h.condition h.x q (omega arith) e
closed_facts schema (m.SawIs h i) q e = cc
closed_facts schema (m.SawNot h i n) q e = cc
closed_facts schema (m.Lone fs o a) q e = close_plugs schema 1 (Opened o true ∷ fs) false ((operands schema).leaf a) q (omega arith) e
closed_facts schema (m.InRow fs seen slot slots) q e = cc
closed_facts schema (m.SawMinus fs o) q e = cc

-- what is closed is the image of what the grammar's machine closes
record Closes (schema : Schema) (state : m.State Shape) (q : m.Held Operand) : Type 0 where
  before : m.Held Shape
  held : held_at shapes state ≡ Some before
  behind : m.Held Shape
  closes : close shapes 1 before.stack before.condition before.x ≡ Some behind
  is : held_image (operands schema) behind ≡ q

closed_by : (schema : Schema) (state : m.State Shape) (h : m.Held Shape) (q : m.Held Operand) → held_at shapes state ≡ Some h → close (operands schema) 1 (stack_image (operands schema) h.stack) h.condition (made (operands schema) h.x) ≡ Some q → Closes schema state q
closed_by schema state h q a e =
    let i = map_some (held_image (operands schema)) (close shapes 1 h.stack h.condition h.x) q (sym (close_image (operands schema) 1 h.stack h.condition h.x) ∙ e) in
    record { before = h; held = a; behind = i.0; closes = i.1; is = i.2 }

closed_image : (schema : Schema) (state : m.State Shape) (q : m.Held Operand) → closed_state schema (state_image (operands schema) state) ≡ Some q → Closes schema state q
closed_image schema (m.Due fs) q e = cc
closed_image schema (m.Read h) q e = closed_by schema (m.Read h) h q refl e
closed_image schema (m.SawIs h i) q e = cc
closed_image schema (m.SawNot h i n) q e = cc
closed_image schema (m.Lone fs o a) q e = closed_by schema (m.Lone fs o a) (m.lone_held shapes fs o a) q refl e
closed_image schema (m.InRow fs seen slot slots) q e = cc
closed_image schema (m.SawMinus fs o) q e = cc

-- the end of a tree that is read: the height of the last token is known
depth_end : (schema : Schema) (base : Bool) (ts more : List Token) (state : m.State Shape) (last : ℕ) (deep : Option ℕ) (facts : Facts) (s : Shape) → run (tree_setting schema base) shapes (m.Due []) ts ≡ Some state
    → facts ≡ facts_of schema (so_far (state_image parts state)) → KnowsDepth (tree_setting schema base) ts last deep → IsAt (tree_setting schema base) 1 base s → tokens_of s ≡ ts ++ more
    → places (deep_at_last deep facts last) ≡ deep_in s (length ts)
depth_end schema base ts more state last deep facts s r is (inl k) h e =
    let due : m.Due [] ≡ state = due_is (tree_setting schema base) state (sym (ap (run (tree_setting schema base) shapes (m.Due [])) k.0) ∙ r) in
    let low : nat_lt 64 facts.height ≡ false = ap (λ (y : Facts). nat_lt 64 y.height) (is ∙ ap (λ (x : m.State Shape). facts_of schema (so_far (state_image parts x))) (sym due)) in
    ap (λ (o : Option ℕ). places (option_or o (when_true (nat_lt 64 facts.height) last))) k.1 ∙ ap (λ (b : Bool). places (when_true b last)) low
    ∙ ap (λ (us : List Token). deep_in s (length us)) (sym k.0)
depth_end schema base ts more state last deep facts s r is (inr k) h e =
    let c = cut_is schema (tree_setting schema base) ts more state s r h e in
    let high : nat_lt 64 facts.height ≡ nat_lt 64 (height (cut true (length ts) s)) = high_same facts.height (height (cut true (length ts) s)) (ap (λ (y : Facts). y.height) is ∙ ap (λ (x : Part). min 65 (height x)) c.ends) in
    let front : take (length ts) (tokens_of s) ≡ ts = ap (take (length ts)) e ∙ take_front ts more in
    deeper s ts k.token k.front last deep true (nat_lt 64 facts.height) k.are k.place (k.deep_is s more h e) high
    ∙ sym (end_more s 0 k.front k.token) ∙ ap (deep_from s 0) (sym k.are) ∙ ap (deep_from s 0) (sym front)
  where
    high_same : (a b : ℕ) → a ≡ min 65 b → nat_lt 64 a ≡ nat_lt 64 b
    high_same a b e = high_is (nat_lt 64 a) a b (lt_true a) e
      where
        lt_true : (a : ℕ) → IsTrue (nat_lt 64 a) ↔ (64 < a)
        lt_true a = (λ h. from h, λ h. to h)
          where
            from : nat_lt 64 a ≡ true → 64 < a
            from h = grind (arith, nat_tests)

            to : 64 < a → nat_lt 64 a ≡ true
            to h = grind (arith, nat_tests)

facts_end : (schema : Schema) (base : Bool) (ts more : List Token) (state : m.State Shape) (facts : Facts) (s : Shape) → run (tree_setting schema base) shapes (m.Due []) ts ≡ Some state → facts ≡ facts_of schema (so_far (state_image parts state))
    → IsAt (tree_setting schema base) 1 base s → tokens_of s ≡ ts ++ more → facts ≡ facts_of schema (cut true (length ts) s)
facts_end schema base ts more state facts s r is h e = let c = cut_is schema (tree_setting schema base) ts more state s r h e in is ∙ ap (facts_of schema) c.ends

-- where a tree is whole its machine closes it
whole_closes : (schema : Schema) (base : Bool) (state : m.State Shape) (s : Shape) → IsAt (tree_setting schema base) 1 base s → run (tree_setting schema base) shapes (m.Due []) (tokens_of s) ≡ Some state → is_bare base (closed_state schema (state_image (operands schema) state)) ≡ true
whole_closes schema base state s h r =
    let i = complete (tree_setting schema base) shapes 1 base s [] [] h (λ u k e. tt) (λ e. e) tt in
    let c = i.closes 1 (omega arith) in
    let same : state ≡ m.Read i.held = some_is state (m.Read i.held) (sym r ∙ ap (run (tree_setting schema base) shapes (m.Due [])) (sym (append-nil (tokens_of s))) ∙ i.runs) in
    ap (λ (x : m.State Shape). is_bare base (closed_state schema (state_image (operands schema) x))) same
    ∙ ap (is_bare base) (close_image (operands schema) 1 i.held.stack i.held.condition i.held.x ∙ ap (option_map (held_image (operands schema))) c)
    ∙ sort_self base
  where
    sort_self : (b : Bool) → same_sort b b ≡ true
    sort_self true = refl
    sort_self false = refl

not_both : (b : Bool) → b ≡ true → b ≡ false → ⊥
not_both b e f = cc

no_deep : (deep : Option ℕ) (b : Bool) (last : ℕ) → option_or deep (when_true b last) ≡ None → b ≡ false
no_deep None true last e = cc
no_deep None false last e = refl
no_deep (Some n) b last e = cc

pub ends : (schema : Schema) (base : Bool) (tree : OpenTree) (finished : Finished) → IsFinished schema base (state_of tree.state) finished → (ts : List Token) → IsStopped schema base ts tree → IsEnd schema base ts (end_of schema finished tree.last tree.deep)
ends schema base tree (f.Whole x) d ts r =
    let closed : closed_state schema (state_image (operands schema) r.state) ≡ Some (record { stack = []; condition = base; x = x }) = r.alike.whole ∙ d in
    let c = closed_image schema r.state (record { stack = []; condition = base; x = x }) closed in
    whole_end x c (sym (closed_facts schema (state_image (operands schema) r.state) (record { stack = []; condition = base; x = x }) closed) ∙ has_facts schema r.state)
  where
    bare : (fs : List (Frame Shape)) → stack_image (operands schema) fs ≡ [] → fs ≡ []
    bare [] e = refl
    bare (f ∷ fs) e = cc

    whole_end : (x : Operand) → Closes schema r.state (record { stack = []; condition = base; x = x }) → x.facts ≡ facts_of schema (so_far (state_image parts r.state)) → IsWholeTree schema base ts x (deep_at_last tree.deep x.facts tree.last)
    whole_end x c facts =
        let none : c.behind.stack ≡ [] = bare c.behind.stack (ap (λ (h : m.Held Operand). h.stack) c.is) in
        let sort : c.behind.condition ≡ base = ap (λ (h : m.Held Operand). h.condition) c.is in
        let read : IsRead (tree_setting schema base) shapes ts base c.behind.x = record {
          state = r.state;
          runs = r.runs;
          held = c.before;
          ends = c.held;
          closes = c.closes ∙ ap (λ (fs : List (Frame Shape)). Some (record { stack = fs; condition = c.behind.condition; x = c.behind.x })) none ∙ ap (λ (b : Bool). Some (record { stack = []; condition = b; x = c.behind.x })) sort;
        } in
        let i = sound (tree_setting schema base) ts base c.behind.x read in record {
          tree = c.behind.x;
          is = i.1;
          spelled = i.2;
          made_so = ap (λ (h : m.Held Operand). h.x) (sym c.is);
          low = λ n. lt_no 64 x.facts.height (no_deep tree.deep (nat_lt 64 x.facts.height) tree.last n);
          facts = facts_end schema base ts [] r.state x.facts c.behind.x r.runs facts i.1 (i.2 ∙ sym (append-nil ts));
          depth = depth_end schema base ts [] r.state tree.last tree.deep x.facts c.behind.x r.runs facts r.depth i.1 (i.2 ∙ sym (append-nil ts));
        }
ends schema base tree (f.Open state) d ts r =
    let facts : facts_so_far schema (state_of state) ≡ facts_of schema (so_far (state_image parts r.state)) = sym d.alike.facts ∙ sym r.alike.facts ∙ has_facts schema r.state in record {
      none = λ s h e. not_both (is_bare base (closed_state schema (state_image (operands schema) r.state))) (whole_closes schema base r.state s h (ap (run (tree_setting schema base) shapes (m.Due [])) e ∙ r.runs)) (ap (is_bare base) r.alike.whole ∙ d.open_still);
      are = λ s more h e. facts_end schema base ts more r.state (facts_so_far schema (state_of state)) s r.runs facts h e;
      depth = λ s more h e. depth_end schema base ts more r.state tree.last tree.deep (facts_so_far schema (state_of state)) s r.runs facts r.depth h e;
    }

-- nothing is read
pub begun_so : (schema : Schema) (base : Bool) (fs : List (Frame Operand)) → fs ≡ [] → IsReading schema base [] (record { state = code.Due fs; last = 0; deep = None })
begun_so schema base fs e = record { state = m.Due []; runs = refl; is = ap (λ (gs : List (Frame Operand)). m.Due gs) e; depth = inl (refl, refl) }
