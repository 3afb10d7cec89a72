-- The tree so far is what a whole tree is cut to.
use Rattle.std.proofs.Common.{◌≡◌, ℕ, zero, suc, ◌≤◌, ◌<◌, ◌+◌, Bool, true, false, List, [], ◌∷◌, ◌++◌, Some, refl, sym, ap, subst, ◌∙◌, arith, append_assoc, append-nil, nat_lt, cond}
use Rattle.std.specs.Prelude.{◌-◌, ⊤, take, drop, length, if◌then◌else◌}
use Rattle.statement_tokens.specs.declared.words.Token.{Token}
use Rattle.statement_tokens.specs.declared.words.Word.{Word}
use Rattle.statement_tokens.specs.declared.words.Word.TheVariants as w
use Rattle.ptc_statement.specs.declared.expressions.Op.TheVariants as op
use Rattle.statement_grammar.specs.declared.frames.Frame.{Frame}
use Rattle.statement_grammar.specs.declared.frames.Frame.TheVariants.{Before, Behind, Low, High, Opened}
use Rattle.statement_grammar.specs.Grammar as g
use Rattle.statement_grammar.specs.Grammar.{Shape, Setting, IsAt, tokens_of}
use Rattle.statement_grammar.specs.Machine.{State, Due, Read, SawIs, SawNot, Lone, InRow, SawMinus, run, takes_condition, operand, begun, behind_is, behind_not, nulled, row_next, row_left}
use Rattle.statement_grammar.specs.Cut.{Part, Gap, Leaf, Prefix, Binary, Lower, Range, Nullness, Paren, Signed, RowTest, parts, whole, len, cut, cut_row}
use Rattle.statement_grammar.proofs.Complete.{Waits, Ready, complete, stop, joins, step, prefix_waits, left_least, ranges, ands, iss, opens, parens, minus_is, one_slot, quiet_token, level_quiet, between_quiet, is_quiet, close_quiet, sign_runs, starts_plain, minus_level, StartsPlain, signed_runs, lone_begins, comma_goes, open_is}
use Rattle.statement_grammar.specs.SoFar.{filled_up, so_far, so_far_before}
use Rattle.statement_grammar.proofs.BasicLemmas.{lt_is, lt_not, lt_yes, lt_no, gives_too}

-- ---- fronts of lists

take_in : (n : ℕ) (xs ys : List Token) → n ≤ length xs → take n (xs ++ ys) ≡ take n xs
take_in zero xs ys h = refl
take_in (suc n) [] ys h = absurd (omega arith)
take_in (suc n) (x ∷ xs) ys h = ap (λ (l : List Token). x ∷ l) (take_in n xs ys (omega arith))

drop_in : (n : ℕ) (xs ys : List Token) → n ≤ length xs → drop n (xs ++ ys) ≡ drop n xs ++ ys
drop_in zero xs ys h = refl
drop_in (suc n) [] ys h = absurd (omega arith)
drop_in (suc n) (x ∷ xs) ys h = drop_in n xs ys (omega arith)

take_past : (k n : ℕ) (xs ys : List Token) (t : Token) → k ≡ length xs + suc n → take k (xs ++ (t ∷ ys)) ≡ xs ++ (t ∷ take n ys)
take_past k n [] ys t e = let f : k ≡ suc n = omega arith in ap (λ (j : ℕ). take j (t ∷ ys)) f
take_past zero n (x ∷ xs) ys t e = absurd (omega arith)
take_past (suc k) n (x ∷ xs) ys t e = ap (λ (l : List Token). x ∷ l) (take_past k n xs ys t (omega arith))

drop_past : (k n : ℕ) (xs ys : List Token) (t : Token) → k ≡ length xs + suc n → drop k (xs ++ (t ∷ ys)) ≡ drop n ys
drop_past k n [] ys t e = let f : k ≡ suc n = omega arith in ap (λ (j : ℕ). drop j (t ∷ ys)) f
drop_past zero n (x ∷ xs) ys t e = absurd (omega arith)
drop_past (suc k) n (x ∷ xs) ys t e = drop_past k n xs ys t (omega arith)

pub length_on : (xs ys : List Token) → length (xs ++ ys) ≡ length xs + length ys
length_on [] ys = omega arith
length_on (x ∷ xs) ys = let i = length_on xs ys in omega arith

-- the token that comes next, where there is one
abbrev pub Next : List Token → Token → Type 0
Next [] u = ⊤
Next (t ∷ ts) u = t ≡ u

next_in : (xs ys : List Token) (u : Token) → Next (xs ++ ys) u → Next xs u
next_in [] ys u h = tt
next_in (x ∷ xs) ys u h = h

-- ---- cuts at the ends

pub cut_none : (ends : Bool) (s : Shape) → cut ends 0 s ≡ Gap
cut_none ends (g.Leaf t) = refl
cut_none ends (g.Prefix t s) = refl
cut_none ends (g.Binary l t r) = rw (lt_not (len l) 0 (omega arith)) (cut_none ends l)
cut_none ends (g.Range x b l a h) = rw (lt_not (len x) 0 (omega arith)) (cut_none ends x)
cut_none ends (g.Nullness x i ws) = rw (lt_not (len x) 0 (omega arith)) (cut_none ends x)
cut_none ends (g.Paren o s p) = refl
cut_none ends (g.Signed t d) = refl
cut_none ends (g.RowTest []) = refl
cut_none ends (g.RowTest (o ∷ [])) = refl
cut_none ends (g.RowTest (o ∷ a ∷ ts)) = refl

some_behind : (xs ys : List Token) (t : Token) → length (xs ++ (t ∷ ys)) ≡ length xs + suc (length ys)
some_behind xs ys t = length_on xs (t ∷ ys)

-- the two cuts at a word between two trees
cut_binary : (ends : Bool) (n j : ℕ) (l r : Shape) (t : Token) → n ≡ len l + suc j → cut ends n (g.Binary l t r) ≡ Binary (whole l) t (cut ends j r)
cut_binary ends n j l r t e =
    let f : n - (len l + 1) ≡ j = omega arith in
    ap (λ (b : Bool). if b then Binary (whole l) t (cut ends (n - (len l + 1)) r) else cut ends n l) (lt_is (len l) n (omega arith))
    ∙ ap (λ (k : ℕ). Binary (whole l) t (cut ends k r)) f

cut_in_binary : (ends : Bool) (n : ℕ) (l r : Shape) (t : Token) → n ≤ len l → cut ends n (g.Binary l t r) ≡ cut ends n l
cut_in_binary ends n l r t h = ap (λ (b : Bool). if b then Binary (whole l) t (cut ends (n - (len l + 1)) r) else cut ends n l) (lt_not (len l) n h)

cut_in_range : (ends : Bool) (n : ℕ) (x l h : Shape) (b a : Token) → n ≤ len x → cut ends n (g.Range x b l a h) ≡ cut ends n x
cut_in_range ends n x l h b a e =
    ap (λ (test : Bool). if test then (if nat_lt (len x + 1 + len l) n then Range (whole x) b (whole l) a (cut ends (n - (len x + 1 + len l + 1)) h) else Lower (whole x) b (cut ends (n - (len x + 1)) l)) else cut ends n x) (lt_not (len x) n e)

cut_lower : (ends : Bool) (n j : ℕ) (x l h : Shape) (b a : Token) → n ≡ len x + suc j → j ≤ len l → cut ends n (g.Range x b l a h) ≡ Lower (whole x) b (cut ends j l)
cut_lower ends n j x l h b a e i =
    let f : n - (len x + 1) ≡ j = omega arith in
    ap (λ (test : Bool). if test then (if nat_lt (len x + 1 + len l) n then Range (whole x) b (whole l) a (cut ends (n - (len x + 1 + len l + 1)) h) else Lower (whole x) b (cut ends (n - (len x + 1)) l)) else cut ends n x) (lt_is (len x) n (omega arith))
    ∙ ap (λ (test : Bool). if test then Range (whole x) b (whole l) a (cut ends (n - (len x + 1 + len l + 1)) h) else Lower (whole x) b (cut ends (n - (len x + 1)) l)) (lt_not (len x + 1 + len l) n (omega arith))
    ∙ ap (λ (k : ℕ). Lower (whole x) b (cut ends k l)) f

cut_range : (ends : Bool) (n j : ℕ) (x l h : Shape) (b a : Token) → n ≡ len x + suc (len l + suc j) → cut ends n (g.Range x b l a h) ≡ Range (whole x) b (whole l) a (cut ends j h)
cut_range ends n j x l h b a e =
    let f : n - (len x + 1 + len l + 1) ≡ j = omega arith in
    ap (λ (test : Bool). if test then (if nat_lt (len x + 1 + len l) n then Range (whole x) b (whole l) a (cut ends (n - (len x + 1 + len l + 1)) h) else Lower (whole x) b (cut ends (n - (len x + 1)) l)) else cut ends n x) (lt_is (len x) n (omega arith))
    ∙ ap (λ (test : Bool). if test then Range (whole x) b (whole l) a (cut ends (n - (len x + 1 + len l + 1)) h) else Lower (whole x) b (cut ends (n - (len x + 1)) l)) (lt_is (len x + 1 + len l) n (omega arith))
    ∙ ap (λ (k : ℕ). Range (whole x) b (whole l) a (cut ends k h)) f

cut_in_nullness : (ends : Bool) (n : ℕ) (x : Shape) (i : Token) (ws : List Token) → n ≤ len x → cut ends n (g.Nullness x i ws) ≡ cut ends n x
cut_in_nullness ends n x i ws h = ap (λ (b : Bool). if b then Nullness (whole x) i else cut ends n x) (lt_not (len x) n h)

cut_nullness : (ends : Bool) (n : ℕ) (x : Shape) (i : Token) (ws : List Token) → len x < n → cut ends n (g.Nullness x i ws) ≡ Nullness (whole x) i
cut_nullness ends n x i ws h = ap (λ (b : Bool). if b then Nullness (whole x) i else cut ends n x) (lt_is (len x) n h)

cut_prefix : (ends : Bool) (j : ℕ) (t : Token) (s : Shape) → cut ends (suc j) (g.Prefix t s) ≡ Prefix t (cut ends j s)
cut_prefix ends j t s =
    let f : suc j - 1 ≡ j = omega arith in
    ap (λ (b : Bool). if b then Prefix t (cut ends (suc j - 1) s) else Gap) (lt_is 0 (suc j) (omega arith)) ∙ ap (λ (k : ℕ). Prefix t (cut ends k s)) f

cut_paren : (ends : Bool) (j : ℕ) (o p : Token) (s : Shape) → cut ends (suc j) (g.Paren o s p) ≡ Paren o (cut ends j s)
cut_paren ends j o p s =
    let f : suc j - 1 ≡ j = omega arith in
    ap (λ (b : Bool). if b then Paren o (cut ends (suc j - 1) s) else Gap) (lt_is 0 (suc j) (omega arith)) ∙ ap (λ (k : ℕ). Paren o (cut ends k s)) f

-- how many tokens behind the first so many, where there are more
record Past (n k : ℕ) : Type 0 where
  more : ℕ
  are : n ≡ k + suc more

past : (n k : ℕ) → k < n → Past n k
past n k h = record { more = n - (k + 1); are = omega arith }

pub take_all : (n : ℕ) (xs : List Token) → length xs ≤ n → take n xs ≡ xs
take_all zero [] h = refl
take_all zero (x ∷ xs) h = absurd (omega arith)
take_all (suc n) [] h = refl
take_all (suc n) (x ∷ xs) h = ap (λ (l : List Token). x ∷ l) (take_all n xs (omega arith))

drop_all : (n : ℕ) (xs : List Token) → length xs ≤ n → drop n xs ≡ []
drop_all zero [] h = refl
drop_all zero (x ∷ xs) h = absurd (omega arith)
drop_all (suc n) [] h = refl
drop_all (suc n) (x ∷ xs) h = drop_all n xs (omega arith)

-- ---- the state behind so many tokens of a tree

pub record Cuts (s : Setting) (fs : List (Frame Part)) (tree : Shape) (k : ℕ) : Type 0 where
  pub state : State Part
  pub runs : run s parts (Due fs) (take k (tokens_of tree)) ≡ Some state
  pub ends : so_far state ≡ filled_up fs (cut true k tree)
  pub goes_on : (u : Token) → Next (drop k (tokens_of tree)) u → so_far_before state u ≡ filled_up fs (cut false k tree)

none_read : (s : Setting) (fs : List (Frame Part)) (tree : Shape) → Cuts s fs tree 0
none_read s fs tree = record {
  state = Due fs;
  runs = refl;
  ends = ap (filled_up fs) (sym (cut_none true tree));
  goes_on = λ u h. ap (filled_up fs) (sym (cut_none false tree));
}

-- within the tree with which it begins
carried : (s : Setting) (fs : List (Frame Part)) (tree front : Shape) (rest : List Token) (k : ℕ) → tokens_of tree ≡ tokens_of front ++ rest → k ≤ len front
    → cut true k tree ≡ cut true k front → cut false k tree ≡ cut false k front → Cuts s fs front k → Cuts s fs tree k
carried s fs tree front rest k e h a b i = record {
  state = i.state;
  runs = ap (λ (ts : List Token). run s parts (Due fs) (take k ts)) e ∙ ap (run s parts (Due fs)) (take_in k (tokens_of front) rest h) ∙ i.runs;
  ends = i.ends ∙ ap (filled_up fs) (sym a);
  goes_on = λ u n. i.goes_on u (next_in (drop k (tokens_of front)) rest u (subst (λ (ts : List Token). Next ts u) (ap (drop k) e ∙ drop_in k (tokens_of front) rest h) n)) ∙ ap (filled_up fs) (sym b);
}

-- within a tree behind others, which are read and stand in further frames
deeper : (s : Setting) (fs gs : List (Frame Part)) (tree inner : Shape) (front rest : List Token) (k j : ℕ) → take k (tokens_of tree) ≡ front ++ take j (tokens_of inner)
    → drop k (tokens_of tree) ≡ drop j (tokens_of inner) ++ rest → run s parts (Due fs) (front ++ take j (tokens_of inner)) ≡ run s parts (Due gs) (take j (tokens_of inner))
    → filled_up fs (cut true k tree) ≡ filled_up gs (cut true j inner) → filled_up fs (cut false k tree) ≡ filled_up gs (cut false j inner) → Cuts s gs inner j → Cuts s fs tree k
deeper s fs gs tree inner front rest k j e d r a b i = record {
  state = i.state;
  runs = ap (run s parts (Due fs)) e ∙ r ∙ i.runs;
  ends = i.ends ∙ sym a;
  goes_on = λ u n. i.goes_on u (next_in (drop j (tokens_of inner)) rest u (subst (λ (ts : List Token). Next ts u) d n)) ∙ sym b;
}

operand_so_far : (s : Setting) (u : Word) (fs : List (Frame Part)) (t : Token) → so_far (operand s parts u fs t) ≡ filled_up fs (Leaf t)
operand_so_far s (w.Name n) [] t = refl
operand_so_far s (w.Name n) (Before b ∷ fs) t = refl
operand_so_far s (w.Name n) (Behind x b ∷ fs) t = refl
operand_so_far s (w.Name n) (Low x b ∷ fs) t = refl
operand_so_far s (w.Name n) (High x b l a ∷ fs) t = refl
operand_so_far s (w.Name n) (Opened o false ∷ fs) t = refl
operand_so_far s (w.Name n) (Opened o true ∷ fs) t =
    elim (g.first_is s (w.Name n)) as (λ b. so_far (cond b (Lone fs o t) (Read (record { stack = Opened o true ∷ fs; condition = false; x = Leaf t }))) ≡ filled_up fs (Paren o (Leaf t))) [
      | true ↦ refl
      | false ↦ refl
    ]
operand_so_far s _ fs t = refl

operand_before : (s : Setting) (u : Word) (fs : List (Frame Part)) (t v : Token) → so_far_before (operand s parts u fs t) v ≡ filled_up fs (Leaf t)
operand_before s (w.Name n) [] t v = refl
operand_before s (w.Name n) (Before b ∷ fs) t v = refl
operand_before s (w.Name n) (Behind x b ∷ fs) t v = refl
operand_before s (w.Name n) (Low x b ∷ fs) t v = refl
operand_before s (w.Name n) (High x b l a ∷ fs) t v = refl
operand_before s (w.Name n) (Opened o false ∷ fs) t v = refl
operand_before s (w.Name n) (Opened o true ∷ fs) t v =
    elim (g.first_is s (w.Name n)) as (λ b. so_far_before (cond b (Lone fs o t) (Read (record { stack = Opened o true ∷ fs; condition = false; x = Leaf t }))) v ≡ filled_up fs (Paren o (Leaf t))) [
      | true ↦ refl
      | false ↦ refl
    ]
operand_before s _ fs t v = refl

begins_leaf : (s : Setting) (fs : List (Frame Part)) (t : Token) (u : Word) → g.is_operand u ≡ true → begun s parts u fs t ≡ Some (operand s parts u fs t)
begins_leaf s fs t (w.Name n) e = refl
begins_leaf s fs t (w.Number n) e = refl
begins_leaf s fs t (w.Text n) e = refl
begins_leaf s fs t w.Null e = refl
begins_leaf s fs t _ e = cc

plain_take : (i : ℕ) (xs : List Token) → StartsPlain (xs ++ []) → StartsPlain (take (suc i) xs)
plain_take i [] h = absurd h
plain_take i (x ∷ xs) h = h

next_plain : (xs : List Token) (u : Token) → StartsPlain (xs ++ []) → Next xs u → g.is_number u.word ≡ false
next_plain [] u h n = absurd h
next_plain (x ∷ xs) u h n = subst (λ (t : Token). g.is_number t.word ≡ false) n h

-- a state in which a part of a row comparison is read
record RowPart (s : Setting) (fs : List (Frame Part)) (from : State Part) (us seen : List Token) : Type 0 where
  state : State Part
  runs : run s parts from us ≡ Some state
  ends : so_far state ≡ filled_up fs (RowTest seen)
  goes_on : (u : Token) → so_far_before state u ≡ filled_up fs (RowTest seen)

row_stands : (s : Setting) (fs : List (Frame Part)) (seen : List Token) (slots : List g.Slot) → RowPart s fs (row_next parts fs seen slots) [] seen
row_stands s fs seen [] = record { state = Read (record { stack = fs; condition = true; x = RowTest seen }); runs = refl; ends = refl; goes_on = λ u. refl }
row_stands s fs seen (slot ∷ slots) = record { state = InRow fs seen slot slots; runs = refl; ends = refl; goes_on = λ u. refl }

row_part : (s : Setting) (fs : List (Frame Part)) (seen : List Token) (slots : List g.Slot) (ts : List Token) (j : ℕ) → g.FillSlots s slots ts → RowPart s fs (row_next parts fs seen slots) (take j ts) (seen ++ take j ts)
row_part s fs seen slots ts zero h = subst (RowPart s fs (row_next parts fs seen slots) []) (sym (append-nil seen)) (row_stands s fs seen slots)
row_part s fs seen [] [] (suc j) h = subst (RowPart s fs (row_next parts fs seen []) []) (sym (append-nil seen)) (row_stands s fs seen [])
row_part s fs seen [] (t ∷ ts) (suc j) h = absurd h
row_part s fs seen (slot ∷ slots) [] (suc j) h = absurd h
row_part s fs seen (slot ∷ slots) (t ∷ ts) (suc j) h =
    let i = row_part s fs (seen ++ t ∷ []) (h.0 ++ slots) ts j h.2 in
    let e = append_assoc seen (t ∷ []) (take j ts) in record {
      state = i.state;
      runs = step s parts (InRow fs seen slot slots) (row_next parts fs (seen ++ t ∷ []) (h.0 ++ slots)) t (take j ts) (ap (row_left parts fs (seen ++ t ∷ []) slots) h.1) ∙ i.runs;
      ends = i.ends ∙ ap (λ (l : List Token). filled_up fs (RowTest l)) e;
      goes_on = λ u. i.goes_on u ∙ ap (λ (l : List Token). filled_up fs (RowTest l)) e;
    }

-- a state in which a part of IS NULL is read
record NullPart (s : Setting) (fs : List (Frame Part)) (x : Part) (i : Token) (us : List Token) : Type 0 where
  state : State Part
  runs : run s parts (SawIs (record { stack = fs; condition = false; x = x }) i) us ≡ Some state
  ends : so_far state ≡ filled_up fs (Nullness x i)
  goes_on : (u : Token) → so_far_before state u ≡ filled_up fs (Nullness x i)

abbrev the_nothing : List Token
the_nothing = []

nothing : (j : ℕ) → take j (the_nothing) ≡ the_nothing
nothing zero = refl
nothing (suc j) = refl

null_part : (s : Setting) (fs : List (Frame Part)) (x : Part) (i : Token) (ws : List Token) (j : ℕ) → g.AreNullWords ws → NullPart s fs x i (take j ws)
null_part s fs x i ws zero h = record { state = SawIs (record { stack = fs; condition = false; x = x }) i; runs = refl; ends = refl; goes_on = λ u. refl }
null_part s fs x i [] (suc j) h = absurd h
null_part s fs x i (t ∷ []) (suc j) h = record {
  state = nulled parts (record { stack = fs; condition = false; x = x }) i (t ∷ []);
  runs = ap (λ (l : List Token). run s parts (SawIs (record { stack = fs; condition = false; x = x }) i) (t ∷ l)) (nothing j)
      ∙ step s parts (SawIs (record { stack = fs; condition = false; x = x }) i) (nulled parts (record { stack = fs; condition = false; x = x }) i (t ∷ [])) t [] (is_null t.word h);
  ends = refl;
  goes_on = λ u. refl;
}
  where
    is_null : (u : Word) → u ≡ w.Null → behind_is parts u (record { stack = fs; condition = false; x = x }) i t ≡ Some (nulled parts (record { stack = fs; condition = false; x = x }) i (t ∷ []))
    is_null u e = rw e refl
null_part s fs x i (t ∷ v ∷ []) (suc zero) h = record {
  state = SawNot (record { stack = fs; condition = false; x = x }) i t;
  runs = step s parts (SawIs (record { stack = fs; condition = false; x = x }) i) (SawNot (record { stack = fs; condition = false; x = x }) i t) t [] (is_not t.word h.0);
  ends = refl;
  goes_on = λ u. refl;
}
  where
    is_not : (u : Word) → u ≡ w.Not → behind_is parts u (record { stack = fs; condition = false; x = x }) i t ≡ Some (SawNot (record { stack = fs; condition = false; x = x }) i t)
    is_not u e = rw e refl
null_part s fs x i (t ∷ v ∷ []) (suc (suc j)) h = record {
  state = nulled parts (record { stack = fs; condition = false; x = x }) i (t ∷ v ∷ []);
  runs = ap (λ (l : List Token). run s parts (SawIs (record { stack = fs; condition = false; x = x }) i) (t ∷ v ∷ l)) (nothing j)
      ∙ step s parts (SawIs (record { stack = fs; condition = false; x = x }) i) (SawNot (record { stack = fs; condition = false; x = x }) i t) t (v ∷ []) (is_not t.word h.0)
      ∙ step s parts (SawNot (record { stack = fs; condition = false; x = x }) i t) (nulled parts (record { stack = fs; condition = false; x = x }) i (t ∷ v ∷ [])) v [] (is_null v.word h.1);
  ends = refl;
  goes_on = λ u. refl;
}
  where
    is_not : (u : Word) → u ≡ w.Not → behind_is parts u (record { stack = fs; condition = false; x = x }) i t ≡ Some (SawNot (record { stack = fs; condition = false; x = x }) i t)
    is_not u e = rw e refl

    is_null : (u : Word) → u ≡ w.Null → behind_not parts u (record { stack = fs; condition = false; x = x }) i t v ≡ Some (nulled parts (record { stack = fs; condition = false; x = x }) i (t ∷ v ∷ []))
    is_null u e = rw e refl
null_part s fs x i (t ∷ u ∷ v ∷ ts) (suc j) h = absurd h

-- ---- each kind of tree

leaf_cuts : (s : Setting) (fs : List (Frame Part)) (t : Token) (k : ℕ) → g.is_operand t.word ≡ true → k ≤ 1 → Cuts s fs (g.Leaf t) k
leaf_cuts s fs t zero o h = none_read s fs (g.Leaf t)
leaf_cuts s fs t (suc zero) o h = record {
  state = operand s parts t.word fs t;
  runs = step s parts (Due fs) (operand s parts t.word fs t) t [] (begins_leaf s fs t t.word o);
  ends = operand_so_far s t.word fs t;
  goes_on = λ u n. operand_before s t.word fs t u;
}
leaf_cuts s fs t (suc (suc k)) o h = absurd (omega arith)

signed_cuts : (s : Setting) (fs : List (Frame Part)) (t d : Token) (k : ℕ) → g.is_minus t.word ≡ true → g.is_number d.word ≡ true → k ≤ 2 → Cuts s fs (g.Signed t d) k
signed_cuts s fs t d zero o p h = none_read s fs (g.Signed t d)
signed_cuts s fs t d (suc zero) o p h = record {
  state = SawMinus fs t;
  runs = step s parts (Due fs) (SawMinus fs t) t [] (ap (λ (u : Word). begun s parts u fs t) (minus_is t.word o));
  ends = refl;
  goes_on = λ u n. ap (λ (v : Token). if g.is_number v.word then filled_up fs (Signed t v) else filled_up fs (Prefix t Gap)) (sym n)
      ∙ ap (λ (b : Bool). if b then filled_up fs (Signed t d) else filled_up fs (Prefix t Gap)) p;
}
signed_cuts s fs t d (suc (suc zero)) o p h = record {
  state = Read (record { stack = fs; condition = false; x = Signed t d });
  runs = signed_runs s parts fs t d [] o p;
  ends = refl;
  goes_on = λ u n. refl;
}
signed_cuts s fs t d (suc (suc (suc k))) o p h = absurd (omega arith)

row_cuts : (s : Setting) (fs : List (Frame Part)) (ts : List Token) (k : ℕ) → takes_condition s fs ≡ true → g.FillSlots s g.row_slots ts → k ≤ length ts → Cuts s fs (g.RowTest ts) k
row_cuts s fs ts zero r f h = none_read s fs (g.RowTest ts)
row_cuts s fs [] (suc k) r f h = absurd f
row_cuts s fs (o ∷ ts) (suc k) r f h = by_first ts (one_slot s (g.is_open o.word) (g.FirstSlot ∷ g.CommaSlot ∷ g.after_comma) ts f)
  where
    opened : g.is_open o.word ≡ true → begun s parts o.word fs o ≡ Some (Due (Opened o true ∷ fs))
    opened p = opens s parts o.word fs o (open_is o.word p) ∙ ap (λ (b : Bool). Some (Due (Opened o b ∷ fs))) r

    by_comma : (a : Token) (us : List Token) → (j : ℕ) → g.is_open o.word ≡ true → (g.first_is s a.word ≡ true) × g.FillSlots s (g.CommaSlot ∷ g.after_comma) us → Cuts s fs (g.RowTest (o ∷ (a ∷ us))) (suc j)
    by_comma a us zero p q = record {
      state = Due (Opened o true ∷ fs);
      runs = step s parts (Due fs) (Due (Opened o true ∷ fs)) o [] (opened p);
      ends = refl;
      goes_on = λ u n. refl;
    }
    by_comma a us (suc zero) p q = record {
      state = Lone fs o a;
      runs = step s parts (Due fs) (Due (Opened o true ∷ fs)) o (a ∷ []) (opened p) ∙ step s parts (Due (Opened o true ∷ fs)) (Lone fs o a) a [] (lone_begins s parts a.word fs o a q.0);
      ends = refl;
      goes_on = λ u n. refl;
    }
    by_comma a [] (suc (suc j)) p q = absurd q.1
    by_comma a (c ∷ us) (suc (suc j)) p q =
        let f = one_slot s (g.is_comma c.word) g.after_comma us q.1 in
        let i = row_part s fs (o ∷ a ∷ c ∷ []) g.after_comma us j f.1 in
        let e : (ends : Bool) → cut ends (suc (suc (suc j))) (g.RowTest (o ∷ (a ∷ (c ∷ us)))) ≡ RowTest (o ∷ (a ∷ (c ∷ take j us))) = λ ends. third a c us j in record {
          state = i.state;
          runs = step s parts (Due fs) (Due (Opened o true ∷ fs)) o (a ∷ (c ∷ take j us)) (opened p)
              ∙ step s parts (Due (Opened o true ∷ fs)) (Lone fs o a) a (c ∷ take j us) (lone_begins s parts a.word fs o a q.0)
              ∙ step s parts (Lone fs o a) (row_next parts fs (o ∷ a ∷ c ∷ []) g.after_comma) c (take j us) (comma_goes s parts c.word fs o a c f.0)
              ∙ i.runs;
          ends = i.ends ∙ ap (filled_up fs) (sym (e true));
          goes_on = λ u n. i.goes_on u ∙ ap (filled_up fs) (sym (e false));
        }
      where
        third : (a c : Token) (us : List Token) (j : ℕ) → cut_row (suc (suc (suc j))) (o ∷ (a ∷ (c ∷ us))) ≡ RowTest (o ∷ (a ∷ (c ∷ take j us)))
        third a c us j = ap (λ (b : Bool). if b then RowTest (take (suc (suc (suc j))) (o ∷ (a ∷ (c ∷ us)))) else if nat_lt 1 (suc (suc (suc j))) then Paren o (Leaf a) else if nat_lt 0 (suc (suc (suc j))) then Paren o Gap else Gap) (lt_is 2 (suc (suc (suc j))) (omega arith))

    by_first : (us : List Token) → (g.is_open o.word ≡ true) × g.FillSlots s (g.FirstSlot ∷ g.CommaSlot ∷ g.after_comma) us → Cuts s fs (g.RowTest (o ∷ us)) (suc k)
    by_first [] p = absurd p.1
    by_first (a ∷ us) p = by_comma a us k p.0 (one_slot s (g.first_is s a.word) (g.CommaSlot ∷ g.after_comma) us p.1)

-- a whole parenthesis is all of it
pub cut_all : (s : Setting) (n : ℕ) (c : Bool) (tree : Shape) (ends : Bool) (k : ℕ) → IsAt s n c tree → len tree ≤ k → cut ends k tree ≡ whole tree
cut_all s n c (g.Leaf t) ends k h l = ap (λ (b : Bool). if b then Leaf t else Gap) (lt_is 0 k (omega arith))
cut_all s n c (g.Prefix t y) ends zero h l = absurd (omega arith)
cut_all s n c (g.Prefix t y) ends (suc k) h l = cut_prefix ends k t y ∙ ap (Prefix t) (cut_all s (g.prefix_level t.word) (g.wants t.word) y ends k h.3 (omega arith))
cut_all s n c (g.Binary x t y) ends k h l =
    let e = some_behind (tokens_of x) (tokens_of y) t in
    let j = past k (len x) (omega arith) in
    cut_binary ends k j.more x y t j.are ∙ ap (Binary (whole x) t) (cut_all s (suc (g.level t.word)) (g.wants t.word) y ends j.more h.4 (let f = j.are in omega arith))
cut_all s n c (g.Range x b y a z) ends k h l =
    let e = some_behind (tokens_of x) (tokens_of y ++ (a ∷ tokens_of z)) b in
    let f = some_behind (tokens_of y) (tokens_of z) a in
    let i = past k (len x) (omega arith) in
    let j = past i.more (len y) (let o = i.are in omega arith) in
    cut_range ends k j.more x y z b a (i.are ∙ ap (λ (m : ℕ). len x + suc m) j.are) ∙ ap (Range (whole x) b (whole y) a) (cut_all s 5 false z ends j.more h.6 (let o = i.are in let p = j.are in omega arith))
cut_all s n c (g.Nullness x i ws) ends k h l =
    let e = some_behind (tokens_of x) ws i in cut_nullness ends k x i ws (omega arith)
cut_all s n c (g.Paren o y p) ends zero h l = absurd (omega arith)
cut_all s n c (g.Paren o y p) ends (suc k) h l =
    let e = some_behind (tokens_of y) [] p in cut_paren ends k o p y ∙ ap (Paren o) (cut_all s 1 c y ends k h.2 (omega arith))
cut_all s n c (g.Signed t d) ends k h l = ap (λ (b : Bool). if b then Signed t d else if nat_lt 0 k then (if ends then Prefix t Gap else Signed t d) else Gap) (lt_is 1 k (omega arith))
cut_all s n c (g.RowTest []) ends k h l = absurd h.2
cut_all s n c (g.RowTest (o ∷ [])) ends k h l = absurd ((one_slot s (g.is_open o.word) (g.FirstSlot ∷ g.CommaSlot ∷ g.after_comma) [] h.2).1)
cut_all s n c (g.RowTest (o ∷ a ∷ [])) ends k h l =
    absurd ((one_slot s (g.first_is s a.word) (g.CommaSlot ∷ g.after_comma) [] ((one_slot s (g.is_open o.word) (g.FirstSlot ∷ g.CommaSlot ∷ g.after_comma) (a ∷ []) h.2).1)).1)
cut_all s n c (g.RowTest (o ∷ a ∷ b ∷ ts)) ends k h l =
    ap (λ (test : Bool). if test then RowTest (take k (o ∷ a ∷ b ∷ ts)) else if nat_lt 1 k then Paren o (Leaf a) else if nat_lt 0 k then Paren o Gap else Gap) (lt_is 2 k (omega arith))
    ∙ ap RowTest (take_all k (o ∷ a ∷ b ∷ ts) l)

append_nil : (xs : List Token) → xs ≡ xs ++ []
append_nil xs = sym (append-nil xs)

prefix_cuts : (s : Setting) (fs : List (Frame Part)) (t : Token) (y : Shape) (j : ℕ) → 1 ≤ g.prefix_level t.word → Ready s (g.gives t.word) fs → IsAt s (g.prefix_level t.word) (g.wants t.word) y → g.Unjoined t.word y
    → Cuts s (Before t ∷ fs) y j → Cuts s fs (g.Prefix t y) (suc j)
prefix_cuts s fs t y j l r h u i = by_minus j i (g.is_minus t.word) refl
  where
    plain : g.is_minus t.word ≡ true → StartsPlain (tokens_of y ++ [])
    plain e = starts_plain s t.word (g.wants t.word) y [] e (subst (λ (k : ℕ). IsAt s k (g.wants t.word) y) (minus_level t.word e) h) u

    within : (j : ℕ) → Cuts s (Before t ∷ fs) y j → (g.is_minus t.word ≡ true → StartsPlain (take j (tokens_of y))) → Cuts s fs (g.Prefix t y) (suc j)
    within j i p = deeper s fs (Before t ∷ fs) (g.Prefix t y) y (t ∷ []) [] (suc j) j refl (append_nil (drop j (tokens_of y))) (sign_runs s parts t.word fs t (take j (tokens_of y)) refl l r p)
        (ap (filled_up fs) (cut_prefix true j t y)) (ap (filled_up fs) (cut_prefix false j t y)) i

    by_minus : (j : ℕ) → Cuts s (Before t ∷ fs) y j → (b : Bool) → g.is_minus t.word ≡ b → Cuts s fs (g.Prefix t y) (suc j)
    by_minus j i false e = within j i (λ f. absurd (not_both (g.is_minus t.word) f e))
      where
        not_both : (b : Bool) → b ≡ true → b ≡ false → ⊥
        not_both b e f = cc
    by_minus (suc j) i true e = within (suc j) i (λ f. plain_take j (tokens_of y) (plain f))
    by_minus zero i true e = record {
      state = SawMinus fs t;
      runs = step s parts (Due fs) (SawMinus fs t) t [] (ap (λ (v : Word). begun s parts v fs t) (minus_is t.word e));
      ends = ap (λ (x : Part). filled_up fs (Prefix t x)) (sym (cut_none true y)) ∙ ap (filled_up fs) (sym (cut_prefix true 0 t y));
      goes_on = λ v n. ap (λ (b : Bool). if b then filled_up fs (Signed t v) else filled_up fs (Prefix t Gap)) (next_plain (tokens_of y) v (plain e) n)
          ∙ ap (λ (x : Part). filled_up fs (Prefix t x)) (sym (cut_none false y)) ∙ ap (filled_up fs) (sym (cut_prefix false 0 t y));
    }

pub cuts : (s : Setting) (n : ℕ) (c : Bool) (tree : Shape) (fs : List (Frame Part)) (k : ℕ) → IsAt s n c tree → Waits n fs → Ready s c fs → k ≤ len tree → Cuts s fs tree k
cuts s n c (g.Leaf t) fs k h wt r l = leaf_cuts s fs t k h.1 l
cuts s n c (g.Signed t d) fs k h wt r l = signed_cuts s fs t d k h.1 h.2 l
cuts s n c (g.RowTest ts) fs k h wt r l = row_cuts s fs ts k (r h.1) h.2 l
cuts s n c (g.Prefix t y) fs zero h wt r l = none_read s fs (g.Prefix t y)
cuts s n c (g.Prefix t y) fs (suc j) h wt r l =
    prefix_cuts s fs t y j h.1 (λ e. r (h.2 ∙ e)) h.3 h.4 (cuts s (g.prefix_level t.word) (g.wants t.word) y (Before t ∷ fs) j h.3 (λ u l e. prefix_waits t.word u l e) (λ e. e) (omega arith))
cuts s n c (g.Binary x t y) fs k h wt r l =
    by_place (nat_lt (len x) k) refl
    (λ m. cuts s (g.left_level t.word) (g.wants t.word) x fs k h.3 (λ u o e. let least = left_least t.word in wt u o (omega arith)) (λ e. r (h.2 ∙ gives_too t.word e)) m)
    (λ j m. cuts s (suc (g.level t.word)) (g.wants t.word) y (Behind (whole x) t ∷ fs) j h.4 (λ u o e. let q = left_least u in omega arith) (λ e. e) m)
  where
    left : k ≤ len x → Cuts s fs x k → Cuts s fs (g.Binary x t y) k
    left m i = carried s fs (g.Binary x t y) x (t ∷ tokens_of y) k refl m (cut_in_binary true k x y t m) (cut_in_binary false k x y t m) i

    right : (j : ℕ) → k ≡ len x + suc j → Cuts s (Behind (whole x) t ∷ fs) y j → Cuts s fs (g.Binary x t y) k
    right j e i =
        let least = left_least t.word in
        let a = complete s parts (g.left_level t.word) (g.wants t.word) x fs (t ∷ take j (tokens_of y)) h.3 (λ u k e. wt u k (omega arith)) (λ e. r (h.2 ∙ gives_too t.word e)) (quiet_token fs t _ (level_quiet t.word h.1)) in
        let m = joins s parts t.word a.held t fs (whole x) h.1 (λ e. r (h.2 ∙ e)) (a.closes (g.left_level t.word) (omega arith) ∙ stop parts (g.left_level t.word) fs (g.wants t.word) (whole x) (wt t.word h.1 h.0)) in
        deeper s fs (Behind (whole x) t ∷ fs) (g.Binary x t y) y (tokens_of x ++ t ∷ []) [] k j
        (take_past k j (tokens_of x) (tokens_of y) t e ∙ sym (append_assoc (tokens_of x) (t ∷ []) (take j (tokens_of y))))
        (drop_past k j (tokens_of x) (tokens_of y) t e ∙ append_nil (drop j (tokens_of y)))
        (ap (run s parts (Due fs)) (append_assoc (tokens_of x) (t ∷ []) (take j (tokens_of y))) ∙ a.runs ∙ step s parts (Read a.held) (Due (Behind (whole x) t ∷ fs)) t (take j (tokens_of y)) m)
        (ap (filled_up fs) (cut_binary true k j x y t e)) (ap (filled_up fs) (cut_binary false k j x y t e)) i

    by_place : (b : Bool) → nat_lt (len x) k ≡ b → (k ≤ len x → Cuts s fs x k) → ((j : ℕ) → j ≤ len y → Cuts s (Behind (whole x) t ∷ fs) y j) → Cuts s fs (g.Binary x t y) k
    by_place false e at_left at_right = let m = lt_no (len x) k e in left m (at_left m)
    by_place true e at_left at_right =
        let j = past k (len x) (lt_yes (len x) k e) in
        let o = some_behind (tokens_of x) (tokens_of y) t in
        right j.more j.are (at_right j.more (let p = j.are in omega arith))
cuts s n c (g.Nullness x i ws) fs k h wt r l =
    by_place (nat_lt (len x) k) refl (λ m. cuts s 5 false x fs k h.4 (λ u o e. wt u o (omega arith)) (λ e. cc) m)
  where
    behind : (j : ℕ) → k ≡ len x + suc j → Cuts s fs (g.Nullness x i ws) k
    behind j e =
        let five = wt (w.Compare op.Eq) (omega arith) h.0 in
        let one = complete s parts 5 false x fs (i ∷ take j ws) h.4 (λ u k e. wt u k (omega arith)) (λ e. cc) (quiet_token fs i _ (is_quiet i.word h.2)) in
        let q = null_part s fs (whole x) i ws j h.3 in record {
          state = q.state;
          runs = ap (run s parts (Due fs)) (take_past k j (tokens_of x) ws i e) ∙ one.runs
              ∙ step s parts (Read one.held) _ i (take j ws) (iss s parts i.word one.held i fs (whole x) h.2 (r h.1) (one.closes 5 (omega arith) ∙ stop parts 5 fs false (whole x) five))
              ∙ q.runs;
          ends = q.ends ∙ ap (filled_up fs) (sym (cut_nullness true k x i ws (omega arith)));
          goes_on = λ u n. q.goes_on u ∙ ap (filled_up fs) (sym (cut_nullness false k x i ws (omega arith)));
        }

    by_place : (b : Bool) → nat_lt (len x) k ≡ b → (k ≤ len x → Cuts s fs x k) → Cuts s fs (g.Nullness x i ws) k
    by_place false e at_left = let m = lt_no (len x) k e in carried s fs (g.Nullness x i ws) x (i ∷ ws) k refl m (cut_in_nullness true k x i ws m) (cut_in_nullness false k x i ws m) (at_left m)
    by_place true e at_left = let j = past k (len x) (lt_yes (len x) k e) in behind j.more j.are
cuts s n c (g.Paren o y p) fs zero h wt r l = none_read s fs (g.Paren o y p)
cuts s n c (g.Paren o y p) fs (suc j) h wt r l =
    by_place (nat_lt (len y) j) refl (λ m. cuts s 1 c y (Opened o (takes_condition s fs) ∷ fs) j h.2 (λ u o e. let d = left_least u in omega arith) r m)
  where
    opened : begun s parts o.word fs o ≡ Some (Due (Opened o (takes_condition s fs) ∷ fs))
    opened = opens s parts o.word fs o h.0

    within : j ≤ len y → Cuts s (Opened o (takes_condition s fs) ∷ fs) y j → Cuts s fs (g.Paren o y p) (suc j)
    within m i = deeper s fs (Opened o (takes_condition s fs) ∷ fs) (g.Paren o y p) y (o ∷ []) (p ∷ []) (suc j) j
        (ap (λ (ts : List Token). o ∷ ts) (take_in j (tokens_of y) (p ∷ []) m)) (drop_in j (tokens_of y) (p ∷ []) m)
        (step s parts (Due fs) (Due (Opened o (takes_condition s fs) ∷ fs)) o (take j (tokens_of y)) opened)
        (ap (filled_up fs) (cut_paren true j o p y)) (ap (filled_up fs) (cut_paren false j o p y)) i

    closed_all : len y < j → Cuts s fs (g.Paren o y p) (suc j)
    closed_all m =
        let e = some_behind (tokens_of y) [] p in
        let all : take j (tokens_of y ++ p ∷ []) ≡ tokens_of y ++ p ∷ [] = take_all j (tokens_of y ++ p ∷ []) (omega arith) in
        let i = complete s parts 1 c y (Opened o (takes_condition s fs) ∷ fs) (p ∷ []) h.2 (λ u o e. let d = left_least u in omega arith) r (close_quiet p.word h.1) in record {
          state = Read (record { stack = fs; condition = c; x = Paren o (whole y) });
          runs = step s parts (Due fs) (Due (Opened o (takes_condition s fs) ∷ fs)) o _ opened ∙ ap (run s parts (Due (Opened o (takes_condition s fs) ∷ fs))) all ∙ i.runs
              ∙ step s parts (Read i.held) _ p [] (parens s parts p.word i.held p o (takes_condition s fs) fs c (whole y) h.1 (i.closes 1 (omega arith)));
          ends = ap (λ (x : Part). filled_up fs (Paren o x)) (sym (cut_all s 1 c y true j h.2 (omega arith))) ∙ ap (filled_up fs) (sym (cut_paren true j o p y));
          goes_on = λ u n. ap (λ (x : Part). filled_up fs (Paren o x)) (sym (cut_all s 1 c y false j h.2 (omega arith))) ∙ ap (filled_up fs) (sym (cut_paren false j o p y));
        }

    by_place : (b : Bool) → nat_lt (len y) j ≡ b → (j ≤ len y → Cuts s (Opened o (takes_condition s fs) ∷ fs) y j) → Cuts s fs (g.Paren o y p) (suc j)
    by_place false e inner = let m = lt_no (len y) j e in within m (inner m)
    by_place true e inner = closed_all (lt_yes (len y) j e)
cuts s n c (g.Range x b y a z) fs k h wt r l =
    by_place (nat_lt (len x) k) refl
    (λ m. cuts s 5 false x fs k h.4 (λ u o e. wt u o (omega arith)) (λ e. cc) m)
    (λ j m. cuts s 5 false y (Low (whole x) b ∷ fs) j h.5 (λ u o e. let q = left_least u in omega arith) (λ e. cc) m)
    (λ j m. cuts s 5 false z (High (whole x) b (whole y) a ∷ fs) j h.6 (λ u o e. let q = left_least u in omega arith) (λ e. cc) m)
  where
    first : (us : List Token) → run s parts (Due fs) (tokens_of x ++ (b ∷ us)) ≡ run s parts (Due (Low (whole x) b ∷ fs)) us
    first us =
        let five = wt (w.Compare op.Eq) (omega arith) h.0 in
        let one = complete s parts 5 false x fs (b ∷ us) h.4 (λ u k e. wt u k (omega arith)) (λ e. cc) (quiet_token fs b _ (between_quiet b.word h.2)) in
        one.runs ∙ step s parts (Read one.held) _ b us (ranges s parts b.word one.held b fs (whole x) h.2 (r h.1) (one.closes 5 (omega arith) ∙ stop parts 5 fs false (whole x) five))

    second : (us : List Token) → run s parts (Due (Low (whole x) b ∷ fs)) (tokens_of y ++ (a ∷ us)) ≡ run s parts (Due (High (whole x) b (whole y) a ∷ fs)) us
    second us =
        let low = complete s parts 5 false y (Low (whole x) b ∷ fs) (a ∷ us) h.5 (λ u k e. let o = left_least u in omega arith) (λ e. cc) tt in
        low.runs ∙ step s parts (Read low.held) _ a us (ands s parts a.word low.held a fs (whole x) b (whole y) h.3 (low.closes 2 (omega arith)))

    in_low : (j : ℕ) → k ≡ len x + suc j → j ≤ len y → Cuts s (Low (whole x) b ∷ fs) y j → Cuts s fs (g.Range x b y a z) k
    in_low j e m i = deeper s fs (Low (whole x) b ∷ fs) (g.Range x b y a z) y (tokens_of x ++ b ∷ []) (a ∷ tokens_of z) k j
        (take_past k j (tokens_of x) (tokens_of y ++ (a ∷ tokens_of z)) b e ∙ ap (λ (us : List Token). tokens_of x ++ (b ∷ us)) (take_in j (tokens_of y) (a ∷ tokens_of z) m) ∙ sym (append_assoc (tokens_of x) (b ∷ []) (take j (tokens_of y))))
        (drop_past k j (tokens_of x) (tokens_of y ++ (a ∷ tokens_of z)) b e ∙ drop_in j (tokens_of y) (a ∷ tokens_of z) m)
        (ap (run s parts (Due fs)) (append_assoc (tokens_of x) (b ∷ []) (take j (tokens_of y))) ∙ first (take j (tokens_of y)))
        (ap (filled_up fs) (cut_lower true k j x y z b a e m)) (ap (filled_up fs) (cut_lower false k j x y z b a e m)) i

    in_high : (i j : ℕ) → k ≡ len x + suc i → i ≡ len y + suc j → Cuts s (High (whole x) b (whole y) a ∷ fs) z j → Cuts s fs (g.Range x b y a z) k
    in_high i j e f q =
        let all : k ≡ len x + suc (len y + suc j) = e ∙ ap (λ (m : ℕ). len x + suc m) f in
        let front = tokens_of x ++ (b ∷ (tokens_of y ++ a ∷ [])) in
        let joined : (us : List Token) → (tokens_of x ++ (b ∷ (tokens_of y ++ a ∷ []))) ++ us ≡ tokens_of x ++ (b ∷ (tokens_of y ++ (a ∷ us))) =
        λ us. append_assoc (tokens_of x) (b ∷ (tokens_of y ++ a ∷ [])) us ∙ ap (λ (l : List Token). tokens_of x ++ (b ∷ l)) (append_assoc (tokens_of y) (a ∷ []) us) in
        deeper s fs (High (whole x) b (whole y) a ∷ fs) (g.Range x b y a z) z (tokens_of x ++ (b ∷ (tokens_of y ++ a ∷ []))) [] k j
        (take_past k i (tokens_of x) (tokens_of y ++ (a ∷ tokens_of z)) b e ∙ ap (λ (us : List Token). tokens_of x ++ (b ∷ us)) (take_past i j (tokens_of y) (tokens_of z) a f) ∙ sym (joined (take j (tokens_of z))))
        (drop_past k i (tokens_of x) (tokens_of y ++ (a ∷ tokens_of z)) b e ∙ drop_past i j (tokens_of y) (tokens_of z) a f ∙ append_nil (drop j (tokens_of z)))
        (ap (run s parts (Due fs)) (joined (take j (tokens_of z))) ∙ first (tokens_of y ++ (a ∷ take j (tokens_of z))) ∙ second (take j (tokens_of z)))
        (ap (filled_up fs) (cut_range true k j x y z b a all)) (ap (filled_up fs) (cut_range false k j x y z b a all)) q

    by_low : (i : ℕ) → k ≡ len x + suc i → (t : Bool) → nat_lt (len y) i ≡ t → ((j : ℕ) → j ≤ len y → Cuts s (Low (whole x) b ∷ fs) y j) → ((j : ℕ) → j ≤ len z → Cuts s (High (whole x) b (whole y) a ∷ fs) z j) → Cuts s fs (g.Range x b y a z) k
    by_low i e false d low high = let m = lt_no (len y) i d in in_low i e m (low i m)
    by_low i e true d low high =
        let j = past i (len y) (lt_yes (len y) i d) in
        let o = some_behind (tokens_of x) (tokens_of y ++ (a ∷ tokens_of z)) b in
        let p = some_behind (tokens_of y) (tokens_of z) a in
        in_high i j.more e j.are (high j.more (let q = j.are in omega arith))

    by_place : (t : Bool) → nat_lt (len x) k ≡ t → (k ≤ len x → Cuts s fs x k) → ((j : ℕ) → j ≤ len y → Cuts s (Low (whole x) b ∷ fs) y j) → ((j : ℕ) → j ≤ len z → Cuts s (High (whole x) b (whole y) a ∷ fs) z j) → Cuts s fs (g.Range x b y a z) k
    by_place false e at_left low high = let m = lt_no (len x) k e in carried s fs (g.Range x b y a z) x (b ∷ (tokens_of y ++ (a ∷ tokens_of z))) k refl m (cut_in_range true k x y z b a m) (cut_in_range false k x y z b a m) (at_left m)
    by_place true e at_left low high = let i = past k (len x) (lt_yes (len x) k e) in by_low i.more i.are (nat_lt (len y) i.more) refl low high
