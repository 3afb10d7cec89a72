-- The first part that does not fit is one, and a whole line has none.
use Rattle.std.proofs.Common.{◌≡◌, ◌⊎◌, Bool, true, false, List, [], ◌∷◌, ◌++◌, Option, Some, None, refl, sym, ap, subst, ◌∙◌, append_assoc, append-nil, inl, inr}
use Rattle.file_text.specs.Parts.{Part}
use Rattle.file_text.specs.declared.places.Section.{Section}
use Rattle.file_text.specs.Said.{Said, Item, IsItem, IsLineOf, Spells}
use Rattle.file_text.specs.Rules.{Digit, misplaced, InRange, MayBegin, Begins, Misfit, Missing, Unfit, Misplaced, Misses, FitsUpTo}
use Rattle.file_text.specs.declared.places.Spot.{Spot}
use Rattle.file_text.specs.declared.places.Spot.TheVariants.{SectionDue}
use Rattle.file_text.specs.Spots.{moved, bound, walked}
use Rattle.file_laws.specs.Laws.{SameMisfit}
use Rattle.file_laws.proofs.WalkLemmas.{complete}
use Rattle.file_laws.proofs.ItemLemmas.{one_item}

-- ---- lists

pub tail_of : {X : Type 0} (a b : X) (xs ys : List X) → a ∷ xs ≡ b ∷ ys → xs ≡ ys
tail_of a b xs ys e = cc

pub head_of : {X : Type 0} (a b : X) (xs ys : List X) → a ∷ xs ≡ b ∷ ys → a ≡ b
head_of a b xs ys e = cc

pub onto : {X : Type 0} (a b : X) (xs ys : List X) → a ≡ b → xs ≡ ys → a ∷ xs ≡ b ∷ ys
onto a b xs ys e f = cc

pub record Longer {X : Type 0} (xs left ys right : List X) : Type 0 where
  pub item : X
  pub more : List X
  pub longer : ys ≡ xs ++ item ∷ more
  pub begins : left ≡ item ∷ (more ++ right)

-- two ways to cut a list
pub cuts : {X : Type 0} (xs left ys right : List X) → xs ++ left ≡ ys ++ right → ((xs ≡ ys) × (left ≡ right)) ⊎ (Longer xs left ys right ⊎ Longer ys right xs left)
cuts [] left [] right e = inl (refl, e)
cuts [] left (y ∷ ys) right e = inr (inl (record { item = y; more = ys; longer = refl; begins = e }))
cuts (x ∷ xs) left [] right e = inr (inr (record { item = x; more = xs; longer = refl; begins = sym e }))
cuts (x ∷ xs) left (y ∷ ys) right e =
    let h = head_of x y (xs ++ left) (ys ++ right) e in
    elim (cuts xs left ys right (tail_of x y (xs ++ left) (ys ++ right) e)) [
      | inl r ↦ inl (onto x y xs ys h r.0, r.1)
      | inr r ↦ elim r [
        | inl s ↦ inr (inl (record { item = s.item; more = s.more; longer = onto y x ys (xs ++ s.item ∷ s.more) (sym h) s.longer; begins = s.begins }))
        | inr s ↦ inr (inr (record { item = s.item; more = s.more; longer = onto x y xs (ys ++ s.item ∷ s.more) h s.longer; begins = s.begins }))
      ]
    ]

-- ---- walks

pub some_is : {A : Type 0} (x y : A) → Some x ≡ Some y → x ≡ y
some_is x y e = cc

pub none_some : {A : Type 0} (o : Option A) (x : A) → o ≡ None → o ≡ Some x → ⊥
none_some o x e f = cc

pub true_false : (b : Bool) → b ≡ true → b ≡ false → ⊥
true_false b e f = cc

pub bound_some : (o : Option Spot) (f : Spot → Option Spot) (z : Spot) → bound o f ≡ Some z → (s : Spot) × (o ≡ Some s) × (f s ≡ Some z)
bound_some None f z e = cc
bound_some (Some s) f z e = (s, refl, e)

pub walk_on : (spot mid z : Spot) (xs ys : List Item) → walked spot xs ≡ Some mid → walked mid ys ≡ Some z → walked spot (xs ++ ys) ≡ Some z
walk_on spot mid z [] ys e f = ap (λ (s : Spot). walked s ys) (some_is spot mid e) ∙ f
walk_on spot mid z (x ∷ xs) ys e f =
    let b = bound_some (moved spot x) (λ next. walked next xs) mid e in
    ap (λ (p : Option Spot). bound p (λ next. walked next (xs ++ ys))) b.1 ∙ walk_on b.0 mid z xs ys b.2 f

pub one_step : (spot next : Spot) (item : Item) → moved spot item ≡ Some next → walked spot (item ∷ []) ≡ Some next
one_step spot next item e = ap (λ (p : Option Spot). bound p (λ n. walked n [])) e

pub range_push : (before : List Said) (acc front : List Item) (item : Item) → InRange before acc front → misplaced before (acc ++ front) item ≡ None → InRange before acc (front ++ item ∷ [])
range_push before acc [] item r e = (subst (λ (l : List Item). misplaced before l item ≡ None) (append-nil acc) e, tt)
range_push before acc (x ∷ front) item r e = (r.0, range_push before (acc ++ x ∷ []) front item r.1 (subst (λ (l : List Item). misplaced before l item ≡ None) (sym (append_assoc acc (x ∷ []) front)) e))

pub record Front (spot : Spot) (xs ys : List Item) (z : Spot) : Type 0 where
  pub mid : Spot
  pub first : walked spot xs ≡ Some mid
  pub rest : walked mid ys ≡ Some z

bound_is : (o : Option Spot) (f : Spot → Option Spot) (s z : Spot) → o ≡ Some s → f s ≡ Some z → bound o f ≡ Some z
bound_is o f s z e g = ap (λ (p : Option Spot). bound p f) e ∙ g

pub walk_front : (spot : Spot) (xs ys : List Item) (z : Spot) → walked spot (xs ++ ys) ≡ Some z → Front spot xs ys z
walk_front spot [] ys z e = record { mid = spot; first = refl; rest = e }
walk_front spot (x ∷ xs) ys z e =
    let b = bound_some (moved spot x) (λ next. walked next (xs ++ ys)) z e in
    let r = walk_front b.0 xs ys z b.2 in
    record { mid = r.mid; first = bound_is (moved spot x) (λ next. walked next xs) b.0 r.mid b.1 r.first; rest = r.rest }

-- what may begin a line is walked
pub walks : (section : Section) (front : List Item) → MayBegin section front → (s : Spot) × (walked (SectionDue section) front ≡ Some s)
walks section front m =
    let c = complete section (front ++ m.back) m.line in
    let r = walk_front (SectionDue section) front m.back c.end c.walks in (r.mid, r.first)

pub same_walk : (spot x y : Spot) (a b : List Item) (parts : List Part) → walked spot a ≡ Some x → walked spot b ≡ Some y → Spells a parts → Spells b parts → a ≡ b
same_walk spot x y [] [] parts f g h k = refl
same_walk spot x y [] (j ∷ b) [] f g h k = absurd k
same_walk spot x y [] (j ∷ b) (part ∷ parts) f g h k = absurd h
same_walk spot x y (i ∷ a) [] [] f g h k = absurd h
same_walk spot x y (i ∷ a) [] (part ∷ parts) f g h k = absurd k
same_walk spot x y (i ∷ a) (j ∷ b) [] f g h k = absurd h
same_walk spot x y (i ∷ a) (j ∷ b) (part ∷ parts) f g h k =
    let p = bound_some (moved spot i) (λ next. walked next a) x f in
    let q = bound_some (moved spot j) (λ next. walked next b) y g in
    let e = one_item spot i j p.0 q.0 part.text p.1 q.1 h.0 k.0 in
    let s : q.0 ≡ p.0 = some_is q.0 p.0 (sym q.1 ∙ ap (moved spot) (sym e) ∙ p.1) in
    onto i j a b e (same_walk p.0 x y a b parts p.2 (subst (λ r. walked r b ≡ Some y) s q.2) h.1 k.1)

-- what begins a line with these parts are these items
pub one_front : (section : Section) (a b : List Item) (parts : List Part) → MayBegin section a → MayBegin section b → Spells a parts → Spells b parts → a ≡ b
one_front section a b parts m n h k = let p = walks section a m in let q = walks section b n in same_walk (SectionDue section) p.0 q.0 a b parts p.1 q.1 h k

pub spells_append : (a b : List Item) (xs ys : List Part) → Spells a xs → Spells b ys → Spells (a ++ b) (xs ++ ys)
spells_append [] b [] ys h k = k
spells_append [] b (x ∷ xs) ys h k = absurd h
spells_append (i ∷ a) b [] ys h k = absurd h
spells_append (i ∷ a) b (x ∷ xs) ys h k = (h.0, spells_append a b xs ys h.1 k)

pub record Split (items : List Item) (xs ys : List Part) : Type 0 where
  pub first : List Item
  pub second : List Item
  pub are : items ≡ first ++ second
  pub of_first : Spells first xs
  pub of_second : Spells second ys

pub spells_split : (items : List Item) (xs ys : List Part) → Spells items (xs ++ ys) → Split items xs ys
spells_split items [] ys h = record { first = []; second = items; are = refl; of_first = tt; of_second = h }
spells_split [] (x ∷ xs) ys h = absurd h
spells_split (i ∷ items) (x ∷ xs) ys h =
    let r = spells_split items xs ys h.1 in
    record { first = i ∷ r.first; second = r.second; are = ap (λ (l : List Item). i ∷ l) r.are; of_first = (h.0, r.of_first); of_second = r.of_second }

pub begins_front : (section : Section) (a b : List Item) → MayBegin section (a ++ b) → MayBegin section a
begins_front section a b m = record { back = b ++ m.back; line = subst (IsLineOf section) (append_assoc a b m.back) m.line }

-- the item at the place where another reading stopped
one_next : (section : Section) (front : List Item) (i j : Item) (fitting : List Part) (part : Part) → MayBegin section (front ++ i ∷ []) → MayBegin section (front ++ j ∷ []) → Spells front fitting → IsItem i part.text → IsItem j part.text → i ≡ j
one_next section front i j fitting part m n s h k =
    last_of front i j (one_front section (front ++ i ∷ []) (front ++ j ∷ []) (fitting ++ part ∷ []) m n (spells_append front (i ∷ []) fitting (part ∷ []) s (h, tt)) (spells_append front (j ∷ []) fitting (part ∷ []) s (k, tt)))
  where
    last_of : (xs : List Item) (i j : Item) → xs ++ i ∷ [] ≡ xs ++ j ∷ [] → i ≡ j
    last_of [] i j e = head_of i j [] [] e
    last_of (x ∷ xs) i j e = last_of xs i j (tail_of x x (xs ++ i ∷ []) (xs ++ j ∷ []) e)

pub range_at : (before : List Said) (acc front : List Item) (item : Item) (more : List Item) → InRange before acc (front ++ item ∷ more) → misplaced before (acc ++ front) item ≡ None
range_at before acc [] item more r = subst (λ (l : List Item). misplaced before l item ≡ None) (sym (append-nil acc)) r.0
range_at before acc (x ∷ front) item more r = subst (λ (l : List Item). misplaced before l item ≡ None) (append_assoc acc (x ∷ []) front) (range_at before (acc ++ x ∷ []) front item more r.1)

-- where a reading stops, no longer one goes on
pub goes_no_further : (section : Section) (before : List Said) (fitting left : List Part) (misfit : Misfit) (front : List Item) (part : Part) (more : List Part) (items : List Item)
    → Begins section before fitting front → Misses section before front left misfit → left ≡ part ∷ more → MayBegin section items → InRange before [] items → (rest : List Part) → Spells items (fitting ++ part ∷ rest) → ⊥
goes_no_further section before fitting left misfit front part more items b m l begin range rest s =
    by_split (spells_split items fitting (part ∷ rest) s)
  where
    cases : (misfit : Misfit) (item : Item) → MayBegin section (front ++ item ∷ []) → misplaced before front item ≡ None → IsItem item part.text → Misses section before front (part ∷ more) misfit → ⊥
    cases Missing item may in_range h m = m
    cases Unfit item may in_range h m = m item may h
    cases (Misplaced digit) item may in_range h m = none_some (misplaced before front item) digit in_range (subst (λ (i : Item). misplaced before front i ≡ Some digit) (one_next section front m.0 item fitting part m.1 may b.spelled m.2 h) m.3)

    at_item : (item : Item) (others : List Item) → items ≡ front ++ item ∷ others → IsItem item part.text → ⊥
    at_item item others e h =
        let may : MayBegin section (front ++ item ∷ []) = begins_front section (front ++ item ∷ []) others (subst (MayBegin section) (e ∙ sym (append_assoc front (item ∷ []) others)) begin) in
        let in_range : misplaced before front item ≡ None = range_at before [] front item others (subst (InRange before []) e range) in
        cases misfit item may in_range h (subst (λ (l : List Part). Misses section before front l misfit) l m)

    by_split : Split items fitting (part ∷ rest) → ⊥
    by_split r = second r.second r.of_second r.are
      where
        second : (second : List Item) → Spells second (part ∷ rest) → items ≡ r.first ++ second → ⊥
        second [] h e = h
        second (item ∷ others) h e =
            let f : r.first ≡ front = one_front section r.first front fitting (begins_front section r.first (item ∷ others) (subst (MayBegin section) e begin)) b.may r.of_first b.spelled in
            at_item item others (e ∙ ap (λ (l : List Item). l ++ item ∷ others) f) h.0

line_begins : (section : Section) (items : List Item) → IsLineOf section items → MayBegin section items
line_begins section items l = record { back = []; line = subst (IsLineOf section) (sym (append-nil items)) l }

-- a whole line has no misfit
pub whole_fits : (section : Section) (before : List Said) (parts fitting left : List Part) (misfit : Misfit) (items : List Item) → IsLineOf section items → Spells items parts → InRange before [] items → FitsUpTo section before parts fitting left misfit → ⊥
whole_fits section before parts fitting left misfit items line s range f = cases left f.are f.misses
  where
    cases : (l : List Part) → parts ≡ fitting ++ l → Misses section before f.front l misfit → ⊥
    cases [] e m = missing misfit m
      where
        whole : IsLineOf section f.front
        whole = subst (IsLineOf section) (one_front section items f.front fitting (line_begins section items line) f.begins.may (subst (Spells items) (e ∙ append-nil fitting) s) f.begins.spelled) line

        missing : (misfit : Misfit) → Misses section before f.front [] misfit → ⊥
        missing Missing m = m whole
        missing Unfit m = m
        missing (Misplaced digit) m = m
    cases (part ∷ more) e m = goes_no_further section before fitting (part ∷ more) misfit f.front part more items f.begins m refl (line_begins section items line) range more (subst (Spells items) e s)

-- there is one first misfit
pub one_misfit : (section : Section) (before : List Said) (parts fitting left other right : List Part) (misfit wrong : Misfit) → FitsUpTo section before parts fitting left misfit → FitsUpTo section before parts other right wrong → SameMisfit fitting other left right misfit wrong
one_misfit section before parts fitting left other right misfit wrong f g =
    elim (cuts fitting left other right (sym f.are ∙ g.are)) [
      | inl r ↦ record { first = r.0; rest = r.1; how = same left right r.1 misfit wrong (subst (λ (x : List Part). Begins section before x f.front) r.0 f.begins) f.misses g.misses }
      | inr r ↦ elim r [
        | inl s ↦ absurd (goes_no_further section before fitting left misfit f.front s.item (s.more ++ right) g.front f.begins f.misses s.begins g.begins.may g.begins.in_range s.more (subst (Spells g.front) s.longer g.begins.spelled))
        | inr s ↦ absurd (goes_no_further section before other right wrong g.front s.item (s.more ++ left) f.front g.begins g.misses s.begins f.begins.may f.begins.in_range s.more (subst (Spells f.front) s.longer f.begins.spelled))
      ]
    ]
  where
    same : (left right : List Part) → left ≡ right → (misfit wrong : Misfit) → Begins section before other f.front → Misses section before f.front left misfit → Misses section before g.front right wrong → misfit ≡ wrong
    same left right e misfit wrong b m n =
        cases left misfit wrong m (subst (λ (x : List Item). Misses section before x left wrong) (sym fronts) (subst (λ (x : List Part). Misses section before g.front x wrong) (sym e) n))
      where
        fronts : f.front ≡ g.front
        fronts = one_front section f.front g.front other b.may g.begins.may b.spelled g.begins.spelled

        digits : (d c : Digit) (o : Option Digit) → o ≡ Some d → o ≡ Some c → Misplaced d ≡ Misplaced c
        digits d c o e f = cc

        cases : (l : List Part) (p q : Misfit) → Misses section before f.front l p → Misses section before f.front l q → p ≡ q
        cases [] Missing Missing m n = refl
        cases [] Missing Unfit m n = absurd n
        cases [] Missing (Misplaced c) m n = absurd n
        cases [] Unfit q m n = absurd m
        cases [] (Misplaced d) q m n = absurd m
        cases (part ∷ l) Missing q m n = absurd m
        cases (part ∷ l) Unfit Missing m n = absurd n
        cases (part ∷ l) Unfit Unfit m n = refl
        cases (part ∷ l) Unfit (Misplaced c) m n = absurd (m n.0 n.1 n.2)
        cases (part ∷ l) (Misplaced d) Missing m n = absurd n
        cases (part ∷ l) (Misplaced d) Unfit m n = absurd (n m.0 m.1 m.2)
        cases (part ∷ l) (Misplaced d) (Misplaced c) m n = digits d c (misplaced before f.front m.0) m.3 (subst (λ (i : Item). misplaced before f.front i ≡ Some c) (one_next section f.front n.0 m.0 other part n.1 m.1 b.spelled n.2 m.2) n.3)
