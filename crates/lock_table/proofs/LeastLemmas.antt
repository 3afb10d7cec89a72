-- The least key past an edge depends on which keys there are alone, and of two lists it is the lesser of both.
use Rattle.std.proofs.Common.{◌≡◌, ◌⊎◌, inl, inr, List, [], ◌∷◌, ◌++◌, Bool, true, false, cond, Option, None, Some, refl, sym, ap, subst, ◌∙◌}
use Rattle.std.specs.declared.cmp.Ordering.{Ordering}
use Rattle.std.specs.declared.cmp.Ordering.TheVariants.{Less, Equal, Greater}
use Rattle.std.specs.Ordering.{is_lt, is_gt, ordering_reverse}
use Rattle.row_types.specs.declared.values.Value.{Value}
use Rattle.row_types.specs.declared.edges.Edge.{Edge}
use Rattle.row_types.specs.Order.{key_cmp, is_past_edge, is_before_edge}
use Rattle.row_types.proofs.OrderLemmas.{keys_total, keys_exact}
use Rattle.lock_table.specs.FoundKeys.{lesser_of, greater_of}
use Rattle.lock_table.specs.Stops.{lesser_key, greater_key, least_key_past, greatest_key_before, IsAmong}
use Rattle.lock_table.proofs.GapLemmas.{least_bound, greatest_bound, least_is, lesser_left, lesser_right, greater_left, greater_right, le_trans}

-- what the least of the keys past an edge is
abbrev pub IsTheLeast : Edge → List (List Value) → Option (List Value) → Type 0
IsTheLeast edge keys None = (key : List Value) → IsAmong key keys → is_past_edge edge key ≡ true → ⊥
IsTheLeast edge keys (Some least) =
    IsAmong least keys × (is_past_edge edge least ≡ true)
    × ((key : List Value) → IsAmong key keys → is_past_edge edge key ≡ true → is_gt (key_cmp least key) ≡ false)

not_both_gt : (o p : Ordering) → o ≡ ordering_reverse p → is_gt o ≡ false → is_gt p ≡ false → p ≡ Equal
not_both_gt Less Less e g h = cc
not_both_gt Less Equal e g h = refl
not_both_gt Less Greater e g h = cc
not_both_gt Equal Less e g h = cc
not_both_gt Equal Equal e g h = refl
not_both_gt Equal Greater e g h = cc
not_both_gt Greater p e g h = cc

pub same_least : (a b : List Value) → is_gt (key_cmp a b) ≡ false → is_gt (key_cmp b a) ≡ false → a ≡ b
same_least a b below above = keys_exact a b (not_both_gt (key_cmp b a) (key_cmp a b) (keys_total.antisymm b a) above below)

pub the_least : (edge : Edge) (keys : List (List Value)) → IsTheLeast edge keys (least_key_past edge keys)
the_least edge keys = at (least_key_past edge keys) refl
  where
    some_of : (a b : List Value) → Some a ≡ Some b → a ≡ b
    some_of a b e = cc

    at : (o : Option (List Value)) → least_key_past edge keys ≡ o → IsTheLeast edge keys o
    at None e = λ key among past. let b = least_bound edge keys key among past in let q : None ≡ Some b.least = sym e ∙ b.is in cc
    at (Some m) e =
        let is = least_is edge keys m e in (
          is.among,
          is.past,
          λ key among past. let b = least_bound edge keys key among past in
              subst (λ (k : List Value). is_gt (key_cmp k key) ≡ false) (some_of b.least m (sym b.is ∙ e)) b.below,
        )

pub least_unique : (edge : Edge) (keys : List (List Value)) (a b : Option (List Value)) → IsTheLeast edge keys a → IsTheLeast edge keys b → a ≡ b
least_unique edge keys None None first second = refl
least_unique edge keys None (Some b) first second = absurd (first b second.0 second.1)
least_unique edge keys (Some a) None first second = absurd (second a first.0 first.1)
least_unique edge keys (Some a) (Some b) first second = ap Some (same_least a b (first.2 b second.0 second.1) (second.2 a first.0 first.1))

-- it depends on which keys there are
pub least_moved : (edge : Edge) (keys others : List (List Value)) (least : Option (List Value)) → ((key : List Value) → IsAmong key keys → IsAmong key others)
    → ((key : List Value) → IsAmong key others → IsAmong key keys) → IsTheLeast edge keys least → IsTheLeast edge others least
least_moved edge keys others None there back is = λ key among past. is key (back key among) past
least_moved edge keys others (Some least) there back is = (there least is.0, is.1, λ key among past. is.2 key (back key among) past)

pub least_of_same : (edge : Edge) (keys others : List (List Value)) → ((key : List Value) → IsAmong key keys → IsAmong key others) → ((key : List Value) → IsAmong key others → IsAmong key keys)
    → least_key_past edge keys ≡ least_key_past edge others
least_of_same edge keys others there back =
    least_unique edge others (least_key_past edge keys) (least_key_past edge others) (least_moved edge keys others (least_key_past edge keys) there back (the_least edge keys)) (the_least edge others)

pub front : (key : List Value) (xs ys : List (List Value)) → IsAmong key xs → IsAmong key (xs ++ ys)
front key [] ys i = absurd i
front key (x ∷ xs) ys (inl e) = inl e
front key (x ∷ xs) ys (inr i) = inr (front key xs ys i)

pub back : (key : List Value) (xs ys : List (List Value)) → IsAmong key ys → IsAmong key (xs ++ ys)
back key [] ys i = i
back key (x ∷ xs) ys i = inr (back key xs ys i)

deeper : (key x : List Value) (xs ys : List (List Value)) → IsAmong key xs ⊎ IsAmong key ys → IsAmong key (x ∷ xs) ⊎ IsAmong key ys
deeper key x xs ys (inl i) = inl (inr i)
deeper key x xs ys (inr i) = inr i

pub either : (key : List Value) (xs ys : List (List Value)) → IsAmong key (xs ++ ys) → IsAmong key xs ⊎ IsAmong key ys
either key [] ys i = inr i
either key (x ∷ xs) ys (inl e) = inl (inl e)
either key (x ∷ xs) ys (inr i) = deeper key x xs ys (either key xs ys i)

joined : (edge : Edge) (xs ys : List (List Value)) (a b : Option (List Value)) → IsTheLeast edge xs a → IsTheLeast edge ys b → IsTheLeast edge (xs ++ ys) (lesser_of a b)
joined edge xs ys None None first second = λ key among past. at key past (either key xs ys among)
  where
    at : (key : List Value) → is_past_edge edge key ≡ true → IsAmong key xs ⊎ IsAmong key ys → ⊥
    at key past (inl i) = first key i past
    at key past (inr i) = second key i past
joined edge xs ys None (Some b) first second = (back b xs ys second.0, second.1, λ key among past. at key past (either key xs ys among))
  where
    at : (key : List Value) → is_past_edge edge key ≡ true → IsAmong key xs ⊎ IsAmong key ys → is_gt (key_cmp b key) ≡ false
    at key past (inl i) = absurd (first key i past)
    at key past (inr i) = second.2 key i past
joined edge xs ys (Some a) None first second = (front a xs ys first.0, first.1, λ key among past. at key past (either key xs ys among))
  where
    at : (key : List Value) → is_past_edge edge key ≡ true → IsAmong key xs ⊎ IsAmong key ys → is_gt (key_cmp a key) ≡ false
    at key past (inl i) = first.2 key i past
    at key past (inr i) = absurd (second key i past)
joined edge xs ys (Some a) (Some b) first second = (among (is_lt (key_cmp b a)), past_it (is_lt (key_cmp b a)), λ key i past. at key past (either key xs ys i))
  where
    among : (t : Bool) → IsAmong (cond t b a) (xs ++ ys)
    among true = back b xs ys second.0
    among false = front a xs ys first.0

    past_it : (t : Bool) → is_past_edge edge (cond t b a) ≡ true
    past_it true = second.1
    past_it false = first.1

    at : (key : List Value) → is_past_edge edge key ≡ true → IsAmong key xs ⊎ IsAmong key ys → is_gt (key_cmp (lesser_key a (Some b)) key) ≡ false
    at key past (inl i) = le_trans (lesser_key a (Some b)) a key (lesser_left a b) (first.2 key i past)
    at key past (inr i) = le_trans (lesser_key a (Some b)) b key (lesser_right a b) (second.2 key i past)

-- of two lists it is the lesser of both: the next stop is the table's next key or the next one that another
-- owner has locked
pub least_joined : (edge : Edge) (xs ys : List (List Value)) → least_key_past edge (xs ++ ys) ≡ lesser_of (least_key_past edge xs) (least_key_past edge ys)
least_joined edge xs ys =
    least_unique edge (xs ++ ys) (least_key_past edge (xs ++ ys)) (lesser_of (least_key_past edge xs) (least_key_past edge ys)) (the_least edge (xs ++ ys))
    (joined edge xs ys (least_key_past edge xs) (least_key_past edge ys) (the_least edge xs) (the_least edge ys))

-- the same for the greatest key before an edge

abbrev pub IsTheGreatest : Edge → List (List Value) → Option (List Value) → Type 0
IsTheGreatest edge keys None = (key : List Value) → IsAmong key keys → is_before_edge edge key ≡ true → ⊥
IsTheGreatest edge keys (Some greatest) =
    IsAmong greatest keys × (is_before_edge edge greatest ≡ true)
    × ((key : List Value) → IsAmong key keys → is_before_edge edge key ≡ true → is_gt (key_cmp key greatest) ≡ false)

-- the greatest key before an edge is one of the keys
record IsGreatestOf (edge : Edge) (keys : List (List Value)) (key : List Value) : Type 0 where
  among : IsAmong key keys
  before : is_before_edge edge key ≡ true

greater_found : (edge : Edge) (x key : List Value) (keys : List (List Value)) (m : Option (List Value)) → is_before_edge edge x ≡ true
    → ((t : List Value) → m ≡ Some t → IsGreatestOf edge keys t) → Some (greater_key x m) ≡ Some key → IsGreatestOf edge (x ∷ keys) key
greater_found edge x key keys None before more e = let same : x ≡ key = cc in record { among = inl same; before = ap (is_before_edge edge) (sym same) ∙ before }
greater_found edge x key keys (Some m) before more e = at (is_lt (key_cmp x m)) e
  where
    at : (t : Bool) → Some (cond t m x) ≡ Some key → IsGreatestOf edge (x ∷ keys) key
    at true f = let same : m ≡ key = cc in let is = more key (ap Some same) in record { among = inr is.among; before = is.before }
    at false f = let same : x ≡ key = cc in record { among = inl same; before = ap (is_before_edge edge) (sym same) ∙ before }

greatest_of : (edge : Edge) (keys : List (List Value)) (key : List Value) → greatest_key_before edge keys ≡ Some key → IsGreatestOf edge keys key
greatest_of edge [] key e = cc
greatest_of edge (x ∷ keys) key e = at (λ t f. greatest_of edge keys t f) (is_before_edge edge x) refl e
  where
    at : ((t : List Value) → greatest_key_before edge keys ≡ Some t → IsGreatestOf edge keys t) → (t : Bool) → is_before_edge edge x ≡ t
        → cond t (Some (greater_key x (greatest_key_before edge keys))) (greatest_key_before edge keys) ≡ Some key → IsGreatestOf edge (x ∷ keys) key
    at more true before f = greater_found edge x key keys (greatest_key_before edge keys) before more f
    at more false before f = let is = more key f in record { among = inr is.among; before = is.before }

pub the_greatest : (edge : Edge) (keys : List (List Value)) → IsTheGreatest edge keys (greatest_key_before edge keys)
the_greatest edge keys = at (greatest_key_before edge keys) refl
  where
    some_of : (a b : List Value) → Some a ≡ Some b → a ≡ b
    some_of a b e = cc

    at : (o : Option (List Value)) → greatest_key_before edge keys ≡ o → IsTheGreatest edge keys o
    at None e = λ key among before. let b = greatest_bound edge keys key among before in let q : None ≡ Some b.greatest = sym e ∙ b.is in cc
    at (Some m) e =
        let is = greatest_of edge keys m e in (
          is.among,
          is.before,
          λ key among before. let b = greatest_bound edge keys key among before in
              subst (λ (k : List Value). is_gt (key_cmp key k) ≡ false) (some_of b.greatest m (sym b.is ∙ e)) b.above,
        )

pub greatest_unique : (edge : Edge) (keys : List (List Value)) (a b : Option (List Value)) → IsTheGreatest edge keys a → IsTheGreatest edge keys b → a ≡ b
greatest_unique edge keys None None first second = refl
greatest_unique edge keys None (Some b) first second = absurd (first b second.0 second.1)
greatest_unique edge keys (Some a) None first second = absurd (second a first.0 first.1)
greatest_unique edge keys (Some a) (Some b) first second = ap Some (same_least a b (second.2 a first.0 first.1) (first.2 b second.0 second.1))

greatest_moved : (edge : Edge) (keys others : List (List Value)) (greatest : Option (List Value)) → ((key : List Value) → IsAmong key keys → IsAmong key others)
    → ((key : List Value) → IsAmong key others → IsAmong key keys) → IsTheGreatest edge keys greatest → IsTheGreatest edge others greatest
greatest_moved edge keys others None there back is = λ key among before. is key (back key among) before
greatest_moved edge keys others (Some greatest) there back is = (there greatest is.0, is.1, λ key among before. is.2 key (back key among) before)

pub greatest_of_same : (edge : Edge) (keys others : List (List Value)) → ((key : List Value) → IsAmong key keys → IsAmong key others) → ((key : List Value) → IsAmong key others → IsAmong key keys)
    → greatest_key_before edge keys ≡ greatest_key_before edge others
greatest_of_same edge keys others there back =
    greatest_unique edge others (greatest_key_before edge keys) (greatest_key_before edge others) (greatest_moved edge keys others (greatest_key_before edge keys) there back (the_greatest edge keys)) (the_greatest edge others)

joined_greatest : (edge : Edge) (xs ys : List (List Value)) (a b : Option (List Value)) → IsTheGreatest edge xs a → IsTheGreatest edge ys b → IsTheGreatest edge (xs ++ ys) (greater_of a b)
joined_greatest edge xs ys None None first second = λ key among before. at key before (either key xs ys among)
  where
    at : (key : List Value) → is_before_edge edge key ≡ true → IsAmong key xs ⊎ IsAmong key ys → ⊥
    at key before (inl i) = first key i before
    at key before (inr i) = second key i before
joined_greatest edge xs ys None (Some b) first second = (back b xs ys second.0, second.1, λ key among before. at key before (either key xs ys among))
  where
    at : (key : List Value) → is_before_edge edge key ≡ true → IsAmong key xs ⊎ IsAmong key ys → is_gt (key_cmp key b) ≡ false
    at key before (inl i) = absurd (first key i before)
    at key before (inr i) = second.2 key i before
joined_greatest edge xs ys (Some a) None first second = (front a xs ys first.0, first.1, λ key among before. at key before (either key xs ys among))
  where
    at : (key : List Value) → is_before_edge edge key ≡ true → IsAmong key xs ⊎ IsAmong key ys → is_gt (key_cmp key a) ≡ false
    at key before (inl i) = first.2 key i before
    at key before (inr i) = absurd (second key i before)
joined_greatest edge xs ys (Some a) (Some b) first second = (among (is_lt (key_cmp a b)), before_it (is_lt (key_cmp a b)), λ key i before. at key before (either key xs ys i))
  where
    among : (t : Bool) → IsAmong (cond t b a) (xs ++ ys)
    among true = back b xs ys second.0
    among false = front a xs ys first.0

    before_it : (t : Bool) → is_before_edge edge (cond t b a) ≡ true
    before_it true = second.1
    before_it false = first.1

    at : (key : List Value) → is_before_edge edge key ≡ true → IsAmong key xs ⊎ IsAmong key ys → is_gt (key_cmp key (greater_key a (Some b))) ≡ false
    at key before (inl i) = le_trans key a (greater_key a (Some b)) (first.2 key i before) (greater_left a b)
    at key before (inr i) = le_trans key b (greater_key a (Some b)) (second.2 key i before) (greater_right a b)

pub greatest_joined : (edge : Edge) (xs ys : List (List Value)) → greatest_key_before edge (xs ++ ys) ≡ greater_of (greatest_key_before edge xs) (greatest_key_before edge ys)
greatest_joined edge xs ys =
    greatest_unique edge (xs ++ ys) (greatest_key_before edge (xs ++ ys)) (greater_of (greatest_key_before edge xs) (greatest_key_before edge ys)) (the_greatest edge (xs ++ ys))
    (joined_greatest edge xs ys (greatest_key_before edge xs) (greatest_key_before edge ys) (the_greatest edge xs) (the_greatest edge ys))
