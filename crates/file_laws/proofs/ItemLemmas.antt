-- At each place a part of a line is one item at most.
use Rattle.std.proofs.Common.{◌≡◌, ℕ, ◌<◌, Bool, true, false, cond, List, [], ◌∷◌, ◌++◌, length, Some, refl, sym, ap, subst, ◌∙◌, arith, get_or}
use Rattle.std.specs.Prelude.{◌==◌, codes}
use Rattle.std.specs.List.{AllByRecursion}
use Rattle.std.proofs.lemmas.Bool.Decides.{nat_tests}
use Rattle.std.proofs.lemmas.Slice.Eq.{bytes_eq-Decides}
use Rattle.std.specs.Char.{is_ascii_digit, to_ascii_lowercase}
use Rattle.std.specs.Str.{str_eq_ignore_ascii_case, str_to_ascii_lowercase}
use Rattle.std.specs.Prelude.{nat_lt}
use Rattle.statement_tokens.specs.Spellings.{IsNumberText, doubled}
use Rattle.file_text.specs.declared.places.Section.{Section}
use Rattle.file_text.specs.declared.places.Section.TheVariants.{PtcLines, IsolationLines, ReplicaLines, TableLines, RowLines, SessionLines, LocalLines, ScheduleLines, EndLines}
use Rattle.file_text.specs.declared.places.Keyword.TheVariants.{First, WorkloadWord, RepeatableWord, ReadWord, CommittedWord, UncommittedWord, SerializableWord, IntWord, BigIntWord, VarcharWord, KeyWord, NotWord, NullKeyword}
use Rattle.file_text.specs.Said.{spelling, Item, Word, Sign, Name, Version, Count, Length, NodeWord, SessionWord, LocalWord, Turns, Digits, Quote, IsItem}
use Rattle.file_text.specs.declared.places.ColumnSpot.TheVariants.{FirstColumn, SecondColumn, FurtherColumn}
use Rattle.file_text.specs.declared.places.Spot.{Spot}
use Rattle.file_text.specs.declared.places.Spot.TheVariants.{SectionDue, WorkloadDue, VersionDue, LevelDue, ReadDue, CommittedDue, CountDue, TableDue, ColumnsDue, ColumnDue, KindDue, LengthOpens, LengthDue, LengthCloses, MarkDue, NullDue, CommaDue, NodeDue, RowTableDue, RowOpens, LiteralDue, DigitsDue, LiteralEnds, SessionDue, LocalDue, TurnsDue, NothingDue}
use Rattle.file_text.specs.Spots.{when, opens_section, moved}
use Rattle.file_text.proofs.WordLemmas.{digit_bounds, digits_once, decimal_once, led_once, local_once, word_once, node_once}

heads : (a b : ℕ) (xs ys : List ℕ) → a ∷ xs ≡ b ∷ ys → a ≡ b
heads a b xs ys e = cc

when_true : {A : Type 0} (b : Bool) (x y : A) → when b x ≡ Some y → b ≡ true
when_true true x y e = refl
when_true false x y e = cc

same_number : (m n : ℕ) → (m == n) ≡ true → m ≡ n
same_number m n e = grind (arith, nat_tests)

opens_same : (section other : Section) (a : Spot) → opens_section section other ≡ Some a → other ≡ section
opens_same PtcLines PtcLines a e = refl
opens_same PtcLines _ a e = cc
opens_same IsolationLines IsolationLines a e = refl
opens_same IsolationLines _ a e = cc
opens_same ReplicaLines ReplicaLines a e = refl
opens_same ReplicaLines _ a e = cc
opens_same TableLines TableLines a e = refl
opens_same TableLines _ a e = cc
opens_same RowLines RowLines a e = refl
opens_same RowLines _ a e = cc
opens_same SessionLines SessionLines a e = refl
opens_same SessionLines _ a e = cc
opens_same LocalLines LocalLines a e = refl
opens_same LocalLines _ a e = cc
opens_same ScheduleLines ScheduleLines a e = refl
opens_same ScheduleLines _ a e = cc
opens_same EndLines EndLines a e = refl
opens_same EndLines _ a e = cc

sign_once : (s t : ℕ) (text : List ℕ) → text ≡ s ∷ [] → text ≡ t ∷ [] → Sign s ≡ Sign t
sign_once s t text h k = ap Sign (heads s t [] [] (sym h ∙ k))

-- the small letters of a word are those of its keyword
lowered : (letters text : List ℕ) → str_eq_ignore_ascii_case letters text ≡ true → str_to_ascii_lowercase letters ≡ str_to_ascii_lowercase text
lowered letters text e = let l = str_to_ascii_lowercase letters in let t = str_to_ascii_lowercase text in grind (arith, bytes_eq-Decides l t, e)

same_letters : (v w text : List ℕ) → str_eq_ignore_ascii_case v text ≡ true → str_eq_ignore_ascii_case w text ≡ true → str_to_ascii_lowercase v ≡ str_to_ascii_lowercase w
same_letters v w text h k = lowered v text h ∙ sym (lowered w text k)

first_small : (byte : ℕ) → byte < 65 → to_ascii_lowercase byte ≡ byte
first_small byte l = let t : nat_lt byte 65 ≡ true = grind (arith, nat_tests) in rw t refl

digits_no_null : (n : ℕ) (text : List ℕ) → IsNumberText n text → str_eq_ignore_ascii_case (codes "NULL") text ≡ true → ⊥
digits_no_null n [] d e = d.some refl
digits_no_null n (b ∷ bs) d e =
    let o = digit_bounds b d.digits.0 in
    let u = first_small b (omega (arith, o.1)) in
    let f : 110 ≡ to_ascii_lowercase b = ap (λ (t : List ℕ). get_or t 0 0) (lowered (codes "NULL") (b ∷ bs) e) in omega (arith, u, o, f)

digits_no_sign : (n sign : ℕ) (text : List ℕ) → IsNumberText n text → text ≡ sign ∷ [] → (sign == 45) ≡ true → ⊥
digits_no_sign n sign text d e q =
    let s = same_number sign 45 q in
    let b : AllByRecursion (λ (byte : ℕ). is_ascii_digit byte ≡ true) (sign ∷ []) = subst (AllByRecursion (λ (byte : ℕ). is_ascii_digit byte ≡ true)) e d.digits in
    let o = digit_bounds sign b.0 in omega (arith, s, o)

digits_no_quote : (n : ℕ) (text rest : List ℕ) → IsNumberText n text → text ≡ 39 ∷ rest → ⊥
digits_no_quote n text rest d e =
    let b : AllByRecursion (λ (byte : ℕ). is_ascii_digit byte ≡ true) (39 ∷ rest) = subst (AllByRecursion (λ (byte : ℕ). is_ascii_digit byte ≡ true)) e d.digits in
    let o = digit_bounds 39 b.0 in omega (arith, o)

quote_no_null : (text rest : List ℕ) → text ≡ 39 ∷ rest → str_eq_ignore_ascii_case (codes "NULL") text ≡ true → ⊥
quote_no_null text rest h k = let f : 110 ≡ 39 = ap (λ (t : List ℕ). get_or t 0 0) (lowered (codes "NULL") text k ∙ ap str_to_ascii_lowercase h) in omega (arith, f)

quote_no_sign : (sign : ℕ) (text rest : List ℕ) → text ≡ 39 ∷ rest → text ≡ sign ∷ [] → (sign == 45) ≡ true → ⊥
quote_no_sign sign text rest h k q = let s = same_number sign 45 q in let f = heads 39 sign rest [] (sym h ∙ k) in omega (arith, s, f)

word_no_sign : (sign : ℕ) (text word : List ℕ) → str_eq_ignore_ascii_case word text ≡ true → text ≡ sign ∷ [] → 1 ≡ length (str_to_ascii_lowercase word)
word_no_sign sign text word h k = ap length (sym (lowered word text h ∙ ap str_to_ascii_lowercase k))

tails : (a b : ℕ) (xs ys : List ℕ) → a ∷ xs ≡ b ∷ ys → xs ≡ ys
tails a b xs ys e = cc

no_cons : (x : ℕ) (xs : List ℕ) → [] ≡ x ∷ xs → ⊥
no_cons x xs e = cc

not_same : (m n : ℕ) → ((m == n) ≡ false) → m ≡ n → ⊥
not_same m n q e = grind (arith, nat_tests)

onto : (x y : ℕ) (xs ys : List ℕ) → x ≡ y → xs ≡ ys → x ∷ xs ≡ y ∷ ys
onto x y xs ys e f = cc

quotes_once : (xs ys xr yr : List ℕ) → doubled xs ++ 39 ∷ xr ≡ doubled ys ++ 39 ∷ yr → xr ≡ [] → yr ≡ [] → xs ≡ ys
quotes_once [] [] xr yr e f g = refl
quotes_once [] (y ∷ ys) xr yr e f g =
    elim (y == 39) as (λ b. (y == 39) ≡ b → 39 ∷ xr ≡ cond b (39 ∷ (39 ∷ doubled ys)) (y ∷ doubled ys) ++ 39 ∷ yr → [] ≡ y ∷ ys) [
      | true ↦ λ q e. let t = tails 39 39 xr (39 ∷ (doubled ys ++ 39 ∷ yr)) e in absurd (no_cons 39 _ (sym f ∙ t))
      | false ↦ λ q e. let t = heads 39 y xr (doubled ys ++ 39 ∷ yr) e in absurd (not_same y 39 q (sym t))
    ] refl e
quotes_once (x ∷ xs) [] xr yr e f g =
    elim (x == 39) as (λ b. (x == 39) ≡ b → cond b (39 ∷ (39 ∷ doubled xs)) (x ∷ doubled xs) ++ 39 ∷ xr ≡ 39 ∷ yr → x ∷ xs ≡ []) [
      | true ↦ λ q e. let t = tails 39 39 (39 ∷ (doubled xs ++ 39 ∷ xr)) yr e in absurd (no_cons 39 _ (sym g ∙ sym t))
      | false ↦ λ q e. let t = heads x 39 (doubled xs ++ 39 ∷ xr) yr e in absurd (not_same x 39 q t)
    ] refl e
quotes_once (x ∷ xs) (y ∷ ys) xr yr e f g =
    elim (x == 39) as (λ b. (x == 39) ≡ b → cond b (39 ∷ (39 ∷ doubled xs)) (x ∷ doubled xs) ++ 39 ∷ xr ≡ doubled (y ∷ ys) ++ 39 ∷ yr → x ∷ xs ≡ y ∷ ys) [
      | true ↦ λ q e. elim (y == 39) as (λ b. (y == 39) ≡ b → (39 ∷ (39 ∷ doubled xs)) ++ 39 ∷ xr ≡ cond b (39 ∷ (39 ∷ doubled ys)) (y ∷ doubled ys) ++ 39 ∷ yr → x ∷ xs ≡ y ∷ ys) [
        | true ↦ λ r e. onto x y xs ys (same_number x 39 q ∙ sym (same_number y 39 r)) (quotes_once xs ys xr yr (tails 39 39 _ _ (tails 39 39 _ _ e)) f g)
        | false ↦ λ r e. absurd (not_same y 39 r (sym (heads 39 y _ _ e)))
      ] refl e
      | false ↦ λ q e. elim (y == 39) as (λ b. (y == 39) ≡ b → (x ∷ doubled xs) ++ 39 ∷ xr ≡ cond b (39 ∷ (39 ∷ doubled ys)) (y ∷ doubled ys) ++ 39 ∷ yr → x ∷ xs ≡ y ∷ ys) [
        | true ↦ λ r e. absurd (not_same x 39 q (heads x 39 _ _ e))
        | false ↦ λ r e. onto x y xs ys (heads x y _ _ e) (quotes_once xs ys xr yr (tails x y _ _ e) f g)
      ] refl e
    ] refl e

quote_once : (xs ys text : List ℕ) → text ≡ 39 ∷ (doubled xs ++ 39 ∷ []) → text ≡ 39 ∷ (doubled ys ++ 39 ∷ []) → xs ≡ ys
quote_once xs ys text h k = quotes_once xs ys [] [] (tails 39 39 _ _ (sym h ∙ k)) refl refl

pub one_item : (spot : Spot) (i j : Item) (a b : Spot) (text : List ℕ) → moved spot i ≡ Some a → moved spot j ≡ Some b → IsItem i text → IsItem j text → i ≡ j
one_item (SectionDue section) (Word (First s)) (Word (First t)) a b text p q h k = let e = opens_same section s a p in let f = opens_same section t b q in cc
one_item (SectionDue section) (Word (First s)) _ a b text p q h k = cc
one_item (SectionDue section) _ j a b text p q h k = cc
one_item WorkloadDue (Word WorkloadWord) (Word WorkloadWord) a b text p q h k = refl
one_item WorkloadDue (Word WorkloadWord) _ a b text p q h k = cc
one_item WorkloadDue _ j a b text p q h k = cc
one_item VersionDue (Version m) (Version n) a b text p q h k = ap Version (decimal_once m n text text refl h k)
one_item VersionDue (Version m) _ a b text p q h k = cc
one_item VersionDue _ j a b text p q h k = cc
one_item LevelDue (Word RepeatableWord) (Word RepeatableWord) a b text p q h k = refl
one_item LevelDue (Word RepeatableWord) (Word ReadWord) a b text p q h k = absurd (let e : 10 ≡ 4 = ap length (same_letters (spelling RepeatableWord) (spelling ReadWord) text h k) in omega (arith, e))
one_item LevelDue (Word RepeatableWord) (Word SerializableWord) a b text p q h k = absurd (let e : 10 ≡ 12 = ap length (same_letters (spelling RepeatableWord) (spelling SerializableWord) text h k) in omega (arith, e))
one_item LevelDue (Word RepeatableWord) _ a b text p q h k = cc
one_item LevelDue (Word ReadWord) (Word RepeatableWord) a b text p q h k = absurd (let e : 4 ≡ 10 = ap length (same_letters (spelling ReadWord) (spelling RepeatableWord) text h k) in omega (arith, e))
one_item LevelDue (Word ReadWord) (Word ReadWord) a b text p q h k = refl
one_item LevelDue (Word ReadWord) (Word SerializableWord) a b text p q h k = absurd (let e : 4 ≡ 12 = ap length (same_letters (spelling ReadWord) (spelling SerializableWord) text h k) in omega (arith, e))
one_item LevelDue (Word ReadWord) _ a b text p q h k = cc
one_item LevelDue (Word SerializableWord) (Word RepeatableWord) a b text p q h k = absurd (let e : 12 ≡ 10 = ap length (same_letters (spelling SerializableWord) (spelling RepeatableWord) text h k) in omega (arith, e))
one_item LevelDue (Word SerializableWord) (Word ReadWord) a b text p q h k = absurd (let e : 12 ≡ 4 = ap length (same_letters (spelling SerializableWord) (spelling ReadWord) text h k) in omega (arith, e))
one_item LevelDue (Word SerializableWord) (Word SerializableWord) a b text p q h k = refl
one_item LevelDue (Word SerializableWord) _ a b text p q h k = cc
one_item LevelDue _ j a b text p q h k = cc
one_item ReadDue (Word ReadWord) (Word ReadWord) a b text p q h k = refl
one_item ReadDue (Word ReadWord) _ a b text p q h k = cc
one_item ReadDue _ j a b text p q h k = cc
one_item CommittedDue (Word CommittedWord) (Word CommittedWord) a b text p q h k = refl
one_item CommittedDue (Word CommittedWord) (Word UncommittedWord) a b text p q h k = absurd (let e : 9 ≡ 11 = ap length (same_letters (spelling CommittedWord) (spelling UncommittedWord) text h k) in omega (arith, e))
one_item CommittedDue (Word CommittedWord) _ a b text p q h k = cc
one_item CommittedDue (Word UncommittedWord) (Word CommittedWord) a b text p q h k = absurd (let e : 11 ≡ 9 = ap length (same_letters (spelling UncommittedWord) (spelling CommittedWord) text h k) in omega (arith, e))
one_item CommittedDue (Word UncommittedWord) (Word UncommittedWord) a b text p q h k = refl
one_item CommittedDue (Word UncommittedWord) _ a b text p q h k = cc
one_item CommittedDue _ j a b text p q h k = cc
one_item CountDue (Count m) (Count n) a b text p q h k = ap Count (decimal_once m n text text refl h k)
one_item CountDue (Count m) _ a b text p q h k = cc
one_item CountDue _ j a b text p q h k = cc
one_item TableDue (Name m) (Name n) a b text p q h k = ap Name (sym h.is ∙ k.is)
one_item TableDue (Name m) _ a b text p q h k = cc
one_item TableDue _ j a b text p q h k = cc
one_item ColumnsDue (Sign s) (Sign t) a b text p q h k = sign_once s t text h k
one_item ColumnsDue (Sign s) _ a b text p q h k = cc
one_item ColumnsDue _ j a b text p q h k = cc
one_item (ColumnDue c) (Name m) (Name n) a b text p q h k = ap Name (sym h.is ∙ k.is)
one_item (ColumnDue c) (Name m) _ a b text p q h k = cc
one_item (ColumnDue c) _ j a b text p q h k = cc
one_item (KindDue c) (Word IntWord) (Word IntWord) a b text p q h k = refl
one_item (KindDue c) (Word IntWord) (Word BigIntWord) a b text p q h k = absurd (let e : 3 ≡ 6 = ap length (same_letters (spelling IntWord) (spelling BigIntWord) text h k) in omega (arith, e))
one_item (KindDue c) (Word IntWord) (Word VarcharWord) a b text p q h k = absurd (let e : 3 ≡ 7 = ap length (same_letters (spelling IntWord) (spelling VarcharWord) text h k) in omega (arith, e))
one_item (KindDue c) (Word IntWord) _ a b text p q h k = cc
one_item (KindDue c) (Word BigIntWord) (Word IntWord) a b text p q h k = absurd (let e : 6 ≡ 3 = ap length (same_letters (spelling BigIntWord) (spelling IntWord) text h k) in omega (arith, e))
one_item (KindDue c) (Word BigIntWord) (Word BigIntWord) a b text p q h k = refl
one_item (KindDue c) (Word BigIntWord) (Word VarcharWord) a b text p q h k = absurd (let e : 6 ≡ 7 = ap length (same_letters (spelling BigIntWord) (spelling VarcharWord) text h k) in omega (arith, e))
one_item (KindDue c) (Word BigIntWord) _ a b text p q h k = cc
one_item (KindDue c) (Word VarcharWord) (Word IntWord) a b text p q h k = absurd (let e : 7 ≡ 3 = ap length (same_letters (spelling VarcharWord) (spelling IntWord) text h k) in omega (arith, e))
one_item (KindDue c) (Word VarcharWord) (Word BigIntWord) a b text p q h k = absurd (let e : 7 ≡ 6 = ap length (same_letters (spelling VarcharWord) (spelling BigIntWord) text h k) in omega (arith, e))
one_item (KindDue c) (Word VarcharWord) (Word VarcharWord) a b text p q h k = refl
one_item (KindDue c) (Word VarcharWord) _ a b text p q h k = cc
one_item (KindDue c) _ j a b text p q h k = cc
one_item (LengthOpens c) (Sign s) (Sign t) a b text p q h k = sign_once s t text h k
one_item (LengthOpens c) (Sign s) _ a b text p q h k = cc
one_item (LengthOpens c) _ j a b text p q h k = cc
one_item (LengthDue c) (Length m) (Length n) a b text p q h k = ap Length (decimal_once m n text text refl h k)
one_item (LengthDue c) (Length m) _ a b text p q h k = cc
one_item (LengthDue c) _ j a b text p q h k = cc
one_item (LengthCloses c) (Sign s) (Sign t) a b text p q h k = sign_once s t text h k
one_item (LengthCloses c) (Sign s) _ a b text p q h k = cc
one_item (LengthCloses c) _ j a b text p q h k = cc
one_item (MarkDue FirstColumn) (Word KeyWord) (Word KeyWord) a b text p q h k = refl
one_item (MarkDue FirstColumn) (Word KeyWord) _ a b text p q h k = cc
one_item (MarkDue FirstColumn) _ j a b text p q h k = cc
one_item (MarkDue SecondColumn) (Word KeyWord) (Word KeyWord) a b text p q h k = refl
one_item (MarkDue SecondColumn) (Word KeyWord) (Word NotWord) a b text p q h k = absurd (let e : 107 ≡ 110 = ap (λ (t : List ℕ). get_or t 0 0) (same_letters (spelling KeyWord) (spelling NotWord) text h k) in omega (arith, e))
one_item (MarkDue SecondColumn) (Word KeyWord) (Sign t) a b text p q h k = absurd (let e : 1 ≡ 3 = word_no_sign t text (spelling KeyWord) h k in omega (arith, e))
one_item (MarkDue SecondColumn) (Word KeyWord) _ a b text p q h k = cc
one_item (MarkDue SecondColumn) (Word NotWord) (Word KeyWord) a b text p q h k = absurd (let e : 110 ≡ 107 = ap (λ (t : List ℕ). get_or t 0 0) (same_letters (spelling NotWord) (spelling KeyWord) text h k) in omega (arith, e))
one_item (MarkDue SecondColumn) (Word NotWord) (Word NotWord) a b text p q h k = refl
one_item (MarkDue SecondColumn) (Word NotWord) (Sign t) a b text p q h k = absurd (let e : 1 ≡ 3 = word_no_sign t text (spelling NotWord) h k in omega (arith, e))
one_item (MarkDue SecondColumn) (Word NotWord) _ a b text p q h k = cc
one_item (MarkDue SecondColumn) (Sign s) (Sign t) a b text p q h k = sign_once s t text h k
one_item (MarkDue SecondColumn) (Sign s) (Word KeyWord) a b text p q h k = absurd (let e : 1 ≡ 3 = word_no_sign s text (spelling KeyWord) k h in omega (arith, e))
one_item (MarkDue SecondColumn) (Sign s) (Word NotWord) a b text p q h k = absurd (let e : 1 ≡ 3 = word_no_sign s text (spelling NotWord) k h in omega (arith, e))
one_item (MarkDue SecondColumn) (Sign s) _ a b text p q h k = cc
one_item (MarkDue SecondColumn) _ j a b text p q h k = cc
one_item (MarkDue FurtherColumn) (Word NotWord) (Word NotWord) a b text p q h k = refl
one_item (MarkDue FurtherColumn) (Word NotWord) (Sign t) a b text p q h k = absurd (let e : 1 ≡ 3 = word_no_sign t text (spelling NotWord) h k in omega (arith, e))
one_item (MarkDue FurtherColumn) (Word NotWord) _ a b text p q h k = cc
one_item (MarkDue FurtherColumn) (Sign s) (Sign t) a b text p q h k = sign_once s t text h k
one_item (MarkDue FurtherColumn) (Sign s) (Word NotWord) a b text p q h k = absurd (let e : 1 ≡ 3 = word_no_sign s text (spelling NotWord) k h in omega (arith, e))
one_item (MarkDue FurtherColumn) (Sign s) _ a b text p q h k = cc
one_item (MarkDue FurtherColumn) _ j a b text p q h k = cc
one_item (NullDue c) (Word NullKeyword) (Word NullKeyword) a b text p q h k = refl
one_item (NullDue c) (Word NullKeyword) _ a b text p q h k = cc
one_item (NullDue c) _ j a b text p q h k = cc
one_item (CommaDue c) (Sign s) (Sign t) a b text p q h k = sign_once s t text h k
one_item (CommaDue c) (Sign s) _ a b text p q h k = cc
one_item (CommaDue c) _ j a b text p q h k = cc
one_item NodeDue (NodeWord m) (NodeWord n) a b text p q h k = ap NodeWord (node_once m n text h k)
one_item NodeDue (NodeWord m) _ a b text p q h k = cc
one_item NodeDue _ j a b text p q h k = cc
one_item RowTableDue (Name m) (Name n) a b text p q h k = ap Name (sym h.is ∙ k.is)
one_item RowTableDue (Name m) _ a b text p q h k = cc
one_item RowTableDue _ j a b text p q h k = cc
one_item RowOpens (Sign s) (Sign t) a b text p q h k = sign_once s t text h k
one_item RowOpens (Sign s) _ a b text p q h k = cc
one_item RowOpens _ j a b text p q h k = cc
one_item LiteralDue (Digits m) (Digits n) a b text p q h k = ap Digits (digits_once m n text h k)
one_item LiteralDue (Digits m) (Quote n) a b text p q h k = absurd (digits_no_quote m text _ h k.is)
one_item LiteralDue (Digits m) (Word NullKeyword) a b text p q h k = absurd (digits_no_null m text h k)
one_item LiteralDue (Digits m) (Sign n) a b text p q h k = absurd (digits_no_sign m n text h k (when_true (n == 45) _ b q))
one_item LiteralDue (Digits m) _ a b text p q h k = cc
one_item LiteralDue (Quote m) (Digits n) a b text p q h k = absurd (digits_no_quote n text _ k h.is)
one_item LiteralDue (Quote m) (Quote n) a b text p q h k = ap Quote (quote_once m n text h.is k.is)
one_item LiteralDue (Quote m) (Word NullKeyword) a b text p q h k = absurd (quote_no_null text _ h.is k)
one_item LiteralDue (Quote m) (Sign n) a b text p q h k = absurd (quote_no_sign n text _ h.is k (when_true (n == 45) _ b q))
one_item LiteralDue (Quote m) _ a b text p q h k = cc
one_item LiteralDue (Word NullKeyword) (Digits n) a b text p q h k = absurd (digits_no_null n text k h)
one_item LiteralDue (Word NullKeyword) (Quote n) a b text p q h k = absurd (quote_no_null text _ k.is h)
one_item LiteralDue (Word NullKeyword) (Word NullKeyword) a b text p q h k = refl
one_item LiteralDue (Word NullKeyword) (Sign n) a b text p q h k = absurd ((let e : 1 ≡ 4 = word_no_sign n text (spelling NullKeyword) h k in omega (arith, e)))
one_item LiteralDue (Word NullKeyword) _ a b text p q h k = cc
one_item LiteralDue (Sign m) (Digits n) a b text p q h k = absurd (digits_no_sign n m text k h (when_true (m == 45) _ a p))
one_item LiteralDue (Sign m) (Quote n) a b text p q h k = absurd (quote_no_sign m text _ k.is h (when_true (m == 45) _ a p))
one_item LiteralDue (Sign m) (Word NullKeyword) a b text p q h k = absurd ((let e : 1 ≡ 4 = word_no_sign m text (spelling NullKeyword) k h in omega (arith, e)))
one_item LiteralDue (Sign m) (Sign n) a b text p q h k = sign_once m n text h k
one_item LiteralDue (Sign m) _ a b text p q h k = cc
one_item LiteralDue _ j a b text p q h k = cc
one_item DigitsDue (Digits m) (Digits n) a b text p q h k = ap Digits (digits_once m n text h k)
one_item DigitsDue (Digits m) _ a b text p q h k = cc
one_item DigitsDue _ j a b text p q h k = cc
one_item LiteralEnds (Sign s) (Sign t) a b text p q h k = sign_once s t text h k
one_item LiteralEnds (Sign s) _ a b text p q h k = cc
one_item LiteralEnds _ j a b text p q h k = cc
one_item SessionDue (SessionWord m) (SessionWord n) a b text p q h k = ap SessionWord (led_once 115 m n text h k)
one_item SessionDue (SessionWord m) _ a b text p q h k = cc
one_item SessionDue _ j a b text p q h k = cc
one_item LocalDue (LocalWord m v) (LocalWord n w) a b text p q h k = let e = local_once m n v w text h k in let f = e.first in let g = e.second in cc
one_item LocalDue (LocalWord m v) _ a b text p q h k = cc
one_item LocalDue _ j a b text p q h k = cc
one_item TurnsDue (Turns v) (Turns w) a b text p q h k = ap Turns (word_once v w text h k)
one_item TurnsDue (Turns v) _ a b text p q h k = cc
one_item TurnsDue _ j a b text p q h k = cc
one_item NothingDue i j a b text p q h k = cc
