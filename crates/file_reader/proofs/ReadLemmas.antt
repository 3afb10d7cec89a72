-- The loop over the lines of a file.
use Rattle.std.proofs.Common.{◌≡◌, ◌⊎◌, ◌≤◌, ◌<◌, ◌+◌, ℕ, suc, Bool, true, false, List, [], ◌∷◌, ◌++◌, length, Some, None, Ok, Err, refl, sym, ap, subst, ◌∙◌, arith, ◌^◌, inl, inr, append_assoc, append-nil}
use Rattle.std.specs.Prelude.{◌||◌, ◌==◌, if◌then◌else◌, codes}
use Rattle.std.specs.List.{onto_first}
use Rattle.std.proofs.lemmas.List.{length-append}
use Rattle.file_text.specs.declared.faults.FileFault.{FileFault}
use Rattle.file_text.specs.declared.faults.FileFault.TheVariants as f
use Rattle.file_text.specs.declared.faults.LimitKind.TheVariants.{Bytes, LineBytes, Tables, Columns, Replicas as ReplicaLimit, Sessions, Locals, Schedule as ScheduleLimit}
use Rattle.file_text.specs.declared.places.Section.{Section}
use Rattle.file_text.specs.Parts.{words_of}
use Rattle.file_text.specs.Said.{Said}
use Rattle.file_text.specs.Rules.{is_one_word}
use Rattle.file_text.specs.Causes.{Cause, OfLimit, IsRefused, IsGood}
use Rattle.file_text.specs.File.{lines_of, content, has_feed, IsWhole, AreGood, GoodBefore, RefusedAt, IsFirstFault}
use Rattle.file_laws.proofs.FitLemmas.{true_false}
use Rattle.line_checks.specs.declared.line_faults.LineFault.{LineFault}
use Rattle.line_checks.specs.declared.line_faults.LineFault.TheVariants as l
use Rattle.line_checks.specs.Faults.{cause_of}
use Rattle.file_state.specs.declared.states.FileState.{FileState}
use Rattle.file_state.specs.Keeps.{Keeps, IsKept}
use Rattle.line_reader.specs.Reads.{Reads}
use Rattle.file_reader.specs.Faults.{fault_at}
use Rattle.file_reader.specs.Reads.{IsRead, is_whole, ReadTo, IsTaken}

-- ---- good lines, one more

good_more : (before : List Said) (front : List (List ℕ)) (said : List Said) (line : List ℕ) (one : Said) → AreGood before front said → IsWhole (before ++ said) line → IsGood (before ++ said) (content line) one
    → AreGood before (front ++ line ∷ []) (said ++ one ∷ [])
good_more before [] [] line one g w i = (subst (λ (b : List Said). IsWhole b line) (append-nil before) w, subst (λ (b : List Said). IsGood b (content line) one) (append-nil before) i, tt)
good_more before [] (first ∷ said) line one g w i = absurd g
good_more before (first ∷ front) [] line one g w i = absurd g
good_more before (first ∷ front) (second ∷ said) line one g w i =
    (g.0, g.1, good_more (before ++ second ∷ []) front said line one g.2 (subst (λ (b : List Said). IsWhole b line) (sym (append_assoc before (second ∷ []) said)) w) (subst (λ (b : List Said). IsGood b (content line) one) (sym (append_assoc before (second ∷ []) said)) i))

same_length : (before : List Said) (front : List (List ℕ)) (said : List Said) → AreGood before front said → length said ≡ length front
same_length before [] [] g = refl
same_length before [] (first ∷ said) g = absurd g
same_length before (first ∷ front) [] g = absurd g
same_length before (first ∷ front) (second ∷ said) g = ap suc (same_length (before ++ second ∷ []) front said g.2)

-- ---- whole lines

whole_is : (state : FileState) (said : List Said) (line : List ℕ) → Keeps state said → is_whole state line ≡ true → IsWhole said line
whole_is state said line k e = by_feed (has_feed line) refl e
  where
    by_end : (b : Bool) → is_one_word (codes "END") (words_of line) ≡ b → (b || state.marks.ended) ≡ true → IsWhole said line
    by_end true t f = inr (inl t)
    by_end false t f = inr (inr (sym k.marked.ended ∙ f))

    by_feed : (b : Bool) → has_feed line ≡ b → (b || (is_one_word (codes "END") (words_of line) || state.marks.ended)) ≡ true → IsWhole said line
    by_feed true t f = inl t
    by_feed false t f = by_end (is_one_word (codes "END") (words_of line)) refl f

or_false : (a b : Bool) → (a || b) ≡ false → (a ≡ false) × (b ≡ false)
or_false true b e = absurd cc
or_false false b e = (refl, e)

not_whole : (state : FileState) (said : List Said) (line : List ℕ) → Keeps state said → is_whole state line ≡ false → IsWhole said line → ⊥
not_whole state said line k e w =
    let p = or_false (has_feed line) (is_one_word (codes "END") (words_of line) || state.marks.ended) e in
    let q = or_false (is_one_word (codes "END") (words_of line)) state.marks.ended p.1 in
    cases p.0 q.0 q.1 w
  where
    cases : has_feed line ≡ false → is_one_word (codes "END") (words_of line) ≡ false → state.marks.ended ≡ false → IsWhole said line → ⊥
    cases a b c (inl h) = true_false (has_feed line) h a
    cases a b c (inr (inl h)) = true_false (is_one_word (codes "END") (words_of line)) h b
    cases a b c (inr (inr h)) = true_false state.marks.ended (k.marked.ended ∙ h) c

-- ---- lines and bytes

no_lines : lines_of [] ≡ []
unfolding lines_of
no_lines = refl

-- a first line is no longer than the bytes
first_length : (bytes line : List ℕ) (more : List (List ℕ)) → lines_of bytes ≡ line ∷ more → length line ≤ length bytes
unfolding lines_of
first_length [] line more e = absurd cc
first_length (byte ∷ bytes) line more e = by_test (byte == 10) (first_length bytes) e
  where
    by_lines : (rest : List (List ℕ)) → lines_of bytes ≡ rest → ((first : List ℕ) (left : List (List ℕ)) → lines_of bytes ≡ first ∷ left → length first ≤ length bytes) → onto_first byte rest ≡ line ∷ more → length line ≤ suc (length bytes)
    by_lines [] g go f = let l : line ≡ byte ∷ [] = cc in omega (arith, ap length l)
    by_lines (first ∷ left) g go f = let l : line ≡ byte ∷ first = cc in let h = go first left g in omega (arith, ap length l, h)

    by_test : (b : Bool) → ((first : List ℕ) (left : List (List ℕ)) → lines_of bytes ≡ first ∷ left → length first ≤ length bytes) → (if b then (byte ∷ []) ∷ lines_of bytes else onto_first byte (lines_of bytes)) ≡ line ∷ more → length line ≤ suc (length bytes)
    by_test true go f = let l : line ≡ byte ∷ [] = cc in omega (arith, ap length l)
    by_test false go f = by_lines (lines_of bytes) refl go f

-- ---- the loop

pub begun : (bytes : List ℕ) (state : FileState) → length bytes ≤ 16777216 → Keeps state [] → ReadTo bytes bytes 1 state
begun bytes state short k = record { front = []; said = []; short = short; parts = refl; good = tt; keeps = k; number_is = refl; left = omega arith }

before_of : (bytes rest : List ℕ) (number : ℕ) (state : FileState) → (r : ReadTo bytes rest number state) → GoodBefore bytes number r.front (lines_of rest) r.said
before_of bytes rest number state r = record { short = r.short; parts = r.parts; good = r.good; number_is = r.number_is }

number_said : (bytes rest : List ℕ) (number : ℕ) (state : FileState) → (r : ReadTo bytes rest number state) → number ≡ suc (length r.said)
number_said bytes rest number state r = r.number_is ∙ ap suc (sym (same_length [] r.front r.said r.good))

pub goes_on : (bytes rest line more : List ℕ) (number next : ℕ) (old new : FileState) → ReadTo bytes rest number old → lines_of rest ≡ line ∷ lines_of more → length more < length rest → is_whole old line ≡ true → next ≡ number + 1
    → Reads number (content line) old new None → ReadTo bytes more next new
goes_on bytes rest line more number next old new r p shorter w e d =
    let g = d r.said r.keeps (number_said bytes rest number old r) in
    record {
      front = r.front ++ line ∷ [];
      said = r.said ++ g.said ∷ [];
      short = r.short;
      parts = r.parts ∙ ap (λ (l : List (List ℕ)). r.front ++ l) p ∙ sym (append_assoc r.front (line ∷ []) (lines_of more));
      good = good_more [] r.front r.said line g.said r.good (whole_is old r.said line r.keeps w) g.good;
      keeps = g.keeps;
      number_is = let n = r.number_is in let a = length-append r.front (line ∷ []) in omega (arith, n, e, a);
      left = let l = r.left in omega (arith, l, e, shorter);
    }

pub kept_at : (bytes rest : List ℕ) (number : ℕ) (state : FileState) → ReadTo bytes rest number state → IsKept state
kept_at bytes rest number state r = record { before = r.said; keeps = r.keeps }

refused_line : (bytes rest line more : List ℕ) (number : ℕ) (old new : FileState) (fault : LineFault) → ReadTo bytes rest number old → lines_of rest ≡ line ∷ lines_of more → is_whole old line ≡ true → Reads number (content line) old new (Some fault)
    → RefusedAt bytes number (cause_of fault)
refused_line bytes rest line more number old new fault r p w d = record {
  front = r.front;
  line = line;
  rest = lines_of more;
  said = r.said;
  before = record { short = r.short; parts = r.parts ∙ ap (λ (l : List (List ℕ)). r.front ++ l) p; good = r.good; number_is = r.number_is };
  whole = whole_is old r.said line r.keeps w;
  refused = d r.said r.keeps (number_said bytes rest number old r);
}

no_bytes : (before : List Said) (line : List ℕ) → IsRefused before line (OfLimit Bytes) → ⊥
no_bytes before line r = none r.breaks.section r.breaks.of
  where
    none : (section : Section) → None ≡ Some section → ⊥
    none section e = cc

first_fault : (bytes : List ℕ) (number : ℕ) (fault : LineFault) → RefusedAt bytes number (cause_of fault) → IsFirstFault bytes (fault_at number fault)
first_fault bytes number (l.Cause cause) r = r
first_fault bytes number l.Isolation r = r
first_fault bytes number (l.Limit Bytes) r = absurd (no_bytes r.said (content r.line) r.refused)
first_fault bytes number (l.Limit LineBytes) r = ((number, r), refl)
first_fault bytes number (l.Limit Tables) r = ((number, r), refl)
first_fault bytes number (l.Limit Columns) r = ((number, r), refl)
first_fault bytes number (l.Limit ReplicaLimit) r = ((number, r), refl)
first_fault bytes number (l.Limit Sessions) r = ((number, r), refl)
first_fault bytes number (l.Limit Locals) r = ((number, r), refl)
first_fault bytes number (l.Limit ScheduleLimit) r = ((number, r), refl)

pub refused_at : (bytes rest line more : List ℕ) (number : ℕ) (old new : FileState) (fault : LineFault) → ReadTo bytes rest number old → lines_of rest ≡ line ∷ lines_of more → is_whole old line ≡ true → Reads number (content line) old new (Some fault)
    → IsFirstFault bytes (fault_at number fault)
refused_at bytes rest line more number old new fault r p w d = first_fault bytes number fault (refused_line bytes rest line more number old new fault r p w d)

pub cut_at : (bytes rest line more : List ℕ) (number : ℕ) (state : FileState) → ReadTo bytes rest number state → lines_of rest ≡ line ∷ lines_of more → is_whole state line ≡ false → IsFirstFault bytes (f.Truncated number)
cut_at bytes rest line more number state r p w = record {
  front = r.front;
  rest = lines_of rest;
  said = r.said;
  before = before_of bytes rest number state r;
  no_end =
      let a = or_false (has_feed line) (is_one_word (codes "END") (words_of line) || state.marks.ended) w in
      let b = or_false (is_one_word (codes "END") (words_of line)) state.marks.ended a.1 in
      sym r.keeps.marked.ended ∙ b.1;
  cut = λ other left e h. not_whole state r.said line r.keeps w (subst (IsWhole r.said) (first_is other line left (lines_of more) (sym e ∙ p)) h);
}
  where
    first_is : (a b : List ℕ) (xs ys : List (List ℕ)) → a ∷ xs ≡ b ∷ ys → a ≡ b
    first_is a b xs ys e = cc

pub ended_at : (bytes rest : List ℕ) (number : ℕ) (state : FileState) → ReadTo bytes rest number state → rest ≡ [] → state.marks.ended ≡ false → IsFirstFault bytes (f.Truncated number)
ended_at bytes rest number state r e n = record {
  front = r.front;
  rest = lines_of rest;
  said = r.said;
  before = before_of bytes rest number state r;
  no_end = sym r.keeps.marked.ended ∙ n;
  cut = λ line more p h. none line more (sym no_lines ∙ ap lines_of (sym e) ∙ p);
}
  where
    none : (line : List ℕ) (more : List (List ℕ)) → [] ≡ line ∷ more → ⊥
    none line more p = cc

pub all_read : (bytes rest : List ℕ) (number : ℕ) (state : FileState) → ReadTo bytes rest number state → rest ≡ [] → state.marks.ended ≡ true → IsRead bytes state
all_read bytes rest number state r e n = record {
  said = r.said;
  file = record {
    short = r.short;
    said = r.said;
    lines = subst (λ (l : List (List ℕ)). AreGood [] l r.said) (sym (r.parts ∙ ap (λ (x : List ℕ). r.front ++ lines_of x) e ∙ ap (λ (l : List (List ℕ)). r.front ++ l) no_lines ∙ append-nil r.front)) r.good;
    ended = sym r.keeps.marked.ended ∙ n;
    gives = refl;
  };
  keeps = r.keeps;
}

-- ---- one line more

pub is_out : (number : ℕ) (line : List ℕ) (old new : FileState) → IsTaken number line old new (Err f.Memory)
is_out number line old new = inl refl

pub is_cut : (number : ℕ) (line : List ℕ) (old new : FileState) → is_whole old line ≡ false → IsTaken number line old new (Err (f.Truncated number))
is_cut number line old new e = inr (inl (e, refl))

pub is_refused : (number : ℕ) (line : List ℕ) (old new : FileState) (fault : LineFault) (refusal : FileFault) → is_whole old line ≡ true → Reads number (content line) old new (Some fault) → refusal ≡ fault_at number fault
    → IsTaken number line old new (Err refusal)
is_refused number line old new fault refusal w d e = inr (inr (record { fault = fault; whole = w; reads = d; is = e }))

pub stops : (bytes rest line more : List ℕ) (number : ℕ) (old new : FileState) (fault : FileFault) → ReadTo bytes rest number old → lines_of rest ≡ line ∷ lines_of more → IsTaken number line old new (Err fault) → (fault ≡ f.Memory) ⊎ IsFirstFault bytes fault
stops bytes rest line more number old new fault r p (inl e) = inl e
stops bytes rest line more number old new fault r p (inr (inl c)) = inr (subst (IsFirstFault bytes) (sym c.1) (cut_at bytes rest line more number old r p c.0))
stops bytes rest line more number old new fault r p (inr (inr d)) = inr (subst (IsFirstFault bytes) (sym d.is) (refused_at bytes rest line more number old new d.fault r p d.whole d.reads))

pub is_next : (bytes rest line more : List ℕ) (number next : ℕ) (old new : FileState) → ReadTo bytes rest number old → lines_of rest ≡ line ∷ lines_of more → length more < length rest → next ≡ number + 1 → IsTaken number line old new (Ok tt) → ReadTo bytes more next new
is_next bytes rest line more number next old new r p s e t = goes_on bytes rest line more number next old new r p s t.0 e t.1

pub never_ends : (bytes rest : List ℕ) (number : ℕ) (state : FileState) → ReadTo bytes rest number state → rest ≡ [] → state.marks.ended ≡ false → (f.Truncated number ≡ f.Memory) ⊎ IsFirstFault bytes (f.Truncated number)
never_ends bytes rest number state r e n = inr (ended_at bytes rest number state r e n)

-- a line, and what is left behind it, are as short as the bytes
pub line_short : (bytes rest line more : List ℕ) (number : ℕ) (state : FileState) → ReadTo bytes rest number state → lines_of rest ≡ line ∷ lines_of more → length line < 2 ^ 31
line_short bytes rest line more number state r p = let a = first_length rest line (lines_of more) p in let b = r.left in let c = r.short in let d : number ≡ suc (length r.front) = r.number_is in omega (arith, a, b, c, d)

pub number_fits : (bytes rest line more : List ℕ) (number : ℕ) (state : FileState) → ReadTo bytes rest number state → length more < length rest → number + 1 < 2 ^ 32
number_fits bytes rest line more number state r h = let b = r.left in let c = r.short in omega (arith, b, c, h)

pub too_long : (bytes : List ℕ) → 16777216 < length bytes → IsFirstFault bytes (f.Limit Bytes 16777217)
too_long bytes h = (h, refl)
