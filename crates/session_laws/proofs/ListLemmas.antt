-- Lists cut at a place, lines that rise, numbers among others.
use Rattle.std.proofs.Common.{◌≡◌, ◌≢◌, ◌∙◌, ℕ, ◌+◌, ◌<◌, ◌==◌, ◌||◌, Bool, true, false, cond, List, [], ◌∷◌, ◌++◌, length, take, drop, Option, None, Some, refl, ap, sym, subst, arith}
use Rattle.std.specs.List.{AllByRecursion, slice_get}
use Rattle.lock_table.proofs.HoldLemmas.{is_number, other_number}
use Rattle.ptc_statement.specs.declared.scripts.ScriptLine.{ScriptLine}
use Rattle.ptc_statement.specs.declared.scripts.ScriptStep.{ScriptStep}
use Rattle.ptc_statement.specs.declared.scripts.ScriptStep.TheVariants.{Begin, Commit, Rollback, Run}
use Rattle.session.specs.Sessions.{ends_txn, lines_to_end}
use Rattle.session_laws.specs.OwnCalls.{is_among, goes_on, is_whole, LinesRise}
use Rattle.session_laws.proofs.LineLemmas.{IsRun, AreRuns, IsEnd}

pub first_of : List ScriptLine → Option ScriptLine
first_of [] = None
first_of (line ∷ lines) = Some line

pub got_at : (xs : List ScriptLine) (line : ScriptLine) (ys : List ScriptLine) → slice_get (xs ++ line ∷ ys) (length xs) ≡ Some line
got_at [] line ys = refl
got_at (x ∷ xs) line ys = got_at xs line ys

pub got_none : (xs : List ScriptLine) → slice_get (xs ++ []) (length xs) ≡ None
got_none [] = refl
got_none (x ∷ xs) = got_none xs

pub taken : {A : Type 0} (xs ys : List A) → take (length xs) (xs ++ ys) ≡ xs
taken [] ys = refl
taken {A} (x ∷ xs) ys = ap (λ (l : List A). x ∷ l) (taken xs ys)

pub dropped : (xs ys : List ScriptLine) → drop (length xs) (xs ++ ys) ≡ ys
dropped [] ys = refl
dropped (x ∷ xs) ys = dropped xs ys

pub all_left : {A : Type 0} (P : A → Type 0) (xs ys : List A) → AllByRecursion P (xs ++ ys) → AllByRecursion P xs
all_left P [] ys all = tt
all_left P (x ∷ xs) ys all = (all.0, all_left P xs ys all.1)

pub all_right : {A : Type 0} (P : A → Type 0) (xs ys : List A) → AllByRecursion P (xs ++ ys) → AllByRecursion P ys
all_right P [] ys all = all
all_right P (x ∷ xs) ys all = all_right P xs ys all.1

pub all_joined : {A : Type 0} (P : A → Type 0) (xs ys : List A) → AllByRecursion P xs → AllByRecursion P ys → AllByRecursion P (xs ++ ys)
all_joined P [] ys one other = other
all_joined P (x ∷ xs) ys one other = (one.0, all_joined P xs ys one.1 other)

pub all_map : {A : Type 0} (P Q : A → Type 0) (xs : List A) → ((x : A) → P x → Q x) → AllByRecursion P xs → AllByRecursion Q xs
all_map P Q [] f all = tt
all_map P Q (x ∷ xs) f all = (f x all.0, all_map P Q xs f all.1)

pub all_both : {A : Type 0} (P Q S : A → Type 0) (xs : List A) → ((x : A) → P x → Q x → S x) → AllByRecursion P xs → AllByRecursion Q xs → AllByRecursion S xs
all_both P Q S [] f one other = tt
all_both P Q S (x ∷ xs) f one other = (f x one.0 other.0, all_both P Q S xs f one.1 other.1)

-- lines before a line are below it, those behind it above

pub rise_below : (xs : List ScriptLine) (line : ScriptLine) (ys : List ScriptLine) → LinesRise (xs ++ line ∷ ys) → AllByRecursion (λ (l : ScriptLine). l.line < line.line) xs
rise_below [] line ys rise = tt
rise_below (x ∷ xs) line ys rise = ((all_right (λ (l : ScriptLine). x.line < l.line) xs (line ∷ ys) rise.0).0, rise_below xs line ys rise.1)

pub rise_above : (xs : List ScriptLine) (line : ScriptLine) (ys : List ScriptLine) → LinesRise (xs ++ line ∷ ys) → AllByRecursion (λ (l : ScriptLine). line.line < l.line) ys
rise_above [] line ys rise = rise.0
rise_above (x ∷ xs) line ys rise = rise_above xs line ys rise.1

-- one number more among others

pub among_more : (number x : ℕ) (numbers : List ℕ) → number ≢ x → is_among number (numbers ++ x ∷ []) ≡ is_among number numbers
among_more number x [] apart = ap (λ (b : Bool). b || false) (other_number number x apart)
among_more number x (n ∷ ns) apart = ap (λ (b : Bool). (number == n) || b) (among_more number x ns apart)

or_true : (b : Bool) → (b || true) ≡ true
or_true true = refl
or_true false = refl

pub among_last : (x : ℕ) (numbers : List ℕ) → is_among x (numbers ++ x ∷ []) ≡ true
among_last x [] = ap (λ (b : Bool). b || false) (is_number x x refl)
among_last x (n ∷ ns) = ap (λ (b : Bool). (x == n) || b) (among_last x ns) ∙ or_true (x == n)

pub below_apart : (a b : ℕ) → a < b → a ≢ b
below_apart a b below same = omega arith

pub above_apart : (a b : ℕ) → b < a → a ≢ b
above_apart a b above same = omega arith

-- among the first numbers and the further ones
pub among_joined : (number : ℕ) (xs ys : List ℕ) → is_among number ys ≡ false → is_among number (xs ++ ys) ≡ is_among number xs
among_joined number [] ys none = none
among_joined number (x ∷ xs) ys none = ap (λ (b : Bool). (number == x) || b) (among_joined number xs ys none)

-- the rest of a whole script

not_true : {A : Type 0} → false ≡ true → A
not_true e = absurd (let q : false ≡ true = e in cc)

pub whole_after_run : (inside : Bool) (line : ScriptLine) (lines : List ScriptLine) → IsRun line.step → is_whole inside (line ∷ lines) ≡ true → is_whole inside lines ≡ true
whole_after_run inside line lines run whole = at line.step run whole
  where
    at : (step : ScriptStep) → IsRun step → goes_on inside step (λ (after : Bool). is_whole after lines) ≡ true → is_whole inside lines ≡ true
    at Begin r w = absurd r
    at (Run statement) r w = w
    at Commit r w = absurd r
    at Rollback r w = absurd r

-- the end of a transaction that is open
pub record Ends (lines : List ScriptLine) : Type 0 where
  pub runs : List ScriptLine
  pub end : ScriptLine
  pub rest : List ScriptLine
  pub are : AreRuns runs
  pub ends : IsEnd end.step
  pub split : lines ≡ runs ++ end ∷ rest
  pub whole : is_whole false rest ≡ true
  pub to_end : lines_to_end lines ≡ length runs + 1

pub ends_of : (lines : List ScriptLine) → is_whole true lines ≡ true → Ends lines
ends_of [] whole = not_true whole
ends_of (line ∷ lines) whole = at (λ w. ends_of lines w) line.step refl whole
  where
    run_more : (statement : _) → line.step ≡ Run statement → Ends lines → Ends (line ∷ lines)
    run_more statement e more = record {
      runs = line ∷ more.runs;
      end = more.end;
      rest = more.rest;
      are = (subst IsRun (sym e) tt, more.are);
      ends = more.ends;
      split = ap (λ (l : List ScriptLine). line ∷ l) more.split;
      whole = more.whole;
      to_end =
          let counted = more.to_end in
          let one_more : lines_to_end lines + 1 ≡ length (line ∷ more.runs) + 1 = omega arith in
          ap (λ (s : ScriptStep). cond (ends_txn s) 1 (lines_to_end lines + 1)) e ∙ one_more;
    }

    at_end : (step : ScriptStep) → line.step ≡ step → IsEnd step → ends_txn step ≡ true → is_whole false lines ≡ true → Ends (line ∷ lines)
    at_end step e is ends w = record {
      runs = [];
      end = line;
      rest = lines;
      are = tt;
      ends = subst IsEnd (sym e) is;
      split = refl;
      whole = w;
      to_end = ap (λ (s : ScriptStep). cond (ends_txn s) 1 (lines_to_end lines + 1)) e ∙ ap (λ (b : Bool). cond b 1 (lines_to_end lines + 1)) ends;
    }

    at : (is_whole true lines ≡ true → Ends lines) → (step : ScriptStep) → line.step ≡ step → goes_on true step (λ (after : Bool). is_whole after lines) ≡ true → Ends (line ∷ lines)
    at more Begin e w = not_true w
    at more (Run statement) e w = run_more statement e (more w)
    at more Commit e w = at_end Commit e tt refl w
    at more Rollback e w = at_end Rollback e tt refl w

pub to_end_more : (begin : ScriptLine) (runs lines : List ScriptLine) → begin.step ≡ Begin → AreRuns runs → lines_to_end (begin ∷ (runs ++ lines)) ≡ lines_to_end lines + length (begin ∷ runs)
to_end_more begin runs lines begins are =
    ap (λ (s : ScriptStep). cond (ends_txn s) 1 (lines_to_end (runs ++ lines) + 1)) begins ∙ at runs are
  where
    run_false : (step : ScriptStep) → IsRun step → ends_txn step ≡ false
    run_false Begin r = absurd r
    run_false (Run statement) r = refl
    run_false Commit r = absurd r
    run_false Rollback r = absurd r

    at : (rs : List ScriptLine) → AreRuns rs → lines_to_end (rs ++ lines) + 1 ≡ lines_to_end lines + length (begin ∷ rs)
    at [] a = refl
    at (r ∷ rs) a =
        let more = at rs a.1 in
        let one_more : (lines_to_end (rs ++ lines) + 1) + 1 ≡ lines_to_end lines + length (begin ∷ r ∷ rs) = omega arith in
        ap (λ (b : Bool). cond b 1 (lines_to_end (rs ++ lines) + 1) + 1) (run_false r.step a.0) ∙ one_more
