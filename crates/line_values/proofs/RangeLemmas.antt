-- Items of a line that are in their range, and those behind them.
use Rattle.std.proofs.Common.{◌≡◌, Bool, true, false, List, [], ◌∷◌, ◌++◌, None, refl, sym, subst, append_assoc, append-nil}
use Rattle.file_text.specs.Said.{Said, Item}
use Rattle.file_text.specs.Rules.{InRange, unless, Digit}

pub unless_none : (b : Bool) (digit : Digit) → unless b digit ≡ None → b ≡ true
unless_none true digit e = refl
unless_none false digit e = absurd cc

pub range_behind : (before : List Said) (acc front back : List Item) → InRange before acc (front ++ back) → InRange before (acc ++ front) back
range_behind before acc [] back r = subst (λ (l : List Item). InRange before l back) (sym (append-nil acc)) r
range_behind before acc (x ∷ front) back r = subst (λ (l : List Item). InRange before l back) (append_assoc acc (x ∷ []) front) (range_behind before (acc ++ x ∷ []) front back r.1)
